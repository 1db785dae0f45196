-- Places in the list of open commands.
use Rattle.std.specs.Prelude.{◌≡◌, ◌<◌, ℕ, Bool, true, false, List, length, take, Option, Some, None}
use Rattle.std.specs.List.{HoldsAt, list_any}
use Rattle.driver_laws.specs.Commands.{OpenCommand}

-- the command at a place passes the test, and none before it does
pub record IsFirstAt (test : OpenCommand → Bool) (opens : List OpenCommand) (place : ℕ) : Type 0 where
  pub inside : place < length opens
  pub before : list_any test (take place opens) ≡ false
  pub passes : HoldsAt (λ (o : OpenCommand). test o ≡ true) opens place

-- the place of the first that passes the test, or none where none does
abbrev pub IsFirst : (OpenCommand → Bool) → List OpenCommand → Option ℕ → Type 0
IsFirst test opens (Some place) = IsFirstAt test opens place
IsFirst test opens None = list_any test opens ≡ false
