-- A driver that is held, and whose commands have all gone out: it sends data alone (this project's own).
use Rattle.std.specs.Prelude.{◌≡◌, ◌≤◌, ℕ, ◌+◌, true, List, [], ◌∷◌}
use Rattle.std.specs.List.{AllByRecursion}
use Rattle.flat_unit.specs.Replays.{bound}
use Rattle.flat_unit.specs.Sizes.{Sizes}
use Rattle.driver_laws.specs.Commands.{OpenCommand}
use Rattle.driver_caches.specs.Machine.{Machine}

-- each open command has gone out
abbrev pub AllOut : List OpenCommand → Type 0
AllOut opens = AllByRecursion (λ (o : OpenCommand). o.out ≡ true) opens

-- how many steps of the device its open commands take at most
abbrev pub weight : Sizes → List OpenCommand → ℕ
weight s [] = 0
weight s (o ∷ os) = bound s o.command + weight s os

-- it stays so, and takes no more steps than these
pub record IsHeldWithin (s : Sizes) (steps : ℕ) (m : Machine) : Type 0 where
  pub held : m.held ≡ true
  pub out : AllOut m.opens
  pub within : weight s m.opens ≤ steps
