-- What was taken of a source that lacks some bytes.
use Rattle.std.specs.Prelude.{◌≡◌, ◌+◌, ◌<◌, ◌≤◌, ℕ, List, length, Option, Result, Ok, Err}
use Rattle.std.specs.Io.KnownBytes.{Consumes, IsAtEnd}
use Rattle.hpb_outside.specs.Faults.{Rose}
use Rattle.chip_image.specs.declared.fault.ImageFault.{ImageFault}
use Rattle.chip_image.specs.declared.fault.ImageFault.TheVariants.{Cut, ReadFault}

-- fewer bytes than so many were taken
pub record TakesFewer (left left_now : Option (List ℕ)) (most : ℕ) : Type 0 where
  pub bytes : List ℕ
  pub fewer : length bytes < most
  pub taken : Consumes left left_now bytes

-- these bytes were taken; or fewer, and then the source ended or failed
abbrev pub TakesWhole : (left left_now : Option (List ℕ)) (bytes : List ℕ) → Result (Unit {0}) ImageFault → Type 0
TakesWhole left left_now bytes (Ok _) = Consumes left left_now bytes
TakesWhole left left_now bytes (Err Cut) = TakesFewer left left_now (length bytes) × IsAtEnd left_now
TakesWhole left left_now bytes (Err ReadFault) = TakesFewer left left_now (length bytes)
TakesWhole left left_now bytes (Err fault) = ⊥

-- a count of faults is as before, but for this fault, by which it rose
abbrev pub RoseOnlyAt : {A E : Type 0} (before now : ℕ) → E → Result A E → Type 0
RoseOnlyAt before now fault result = (result ≡ Err fault → (before ≤ now) × Rose before now × (now ≤ before + 1))
    × ((result ≡ Err fault → ⊥) → now ≡ before)
