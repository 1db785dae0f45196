-- Why a task ends with a sense: the event that stands directly before it, or the state of the chip (this project's
-- own).
use Rattle.std.specs.Prelude.{◌≡◌, ◌⊎◌, ℕ, ◌+◌, ◌^◌, ◌≤◌, List, [], ◌∷◌, min, Option, Some, None, if◌then◌else◌, ◌==◌}
use Rattle.std.specs.Prelude.{◌-◌}
use Rattle.flash_pages.specs.declared.chip.ChipOp.TheVariants.{Read}
use Rattle.hpb_sense.specs.Sense.{fixed_at}
use Rattle.upiu_wire.specs.declared.kind.Kind.{Kind}
use Rattle.upiu_wire.specs.declared.kind.Kind.TheVariants.{Response}
use Rattle.upiu_wire.specs.Upiu.{Upiu, upiu_at}
use Rattle.flat_unit.specs.declared.event.Event.{Event}
use Rattle.flat_unit.specs.declared.event.Event.TheVariants.{Device, Failed}
use Rattle.flat_unit.specs.History.{History}
use Rattle.flat_unit.specs.Sizes.{Sizes}
use Rattle.flat_unit.specs.Sound.{owed}
use Rattle.flat_unit.specs.Writes.{moves, blocks_come}

abbrev pub code_in : Upiu → Kind → Option ℕ
code_in v Response = if v.status == 0x02 then Some (fixed_at v.segment).asc else None
code_in v _ = None

-- the additional sense code of a CHECK CONDITION
abbrev pub sense_code : List ℕ → Option ℕ
sense_code bytes = code_in (upiu_at bytes) (upiu_at bytes).kind

-- the newest event is a failed call of the chip
abbrev pub JustFailed : History → Type 0
JustFailed (Failed op ∷ e) = Unit {0}
JustFailed _ = ⊥

-- and that call was a read
abbrev pub JustFailedToRead : History → Type 0
JustFailedToRead e = (earlier : History) × (e ≡ Failed Read ∷ earlier)

-- a write may find no number any more, where the first chip's next number was this: sequence numbers end at 2^62
abbrev pub MayBeFull : Sizes → ℕ → History → Type 0
MayBeFull s next e = 2 ^ 62 ≤ next + moves e + blocks_come s e

-- an ending with this code has its cause; foreign says that the chip was none of this device's
pub record HasCauseFor (s : Sizes) (foreign : Type 0) (next : ℕ) (e : History) (code : ℕ) : Type 0 where
  pub read : code ≡ 0x11 → JustFailedToRead e
  pub write : code ≡ 0x0C → JustFailed e
  pub chip : code ≡ 0x44 → JustFailedToRead e ⊎ foreign
  pub number : code ≡ 0x27 → MayBeFull s next e

-- on a foreign chip a step sends nothing but an ending
abbrev pub SendHasCause : Sizes → (foreign : Type 0) → ℕ → History → Option ℕ → Type 0
SendHasCause s foreign next e (Some code) = HasCauseFor s foreign next e code
SendHasCause s foreign next e None = foreign → ⊥

-- what is owed has its cause in the host's bytes
abbrev pub EventHasCause : Sizes → (foreign : Type 0) → ℕ → History → Event → List Event → Type 0
EventHasCause s foreign next e (Device bytes) [] = SendHasCause s foreign next e (sense_code bytes)
EventHasCause s foreign next e (Device bytes) (due ∷ _) = Unit {0}
EventHasCause s foreign next e _ _ = Unit {0}

-- each ending has its cause, where the first chip was foreign or had this next number
abbrev pub Caused : Sizes → (foreign : Type 0) → ℕ → History → Type 0
Caused s foreign next [] = Unit {0}
Caused s foreign next (x ∷ e) = Caused s foreign next e × EventHasCause s foreign next e x (owed s e)

-- how many calls of the chip failed
abbrev pub failures : History → ℕ
failures [] = 0
failures (Failed op ∷ e) = failures e + 1
failures (_ ∷ e) = failures e

-- the failures are exactly the rise of a count of faults, unless the count stands at its last value
pub record FailuresAre (before now : ℕ) (e : History) : Type 0 where
  pub least : min (before + failures e) (2 ^ 64 - 1) ≤ now
  pub most : now ≤ before + failures e
