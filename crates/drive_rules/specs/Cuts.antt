-- What a line of a drive may lead to that is cut after one of its calls.
use Rattle.std.specs.Prelude.{◌≡◌, ◌⊎◌, ℕ, ◌≤◌, ◌<◌, Bool, true}
use Rattle.flat_unit.specs.Replays.{Group, IsGroup, IsTimely, enough, tasks_at}
use Rattle.flat_unit.specs.Sizes.{Sizes}
use Rattle.driver_laws.specs.declared.request.Request.{Request}
use Rattle.driver_laws.specs.declared.request.Request.TheVariants.{Read as ReadOf, Write as WriteOf}
use Rattle.trace_text.specs.declared.drive.DriveLine.{DriveLine}
use Rattle.trace_text.specs.declared.drive.DriveLine.TheVariants.{Read, Write, Steps, Collect, Drain, Reset, Lun, Blank}
use Rattle.drive_rules.specs.Lines.{CollectsTo, Drive, DriveSteps, Exchanges, FreesTags, Passes, SendsBytes, are_there}
use Rattle.drive_rules.specs.Lines.{held_back, pattern_bytes, requested, reset_both, sent_times, stepped_by}

-- an exchange is cut behind one of the UPIUs of the driver
abbrev pub CutExchange : Sizes → Drive → Drive → Type 0
CutExchange s d now = (count : ℕ) × (now ≡ sent_times s count d)

-- a step is cut before it was made, or in the exchange behind it
pub record CutBehind (s : Sizes) (d now : Drive) : Type 0 where
  pub group : Group
  pub is_group : IsGroup group
  pub bytes : SendsBytes group.sent
  pub timely : IsTimely s d.progress group
  pub exchange : CutExchange s (stepped_by s group d) now

abbrev pub CutStep : Sizes → Drive → Drive → Type 0
CutStep s d now = (now ≡ d) ⊎ CutBehind s d now

-- so many steps at most are made, and the last one is cut
abbrev pub CutSteps : Sizes → ℕ → Drive → Drive → Type 0
CutSteps s n d now = (k : ℕ) × (k < n) × ((mid : Drive) × DriveSteps s k d mid × CutStep s mid now)

-- a pass is cut in its exchange, or in one of its steps
pub record CutHeld (s : Sizes) (d now : Drive) : Type 0 where
  pub first : Drive
  pub exchange : Exchanges s d first
  pub steps : CutSteps s (enough s (tasks_at s first.progress)) (held_back true first) now

abbrev pub CutPass : Sizes → Drive → Drive → Type 0
CutPass s d now = CutExchange s d now ⊎ CutHeld s d now

-- a drain is cut in its first pass or in its second
abbrev pub CutDrain : Sizes → Drive → Drive → Type 0
CutDrain s d now = CutPass s d now ⊎ ((mid : Drive) × Passes s d mid × CutPass s mid now)

-- a request is cut in the drain that is made first where all tags are in use, or in its exchange
pub record CutRequested (s : Sizes) (there : Bool) (request : Request) (d now : Drive) : Type 0 where
  pub free : Drive
  pub frees : FreesTags s d free
  pub exchange : CutExchange s (requested there request free) now

abbrev pub CutRequest : Sizes → Bool → Request → Drive → Drive → Type 0
CutRequest s there request d now = CutDrain s d now ⊎ CutRequested s there request d now

-- the line is cut; a reset is cut before it is made or when it is told
abbrev pub CutLineTo : Sizes → DriveLine → Drive → Drive → Type 0
CutLineTo s (Read lba n) d now = CutRequest s (are_there s d.lun lba n) (ReadOf d.lun lba n) d now
CutLineTo s (Write lba n seed) d now =
    CutRequest s (are_there s d.lun lba n) (WriteOf d.lun lba n (pattern_bytes s seed lba n)) d now
CutLineTo s (Steps n) d now = CutSteps s n d now
CutLineTo s (Collect n) d now = (k : ℕ) × (k ≤ n) × CollectsTo s k d now
CutLineTo s Drain d now = CutDrain s d now
CutLineTo s Reset d now = (now ≡ d) ⊎ (now ≡ reset_both d)
CutLineTo s (Lun k) d now = ⊥
CutLineTo s Blank d now = ⊥
