-- Where a device and a text stand while a trace is replayed.
use Rattle.std.specs.Prelude.{◌≡◌, ℕ, ◌≤◌, List, Option, Result, MatchResult}
use Rattle.flat_unit.specs.Print.{print}
use Rattle.flat_unit.specs.Replays.{Progress, StepsTo, Collects, LineTo, enough, tasks_at, with_run, without_runs}
use Rattle.flat_unit.specs.Sizes.{Sizes}
use Rattle.flat_unit.specs.Trace.{Line, Upiu, Steps, Collect, Drain, ResetLine, Blank}
use Rattle.hpb_device.specs.Standing.{sizes_of}
use Rattle.hpb_device.specs.State.{DeviceState}
use Rattle.hpb_outside.specs.Writes.{AppendsFront, HasWrittenUpTo}
use Rattle.replay_standing.specs.Standing.{Standing}

-- what a line may lead to that is cut after one of its calls: a UPIU and a reset are cut before the device has them
abbrev pub CutLineTo : Sizes → Line → Progress → Progress → Type 0
CutLineTo s (Upiu bytes) p now = now ≡ p
CutLineTo s (Steps n) p now = (k : ℕ) × (k ≤ n) × StepsTo s k (with_run s p) now
CutLineTo s (Collect n) p now = (k : ℕ) × (k ≤ n) × Collects k (with_run s p) now
CutLineTo s Drain p now = (n : ℕ) × (n ≤ enough s (tasks_at s p)) × StepsTo s n (without_runs p) now
CutLineTo s ResetLine p now = now ≡ p
CutLineTo s Blank p now = ⊥

-- a call led to a moment of this kind, whose text is written but for what is gathered
pub record Leads (next : Progress
    → Type 0) (start now : DeviceState) (before written : Option (List ℕ)) (gathered : List ℕ) : Type 0 where
  pub moment : Progress
  pub reached : next moment
  pub standing : Standing start now moment
  pub printed : HasWrittenUpTo before written (print moment.events) gathered

-- a call was cut at a moment of this kind, and a front of the text was written
pub record Cuts (next : Progress → Type 0) (start now : DeviceState) (before written : Option (List ℕ)) : Type 0 where
  pub moment : Progress
  pub reached : next moment
  pub standing : Standing start now moment
  pub printed : AppendsFront before written (print moment.events)

-- a call serves a line, from wherever it begins
abbrev pub Serves : {T E : Type 0} → Line
    → (old new : DeviceState) (written written_now : Option (List ℕ)) (gathered gathered_now : List ℕ) → Result T E
    → Type 0
Serves line old new written written_now gathered gathered_now result =
    (start : DeviceState) (before : Option (List ℕ)) (p : Progress) → Standing start old p
    → HasWrittenUpTo before written (print p.events) gathered
    → MatchResult result (λ _. Leads (LineTo (sizes_of start) line p) start new before written_now gathered_now)
    (λ _. Cuts (CutLineTo (sizes_of start) line p) start new before written_now)
