-- The regions of each unit after some events, and what a GOOD RESPONSE tells the host of them (this project's own).
use Rattle.std.specs.Prelude.{◌≡◌, ℕ, ◌==◌, Bool, true, false, ◌&&◌, List, [], ◌∷◌, length, take, drop, map, filter}
use Rattle.std.specs.Prelude.{fold, Option, Some, None, if◌then◌else◌}
use Rattle.std.specs.List.{range_with_len}
use Rattle.hpb_cdb.specs.declared.cdb.Cdb.{Cdb}
use Rattle.hpb_cdb.specs.declared.cdb.Cdb.TheVariants.{Read, Write, HpbRead, ReadBuffer, InactOne, InactAll}
use Rattle.hpb_sense.specs.declared.sense.Hint.{Hint}
use Rattle.hpb_sense.specs.Sense.{hint_out}
use Rattle.region_state.specs.declared.shape.Shape.{Shape}
use Rattle.region_state.specs.Machine.{Machine, start, after_read, after_change, after_load, after_inactivation}
use Rattle.region_state.specs.Machine.{after_all_inactive, after_reset, due, after_told}
use Rattle.region_state.specs.Shape.{place_of}
use Rattle.upiu_wire.specs.Upiu.{upiu_at}
use Rattle.flat_unit.specs.declared.event.Event.{Event}
use Rattle.flat_unit.specs.declared.event.Event.TheVariants.{Device, Reset, Moved, Cleared}
use Rattle.flat_unit.specs.Contents.{Leaving, answered}
use Rattle.flat_unit.specs.History.{History}
use Rattle.flat_unit.specs.Queue.{on_after, tasks_after}
use Rattle.flat_unit.specs.Sizes.{Sizes}
use Rattle.flat_unit.specs.Task.{Task}

-- the host is to forget all
abbrev pub reset_hint : ℕ → Hint
reset_hint lun = record { op = 2; lun = lun; active = record { items = [] }; inactive = record { items = [] } }

-- the first two subregions that are due, and the first two regions to give up
abbrev pub update_hint : Machine → ℕ → Hint
update_hint m lun = record {
  op = 1;
  lun = lun;
  active = record { items = map (place_of m.shape) (take 2 (due m)) };
  inactive = record { items = take 2 m.gone };
}

abbrev pub has_nothing : Hint → Bool
has_nothing hint = (length hint.active.items == 0) && (length hint.inactive.items == 0)

-- the hint, where there is something to tell
unfoldable pub hint_of : Machine → ℕ → Option Hint
hint_of m lun =
    if m.news then Some (reset_hint lun) else if has_nothing (update_hint m lun) then None else Some (update_hint m lun)

-- after it was told
unfoldable pub after_take : Machine → Machine
after_take m = if m.news then record m { news = false } else record (after_told 2 m) { gone = drop 2 m.gone }

-- what a command that is answered GOOD says of the regions of its unit
abbrev pub after_good : Machine → Cdb → Machine
after_good m (Read lba n) = after_read m lba n true
after_good m (HpbRead lba entry n id) = after_read m lba n false
after_good m (Write lba n) = fold after_change m (range_with_len lba n)
after_good m (ReadBuffer region sub len) = after_load m region sub
after_good m (InactOne region) = after_inactivation m region
after_good m InactAll = after_all_inactive m
after_good m _ = m

-- the tasks of a unit that an event answers GOOD
abbrev pub good_of_unit : ℕ → Leaving → Bool
good_of_unit lun l = l.good && (l.task.lun == lun)

abbrev pub answered_good : ℕ → List Task → List ℕ → List Leaving
answered_good lun tasks bytes = filter (good_of_unit lun) (answered (upiu_at bytes) (upiu_at bytes).kind tasks)

-- at a GOOD RESPONSE the command is taken in, and last the hint is told, unless HPB is off
abbrev pub told_at : Bool → Machine → Leaving → Machine
told_at on m l = if on then after_take (after_good m l.task.command) else after_good m l.task.command

abbrev pub machine_changed : ℕ → Bool → List Task → Machine → Event → Machine
machine_changed lun on tasks m (Device bytes) = fold (told_at on) m (answered_good lun tasks bytes)
machine_changed lun on tasks m (Moved moved_lun lba) = if moved_lun == lun then after_change m lba else m
machine_changed lun on tasks m Reset = after_reset m
machine_changed lun on tasks m Cleared = after_reset m
machine_changed lun on tasks m _ = m

-- the regions of a unit after these events
abbrev pub machine_after : Shape → Sizes → ℕ → History → Machine
machine_after shape s lun [] = start shape
machine_after shape s lun (x ∷ e) = machine_changed lun (on_after e) (tasks_after s e) (machine_after shape s lun e) x

-- the segment that tells a hint, empty where there is none
abbrev pub hint_segment : Option Hint → List ℕ
hint_segment (Some hint) = hint_out hint
hint_segment None = []

abbrev pub segment_due : Bool → Machine → ℕ → List ℕ
segment_due on m lun = if on then hint_segment (hint_of m lun) else []

-- the segments of the GOOD RESPONSEs that end these tasks
abbrev pub HintsDue : Shape → Sizes → History → List ℕ → List Leaving → Type 0
HintsDue shape s e segment [] = Unit {0}
HintsDue shape s e segment (l ∷ ls) =
    (segment ≡ segment_due (on_after e) (after_good (machine_after shape s l.task.lun e) l.task.command) l.task.lun)
    × HintsDue shape s e segment ls

abbrev pub EventHints : Shape → Sizes → History → Event → Type 0
EventHints shape s e (Device bytes) =
    HintsDue shape s e (upiu_at bytes).segment
    (filter (λ (l : Leaving). l.good) (answered (upiu_at bytes) (upiu_at bytes).kind (tasks_after s e)))
EventHints shape s e _ = Unit {0}

-- each GOOD RESPONSE tells what is to be told
abbrev pub Hinted : Shape → Sizes → History → Type 0
Hinted shape s [] = Unit {0}
Hinted shape s (x ∷ e) = Hinted shape s e × EventHints shape s e x
