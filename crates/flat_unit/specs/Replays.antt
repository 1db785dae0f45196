-- Which histories a trace has: one group of events for each line (this project's own).
use Rattle.std.specs.Prelude.{◌≡◌, ◌⊎◌, ℕ, zero, suc, ◌+◌, ◌-◌, ◌*◌, ◌/◌, ◌≤◌, Bool, true, false, not, ◌&&◌, ◌||◌, List}
use Rattle.std.specs.Prelude.{[], ◌∷◌, ◌++◌, map, filter, length, All, sum_by, Option, Some, None, IsTrue}
use Rattle.std.specs.Prelude.{if◌then◌else◌, ◌==◌, nat_lt, nat_le, is_some, is_none, MatchBool}
use Rattle.std.specs.List.{AllByRecursion, list_any}
use Rattle.flash_pages.specs.declared.chip.ChipOp.{ChipOp}
use Rattle.flash_pages.specs.Place.{Place}
use Rattle.hpb_cdb.specs.declared.cdb.Cdb.{Cdb}
use Rattle.flat_unit.specs.declared.event.Event.{Event}
use Rattle.flat_unit.specs.declared.event.Event.TheVariants.{Host, Device, Reset, Moved, Failed}
use Rattle.flat_unit.specs.Causes.{sense_code}
use Rattle.flat_unit.specs.Command.{is_write, bytes_given, given_by}
use Rattle.flat_unit.specs.Counts.{next_entry}
use Rattle.flat_unit.specs.History.{History, ◌▹◌, followed_by}
use Rattle.flat_unit.specs.Queue.{on_after, tasks_after, at_rest}
use Rattle.flat_unit.specs.Sizes.{Sizes}
use Rattle.flat_unit.specs.Sound.{answers_to}
use Rattle.flat_unit.specs.Task.{Task}
use Rattle.flat_unit.specs.Work.{Work, ReadsBlocks, WritesBlocks, TakesList, ListsEntries, TellsCapacity, MovesNothing}
use Rattle.flat_unit.specs.Work.{work_of}
use Rattle.flat_unit.specs.Trace.{Line, Upiu, Steps, Collect, Drain, ResetLine, Blank}

-- a run of lines without input that may go on: how many calls of `step` it lacks before its tasks must have ended,
-- and whether a write was kept when it began
pub record OpenRun : Type 0 where
  pub lacks : ℕ
  pub has_write : Bool

-- how far a replay has come: the events, the step groups without a failed call since the last reset, whether the entry
-- of the next block was tried in vain, the runs that may go on, all calls of `step`, whether a step has served a task
-- since the last reset, and the calls of `collect` since any other call, or since one that failed
pub record Progress : Type 0 where
  pub events : History
  pub quiet : ℕ
  pub tried : Bool
  pub runs : List OpenRun
  pub steps : ℕ
  pub served : Bool
  pub collected : ℕ

abbrev pub begun : Progress
begun = record { events = []; quiet = 0; tried = false; runs = []; steps = 0; served = false; collected = 0 }

abbrev pub tasks_at : Sizes → Progress → List Task
tasks_at s p = tasks_after s p.events

-- what one call of `step` or `collect` made
pub record Group : Type 0 where
  pub failed : Option ChipOp
  pub moved : Option Place
  pub sent : Option (List ℕ)

abbrev pub failed_events : Option ChipOp → List Event
failed_events (Some op) = Failed op ∷ []
failed_events None = []

abbrev pub moved_events : Option Place → List Event
moved_events (Some p) = Moved p.lun p.lba ∷ []
moved_events None = []

abbrev pub sent_events : Option (List ℕ) → List Event
sent_events (Some bytes) = Device bytes ∷ []
sent_events None = []

-- its events, the oldest first
abbrev pub events_of : Group → List Event
events_of g = failed_events g.failed ++ moved_events g.moved ++ sent_events g.sent

-- a page that collection moved is a group of its own
abbrev pub IsGroup : Group → Type 0
IsGroup g = (g.failed ≡ None × g.sent ≡ None) ⊎ (g.moved ≡ None)

-- a task is kept that doesn't wait for data, and the device has looked at its whole chip
abbrev pub is_due : Sizes → Progress → Bool
is_due s p = not (at_rest (tasks_at s p)) && nat_le s.pages p.quiet

-- a read's next block has an entry
abbrev pub has_entry : Sizes → History → List Task → Bool
has_entry s e [] = false
has_entry s e (task ∷ others) = nat_lt task.sent (bytes_given s task.command) && is_some (next_entry s e (task
    ∷ others))

-- a write has asked for data
abbrev pub has_asked : List Task → Bool
has_asked [] = false
has_asked (task ∷ _) = is_write task.command && nat_lt 0 task.asked

-- a step that is due may send nothing: it programs or collects, or it tries an entry for the first time
abbrev pub may_be_silent : Sizes → Progress → Bool
may_be_silent s p = has_asked (tasks_at s p) || (has_entry s p.events (tasks_at s p) && not p.tried)

-- a step that is due sends, but for these cases; one that isn't sends nothing but that a look at the chip failed
abbrev pub IsTimely : Sizes → Progress → Group → Type 0
IsTimely s p g =
    MatchBool (is_due s p)
    (g.sent ≡ None → IsTrue (may_be_silent s p))
    ((bytes : List ℕ) → g.sent ≡ Some bytes → IsTrue (is_some g.failed) × (sense_code bytes ≡ Some 0x44))

-- what tells that the chip is none of the device's, or could not be read
abbrev pub is_unready : Option ℕ → Bool
is_unready (Some code) = code == 0x44
is_unready None = false

-- a step serves a task: it sends anything else
abbrev pub serves : Option (List ℕ) → Bool
serves (Some bytes) = not (is_unready (sense_code bytes))
serves None = false

-- after a step
abbrev pub stepped : Sizes → Progress → Group → Progress
stepped s p g = record {
  events = followed_by p.events (events_of g);
  quiet = if is_none g.failed then p.quiet + 1 else p.quiet;
  tried = is_none g.sent && (p.tried || is_due s p);
  runs = p.runs;
  steps = p.steps + 1;
  served = p.served || serves g.sent;
  collected = 0;
}

pub record StepTo (s : Sizes) (p now : Progress) : Type 0 where
  pub group : Group
  pub is_group : IsGroup group
  pub timely : IsTimely s p group
  pub leads : now ≡ stepped s p group

-- so many steps
abbrev pub StepsTo : Sizes → ℕ → Progress → Progress → Type 0
StepsTo s zero p now = now ≡ p
StepsTo s (suc n) p now = (mid : Progress) × StepsTo s n p mid × StepTo s mid now

-- how many steps a command takes at most once it comes first
abbrev pub bound_by : Sizes → Work → ℕ
bound_by s (ReadsBlocks lba n) = 2 * n + 1
bound_by s (WritesBlocks lba n) = 2 * s.erase_block * n + (n + 7) / 8 + 1
bound_by s (ListsEntries region sub len) = (given_by s (ListsEntries region sub len) + s.block - 1) / s.block + 1
bound_by s TellsCapacity = 2
bound_by s (TakesList bytes) = 2
bound_by s MovesNothing = 1

abbrev pub bound : Sizes → Cdb → ℕ
bound s command = bound_by s (work_of command)

-- so many steps end all tasks that need no more from the host
abbrev pub enough : Sizes → List Task → ℕ
enough s tasks = s.pages + sum_by (λ (task : Task). bound s task.command) tasks

-- a call of `collect` moves a page, or fails, or does neither
abbrev pub IsCollection : Event → Type 0
IsCollection (Moved lun lba) = Unit {0}
IsCollection (Failed op) = Unit {0}
IsCollection _ = ⊥

abbrev pub keeps_write : List Task → Bool
keeps_write tasks = list_any (λ (task : Task). is_write task.command) tasks

-- the runs at a line without input: those that go on, and one that begins here
abbrev pub with_run : Sizes → Progress → Progress
with_run s p = record p {
  runs = record { lacks = enough s (tasks_at s p); has_write = keeps_write (tasks_at s p) }
      ∷ p.runs;
}

-- a run has made n more calls
abbrev pub lacks_less : ℕ → Progress → Progress
lacks_less n p = record p { runs = map (λ (r : OpenRun). record r { lacks = r.lacks - n }) p.runs }

-- collection ends the runs that began with a write
abbrev pub without_writes : Progress → Progress
without_writes p = record p { runs = filter (λ (r : OpenRun). not r.has_write) p.runs }

abbrev pub without_runs : Progress → Progress
without_runs p = record p { runs = [] }

-- where a run has made enough calls, nothing can go on
abbrev pub RunsRest : Sizes → Progress → Type 0
RunsRest s p = AllByRecursion (λ (r : OpenRun). r.lacks ≡ 0 → IsTrue (at_rest (tasks_at s p))) p.runs

-- the same task comes first as before, if one did
abbrev pub keeps_head : List Task → List Task → Bool
keeps_head [] now = true
keeps_head (task ∷ _) [] = false
keeps_head (task ∷ _) (first ∷ _) = task.tag == first.tag

-- bytes of the host, and what answers them at once
abbrev pub told : Sizes → Progress → List ℕ → History
told s p bytes = followed_by (p.events ▹ Host bytes) (answers_to s (on_after p.events) (tasks_at s p) bytes)

abbrev pub received : Sizes → Progress → List ℕ → Progress
received s p bytes = record {
  events = told s p bytes;
  quiet = p.quiet;
  tried = p.tried && keeps_head (tasks_at s p) (tasks_after s (told s p bytes));
  runs = [];
  steps = p.steps;
  served = p.served;
  collected = 0;
}

-- a reset drops the tasks, and the device looks at its whole chip again
abbrev pub reset : Progress → Progress
reset p = record {
  events = p.events ▹ Reset;
  quiet = 0;
  tried = false;
  runs = [];
  steps = p.steps;
  served = false;
  collected = 0;
}

abbrev pub is_failure : Event → Bool
is_failure (Failed op) = true
is_failure _ = false

-- after so many calls of `collect` that made these events
abbrev pub collected_to : ℕ → List Event → Progress → Progress
collected_to n group p = record p {
  events = followed_by p.events group;
  collected = if list_any is_failure group then 0 else p.collected + n;
}

-- a drain steps until nothing can go on
pub record Drains (s : Sizes) (p now : Progress) : Type 0 where
  pub count : ℕ
  pub few : count ≤ enough s (tasks_at s p)
  pub steps : StepsTo s count p now
  pub rests : IsTrue (at_rest (tasks_at s now))

-- so many calls of `collect`
pub record Collects (n : ℕ) (p now : Progress) : Type 0 where
  pub group : List Event
  pub few : length group ≤ n
  pub collection : All IsCollection group
  pub leads : now ≡ without_writes (collected_to n group p)

-- so many calls of `step`
pub record Runs (s : Sizes) (n : ℕ) (p now : Progress) : Type 0 where
  pub end : Progress
  pub steps : StepsTo s n p end
  pub leads : now ≡ lacks_less n end
  pub rests : RunsRest s now

-- what a line may lead to
abbrev pub LineTo : Sizes → Line → Progress → Progress → Type 0
LineTo s (Upiu bytes) p now = now ≡ received s p bytes
LineTo s (Steps n) p now = Runs s n (with_run s p) now
LineTo s (Collect n) p now = Collects n (with_run s p) now
LineTo s Drain p now = Drains s (without_runs p) now
LineTo s ResetLine p now = now ≡ reset p
LineTo s Blank p now = now ≡ with_run s p

-- a trace leads from one moment to another
abbrev pub Replays : Sizes → List Line → Progress → Progress → Type 0
Replays s [] p now = now ≡ p
Replays s (line ∷ lines) p now = (mid : Progress) × LineTo s line p mid × Replays s lines mid now
