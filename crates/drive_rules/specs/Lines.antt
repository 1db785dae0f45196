-- Which histories and answers the lines of a drive have: one group for each line (this project's own).
use Rattle.std.specs.Prelude.{◌≡◌, ℕ, zero, suc, ◌+◌, ◌*◌, ◌%◌, ◌≤◌, ◌<◌, Bool, true, false, ◌&&◌, List, [], ◌∷◌, ◌++◌}
use Rattle.std.specs.Prelude.{length, map, All, fold, Option, Some, None, nat_le, nat_lt, MatchBool}
use Rattle.std.specs.List.{AllByRecursion, range_with_len}
use Rattle.upiu_wire.specs.Upiu.{Upiu, upiu_out}
use Rattle.flat_unit.specs.declared.event.Event.{Event}
use Rattle.flat_unit.specs.declared.event.Event.TheVariants.{Device, Host, Reset as ResetEvent}
use Rattle.flat_unit.specs.History.{◌▹◌}
use Rattle.flat_unit.specs.Queue.{on_after}
use Rattle.flat_unit.specs.Replays.{Group, IsCollection, IsGroup, IsTimely, Progress}
use Rattle.flat_unit.specs.Replays.{begun, collected_to, enough, events_of}
use Rattle.flat_unit.specs.Replays.{received, reset as reset_progress, stepped, tasks_at}
use Rattle.flat_unit.specs.Sizes.{Sizes}
use Rattle.flat_unit.specs.Sound.{answers_to}
use Rattle.driver_laws.specs.declared.request.Request.{Request}
use Rattle.driver_laws.specs.declared.request.Request.TheVariants.{Read as ReadOf, Write as WriteOf}
use Rattle.driver_laws.specs.Commands.{tags}
use Rattle.driver_laws.specs.Deliver.{delivered}
use Rattle.driver_laws.specs.Drive.{Moment, asks, gets, resets}
use Rattle.driver_laws.specs.Flat.{Answered, Asked}
use Rattle.driver_caches.specs.Machine.{Machine, deliver, hold, next_upiu, reset, submit, way_of, with_next}
use Rattle.trace_text.specs.declared.drive.DriveLine.{DriveLine}
use Rattle.trace_text.specs.declared.drive.DriveLine.TheVariants.{Read, Write, Steps, Collect, Drain, Reset, Lun, Blank}
use Rattle.drive_rules.specs.Said.{Said, Happened, Outside, with_cut, with_delivered}

-- How far a drive has come: the driver, the device's events with what they count, the requests that were taken so far
-- and those of them that are open, the answers in the order in which they came, the numbers of the requests that were
-- out of range, how many requests there were, the unit that is chosen, and all that was said, the newest first.
pub record Drive : Type 0 where
  pub machine : Machine
  pub progress : Progress
  pub asked : List Asked
  pub callers : List Asked
  pub answers : List Answered
  pub outside : List ℕ
  pub count : ℕ
  pub lun : ℕ
  pub said : List Said

-- the driver's open commands and requests with the events
abbrev pub moment_of : Drive → Moment
moment_of d = record {
  opens = d.machine.opens;
  events = d.progress.events;
  asked = d.asked;
  callers = d.callers;
  answers = d.answers;
}

-- the same drive with these
abbrev pub at_moment : Machine → Moment → Drive → Drive
at_moment machine m d = record d {
  machine = machine;
  progress = record d.progress { events = m.events };
  asked = m.asked;
  callers = m.callers;
  answers = m.answers;
}

-- before the first line
abbrev pub drive_begun : Machine → Drive
drive_begun machine = record {
  machine = machine;
  progress = begun;
  asked = [];
  callers = [];
  answers = [];
  outside = [];
  count = 0;
  lun = 0;
  said = [];
}

-- byte j of block lba of a write
abbrev pub pattern : ℕ → ℕ → ℕ → ℕ
pattern seed lba j = (31 * seed + 7 * lba + j) % 256

-- a block of a write
abbrev pub pattern_block : Sizes → ℕ → ℕ → List ℕ
pattern_block s seed lba = map (pattern seed lba) (range_with_len 0 s.block)

-- all blocks of a write
abbrev pub pattern_bytes : Sizes → ℕ → ℕ → ℕ → List ℕ
pattern_bytes s seed lba zero = []
pattern_bytes s seed lba (suc n) = pattern_block s seed lba ++ pattern_bytes s seed (lba + 1) n

-- the blocks of a request are there
abbrev pub are_there : Sizes → ℕ → ℕ → ℕ → Bool
are_there s lun lba n = nat_lt lun s.luns && (nat_le n 255 && nat_le (lba + n) s.units)

-- a request is taken, or it is out of range
abbrev pub requested : Bool → Request → Drive → Drive
requested true request d =
    let number : ℕ = d.count + 1 in
    record (at_moment (submit request d.machine) (asks number (way_of d.machine request) request (moment_of d)) d) {
      count = number;
    }
requested false request d =
    record d { count = d.count + 1; outside = d.outside ++ (d.count + 1) ∷ []; said = Outside (d.count + 1) ∷ d.said }

-- an event of the device: the driver gets a UPIU, and nothing of any other
abbrev pub happened : Sizes → Drive → Event → Drive
happened s d (Device bytes) =
    record (at_moment (deliver s bytes d.machine) (gets s bytes (moment_of d)) d) {
      said = with_delivered (delivered s d.machine.opens bytes) d.callers (Happened (Device bytes) ∷ d.said);
    }
happened s d x =
    record d { progress = record d.progress { events = d.progress.events ▹ x }; said = Happened x ∷ d.said }

-- the device gets a UPIU of the driver, and the driver gets what the device answers at once
abbrev pub handed : Sizes → Option Upiu → Drive → Drive
handed s (Some v) d =
    let bytes : List ℕ = upiu_out v in
    let answers : List Event = answers_to s (on_after d.progress.events) (tasks_at s d.progress) bytes in
    record (fold (happened s) (happened s d (Host bytes)) answers) { progress = received s d.progress bytes }
handed s None d = d

-- the driver sends, if there is something to send
abbrev pub sent : Sizes → Drive → Drive
sent s d = handed s (next_upiu s d.machine) (record d { machine = with_next s d.machine })

-- the driver is asked so many times
abbrev pub sent_times : Sizes → ℕ → Drive → Drive
sent_times s zero d = d
sent_times s (suc n) d = sent s (sent_times s n d)

-- an exchange: the driver sends until it has nothing to send, which is so when it is asked for the last time
pub record Exchanges (s : Sizes) (d now : Drive) : Type 0 where
  pub count : ℕ
  pub last : Drive
  pub sends : last ≡ sent_times s count d
  pub silent : next_upiu s last.machine ≡ None
  pub leads : now ≡ sent s last

-- one step of the device, whose output goes to the driver
abbrev pub stepped_by : Sizes → Group → Drive → Drive
stepped_by s g d = record (fold (happened s) d (events_of g)) { progress = stepped s d.progress g }

-- what a step sends are bytes
abbrev pub AreBytes : List ℕ → Type 0
AreBytes xs = AllByRecursion (λ (b : ℕ). b < 256) xs

abbrev pub SendsBytes : Option (List ℕ) → Type 0
SendsBytes (Some bytes) = AreBytes bytes
SendsBytes None = Unit {0}

-- a step, and then an exchange
pub record DriveStep (s : Sizes) (d now : Drive) : Type 0 where
  pub group : Group
  pub is_group : IsGroup group
  pub bytes : SendsBytes group.sent
  pub timely : IsTimely s d.progress group
  pub exchange : Exchanges s (stepped_by s group d) now

-- so many of them
abbrev pub DriveSteps : Sizes → ℕ → Drive → Drive → Type 0
DriveSteps s zero d now = now ≡ d
DriveSteps s (suc n) d now = (mid : Drive) × DriveSteps s n d mid × DriveStep s mid now

-- whether the driver holds back what it would send of its own
abbrev pub held_back : Bool → Drive → Drive
held_back on d = record d { machine = hold on d.machine }

-- one pass of a drain: an exchange, and then steps while the driver is held, until no tag is in use
pub record Passes (s : Sizes) (d now : Drive) : Type 0 where
  pub first : Drive
  pub exchange : Exchanges s d first
  pub count : ℕ
  pub few : count ≤ enough s (tasks_at s first.progress)
  pub last : Drive
  pub steps : DriveSteps s count (held_back true first) last
  pub none_open : last.machine.opens ≡ []
  pub leads : now ≡ held_back false last

-- a drain has two passes
abbrev pub DrainsTo : Sizes → Drive → Drive → Type 0
DrainsTo s d now = (mid : Drive) × Passes s d mid × Passes s mid now

-- a drain is made first where all tags are in use
abbrev pub FreesTags : Sizes → Drive → Drive → Type 0
FreesTags s d now = MatchBool (nat_le tags (length d.machine.opens)) (DrainsTo s d now) (now ≡ d)

-- a request of a line: it is taken or out of range, and then an exchange is made
pub record Requests (s : Sizes) (there : Bool) (request : Request) (d now : Drive) : Type 0 where
  pub free : Drive
  pub frees : FreesTags s d free
  pub exchange : Exchanges s (requested there request free) now

-- a call of the collector, of which the driver hears nothing
abbrev pub collected_by : Sizes → List Event → Drive → Drive
collected_by s group d = record (fold (happened s) d group) { progress = collected_to 1 group d.progress }

-- it moves a block, or fails, or does neither
pub record CollectCall (s : Sizes) (d now : Drive) : Type 0 where
  pub group : List Event
  pub few : length group ≤ 1
  pub collection : All IsCollection group
  pub leads : now ≡ collected_by s group d

-- so many of them
abbrev pub CollectsTo : Sizes → ℕ → Drive → Drive → Type 0
CollectsTo s zero d now = now ≡ d
CollectsTo s (suc n) d now = (mid : Drive) × CollectsTo s n d mid × CollectCall s mid now

-- the device is reset, then the driver, which cuts the requests that are open
abbrev pub reset_both : Drive → Drive
reset_both d =
    record (at_moment (reset d.machine) (resets (moment_of d)) d) {
      progress = reset_progress d.progress;
      said = with_cut d.callers (Happened ResetEvent ∷ d.said);
    }

-- what a line may lead to
abbrev pub DriveLineTo : Sizes → DriveLine → Drive → Drive → Type 0
DriveLineTo s (Read lba n) d now = Requests s (are_there s d.lun lba n) (ReadOf d.lun lba n) d now
DriveLineTo s (Write lba n seed) d now =
    Requests s (are_there s d.lun lba n) (WriteOf d.lun lba n (pattern_bytes s seed lba n)) d now
DriveLineTo s (Steps n) d now = DriveSteps s n d now
DriveLineTo s (Collect n) d now = CollectsTo s n d now
DriveLineTo s Drain d now = DrainsTo s d now
DriveLineTo s Reset d now = now ≡ reset_both d
DriveLineTo s (Lun k) d now = now ≡ record d { lun = k }
DriveLineTo s Blank d now = now ≡ d

-- the lines of a drive, from one moment to another
abbrev pub DrivesLines : Sizes → List DriveLine → Drive → Drive → Type 0
DrivesLines s [] d now = now ≡ d
DrivesLines s (line ∷ lines) d now = (mid : Drive) × DriveLineTo s line d mid × DrivesLines s lines mid now

-- a whole drive: its lines, and a drain at the end
pub record Drives (s : Sizes) (machine : Machine) (lines : List DriveLine) (now : Drive) : Type 0 where
  pub mid : Drive
  pub each : DrivesLines s lines (drive_begun machine) mid
  pub end : DrainsTo s mid now
