-- A drive: a driver on one side, the events of a device on the other, and the answers that the requests got (this
-- project's own).
use Rattle.std.specs.Prelude.{ℕ, Bool, List, [], ◌∷◌, ◌++◌, map, Option, Some}
use Rattle.std.specs.Prelude.{None, Result, Ok, Err, if◌then◌else◌, ◌==◌}
use Rattle.std.specs.List.{find}
use Rattle.upiu_wire.specs.Upiu.{Upiu, upiu_out}
use Rattle.flash_pages.specs.declared.chip.ChipOp.{ChipOp}
use Rattle.flat_unit.specs.declared.event.Event.{Event}
use Rattle.flat_unit.specs.declared.event.Event.TheVariants.{Host, Device, Reset, Moved, Failed}
use Rattle.flat_unit.specs.History.{History, ◌▹◌}
use Rattle.flat_unit.specs.Sizes.{Sizes}
use Rattle.driver_laws.specs.declared.answer.Done.{Done}
use Rattle.driver_laws.specs.declared.fault.DriverFault.{DriverFault}
use Rattle.driver_laws.specs.declared.request.Request.{Request}
use Rattle.driver_laws.specs.Commands.{OpenCommand, Wanted, next_of, upiu_of_next, after_next, opened}
use Rattle.driver_laws.specs.Deliver.{Delivered, delivered}
use Rattle.driver_laws.specs.Requests.{Way, submitted}
use Rattle.driver_laws.specs.Flat.{Asked, Answered, Came, Cut}

-- how far a drive has come: the open commands, the events, the requests that were taken so far, those whose callers
-- still wait, and the answers in the order in which they came
pub record Moment : Type 0 where
  pub opens : List OpenCommand
  pub events : History
  pub asked : List Asked
  pub callers : List Asked
  pub answers : List Answered

-- before the first turn
abbrev pub begun : Moment
begun = record { opens = []; events = []; asked = []; callers = []; answers = [] }

-- the tag of the last open command
abbrev pub last_tag : List OpenCommand → ℕ
last_tag [] = 0
last_tag (o ∷ []) = o.tag
last_tag (_ ∷ o ∷ os) = last_tag (o ∷ os)

-- a request is taken, under a number: the last command that is opened for it serves it
abbrev pub asks : ℕ → Way → Request → Moment → Moment
asks number way request m =
    let opens : List OpenCommand = submitted way request m.opens in
    let asked : Asked = record { number = number; tag = last_tag opens; request = request } in
    record m { opens = opens; asked = m.asked ++ asked ∷ []; callers = m.callers ++ asked ∷ [] }

-- the driver opens a command of its own
abbrev pub wants : Wanted → Moment → Moment
wants w m = record m { opens = opened m.opens w }

-- the events with what the driver sends, if anything
abbrev pub sent_events : History → Option Upiu → History
sent_events e (Some v) = e ▹ Host (upiu_out v)
sent_events e None = e

-- the driver sends
abbrev pub sends : Sizes → Moment → Moment
sends s m = record m {
  opens = after_next s m.opens (next_of m.opens);
  events = sent_events m.events (upiu_of_next s (next_of m.opens));
}

-- the request's command has this tag
abbrev pub has_asked : ℕ → Asked → Bool
has_asked tag a = a.tag == tag

-- the first request with this tag is gone
abbrev pub without_asked : ℕ → List Asked → List Asked
without_asked tag [] = []
without_asked tag (a ∷ rest) = if has_asked tag a then rest else a ∷ without_asked tag rest

-- the answer under the number of the request, if there is one
abbrev pub answered_for : Done → Option Asked → List Answered
answered_for done (Some a) = record { number = a.number; outcome = Came done.answer } ∷ []
answered_for done None = []

-- the open request with the tag got its answer
abbrev pub with_done : Option Done → Moment → Moment
with_done None m = m
with_done (Some done) m = record m {
  callers = without_asked done.tag m.callers;
  answers = m.answers ++ answered_for done (find (has_asked done.tag) m.callers);
}

-- the driver takes what the device sent, or a fault leaves it as it was
abbrev pub with_delivered : Result Delivered DriverFault → Moment → Moment
with_delivered (Ok d) m = with_done d.done (record m { opens = d.opens })
with_delivered (Err fault) m = m

-- the device sends, and the driver gets it
abbrev pub gets : Sizes → List ℕ → Moment → Moment
gets s bytes m = with_delivered (delivered s m.opens bytes) (record m { events = m.events ▹ Device bytes })

-- another event of the device, of which the driver gets nothing
abbrev pub passes : Event → Moment → Moment
passes x m = record m { events = m.events ▹ x }

-- a reset cuts the request
abbrev pub cut : Asked → Answered
cut a = record { number = a.number; outcome = Cut }

-- the device is reset, then the driver: each open request is cut
abbrev pub resets : Moment → Moment
resets m = record m { opens = []; events = m.events ▹ Reset; callers = []; answers = m.answers ++ map cut m.callers }

-- what happens next: a request is taken, the driver opens a command of its own or sends, the device sends, moves a page
-- or meets a failed call of its chip, or both are reset
pub data Turn : Type 0 where
  Asks : ℕ → Way → Request → Turn
  Wants : Wanted → Turn
  Sends : Turn
  Gets : List ℕ → Turn
  Moves : ℕ → ℕ → Turn
  Fails : ChipOp → Turn
  Resets : Turn

-- the moment after one more turn
abbrev pub turned : Sizes → Turn → Moment → Moment
turned s (Asks number way request) m = asks number way request m
turned s (Wants w) m = wants w m
turned s Sends m = sends s m
turned s (Gets bytes) m = gets s bytes m
turned s (Moves lun lba) m = passes (Moved lun lba) m
turned s (Fails op) m = passes (Failed op) m
turned s Resets m = resets m

-- the moment after these turns, of which the newest stands first
abbrev pub moment_after : Sizes → List Turn → Moment
moment_after s [] = begun
moment_after s (turn ∷ turns) = turned s turn (moment_after s turns)
