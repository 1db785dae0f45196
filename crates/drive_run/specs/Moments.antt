-- Where the two ends and a text stand while a drive goes on.
use Rattle.std.specs.Prelude.{◌≡◌, ◌≢◌, ℕ, ◌++◌, ◌≤◌, ◌<◌, Bool, true, false, List, []}
use Rattle.std.specs.Prelude.{Option, Some, None, Result, MatchResult, flat_map}
use Rattle.driver_laws.specs.Commands.{Nothing, next_of}
use Rattle.flat_unit.specs.declared.event.Event.{Event}
use Rattle.flat_unit.specs.Print.{line_of}
use Rattle.flat_unit.specs.Sizes.{Sizes}
use Rattle.hpb_device.specs.Left.{steps_left}
use Rattle.hpb_device.specs.Standing.{sizes_of}
use Rattle.hpb_device.specs.State.{DeviceState}
use Rattle.drive_rules.specs.Held.{AllOut}
use Rattle.drive_rules.specs.Lines.{Drive}
use Rattle.drive_rules.specs.Said.{Said}
use Rattle.drive_rules.specs.Text.{answer_text, said_text}
use Rattle.driver_laws.specs.Flat.{Came}
use Rattle.hpb_link.specs.declared.link.Submitted.{Submitted}
use Rattle.hpb_link.specs.declared.link.Submitted.TheVariants.{Range as Outside}
use Rattle.hpb_link.specs.declared.ticket.Ended.{Ended}
use Rattle.hpb_link.specs.Stands.{AtDrive}
use Rattle.hpb_link.specs.State.{LinkState}
use Rattle.hpb_link.specs.declared.ticket.Ticket.{Ticket}
use Rattle.trace_text.specs.declared.ending.Ending.TheVariants.{Cut, Range}
use Rattle.trace_text.specs.Written.{ending_line}
use Rattle.hpb_outside.specs.Writes.{AppendsFront, HasWrittenUpTo}

-- a text of which all is written but what was gathered is longer by this now; or a front of all that was written, where
-- the call failed
abbrev pub Adds : {T E : Type 0} → (more : List ℕ) → (old new : Option (List ℕ)) (gathered gathered_now : List ℕ)
    → Result T E → Type 0
Adds more old new gathered gathered_now r = (before : Option (List ℕ)) (text : List ℕ)
    → HasWrittenUpTo before old text gathered
    → MatchResult r (λ _. HasWrittenUpTo before new (text ++ more) gathered_now)
    (λ _. AppendsFront before new (text ++ more))

-- what is printed of events: nothing, where answers alone are printed
abbrev pub events_text : Bool → List Event → List ℕ
events_text true xs = []
events_text false xs = flat_map line_of xs

-- the text of the end of a request, where one ended
abbrev pub ended_text : Option Ended → List ℕ
ended_text None = []
ended_text (Some ended) = answer_text ended.ticket.number ended.ticket.lba (Came ended.answer)

-- what is printed of a request when it is made: its number, where it is out of range
abbrev pub submitted_text : Submitted → ℕ → List ℕ
submitted_text Outside number = ending_line number Range
submitted_text _ number = []

-- the lines of requests that were cut
abbrev pub cut_text : List Ticket → List ℕ
cut_text tickets = flat_map (λ (ticket : Ticket). ending_line ticket.number Cut) tickets

-- where all that was said before was written but what was gathered, so is all that is said now
abbrev pub Prints : Bool → (old new : Option (List ℕ)) (gathered gathered_now : List ℕ) (said said_now : List Said)
    → Type 0
Prints only old new gathered gathered_now said said_now = (before : Option (List ℕ))
    → HasWrittenUpTo before old (said_text only said) gathered
    → HasWrittenUpTo before new (said_text only said_now) gathered_now

-- and where the sink failed, a front of it was written
abbrev pub PrintsFront : Bool → (old new : Option (List ℕ)) (gathered : List ℕ) (said said_now : List Said) → Type 0
PrintsFront only old new gathered said said_now = (before : Option (List ℕ))
    → HasWrittenUpTo before old (said_text only said) gathered → AppendsFront before new (said_text only said_now)

-- a call led to a moment of this kind
pub record Leads (next : Drive → Type 0) (start : DeviceState) (only : Bool) (now : LinkState)
    (written written_now : Option (List ℕ)) (gathered gathered_now : List ℕ) (said : List Said) : Type 0 where
  pub moment : Drive
  pub reached : next moment
  pub stands : AtDrive start now moment
  pub prints : Prints only written written_now gathered gathered_now said moment.said

-- a call was cut at a moment of this kind
pub record Cuts (next : Drive → Type 0) (start : DeviceState) (only : Bool) (now : LinkState)
    (written written_now : Option (List ℕ)) (gathered : List ℕ) (said : List Said) : Type 0 where
  pub moment : Drive
  pub reached : next moment
  pub stands : AtDrive start now moment
  pub prints : PrintsFront only written written_now gathered said moment.said

-- from wherever a drive stands, a call leads to where it may lead, or is cut
abbrev pub Plays : {T E : Type 0} → (next cut : Sizes → Drive → Drive → Type 0) → Bool → (old new : LinkState)
    → (written written_now : Option (List ℕ)) (gathered gathered_now : List ℕ) → Result T E → Type 0
Plays next cut only old new written written_now gathered gathered_now result =
    (start : DeviceState) (d : Drive) → AtDrive start old d → MatchResult result
    (λ _. Leads (next (sizes_of start) d) start only new written written_now gathered gathered_now d.said)
    (λ _. Cuts (cut (sizes_of start) d) start only new written written_now gathered d.said)

-- the two ends stand at a moment of some drive
abbrev pub Stands : LinkState → Type 0
Stands link = (start : DeviceState) × ((d : Drive) × AtDrive start link d)

-- where a driver is held and has sent all its commands, a call adds no steps of the device
abbrev pub AddsNoSteps : (old new : LinkState) → Type 0
AddsNoSteps old new = (start : DeviceState) (d : Drive) → AtDrive start old d → old.driver.held ≡ true
    → AllOut old.driver.opens → steps_left new.device ≤ steps_left old.device

-- and where it has nothing to send and something is open, a call leaves the device fewer steps
abbrev pub LeavesFewer : (old new : LinkState) → Type 0
LeavesFewer old new = (start : DeviceState) (d : Drive) → AtDrive start old d → old.driver.held ≡ true
    → AllOut old.driver.opens → next_of old.driver.opens ≡ Nothing → old.driver.opens ≢ []
    → steps_left new.device < steps_left old.device
