-- The two ends of a link, and what their calls leave of the driver.
use Rattle.std.specs.Prelude.{◌≡◌, ℕ, ◌==◌, Bool, List, [], ◌∷◌, Option, Some, None, Result, Ok, Err, if◌then◌else◌}
use Rattle.std.specs.Prelude.{◌<◌, true, false, length, option_map, take}
use Rattle.std.specs.List.{HoldsAt, find, list_any}
use Rattle.driver_laws.specs.declared.answer.Done.{Done}
use Rattle.driver_laws.specs.declared.fault.DriverFault.{DriverFault}
use Rattle.driver_laws.specs.Deliver.{Delivered, delivered}
use Rattle.hpb_device.specs.State.{DeviceState}
use Rattle.drive_rules.specs.Text.{lba_of}
use Rattle.flat_unit.specs.Sizes.{Sizes}
use Rattle.driver_laws.specs.Commands.{OpenCommand}
use Rattle.driver_laws.specs.Flat.{Asked}
use Rattle.driver_caches.specs.Machine.{Machine, deliver}
use Rattle.driver_commands.specs.Open.{sizes_of}
use Rattle.hpb_link.specs.declared.ticket.Ended.{Ended}
use Rattle.hpb_link.specs.declared.ticket.Ticket.{Ticket}

-- the device, the driver, the tickets of the requests that are open in order of submission, how many requests there
-- were, and the unit that is chosen
pub record LinkState : Type 0 where
  pub device : DeviceState
  pub driver : Machine
  pub tickets : List Ticket
  pub count : ℕ
  pub lun : ℕ

-- the ticket of a request
abbrev pub ticket_of : Asked → Ticket
ticket_of a = record { number = a.number; tag = a.tag; lba = lba_of a.request }

-- the ticket is of the command with this tag
abbrev pub is_for : ℕ → Ticket → Bool
is_for tag ticket = ticket.tag == tag

-- the place of the first ticket of this tag
pub record IsPlaceAt (tag : ℕ) (tickets : List Ticket) (place : ℕ) : Type 0 where
  pub inside : place < length tickets
  pub before : list_any (is_for tag) (take place tickets) ≡ false
  pub passes : HoldsAt (λ (t : Ticket). is_for tag t ≡ true) tickets place

-- or there is none
abbrev pub IsPlaceOf : ℕ → List Ticket → Option ℕ → Type 0
IsPlaceOf tag tickets (Some place) = IsPlaceAt tag tickets place
IsPlaceOf tag tickets None = list_any (is_for tag) tickets ≡ false

-- without the first ticket of this tag
abbrev pub without_ticket : ℕ → List Ticket → List Ticket
without_ticket tag [] = []
without_ticket tag (t ∷ ts) = if is_for tag t then ts else t ∷ without_ticket tag ts

-- the tickets once this ended, if a request did
abbrev pub tickets_done : Option Done → List Ticket → List Ticket
tickets_done (Some done) tickets = without_ticket done.tag tickets
tickets_done None tickets = tickets

-- how a request with a ticket ended
abbrev pub ended_done : Option Done → List Ticket → Option Ended
ended_done (Some done) tickets =
    option_map (λ (t : Ticket). record { ticket = t; answer = done.answer }) (find (is_for done.tag) tickets)
ended_done None tickets = None

-- the same of bytes that the driver took, or didn't
abbrev pub tickets_after : Result Delivered DriverFault → List Ticket → List Ticket
tickets_after (Ok d) tickets = tickets_done d.done tickets
tickets_after (Err fault) tickets = tickets

abbrev pub ended_after : Result Delivered DriverFault → List Ticket → Option Ended
ended_after (Ok d) tickets = ended_done d.done tickets
ended_after (Err fault) tickets = None

-- what the driver, the tickets and the callers have of what the device sent, if it sent something
abbrev pub machine_heard : Sizes → Option (List ℕ) → Machine → Machine
machine_heard s (Some bytes) m = deliver s bytes m
machine_heard s None m = m

abbrev pub tickets_heard : Sizes → Option (List ℕ) → List OpenCommand → List Ticket → List Ticket
tickets_heard s (Some bytes) opens tickets = tickets_after (delivered s opens bytes) tickets
tickets_heard s None opens tickets = tickets

abbrev pub ended_heard : Sizes → Option (List ℕ) → List OpenCommand → List Ticket → Option Ended
ended_heard s (Some bytes) opens tickets = ended_after (delivered s opens bytes) tickets
ended_heard s None opens tickets = None

-- the driver heard it
pub record IsHeard (sent : Option (List ℕ)) (old now : LinkState) (ended : Option Ended) : Type 0 where
  pub driver : now.driver ≡ machine_heard (sizes_of old.driver.shape) sent old.driver
  pub tickets : now.tickets ≡ tickets_heard (sizes_of old.driver.shape) sent old.driver.opens old.tickets
  pub ended_is : ended ≡ ended_heard (sizes_of old.driver.shape) sent old.driver.opens old.tickets
  pub count : now.count ≡ old.count
  pub lun : now.lun ≡ old.lun
