-- What a drive says, in order: the events of the device, and how each request ended (this project's own).
use Rattle.std.specs.Prelude.{ℕ, List, [], ◌∷◌, ◌++◌, Option, Some, None, Result, Ok, Err}
use Rattle.std.specs.List.{find}
use Rattle.upiu_wire.specs.Upiu.{Upiu, upiu_out}
use Rattle.flat_unit.specs.declared.event.Event.{Event}
use Rattle.flat_unit.specs.declared.event.Event.TheVariants.{Host}
use Rattle.flat_unit.specs.History.{History}
use Rattle.driver_laws.specs.declared.answer.Done.{Done}
use Rattle.driver_laws.specs.declared.fault.DriverFault.{DriverFault}
use Rattle.driver_laws.specs.Deliver.{Delivered}
use Rattle.driver_laws.specs.Drive.{has_asked}
use Rattle.driver_laws.specs.Flat.{Answered, Asked, Came, Cut, Outcome}

-- an event, how a request that was taken ended, or the number of a request that was out of range
pub data Said : Type 0 where
  Happened : Event → Said
  Ended : Asked → Outcome → Said
  Outside : ℕ → Said

-- the driver sent this, if it sent something; the newest stands first
abbrev pub with_sent : Option Upiu → List Said → List Said
with_sent (Some v) said = Happened (Host (upiu_out v)) ∷ said
with_sent None said = said

-- a request got its answer, where its caller waits
abbrev pub with_answer : Done → Option Asked → List Said → List Said
with_answer done (Some a) said = Ended a (Came done.answer) ∷ said
with_answer done None said = said

-- what a UPIU of the device ended, where these callers wait
abbrev pub with_done : Option Done → List Asked → List Said → List Said
with_done (Some done) callers said = with_answer done (find (has_asked done.tag) callers) said
with_done None callers said = said

-- a UPIU of the device was taken, or it was refused and ends nothing
abbrev pub with_delivered : Result Delivered DriverFault → List Asked → List Said → List Said
with_delivered (Ok d) callers said = with_done d.done callers said
with_delivered (Err fault) callers said = said

-- a reset cut these requests, in order of submission
abbrev pub with_cut : List Asked → List Said → List Said
with_cut [] said = said
with_cut (a ∷ rest) said = with_cut rest (Ended a Cut ∷ said)

-- the events among what was said
abbrev pub events_in : List Said → History
events_in [] = []
events_in (Happened x ∷ said) = x ∷ events_in said
events_in (_ ∷ said) = events_in said

-- the answers, in the order in which they came
abbrev pub answers_in : List Said → List Answered
answers_in [] = []
answers_in (Ended a outcome ∷ said) = answers_in said ++ record { number = a.number; outcome = outcome } ∷ []
answers_in (_ ∷ said) = answers_in said

-- the numbers of the requests that were out of range, in order
abbrev pub outside_in : List Said → List ℕ
outside_in [] = []
outside_in (Outside number ∷ said) = outside_in said ++ number ∷ []
outside_in (_ ∷ said) = outside_in said
