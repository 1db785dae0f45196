-- Words for what holds of all drives (this project's own).
use Rattle.std.specs.Prelude.{◌≡◌, ℕ, List, ◌++◌, map, Ok, Err, Result}
use Rattle.std.specs.List.{AllByRecursion}
use Rattle.flat_unit.specs.Contents.{Block}
use Rattle.flat_unit.specs.Sizes.{Sizes}
use Rattle.flat_unit.specs.Senses.{no_number}
use Rattle.driver_laws.specs.declared.answer.Answer.TheVariants.{Good, Check, Status}
use Rattle.driver_laws.specs.declared.fault.DriverFault.{DriverFault}
use Rattle.driver_laws.specs.declared.request.Request.{Request}
use Rattle.driver_laws.specs.Deliver.{Delivered}
use Rattle.driver_laws.specs.Drive.{Moment}
use Rattle.driver_laws.specs.Flat.{Answered, Asked, Came, Cut, Outcome, flat_answers, flat_of}

-- the answers so far are those of the flat unit to the first requests that were taken, and the requests that are open
-- come next
pub record AreFlat (s : Sizes) (unit : List Block) (m : Moment) : Type 0 where
  pub done : List Asked
  pub order : m.asked ≡ done ++ m.callers
  pub answers : m.answers ≡ flat_answers s (flat_of s unit) done

-- the driver took the bytes
abbrev pub IsTaken : Result Delivered DriverFault → Type 0
IsTaken (Ok d) = Unit {0}
IsTaken (Err fault) = ⊥

-- the request was answered GOOD or with DATA PROTECT 27h, that no sequence number is left, or it was cut
abbrev pub IsGoodOrCut : Outcome → Type 0
IsGoodOrCut Cut = Unit {0}
IsGoodOrCut (Came (Good bytes)) = Unit {0}
IsGoodOrCut (Came (Check sense)) = sense ≡ no_number
IsGoodOrCut (Came (Status status)) = ⊥

-- each request so far
abbrev pub AllGoodOrCut : List Answered → Type 0
AllGoodOrCut answers = AllByRecursion (λ (a : Answered). IsGoodOrCut a.outcome) answers

-- a request under its number
pub record Numbered : Type 0 where
  pub number : ℕ
  pub request : Request

-- a request that was taken, without its tag
abbrev pub under_number : Asked → Numbered
under_number a = record { number = a.number; request = a.request }

-- the requests under their numbers, without their tags
abbrev pub numbered : List Asked → List Numbered
numbered asked = map under_number asked
