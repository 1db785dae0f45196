-- The answers of a flat unit to the lines of a drive (this project's own).
use Rattle.std.specs.Prelude.{ℕ, ◌+◌, Bool, true, false, List, [], ◌∷◌}
use Rattle.flat_unit.specs.Sizes.{Sizes}
use Rattle.driver_laws.specs.declared.request.Request.{Request}
use Rattle.driver_laws.specs.declared.request.Request.TheVariants.{Read as ReadOf, Write as WriteOf}
use Rattle.driver_laws.specs.Flat.{Answered, Came, Flat, flat_answer, written_by}
use Rattle.driver_laws.specs.Laws.{Numbered}
use Rattle.trace_text.specs.declared.drive.DriveLine.{DriveLine}
use Rattle.trace_text.specs.declared.drive.DriveLine.TheVariants.{Read, Write, Lun}
use Rattle.drive_rules.specs.Lines.{are_there, pattern_bytes}

-- a request that is in range, under its number, and then these
abbrev pub one_request : Bool → ℕ → Request → List Numbered → List Numbered
one_request true number request rest = record { number = number; request = request } ∷ rest
one_request false number request rest = rest

-- the requests of the lines that are in range, with their numbers, where so many came before and this unit is chosen
abbrev pub requests_of : Sizes → ℕ → ℕ → List DriveLine → List Numbered
requests_of s lun count [] = []
requests_of s lun count (Read lba n ∷ lines) =
    one_request (are_there s lun lba n) (count + 1) (ReadOf lun lba n) (requests_of s lun (count + 1) lines)
requests_of s lun count (Write lba n seed ∷ lines) =
    one_request (are_there s lun lba n) (count + 1) (WriteOf lun lba n (pattern_bytes s seed lba n))
    (requests_of s lun (count + 1) lines)
requests_of s lun count (Lun k ∷ lines) = requests_of s k count lines
requests_of s lun count (_ ∷ lines) = requests_of s lun count lines

-- the number of a request that is out of range, and then these
abbrev pub one_outside : Bool → ℕ → List ℕ → List ℕ
one_outside true number rest = rest
one_outside false number rest = number ∷ rest

-- the numbers of the requests that are out of range
abbrev pub outside_of : Sizes → ℕ → ℕ → List DriveLine → List ℕ
outside_of s lun count [] = []
outside_of s lun count (Read lba n ∷ lines) =
    one_outside (are_there s lun lba n) (count + 1) (outside_of s lun (count + 1) lines)
outside_of s lun count (Write lba n seed ∷ lines) =
    one_outside (are_there s lun lba n) (count + 1) (outside_of s lun (count + 1) lines)
outside_of s lun count (Lun k ∷ lines) = outside_of s k count lines
outside_of s lun count (_ ∷ lines) = outside_of s lun count lines

-- the flat unit's answers
abbrev pub flat_given : Sizes → Flat → List Numbered → List Answered
flat_given s flat [] = []
flat_given s flat (r ∷ rs) =
    record { number = r.number; outcome = Came (flat_answer flat r.request) }
    ∷ flat_given s (written_by s r.request flat) rs
