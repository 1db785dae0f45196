-- The answers of a flat unit: a block at each place, and no tasks, pages or entries (this project's own).
use Rattle.std.specs.Prelude.{ℕ, zero, suc, ◌+◌, List, [], ◌∷◌, ◌++◌, slice_range, if◌then◌else◌}
use Rattle.flash_pages.specs.Place.{Place}
use Rattle.flat_unit.specs.Contents.{Block, block_at, is_among, offset_in}
use Rattle.flat_unit.specs.Sizes.{Sizes}
use Rattle.driver_laws.specs.declared.answer.Answer.{Answer}
use Rattle.driver_laws.specs.declared.answer.Answer.TheVariants.{Good}
use Rattle.driver_laws.specs.declared.request.Request.{Request}
use Rattle.driver_laws.specs.declared.request.Request.TheVariants.{Read as ReadOf, Write as WriteOf}

-- the block at each place
abbrev pub Flat : Type 0
Flat = Place → Block

-- the flat unit that a device begins with
abbrev pub flat_of : Sizes → List Block → Flat
flat_of s unit p = block_at s unit p

-- the bytes of so many blocks from an LBA on
abbrev pub bytes_at : Flat → ℕ → ℕ → ℕ → List ℕ
bytes_at flat lun lba zero = []
bytes_at flat lun lba (suc k) = bytes_at flat lun lba k ++ flat (record { lun = lun; lba = lba + k })

-- a request that was taken under a number, and the tag that it got
pub record Asked : Type 0 where
  pub number : ℕ
  pub tag : ℕ
  pub request : Request

-- the flat unit after a request: a write replaces its blocks, and nothing else changes one
abbrev pub written_by : Sizes → Request → Flat → Flat
written_by s (WriteOf lun lba n bytes) flat p =
    if is_among lun lba n p then slice_range bytes (offset_in s lba p) (offset_in s lba p + s.block) else flat p
written_by s _ flat p = flat p

-- the answer of the flat unit to a request: a read shows its blocks
abbrev pub flat_answer : Flat → Request → Answer
flat_answer flat (ReadOf lun lba n) = Good (bytes_at flat lun lba n)
flat_answer flat _ = Good []

-- how a request came to its end: it was answered, or a reset cut it
pub data Outcome : Type 0 where
  Came : Answer → Outcome
  Cut : Outcome

-- the outcome of the request with this number
pub record Answered : Type 0 where
  pub number : ℕ
  pub outcome : Outcome

-- the flat unit after these requests, in order
abbrev pub flat_after : Sizes → Flat → List Asked → Flat
flat_after s flat [] = flat
flat_after s flat (a ∷ rest) = flat_after s (written_by s a.request flat) rest

-- its answers to these requests, in order
abbrev pub flat_answers : Sizes → Flat → List Asked → List Answered
flat_answers s flat [] = []
flat_answers s flat (a ∷ rest) =
    record { number = a.number; outcome = Came (flat_answer flat a.request) }
    ∷ flat_answers s (written_by s a.request flat) rest
