-- How many pages of each block are written, and what follows: the erased pages, the next page to write, the next block
-- to erase.
use Rattle.std.specs.Prelude.{◌≡◌, ℕ, ◌+◌, ◌-◌, ◌*◌, ◌<◌, ◌≤◌, Bool, nat_eq, nat_lt, ◌&&◌, min, if◌then◌else◌, List, []}
use Rattle.std.specs.Prelude.{◌∷◌, length, map, sum_by, Option, None, MatchOption, slice_index, slice_set}
use Rattle.std.specs.Option.{option_map, option_map_or, option_or}
use Rattle.std.specs.List.{range_with_len}
use Rattle.flash_pages.specs.declared.chip.Geometry.{Geometry}
use Rattle.flash_pages.specs.Chip.{IsWithinLimits}
use Rattle.page_validity.specs.ValidPages.{first_between}

-- how many pages of each block are written, and the block that is held for the collector
pub record Room : Type 0 where
  pub geometry : Geometry
  pub written : List ℕ
  pub victim : Option ℕ

-- how many pages are erased
abbrev pub erased_pages : ℕ → List ℕ → ℕ
erased_pages pages written = sum_by (λ count. pages - count) written

-- the first block that passes
abbrev pub first_block : List ℕ → (ℕ → Bool) → Option ℕ
first_block written passes = first_between 0 (length written) passes

abbrev pub is_partly_written : ℕ → List ℕ → ℕ → Bool
is_partly_written pages written block = nat_lt 0 (slice_index written block) && nat_lt (slice_index written block) pages

abbrev pub is_wholly_erased : List ℕ → ℕ → Bool
is_wholly_erased written block = nat_eq (slice_index written block) 0

abbrev pub is_full : ℕ → List ℕ → ℕ → Bool
is_full pages written block = nat_eq (slice_index written block) pages

-- the block that is written next: the partly written one, else the lowest wholly erased one
abbrev pub open_block : ℕ → List ℕ → Option ℕ
open_block pages written =
    option_or (first_block written (is_partly_written pages written)) (first_block written (is_wholly_erased written))

-- the page that is written next
abbrev pub frontier : ℕ → List ℕ → Option ℕ
frontier pages written = option_map (λ block. block * pages + slice_index written block) (open_block pages written)

-- one page more is written
abbrev pub one_more_written : ℕ → List ℕ → List ℕ
one_more_written pages written =
    option_map_or (λ block. slice_set written block (slice_index written block + 1)) (open_block pages written) written

abbrev pub IsFull : ℕ → List ℕ → ℕ → Type 0
IsFull pages written block = (block < length written) × (slice_index written block ≡ pages)

-- some pages of a block are written and some are not
abbrev pub IsPartly : ℕ → List ℕ → ℕ → Type 0
IsPartly pages written block = (block < length written) × (0 < slice_index written block)
    × (slice_index written block < pages)

-- at most one block is partly written
abbrev pub HasOnePartly : ℕ → List ℕ → Type 0
HasOnePartly pages written = (a b : ℕ) → IsPartly pages written a → IsPartly pages written b → a ≡ b

-- a full block has fewer valid pages than are erased
abbrev pub HasSpare : ℕ → List ℕ → (ℕ → ℕ) → ℕ → Type 0
HasSpare pages written valid erased = (block : ℕ) × IsFull pages written block × (valid block < erased)

-- the block is the first full one with the fewest valid pages, and it has one that isn't valid
pub record IsVictim (pages : ℕ) (written : List ℕ) (valid : ℕ → ℕ) (block : ℕ) : Type 0 where
  pub full : IsFull pages written block
  pub gains : valid block < pages
  pub fewest : (other : ℕ) → IsFull pages written other → valid block ≤ valid other
  pub first : (other : ℕ) → other < block → IsFull pages written other → valid block < valid other

-- the victim, or none where each full block has only valid pages
abbrev pub IsChoice : ℕ → List ℕ → (ℕ → ℕ) → Option ℕ → Type 0
IsChoice pages written valid choice =
    MatchOption choice ((block : ℕ) → IsFull pages written block → pages ≤ valid block) (IsVictim pages written valid)

-- the least of some numbers, and at most the first one
abbrev pub least : ℕ → List ℕ → ℕ
least most [] = most
least most (n ∷ ns) = min n (least most ns)

-- how many pages are to be copied before a full block is erased; all where it isn't full
abbrev pub copies_of : ℕ → List ℕ → (ℕ → ℕ) → ℕ → ℕ
copies_of pages written valid block = if is_full pages written block then valid block else pages

-- the first block with the fewest, where these aren't all
abbrev pub victim_of : ℕ → List ℕ → (ℕ → ℕ) → Option ℕ
victim_of pages written valid =
    let fewest = least pages (map (copies_of pages written valid) (range_with_len 0 (length written))) in
    if nat_lt fewest pages
    then first_block written (λ block. nat_eq (copies_of pages written valid block) fewest)
    else None

-- the erased pages are counted, and no block has more written pages than pages
pub record IsRoom (geometry : Geometry) (written : List ℕ) : Type 0 where
  pub within : IsWithinLimits geometry
  pub blocks : length written ≡ geometry.blocks
  pub most : (block : ℕ) → slice_index written block ≤ geometry.pages
