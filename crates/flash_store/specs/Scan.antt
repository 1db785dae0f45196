-- A scan: the pages of a chip are read in order of their number, and the index is that of the pages read so far.
use Rattle.std.specs.Prelude.{◌≡◌, ◌≢◌, ℕ, ◌+◌, ◌-◌, ◌*◌, ◌^◌, ◌/◌, ◌%◌, ◌<◌, ◌≤◌, Bool, true, false, nat_eq, nat_lt}
use Rattle.std.specs.Prelude.{if◌then◌else◌, List, ◌++◌, length, take, replicate, slice_index, slice_index_or, Option}
use Rattle.std.specs.Prelude.{Some, None}
use Rattle.flash_pages.specs.declared.chip.Geometry.{Geometry}
use Rattle.flash_pages.specs.declared.chip.Spare.{Spare}
use Rattle.flash_pages.specs.Chip.{Page, Erased, Written, page_at}
use Rattle.flash_pages.specs.Place.{Place, IsPlace, index_of}
use Rattle.flash_pages.specs.Unit.{place_of, newest_rank}
use Rattle.flash_pages.specs.Sound.{HasGoodSpare, IsNewest, ChipOk}
use Rattle.collector_laws.specs.CollectStep.{written_in}
use Rattle.flash_store.specs.declared.tables.Index.{Index}
use Rattle.flash_store.specs.declared.tally.Newest.{Newest}
use Rattle.flash_store.specs.declared.tally.Tally.{Tally}
use Rattle.flash_store.specs.Index.{HasShape, IsMapped}

-- the chip as far as its first n pages were read: each later page counts as erased
abbrev pub seen : List Page → ℕ → List Page
seen chip n = take n chip ++ replicate (length chip - n) Erased

-- two pages have the greatest number of the place
pub record IsTwice (chip : List Page) (p : Place) : Type 0 where
  pub one : ℕ
  pub other : ℕ
  pub apart : one ≢ other
  pub at_one : IsNewest chip p one
  pub at_other : IsNewest chip p other

-- at most one page has it
abbrev pub IsOnce : List Page → Place → Type 0
IsOnce chip p = (m n : ℕ) → IsNewest chip p m → IsNewest chip p n → m ≡ n

-- a spare area that a store of this many logical units of this many blocks writes
abbrev pub IsGood : ℕ → ℕ → Spare → Type 0
IsGood luns units spare = IsPlace luns units (place_of spare) × (spare.seq < 2 ^ 62)

-- whether a number is at least what is noted, and what is noted after it
abbrev pub is_newer : Newest → ℕ → Bool
is_newer newest rank = if nat_lt rank newest.rank then false else true

abbrev pub noted : Newest → ℕ → Newest
noted newest rank =
    if nat_lt rank newest.rank then newest else record { rank = rank; doubled = nat_eq rank newest.rank }

-- what is noted of a place: its greatest number, and whether two pages have it
pub record IsNoted (chip : List Page) (p : Place) (newest : Newest) : Type 0 where
  pub rank : newest.rank ≡ newest_rank chip p
  pub once : newest.doubled ≡ false → IsOnce chip p
  pub twice : newest.doubled ≡ true → IsTwice chip p

abbrev pub nothing_noted : Newest
nothing_noted = record { rank = 0; doubled = false }

-- the index and what is noted of each place are those of these pages
pub record IsFollowed (chip : List Page) (index : Index) (newest : List Newest) : Type 0 where
  pub mapped : IsMapped chip index
  pub noted : (p : Place) → IsPlace index.luns index.units p
      → IsNoted chip p (slice_index_or newest (index_of index.units p) nothing_noted)

-- the spare area of a page, where it is written
abbrev pub spare_of : Page → Option Spare
spare_of Erased = None
spare_of (Written bytes spare) = Some spare

abbrev pub spare_at : List Page → ℕ → Option Spare
spare_at chip page = spare_of (page_at chip page)

-- of the blocks before this one all pages were read, and of this one some from its beginning: behind an erased page of
-- a block each page is erased, and the first `here` pages of this block are written
pub record IsOrdered (geometry : Geometry) (chip : List Page) (block inside here : ℕ) : Type 0 where
  pub in_order : (other page : ℕ) → page + 1 < geometry.pages
      → other * geometry.pages + page + 1 < block * geometry.pages + inside
      → page_at chip (other * geometry.pages + page) ≡ Erased
      → page_at chip (other * geometry.pages + page + 1) ≡ Erased
  pub most : here ≤ inside
  pub front : (page : ℕ) → page < here → page_at chip (block * geometry.pages + page) ≢ Erased
  pub behind : (page : ℕ) → here ≤ page → page < inside → page_at chip (block * geometry.pages + page) ≡ Erased

-- the scan found nothing amiss up to a page of a block
pub record IsScannedTo (geometry : Geometry) (chip : List Page) (index : Index) (tally : Tally)
    (block inside : ℕ) : Type 0 where
  pub place : tally.scanned ≡ block * geometry.pages + inside
  pub follows : IsFollowed (seen chip tally.scanned) index tally.newest.items
  pub spares : (page : ℕ) → page < tally.scanned → HasGoodSpare index.luns index.units (page_at chip page)
  pub ordered : IsOrdered geometry chip block inside tally.here
  pub found : (other : ℕ) → other < block → slice_index index.collector.written other ≡ written_in geometry chip other
  pub not_found : (other : ℕ) → block ≤ other → slice_index index.collector.written other ≡ 0

-- the scan found nothing amiss so far
abbrev pub IsScanned : Geometry → List Page → Index → Tally → Type 0
IsScanned geometry chip index tally = IsScannedTo geometry chip index tally (tally.scanned / geometry.pages)
    (tally.scanned % geometry.pages)

-- either nothing is amiss so far, or the chip is not sound whatever its other pages are
pub record IsTallied (geometry : Geometry) (chip : List Page) (index : Index) (tally : Tally) : Type 0 where
  pub shape : HasShape geometry index
  pub whole_newest : length tally.newest.items ≡ index.luns * index.units
  pub within : tally.scanned ≤ geometry.blocks * geometry.pages
  pub sound : tally.sound ≡ true → IsScanned geometry chip index tally
  pub unsound : tally.sound ≡ false → ChipOk geometry index.luns index.units chip → ⊥
