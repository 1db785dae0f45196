-- What a step of the collector does to the chip, and how many steps are left.
use Rattle.std.specs.Prelude.{◌≡◌, ℕ, ◌+◌, ◌-◌, ◌*◌, ◌<◌, Bool, true, false, ◌||◌, nat_lt, if◌then◌else◌, List, length}
use Rattle.std.specs.Prelude.{count_by, slice_set, Option, None, Some}
use Rattle.flash_pages.specs.declared.chip.Geometry.{Geometry}
use Rattle.flash_pages.specs.Chip.{Page, Erased, Written, page_at, is_erased, erased_count, erase_block}
use Rattle.flash_pages.specs.Place.{Place, IsPlace}
use Rattle.flash_pages.specs.Unit.{current, block_of, next_seq}
use Rattle.flash_pages.specs.Sound.{is_current, current_count, IsFull}
use Rattle.collector_laws.specs.CollectStep.{Buffered, CollectState, Collected, Idle, Copied, Read, Freed, fresh}
use Rattle.collector_laws.specs.CollectStep.{collect_step}

-- an erased page is programmed with the bytes of a block, under the next sequence number
pub record ProgramsBlock (old : List Page) (p : Place) (bytes : List ℕ) (new : List Page) : Type 0 where
  pub page : ℕ
  pub inside : page < length old
  pub erased : page_at old page ≡ Erased
  pub programmed : new ≡ slice_set old page (Written bytes (record { lun = p.lun; lba = p.lba; seq = next_seq old }))

-- the block of a place, which has a page, is programmed to another one
pub record CopiesBlock (luns units : ℕ) (old : List Page) (p : Place) (new : List Page) : Type 0 where
  pub place : IsPlace luns units p
  pub was : ℕ
  pub current : current old p ≡ Some was
  pub program : ProgramsBlock old p (block_of old p) new

-- an erase block is erased, which has no current page: each place keeps its own, and the next number is the same
pub record FreesBlock (geometry : Geometry) (old : List Page) (block : ℕ) (new : List Page) : Type 0 where
  pub in_range : block < geometry.blocks
  pub erased : new ≡ erase_block old geometry.pages block
  pub kept : (p : Place) → current new p ≡ current old p
  pub next : next_seq new ≡ next_seq old
  pub room : erased_count new ≡ erased_count old + geometry.pages

-- what a step did to the chip, by what it answers
abbrev pub Changes : Geometry → ℕ → ℕ → List Page → Collected → List Page → Type 0
Changes geometry luns units old Idle new = new ≡ old
Changes geometry luns units old Read new = new ≡ old
Changes geometry luns units old (Copied p) new = CopiesBlock luns units old p new
Changes geometry luns units old (Freed block) new = FreesBlock geometry old block new

-- a page is kept: it has room, or it is needed
abbrev pub is_kept : List Page → Page → Bool
is_kept chip page = is_erased page || is_current chip page

-- how many pages are kept
abbrev pub kept_count : List Page → ℕ
kept_count chip = count_by (is_kept chip) chip

-- pages that are written and not current
abbrev pub stale_count : List Page → ℕ
stale_count chip = length chip - kept_count chip

-- one step more, where the next one has to read a page or to erase the victim
abbrev pub waiting : Option Buffered → ℕ
waiting None = 1
waiting (Some held) = 0

-- a bound on the steps that are left: twice an erase block's worth of pages for each page that is written and not
-- current, but for the victim's; and for the victim two for each page that is copied
abbrev pub left_with : Geometry → List Page → Option Buffered → Option ℕ → ℕ
left_with geometry chip buffer None = 2 * geometry.pages * stale_count chip
left_with geometry chip buffer (Some victim) =
    2 * geometry.pages * (stale_count chip + current_count geometry chip victim - geometry.pages)
    + 2 * current_count geometry chip victim + waiting (fresh chip buffer)

-- whether a step did nothing
abbrev pub is_idle : Collected → Bool
is_idle Idle = true
is_idle (Copied p) = false
is_idle Read = false
is_idle (Freed block) = false

-- how many steps are left at most before one is idle
abbrev pub uncollected : Geometry → CollectState → ℕ
uncollected geometry s =
    if is_idle (collect_step geometry s).did then 0 else left_with geometry s.chip s.buffer s.victim

-- each full block holds current pages alone
abbrev pub AreCollected : Geometry → List Page → Type 0
AreCollected geometry chip = (block : ℕ) → block < geometry.blocks → IsFull geometry chip block
    → current_count geometry chip block ≡ geometry.pages

-- a bound on the steps that are left until the victim is erased
abbrev pub room_with : Geometry → List Page → Option Buffered → Option ℕ → ℕ
room_with geometry chip buffer None = 2 * geometry.pages - 1
room_with geometry chip buffer (Some victim) = 2 * current_count geometry chip victim + waiting (fresh chip buffer)

-- how many steps are left at most until more than an erase block's worth of pages is erased
abbrev pub until_room : Geometry → CollectState → ℕ
until_room geometry s =
    if nat_lt geometry.pages (erased_count s.chip) then 0 else room_with geometry s.chip s.buffer s.victim
