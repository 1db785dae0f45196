-- One step of the collector, on a chip, a held victim and a buffer.
use Rattle.std.specs.Prelude.{◌≡◌, ℕ, ◌+◌, ◌-◌, ◌*◌, ◌^◌, ◌<◌, ◌≤◌, Bool, true, false, nat_eq, if◌then◌else◌, List}
use Rattle.std.specs.Prelude.{length, map, count_by, Option, None, Some, MatchOption, slice_set, zero, suc}
use Rattle.std.specs.Option.{option_and_then, option_map_or, option_or}
use Rattle.std.specs.List.{range_with_len}
use Rattle.flash_pages.specs.declared.chip.Geometry.{Geometry}
use Rattle.flash_pages.specs.Chip.{Page, Erased, Written, page_at, bytes_of, is_erased, erased_count, erase_block}
use Rattle.flash_pages.specs.Chip.{IsWithinLimits}
use Rattle.flash_pages.specs.Place.{Place}
use Rattle.flash_pages.specs.Unit.{place_of, current, next_seq}
use Rattle.flash_pages.specs.Sound.{block_pages, is_current, current_count, IsFull, ChipOk}
use Rattle.page_validity.specs.ValidPages.{first_between}
use Rattle.block_collector.specs.Room.{open_block, victim_of}

-- a page's place and its block, kept until the block is programmed elsewhere
pub record Buffered : Type 0 where
  pub page : ℕ
  pub place : Place
  pub bytes : List ℕ

-- what a step works on: a chip, the victim that is held, and the buffer
pub record CollectState : Type 0 where
  pub chip : List Page
  pub victim : Option ℕ
  pub buffer : Option Buffered

-- what a step did: nothing; it copied the block of a place; it read a page; it erased a block
pub data Collected : Type 0 where
  Idle : Collected
  Copied : Place → Collected
  Read : Collected
  Freed : ℕ → Collected

-- a step: what it did, and what it leaves
pub record Step : Type 0 where
  pub did : Collected
  pub state : CollectState

-- how many pages of a block are written, and of each block
abbrev pub written_in : Geometry → List Page → ℕ → ℕ
written_in geometry chip block = geometry.pages - count_by is_erased (block_pages geometry chip block)

abbrev pub written_counts : Geometry → List Page → List ℕ
written_counts geometry chip = map (written_in geometry chip) (range_with_len 0 geometry.blocks)

-- the next page to write: the first erased one of the block that is written next
abbrev pub chip_frontier : Geometry → List Page → Option ℕ
chip_frontier geometry chip =
    option_and_then (λ block. first_between (block * geometry.pages) (block * geometry.pages + geometry.pages)
    (λ page. is_erased (page_at chip page)))
    (open_block geometry.pages (written_counts geometry chip))

-- the next block to erase
abbrev pub chip_victim : Geometry → List Page → Option ℕ
chip_victim geometry chip = victim_of geometry.pages (written_counts geometry chip) (current_count geometry chip)

-- whether a page is current, by its number
abbrev pub is_current_at : List Page → ℕ → Bool
is_current_at chip page = is_current chip (page_at chip page)

-- the first current page of a block
abbrev pub first_current : Geometry → List Page → ℕ → Option ℕ
first_current geometry chip block = first_between (block * geometry.pages) (block * geometry.pages + geometry.pages)
    (is_current_at chip)

-- the place that a page's spare area names; an erased page names none, and is given the first
abbrev pub place_named : Page → Place
place_named Erased = record { lun = 0; lba = 0 }
place_named (Written bytes spare) = place_of spare

abbrev pub buffered : List Page → ℕ → Buffered
buffered chip page =
    record { page = page; place = place_named (page_at chip page); bytes = bytes_of (page_at chip page) }

abbrev pub if_current : Bool → Buffered → Option Buffered
if_current true held = Some held
if_current false held = None

-- the buffer, or none where its page is no longer current
abbrev pub fresh : List Page → Option Buffered → Option Buffered
fresh chip None = None
fresh chip (Some held) = if_current (option_map_or (nat_eq held.page) (current chip held.place) false) held

-- the chip with a block programmed at the frontier, under the next number
abbrev pub programmed_at : List Page → Place → List ℕ → Option ℕ → List Page
programmed_at chip site bytes None = chip
programmed_at chip site bytes (Some page) =
    slice_set chip page (Written bytes (record { lun = site.lun; lba = site.lba; seq = next_seq chip }))

abbrev pub programmed : Geometry → List Page → Place → List ℕ → List Page
programmed geometry chip site bytes = programmed_at chip site bytes (chip_frontier geometry chip)

-- a step with nothing to copy: the next page is read, or the victim is erased where it has none left
abbrev pub read_or_erase : Geometry → List Page → ℕ → Option ℕ → Step
read_or_erase geometry chip victim (Some page) =
    record { did = Read; state = record { chip = chip; victim = Some victim; buffer = Some (buffered chip page) } }
read_or_erase geometry chip victim None =
    record {
      did = Freed victim;
      state = record { chip = erase_block chip geometry.pages victim; victim = None; buffer = None };
    }

-- a step with a victim: the buffer is programmed, where its page is still current
abbrev pub copy_or_read : Geometry → List Page → ℕ → Option Buffered → Step
copy_or_read geometry chip victim (Some held) =
    record {
      did = Copied held.place;
      state = record {
        chip = programmed geometry chip held.place held.bytes;
        victim = Some victim;
        buffer = None;
      };
    }
copy_or_read geometry chip victim None = read_or_erase geometry chip victim (first_current geometry chip victim)

-- a step with this victim; with none it is idle
abbrev pub step_with : Geometry → CollectState → Option ℕ → Step
step_with geometry s None = record { did = Idle; state = s }
step_with geometry s (Some victim) = copy_or_read geometry s.chip victim (fresh s.chip s.buffer)

-- the step: the victim is chosen first, where none is held
abbrev pub collect_step : Geometry → CollectState → Step
collect_step geometry s =
    if nat_eq (next_seq s.chip) (2 ^ 62) then record { did = Idle; state = s }
    else step_with geometry s (option_or s.victim (chip_victim geometry s.chip))

-- the state after n steps
abbrev pub collected : Geometry → ℕ → CollectState → CollectState
collected geometry zero s = s
collected geometry (suc n) s = collected geometry n (collect_step geometry s).state

-- the page is one of the block's
abbrev pub IsInBlock : Geometry → ℕ → ℕ → Type 0
IsInBlock geometry block page = (block * geometry.pages ≤ page) × (page < block * geometry.pages + geometry.pages)

-- a victim is full, has a page that is not current, and its current pages fit into the erased ones with a page to spare
pub record IsHeld (geometry : Geometry) (chip : List Page) (victim : ℕ) : Type 0 where
  pub in_range : victim < geometry.blocks
  pub full : IsFull geometry chip victim
  pub gains : current_count geometry chip victim < geometry.pages
  pub room : current_count geometry chip victim + 1 ≤ erased_count chip

-- a buffer has the place and the block of a page of the victim, current or not
pub record IsBuffer (geometry : Geometry) (chip : List Page) (victim : Option ℕ) (held : Buffered) : Type 0 where
  pub of_victim : MatchOption victim ⊥ (λ block. IsInBlock geometry block held.page)
  pub written : is_erased (page_at chip held.page) ≡ false
  pub place : place_named (page_at chip held.page) ≡ held.place
  pub bytes : bytes_of (page_at chip held.page) ≡ held.bytes

-- the states between two calls
pub record IsCollectable (geometry : Geometry) (luns units : ℕ) (s : CollectState) : Type 0 where
  pub within : IsWithinLimits geometry
  pub count : length s.chip ≡ geometry.blocks * geometry.pages
  pub sound : ChipOk geometry luns units s.chip
  pub victim : MatchOption s.victim (Unit {0}) (IsHeld geometry s.chip)
  pub buffer : MatchOption s.buffer (Unit {0}) (IsBuffer geometry s.chip s.victim)
