-- The index of a store: what it keeps of its chip in memory.
use Rattle.std.specs.Prelude.{◌≡◌, ℕ, ◌-◌, ◌*◌, ◌≤◌, List, length, slice_index_or, Option, Some, None}
use Rattle.flash_pages.specs.declared.chip.Geometry.{Geometry}
use Rattle.flash_pages.specs.Chip.{Page, IsWithinLimits}
use Rattle.flash_pages.specs.Place.{Place, IsPlace, index_of}
use Rattle.flash_pages.specs.Unit.{current, next_seq}
use Rattle.page_validity.specs.ValidPages.{is_valid_in}
use Rattle.collector_laws.specs.CollectStep.{Buffered, written_counts}
use Rattle.flash_store.specs.declared.tables.Index.{Index}
use Rattle.flash_store.specs.declared.tables.Held.{Held}
use Rattle.flash_store.specs.Entries.{is_valid_page}

-- a chip of this geometry can hold this many logical units of this many blocks, with three erase blocks to spare
pub record CanServe (geometry : Geometry) (luns units : ℕ) : Type 0 where
  pub limits : IsWithinLimits geometry
  pub some_lun : 1 ≤ luns
  pub most_luns : luns ≤ 8
  pub some_block : 1 ≤ units
  pub room : luns * units ≤ (geometry.blocks - 3) * geometry.pages

-- the index is of this geometry
pub record HasShape (geometry : Geometry) (index : Index) : Type 0 where
  pub served : CanServe geometry index.luns index.units
  pub whole_map : length index.map.pages ≡ index.luns * index.units
  pub map_pages : index.map.page_count ≡ geometry.blocks * geometry.pages
  pub whole_flags : length index.validity.valid ≡ geometry.blocks * geometry.pages
  pub validity_geometry : index.validity.geometry ≡ geometry
  pub room_geometry : index.collector.geometry ≡ geometry
  pub blocks : length index.collector.written ≡ geometry.blocks

-- the map has the current page of each block, the current pages are marked, and the next number is the chip's
pub record IsMapped (chip : List Page) (index : Index) : Type 0 where
  pub mapped : (p : Place) → IsPlace index.luns index.units p
      → slice_index_or index.map.pages (index_of index.units p) None ≡ current chip p
  pub valid : (page : ℕ) → is_valid_in index.validity.valid page ≡ is_valid_page chip page
  pub numbered : index.next_seq ≡ next_seq chip

-- and the written pages of each block are counted
pub record IsIndexed (geometry : Geometry) (chip : List Page) (index : Index) : Type 0 where
  pub shape : HasShape geometry index
  pub mapped : IsMapped chip index
  pub written : index.collector.written ≡ written_counts geometry chip

-- a page that is held, with the bytes of the buffer
abbrev pub buffered_in : Option Held → List ℕ → Option Buffered
buffered_in None bytes = None
buffered_in (Some held) bytes =
    Some (record { page = held.page; place = record { lun = held.lun; lba = held.lba }; bytes = bytes })
