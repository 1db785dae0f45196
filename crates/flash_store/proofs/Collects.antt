-- What the index says of the next page that the collector copies, and of the buffer.
use Rattle.std.proofs.Common.{◌≡◌, ◌+◌, ◌*◌, ◌<◌, ℕ, List, true, false, length, Option, None, Some, MatchOption, sym, ap, ◌∙◌, subst, arith}
use Rattle.std.specs.Option.{option_and_then}
use Rattle.flash_pages.specs.declared.chip.Geometry.{Geometry}
use Rattle.flash_pages.specs.Chip.{Page, page_at, is_erased}
use Rattle.flash_pages.specs.Sound.{ChipOk}
use Rattle.page_validity.specs.ValidPages.{next_valid}
use Rattle.page_validity.proofs.FirstBetween.{IsFirst, first_between-some}
use Rattle.collector_laws.specs.CollectStep.{is_current_at, first_current, fresh, IsBuffer}
use Rattle.collector_laws.proofs.Keeps.{not-erased}
use Rattle.collector_laws.proofs.Room.{whole}
use Rattle.flash_store.specs.declared.tables.Index.{Index}
use Rattle.flash_store.specs.declared.tables.Held.{Held}
use Rattle.flash_store.specs.Entries.{is_valid_page}
use Rattle.flash_store.specs.Index.{IsIndexed, buffered_in}
use Rattle.flash_store.proofs.Current.{next_valid-is, stale-valid, still-fresh}

module _ (geometry : Geometry) (chip : List Page) (index : Index) (count : length chip ≡ geometry.blocks * geometry.pages) (indexed : IsIndexed geometry chip index)
    (sound : ChipOk geometry index.luns index.units chip) (victim : ℕ) (held_victim : index.collector.victim ≡ Some victim) where
  pub next_copy-is : option_and_then (λ block. next_valid index.collector.geometry.pages index.validity.valid block 0) index.collector.victim ≡ first_current geometry chip victim
  next_copy-is =
      ap (λ (g : Geometry). option_and_then (λ block. next_valid g.pages index.validity.valid block 0) index.collector.victim) indexed.shape.room_geometry
      ∙ ap (option_and_then (λ block. next_valid geometry.pages index.validity.valid block 0)) held_victim
      ∙ next_valid-is geometry chip index.validity.valid sound.one_newest indexed.mapped.valid (indexed.shape.whole_flags ∙ sym count) victim

  pub copy-inside : (page : ℕ) → victim < geometry.blocks → first_current geometry chip victim ≡ Some page → page < length chip
  copy-inside page in_range is =
      let first : IsFirst (victim * geometry.pages) (victim * geometry.pages + geometry.pages) (is_current_at chip) page =
      first_between-some (victim * geometry.pages) (victim * geometry.pages + geometry.pages) (is_current_at chip) page is in
      omega (arith, first.below, whole geometry chip indexed.shape.served.limits count victim in_range)

  pub copy-written : (page : ℕ) → first_current geometry chip victim ≡ Some page → is_erased (page_at chip page) ≡ false
  copy-written page is =
      not-erased chip (page_at chip page) (first_between-some (victim * geometry.pages) (victim * geometry.pages + geometry.pages) (is_current_at chip) page is).passed

  -- the buffer
  pub no-buffer : (held : Option Held) (bytes : List ℕ) → held ≡ None → fresh chip (buffered_in held bytes) ≡ None
  no-buffer held bytes none = ap (λ h. fresh chip (buffered_in h bytes)) none

  at_buffer : (held : Option Held) (bytes : List ℕ) (h : Held) → held ≡ Some h → MatchOption (buffered_in held bytes) (Unit {0}) (IsBuffer geometry chip (Some victim))
      → IsBuffer geometry chip (Some victim) (record { page = h.page; place = record { lun = h.lun; lba = h.lba }; bytes = bytes })
  at_buffer held bytes h is at = subst (λ o. MatchOption (buffered_in o bytes) (Unit {0}) (IsBuffer geometry chip (Some victim))) is at

  pub stale-buffer : (held : Option Held) (bytes : List ℕ) (h : Held) → held ≡ Some h → MatchOption (buffered_in held bytes) (Unit {0}) (IsBuffer geometry chip (Some victim))
      → is_valid_page chip h.page ≡ false → fresh chip (buffered_in held bytes) ≡ None
  stale-buffer held bytes h is at not_valid =
      ap (λ o. fresh chip (buffered_in o bytes)) is
      ∙ stale-valid geometry chip (Some victim) (record { page = h.page; place = record { lun = h.lun; lba = h.lba }; bytes = bytes }) (at_buffer held bytes h is at) not_valid

  pub fresh-buffer : (held : Option Held) (bytes : List ℕ) (h : Held) → held ≡ Some h → MatchOption (buffered_in held bytes) (Unit {0}) (IsBuffer geometry chip (Some victim))
      → is_valid_page chip h.page ≡ true → fresh chip (buffered_in held bytes) ≡ Some (record { page = h.page; place = record { lun = h.lun; lba = h.lba }; bytes = bytes })
  fresh-buffer held bytes h is at valid =
      ap (λ o. fresh chip (buffered_in o bytes)) is
      ∙ still-fresh geometry chip (Some victim) (record { page = h.page; place = record { lun = h.lun; lba = h.lba }; bytes = bytes }) (at_buffer held bytes h is at) valid
