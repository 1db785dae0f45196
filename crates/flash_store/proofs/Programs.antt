-- The index over a program at the frontier, and over an erase of a block that holds no current page.
use Rattle.std.proofs.Common.{◌≡◌, ◌≢◌, ◌⊎◌, ◌+◌, ◌*◌, ◌<◌, ◌≤◌, ℕ, List, false, nat_eq, length, set, get_or, Option, None, Some, refl, sym, subst, ap, ◌∙◌, inl, inr, arith}
use Rattle.std.specs.Option.{option_map_or}
use Rattle.std.proofs.lemmas.List.{length-set, get_or-set_same, get_or-set_other}
use Rattle.std.proofs.lemmas.Bool.{cases_lt}
use Rattle.flash_pages.specs.declared.chip.Geometry.{Geometry}
use Rattle.flash_pages.specs.declared.chip.Spare.{Spare}
use Rattle.flash_pages.specs.Chip.{Page, Erased, Written, page_at, erased_count, erase_block, IsWithinLimits}
use Rattle.flash_pages.specs.Place.{Place, IsPlace, index_of, place_at}
use Rattle.flash_pages.specs.Unit.{place_of, current, next_seq}
use Rattle.flash_pages.specs.Sound.{ChipOk, IsFull}
use Rattle.flash_pages.proofs.Places.{place_at-index_of, index_of-inside, cases_place}
use Rattle.flash_pages.proofs.Programming.{current-programmed, current-others, next_seq-programmed}
use Rattle.block_collector.specs.Room.{frontier, one_more_written}
use Rattle.collector_laws.specs.CollectStep.{programmed, programmed_at, first_current, written_counts}
use Rattle.collector_laws.proofs.Counts.{IsAfter, after_erase}
use Rattle.collector_laws.proofs.Frontier.{frontier-chip}
use Rattle.collector_laws.proofs.Numbers.{no_flag, current-freed, next_seq-freed}
use Rattle.collector_laws.proofs.Room.{HasFrontier, frontier_found, whole, blocks_written, written-at}
use Rattle.collector_laws.proofs.Tracking.{written_counts-programmed, written_counts-erased}
use Rattle.flash_store.specs.declared.tables.Index.{Index}
use Rattle.flash_store.specs.Entries.{has_current, is_valid_page, flags_after}
use Rattle.flash_store.specs.Index.{IsIndexed}
use Rattle.flash_store.proofs.Current.{valid-is_current}
use Rattle.flash_store.proofs.Valid.{valid-programmed, length-flags_after}

pub some_same : (a b : ℕ) → Some a ≡ Some b → a ≡ b
some_same a b e = cc

-- two places of the units stand apart
pub index-apart : (luns units : ℕ) (p q : Place) → IsPlace luns units p → IsPlace luns units q → index_of units p ≡ index_of units q → p ≡ q
index-apart luns units p q in_p in_q same =
    sym (place_at-index_of units p in_p.lba) ∙ ap (place_at units) same ∙ place_at-index_of units q in_q.lba

-- the map, once a page took a place
pub mapped-set : (luns units : ℕ) (chip after : List Page) (pages : List (Option ℕ)) (place : Place) (page : ℕ) → length pages ≡ luns * units
    → ((p : Place) → IsPlace luns units p → get_or pages (index_of units p) None ≡ current chip p) → IsPlace luns units place → current after place ≡ Some page
    → ((p : Place) → place ≢ p → current after p ≡ current chip p) → (p : Place) → IsPlace luns units p
    → get_or (set pages (index_of units place) (Some page)) (index_of units p) None ≡ current after p
mapped-set luns units chip after pages place page size mapped in_units now others p in_p =
    elim (cases_place place p) [
      | inl same ↦
          let P : Place → Type 0 = λ q. get_or (set pages (index_of units place) (Some page)) (index_of units q) None ≡ current after q in
          subst P same (get_or-set_same pages (index_of units place) (Some page) None (rw size (index_of-inside luns units place in_units)) ∙ sym now)
      | inr apart ↦
          get_or-set_other pages (index_of units place) (index_of units p) (Some page) None
          (λ e. apart (index-apart luns units place p in_units in_p (sym e)))
          ∙ mapped p in_p
          ∙ sym (others p apart)
    ]

module _ (geometry : Geometry) (chip : List Page) (index : Index) (count : length chip ≡ geometry.blocks * geometry.pages) (indexed : IsIndexed geometry chip index)
    (sound : ChipOk geometry index.luns index.units chip) where
  abbrev within : IsWithinLimits geometry
  within = indexed.shape.served.limits

  pub whole-flags : length index.validity.valid ≡ length chip
  whole-flags = indexed.shape.whole_flags ∙ sym count

  module _ (room : 0 < erased_count chip) where
    abbrev pub front : HasFrontier geometry chip within count
    front = frontier_found geometry chip within count room

    pub frontier-is : frontier index.collector.geometry.pages index.collector.written ≡ Some front.page
    frontier-is =
        ap (λ (g : Geometry). frontier g.pages index.collector.written) indexed.shape.room_geometry
        ∙ ap (frontier geometry.pages) indexed.written
        ∙ frontier-chip geometry index.luns index.units chip within count sound ∙ front.is

    module _ (place : Place) (bytes : List ℕ) (in_units : IsPlace index.luns index.units place) (lookups : ℕ) where
      abbrev spare : Spare
      spare = record { lun = place.lun; lba = place.lba; seq = next_seq chip }

      abbrev pub programmed_chip : List Page
      programmed_chip = set chip front.page (Written bytes spare)

      pub programmed-is : programmed geometry chip place bytes ≡ programmed_chip
      programmed-is = ap (programmed_at chip place bytes) front.is

      now : current programmed_chip place ≡ Some front.page
      now = current-programmed chip front.page bytes spare front.inside refl

      abbrev pub index_after : Index
      index_after = record {
        luns = index.luns;
        units = index.units;
        map = record { pages = set index.map.pages (index_of index.units place) (Some front.page); page_count = index.map.page_count; lookups = lookups };
        validity = record { geometry = index.validity.geometry; valid = flags_after index.validity.valid front.page (current chip place) };
        collector = record { geometry = index.collector.geometry; written = one_more_written index.collector.geometry.pages index.collector.written; victim = index.collector.victim };
        next_seq = index.next_seq + 1;
      }

      more_written : one_more_written index.collector.geometry.pages index.collector.written ≡ written_counts geometry programmed_chip
      more_written =
          ap (λ (g : Geometry). one_more_written g.pages index.collector.written) indexed.shape.room_geometry
          ∙ ap (one_more_written geometry.pages) indexed.written
          ∙ sym (written_counts-programmed geometry chip within count place bytes room)
          ∙ ap (written_counts geometry) programmed-is

      pub indexed-programmed : IsIndexed geometry programmed_chip index_after
      indexed-programmed = record {
        shape = record {
          served = indexed.shape.served;
          whole_map = length-set index.map.pages (index_of index.units place) (Some front.page) ∙ indexed.shape.whole_map;
          map_pages = indexed.shape.map_pages;
          whole_flags = length-flags_after chip index.validity.valid front.page bytes spare whole-flags indexed.mapped.valid front.inside front.erased now ∙ indexed.shape.whole_flags;
          validity_geometry = indexed.shape.validity_geometry;
          room_geometry = indexed.shape.room_geometry;
          blocks = ap length more_written ∙ blocks_written geometry programmed_chip within (length-set chip front.page (Written bytes spare) ∙ count);
        };
        mapped = record {
          mapped = mapped-set index.luns index.units chip programmed_chip index.map.pages place front.page indexed.shape.whole_map indexed.mapped.mapped in_units now
              (λ p apart. current-others chip front.page bytes spare front.inside front.erased p apart);
          valid = valid-programmed chip index.validity.valid front.page bytes spare whole-flags indexed.mapped.valid front.inside front.erased now;
          numbered = ap (λ n. n + 1) indexed.mapped.numbered ∙ sym (next_seq-programmed chip front.page bytes spare front.inside refl);
        };
        written = more_written;
      }

  module _ (victim : ℕ) (in_range : victim < geometry.blocks) (full : IsFull geometry chip victim) (copied : first_current geometry chip victim ≡ None) where
    abbrev first : ℕ
    first = victim * geometry.pages

    abbrev gone : List Page
    gone = erase_block chip geometry.pages victim

    same_current : (p : Place) → current gone p ≡ current chip p
    same_current = current-freed geometry chip within count sound.one_newest victim in_range copied

    at_page : (page : ℕ) → IsAfter chip first geometry.pages (whole geometry chip within count victim in_range) page
    at_page = after_erase chip first geometry.pages (whole geometry chip within count victim in_range)

    same_flag : (n : ℕ) (page : Page) → has_current gone n page ≡ has_current chip n page
    same_flag n Erased = refl
    same_flag n (Written bytes spare) = ap (λ o. option_map_or (nat_eq n) o false) (same_current (place_of spare))

    outside : (n : ℕ) → (n < first) ⊎ (first + geometry.pages ≤ n) → is_valid_page gone n ≡ is_valid_page chip n
    outside n out = ap (has_current gone n) ((at_page n).stays out) ∙ same_flag n (page_at chip n)

    still_valid : (n : ℕ) → is_valid_page gone n ≡ is_valid_page chip n
    still_valid n =
        elim (cases_lt n first) [
          | inl before ↦ outside n (inl before)
          | inr from ↦ elim (cases_lt n (first + geometry.pages)) [
            | inr behind ↦ outside n (inr behind)
            | inl below ↦ ap (has_current gone n) ((at_page n).within from below)
                ∙ sym (valid-is_current chip sound.one_newest n ∙ no_flag geometry chip within count sound.one_newest victim in_range copied n from below)
          ]
        ]

    pub full-written : get_or index.collector.written victim 0 ≡ geometry.pages
    full-written =
        ap (λ w. get_or w victim 0) indexed.written
        ∙ written-at geometry chip within count victim in_range
        ∙ omega (arith, full)

    pub indexed-erased : IsIndexed geometry gone (record {
      luns = index.luns;
      units = index.units;
      map = index.map;
      validity = index.validity;
      collector = record { geometry = index.collector.geometry; written = set index.collector.written victim 0; victim = None };
      next_seq = index.next_seq;
    })
    indexed-erased = record {
      shape = record {
        served = indexed.shape.served;
        whole_map = indexed.shape.whole_map;
        map_pages = indexed.shape.map_pages;
        whole_flags = indexed.shape.whole_flags;
        validity_geometry = indexed.shape.validity_geometry;
        room_geometry = indexed.shape.room_geometry;
        blocks = length-set index.collector.written victim 0 ∙ indexed.shape.blocks;
      };
      mapped = record {
        mapped = λ p in_p. indexed.mapped.mapped p in_p ∙ sym (same_current p);
        valid = λ n. indexed.mapped.valid n ∙ sym (still_valid n);
        numbered = indexed.mapped.numbered ∙ sym (next_seq-freed geometry chip within count sound.one_newest victim in_range copied);
      };
      written = ap (λ w. set w victim 0) indexed.written ∙ sym (written_counts-erased geometry chip within count victim in_range);
    }
