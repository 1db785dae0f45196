-- The written pages of each block, after a program at the frontier and after an erase.
use Rattle.std.proofs.Common.{◌≡◌, ◌≢◌, ◌+◌, ◌-◌, ◌*◌, ◌<◌, ◌≤◌, ℕ, List, ◌++◌, length, get_or, set, take, drop, replicate, count_by, sym, ap, ◌∙◌, inl, inr, arith}
use Rattle.std.specs.Option.{option_map_or}
use Rattle.std.proofs.lemmas.List.{length-set, length-append, length-take-le, length-drop, length-replicate, ext_get_or, get_or-set_same, get_or-set_other}
use Rattle.std.proofs.lemmas.Bool.{cases_eq}
use Rattle.flash_pages.specs.declared.chip.Geometry.{Geometry}
use Rattle.flash_pages.specs.Chip.{Page, Erased, Written, page_at, is_erased, erased_count, erase_block, IsWithinLimits}
use Rattle.flash_pages.specs.Place.{Place}
use Rattle.flash_pages.specs.Unit.{next_seq}
use Rattle.page_validity.specs.ValidPages.{block_part}
use Rattle.page_validity.proofs.BlockParts.{block_part-set_other, count_by-block_part-set, get_or-block_part}
use Rattle.block_collector.specs.Room.{one_more_written}
use Rattle.collector_laws.specs.CollectStep.{written_in, written_counts, programmed, programmed_at}
use Rattle.collector_laws.proofs.Counts.{flag_count, count_by-all, IsAfter, after_erase}
use Rattle.collector_laws.proofs.Room.{whole, length-part, erased_in-le, blocks_written, written-at, HasFrontier, frontier_found}
use Rattle.collector_laws.proofs.Sound.{outside_other}

module _ (geometry : Geometry) (chip : List Page) (within : IsWithinLimits geometry) (count : length chip ≡ geometry.blocks * geometry.pages) where
  abbrev pages : ℕ
  pages = geometry.pages

  abbrev written : List ℕ
  written = written_counts geometry chip

  size : length written ≡ geometry.blocks
  size = blocks_written geometry chip within count

  -- a chip whose counts differ in one block
  changed : (after : List Page) → length after ≡ geometry.blocks * geometry.pages → (block n : ℕ) → block < geometry.blocks → written_in geometry after block ≡ n
      → ((other : ℕ) → other < geometry.blocks → other ≢ block → written_in geometry after other ≡ written_in geometry chip other) → written_counts geometry after ≡ set written block n
  changed after after_count block n in_range own others =
      ext_get_or 0 (written_counts geometry after) (set written block n)
      (blocks_written geometry after within after_count ∙ sym (length-set written block n ∙ size))
      (λ i below.
      let inside : i < geometry.blocks = omega (arith, below, blocks_written geometry after within after_count) in
      written-at geometry after within after_count i inside
      ∙ elim (cases_eq i block) [
        | inl same ↦
            ap (written_in geometry after) same ∙ own
            ∙ sym (ap (λ k. get_or (set written block n) k 0) same ∙ get_or-set_same written block n 0 (omega (arith, size, in_range)))
        | inr apart ↦
            others i inside apart
            ∙ sym (get_or-set_other written block i n 0 apart ∙ written-at geometry chip within count i inside)
      ])

  pub written_counts-programmed : (site : Place) (bytes : List ℕ) → 0 < erased_count chip → written_counts geometry (programmed geometry chip site bytes) ≡ one_more_written pages written
  written_counts-programmed site bytes some =
      let front : HasFrontier geometry chip within count = frontier_found geometry chip within count some in
      let page : Page = Written bytes (record { lun = site.lun; lba = site.lba; seq = next_seq chip }) in
      let after : List Page = set chip front.page page in
      let one_flag : flag_count (is_erased (page_at chip front.page)) ≡ 1 = ap (λ p. flag_count (is_erased p)) front.erased in
      let less : count_by is_erased (block_part pages after front.block) + flag_count (is_erased (page_at chip front.page)) ≡ count_by is_erased (block_part pages chip front.block) + 0 =
      count_by-block_part-set is_erased pages chip front.block front.page page Erased front.from front.below (whole geometry chip within count front.block front.in_range) in
      let most : count_by is_erased (block_part pages chip front.block) ≤ pages = erased_in-le geometry chip within count front.block front.in_range in
      let before : get_or written front.block 0 ≡ written_in geometry chip front.block = written-at geometry chip within count front.block front.in_range in
      ap (written_counts geometry) (ap (programmed_at chip site bytes) front.is)
      ∙ changed after (length-set chip front.page page ∙ count) front.block (get_or written front.block 0 + 1) front.in_range (omega (arith, less, one_flag, most, before))
      (λ other below apart. ap (λ part. pages - count_by is_erased part)
      (block_part-set_other pages chip other front.page page (outside_other front.block other front.page pages apart front.from front.below)))
      ∙ sym (ap (λ o. option_map_or (λ block. set written block (get_or written block 0 + 1)) o written) front.is_open)

  pub written_counts-erased : (victim : ℕ) → victim < geometry.blocks → written_counts geometry (erase_block chip pages victim) ≡ set written victim 0
  written_counts-erased victim in_range =
      let first = victim * pages in
      let inside : first + pages ≤ length chip = whole geometry chip within count victim in_range in
      let gone : List Page = erase_block chip pages victim in
      let long : length gone ≡ geometry.blocks * geometry.pages =
      length-append (take first chip ++ replicate (first + pages - first) Erased) (drop (first + pages) chip)
      ∙ omega (
        arith,
        count,
        inside,
        length-append (take first chip) (replicate (first + pages - first) Erased),
        length-take-le first chip (omega arith),
        length-replicate
            (first + pages - first) Erased,
        length-drop (first + pages) chip,
      ) in
      let at : (page : ℕ) → IsAfter chip first pages inside page = after_erase chip first pages inside in
      let all : count_by is_erased (block_part pages gone victim) ≡ pages =
      count_by-all is_erased Erased (block_part pages gone victim) (λ i below.
      let short : i < pages = omega (arith, below, length-part geometry gone within long victim in_range) in
      ap is_erased (get_or-block_part pages gone victim i Erased short ∙ (at (first + i)).within (omega arith) (omega arith)))
      ∙ length-part geometry gone within long victim in_range in
      changed gone long victim 0 in_range (omega (arith, all))
      (λ other below apart.
      let part : block_part pages gone other ≡ block_part pages chip other =
      ext_get_or Erased (block_part pages gone other) (block_part pages chip other)
      (length-part geometry gone within long other below ∙ sym (length-part geometry chip within count other below))
      (λ i inner.
      let short : i < pages = omega (arith, inner, length-part geometry gone within long other below) in
      get_or-block_part pages gone other i Erased short
      ∙ (at (other * pages + i)).stays (outside_other other victim (other * pages + i) pages (λ e. apart (sym e)) (omega arith) (omega arith))
      ∙ sym (get_or-block_part pages chip other i Erased short)) in
      ap (λ part. pages - count_by is_erased part) part)
