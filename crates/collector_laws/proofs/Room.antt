-- The frontier and the victim of a chip.
use Rattle.std.proofs.Common.{◌≡◌, ◌+◌, ◌-◌, ◌*◌, ◌<◌, ◌≤◌, ℕ, List, zero, suc, Bool, true, false, nat_lt, length, get_or, count_by, Option, None, Some, refl, ap, ◌∙◌, subst, inl, inr, arith}
use Rattle.std.specs.Option.{option_and_then, option_or}
use Rattle.std.proofs.lemmas.List.{take_all}
use Rattle.std.proofs.lemmas.List.FromFn.{length-map-range_with_len, get_or-map-range_with_len}
use Rattle.std.proofs.lemmas.List.Sums.{count_by-le-length}
use Rattle.std.proofs.lemmas.Bool.{both_ways, and_from, and_parts, lt-ltb, ltb-true}
use Rattle.flash_pages.specs.declared.chip.Geometry.{Geometry}
use Rattle.flash_pages.specs.Chip.{Page, Erased, Written, page_at, is_erased, erased_count, IsWithinLimits}
use Rattle.flash_pages.specs.Sound.{block_pages, current_count, HasRoom, IsPartlyWritten}
use Rattle.page_validity.specs.ValidPages.{block_part, first_between}
use Rattle.page_validity.proofs.BlockParts.{blocks_apart, length-block_part, get_or-block_part}
use Rattle.page_validity.proofs.FirstBetween.{IsFirst, first_between-some, first_between-none}
use Rattle.block_collector.specs.Room.{IsVictim, IsChoice, open_block, erased_pages, first_block, is_partly_written, is_wholly_erased}
use Rattle.block_collector.proofs.Totals.{total}
use Rattle.block_collector.proofs.RoomLaws.{open_block-some, open_block-none, erased_pages-total}
use Rattle.block_collector.proofs.Choices.{IsChoice-victim_of}
use Rattle.collector_laws.specs.CollectStep.{written_in, written_counts, chip_frontier, chip_victim, IsHeld}
use Rattle.collector_laws.proofs.Counts.{count_by-total, count_by-none}

some_same : (a b : ℕ) → Some a ≡ Some b → a ≡ b
some_same a b e = cc

total-same : (f g : ℕ → ℕ) (n : ℕ) → ((i : ℕ) → i < n → f i ≡ g i) → total f n ≡ total g n
total-same f g zero each = refl
total-same f g (suc n) each = omega (arith, total-same f g n (λ i below. each i (omega arith)), each n (omega arith))

is_erased-page : (p : Page) → is_erased p ≡ true → p ≡ Erased
is_erased-page Erased e = refl
is_erased-page (Written bytes spare) e = cc

module _ (geometry : Geometry) (chip : List Page) (within : IsWithinLimits geometry) (count : length chip ≡ geometry.blocks * geometry.pages) where
  abbrev pages : ℕ
  pages = geometry.pages

  abbrev written : List ℕ
  written = written_counts geometry chip

  abbrev erased_in : ℕ → ℕ
  erased_in block = count_by is_erased (block_pages geometry chip block)

  pub whole : (block : ℕ) → block < geometry.blocks → block * pages + pages ≤ length chip
  whole block below = omega (arith, blocks_apart block geometry.blocks pages below, count)

  pub length-part : (block : ℕ) → block < geometry.blocks → length (block_part pages chip block) ≡ pages
  length-part block below = length-block_part pages chip block (whole block below)

  pub erased_in-le : (block : ℕ) → block < geometry.blocks → erased_in block ≤ pages
  erased_in-le block below = omega (arith, length-part block below, count_by-le-length is_erased (block_part pages chip block))

  pub blocks_written : length written ≡ geometry.blocks
  blocks_written = length-map-range_with_len (written_in geometry chip) 0 geometry.blocks

  pub written-at : (block : ℕ) → block < geometry.blocks → get_or written block 0 ≡ written_in geometry chip block
  written-at block below = get_or-map-range_with_len (written_in geometry chip) 0 geometry.blocks block block 0 below (omega arith)

  pub erased_total : erased_pages pages written ≡ erased_count chip
  erased_total =
      erased_pages-total pages written
      ∙ ap (total (λ block. pages - get_or written block 0)) blocks_written
      ∙ total-same (λ block. pages - get_or written block 0) erased_in geometry.blocks (λ block below. omega (arith, written-at block below, erased_in-le block below))
      ∙ count_by-total is_erased pages chip geometry.blocks
      ∙ ap (count_by is_erased) (take_all (geometry.blocks * pages) chip (omega (arith, count)))

  -- where a page is erased there is a frontier, and it is erased
  pub record HasFrontier : Type 0 where
    pub page : ℕ
    pub is : chip_frontier geometry chip ≡ Some page
    pub inside : page < length chip
    pub erased : page_at chip page ≡ Erased
    pub block : ℕ
    pub is_open : open_block pages written ≡ Some block
    pub in_range : block < geometry.blocks
    pub from : block * pages ≤ page
    pub below : page < block * pages + pages
    pub earlier : (m : ℕ) → block * pages ≤ m → m < page → is_erased (page_at chip m) ≡ false

  abbrev erased_at : ℕ → Bool
  erased_at page = is_erased (page_at chip page)

  abbrev next_in : ℕ → Option ℕ
  next_in block = first_between (block * pages) (block * pages + pages) erased_at

  pub frontier_found : 0 < erased_count chip → HasFrontier
  frontier_found some =
      elim (open_block pages written)
      as (λ o. (open_block pages written ≡ o) → HasFrontier) [
        | None ↦ λ none. absurd (omega (arith, some, erased_total, open_block-none pages written none))
        | Some block ↦ λ is_open.
            let open_at : (block < length written) × (get_or written block 0 < pages) = open_block-some pages written (omega (arith, within.least_pages)) block is_open in
            let below : block < geometry.blocks = omega (arith, open_at.0, blocks_written) in
            elim (next_in block)
            as (λ o. (next_in block ≡ o) → HasFrontier) [
              | None ↦ λ none.
                  let empty : erased_in block ≡ 0 = count_by-none is_erased Erased (block_part pages chip block) (λ i inside.
                  let short : i < pages = omega (arith, inside, length-part block below) in
                  ap is_erased (get_or-block_part pages chip block i Erased short)
                  ∙ first_between-none (block * pages) (block * pages + pages) erased_at none (block * pages + i) (omega arith) (omega arith)) in
                  absurd (omega (arith, open_at.1, written-at block below, empty))
              | Some page ↦ λ is.
                  let first : IsFirst (block * pages) (block * pages + pages) erased_at page = first_between-some (block * pages) (block * pages + pages) erased_at page is in
                  record {
                    page = page;
                    is = ap (option_and_then next_in) is_open ∙ is;
                    inside = omega (arith, first.below, whole block below);
                    erased = is_erased-page (page_at chip page) first.passed;
                    block = block;
                    is_open = is_open;
                    in_range = below;
                    from = first.from;
                    below = first.below;
                    earlier = first.earlier;
                  }
            ] refl
      ] refl

  -- where a block is partly written, so is the open one
  pub open_partly : (block other : ℕ) → open_block pages written ≡ Some block → other < geometry.blocks → IsPartlyWritten geometry chip other → IsPartlyWritten geometry chip block
  open_partly block other is_open below partly =
      elim (first_block written (is_partly_written pages written))
      as (λ o. (first_block written (is_partly_written pages written) ≡ o) → option_or o (first_block written (is_wholly_erased written)) ≡ Some block → IsPartlyWritten geometry chip block) [
        | None ↦ λ none _.
            let at : get_or written other 0 ≡ written_in geometry chip other = written-at other below in
            let is_partly : is_partly_written pages written other ≡ true =
            and_from (nat_lt 0 (get_or written other 0)) (nat_lt (get_or written other 0) pages) (lt-ltb 0 (get_or written other 0) (omega (arith, partly.1)))
            (lt-ltb (get_or written other 0) pages (omega (arith, partly.0, partly.1))) in
            absurd (both_ways (is_partly_written pages written other) (first_between-none 0 (length written) (is_partly_written pages written) none other (omega arith)
            (omega (arith, blocks_written))) is_partly)
        | Some first ↦ λ is same.
            let at_first : IsFirst 0 (length written) (is_partly_written pages written) first = first_between-some 0 (length written) (is_partly_written pages written) first is in
            let parts = and_parts (nat_lt 0 (get_or written first 0)) (nat_lt (get_or written first 0) pages) at_first.passed in
            let in_blocks : first < geometry.blocks = omega (arith, at_first.below, blocks_written) in
            let above : 0 < get_or written first 0 = ltb-true 0 (get_or written first 0) parts.0 in
            let under : get_or written first 0 < pages = ltb-true (get_or written first 0) pages parts.1 in
            subst (IsPartlyWritten geometry chip) (some_same first block same)
            (omega (arith, above, under, written-at first in_blocks, erased_in-le first in_blocks), omega (arith, above, under, written-at first in_blocks, erased_in-le first in_blocks))
      ] refl is_open

  -- the victim that is chosen
  pub chosen : HasRoom geometry chip → (block : ℕ) → chip_victim geometry chip ≡ Some block → IsHeld geometry chip block × (current_count geometry chip block < pages)
  chosen room block is =
      let at : IsVictim pages written (current_count geometry chip) block =
      subst (IsChoice pages written (current_count geometry chip)) is (IsChoice-victim_of pages written (current_count geometry chip)) in
      let below : block < geometry.blocks = omega (arith, at.full.0, blocks_written) in (
        record {
          in_range = below;
          full = omega (arith, at.full.1, written-at block below, erased_in-le block below, within.least_pages);
          gains = at.gains;
          room = elim room [
            | inl many ↦ omega (arith, many, at.gains)
            | inr other ↦
                let full : get_or written other.0 0 ≡ pages = omega (arith, written-at other.0 other.1, other.2) in
                omega (arith, other.3, at.fewest other.0 (omega (arith, other.1, blocks_written), full))
          ];
        },
        at.gains,
      )
