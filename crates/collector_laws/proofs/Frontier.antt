-- The frontier is the page that the number of written pages names, and the valid pages are the current ones.
use Rattle.std.proofs.Common.{◌≡◌, ◌+◌, ◌-◌, ◌*◌, ◌<◌, ◌≤◌, ℕ, List, [], ◌∷◌, zero, suc, true, false, length, get_or, map, count_by, None, Some, refl, sym, ap, ◌∙◌, arith}
use Rattle.std.specs.Option.{option_map, option_and_then}
use Rattle.std.proofs.lemmas.List.Sums.{count_by-le-length}
use Rattle.flash_pages.specs.declared.chip.Geometry.{Geometry}
use Rattle.flash_pages.specs.Chip.{Page, Erased, Written, page_at, is_erased, IsWithinLimits}
use Rattle.flash_pages.specs.Sound.{ChipOk, is_current, current_count}
use Rattle.page_validity.specs.ValidPages.{block_part, first_between, valid_count}
use Rattle.page_validity.proofs.BlockParts.{get_or-block_part}
use Rattle.page_validity.proofs.FirstBetween.{first_between-is}
use Rattle.block_collector.specs.Room.{frontier, open_block}
use Rattle.block_collector.proofs.RoomLaws.{open_block-some}
use Rattle.collector_laws.specs.CollectStep.{written_counts, chip_frontier}
use Rattle.collector_laws.proofs.Counts.{count_by-cons, count_by-all, part-flags}
use Rattle.collector_laws.proofs.Room.{length-part, erased_in-le, blocks_written, written-at}

-- behind an erased page all are erased
all_behind : (pages : List Page) → ((i : ℕ) → i + 1 < length pages → page_at pages i ≡ Erased → page_at pages (suc i) ≡ Erased) → page_at pages 0 ≡ Erased → (i : ℕ) → i < length pages
    → page_at pages i ≡ Erased
all_behind pages order first zero inside = first
all_behind pages order first (suc i) inside = order i (omega arith) (all_behind pages order first i (omega arith))

-- the written pages stand in front of the erased ones
record IsSplit (pages : List Page) : Type 0 where
  front : (i : ℕ) → i + count_by is_erased pages < length pages → is_erased (page_at pages i) ≡ false
  behind : (i : ℕ) → i < length pages → length pages ≤ i + count_by is_erased pages → is_erased (page_at pages i) ≡ true

split : (pages : List Page) → ((i : ℕ) → i + 1 < length pages → page_at pages i ≡ Erased → page_at pages (suc i) ≡ Erased) → IsSplit pages
split [] order = record { front = λ i below. absurd (omega arith); behind = λ i inside _. absurd (omega arith) }
split (Erased ∷ pages) order =
    let each : (i : ℕ) → i < length (Erased ∷ pages) → is_erased (page_at (Erased ∷ pages) i) ≡ true = λ i inside. ap is_erased (all_behind (Erased ∷ pages) order refl i inside) in
    let all : count_by is_erased (Erased ∷ pages) ≡ length (Erased ∷ pages) = count_by-all is_erased Erased (Erased ∷ pages) each in
    record { front = λ i below. absurd (omega (arith, all)); behind = λ i inside _. each i inside }
split (Written bytes spare ∷ pages) order =
    let rest : IsSplit pages = split pages (λ i inside. order (suc i) (omega arith)) in
    let same : count_by is_erased (Written bytes spare ∷ pages) ≡ 0 + count_by is_erased pages = count_by-cons is_erased (Written bytes spare) pages in
    record { front = front rest same; behind = behind rest same }
  where
    front : IsSplit pages → count_by is_erased (Written bytes spare ∷ pages) ≡ 0 + count_by is_erased pages → (i : ℕ) → i + count_by is_erased (Written bytes spare ∷ pages) < suc (length pages)
        → is_erased (page_at (Written bytes spare ∷ pages) i) ≡ false
    front rest same zero below = refl
    front rest same (suc i) below = rest.front i (omega (arith, same))

    behind : IsSplit pages → count_by is_erased (Written bytes spare ∷ pages) ≡ 0 + count_by is_erased pages → (i : ℕ) → i < suc (length pages)
        → suc (length pages) ≤ i + count_by is_erased (Written bytes spare ∷ pages) → is_erased (page_at (Written bytes spare ∷ pages) i) ≡ true
    behind rest same zero inside far = absurd (omega (arith, same, count_by-le-length is_erased pages))
    behind rest same (suc i) inside far = rest.behind i (omega arith) (omega (arith, same))

module _ (geometry : Geometry) (luns units : ℕ) (chip : List Page) (within : IsWithinLimits geometry) (count : length chip ≡ geometry.blocks * geometry.pages)
    (sound : ChipOk geometry luns units chip) where
  abbrev pages : ℕ
  pages = geometry.pages

  abbrev written : List ℕ
  written = written_counts geometry chip

  part_split : (block : ℕ) → block < geometry.blocks → IsSplit (block_part pages chip block)
  part_split block below =
      split (block_part pages chip block) (λ i inside first.
      let size : length (block_part pages chip block) ≡ pages = length-part geometry chip within count block below in
      let here : page_at (block_part pages chip block) i ≡ page_at chip (block * pages + i) = get_or-block_part pages chip block i Erased (omega (arith, size)) in
      let there : page_at (block_part pages chip block) (suc i) ≡ page_at chip (block * pages + suc i) = get_or-block_part pages chip block (suc i) Erased (omega (arith, size)) in
      there ∙ ap (page_at chip) (omega arith) ∙ sound.in_order block i below (omega (arith, size)) (sym here ∙ first))

  -- the frontier by the number of written pages
  pub frontier-chip : frontier pages written ≡ chip_frontier geometry chip
  frontier-chip =
      elim (open_block pages written)
      as (λ o. (open_block pages written ≡ o) → option_map (λ block. block * pages + get_or written block 0) o ≡ option_and_then
      (λ block. first_between (block * pages) (block * pages + pages) (λ page. is_erased (page_at chip page))) o) [
        | None ↦ λ _. refl
        | Some block ↦ λ is.
            let open_at : (block < length written) × (get_or written block 0 < pages) = open_block-some pages written (omega (arith, within.least_pages)) block is in
            let below : block < geometry.blocks = omega (arith, open_at.0, blocks_written geometry chip within count) in
            let size : length (block_part pages chip block) ≡ pages = length-part geometry chip within count block below in
            let k = get_or written block 0 in
            let k_is : k ≡ pages - count_by is_erased (block_part pages chip block) = written-at geometry chip within count block below in
            let few : count_by is_erased (block_part pages chip block) ≤ pages = erased_in-le geometry chip within count block below in
            let parts : IsSplit (block_part pages chip block) = part_split block below in
            sym (first_between-is (block * pages) (block * pages + pages) (λ page. is_erased (page_at chip page)) (block * pages + k)
            (record {
              from = omega arith;
              below = omega (arith, open_at.1);
              passed = ap is_erased (sym (get_or-block_part pages chip block k Erased open_at.1)) ∙ parts.behind k (omega (arith, size, open_at.1)) (omega (arith, size, k_is, few));
              earlier = λ m from before.
                  let i = m - block * pages in
                  let place : block * pages + i ≡ m = omega arith in
                  ap is_erased (sym (get_or-block_part pages chip block i Erased (omega (arith, open_at.1)) ∙ ap (page_at chip) place)) ∙ parts.front i (omega (arith, size, k_is, few, open_at.1));
            }))
      ] refl

-- the current pages of a block, counted as flags
pub valid_count-current : (geometry : Geometry) (chip : List Page) (block : ℕ) → valid_count geometry.pages (map (is_current chip) chip) block ≡ current_count geometry chip block
valid_count-current geometry chip block = part-flags (is_current chip) geometry.pages chip block
