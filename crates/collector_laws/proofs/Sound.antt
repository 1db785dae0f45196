-- A program at the frontier and an erase of a collected block leave a sound chip sound.
use Rattle.std.proofs.Common.{◌≡◌, ◌≢◌, ◌+◌, ◌-◌, ◌*◌, ◌^◌, ◌<◌, ◌≤◌, ◌⊎◌, ℕ, List, length, get_or, set, map, count_by, Some, refl, sym, ap, ◌∙◌, subst, inl, inr, arith}
use Rattle.std.proofs.lemmas.List.{length-map, ext_get_or, get_or-map, get_or_past}
use Rattle.std.proofs.lemmas.List.Elements.{All-set, All-from_get_or}
use Rattle.std.proofs.lemmas.Bool.{cases_eq, cases_lt, both_ways}
use Rattle.flash_pages.specs.declared.chip.Geometry.{Geometry}
use Rattle.flash_pages.specs.declared.chip.Spare.{Spare}
use Rattle.flash_pages.specs.Chip.{Page, Erased, Written, page_at, is_erased, erase_block, IsWithinLimits}
use Rattle.flash_pages.specs.Place.{Place, IsPlace}
use Rattle.flash_pages.specs.Unit.{rank_of, current, next_seq}
use Rattle.flash_pages.specs.Sound.{ChipOk, HasRoom, HasGoodSpare, IsPartlyWritten, block_pages}
use Rattle.flash_pages.proofs.Greatest.{greatest-le}
use Rattle.page_validity.specs.ValidPages.{block_part}
use Rattle.page_validity.proofs.BlockParts.{blocks_apart, block_part-set_other, get_or-block_part}
use Rattle.collector_laws.proofs.Flags.{page-same, page-new, one_newest-after}
use Rattle.collector_laws.proofs.Counts.{IsAfter, after_erase, one_newest-erased, count_by-all}
use Rattle.collector_laws.proofs.Room.{whole, length-part, HasFrontier, open_partly}

-- the block of a page, and its place there
one_block : (a b x y pages : ℕ) → x < pages → y < pages → a * pages + x ≡ b * pages + y → a ≡ b
one_block a b x y pages in_x in_y same =
    elim (cases_lt a b) [
      | inl below ↦ absurd (omega (arith, blocks_apart a b pages below))
      | inr above ↦ elim (cases_eq a b) [
        | inl e ↦ e
        | inr apart ↦ absurd (omega (arith, blocks_apart b a pages (omega arith)))
      ]
    ]

-- a page of a block stands outside every other block
pub outside_other : (block other page pages : ℕ) → other ≢ block → block * pages ≤ page → page < block * pages + pages → (page < other * pages) ⊎ (other * pages + pages ≤ page)
outside_other block other page pages apart from below =
    elim (cases_lt other block) [
      | inl before ↦ inr (omega (arith, blocks_apart other block pages before))
      | inr after ↦ inl (omega (arith, blocks_apart block other pages (omega arith)))
    ]

written≢erased : (bytes : List ℕ) (spare : Spare) → Written bytes spare ≡ Erased → ⊥
written≢erased bytes spare e = cc

module _ (geometry : Geometry) (luns units : ℕ) (chip : List Page) (within : IsWithinLimits geometry) (count : length chip ≡ geometry.blocks * geometry.pages)
    (sound : ChipOk geometry luns units chip) where
  abbrev pages : ℕ
  pages = geometry.pages

  good_rank : (page : Page) → HasGoodSpare luns units page → rank_of page ≤ 2 ^ 62
  good_rank Erased good = omega arith
  good_rank (Written bytes spare) good = omega (arith, good.1)

  -- the next number is within its limit
  pub next_seq-le : next_seq chip ≤ 2 ^ 62
  next_seq-le = greatest-le (map rank_of chip) (2 ^ 62) (λ i. elim (cases_lt i (length chip)) [
    | inl inside ↦
        let rank : get_or (map rank_of chip) i 0 ≡ rank_of (page_at chip i) = get_or-map rank_of chip i Erased 0 inside in
        omega (arith, rank, good_rank (page_at chip i) (sound.spares i Erased inside))
    | inr past ↦
        let none : get_or (map rank_of chip) i 0 ≡ 0 = get_or_past (map rank_of chip) i 0 (rw length-map past) in
        omega (arith, none)
  ])

  module _ (front : HasFrontier geometry chip within count) (site : Place) (bytes : List ℕ) (in_units : IsPlace luns units site) (in_limit : next_seq chip < 2 ^ 62) where
    abbrev spare : Spare
    spare = record { lun = site.lun; lba = site.lba; seq = next_seq chip }

    abbrev after : List Page
    after = set chip front.page (Written bytes spare)

    same_at : (n : ℕ) → n ≢ front.page → page_at after n ≡ page_at chip n
    same_at = page-same chip front.page bytes spare front.inside front.erased refl

    not_front : (n : ℕ) → page_at after n ≡ Erased → n ≢ front.page
    not_front n erased same = written≢erased bytes spare (sym (page-new chip front.page bytes spare front.inside front.erased refl) ∙ ap (page_at after) (sym same) ∙ erased)

    in_order : (block page : ℕ) → block < geometry.blocks → page + 1 < pages → page_at after (block * pages + page) ≡ Erased → page_at after (block * pages + page + 1) ≡ Erased
    in_order block page below short erased =
        let apart : block * pages + page ≢ front.page = not_front (block * pages + page) erased in
        let was : page_at chip (block * pages + page) ≡ Erased = sym (same_at (block * pages + page) apart) ∙ erased in
        let next : page_at chip (block * pages + page + 1) ≡ Erased = sound.in_order block page below short was in
        elim (cases_eq (block * pages + page + 1) front.page) [
          | inr other ↦ same_at (block * pages + page + 1) other ∙ next
          | inl here ↦
              let own : block ≡ front.block = one_block block front.block (page + 1) (front.page - front.block * pages) pages short (omega (arith, front.below, front.from))
              (omega (arith, front.from)) in
              let own_rows : block * pages ≡ front.block * pages = ap (λ b. b * pages) own in
              absurd (both_ways (is_erased (page_at chip (block * pages + page))) (front.earlier (block * pages + page) (omega (arith, own_rows)) (omega arith)) (ap is_erased was))
        ]

    is_open : (block : ℕ) → block < geometry.blocks → IsPartlyWritten geometry after block → block ≡ front.block
    is_open block below partly =
        elim (cases_eq block front.block) [
          | inl same ↦ same
          | inr apart ↦
              let same : count_by is_erased (block_pages geometry after block) ≡ count_by is_erased (block_pages geometry chip block) =
              ap (count_by is_erased) (block_part-set_other pages chip block front.page (Written bytes spare) (outside_other front.block block front.page pages apart front.from front.below)) in
              let was : IsPartlyWritten geometry chip block = (omega (arith, same, partly.0), omega (arith, same, partly.1)) in
              sound.one_partly_written block front.block below front.in_range was (open_partly geometry chip within count front.block block front.is_open below was)
        ]

    -- a program at the frontier, where room is left
    pub ChipOk-programmed : HasRoom geometry after → ChipOk geometry luns units after
    ChipOk-programmed room = record {
      spares = All-set (HasGoodSpare luns units) chip front.page (Written bytes spare) (in_units, in_limit) sound.spares;
      one_newest = one_newest-after chip front.page bytes spare front.inside front.erased refl sound.one_newest;
      in_order = in_order;
      one_partly_written = λ a b in_a in_b partly_a partly_b. is_open a in_a partly_a ∙ sym (is_open b in_b partly_b);
      room = room;
    }

  module _ (victim : ℕ) (in_range : victim < geometry.blocks) (none_current : (site : Place) (page : ℕ) → victim * pages ≤ page → page < victim * pages + pages → current chip site ≢ Some page) where
    abbrev gone : List Page
    gone = erase_block chip pages victim

    at_page : (page : ℕ) → IsAfter chip (victim * pages) pages (whole geometry chip within count victim in_range) page
    at_page page = after_erase chip (victim * pages) pages (whole geometry chip within count victim in_range) page

    in_order_gone : (block page : ℕ) → block < geometry.blocks → page + 1 < pages → page_at gone (block * pages + page) ≡ Erased → page_at gone (block * pages + page + 1) ≡ Erased
    in_order_gone block page below short erased =
        elim (cases_eq block victim) [
          | inl same ↦
              let rows : block * pages ≡ victim * pages = ap (λ b. b * pages) same in
              (at_page (block * pages + page + 1)).within (omega (arith, rows)) (omega (arith, rows))
          | inr apart ↦
              let was : page_at chip (block * pages + page) ≡ Erased =
              sym ((at_page (block * pages + page)).stays (outside_other block victim (block * pages + page) pages (λ e. apart (sym e)) (omega arith) (omega arith))) ∙ erased in
              (at_page (block * pages + page + 1)).stays (outside_other block victim (block * pages + page + 1) pages (λ e. apart (sym e)) (omega arith) (omega arith))
              ∙ sound.in_order block page below short was
        ]

    length_gone : (size : length gone ≡ length chip) → length gone ≡ geometry.blocks * geometry.pages
    length_gone size = size ∙ count

    partly_gone : length gone ≡ length chip → (block : ℕ) → block < geometry.blocks → IsPartlyWritten geometry gone block → IsPartlyWritten geometry chip block
    partly_gone size block below partly =
        elim (cases_eq block victim) [
          | inl same ↦
              let part : count_by is_erased (block_part pages gone victim) ≡ pages = count_by-all is_erased Erased (block_part pages gone victim) (λ i inside.
              let short : i < pages = omega (arith, inside, length-part geometry gone within (length_gone size) victim in_range) in
              ap is_erased (get_or-block_part pages gone victim i Erased short ∙ (at_page (victim * pages + i)).within (omega arith) (omega arith)))
              ∙ length-part geometry gone within (length_gone size) victim in_range in
              let here : count_by is_erased (block_part pages gone block) ≡ count_by is_erased (block_part pages gone victim) = ap (λ b. count_by is_erased (block_part pages gone b)) same in
              absurd (omega (arith, part, here, partly.1))
          | inr apart ↦
              let part : block_part pages gone block ≡ block_part pages chip block =
              ext_get_or Erased (block_part pages gone block) (block_part pages chip block)
              (length-part geometry gone within (length_gone size) block below ∙ sym (length-part geometry chip within count block below))
              (λ i inside.
              let short : i < pages = omega (arith, inside, length-part geometry gone within (length_gone size) block below) in
              get_or-block_part pages gone block i Erased short
              ∙ (at_page (block * pages + i)).stays (outside_other block victim (block * pages + i) pages (λ e. apart (sym e)) (omega arith) (omega arith))
              ∙ sym (get_or-block_part pages chip block i Erased short)) in
              let same : count_by is_erased (block_part pages gone block) ≡ count_by is_erased (block_part pages chip block) = ap (count_by is_erased) part in
              (omega (arith, same, partly.0), omega (arith, same, partly.1))
        ]

    -- an erase of a block that holds no current page
    pub ChipOk-erased : length gone ≡ length chip → HasRoom geometry gone → ChipOk geometry luns units gone
    ChipOk-erased size room = record {
      spares = All-from_get_or (HasGoodSpare luns units) gone Erased (λ i inside. elim (at_page i).either [
        | inl none ↦ subst (HasGoodSpare luns units) (sym none) tt
        | inr same ↦ subst (HasGoodSpare luns units) (sym same) (sound.spares i Erased (omega (arith, inside, size)))
      ]);
      one_newest = one_newest-erased chip (victim * pages) pages (whole geometry chip within count victim in_range) none_current sound.one_newest;
      in_order = in_order_gone;
      one_partly_written = λ a b in_a in_b partly_a partly_b. sound.one_partly_written a b in_a in_b (partly_gone size a in_a partly_a) (partly_gone size b in_b partly_b);
      room = room;
    }
