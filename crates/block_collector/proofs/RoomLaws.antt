-- Where there is room, and a block worth collecting.
use Rattle.std.proofs.Common.{◌≡◌, ◌+◌, ◌-◌, ◌*◌, ◌<◌, ◌≤◌, ◌⊎◌, ℕ, List, zero, suc, Bool, true, false, cond, nat_eq}
use Rattle.std.proofs.Common.{nat_lt, ◌&&◌, length, get_or, set, count_by, Option, None, Some, IfSome, IfNone, refl}
use Rattle.std.proofs.Common.{sym, ap, ◌∙◌, subst, inl, inr, arith}
use Rattle.std.specs.Option.{option_or}
use Rattle.std.proofs.lemmas.List.{take_all, length-set, get_or-set_other, get_or-set_same, set_past}
use Rattle.std.proofs.lemmas.List.Sums.{sum_by-set}
use Rattle.std.proofs.lemmas.Bool.{cases_eq, cases_lt, and_parts, and_cases, ltb-true, ltb-false, lt-ltb, le-ltb, eqb-true, eqb-false, eq-eqb, ne_eqb, cases_Bool}
use Rattle.flash_pages.specs.declared.chip.Geometry.{Geometry}
use Rattle.page_validity.specs.ValidPages.{valid_count}
use Rattle.page_validity.proofs.FirstBetween.{IsFirst, first_between-some, first_between-none}
use Rattle.block_collector.specs.Room.{IsRoom, IsFull, HasOnePartly, erased_pages, first_block, is_partly_written, is_wholly_erased, open_block}
use Rattle.block_collector.proofs.Totals.{total, total-zero, total-le, le-total, sum_by-total, total-valid_count}

multiples : (a b n : ℕ) → a ≤ b → n * a ≤ n * b
multiples a b n order = grind arith

three_less : (k n b : ℕ) → k + 3 ≡ b → k * n + 3 * n ≡ b * n
three_less k n b order = subst (λ m. k * n + 3 * n ≡ m * n) order (omega arith)

some_same : (a b : ℕ) → Some a ≡ Some b → a ≡ b
some_same a b e = cc

module _ (pages : ℕ) (written : List ℕ) where
  abbrev at : ℕ → ℕ
  at block = get_or written block 0

  abbrev erased_at : ℕ → ℕ
  erased_at block = pages - at block

  pub erased_pages-total : erased_pages pages written ≡ total erased_at (length written)
  erased_pages-total = sum_by-total (λ count. pages - count) written

  -- a block's count is changed
  pub erased_pages-set : (block count : ℕ) → block < length written → at block ≤ pages → count ≤ pages → erased_pages pages (set written block count) + count ≡ erased_pages pages written + at block
  erased_pages-set block count inside most most_count = omega (arith, sum_by-set (λ n. pages - n) written block count 0 inside)

  -- the open block has an erased page
  pub open_block-some : 0 < pages → (block : ℕ) → open_block pages written ≡ Some block → (block < length written) × (at block < pages)
  open_block-some some block is =
      elim (first_block written (is_partly_written pages written))
      as (λ o. (first_block written (is_partly_written pages written) ≡ o) → option_or o (first_block written (is_wholly_erased written)) ≡ Some block
      → (block < length written) × (at block < pages)) [
        | Some b ↦ λ partly same.
            let at_b : IsFirst 0 (length written) (is_partly_written pages written) b = first_between-some 0 (length written) (is_partly_written pages written) b partly in
            let below : at b < pages = ltb-true (at b) pages (and_parts (nat_lt 0 (at b)) (nat_lt (at b) pages) at_b.passed).1 in
            subst (λ n. (n < length written) × (at n < pages)) (some_same b block same) (at_b.below, below)
        | None ↦ λ _ erased.
            let at_b : IsFirst 0 (length written) (is_wholly_erased written) block = first_between-some 0 (length written) (is_wholly_erased written) block erased in
            (at_b.below, omega (arith, eqb-true (at block) 0 at_b.passed))
      ] refl is

  -- with no open block no page is erased
  pub open_block-none : open_block pages written ≡ None → erased_pages pages written ≡ 0
  open_block-none is =
      elim (first_block written (is_partly_written pages written))
      as (λ o. (first_block written (is_partly_written pages written) ≡ o) → option_or o (first_block written (is_wholly_erased written)) ≡ None → erased_pages pages written ≡ 0) [
        | Some b ↦ λ _ some. cc
        | None ↦ λ none_partly none_erased.
            erased_pages-total ∙ total-zero erased_at (length written) (λ block below.
            let not_erased : nat_eq (at block) 0 ≡ false = first_between-none 0 (length written) (is_wholly_erased written) none_erased block (omega arith) below in
            let not_partly : (nat_lt 0 (at block) && nat_lt (at block) pages) ≡ false = first_between-none 0 (length written) (is_partly_written pages written) none_partly block (omega arith) below in
            elim (and_cases (nat_lt 0 (at block)) (nat_lt (at block) pages) not_partly) [
              | inl zero_count ↦ absurd (eqb-false (at block) 0 not_erased (omega (arith, ltb-false 0 (at block) zero_count)))
              | inr full ↦ omega (arith, ltb-false (at block) pages full)
            ])
      ] refl is

  pub erased_pages-le : (block : ℕ) → block < length written → pages - at block ≤ erased_pages pages written
  erased_pages-le block inside = omega (arith, erased_pages-total, le-total erased_at (length written) block inside)

record IsWorthIt (n pages : ℕ) (at valid : ℕ → ℕ) : Type 0 where
  block : ℕ
  below : block < n
  full : at block ≡ pages
  gains : valid block < pages

-- among the first blocks one is worth it, or each full one is wholly valid
search_block : (pages : ℕ) (at valid : ℕ → ℕ) (n : ℕ) → IsWorthIt n pages at valid ⊎ ((block : ℕ) → block < n → at block ≡ pages → pages ≤ valid block)
search_block pages at valid zero = inr (λ block below _. absurd (omega arith))
search_block pages at valid (suc n) =
    elim (search_block pages at valid n) [
      | inl worth ↦ inl (record { block = worth.block; below = omega (arith, worth.below); full = worth.full; gains = worth.gains })
      | inr none ↦ elim (cases_lt (valid n) pages) [
        | inr many ↦ inr (λ block below full. elim (cases_eq block n) [
          | inl same ↦ subst (λ b. pages ≤ valid b) (sym same) many
          | inr apart ↦ none block (omega arith) full
        ])
        | inl few ↦ elim (cases_eq (at n) pages) [
          | inl full ↦ inl (record { block = n; below = omega arith; full = full; gains = few })
          | inr not_full ↦ inr (λ block below full. elim (cases_eq block n) [
            | inl same ↦ absurd (not_full (sym (ap at same) ∙ full))
            | inr apart ↦ none block (omega arith) full
          ])
        ]
      ]
    ]

module _ (pages : ℕ) (at valid : ℕ → ℕ) (some : 0 < pages) (most : (block : ℕ) → at block ≤ pages) where
  abbrev not_full : ℕ → ℕ
  not_full block = cond (nat_eq (at block) pages) 0 1

  abbrev partly : ℕ → ℕ
  partly block = cond (nat_lt 0 (at block) && nat_lt (at block) pages) 1 0

  abbrev wholly : ℕ → ℕ
  wholly block = cond (nat_eq (at block) 0) 1 0

  abbrev erased : ℕ → ℕ
  erased block = pages - at block

  -- of each block
  record Counted (block : ℕ) : Type 0 where
    kinds : not_full block ≤ partly block + wholly block
    room : pages * wholly block + partly block ≤ erased block

  counted : (block : ℕ) → Counted block
  counted block =
      elim (cases_eq (at block) pages) [
        | inl full ↦
            let f : not_full block ≡ 0 = ap (λ t. cond t 0 1) (eq-eqb (at block) pages full) in
            let p : partly block ≡ 0 = ap (λ t. cond (nat_lt 0 (at block) && t) 1 0) (le (at block) pages (omega arith)) ∙ none (nat_lt 0 (at block)) in
            let w : wholly block ≡ 0 = ap (λ t. cond t 1 0) (ne_eqb (at block) 0 (λ e. omega arith)) in
            record { kinds = omega (arith, f); room = rw (p, w) (omega arith) }
        | inr part ↦ elim (cases_eq (at block) 0) [
          | inl empty ↦
              let f : not_full block ≡ 1 = ap (λ t. cond t 0 1) (ne_eqb (at block) pages part) in
              let p : partly block ≡ 0 = ap (λ n. cond (nat_lt 0 n && nat_lt n pages) 1 0) empty in
              let w : wholly block ≡ 1 = ap (λ t. cond t 1 0) (eq-eqb (at block) 0 empty) in
              record { kinds = omega (arith, f, w); room = rw (p, w) (omega arith) }
          | inr above ↦
              let f : not_full block ≡ 1 = ap (λ t. cond t 0 1) (ne_eqb (at block) pages part) in
              let below : at block < pages = omega (arith, most block) in
              let p : partly block ≡ 1 = ap (λ t. cond (t && nat_lt (at block) pages) 1 0) (lt-ltb 0 (at block) (omega arith)) ∙ ap (λ t. cond t 1 0) (lt-ltb (at block) pages below) in
              let w : wholly block ≡ 0 = ap (λ t. cond t 1 0) (ne_eqb (at block) 0 above) in
              record { kinds = omega (arith, f, p); room = rw (p, w) (omega (arith, below)) }
        ]
      ]
    where
      le : (a b : ℕ) → b ≤ a → nat_lt a b ≡ false
      le a b order = le-ltb a b order

      none : (t : Bool) → ◌≡◌ {A = ℕ} (cond (t && false) 1 0) 0
      none true = refl
      none false = refl

  kinds : (n : ℕ) → total not_full n ≤ total partly n + total wholly n
  kinds zero = omega arith
  kinds (suc n) = omega (arith, kinds n, (counted n).kinds)

  room : (n : ℕ) → pages * total wholly n + total partly n ≤ total erased n
  room zero = omega arith
  room (suc n) = omega (arith, room n, (counted n).room)

  -- all pages of full blocks are valid
  valid_enough : (n : ℕ) → ((block : ℕ) → block < n → at block ≡ pages → pages ≤ valid block) → pages * n ≤ total valid n + pages * total not_full n
  valid_enough zero each = omega arith
  valid_enough (suc n) each =
      let rest : pages * n ≤ total valid n + pages * total not_full n = valid_enough n (λ block below. each block (omega arith)) in
      elim (cases_eq (at n) pages) [
        | inl full ↦ omega (arith, rest, each n (omega arith) full)
        | inr part ↦
            let f : not_full n ≡ 1 = ap (λ t. cond t 0 1) (ne_eqb (at n) pages part) in
            rw f (omega (arith, rest))
      ]

  -- at most one is partly written
  one : (n : ℕ) → ((a b : ℕ) → a < n → b < n → 0 < partly a → 0 < partly b → a ≡ b) → total partly n ≤ 1
  one zero same = omega arith
  one (suc n) same =
      elim (cases_lt 0 (partly n)) [
        | inr none ↦ omega (arith, one n (λ a b in_a in_b. same a b (omega arith) (omega arith)))
        | inl this ↦
            let rest : total partly n ≡ 0 = total-zero partly n (λ i below.
            elim (cases_lt 0 (partly i)) [
              | inl other ↦ absurd (omega (arith, same i n (omega arith) (omega arith) other this))
              | inr none ↦ omega arith
            ]) in
            omega (arith, rest, at_most_one (nat_lt 0 (at n) && nat_lt (at n) pages))
      ]
    where
      at_most_one : (t : Bool) → cond t 1 0 ≤ 1
      at_most_one true = omega arith
      at_most_one false = omega arith

  partly-above : (block : ℕ) → 0 < partly block → (0 < at block) × (at block < pages)
  partly-above block =
      elim (cases_Bool (nat_lt 0 (at block) && nat_lt (at block) pages)) [
        | inl holds ↦ λ _.
            let both = and_parts (nat_lt 0 (at block)) (nat_lt (at block) pages) holds in
            (ltb-true 0 (at block) both.0, ltb-true (at block) pages both.1)
        | inr fails ↦ λ above. let none : partly block ≡ 0 = ap (λ t. cond t 1 0) fails in absurd (omega (arith, none))
      ]

-- the arithmetic of it
too_many : (pages blocks not_fulls partlys whollys erased valid : ℕ) → 0 < pages → 3 ≤ blocks → pages * blocks ≤ valid + pages * not_fulls → not_fulls ≤ partlys + whollys
    → pages * whollys + partlys ≤ erased → partlys ≤ 1 → valid ≤ (blocks - 3) * pages → erased ≤ pages → ⊥
too_many pages blocks not_fulls partlys whollys erased valid some many enough kinds room once few little =
    elim (cases_lt whollys 2) [
      | inl below ↦
          let two : pages * not_fulls ≤ pages * 2 = multiples not_fulls 2 pages (omega arith) in
          omega (arith, two, three_less (blocks - 3) pages blocks (omega arith))
      | inr above ↦
          let two : pages * 2 ≤ pages * whollys = multiples 2 whollys pages above in
          omega (arith, two)
    ]

-- the law of the room
pub worth_collecting : (geometry : Geometry) (written : List ℕ) (valid : List Bool) → IsRoom geometry written → HasOnePartly geometry.pages written → length valid ≡ geometry.blocks * geometry.pages
    → count_by (λ flag. flag) valid ≤ (geometry.blocks - 3) * geometry.pages → erased_pages geometry.pages written ≤ geometry.pages
    → (block : ℕ) × IsFull geometry.pages written block × (valid_count geometry.pages valid block < geometry.pages)
worth_collecting geometry written valid is_room one_partly size few little =
    elim (search_block geometry.pages (λ block. get_or written block 0) (valid_count geometry.pages valid) geometry.blocks) [
      | inl worth ↦ (worth.block, (omega (arith, worth.below, is_room.blocks), worth.full), worth.gains)
      | inr none ↦
          let pages = geometry.pages in
          let blocks = geometry.blocks in
          let at : ℕ → ℕ = λ block. get_or written block 0 in
          let some : 0 < pages = omega (arith, is_room.within.least_pages) in
          let partly_once : total (partly pages at (valid_count pages valid) some is_room.most) blocks ≤ 1 =
          one pages at (valid_count pages valid) some is_room.most blocks (λ a b in_a in_b is_a is_b.
          let a_parts = partly-above pages at (valid_count pages valid) some is_room.most a is_a in
          let b_parts = partly-above pages at (valid_count pages valid) some is_room.most b is_b in
          one_partly a b (omega (arith, is_room.blocks), a_parts.0, a_parts.1) (omega (arith, is_room.blocks), b_parts.0, b_parts.1)) in
          let all_valid : total (valid_count pages valid) blocks ≡ count_by (λ flag. flag) valid =
          total-valid_count pages valid blocks ∙ ap (count_by (λ flag. flag)) (take_all (blocks * pages) valid (omega (arith, size))) in
          let erased_all : erased_pages pages written ≡ total (erased pages at (valid_count pages valid) some is_room.most) blocks =
          erased_pages-total pages written ∙ ap (total (λ block. pages - get_or written block 0)) is_room.blocks in
          absurd (too_many pages blocks
          (total (not_full pages at (valid_count pages valid) some is_room.most) blocks)
          (total (partly pages at (valid_count pages valid) some is_room.most) blocks)
          (total (wholly pages at (valid_count pages valid) some is_room.most) blocks)
          (erased_pages pages written) (count_by (λ flag. flag) valid)
          some (omega (arith, is_room.within.least_blocks))
          (subst (λ n. pages * blocks ≤ n + pages * total (not_full pages at (valid_count pages valid) some is_room.most) blocks) all_valid
          (valid_enough pages at (valid_count pages valid) some is_room.most blocks none))
          (kinds pages at (valid_count pages valid) some is_room.most blocks)
          (subst (λ n. pages * total (wholly pages at (valid_count pages valid) some is_room.most) blocks + total (partly pages at (valid_count pages valid) some is_room.most) blocks ≤ n)
          (sym erased_all)
          (room pages at (valid_count pages valid) some is_room.most blocks))
          partly_once few little)
    ]

-- no more pages are erased than there are
pub erased_pages-most : (geometry : Geometry) (written : List ℕ) → IsRoom geometry written → erased_pages geometry.pages written ≤ geometry.blocks * geometry.pages
erased_pages-most geometry written is_room =
    let all : total (λ block. geometry.pages - get_or written block 0) (length written) ≤ length written * geometry.pages =
    total-le (λ block. geometry.pages - get_or written block 0) (length written) geometry.pages (λ i. omega arith) in
    rw (← is_room.blocks) (omega (arith, erased_pages-total geometry.pages written, all))

-- what the open block tells
pub record IsOpen (geometry : Geometry) (written : List ℕ) (block : ℕ) : Type 0 where
  pub in_range : block < geometry.blocks
  pub room : get_or written block 0 < geometry.pages
  pub some : 0 < erased_pages geometry.pages written
  pub page : block * geometry.pages + get_or written block 0 < geometry.blocks * geometry.pages

rows : (a b n : ℕ) → a < b → a * n + n ≤ b * n
rows a b n below = grind arith

pub IsOpen-open_block : (geometry : Geometry) (written : List ℕ) → IsRoom geometry written → (block : ℕ) → open_block geometry.pages written ≡ Some block → IsOpen geometry written block
IsOpen-open_block geometry written is_room block is =
    let open_at : (block < length written) × (get_or written block 0 < geometry.pages) = open_block-some geometry.pages written (omega (arith, is_room.within.least_pages)) block is in
    record {
      in_range = omega (arith, open_at.0, is_room.blocks);
      room = open_at.1;
      some = omega (arith, open_at.1, erased_pages-le geometry.pages written block open_at.0);
      page = omega (arith, open_at.1, rows block geometry.blocks geometry.pages (omega (arith, open_at.0, is_room.blocks)));
    }

-- one page of the open block is written
pub IsRoom-set : (geometry : Geometry) (written : List ℕ) (block count : ℕ) → IsRoom geometry written → count ≤ geometry.pages → IsRoom geometry (set written block count)
IsRoom-set geometry written block count is_room most = record {
  within = is_room.within;
  blocks = length-set written block count ∙ is_room.blocks;
  most = λ other. elim (cases_eq other block) [
    | inr apart ↦ rw (get_or-set_other written block other count 0 apart) (is_room.most other)
    | inl same ↦ elim (cases_lt block (length written)) [
      | inl inside ↦ rw (same, get_or-set_same written block count 0 inside) most
      | inr past ↦ rw (set_past written block count past) (is_room.most other)
    ]
  ];
}

-- the same as the clauses of a function that answers it
pub record TellsOpen (geometry : Geometry) (written : List ℕ) (answer : Option ℕ) : Type 0 where
  pub in_range : IfSome answer (λ block. block < geometry.blocks)
  pub room : IfSome answer (λ block. get_or written block 0 < geometry.pages)
  pub some : IfSome answer (λ _. 0 < erased_pages geometry.pages written)
  pub none : IfNone answer (erased_pages geometry.pages written ≡ 0)

pub tells_open : (geometry : Geometry) (written : List ℕ) → IsRoom geometry written → (answer : Option ℕ) → answer ≡ open_block geometry.pages written → TellsOpen geometry written answer
tells_open geometry written is_room None is = record { in_range = tt; room = tt; some = tt; none = open_block-none geometry.pages written (sym is) }
tells_open geometry written is_room (Some block) is =
    let at : IsOpen geometry written block = IsOpen-open_block geometry written is_room block (sym is) in
    record { in_range = at.in_range; room = at.room; some = at.some; none = tt }
