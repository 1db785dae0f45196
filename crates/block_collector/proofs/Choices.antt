-- The first full block with the fewest valid pages.
use Rattle.std.proofs.Common.{◌≡◌, ◌<◌, ◌≤◌, ℕ, List, [], ◌∷◌, zero, suc, true, false, cond, nat_eq, nat_lt, length}
use Rattle.std.proofs.Common.{get_or, map, Option, None, Some, MatchOption, refl, sym, ap, ◌∙◌, subst, inl, inr, arith}
use Rattle.std.specs.List.{range_with_len}
use Rattle.std.proofs.lemmas.List.FromFn.{length-map-range_with_len, get_or-map-range_with_len}
use Rattle.std.proofs.lemmas.Bool.{cases_eq, cases_lt, ltb-true, ltb-false, eqb-true, eqb-false, eq-eqb, ne_eqb}
use Rattle.page_validity.proofs.FirstBetween.{IsFirst, first_between-some, first_between-none}
use Rattle.block_collector.specs.Room.{IsVictim, IsChoice, least, copies_of, victim_of, first_block}

-- the same among the first n blocks
pub record IsVictimBelow (n pages : ℕ) (at valid : ℕ → ℕ) (block : ℕ) : Type 0 where
  pub below : block < n
  pub full : at block ≡ pages
  pub gains : valid block < pages
  pub fewest : (other : ℕ) → other < n → at other ≡ pages → valid block ≤ valid other
  pub first : (other : ℕ) → other < block → at other ≡ pages → valid block < valid other

abbrev pub IsChoiceBelow : ℕ → ℕ → (ℕ → ℕ) → (ℕ → ℕ) → Option ℕ → Type 0
IsChoiceBelow n pages at valid choice =
    MatchOption choice ((block : ℕ) → block < n → at block ≡ pages → pages ≤ valid block) (IsVictimBelow n pages at valid)

abbrev pub fewest_of : ℕ → (ℕ → ℕ) → Option ℕ → ℕ
fewest_of pages valid None = pages
fewest_of pages valid (Some block) = valid block

pub better : (n pages : ℕ) (at valid : ℕ → ℕ) (choice : Option ℕ) → IsChoiceBelow n pages at valid choice → at n ≡ pages → valid n < pages → valid n < fewest_of pages valid choice
    → IsChoiceBelow (suc n) pages at valid (Some n)
better n pages at valid None none full gains few = record {
  below = omega arith;
  full = full;
  gains = gains;
  fewest = λ other below is_full. elim (cases_eq other n) [
    | inl same ↦ subst (λ b. valid n ≤ valid b) (sym same) (omega arith)
    | inr apart ↦ omega (arith, none other (omega arith) is_full)
  ];
  first = λ other below is_full. omega (arith, none other below is_full);
}
better n pages at valid (Some block) chosen full gains few = record {
  below = omega arith;
  full = full;
  gains = gains;
  fewest = λ other below is_full. elim (cases_eq other n) [
    | inl same ↦ subst (λ b. valid n ≤ valid b) (sym same) (omega arith)
    | inr apart ↦ omega (arith, chosen.fewest other (omega arith) is_full)
  ];
  first = λ other below is_full. omega (arith, chosen.fewest other below is_full);
}

pub as_good : (n pages : ℕ) (at valid : ℕ → ℕ) (choice : Option ℕ) → IsChoiceBelow n pages at valid choice → (at n ≡ pages → fewest_of pages valid choice ≤ valid n)
    → IsChoiceBelow (suc n) pages at valid choice
as_good n pages at valid None none more = λ block below is_full. elim (cases_eq block n) [
  | inl same ↦ subst (λ b. pages ≤ valid b) (sym same) (more (ap at (sym same) ∙ is_full))
  | inr apart ↦ none block (omega arith) is_full
]
as_good n pages at valid (Some block) chosen more = record {
  below = omega (arith, chosen.below);
  full = chosen.full;
  gains = chosen.gains;
  fewest = λ other below is_full. elim (cases_eq other n) [
    | inl same ↦ subst (λ b. valid block ≤ valid b) (sym same) (more (ap at (sym same) ∙ is_full))
    | inr apart ↦ chosen.fewest other (omega arith) is_full
  ];
  first = chosen.first;
}

pub all_blocks : (pages : ℕ) (written : List ℕ) (valid : ℕ → ℕ) (choice : Option ℕ) → IsChoiceBelow (length written) pages (λ block. get_or written block 0) valid choice
    → IsChoice pages written valid choice
all_blocks pages written valid None none = λ block full. none block full.0 full.1
all_blocks pages written valid (Some block) chosen = record {
  full = (chosen.below, chosen.full);
  gains = chosen.gains;
  fewest = λ other full. chosen.fewest other full.0 full.1;
  first = λ other below full. chosen.first other below full.1;
}

-- there is one choice
pub one_victim : (pages : ℕ) (written : List ℕ) (valid : ℕ → ℕ) (a b : ℕ) → IsVictim pages written valid a → IsVictim pages written valid b → a ≡ b
one_victim pages written valid a b is_a is_b =
    elim (cases_lt a b) [
      | inl below ↦ absurd (omega (arith, is_b.first a below is_a.full, is_a.fewest b is_b.full))
      | inr above ↦ elim (cases_eq a b) [
        | inl same ↦ same
        | inr apart ↦ absurd (omega (arith, is_a.first b (omega arith) is_b.full, is_b.fewest a is_a.full))
      ]
    ]

pub one_choice : (pages : ℕ) (written : List ℕ) (valid : ℕ → ℕ) (a b : Option ℕ) → IsChoice pages written valid a → IsChoice pages written valid b → a ≡ b
one_choice pages written valid None None _ _ = refl
one_choice pages written valid None (Some b) none is_b = absurd (omega (arith, none b is_b.full, is_b.gains))
one_choice pages written valid (Some a) None is_a none = absurd (omega (arith, none a is_a.full, is_a.gains))
one_choice pages written valid (Some a) (Some b) is_a is_b = ap Some (one_victim pages written valid a b is_a is_b)

least-le : (most : ℕ) (ns : List ℕ) (i : ℕ) → i < length ns → least most ns ≤ get_or ns i 0
least-le most [] i inside = absurd (omega arith)
least-le most (n ∷ ns) zero inside = omega arith
least-le most (n ∷ ns) (suc i) inside = omega (arith, least-le most ns i (omega arith))

record IsAttained (ns : List ℕ) (n : ℕ) : Type 0 where
  place : ℕ
  inside : place < length ns
  there : get_or ns place 0 ≡ n

least-attained : (most : ℕ) (ns : List ℕ) → least most ns < most → IsAttained ns (least most ns)
least-attained most [] below = absurd (omega arith)
least-attained most (n ∷ ns) below =
    elim (cases_lt (least most ns) n) [
      | inl later ↦
          let rest : IsAttained ns (least most ns) = least-attained most ns (omega arith) in
          record { place = suc rest.place; inside = omega (arith, rest.inside); there = omega (arith, rest.there) }
      | inr here ↦ record { place = 0; inside = omega arith; there = omega arith }
    ]

-- `victim_of` is that choice
module _ (pages : ℕ) (written : List ℕ) (valid : ℕ → ℕ) where
  abbrev copies : ℕ → ℕ
  copies = copies_of pages written valid

  abbrev all_copies : List ℕ
  all_copies = map copies (range_with_len 0 (length written))

  abbrev fewest : ℕ
  fewest = least pages all_copies

  at_block : (block : ℕ) → block < length written → get_or all_copies block 0 ≡ copies block
  at_block block below = get_or-map-range_with_len copies 0 (length written) block block 0 below (omega arith)

  fewest-le : (block : ℕ) → block < length written → fewest ≤ copies block
  fewest-le block below = omega (arith, at_block block below, least-le pages all_copies block (rw length-map-range_with_len below))

  copies-full : (block : ℕ) → get_or written block 0 ≡ pages → copies block ≡ valid block
  copies-full block full = ap (λ t. cond t (valid block) pages) (eq-eqb (get_or written block 0) pages full)

  copies-below : (block : ℕ) → copies block < pages → (get_or written block 0 ≡ pages) × (copies block ≡ valid block)
  copies-below block below =
      elim (cases_eq (get_or written block 0) pages) [
        | inl full ↦ (full, copies-full block full)
        | inr part ↦ let all : copies block ≡ pages = ap (λ t. cond t (valid block) pages) (ne_eqb (get_or written block 0) pages part) in absurd (omega (arith, all))
      ]

  pub IsChoice-victim_of : IsChoice pages written valid (victim_of pages written valid)
  IsChoice-victim_of =
      elim (nat_lt fewest pages)
      as (λ t. (nat_lt fewest pages ≡ t) → IsChoice pages written valid (cond t (first_block written (λ block. nat_eq (copies block) fewest)) None)) [
        | false ↦ λ no. λ block full. omega (arith, ltb-false fewest pages no, fewest-le block full.0, copies-full block full.1)
        | true ↦ λ holds.
            let below : fewest < pages = ltb-true fewest pages holds in
            elim (first_block written (λ block. nat_eq (copies block) fewest))
            as (λ o. (first_block written (λ block. nat_eq (copies block) fewest) ≡ o) → IsChoice pages written valid o) [
              | None ↦ λ none.
                  let there : IsAttained all_copies fewest = least-attained pages all_copies below in
                  let inside : there.place < length written = subst (λ n. there.place < n) (length-map-range_with_len copies 0 (length written)) there.inside in
                  absurd (eqb-false (copies there.place) fewest (first_between-none 0 (length written) (λ block. nat_eq (copies block) fewest) none there.place (omega arith) inside)
                  (sym (at_block there.place inside) ∙ there.there))
              | Some block ↦ λ some.
                  let at : IsFirst 0 (length written) (λ block. nat_eq (copies block) fewest) block = first_between-some 0 (length written) (λ block. nat_eq (copies block) fewest) block some in
                  let same : copies block ≡ fewest = eqb-true (copies block) fewest at.passed in
                  let full : (get_or written block 0 ≡ pages) × (copies block ≡ valid block) = copies-below block (omega arith) in
                  record {
                    full = (at.below, full.0);
                    gains = omega (arith, full.1);
                    fewest = λ other is_full. omega (arith, full.1, fewest-le other is_full.0, copies-full other is_full.1);
                    first = λ other before is_full.
                        let apart : nat_eq (copies other) fewest ≡ false = at.earlier other (omega arith) before in
                        let more : copies other ≡ fewest → ⊥ = eqb-false (copies other) fewest apart in
                        elim (cases_eq (copies other) fewest) [
                          | inl is ↦ absurd (more is)
                          | inr is_not ↦ omega (arith, full.1, fewest-le other is_full.0, copies-full other is_full.1)
                        ];
                  }
            ] refl
      ] refl
