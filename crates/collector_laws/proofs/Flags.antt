-- Which pages are current, after a program and after an erase.
use Rattle.std.proofs.Common.{◌≡◌, ◌≢◌, ◌+◌, ◌<◌, ◌≤◌, ℕ, List, [], ◌∷◌, true, false, cond, nat_eq, length, get_or, set, map, None, Some, refl, sym, ap, ◌∙◌, subst, inl, inr, arith}
use Rattle.std.proofs.lemmas.List.{map-set, length-map, set-get_or, get_or-set_same, get_or-set_other}
use Rattle.std.proofs.lemmas.Bool.{cases_eq, eqb-true, eq-eqb, ne_eqb, false_from_ne_true}
use Rattle.flash_pages.specs.declared.chip.Spare.{Spare}
use Rattle.flash_pages.specs.Chip.{Page, Erased, Written, page_at}
use Rattle.flash_pages.specs.Place.{Place}
use Rattle.flash_pages.proofs.Places.{same_place-same, same_place-other, cases_place}
use Rattle.flash_pages.specs.Unit.{place_of, same_place, rank_of, rank_for, greatest, newest_rank, current, next_seq}
use Rattle.flash_pages.specs.Sound.{is_current, IsNewest}
use Rattle.flash_pages.proofs.Greatest.{IsGreatestAt, IsGreatestAt-position, position_of_greatest-none, greatest-set, get_or-le-greatest, greatest-le-at, greatest-le}
use Rattle.flash_pages.proofs.Programming.{rank-at, current-written}
use Rattle.collector_laws.specs.CollectStep.{is_current_at, place_named}

rank_for-le : (site : Place) (page : Page) → rank_for site page ≤ rank_of page
rank_for-le site Erased = omega arith
rank_for-le site (Written bytes spare) =
    elim (same_place (place_of spare) site) as (λ t. cond t (spare.seq + 1) 0 ≤ spare.seq + 1) [ true ↦ omega arith | false ↦ omega arith ]

pub greatest-rank : (site : Place) (chip : List Page) → greatest (map (rank_for site) chip) ≤ next_seq chip
greatest-rank site [] = omega arith
greatest-rank site (page ∷ chip) = omega (arith, rank_for-le site page, greatest-rank site chip)

-- the current page has the greatest rank
pub current-newest : (chip : List Page) (site : Place) (page : ℕ) → current chip site ≡ Some page → IsNewest chip site page
current-newest chip site page is =
    let at : IsGreatestAt (map (rank_for site) chip) page = IsGreatestAt-position (map (rank_for site) chip) page is in
    let rank : get_or (map (rank_for site) chip) page 0 ≡ rank_for site (page_at chip page) = rank-at site chip page in (
      omega (arith, at.above, get_or-le-greatest (map (rank_for site) chip) page),
      omega (arith, rank, get_or-le-greatest (map (rank_for site) chip) page, greatest-le-at (map (rank_for site) chip) page at),
    )

pub current-none : (chip : List Page) (site : Place) → current chip site ≡ None → newest_rank chip site ≡ 0
current-none chip site none =
    omega (arith, greatest-le (map (rank_for site) chip) 0 (λ i. omega (arith, position_of_greatest-none (map (rank_for site) chip) none i)))

-- a page with the greatest rank is the current one, where there is one such page
pub newest-current : (chip : List Page) → ((site : Place) (m n : ℕ) → IsNewest chip site m → IsNewest chip site n → m ≡ n) → (site : Place) (page : ℕ) → IsNewest chip site page
    → current chip site ≡ Some page
newest-current chip one site page newest =
    elim (current chip site)
    as (λ o. (current chip site ≡ o) → o ≡ Some page) [
      | None ↦ λ none. absurd (omega (arith, current-none chip site none, newest.0))
      | Some other ↦ λ is. ap Some (one site other page (current-newest chip site other is) newest)
    ] refl

-- a flag that is set is that of the current page
flag_of : (chip : List Page) (page : ℕ) (p : Page) → page_at chip page ≡ p → is_current chip p ≡ true → IsNewest chip (place_named p) page
flag_of chip page Erased is flag = cc
flag_of chip page (Written bytes spare) is flag =
    let newest : spare.seq + 1 ≡ newest_rank chip (place_of spare) = eqb-true (spare.seq + 1) (newest_rank chip (place_of spare)) flag in
    let own : rank_for (place_of spare) (page_at chip page) ≡ spare.seq + 1 = ap (rank_for (place_of spare)) is ∙ ap (λ t. cond t (spare.seq + 1) 0) (same_place-same (place_of spare)) in
    (omega (arith, newest), own ∙ newest)

pub flag-newest : (chip : List Page) (page : ℕ) → is_current_at chip page ≡ true → IsNewest chip (place_named (page_at chip page)) page
flag-newest chip page flag = flag_of chip page (page_at chip page) refl flag

-- and the current page's flag is set
rank-flag : (chip : List Page) (site : Place) (p : Page) → 0 < rank_for site p → rank_for site p ≡ newest_rank chip site → (is_current chip p ≡ true) × (place_named p ≡ site)
rank-flag chip site Erased above newest = absurd (omega (arith, above))
rank-flag chip site (Written bytes spare) above newest =
    elim (cases_place (place_of spare) site) [
      | inl same ↦
          let own : rank_for site (Written bytes spare) ≡ spare.seq + 1 = ap (λ t. cond t (spare.seq + 1) 0) (ap (same_place (place_of spare)) (sym same) ∙ same_place-same (place_of spare)) in
          (eq-eqb (spare.seq + 1) (newest_rank chip (place_of spare)) (sym own ∙ newest ∙ ap (newest_rank chip) (sym same)), same)
      | inr apart ↦
          let none : rank_for site (Written bytes spare) ≡ 0 = ap (λ t. cond t (spare.seq + 1) 0) (same_place-other (place_of spare) site apart) in
          absurd (omega (arith, above, none))
    ]

pub newest-flag : (chip : List Page) (site : Place) (page : ℕ) → IsNewest chip site page → (is_current_at chip page ≡ true) × (place_named (page_at chip page) ≡ site)
newest-flag chip site page newest = rank-flag chip site (page_at chip page) (omega (arith, newest.0, newest.1)) newest.1

-- a program of an erased page under the next number, of an LBA whose current page is `old`
module _ (chip : List Page) (page : ℕ) (bytes : List ℕ) (spare : Spare) (inside : page < length chip) (erased : page_at chip page ≡ Erased) (next : spare.seq ≡ next_seq chip) where
  abbrev after : List Page
  after = set chip page (Written bytes spare)

  rank-own : rank_for (place_of spare) (Written bytes spare) ≡ spare.seq + 1
  rank-own = ap (λ t. cond t (spare.seq + 1) 0) (same_place-same (place_of spare))

  rank-le-next : (site : Place) (n : ℕ) → rank_for site (page_at chip n) ≤ next_seq chip
  rank-le-next site n = omega (arith, rank-at site chip n, get_or-le-greatest (map (rank_for site) chip) n, greatest-rank site chip)

  pub newest-own : newest_rank after (place_of spare) ≡ spare.seq + 1
  newest-own =
      ap greatest (map-set (rank_for (place_of spare)) chip page (Written bytes spare) ∙ ap (set (map (rank_for (place_of spare)) chip) page) rank-own)
      ∙ greatest-set (map (rank_for (place_of spare)) chip) page (spare.seq + 1) (simp length-map inside)
      (omega (arith, next, greatest-le (map (rank_for (place_of spare)) chip) (next_seq chip) (λ i. rw (rank-at (place_of spare) chip i) (rank-le-next (place_of spare) i))))

  pub newest-other : (site : Place) → (place_of spare) ≢ site → newest_rank after site ≡ newest_rank chip site
  newest-other site other =
      let none : rank_for site (Written bytes spare) ≡ 0 = ap (λ t. cond t (spare.seq + 1) 0) (same_place-other (place_of spare) site other) in
      let was : get_or (map (rank_for site) chip) page 0 ≡ 0 = rank-at site chip page ∙ ap (rank_for site) erased in
      ap greatest (map-set (rank_for site) chip page (Written bytes spare) ∙ ap (set (map (rank_for site) chip) page) (none ∙ sym was) ∙ set-get_or (map (rank_for site) chip) page 0)

  pub page-same : (n : ℕ) → n ≢ page → page_at after n ≡ page_at chip n
  page-same n apart = get_or-set_other chip page n (Written bytes spare) Erased apart

  pub page-new : page_at after page ≡ Written bytes spare
  page-new = get_or-set_same chip page (Written bytes spare) Erased inside

  pub one_newest-after : ((site : Place) (m n : ℕ) → IsNewest chip site m → IsNewest chip site n → m ≡ n) → (site : Place) (m n : ℕ) → IsNewest after site m → IsNewest after site n → m ≡ n
  one_newest-after one site m n at_m at_n =
      elim (cases_place (place_of spare) site) [
        | inl same ↦ is_page site m same at_m ∙ sym (is_page site n same at_n)
        | inr other ↦ one site m n (was site m other at_m) (was site n other at_n)
      ]
    where
      is_page : (site : Place) (m : ℕ) → (place_of spare) ≡ site → IsNewest after site m → m ≡ page
      is_page site m same at_m =
          elim (cases_eq m page) [
            | inl here ↦ here
            | inr apart ↦
                let newest : newest_rank after site ≡ spare.seq + 1 = subst (λ k. newest_rank after k ≡ spare.seq + 1) same newest-own in
                let rank : rank_for site (page_at after m) ≡ rank_for site (page_at chip m) = ap (rank_for site) (page-same m apart) in
                absurd (omega (arith, newest, rank, at_m.1, next, rank-le-next site m))
          ]

      was : (site : Place) (m : ℕ) → (place_of spare) ≢ site → IsNewest after site m → IsNewest chip site m
      was site m other at_m =
          elim (cases_eq m page) [
            | inl here ↦
                let none : rank_for site (Written bytes spare) ≡ 0 = ap (λ t. cond t (spare.seq + 1) 0) (same_place-other (place_of spare) site other) in
                let rank : rank_for site (page_at after m) ≡ 0 = ap (λ k. rank_for site (page_at after k)) here ∙ ap (rank_for site) page-new ∙ none in
                absurd (omega (arith, rank, at_m.0, at_m.1))
            | inr apart ↦
                let rank : rank_for site (page_at after m) ≡ rank_for site (page_at chip m) = ap (rank_for site) (page-same m apart) in
                (rw (← newest-other site other) at_m.0, sym rank ∙ at_m.1 ∙ newest-other site other)
          ]

  -- the flags of the pages: the new page's is set, the old one's is not
  pub flag-new : is_current_at after page ≡ true
  flag-new = ap (is_current after) page-new ∙ eq-eqb (spare.seq + 1) (newest_rank after (place_of spare)) (sym newest-own)

  pub flag_same : (p : Page) → place_named p ≢ (place_of spare) → is_current after p ≡ is_current chip p
  flag_same Erased apart = refl
  flag_same (Written b s) apart = ap (nat_eq (s.seq + 1)) (newest-other (place_of s) (λ e. apart (sym e)))

  pub flag_gone : (n : ℕ) (p : Page) → page_at chip n ≡ p → place_named p ≡ (place_of spare) → is_current after p ≡ false
  flag_gone n Erased is same = refl
  flag_gone n (Written b s) is same =
      let newest : newest_rank after (place_of s) ≡ spare.seq + 1 = ap (newest_rank after) same ∙ newest-own in
      let rank : rank_for (place_of s) (page_at chip n) ≡ s.seq + 1 = ap (rank_for (place_of s)) is ∙ ap (λ t. cond t (s.seq + 1) 0) (same_place-same (place_of s)) in
      ne_eqb (s.seq + 1) (newest_rank after (place_of s)) (λ e. omega (arith, e, newest, rank, next, rank-le-next (place_of s) n))

  module _ (old : ℕ) (one : (site : Place) (m n : ℕ) → IsNewest chip site m → IsNewest chip site n → m ≡ n) (is_old : current chip (place_of spare) ≡ Some old) where
    pub old-apart : old ≢ page
    old-apart same = current-written chip (place_of spare) old is_old (ap (page_at chip) same ∙ erased)

    old_lba : place_named (page_at chip old) ≡ (place_of spare)
    old_lba = (newest-flag chip (place_of spare) old (current-newest chip (place_of spare) old is_old)).1

    pub flag-old : is_current_at after old ≡ false
    flag-old = ap (is_current after) (page-same old old-apart) ∙ flag_gone old (page_at chip old) refl old_lba

    pub flag-was : is_current_at chip old ≡ true
    flag-was = (newest-flag chip (place_of spare) old (current-newest chip (place_of spare) old is_old)).0

    pub flag-others : (n : ℕ) → n ≢ page → n ≢ old → is_current_at after n ≡ is_current_at chip n
    flag-others n apart not_old =
        ap (is_current after) (page-same n apart)
        ∙ elim (cases_place (place_named (page_at chip n)) (place_of spare)) [
          | inr other ↦ flag_same (page_at chip n) other
          | inl same ↦
              let is_false : is_current_at chip n ≡ false = false_from_ne_true (is_current_at chip n) (λ flag.
              not_old (one (place_of spare) n old (subst (λ site. IsNewest chip site n) same (flag-newest chip n flag)) (current-newest chip (place_of spare) old is_old))) in
              flag_gone n (page_at chip n) refl same ∙ sym is_false
        ]
