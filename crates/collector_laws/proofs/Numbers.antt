-- An erase of a block that holds no current page leaves the current pages and the next sequence number.
use Rattle.std.proofs.Common.{◌≡◌, ◌≢◌, ◌⊎◌, ◌+◌, ◌*◌, ◌<◌, ◌≤◌, ℕ, List, [], ◌∷◌, zero, suc, false, cond, length, get_or, map, None, Some, refl, ap, ◌∙◌, inl, inr, arith}
use Rattle.std.proofs.lemmas.Bool.{cases_lt, both_ways}
use Rattle.flash_pages.specs.declared.chip.Geometry.{Geometry}
use Rattle.flash_pages.specs.Chip.{Page, Erased, Written, page_at, erase_block, IsWithinLimits}
use Rattle.flash_pages.specs.Place.{Place}
use Rattle.flash_pages.specs.Unit.{place_of, rank_of, rank_for, position_of_greatest, newest_rank, current, next_seq}
use Rattle.flash_pages.specs.Sound.{IsNewest}
use Rattle.flash_pages.proofs.Places.{same_place-same}
use Rattle.flash_pages.proofs.Greatest.{IsGreatestAt, IsGreatestAt-position, position_of_greatest-none, get_or-le-greatest, greatest-le, greatest-le-at}
use Rattle.flash_pages.proofs.Programming.{rank-at}
use Rattle.flash_pages.proofs.EraseLaws.{current-erased_between}
use Rattle.page_validity.proofs.FirstBetween.{first_between-none}
use Rattle.collector_laws.specs.CollectStep.{place_named, is_current_at, first_current}
use Rattle.collector_laws.proofs.Counts.{IsAfter, after_erase}
use Rattle.collector_laws.proofs.Flags.{greatest-rank, newest-current, newest-flag, current-newest}
use Rattle.collector_laws.proofs.Room.{whole}

rank_of-at : (pages : List Page) (i : ℕ) → get_or (map rank_of pages) i 0 ≡ rank_of (page_at pages i)
rank_of-at [] i = refl
rank_of-at (page ∷ pages) zero = refl
rank_of-at (page ∷ pages) (suc i) = rank_of-at pages i

module _ (geometry : Geometry) (chip : List Page) (within : IsWithinLimits geometry) (count : length chip ≡ geometry.blocks * geometry.pages)
    (one_newest : (p : Place) (m n : ℕ) → IsNewest chip p m → IsNewest chip p n → m ≡ n) (victim : ℕ) (in_range : victim < geometry.blocks) (copied : first_current geometry chip victim ≡ None) where
  abbrev first : ℕ
  first = victim * geometry.pages

  abbrev gone : List Page
  gone = erase_block chip geometry.pages victim

  pub inside : first + geometry.pages ≤ length chip
  inside = whole geometry chip within count victim in_range

  pub no_flag : (page : ℕ) → first ≤ page → page < first + geometry.pages → is_current_at chip page ≡ false
  no_flag = first_between-none first (first + geometry.pages) (is_current_at chip) copied

  none_current : (p : Place) (page : ℕ) → first ≤ page → page < first + geometry.pages → current chip p ≢ Some page
  none_current p page from below is = both_ways (is_current_at chip page) (no_flag page from below) (newest-flag chip p page (current-newest chip p page is)).0

  pub at_page : (page : ℕ) → IsAfter chip first geometry.pages inside page
  at_page page = after_erase chip first geometry.pages inside page

  pub current-freed : (p : Place) → current gone p ≡ current chip p
  current-freed p = current-erased_between chip first (first + geometry.pages) (omega arith) inside p (none_current p)

  rank-lower : (i : ℕ) → rank_of (page_at gone i) ≤ rank_of (page_at chip i)
  rank-lower i = elim (at_page i).either [
    | inl none ↦ let zero_rank : rank_of (page_at gone i) ≡ 0 = ap rank_of none in omega (arith, zero_rank)
    | inr same ↦ let e : rank_of (page_at gone i) ≡ rank_of (page_at chip i) = ap rank_of same in omega (arith, e)
  ]

  newest-of : (i : ℕ) (page : Page) → page_at chip i ≡ page → 0 < rank_of page → rank_of page ≡ next_seq chip → IsNewest chip (place_named page) i
  newest-of i Erased is above newest = absurd (omega (arith, above))
  newest-of i (Written bytes spare) is above newest =
      let p : Place = place_of spare in
      let own : rank_for p (page_at chip i) ≡ spare.seq + 1 = ap (rank_for p) is ∙ ap (λ t. cond t (spare.seq + 1) 0) (same_place-same p) in
      let most : newest_rank chip p ≤ next_seq chip = greatest-rank p chip in
      let least : rank_for p (page_at chip i) ≤ newest_rank chip p = rw (← rank-at p chip i) (get_or-le-greatest (map (rank_for p) chip) i) in
      (omega (arith, own, newest, least), omega (arith, own, newest, most, least))

  -- the greatest number is a current page's
  pub next_seq-freed : next_seq gone ≡ next_seq chip
  next_seq-freed =
      let most : next_seq gone ≤ next_seq chip = greatest-le (map rank_of gone) (next_seq chip)
      (λ i. omega (arith, rank_of-at gone i, rank-lower i, rank_of-at chip i, get_or-le-greatest (map rank_of chip) i)) in
      elim (position_of_greatest (map rank_of chip))
      as (λ o. (position_of_greatest (map rank_of chip) ≡ o) → next_seq gone ≡ next_seq chip) [
        | None ↦ λ none. omega (arith, most, greatest-le (map rank_of chip) 0 (λ i. omega (arith, position_of_greatest-none (map rank_of chip) none i)))
        | Some i ↦ λ is.
            let at : IsGreatestAt (map rank_of chip) i = IsGreatestAt-position (map rank_of chip) i is in
            let newest : rank_of (page_at chip i) ≡ next_seq chip = omega (arith, rank_of-at chip i, greatest-le-at (map rank_of chip) i at, get_or-le-greatest (map rank_of chip) i) in
            let p : Place = place_named (page_at chip i) in
            let now : current chip p ≡ Some i = newest-current chip one_newest p i (newest-of i (page_at chip i) refl (omega (arith, rank_of-at chip i, at.above)) newest) in
            let out : (i < first) ⊎ (first + geometry.pages ≤ i) = elim (cases_lt i first) [
              | inl before ↦ inl before
              | inr from ↦ elim (cases_lt i (first + geometry.pages)) [
                | inl below ↦ absurd (none_current p i from below now)
                | inr behind ↦ inr behind
              ]
            ] in
            let same : rank_of (page_at gone i) ≡ rank_of (page_at chip i) = ap rank_of ((at_page i).stays out) in
            omega (arith, most, same, newest, rank_of-at gone i, get_or-le-greatest (map rank_of gone) i)
      ] refl
