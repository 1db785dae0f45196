-- Valid pages: which entries they honour, and which pages are valid after a program.
use Rattle.std.proofs.Common.{◌≡◌, ◌≢◌, ◌⊎◌, ◌+◌, ◌<◌, ℕ, List, Bool, true, false, cond, nat_eq, length, set, get_or}
use Rattle.std.proofs.Common.{replicate, map, Option, Some, None, refl, sym, subst, ap, ◌∙◌, inl, inr, zero, suc, arith}
use Rattle.std.specs.Option.{option_map_or}
use Rattle.std.proofs.lemmas.List.{length-set, get_or-set_same, get_or-set_other}
use Rattle.std.proofs.lemmas.Bool.{cases_eq, eqb-true, eq-eqb, ne_eqb}
use Rattle.flash_pages.specs.declared.chip.Spare.{Spare}
use Rattle.flash_pages.specs.Chip.{Page, Erased, Written, page_at}
use Rattle.flash_pages.specs.Place.{Place}
use Rattle.flash_pages.specs.Unit.{place_of, same_place, rank_for, current}
use Rattle.flash_pages.proofs.Greatest.{IsGreatestAt-position}
use Rattle.flash_pages.proofs.Places.{same_place-true, cases_place}
use Rattle.flash_pages.proofs.Programming.{rank-at, page_at-erased, current-written, current-inside, current-others}
use Rattle.collector_laws.specs.CollectStep.{place_named}
use Rattle.flash_store.specs.Entries.{IsHonoured, names_place, has_current, is_valid_page, flags_after}

differ : true ≡ false → ⊥
differ e = cc

some_same : (a b : ℕ) → Some a ≡ Some b → a ≡ b
some_same a b e = cc

cases_some : (o : Option ℕ) (n : ℕ) → (o ≡ Some n) ⊎ (o ≢ Some n)
cases_some None n = inr (λ e. cc)
cases_some (Some m) n =
    elim (cases_eq m n) [
      | inl same ↦ inl (ap Some same)
      | inr apart ↦ inr (λ e. apart (some_same m n e))
    ]

-- whether an option is this number
tells : (n : ℕ) (o : Option ℕ) → option_map_or (nat_eq n) o false ≡ true → o ≡ Some n
tells n None e = cc
tells n (Some m) e = ap Some (sym (eqb-true n m e))

pub tells_not : (n : ℕ) (o : Option ℕ) → o ≢ Some n → option_map_or (nat_eq n) o false ≡ false
tells_not n None other = refl
tells_not n (Some m) other = ne_eqb n m (λ e. other (ap Some (sym e)))

-- the current page of a place names it
named-rank : (p : Place) (page : Page) → 0 < rank_for p page → names_place p page ≡ true
named-rank p Erased above = absurd (omega arith)
named-rank p (Written bytes spare) above =
    elim (same_place (place_of spare) p)
    as (λ t. (0 < cond t (spare.seq + 1) 0) → t ≡ true) [
      | true ↦ λ _. refl
      | false ↦ λ above. absurd (omega arith)
    ] above

pub named-current : (chip : List Page) (p : Place) (n : ℕ) → current chip p ≡ Some n → names_place p (page_at chip n) ≡ true
named-current chip p n is =
    named-rank p (page_at chip n) (rw (← rank-at p chip n) (IsGreatestAt-position (map (rank_for p) chip) n is).above)

-- and is valid
valid-named : (chip : List Page) (p : Place) (n : ℕ) (page : Page) → current chip p ≡ Some n → names_place p page ≡ true → has_current chip n page ≡ true
valid-named chip p n Erased is named = cc
valid-named chip p n (Written bytes spare) is named =
    ap (λ q. option_map_or (nat_eq n) (current chip q) false) (same_place-true (place_of spare) p named)
    ∙ ap (λ o. option_map_or (nat_eq n) o false) is
    ∙ eq-eqb n n refl

-- a valid page is the current one of the place that it names
pub has_current-some : (chip : List Page) (n : ℕ) (page : Page) → has_current chip n page ≡ true → current chip (place_named page) ≡ Some n
has_current-some chip n Erased valid = cc
has_current-some chip n (Written bytes spare) valid = tells n (current chip (place_of spare)) valid

pub valid-current : (chip : List Page) (p : Place) (n : ℕ) → current chip p ≡ Some n → is_valid_page chip n ≡ true
valid-current chip p n is = valid-named chip p n (page_at chip n) is (named-current chip p n is)

-- so an entry that names no valid page is not honoured
pub not-honoured : (chip : List Page) (p : Place) (entry : ℕ) → is_valid_page chip entry ≡ false → IsHonoured chip p entry → ⊥
not-honoured chip p entry not_valid is = differ (sym (valid-current chip p entry is) ∙ not_valid)

-- nor is one whose page names another place
pub not-honoured-elsewhere : (chip : List Page) (p : Place) (entry : ℕ) → names_place p (page_at chip entry) ≡ false → IsHonoured chip p entry → ⊥
not-honoured-elsewhere chip p entry elsewhere is = differ (sym (named-current chip p entry is) ∙ elsewhere)

-- a valid page that names a place is its current page
current-named : (chip : List Page) (p : Place) (n : ℕ) (page : Page) → has_current chip n page ≡ true → names_place p page ≡ true → current chip p ≡ Some n
current-named chip p n Erased valid named = cc
current-named chip p n (Written bytes spare) valid named =
    subst (λ q. current chip q ≡ Some n) (same_place-true (place_of spare) p named) (tells n (current chip (place_of spare)) valid)

pub current-valid : (chip : List Page) (p : Place) (n : ℕ) → is_valid_page chip n ≡ true → names_place p (page_at chip n) ≡ true → current chip p ≡ Some n
current-valid chip p n valid named = current-named chip p n (page_at chip n) valid named

-- no page of an erased chip is valid
false-replicate : (count n : ℕ) → get_or (replicate count false) n false ≡ false
false-replicate zero n = refl
false-replicate (suc count) zero = refl
false-replicate (suc count) (suc n) = false-replicate count n

pub valid-erased : (count n : ℕ) → get_or (replicate count false) n false ≡ is_valid_page (replicate count Erased) n
valid-erased count n = false-replicate count n ∙ sym (ap (has_current (replicate count Erased) n) (page_at-erased count n))

module _ (chip : List Page) (flags : List Bool) (page : ℕ) (bytes : List ℕ) (spare : Spare) (whole : length flags ≡ length chip) (each : (n : ℕ) → get_or flags n false ≡ is_valid_page chip n)
    (inside : page < length chip) (erased : page_at chip page ≡ Erased) (newest : current (set chip page (Written bytes spare)) (place_of spare) ≡ Some page) where
  abbrev programmed : List Page
  programmed = set chip page (Written bytes spare)

  abbrev old : Option ℕ
  old = current chip (place_of spare)

  abbrev after : List Bool
  after = flags_after flags page old

  marked-page : get_or (set flags page true) page false ≡ true
  marked-page = get_or-set_same flags page true false (rw whole inside)

  -- the old page is not valid any more, and the new one is
  flag-old : (n : ℕ) → old ≡ Some n → get_or after n false ≡ false
  flag-old n is =
      ap (λ o. get_or (flags_after flags page o) n false) is
      ∙ get_or-set_same (set flags page true) n false false (rw (length-set, whole) (current-inside chip (place_of spare) n is))

  flag-page : get_or after page false ≡ true
  flag-page =
      elim old
      as (λ o. (old ≡ o) → get_or (flags_after flags page o) page false ≡ true) [
        | None ↦ λ _. marked-page
        | Some other ↦ λ is.
            get_or-set_other (set flags page true) other page false false
            (λ same. current-written chip (place_of spare) other is (ap (page_at chip) (sym same) ∙ erased))
            ∙ marked-page
      ] refl

  flag-other : (n : ℕ) → n ≢ page → old ≢ Some n → get_or after n false ≡ get_or flags n false
  flag-other n apart not_old =
      elim old
      as (λ o. (o ≢ Some n) → get_or (flags_after flags page o) n false ≡ get_or flags n false) [
        | None ↦ λ _. get_or-set_other flags page n true false apart
        | Some other ↦ λ differ.
            get_or-set_other (set flags page true) other n false false (λ same. differ (ap Some (sym same)))
            ∙ get_or-set_other flags page n true false apart
      ] not_old

  -- page n as it was, where it isn't the new page
  valid-other : (n : ℕ) → n ≢ page → (was : Page) → page_at chip n ≡ was → get_or after n false ≡ has_current programmed n was
  valid-other n apart Erased is =
      flag-other n apart (λ e. current-written chip (place_of spare) n e is) ∙ each n ∙ ap (has_current chip n) is
  valid-other n apart (Written b s) is =
      elim (cases_place (place_of spare) (place_of s)) [
        | inl same ↦ replaced same ∙ sym (ap (λ o. option_map_or (nat_eq n) o false) (now same) ∙ ne_eqb n page apart)
        | inr other ↦
            flag-other n apart (λ e. other (sym (same_place-true (place_of s) (place_of spare) (sym (ap (names_place (place_of spare)) is) ∙ named-current chip (place_of spare) n e))))
            ∙ each n ∙ ap (has_current chip n) is
            ∙ sym (ap (λ o. option_map_or (nat_eq n) o false) (current-others chip page bytes spare inside erased (place_of s) other))
      ]
    where
      now : place_of spare ≡ place_of s → current programmed (place_of s) ≡ Some page
      now same = ap (current programmed) (sym same) ∙ newest

      replaced : place_of spare ≡ place_of s → get_or after n false ≡ false
      replaced same =
          elim (cases_some old n) [
            | inl is_old ↦ flag-old n is_old
            | inr not_old ↦
                flag-other n apart not_old ∙ each n ∙ ap (has_current chip n) is
                ∙ ap (λ p. option_map_or (nat_eq n) (current chip p) false) (sym same)
                ∙ tells_not n old not_old
          ]

  pub valid-programmed : (n : ℕ) → get_or after n false ≡ is_valid_page programmed n
  valid-programmed n =
      elim (cases_eq n page) [
        | inl same ↦
            ap (λ k. get_or after k false) same ∙ flag-page
            ∙ sym (ap (is_valid_page programmed) same
            ∙ ap (has_current programmed page) (get_or-set_same chip page (Written bytes spare) Erased inside)
            ∙ ap (λ o. option_map_or (nat_eq page) o false) (newest)
            ∙ eq-eqb page page refl)
        | inr apart ↦
            valid-other n apart (page_at chip n) refl
            ∙ sym (ap (has_current programmed n) (get_or-set_other chip page n (Written bytes spare) Erased apart))
      ]

  pub length-flags_after : length after ≡ length flags
  length-flags_after =
      elim old
      as (λ o. length (flags_after flags page o) ≡ length flags) [
        | None ↦ length-set flags page true
        | Some other ↦ length-set (set flags page true) other false ∙ length-set flags page true
      ]
