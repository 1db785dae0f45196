-- On a sound chip the valid pages are the current ones, and what follows of them: counts, first ones, a fresh buffer.
use Rattle.std.proofs.Common.{◌≡◌, ◌+◌, ◌-◌, ◌*◌, ℕ, List, [], ◌∷◌, Bool, true, false, cond, nat_eq, length, map, find, Option, None, Some, refl, sym, ap, ◌∙◌, inl, inr, arith}
use Rattle.std.specs.Option.{option_map_or}
use Rattle.std.specs.List.{range_with_len}
use Rattle.std.proofs.lemmas.Bool.{cases_Bool}
use Rattle.std.proofs.lemmas.List.{length-map, get_or-map, ext_get_or}
use Rattle.flash_pages.specs.declared.chip.Geometry.{Geometry}
use Rattle.flash_pages.specs.Chip.{Page, Erased, Written, page_at, is_erased}
use Rattle.flash_pages.specs.Place.{Place}
use Rattle.flash_pages.specs.Unit.{current}
use Rattle.flash_pages.specs.Sound.{is_current, current_count, IsNewest}
use Rattle.page_validity.specs.ValidPages.{is_valid_in, valid_count, next_valid, first_between}
use Rattle.collector_laws.specs.CollectStep.{Buffered, place_named, is_current_at, first_current, if_current, fresh, IsBuffer}
use Rattle.collector_laws.proofs.Flags.{flag-newest, newest-current, newest-flag, current-newest}
use Rattle.collector_laws.proofs.Frontier.{valid_count-current}
use Rattle.flash_store.specs.Entries.{has_current, is_valid_page}
use Rattle.flash_store.proofs.Valid.{valid-current, has_current-some}

abbrev pub HasOneNewest : List Page → Type 0
HasOneNewest chip = (p : Place) (m n : ℕ) → IsNewest chip p m → IsNewest chip p n → m ≡ n

differ : true ≡ false → ⊥
differ e = cc

pub valid-is_current : (chip : List Page) → HasOneNewest chip → (n : ℕ) → is_valid_page chip n ≡ is_current_at chip n
valid-is_current chip one n =
    let p : Place = place_named (page_at chip n) in
    elim (cases_Bool (is_current_at chip n)) [
      | inl flag ↦ valid-current chip p n (newest-current chip one p n (flag-newest chip n flag)) ∙ sym flag
      | inr no_flag ↦ elim (cases_Bool (is_valid_page chip n)) [
        | inr no_valid ↦ no_valid ∙ sym no_flag
        | inl valid ↦ absurd (differ (sym (newest-flag chip p n (current-newest chip p n (has_current-some chip n (page_at chip n) valid))).0 ∙ no_flag))
      ]
    ]

find-same : (f g : ℕ → Bool) → ((n : ℕ) → f n ≡ g n) → (ns : List ℕ) → find f ns ≡ find g ns
find-same f g same [] = refl
find-same f g same (n ∷ ns) =
    ap (λ t. cond t (Some n) (find f ns)) (same n) ∙ ap (cond (g n) (Some n)) (find-same f g same ns)

pub first_between-same : (f g : ℕ → Bool) → ((n : ℕ) → f n ≡ g n) → (first end : ℕ) → first_between first end f ≡ first_between first end g
first_between-same f g same first end = find-same f g same (range_with_len first (end - first))

module _ (geometry : Geometry) (chip : List Page) (flags : List Bool) (one : HasOneNewest chip) (each : (n : ℕ) → is_valid_in flags n ≡ is_valid_page chip n) (whole : length flags ≡ length chip) where
  pub flags-current : flags ≡ map (is_current chip) chip
  flags-current =
      ext_get_or false flags (map (is_current chip) chip) (whole ∙ sym (length-map chip (is_current chip)))
      (λ i inside. each i ∙ valid-is_current chip one i ∙ sym (get_or-map (is_current chip) chip i Erased false (rw (← whole) inside)))

  pub valid_count-is : (block : ℕ) → valid_count geometry.pages flags block ≡ current_count geometry chip block
  valid_count-is block = ap (λ fs. valid_count geometry.pages fs block) flags-current ∙ valid_count-current geometry chip block

  pub next_valid-is : (block : ℕ) → next_valid geometry.pages flags block 0 ≡ first_current geometry chip block
  next_valid-is block =
      let from : block * geometry.pages + 0 ≡ block * geometry.pages = omega arith in
      ap (λ n. first_between n (block * geometry.pages + geometry.pages) (is_valid_in flags)) from
      ∙ first_between-same (is_valid_in flags) (is_current_at chip) (λ n. each n ∙ valid-is_current chip one n) (block * geometry.pages) (block * geometry.pages + geometry.pages)

-- a buffer is fresh where its page is valid
fresh-page : (chip : List Page) (n : ℕ) (p : Place) (page : Page) → is_erased page ≡ false → place_named page ≡ p → option_map_or (nat_eq n) (current chip p) false ≡ has_current chip n page
fresh-page chip n p Erased written names = cc
fresh-page chip n p (Written bytes spare) written names = ap (λ q. option_map_or (nat_eq n) (current chip q) false) (sym names)

pub fresh-valid : (geometry : Geometry) (chip : List Page) (victim : Option ℕ) (held : Buffered) → IsBuffer geometry chip victim held
    → fresh chip (Some held) ≡ if_current (is_valid_page chip held.page) held
fresh-valid geometry chip victim held at =
    ap (λ t. if_current t held) (fresh-page chip held.page held.place (page_at chip held.page) at.written at.place)

-- no buffer is fresh where its page is not valid
pub stale-valid : (geometry : Geometry) (chip : List Page) (victim : Option ℕ) (held : Buffered) → IsBuffer geometry chip victim held → is_valid_page chip held.page ≡ false
    → fresh chip (Some held) ≡ None
stale-valid geometry chip victim held at not_valid = fresh-valid geometry chip victim held at ∙ ap (λ t. if_current t held) not_valid

pub still-fresh : (geometry : Geometry) (chip : List Page) (victim : Option ℕ) (held : Buffered) → IsBuffer geometry chip victim held → is_valid_page chip held.page ≡ true
    → fresh chip (Some held) ≡ Some held
still-fresh geometry chip victim held at valid = fresh-valid geometry chip victim held at ∙ ap (λ t. if_current t held) valid
