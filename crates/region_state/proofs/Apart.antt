-- Lists in which no number stands twice.
use Rattle.std.proofs.Common.{◌≡◌, ℕ, zero, suc, ◌+◌, ◌<◌, ◌≤◌, Bool, true, false, not, cond, ◌||◌, List, [], ◌∷◌, ◌++◌, length, drop, refl, sym, ap, ◌∙◌, subst, arith, eqb, ◌⊎◌, inl, inr, ⊎_elim}
use Rattle.std.proofs.lemmas.Bool.{false≢true, and_parts, and_from, or_cases, or_parts, or_left, or_right, eqb-true, eqb-false, eq-eqb}
use Rattle.std.specs.List.{fold}
use Rattle.region_state.specs.Lists.{has, without, with_first, to_front, is_distinct}
use Rattle.region_state.specs.Kept.{IsApart}
use Rattle.region_state.proofs.ListLemmas.{length-to_front}

false_from_not : (b : Bool) → not b ≡ true → b ≡ false
false_from_not true h = sym h
false_from_not false _ = refl

not_from_false : (b : Bool) → b ≡ false → not b ≡ true
not_from_false true h = sym h
not_from_false false _ = refl

absent : (b : Bool) → (b ≡ true → ⊥) → b ≡ false
absent true h = absurd (h refl)
absent false _ = refl

both : (b : Bool) → b ≡ true → b ≡ false → ⊥
both b h k = false≢true (sym k ∙ h)

-- what is in the list without one number is in the list, and is another number
pub has-without : (x y : ℕ) (xs : List ℕ) → has y (without x xs) ≡ true → (has y xs ≡ true) × (y ≡ x → ⊥)
has-without x y [] found = absurd (false≢true found)
has-without x y (z ∷ zs) found =
    elim (eqb z x) as (λ t. (eqb z x ≡ t) → has y (cond (not t) (z ∷ without x zs) (without x zs)) ≡ true → ((eqb z y || has y zs) ≡ true) × (y ≡ x → ⊥)) [
      | true ↦ λ _ rest. (or_right (eqb z y) (has y zs) (has-without x y zs rest).0, (has-without x y zs rest).1)
      | false ↦ λ other kept. ⊎_elim
          (λ here. (or_left (eqb z y) (has y zs) here, λ same. eqb-false z x other (eqb-true z y here ∙ same)))
          (λ rest. (or_right (eqb z y) (has y zs) (has-without x y zs rest).0, (has-without x y zs rest).1))
          (or_cases (eqb z y) (has y (without x zs)) kept)
    ]
    refl found

pub absent-without : (x y : ℕ) (xs : List ℕ) → has y xs ≡ false → has y (without x xs) ≡ false
absent-without x y xs none = absent (has y (without x xs)) (λ found. both (has y xs) (has-without x y xs found).0 none)

pub absent-without_same : (x : ℕ) (xs : List ℕ) → has x (without x xs) ≡ false
absent-without_same x xs = absent (has x (without x xs)) (λ found. (has-without x x xs found).1 refl)

pub is_distinct-without : (x : ℕ) (xs : List ℕ) → is_distinct xs ≡ true → is_distinct (without x xs) ≡ true
is_distinct-without x [] _ = refl
is_distinct-without x (z ∷ zs) once =
    let parts : (not (has z zs) ≡ true) × (is_distinct zs ≡ true) = and_parts (not (has z zs)) (is_distinct zs) once in
    let rest : is_distinct (without x zs) ≡ true = is_distinct-without x zs parts.1 in
    elim (eqb z x) as (λ t. is_distinct (cond (not t) (z ∷ without x zs) (without x zs)) ≡ true) [
      | true ↦ rest
      | false ↦ and_from (not (has z (without x zs))) (is_distinct (without x zs))
          (not_from_false (has z (without x zs)) (absent-without x z zs (false_from_not (has z zs) parts.0))) rest
    ]

pub without-absent : (x : ℕ) (xs : List ℕ) → has x xs ≡ false → without x xs ≡ xs
without-absent x [] _ = refl
without-absent x (z ∷ zs) none =
    elim (eqb z x) as (λ t. (t || has x zs) ≡ false → cond (not t) (z ∷ without x zs) (without x zs) ≡ z ∷ zs)
    [ true ↦ λ h. absurd (false≢true (sym h)) | false ↦ λ h. ap (λ ys. z ∷ ys) (without-absent x zs h) ]
    none

-- a list has one less without a number, at most
length-without_once : (x : ℕ) (xs : List ℕ) → is_distinct xs ≡ true → length xs ≤ length (without x xs) + 1
length-without_once x [] _ = omega arith
length-without_once x (z ∷ zs) once =
    let parts : (not (has z zs) ≡ true) × (is_distinct zs ≡ true) = and_parts (not (has z zs)) (is_distinct zs) once in
    elim (eqb z x) as (λ t. (eqb z x ≡ t) → suc (length zs) ≤ length (cond (not t) (z ∷ without x zs) (without x zs)) + 1) [
      | true ↦ λ same.
          let P : ℕ → Type 0 = λ y. has y zs ≡ false in
          let none : has x zs ≡ false = subst P (eqb-true z x same) (false_from_not (has z zs) parts.0) in
          rw (without-absent x zs none) (omega arith)
      | false ↦ λ _. omega (arith, length-without_once x zs parts.1)
    ]
    refl

-- numbers below n, of which none stands twice, are n at most
pub length-distinct : (n : ℕ) (xs : List ℕ) → is_distinct xs ≡ true → ((x : ℕ) → has x xs ≡ true → x < n) → length xs ≤ n
length-distinct zero [] _ _ = omega arith
length-distinct zero (x ∷ xs) _ below =
    let impossible : x < 0 = below x (or_left (eqb x x) (has x xs) (eq-eqb x x refl)) in
    absurd (omega arith)
length-distinct (suc n) xs once below =
    let rest : length (without n xs) ≤ n =
    length-distinct n (without n xs) (is_distinct-without n xs once)
    (λ x found. smaller x (below x (has-without n x xs found).0) (has-without n x xs found).1) in
    omega (arith, length-without_once n xs once)
  where
    smaller : (x : ℕ) → x < suc n → (x ≡ n → ⊥) → x < n
    smaller x low other = omega arith

has-append_cases : (y : ℕ) (xs ys : List ℕ) → has y (xs ++ ys) ≡ true → (has y xs ≡ true) ⊎ (has y ys ≡ true)
has-append_cases y [] ys found = inr found
has-append_cases y (x ∷ xs) ys found =
    ⊎_elim (λ here. inl (or_left (eqb x y) (has y xs) here))
    (λ rest. ⊎_elim (λ left. inl (or_right (eqb x y) (has y xs) left)) (λ right. inr right) (has-append_cases y xs ys rest))
    (or_cases (eqb x y) (has y (xs ++ ys)) found)

has-append_left : (y : ℕ) (xs ys : List ℕ) → has y xs ≡ true → has y (xs ++ ys) ≡ true
has-append_left y [] ys found = absurd (false≢true found)
has-append_left y (x ∷ xs) ys found =
    ⊎_elim (λ here. or_left (eqb x y) (has y (xs ++ ys)) here) (λ rest. or_right (eqb x y) (has y (xs ++ ys)) (has-append_left y xs ys rest))
    (or_cases (eqb x y) (has y xs) found)

has-append_last : (y : ℕ) (xs : List ℕ) → has y (xs ++ y ∷ []) ≡ true
has-append_last y [] = or_left (eqb y y) false (eq-eqb y y refl)
has-append_last y (x ∷ xs) = or_right (eqb x y) (has y (xs ++ y ∷ [])) (has-append_last y xs)

has-one : (y x : ℕ) → has y (x ∷ []) ≡ true → x ≡ y
has-one y x found = ⊎_elim (λ here. eqb-true x y here) (λ none. absurd (false≢true none)) (or_cases (eqb x y) false found)

-- a number that is new goes last
is_distinct-push : (y : ℕ) (xs : List ℕ) → is_distinct xs ≡ true → has y xs ≡ false → is_distinct (xs ++ y ∷ []) ≡ true
is_distinct-push y [] _ _ = refl
is_distinct-push y (x ∷ xs) once new =
    let parts : (not (has x xs) ≡ true) × (is_distinct xs ≡ true) = and_parts (not (has x xs)) (is_distinct xs) once in
    let apart : (eqb x y ≡ false) × (has y xs ≡ false) = or_parts (eqb x y) (has y xs) new in
    and_from (not (has x (xs ++ y ∷ []))) (is_distinct (xs ++ y ∷ []))
    (not_from_false (has x (xs ++ y ∷ [])) (absent (has x (xs ++ y ∷ [])) (λ found.
    ⊎_elim (λ left. both (has x xs) left (false_from_not (has x xs) parts.0))
    (λ right. eqb-false x y apart.0 (sym (has-one x y right)))
    (has-append_cases x xs (y ∷ []) found))))
    (is_distinct-push y xs parts.1 apart.1)

-- the front of such a list, and the last number, which isn't in it
is_distinct-front : (y : ℕ) (xs : List ℕ) → is_distinct (xs ++ y ∷ []) ≡ true → (is_distinct xs ≡ true) × (has y xs ≡ false)
is_distinct-front y [] _ = (refl, refl)
is_distinct-front y (x ∷ xs) once =
    let parts : (not (has x (xs ++ y ∷ [])) ≡ true) × (is_distinct (xs ++ y ∷ []) ≡ true) =
    and_parts (not (has x (xs ++ y ∷ []))) (is_distinct (xs ++ y ∷ [])) once in
    let rest : (is_distinct xs ≡ true) × (has y xs ≡ false) = is_distinct-front y xs parts.1 in
    let none : has x (xs ++ y ∷ []) ≡ false = false_from_not (has x (xs ++ y ∷ [])) parts.0 in (
      and_from (not (has x xs)) (is_distinct xs)
          (not_from_false (has x xs) (absent (has x xs) (λ found. both (has x (xs ++ y ∷ [])) (has-append_left x xs (y ∷ []) found) none)))
          rest.0,
      absent (eqb x y || has y xs) (λ found. ⊎_elim
          (λ here.
          let P : ℕ → Type 0 = λ n. has n (xs ++ y ∷ []) ≡ false in
          both (has y (xs ++ y ∷ [])) (has-append_last y xs) (subst P (eqb-true x y here) none))
          (λ later. both (has y xs) later rest.1)
          (or_cases (eqb x y) (has y xs) found)),
    )

module _ (held gone : List ℕ) (regions : ℕ) (is : IsApart held gone regions) where
  -- nothing is new at the front
  has-to_front : (x y : ℕ) → has y (to_front held x) ≡ true → has y held ≡ true
  has-to_front x y found =
      elim (has x held) as (λ t. (has x held ≡ t) → has y (cond t (with_first x held) held) ≡ true → has y held ≡ true) [
        | true ↦ λ there moved. ⊎_elim
            (λ here. let P : ℕ → Type 0 = λ n. has n held ≡ true in subst P (eqb-true x y here) there)
            (λ rest. (has-without x y held rest).0)
            (or_cases (eqb x y) (has y (without x held)) moved)
        | false ↦ λ _ same. same
      ]
      refl found

  pub IsApart-to_front : (x : ℕ) → IsApart (to_front held x) gone regions
  IsApart-to_front x = record {
    held_once =
        elim (has x held) as (λ t. is_distinct (cond t (with_first x held) held) ≡ true) [
          | true ↦ and_from (not (has x (without x held))) (is_distinct (without x held))
              (not_from_false (has x (without x held)) (absent-without_same x held)) (is_distinct-without x held is.held_once)
          | false ↦ is.held_once
        ];
    gone_once = is.gone_once;
    apart = λ y found. is.apart y (has-to_front x y found);
    held_below = λ y found. is.held_below y (has-to_front x y found);
    gone_below = is.gone_below;
  }

  pub IsApart-without : (x : ℕ) → IsApart (without x held) (without x gone) regions
  IsApart-without x = record {
    held_once = is_distinct-without x held is.held_once;
    gone_once = is_distinct-without x gone is.gone_once;
    apart = λ y found. absent-without x y gone (is.apart y (has-without x y held found).0);
    held_below = λ y found. is.held_below y (has-without x y held found).0;
    gone_below = λ y found. is.gone_below y (has-without x y gone found).0;
  }

  pub IsApart-with_first : (x : ℕ) → x < regions → IsApart (with_first x held) (without x gone) regions
  IsApart-with_first x below = record {
    held_once =
        and_from (not (has x (without x held))) (is_distinct (without x held))
        (not_from_false (has x (without x held)) (absent-without_same x held)) (is_distinct-without x held is.held_once);
    gone_once = is_distinct-without x gone is.gone_once;
    apart = λ y found. ⊎_elim
        (λ here. let P : ℕ → Type 0 = λ n. has n (without x gone) ≡ false in subst P (eqb-true x y here) (absent-without_same x gone))
        (λ rest. absent-without x y gone (is.apart y (has-without x y held rest).0))
        (or_cases (eqb x y) (has y (without x held)) found);
    held_below = λ y found. ⊎_elim
        (λ here. let P : ℕ → Type 0 = λ n. n < regions in subst P (eqb-true x y here) below)
        (λ rest. is.held_below y (has-without x y held rest).0)
        (or_cases (eqb x y) (has y (without x held)) found);
    gone_below = λ y found. is.gone_below y (has-without x y gone found).0;
  }

-- the last region that is held is dropped
module _ (front gone : List ℕ) (last regions : ℕ) (is : IsApart (front ++ last ∷ []) gone regions) where
  last_is_new : has last gone ≡ false
  last_is_new = is.apart last (has-append_last last front)

  pub last-lt : last < regions
  last-lt = is.held_below last (has-append_last last front)

  pub IsApart-dropped : IsApart front (gone ++ last ∷ []) regions
  IsApart-dropped = record {
    held_once = (is_distinct-front last front is.held_once).0;
    gone_once = is_distinct-push last gone is.gone_once last_is_new;
    apart = λ y found. absent (has y (gone ++ last ∷ [])) (λ told. ⊎_elim
        (λ left. both (has y gone) left (is.apart y (has-append_left y front (last ∷ []) found)))
        (λ right.
        let P : ℕ → Type 0 = λ n. has n front ≡ false in
        both (has y front) found (subst P (has-one y last right) (is_distinct-front last front is.held_once).1))
        (has-append_cases y gone (last ∷ []) told));
    held_below = λ y found. is.held_below y (has-append_left y front (last ∷ []) found);
    gone_below = λ y found. ⊎_elim (λ left. is.gone_below y left)
        (λ right. let P : ℕ → Type 0 = λ n. n < regions in subst P (has-one y last right) last-lt)
        (has-append_cases y gone (last ∷ []) found);
  }

  -- there is room to tell of one more region
  pub length-gone_lt : length gone < regions
  length-gone_lt =
      let all : length (last ∷ gone) ≤ regions =
      length-distinct regions (last ∷ gone)
      (and_from (not (has last gone)) (is_distinct gone) (not_from_false (has last gone) last_is_new) is.gone_once)
      (λ y found. ⊎_elim
      (λ here. let P : ℕ → Type 0 = λ n. n < regions in subst P (eqb-true last y here) last-lt)
      (λ rest. is.gone_below y rest)
      (or_cases (eqb last y) (has y gone) found)) in
      omega arith

-- several regions go to the front
pub IsApart-fold : (regions : ℕ) (xs held gone : List ℕ) → IsApart held gone regions → IsApart (fold to_front held xs) gone regions
IsApart-fold regions [] held gone is = is
IsApart-fold regions (x ∷ xs) held gone is = IsApart-fold regions xs (to_front held x) gone (IsApart-to_front held gone regions is x)

pub length-fold_to_front : (xs held : List ℕ) → length (fold to_front held xs) ≤ length held
length-fold_to_front [] held = omega arith
length-fold_to_front (x ∷ xs) held = omega (arith, length-fold_to_front xs (to_front held x), length-to_front held x)

pub length-fold_limit : (n : ℕ) (xs held : List ℕ) → length held ≤ n → length (fold to_front held xs) ≤ n
length-fold_limit n xs held few = omega (arith, length-fold_to_front xs held)

-- nothing is held and nothing is to be told
pub IsApart-none : (regions : ℕ) → IsApart [] [] regions
IsApart-none regions = record {
  held_once = refl;
  gone_once = refl;
  apart = λ y found. absurd (false≢true found);
  held_below = λ y found. absurd (false≢true found);
  gone_below = λ y found. absurd (false≢true found);
}

-- the first region is told
pub IsApart-told : (held gone : List ℕ) (regions : ℕ) → IsApart held gone regions → IsApart held (drop 1 gone) regions
IsApart-told held [] regions is = is
IsApart-told held (x ∷ gone) regions is = record {
  held_once = is.held_once;
  gone_once = (and_parts (not (has x gone)) (is_distinct gone) is.gone_once).1;
  apart = λ y found. (or_parts (eqb x y) (has y gone) (is.apart y found)).1;
  held_below = is.held_below;
  gone_below = λ y found. is.gone_below y (or_right (eqb x y) (has y gone) found);
}
