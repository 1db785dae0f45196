-- Lists of numbers without one of them, and parts of lists.
use Rattle.std.proofs.Common.{◌≡◌, ℕ, suc, ◌+◌, ◌-◌, ◌<◌, ◌≤◌, true, false, not, cond, ◌||◌, List, [], ◌∷◌, ◌++◌, length, take, drop, map, replicate}
use Rattle.std.proofs.Common.{min, refl, sym, ap, ◌∙◌, arith, eqb, append_assoc, length-drop, ⊎_elim}
use Rattle.std.proofs.lemmas.Bool.{false≢true, cases_lt}
use Rattle.std.proofs.lemmas.List.{drop-drop, take_all, drop_all}
use Rattle.std.specs.List.{fold, range_with_len}
use Rattle.region_state.specs.Lists.{has, without, with_first, to_front, each_within}
use borrow.Rule.Slice.PartMut.{put_mid}

-- a list has no more without a number
pub length-without_le : (x : ℕ) (xs : List ℕ) → length (without x xs) ≤ length xs
length-without_le x [] = omega arith
length-without_le x (y ∷ ys) =
    let rest : length (without x ys) ≤ length ys = length-without_le x ys in
    elim (eqb y x) as (λ t. length (cond (not t) (y ∷ without x ys) (without x ys)) ≤ suc (length ys))
    [ true ↦ omega arith | false ↦ omega arith ]

-- and fewer, where the number was there
pub length-without : (x : ℕ) (xs : List ℕ) → has x xs ≡ true → length (without x xs) < length xs
length-without x [] found = absurd (false≢true found)
length-without x (y ∷ ys) found =
    elim (eqb y x) as (λ t. (t || has x ys) ≡ true → length (cond (not t) (y ∷ without x ys) (without x ys)) < suc (length ys)) [
      | true ↦ λ _. omega (arith, length-without_le x ys)
      | false ↦ λ found'. omega (arith, length-without x ys found')
    ]
    found

-- the front of the list moves no more in
pub length-to_front : (xs : List ℕ) (x : ℕ) → length (to_front xs x) ≤ length xs
length-to_front xs x =
    elim (has x xs) as (λ t. (has x xs ≡ t) → length (cond t (with_first x xs) xs) ≤ length xs)
    [ true ↦ λ found. omega (arith, length-without x xs found) | false ↦ λ _. omega arith ]
    refl

-- one more region moves to the front
pub fold-range_more : (xs : List ℕ) (i end : ℕ) → i < end
    → fold to_front xs (range_with_len i (end - i)) ≡ fold to_front (to_front xs i) (range_with_len (i + 1) (end - (i + 1)))
fold-range_more xs i end below =
    let e : end - i ≡ suc (end - (i + 1)) = omega arith in
    rw e refl

-- no region is left to move
pub fold-range_none : (xs : List ℕ) (i end : ℕ) → end ≤ i → fold to_front xs (range_with_len i (end - i)) ≡ xs
fold-range_none xs i end above =
    let e : end - i ≡ 0 = omega arith in
    rw e refl

module _ {X : Type 0} where
  pub map-constant : (y : X) (xs : List X) → map (λ _. y) xs ≡ replicate (length xs) y
  map-constant y [] = refl
  map-constant y (x ∷ xs) = ap (λ ys. y ∷ ys) (map-constant y xs)

  -- a write of a part, where f is written over each of its items
  pub put_mid-each_within : (f : X → X) (a b : ℕ) (xs : List X) → a ≤ b → put_mid a (b - a) xs (map f (take (b - a) (drop a xs))) ≡ each_within f a b xs
  put_mid-each_within f a b xs order =
      let e : a + (b - a) ≡ b = omega arith in
      sym (append_assoc (take a xs) (map f (take (b - a) (drop a xs))) (drop (b - a) (drop a xs)))
      ∙ ap (λ rest. take a xs ++ map f (take (b - a) (drop a xs)) ++ rest) (rw drop-drop (ap (λ n. drop n xs) e))

  -- a part may pass the end
  pub each_within-past : (f : X → X) (a b : ℕ) (xs : List X) → length xs ≤ b → each_within f a (length xs) xs ≡ each_within f a b xs
  each_within-past f a b xs past =
      let whole : take (length xs - a) (drop a xs) ≡ drop a xs = take_all (length xs - a) (drop a xs) (omega (arith, length-drop a xs)) in
      let all : take (b - a) (drop a xs) ≡ drop a xs = take_all (b - a) (drop a xs) (omega (arith, length-drop a xs)) in
      let none : drop (length xs) xs ≡ [] = drop_all (length xs) xs (omega arith) in
      let none_past : drop b xs ≡ [] = drop_all b xs past in
      rw (whole, all, none, none_past) refl

  -- a part is filled
  pub filled : (y : X) (a b : ℕ) (xs ys : List X) → a ≤ b → a ≤ length xs
      → ys ≡ replicate (length (take (min b (length xs) - a) (drop a xs))) y → put_mid a (min b (length xs) - a) xs ys ≡ each_within (λ _. y) a b xs
  filled y a b xs ys order within is =
      rw (is, ← map-constant y (take (min b (length xs) - a) (drop a xs)))
      (put_mid-each_within (λ _. y) a (min b (length xs)) xs (omega arith) ∙ cut)
    where
      cut : each_within (λ _. y) a (min b (length xs)) xs ≡ each_within (λ _. y) a b xs
      cut = ⊎_elim (λ below. let e : min b (length xs) ≡ b = omega arith in rw e refl)
          (λ past. let e : min b (length xs) ≡ length xs = omega arith in rw e (each_within-past (λ _. y) a b xs past)) (cases_lt b (length xs))

-- a list without a number has room for it, where it had the number or had room
pub length-without_room : (x : ℕ) (xs : List ℕ) (n : ℕ) → length xs ≤ n → (has x xs ≡ false → length xs < n) → length (without x xs) < n
length-without_room x xs n few room =
    elim (has x xs) as (λ t. (has x xs ≡ t) → length (without x xs) < n) [
      | true ↦ λ found. omega (arith, length-without x xs found)
      | false ↦ λ none. omega (arith, length-without_le x xs, room none)
    ]
    refl
