-- Where no subregion is due, and what a change makes of that.
use Rattle.std.proofs.Common.{◌≡◌, ℕ, zero, suc, ◌+◌, ◌-◌, Bool, true, false, cond, ◌||◌, List, [], ◌∷◌, ◌++◌, length, take, drop, map, set, replicate, Some, None, refl, ◌∙◌}
use Rattle.std.proofs.lemmas.Bool.{or_parts}
use Rattle.std.proofs.lemmas.List.Folds.{list_any-append}
use Rattle.std.specs.List.{list_any, position_from}
use Rattle.region_state.specs.declared.subregion.Subregion.{Subregion}
use Rattle.region_state.specs.Lists.{each_within}
use Rattle.region_state.specs.Subregion.{is_due, unloaded}

pub neither : (a b : Bool) → a ≡ false → b ≡ false → (a || b) ≡ false
neither a b e f = rw (e, f) refl

pub none-take : (n : ℕ) (xs : List Subregion) → list_any is_due xs ≡ false → list_any is_due (take n xs) ≡ false
none-take zero xs _ = refl
none-take (suc n) [] _ = refl
none-take (suc n) (x ∷ xs) none =
    let parts = or_parts (is_due x) (list_any is_due xs) none in
    neither (is_due x) (list_any is_due (take n xs)) parts.0 (none-take n xs parts.1)

pub none-drop : (n : ℕ) (xs : List Subregion) → list_any is_due xs ≡ false → list_any is_due (drop n xs) ≡ false
none-drop zero xs none = none
none-drop (suc n) [] none = none
none-drop (suc n) (x ∷ xs) none = none-drop n xs (or_parts (is_due x) (list_any is_due xs) none).1

-- a part changes to items that aren't due
pub none-each_within : (f : Subregion → Subregion) (a b : ℕ) (xs : List Subregion)
    → list_any is_due (map f (take (b - a) (drop a xs))) ≡ false → list_any is_due xs ≡ false → list_any is_due (each_within f a b xs) ≡ false
none-each_within f a b xs part none =
    list_any-append is_due (take a xs ++ map f (take (b - a) (drop a xs))) (drop b xs)
    ∙ neither (list_any is_due (take a xs ++ map f (take (b - a) (drop a xs)))) (list_any is_due (drop b xs))
    (list_any-append is_due (take a xs) (map f (take (b - a) (drop a xs)))
    ∙ neither (list_any is_due (take a xs)) (list_any is_due (map f (take (b - a) (drop a xs)))) (none-take a xs none) part)
    (none-drop b xs none)

pub none-forgotten : (xs : List Subregion) → list_any is_due (map (λ _. unloaded) xs) ≡ false
none-forgotten [] = refl
none-forgotten (x ∷ xs) = none-forgotten xs

pub none-each_forgotten : (a b : ℕ) (xs : List Subregion) → list_any is_due xs ≡ false → list_any is_due (each_within (λ _. unloaded) a b xs) ≡ false
none-each_forgotten a b xs none = none-each_within (λ _. unloaded) a b xs (none-forgotten (take (b - a) (drop a xs))) none

pub none-replicate : (n : ℕ) → list_any is_due (replicate n unloaded) ≡ false
none-replicate zero = refl
none-replicate (suc n) = none-replicate n

pub none-set : (xs : List Subregion) (n : ℕ) (y : Subregion) → is_due y ≡ false → list_any is_due xs ≡ false → list_any is_due (set xs n y) ≡ false
none-set [] n y _ none = none
none-set (x ∷ xs) zero y not_due none = neither (is_due y) (list_any is_due xs) not_due (or_parts (is_due x) (list_any is_due xs) none).1
none-set (x ∷ xs) (suc n) y not_due none =
    let parts = or_parts (is_due x) (list_any is_due xs) none in
    neither (is_due x) (list_any is_due (set xs n y)) parts.0 (none-set xs n y not_due parts.1)

-- a list that is written as a whole
pub none-refilled : (n : ℕ) (ys xs : List Subregion) → list_any is_due ys ≡ false → list_any is_due xs ≡ false
    → list_any is_due (take n (ys ++ drop (length ys) xs)) ≡ false
none-refilled n ys xs none none_before =
    none-take n (ys ++ drop (length ys) xs)
    (list_any-append is_due ys (drop (length ys) xs)
    ∙ neither (list_any is_due ys) (list_any is_due (drop (length ys) xs)) none (none-drop (length ys) xs none_before))

-- a search finds none
pub position-none : (k : ℕ) (xs : List Subregion) → list_any is_due xs ≡ false → position_from is_due k xs ≡ None
position-none k [] _ = refl
position-none k (x ∷ xs) none =
    let parts = or_parts (is_due x) (list_any is_due xs) none in
    let first = parts.0 in
    rw first (position-none (k + 1) xs parts.1)

-- and where it finds none, none is due
pub none-position : (k : ℕ) (xs : List Subregion) → position_from is_due k xs ≡ None → list_any is_due xs ≡ false
none-position k [] _ = refl
none-position k (x ∷ xs) found =
    elim (is_due x) as (λ t. cond t (Some k) (position_from is_due (k + 1) xs) ≡ None → (t || list_any is_due xs) ≡ false)
    [ true ↦ λ e. cc | false ↦ λ e. none-position (k + 1) xs e ]
    found
