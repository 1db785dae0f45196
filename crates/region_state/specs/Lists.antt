-- Lists of numbers in order of use, and parts of a list.
use Rattle.std.specs.Prelude.{ℕ, ◌==◌, Bool, true, not, ◌&&◌, List, [], ◌∷◌, ◌++◌, take, drop, map, filter}
use Rattle.std.specs.Prelude.{if◌then◌else◌, slice_range}
use Rattle.std.specs.List.{list_any}

-- whether the number is in the list
abbrev pub has : ℕ → List ℕ → Bool
has x xs = list_any (λ y. y == x) xs

-- no number is in the list twice
abbrev pub is_distinct : List ℕ → Bool
is_distinct [] = true
is_distinct (x ∷ xs) = not (has x xs) && is_distinct xs

-- the others
abbrev pub without : ℕ → List ℕ → List ℕ
without x xs = filter (λ y. not (y == x)) xs

-- the number, and then the others
abbrev pub with_first : ℕ → List ℕ → List ℕ
with_first x xs = x ∷ without x xs

-- the number goes to the front, where it is in the list
abbrev pub to_front : List ℕ → ℕ → List ℕ
to_front xs x = if has x xs then with_first x xs else xs

-- f at each item from place a up to place b
abbrev pub each_within : {X : Type 0} → (X → X) → ℕ → ℕ → List X → List X
each_within f a b xs = take a xs ++ map f (slice_range xs a b) ++ drop b xs
