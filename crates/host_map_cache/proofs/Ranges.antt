-- Walks over a range of numbers.
use Rattle.std.proofs.Common.{◌≡◌, ℕ, ◌+◌, ◌-◌, ◌≤◌, ◌<◌, ◌&&◌, Bool, true, false, [], ◌∷◌, ◌++◌, zero, suc, refl, ap, sym, subst, ◌∙◌, arith, eqb}
use Rattle.std.specs.List.{list_all, range_with_len, fold}
use Rattle.std.proofs.lemmas.List.Folds.{list_all-append}
use Rattle.std.proofs.lemmas.List.Sums.{fold_push}

pub range-more : (a n j : ℕ) → a + n ≡ j → range_with_len a (suc n) ≡ range_with_len a n ++ j ∷ []
range-more a zero j h = let same : a ≡ j = omega (arith, h) in ap (λ x. x ∷ []) same
range-more a (suc n) j h = ap (λ l. a ∷ l) (range-more (a + 1) n j (omega (arith, h)))

succ : (m n : ℕ) → m ≡ n + 1 → m ≡ suc n
succ m n h = omega (arith, h)

pub range-push : (a j : ℕ) → a ≤ j → range_with_len a (j + 1 - a) ≡ range_with_len a (j - a) ++ j ∷ []
range-push a j h = ap (range_with_len a) (succ (j + 1 - a) (j - a) (omega (arith, h))) ∙ range-more a (j - a) j (omega (arith, h))

pub range-none : (a : ℕ) → range_with_len a (a - a) ≡ []
range-none a = ap (range_with_len a) (none a)
  where
    none : (a : ℕ) → a - a ≡ 0
    none a = omega arith

pub all-push : (p : ℕ → Bool) (a j : ℕ) → a ≤ j → list_all p (range_with_len a (j - a)) ≡ true → p j ≡ true → list_all p (range_with_len a (j + 1 - a)) ≡ true
all-push p a j h so_far here = ap (list_all p) (range-push a j h) ∙ list_all-append p (range_with_len a (j - a)) (j ∷ []) ∙ rw (so_far, here) refl

pub and-false : (b : Bool) → (b && false) ≡ false
and-false true = refl
and-false false = refl

pub all-fails : (p : ℕ → Bool) (a n j : ℕ) → a ≤ j → j < a + n → p j ≡ false → list_all p (range_with_len a n) ≡ false
all-fails p a zero j low high h = absurd (omega (arith, low, high))
all-fails p a (suc n) j low high h = (elim (eqb a j) as (λ b. eqb a j ≡ b → (p a && list_all p (range_with_len (a + 1) n)) ≡ false) [
  | true ↦ λ t. let same : a ≡ j = grind (arith, t) in rw (subst (λ k. p k ≡ false) (sym same) h) refl
  | false ↦ λ t. let below : a + 1 ≤ j = grind (arith, t) in rw (all-fails p (a + 1) n j below (omega (arith, high)) h) (and-false (p a))
]) refl

pub fold-range : {A : Type 0} (f : A → ℕ → A) (s : A) (a j : ℕ) → a ≤ j → fold f s (range_with_len a (j + 1 - a)) ≡ f (fold f s (range_with_len a (j - a))) j
fold-range f s a j h = ap (fold f s) (range-push a j h) ∙ fold_push f s (range_with_len a (j - a)) j
