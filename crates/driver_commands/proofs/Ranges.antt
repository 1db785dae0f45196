-- The first number of a range that passes a test.
use Rattle.std.proofs.Common.{◌≡◌, ℕ, zero, suc, zero-add, ◌+◌, ◌<◌, Bool, true, false, not, cond, List, Some, None, refl, sym, ◌∙◌, ap, arith}
use Rattle.std.specs.List.{find, range_with_len}
use Rattle.driver_laws.specs.Commands.{OpenCommand, free_tag, uses}

some_none : (x : ℕ) → Some x ≡ None → ⊥
some_none x is = cc

pub found_after : (p : ℕ → Bool) (a n m : ℕ) → find p (range_with_len a n) ≡ None → p (a + n) ≡ true → n < m → find p (range_with_len a m) ≡ Some (a + n)
found_after p a n zero none passes below = absurd (omega arith)
found_after p a zero (suc m) none passes below =
    let here : p a ≡ true = ap p (omega arith) ∙ passes in
    ap (λ (b : Bool). cond b (Some a) (find p (range_with_len (a + 1) m))) here ∙ ap Some (omega arith)
found_after p a (suc n) (suc m) none passes below = by_first (λ rest. found_after p (a + 1) n m rest (ap p (omega arith) ∙ passes) (omega arith)) (p a) refl none
  where
    by_first : (find p (range_with_len (a + 1) n) ≡ None → find p (range_with_len (a + 1) m) ≡ Some (a + 1 + n)) → (b : Bool) → p a ≡ b
        → cond b (Some a) (find p (range_with_len (a + 1) n)) ≡ None → find p (range_with_len a (suc m)) ≡ Some (a + suc n)
    by_first behind true is none = absurd (some_none a none)
    by_first behind false is none = ap (λ (b : Bool). cond b (Some a) (find p (range_with_len (a + 1) m))) is ∙ behind none ∙ ap Some (omega arith)

pub none_more : (p : ℕ → Bool) (a n : ℕ) → find p (range_with_len a n) ≡ None → p (a + n) ≡ false → find p (range_with_len a (suc n)) ≡ None
none_more p a zero none fails = ap (λ (b : Bool). cond b (Some a) None) (ap p (omega arith) ∙ fails)
none_more p a (suc n) none fails = by_first (λ rest. none_more p (a + 1) n rest (ap p (omega arith) ∙ fails)) (p a) refl none
  where
    by_first : (find p (range_with_len (a + 1) n) ≡ None → find p (range_with_len (a + 1) (suc n)) ≡ None) → (b : Bool) → p a ≡ b
        → cond b (Some a) (find p (range_with_len (a + 1) n)) ≡ None → find p (range_with_len a (suc (suc n))) ≡ None
    by_first behind true is none = absurd (some_none a none)
    by_first behind false is none = ap (λ (b : Bool). cond b (Some a) (find p (range_with_len (a + 1) (suc n)))) is ∙ behind none

-- the lowest tag that is free
pub tag_found : (opens : List OpenCommand) (tag : ℕ) → tag < 32 → find (λ (t : ℕ). not (uses opens t)) (range_with_len 0 tag) ≡ None → uses opens tag ≡ false → free_tag opens ≡ Some tag
unfolding free_tag
tag_found opens tag below none free = found_after (λ (t : ℕ). not (uses opens t)) 0 tag 32 none (ap (λ (t : ℕ). not (uses opens t)) (zero-add tag) ∙ ap not free) below ∙ ap Some (zero-add tag)

pub tag_not_yet : (opens : List OpenCommand) (tag next : ℕ) → next ≡ tag + 1 → find (λ (t : ℕ). not (uses opens t)) (range_with_len 0 tag) ≡ None → uses opens tag ≡ true
    → find (λ (t : ℕ). not (uses opens t)) (range_with_len 0 next) ≡ None
tag_not_yet opens tag next more none used =
    let same : next ≡ suc tag = omega (arith, more) in
    ap (λ (n : ℕ). find (λ (t : ℕ). not (uses opens t)) (range_with_len 0 n)) same
    ∙ none_more (λ (t : ℕ). not (uses opens t)) 0 tag none (ap (λ (t : ℕ). not (uses opens t)) (zero-add tag) ∙ ap not used)

pub no_tag : (opens : List OpenCommand) (n : ℕ) → n ≡ 32 → find (λ (t : ℕ). not (uses opens t)) (range_with_len 0 n) ≡ None → free_tag opens ≡ None
unfolding free_tag
no_tag opens n all none = ap (λ (k : ℕ). find (λ (t : ℕ). not (uses opens t)) (range_with_len 0 k)) (sym all) ∙ none
