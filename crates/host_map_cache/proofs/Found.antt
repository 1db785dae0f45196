-- A slot that was found by its region, among the first `used` slots.
use Rattle.std.proofs.Common.{◌≡◌, ℕ, ◌≤◌, Bool, true, false, suc, zero, cond, List, [], ◌∷◌, ◌++◌, length, take, None, Some, refl, ap, subst, ◌∙◌, arith}
use Rattle.std.specs.List.{AllByRecursion, find}

pub record Found {E : Type 0} (test : E → Bool) (used : ℕ) (es : List E) (e : E) : Type 0 where
  pub front : List E
  pub back : List E
  pub rest : List E
  pub is : es ≡ (front ++ e ∷ back) ++ rest
  pub count : length (front ++ e ∷ back) ≡ used
  pub before : AllByRecursion (λ x. test x ≡ false) front
  pub at : test e ≡ true

split : {E : Type 0} (used : ℕ) (es : List E) → used ≤ length es → (front : List E) × (back : List E) × (es ≡ front ++ back) × (length front ≡ used)
split zero es h = ([], es, refl, refl)
split (suc n) [] h = absurd (omega (arith, h))
split (suc n) (x ∷ es) h = let s = split n es (omega (arith, h)) in (x ∷ s.0, s.1, ap (λ l. x ∷ l) s.2, ap suc s.3)

pub found : {E : Type 0} (test : E → Bool) (used : ℕ) (es : List E) (e : E) → used ≤ length es → find test (take used es) ≡ Some e → Found test used es e
found test zero es e room h = cc
found test (suc n) [] e room h = cc
found {E = E} test (suc n) (x ∷ es) e room h = (elim (test x) as (λ b. test x ≡ b → Found test (suc n) (x ∷ es) e) [
  | true ↦ λ t. let here : x ≡ e = first x t h in let s = split n es (omega (arith, room)) in
      record { front = []; back = s.0; rest = s.1; is = ap (λ y. y ∷ es) here ∙ ap (λ l. e ∷ l) s.2; count = ap suc s.3; before = tt; at = subst (λ y. test y ≡ true) here t }
  | false ↦ λ t. let f = found test n es e (omega (arith, room)) (later x t h) in
      record { front = x ∷ f.front; back = f.back; rest = f.rest; is = ap (λ l. x ∷ l) f.is; count = ap suc f.count; before = (t, f.before); at = f.at }
]) refl
  where
    first : (x : E) → test x ≡ true → cond (test x) (Some x) (find test (take n es)) ≡ Some e → x ≡ e
    first x t h = let g = rw t at h in cc

    later : (x : E) → test x ≡ false → cond (test x) (Some x) (find test (take n es)) ≡ Some e → find test (take n es) ≡ Some e
    later x t h = rw t at h

pub none_found : {E : Type 0} (test : E → Bool) (es : List E) → find test es ≡ None → AllByRecursion (λ x. test x ≡ false) es
none_found test [] h = tt
none_found {E = E} test (x ∷ es) h = (elim (test x) as (λ b. test x ≡ b → AllByRecursion (λ y. test y ≡ false) (x ∷ es)) [
  | true ↦ λ t. let g = rw t at h in cc
  | false ↦ λ t. (t, none_found test es (rw t at h))
]) refl
