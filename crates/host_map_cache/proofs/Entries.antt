-- The first entry of a list whose key passes a test, by the lists before and after it.
use Rattle.std.proofs.Common.{◌≡◌, ℕ, Bool, true, false, eqb, suc, zero, List, [], ◌∷◌, ◌++◌, length, take, Some, refl, ap, arith}
use Rattle.std.specs.List.{AllByRecursion, IsDistinct}
use Rattle.std.specs.Map.{keys_of, lookup, lookup_entry, remove_entry, set_value}
use Rattle.lru.specs.LruCache.{promoted, demoted}

pub take-whole : {A : Type 0} (n : ℕ) (xs ys : List A) → length xs ≡ n → take n (xs ++ ys) ≡ xs
take-whole zero [] ys h = refl
take-whole zero (x ∷ xs) ys h = cc
take-whole (suc n) [] ys h = cc
take-whole (suc n) (x ∷ xs) ys h = ap (λ l. x ∷ l) (take-whole n xs ys (omega (arith, h)))

module _ {V : Type 0} (test : ℕ → Bool) where
  -- no key passes
  abbrev pub Passes : List (ℕ × V) → Type 0
  Passes es = AllByRecursion (λ e. test e.0 ≡ false) es

  pub lookup_entry-at : (front : List (ℕ × V)) (e : ℕ × V) (back : List (ℕ × V)) → Passes front → test e.0 ≡ true → lookup_entry test (front ++ e ∷ back) ≡ Some e
  lookup_entry-at [] e back before at = rw at refl
  lookup_entry-at (x ∷ front) e back before at = rw before.0 (lookup_entry-at front e back before.1 at)

  pub lookup-at : (front : List (ℕ × V)) (e : ℕ × V) (back : List (ℕ × V)) → Passes front → test e.0 ≡ true → lookup test (front ++ e ∷ back) ≡ Some e.1
  lookup-at [] e back before at = rw at refl
  lookup-at (x ∷ front) e back before at = rw before.0 (lookup-at front e back before.1 at)

  pub remove_entry-at : (front : List (ℕ × V)) (e : ℕ × V) (back : List (ℕ × V)) → Passes front → test e.0 ≡ true → remove_entry test (front ++ e ∷ back) ≡ front ++ back
  remove_entry-at [] e back before at = rw at refl
  remove_entry-at (x ∷ front) e back before at = rw before.0 (ap (λ l. x ∷ l) (remove_entry-at front e back before.1 at))

  pub set_value-at : (front : List (ℕ × V)) (e : ℕ × V) (back : List (ℕ × V)) (w : V) → Passes front → test e.0 ≡ true → set_value test (front ++ e ∷ back) w ≡ front ++ (e.0, w) ∷ back
  set_value-at [] e back w before at = rw at refl
  set_value-at (x ∷ front) e back w before at = rw before.0 (ap (λ l. x ∷ l) (set_value-at front e back w before.1 at))

  pub promoted-at : (front : List (ℕ × V)) (e : ℕ × V) (back : List (ℕ × V)) → Passes front → test e.0 ≡ true → promoted test (front ++ e ∷ back) ≡ e ∷ (front ++ back)
  promoted-at front e back before at = rw (lookup_entry-at front e back before at, remove_entry-at front e back before at) refl

  pub demoted-at : (front : List (ℕ × V)) (e : ℕ × V) (back : List (ℕ × V)) → Passes front → test e.0 ≡ true → demoted test (front ++ e ∷ back) ≡ (front ++ back) ++ e ∷ []
  demoted-at front e back before at = rw (lookup_entry-at front e back before at, remove_entry-at front e back before at) refl

pub eqb-flip : (a b : ℕ) → eqb a b ≡ false → eqb b a ≡ false
eqb-flip a b h = grind arith

-- keys that differ: the key of an entry is none before it
pub key-at : {V : Type 0} (front : List (ℕ × V)) (e : ℕ × V) (back : List (ℕ × V)) → IsDistinct eqb (keys_of (front ++ e ∷ back)) → Passes (eqb e.0) front
unfolding IsDistinct
key-at [] e back d = tt
key-at {V = V} (x ∷ front) e back d = (eqb-flip x.0 e.0 (head front d.0), key-at front e back d.1)
  where
    head : (front : List (ℕ × V)) → AllByRecursion (λ y. eqb x.0 y ≡ false) (keys_of (front ++ e ∷ back)) → eqb x.0 e.0 ≡ false
    head [] a = a.0
    head (y ∷ front) a = head front a.1
