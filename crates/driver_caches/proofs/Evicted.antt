-- How the first region that was given up is found among the caches.
use Rattle.std.proofs.Common.{◌≡◌, ℕ, zero, suc, ◌+◌, ◌≤◌, ◌<◌, List, [], ◌∷◌, length, drop, Option, Some, None, refl, sym, ◌∙◌, ap, subst, arith}
use Rattle.std.specs.Prelude.{slice_get, slice_index_or, slice_set}
use Rattle.host_map_cache.specs.Cache.{CacheState}
use Rattle.driver_caches.specs.Machine.{Own, also, evicted_from, first_told, tell}
use Rattle.driver_caches.specs.Own.{IsFirstEvicted, IsTold, NoneBefore}

none_more : (cs : List CacheState) (n : ℕ) (c : CacheState) → NoneBefore cs n → n < length cs → slice_index_or cs n c ≡ c → c.evicted ≡ [] → NoneBefore cs (suc n)
none_more [] n c none below is empty = tt
none_more (x ∷ xs) zero c none below is empty = (ap (λ (y : CacheState). y.evicted) is ∙ empty, tt)
none_more (x ∷ xs) (suc n) c none below is empty = (none.0, none_more xs n c none.1 (omega arith) is empty)

pub none_next : (cs : List CacheState) (n m : ℕ) (c : CacheState) → m ≡ n + 1 → NoneBefore cs n → n < length cs → slice_index_or cs n c ≡ c → slice_get c.evicted 0 ≡ None → NoneBefore cs m
none_next cs n m c next none below is first =
    let same : m ≡ suc n = omega (arith, next) in
    subst (NoneBefore cs) (sym same) (none_more cs n c none below is (empty_is c.evicted first))
  where
    some_first : (x : ℕ) → Some x ≡ None → ⊥
    some_first x is = cc

    empty_is : (xs : List ℕ) → slice_get xs 0 ≡ None → xs ≡ []
    empty_is [] is = refl
    empty_is (x ∷ xs) is = absurd (some_first x is)

no_first : (r : ℕ) → None ≡ Some r → ⊥
no_first r is = cc

pub first_region : (xs : List ℕ) (r : ℕ) → slice_get xs 0 ≡ Some r → xs ≡ r ∷ drop 1 xs
first_region [] r is = absurd (no_first r is)
first_region (x ∷ xs) r is = let same : x ≡ r = cc in ap (λ (y : ℕ). y ∷ xs) same

-- it is that of the cache at a place
evicted_at : (cs : List CacheState) (a n : ℕ) (c : CacheState) (r : ℕ) → NoneBefore cs n → n < length cs → slice_index_or cs n c ≡ c → slice_get c.evicted 0 ≡ Some r
    → evicted_from a cs ≡ Some (record { wanted = tell (a + n) r; caches = slice_set cs n (record c { evicted = drop 1 c.evicted }) })
evicted_at [] a n c r none below is first = absurd (omega arith)
evicted_at (x ∷ xs) a zero c r none below is first =
    let region : c.evicted ≡ r ∷ drop 1 c.evicted = first_region c.evicted r first in
    ap (λ (y : CacheState). first_told a y xs y.evicted (evicted_from (suc a) xs)) is
    ∙ ap (λ (rs : List ℕ). first_told a c xs rs (evicted_from (suc a) xs)) region
    ∙ ap (λ (lun : ℕ). Some (record { wanted = tell lun r; caches = record c { evicted = drop 1 c.evicted } ∷ xs })) (omega arith)
evicted_at (x ∷ xs) a (suc n) c r none below is first =
    ap (λ (rs : List ℕ). first_told a x xs rs (evicted_from (suc a) xs)) none.0
    ∙ ap (also x) (evicted_at xs (suc a) n c r none.1 (omega arith) is first)
    ∙ ap (λ (lun : ℕ). Some (record { wanted = tell lun r; caches = x ∷ slice_set xs n (record c { evicted = drop 1 c.evicted }) })) (omega arith)

pub told_at : (cs now : List CacheState) (n : ℕ) (c new : CacheState) (r : ℕ) → IsFirstEvicted cs n r → slice_index_or cs n c ≡ c
    → new ≡ record c { evicted = drop 1 c.evicted } → now ≡ slice_set cs n new → IsTold (evicted_from 0 cs) cs (Some (n, r)) now
told_at cs now n c new r found is taken leads =
    subst (λ (x : Option Own). IsTold x cs (Some (n, r)) now) (sym (evicted_at cs 0 n c r found.before found.inside is (found.first c is)))
    ((n, r), refl, ap (λ (lun : ℕ). tell lun r) (omega arith), leads ∙ ap (slice_set cs n) taken)

pub none_at : (cs : List CacheState) (a n : ℕ) → NoneBefore cs n → length cs ≤ n → evicted_from a cs ≡ None
none_at [] a n none all = refl
none_at (x ∷ xs) a zero none all = absurd (omega arith)
none_at (x ∷ xs) a (suc n) none all =
    ap (λ (rs : List ℕ). first_told a x xs rs (evicted_from (suc a) xs)) none.0 ∙ ap (also x) (none_at xs (suc a) n none.1 (omega arith))
