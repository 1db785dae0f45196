-- How the next want is found among the caches.
use Rattle.std.proofs.Common.{◌≡◌, ℕ, zero, suc, ◌+◌, ◌≤◌, ◌<◌, List, [], ◌∷◌, length, Some, None, refl, sym, ◌∙◌, ap, subst, arith}
use Rattle.std.specs.Prelude.{slice_index_or, slice_set}
use Rattle.host_map_cache.specs.Cache.{CacheState, issued}
use Rattle.region_state.specs.declared.shape.Shape.{Shape}
use Rattle.driver_caches.specs.Effects.{shapes_of}
use Rattle.driver_caches.specs.Machine.{Picked, first_picked, load, stale_dropped, wanted_from}
use Rattle.std.specs.Prelude.{IsTrue}
use Rattle.host_map_cache.specs.Shapes.{is_present}
use Rattle.driver_caches.specs.Own.{IsPresentLoad, IsNextOf, IsNextWant, IsPicked, NoWantBefore, after_stale, load_of}

-- the cache at the place is as it was
pub there_still : (cs : List CacheState) (n : ℕ) (d : CacheState) → slice_index_or (after_stale cs n) n d ≡ slice_index_or cs n d
there_still cs zero d = refl
there_still [] (suc n) d = refl
there_still (c ∷ cs) (suc n) d = there_still cs n d

stale_more : (cs : List CacheState) (n : ℕ) (c : CacheState) → n < length cs → slice_index_or cs n c ≡ c → slice_set (after_stale cs n) n (record c { wants = [] }) ≡ after_stale cs (suc n)
stale_more [] n c below is = absurd (omega arith)
stale_more (x ∷ xs) zero c below is = ap (λ (y : CacheState). record y { wants = [] } ∷ xs) (sym is)
stale_more (x ∷ xs) (suc n) c below is = ap (λ (rest : List CacheState). record x { wants = [] } ∷ rest) (stale_more xs n c (omega arith) is)

pub stale_shapes : (cs : List CacheState) (n : ℕ) → shapes_of (after_stale cs n) ≡ shapes_of cs
stale_shapes cs zero = refl
stale_shapes [] (suc n) = refl
stale_shapes (c ∷ cs) (suc n) = ap (λ (shapes : List Shape). c.shape ∷ shapes) (stale_shapes cs n)

none_more : (cs : List CacheState) (n : ℕ) (c : CacheState) → NoWantBefore cs n → n < length cs → slice_index_or cs n c ≡ c → stale_dropped c c.wants ≡ [] → NoWantBefore cs (suc n)
none_more [] n c none below is empty = absurd (omega arith)
none_more (x ∷ xs) zero c none below is empty = (ap (λ (y : CacheState). stale_dropped y y.wants) is ∙ empty, tt)
none_more (x ∷ xs) (suc n) c none below is empty = (none.0, none_more xs n c none.1 (omega arith) is empty)

no_some : (w : ℕ × ℕ) → None ≡ Some w → ⊥
no_some w is = cc

-- a cache that wants nothing
record NoneLeft (c new : CacheState) : Type 0 where
  empty : stale_dropped c c.wants ≡ []
  leads : new ≡ record c { wants = [] }

none_left : (c new : CacheState) → IsNextWant c None new → NoneLeft c new
none_left c new next = by_left (stale_dropped c c.wants) refl next
  where
    by_left : (left : List (ℕ × ℕ)) → stale_dropped c c.wants ≡ left → IsNextOf c left None new → NoneLeft c new
    by_left [] is next = record { empty = is; leads = next.1 }
    by_left (w ∷ rest) is next = absurd (no_some w next.0)

pub record GoesOn (cs now : List CacheState) (n : ℕ) : Type 0 where
  pub none : NoWantBefore cs n
  pub caches : now ≡ after_stale cs n

pub goes_on : (cs before now : List CacheState) (n m : ℕ) (c new : CacheState) → m ≡ n + 1 → GoesOn cs before n → n < length cs → slice_index_or before n c ≡ c → IsNextWant c None new
    → now ≡ slice_set before n new → GoesOn cs now m
goes_on cs before now n m c new next at below is want leads =
    let same : m ≡ suc n = omega (arith, next) in
    let left : NoneLeft c new = none_left c new want in
    let here : slice_index_or cs n c ≡ c = sym (there_still cs n c) ∙ ap (λ (xs : List CacheState). slice_index_or xs n c) (sym at.caches) ∙ is in
    subst (GoesOn cs now) (sym same) (record {
      none = none_more cs n c at.none below here left.empty;
      caches = leads ∙ ap (λ (xs : List CacheState). slice_set xs n new) at.caches ∙ ap (slice_set (after_stale cs n) n) left.leads ∙ stale_more cs n c below here;
    })

-- the cache at a place wants a subregion
picked_at : (cs : List CacheState) (a n : ℕ) (c : CacheState) (w : ℕ × ℕ) (rest : List (ℕ × ℕ)) → NoWantBefore cs n → n < length cs → slice_index_or cs n c ≡ c → stale_dropped c c.wants ≡ w ∷ rest
    → wanted_from a cs ≡ record { wanted = Some (load (a + n) c w); caches = slice_set (after_stale cs n) n (issued (record c { wants = rest }) w.0 w.1) }
picked_at [] a n c w rest none below is want = absurd (omega arith)
picked_at (x ∷ xs) a zero c w rest none below is want =
    ap (λ (y : CacheState). first_picked a y xs (stale_dropped y y.wants) (wanted_from (suc a) xs)) is
    ∙ ap (λ (left : List (ℕ × ℕ)). first_picked a c xs left (wanted_from (suc a) xs)) want
    ∙ ap (λ (lun : ℕ). record { wanted = Some (load lun c w); caches = issued (record c { wants = rest }) w.0 w.1 ∷ xs }) (omega arith)
picked_at (x ∷ xs) a (suc n) c w rest none below is want =
    ap (λ (left : List (ℕ × ℕ)). first_picked a x xs left (wanted_from (suc a) xs)) none.0
    ∙ ap (λ (p : Picked). record { wanted = p.wanted; caches = record x { wants = [] } ∷ p.caches }) (picked_at xs (suc a) n c w rest none.1 (omega arith) is want)
    ∙ ap (λ (lun : ℕ). record { wanted = Some (load lun c w); caches = record x { wants = [] } ∷ slice_set (after_stale xs n) n (issued (record c { wants = rest }) w.0 w.1) }) (omega arith)

none_picked : (cs : List CacheState) (a n : ℕ) → NoWantBefore cs n → length cs ≤ n → wanted_from a cs ≡ record { wanted = None; caches = after_stale cs n }
none_picked [] a zero none all = refl
none_picked [] a (suc n) none all = refl
none_picked (x ∷ xs) a zero none all = absurd (omega arith)
none_picked (x ∷ xs) a (suc n) none all =
    ap (λ (left : List (ℕ × ℕ)). first_picked a x xs left (wanted_from (suc a) xs)) none.0
    ∙ ap (λ (p : Picked). record { wanted = p.wanted; caches = record x { wants = [] } ∷ p.caches }) (none_picked xs (suc a) n none.1 (omega arith))

pub is_none_picked : (cs now : List CacheState) (n : ℕ) → GoesOn cs now n → length cs ≤ n → IsPicked cs (wanted_from 0 cs) (load_of None) now
is_none_picked cs now n at all =
    subst (λ (p : Picked). IsPicked cs p None now) (sym (none_picked cs 0 n at.none all)) (record { want = tt; caches = at.caches })

some_none : (w : ℕ × ℕ) → Some w ≡ None → ⊥
some_none w is = cc

pub is_picked : (cs before now : List CacheState) (n r t : ℕ) (c new : CacheState) → GoesOn cs before n → n < length cs → slice_index_or before n c ≡ c → IsNextWant c (Some (r, t)) new
    → now ≡ slice_set before n new → IsPicked cs (wanted_from 0 cs) (load_of (Some (n, r, t))) now
is_picked cs before now n r t c new at below is want leads = by_left (stale_dropped c c.wants) refl want
  where
    here : slice_index_or cs n c ≡ c
    here = sym (there_still cs n c) ∙ ap (λ (xs : List CacheState). slice_index_or xs n c) (sym at.caches) ∙ is

    by_left : (left : List (ℕ × ℕ)) → stale_dropped c c.wants ≡ left → IsNextOf c left (Some (r, t)) new → IsPicked cs (wanted_from 0 cs) (load_of (Some (n, r, t))) now
    by_left [] empty next = absurd (some_none (r, t) next.0)
    by_left (w ∷ rest) wants next =
        let same : w ≡ (r, t) = some_same w (r, t) (sym next.0) in
        subst (λ (p : Picked). IsPicked cs p (Some (record { unit = n; region = r; sub = t })) now) (sym (picked_at cs 0 n c w rest at.none below here wants)) (record {
          want = record { cache = c; is_there = here; inside = below; is = ap (λ (x : ℕ × ℕ). load (0 + n) c x) same ∙ ap (λ (lun : ℕ). load lun c (r, t)) (omega arith) };
          caches = leads ∙ ap (λ (xs : List CacheState). slice_set xs n new) at.caches ∙ ap (slice_set (after_stale cs n) n) next.1;
        })
      where
        some_same : (x y : ℕ × ℕ) → Some x ≡ Some y → x ≡ y
        some_same x y is = cc

-- a subregion of the cache at a place
same_inside : (cs : List CacheState) (n : ℕ) (a b : CacheState) → n < length cs → slice_index_or cs n a ≡ slice_index_or cs n b
same_inside [] n a b inside = absurd (omega (arith, inside))
same_inside (x ∷ xs) zero a b inside = refl
same_inside (x ∷ xs) (suc n) a b inside = same_inside xs n a b (omega (arith, inside))

pub is_present_load : (cs before : List CacheState) (n r t : ℕ) (c : CacheState) → GoesOn cs before n → n < length cs → slice_index_or before n c ≡ c → IsTrue (is_present c.shape r t)
    → IsPresentLoad cs (load_of (Some (n, r, t)))
is_present_load cs before n r t c at inside is there = λ other here.
    let same : c ≡ other =
    sym is ∙ ap (λ (xs : List CacheState). slice_index_or xs n c) at.caches ∙ there_still cs n c ∙ same_inside cs n c other inside ∙ here in
    subst (λ (x : CacheState). IsTrue (is_present x.shape r t)) same there

pub present_at : (c : CacheState) (cs : List CacheState) (n : ℕ) (new : CacheState) (r t : ℕ) → c ≡ slice_index_or cs n c → new.shape ≡ (slice_index_or cs n c).shape
    → IsTrue (is_present new.shape r t)
    → IsTrue (is_present c.shape r t)
present_at c cs n new r t is same there =
    subst (λ (s : Shape). IsTrue (is_present s r t)) (same ∙ ap (λ (x : CacheState). x.shape) (sym is)) there
