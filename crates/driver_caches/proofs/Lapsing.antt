-- Caches that lapse one after the other.
use Rattle.std.proofs.Common.{◌≡◌, ℕ, zero, suc, ◌+◌, ◌≤◌, ◌<◌, List, [], ◌∷◌, length, map, refl, sym, ◌∙◌, ap, arith}
use Rattle.std.specs.Prelude.{slice_index_or, slice_set}
use Rattle.host_map_cache.specs.Cache.{CacheState, lapsed}
use Rattle.region_state.specs.declared.shape.Shape.{Shape}
use Rattle.driver_caches.specs.Effects.{shapes_of}

-- the first caches have lapsed
abbrev pub lapsed_to : ℕ → List CacheState → List CacheState
lapsed_to zero cs = cs
lapsed_to (suc n) [] = []
lapsed_to (suc n) (c ∷ cs) = lapsed c ∷ lapsed_to n cs

one_lapses : (cs : List CacheState) (n : ℕ) (x : CacheState) → n < length cs → slice_index_or (lapsed_to n cs) n x ≡ x → slice_set (lapsed_to n cs) n (lapsed x) ≡ lapsed_to (suc n) cs
one_lapses [] n x below is = absurd (omega arith)
one_lapses (c ∷ cs) zero x below is = ap (λ (y : CacheState). lapsed y ∷ cs) (sym is)
one_lapses (c ∷ cs) (suc n) x below is = ap (λ (rest : List CacheState). lapsed c ∷ rest) (one_lapses cs n x (omega arith) is)

pub lapses_next : (cs now later : List CacheState) (n m : ℕ) (x y : CacheState) → m ≡ n + 1 → now ≡ lapsed_to n cs → n < length cs
    → slice_index_or now n x ≡ x → y ≡ lapsed x → later ≡ slice_set now n y → later ≡ lapsed_to m cs
lapses_next cs now later n m x y step so_far below here change leads =
    let same : suc n ≡ m = omega (arith, step) in
    leads
    ∙ ap (slice_set now n) change
    ∙ ap (λ (list : List CacheState). slice_set list n (lapsed x)) so_far
    ∙ one_lapses cs n x below (ap (λ (list : List CacheState). slice_index_or list n x) (sym so_far) ∙ here)
    ∙ ap (λ (k : ℕ). lapsed_to k cs) same

pub all_lapse : (cs : List CacheState) (n : ℕ) → length cs ≤ n → lapsed_to n cs ≡ map lapsed cs
all_lapse [] zero past = refl
all_lapse [] (suc n) past = refl
all_lapse (c ∷ cs) zero past = absurd (omega arith)
all_lapse (c ∷ cs) (suc n) past = ap (λ (rest : List CacheState). lapsed c ∷ rest) (all_lapse cs n (omega arith))

pub lapsed_shapes : (cs : List CacheState) → shapes_of (map lapsed cs) ≡ shapes_of cs
lapsed_shapes [] = refl
lapsed_shapes (c ∷ cs) = ap (λ (shapes : List Shape). c.shape ∷ shapes) (lapsed_shapes cs)
