-- How the next want of a cache is found.
use Rattle.std.proofs.Common.{◌≡◌, ℕ, ◌<◌, Bool, true, false, List, [], ◌∷◌, length, drop, Some, None, refl, sym, ◌∙◌, ap, subst, arith}
use Rattle.std.specs.Prelude.{if◌then◌else◌, slice_get}
use Rattle.host_map_cache.specs.Cache.{CacheState, issued, state_of}
use Rattle.host_map_cache.specs.Regions.{is_issued}
use Rattle.driver_caches.specs.Machine.{stale_dropped}
use Rattle.driver_caches.specs.Own.{IsNextOf, IsNextWant}

-- the wants that are left have the same first one that is asked for, and nothing else has changed
pub record IsLeft (before now : CacheState) : Type 0 where
  pub same : now ≡ record before { wants = now.wants }
  pub first : stale_dropped before before.wants ≡ stale_dropped before now.wants

pub left_at_first : (cache : CacheState) → IsLeft cache cache
left_at_first cache = record { same = refl; first = refl }

no_first : (want : ℕ × ℕ) → None ≡ Some want → ⊥
no_first want is = cc

some_first : (want : ℕ × ℕ) → Some want ≡ None → ⊥
some_first want is = cc

pub first_is : (wants : List (ℕ × ℕ)) (want : ℕ × ℕ) → slice_get wants 0 ≡ Some want → wants ≡ want ∷ drop 1 wants
first_is [] want is = absurd (no_first want is)
first_is (x ∷ xs) want is = let same : x ≡ want = cc in ap (λ (w : ℕ × ℕ). w ∷ xs) same

pub none_is : (wants : List (ℕ × ℕ)) → slice_get wants 0 ≡ None → wants ≡ []
none_is [] is = refl
none_is (x ∷ xs) is = absurd (some_first x is)

pub some_wants : (wants : List (ℕ × ℕ)) (want : ℕ × ℕ) → slice_get wants 0 ≡ Some want → 0 < length wants
some_wants wants want is = let e = ap length (first_is wants want is) in omega (arith, e)

-- after a want is taken
taken_is : (before now taken : CacheState) → IsLeft before now → taken ≡ record now { wants = drop 1 now.wants } → taken ≡ record before { wants = drop 1 now.wants }
taken_is before now taken left is = is ∙ ap (λ (c : CacheState). record c { wants = drop 1 now.wants }) left.same

dropped_at : (before now : CacheState) (want : ℕ × ℕ) (b : Bool) → IsLeft before now → slice_get now.wants 0 ≡ Some want → is_issued (state_of before want.0 want.1) ≡ b
    → stale_dropped before before.wants ≡ (if b then want ∷ drop 1 now.wants else stale_dropped before (drop 1 now.wants))
dropped_at before now want b left first is =
    left.first ∙ ap (stale_dropped before) (first_is now.wants want first)
    ∙ ap (λ (c : Bool). if c then want ∷ drop 1 now.wants else stale_dropped before (drop 1 now.wants)) is

-- it is asked for
pub want_found : (before now taken end : CacheState) (want : ℕ × ℕ) → IsLeft before now → slice_get now.wants 0 ≡ Some want → taken ≡ record now { wants = drop 1 now.wants }
    → is_issued (state_of taken want.0 want.1) ≡ true → end ≡ issued taken want.0 want.1 → IsNextWant before (Some want) end
want_found before now taken end want left first took asked ended =
    let is : taken ≡ record before { wants = drop 1 now.wants } = taken_is before now taken left took in
    let here : is_issued (state_of before want.0 want.1) ≡ true = sym (ap (λ (c : CacheState). is_issued (state_of c want.0 want.1)) is) ∙ asked in
    subst (λ (left : List (ℕ × ℕ)). IsNextOf before left (Some want) end) (sym (dropped_at before now want true left first here))
    (refl, ended ∙ ap (λ (c : CacheState). issued c want.0 want.1) is)

-- it isn't
pub want_dropped : (before now taken end : CacheState) (want : ℕ × ℕ) → IsLeft before now → slice_get now.wants 0 ≡ Some want → taken ≡ record now { wants = drop 1 now.wants }
    → is_issued (state_of taken want.0 want.1) ≡ false → end ≡ issued taken want.0 want.1 → IsLeft before end
want_dropped before now taken end want left first took asked ended =
    let is : taken ≡ record before { wants = drop 1 now.wants } = taken_is before now taken left took in
    let here : is_issued (state_of before want.0 want.1) ≡ false = sym (ap (λ (c : CacheState). is_issued (state_of c want.0 want.1)) is) ∙ asked in
    let stays : end ≡ record before { wants = drop 1 now.wants } =
    ended ∙ ap (λ (c : CacheState). issued c want.0 want.1) is ∙ stays_as_is (record before { wants = drop 1 now.wants }) want here in
    let wants : end.wants ≡ drop 1 now.wants = ap (λ (c : CacheState). c.wants) stays in
    record {
      same = stays ∙ ap (λ (ws : List (ℕ × ℕ)). record before { wants = ws }) (sym wants);
      first = dropped_at before now want false left first here ∙ ap (stale_dropped before) (sym wants);
    }
  where
    stays_as_is : (c : CacheState) (want : ℕ × ℕ) → is_issued (state_of c want.0 want.1) ≡ false → issued c want.0 want.1 ≡ c
    stays_as_is c want is = search is

-- there are no more
pub no_want : (before now : CacheState) → IsLeft before now → slice_get now.wants 0 ≡ None → IsNextWant before None now
no_want before now left none =
    let empty : now.wants ≡ [] = none_is now.wants none in
    subst (λ (left : List (ℕ × ℕ)). IsNextOf before left None now) (sym (left.first ∙ ap (stale_dropped before) empty))
    (refl, left.same ∙ ap (λ (ws : List (ℕ × ℕ)). record before { wants = ws }) empty)
