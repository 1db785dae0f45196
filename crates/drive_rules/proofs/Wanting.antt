-- What a driver opens by its caches is what the device serves.
use Rattle.std.proofs.Common.{◌≡◌, ℕ, suc, ◌+◌, ◌-◌, ◌*◌, ◌/◌, ◌^◌, ◌≤◌, ◌<◌, Bool, true, false, not, ◌&&◌, List}
use Rattle.std.proofs.Common.{[], ◌∷◌, length, map, Option, Some, None, refl, sym, ◌∙◌, ap, subst, arith, nat_le, nat_lt}
use Rattle.std.specs.Prelude.{if◌then◌else◌, slice_get, slice_index}
use Rattle.std.specs.List.{AllByRecursion, range_with_len}
use Rattle.std.proofs.Math.Nat.{le-mul_of_pos_right, mul-div_cancel_left, lt_of_mul-lt-mul_left, mul_comm}
use Rattle.std.proofs.lemmas.Bool.{false≢true}
use Rattle.std.proofs.lemmas.Bool.Decides.{nat_tests}
use Rattle.std.proofs.lemmas.List.FromFn.{length-map-range_with_len}
use Rattle.std.proofs.lemmas.Nat.{pow-add, pow_pos}
use Rattle.region_state.specs.declared.shape.Shape.{Shape}
use Rattle.host_map_cache.specs.Cache.{CacheState, covers, state_of, sub_length}
use Rattle.host_map_cache.specs.Regions.{is_issued}
use Rattle.host_map_cache.specs.Shapes.{region_blocks, sub_blocks, sub_start}
use Rattle.flat_unit.specs.Sizes.{Sizes}
use Rattle.driver_laws.specs.declared.request.Request.{Request}
use Rattle.driver_laws.specs.declared.request.Request.TheVariants.{Read as ReadOf, Write as WriteOf, Sync as SyncAll, Ready}
use Rattle.driver_laws.specs.Commands.{Wanted}
use Rattle.driver_laws.specs.Requests.{Plainly, WithEntry, WithList}
use Rattle.driver_laws.specs.Fits.{IsWanted, IsWay}
use Rattle.driver_laws.proofs.Opens.{and_true}
use Rattle.drive_rules.specs.Cached.{HasCaches, HasRegionAt, HasShape, IsCached, IsThere}
use Rattle.driver_caches.specs.Machine.{Machine, Own, Picked, also, entry_at, evicted_from, first_picked, first_told, has_pair, load, stale_dropped, tell, wanted_from, way_by, way_by_cache, way_of}
use Rattle.drive_rules.proofs.Caching.{and_both, entry_fits, issued_cached}
use Rattle.drive_rules.proofs.Lists.{all_get}

below : (m n : ℕ) → m < n → nat_lt m n ≡ true
below m n is = grind (arith, nat_tests)

-- how a read goes out
entries_at : (f : ℕ → ℕ) (xs : List ℕ) → ((x : ℕ) → f x < 2 ^ 64) → slice_index (map f xs) 0 < 2 ^ 64
entries_at f [] fits = omega arith
entries_at f (x ∷ xs) fits = fits x

by_cache_way : (s : Sizes) (shape : Shape) (c : CacheState) (lun lba n next : ℕ) (pair : Bool) → IsCached shape c → 1 ≤ next → next ≤ 127 → IsWay (way_by c lba n pair next) (ReadOf lun lba n)
by_cache_way s shape c lun lba n next pair is some last = by_covered (not (nat_le n 255 && covers c lba n)) (nat_le 2 n && pair)
  where
    by_covered : (a b : Bool) → IsWay (if a then Plainly else (if b then WithList next (map (entry_at c) (range_with_len lba n)) else WithEntry (entry_at c lba))) (ReadOf lun lba n)
    by_covered true b = tt
    by_covered false true = (some, last, length-map-range_with_len (entry_at c) lba n, entries_at (entry_at c) (range_with_len lba n) (λ x. entry_fits shape c x is))
    by_covered false false = entry_fits shape c lba is

pub ways_fit : (s : Sizes) (shape : Shape) (m : Machine) (request : Request) → HasCaches s shape m → IsWay (way_of m request) request
ways_fit s shape m (ReadOf lun lba n) has = by_on m.on
  where
    by_cache : (x : Option CacheState) → slice_get m.caches lun ≡ x → IsWay (way_by_cache x lba n (has_pair m.opens) m.next_id) (ReadOf lun lba n)
    by_cache (Some c) found = by_cache_way s shape c lun lba n m.next_id (has_pair m.opens) (all_get (IsCached shape) m.caches lun c has.caches found) has.some_id has.last_id
    by_cache None found = tt

    by_on : (b : Bool) → IsWay (if b then way_by_cache (slice_get m.caches lun) lba n (has_pair m.opens) m.next_id else Plainly) (ReadOf lun lba n)
    by_on true = by_cache (slice_get m.caches lun) refl
    by_on false = tt
ways_fit s shape m (WriteOf lun lba n bytes) has = tt
ways_fit s shape m SyncAll has = tt
ways_fit s shape m Ready has = tt

-- a region has a number of two bytes
region_fits : (shape : Shape) (region : ℕ) → shape.units ≤ 65488 → HasRegionAt shape region → region < 2 ^ 16
region_fits shape region few has =
    let p = pow_pos (shape.region_exp - 3) in
    let e : region ≤ region * region_blocks shape = le-mul_of_pos_right region p in
    omega (arith, e, few, has)

tell_served : (s : Sizes) (shape : Shape) (lun region : ℕ) → HasShape s shape → lun < s.luns → HasRegionAt shape region → IsWanted s (tell lun region)
tell_served s shape lun region is lun_there has =
    let here : region * s.per_region < s.units =
    subst (λ (n : ℕ). region * n < s.units) (sym is.per_region) (subst (λ (n : ℕ). region * region_blocks shape < n) (sym is.units) has) in
    record {
      lun = lun_there;
      fields = below _ _ here;
      range = refl;
      fits = region_fits shape region is.limits.units has;
      expected = omega arith;
      bytes = refl;
      serving = λ caller. absurd (false≢true caller);
      own = λ _. refl;
    }

-- a subregion that is there is one of its region
sub_inside : (shape : Shape) (sub : ℕ) → shape.sub_exp ≤ shape.region_exp → 3 ≤ shape.sub_exp → sub * sub_blocks shape < region_blocks shape → sub < region_blocks shape / sub_blocks shape
sub_inside shape sub inside three is =
    let p = pow_pos (shape.sub_exp - 3) in
    let q : ℕ = 2 ^ (shape.region_exp - shape.sub_exp) in
    let whole : region_blocks shape ≡ sub_blocks shape * q =
    ap (λ (n : ℕ). 2 ^ n) (omega arith) ∙ pow-add 2 (shape.sub_exp - 3) (shape.region_exp - shape.sub_exp) in
    let parts : region_blocks shape / sub_blocks shape ≡ q = ap (λ (n : ℕ). n / sub_blocks shape) whole ∙ mul-div_cancel_left q p in
    let c = mul_comm sub (sub_blocks shape) in
    let less : sub < q = lt_of_mul-lt-mul_left (sub_blocks shape) (omega (arith, c, is, whole)) in
    subst (λ (n : ℕ). sub < n) (sym parts) less

load_served : (s : Sizes) (shape : Shape) (lun : ℕ) (c : CacheState) (want : ℕ × ℕ) → HasShape s shape → lun < s.luns → c.shape ≡ shape → IsThere shape want → IsWanted s (load lun c want)
load_served s shape lun c want is lun_there same there =
    let parts = and_both (nat_lt (want.1 * sub_blocks shape) (region_blocks shape)) (nat_lt (sub_start shape want.0 want.1) shape.units) there in
    let a : nat_lt (want.1 * sub_blocks shape) (region_blocks shape) ≡ true = parts.0 in
    let b : nat_lt (sub_start shape want.0 want.1) shape.units ≡ true = parts.1 in
    let in_region : want.1 * sub_blocks shape < region_blocks shape = grind (arith, nat_tests) in
    let in_unit : sub_start shape want.0 want.1 < shape.units = grind (arith, nat_tests) in
    let region_there : HasRegionAt shape want.0 = omega (arith, in_unit) in
    let sub_there : want.1 < region_blocks shape / sub_blocks shape = sub_inside shape want.1 is.limits.a_subregion_in_a_region is.limits.a_block_in_a_subregion in_region in
    let units = is.limits.units in
    let p = pow_pos (shape.sub_exp - 3) in
    let e : want.1 ≤ want.1 * sub_blocks shape = le-mul_of_pos_right want.1 p in
    let here : want.0 * s.per_region < s.units = subst (λ (n : ℕ). want.0 * n < s.units) (sym is.per_region) (subst (λ (n : ℕ). want.0 * region_blocks shape < n) (sym is.units) region_there) in
    let sub_here : want.1 < s.per_region / s.per_sub =
    subst (λ (n : ℕ). want.1 < n / s.per_sub) (sym is.per_region) (subst (λ (n : ℕ). want.1 < region_blocks shape / n) (sym is.per_sub) sub_there) in
    let start_here : want.0 * s.per_region + want.1 * s.per_sub < s.units =
    subst (λ (n : ℕ). want.0 * n + want.1 * s.per_sub < s.units) (sym is.per_region)
    (subst (λ (n : ℕ). want.0 * region_blocks shape + want.1 * n < s.units) (sym is.per_sub) (subst (λ (n : ℕ). sub_start shape want.0 want.1 < n) (sym is.units) in_unit)) in
    let short : sub_length c.shape want.0 want.1 ≤ 65488 = subst (λ (x : Shape). sub_length x want.0 want.1 ≤ 65488) (sym same) (omega (arith, units)) in
    record {
      lun = lun_there;
      fields = and_true _ _ (below _ _ here) (and_true _ _ (below _ _ sub_here) (below _ _ start_here));
      range = refl;
      fits = (region_fits shape want.0 units region_there, omega (arith, e, in_unit, units), omega (arith, short));
      expected = omega (arith, short);
      bytes = refl;
      serving = λ caller. absurd (false≢true caller);
      own = λ _. refl;
    }

-- what is taken out of the caches leaves them as they must be
pub record OwnFine (s : Sizes) (shape : Shape) (own : Own) (n : ℕ) : Type 0 where
  pub wanted : IsWanted s own.wanted
  pub mine : own.wanted.caller ≡ false
  pub caches : AllByRecursion (IsCached shape) own.caches
  pub count : length own.caches ≡ n

no_own : (own : Own) → None ≡ Some own → ⊥
no_own own is = cc

pub evicted_fine : (s : Sizes) (shape : Shape) (a : ℕ) (cs : List CacheState) (own : Own) → HasShape s shape → a + length cs ≤ s.luns → AllByRecursion (IsCached shape) cs
    → evicted_from a cs ≡ Some own → OwnFine s shape own (length cs)
evicted_fine s shape a [] own is few all found = absurd (no_own own found)
evicted_fine s shape a (c ∷ cs) own is few all found = by_evicted (λ other same. evicted_fine s shape (suc a) cs other is (omega arith) all.1 same) c.evicted refl found
  where
    by_behind : ((other : Own) → evicted_from (suc a) cs ≡ Some other → OwnFine s shape other (length cs)) → (x : Option Own) → evicted_from (suc a) cs ≡ x → also c x ≡ Some own
        → OwnFine s shape own (length (c ∷ cs))
    by_behind behind (Some other) is_other same =
        let fine = behind other is_other in
        let equal : record other { caches = c ∷ other.caches } ≡ own = cc in
        subst (λ (o : Own). OwnFine s shape o (length (c ∷ cs))) equal
        (record { wanted = fine.wanted; mine = fine.mine; caches = (all.0, fine.caches); count = let n = fine.count in omega (arith, n) })
    by_behind behind None is_other same = absurd (no_own own same)

    by_evicted : ((other : Own) → evicted_from (suc a) cs ≡ Some other → OwnFine s shape other (length cs)) → (left : List ℕ) → c.evicted ≡ left
        → first_told a c cs left (evicted_from (suc a) cs) ≡ Some own → OwnFine s shape own (length (c ∷ cs))
    by_evicted behind [] empty same = by_behind behind (evicted_from (suc a) cs) refl same
    by_evicted behind (region ∷ rest) first same =
        let gone : AllByRecursion (HasRegionAt shape) (region ∷ rest) = subst (AllByRecursion (HasRegionAt shape)) first all.0.evicted in
        let equal : record { wanted = tell a region; caches = record c { evicted = rest } ∷ cs } ≡ own = cc in
        subst (λ (o : Own). OwnFine s shape o (length (c ∷ cs))) equal (record {
          wanted = tell_served s shape a region is (omega arith) gone.0;
          mine = refl;
          caches = (record { shape_is = all.0.shape_is; wants = all.0.wants; evicted = gone.1; held = all.0.held }, all.1);
          count = refl;
        })

pub record PickedFine (s : Sizes) (shape : Shape) (p : Picked) (n : ℕ) : Type 0 where
  pub wanted : (w : Wanted) → p.wanted ≡ Some w → IsWanted s w × (w.caller ≡ false)
  pub caches : AllByRecursion (IsCached shape) p.caches
  pub count : length p.caches ≡ n

no_wanted : (w : Wanted) → None ≡ Some w → ⊥
no_wanted w is = cc

stale_there : (shape : Shape) (c : CacheState) (wants : List (ℕ × ℕ)) → AllByRecursion (IsThere shape) wants → AllByRecursion (IsThere shape) (stale_dropped c wants)
stale_there shape c [] all = tt
stale_there shape c (w ∷ ws) all = by_issued (stale_there shape c ws all.1) (is_issued (state_of c w.0 w.1))
  where
    by_issued : AllByRecursion (IsThere shape) (stale_dropped c ws) → (b : Bool) → AllByRecursion (IsThere shape) (if b then w ∷ ws else stale_dropped c ws)
    by_issued rest true = all
    by_issued rest false = rest

pub wanted_fine : (s : Sizes) (shape : Shape) (a : ℕ) (cs : List CacheState) → HasShape s shape → a + length cs ≤ s.luns → AllByRecursion (IsCached shape) cs
    → PickedFine s shape (wanted_from a cs) (length cs)
wanted_fine s shape a [] is few all = record { wanted = λ w same. absurd (no_wanted w same); caches = tt; count = refl }
wanted_fine s shape a (c ∷ cs) is few all =
    by_left (wanted_fine s shape (suc a) cs is (omega arith) all.1) (stale_dropped c c.wants) (stale_there shape c c.wants all.0.wants)
  where
    by_left : PickedFine s shape (wanted_from (suc a) cs) (length cs) → (left : List (ℕ × ℕ)) → AllByRecursion (IsThere shape) left
        → PickedFine s shape (first_picked a c cs left (wanted_from (suc a) cs)) (length (c ∷ cs))
    by_left behind [] there = record {
      wanted = behind.wanted;
      caches = (record { shape_is = all.0.shape_is; wants = tt; evicted = all.0.evicted; held = all.0.held }, behind.caches);
      count = let n = behind.count in omega (arith, n);
    }
    by_left behind (w ∷ rest) there =
        let served : IsWanted s (load a c w) = load_served s shape a c w is (omega arith) all.0.shape_is there.0 in
        record {
          wanted = λ x same. let equal : load a c w ≡ x = some_same (load a c w) x same in (subst (IsWanted s) equal served, ap (λ (y : Wanted). y.caller) (sym equal));
          caches = (
            issued_cached shape (record c { wants = rest }) w.0 w.1 (record { shape_is = all.0.shape_is; wants = there.1; evicted = all.0.evicted; held = all.0.held }),
            all.1,
          );
          count = refl;
        }
      where
        some_same : (x y : Wanted) → Some x ≡ Some y → x ≡ y
        some_same x y is = cc
