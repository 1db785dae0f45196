-- The caches of a driver that has just been made.
use Rattle.std.proofs.Common.{◌≡◌, ℕ, zero, suc, ◌+◌, List, [], ◌∷◌, ◌++◌, length, refl, sym, ◌∙◌, ap, subst, arith, ◌≤◌}
use Rattle.region_state.specs.declared.shape.Shape.{Shape}
use Rattle.host_map_cache.specs.Cache.{CacheState, empty_cache}
use Rattle.driver_laws.specs.Commands.{OpenCommand}
use Rattle.driver_caches.specs.Machine.{Machine, caches_for}
use Rattle.driver_commands.specs.State.{AllHaveShape, AllLoadsWhole}
use Rattle.hpb_driver.specs.State.{CanDrive, IsDriver}

pub length_for : (n : ℕ) (shape : Shape) → length (caches_for n shape) ≡ n
length_for zero shape = refl
length_for (suc n) shape = ap (λ (m : ℕ). suc m) (length_for n shape)

-- one more cache, behind the others
for_behind : (n : ℕ) (shape : Shape) → caches_for (suc n) shape ≡ caches_for n shape ++ empty_cache shape ∷ []
for_behind zero shape = refl
for_behind (suc n) shape = ap (λ (cs : List CacheState). empty_cache shape ∷ cs) (for_behind n shape)

pub for_more : (n m : ℕ) (shape : Shape) (items : List CacheState) (cache : CacheState) → m ≡ n + 1 → items ≡ caches_for n shape → cache ≡ empty_cache shape
    → items ++ cache ∷ [] ≡ caches_for m shape
for_more n m shape items cache more is empty =
    ap (λ (cs : List CacheState). cs ++ cache ∷ []) is ∙ ap (λ (x : CacheState). caches_for n shape ++ x ∷ []) empty
    ∙ sym (for_behind n shape) ∙ ap (λ (k : ℕ). caches_for k shape) (sym (next more))
  where
    next : m ≡ n + 1 → m ≡ suc n
    next is_more = omega (arith, is_more)

pub shape_for : (n : ℕ) (shape : Shape) → AllHaveShape shape (caches_for n shape)
shape_for zero shape = tt
shape_for (suc n) shape = (refl, shape_for n shape)

-- a driver that has just been made
pub driver_begun : (m : Machine) (count room list : ℕ) → CanDrive m.shape m.luns → count ≤ m.luns → m.opens ≡ [] → m.caches ≡ caches_for count m.shape → m.next_id ≡ 1
    → 32 ≤ room → 523904 ≤ list → IsDriver m room list
driver_begun m count room list can few none are first room_is list_is = record {
  can = can;
  few = omega (arith, ap (λ (os : List OpenCommand). length os) none);
  room_is = room_is;
  few_caches = omega (arith, ap (λ (cs : List CacheState). length cs) are, length_for count m.shape, few);
  some_id = omega (arith, first);
  last_id = omega (arith, first);
  ready = record {
    limits = can.limits;
    shapes = subst (AllHaveShape m.shape) (sym are) (shape_for count m.shape);
    whole = subst (AllLoadsWhole m.shape) (sym none) tt;
    list = λ nothing. list_is;
  };
}
