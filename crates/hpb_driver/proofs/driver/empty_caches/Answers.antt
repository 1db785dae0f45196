use Rattle.std.proofs.Common.{◌≡◌, ◌+◌, List, length, ap, arith, refl, subst, sym}
use Rattle.host_map_cache.specs.Cache.{CacheState}
use Rattle.driver_caches.specs.Machine.{caches_for}
use Rattle.hpb_driver.proofs.Empty.{for_more, length_for}
use Rattle.hpb_driver.proofs.driver.empty_caches.Goals as goal

pub push_reserved-requires : goal.push_reserved-requires
push_reserved-requires c =
    let invariant = c.loop-unit.invariant in
    let items = ap (λ (cs : List CacheState). length cs) invariant.0 in
    let count = length_for c.loop-unit._unit c.args.shape in
    let whole = c.loop-unit.caches.ok.0 in
    let room = invariant.1 in
    omega (arith, items, count, whole, room, c.loop-unit-test.true)

pub loop-unit-preserved : goal.loop-unit-preserved
loop-unit-preserved c =
    let invariant = c.loop-unit.invariant in
    let room = invariant.1 in (
      subst (λ (cs : List CacheState). cs ≡ caches_for (c.loop-unit._unit + 1) c.args.shape) (sym c.push_reserved.ensures.items)
          (for_more c.loop-unit._unit _ c.args.shape c.loop-unit.caches.items c.in-Ok.cache refl invariant.0 c.in-Ok.ensures.made),
      omega (arith, room, c.push_reserved.ensures.capacity),
    )
