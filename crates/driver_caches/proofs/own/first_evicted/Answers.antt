use Rattle.std.proofs.Common.{◌+◌, List, refl, sym, arith}
use Rattle.host_map_cache.specs.Cache.{CacheState}
use Rattle.driver_caches.proofs.Evicted.{none_at, none_next}
use Rattle.driver_caches.proofs.own.first_evicted.Goals as goal

pub loop-unit-preserved : goal.loop-unit-preserved
loop-unit-preserved c =
    let cs : List CacheState = c.args.caches.now in
    let x = c.index-caches-unit.result in
    none_next cs c.loop-unit.unit (c.loop-unit.unit + 1) x refl c.loop-unit.invariant (omega (arith, c.loop-unit-test.true))
    (sym c.index-caches-unit.is)
    (sym c.in_default.ensures.first)

pub returns : goal.returns
returns c =
    let cs : List CacheState = c.args.caches.now in
    none_at cs 0 c.loop-unit.unit c.loop-unit.invariant (omega (arith, c.loop-unit-test.false))
