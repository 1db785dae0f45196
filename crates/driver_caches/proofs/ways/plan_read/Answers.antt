use Rattle.std.proofs.Common.{◌∙◌, Option, ap, sym, arith}
use Rattle.host_map_cache.specs.Cache.{CacheState}
use Rattle.driver_caches.specs.Machine.{way_by_cache}
use Rattle.driver_caches.proofs.Planning.{cache_at, is_list, no_cache, way_is}
use Rattle.driver_caches.proofs.ways.plan_read.Goals as goal

pub returns-then-unit-caches-clause-way : goal.returns-then-unit-caches-clause-way
returns-then-unit-caches-clause-way c =
    way_is c.index-caches-unit.result c.args.lba c.args.n c.args.pair c.args.id c.plan.result c.plan.ensures
    ∙ sym (ap (λ (x : Option CacheState). way_by_cache x c.args.lba c.args.n c.args.pair c.args.id)
    (cache_at c.args.caches.now c.args.lun c.from-unit.result c.index-caches-unit.result c.from-unit.ensures c.if-unit-caches.true c.index-caches-unit.is))

pub returns-else-unit-caches-clause-way : goal.returns-else-unit-caches-clause-way
returns-else-unit-caches-clause-way c =
    sym (ap (λ (x : Option CacheState). way_by_cache x c.args.lba c.args.n c.args.pair c.args.id)
    (no_cache c.args.caches.now c.args.lun c.from-unit.result c.from-unit.ensures (omega (arith, c.if-unit-caches.false))))

pub returns-then-unit-caches-clause-listed : goal.returns-then-unit-caches-clause-listed
returns-then-unit-caches-clause-listed c =
    is_list c.index-caches-unit.result c.args.lba c.args.n c.args.pair c.args.id c.plan.result c.plan.ensures
