use Rattle.std.proofs.Common.{◌∙◌, ap, arith}
use Rattle.host_map_cache.specs.Cache.{CacheState, loaded}
use Rattle.driver_caches.proofs.Changing.{changed_at, changed_past, loaded_shape, same_shapes}
use Rattle.driver_caches.proofs.effects.mark_loaded.Goals as goal

pub returns-then-unit-caches-clause-after : goal.returns-then-unit-caches-clause-after
returns-then-unit-caches-clause-after c =
    changed_at c.args.caches.now c.args.lun c.from-unit.result (λ (x : CacheState). loaded x c.args.region c.args.sub c.args.bytes.now) c.index-caches-unit.result c.loaded.new.self c.from-unit.ensures
    c.if-unit-caches.true c.index-caches-unit.is c.loaded.ensures

pub returns-else-unit-caches-clause-after : goal.returns-else-unit-caches-clause-after
returns-else-unit-caches-clause-after c =
    changed_past c.args.caches.now c.args.lun c.from-unit.result (λ (x : CacheState). loaded x c.args.region c.args.sub c.args.bytes.now) c.from-unit.ensures (omega (arith, c.if-unit-caches.false))

pub returns-then-unit-caches-clause-shapes : goal.returns-then-unit-caches-clause-shapes
returns-then-unit-caches-clause-shapes c =
    same_shapes c.args.caches.now c.from-unit.result c.index-caches-unit.result c.loaded.new.self
    (ap (λ (x : CacheState). x.shape) c.loaded.ensures ∙ loaded_shape _ c.args.region c.args.sub c.args.bytes.now)
