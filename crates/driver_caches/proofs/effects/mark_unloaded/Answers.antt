use Rattle.std.proofs.Common.{◌∙◌, ap, arith}
use Rattle.host_map_cache.specs.Cache.{CacheState, unloaded}
use Rattle.driver_caches.proofs.Changing.{changed_at, changed_past, same_shapes, unloaded_shape}
use Rattle.driver_caches.proofs.effects.mark_unloaded.Goals as goal

pub returns-then-unit-caches-clause-after : goal.returns-then-unit-caches-clause-after
returns-then-unit-caches-clause-after c =
    changed_at c.args.caches.now c.args.lun c.from-unit.result (λ (x : CacheState). unloaded x c.args.region c.args.sub) c.index-caches-unit.result c.unloaded.new.self c.from-unit.ensures
    c.if-unit-caches.true c.index-caches-unit.is c.unloaded.ensures

pub returns-else-unit-caches-clause-after : goal.returns-else-unit-caches-clause-after
returns-else-unit-caches-clause-after c =
    changed_past c.args.caches.now c.args.lun c.from-unit.result (λ (x : CacheState). unloaded x c.args.region c.args.sub) c.from-unit.ensures (omega (arith, c.if-unit-caches.false))

pub returns-then-unit-caches-clause-shapes : goal.returns-then-unit-caches-clause-shapes
returns-then-unit-caches-clause-shapes c =
    same_shapes c.args.caches.now c.from-unit.result c.index-caches-unit.result c.unloaded.new.self
    (ap (λ (x : CacheState). x.shape) c.unloaded.ensures ∙ unloaded_shape _ c.args.region c.args.sub)
