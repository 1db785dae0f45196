use Rattle.std.proofs.Common.{◌∙◌, subst, arith}
use Rattle.hpb_sense.specs.Sense.{IsSense}
use Rattle.hpb_sense.specs.declared.sense.Sense.{Sense}
use Rattle.hpb_sense.specs.declared.sense.Sense.TheVariants.{Hint as Hinted}
use Rattle.host_map_cache.specs.Cache.{CacheState, hinted}
use Rattle.driver_caches.proofs.Changing.{changed_at, changed_past, same_shapes}
use Rattle.driver_caches.proofs.Hints.{said}
use Rattle.driver_caches.proofs.effects.take_hint.Goals as goal

pub returns-then-unit-caches-clause-after : goal.returns-then-unit-caches-clause-after
returns-then-unit-caches-clause-after c =
    let h = c.in-Some-Hint.hint in
    let is : IsSense c.args.segment.now (Hinted h) = subst (λ (s : Sense). IsSense c.args.segment.now s) c.in-Some-Hint.field-0-is c.in-Some-Hint.ensures.sense in
    changed_at c.args.caches.now h.lun c.from-unit.result (λ (x : CacheState). hinted x h) c.index-caches-unit.result c.hint.new.self c.from-unit.ensures
    c.if-unit-caches.true c.index-caches-unit.is c.hint.ensures.after
    ∙ said c.args.segment.now h c.args.caches.now is

pub returns-else-unit-caches-clause-after : goal.returns-else-unit-caches-clause-after
returns-else-unit-caches-clause-after c =
    let h = c.in-Some-Hint.hint in
    let is : IsSense c.args.segment.now (Hinted h) = subst (λ (s : Sense). IsSense c.args.segment.now s) c.in-Some-Hint.field-0-is c.in-Some-Hint.ensures.sense in
    changed_past c.args.caches.now h.lun c.from-unit.result (λ (x : CacheState). hinted x h) c.from-unit.ensures (omega (arith, c.if-unit-caches.false))
    ∙ said c.args.segment.now h c.args.caches.now is

pub returns-then-unit-caches-clause-shapes : goal.returns-then-unit-caches-clause-shapes
returns-then-unit-caches-clause-shapes c = same_shapes c.args.caches.now c.from-unit.result c.index-caches-unit.result c.hint.new.self c.hint.ensures.shape
