use Rattle.std.proofs.Common.{◌+◌, None, Some, subst, refl, sym, ◌∙◌, ap, arith}
use Rattle.std.specs.Prelude.{slice_set}
use Rattle.host_map_cache.specs.Cache.{CacheState}
use Rattle.driver_caches.specs.Effects.{shapes_of}
use Rattle.driver_caches.specs.Own.{IsNextWant}
use Rattle.driver_caches.proofs.Changing.{same_shapes}
use Rattle.driver_caches.proofs.Picking.{goes_on, is_none_picked, is_picked, is_present_load, present_at, stale_shapes}
use Rattle.driver_caches.proofs.own.take_want.Goals as goal

pub returns-in-Some-clause-after : goal.returns-in-Some-clause-after
returns-in-Some-clause-after c =
    let x = c.index-caches-unit.result in
    is_picked c.args.caches.now c.loop-unit.caches (slice_set c.loop-unit.caches c.loop-unit.unit c.next_want.new.cache) c.loop-unit.unit c.in-Some.region c.in-Some.sub
    x c.next_want.new.cache c.loop-unit.invariant (omega (arith, c.loop-unit-test.true))
    (sym c.index-caches-unit.is)
    (subst (λ (y : CacheState). IsNextWant y (Some (c.in-Some.region, c.in-Some.sub)) c.next_want.new.cache) (sym c.index-caches-unit.is) c.in-Some.ensures.after)
    refl

pub loop-unit-preserved : goal.loop-unit-preserved
loop-unit-preserved c =
    let x = c.index-caches-unit.result in
    goes_on c.args.caches.now c.loop-unit.caches (slice_set c.loop-unit.caches c.loop-unit.unit c.next_want.new.cache) c.loop-unit.unit (c.loop-unit.unit + 1)
    x c.next_want.new.cache refl c.loop-unit.invariant (omega (arith, c.loop-unit-test.true))
    (sym c.index-caches-unit.is)
    (subst (λ (y : CacheState). IsNextWant y None c.next_want.new.cache) (sym c.index-caches-unit.is) c.in_default.ensures.after)
    refl

pub returns-clause-after : goal.returns-clause-after
returns-clause-after c =
    is_none_picked c.args.caches.now c.loop-unit.caches c.loop-unit.unit c.loop-unit.invariant (omega (arith, c.loop-unit-test.false))

pub returns-in-Some-clause-shapes : goal.returns-in-Some-clause-shapes
returns-in-Some-clause-shapes c =
    same_shapes c.loop-unit.caches c.loop-unit.unit c.index-caches-unit.result c.next_want.new.cache c.next_want.ensures.shape
    ∙ ap shapes_of c.loop-unit.invariant.caches ∙ stale_shapes c.args.caches.now c.loop-unit.unit

pub returns-clause-shapes : goal.returns-clause-shapes
returns-clause-shapes c = ap shapes_of c.loop-unit.invariant.caches ∙ stale_shapes c.args.caches.now c.loop-unit.unit

pub returns-in-Some-clause-present : goal.returns-in-Some-clause-present
returns-in-Some-clause-present c =
    is_present_load c.args.caches.now c.loop-unit.caches c.loop-unit.unit c.in-Some.region c.in-Some.sub c.index-caches-unit.result c.loop-unit.invariant
    (omega (arith, c.loop-unit-test.true)) (sym c.index-caches-unit.is)
    (present_at c.index-caches-unit.result c.loop-unit.caches c.loop-unit.unit c.next_want.new.cache c.in-Some.region c.in-Some.sub c.index-caches-unit.is c.next_want.ensures.shape
    c.in-Some.ensures.present)
