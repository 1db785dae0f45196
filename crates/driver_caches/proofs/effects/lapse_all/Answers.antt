use Rattle.std.proofs.Common.{◌+◌, refl, sym, ◌∙◌, ap, arith}
use Rattle.std.specs.Prelude.{slice_set}
use Rattle.host_map_cache.specs.Cache.{lapsed}
use Rattle.driver_caches.specs.Effects.{shapes_of}
use Rattle.driver_caches.proofs.Lapsing.{all_lapse, lapsed_shapes, lapses_next}
use Rattle.driver_caches.proofs.effects.lapse_all.Goals as goal

pub loop-unit-preserved : goal.loop-unit-preserved
loop-unit-preserved c =
    let x = c.index-caches-unit.result in
    lapses_next c.args.caches.now c.loop-unit.caches (slice_set c.loop-unit.caches c.loop-unit.unit c.lapse.new.self) c.loop-unit.unit (c.loop-unit.unit + 1)
    x c.lapse.new.self refl c.loop-unit.invariant (omega (arith, c.loop-unit-test.true))
    (sym c.index-caches-unit.is)
    (c.lapse.ensures ∙ ap lapsed (sym c.index-caches-unit.is))
    refl

pub returns-clause-after : goal.returns-clause-after
returns-clause-after c =
    c.loop-unit.invariant ∙ all_lapse c.args.caches.now c.loop-unit.unit (omega (arith, c.loop-unit-test.false))

pub returns-clause-shapes : goal.returns-clause-shapes
returns-clause-shapes c =
    ap shapes_of (c.loop-unit.invariant ∙ all_lapse c.args.caches.now c.loop-unit.unit (omega (arith, c.loop-unit-test.false)))
    ∙ lapsed_shapes c.args.caches.now
