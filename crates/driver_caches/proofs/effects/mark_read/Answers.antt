use Rattle.std.proofs.Common.{arith}
use Rattle.driver_caches.specs.Effects.{read_once}
use Rattle.driver_caches.proofs.Changing.{changed_at, changed_past, same_shapes}
use Rattle.driver_caches.proofs.effects.mark_read.Goals as goal

pub returns-then-unit-caches-clause-after : goal.returns-then-unit-caches-clause-after
returns-then-unit-caches-clause-after c =
    changed_at c.args.caches.now c.args.lun c.from-unit.result (read_once c.args.plain c.args.lba c.args.n) c.index-caches-unit.result c.read_by.new.cache c.from-unit.ensures
    c.if-unit-caches.true c.index-caches-unit.is c.read_by.ensures.after

pub returns-else-unit-caches-clause-after : goal.returns-else-unit-caches-clause-after
returns-else-unit-caches-clause-after c =
    changed_past c.args.caches.now c.args.lun c.from-unit.result (read_once c.args.plain c.args.lba c.args.n) c.from-unit.ensures (omega (arith, c.if-unit-caches.false))

pub returns-then-unit-caches-clause-shapes : goal.returns-then-unit-caches-clause-shapes
returns-then-unit-caches-clause-shapes c = same_shapes c.args.caches.now c.from-unit.result c.index-caches-unit.result c.read_by.new.cache c.read_by.ensures.shape
