use Rattle.std.proofs.Common.{◌≡◌, ◌∙◌, ℕ, get_or, sym, ap, subst, arith}
use Rattle.std.proofs.Math.Seq.{map-set_same}
use Rattle.std.proofs.lemmas.List.{get_or_default}
use Rattle.region_state.specs.declared.shape.Shape.{Shape}
use Rattle.region_state.specs.Machine.{Machine, start}
use Rattle.region_state.specs.Shape.{IsWithinLimits}
use Rattle.flat_unit.specs.Hints.{after_good, hint_of}
use Rattle.hpb_device.specs.Limits.{limits_of}
use Rattle.hpb_device.specs.Task.{IsServed}
use Rattle.hpb_device.proofs.Machines.{count_of, shape_at, shape_of}
use Rattle.hpb_device.proofs.regions.take_good.Goals as goal

pub take_in-requires-clause-limits : goal.take_in-requires-clause-limits
take_in-requires-clause-limits c =
    let shape : c.index_mut-regions.result.now.shape ≡ c.requires.0 =
    ap shape_of c.index_mut-regions.ensures.value
    ∙ shape_at c.requires.0 c.requires.1 c.from.result c.args.machines.now.items c.index_mut-regions.result.now c.requires.2.shapes (omega (arith, c.requires.3.lun, c.from.ensures)) in
    subst IsWithinLimits (sym shape) c.requires.2.limits

pub take_in-requires-clause-served : goal.take_in-requires-clause-served
take_in-requires-clause-served c =
    let shape : c.index_mut-regions.result.now.shape ≡ c.requires.0 =
    ap shape_of c.index_mut-regions.ensures.value
    ∙ shape_at c.requires.0 c.requires.1 c.from.result c.args.machines.now.items c.index_mut-regions.result.now c.requires.2.shapes (omega (arith, c.requires.3.lun, c.from.ensures)) in
    subst (λ (s : Shape). IsServed (limits_of s) c.args.task.command) (sym shape) c.requires.3.served

pub returns-clause-hint : goal.returns-clause-hint
returns-clause-hint c = λ shape.
    let at = c.requires.2 in
    let lun : c.from.result ≡ c.args.task.lun = c.from.ensures in
    let count = count_of c.requires.0 c.requires.1 c.args.machines.now.items at.shapes in
    let same = get_or_default c.args.machines.now.items c.from.result c.index_mut-regions.result.now (start shape) (omega (arith, c.requires.3.lun, lun, count)) in
    c.take.ensures.hint ∙ ap (λ (m : Machine). hint_of m c.args.task.lun)
    (c.take_in.ensures.new ∙ ap (λ (m : Machine). after_good m c.args.task.command)
    (c.index_mut-regions.ensures.value ∙ (same ∙ ap (λ (n : ℕ). get_or c.args.machines.now.items n (start shape)) lun)))

pub returns-clause-shapes : goal.returns-clause-shapes
returns-clause-shapes c =
    map-set_same shape_of c.args.machines.now.items c.from.result c.take.new.regions c.index_mut-regions.result.now
    (c.take.ensures.shape ∙ (c.take_in.ensures.shape ∙ ap shape_of c.index_mut-regions.ensures.value))
