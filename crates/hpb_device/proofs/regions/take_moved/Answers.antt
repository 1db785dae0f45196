use Rattle.std.proofs.Common.{◌∙◌, ap, subst, arith}
use Rattle.std.proofs.Math.Seq.{map-set_same}
use Rattle.region_state.specs.declared.shape.Shape.{Shape}
use Rattle.hpb_device.specs.Regions.{IsMovedWithin}
use Rattle.hpb_device.proofs.Machines.{shape_at, shape_of}
use Rattle.hpb_device.proofs.regions.take_moved.Goals as goal

pub changed-requires : goal.changed-requires
changed-requires c =
    let shape = c.requires.0 in
    let luns = c.requires.1 in
    let within = subst (IsMovedWithin shape luns) c.in-Page.is c.requires.3 in
    let at = shape_at shape luns c.from.result c.args.machines.now.items c.index_mut.result.now c.requires.2.shapes (omega (arith, within.0, c.from.ensures)) in
    let same = ap (λ (s : Shape). s.units) (ap shape_of c.index_mut.ensures.value ∙ at) in
    omega (arith, within.1, same)

pub returns-in-Page-clause-shapes : goal.returns-in-Page-clause-shapes
returns-in-Page-clause-shapes c =
    map-set_same shape_of c.args.machines.now.items c.from.result c.changed.new.self c.index_mut.result.now
    (c.changed.ensures.shape ∙ ap shape_of c.index_mut.ensures.value)
