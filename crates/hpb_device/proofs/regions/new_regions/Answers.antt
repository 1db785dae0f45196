use Rattle.std.proofs.Common.{◌≡◌, ◌∙◌, ℕ, ap, arith, map, replicate}
use Rattle.region_state.specs.Machine.{start}
use Rattle.hpb_device.proofs.Machines.{shape_of, start_shapes}
use Rattle.hpb_device.proofs.regions.new_regions.Goals as goal

pub returns-clause-shapes : goal.returns-clause-shapes
returns-clause-shapes c =
    let all : c.loop.counter ≡ c.args.luns = omega arith in
    ap (map shape_of) (c.loop.invariant.0 ∙ ap (λ (n : ℕ). replicate n (start c.args.shape)) all) ∙ start_shapes c.args.luns c.args.shape
