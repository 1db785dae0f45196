use Rattle.std.proofs.Common.{◌+◌, ◌≤◌}
use Rattle.region_state.specs.declared.shape.Shape.{Shape}
use Rattle.driver_caches.proofs.Shaped.{two_have}
use Rattle.driver_caches.proofs.tests.units.have_blocks.Goals as goal

pub returns : goal.returns
returns c = two_have (λ (s : Shape). c.args.lba + c.args.n ≤ s.units) c.args.shape c.args.caches.now c.requires.same c.requires.inside
