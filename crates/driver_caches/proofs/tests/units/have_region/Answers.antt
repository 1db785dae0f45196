use Rattle.std.proofs.Common.{◌≡◌, true}
use Rattle.region_state.specs.declared.shape.Shape.{Shape}
use Rattle.host_map_cache.specs.Shapes.{is_present}
use Rattle.driver_caches.proofs.Shaped.{two_have}
use Rattle.driver_caches.proofs.tests.units.have_region.Goals as goal

pub returns : goal.returns
returns c = two_have (λ (s : Shape). is_present s c.args.region 0 ≡ true) c.args.shape c.args.caches.now c.requires.same c.requires.present
