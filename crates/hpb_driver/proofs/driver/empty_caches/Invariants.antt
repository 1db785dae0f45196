use Rattle.std.proofs.Common.{◌≡◌, ◌≤◌}
use Rattle.std.specs.Prelude.{vec_capacity}
use Rattle.driver_caches.specs.Machine.{caches_for}
use Rattle.hpb_driver.proofs.driver.empty_caches.Given as goal

abbrev pub invariant-loop-unit : goal.invariant-loop-unit
invariant-loop-unit l = (l.caches.items ≡ caches_for l._unit l.shape) × (l.count ≤ vec_capacity l.caches)
