use Rattle.std.proofs.Common.{◌≡◌}
use Rattle.driver_caches.proofs.Lapsing.{lapsed_to}
use Rattle.driver_caches.proofs.effects.lapse_all.Given as goal

abbrev pub invariant-loop-unit : goal.invariant-loop-unit
invariant-loop-unit l = l.caches ≡ lapsed_to l.unit l.fn.caches
