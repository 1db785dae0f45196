use Rattle.driver_caches.specs.Own.{NoneBefore}
use Rattle.driver_caches.proofs.own.first_evicted.Given as goal

abbrev pub invariant-loop-unit : goal.invariant-loop-unit
invariant-loop-unit l = NoneBefore l.caches l.unit
