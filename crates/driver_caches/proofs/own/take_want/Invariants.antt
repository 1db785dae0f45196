use Rattle.driver_caches.proofs.Picking.{GoesOn}
use Rattle.driver_caches.proofs.own.take_want.Given as goal

abbrev pub invariant-loop-unit : goal.invariant-loop-unit
invariant-loop-unit l = GoesOn l.fn.caches l.caches l.unit
