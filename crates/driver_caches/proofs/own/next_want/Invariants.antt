use Rattle.std.proofs.Common.{length}
use Rattle.driver_caches.proofs.Wants.{IsLeft}
use Rattle.driver_caches.proofs.own.next_want.Given as goal

abbrev pub invariant-loop-region : goal.invariant-loop-region
invariant-loop-region l = IsLeft l.fn.cache l.cache

abbrev pub decreases-loop-region : goal.decreases-loop-region
decreases-loop-region l = length l.cache.wants
