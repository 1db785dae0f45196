use Rattle.std.proofs.Common.{ap, sym}
use Rattle.host_map_cache.specs.Cache.{CacheState}
use Rattle.driver_caches.proofs.Wants.{no_want}
use Rattle.driver_caches.proofs.own.next_want.Goals as goal

pub returns-clause-after : goal.returns-clause-after
returns-clause-after c = no_want c.args.cache.now c.loop-region.cache c.loop-region.invariant (sym c.in_default.ensures.first)

pub returns-clause-shape : goal.returns-clause-shape
returns-clause-shape c = ap (λ (x : CacheState). x.shape) c.loop-region.invariant.same
