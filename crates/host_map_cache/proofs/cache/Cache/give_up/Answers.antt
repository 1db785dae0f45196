use Rattle.host_map_cache.proofs.Kept.{with_regions}
use Rattle.host_map_cache.proofs.Lists.{IsApart-removed}
use Rattle.host_map_cache.proofs.cache.Cache.give_up.Goals as goal

pub invariant_of-self : goal.invariant_of-self
invariant_of-self c = rw c.remove.ensures (with_regions c.self.invariant _ (IsApart-removed _ _ c.args.region c.self.inside.slots.regions c.self.invariant.apart))
