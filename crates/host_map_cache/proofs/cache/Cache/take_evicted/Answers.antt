use Rattle.std.proofs.Common.{arith}
use Rattle.region_state.specs.Shape.{region_count}
use Rattle.region_state.proofs.Apart.{IsApart-told}
use Rattle.std.specs.Map.{keys_of}
use Rattle.host_map_cache.proofs.Kept.{with_lists}
use Rattle.host_map_cache.proofs.cache.Cache.take_evicted.Goals as goal

pub invariant_of-self : goal.invariant_of-self
invariant_of-self c = rw c.pop_front.ensures.rest
    (with_lists c.self.invariant c.self.inside.slots.regions _ _ _ _ c.self.invariant.are_wants
    (IsApart-told (keys_of c.self.inside.slots.regions) c.self.inside.evicted.items (region_count c.self.inside.shape) c.self.invariant.apart)
    (omega arith) (omega (arith, c.pop_front.ensures.capacity)))
