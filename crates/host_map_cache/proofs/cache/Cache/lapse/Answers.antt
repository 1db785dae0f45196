use Rattle.std.proofs.Common.{refl, arith}
use Rattle.host_map_cache.specs.Regions.{lapsed_region}
use Rattle.host_map_cache.proofs.Kept.{with_lists}
use Rattle.host_map_cache.proofs.Lists.{IsApart-mapped, IsApart-all_told}
use Rattle.host_map_cache.proofs.Wants.{AreWants-none}
use Rattle.host_map_cache.proofs.cache.Cache.lapse.Goals as goal

pub invariant_of-self : goal.invariant_of-self
invariant_of-self c = rw (c.lapse.ensures, c.clear.ensures.items, c.clear-2.ensures.items) (with_lists c.self.invariant _ _ _ _ _ (AreWants-none c.self.inside.shape)
    (IsApart-mapped _ _ (λ e. (e.0, lapsed_region e.1)) (λ e. refl) c.self.inside.slots.regions (IsApart-all_told _ _ _ c.self.invariant.apart))
    (omega (arith, c.clear.ensures.capacity)) (omega (arith, c.clear-2.ensures.capacity)))
