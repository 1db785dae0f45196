use Rattle.std.proofs.Common.{refl}
use Rattle.host_map_cache.specs.Regions.{marked_region}
use Rattle.host_map_cache.proofs.Kept.{with_regions}
use Rattle.host_map_cache.proofs.Lists.{IsApart-mapped}
use Rattle.host_map_cache.proofs.cache.Cache.wrote.Goals as goal

pub invariant_of-self : goal.invariant_of-self
invariant_of-self c = rw c.mark_written.ensures (with_regions c.self.invariant _
    (IsApart-mapped _ _ (marked_region c.self.inside.region_blocks c.args.lba c.args.n) (λ e. refl) c.self.inside.slots.regions c.self.invariant.apart))
