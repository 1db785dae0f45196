use Rattle.host_map_cache.specs.Regions.{with_state}
use Rattle.host_map_cache.specs.declared.slots.SubregionState.TheVariants.{Invalid}
use Rattle.host_map_cache.proofs.Lists.{IsApart-changed}
use Rattle.host_map_cache.proofs.Kept.{with_regions}
use Rattle.host_map_cache.proofs.Places.{present, in_subregions}
use Rattle.host_map_cache.proofs.cache.Cache.unloaded.Goals as goal

pub set_state-requires : goal.set_state-requires
set_state-requires c = let p = present c.self.inside.shape c.args.region c.args.sub c.self.invariant.is_shape (rw (← c.self.view_is) at c.requires) in
    rw c.self.invariant.subregions (in_subregions c.self.inside.shape c.args.region c.args.sub c.self.invariant.is_shape p)

pub invariant_of-self : goal.invariant_of-self
invariant_of-self c = rw c.set_state.ensures (with_regions c.self.invariant _ (IsApart-changed _ _ c.args.region (with_state c.args.sub Invalid) c.self.inside.slots.regions c.self.invariant.apart))
