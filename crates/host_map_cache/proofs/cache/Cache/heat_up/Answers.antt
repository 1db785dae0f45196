use Rattle.std.proofs.Common.{◌<◌}
use Rattle.host_map_cache.specs.Cache.{unit_subregions}
use Rattle.host_map_cache.proofs.Places.{number_inside, sub-lt}
use Rattle.host_map_cache.proofs.cache.Cache.heat_up.Goals as goal

pub state-requires : goal.state-requires
state-requires c =
    let below : c.args.number < unit_subregions c.self.inside.shape = rw c.self.invariant.heats at (rw (← c.self.view_is) at c.requires) in
    rw (c.self.invariant.subregions, c.self.invariant.region_size, c.self.invariant.sub_size)
    (sub-lt c.self.inside.shape _ (number_inside c.self.inside.shape c.args.number c.self.invariant.is_shape below))
