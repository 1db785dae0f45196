use Rattle.std.proofs.Common.{◌≡◌, take}
use Rattle.host_map_cache.specs.Cache.{without}
use Rattle.host_map_cache.proofs.cache.Cache.give_up_each.Given as goal

abbrev pub invariant-loop-region : goal.invariant-loop-region
invariant-loop-region l = (l.self ≡ without l.initial.self (take l.region-index l.regions)) × (l.self.shape ≡ l.initial.self.shape)
