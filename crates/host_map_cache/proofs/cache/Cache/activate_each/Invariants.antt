use Rattle.std.proofs.Common.{◌≡◌, take}
use Rattle.std.specs.List.{fold}
use Rattle.host_map_cache.specs.Cache.{activated}
use Rattle.host_map_cache.proofs.cache.Cache.activate_each.Given as goal

abbrev pub invariant-loop-pair : goal.invariant-loop-pair
invariant-loop-pair l = (l.self ≡ fold activated l.initial.self (take l.pair-index l.pairs)) × (l.self.shape ≡ l.initial.self.shape)
