use Rattle.std.proofs.Common.{◌≡◌, ◌-◌, length}
use Rattle.std.specs.List.{fold, range_with_len}
use Rattle.host_map_cache.specs.Cache.{heated}
use Rattle.host_map_cache.proofs.cache.Cache.plain_read.Given as goal

abbrev pub invariant-loop-number : goal.invariant-loop-number
invariant-loop-number l = (l.self ≡ fold heated l.initial.self (range_with_len l.first (l.number - l.first)))
    × (l.self.shape ≡ l.initial.self.shape) × (length l.self.heat ≡ length l.initial.self.heat)
