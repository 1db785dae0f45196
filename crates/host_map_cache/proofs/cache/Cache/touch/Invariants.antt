use Rattle.std.proofs.Common.{◌≡◌, ◌-◌, nat_eq}
use Rattle.std.specs.List.{fold, range_with_len}
use Rattle.lru.specs.LruCache.{promoted}
use Rattle.host_map_cache.proofs.cache.Cache.touch.Given as goal

abbrev pub invariant-loop-region : goal.invariant-loop-region
invariant-loop-region l = l.self-inside ≡ record l.initial.self-inside {
  slots = record l.initial.self-inside.slots { regions = fold (λ held region. promoted (nat_eq region) held) l.initial.self-inside.slots.regions (range_with_len l.first (l.region - l.first)) };
}
