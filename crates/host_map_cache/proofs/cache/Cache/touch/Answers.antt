use Rattle.std.proofs.Common.{refl, nat_eq, ◌-◌, ◌/◌}
use Rattle.std.specs.List.{range_with_len}
use Rattle.lru.specs.LruCache.{promoted}
use Rattle.host_map_cache.proofs.Kept.{with_regions}
use Rattle.host_map_cache.proofs.Lists.{IsApart-all_promoted}
use Rattle.host_map_cache.proofs.Ranges.{fold-range}
use Rattle.host_map_cache.proofs.cache.Cache.touch.Goals as goal

pub loop-region-preserved : goal.loop-region-preserved
loop-region-preserved c = rw (
  c.to_front.ensures,
  c.loop-region.invariant,
  fold-range (λ held region. promoted (nat_eq region) held) c.self.inside.slots.regions _ c.loop-region.region c.loop-region.auto.region,
) refl

pub invariant_of-self : goal.invariant_of-self
invariant_of-self c = rw c.loop-region.invariant
    (with_regions c.self.invariant _
    (IsApart-all_promoted _ _ (range_with_len (c.args.lba / c.self.inside.region_blocks) (c.loop-region.region - c.args.lba / c.self.inside.region_blocks))
    c.self.inside.slots.regions c.self.invariant.apart))
