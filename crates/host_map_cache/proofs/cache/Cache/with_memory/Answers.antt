use Rattle.std.proofs.Common.{refl, rules, ap, ◌∙◌}
use Rattle.region_state.specs.Shape.{region_count}
use Rattle.host_map_cache.proofs.Fresh.{region_size, sub_size, blocks_is, subregions_is}
use Rattle.region_state.proofs.Apart.{IsApart-none}
use Rattle.host_map_cache.proofs.cache.Cache.with_memory.Goals as goal

pub invariant_of-result : goal.invariant_of-result
invariant_of-result c = rw (c.in_ok-with_capacity.ensures.items, c.in_ok-with_capacity-2.ensures.items) (record {
  is_shape = c.requires;
  region_size = region_size c.args.shape c.requires;
  sub_size = sub_size c.args.shape c.requires;
  room = search rules;
  subregions = ap (λ held. held.subregions) c.in_ok-new.ensures ∙ subregions_is c.args.shape c.requires c.min-blocks.result c.min-blocks.ensures;
  blocks = ap (λ held. held.blocks) c.in_ok-new.ensures ∙ blocks_is c.args.shape c.requires c.min-blocks.result c.min-blocks.ensures;
  heats = search rules;
  wants_room = search rules;
  evicted_room = search rules;
  are_wants = record { there = tt; once = refl };
  apart = rw (c.in_ok-new.ensures) (IsApart-none (region_count c.args.shape));
})
