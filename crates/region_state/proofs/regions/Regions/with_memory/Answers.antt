use Rattle.std.proofs.Common.{rules, ◌+◌}
use Rattle.region_state.specs.Shape.{region_count}
use Rattle.region_state.proofs.Apart.{IsApart-none}
use Rattle.region_state.proofs.Due.{none-replicate}
use Rattle.region_state.proofs.regions.Regions.with_memory.Goals as goal

pub invariant_of-result : goal.invariant_of-result
invariant_of-result c = record {
  limits = c.requires;
  all_subregions = search rules;
  held_limit = search rules;
  held_room = search rules;
  gone_room = search rules;
  lists = rw (c.in_ok-with_capacity.ensures.items, c.in_ok-with_capacity-2.ensures.items) (IsApart-none (region_count c.args.shape));
  none_due = λ _. rw (c.in_ok-vec.ensures.items_if_clones_equal (λ y is. is)) (none-replicate (c.from-subregions.result + 1));
}
