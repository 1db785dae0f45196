use Rattle.std.proofs.Common.{◌≡◌, ◌-◌, ◌≤◌, vec_len, vec_capacity}
use Rattle.std.specs.List.{fold, range_with_len}
use Rattle.region_state.specs.Lists.{to_front}
use Rattle.region_state.proofs.lists.touch.Given as goal

abbrev pub invariant-loop-region : goal.invariant-loop-region
invariant-loop-region l =
    (fold to_front l.list.items (range_with_len l.region (l.end - l.region)) ≡ fold to_front l.initial.list.items (range_with_len l.fn.first (l.end - l.fn.first)))
    × (vec_len l.list ≤ vec_capacity l.list)
    × (vec_capacity l.initial.list ≤ vec_capacity l.list)
