use Rattle.std.proofs.Common.{◌≡◌, None, replicate, drop, ◌++◌}
use Rattle.entry_lists.proofs.lists.remove_each.Given as goal

abbrev pub invariant-loop-slot : goal.invariant-loop-slot
invariant-loop-slot l = l.slots ≡ replicate l.slot-index None ++ drop l.slot-index l.initial.slots
