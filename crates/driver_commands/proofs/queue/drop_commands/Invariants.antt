use Rattle.std.proofs.Common.{◌≡◌, length}
use Rattle.std.specs.Prelude.{vec_capacity}
use Rattle.driver_commands.specs.State.{HasListRoom}
use Rattle.driver_commands.proofs.queue.drop_commands.Given as goal

abbrev pub invariant-loop-command : goal.invariant-loop-command
invariant-loop-command l = HasListRoom l.commands.items (vec_capacity l.list) × (vec_capacity l.commands ≡ vec_capacity l.fn.commands)

abbrev pub decreases-loop-command : goal.decreases-loop-command
decreases-loop-command l = length l.commands.items
