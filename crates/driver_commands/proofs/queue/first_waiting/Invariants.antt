use Rattle.std.proofs.Common.{◌≡◌, false, take}
use Rattle.std.specs.List.{list_any}
use Rattle.driver_laws.specs.Commands.{is_waiting}
use Rattle.driver_commands.proofs.queue.first_waiting.Given as goal

abbrev pub invariant-loop-place : goal.invariant-loop-place
invariant-loop-place l = list_any is_waiting (take l.place l.commands) ≡ false
