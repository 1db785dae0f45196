use Rattle.std.proofs.Common.{◌≡◌, false, take}
use Rattle.std.specs.List.{list_any}
use Rattle.driver_laws.specs.Commands.{has}
use Rattle.driver_commands.proofs.queue.first_with_tag.Given as goal

abbrev pub invariant-loop-place : goal.invariant-loop-place
invariant-loop-place l = list_any (has l.tag) (take l.place l.commands) ≡ false
