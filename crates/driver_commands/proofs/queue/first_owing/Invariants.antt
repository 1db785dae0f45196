use Rattle.std.proofs.Common.{◌≡◌, false, take}
use Rattle.std.specs.List.{list_any}
use Rattle.driver_laws.specs.Commands.{owes_data}
use Rattle.driver_commands.proofs.queue.first_owing.Given as goal

abbrev pub invariant-loop-place : goal.invariant-loop-place
invariant-loop-place l = list_any owes_data (take l.place l.commands) ≡ false
