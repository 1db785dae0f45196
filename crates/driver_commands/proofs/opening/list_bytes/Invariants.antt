use Rattle.std.proofs.Common.{◌≡◌, take}
use Rattle.driver_laws.specs.Requests.{list_bytes}
use Rattle.driver_commands.proofs.opening.list_bytes.Given as goal

abbrev pub invariant-loop-place : goal.invariant-loop-place
invariant-loop-place l = l.bytes.items ≡ list_bytes (take l.place l.entries)
