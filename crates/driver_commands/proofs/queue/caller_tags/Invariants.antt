use Rattle.std.proofs.Common.{◌≡◌, ◌≤◌, take}
use Rattle.arrayvec.specs.ArrayVec.{array_vec_len}
use Rattle.driver_commands.specs.State.{caller_tags}
use Rattle.driver_commands.proofs.queue.caller_tags.Given as goal

abbrev pub invariant-loop-place : goal.invariant-loop-place
invariant-loop-place l = (l.tags.items ≡ caller_tags (take l.place l.commands)) × (array_vec_len l.tags ≤ l.place)
