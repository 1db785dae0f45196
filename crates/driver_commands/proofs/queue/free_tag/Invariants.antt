use Rattle.std.proofs.Common.{◌≡◌, not, None, ℕ}
use Rattle.std.specs.List.{find, range_with_len}
use Rattle.driver_laws.specs.Commands.{uses}
use Rattle.driver_commands.proofs.queue.free_tag.Given as goal

abbrev pub invariant-loop-tag : goal.invariant-loop-tag
invariant-loop-tag l = find (λ (tag : ℕ). not (uses l.commands tag)) (range_with_len 0 l.tag) ≡ None
