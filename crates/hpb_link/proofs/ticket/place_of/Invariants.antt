use Rattle.std.proofs.Common.{◌≡◌, false, take}
use Rattle.std.specs.List.{list_any}
use Rattle.hpb_link.specs.State.{is_for}
use Rattle.hpb_link.proofs.ticket.place_of.Given as goal

abbrev pub invariant-loop-place : goal.invariant-loop-place
invariant-loop-place l = list_any (is_for l.tag) (take l.place l.tickets) ≡ false
