use Rattle.std.proofs.Common.{List, ap, subst, sym, ◌∙◌}
use Rattle.std.specs.Prelude.{option_map}
use Rattle.std.specs.List.{list_any}
use Rattle.hpb_link.specs.declared.ticket.Ticket.{Ticket}
use Rattle.hpb_link.specs.State.{IsPlaceAt, is_for}
use Rattle.hpb_link.proofs.Places.{ended_at, first_at, none_found}
use Rattle.hpb_link.proofs.ticket.take_ticket.Goals as goal

pub returns-in_err-place-clause-tickets : goal.returns-in_err-place-clause-tickets
returns-in_err-place-clause-tickets c =
    let none = none_found c.args.done.tag c.args.tickets.now.items (ap (list_any (is_for c.args.done.tag)) (sym c.deref.ensures.value) ∙ c.in_err-place.ensures) in
    sym none.1

pub returns-in_err-place-clause-ended : goal.returns-in_err-place-clause-ended
returns-in_err-place-clause-ended c =
    let none = none_found c.args.done.tag c.args.tickets.now.items (ap (list_any (is_for c.args.done.tag)) (sym c.deref.ensures.value) ∙ c.in_err-place.ensures) in
    c.from_residual.ensures ∙ ap (option_map (λ (x : Ticket). record { ticket = x; answer = c.args.done.answer })) (sym none.0)

pub returns-clause-tickets : goal.returns-clause-tickets
returns-clause-tickets c =
    let at = subst (λ (ts : List Ticket). IsPlaceAt c.args.done.tag ts c.in_ok-place.place) c.deref.ensures.value c.in_ok-place.ensures in
    c.remove.ensures.items ∙ sym (first_at c.args.done.tag c.args.tickets.now.items c.in_ok-place.place at).goes

pub returns-clause-ended : goal.returns-clause-ended
returns-clause-ended c =
    let at = subst (λ (ts : List Ticket). IsPlaceAt c.args.done.tag ts c.in_ok-place.place) c.deref.ensures.value c.in_ok-place.ensures in
    ended_at c.args.done c.args.tickets.now.items c.in_ok-place.place c.remove.result at c.remove.ensures.value
