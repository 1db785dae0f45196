use Rattle.std.proofs.Common.{sym, ◌∙◌, ap, subst, List}
use Rattle.std.specs.List.{list_any}
use Rattle.driver_laws.specs.Commands.{OpenCommand, is_waiting, owes_data}
use Rattle.driver_commands.specs.Open.{sizes_in}
use Rattle.driver_commands.specs.Places.{IsFirstAt}
use Rattle.driver_commands.proofs.Sending.{nothing_items, nothing_sent, owing_items, owing_sent, waiting_items, waiting_sent}
use Rattle.driver_commands.proofs.exchange.send_next.Goals as goal

pub returns-in-Some-clause-items : goal.returns-in-Some-clause-items
returns-in-Some-clause-items c =
    owing_items (sizes_in c.args.limits) c.args.commands.now.items c.in-Some.place c.index_mut-command.result.now c.put_piece.new.self
    (subst (λ (os : List OpenCommand). IsFirstAt owes_data os c.in-Some.place) c.deref.ensures.value c.in-Some.ensures) c.index_mut-command.ensures.value
    (c.put_piece.ensures.new c.args.limits)

pub returns-in-Some-clause-sent : goal.returns-in-Some-clause-sent
returns-in-Some-clause-sent c =
    owing_sent (sizes_in c.args.limits) c.args.commands.now.items c.in-Some.place c.index_mut-command.result.now c.args.out.now c.put_piece.new.out
    (subst (λ (os : List OpenCommand). IsFirstAt owes_data os c.in-Some.place) c.deref.ensures.value c.in-Some.ensures) c.index_mut-command.ensures.value
    (c.put_piece.ensures.sent c.args.limits)

pub returns-in-Some-first_waiting-clause-items : goal.returns-in-Some-first_waiting-clause-items
returns-in-Some-first_waiting-clause-items c =
    waiting_items (sizes_in c.args.limits) c.args.commands.now.items c.in-Some-first_waiting.place c.index_mut-command-in-Some-first_waiting.result.now c.put_begin.new.self
    (ap (list_any owes_data) (sym c.deref.ensures.value) ∙ c.in_default.ensures)
    (subst (λ (os : List OpenCommand). IsFirstAt is_waiting os c.in-Some-first_waiting.place) c.deref-2.ensures.value c.in-Some-first_waiting.ensures)
    c.index_mut-command-in-Some-first_waiting.ensures.value c.put_begin.ensures.new

pub returns-in-Some-first_waiting-clause-sent : goal.returns-in-Some-first_waiting-clause-sent
returns-in-Some-first_waiting-clause-sent c =
    waiting_sent (sizes_in c.args.limits) c.args.commands.now.items c.in-Some-first_waiting.place c.index_mut-command-in-Some-first_waiting.result.now c.args.out.now c.put_begin.new.out
    (ap (list_any owes_data) (sym c.deref.ensures.value) ∙ c.in_default.ensures)
    (subst (λ (os : List OpenCommand). IsFirstAt is_waiting os c.in-Some-first_waiting.place) c.deref-2.ensures.value c.in-Some-first_waiting.ensures)
    c.index_mut-command-in-Some-first_waiting.ensures.value c.put_begin.ensures.sent

pub returns-clause-items : goal.returns-clause-items
returns-clause-items c = nothing_items (sizes_in c.args.limits) c.args.commands.now.items (ap (list_any owes_data) (sym c.deref.ensures.value) ∙ c.in_default.ensures)
    (ap (list_any is_waiting) (sym c.deref-2.ensures.value) ∙ c.in_default-first_waiting.ensures)

pub returns-clause-sent : goal.returns-clause-sent
returns-clause-sent c = nothing_sent (sizes_in c.args.limits) c.args.commands.now.items c.args.out.now (ap (list_any owes_data) (sym c.deref.ensures.value) ∙ c.in_default.ensures)
    (ap (list_any is_waiting) (sym c.deref-2.ensures.value) ∙ c.in_default-first_waiting.ensures)
