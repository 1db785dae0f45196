use Rattle.std.proofs.Common.{ℕ, List, sym, ◌∙◌, ap, subst, ◌==◌}
use Rattle.hpb_cdb.specs.declared.cdb.Cdb.{Cdb}
use Rattle.upiu_wire.specs.Upiu.{upiu_at}
use Rattle.driver_laws.specs.Commands.{OpenCommand}
use Rattle.driver_caches.specs.Effects.{LoadsWhole}
use Rattle.driver_commands.proofs.Caches.{none_done}
use Rattle.driver_commands.proofs.Ready.{caches_ready, gone_ready, is_whole, list_ready}
use Rattle.driver_commands.proofs.Taking.{taken_end}
use Rattle.driver_commands.proofs.exchange.end_command.Goals as goal

pub mark_response-requires-clause-whole : goal.mark_response-requires-clause-whole
mark_response-requires-clause-whole c =
    let o : OpenCommand = c.remove-command.result in
    let at = sym c.remove-command.ensures.value in
    subst (λ (got : List ℕ). LoadsWhole (c.status-good.result == 0) c.command.result got c.args.caches.now) (sym c.got.ensures)
    (subst (λ (command : Cdb). LoadsWhole (c.status-good.result == 0) command o.got c.args.caches.now) (sym c.command.ensures)
    (is_whole c.args.shape c.args.commands.now.items c.args.caches.now _ c.args.place o (upiu_at c.args.view.now) (c.status-good.result == 0) c.requires.ready at
    c.requires.first.inside (c.requires.phase o at) c.requires.kind (ap (λ (n : ℕ). n == 0) c.status-good.ensures)))

pub returns-then-is_load-clause-taken : goal.returns-then-is_load-clause-taken
returns-then-is_load-clause-taken c = λ o at.
    taken_end c.args.commands.now.items c.remove-command.new.self.items c.args.place o c.remove-command.result (upiu_at c.args.view.now) _ c.requires.first at
    c.requires.kind c.remove-command.ensures.items c.remove-command.ensures.value (none_done c.remove-command.result (upiu_at c.args.view.now) c.into_list.ensures.own)

pub returns-then-is_load-clause-ready : goal.returns-then-is_load-clause-ready
returns-then-is_load-clause-ready c =
    list_ready c.args.shape c.args.commands.now.items c.remove-command.new.self.items c.mark_response.new.caches _ _ c.args.place
    (caches_ready c.args.shape c.args.commands.now.items c.args.caches.now c.mark_response.new.caches _ c.mark_response.ensures.shapes c.requires.ready)
    c.into_list.ensures.room c.remove-command.ensures.items

pub returns-else-is_load-clause-taken : goal.returns-else-is_load-clause-taken
returns-else-is_load-clause-taken c = λ o at.
    taken_end c.args.commands.now.items c.remove-command.new.self.items c.args.place o c.remove-command.result (upiu_at c.args.view.now) c.end.result c.requires.first at
    c.requires.kind c.remove-command.ensures.items c.remove-command.ensures.value c.end.ensures

pub returns-else-is_load-clause-ready : goal.returns-else-is_load-clause-ready
returns-else-is_load-clause-ready c =
    gone_ready c.args.shape c.args.commands.now.items c.remove-command.new.self.items c.mark_response.new.caches _ c.args.place c.remove-command.result
    (caches_ready c.args.shape c.args.commands.now.items c.args.caches.now c.mark_response.new.caches _ c.mark_response.ensures.shapes c.requires.ready)
    (sym c.remove-command.ensures.value) c.requires.first.inside (sym c.is_load.ensures ∙ c.if-is_load.false) c.remove-command.ensures.items
