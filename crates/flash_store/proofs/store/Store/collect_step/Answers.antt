use Rattle.std.proofs.Common.{◌≡◌, ◌<◌, None, Some, sym, ap, ◌∙◌, subst}
use Rattle.std.specs.Option.{option_or}
use Rattle.block_collector.specs.Room.{Room}
use Rattle.collector_laws.specs.CollectStep.{CollectState, Step, Idle, chip_victim, fresh, copy_or_read}
use Rattle.collector_laws.specs.Changes.{Changes, uncollected}
use Rattle.collector_laws.proofs.Changes.{busy, step_changes, uncollected-falls}
use Rattle.flash_store.specs.declared.tables.Index.{Index}
use Rattle.flash_store.specs.Index.{IsIndexed, buffered_in}
use Rattle.flash_store.specs.Collecting.{as_collected, call_of}
use Rattle.flash_store.proofs.Steps.{stored-ready, limit, victim-is, holding, step-goes, step-idle, none-held, step-keeps}
use Rattle.flash_store.proofs.Covered.{collected-busy}
use Rattle.flash_store.proofs.store.Store.collect_step.Goals as goal

pub returns-in_default-hold_victim-clause-moved : goal.returns-in_default-hold_victim-clause-moved
returns-in_default-hold_victim-clause-moved g c = λ _.
    let s = c.self.inside in
    let geometry = g.F.Flash.geometry s.flash in
    let chip = g.F.Flash.pages s.flash in
    let at = c.self.invariant.ready c.in-Ready.is in
    let none : option_or s.index.collector.victim (chip_victim geometry chip) ≡ None =
    sym (victim-is geometry chip s.index s.held s.buffer.items at.0 at.1 c.hold_victim.result c.hold_victim.ensures.before c.hold_victim.ensures.chosen) ∙ c.in_default-hold_victim.is in
    let before : s.index.collector.victim ≡ None = none-held geometry chip s.index s.held s.buffer.items at.0 at.1 none in
    let after : c.hold_victim.new.collector.victim ≡ None = ap (λ (room : Room). room.victim) c.hold_victim.ensures.held ∙ c.in_default-hold_victim.is in
    rw (← c.self.view_is)
    (step-idle geometry chip s.index s.held s.buffer.items at.0 at.1 c.if-self-eq-SEQ_END.false none
    ∙ ap (λ v. record { did = Idle; state = record { chip = chip; victim = v; buffer = buffered_in s.held s.buffer.items } }) (before ∙ sym after))

pub collect_from-requires-clause-collectable : goal.collect_from-requires-clause-collectable
collect_from-requires-clause-collectable g c =
    let s = c.self.inside in
    let geometry = g.F.Flash.geometry s.flash in
    let chip = g.F.Flash.pages s.flash in
    let at = c.self.invariant.ready c.in-Ready.is in
    let chosen : option_or s.index.collector.victim (chip_victim geometry chip) ≡ Some c.in-Some.victim =
    sym (victim-is geometry chip s.index s.held s.buffer.items at.0 at.1 c.hold_victim.result c.hold_victim.ensures.before c.hold_victim.ensures.chosen) ∙ c.in-Some.is in
    holding geometry chip s.index s.held s.buffer.items at.0 at.1 c.in-Some.victim chosen

pub collect_from-requires-clause-limit : goal.collect_from-requires-clause-limit
collect_from-requires-clause-limit g c =
    let s = c.self.inside in
    let at = c.self.invariant.ready c.in-Ready.is in
    limit (g.F.Flash.geometry s.flash) (g.F.Flash.pages s.flash) s.index s.held s.buffer.items at.0 at.1 c.if-self-eq-SEQ_END.false

pub invariant_of-self-in-Err : goal.invariant_of-self-in-Err
invariant_of-self-in-Err g c =
    let s = c.self.inside in
    let n = c.collect_from.new in
    let geometry = g.F.Flash.geometry s.flash in
    let chip = g.F.Flash.pages s.flash in
    let at = c.self.invariant.ready c.in-Ready.is in
    let chosen : option_or s.index.collector.victim (chip_victim geometry chip) ≡ Some c.in-Some.victim =
    sym (victim-is geometry chip s.index s.held s.buffer.items at.0 at.1 c.hold_victim.result c.hold_victim.ensures.before c.hold_victim.ensures.chosen) ∙ c.in-Some.is in
    let same = c.in-Err.ensures.err in
    let pages : g.F.Flash.pages n.flash ≡ chip = same.0 in
    let victim : n.index.collector.victim ≡ Some c.in-Some.victim = ap (λ (index : Index). index.collector.victim) same.1 ∙ ap (λ (room : Room). room.victim) c.hold_victim.ensures.held
    ∙ c.in-Some.is in
    let held : n.held ≡ s.held = same.2 in
    let buffer : n.buffer.items ≡ s.buffer.items = same.3 in
    let luns : n.index.luns ≡ s.index.luns = c.collect_from.ensures.units.0 in
    let units : n.index.units ≡ s.index.units = c.collect_from.ensures.units.1 in
    let shape : g.F.Flash.geometry n.flash ≡ geometry = c.collect_from.ensures.geometry in
    let indexed : IsIndexed geometry (g.F.Flash.pages n.flash) n.index = rw (← shape) c.collect_from.ensures.indexed in
    rw shape (stored-ready geometry chip (g.F.Flash.pages n.flash) s.index n.index s.tally s.held n.held s.buffer.items n.buffer.items s.page_count s.phase c.self.invariant c.in-Ready.is luns units
    indexed
    (rw (luns, units, pages, victim, held, buffer) (holding geometry chip s.index s.held s.buffer.items at.0 at.1 c.in-Some.victim chosen)) c.collect_from.ensures.size)

pub returns-in-Err-clause-fault : goal.returns-in-Err-clause-fault
returns-in-Err-clause-fault g c = λ _.
    let s = c.self.inside in
    let n = c.collect_from.new in
    let geometry = g.F.Flash.geometry s.flash in
    let chip = g.F.Flash.pages s.flash in
    let at = c.self.invariant.ready c.in-Ready.is in
    let chosen : option_or s.index.collector.victim (chip_victim geometry chip) ≡ Some c.in-Some.victim =
    sym (victim-is geometry chip s.index s.held s.buffer.items at.0 at.1 c.hold_victim.result c.hold_victim.ensures.before c.hold_victim.ensures.chosen) ∙ c.in-Some.is in
    let same = c.in-Err.ensures.err in
    let pages : g.F.Flash.pages n.flash ≡ chip = same.0 in
    let victim : n.index.collector.victim ≡ Some c.in-Some.victim = ap (λ (index : Index). index.collector.victim) same.1 ∙ ap (λ (room : Room). room.victim) c.hold_victim.ensures.held
    ∙ c.in-Some.is in
    let held : n.held ≡ s.held = same.2 in
    let buffer : n.buffer.items ≡ s.buffer.items = same.3 in
    let would = step-goes geometry chip s.index s.held s.buffer.items at.0 at.1 c.if-self-eq-SEQ_END.false c.in-Some.victim chosen in
    rw (← c.self.view_is) (record {
      busy = λ e. busy geometry chip c.in-Some.victim (fresh chip (buffered_in s.held s.buffer.items)) (sym (ap (λ (step : Step). step.did) would) ∙ e);
      named = c.in-Err.ensures.named ∙ sym (ap (λ (step : Step). call_of step.did) would);
      chip = pages;
      victim = victim ∙ sym chosen;
      buffer = ap (λ h. buffered_in h n.buffer.items) held ∙ ap (buffered_in s.held) buffer;
    })

pub invariant_of-self-2 : goal.invariant_of-self-2
invariant_of-self-2 g c =
    let s = c.self.inside in
    let n = c.collect_from.new in
    let geometry = g.F.Flash.geometry s.flash in
    let chip = g.F.Flash.pages s.flash in
    let at = c.self.invariant.ready c.in-Ready.is in
    let chosen : option_or s.index.collector.victim (chip_victim geometry chip) ≡ Some c.in-Some.victim =
    sym (victim-is geometry chip s.index s.held s.buffer.items at.0 at.1 c.hold_victim.result c.hold_victim.ensures.before c.hold_victim.ensures.chosen) ∙ c.in-Some.is in
    let after : CollectState = record { chip = g.F.Flash.pages n.flash; victim = n.index.collector.victim; buffer = buffered_in n.held n.buffer.items } in
    let done : copy_or_read geometry chip c.in-Some.victim (fresh chip (buffered_in s.held s.buffer.items)) ≡ record { did = as_collected c.in-Ok.moved; state = after } = c.in-Ok.ensures.ok in
    let kept = step-keeps geometry chip s.index s.held s.buffer.items at.0 at.1 (as_collected c.in-Ok.moved) after
    (step-goes geometry chip s.index s.held s.buffer.items at.0 at.1 c.if-self-eq-SEQ_END.false c.in-Some.victim chosen ∙ done) in
    let luns : n.index.luns ≡ s.index.luns = c.collect_from.ensures.units.0 in
    let units : n.index.units ≡ s.index.units = c.collect_from.ensures.units.1 in
    let shape : g.F.Flash.geometry n.flash ≡ geometry = c.collect_from.ensures.geometry in
    let indexed : IsIndexed geometry (g.F.Flash.pages n.flash) n.index = rw (← shape) c.collect_from.ensures.indexed in
    rw shape (stored-ready geometry chip (g.F.Flash.pages n.flash) s.index n.index s.tally s.held n.held s.buffer.items n.buffer.items s.page_count s.phase c.self.invariant c.in-Ready.is luns units
    indexed
    (rw (luns, units) kept.0) c.collect_from.ensures.size)

pub returns-clause-moved : goal.returns-clause-moved
returns-clause-moved g c = λ _.
    let s = c.self.inside in
    let n = c.collect_from.new in
    let geometry = g.F.Flash.geometry s.flash in
    let chip = g.F.Flash.pages s.flash in
    let at = c.self.invariant.ready c.in-Ready.is in
    let chosen : option_or s.index.collector.victim (chip_victim geometry chip) ≡ Some c.in-Some.victim =
    sym (victim-is geometry chip s.index s.held s.buffer.items at.0 at.1 c.hold_victim.result c.hold_victim.ensures.before c.hold_victim.ensures.chosen) ∙ c.in-Some.is in
    let after : CollectState = record { chip = g.F.Flash.pages n.flash; victim = n.index.collector.victim; buffer = buffered_in n.held n.buffer.items } in
    let done : copy_or_read geometry chip c.in-Some.victim (fresh chip (buffered_in s.held s.buffer.items)) ≡ record { did = as_collected c.in-Ok.moved; state = after } = c.in-Ok.ensures.ok in
    let went = step-goes geometry chip s.index s.held s.buffer.items at.0 at.1 c.if-self-eq-SEQ_END.false c.in-Some.victim chosen ∙ done in
    rw (← c.self.view_is) went

pub returns-clause-unit : goal.returns-clause-unit
returns-clause-unit g c =
    let s = c.self.inside in
    let n = c.collect_from.new in
    let geometry = g.F.Flash.geometry s.flash in
    let chip = g.F.Flash.pages s.flash in
    let at = c.self.invariant.ready c.in-Ready.is in
    let chosen : option_or s.index.collector.victim (chip_victim geometry chip) ≡ Some c.in-Some.victim =
    sym (victim-is geometry chip s.index s.held s.buffer.items at.0 at.1 c.hold_victim.result c.hold_victim.ensures.before c.hold_victim.ensures.chosen) ∙ c.in-Some.is in
    let after : CollectState = record { chip = g.F.Flash.pages n.flash; victim = n.index.collector.victim; buffer = buffered_in n.held n.buffer.items } in
    let done : copy_or_read geometry chip c.in-Some.victim (fresh chip (buffered_in s.held s.buffer.items)) ≡ record { did = as_collected c.in-Ok.moved; state = after } = c.in-Ok.ensures.ok in
    let went = step-goes geometry chip s.index s.held s.buffer.items at.0 at.1 c.if-self-eq-SEQ_END.false c.in-Some.victim chosen ∙ done in
    rw (← c.self.view_is) (step-keeps geometry chip s.index s.held s.buffer.items at.0 at.1 (as_collected c.in-Ok.moved) after went).1

pub returns-clause-changes : goal.returns-clause-changes
returns-clause-changes g c = λ _.
    let s = c.self.inside in
    let n = c.collect_from.new in
    let geometry = g.F.Flash.geometry s.flash in
    let chip = g.F.Flash.pages s.flash in
    let at = c.self.invariant.ready c.in-Ready.is in
    let chosen : option_or s.index.collector.victim (chip_victim geometry chip) ≡ Some c.in-Some.victim =
    sym (victim-is geometry chip s.index s.held s.buffer.items at.0 at.1 c.hold_victim.result c.hold_victim.ensures.before c.hold_victim.ensures.chosen) ∙ c.in-Some.is in
    let after : CollectState = record { chip = g.F.Flash.pages n.flash; victim = n.index.collector.victim; buffer = buffered_in n.held n.buffer.items } in
    let done : copy_or_read geometry chip c.in-Some.victim (fresh chip (buffered_in s.held s.buffer.items)) ≡ record { did = as_collected c.in-Ok.moved; state = after } = c.in-Ok.ensures.ok in
    let went = step-goes geometry chip s.index s.held s.buffer.items at.0 at.1 c.if-self-eq-SEQ_END.false c.in-Some.victim chosen ∙ done in
    let state : CollectState = record { chip = chip; victim = s.index.collector.victim; buffer = buffered_in s.held s.buffer.items } in
    rw (← c.self.view_is) (subst (λ (step : Step). Changes geometry s.index.luns s.index.units chip step.did step.state.chip) went (step_changes geometry s.index.luns s.index.units state at.1))

pub returns-clause-fewer : goal.returns-clause-fewer
returns-clause-fewer g c = λ _ moved.
    let s = c.self.inside in
    let n = c.collect_from.new in
    let geometry = g.F.Flash.geometry s.flash in
    let chip = g.F.Flash.pages s.flash in
    let at = c.self.invariant.ready c.in-Ready.is in
    let chosen : option_or s.index.collector.victim (chip_victim geometry chip) ≡ Some c.in-Some.victim =
    sym (victim-is geometry chip s.index s.held s.buffer.items at.0 at.1 c.hold_victim.result c.hold_victim.ensures.before c.hold_victim.ensures.chosen) ∙ c.in-Some.is in
    let after : CollectState = record { chip = g.F.Flash.pages n.flash; victim = n.index.collector.victim; buffer = buffered_in n.held n.buffer.items } in
    let done : copy_or_read geometry chip c.in-Some.victim (fresh chip (buffered_in s.held s.buffer.items)) ≡ record { did = as_collected c.in-Ok.moved; state = after } = c.in-Ok.ensures.ok in
    let went = step-goes geometry chip s.index s.held s.buffer.items at.0 at.1 c.if-self-eq-SEQ_END.false c.in-Some.victim chosen ∙ done in
    let state : CollectState = record { chip = chip; victim = s.index.collector.victim; buffer = buffered_in s.held s.buffer.items } in
    let fewer = uncollected-falls geometry s.index.luns s.index.units state at.1 (λ e. collected-busy c.in-Ok.moved moved (sym (ap (λ (step : Step). step.did) went) ∙ e)) in
    rw (← c.self.view_is) (subst (λ (step : Step). uncollected geometry step.state < uncollected geometry state) went fewer)
