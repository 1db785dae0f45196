use Rattle.std.proofs.Common.{ℕ, List, sym, ◌∙◌, ap, subst}
use Rattle.std.specs.List.{list_any}
use Rattle.upiu_wire.specs.Upiu.{upiu_at}
use Rattle.driver_laws.specs.Commands.{OpenCommand, has}
use Rattle.hpb_cdb.specs.declared.limits.Limits.{Limits}
use Rattle.driver_laws.specs.Deliver.{is_in_phase}
use Rattle.driver_commands.specs.Open.{sizes_in, sizes_of}
use Rattle.driver_commands.specs.Places.{IsFirstAt}
use Rattle.driver_commands.proofs.Caches.{early_caches, taken_caches, unknown_caches}
use Rattle.driver_commands.proofs.Taking.{is_out_of_phase, is_taken, is_unknown}
use Rattle.driver_commands.proofs.exchange.take_for_tag.Goals as goal

pub returns-in_default-clause-delivered : goal.returns-in_default-clause-delivered
returns-in_default-clause-delivered c =
    is_unknown (sizes_of c.args.shape) c.args.commands.now.items (upiu_at c.args.view.now)
    (ap (λ (t : ℕ). list_any (has t) c.args.commands.now.items) (sym c.tag.ensures) ∙ ap (list_any (has c.tag.result)) (sym c.deref.ensures.value) ∙ c.in_default.ensures)

pub returns-then-not-is_in_phase-clause-delivered : goal.returns-then-not-is_in_phase-clause-delivered
returns-then-not-is_in_phase-clause-delivered c =
    is_out_of_phase (sizes_of c.args.shape) c.args.commands.now.items (upiu_at c.args.view.now) c.in-Some.place c.index.result.now
    (subst (λ (t : ℕ). IsFirstAt (has t) c.args.commands.now.items c.in-Some.place) c.tag.ensures
    (subst (λ (os : List OpenCommand). IsFirstAt (has c.tag.result) os c.in-Some.place) c.deref.ensures.value c.in-Some.ensures))
    (sym c.index.ensures) (ap (λ (limits : Limits). is_in_phase (sizes_in limits) c.index.result.now (upiu_at c.args.view.now)) (sym c.limits_of.ensures) ∙ sym c.is_in_phase.ensures
    ∙ c.if-not-is_in_phase.true)

pub returns-clause-delivered : goal.returns-clause-delivered
returns-clause-delivered c =
    is_taken (sizes_of c.args.shape) c.args.commands.now.items c.take_upiu.new.commands.items (upiu_at c.args.view.now) c.in-Some.place c.index.result.now c.take_upiu.result
    (subst (λ (t : ℕ). IsFirstAt (has t) c.args.commands.now.items c.in-Some.place) c.tag.ensures
    (subst (λ (os : List OpenCommand). IsFirstAt (has c.tag.result) os c.in-Some.place) c.deref.ensures.value c.in-Some.ensures))
    (sym c.index.ensures) (ap (λ (limits : Limits). is_in_phase (sizes_in limits) c.index.result.now (upiu_at c.args.view.now)) (sym c.limits_of.ensures) ∙ sym c.is_in_phase.ensures
    ∙ c.if-not-is_in_phase.false) (c.take_upiu.ensures.taken c.index.result.now (sym c.index.ensures))

pub returns-in_default-clause-caches : goal.returns-in_default-clause-caches
returns-in_default-clause-caches c =
    unknown_caches (sizes_of c.args.shape) c.args.commands.now.items (upiu_at c.args.view.now) c.args.caches.now
    (ap (λ (t : ℕ). list_any (has t) c.args.commands.now.items) (sym c.tag.ensures) ∙ ap (list_any (has c.tag.result)) (sym c.deref.ensures.value) ∙ c.in_default.ensures)

pub returns-then-not-is_in_phase-clause-caches : goal.returns-then-not-is_in_phase-clause-caches
returns-then-not-is_in_phase-clause-caches c =
    early_caches (sizes_of c.args.shape) c.args.commands.now.items (upiu_at c.args.view.now) c.args.caches.now c.in-Some.place c.index.result.now
    (subst (λ (t : ℕ). IsFirstAt (has t) c.args.commands.now.items c.in-Some.place) c.tag.ensures
    (subst (λ (os : List OpenCommand). IsFirstAt (has c.tag.result) os c.in-Some.place) c.deref.ensures.value c.in-Some.ensures))
    (sym c.index.ensures) (ap (λ (limits : Limits). is_in_phase (sizes_in limits) c.index.result.now (upiu_at c.args.view.now)) (sym c.limits_of.ensures) ∙ sym c.is_in_phase.ensures
    ∙ c.if-not-is_in_phase.true)

pub returns-clause-caches : goal.returns-clause-caches
returns-clause-caches c =
    taken_caches (sizes_of c.args.shape) c.args.commands.now.items (upiu_at c.args.view.now) c.args.caches.now c.take_upiu.new.caches c.in-Some.place c.index.result.now
    (subst (λ (t : ℕ). IsFirstAt (has t) c.args.commands.now.items c.in-Some.place) c.tag.ensures
    (subst (λ (os : List OpenCommand). IsFirstAt (has c.tag.result) os c.in-Some.place) c.deref.ensures.value c.in-Some.ensures))
    (sym c.index.ensures) (ap (λ (limits : Limits). is_in_phase (sizes_in limits) c.index.result.now (upiu_at c.args.view.now)) (sym c.limits_of.ensures) ∙ sym c.is_in_phase.ensures
    ∙ c.if-not-is_in_phase.false) (c.take_upiu.ensures.caches c.index.result.now (sym c.index.ensures))
