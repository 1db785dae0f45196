use Rattle.std.proofs.Common.{ℕ, List, sym, ◌∙◌, ap, subst}
use Rattle.std.specs.List.{find}
use Rattle.upiu_wire.specs.Upiu.{upiu_at}
use Rattle.driver_laws.specs.Commands.{has}
use Rattle.driver_laws.specs.Deliver.{delivered_to}
use Rattle.driver_commands.specs.Calls.{HasTaken, IsDelivered}
use Rattle.driver_commands.specs.Open.{sizes_of}
use Rattle.driver_commands.proofs.Caches.{fault_caches, nop_caches, tag_caches}
use Rattle.driver_commands.proofs.Taking.{is_fault, is_for_tag, is_nop}
use Rattle.driver_commands.proofs.exchange.deliver_to.Goals as goal

pub returns-in-NopIn-clause-delivered : goal.returns-in-NopIn-clause-delivered
returns-in-NopIn-clause-delivered c =
    is_nop (sizes_of c.args.shape) c.args.commands.now.items c.args.bytes.now c.in-Ok.ensures.fault
    (ap (λ (b : List ℕ). (upiu_at b).kind) (sym c.in-Ok.ensures.bytes) ∙ sym c.kind.ensures ∙ c.in-NopIn.is)

pub returns-in_default : goal.returns-in_default
returns-in_default c = record {
  delivered = is_for_tag (sizes_of c.args.shape) c.args.commands.now.items c.take_for_tag.new.commands.items c.args.bytes.now c.take_for_tag.result c.in-Ok.ensures.fault
      (λ is. c.in_default.not-NopIn (c.kind.ensures ∙ ap (λ (b : List ℕ). (upiu_at b).kind) c.in-Ok.ensures.bytes ∙ is))
      (subst (λ (b : List ℕ). IsDelivered (delivered_to (sizes_of c.args.shape) c.args.commands.now.items (upiu_at b) (find (has (upiu_at b).tag) c.args.commands.now.items))
      c.args.commands.now.items c.take_for_tag.new.commands.items c.take_for_tag.result) c.in-Ok.ensures.bytes c.take_for_tag.ensures.delivered);
  caches = tag_caches (sizes_of c.args.shape) c.args.commands.now.items c.args.bytes.now c.args.caches.now c.take_for_tag.new.caches c.in-Ok.ensures.fault
      (λ is. c.in_default.not-NopIn (c.kind.ensures ∙ ap (λ (b : List ℕ). (upiu_at b).kind) c.in-Ok.ensures.bytes ∙ is))
      (subst (λ (b : List ℕ). HasTaken (delivered_to (sizes_of c.args.shape) c.args.commands.now.items (upiu_at b) (find (has (upiu_at b).tag) c.args.commands.now.items))
      (upiu_at b) c.args.commands.now.items c.args.caches.now c.take_for_tag.new.caches) c.in-Ok.ensures.bytes c.take_for_tag.ensures.caches);
  ready = c.take_for_tag.ensures.ready;
  count = c.take_for_tag.ensures.count;
  room = c.take_for_tag.ensures.room;
}

pub returns-in-Err-clause-delivered : goal.returns-in-Err-clause-delivered
returns-in-Err-clause-delivered c = is_fault (sizes_of c.args.shape) c.args.commands.now.items c.args.bytes.now c.in-Err.fault c.in-Err.ensures.fault

pub returns-in-NopIn-clause-caches : goal.returns-in-NopIn-clause-caches
returns-in-NopIn-clause-caches c =
    nop_caches (sizes_of c.args.shape) c.args.commands.now.items c.args.bytes.now c.args.caches.now c.in-Ok.ensures.fault
    (ap (λ (b : List ℕ). (upiu_at b).kind) (sym c.in-Ok.ensures.bytes) ∙ sym c.kind.ensures ∙ c.in-NopIn.is)

pub returns-in-Err-clause-caches : goal.returns-in-Err-clause-caches
returns-in-Err-clause-caches c = fault_caches (sizes_of c.args.shape) c.args.commands.now.items c.args.bytes.now c.args.caches.now c.in-Err.fault c.in-Err.ensures.fault
