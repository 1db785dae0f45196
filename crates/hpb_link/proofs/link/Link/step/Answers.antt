use Rattle.std.proofs.Common.{◌<◌, subst}
use Rattle.hpb_device.specs.Left.{steps_left}
use Rattle.hpb_link.proofs.Passes.{step_fewer}
use Rattle.replay_standing.specs.Standing.{Standing}
use Rattle.std.proofs.Common.{sym, ap, ◌∙◌, Some, None}
use Rattle.hpb_link.specs.State.{LinkState}
use Rattle.hpb_device.specs.Standing.{group_of}
use Rattle.hpb_device.specs.State.{DeviceState}
use Rattle.replay_standing.specs.Calls.{HasStepped}
use Rattle.hpb_link.proofs.Heard.{group_sent, group_unsent, heard_by, sends_bytes, stepped_at, unheard}
use Rattle.hpb_link.proofs.link.Link.step.Goals as goal

pub returns-then-stepped-clause-leads : goal.returns-then-stepped-clause-leads
returns-then-stepped-clause-leads g c start d at =
    let device = ap (λ (l : LinkState). l.device) c.self.view_is in
    let standing = subst (λ (x : DeviceState). Standing start x d.progress) (sym device) at.standing in
    let sent = ap Some c.bytes.ensures.value ∙ sym (group_sent c.step-stepped.result c.step-stepped.new.out c.if-stepped.true) in
    stepped_at start c.args.self.now c.deliver-ended.new.self d (group_of c.step-stepped.result c.step-stepped.new.out) c.deliver-ended.result at
    (subst (λ (x : DeviceState). HasStepped start x d.progress (group_of c.step-stepped.result c.step-stepped.new.out)) (sym c.deliver-ended.ensures.device)
    (c.step-stepped.ensures.leads start d.progress standing))
    (sends_bytes c.step-stepped.result c.step-stepped.new.out c.step-stepped.ensures.room)
    (heard_by c.args.self.now _ c.deliver-ended.new.self c.deliver-ended.result _ _ (ap (λ (l : LinkState). l.driver) c.self.view_is)
    (ap (λ (l : LinkState). l.tickets) c.self.view_is) (ap (λ (l : LinkState). l.count) c.self.view_is)
    (ap (λ (l : LinkState). l.lun) c.self.view_is) sent c.deliver-ended.ensures.heard)

pub returns-clause-leads : goal.returns-clause-leads
returns-clause-leads g c start d at =
    let device = ap (λ (l : LinkState). l.device) c.self.view_is in
    let standing = subst (λ (x : DeviceState). Standing start x d.progress) (sym device) at.standing in
    stepped_at start c.args.self.now _ d (group_of c.step-stepped.result c.step-stepped.new.out) None at (c.step-stepped.ensures.leads start d.progress standing)
    (sends_bytes c.step-stepped.result c.step-stepped.new.out c.step-stepped.ensures.room)
    (unheard c.args.self.now _ _ (ap (λ (l : LinkState). l.driver) c.self.view_is) (ap (λ (l : LinkState). l.tickets) c.self.view_is) (ap (λ (l : LinkState). l.count) c.self.view_is)
    (ap (λ (l : LinkState). l.lun) c.self.view_is) (group_unsent c.step-stepped.result c.step-stepped.new.out c.if-stepped.false))

pub returns-then-stepped-clause-fewer : goal.returns-then-stepped-clause-fewer
returns-then-stepped-clause-fewer g c start d at nothing some =
    subst (λ (x : DeviceState). steps_left x < steps_left c.args.self.now.device) (sym c.deliver-ended.ensures.device)
    (step_fewer start c.args.self.now _ c.step-stepped.new.device c.step-stepped.result d at (ap (λ (l : LinkState). l.device) c.self.view_is) nothing some c.step-stepped.ensures.idle.0
    c.step-stepped.ensures.fewer)

pub returns-clause-fewer : goal.returns-clause-fewer
returns-clause-fewer g c start d at nothing some =
    step_fewer start c.args.self.now _ c.step-stepped.new.device c.step-stepped.result d at (ap (λ (l : LinkState). l.device) c.self.view_is) nothing some c.step-stepped.ensures.idle.0
    c.step-stepped.ensures.fewer
