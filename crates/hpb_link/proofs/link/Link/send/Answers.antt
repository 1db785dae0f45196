use Rattle.std.proofs.Common.{subst, sym, refl, ap, ◌∙◌, Bool}
use Rattle.hpb_device.specs.Calls.{Receives}
use Rattle.hpb_device.specs.State.{DeviceState}
use Rattle.hpb_link.proofs.Passes.{sent_left}
use Rattle.hpb_link.specs.State.{LinkState}
use Rattle.hpb_link.specs.Stands.{AtDrive, said_sent}
use Rattle.hpb_link.proofs.Sent.{is_handed, not_handed, sent_at, sent_says}
use Rattle.hpb_link.proofs.link.Link.send.Goals as goal

pub returns-then-not-next_upiu-clause-leads : goal.returns-then-not-next_upiu-clause-leads
returns-then-not-next_upiu-clause-leads g c start d at =
    let here : AtDrive start _ d = subst (λ (x : LinkState). AtDrive start x d) (sym c.self.view_is) at in
    sent_at start _ _ d here c.next_upiu.ensures.new refl refl refl (not_handed start _ _ d.progress _ c.next_upiu.result _ _ c.next_upiu.ensures.sent c.if-not-next_upiu.true refl)

pub returns-clause-leads : goal.returns-clause-leads
returns-clause-leads g c start d at =
    let here : AtDrive start _ d = subst (λ (x : LinkState). AtDrive start x d) (sym c.self.view_is) at in
    let received = c.receive.ensures.leads start d.progress here.standing in
    sent_at start _ _ d here c.next_upiu.ensures.new refl refl refl
    (is_handed start _ _ d.progress _ c.next_upiu.result _ _ c.bytes.result.now c.next_upiu.ensures.sent c.if-not-next_upiu.false c.bytes.ensures.value received.standing)

pub returns-clause-said : goal.returns-clause-said
returns-clause-said g c start d at =
    let here : AtDrive start _ d = subst (λ (x : LinkState). AtDrive start x d) (sym c.self.view_is) at in
    sent_says start _ d c.next_upiu.result _ _ here c.next_upiu.ensures.sent ∙ ap (λ (b : Bool). said_sent b c.next_upiu.new.out d.said) c.if-not-next_upiu.false

pub returns-clause-left : goal.returns-clause-left
returns-clause-left g c start d at held all =
    let device = ap (λ (l : LinkState). l.device) c.self.view_is in
    sent_left start c.args.self.now _ d c.bytes.result.now c.receive.new.out c.receive.result at (returns-clause-leads g c start d at) held all
    (subst (λ (x : DeviceState). Receives x c.receive.new.device c.bytes.result.now c.receive.result c.receive.new.out) device c.receive.ensures.receives)
