use Rattle.std.proofs.Common.{subst, sym, refl}
use Rattle.hpb_link.specs.State.{LinkState}
use Rattle.hpb_link.specs.Stands.{AtDrive}
use Rattle.hpb_link.proofs.Others.{reset_at}
use Rattle.hpb_link.proofs.link.Link.reset.Goals as goal

pub returns-clause-leads : goal.returns-clause-leads
returns-clause-leads g c start d at =
    let here : AtDrive start _ d = subst (λ (x : LinkState). AtDrive start x d) (sym c.self.view_is) at in
    reset_at start _ _ d here (c.reset.ensures.leads start d.progress here.standing) c.reset-2.ensures.new c.clear.ensures.items refl refl
