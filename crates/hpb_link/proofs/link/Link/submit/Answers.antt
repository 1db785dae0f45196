use Rattle.std.proofs.Common.{◌≡◌, ◌++◌, ◌∷◌, [], ◌+◌, true, subst, sym, refl, ◌∙◌}
use Rattle.driver_caches.specs.Machine.{Machine}
use Rattle.hpb_driver.specs.State.{is_inside}
use Rattle.hpb_link.specs.State.{LinkState}
use Rattle.hpb_link.specs.Stands.{AtDrive}
use Rattle.hpb_link.proofs.Others.{taken_at}
use Rattle.hpb_link.proofs.link.Link.submit.Goals as goal

pub returns-in-Ok : goal.returns-in-Ok
returns-in-Ok g c start d at =
    let here : AtDrive start _ d = subst (λ (x : LinkState). AtDrive start x d) (sym c.self.view_is) at in
    let taken = c.in-Ok.ensures.taken in
    let tickets = c.push_reserved.ensures.items
    ∙ (λ i. c.reserve.ensures.items i ++ record { number = c.self.inside.count + 1; tag = c.in-Ok.tag; lba = c.lba_of-lba.ensures i } ∷ []) in (
      subst (λ (m : Machine). is_inside m c.args.request ≡ true) here.machine taken.inside,
      taken_at start _ _ c.args.request d c.in-Ok.tag here c.requires.bytes taken.free taken.inside refl taken.leads taken.last tickets refl refl,
    )
