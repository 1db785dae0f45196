use Rattle.std.proofs.Common.{subst, sym, refl}
use Rattle.hpb_link.specs.State.{LinkState}
use Rattle.hpb_link.specs.Stands.{AtDrive}
use Rattle.std.proofs.Common.{[]}
use Rattle.hpb_device.specs.Standing.{group_of, sizes_of}
use Rattle.hpb_link.proofs.Heard.{group_unsent, unsent_said}
use Rattle.hpb_link.proofs.Others.{collected_at}
use Rattle.hpb_link.proofs.link.Link.collect.Goals as goal

pub returns : goal.returns
returns g c = record {
  leads = λ start d at.
      let here : AtDrive start _ d = subst (λ (x : LinkState). AtDrive start x d) (sym c.self.view_is) at in
      let called = c.collect.ensures.leads start d.progress here.standing in
      let group = group_of c.collect.result [] in
      let silent = group_unsent c.collect.result [] c.collect.ensures.silent in
      record {
        few = called.few;
        collection = called.collection;
        stands = collected_at start _ _ d group here called silent refl refl refl refl;
        said = unsent_said (sizes_of start) d group silent;
      };
}
