use Rattle.std.proofs.Common.{arith, refl}
use Rattle.region_state.proofs.Apart.{IsApart-told}
use Rattle.region_state.proofs.KeptLemmas.{IsKept-changed}
use Rattle.region_state.proofs.regions.Regions.take_gone.Goals as goal

pub invariant_of-self : goal.invariant_of-self
invariant_of-self c =
    IsKept-changed c.self.invariant _ _ _ _ _ _ c.self.invariant.held_limit refl
    (rw c.remove.ensures.items (IsApart-told c.self.inside.held.items c.self.inside.gone.items _ c.self.invariant.lists)) (omega arith) (omega arith)
    c.self.invariant.none_due
