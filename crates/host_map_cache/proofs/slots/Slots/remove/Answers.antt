use Rattle.std.proofs.Common.{sym, refl}
use Rattle.host_map_cache.proofs.Moves.{at_found, demoted-found, removed-none, AreSlots-demoted}
use Rattle.host_map_cache.proofs.slots.Slots.remove.Goals as goal

pub invariant_of-self : goal.invariant_of-self
invariant_of-self c = rw c.demote.ensures.entries
    (AreSlots-demoted _ _ _ _ (at_found c.args.region _ _ _ _ _ _ c.self.invariant c.in-Some.ensures.found) c.find_slot.ensures.apart _ _ _ c.self.invariant)

pub returns-in-Some : goal.returns-in-Some
returns-in-Some c = rw (
  ← c.self.view_is,
  c.demote.ensures.entries,
  demoted-found _ _ _ _ (at_found c.args.region _ _ _ _ _ _ c.self.invariant c.in-Some.ensures.found)
      c.find_slot.ensures.apart,
) refl

pub returns-in_default : goal.returns-in_default
returns-in_default c = rw (← c.self.view_is) (rw (removed-none c.args.region _ _ (sym c.in_default.ensures.found)) refl)
