use Rattle.std.proofs.Common.{sym}
use Rattle.host_map_cache.proofs.Moves.{at_found, lookup-found, lookup-none, IsSlot-found}
use Rattle.host_map_cache.proofs.slots.Slots.get.Goals as goal

pub returns-in-Some : goal.returns-in-Some
returns-in-Some c = let f = at_found c.args.region _ _ _ _ _ _ c.self.invariant c.in-Some.ensures.found in
    let sized = IsSlot-found _ _ _ _ f c.find_slot.ensures.apart _ _ _ c.self.invariant in
    rw (← c.self.view_is) (record {
      found = sym (lookup-found _ _ _ _ f);
      sized = record { states = sized.states; entries = sized.entries; dirty = sized.dirty };
    })

pub returns-in-None-clause-found : goal.returns-in-None-clause-found
returns-in-None-clause-found c = rw (← c.self.view_is) (sym (lookup-none c.args.region _ _ (sym c.in-None.ensures.found)))
