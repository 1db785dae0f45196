use Rattle.std.proofs.Common.{sym, refl, arith, ap}
use Rattle.host_map_cache.specs.Regions.{with_state}
use Rattle.host_map_cache.proofs.Moves.{at_found, changed-found, changed-none, IsSlot-looked_up, AreSlots-changed, looked_up_none}
use Rattle.host_map_cache.proofs.Sizes.{set_state_sizes}
use Rattle.host_map_cache.proofs.slots.Slots.set_state.Goals as goal

pub returns-in_default : goal.returns-in_default
returns-in_default c = rw (← c.self.view_is) (rw (changed-none c.args.region _ _ (with_state c.args.sub c.args.state) (sym c.in_default.ensures.found)) refl)

pub set_state-requires : goal.set_state-requires
set_state-requires c = let sized = IsSlot-looked_up _ _ _ _ (at_found c.args.region _ _ _ _ _ _ c.self.invariant c.in-Some.ensures.found) c.find_slot.ensures.apart
    c.in-Some-peek_mut.slot.now c.in-Some-peek_mut.slot.now c.in-Some-peek_mut.ensures.value _ _ _ c.self.invariant in
    omega (arith, sized.states, c.requires, ap (λ v. v.subregions) c.self.view_is)

pub invariant_of-self : goal.invariant_of-self
invariant_of-self c = let f = at_found c.args.region _ _ _ _ _ _ c.self.invariant c.in-Some.ensures.found in
    let sized = IsSlot-looked_up _ _ _ _ f c.find_slot.ensures.apart c.in-Some-peek_mut.slot.now c.in-Some-peek_mut.slot.now c.in-Some-peek_mut.ensures.value _ _ _ c.self.invariant in
    AreSlots-changed _ _ _ _ f c.find_slot.ensures.apart c.in-Some-peek_mut.slot.now c.set_state.new.self c.in-Some-peek_mut.ensures.value _ _ _ c.self.invariant
    (set_state_sizes c.in-Some-peek_mut.slot.now c.set_state.new.self c.args.sub c.args.state c.set_state.ensures.content)

pub returns-in-Some-peek_mut : goal.returns-in-Some-peek_mut
returns-in-Some-peek_mut c = rw (
  ← c.self.view_is,
  changed-found _ _ _ _ (at_found c.args.region _ _ _ _ _ _ c.self.invariant c.in-Some.ensures.found) c.find_slot.ensures.apart
      c.in-Some-peek_mut.slot.now c.set_state.new.self c.in-Some-peek_mut.ensures.value (with_state c.args.sub c.args.state) c.set_state.ensures.region c.set_state.ensures.content,
) refl

pub returns-in_default-peek_mut : goal.returns-in_default-peek_mut
returns-in_default-peek_mut c = absurd (looked_up_none _ _ _ _ (at_found c.args.region _ _ _ _ _ _ c.self.invariant c.in-Some.ensures.found) c.find_slot.ensures.apart
    c.in_default-peek_mut.ensures.value)
