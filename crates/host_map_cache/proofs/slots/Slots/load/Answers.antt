use Rattle.std.proofs.Common.{sym, refl, arith, ap}
use Rattle.host_map_cache.specs.Regions.{with_entries}
use Rattle.host_map_cache.proofs.Moves.{at_found, changed-found, changed-none, IsSlot-looked_up, AreSlots-changed, looked_up_none}
use Rattle.host_map_cache.proofs.Sizes.{load_sizes}
use Rattle.host_map_cache.proofs.slots.Slots.load.Goals as goal

pub returns-in_default : goal.returns-in_default
returns-in_default c = rw (← c.self.view_is) (rw (changed-none c.args.region _ _ (with_entries c.args.from c.args.bytes.now) (sym c.in_default.ensures.found)) refl)

pub load-requires-clause-inside : goal.load-requires-clause-inside
load-requires-clause-inside c = let sized = IsSlot-looked_up _ _ _ _ (at_found c.args.region _ _ _ _ _ _ c.self.invariant c.in-Some.ensures.found) c.find_slot.ensures.apart
    c.in-Some-peek_mut.slot.now c.in-Some-peek_mut.slot.now c.in-Some-peek_mut.ensures.value _ _ _ c.self.invariant in
    omega (arith, sized.entries, c.requires.inside, ap (λ v. v.blocks) c.self.view_is)

pub invariant_of-self : goal.invariant_of-self
invariant_of-self c = let f = at_found c.args.region _ _ _ _ _ _ c.self.invariant c.in-Some.ensures.found in
    let sized = IsSlot-looked_up _ _ _ _ f c.find_slot.ensures.apart c.in-Some-peek_mut.slot.now c.in-Some-peek_mut.slot.now c.in-Some-peek_mut.ensures.value _ _ _ c.self.invariant in
    AreSlots-changed _ _ _ _ f c.find_slot.ensures.apart c.in-Some-peek_mut.slot.now c.load.new.self c.in-Some-peek_mut.ensures.value _ _ _ c.self.invariant
    (load_sizes c.in-Some-peek_mut.slot.now c.load.new.self c.args.from c.args.bytes.now (omega (arith, sized.entries, c.requires.inside, ap (λ v. v.blocks) c.self.view_is))
    c.load.ensures.content)

pub returns-in-Some-peek_mut : goal.returns-in-Some-peek_mut
returns-in-Some-peek_mut c = rw (
  ← c.self.view_is,
  changed-found _ _ _ _ (at_found c.args.region _ _ _ _ _ _ c.self.invariant c.in-Some.ensures.found) c.find_slot.ensures.apart
      c.in-Some-peek_mut.slot.now c.load.new.self c.in-Some-peek_mut.ensures.value (with_entries c.args.from c.args.bytes.now) c.load.ensures.region c.load.ensures.content,
) refl

pub returns-in_default-peek_mut : goal.returns-in_default-peek_mut
returns-in_default-peek_mut c = absurd (looked_up_none _ _ _ _ (at_found c.args.region _ _ _ _ _ _ c.self.invariant c.in-Some.ensures.found) c.find_slot.ensures.apart
    c.in_default-peek_mut.ensures.value)
