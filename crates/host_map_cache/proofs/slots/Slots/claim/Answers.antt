use Rattle.std.proofs.Common.{refl, arith}
use Rattle.host_map_cache.proofs.Claims.{last_found, last_slot, claimed-more, claimed-full, AreSlots-claimed, given_up, none_given_up}
use Rattle.host_map_cache.proofs.Sizes.{renewed, renewed_slot}
use Rattle.host_map_cache.proofs.slots.Slots.claim.Goals as goal

pub returns-in_default-clause-regions : goal.returns-in_default-clause-regions
returns-in_default-clause-regions c = absurd (last_found _ _ _ _ _ _ c.self.invariant c.in-Some.ensures c.len-len.ensures.valid.0 c.in_default.ensures.value)

pub returns-in_default-clause-given_up : goal.returns-in_default-clause-given_up
returns-in_default-clause-given_up c = absurd (last_found _ _ _ _ _ _ c.self.invariant c.in-Some.ensures c.len-len.ensures.valid.0 c.in_default.ensures.value)

pub invariant_of-self-then-self : goal.invariant_of-self-then-self
invariant_of-self-then-self c = let sized = last_slot _ _ _ _ _ _ c.self.invariant c.in-Some.ensures c.len-len.ensures.valid.0 c.in-Some-peek_mut.slot.now c.in-Some-peek_mut.ensures.value in
    rw c.promote.ensures.entries (AreSlots-claimed _ _ _ _ _ _ c.self.invariant c.in-Some.ensures c.len-len.ensures.valid.0 c.renew.new.self _ c.self.invariant.in_room
    (renewed_slot _ _ _ _ c.renew.new.self sized.key (renewed _ _ _ _ c.in-Some-peek_mut.slot.now c.renew.new.self sized c.renew.ensures.content)))

pub returns-then-self-clause-regions : goal.returns-then-self-clause-regions
returns-then-self-clause-regions c = let sized = last_slot _ _ _ _ _ _ c.self.invariant c.in-Some.ensures c.len-len.ensures.valid.0 c.in-Some-peek_mut.slot.now
    c.in-Some-peek_mut.ensures.value in
    rw (
      ← c.self.view_is,
      c.promote.ensures.entries,
      claimed-full _ _ _ _ _ _ c.self.invariant c.in-Some.ensures c.len-len.ensures.valid.0 c.renew.new.self c.args.region _ c.if-self.true
          c.renew.ensures.region (renewed _ _ _ _ c.in-Some-peek_mut.slot.now c.renew.new.self sized c.renew.ensures.content),
    ) refl

pub returns-then-self-clause-given_up : goal.returns-then-self-clause-given_up
returns-then-self-clause-given_up c = rw (← c.self.view_is) (given_up _ _ _ _ _ _ c.self.invariant c.in-Some.ensures c.len-len.ensures.valid.0 c.if-self.true)

pub invariant_of-self-2 : goal.invariant_of-self-2
invariant_of-self-2 c = let sized = last_slot _ _ _ _ _ _ c.self.invariant c.in-Some.ensures c.len-len.ensures.valid.0 c.in-Some-peek_mut.slot.now c.in-Some-peek_mut.ensures.value in
    rw c.promote.ensures.entries (AreSlots-claimed _ _ _ _ _ _ c.self.invariant c.in-Some.ensures c.len-len.ensures.valid.0 c.renew.new.self _
    (omega (arith, c.self.invariant.in_room, c.if-self.false))
    (renewed_slot _ _ _ _ c.renew.new.self sized.key (renewed _ _ _ _ c.in-Some-peek_mut.slot.now c.renew.new.self sized c.renew.ensures.content)))

pub returns-clause-regions : goal.returns-clause-regions
returns-clause-regions c = let sized = last_slot _ _ _ _ _ _ c.self.invariant c.in-Some.ensures c.len-len.ensures.valid.0 c.in-Some-peek_mut.slot.now c.in-Some-peek_mut.ensures.value in
    rw (
      ← c.self.view_is,
      c.promote.ensures.entries,
      claimed-more _ _ _ _ _ _ c.self.invariant c.in-Some.ensures c.len-len.ensures.valid.0 c.renew.new.self c.args.region _
          (omega (arith, c.self.invariant.in_room, c.if-self.false)) c.renew.ensures.region (renewed _ _ _ _ c.in-Some-peek_mut.slot.now c.renew.new.self sized c.renew.ensures.content),
    ) refl

pub returns-clause-given_up : goal.returns-clause-given_up
returns-clause-given_up c = rw (← c.self.view_is)
    (none_given_up _ _ _ _ _ _ c.self.invariant c.in-Some.ensures c.len-len.ensures.valid.0 (omega (arith, c.self.invariant.in_room, c.if-self.false)))
