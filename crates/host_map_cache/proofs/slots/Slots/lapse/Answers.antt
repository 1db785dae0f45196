use Rattle.std.proofs.Common.{◌≡◌, refl, subst, arith}
use Rattle.host_map_cache.specs.Regions.{lapsed_region}
use Rattle.host_map_cache.proofs.Every.{IsWalked, walked_none, walked_more, walked_missing, walked_all, regions-done, AreSlots-done, pair_is}
use Rattle.host_map_cache.proofs.Sizes.{lapsed_sizes}
use Rattle.host_map_cache.proofs.slots.Slots.lapse.Goals.{in-Some, in_default}
use Rattle.host_map_cache.proofs.slots.Slots.lapse.Goals as goal

pub loop-key-init : goal.loop-key-init
loop-key-init c = record { walked = walked_none (λ held. (held.0, lapsed_region held.1)) c.self.inside.slots.entries; used = refl; room = refl; subregions = refl; blocks = refl }

pub invariant_of-self : goal.invariant_of-self
invariant_of-self c = let all : c.loop-key.key-counter ≡ c.self.inside.room = omega (arith, c.loop-key-test.false, c.loop-key.auto.key-counter-end) in
    let done = walked_all (λ held. (held.0, lapsed_region held.1)) _ _ _ _ _ _ c.self.invariant
    (subst (λ n. IsWalked (λ held. (held.0, lapsed_region held.1)) n c.self.inside.slots.entries c.loop-key.self-inside.slots.entries) all c.loop-key.invariant.walked) in
    rw (c.loop-key.invariant.used, c.loop-key.invariant.room, c.loop-key.invariant.subregions, c.loop-key.invariant.blocks)
    (AreSlots-done (λ held. (held.0, lapsed_region held.1)) lapsed_sizes _ _ _ _ _ _ c.self.invariant done)

pub loop-key-preserved : goal.loop-key-preserved
loop-key-preserved c = elim c.match-peek_mut.branch [
  | in-Some w ↦ rw w.self-inside-is (record {
    walked = walked_more (λ held. (held.0, lapsed_region held.1)) c.loop-key.key-counter _ _ w.in-Some.slot.now w.lapse.new.self c.len-len.ensures.valid.0 c.loop-key.invariant.walked
        w.in-Some.ensures.value (pair_is w.lapse.ensures.region w.lapse.ensures.content);
    used = c.loop-key.invariant.used;
    room = c.loop-key.invariant.room;
    subregions = c.loop-key.invariant.subregions;
    blocks = c.loop-key.invariant.blocks;
  })
  | in_default w ↦ rw w.self-inside-is (record {
    walked = walked_missing (λ held. (held.0, lapsed_region held.1)) c.loop-key.key-counter _ _ c.loop-key.invariant.walked w.in_default.ensures.value;
    used = c.loop-key.invariant.used;
    room = c.loop-key.invariant.room;
    subregions = c.loop-key.invariant.subregions;
    blocks = c.loop-key.invariant.blocks;
  })
]

pub returns : goal.returns
returns c = let all : c.loop-key.key-counter ≡ c.self.inside.room = omega (arith, c.loop-key-test.false, c.loop-key.auto.key-counter-end) in
    let done = walked_all (λ held. (held.0, lapsed_region held.1)) _ _ _ _ _ _ c.self.invariant
    (subst (λ n. IsWalked (λ held. (held.0, lapsed_region held.1)) n c.self.inside.slots.entries c.loop-key.self-inside.slots.entries) all c.loop-key.invariant.walked) in
    rw (
      ← c.self.view_is,
      c.loop-key.invariant.used,
      c.loop-key.invariant.room,
      c.loop-key.invariant.subregions,
      c.loop-key.invariant.blocks,
      regions-done
          (λ held. (held.0, lapsed_region held.1)) c.self.inside.used _ _ done,
    ) refl
