use Rattle.std.proofs.Common.{◌≡◌, refl, subst, arith}
use Rattle.host_map_cache.specs.Regions.{marked_region}
use Rattle.host_map_cache.proofs.Every.{IsWalked, walked_none, walked_more, walked_missing, walked_all, regions-done, AreSlots-done, pair_is}
use Rattle.host_map_cache.proofs.Sizes.{marked_sizes}
use Rattle.host_map_cache.proofs.slots.Slots.mark_written.Goals.{in-Some, in_default}
use Rattle.host_map_cache.proofs.slots.Slots.mark_written.Goals as goal

pub loop-key-init : goal.loop-key-init
loop-key-init c = record {
  walked = walked_none (marked_region c.args.region_blocks c.args.lba c.args.n) c.self.inside.slots.entries;
  used = refl;
  room = refl;
  subregions = refl;
  blocks =
      refl;
}

pub invariant_of-self : goal.invariant_of-self
invariant_of-self c = let all : c.loop-key.key-counter ≡ c.self.inside.room = omega (arith, c.loop-key-test.false, c.loop-key.auto.key-counter-end) in
    let done = walked_all (marked_region c.args.region_blocks c.args.lba c.args.n) _ _ _ _ _ _ c.self.invariant
    (subst (λ n. IsWalked (marked_region c.args.region_blocks c.args.lba c.args.n) n c.self.inside.slots.entries c.loop-key.self-inside.slots.entries) all c.loop-key.invariant.walked) in
    rw (c.loop-key.invariant.used, c.loop-key.invariant.room, c.loop-key.invariant.subregions, c.loop-key.invariant.blocks)
    (AreSlots-done (marked_region c.args.region_blocks c.args.lba c.args.n) (marked_sizes c.args.region_blocks c.args.lba c.args.n) _ _ _ _ _ _ c.self.invariant done)

pub loop-key-preserved : goal.loop-key-preserved
loop-key-preserved c = elim c.match-peek_mut.branch [
  | in-Some w ↦ rw w.self-inside-is (record {
    walked = walked_more (marked_region c.args.region_blocks c.args.lba c.args.n) c.loop-key.key-counter _ _ w.in-Some.slot.now w.mark_written.new.self c.len-len.ensures.valid.0
        c.loop-key.invariant.walked w.in-Some.ensures.value (pair_is w.mark_written.ensures.region w.mark_written.ensures.content);
    used = c.loop-key.invariant.used;
    room = c.loop-key.invariant.room;
    subregions = c.loop-key.invariant.subregions;
    blocks = c.loop-key.invariant.blocks;
  })
  | in_default w ↦ rw w.self-inside-is (record {
    walked = walked_missing (marked_region c.args.region_blocks c.args.lba c.args.n) c.loop-key.key-counter _ _ c.loop-key.invariant.walked w.in_default.ensures.value;
    used = c.loop-key.invariant.used;
    room = c.loop-key.invariant.room;
    subregions = c.loop-key.invariant.subregions;
    blocks = c.loop-key.invariant.blocks;
  })
]

pub returns : goal.returns
returns c = let all : c.loop-key.key-counter ≡ c.self.inside.room = omega (arith, c.loop-key-test.false, c.loop-key.auto.key-counter-end) in
    let done = walked_all (marked_region c.args.region_blocks c.args.lba c.args.n) _ _ _ _ _ _ c.self.invariant
    (subst (λ n. IsWalked (marked_region c.args.region_blocks c.args.lba c.args.n) n c.self.inside.slots.entries c.loop-key.self-inside.slots.entries) all c.loop-key.invariant.walked) in
    rw (
      ← c.self.view_is,
      c.loop-key.invariant.used,
      c.loop-key.invariant.room,
      c.loop-key.invariant.subregions,
      c.loop-key.invariant.blocks,
      regions-done
          (marked_region c.args.region_blocks c.args.lba c.args.n) c.self.inside.used _ _ done,
    ) refl
