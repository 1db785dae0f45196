use Rattle.std.proofs.Common.{◌∙◌, ◌≡◌, subst, arith}
use Rattle.std.specs.List.{AllByRecursion}
use Rattle.host_map_cache.specs.Regions.{IsSlot}
use Rattle.host_map_cache.proofs.Made.{made_more}
use Rattle.host_map_cache.proofs.slots.Slots.new.Goals as goal

pub loop-key-preserved : goal.loop-key-preserved
loop-key-preserved c = let made = made_more c.loop-key.slots.cap c.loop-key.key c.args.subregions c.args.blocks c.loop-key.slots.entries c.in_ok-slot.slot c.loop-key.invariant.made
    (omega (arith, c.loop-key-test.true, c.loop-key.invariant.cap)) c.in_ok-slot.ensures in
    rw c.in_ok-put.ensures.entries (record { cap = c.loop-key.invariant.cap; made = made })

pub invariant_of-result : goal.invariant_of-result
invariant_of-result c = let all : c.loop-key.key ≡ c.args.room = omega (arith, c.loop-key-test.false, c.loop-key.auto.key-end) in record {
  full = c.loop-key.invariant.made.counted ∙ all;
  in_room = omega arith;
  some_room = c.requires;
  each = subst (λ n. AllByRecursion (IsSlot n c.args.subregions c.args.blocks) c.loop-key.slots.entries) all c.loop-key.invariant.made.each;
}
