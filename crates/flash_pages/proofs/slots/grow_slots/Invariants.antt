use Rattle.std.proofs.Common.{◌≡◌, ◌-◌, ◌≤◌, ℕ, length, vec_capacity}
use Rattle.flash_pages.specs.Memory.{pages_in}
use Rattle.flash_pages.proofs.slots.grow_slots.Given as goal

abbrev pub invariant-loop-slots : goal.invariant-loop-slots
invariant-loop-slots l = record {
  fewer : (all : ℕ) → length l.initial.slots.items ≤ all → l.count ≤ all → length l.slots.items ≤ all;
  pages : (all : ℕ) → length l.initial.slots.items ≤ all → l.count ≤ all → pages_in l.slots.items all ≡ pages_in l.initial.slots.items all;
  same : vec_capacity l.slots ≡ vec_capacity l.initial.slots;
}

abbrev pub decreases-loop-slots : goal.decreases-loop-slots
decreases-loop-slots l = l.count - length l.slots.items
