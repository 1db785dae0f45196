-- Changes of a region that keep its sizes.
use Rattle.std.proofs.Common.{◌≡◌, ℕ, ◌+◌, ◌-◌, ◌*◌, ◌/◌, ◌≤◌, ◌<◌, Bool, true, false, min, List, length, replicate, refl, ap, ◌∙◌, arith, length-append, length-take, length-drop}
use Rattle.std.proofs.Common.{length-set}
use Rattle.std.proofs.lemmas.List.{length-map, length-replicate}
use Rattle.std.proofs.lemmas.List.FromFn.{length-map-range_with_len}
use Rattle.host_map_cache.specs.Regions.{Region, region_in, with_state, with_dirty, with_entries, entries_of, overwritten, blank, lapsed_state, lapsed_region, marked_region, IsSlot}
use Rattle.host_map_cache.specs.declared.slots.SubregionState.TheVariants.{Unused}
use Rattle.host_map_cache.specs.declared.slots.Slot.{Slot}
use Rattle.host_map_cache.specs.declared.slots.SubregionState.{SubregionState}
use Rattle.host_map_cache.proofs.Moves.{SameSizes}

pub length-overwritten : {A : Type 0} (from : ℕ) (values xs : List A) → from + length values ≤ length xs → length (overwritten from values xs) ≡ length xs
length-overwritten from values xs inside = grind (arith, length-append, length-take, length-drop)

pub length-entries_of : (bytes : List ℕ) → length (entries_of bytes) ≡ length bytes / 8
length-entries_of bytes = length-map-range_with_len _ 0 (length bytes / 8)

pub set_state_sizes : (slot w : Slot) (sub : ℕ) (state : SubregionState) → region_in w ≡ with_state sub state (region_in slot) → SameSizes (region_in w) (region_in slot)
set_state_sizes slot w sub state is = rw is (record { states = length-set slot.states.items sub state; entries = refl; dirty = refl })

pub set_dirty_sizes : (slot w : Slot) (from until : ℕ) (dirty : Bool) → from ≤ until → until ≤ length slot.dirty → region_in w ≡ with_dirty from until dirty (region_in slot)
    → SameSizes (region_in w) (region_in slot)
set_dirty_sizes slot w from until dirty order inside is = rw is
    (record {
      states = refl;
      entries = refl;
      dirty = length-overwritten from (replicate (until - from) dirty) slot.dirty (omega (arith, order, inside, length-replicate (until - from) dirty));
    })

pub load_sizes : (slot w : Slot) (from : ℕ) (bytes : List ℕ) → from + length bytes / 8 ≤ length slot.entries.items → region_in w ≡ with_entries from bytes (region_in slot)
    → SameSizes (region_in w) (region_in slot)
load_sizes slot w from bytes inside is = rw is
    (record { states = refl; entries = length-overwritten from (entries_of bytes) slot.entries.items (omega (arith, inside, length-entries_of bytes)); dirty = refl })

pub renewed : (room subregions blocks key : ℕ) (slot w : Slot) → IsSlot room subregions blocks (key, slot)
    → region_in w ≡ record { states = replicate (length slot.states.items) Unused; entries = replicate (length slot.entries.items) 0; dirty = replicate (length slot.dirty) false }
    → region_in w ≡ blank subregions blocks
renewed room subregions blocks key slot w sized is = is ∙ sizes sized.states sized.entries sized.dirty
  where
    sizes : length slot.states.items ≡ subregions → length slot.entries.items ≡ blocks → length slot.dirty ≡ blocks
        → record { states = replicate (length slot.states.items) Unused; entries = replicate (length slot.entries.items) 0; dirty = replicate (length slot.dirty) false } ≡ blank subregions
        blocks
    sizes p q r = rw (p, q, r) refl

pub renewed_slot : (room subregions blocks key : ℕ) (w : Slot) → key < room → region_in w ≡ blank subregions blocks → IsSlot room subregions blocks (key, w)
renewed_slot room subregions blocks key w inside is = record {
  key = inside;
  states = ap (λ r. length r.states) is ∙ length-replicate subregions Unused;
  entries = ap (λ r. length r.entries) is ∙ length-replicate {A = ℕ} blocks 0;
  dirty = ap (λ r. length r.dirty) is ∙ length-replicate blocks false;
}

pub lapsed_sizes : (held : ℕ × Region) → SameSizes (lapsed_region held.1) held.1
lapsed_sizes held = record { states = length-map held.1.states lapsed_state; entries = refl; dirty = refl }

pub marked_sizes : (region_blocks lba n : ℕ) (held : ℕ × Region) → SameSizes (marked_region region_blocks lba n held).1 held.1
marked_sizes region_blocks lba n held = let blocks : ℕ = length held.1.dirty in
    let from : ℕ = min blocks (lba - held.0 * region_blocks) in
    let until : ℕ = min blocks (lba + n - held.0 * region_blocks) in
    record {
      states = refl;
      entries = refl;
      dirty = length-overwritten from (replicate (until - from) true) held.1.dirty (omega (arith, length-replicate (until - from) true));
    }
