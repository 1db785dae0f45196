-- The held regions, and the slots that hold them.
use Rattle.std.specs.Prelude.{◌≡◌, ℕ, ◌+◌, ◌-◌, ◌*◌, ◌/◌, ◌≤◌, ◌<◌, min, nat_eq}
use Rattle.std.specs.Prelude.{Bool, true, false, ◌&&◌, not, if◌then◌else◌}
use Rattle.std.specs.Prelude.{Option, None, Some, List, ◌++◌, length, take, drop, map, replicate}
use Rattle.std.specs.Prelude.{slice_index, slice_index_or, slice_set}
use Rattle.std.specs.List.{AllByRecursion, range_with_len}
use Rattle.byteorder.specs.Endian.{big_number}
use Rattle.std.specs.Map.{lookup, set_value}
use Rattle.std.specs.Option.{option_map_or}
use Rattle.host_map_cache.specs.declared.slots.SubregionState.{SubregionState}
use Rattle.host_map_cache.specs.declared.slots.SubregionState.TheVariants.{Unused, Invalid, Issued, Valid}
use Rattle.host_map_cache.specs.declared.slots.Slot.{Slot}

-- what is kept of a held region: the state of each subregion, and of each block its entry and whether it was written
-- since that was asked for
pub record Region : Type 0 where
  pub states : List SubregionState
  pub entries : List ℕ
  pub dirty : List Bool

-- the held regions by their numbers, the most recent first, at most `room`, each of so many subregions and blocks
pub record Held : Type 0 where
  pub regions : List (ℕ × Region)
  pub room : ℕ
  pub subregions : ℕ
  pub blocks : ℕ

abbrev pub region_in : Slot → Region
region_in slot = record { states = slot.states.items; entries = slot.entries.items; dirty = slot.dirty }

-- a slot by the number of the region that it holds
abbrev pub by_region : ℕ × Slot → ℕ × Region
by_region e = (e.1.region, region_in e.1)

-- the first `used` slots hold a region
abbrev pub regions_in : ℕ → List (ℕ × Slot) → List (ℕ × Region)
regions_in used slots = map by_region (take used slots)

pub record IsSlot (room subregions blocks : ℕ) (e : ℕ × Slot) : Type 0 where
  pub key : e.0 < room
  pub states : length e.1.states.items ≡ subregions
  pub entries : length e.1.entries.items ≡ blocks
  pub dirty : length e.1.dirty ≡ blocks

pub record HasSizes (subregions blocks : ℕ) (region : Region) : Type 0 where
  pub states : length region.states ≡ subregions
  pub entries : length region.entries ≡ blocks
  pub dirty : length region.dirty ≡ blocks

pub record AreSlots (used room subregions blocks : ℕ) (slots : List (ℕ × Slot)) : Type 0 where
  pub full : length slots ≡ room
  pub in_room : used ≤ room
  pub some_room : 0 < room
  pub each : AllByRecursion (IsSlot room subregions blocks) slots

-- the regions, with another content of the region r where it is held
abbrev pub changed : ℕ → (Region → Region) → List (ℕ × Region) → List (ℕ × Region)
changed r f regions =
    option_map_or (λ region. set_value (nat_eq r) regions (f region)) (lookup (nat_eq r) regions) regions

abbrev pub with_state : ℕ → SubregionState → Region → Region
with_state sub state region = record region { states = slice_set region.states sub state }

abbrev pub is_valid : SubregionState → Bool
is_valid Valid = true
is_valid _ = false

abbrev pub is_issued : SubregionState → Bool
is_issued Issued = true
is_issued _ = false

-- with these values from a place on, over as many
abbrev pub overwritten : {A : Type 0} → ℕ → List A → List A → List A
overwritten from values xs = take from xs ++ values ++ drop (from + length values) xs

abbrev pub with_dirty : ℕ → ℕ → Bool → Region → Region
with_dirty from until dirty region = record region {
  dirty = overwritten from (replicate (until - from) dirty) region.dirty;
}

-- the entries that a list spells, 8 bytes each
abbrev pub entries_of : List ℕ → List ℕ
entries_of bytes = map (λ n. big_number 8 (drop (8 * n) bytes)) (range_with_len 0 (length bytes / 8))

abbrev pub with_entries : ℕ → List ℕ → Region → Region
with_entries from bytes region = record region { entries = overwritten from (entries_of bytes) region.entries }

-- a region of which nothing is known
abbrev pub blank : ℕ → ℕ → Region
blank subregions blocks = record {
  states = replicate subregions Unused;
  entries = replicate blocks 0;
  dirty = replicate blocks false;
}

abbrev pub state_in : ℕ → Region → SubregionState
state_in sub region = slice_index_or region.states sub Unused

-- the entry of a block: its subregion is Valid, and it wasn't written since
abbrev pub entry_in : ℕ → ℕ → Region → Option ℕ
entry_in sub place region =
    if is_valid (state_in sub region) && not (slice_index_or region.dirty place true)
    then Some (slice_index region.entries place)
    else None

abbrev pub lapsed_state : SubregionState → SubregionState
lapsed_state Issued = Invalid
lapsed_state state = state

abbrev pub lapsed_region : Region → Region
lapsed_region region = record region { states = map lapsed_state region.states }

-- a region after a write to a range: its blocks of the range are dirty
abbrev pub marked_region : ℕ → ℕ → ℕ → ℕ × Region → ℕ × Region
marked_region region_blocks lba n held =
    let first = held.0 * region_blocks in
    let blocks = length held.1.dirty in
    (held.0, with_dirty (min blocks (lba - first)) (min blocks (lba + n - first)) true held.1)
