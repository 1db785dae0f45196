-- The host's cache of one unit: what each call makes of its state.
use Rattle.region_state.specs.Shape.{IsWithinLimits, region_count, number_of}
use Rattle.region_state.specs.Kept.{IsApart}
use Rattle.region_state.specs.Lists.{is_distinct}
use Rattle.std.specs.Prelude.{◌≡◌, ℕ, ◌+◌, ◌-◌, ◌*◌, ◌/◌, ◌%◌, ◌≤◌, ◌==◌, ◌&&◌, not, if◌then◌else◌, nat_lt}
use Rattle.std.specs.Prelude.{nat_eq, Bool, true, false, IsTrue, Option, is_some, List, [], ◌∷◌}
use Rattle.std.specs.Prelude.{◌++◌, length, take, map, min, replicate, slice_get, slice_index, slice_set}
use Rattle.std.specs.List.{AllByRecursion, fold, filter, list_any, list_all, range_with_len}
use Rattle.std.specs.Map.{keys_of, lookup, remove_entry}
use Rattle.std.specs.Option.{option_map_or, option_and_then}
use Rattle.lru.specs.LruCache.{promoted}
use Rattle.region_state.specs.declared.shape.Shape.{Shape}
use Rattle.region_state.specs.declared.shape.Mode.{Mode}
use Rattle.region_state.specs.declared.shape.Mode.TheVariants.{Device, Host}
use Rattle.host_map_cache.specs.Shapes.{region_blocks, sub_blocks, region_at, sub_at, is_present}
use Rattle.hpb_sense.specs.declared.sense.Hint.{Hint}
use Rattle.host_map_cache.specs.declared.slots.SubregionState.{SubregionState}
use Rattle.host_map_cache.specs.declared.slots.SubregionState.TheVariants.{Unused, Invalid, Issued, Valid}
use Rattle.host_map_cache.specs.Regions.{Region, Held, blank, changed, with_state, with_dirty}
use Rattle.host_map_cache.specs.Regions.{with_entries, state_in, entry_in, is_issued, lapsed_region, marked_region}

-- the held regions, the most recent one first, the subregions to load, the regions that were given up and not told yet,
-- and for each subregion of the unit how often it was read
pub record CacheState : Type 0 where
  pub shape : Shape
  pub held : List (ℕ × Region)
  pub wants : List (ℕ × ℕ)
  pub evicted : List ℕ
  pub heat : List ℕ

-- a slot has so many blocks, those of a region or of the unit
abbrev pub held_blocks : Shape → ℕ
held_blocks shape = min (region_blocks shape) shape.units

-- and so many subregions
abbrev pub held_subregions : Shape → ℕ
held_subregions shape = (held_blocks shape - 1) / sub_blocks shape + 1

-- the subregions of the unit
abbrev pub unit_subregions : Shape → ℕ
unit_subregions shape = (shape.units - 1) / sub_blocks shape + 1

abbrev pub empty_cache : Shape → CacheState
empty_cache shape = record {
  shape = shape;
  held = [];
  wants = [];
  evicted = [];
  heat = replicate (unit_subregions shape) 0;
}

abbrev pub is_host : Mode → Bool
is_host Device = false
is_host Host = true

abbrev pub is_held : CacheState → ℕ → Bool
is_held cache region = is_some (lookup (nat_eq region) cache.held)

-- the state of a subregion, which is Unused where its region isn't held
abbrev pub state_of : CacheState → ℕ → ℕ → SubregionState
state_of cache region sub = option_map_or (state_in sub) (lookup (nat_eq region) cache.held) Unused

abbrev pub with_held : CacheState → List (ℕ × Region) → CacheState
with_held cache held = record cache { held = held }

-- a value goes last into a list, or keeps its place there
abbrev pub put_last : {A : Type 0} → (A → Bool) → List A → A → List A
put_last same xs x = if list_any same xs then xs else xs ++ x ∷ []

-- the evicted list without the region that is held now, and with the one that was given up for it
abbrev pub evicted_after : CacheState → ℕ → List ℕ
evicted_after cache region =
    let others = filter (λ other. not (nat_eq region other)) cache.evicted in
    if is_host cache.shape.mode
    then option_map_or (λ last. others ++ last.0 ∷ []) (slice_get cache.held (cache.shape.held - 1)) others
    else others

-- a region is held, as the most recent one where it wasn't
abbrev pub claimed : CacheState → ℕ → CacheState
claimed cache region = if is_held cache region then cache else record cache {
  held =
      let fresh : Region = blank (held_subregions cache.shape) (held_blocks cache.shape) in
      (region, fresh) ∷ take (cache.shape.held - 1) cache.held;
  evicted = evicted_after cache region;
}

-- a subregion is asked for
abbrev pub asked : CacheState → ℕ → ℕ → CacheState
asked cache region sub = record cache {
  held = changed region (with_state sub Issued) cache.held;
  wants = put_last (λ want. nat_eq want.0 region && nat_eq want.1 sub) cache.wants (region, sub);
}

-- a subregion that is present is asked for, where it wasn't, and its region is held
unfoldable pub activated : CacheState → ℕ × ℕ → CacheState
activated cache pair =
    if is_present cache.shape pair.0 pair.1 && not (is_issued (state_of cache pair.0 pair.1))
    then asked (claimed cache pair.0) pair.0 pair.1
    else cache

-- all but the heat is forgotten
abbrev pub dropped : CacheState → CacheState
dropped cache = record cache { held = []; wants = []; evicted = [] }

-- regions are no longer held
abbrev pub without : CacheState → List ℕ → CacheState
without cache regions = fold (λ now region. with_held now (remove_entry (nat_eq region) now.held)) cache regions

-- a hint of operation 2 drops all; one of operation 1 gives regions up, and then asks for subregions in order
unfoldable pub hinted : CacheState → Hint → CacheState
hinted cache hint =
    if hint.op == 2 then dropped cache
    else if hint.op == 1 then fold activated (without cache hint.inactive.items) hint.active.items
    else cache

-- the regions and the subregions that a range touches, lowest first
abbrev pub touched_by : ℕ → ℕ → ℕ → List ℕ
touched_by blocks lba n =
    if n == 0 then [] else range_with_len (lba / blocks) ((lba + n - 1) / blocks + 1 - lba / blocks)

-- one plain read of a subregion, by its number in the unit
abbrev pub heated : CacheState → ℕ → CacheState
heated cache number =
    let first : ℕ = number * sub_blocks cache.shape in
    let pair : ℕ × ℕ = (region_at cache.shape first, sub_at cache.shape first) in
    let heat = slice_index cache.heat number + 1 in
    if is_issued (state_of cache pair.0 pair.1) then cache
    else if nat_lt heat 4 then record cache { heat = slice_set cache.heat number heat }
    else activated (record cache { heat = slice_set cache.heat number 0 }) pair

-- a plain read heats what it touches, where the host chooses the regions
unfoldable pub plainly_read : CacheState → ℕ → ℕ → CacheState
plainly_read cache lba n =
    if is_host cache.shape.mode then fold heated cache (touched_by (sub_blocks cache.shape) lba n) else cache

-- the blocks of a subregion inside the unit, from its first one in the region on
abbrev pub sub_length : Shape → ℕ → ℕ → ℕ
sub_length shape region sub =
    min (sub_blocks shape) (shape.units - (region * region_blocks shape + sub * sub_blocks shape))

-- where a subregion was asked for, each change is one of its region
abbrev pub issued : CacheState → ℕ → ℕ → CacheState
issued cache region sub =
    let from : ℕ = sub * sub_blocks cache.shape in
    let until : ℕ = from + sub_length cache.shape region sub in
    if is_issued (state_of cache region sub)
    then with_held cache (changed region (with_dirty from until false) cache.held)
    else cache

abbrev pub loaded : CacheState → ℕ → ℕ → List ℕ → CacheState
loaded cache region sub bytes =
    if is_issued (state_of cache region sub)
    then with_held cache
    (changed region (with_state sub Valid)
    (changed region (with_entries (sub * sub_blocks cache.shape) bytes) cache.held))
    else cache

abbrev pub unloaded : CacheState → ℕ → ℕ → CacheState
unloaded cache region sub =
    if is_issued (state_of cache region sub)
    then with_held cache (changed region (with_state sub Invalid) cache.held)
    else cache

-- a range was written
abbrev pub written : CacheState → ℕ → ℕ → CacheState
written cache lba n = with_held cache (map (marked_region (region_blocks cache.shape) lba n) cache.held)

-- each region that a range touches becomes the most recent one
abbrev pub touched : CacheState → ℕ → ℕ → CacheState
touched cache lba n =
    let regions : List ℕ = touched_by (region_blocks cache.shape) lba n in
    with_held cache (fold (λ held region. promoted (nat_eq region) held) cache.held regions)

-- what was asked for doesn't come
abbrev pub lapsed : CacheState → CacheState
lapsed cache = record cache {
  held = map (λ held. (held.0, lapsed_region held.1)) cache.held;
  wants = [];
  evicted = [];
}

-- the entry of a block that is covered
abbrev pub entry_of : CacheState → ℕ → Option ℕ
entry_of cache lba =
    option_and_then (entry_in (sub_at cache.shape lba) (lba % region_blocks cache.shape))
    (lookup (nat_eq (region_at cache.shape lba)) cache.held)

-- each block of a range is covered, and there is one
abbrev pub covers : CacheState → ℕ → ℕ → Bool
covers cache lba n = nat_lt 0 n && list_all (λ block. is_some (entry_of cache block)) (range_with_len lba n)

-- a subregion of the unit, and its number there
abbrev pub IsThere : Shape → ℕ × ℕ → Type 0
IsThere shape pair = IsTrue (is_present shape pair.0 pair.1)

abbrev pub number_in : Shape → ℕ × ℕ → ℕ
number_in shape pair = number_of shape pair.0 pair.1

-- each subregion to load is one of the unit, and none is there twice
pub record AreWants (shape : Shape) (wants : List (ℕ × ℕ)) : Type 0 where
  pub there : AllByRecursion (IsThere shape) wants
  pub once : is_distinct (map (number_in shape) wants) ≡ true

-- the numbers that the code keeps, the sizes of the slots, and the lists, which have room for all that they may get:
-- each region of the unit is held or evicted, or neither, and is there once
pub record IsCache (shape : Shape) (a_region a_sub : ℕ) (slots : Held) (heat : List ℕ) (wants : List (ℕ × ℕ))
    (evicted : List ℕ) (wants_capacity evicted_capacity : ℕ)
    : Type 0 where
  pub is_shape : IsWithinLimits shape
  pub region_size : a_region ≡ region_blocks shape
  pub sub_size : a_sub ≡ sub_blocks shape
  pub room : slots.room ≡ shape.held
  pub subregions : slots.subregions ≡ held_subregions shape
  pub blocks : slots.blocks ≡ held_blocks shape
  pub heats : length heat ≡ unit_subregions shape
  pub wants_room : unit_subregions shape ≤ wants_capacity
  pub evicted_room : region_count shape ≤ evicted_capacity
  pub are_wants : AreWants shape wants
  pub apart : IsApart (keys_of slots.regions) evicted (region_count shape)
