-- What holds of a cache holds after a change.
use Rattle.std.proofs.Common.{◌≡◌, ℕ, ◌-◌, ◌≤◌, List, [], length, refl, ap, ◌∙◌, arith}
use Rattle.std.specs.Map.{keys_of}
use Rattle.region_state.specs.Kept.{IsApart}
use Rattle.region_state.specs.Shape.{IsWithinLimits, region_count}
use Rattle.region_state.proofs.Apart.{IsApart-none}
use Rattle.host_map_cache.specs.Shapes.{region_blocks, sub_blocks}
use Rattle.region_state.specs.declared.shape.Shape.{Shape}
use Rattle.host_map_cache.specs.Regions.{Region, Held}
use Rattle.host_map_cache.specs.Cache.{IsCache, AreWants, held_blocks, held_subregions, unit_subregions}

module _ {shape : Shape} {a_region a_sub : ℕ} {slots : Held} {heat : List ℕ} {wants : List (ℕ × ℕ)} {evicted : List ℕ} {wants_capacity evicted_capacity : ℕ}
    (is : IsCache shape a_region a_sub slots heat wants evicted wants_capacity evicted_capacity)
  where
    -- other regions are held
    pub with_regions : (regions : List (ℕ × Region)) → IsApart (keys_of regions) evicted (region_count shape)
        → IsCache shape a_region a_sub (record slots { regions = regions }) heat wants evicted wants_capacity evicted_capacity
    with_regions regions apart = record {
      is_shape = is.is_shape;
      region_size = is.region_size;
      sub_size = is.sub_size;
      room = is.room;
      subregions = is.subregions;
      blocks = is.blocks;
      heats = is.heats;
      wants_room = is.wants_room;
      evicted_room = is.evicted_room;
      are_wants = is.are_wants;
      apart = apart;
    }

    pub with_heat : (heat' : List ℕ) → length heat' ≡ length heat → IsCache shape a_region a_sub slots heat' wants evicted wants_capacity evicted_capacity
    with_heat heat' same = record {
      is_shape = is.is_shape;
      region_size = is.region_size;
      sub_size = is.sub_size;
      room = is.room;
      subregions = is.subregions;
      blocks = is.blocks;
      heats = same ∙ is.heats;
      wants_room = is.wants_room;
      evicted_room = is.evicted_room;
      are_wants = is.are_wants;
      apart = is.apart;
    }

    -- other lists, in the same memory or in more
    pub with_lists : (regions : List (ℕ × Region)) (wants' : List (ℕ × ℕ)) (evicted' : List ℕ) (wants_capacity' evicted_capacity' : ℕ)
        → AreWants shape wants' → IsApart (keys_of regions) evicted' (region_count shape) → wants_capacity ≤ wants_capacity' → evicted_capacity ≤ evicted_capacity'
        → IsCache shape a_region a_sub (record slots { regions = regions }) heat wants' evicted' wants_capacity' evicted_capacity'
    with_lists regions wants' evicted' wants_capacity' evicted_capacity' are apart more_wants more_evicted = record {
      is_shape = is.is_shape;
      region_size = is.region_size;
      sub_size = is.sub_size;
      room = is.room;
      subregions = is.subregions;
      blocks = is.blocks;
      heats = is.heats;
      wants_room = omega (arith, is.wants_room, more_wants);
      evicted_room = omega (arith, is.evicted_room, more_evicted);
      are_wants = are;
      apart = apart;
    }

-- a cache that holds nothing
pub IsCache-empty : (shape : Shape) (a_region a_sub : ℕ) (slots : Held) (heat : List ℕ) (wants_capacity evicted_capacity : ℕ)
    → IsWithinLimits shape → a_region ≡ region_blocks shape → a_sub ≡ sub_blocks shape
    → slots ≡ record { regions = []; room = shape.held; subregions = held_subregions shape; blocks = held_blocks shape }
    → length heat ≡ unit_subregions shape → unit_subregions shape ≤ wants_capacity → region_count shape ≤ evicted_capacity
    → IsCache shape a_region a_sub slots heat [] [] wants_capacity evicted_capacity
IsCache-empty shape a_region a_sub slots heat wants_capacity evicted_capacity limits a b is heats wants_room evicted_room = record {
  is_shape = limits;
  region_size = a;
  sub_size = b;
  room = ap (λ s. s.room) is;
  subregions = ap (λ s. s.subregions) is;
  blocks = ap (λ s. s.blocks) is;
  heats = heats;
  wants_room = wants_room;
  evicted_room = evicted_room;
  are_wants = record { there = tt; once = refl };
  apart = rw is (IsApart-none (region_count shape));
}
