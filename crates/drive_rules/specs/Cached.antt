-- What holds of the caches of a driver at any moment.
use Rattle.std.specs.Prelude.{◌≡◌, ◌≤◌, ◌<◌, ◌^◌, ℕ, ◌*◌, true, length}
use Rattle.std.specs.List.{AllByRecursion}
use Rattle.host_map_cache.specs.Cache.{CacheState}
use Rattle.host_map_cache.specs.Regions.{Region}
use Rattle.host_map_cache.specs.Shapes.{is_present, region_blocks, sub_blocks}
use Rattle.region_state.specs.declared.shape.Shape.{Shape}
use Rattle.region_state.specs.Shape.{IsWithinLimits}
use Rattle.flat_unit.specs.Sizes.{Sizes}
use Rattle.driver_laws.specs.Commands.{OpenCommand}
use Rattle.drive_rules.specs.Lines.{AreBytes}
use Rattle.driver_caches.specs.Machine.{Machine}

-- the sizes of a device are those of the shape
pub record HasShape (s : Sizes) (shape : Shape) : Type 0 where
  pub limits : IsWithinLimits shape
  pub units : s.units ≡ shape.units
  pub per_region : s.per_region ≡ region_blocks shape
  pub per_sub : s.per_sub ≡ sub_blocks shape

-- the subregion, by its region and its place in it, is one of a unit of this shape
abbrev pub IsThere : Shape → ℕ × ℕ → Type 0
IsThere shape pair = is_present shape pair.0 pair.1 ≡ true

-- the region is one of such a unit
abbrev pub HasRegionAt : Shape → ℕ → Type 0
HasRegionAt shape region = region * region_blocks shape < shape.units

-- an entry has 8 bytes
abbrev pub IsEntry : ℕ → Type 0
IsEntry entry = entry < 2 ^ 64

-- a region that is held is one of the unit, and its entries fit
pub record IsHeld (shape : Shape) (held : ℕ × Region) : Type 0 where
  pub region : HasRegionAt shape held.0
  pub entries : AllByRecursion IsEntry held.1.entries

-- what holds of a cache: its wants are subregions of its unit, what it gave up and what it holds are regions of it
pub record IsCached (shape : Shape) (cache : CacheState) : Type 0 where
  pub shape_is : cache.shape ≡ shape
  pub wants : AllByRecursion (IsThere shape) cache.wants
  pub evicted : AllByRecursion (HasRegionAt shape) cache.evicted
  pub held : AllByRecursion (IsHeld shape) cache.held

-- what came for the command are bytes
abbrev pub HasGotBytes : OpenCommand → Type 0
HasGotBytes o = AreBytes o.got

-- what holds of a driver with caches: so it is of each, they are no more than units, and the next read id is 1 to 127
pub record HasCaches (s : Sizes) (shape : Shape) (m : Machine) : Type 0 where
  pub caches : AllByRecursion (IsCached shape) m.caches
  pub some_id : 1 ≤ m.next_id
  pub last_id : m.next_id ≤ 127
  pub few : length m.caches ≤ s.luns
  pub got : AllByRecursion HasGotBytes m.opens
