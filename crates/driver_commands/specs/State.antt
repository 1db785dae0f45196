-- What holds of the open commands of a driver, its caches, and the memory for a list of entries.
use Rattle.std.specs.Prelude.{◌≡◌, ◌≤◌, ℕ, ◌*◌, true, false, List, map, filter}
use Rattle.std.specs.List.{AllByRecursion}
use Rattle.hpb_cdb.specs.declared.cdb.Cdb.{Cdb}
use Rattle.hpb_cdb.specs.declared.cdb.Cdb.TheVariants.{ReadBuffer}
use Rattle.host_map_cache.specs.Cache.{CacheState, sub_length}
use Rattle.host_map_cache.specs.Shapes.{is_present}
use Rattle.region_state.specs.declared.shape.Shape.{Shape}
use Rattle.region_state.specs.Shape.{IsWithinLimits}
use Rattle.driver_laws.specs.Commands.{OpenCommand, is_caller}
use Rattle.driver_caches.specs.Machine.{loads}

-- a READ BUFFER lists the entries of a subregion that is there, and all of them
abbrev pub IsWholeLoad : Shape → Cdb → Type 0
IsWholeLoad shape (ReadBuffer region sub len) =
    (is_present shape region sub ≡ true) × (len ≡ 8 * sub_length shape region sub)
IsWholeLoad shape _ = Unit {0}

-- each open READ BUFFER does
abbrev pub AllLoadsWhole : Shape → List OpenCommand → Type 0
AllLoadsWhole shape opens = AllByRecursion (λ (o : OpenCommand). IsWholeLoad shape o.command) opens

-- the unit of a cache has this shape
abbrev pub HasShape : Shape → CacheState → Type 0
HasShape shape cache = cache.shape ≡ shape

-- all units have this shape
abbrev pub AllHaveShape : Shape → List CacheState → Type 0
AllHaveShape shape caches = AllByRecursion (HasShape shape) caches

-- there is memory for the list of a READ BUFFER where none is open
abbrev pub HasListRoom : List OpenCommand → ℕ → Type 0
HasListRoom opens capacity = loads opens ≡ false → 523904 ≤ capacity

-- what holds between the open commands, the caches and the memory for a list
pub record IsReady (shape : Shape) (opens : List OpenCommand) (caches : List CacheState) (capacity : ℕ) : Type 0 where
  pub limits : IsWithinLimits shape
  pub shapes : AllHaveShape shape caches
  pub whole : AllLoadsWhole shape opens
  pub list : HasListRoom opens capacity

-- the tag of a command
abbrev pub tag_of : OpenCommand → ℕ
tag_of o = o.tag

-- the tags of the commands that callers asked for, in order of submission
abbrev pub caller_tags : List OpenCommand → List ℕ
caller_tags opens = map tag_of (filter is_caller opens)
