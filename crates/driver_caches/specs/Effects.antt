-- What the caches of the units have to be for a call, and what a read and a RESPONSE make of them.
use Rattle.std.specs.Prelude.{◌≡◌, ◌≤◌, ℕ, ◌+◌, ◌*◌, Bool, true, List, length, map}
use Rattle.std.specs.Prelude.{if◌then◌else◌}
use Rattle.std.specs.List.{AllByRecursion}
use Rattle.host_map_cache.specs.Cache.{CacheState, plainly_read, sub_length, touched}
use Rattle.host_map_cache.specs.Shapes.{is_present}
use Rattle.region_state.specs.declared.shape.Shape.{Shape}
use Rattle.hpb_cdb.specs.declared.cdb.Cdb.{Cdb}
use Rattle.hpb_cdb.specs.declared.cdb.Cdb.TheVariants.{ReadBuffer}
use Rattle.driver_caches.specs.Machine.{change_cache, load_ends, with_hint}

-- the unit of a cache has these blocks
abbrev pub HasBlocks : ℕ → ℕ → CacheState → Type 0
HasBlocks lba n c = lba + n ≤ c.shape.units

-- each unit with a cache has them
abbrev pub AllHaveBlocks : ℕ → ℕ → List CacheState → Type 0
AllHaveBlocks lba n cs = AllByRecursion (HasBlocks lba n) cs

-- the unit of a cache has this subregion
abbrev pub HasSub : ℕ → ℕ → CacheState → Type 0
HasSub region sub c = is_present c.shape region sub ≡ true

-- each unit with a cache has it
abbrev pub AllHaveSub : ℕ → ℕ → List CacheState → Type 0
AllHaveSub region sub cs = AllByRecursion (HasSub region sub) cs

-- these bytes are entries of all its blocks
abbrev pub HasEntries : ℕ → ℕ → List ℕ → CacheState → Type 0
HasEntries region sub bytes c = length bytes ≡ 8 * sub_length c.shape region sub

-- in each unit with a cache
abbrev pub AllHaveEntries : ℕ → ℕ → List ℕ → List CacheState → Type 0
AllHaveEntries region sub bytes cs = AllByRecursion (HasEntries region sub bytes) cs

-- the shapes of the caches, which no call changes
abbrev pub shapes_of : List CacheState → List Shape
shapes_of caches = map (λ (c : CacheState). c.shape) caches

-- a read went out, plainly or with entries
abbrev pub read_once : Bool → ℕ → ℕ → CacheState → CacheState
read_once plain lba n c = if plain then touched (plainly_read c lba n) lba n else touched c lba n

-- READ BUFFER is of a subregion that each unit with a cache has
abbrev pub LoadsThere : Cdb → List CacheState → Type 0
LoadsThere (ReadBuffer region sub len) cs = AllHaveSub region sub cs
LoadsThere _ cs = Unit {0}

-- READ BUFFER that ended GOOD got the entries of all its blocks
abbrev pub LoadsWhole : Bool → Cdb → List ℕ → List CacheState → Type 0
LoadsWhole true (ReadBuffer region sub len) got cs = AllHaveEntries region sub got cs
LoadsWhole good _ got cs = Unit {0}

-- a RESPONSE ended a command: first the effect of the command itself, then where it is GOOD the hint of the segment
abbrev pub responded : Bool → ℕ → Cdb → List ℕ → List ℕ → List CacheState → List CacheState
responded good lun command got segment caches =
    let ended : List CacheState = change_cache lun (load_ends good got command) caches in
    if good then with_hint segment ended else ended
