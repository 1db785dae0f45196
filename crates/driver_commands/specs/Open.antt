-- What holds of an open command in memory.
use Rattle.std.specs.Prelude.{◌≤◌, ◌^◌, ◌≡◌, ◌-◌, ℕ, ◌*◌, Bool, true, false, List, length}
use Rattle.hpb_cdb.specs.declared.cdb.Cdb.{Cdb}
use Rattle.hpb_cdb.specs.declared.cdb.Cdb.TheVariants.{Read, Write, Capacity, HpbRead, ReadBuffer, Prefetch}
use Rattle.hpb_cdb.specs.declared.limits.Limits.{Limits}
use Rattle.hpb_cdb.specs.Cdb.{opcodes, HasRoom}
use Rattle.flat_unit.specs.Sizes.{Sizes}
use Rattle.driver_caches.specs.Machine.{is_load}
use Rattle.region_state.specs.declared.shape.Shape.{Shape}

-- the sizes by which a driver reads what comes: the limits of a unit, blocks of 4096 bytes, and room for 32 commands
abbrev pub sizes_in : Limits → Sizes
sizes_in lim = record {
  luns = 0;
  units = lim.units;
  block = 4096;
  room = 32;
  pages = 0;
  erase_block = 0;
  per_region = lim.per_region;
  per_sub = lim.per_sub;
  opcodes = opcodes;
  queries = false;
  manages = false;
}

-- the limits of the CDBs of a unit
abbrev pub limits_of : Shape → Limits
limits_of shape = record {
  units = shape.units;
  per_region = 2 ^ (shape.region_exp - 3);
  per_sub = 2 ^ (shape.sub_exp - 3);
}

-- the sizes by which a driver reads what comes from a unit
abbrev pub sizes_of : Shape → Sizes
sizes_of shape = sizes_in (limits_of shape)

-- the bytes that a command gets at most
abbrev pub gets : Cdb → ℕ
gets (Read lba n) = 4096 * n
gets (HpbRead lba entry n id) = 4096 * n
gets Capacity = 8
gets (ReadBuffer region sub len) = len
gets _ = 0

-- the bytes that a command gives
abbrev pub gives : Cdb → ℕ
gives (Write lba n) = 4096 * n
gives (Prefetch lba id len) = len
gives _ = 0

-- where it lists entries it is the driver's own, and has memory for the longest list of any unit
abbrev pub IsOwnLoad : Cdb → (caller : Bool) → (capacity : ℕ) → Type 0
IsOwnLoad command caller capacity = is_load command ≡ true → (caller ≡ false) × (523904 ≤ capacity)

-- there is memory for all that it gets, and it has all that it gives
pub record IsOpen (command : Cdb) (bytes : List ℕ) (asked given : ℕ) (got : List ℕ) (caller : Bool)
    (capacity : ℕ) : Type 0 where
  pub room : gets command ≤ capacity
  pub bytes_are : length bytes ≡ gives command
  pub asked_within : asked ≤ gives command
  pub given_within : given ≤ asked
  pub has_room : HasRoom command
  pub load : IsOwnLoad command caller capacity
