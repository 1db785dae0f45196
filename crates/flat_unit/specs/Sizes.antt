-- The sizes of a device, and which requests it serves (this project's own).
use Rattle.std.specs.Prelude.{ℕ, Bool, List}
use Rattle.hpb_cdb.specs.declared.limits.Limits.{Limits}

-- its logical units, and the blocks of each; the bytes of a block; the tasks that it keeps at most; the pages of the
-- chip that it looks at after a reset (0 where it looks at none), and those of an erase block; the blocks of a region
-- and of a subregion; the opcodes that it serves, and whether it serves QUERY REQUESTs and TASK MANAGEMENT REQUESTs
pub record Sizes : Type 0 where
  pub luns : ℕ
  pub units : ℕ
  pub block : ℕ
  pub room : ℕ
  pub pages : ℕ
  pub erase_block : ℕ
  pub per_region : ℕ
  pub per_sub : ℕ
  pub opcodes : List ℕ
  pub queries : Bool
  pub manages : Bool

-- the limits of a CDB's fields
abbrev pub limits_of : Sizes → Limits
limits_of s = record { units = s.units; per_region = s.per_region; per_sub = s.per_sub }
