-- What a command moves, said once: READ(10) and HPB READ move the same blocks (SBC; the HPB commands are this project's
-- own).
use Rattle.std.specs.Prelude.{ℕ}
use Rattle.hpb_cdb.specs.declared.cdb.Cdb.{Cdb}
use Rattle.hpb_cdb.specs.declared.cdb.Cdb.TheVariants.{Read, Write, Capacity, HpbRead, ReadBuffer, Prefetch}

-- it sends so many blocks from an LBA on, or takes them; it takes a list of so many bytes; it sends so many bytes of
-- the entries of a subregion at most; it sends the capacity; or it moves nothing
pub data Work : Type 0 where
  ReadsBlocks : (lba n : ℕ) → Work
  WritesBlocks : (lba n : ℕ) → Work
  TakesList : (bytes : ℕ) → Work
  ListsEntries : (region sub len : ℕ) → Work
  TellsCapacity : Work
  MovesNothing : Work

-- the work of a command
abbrev pub work_of : Cdb → Work
work_of (Read lba n) = ReadsBlocks lba n
work_of (HpbRead lba entry n id) = ReadsBlocks lba n
work_of (Write lba n) = WritesBlocks lba n
work_of (Prefetch lba id len) = TakesList len
work_of (ReadBuffer region sub len) = ListsEntries region sub len
work_of Capacity = TellsCapacity
work_of _ = MovesNothing
