-- What the steps of a command do.
use Rattle.std.specs.Prelude.{ℕ, ◌+◌, ◌*◌, min}
use Rattle.hpb_cdb.specs.declared.cdb.Cdb.{Cdb}
use Rattle.hpb_cdb.specs.declared.cdb.Cdb.TheVariants.{Read, Write, Capacity, HpbRead, ReadBuffer, Prefetch}
use Rattle.hpb_cdb.specs.declared.limits.Limits.{Limits}
use Rattle.hpb_cdb.specs.Cdb.{blocks_of}
use Rattle.hpb_device.specs.declared.task.Work.{Work}
use Rattle.hpb_device.specs.declared.task.Work.TheVariants.{ReadBlocks, WriteBlocks, TakeList, ListEntries}
use Rattle.hpb_device.specs.declared.task.Work.TheVariants.{TellCapacity, AnswerOnly}

-- the work of a command: HPB READ reads as READ(10) does
abbrev pub work_of : Cdb → Work
work_of (Read lba n) = ReadBlocks lba n
work_of (HpbRead lba entry n id) = ReadBlocks lba n
work_of (Write lba n) = WriteBlocks lba n
work_of (Prefetch lba id len) = TakeList len
work_of (ReadBuffer region sub len) = ListEntries region sub len
work_of Capacity = TellCapacity
work_of _ = AnswerOnly

-- the bytes that it sends by DATA IN
abbrev pub given_by : Limits → Work → ℕ
given_by lim (ReadBlocks lba n) = 4096 * n
given_by lim (ListEntries region sub len) = min len (8 * blocks_of lim region sub)
given_by lim TellCapacity = 8
given_by lim _ = 0

-- the bytes that it takes by DATA OUT
abbrev pub taken_by : Work → ℕ
taken_by (WriteBlocks lba n) = 4096 * n
taken_by (TakeList bytes) = bytes
taken_by _ = 0

-- its first block
abbrev pub first_in : Work → ℕ
first_in (ReadBlocks lba n) = lba
first_in (WriteBlocks lba n) = lba
first_in _ = 0

-- the first block that it lists
abbrev pub listed_from : Limits → Work → ℕ
listed_from lim (ListEntries region sub len) = region * lim.per_region + sub * lim.per_sub
listed_from lim _ = 0

-- it reads blocks
abbrev pub IsReading : Work → Type 0
IsReading (ReadBlocks lba n) = Unit {0}
IsReading _ = ⊥
