-- The commands that a device serves, and the bytes that each moves (SBC; the HPB commands are this project's own).
use Rattle.std.specs.Prelude.{ℕ, ◌+◌, ◌*◌, Bool, true, false, List, Result, Err, if◌then◌else◌, ◌==◌, min, slice_index}
use Rattle.std.specs.List.{list_any}
use Rattle.hpb_cdb.specs.declared.cdb.Cdb.{Cdb}
use Rattle.hpb_cdb.specs.declared.cdb.Cdb.TheVariants.{HpbRead, ReadBuffer, Prefetch, InactOne, InactAll}
use Rattle.hpb_cdb.specs.declared.fault.CdbFault.{CdbFault}
use Rattle.hpb_cdb.specs.declared.fault.CdbFault.TheVariants.{Opcode}
use Rattle.hpb_cdb.specs.Cdb.{blocks_of}
use Rattle.hpb_cdb.specs.Read.{cdb_of}
use Rattle.flat_unit.specs.Sizes.{Sizes, limits_of}
use Rattle.flat_unit.specs.Work.{Work, ReadsBlocks, WritesBlocks, TakesList, ListsEntries, TellsCapacity, work_of}

-- the device serves the command with this opcode
abbrev pub serves_opcode : Sizes → ℕ → Bool
serves_opcode s opcode = list_any (λ (served : ℕ). served == opcode) s.opcodes

-- the command of a CDB, where the device serves it
abbrev pub command_of : Sizes → List ℕ → Result Cdb CdbFault
command_of s cdb = if serves_opcode s (slice_index cdb 0) then cdb_of (limits_of s) cdb else Err Opcode

-- the commands of HPB, which a device refuses while HPB is off
abbrev pub is_hpb : Cdb → Bool
is_hpb (HpbRead lba entry n id) = true
is_hpb (ReadBuffer region sub len) = true
is_hpb (Prefetch lba id len) = true
is_hpb (InactOne region) = true
is_hpb InactAll = true
is_hpb _ = false

-- a command reads blocks, or writes them
abbrev pub reads_blocks : Work → Bool
reads_blocks (ReadsBlocks lba n) = true
reads_blocks _ = false

abbrev pub is_read : Cdb → Bool
is_read command = reads_blocks (work_of command)

abbrev pub writes_blocks : Work → Bool
writes_blocks (WritesBlocks lba n) = true
writes_blocks _ = false

abbrev pub is_write : Cdb → Bool
is_write command = writes_blocks (work_of command)

-- the bytes that a command sends by DATA IN
abbrev pub given_by : Sizes → Work → ℕ
given_by s (ReadsBlocks lba n) = s.block * n
given_by s TellsCapacity = 8
given_by s (ListsEntries region sub len) = min len (8 * blocks_of (limits_of s) region sub)
given_by s _ = 0

abbrev pub bytes_given : Sizes → Cdb → ℕ
bytes_given s command = given_by s (work_of command)

-- the bytes that a command takes by DATA OUT
abbrev pub taken_by : Sizes → Work → ℕ
taken_by s (WritesBlocks lba n) = s.block * n
taken_by s (TakesList bytes) = bytes
taken_by s _ = 0

abbrev pub bytes_taken : Sizes → Cdb → ℕ
bytes_taken s command = taken_by s (work_of command)

-- the bytes that a command moves
abbrev pub needed : Sizes → Cdb → ℕ
needed s command = bytes_given s command + bytes_taken s command
