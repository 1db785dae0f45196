-- What a step may send for the first task (JESD220; one DATA IN for each block, and at most 8 blocks for each READY TO
-- TRANSFER, are this project's own).
use Rattle.std.specs.Prelude.{◌≡◌, ℕ, ◌-◌, ◌*◌, ◌^◌, ◌<◌, ◌⊎◌, ◌++◌, min, List, [], ◌∷◌, length}
use Rattle.byteorder.specs.Endian.{big_bytes}
use Rattle.hpb_cdb.specs.declared.cdb.Cdb.{Cdb}
use Rattle.hpb_sense.specs.declared.sense.FixedSense.{FixedSense}
use Rattle.upiu_wire.specs.declared.kind.Kind.TheVariants.{DataIn, ReadyToTransfer}
use Rattle.upiu_wire.specs.Upiu.{Upiu, upiu_out}
use Rattle.upiu_wire.specs.Written.{transfer_upiu, data_upiu, response_upiu}
use Rattle.flat_unit.specs.Command.{bytes_given, bytes_taken, given_by, needed, taken_by}
use Rattle.flat_unit.specs.Reply.{check}
use Rattle.flat_unit.specs.Senses.{read_failed, write_failed, chip_failed, no_number}
use Rattle.flat_unit.specs.Sizes.{Sizes}
use Rattle.flat_unit.specs.Task.{Task}
use Rattle.flat_unit.specs.Work.{Work, ReadsBlocks, WritesBlocks, ListsEntries, TellsCapacity, work_of}

-- DATA IN, READY TO TRANSFER for so many bytes, GOOD with a segment, or CHECK CONDITION with sense
pub data Answer : Type 0 where
  Data : List ℕ → Answer
  Ask : ℕ → Answer
  Good : List ℕ → Answer
  Check : FixedSense → Answer

-- the answer as a UPIU
abbrev pub upiu_of : Sizes → Task → Answer → Upiu
upiu_of s task (Data bytes) = data_upiu DataIn task.lun task.tag task.sent bytes
upiu_of s task (Ask count) = transfer_upiu ReadyToTransfer task.lun task.tag task.asked count
upiu_of s task (Good segment) = response_upiu task.lun task.tag 0x00 (task.expected - needed s task.command) segment
upiu_of s task (Check sense) = check task.lun task.tag (task.expected - task.sent - length task.come) sense

-- the bytes are the next piece of what the command gives
abbrev pub IsPieceBy : Sizes → Task → Work → List ℕ → Type 0
IsPieceBy s task (ReadsBlocks lba n) bytes = length bytes ≡ s.block
IsPieceBy s task TellsCapacity bytes = bytes ≡ big_bytes 4 (s.units - 1) ++ big_bytes 4 s.block
IsPieceBy s task (ListsEntries region sub len) bytes =
    length bytes ≡ min s.block (given_by s (ListsEntries region sub len) - task.sent)
IsPieceBy s task _ bytes = ⊥

abbrev pub IsPiece : Sizes → Task → Cdb → List ℕ → Type 0
IsPiece s task command bytes = IsPieceBy s task (work_of command) bytes

-- how many bytes a command asks for at once
abbrev pub asked_by : Sizes → Task → Work → ℕ
asked_by s task (WritesBlocks lba n) = min (8 * s.block) (s.block * n - task.asked)
asked_by s task work = taken_by s work

abbrev pub asked_at_once : Sizes → Task → Cdb → ℕ
asked_at_once s task command = asked_by s task (work_of command)

-- a command may end with this sense
abbrev pub MayEndBy : Work → FixedSense → Type 0
MayEndBy (ReadsBlocks lba n) sense = (sense ≡ read_failed) ⊎ (sense ≡ chip_failed)
MayEndBy (WritesBlocks lba n) sense = (sense ≡ write_failed) ⊎ ((sense ≡ no_number) ⊎ (sense ≡ chip_failed))
MayEndBy _ sense = sense ≡ chip_failed

abbrev pub MayEndWith : Cdb → FixedSense → Type 0
MayEndWith command sense = MayEndBy (work_of command) sense

-- the task allows this answer
abbrev pub Allows : Sizes → Task → Answer → Type 0
Allows s task (Data bytes) = (task.sent < bytes_given s task.command) × IsPiece s task task.command bytes
Allows s task (Ask count) =
    (task.asked ≡ length task.come) × (task.asked < bytes_taken s task.command)
    × (count ≡ asked_at_once s task task.command)
Allows s task (Good segment) =
    (task.sent ≡ bytes_given s task.command) × (length task.come ≡ bytes_taken s task.command)
    × (length segment < 2 ^ 16)
Allows s task (Check sense) = MayEndWith task.command sense

-- the first of these tasks allows these bytes
abbrev pub MaySend : Sizes → List Task → List ℕ → Type 0
MaySend s [] bytes = ⊥
MaySend s (task ∷ _) bytes = (a : Answer) × Allows s task a × (bytes ≡ upiu_out (upiu_of s task a))
