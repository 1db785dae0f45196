-- What one step makes of the first task.
use Rattle.std.specs.Prelude.{◌≡◌, ◌≢◌, ◌⊎◌, ℕ, ◌+◌, ◌-◌, ◌*◌, ◌/◌, ◌^◌, ◌<◌, ⊤, true, is_some, nat_lt, if◌then◌else◌}
use Rattle.std.specs.Prelude.{Option, Some, None, List, [], ◌++◌, length, take, min, slice_range, false}
use Rattle.byteorder.specs.Endian.{big_bytes}
use Rattle.hpb_outside.specs.Faults.{Rose}
use Rattle.flash_pages.specs.declared.chip.ChipOp.{ChipOp}
use Rattle.flash_pages.specs.declared.chip.ChipOp.TheVariants.{Read as ReadCall, Program as ProgramCall}
use Rattle.flash_pages.specs.Place.{Place}
use Rattle.flash_pages.specs.Chip.{Page, erased_count}
use Rattle.flash_pages.specs.Unit.{block_of, current, next_seq}
use Rattle.collector_laws.specs.CollectStep.{collect_step}
use Rattle.flash_store.specs.declared.answers.Moved.{Moved}
use Rattle.flash_store.specs.declared.answers.StoreFault.TheVariants as fault
use Rattle.flash_store.specs.Collecting.{call_of}
use Rattle.flash_store.specs.Entries.{IsHonoured, entry_for, is_valid_page}
use Rattle.flash_store.specs.Store.{Collects, IsWriteFault, StoreState, Writes, collecting}
use Rattle.flat_unit.specs.Command.{is_write}
use Rattle.flat_unit.specs.Entries.{entries_from}
use Rattle.hpb_cdb.specs.declared.cdb.Cdb.{Cdb}
use Rattle.hpb_cdb.specs.declared.cdb.Cdb.TheVariants.{Capacity, ReadBuffer}
use Rattle.hpb_cdb.specs.declared.limits.Limits.{Limits}
use Rattle.upiu_wire.specs.declared.kind.Kind.TheVariants.{DataIn, ReadyToTransfer}
use Rattle.upiu_wire.specs.Upiu.{upiu_out}
use Rattle.upiu_wire.specs.Written.{data_upiu, transfer_upiu}
use Rattle.hpb_device.specs.declared.task.Task.{Task}
use Rattle.hpb_device.specs.declared.reply.Cause.{Cause}
use Rattle.hpb_device.specs.declared.reply.Cause.TheVariants.{ReadFailed, WriteFailed, NoNumber}
use Rattle.hpb_device.specs.declared.reply.Reply.{Reply}
use Rattle.hpb_device.specs.declared.reply.Reply.TheVariants.{Good, Check}
use Rattle.hpb_device.specs.declared.advance.FailedCall.{FailedCall}
use Rattle.hpb_device.specs.declared.advance.FailedCall.TheVariants.{MappedRead, EntryRead, WriteStep}
use Rattle.hpb_device.specs.declared.advance.Progress.{Progress}
use Rattle.hpb_device.specs.declared.advance.Progress.TheVariants.{Sends, Silent, Ended, Failed}
use Rattle.hpb_device.specs.declared.advance.Transfer.{Transfer}
use Rattle.hpb_device.specs.declared.advance.Transfer.TheVariants.{LookedUp, ByEntry, EntryList, UnitCapacity, Ready}
use Rattle.hpb_device.specs.declared.advance.Internal.{Internal}
use Rattle.hpb_device.specs.declared.advance.Internal.TheVariants.{Missed, Programmed, Collected}
use Rattle.hpb_device.specs.Task.{AreProgrammed, bytes_taken, to_try}
use Rattle.hpb_device.specs.Work.{IsReading, first_in, listed_from, work_of}

-- the first block that a command names
abbrev pub first_block : Cdb → ℕ
first_block command = first_in (work_of command)

-- where block k of a command stands
abbrev pub nth_place : Task → ℕ → Place
nth_place task k = record { lun = task.lun; lba = first_block task.command + k }

-- where the next block of a read stands
abbrev pub next_place : Task → Place
next_place task = nth_place task (task.sent / 4096)

-- CHECK CONDITION, with what wasn't moved as residual
abbrev pub check : Task → Cause → Reply
check task cause = Check task.lun task.tag (task.expected - task.sent - task.come) cause

-- a command that reads blocks
abbrev pub ReadsBlocks : Cdb → Type 0
ReadsBlocks command = IsReading (work_of command)

-- the next block of a read was sent
pub record SendsBlock (old : StoreState) (task rest : Task) (out : List ℕ) : Type 0 where
  pub reads : ReadsBlocks task.command
  pub more : task.sent < task.given
  pub size : length (block_of old.pages (next_place task)) ≡ 4096
  pub sent : out ≡ upiu_out (data_upiu DataIn task.lun task.tag task.sent (block_of old.pages (next_place task)))
  pub task_is : rest ≡ record task { sent = task.sent + 4096; tried = false }

-- an entry of the next block of a read was tried in vain, and nothing was sent
pub record Misses (task rest : Task) : Type 0 where
  pub reads : ReadsBlocks task.command
  pub more : task.sent < task.given
  pub untried : task.tried ≡ false
  pub task_is : rest ≡ record task { tried = true }

-- the first block of the subregion that READ BUFFER names
abbrev pub first_listed : Limits → Cdb → ℕ
first_listed lim command = listed_from lim (work_of command)

-- the entries of blocks of a logical unit from an LBA on, 8 bytes each
abbrev pub entries_of : List Page → ℕ → ℕ → ℕ → List ℕ
entries_of chip lun first count = entries_from (λ lba. entry_for chip (record { lun = lun; lba = lba })) first count

-- the next entries of a subregion were sent, as they are at this step
pub record Lists (lim : Limits) (old : StoreState) (task rest : Task) (count : ℕ) (out : List ℕ) : Type 0 where
  pub read_buffer : (region : ℕ) × (sub : ℕ) × (len : ℕ) × (task.command ≡ ReadBuffer region sub len)
  pub more : task.sent < task.given
  pub counted : count ≡ min 4096 (task.given - task.sent)
  pub sent : out ≡ upiu_out (data_upiu DataIn task.lun task.tag task.sent
      (take count (entries_of old.pages task.lun (first_listed lim task.command + task.sent / 8) ((count + 7) / 8))))
  pub task_is : rest ≡ record task { sent = task.sent + count }

-- the LBA of the last block of a unit, and the bytes of a block (SBC, READ CAPACITY (10))
abbrev pub capacity_of : ℕ → List ℕ
capacity_of units = big_bytes 4 (units - 1) ++ big_bytes 4 4096

-- the capacity of the unit was sent
pub record Tells (units : ℕ) (task rest : Task) (out : List ℕ) : Type 0 where
  pub command : task.command ≡ Capacity
  pub none_sent : task.sent ≡ 0
  pub sent : out ≡ upiu_out (data_upiu DataIn task.lun task.tag task.sent (capacity_of units))
  pub task_is : rest ≡ record task { sent = 8 }

-- the next data of a command were asked for
pub record Asks (task rest : Task) (count : ℕ) (out : List ℕ) : Type 0 where
  pub all_come : task.come ≡ task.asked
  pub all_programmed : AreProgrammed task
  pub more : task.asked < bytes_taken task.command
  pub counted : count ≡ min 32768 (bytes_taken task.command - task.asked)
  pub sent : out ≡ upiu_out (transfer_upiu ReadyToTransfer task.lun task.tag task.asked count)
  pub task_is : rest ≡ record task { asked = task.asked + count }

-- the next block of a write, which has come, was programmed
pub record Programs (old new : StoreState) (held : List ℕ) (task rest : Task) (start : ℕ) : Type 0 where
  pub write : is_write task.command ≡ true
  pub more : 4096 * task.programmed < task.come
  pub numbered : next_seq old.pages < 2 ^ 62
  pub starts : start + task.come ≡ 4096 * task.programmed + length held
  pub writes : Writes old (nth_place task task.programmed) (slice_range held start (start + 4096)) new
  pub task_is : rest ≡ record task { programmed = task.programmed + 1 }

-- the collector made a step in the place of a program
pub record CollectsFirst (old new : StoreState) (task rest : Task) (moved : Moved) : Type 0 where
  pub write : is_write task.command ≡ true
  pub more : 4096 * task.programmed < task.come
  pub collects : Collects old moved new
  pub task_is : rest ≡ task

-- all data of a command were moved, and the blocks that came were programmed
pub record IsComplete (task : Task) : Type 0 where
  pub sent : task.sent ≡ task.given
  pub come : task.come ≡ bytes_taken task.command
  pub programmed : AreProgrammed task

-- no sequence number is left for a block that has come
pub record HasNoNumber (old : StoreState) (task : Task) : Type 0 where
  pub write : is_write task.command ≡ true
  pub more : 4096 * task.programmed < task.come
  pub ended : next_seq old.pages ≡ 2 ^ 62

-- a command is answered: it is complete, or there is no sequence number left
abbrev pub EndsWith : StoreState → Task → Reply → Type 0
EndsWith old task reply =
    (IsComplete task × (reply ≡ Good task.lun task.tag (task.expected - task.sent - task.come)))
    ⊎ (HasNoNumber old task × (reply ≡ check task NoNumber))

-- the call of the chip that failed
abbrev pub op_of : FailedCall → ChipOp
op_of MappedRead = ReadCall
op_of EntryRead = ReadCall
op_of (WriteStep op) = op

-- the next call for a block of a write: the collector's where at most an erase block's worth of pages is erased, and
-- else its program
abbrev pub write_call : StoreState → ChipOp
write_call old =
    if nat_lt old.geometry.pages (erased_count old.pages) then ProgramCall
    else call_of (collect_step old.geometry (collecting old)).did

-- a block is to be read, or a block is to be programmed and has a sequence number
abbrev pub IsDue : StoreState → Task → FailedCall → Type 0
IsDue old task MappedRead = ReadsBlocks task.command × (task.sent < task.given)
IsDue old task EntryRead = ReadsBlocks task.command × (task.sent < task.given)
IsDue old task (WriteStep op) =
    (is_write task.command ≡ true) × (4096 * task.programmed < task.come) × (next_seq old.pages ≢ 2 ^ 62)
    × (op ≡ write_call old)

-- what a call that failed leaves: the collector holds the victim that it has chosen, and all else is as before
abbrev pub FailsWith : (old new : StoreState) → FailedCall → Type 0
FailsWith old new (WriteStep op) = IsWriteFault old (fault.Failed op) new
FailsWith old new _ = collecting new ≡ collecting old

-- why a command ends where a call of the chip failed
abbrev pub failure_of : FailedCall → Cause
failure_of (WriteStep op) = WriteFailed
failure_of _ = ReadFailed

-- a call of the chip failed that was due
pub record Fails (old new : StoreState) (task : Task) (what : FailedCall) (reply : Reply) : Type 0 where
  pub due : IsDue old task what
  pub cause : Rose old.faults new.faults
  pub left : FailsWith old new what
  pub answer : reply ≡ check task (failure_of what)

-- where a command is over
abbrev pub WhereOver : Progress → Type 0 → Type 0
WhereOver (Ended reply) P = P
WhereOver (Failed what reply) P = P
WhereOver _ P = ⊤

-- what was sent for a task that goes on
abbrev pub Transfers : Limits → StoreState → Transfer → (task rest : Task) → (out : List ℕ) → Type 0
Transfers lim old LookedUp task rest out = SendsBlock old task rest out
Transfers lim old ByEntry task rest out = SendsBlock old task rest out
Transfers lim old EntryList task rest out = (count : ℕ) × Lists lim old task rest count out
Transfers lim old UnitCapacity task rest out = Tells old.units task rest out
Transfers lim old Ready task rest out = (count : ℕ) × Asks task rest count out

-- the data that are held after that: none where entries were listed, or where the next data were asked for
abbrev pub held_after : Transfer → List ℕ → List ℕ
held_after EntryList held = []
held_after Ready held = []
held_after _ held = held

-- What was done for a task that goes on, and for which nothing was sent. `start` is where the next block stands in the
-- data that are held.
abbrev pub Does : (old new : StoreState) → (held : List ℕ) → Internal → (task rest : Task) → Type 0
Does old new held Missed task rest = Misses task rest × (collecting new ≡ collecting old)
Does old new held Programmed task rest = (start : ℕ) × Programs old new held task rest start
Does old new held (Collected moved) task rest = CollectsFirst old new task rest moved

-- what a step of a command came to
abbrev pub Advances : Limits → (old new : StoreState) → (held held_now : List ℕ) → Task → Progress → (out : List ℕ)
    → Type 0
Advances lim old new held held_now task (Sends what rest) out =
    Transfers lim old what task rest out × (collecting new ≡ collecting old) × (held_now ≡ held_after what held)
Advances lim old new held held_now task (Silent what rest) out = Does old new held what task rest × (held_now ≡ held)
Advances lim old new held held_now task (Ended reply) out = EndsWith old task reply × (collecting new ≡ collecting old)
Advances lim old new held held_now task (Failed what reply) out =
    Fails old new task what reply × (new.pages ≡ old.pages)

-- How the entry of the next block served it. An entry that is to be tried and is the number of the block's current page
-- gives the block, and any other is tried in vain; where none is to be tried the block is looked up. A call of the chip
-- that failed was due: the look-up found a page, or the entry named a valid one.
abbrev pub ServesEntry : Option ℕ → StoreState → Task → Progress → Type 0
ServesEntry entry old task (Sends LookedUp rest) = to_try entry task ≡ None
ServesEntry entry old task (Sends ByEntry rest) =
    (x : ℕ) × (to_try entry task ≡ Some x) × IsHonoured old.pages (next_place task) x
ServesEntry entry old task (Silent Missed rest) =
    (x : ℕ) × (to_try entry task ≡ Some x) × ¬ IsHonoured old.pages (next_place task) x
ServesEntry entry old task (Failed MappedRead reply) =
    (to_try entry task ≡ None) × (is_some (current old.pages (next_place task)) ≡ true)
ServesEntry entry old task (Failed EntryRead reply) =
    (x : ℕ) × (to_try entry task ≡ Some x) × (is_valid_page old.pages x ≡ true)
ServesEntry entry old task _ = ⊤

-- the store serves the same blocks of the same chip
pub record IsSameStore (old new : StoreState) : Type 0 where
  pub geometry : new.geometry ≡ old.geometry
  pub luns : new.luns ≡ old.luns
  pub units : new.units ≡ old.units

-- the command that is kept after a step, where it is kept, is so
abbrev pub AllTasks : (Task → Type 0) → Progress → Type 0
AllTasks P (Sends what rest) = P rest
AllTasks P (Silent what rest) = P rest
AllTasks P (Ended reply) = ⊤
AllTasks P (Failed what reply) = ⊤
