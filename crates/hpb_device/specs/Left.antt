-- How many steps a device takes at most before it is at rest.
use Rattle.std.specs.Prelude.{◌≡◌, ℕ, Bool, nat_lt, false, zero, suc, ◌+◌, ◌-◌, ◌*◌, ◌/◌, if◌then◌else◌, min, List, []}
use Rattle.std.specs.Prelude.{◌∷◌, sum_by}
use Rattle.std.specs.List.{AllByRecursion}
use Rattle.collector_laws.specs.Changes.{until_room}
use Rattle.flash_store.specs.Store.{StoreState, collecting}
use Rattle.flat_unit.specs.Command.{is_write}
use Rattle.hpb_cdb.specs.declared.limits.Limits.{Limits}
use Rattle.hpb_device.specs.declared.task.Task.{Task}
use Rattle.hpb_device.specs.Limits.{limits_of}
use Rattle.hpb_device.specs.State.{DeviceState}
use Rattle.hpb_device.specs.declared.task.Work.{Work}
use Rattle.hpb_device.specs.declared.task.Work.TheVariants.{ReadBlocks, WriteBlocks, TakeList}
use Rattle.hpb_device.specs.Task.{bytes_given}
use Rattle.hpb_device.specs.Work.{work_of}

-- the steps of so many blocks of a write: the collector makes so many before the first one is programmed, and two for
-- each page of an erase block, less one, before each other
abbrev pub write_steps : (pages wait : ℕ) → (blocks : ℕ) → ℕ
write_steps pages wait zero = 0
write_steps pages wait (suc more) = 2 * pages * more + wait + 1

-- the entries that may be tried yet: one for each block of a read that is left, but for the one that was tried
abbrev pub tries_by : Work → (sent : ℕ) → (tried : Bool) → ℕ
tries_by (ReadBlocks lba n) sent tried = n - sent / 4096 - (if tried then 1 else 0)
tries_by _ sent tried = 0

-- the READY TO TRANSFERs that are left: one for each 8 blocks of a write, and one for a list
abbrev pub asks_by : Work → (asked : ℕ) → ℕ
asks_by (WriteBlocks lba n) asked = (4096 * n - asked + 32767) / 32768
asks_by (TakeList bytes) asked = if nat_lt asked bytes then 1 else 0
asks_by _ asked = 0

-- the blocks that are to be programmed
abbrev pub unprogrammed_by : Work → (programmed : ℕ) → ℕ
unprogrammed_by (WriteBlocks lba n) programmed = n - programmed
unprogrammed_by _ programmed = 0

-- the steps of a task: one for each piece that is sent, one for each entry that may be tried, one for each READY TO
-- TRANSFER, those of its blocks that are to be programmed, and one for its answer
abbrev pub steps_of : Limits → (pages wait : ℕ) → Task → ℕ
steps_of lim pages wait task =
    let work = work_of task.command in
    (bytes_given lim task.command - task.sent + 4095) / 4096 + tries_by work task.sent task.tried
    + asks_by work task.asked
    + write_steps pages wait (unprogrammed_by work task.programmed) + 1

-- the steps of the collector before the next block is programmed
abbrev pub wait_of : StoreState → ℕ
wait_of store = min (until_room store.geometry (collecting store)) (2 * store.geometry.pages - 1)

-- the steps of the tasks, the first of which waits for so many steps of the collector
abbrev pub tasks_left : Limits → (pages wait : ℕ) → List Task → ℕ
tasks_left lim pages wait [] = 0
tasks_left lim pages wait (head ∷ others) =
    steps_of lim pages wait head + sum_by (steps_of lim pages (2 * pages - 1)) others

-- the pages that the scan has still to read
abbrev pub unscanned : DeviceState → ℕ
unscanned device = device.store.geometry.blocks * device.store.geometry.pages - device.store.scanned

-- the steps that are left
abbrev pub steps_left : DeviceState → ℕ
steps_left device =
    unscanned device + tasks_left (limits_of device.shape) device.store.geometry.pages (wait_of device.store)
    device.tasks

-- none of these tasks is a write
abbrev pub KeepsNoWrite : List Task → Type 0
KeepsNoWrite tasks = AllByRecursion (λ (task : Task). is_write task.command ≡ false) tasks
