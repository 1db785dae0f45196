-- What a device makes of the regions of its units, and what it tells of them (this project's own).
use Rattle.std.specs.Prelude.{⊤, ◌≡◌, ℕ, ◌<◌, true, List, [], map, replicate, slice_index_or, slice_set}
use Rattle.flash_store.specs.declared.answers.Moved.{Moved}
use Rattle.flash_store.specs.declared.answers.Moved.TheVariants.{Page}
use Rattle.region_state.specs.declared.shape.Shape.{Shape}
use Rattle.region_state.specs.Machine.{Machine, after_change, start}
use Rattle.region_state.specs.Shape.{IsWithinLimits}
use Rattle.flat_unit.specs.Hints.{Hinted, after_good, after_take, hint_of, hint_segment, machine_after}
use Rattle.flat_unit.specs.History.{History}
use Rattle.flat_unit.specs.Queue.{on_after, tasks_after}
use Rattle.flat_unit.specs.Task.{Task as Waiting}
use Rattle.hpb_device.specs.declared.advance.Internal.TheVariants.{Collected}
use Rattle.hpb_device.specs.declared.advance.Progress.{Progress}
use Rattle.hpb_device.specs.declared.advance.Progress.TheVariants.{Silent, Ended}
use Rattle.hpb_device.specs.declared.reply.Reply.TheVariants.{Good}
use Rattle.hpb_device.specs.declared.task.Task.{Task}
use Rattle.hpb_device.specs.Keeps.{KeepsTasks}
use Rattle.hpb_device.specs.Limits.{limits_of}
use Rattle.hpb_device.specs.Standing.{sizes_of}
use Rattle.hpb_device.specs.State.{DeviceState}
use Rattle.hpb_device.specs.Task.{IsServed}

-- the regions of a logical unit
abbrev pub regions_at : Shape → List Machine → ℕ → Machine
regions_at shape machines lun = slice_index_or machines lun (start shape)

-- those of one unit changed
abbrev pub with_regions : Shape → List Machine → ℕ → (Machine → Machine) → List Machine
with_regions shape machines lun change = slice_set machines lun (change (regions_at shape machines lun))

-- a page that the collector programmed anew counts as a change of its block
abbrev pub regions_moved : Shape → List Machine → Moved → List Machine
regions_moved shape machines (Page lun lba) = with_regions shape machines lun (λ m. after_change m lba)
regions_moved shape machines _ = machines

-- the regions of so many logical units of one shape
pub record AreRegions (shape : Shape) (luns : ℕ) (machines : List Machine) : Type 0 where
  pub limits : IsWithinLimits shape
  pub shapes : map (λ (m : Machine). m.shape) machines ≡ replicate luns shape

-- a command of one of these units, which can be served
pub record IsOfUnits (shape : Shape) (luns : ℕ) (task : Task) : Type 0 where
  pub lun : task.lun < luns
  pub served : IsServed (limits_of shape) task.command

-- the place of a page that was moved is one of these units
abbrev pub IsMovedWithin : Shape → ℕ → Moved → Type 0
IsMovedWithin shape luns (Page lun lba) = (lun < luns) × (lba < shape.units)
IsMovedWithin shape luns _ = ⊤

abbrev pub IsProgressWithin : Shape → ℕ → Progress → Type 0
IsProgressWithin shape luns (Silent (Collected moved) rest) = IsMovedWithin shape luns moved
IsProgressWithin shape luns _ = ⊤

-- a command that succeeded is taken in, and then what is due is told; no other step but one of the collector changes a
-- region
abbrev pub regions_after : Shape → List Machine → Task → Progress → List Machine
regions_after shape machines task (Ended (Good lun tag residual)) =
    with_regions shape machines task.lun (λ m. after_take (after_good m task.command))
regions_after shape machines task (Silent (Collected moved) rest) = regions_moved shape machines moved
regions_after shape machines task _ = machines

-- the segment of the RESPONSE to a command that succeeded
abbrev pub segment_told : Shape → List Machine → Task → Progress → List ℕ
segment_told shape machines task (Ended (Good lun tag residual)) =
    hint_segment (hint_of (after_good (regions_at shape machines task.lun) task.command) task.lun)
segment_told shape machines task _ = []

-- the device keeps the tasks of the history, after which HPB is on
pub record KeepsHistory (device : DeviceState) (e : History) : Type 0 where
  pub tasks : List Waiting
  pub keeps : KeepsTasks device.tasks device.held tasks
  pub same : tasks_after (sizes_of device) e ≡ tasks
  pub on : on_after e ≡ true

-- the regions of each unit are those of the history, and each GOOD RESPONSE so far told what was to be told
pub record HintsStand (device : DeviceState) (e : History) : Type 0 where
  pub regions : (lun : ℕ) → lun < device.store.luns
      → regions_at device.shape device.regions lun ≡ machine_after device.shape (sizes_of device) lun e
  pub hinted : Hinted device.shape (sizes_of device) e
