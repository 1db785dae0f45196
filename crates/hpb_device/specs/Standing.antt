-- Where a device stands in a history.
use Rattle.std.specs.Prelude.{◌≡◌, ℕ, ◌-◌, ◌^◌, min, true, List, [], ◌∷◌, Option, Some, None, if◌then◌else◌}
use Rattle.std.specs.Option.{option_map}
use Rattle.flash_pages.specs.Chip.{Page, erased_count}
use Rattle.flash_pages.specs.Place.{Place}
use Rattle.flash_pages.specs.Unit.{unit_of, next_seq}
use Rattle.flat_unit.specs.declared.event.Event.{Event}
use Rattle.flat_unit.specs.declared.event.Event.TheVariants.{Device}
use Rattle.flat_unit.specs.History.{History}
use Rattle.flat_unit.specs.Replays.{Group}
use Rattle.hpb_device.specs.declared.device.Stepped.{Stepped}
use Rattle.flat_unit.specs.Sizes.{Sizes}
use Rattle.flat_unit.specs.Stands.{First, Kept, Stands, StandsForeign}
use Rattle.flat_unit.specs.Task.{Task as Waiting}
use Rattle.hpb_device.specs.declared.device.Sent.{Sent}
use Rattle.hpb_device.specs.declared.device.Sent.TheVariants.{Nothing, Upiu}
use Rattle.hpb_device.specs.declared.task.Task.{Task}
use Rattle.hpb_device.specs.Keeps.{KeepsTasks}
use Rattle.hpb_device.specs.Limits.{limits_of}
use Rattle.hpb_device.specs.Sizes.{sizes}
use Rattle.hpb_device.specs.State.{DeviceState, IsSound}

abbrev pub sizes_of : DeviceState → Sizes
sizes_of device = sizes device.store.luns (limits_of device.shape) device.store.geometry

-- the blocks of the first task that were programmed
abbrev pub programmed_of : List Task → ℕ
programmed_of [] = 0
programmed_of (head ∷ _) = head.programmed

-- what a device keeps that has erased so many erase blocks, with these tasks
abbrev pub kept_of : (erases : ℕ) → DeviceState → List Waiting → Kept
kept_of erases device tasks = record {
  tasks = tasks;
  on = true;
  unit = unit_of device.store.luns device.store.units device.store.pages;
  programmed = programmed_of device.tasks;
  next = next_seq device.store.pages;
  free = erased_count device.store.pages;
  erases = erases;
}

-- the unit of a device's chip, its next sequence number and its erased pages, as a history begins over them
abbrev pub first_of : DeviceState → First
first_of device = record {
  unit = unit_of device.store.luns device.store.units device.store.pages;
  next = next_seq device.store.pages;
  free = erased_count device.store.pages;
}

-- the device keeps the tasks of the history, and stands at it; its chip is sound, and its count of erased blocks stops
-- at its last value
pub record DeviceStands (device : DeviceState) (first : First) (e : History) : Type 0 where
  pub tasks : List Waiting
  pub erases : ℕ
  pub keeps : KeepsTasks device.tasks device.held tasks
  pub counted : device.counts.erased ≡ min erases (2 ^ 64 - 1)
  pub sound : IsSound device
  pub stands : Stands (sizes_of device) first (kept_of erases device tasks) e

-- the device keeps the tasks of the history over a chip that is none of its own, which stays as it came
pub record DeviceStandsForeign (device : DeviceState) (chip : List Page) (first : First) (e : History) : Type 0 where
  pub tasks : List Waiting
  pub keeps : KeepsTasks device.tasks device.held tasks
  pub stays : device.store.pages ≡ chip
  pub unsound : ¬ IsSound device
  pub stands : StandsForeign (sizes_of device) first (kept_of 0 device tasks) e

-- the events that answer the bytes of the host at once
abbrev pub answer_events : Sent → List ℕ → List Event
answer_events Nothing out = []
answer_events Upiu out = Device out ∷ []

-- the place of a block that was moved
abbrev pub place_moved : Option (ℕ × ℕ) → Option Place
place_moved moved = option_map (λ (place : ℕ × ℕ). record { lun = place.0; lba = place.1 }) moved

-- what one step made
abbrev pub group_of : Stepped → List ℕ → Group
group_of result out = record {
  failed = result.failed;
  moved = place_moved result.moved;
  sent = if result.sent then Some out else None;
}
