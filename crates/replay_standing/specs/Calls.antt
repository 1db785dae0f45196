-- What one call of a device leads to, from wherever the device stands.
use Rattle.std.specs.Prelude.{◌≡◌, ℕ, ◌≤◌, List, [], length, All}
use Rattle.flat_unit.specs.declared.event.Event.{Event}
use Rattle.flat_unit.specs.Queue.{on_after}
use Rattle.flat_unit.specs.Replays.{Progress, Group, IsGroup, IsTimely, IsCollection, collected_to, received, stepped}
use Rattle.flat_unit.specs.Replays.{tasks_at, without_writes}
use Rattle.flat_unit.specs.Sound.{answers_to}
use Rattle.hpb_device.specs.Standing.{sizes_of}
use Rattle.hpb_device.specs.State.{DeviceState}
use Rattle.replay_standing.specs.Standing.{Standing}

-- a step made a group, and the device stands at the moment after it
pub record HasStepped (start now : DeviceState) (p : Progress) (g : Group) : Type 0 where
  pub is_group : IsGroup g
  pub timely : IsTimely (sizes_of start) p g
  pub standing : Standing start now (stepped (sizes_of start) p g)

-- bytes of the host came: these events are what answers them at once, and the device stands at the moment after them
pub record HasReceived (start now : DeviceState) (p : Progress) (bytes : List ℕ) (answer : List Event) : Type 0 where
  pub answers : answers_to (sizes_of start) (on_after p.events) (tasks_at (sizes_of start) p) bytes ≡ answer
  pub standing : Standing start now (received (sizes_of start) p bytes)

-- a call of the collector made these events, one at most, and the device stands at the moment after it; the runs that
-- began with a write end, and where there is no run, nothing ends
pub record HasCalled (start now : DeviceState) (p : Progress) (group : List Event) : Type 0 where
  pub few : length group ≤ 1
  pub collection : All IsCollection group
  pub standing : Standing start now (collected_to 1 group (without_writes p))
  pub alone : p.runs ≡ [] → Standing start now (collected_to 1 group p)
