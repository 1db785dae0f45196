-- What a device is, to those who call it, and what it keeps true of its fields.
use Rattle.std.specs.Prelude.{⊤, ◌≡◌, ◌≢◌, ℕ, ◌*◌, ◌≤◌, List, [], ◌∷◌, length, map, replicate, Option}
use Rattle.std.specs.List.{AllByRecursion}
use Rattle.entry_lists.specs.Lists.{EntryList}
use Rattle.hpb_outside.specs.declared.errors.NewFault.{NewFault}
use Rattle.hpb_outside.specs.declared.errors.NewFault.TheVariants as fault
use Rattle.flash_pages.specs.declared.chip.Geometry.{Geometry}
use Rattle.flash_pages.specs.Sound.{ChipOk}
use Rattle.flash_store.specs.declared.answers.Phase.{Phase}
use Rattle.flash_store.specs.declared.answers.Phase.TheVariants.{Scanning, Ready, Foreign}
use Rattle.flash_store.specs.Index.{CanServe}
use Rattle.flash_store.specs.Store.{StoreState}
use Rattle.region_state.specs.declared.shape.Shape.{Shape}
use Rattle.region_state.specs.Machine.{Machine}
use Rattle.region_state.specs.Shape.{IsWithinLimits}
use Rattle.hpb_device.specs.declared.counts.Counts.{Counts}
use Rattle.hpb_device.specs.declared.task.Task.{Task}
use Rattle.hpb_device.specs.Limits.{limits_of}
use Rattle.hpb_device.specs.Task.{WaitsForData, IsQueue, IsWaiting}

-- its store, the shape of each logical unit, the regions of each, the lists of entries that it keeps, the tasks in
-- order of acceptance, the data of the first one that came last, and what is counted
pub record DeviceState : Type 0 where
  pub store : StoreState
  pub shape : Shape
  pub regions : List Machine
  pub lists : List (Option EntryList)
  pub tasks : List Task
  pub held : List ℕ
  pub counts : Counts

-- what a device keeps true of its fields: while its chip isn't ready, nothing is done yet for any task
pub record IsDevice (store : StoreState) (shape : Shape) (luns : ℕ) (regions : List Machine)
    (lists : List (Option EntryList))
    (tasks : List Task) (held : List ℕ) (room : ℕ)
    : Type 0 where
  pub limits : IsWithinLimits shape
  pub shapes : map (λ (m : Machine). m.shape) regions ≡ replicate luns shape
  pub all_lists : length lists ≡ 127 * luns
  pub luns_served : store.luns ≡ luns
  pub units_served : store.units ≡ shape.units
  pub served : CanServe store.geometry luns shape.units
  pub whole : length store.pages ≡ store.geometry.blocks * store.geometry.pages
  pub queue : IsQueue luns (limits_of shape) held tasks
  pub burst : 32768 ≤ room
  pub unbegun : store.phase ≢ Ready → (held ≡ []) × AllByRecursion (IsWaiting luns (limits_of shape)) tasks

-- nothing can go on without the host: no task is kept, or the first one waits for data
abbrev pub AreAtRest : List Task → Type 0
AreAtRest [] = ⊤
AreAtRest (head ∷ _) = WaitsForData head

abbrev pub AtRest : DeviceState → Type 0
AtRest device = AreAtRest device.tasks

-- a step does nothing: on a ready chip nothing can go on without the host, on a foreign one no task is kept, and a chip
-- that is scanned has pages to be read
abbrev pub IsIdleIn : Phase → List Task → Type 0
IsIdleIn Scanning tasks = ⊥
IsIdleIn Ready tasks = AreAtRest tasks
IsIdleIn Foreign tasks = tasks ≡ []

abbrev pub IsIdle : DeviceState → Type 0
IsIdle device = IsIdleIn device.store.phase device.tasks

-- the chip is one that a device of this shape leaves behind
abbrev pub IsSound : DeviceState → Type 0
IsSound device = ChipOk device.store.geometry device.store.luns device.store.units device.store.pages

-- why no device is made: the shape is outside its limits or the chip can't hold the units, or there isn't enough memory
abbrev pub IsNewFault : NewFault → Geometry → ℕ → Shape → Type 0
IsNewFault fault.Geometry geometry luns shape = ¬ (IsWithinLimits shape × CanServe geometry luns shape.units)
IsNewFault fault.Memory geometry luns shape = IsWithinLimits shape × CanServe geometry luns shape.units
