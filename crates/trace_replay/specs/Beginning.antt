-- Where a run begins.
use Rattle.std.specs.Prelude.{◌≡◌, ◌≤◌, ℕ, Bool, List, []}
use Rattle.flash_pages.specs.Chip.{Page}
use Rattle.flash_pages.specs.declared.chip.Geometry.{Geometry}
use Rattle.flash_store.specs.Index.{CanServe}
use Rattle.region_state.specs.declared.shape.Shape.{Shape}
use Rattle.region_state.specs.Shape.{IsWithinLimits}
use Rattle.hpb_device.specs.State.{DeviceState}
use Rattle.driver_caches.specs.Machine.{machine_begun}
use Rattle.hpb_link.specs.State.{LinkState}

-- the chip is the named one, and can hold the unit
abbrev pub IsServedBy : (chip : Geometry) (unit : Shape) → Geometry → Type 0
IsServedBy chip unit geometry = (geometry ≡ chip) × IsWithinLimits unit × CanServe geometry 1 unit.units

-- a device that was made over a chip
pub record IsFresh (device : DeviceState) (shape : Shape) (geometry : Geometry) (pages : List Page) (faults : ℕ)
    : Type 0 where
  pub shape_is : device.shape ≡ shape
  pub luns : device.store.luns ≡ 1
  pub units : device.store.units ≡ shape.units
  pub pages_are : device.store.pages ≡ pages
  pub geometry_is : device.store.geometry ≡ geometry
  pub faults_are : device.store.faults ≡ faults
  pub some_block : 1 ≤ geometry.blocks
  pub some_page : 1 ≤ geometry.pages

-- two ends that begin: the device, and a driver that has sent nothing, with caches or without
abbrev pub link_begun : DeviceState → (plain : Bool) → Shape → LinkState
link_begun device plain unit = record {
  device = device;
  driver = machine_begun plain unit 1;
  tickets = [];
  count = 0;
  lun = 0;
}
