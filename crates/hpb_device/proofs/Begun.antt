-- A device that has done nothing yet stands at the history of no events.
use Rattle.std.proofs.Common.{◌≡◌, ℕ, ◌*◌, List, Option, Result, Ok, Err, length, ◌∙◌, ap}
use Rattle.chip_image.specs.Load.{Loads}
use Rattle.chip_image.specs.declared.fault.ImageFault.{ImageFault}
use Rattle.flash_pages.specs.Chip.{Page}
use Rattle.flash_pages.specs.declared.chip.Geometry.{Geometry}
use Rattle.region_state.specs.Machine.{Machine, start}
use Rattle.hpb_device.specs.Begun.{Begins, IsBegun}
use Rattle.hpb_device.specs.Regions.{regions_at}
use Rattle.hpb_device.specs.Standing.{first_of}
use Rattle.hpb_device.specs.State.{DeviceState}
use Rattle.hpb_device.specs.declared.counts.Counts.{Counts}
use Rattle.hpb_device.proofs.CountingCalls.{begins_counts}
use Rattle.hpb_device.proofs.Fetching.{begins_lists, same_everywhere}
use Rattle.hpb_device.proofs.Going.{begins_foreign, begins_standing}

pub begun_of : (device : DeviceState) → Begins device → length device.store.pages ≡ device.store.geometry.blocks * device.store.geometry.pages → IsBegun device
begun_of device begins whole = record {
  begins = begins;
  stands = begins_standing device begins.tasks (ap (λ (c : Counts). c.erased) begins.counts);
  foreign = begins_foreign device (first_of device) begins.tasks;
  hints = record {
    regions = λ lun inside. ap (λ (ms : List Machine). regions_at device.shape ms lun) begins.regions ∙ same_everywhere device.store.luns lun (start device.shape);
    hinted = tt;
  };
  fetched = begins_lists device (127 * device.store.luns) begins.lists;
  counted = begins_counts device whole begins.tasks begins.counts begins.scanned;
}

-- a load keeps how many pages there are
pub loads_count : (geometry : Geometry) (old new : List Page) (left left_now : Option (List ℕ)) (r : Result (Unit {0}) ImageFault) → Loads geometry old new left left_now r → length new ≡ length old
loads_count geometry old new left left_now (Ok v) (version, pages, whole) = whole.laid.count
loads_count geometry old new left left_now (Err fault) (place, read, cause) = read.laid.count
