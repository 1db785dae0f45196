-- A device that has done nothing yet.
use Rattle.std.specs.Prelude.{◌≡◌, ◌*◌, [], None, replicate}
use Rattle.flash_store.specs.declared.answers.Phase.TheVariants.{Scanning}
use Rattle.region_state.specs.Machine.{start}
use Rattle.hpb_device.specs.Counted.{CountsStand}
use Rattle.hpb_device.specs.Counts.{no_counts}
use Rattle.hpb_device.specs.Lists.{ListsStand}
use Rattle.hpb_device.specs.Regions.{HintsStand}
use Rattle.hpb_device.specs.Standing.{DeviceStands, DeviceStandsForeign, first_of}
use Rattle.hpb_device.specs.State.{DeviceState, IsSound}

-- a device as it is made: nothing is scanned, looked up, kept or counted yet
pub record Begins (device : DeviceState) : Type 0 where
  pub scans : device.store.phase ≡ Scanning
  pub scanned : device.store.scanned ≡ 0
  pub lookups : device.store.lookups ≡ 0
  pub hits : device.store.hits ≡ 0
  pub regions : device.regions ≡ replicate device.store.luns (start device.shape)
  pub lists : device.lists ≡ replicate (127 * device.store.luns) None
  pub tasks : device.tasks ≡ []
  pub counts : device.counts ≡ no_counts

-- a device as it is made, which stands at the history of no events over its chip
pub record IsBegun (device : DeviceState) : Type 0 where
  pub begins : Begins device
  pub stands : IsSound device → DeviceStands device (first_of device) []
  pub foreign : ¬ IsSound device → DeviceStandsForeign device device.store.pages (first_of device) []
  pub hints : HintsStand device []
  pub fetched : ListsStand device []
  pub counted : CountsStand device []
