-- The chip of a device has the pages that its history says, and what READ BUFFER listed tells of them.
use Rattle.std.specs.Prelude.{◌≡◌, ℕ, ◌*◌, Bool, map}
use Rattle.flash_pages.specs.Place.{Place}
use Rattle.flash_pages.specs.Unit.{current}
use Rattle.flat_unit.specs.Entries.{Told}
use Rattle.flat_unit.specs.History.{History}
use Rattle.flat_unit.specs.Pages.{HasPages}
use Rattle.flat_unit.specs.Stands.{Kept}
use Rattle.hpb_device.specs.Keeps.{waiting_of}
use Rattle.hpb_device.specs.Standing.{kept_of, sizes_of}
use Rattle.hpb_device.specs.State.{DeviceState}

-- what a device keeps, but for the data that have come
abbrev pub kept_now : DeviceState → Kept
kept_now device = kept_of 0 device (map waiting_of device.tasks)

-- the chip has the pages that the history says, and each entry listed so far tells whether its place had a page: had
-- says whether the first chip had one, and pages is their number
pub record ListingStands (had : Place → Bool) (pages : ℕ) (device : DeviceState) (e : History) : Type 0 where
  pub whole : pages ≡ device.store.geometry.blocks * device.store.geometry.pages
  pub pages_there : HasPages (sizes_of device) had (kept_now device) (current device.store.pages) e
  pub told : Told (sizes_of device) pages had e
