-- What a device has counted, and that it fits the history.
use Rattle.std.specs.Prelude.{◌≡◌, ℕ, ◌+◌, ◌-◌, ◌*◌, ◌^◌, ◌≤◌, length, min, if◌then◌else◌}
use Rattle.flat_unit.specs.Counts.{Counts as Exact, blocks_by_entry, blocks_by_fresh, blocks_read, reads_failed, sends}
use Rattle.flat_unit.specs.Counts.{stretches, works}
use Rattle.flat_unit.specs.History.{History}
use Rattle.flat_unit.specs.Sizes.{Sizes}
use Rattle.flat_unit.specs.Writes.{blocks_good, moves}
use Rattle.hpb_device.specs.declared.counts.Counts.{Counts}
use Rattle.hpb_device.specs.Standing.{programmed_of, sizes_of}
use Rattle.hpb_device.specs.State.{DeviceState}

-- the steps that read a page of the scan: one for each page in each stretch in which the device has served, and one for
-- each page that was read since the last reset, where it hasn't served since
abbrev pub steps_scanned : Sizes → (scanned : ℕ) → History → ℕ
steps_scanned s scanned e = s.pages * stretches s e + (if works s e then 0 else scanned)

-- Counts that stop at 2^64 - 1 fit the events, where so many pages of the scan were read, and so many blocks of the
-- first task programmed: exact are the same counts as whole numbers, but for the erase blocks.
pub record AreCounted (s : Sizes) (scanned programmed : ℕ) (counts : Counts) (e : History) : Type 0 where
  pub exact : Exact
  pub steps_told : counts.steps ≡ min exact.steps (2 ^ 64 - 1)
  pub lookups_told : counts.lookups ≡ min exact.lookups (2 ^ 64 - 1)
  pub entries_told : counts.entries ≡ min exact.entries (2 ^ 64 - 1)
  pub moved_told : counts.moved ≡ min exact.moved (2 ^ 64 - 1)
  pub fresh_served : blocks_by_fresh s e ≤ exact.entries
  pub entries_had : exact.entries ≤ blocks_by_entry s e
  pub all_found : blocks_read s e ≤ exact.lookups + exact.entries
  pub none_else : exact.lookups + exact.entries ≤ blocks_read s e + reads_failed s e
  pub moved : exact.moved ≡ moves e
  pub steps : sends s e + blocks_good s e + programmed + steps_scanned s scanned e ≤ exact.steps

-- what a device has counted fits the history, and its chip has all its pages
pub record CountsStand (device : DeviceState) (e : History) : Type 0 where
  pub whole : length device.store.pages ≡ device.store.geometry.blocks * device.store.geometry.pages
  pub fits : AreCounted (sizes_of device) device.store.scanned (programmed_of device.tasks) device.counts e

-- counts are whole numbers, each up to 2^64 - 1
pub record AreCut (counts : Counts) (exact : Exact) : Type 0 where
  pub steps : counts.steps ≡ min exact.steps (2 ^ 64 - 1)
  pub lookups : counts.lookups ≡ min exact.lookups (2 ^ 64 - 1)
  pub entries : counts.entries ≡ min exact.entries (2 ^ 64 - 1)
  pub moved : counts.moved ≡ min exact.moved (2 ^ 64 - 1)
  pub erased : counts.erased ≡ min exact.erased (2 ^ 64 - 1)
