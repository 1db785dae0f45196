use Rattle.std.proofs.Common.{◌≡◌, ◌-◌, ◌≤◌}
use Rattle.std.specs.Prelude.{vec_capacity}
use Rattle.flash_store.specs.Store.{IsSame, collecting}
use Rattle.hpb_device.specs.Advance.{entries_of}
use Rattle.hpb_device.specs.StoreCounts.{raised_times}
use Rattle.hpb_device.proofs.advance.push_entries.Given as goal

-- the entries of the blocks so far are there
abbrev pub invariant-loop-lba : goal.invariant-loop-lba
invariant-loop-lba g l = record {
  entries : l.held.items ≡ entries_of l.fn.store.pages l.fn.lun l.fn.first (l.lba - l.fn.first);
  from : l.fn.first ≤ l.lba;
  kept : collecting l.store ≡ collecting l.fn.store;
  same : IsSame l.fn.store l.store;
  calls : l.store.calls ≡ l.fn.store.calls;
  faults : l.store.faults ≡ l.fn.store.faults;
  lookups : l.store.lookups ≡ raised_times (l.lba - l.fn.first) l.fn.store.lookups;
  hits : l.store.hits ≡ l.fn.store.hits;
  room : vec_capacity l.fn.held ≤ vec_capacity l.held;
}
