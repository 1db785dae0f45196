-- What one step adds to the counts of a store.
use Rattle.std.specs.Prelude.{◌≡◌, ℕ, zero, suc, ◌+◌, ◌-◌, ◌/◌, ◌≤◌, Bool, false, is_some, Option, Some, None}
use Rattle.hpb_outside.specs.Faults.{Rose, raised}
use Rattle.flash_store.specs.declared.answers.Moved.{Moved}
use Rattle.flash_store.specs.declared.answers.Moved.TheVariants.{Page}
use Rattle.flash_pages.specs.Unit.{current}
use Rattle.flash_store.specs.Entries.{is_valid_page}
use Rattle.flash_store.specs.Store.{StoreState}
use Rattle.flat_unit.specs.Counts.{one_if}
use Rattle.hpb_device.specs.declared.advance.FailedCall.{FailedCall}
use Rattle.hpb_device.specs.declared.advance.FailedCall.TheVariants.{MappedRead}
use Rattle.hpb_device.specs.declared.advance.Progress.{Progress}
use Rattle.hpb_device.specs.declared.advance.Progress.TheVariants.{Sends, Silent, Failed}
use Rattle.hpb_device.specs.declared.advance.Transfer.TheVariants.{LookedUp, ByEntry, EntryList}
use Rattle.hpb_device.specs.declared.advance.Internal.TheVariants.{Missed, Programmed, Collected}
use Rattle.hpb_device.specs.declared.task.Task.{Task}
use Rattle.hpb_device.specs.Advance.{next_place}

-- a count raised so many times
abbrev pub raised_times : ℕ → ℕ → ℕ
raised_times zero count = count
raised_times (suc n) count = raised (raised_times n count)

-- an entry names a valid page
abbrev pub names_page : StoreState → Option ℕ → Bool
names_page old (Some entry) = is_valid_page old.pages entry
names_page old None = false

-- how many calls of the chip a step makes, where the next block has this entry: a block that has no page is looked up
-- without one, and so is an entry tried that names no valid page
abbrev pub calls_made : StoreState → Option ℕ → Task → Progress → ℕ
calls_made old entry task (Sends LookedUp rest) = one_if (is_some (current old.pages (next_place task)))
calls_made old entry task (Silent Missed rest) = one_if (names_page old entry)
calls_made old entry task (Sends ByEntry rest) = 1
calls_made old entry task (Silent Programmed rest) = 1
calls_made old entry task (Silent (Collected moved) rest) = 1
calls_made old entry task (Failed what reply) = 1
calls_made old entry task _ = 0

-- a page that the collector programmed anew changes the map
abbrev pub lookups_moved : Moved → ℕ
lookups_moved (Page lun lba) = 1
lookups_moved _ = 0

-- a read that failed had looked its block up, unless it tried an entry
abbrev pub lookups_failed : FailedCall → ℕ
lookups_failed MappedRead = 1
lookups_failed _ = 0

-- how many look-ups and changes of its map a step makes: one for each entry that it lists
abbrev pub lookups_made : Task → Progress → ℕ
lookups_made task (Sends LookedUp rest) = 1
lookups_made task (Silent Programmed rest) = 1
lookups_made task (Silent (Collected moved) rest) = lookups_moved moved
lookups_made task (Sends EntryList rest) = (rest.sent - task.sent + 7) / 8
lookups_made task (Failed what reply) = lookups_failed what
lookups_made task _ = 0

-- how many blocks a step reads by an entry
abbrev pub hits_made : Progress → ℕ
hits_made (Sends ByEntry rest) = 1
hits_made _ = 0

-- a count of faults rises by one where a call failed, and is the same for every other step
abbrev pub CountsFault : (before now : ℕ) → Progress → Type 0
CountsFault before now (Failed what reply) = Rose before now × (now ≤ before + 1)
CountsFault before now _ = now ≡ before

-- the counts of a store are those of what the step made
pub record CountsStep (old new : StoreState) (entry : Option ℕ) (task : Task) (progress : Progress) : Type 0 where
  pub calls : new.calls ≡ raised_times (calls_made old entry task progress) old.calls
  pub faults : CountsFault old.faults new.faults progress
  pub later : old.faults ≤ new.faults
  pub lookups : new.lookups ≡ raised_times (lookups_made task progress) old.lookups
  pub hits : new.hits ≡ raised_times (hits_made progress) old.hits
