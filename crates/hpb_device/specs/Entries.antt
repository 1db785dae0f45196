-- What the entries that a device has listed say of its chip.
use Rattle.std.specs.Prelude.{⊤, ◌≡◌, ℕ, false, List, [], ◌∷◌, Option, Some, None}
use Rattle.std.specs.Bool.{OnTrue}
use Rattle.flash_pages.specs.Chip.{Page}
use Rattle.flash_pages.specs.Place.{Place}
use Rattle.entry_lists.specs.Lists.{EntryList}
use Rattle.flash_pages.specs.Unit.{current}
use Rattle.flat_unit.specs.Entries.{is_fresh}
use Rattle.flat_unit.specs.History.{History}
use Rattle.flat_unit.specs.Pages.{KeepsFresh}
use Rattle.flat_unit.specs.Sizes.{Sizes}
use Rattle.hpb_device.specs.declared.task.Task.{Task}
use Rattle.hpb_device.specs.Advance.{next_place}
use Rattle.hpb_device.specs.Task.{next_entry}
use Rattle.hpb_device.specs.Standing.{sizes_of}
use Rattle.hpb_device.specs.State.{DeviceState}

-- an entry that the place has isn't fresh
abbrev pub IsStaleAt : Sizes → History → Place → Option ℕ → Type 0
IsStaleAt s e place (Some entry) = is_fresh s e place entry ≡ false
IsStaleAt s e place None = ⊤

-- the entry that the next block has, where these lists are kept, isn't fresh
abbrev pub IsStale : Sizes → History → List (Option EntryList) → Task → Type 0
IsStale s e lists task = IsStaleAt s e (next_place task) (next_entry lists task)

-- an entry that the first task tried in vain isn't fresh
abbrev pub TriedStale : Sizes → History → List (Option EntryList) → List Task → Type 0
TriedStale s e lists [] = ⊤
TriedStale s e lists (head ∷ _) = OnTrue head.tried (IsStale s e lists head)

-- each entry that is fresh after these events is honoured on this chip
abbrev pub FreshHonoured : Sizes → List Page → History → Type 0
FreshHonoured s chip e = KeepsFresh s (current chip) e

-- a device's chip honours what it has listed, and it tries no fresh entry in vain
pub record EntriesStand (device : DeviceState) (e : History) : Type 0 where
  pub fresh : FreshHonoured (sizes_of device) device.store.pages e
  pub tried : TriedStale (sizes_of device) e device.lists device.tasks
