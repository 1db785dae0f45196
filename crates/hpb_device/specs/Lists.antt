-- The lists of entries that a device keeps (this project's own).
use Rattle.std.specs.Prelude.{◌≡◌, ℕ, ◌<◌, ◌≤◌, Bool, true, false, List, [], ◌∷◌, Option, Some, None, filter}
use Rattle.std.specs.Prelude.{if◌then◌else◌}
use Rattle.entry_lists.specs.Lists.{EntryList, list_at, with_list}
use Rattle.hpb_cdb.specs.declared.cdb.Cdb.{Cdb}
use Rattle.hpb_cdb.specs.declared.cdb.Cdb.TheVariants.{HpbRead, Prefetch}
use Rattle.flat_unit.specs.History.{History}
use Rattle.flat_unit.specs.Lists.{Fetched, is_list, lists_after}
use Rattle.flat_unit.specs.Sizes.{Sizes}
use Rattle.hpb_device.specs.declared.advance.Progress.{Progress}
use Rattle.hpb_device.specs.declared.advance.Progress.TheVariants.{Ended, Failed}
use Rattle.hpb_device.specs.declared.reply.Reply.TheVariants.{Good}
use Rattle.hpb_device.specs.declared.task.Task.{Task}
use Rattle.hpb_device.specs.Standing.{sizes_of}
use Rattle.hpb_device.specs.State.{DeviceState}

-- after a command of a unit was answered for which these data came: a list that came is kept where the answer is GOOD,
-- and that of an HPB READ is used up
abbrev pub lists_ended : List (Option EntryList) → (lun : ℕ) → Cdb → (good : Bool) → (held : List ℕ)
    → List (Option EntryList)
lists_ended lists lun (Prefetch lba id len) good held =
    if good then with_list lists lun id (Some (record { lba = lba; bytes = held })) else lists
lists_ended lists lun (HpbRead lba entry n id) good held = with_list lists lun id None
lists_ended lists lun _ good held = lists

-- after a step of a command
abbrev pub lists_stepped : List (Option EntryList) → Task → (held : List ℕ) → Progress → List (Option EntryList)
lists_stepped lists task held (Ended (Good lun tag residual)) = lists_ended lists task.lun task.command true held
lists_stepped lists task held (Ended reply) = lists_ended lists task.lun task.command false held
lists_stepped lists task held (Failed what reply) = lists_ended lists task.lun task.command false held
lists_stepped lists task held _ = lists

-- after the first task, if there is one, was answered that the chip could not be read
abbrev pub lists_unread : List (Option EntryList) → List Task → List (Option EntryList)
lists_unread lists [] = lists
lists_unread lists (task ∷ _) = lists_ended lists task.lun task.command false []

-- the list that is kept under a unit and a read id, if there is one
abbrev pub fetched_as : (lun id : ℕ) → Option EntryList → List Fetched
fetched_as lun id None = []
fetched_as lun id (Some l) = record { lun = lun; id = id; lba = l.lba; bytes = l.bytes } ∷ []

-- these lists are those of the history
abbrev pub AreListsAfter : List (Option EntryList) → Sizes → History → Type 0
AreListsAfter lists s e = (lun id : ℕ) → lun < s.luns → id ≤ 127
    → filter (is_list lun id) (lists_after s e) ≡ fetched_as lun id (list_at lists lun id)

-- the lists that a device keeps are those of the history
abbrev pub ListsStand : DeviceState → History → Type 0
ListsStand device e = AreListsAfter device.lists (sizes_of device) e
