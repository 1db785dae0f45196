-- The tasks of a history that a device keeps.
use Rattle.std.specs.Prelude.{◌≡◌, ℕ, ◌-◌, List, [], ◌∷◌, map, length, drop}
use Rattle.flat_unit.specs.Task.{Task}
use Rattle.hpb_device.specs.declared.task.Task.{Task as Kept}

-- of the data that have come for a task, the device keeps how many they are and those of the last READY TO TRANSFER
pub record IsTaskOf (held : List ℕ) (kept : Kept) (task : Task) : Type 0 where
  pub lun : task.lun ≡ kept.lun
  pub tag : task.tag ≡ kept.tag
  pub command : task.command ≡ kept.command
  pub expected : task.expected ≡ kept.expected
  pub asked : task.asked ≡ kept.asked
  pub come : length task.come ≡ kept.come
  pub last : drop (kept.come - length held) task.come ≡ held
  pub sent : task.sent ≡ kept.sent

-- the task of which nothing is done yet
abbrev pub waiting_of : Kept → Task
waiting_of kept =
    record {
      lun = kept.lun;
      tag = kept.tag;
      command = kept.command;
      expected = kept.expected;
      asked = 0;
      come = [];
      sent = 0;
    }

-- the first task has come as far as the device says, and nothing is done yet for the others
abbrev pub KeepsTasks : List Kept → List ℕ → List Task → Type 0
KeepsTasks [] held tasks = tasks ≡ []
KeepsTasks (kept ∷ others) held tasks = (task : Task) × IsTaskOf held kept task × (tasks ≡ task ∷ map waiting_of others)
