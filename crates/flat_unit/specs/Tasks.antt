-- What holds of the tasks that a device keeps at any moment (SAM: a tag names one task).
use Rattle.std.specs.Prelude.{◌≡◌, ◌<◌, ◌≤◌, false, true, List, [], ◌∷◌}
use Rattle.std.specs.List.{AllByRecursion, list_any}
use Rattle.hpb_cdb.specs.Cdb.{has_good_fields, is_in_unit}
use Rattle.flat_unit.specs.Command.{needed}
use Rattle.flat_unit.specs.Reply.{has_tag}
use Rattle.flat_unit.specs.Sizes.{Sizes, limits_of}
use Rattle.flat_unit.specs.Task.{Task}

-- no other task has its tag
abbrev pub IsAlone : Task → List Task → Type 0
IsAlone task others = list_any (has_tag task.tag) others ≡ false

-- no two tasks have one tag
abbrev pub AreApart : List Task → Type 0
AreApart [] = Unit {0}
AreApart (task ∷ tasks) = IsAlone task tasks × AreApart tasks

-- a task that hasn't come first yet has moved nothing
pub record IsUntouched (task : Task) : Type 0 where
  pub asked : task.asked ≡ 0
  pub come : task.come ≡ []
  pub sent : task.sent ≡ 0

abbrev pub OthersWait : List Task → Type 0
OthersWait [] = Unit {0}
OthersWait (task ∷ others) = AllByRecursion IsUntouched others

-- the task names a unit, and a command that the unit has, and it expects all that the command moves
pub record IsServed (s : Sizes) (task : Task) : Type 0 where
  pub lun : task.lun < s.luns
  pub fields : has_good_fields (limits_of s) task.command ≡ true
  pub range : is_in_unit (limits_of s) task.command ≡ true
  pub expected : needed s task.command ≤ task.expected

-- what holds of them all
pub record IsQueue (s : Sizes) (tasks : List Task) : Type 0 where
  pub apart : AreApart tasks
  pub others_wait : OthersWait tasks
  pub served : AllByRecursion (IsServed s) tasks
