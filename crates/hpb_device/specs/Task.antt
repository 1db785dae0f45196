-- The commands that a device keeps, and how far each has come.
use Rattle.std.specs.Prelude.{◌≡◌, ◌⊎◌, ℕ, ◌+◌, ◌*◌, ◌/◌, ◌%◌, ◌^◌, ◌<◌, ◌≤◌, true, false, not, ◌&&◌, nat_lt}
use Rattle.std.specs.Prelude.{if◌then◌else◌, List, [], ◌∷◌, length, Option, Some, None}
use Rattle.std.specs.Bool.{OnTrue}
use Rattle.std.specs.List.{AllByRecursion}
use Rattle.entry_lists.specs.Lists.{EntryList, entry_for}
use Rattle.hpb_cdb.specs.declared.cdb.Cdb.{Cdb}
use Rattle.hpb_cdb.specs.declared.cdb.Cdb.TheVariants.{TestReady, Read, Write, Capacity, Sync, HpbRead, ReadBuffer}
use Rattle.hpb_cdb.specs.declared.cdb.Cdb.TheVariants.{Prefetch, InactOne, InactAll}
use Rattle.hpb_cdb.specs.declared.limits.Limits.{Limits}
use Rattle.flat_unit.specs.Command.{is_write}
use Rattle.hpb_device.specs.declared.task.Task.{Task}
use Rattle.hpb_device.specs.Work.{given_by, taken_by, work_of}

-- the host is to send data before the command can go on
abbrev pub WaitsForData : Task → Type 0
WaitsForData task = task.come < task.asked

-- the bytes that a command sends by DATA IN
abbrev pub bytes_given : Limits → Cdb → ℕ
bytes_given lim command = given_by lim (work_of command)

-- the bytes that a command takes by DATA OUT
abbrev pub bytes_taken : Cdb → ℕ
bytes_taken command = taken_by (work_of command)

-- a command about blocks inside a unit
abbrev pub IsServed : Limits → Cdb → Type 0
IsServed lim TestReady = Unit {0}
IsServed lim Capacity = Unit {0}
IsServed lim (Sync lba n) = lba + n ≤ lim.units
IsServed lim (Read lba n) = lba + n ≤ lim.units
IsServed lim (Write lba n) = lba + n ≤ lim.units
IsServed lim (HpbRead lba entry n id) = (lba + n ≤ lim.units) × (id ≤ 127)
IsServed lim (ReadBuffer region sub len) = (sub < lim.per_region / lim.per_sub)
    × (region * lim.per_region + sub * lim.per_sub < lim.units)
IsServed lim (InactOne region) = region * lim.per_region < lim.units
IsServed lim InactAll = Unit {0}
IsServed lim (Prefetch lba id len) =
    (lba + len / 8 ≤ lim.units) × (0 < id) × (id ≤ 127) × (len % 8 ≡ 0) × (len ≤ 2040)

-- the entry of block k of a command of a logical unit, where these lists are kept
abbrev pub entry_of : List (Option EntryList) → (lun : ℕ) → Cdb → ℕ → Option ℕ
entry_of lists lun (HpbRead lba entry n id) k = entry_for lists lun id lba entry k
entry_of lists lun _ k = None

-- the entry of the next block
abbrev pub next_entry : List (Option EntryList) → Task → Option ℕ
next_entry lists task = entry_of lists task.lun task.command (task.sent / 4096)

-- the next block's entry, where it is to be tried: a block is left, and it wasn't tried yet
abbrev pub to_try : Option ℕ → Task → Option ℕ
to_try entry task = if nat_lt task.sent task.given && not task.tried then entry else None

-- a command of one of these logical units that was accepted: what it sends and takes is no more than the host expects
pub record IsAccepted (luns : ℕ) (lim : Limits) (unit : ℕ) (command : Cdb) (expected sends : ℕ) : Type 0 where
  pub lun : unit < luns
  pub served : IsServed lim command
  pub few_blocks : lim.units < 2 ^ 32
  pub expected_fits : expected < 2 ^ 32
  pub given : sends ≡ bytes_given lim command
  pub fits : sends + bytes_taken command ≤ expected

-- a task has moved no more than was asked for, and has asked for whole blocks or all, and sent whole blocks or all
pub record IsWithin (task : Task) : Type 0 where
  pub asked : task.asked ≤ bytes_taken task.command
  pub whole_asked : (task.asked % 4096 ≡ 0) ⊎ (task.asked ≡ bytes_taken task.command)
  pub come : task.come ≤ task.asked
  pub programmed : 4096 * task.programmed ≤ task.come
  pub sent : task.sent ≤ task.given
  pub whole_sent : (task.sent % 4096 ≡ 0) ⊎ (task.sent ≡ task.given)

-- a task of one of these logical units: what never changes, and how far it has come
pub record IsTaskOk (luns : ℕ) (lim : Limits) (task : Task) : Type 0 where
  pub accepted : IsAccepted luns lim task.lun task.command task.expected task.given
  pub within : IsWithin task

-- the blocks of a write that have come were programmed
abbrev pub AreProgrammed : Task → Type 0
AreProgrammed task = OnTrue (is_write task.command) (4096 * task.programmed ≡ task.come)

-- of the data that have come, these are the last, and all before them were programmed
pub record HoldsData (held : List ℕ) (task : Task) : Type 0 where
  pub part : length held ≤ task.come
  pub rest : task.come ≤ 4096 * task.programmed + length held
  pub room : task.asked + length held ≤ task.come + 32768

-- the first of these tasks has moved no more than the host expects
abbrev pub HaveMovedLess : List Task → Type 0
HaveMovedLess [] = Unit {0}
HaveMovedLess (head ∷ _) = head.sent + head.come ≤ head.expected

-- the first of these tasks, if there is one
abbrev pub head_of : List Task → Option Task
head_of [] = None
head_of (head ∷ _) = Some head

-- a task of which nothing is done yet
pub record IsWaiting (luns : ℕ) (lim : Limits) (task : Task) : Type 0 where
  pub ok : IsTaskOk luns lim task
  pub none_asked : task.asked ≡ 0
  pub none_come : task.come ≡ 0
  pub none_sent : task.sent ≡ 0
  pub none_programmed : task.programmed ≡ 0
  pub none_tried : task.tried ≡ false

-- The tasks of a device, in order of acceptance: nothing is done yet for those behind the first one, and only data of
-- the first one are held.
abbrev pub IsQueue : (luns : ℕ) → (lim : Limits) → (held : List ℕ) → List Task → Type 0
IsQueue luns lim held [] = held ≡ []
IsQueue luns lim held (head ∷ others) = IsTaskOk luns lim head × HoldsData held head
    × AllByRecursion (IsWaiting luns lim) others

-- a step of the first task may have sent nothing since it came first or last sent: it has tried an entry in vain, or it
-- is a write that has asked for data
abbrev pub WasSilent : List Task → Type 0
WasSilent [] = ⊥
WasSilent (head ∷ _) = (head.tried ≡ true) ⊎ ((is_write head.command ≡ true) × (0 < head.asked))
