-- What a driver needs, and what its calls answer.
use Rattle.std.specs.Prelude.{◌≡◌, ◌≤◌, ◌<◌, ℕ, ◌+◌, ◌-◌, ◌*◌, Bool, true, false, ◌&&◌, List, [], ◌∷◌, length}
use Rattle.std.specs.Prelude.{if◌then◌else◌, nat_le, nat_lt}
use Rattle.driver_laws.specs.Commands.{OpenCommand}
use Rattle.hpb_outside.specs.declared.NewFault.{NewFault}
use Rattle.hpb_outside.specs.declared.NewFault.TheVariants.{Geometry, Memory}
use Rattle.region_state.specs.declared.shape.Shape.{Shape}
use Rattle.region_state.specs.Shape.{IsWithinLimits}
use Rattle.driver_laws.specs.declared.request.Request.{Request}
use Rattle.driver_laws.specs.declared.request.Request.TheVariants.{Read as ReadOf, Write as WriteOf}
use Rattle.driver_laws.specs.Drive.{last_tag}
use Rattle.driver_caches.specs.Machine.{Machine, submit}
use Rattle.driver_commands.specs.State.{IsReady}
use Rattle.hpb_driver.specs.declared.submit.SubmitFault.{SubmitFault}
use Rattle.hpb_driver.specs.declared.submit.SubmitFault.TheVariants.{Full, Range, Memory as NoRoom}

-- a driver may be made of this many units of this shape
pub record CanDrive (shape : Shape) (luns : ℕ) : Type 0 where
  pub limits : IsWithinLimits shape
  pub some_unit : 1 ≤ luns
  pub few_units : luns ≤ 8
  pub blocks : luns * shape.units ≤ 65488

-- why there is no driver: it may not be made, or there isn't enough memory
abbrev pub IsNewFault : NewFault → Shape → ℕ → Type 0
IsNewFault Geometry shape luns = ¬ CanDrive shape luns
IsNewFault Memory shape luns = CanDrive shape luns

-- what holds of a driver at any time, with room for so many commands and so many bytes of a list of entries
pub record IsDriver (m : Machine) (room list : ℕ) : Type 0 where
  pub can : CanDrive m.shape m.luns
  pub few : length m.opens ≤ 32
  pub room_is : 32 ≤ room
  pub few_caches : length m.caches ≤ m.luns
  pub some_id : 1 ≤ m.next_id
  pub last_id : m.next_id ≤ 127
  pub ready : IsReady m.shape m.opens m.caches list

-- so many blocks of a unit are there
abbrev pub has_blocks : Machine → ℕ → ℕ → ℕ → Bool
has_blocks m lun lba n = nat_lt lun m.luns && (nat_le n 255 && nat_le (lba + n) m.shape.units)

-- the blocks of a request are there
abbrev pub is_inside : Machine → Request → Bool
is_inside m (ReadOf lun lba n) = has_blocks m lun lba n
is_inside m (WriteOf lun lba n bytes) = has_blocks m lun lba n
is_inside m _ = true

-- a write has the bytes of its blocks
abbrev pub HasBytes : Request → Type 0
HasBytes (WriteOf lun lba n bytes) = length bytes ≡ 4096 * n
HasBytes _ = Unit {0}

-- why a request isn't taken: the first of these that holds, or there isn't enough memory
abbrev pub IsSubmitFault : SubmitFault → Machine → Request → Type 0
IsSubmitFault Full m request = 32 ≤ length m.opens
IsSubmitFault Range m request = (length m.opens < 32) × (is_inside m request ≡ false)
IsSubmitFault NoRoom m request = (length m.opens < 32) × (is_inside m request ≡ true)

-- a request was taken, and got the tag
pub record IsSubmitted (tag : ℕ) (m : Machine) (request : Request) (now : Machine) : Type 0 where
  pub free : length m.opens < 32
  pub inside : is_inside m request ≡ true
  pub leads : now ≡ submit request m
  pub last : tag ≡ last_tag now.opens

-- how much a command has to send yet: its COMMAND, and the bytes that were asked for and not given
abbrev pub waits : OpenCommand → ℕ
waits o = (if o.out then 0 else 1) + (o.asked - o.given)

-- the same of all commands
abbrev pub all_wait : List OpenCommand → ℕ
all_wait [] = 0
all_wait (o ∷ os) = waits o + all_wait os

-- how often a driver sends at most before it hears of the device again: for each command that may be opened yet, and
-- for those that are open
abbrev pub to_send : Machine → ℕ
to_send m = (32 - length m.opens) + all_wait m.opens
