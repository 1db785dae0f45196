-- What holds between a driver and its device: each command that has gone out is a task that the device keeps, at the
-- same point (this project's own).
use Rattle.std.specs.Prelude.{◌≡◌, ◌≤◌, ◌<◌, ◌⊎◌, ◌^◌, ℕ, ◌+◌, ◌*◌, true, false, List}
use Rattle.std.specs.Prelude.{[], ◌∷◌, ◌++◌, length, map, filter, take, slice_index}
use Rattle.std.specs.List.{AllByRecursion}
use Rattle.flash_pages.specs.Place.{Place}
use Rattle.hpb_cdb.specs.declared.cdb.Cdb.{Cdb}
use Rattle.hpb_cdb.specs.declared.cdb.Cdb.TheVariants.{TestReady, Read, Write, Capacity, Sync, HpbRead}
use Rattle.hpb_cdb.specs.declared.cdb.Cdb.TheVariants.{ReadBuffer, Prefetch, InactOne, InactAll}
use Rattle.hpb_cdb.specs.Cdb.{has_good_fields, is_in_unit, opcodes}
use Rattle.flat_unit.specs.Command.{bytes_taken, is_write, needed}
use Rattle.flat_unit.specs.Contents.{Block, candidates}
use Rattle.flat_unit.specs.History.{History}
use Rattle.flat_unit.specs.Queue.{on_after, tasks_after}
use Rattle.flat_unit.specs.Sizes.{Sizes, limits_of}
use Rattle.flat_unit.specs.Sound.{owed}
use Rattle.flat_unit.specs.Task.{Task}
use Rattle.driver_laws.specs.declared.answer.Answer.TheVariants.{Good}
use Rattle.driver_laws.specs.declared.request.Request.{Request}
use Rattle.driver_laws.specs.declared.request.Request.TheVariants.{Read as ReadOf, Write as WriteOf}
use Rattle.driver_laws.specs.declared.request.Request.TheVariants.{Sync as SyncAll, Ready}
use Rattle.driver_laws.specs.Commands.{OpenCommand, Wanted, is_out, is_caller, tags, uses}
use Rattle.driver_laws.specs.Requests.{Way, WithEntry, WithList, commands_of}
use Rattle.driver_laws.specs.Drive.{Moment, Turn, Asks, Wants, moment_after}
use Rattle.driver_laws.specs.Flat.{Asked, Answered, Came, Flat, Outcome, bytes_at, flat_of, flat_after, flat_answers}

-- the task that a device keeps of a command that has gone out
abbrev pub kept_as : Sizes → OpenCommand → Task
kept_as s o = record {
  lun = o.lun;
  tag = o.tag;
  command = o.command;
  expected = needed s o.command;
  asked = o.asked;
  come = take o.given o.bytes;
  sent = length o.got;
}

-- no command has gone out
abbrev pub NoneOut : List OpenCommand → Type 0
NoneOut opens = AllByRecursion (λ (o : OpenCommand). o.out ≡ false) opens

-- behind a command that hasn't gone out none has
abbrev pub OutFirst : List OpenCommand → Type 0
OutFirst [] = Unit {0}
OutFirst (o ∷ os) = (o.out ≡ false → NoneOut os) × OutFirst os

-- no two open commands have one tag
abbrev pub AreApart : List OpenCommand → Type 0
AreApart [] = Unit {0}
AreApart (o ∷ os) = (uses os o.tag ≡ false) × AreApart os

-- the command is one that a driver sends, and its numbers have room in the CDB (SBC; the HPB commands are this
-- project's own); a driver sends no READ CAPACITY
abbrev pub FitsCdb : Cdb → Type 0
FitsCdb TestReady = Unit {0}
FitsCdb (Read lba n) = (lba < 2 ^ 32) × (n < 2 ^ 16)
FitsCdb (Write lba n) = (lba < 2 ^ 32) × (n < 2 ^ 16)
FitsCdb (Sync lba n) = (lba < 2 ^ 32) × (n < 2 ^ 16)
FitsCdb (HpbRead lba entry n id) = (lba < 2 ^ 32) × (entry < 2 ^ 64)
FitsCdb (ReadBuffer region sub len) = (region < 2 ^ 16) × (sub < 2 ^ 16) × (len < 2 ^ 24)
FitsCdb (Prefetch lba id len) = (lba < 2 ^ 32) × (len < 2 ^ 16)
FitsCdb (InactOne region) = region < 2 ^ 16
FitsCdb Capacity = ⊥
FitsCdb InactAll = Unit {0}

-- what came for a read are whole blocks, and the device asks for a prefetched list at once
abbrev pub GotWhole : Sizes → Cdb → List ℕ → ℕ → Type 0
GotWhole s (Read lba n) got asked = (k : ℕ) × (length got ≡ s.block * k)
GotWhole s (HpbRead lba entry n id) got asked = (k : ℕ) × (length got ≡ s.block * k)
GotWhole s (Prefetch lba id len) got asked = (asked ≡ 0) ⊎ (asked ≡ len)
GotWhole s _ got asked = Unit {0}

-- the command may serve a request of a caller
abbrev pub IsServing : Cdb → Type 0
IsServing TestReady = Unit {0}
IsServing (Read lba n) = Unit {0}
IsServing (Write lba n) = Unit {0}
IsServing (Sync lba n) = Unit {0}
IsServing (HpbRead lba entry n id) = Unit {0}
IsServing _ = ⊥

-- nothing of the command has moved
pub record IsFresh (o : OpenCommand) : Type 0 where
  pub asked : o.asked ≡ 0
  pub given : o.given ≡ 0
  pub got : o.got ≡ []

-- what holds of each open command
pub record IsProper (s : Sizes) (o : OpenCommand) : Type 0 where
  pub lun : o.lun < s.luns
  pub fields : has_good_fields (limits_of s) o.command ≡ true
  pub range : is_in_unit (limits_of s) o.command ≡ true
  pub fits : FitsCdb o.command
  pub expected : needed s o.command < 2 ^ 32
  pub bytes : length o.bytes ≡ bytes_taken s o.command
  pub asked : o.asked ≤ bytes_taken s o.command
  pub given : o.given ≤ o.asked
  pub whole : GotWhole s o.command o.got o.asked
  pub fresh : o.out ≡ false → IsFresh o
  pub serving : o.caller ≡ true → IsServing o.command
  pub own : o.caller ≡ false → is_write o.command ≡ false

-- what holds of each command that is to be opened
pub record IsWanted (s : Sizes) (w : Wanted) : Type 0 where
  pub lun : w.lun < s.luns
  pub fields : has_good_fields (limits_of s) w.command ≡ true
  pub range : is_in_unit (limits_of s) w.command ≡ true
  pub fits : FitsCdb w.command
  pub expected : needed s w.command < 2 ^ 32
  pub bytes : length w.bytes ≡ bytes_taken s w.command
  pub serving : w.caller ≡ true → IsServing w.command
  pub own : w.caller ≡ false → is_write w.command ≡ false

-- a request that may be taken: its unit and its blocks are there, 255 at most
abbrev pub IsRequest : Sizes → Request → Type 0
IsRequest s (ReadOf lun lba n) = (lun < s.luns) × (n ≤ 255) × (lba + n ≤ s.units)
IsRequest s (WriteOf lun lba n bytes) = (lun < s.luns) × (n ≤ 255) × (lba + n ≤ s.units) × (length bytes ≡ s.block * n)
IsRequest s _ = Unit {0}

-- a request may go out this way: an entry has 8 bytes, a read id is 1 to 127, and a list has an entry for each block
abbrev pub IsWay : Way → Request → Type 0
IsWay (WithEntry entry) (ReadOf lun lba n) = entry < 2 ^ 64
IsWay (WithList id entries) (ReadOf lun lba n) =
    (1 ≤ id) × (id ≤ 127) × (length entries ≡ n) × (slice_index entries 0 < 2 ^ 64)
IsWay _ _ = Unit {0}

-- the sizes of a device that serves a driver's commands: it keeps 32 tasks, and serves each opcode
pub record Serves (s : Sizes) : Type 0 where
  pub block : 0 < s.block
  pub block_fits : s.block < 2 ^ 16
  pub units_fit : s.units < 2 ^ 32
  pub has_units : 0 < s.luns
  pub room : s.room ≡ tags
  pub opcodes : s.opcodes ≡ opcodes

-- the driver's commands that have gone out are the device's tasks, in the same order, HPB is on, and the device owes no
-- reply
pub record Fits (s : Sizes) (opens : List OpenCommand) (e : History) : Type 0 where
  pub keeps : tasks_after s e ≡ map (kept_as s) (filter is_out opens)
  pub in_order : OutFirst opens
  pub apart : AreApart opens
  pub proper : AllByRecursion (IsProper s) opens
  pub room : length opens ≤ tags
  pub switch : on_after e ≡ true
  pub nothing_owed : owed s e ≡ []

-- the request that a caller's command serves
abbrev pub served_by : Cdb → ℕ → List ℕ → Request
served_by (Read lba n) lun bytes = ReadOf lun lba n
served_by (HpbRead lba entry n id) lun bytes = ReadOf lun lba n
served_by (Write lba n) lun bytes = WriteOf lun lba n bytes
served_by (Sync lba n) lun bytes = SyncAll
served_by _ lun bytes = Ready

-- a request, and the tag of the command that serves it
pub record Serving : Type 0 where
  pub tag : ℕ
  pub request : Request

-- as the open command says it
abbrev pub serving : OpenCommand → Serving
serving o = record { tag = o.tag; request = served_by o.command o.lun o.bytes }

-- as it was when the request was taken
abbrev pub serving_asked : Asked → Serving
serving_asked a = record { tag = a.tag; request = a.request }

-- the request was answered GOOD
abbrev pub IsGood : Outcome → Type 0
IsGood (Came (Good bytes)) = Unit {0}
IsGood _ = ⊥

-- each answer so far is GOOD, so none was cut
abbrev pub AllGood : List Answered → Type 0
AllGood answers = AllByRecursion (λ (a : Answered). IsGood a.outcome) answers

-- the numbers of requests
abbrev pub numbers_asked : List Asked → List ℕ
numbers_asked asked = map (λ (a : Asked). a.number) asked

-- the numbers of the requests that came to their end
abbrev pub numbers_answered : List Answered → List ℕ
numbers_answered answers = map (λ (a : Answered). a.number) answers

-- each open command of a caller serves the request that was taken for it, and requests end in order of submission
pub record IsBook (m : Moment) : Type 0 where
  pub serves : map serving_asked m.callers ≡ map serving (filter is_caller m.opens)
  pub order : numbers_asked m.asked ≡ numbers_answered m.answers ++ numbers_asked m.callers

-- what a read got are the first of its blocks in the flat unit
abbrev pub GotFrom : Sizes → Flat → Cdb → ℕ → List ℕ → Type 0
GotFrom s flat (Read lba n) lun got = (k : ℕ) × (length got ≡ s.block * k) × (got ≡ bytes_at flat lun lba k)
GotFrom s flat (HpbRead lba entry n id) lun got = (k : ℕ) × (length got ≡ s.block * k) × (got ≡ bytes_at flat lun lba k)
GotFrom s flat _ lun got = Unit {0}

-- so it is for the first command
abbrev pub FirstGot : Sizes → Flat → List OpenCommand → Type 0
FirstGot s flat [] = Unit {0}
FirstGot s flat (o ∷ _) = GotFrom s flat o.command o.lun o.got

-- the answers so far are those of the flat unit, the requests that are open come next, and the device holds at each
-- place the flat unit's block alone
pub record IsFlat (s : Sizes) (unit : List Block) (m : Moment) : Type 0 where
  pub done : List Asked
  pub order : m.asked ≡ done ++ m.callers
  pub answers : m.answers ≡ flat_answers s (flat_of s unit) done
  pub serves : map serving_asked m.callers ≡ map serving (filter is_caller m.opens)
  pub alone : (p : Place) → candidates s unit m.events p ≡ flat_after s (flat_of s unit) done p ∷ []
  pub first : FirstGot s (flat_after s (flat_of s unit) done) m.opens

-- the turn may come next: a request or a command of the driver's own is one that the device serves, and enough tags are
-- free for it
abbrev pub MayTurn : Sizes → Turn → Moment → Type 0
MayTurn s (Asks number way request) m =
    IsRequest s request × IsWay way request × (length m.opens + length (commands_of way request) ≤ tags)
MayTurn s (Wants w) m = IsWanted s w × (w.caller ≡ false) × (length m.opens + 1 ≤ tags)
MayTurn s _ m = Unit {0}

-- each of these turns may come after those before it
abbrev pub MayLead : Sizes → List Turn → Type 0
MayLead s [] = Unit {0}
MayLead s (turn ∷ turns) = MayLead s turns × MayTurn s turn (moment_after s turns)
