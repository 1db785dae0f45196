-- A device stands at a history: its tasks are those that the history keeps, each block of its unit is one that the flat
-- unit allows, and the history is sound and has its causes (this project's own).
use Rattle.std.specs.Prelude.{◌≡◌, ◌≤◌, ℕ, ◌+◌, ◌*◌, Bool, false, List, [], ◌∷◌, Contains, MatchBool, if◌then◌else◌}
use Rattle.std.specs.Prelude.{Option, Some, None}
use Rattle.flash_pages.specs.Place.{Place, IsPlace}
use Rattle.hpb_cdb.specs.declared.cdb.Cdb.{Cdb}
use Rattle.hpb_cdb.specs.declared.cdb.Cdb.TheVariants.{Write}
use Rattle.upiu_wire.specs.declared.kind.Kind.{Kind}
use Rattle.upiu_wire.specs.declared.kind.Kind.TheVariants.{Response}
use Rattle.flat_unit.specs.Causes.{Caused}
use Rattle.flat_unit.specs.Contents.{Block, block_at, block_written, is_among, candidates}
use Rattle.flat_unit.specs.History.{History}
use Rattle.flat_unit.specs.Queue.{on_after, tasks_after, without_tag}
use Rattle.flat_unit.specs.Reply.{has_tag}
use Rattle.flat_unit.specs.Sizes.{Sizes}
use Rattle.flat_unit.specs.Sound.{Sound}
use Rattle.flat_unit.specs.Task.{Task}
use Rattle.flat_unit.specs.Writes.{moves, blocks_come, blocks_good, blocks_of_head}

-- what a device keeps: its tasks, whether HPB is on, the unit of its chip, how many blocks of its first task it has
-- programmed, the next sequence number of its chip and its erased pages, and how many erase blocks it has erased
pub record Kept : Type 0 where
  pub tasks : List Task
  pub on : Bool
  pub unit : List Block
  pub programmed : ℕ
  pub next : ℕ
  pub free : ℕ
  pub erases : ℕ

-- the chip that it began with: its unit, its next sequence number, and its erased pages
pub record First : Type 0 where
  pub unit : List Block
  pub next : ℕ
  pub free : ℕ

-- the place is one of the blocks of a write that are programmed
abbrev pub is_programmed_for : ℕ → Task → Cdb → Place → Bool
is_programmed_for programmed task (Write lba n) p = is_among task.lun lba programmed p
is_programmed_for programmed task _ p = false

abbrev pub is_programmed : ℕ → List Task → Place → Bool
is_programmed programmed [] p = false
is_programmed programmed (task ∷ _) p = is_programmed_for programmed task task.command p

-- the block that the first task holds for a place
abbrev pub head_block : Sizes → List Task → Place → Option Block
head_block s [] p = None
head_block s (task ∷ _) p = block_written s task task.command p

-- a block that was programmed for the first task is the one that came for it, and any other is a candidate
abbrev pub HoldsAt : Sizes → Kept → List Block → Place → Type 0
HoldsAt s kept allowed p =
    MatchBool (is_programmed kept.programmed kept.tasks p)
    (head_block s kept.tasks p ≡ Some (block_at s kept.unit p))
    (Contains allowed (block_at s kept.unit p))

abbrev pub Holds : Sizes → Kept → List Block → History → Type 0
Holds s kept unit e = (p : Place) → IsPlace s.luns s.units p → HoldsAt s kept (candidates s unit e p) p

-- only blocks of a write that have come are programmed
abbrev pub IsProgress : Sizes → ℕ → Task → Cdb → Type 0
IsProgress s programmed task (Write lba n) = (programmed ≤ n) × (programmed ≤ blocks_of_head s (task ∷ []))
IsProgress s programmed task _ = programmed ≡ 0

abbrev pub HasProgress : Sizes → ℕ → List Task → Type 0
HasProgress s programmed [] = programmed ≡ 0
HasProgress s programmed (task ∷ _) = IsProgress s programmed task task.command

-- Its next sequence number is at least the first one with a number for each page that was moved, each block that was
-- answered GOOD and each that is programmed. It is at most that with the whole blocks that came, but for those that the
-- first task has and that aren't programmed. Its erased pages are those of the first chip and of each erase block that
-- was erased, less one for each sequence number that was used.
pub record Stands (s : Sizes) (first : First) (kept : Kept) (e : History) : Type 0 where
  pub keeps : tasks_after s e ≡ kept.tasks
  pub switch : on_after e ≡ kept.on
  pub progress : HasProgress s kept.programmed kept.tasks
  pub holds : Holds s kept first.unit e
  pub at_least : first.next + moves e + blocks_good s e + kept.programmed ≤ kept.next
  pub at_most : kept.next + blocks_of_head s kept.tasks ≤ first.next + moves e + blocks_come s e + kept.programmed
  pub free : kept.free + kept.next ≡ first.free + first.next + s.erase_block * kept.erases
  pub sound : Sound s first.unit e
  pub caused : Caused s ⊥ first.next e

-- a device over a chip that is none of this device's: it keeps its tasks and ends each of them
pub record StandsForeign (s : Sizes) (first : First) (kept : Kept) (e : History) : Type 0 where
  pub keeps : tasks_after s e ≡ kept.tasks
  pub switch : on_after e ≡ kept.on
  pub sound : Sound s first.unit e
  pub caused : Caused s (Unit {0}) first.next e

-- all of it but that the history is sound: what holds while a request still owes some of its events
pub record StandsButSound (s : Sizes) (first : First) (kept : Kept) (e : History) : Type 0 where
  pub keeps : tasks_after s e ≡ kept.tasks
  pub switch : on_after e ≡ kept.on
  pub progress : HasProgress s kept.programmed kept.tasks
  pub holds : Holds s kept first.unit e
  pub at_least : first.next + moves e + blocks_good s e + kept.programmed ≤ kept.next
  pub at_most : kept.next + blocks_of_head s kept.tasks ≤ first.next + moves e + blocks_come s e + kept.programmed
  pub free : kept.free + kept.next ≡ first.free + first.next + s.erase_block * kept.erases
  pub caused : Caused s ⊥ first.next e

-- the task with a tag goes, and what was programmed for it is forgotten
abbrev pub first_has : ℕ → List Task → Bool
first_has tag [] = false
first_has tag (task ∷ _) = has_tag tag task

abbrev pub gone_from : ℕ → Kept → Kept
gone_from tag kept = record kept {
  tasks = without_tag tag kept.tasks;
  programmed = if first_has tag kept.tasks then 0 else kept.programmed;
}

-- what a reply leaves: a RESPONSE ends the task with its tag
abbrev pub ended_by : Kind → ℕ → Kept → Kept
ended_by Response tag kept = gone_from tag kept
ended_by _ tag kept = kept
