-- What a transcript counts, and what a device that made it has counted (this project's own).
use Rattle.std.specs.Prelude.{ℕ, ◌+◌, ◌-◌, ◌*◌, ◌/◌, ◌≤◌, ◌≡◌, Bool, true, false, not, ◌&&◌, ◌||◌, List, [], ◌∷◌}
use Rattle.std.specs.Prelude.{is_some, Option, Some, None, if◌then◌else◌, ◌==◌}
use Rattle.flat_unit.specs.declared.event.Event.{Event}
use Rattle.flat_unit.specs.declared.event.Event.TheVariants.{Device, Reset}
use Rattle.flat_unit.specs.Causes.{sense_code}
use Rattle.flat_unit.specs.Contents.{Shown, shown}
use Rattle.flat_unit.specs.Entries.{is_fresh}
use Rattle.flat_unit.specs.History.{History}
use Rattle.flat_unit.specs.Lists.{entry_of_block, lists_after}
use Rattle.flat_unit.specs.Queue.{tasks_after}
use Rattle.flat_unit.specs.Sizes.{Sizes}
use Rattle.flat_unit.specs.Sound.{owed}
use Rattle.flat_unit.specs.Task.{Task}
use Rattle.flat_unit.specs.Writes.{moves, blocks_come, blocks_good}

-- one more where the test holds
abbrev pub one_if : Bool → ℕ
one_if b = if b then 1 else 0

-- a step sent this, and it is no reply
abbrev pub is_sent : Event → List Event → Bool
is_sent (Device bytes) [] = true
is_sent _ _ = false

abbrev pub sends : Sizes → History → ℕ
sends s [] = 0
sends s (x ∷ e) = sends s e + one_if (is_sent x (owed s e))

-- the blocks that reads sent
abbrev pub blocks_read : Sizes → History → ℕ
blocks_read s [] = 0
blocks_read s (x ∷ e) = blocks_read s e + one_if (is_some (shown s (tasks_after s e) x))

-- the entry of the block that the first task sends next
abbrev pub next_entry : Sizes → History → List Task → Option ℕ
next_entry s e [] = None
next_entry s e (task ∷ _) = entry_of_block (lists_after s e) task task.command (task.sent / s.block)

-- the blocks that reads sent and that had an entry
abbrev pub has_entry_at : Sizes → History → Option Shown → Bool
has_entry_at s e (Some w) = is_some (next_entry s e (tasks_after s e))
has_entry_at s e None = false

abbrev pub blocks_by_entry : Sizes → History → ℕ
blocks_by_entry s [] = 0
blocks_by_entry s (x ∷ e) = blocks_by_entry s e + one_if (has_entry_at s e (shown s (tasks_after s e) x))

-- those whose entry was fresh
abbrev pub is_fresh_at : Sizes → History → Option Shown → Option ℕ → Bool
is_fresh_at s e (Some w) (Some entry) = is_fresh s e w.place entry
is_fresh_at s e _ _ = false

abbrev pub blocks_by_fresh : Sizes → History → ℕ
blocks_by_fresh s [] = 0
blocks_by_fresh s (x ∷ e) =
    blocks_by_fresh s e + one_if (is_fresh_at s e (shown s (tasks_after s e) x) (next_entry s e (tasks_after s e)))

-- a step's answer with this code
abbrev pub ends_with : ℕ → Event → List Event → Bool
ends_with code (Device bytes) [] = is_code (sense_code bytes)
  where
    is_code : Option ℕ → Bool
    is_code (Some c) = c == code
    is_code None = false
ends_with code _ _ = false

-- the reads that a failed call ended
abbrev pub reads_failed : Sizes → History → ℕ
reads_failed s [] = 0
reads_failed s (x ∷ e) = reads_failed s e + one_if (ends_with 0x11 x (owed s e))

-- a step sent something that only a device sends that has looked at its whole chip
abbrev pub is_at_work : Event → List Event → Bool
is_at_work x due = is_sent x due && not (ends_with 0x44 x due)

-- such an event stands after the last reset
abbrev pub works : Sizes → History → Bool
works s [] = false
works s (Reset ∷ e) = false
works s (x ∷ e) = is_at_work x (owed s e) || works s e

-- the stretches between resets in which such an event stands
abbrev pub stretches : Sizes → History → ℕ
stretches s [] = 0
stretches s (x ∷ e) = stretches s e + one_if (is_at_work x (owed s e) && not (works s e))

-- the counts of a device
pub record Counts : Type 0 where
  pub steps : ℕ
  pub lookups : ℕ
  pub entries : ℕ
  pub moved : ℕ
  pub erased : ℕ

-- the counts fit the transcript: the chip has so many pages, so many of them in an erase block, and so many were erased
-- at first
pub record Counted (s : Sizes) (pages per_block free : ℕ) (e : History) (t : Counts) : Type 0 where
  pub fresh_served : blocks_by_fresh s e ≤ t.entries
  pub entries_had : t.entries ≤ blocks_by_entry s e
  pub all_found : blocks_read s e ≤ t.lookups + t.entries
  pub none_else : t.lookups + t.entries ≤ blocks_read s e + reads_failed s e
  pub moved : t.moved ≡ moves e
  pub room : t.moved + blocks_good s e ≤ free + per_block * t.erased
  pub erased : per_block * t.erased ≤ (pages - free) + t.moved + blocks_come s e
  pub steps : sends s e + blocks_good s e + pages * stretches s e ≤ t.steps
