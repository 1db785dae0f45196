-- What the writes of a history brought: the blocks that came by DATA OUT, those that were answered GOOD, and their
-- places (this project's own).
use Rattle.std.specs.Prelude.{ℕ, ◌+◌, ◌-◌, ◌/◌, Bool, false, ◌&&◌, ◌||◌, List, [], ◌∷◌, length, sum_by, is_none}
use Rattle.std.specs.Prelude.{if◌then◌else◌}
use Rattle.std.specs.List.{list_any}
use Rattle.flash_pages.specs.Place.{Place}
use Rattle.hpb_cdb.specs.declared.cdb.Cdb.{Cdb}
use Rattle.hpb_cdb.specs.declared.cdb.Cdb.TheVariants.{Write}
use Rattle.upiu_wire.specs.declared.kind.Kind.{Kind}
use Rattle.upiu_wire.specs.declared.kind.Kind.TheVariants.{DataOut}
use Rattle.upiu_wire.specs.Upiu.{upiu_at}
use Rattle.flat_unit.specs.declared.event.Event.{Event}
use Rattle.flat_unit.specs.declared.event.Event.TheVariants.{Host, Moved}
use Rattle.flat_unit.specs.Contents.{Leaving, leaving, is_among}
use Rattle.flat_unit.specs.History.{History}
use Rattle.flat_unit.specs.Queue.{on_after, tasks_changed, tasks_after}
use Rattle.flat_unit.specs.Reply.{reply_of}
use Rattle.flat_unit.specs.Sizes.{Sizes}
use Rattle.flat_unit.specs.Task.{Task}

-- the whole blocks that have come for a command, where it is a write
abbrev pub whole_blocks : Sizes → Cdb → List ℕ → ℕ
whole_blocks s (Write lba n) come = length come / s.block
whole_blocks s _ come = 0

abbrev pub blocks_of_head : Sizes → List Task → ℕ
blocks_of_head s [] = 0
blocks_of_head s (task ∷ _) = whole_blocks s task.command task.come

-- the blocks that an event completes: only bytes of the host do
abbrev pub blocks_new : Sizes → Bool → List Task → Event → ℕ
blocks_new s on tasks (Host bytes) = blocks_of_head s (tasks_changed s on tasks (Host bytes)) - blocks_of_head s tasks
blocks_new s on tasks _ = 0

-- the whole blocks that came by accepted DATA OUT of writes
abbrev pub blocks_come : Sizes → History → ℕ
blocks_come s [] = 0
blocks_come s (x ∷ e) = blocks_come s e + blocks_new s (on_after e) (tasks_after s e) x

abbrev pub blocks_of_write : Cdb → ℕ
blocks_of_write (Write lba n) = n
blocks_of_write _ = 0

abbrev pub blocks_ended : Leaving → ℕ
blocks_ended l = if l.good then blocks_of_write l.task.command else 0

-- the blocks of the writes that were answered GOOD
abbrev pub blocks_good : Sizes → History → ℕ
blocks_good s [] = 0
blocks_good s (x ∷ e) = blocks_good s e + sum_by blocks_ended (leaving (tasks_after s e) x)

-- the pages that collection moved
abbrev pub moves : History → ℕ
moves [] = 0
moves (Moved lun lba ∷ e) = moves e + 1
moves (_ ∷ e) = moves e

-- the task is a write that covers the place
abbrev pub is_written_by : Place → Task → Cdb → Bool
is_written_by p task (Write lba n) = is_among task.lun lba n p
is_written_by p task _ = false

abbrev pub covers : Place → Task → Bool
covers p task = is_written_by p task task.command

-- a write that covers the place takes DATA OUT
abbrev pub head_covers : Place → List Task → Bool
head_covers p [] = false
head_covers p (task ∷ _) = covers p task

abbrev pub data_for : Kind → Place → List Task → Bool
data_for DataOut p tasks = head_covers p tasks
data_for _ p tasks = false

abbrev pub takes_data : Sizes → Bool → List Task → Place → Event → Bool
takes_data s on tasks p (Host bytes) = is_none (reply_of s on tasks bytes) && data_for (upiu_at bytes).kind p tasks
takes_data s on tasks p _ = false

-- a write that covers the place took DATA OUT
abbrev pub is_touched : Sizes → History → Place → Bool
is_touched s [] p = false
is_touched s (x ∷ e) p = takes_data s (on_after e) (tasks_after s e) p x || is_touched s e p

-- a write that covers the place was answered GOOD
abbrev pub settled_by : Place → Leaving → Bool
settled_by p l = l.good && covers p l.task

abbrev pub is_settled : Sizes → History → Place → Bool
is_settled s [] p = false
is_settled s (x ∷ e) p = list_any (settled_by p) (leaving (tasks_after s e) x) || is_settled s e p
