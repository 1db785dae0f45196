-- What a flat unit may hold at a place after some events (reads and writes of SBC; what a write that was cut leaves is
-- this project's own). A unit is the list of the blocks of all logical units. There are no pages, entries, regions or
-- collection here.
use Rattle.std.specs.Prelude.{ℕ, ◌+◌, ◌-◌, ◌*◌, ◌/◌, Bool, false, ◌&&◌, List, [], ◌∷◌, ◌++◌, length, filter, map, fold}
use Rattle.std.specs.Prelude.{slice_range, slice_index_or, Option, Some, None, if◌then◌else◌, ◌==◌, nat_lt, nat_le}
use Rattle.flash_pages.specs.Place.{Place, index_of}
use Rattle.hpb_cdb.specs.declared.cdb.Cdb.{Cdb}
use Rattle.hpb_cdb.specs.declared.cdb.Cdb.TheVariants.{Write}
use Rattle.upiu_wire.specs.declared.kind.Kind.{Kind}
use Rattle.upiu_wire.specs.declared.kind.Kind.TheVariants.{Response, DataIn}
use Rattle.upiu_wire.specs.Upiu.{Upiu, upiu_at}
use Rattle.flat_unit.specs.declared.event.Event.{Event}
use Rattle.flat_unit.specs.declared.event.Event.TheVariants.{Device, Reset, Gone}
use Rattle.flat_unit.specs.History.{History}
use Rattle.flat_unit.specs.Queue.{tasks_after}
use Rattle.flat_unit.specs.Reply.{has_tag}
use Rattle.flat_unit.specs.Sizes.{Sizes}
use Rattle.flat_unit.specs.Task.{Task}
use Rattle.flat_unit.specs.Work.{Work, ReadsBlocks, work_of}

abbrev pub Block : Type 0
Block = List ℕ

-- the block at a place of a unit
abbrev pub block_at : Sizes → List Block → Place → Block
block_at s unit p = slice_index_or unit (index_of s.units p) []

abbrev pub is_same : Place → Place → Bool
is_same p q = (p.lun == q.lun) && (p.lba == q.lba)

-- the place lies among so many blocks from one on
abbrev pub is_among : ℕ → ℕ → ℕ → Place → Bool
is_among lun lba n p = (lun == p.lun) && (nat_le lba p.lba && nat_lt p.lba (lba + n))

-- where the block of a place begins in the data of a write
abbrev pub offset_in : Sizes → ℕ → Place → ℕ
offset_in s lba p = s.block * (p.lba - lba)

-- the write covers the place, and all bytes of its block have come
abbrev pub has_block : Sizes → Task → ℕ → ℕ → Place → Bool
has_block s task lba n p = is_among task.lun lba n p && nat_le (offset_in s lba p + s.block) (length task.come)

-- the block that a task holds for a place
abbrev pub block_written : Sizes → Task → Cdb → Place → Option Block
block_written s task (Write lba n) p =
    if has_block s task lba n p
    then Some (slice_range task.come (offset_in s lba p) (offset_in s lba p + s.block)) else None
block_written s task _ p = None

-- the place whose block a read sends next
abbrev pub place_by : Sizes → Task → Work → Option Place
place_by s task (ReadsBlocks lba n) = Some (record { lun = task.lun; lba = lba + task.sent / s.block })
place_by s task _ = None

abbrev pub next_place : Sizes → Task → Cdb → Option Place
next_place s task command = place_by s task (work_of command)

-- a task that leaves, and whether it was answered GOOD
pub record Leaving : Type 0 where
  pub task : Task
  pub good : Bool

abbrev pub leaving_all : Bool → List Task → List Leaving
leaving_all good tasks = map (λ (task : Task). record { task = task; good = good }) tasks

-- the tasks that a UPIU of the device ends
abbrev pub answered : Upiu → Kind → List Task → List Leaving
answered v Response tasks = leaving_all (v.status == 0) (filter (has_tag v.tag) tasks)
answered v _ tasks = []

-- the tasks that leave at an event
abbrev pub leaving : List Task → Event → List Leaving
leaving tasks (Device bytes) = answered (upiu_at bytes) (upiu_at bytes).kind tasks
leaving tasks (Gone tag) = leaving_all false (filter (has_tag tag) tasks)
leaving tasks Reset = leaving_all false tasks
leaving tasks _ = []

-- a block that was written counts alone where the write was answered GOOD, and else is old or new
abbrev pub with_block : Bool → List Block → Option Block → List Block
with_block good blocks (Some block) = if good then block ∷ [] else blocks ++ block ∷ []
with_block good blocks None = blocks

abbrev pub left_by : Sizes → Place → List Block → Leaving → List Block
left_by s p blocks l = with_block l.good blocks (block_written s l.task l.task.command p)

-- a block that a read shows, and where
pub record Shown : Type 0 where
  pub place : Place
  pub block : Block

abbrev pub shown_at : Upiu → Option Place → Option Shown
shown_at v (Some place) = Some (record { place = place; block = v.segment })
shown_at v None = None

abbrev pub shown_by_data : Sizes → Upiu → List Task → Option Shown
shown_by_data s v [] = None
shown_by_data s v (task ∷ _) = if has_tag v.tag task then shown_at v (next_place s task task.command) else None

abbrev pub shown_by_kind : Sizes → Upiu → Kind → List Task → Option Shown
shown_by_kind s v DataIn tasks = shown_by_data s v tasks
shown_by_kind s v _ tasks = None

-- the block that an event shows, where it is the DATA IN of a read
abbrev pub shown : Sizes → List Task → Event → Option Shown
shown s tasks (Device bytes) = shown_by_kind s (upiu_at bytes) (upiu_at bytes).kind tasks
shown s tasks _ = None

-- what a read has shown counts alone
abbrev pub seen_at : Place → List Block → Option Shown → List Block
seen_at p blocks (Some w) = if is_same w.place p then w.block ∷ [] else blocks
seen_at p blocks None = blocks

abbrev pub candidates_changed : Sizes → List Task → List Block → Event → Place → List Block
candidates_changed s tasks blocks x p = seen_at p (fold (left_by s p) blocks (leaving tasks x)) (shown s tasks x)

-- the blocks that the flat unit allows at a place after these events, where it began as this unit
abbrev pub candidates : Sizes → List Block → History → Place → List Block
candidates s unit [] p = block_at s unit p ∷ []
candidates s unit (x ∷ e) p = candidates_changed s (tasks_after s e) (candidates s unit e p) x p
