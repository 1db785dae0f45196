-- The lists of entries that were prefetched and are kept after some events, and the entry that a block of a read has
-- (this project's own).
use Rattle.std.specs.Prelude.{ℕ, ◌+◌, ◌*◌, Bool, not, ◌&&◌, List, [], ◌∷◌, length, filter, find, fold, Option, Some}
use Rattle.std.specs.Prelude.{None, if◌then◌else◌, ◌==◌, nat_le, slice_range}
use Rattle.byteorder.specs.Endian.{big_number}
use Rattle.hpb_cdb.specs.declared.cdb.Cdb.{Cdb}
use Rattle.hpb_cdb.specs.declared.cdb.Cdb.TheVariants.{HpbRead, Prefetch}
use Rattle.upiu_wire.specs.Upiu.{upiu_at}
use Rattle.flat_unit.specs.declared.event.Event.{Event}
use Rattle.flat_unit.specs.declared.event.Event.TheVariants.{Device, Reset}
use Rattle.flat_unit.specs.Contents.{Leaving, answered}
use Rattle.flat_unit.specs.History.{History}
use Rattle.flat_unit.specs.Queue.{tasks_after}
use Rattle.flat_unit.specs.Sizes.{Sizes}
use Rattle.flat_unit.specs.Task.{Task}

-- a list of entries that was prefetched for the blocks of a unit from an LBA on, under a read id
pub record Fetched : Type 0 where
  pub lun : ℕ
  pub id : ℕ
  pub lba : ℕ
  pub bytes : List ℕ

abbrev pub is_list : ℕ → ℕ → Fetched → Bool
is_list lun id l = (l.lun == lun) && (l.id == id)

abbrev pub without_list : ℕ → ℕ → List Fetched → List Fetched
without_list lun id lists = filter (λ (l : Fetched). not (is_list lun id l)) lists

-- a prefetch that is answered GOOD keeps its list in place of an older one, and an HPB READ that is answered takes its
-- list away
abbrev pub lists_left_by : List Fetched → Leaving → Cdb → List Fetched
lists_left_by lists l (Prefetch lba id len) =
    if l.good
    then record { lun = l.task.lun; id = id; lba = lba; bytes = l.task.come }
    ∷ without_list l.task.lun id lists else lists
lists_left_by lists l (HpbRead lba entry n id) = without_list l.task.lun id lists
lists_left_by lists l _ = lists

abbrev pub lists_left : List Fetched → List Leaving → List Fetched
lists_left lists ls = fold (λ (kept : List Fetched) (l : Leaving). lists_left_by kept l l.task.command) lists ls

abbrev pub lists_changed : List Task → List Fetched → Event → List Fetched
lists_changed tasks lists (Device bytes) = lists_left lists (answered (upiu_at bytes) (upiu_at bytes).kind tasks)
lists_changed tasks lists Reset = []
lists_changed tasks lists _ = lists

-- the lists that are kept after these events
abbrev pub lists_after : Sizes → History → List Fetched
lists_after s [] = []
lists_after s (x ∷ e) = lists_changed (tasks_after s e) (lists_after s e) x

-- entry k of a list, where all its 8 bytes are there
abbrev pub entry_in : List ℕ → ℕ → Option ℕ
entry_in bytes k =
    if nat_le (8 * k + 8) (length bytes) then Some (big_number 8 (slice_range bytes (8 * k) (8 * k + 8))) else None

-- the list of this unit and id, made for this LBA
abbrev pub is_for_read : ℕ → ℕ → ℕ → Fetched → Bool
is_for_read lun id lba l = is_list lun id l && (l.lba == lba)

abbrev pub entry_by_list : Option Fetched → ℕ → ℕ → Option ℕ
entry_by_list (Some l) entry k = entry_in l.bytes k
entry_by_list None entry k = if k == 0 then Some entry else None

-- the entry of block k of a read: that of its list, or else the one in the CDB for the first block
abbrev pub entry_of_block : List Fetched → Task → Cdb → ℕ → Option ℕ
entry_of_block lists task (HpbRead lba entry n id) k = entry_by_list (find (is_for_read task.lun id lba) lists) entry k
entry_of_block lists task _ k = None
