-- The lists of entries that a host prefetched, by their place, and the entry that a block of a read has.
use Rattle.std.specs.Prelude.{ℕ, ◌+◌, ◌-◌, ◌*◌, List, length, Option, Some, None, if◌then◌else◌, ◌==◌, nat_le}
use Rattle.std.specs.Prelude.{slice_index_or, slice_range, slice_set}
use Rattle.byteorder.specs.Endian.{big_number}

-- a list of entries that was made for the blocks from an LBA on, 8 bytes each
pub record EntryList : Type 0 where
  pub lba : ℕ
  pub bytes : List ℕ

-- where the list of this unit and read id stands: each unit has 127 places, for the ids from 1 on
abbrev pub place_of : ℕ → ℕ → ℕ
place_of lun id = 127 * lun + id - 1

-- the list of this unit and read id, where one is kept; read id 0 has none
abbrev pub list_at : List (Option EntryList) → ℕ → ℕ → Option EntryList
list_at lists lun id = if id == 0 then None else slice_index_or lists (place_of lun id) None

-- the lists after one, or none, takes the place of this unit and read id; for read id 0 they stay
abbrev pub with_list : List (Option EntryList) → ℕ → ℕ → Option EntryList → List (Option EntryList)
with_list lists lun id list = if id == 0 then lists else slice_set lists (place_of lun id) list

-- entry k of a list, where all its 8 bytes are there
abbrev pub entry_in : List ℕ → ℕ → Option ℕ
entry_in bytes k =
    if nat_le (8 * k + 8) (length bytes) then Some (big_number 8 (slice_range bytes (8 * k) (8 * k + 8))) else None

-- the entry of block k of a read: that of its list, or else the one in the CDB for the first block
abbrev pub entry_by : Option EntryList → ℕ → ℕ → ℕ → Option ℕ
entry_by (Some l) lba entry k =
    if l.lba == lba then entry_in l.bytes k else (if k == 0 then Some entry else None)
entry_by None lba entry k = if k == 0 then Some entry else None

-- the same, by the list of its unit and read id
abbrev pub entry_for : List (Option EntryList) → ℕ → ℕ → ℕ → ℕ → ℕ → Option ℕ
entry_for lists lun id lba entry k = entry_by (list_at lists lun id) lba entry k
