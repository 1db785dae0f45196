-- The commands of a request (SBC, SPC; the layout of the HPB commands is this project's own).
use Rattle.std.specs.Prelude.{ℕ, ◌*◌, true, false, List, [], ◌∷◌, length, flat_map, fold, slice_index}
use Rattle.byteorder.specs.Endian.{big_bytes}
use Rattle.hpb_cdb.specs.declared.cdb.Cdb.TheVariants.{TestReady, Read, Write, Sync, HpbRead, Prefetch}
use Rattle.driver_laws.specs.declared.request.Request.{Request}
use Rattle.driver_laws.specs.declared.request.Request.TheVariants.{Read as ReadOf, Write as WriteOf}
use Rattle.driver_laws.specs.declared.request.Request.TheVariants.{Sync as SyncAll, Ready}
use Rattle.driver_laws.specs.Commands.{OpenCommand, Wanted, opened}

-- how a read goes out: plainly, with the entry of its first block, or after a list of the entries of all its blocks,
-- under a read id
pub data Way : Type 0 where
  Plainly : Way
  WithEntry : ℕ → Way
  WithList : ℕ → List ℕ → Way

-- the bytes of a list of entries: 8 for each, the highest first
abbrev pub list_bytes : List ℕ → List ℕ
list_bytes entries = flat_map (big_bytes 8) entries

-- the commands of a read: the list goes out as a command of the driver's own, before the read
abbrev pub read_by : Way → ℕ → ℕ → ℕ → List Wanted
read_by Plainly lun lba n = record { lun = lun; command = Read lba n; bytes = []; caller = true } ∷ []
read_by (WithEntry entry) lun lba n =
    record { lun = lun; command = HpbRead lba entry n 0; bytes = []; caller = true } ∷ []
read_by (WithList id entries) lun lba n =
    record { lun = lun; command = Prefetch lba id (8 * length entries); bytes = list_bytes entries; caller = false }
    ∷ record { lun = lun; command = HpbRead lba (slice_index entries 0) n id; bytes = []; caller = true } ∷ []

-- the commands of a request, of which the last one serves it; SYNCHRONIZE CACHE of 0 blocks from 0 on is one of the
-- whole unit (SBC), and goes to unit 0
abbrev pub commands_of : Way → Request → List Wanted
commands_of way (ReadOf lun lba n) = read_by way lun lba n
commands_of way (WriteOf lun lba n bytes) =
    record { lun = lun; command = Write lba n; bytes = bytes; caller = true } ∷ []
commands_of way SyncAll = record { lun = 0; command = Sync 0 0; bytes = []; caller = true } ∷ []
commands_of way Ready = record { lun = 0; command = TestReady; bytes = []; caller = true } ∷ []

-- the open commands with those of one more request
abbrev pub submitted : Way → Request → List OpenCommand → List OpenCommand
submitted way request opens = fold opened opens (commands_of way request)
