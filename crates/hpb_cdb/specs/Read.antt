-- The command that 16 bytes are, or why they are none, as an answer that computes.
use Rattle.std.specs.Prelude.{ℕ, ◌==◌, List, Result, Ok, Err, slice_index, slice_range, if◌then◌else◌}
use Rattle.byteorder.specs.Endian.{big_number}
use Rattle.hpb_cdb.specs.declared.cdb.Cdb.{Cdb}
use Rattle.hpb_cdb.specs.declared.cdb.Cdb.TheVariants.{TestReady, Read, Write, Capacity, Sync, HpbRead, ReadBuffer}
use Rattle.hpb_cdb.specs.declared.cdb.Cdb.TheVariants.{Prefetch, InactOne, InactAll}
use Rattle.hpb_cdb.specs.declared.fault.CdbFault.{CdbFault}
use Rattle.hpb_cdb.specs.declared.fault.CdbFault.TheVariants.{Opcode, Field, Range}
use Rattle.hpb_cdb.specs.declared.limits.Limits.{Limits}
use Rattle.hpb_cdb.specs.Cdb.{has_good_fields, is_in_unit}

-- the opcode and the byte after it, which names the mode of a buffer command
abbrev pub opcode_of : List ℕ → ℕ
opcode_of cdb = slice_index cdb 0

abbrev pub mode_of : List ℕ → ℕ
mode_of cdb = slice_index cdb 1

-- the numbers that commands have at the same places
abbrev pub lba_in : List ℕ → ℕ
lba_in cdb = big_number 4 (slice_range cdb 2 6)

abbrev pub blocks_in : List ℕ → ℕ
blocks_in cdb = big_number 2 (slice_range cdb 7 9)

abbrev pub region_in : List ℕ → ℕ
region_in cdb = big_number 2 (slice_range cdb 2 4)

-- WRITE BUFFER, by its mode
abbrev pub write_buffer_in : List ℕ → Result Cdb CdbFault
write_buffer_in cdb =
    if mode_of cdb == 0x01 then Ok (InactOne (region_in cdb)) else
    (if mode_of cdb == 0x02 then Ok (Prefetch (lba_in cdb) (slice_index cdb 6) (blocks_in cdb)) else
    (if mode_of cdb == 0x03 then Ok InactAll else Err Field))

abbrev pub read_buffer_in : List ℕ → Result Cdb CdbFault
read_buffer_in cdb =
    if mode_of cdb == 0x01
    then Ok (ReadBuffer (region_in cdb) (big_number 2 (slice_range cdb 4 6)) (big_number 3 (slice_range cdb 6 9)))
    else Err Field

-- the command that the bytes spell, whatever its fields say
abbrev pub spelled_by : List ℕ → Result Cdb CdbFault
spelled_by cdb =
    if opcode_of cdb == 0x00 then Ok TestReady else
    (if opcode_of cdb == 0x25 then Ok Capacity else
    (if opcode_of cdb == 0x28 then Ok (Read (lba_in cdb) (blocks_in cdb)) else
    (if opcode_of cdb == 0x2A then Ok (Write (lba_in cdb) (blocks_in cdb)) else
    (if opcode_of cdb == 0x35 then Ok (Sync (lba_in cdb) (blocks_in cdb)) else
    (if opcode_of cdb == 0xF8
    then Ok (HpbRead (lba_in cdb) (big_number 8 (slice_range cdb 6 14)) (slice_index cdb 14) (slice_index cdb 15)) else
    (if opcode_of cdb == 0xF9 then read_buffer_in cdb else
    (if opcode_of cdb == 0xFA then write_buffer_in cdb else Err Opcode)))))))

-- a command, where its fields are good and the unit has its blocks
abbrev pub judged : Limits → Result Cdb CdbFault → Result Cdb CdbFault
judged lim (Ok command) =
    if has_good_fields lim command then (if is_in_unit lim command then Ok command else Err Range) else Err Field
judged lim (Err fault) = Err fault

-- the command that the bytes are
unfoldable pub cdb_of : Limits → List ℕ → Result Cdb CdbFault
cdb_of lim cdb = judged lim (spelled_by cdb)
