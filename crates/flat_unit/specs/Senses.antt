-- The sense that stands for each event (keys and codes of SPC; which of them stands for which event is this project's
-- own).
use Rattle.std.specs.Prelude.{ℕ}
use Rattle.hpb_cdb.specs.declared.fault.CdbFault.{CdbFault}
use Rattle.hpb_cdb.specs.declared.fault.CdbFault.TheVariants.{Opcode, Field, Range}
use Rattle.hpb_sense.specs.declared.sense.FixedSense.{FixedSense}

abbrev pub sense : ℕ → ℕ → FixedSense
sense key code = record { key = key; asc = code; ascq = 0 }

-- MEDIUM ERROR: the chip failed in a read, or in a write
abbrev pub read_failed : FixedSense
read_failed = sense 0x3 0x11

abbrev pub write_failed : FixedSense
write_failed = sense 0x3 0x0C

-- HARDWARE ERROR: the chip failed while the device looked at it, or it isn't a chip of this device
abbrev pub chip_failed : FixedSense
chip_failed = sense 0x4 0x44

-- ILLEGAL REQUEST: the opcode, the range of blocks, a field or the expected length, the logical unit
abbrev pub unknown_opcode : FixedSense
unknown_opcode = sense 0x5 0x20

abbrev pub out_of_range : FixedSense
out_of_range = sense 0x5 0x21

abbrev pub bad_field : FixedSense
bad_field = sense 0x5 0x24

abbrev pub no_unit : FixedSense
no_unit = sense 0x5 0x25

-- DATA PROTECT: there is no sequence number for a block any more
abbrev pub no_number : FixedSense
no_number = sense 0x7 0x27

-- ABORTED COMMAND: DATA OUT that wasn't asked for
abbrev pub wrong_data : FixedSense
wrong_data = sense 0xB 0x4B

-- the sense for a CDB that is refused
abbrev pub sense_of_fault : CdbFault → FixedSense
sense_of_fault Opcode = unknown_opcode
sense_of_fault Field = bad_field
sense_of_fault Range = out_of_range
