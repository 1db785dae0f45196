-- What is shown of a line of a transcript.
use Rattle.std.specs.Prelude.{ℕ, Bool, true, false, ◌+◌, ◌/◌, ◌^◌, List, [], ◌∷◌, ◌++◌, length, drop, codes, decimal}
use Rattle.std.specs.Prelude.{nat_lt, Option, Some, None, Result, Ok, Err, if◌then◌else◌, option_map}
use Rattle.std.specs.Option.{option_or}
use Rattle.std.specs.Int.{w64, to_be_bytes}
use Rattle.hex.specs.Hex.{encode_lower, decode_of}
use Rattle.hex.specs.declared.error.FromHexError.{FromHexError}
use Rattle.upiu_wire.specs.declared.kind.Kind.{Kind}
use Rattle.upiu_wire.specs.declared.kind.Kind.TheVariants.{NopOut, Command, DataOut, ManageRequest, QueryRequest, NopIn}
use Rattle.upiu_wire.specs.declared.kind.Kind.TheVariants.{Response, DataIn, ManageResponse, ReadyToTransfer}
use Rattle.upiu_wire.specs.declared.kind.Kind.TheVariants.{QueryResponse, Reject}
use Rattle.upiu_wire.specs.declared.fault.WireFault.{WireFault}
use Rattle.upiu_wire.specs.Upiu.{Upiu, upiu_at}
use Rattle.upiu_wire.specs.WireFault.{number_of, wire_fault_of}
use Rattle.hpb_cdb.specs.declared.cdb.Cdb.{Cdb}
use Rattle.hpb_cdb.specs.declared.cdb.Cdb.TheVariants.{TestReady, Read, Write, Capacity, Sync, HpbRead, ReadBuffer}
use Rattle.hpb_cdb.specs.declared.cdb.Cdb.TheVariants.{Prefetch, InactOne, InactAll}
use Rattle.hpb_cdb.specs.declared.fault.CdbFault.{CdbFault}
use Rattle.hpb_cdb.specs.declared.fault.CdbFault.TheVariants.{Opcode, Field, Range}
use Rattle.hpb_cdb.specs.declared.limits.Limits.{Limits}
use Rattle.hpb_cdb.specs.Read.{cdb_of}
use Rattle.hpb_sense.specs.declared.sense.FixedSense.{FixedSense}
use Rattle.hpb_sense.specs.declared.sense.Hint.{Hint}
use Rattle.hpb_sense.specs.declared.sense.Sense.{Sense}
use Rattle.hpb_sense.specs.declared.sense.Sense.TheVariants.{Empty, Fixed, Hint as Hinted, Other}
use Rattle.hpb_sense.specs.Sense.{sense_len, is_hint, is_fixed, hint_at, fixed_at}
use Rattle.trace_text.specs.Grammar.{after}

-- a name and a number behind it
abbrev pub named : List ℕ → ℕ → List ℕ
named name number = name ++ decimal number

-- a byte as two hex digits, and a number below 16 as one
abbrev pub byte_text : ℕ → List ℕ
byte_text byte = encode_lower (byte ∷ [])

abbrev pub digit_text : ℕ → List ℕ
digit_text number = drop 1 (byte_text number)

-- the limits inside which every region, subregion and block is
abbrev pub any_limits : Limits
any_limits = record { units = 0x1_0000_0000_0000; per_region = 65536; per_sub = 1 }

-- a command
abbrev pub command_text : Cdb → List ℕ
command_text TestReady = codes " READY"
command_text (Read lba n) = named (codes " READ lba=") lba ++ named (codes " n=") n
command_text (Write lba n) = named (codes " WRITE lba=") lba ++ named (codes " n=") n
command_text Capacity = codes " CAPACITY"
command_text (Sync lba n) = named (codes " SYNC lba=") lba ++ named (codes " n=") n
command_text (HpbRead lba entry n id) =
    named (codes " HPB_READ lba=") lba ++ codes " entry=" ++ encode_lower (to_be_bytes w64 entry)
    ++ named (codes " n=") n ++ named (codes " id=") id
command_text (ReadBuffer region sub len) =
    named (codes " READ_BUFFER region=") region ++ named (codes " sub=") sub ++ named (codes " len=") len
command_text (Prefetch lba id len) = named (codes " PREFETCH lba=") lba ++ named (codes " id=") id
    ++ named (codes " len=") len
command_text (InactOne region) = named (codes " INACT region=") region
command_text InactAll = codes " INACT_ALL"

-- why a CDB is no command
abbrev pub refused_text : CdbFault → List ℕ
refused_text Opcode = codes " bad opcode"
refused_text Field = codes " bad field"
refused_text Range = codes " bad field"

-- what a CDB says
abbrev pub cdb_text : Result Cdb CdbFault → List ℕ
cdb_text (Ok command) = command_text command
cdb_text (Err fault) = refused_text fault

-- a subregion, and several
abbrev pub pair_text : ℕ × ℕ → List ℕ
pair_text pair = decimal pair.0 ++ codes ":" ++ decimal pair.1

abbrev pub pairs_text : List (ℕ × ℕ) → List ℕ
pairs_text [] = []
pairs_text (pair ∷ []) = pair_text pair
pairs_text (pair ∷ next ∷ rest) = pair_text pair ++ codes "," ++ pairs_text (next ∷ rest)

-- several regions
abbrev pub regions_text : List ℕ → List ℕ
regions_text [] = []
regions_text (region ∷ []) = decimal region
regions_text (region ∷ next ∷ rest) = decimal region ++ codes "," ++ regions_text (next ∷ rest)

-- the sense of a segment that has two bytes or more, or nothing where it is cut
abbrev pub long_sense : List ℕ → Option Sense
long_sense segment =
    if nat_lt (length segment) (2 + sense_len segment) then None else
    (if is_hint segment then Some (Hinted (hint_at segment)) else
    (if is_fixed segment then Some (Fixed (fixed_at segment)) else Some Other))

-- the sense that a segment is, or nothing where it is cut
abbrev pub sense_of : List ℕ → Option Sense
sense_of [] = Some Empty
sense_of (_ ∷ []) = None
sense_of (first ∷ second ∷ rest) = long_sense (first ∷ second ∷ rest)

abbrev pub fixed_text : FixedSense → List ℕ
fixed_text sense = codes " sense=" ++ digit_text sense.key ++ codes "/" ++ byte_text sense.asc ++ codes "/"
    ++ byte_text sense.ascq

abbrev pub hint_text : Hint → List ℕ
hint_text hint =
    named (codes " hint op=") hint.op ++ named (codes " lun=") hint.lun
    ++ codes " act=" ++ pairs_text hint.active.items ++ codes " inact=" ++ regions_text hint.inactive.items

-- what a segment says
abbrev pub sense_text : Option Sense → List ℕ
sense_text None = codes " bad"
sense_text (Some Empty) = []
sense_text (Some (Fixed sense)) = fixed_text sense
sense_text (Some (Hinted hint)) = hint_text hint
sense_text (Some Other) = codes " other"

-- the name of a kind
abbrev pub kind_name : Kind → List ℕ
kind_name NopOut = codes "NOP_OUT"
kind_name Command = codes "COMMAND"
kind_name DataOut = codes "DATA_OUT"
kind_name ManageRequest = codes "TM_REQUEST"
kind_name QueryRequest = codes "QUERY_REQUEST"
kind_name NopIn = codes "NOP_IN"
kind_name Response = codes "RESPONSE"
kind_name DataIn = codes "DATA_IN"
kind_name ManageResponse = codes "TM_RESPONSE"
kind_name ReadyToTransfer = codes "RTT"
kind_name QueryResponse = codes "QUERY_RESPONSE"
kind_name Reject = codes "REJECT"

-- which bytes a UPIU is about
abbrev pub moved_text : Upiu → List ℕ
moved_text upiu = named (codes " off=") upiu.first ++ named (codes " n=") upiu.count

-- what a UPIU of a kind says behind its tag
abbrev pub rest_text : Kind → Upiu → List ℕ
rest_text Command upiu = named (codes " exp=") upiu.first ++ cdb_text (cdb_of any_limits upiu.cdb)
rest_text DataOut upiu = moved_text upiu
rest_text DataIn upiu = moved_text upiu
rest_text ReadyToTransfer upiu = moved_text upiu
rest_text Response upiu =
    codes " status=" ++ byte_text upiu.status ++ named (codes " resid=") upiu.first
    ++ sense_text (sense_of upiu.segment)
rest_text Reject upiu = named (codes " reason=") (upiu.first / 2 ^ 24)
rest_text _ upiu = []

-- what a UPIU says
abbrev pub upiu_text : Upiu → List ℕ
upiu_text upiu = kind_name upiu.kind ++ named (codes " lun=") upiu.lun ++ named (codes " tag=") upiu.tag
    ++ rest_text upiu.kind upiu

-- bytes, by why they are no UPIU
abbrev pub bytes_text : Option WireFault → List ℕ → List ℕ
bytes_text (Some fault) bytes = named (codes "BAD ") (number_of fault)
bytes_text None bytes = upiu_text (upiu_at bytes)

-- the line that is shown for the bytes of a UPIU
abbrev pub shown_upiu : List ℕ → List ℕ
shown_upiu bytes = bytes_text (wire_fault_of bytes) bytes ++ codes "\n"

-- the hex digits of a line that a UPIU stands in, behind its mark
abbrev pub marked_digits : List ℕ → Option (List ℕ)
marked_digits line = option_or (after (codes "U ") line) (option_or (after (codes "> ") line) (after (codes "< ") line))

-- bytes that were decoded
abbrev pub decoded : Result (List ℕ) FromHexError → Option (List ℕ)
decoded (Ok bytes) = Some bytes
decoded (Err _) = None

-- whether a UPIU of this kind is a RESPONSE, of whose segment something is shown
abbrev pub is_response : Option Kind → Bool
is_response (Some Response) = true
is_response (Some _) = false
is_response None = false

-- what is shown of a line, by the digits of its UPIU: any other line is copied
abbrev pub shown_by : Option (List ℕ) → List ℕ → Option (List ℕ)
shown_by (Some digits) line = option_map shown_upiu (decoded (decode_of digits))
shown_by None line = Some (line ++ codes "\n")

-- what is shown of a line, with its end, or nothing where a UPIU's digits are odd in number or are none
abbrev pub shown_line : List ℕ → Option (List ℕ)
shown_line line = shown_by (marked_digits line) line
