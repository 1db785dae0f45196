-- What a UPIU of the device makes of a driver's open commands (JESD220, SAM). The order of the tests is this project's
-- own.
use Rattle.std.specs.Prelude.{ℕ, ◌+◌, Bool, false, not, ◌&&◌, ◌||◌, List, ◌++◌, length, Option}
use Rattle.std.specs.Prelude.{Some, None, Result, Ok, Err, if◌then◌else◌, ◌==◌, nat_le}
use Rattle.std.specs.List.{find}
use Rattle.hpb_sense.specs.declared.sense.FixedSense.{FixedSense}
use Rattle.hpb_sense.specs.Sense.{sense_len, is_fixed, fixed_at}
use Rattle.upiu_wire.specs.declared.fault.WireFault.{WireFault}
use Rattle.upiu_wire.specs.declared.kind.Kind.{Kind}
use Rattle.upiu_wire.specs.declared.kind.Kind.TheVariants.{NopIn, DataIn, ReadyToTransfer, Response}
use Rattle.upiu_wire.specs.Upiu.{Upiu, upiu_at}
use Rattle.upiu_wire.specs.WireFault.{wire_fault_of}
use Rattle.flat_unit.specs.Command.{bytes_given, bytes_taken}
use Rattle.flat_unit.specs.Sizes.{Sizes}
use Rattle.driver_laws.specs.declared.answer.Answer.{Answer}
use Rattle.driver_laws.specs.declared.answer.Answer.TheVariants.{Good, Check, Status}
use Rattle.driver_laws.specs.declared.answer.Done.{Done}
use Rattle.driver_laws.specs.declared.fault.DriverFault.{DriverFault}
use Rattle.driver_laws.specs.declared.fault.DriverFault.TheVariants.{Wire, UnknownTag, Phase}
use Rattle.driver_laws.specs.Commands.{OpenCommand, has, change_first, remove_first}

-- the DATA IN is the next piece of what the command gets: it begins where what came ends, and is neither empty nor too
-- long
abbrev pub is_next_data : Sizes → OpenCommand → Upiu → Bool
is_next_data s o v =
    (v.first == length o.got)
    && ((v.count == length v.segment)
    && (not (v.count == 0) && nat_le (length o.got + v.count) (bytes_given s o.command)))

-- the READY TO TRANSFER asks for the next range of what the command gives
abbrev pub is_next_range : Sizes → OpenCommand → Upiu → Bool
is_next_range s o v =
    (v.first == o.asked) && (not (v.count == 0) && nat_le (o.asked + v.count) (bytes_taken s o.command))

-- all bytes of the command have come, and all were sent
abbrev pub has_moved_all : Sizes → OpenCommand → Bool
has_moved_all s o = (length o.got == bytes_given s o.command) && (o.given == bytes_taken s o.command)

-- a UPIU of this kind may come for the command now: GOOD only once all its bytes have moved
abbrev pub may_come_by : Kind → Sizes → OpenCommand → Upiu → Bool
may_come_by DataIn s o v = is_next_data s o v
may_come_by ReadyToTransfer s o v = is_next_range s o v
may_come_by Response s o v = not (v.status == 0) || has_moved_all s o
may_come_by _ s o v = false

-- a UPIU may come for the command now: it also names the command's unit
abbrev pub is_in_phase : Sizes → OpenCommand → Upiu → Bool
is_in_phase s o v = (o.lun == v.lun) && may_come_by v.kind s o v

-- the sense of a segment, where it has the fixed format (SPC)
abbrev pub fixed_in : List ℕ → Option FixedSense
fixed_in segment =
    if nat_le 2 (length segment) && (nat_le (2 + sense_len segment) (length segment) && is_fixed segment)
    then Some (fixed_at segment) else None

-- CHECK CONDITION with fixed sense, or else the status alone
abbrev pub check_or_status : ℕ → Option FixedSense → Answer
check_or_status status (Some sense) = Check sense
check_or_status status None = Status status

-- how a command ended, by the status of its RESPONSE (SAM): 00h is GOOD, 02h is CHECK CONDITION
abbrev pub answer_of : OpenCommand → Upiu → Answer
answer_of o v =
    if v.status == 0x00 then Good o.got else
    (if v.status == 0x02 then check_or_status v.status (fixed_in v.segment) else Status v.status)

-- a caller's command is told of, one of the driver's own isn't
abbrev pub done_of : OpenCommand → Upiu → Option Done
done_of o v = if o.caller then Some (record { tag = o.tag; answer = answer_of o v }) else None

-- the command once these bytes came for it
abbrev pub with_got : List ℕ → OpenCommand → OpenCommand
with_got bytes o = record o { got = o.got ++ bytes }

-- the command once the device has asked for its data up to this end
abbrev pub with_asked : ℕ → OpenCommand → OpenCommand
with_asked end o = record o { asked = end }

-- the commands that are open then, and the request that ended, if one did
pub record Delivered : Type 0 where
  pub opens : List OpenCommand
  pub done : Option Done

-- what the command with the tag of a UPIU makes of it: only a RESPONSE ends it
abbrev pub taken : Kind → List OpenCommand → OpenCommand → Upiu → Delivered
taken DataIn opens o v = record { opens = change_first (has v.tag) (with_got v.segment) opens; done = None }
taken ReadyToTransfer opens o v =
    record { opens = change_first (has v.tag) (with_asked (v.first + v.count)) opens; done = None }
taken Response opens o v = record { opens = remove_first (has v.tag) opens; done = done_of o v }
taken _ opens o v = record { opens = opens; done = None }

-- a UPIU for the command with its tag, if one is open
abbrev pub delivered_to : Sizes → List OpenCommand → Upiu → Option OpenCommand → Result Delivered DriverFault
delivered_to s opens v (Some o) = if is_in_phase s o v then Ok (taken v.kind opens o v) else Err Phase
delivered_to s opens v None = Err UnknownTag

-- a NOP IN changes nothing, and each other UPIU is for a command
abbrev pub delivered_by : Kind → Sizes → List OpenCommand → Upiu → Result Delivered DriverFault
delivered_by NopIn s opens v = Ok (record { opens = opens; done = None })
delivered_by _ s opens v = delivered_to s opens v (find (has v.tag) opens)

-- bytes that are no UPIU aren't taken
abbrev pub delivered_by_fault : Sizes → List OpenCommand → List ℕ → Option WireFault → Result Delivered DriverFault
delivered_by_fault s opens bytes (Some fault) = Err (Wire fault)
delivered_by_fault s opens bytes None = delivered_by (upiu_at bytes).kind s opens (upiu_at bytes)

-- what comes of bytes of the device, or why they aren't taken
unfoldable pub delivered : Sizes → List OpenCommand → List ℕ → Result Delivered DriverFault
delivered s opens bytes = delivered_by_fault s opens bytes (wire_fault_of bytes)
