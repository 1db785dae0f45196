-- What answers the bytes of a host at once: the refusals, and the requests that need no task (JESD220, SAM; the order
-- of the tests and the reasons of REJECT are this project's own).
use Rattle.std.specs.Prelude.{ℕ, ◌+◌, ◌-◌, Bool, not, ◌&&◌, List, [], ◌∷◌, length, Option, Some, None, Result, Ok, Err}
use Rattle.std.specs.Prelude.{if◌then◌else◌, ◌==◌, nat_lt, nat_le}
use Rattle.std.specs.List.{list_any}
use Rattle.hpb_cdb.specs.declared.cdb.Cdb.{Cdb}
use Rattle.hpb_cdb.specs.declared.fault.CdbFault.{CdbFault}
use Rattle.hpb_sense.specs.declared.sense.FixedSense.{FixedSense}
use Rattle.hpb_sense.specs.Sense.{fixed_out}
use Rattle.upiu_wire.specs.declared.kind.Kind.{Kind}
use Rattle.upiu_wire.specs.declared.kind.Kind.TheVariants.{NopOut, Command, DataOut, ManageRequest, QueryRequest, NopIn}
use Rattle.upiu_wire.specs.declared.fault.WireFault.{WireFault}
use Rattle.upiu_wire.specs.Upiu.{Upiu, upiu_at}
use Rattle.upiu_wire.specs.WireFault.{wire_fault_of, number_of}
use Rattle.upiu_wire.specs.Written.{blank_upiu, response_upiu, reject_upiu}
use Rattle.flat_unit.specs.declared.event.Event.{Event}
use Rattle.flat_unit.specs.Command.{command_of, is_hpb, needed}
use Rattle.flat_unit.specs.Manage.{manage_reply, manage_events}
use Rattle.flat_unit.specs.Query.{query_reply, query_events}
use Rattle.flat_unit.specs.Senses.{unknown_opcode, bad_field, no_unit, wrong_data, sense_of_fault}
use Rattle.flat_unit.specs.Sizes.{Sizes}
use Rattle.flat_unit.specs.Task.{Task}

abbrev pub has_tag : ℕ → Task → Bool
has_tag tag task = task.tag == tag

-- the task has asked for more than has come
abbrev pub waits_for_data : Task → Bool
waits_for_data task = nat_lt (length task.come) task.asked

-- RESPONSE with CHECK CONDITION and fixed sense
abbrev pub check : ℕ → ℕ → ℕ → FixedSense → Upiu
check lun tag residual sense = response_upiu lun tag 0x02 residual (fixed_out sense)

-- the reasons of REJECT beside those of the wire
abbrev pub not_served : Upiu → Upiu
not_served v = reject_upiu v.lun v.tag 7

abbrev pub tag_in_use : Upiu → Upiu
tag_in_use v = reject_upiu v.lun v.tag 8

abbrev pub not_waited_for : Upiu → Upiu
not_waited_for v = reject_upiu v.lun v.tag 9

-- a COMMAND that is refused moves nothing
abbrev pub check_command : Upiu → FixedSense → Upiu
check_command v sense = check v.lun v.tag v.first sense

-- what stands against a command that the unit has
abbrev pub refusal_of_command : Sizes → Bool → Upiu → Cdb → Option Upiu
refusal_of_command s on v command =
    if is_hpb command && not on then Some (check_command v unknown_opcode) else
    (if nat_lt v.first (needed s command) then Some (check_command v bad_field) else None)

-- what stands against a CDB
abbrev pub refusal_of_cdb : Sizes → Bool → Upiu → Result Cdb CdbFault → Option Upiu
refusal_of_cdb s on v (Ok command) = refusal_of_command s on v command
refusal_of_cdb s on v (Err fault) = Some (check_command v (sense_of_fault fault))

-- what stands against a COMMAND while these tasks are kept; status 28h is TASK SET FULL
abbrev pub command_refusal : Sizes → Bool → List Task → Upiu → Option Upiu
command_refusal s on tasks v =
    if list_any (has_tag v.tag) tasks then Some (tag_in_use v) else
    (if nat_le s.luns v.lun then Some (check_command v no_unit) else
    (if nat_le s.room (length tasks) then Some (response_upiu v.lun v.tag 0x28 v.first []) else
    refusal_of_cdb s on v (command_of s v.cdb)))

-- these data are the next piece of what the task has asked for
abbrev pub is_next_piece : Task → Upiu → Bool
is_next_piece task v =
    (v.first == length task.come)
    && ((v.count == length v.segment) && (not (v.count == 0) && nat_le (length task.come + v.count) task.asked))

-- what stands against DATA OUT
abbrev pub data_refusal : List Task → Upiu → Option Upiu
data_refusal [] v = Some (not_waited_for v)
data_refusal (task ∷ _) v =
    if not (waits_for_data task && ((task.lun == v.lun) && (task.tag == v.tag))) then Some (not_waited_for v) else
    (if is_next_piece task v then None else Some (check v.lun v.tag (task.expected - length task.come) wrong_data))

-- what answers a UPIU of a kind
abbrev pub reply_by_kind : Kind → Sizes → Bool → List Task → Upiu → Option Upiu
reply_by_kind NopOut s on tasks v = Some (blank_upiu NopIn 0 v.tag)
reply_by_kind QueryRequest s on tasks v = Some (if s.queries then query_reply on v else not_served v)
reply_by_kind ManageRequest s on tasks v = Some (if s.manages then manage_reply s tasks v else not_served v)
reply_by_kind Command s on tasks v = command_refusal s on tasks v
reply_by_kind DataOut s on tasks v = data_refusal tasks v
reply_by_kind _ s on tasks v = Some (not_served v)

-- REJECT of bytes that are no UPIU: their bytes 2 and 3, where there are four
abbrev pub fault_rejection : List ℕ → ℕ → Upiu
fault_rejection (_ ∷ _ ∷ lun ∷ tag ∷ _) reason = reject_upiu lun tag reason
fault_rejection _ reason = reject_upiu 0 0 reason

-- what answers bytes with this fault, or with none
abbrev pub reply_by_fault : Sizes → Bool → List Task → List ℕ → Option WireFault → Option Upiu
reply_by_fault s on tasks bytes (Some fault) = Some (fault_rejection bytes (number_of fault))
reply_by_fault s on tasks bytes None = reply_by_kind (upiu_at bytes).kind s on tasks (upiu_at bytes)

-- what answers the bytes at once, or nothing where they are kept
unfoldable pub reply_of : Sizes → Bool → List Task → List ℕ → Option Upiu
reply_of s on tasks bytes = reply_by_fault s on tasks bytes (wire_fault_of bytes)

-- the events that follow the reply to a UPIU of a kind
abbrev pub effects_by_kind : Kind → Sizes → Bool → List Task → Upiu → List Event
effects_by_kind QueryRequest s on tasks v = if s.queries then query_events on v else []
effects_by_kind ManageRequest s on tasks v = if s.manages then manage_events s tasks v else []
effects_by_kind _ s on tasks v = []

abbrev pub effects_by_fault : Sizes → Bool → List Task → List ℕ → Option WireFault → List Event
effects_by_fault s on tasks bytes (Some fault) = []
effects_by_fault s on tasks bytes None = effects_by_kind (upiu_at bytes).kind s on tasks (upiu_at bytes)

-- the events that follow the reply to these bytes
unfoldable pub effects_of : Sizes → Bool → List Task → List ℕ → List Event
effects_of s on tasks bytes = effects_by_fault s on tasks bytes (wire_fault_of bytes)
