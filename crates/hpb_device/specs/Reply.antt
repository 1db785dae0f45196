-- The UPIUs that a device sends without data of a command.
use Rattle.std.specs.Prelude.{ℕ, List, []}
use Rattle.hpb_sense.specs.declared.sense.FixedSense.{FixedSense}
use Rattle.hpb_sense.specs.Sense.{fixed_out}
use Rattle.upiu_wire.specs.declared.kind.Kind.TheVariants.{NopIn as NopInKind}
use Rattle.upiu_wire.specs.Upiu.{Upiu}
use Rattle.upiu_wire.specs.Written.{blank_upiu, reject_upiu, response_upiu}
use Rattle.flat_unit.specs.Senses.{bad_field, chip_failed, no_number, no_unit, out_of_range, read_failed}
use Rattle.flat_unit.specs.Senses.{unknown_opcode, write_failed, wrong_data}
use Rattle.hpb_device.specs.declared.reply.Cause.{Cause}
use Rattle.hpb_device.specs.declared.reply.Cause.TheVariants.{ReadFailed, WriteFailed, UnknownOpcode, OutOfRange}
use Rattle.hpb_device.specs.declared.reply.Cause.TheVariants.{InvalidField, NoSuchUnit, NoNumber, DataNotAsked}
use Rattle.hpb_device.specs.declared.reply.Cause.TheVariants.{ChipFailed}
use Rattle.hpb_device.specs.declared.reply.Reply.{Reply}
use Rattle.hpb_device.specs.declared.reply.Reply.TheVariants.{NopIn, Reject, Good, TaskSetFull, Check}

-- the sense that stands for each event
abbrev pub cause_sense : Cause → FixedSense
cause_sense ReadFailed = read_failed
cause_sense WriteFailed = write_failed
cause_sense UnknownOpcode = unknown_opcode
cause_sense OutOfRange = out_of_range
cause_sense InvalidField = bad_field
cause_sense NoSuchUnit = no_unit
cause_sense NoNumber = no_number
cause_sense DataNotAsked = wrong_data
cause_sense ChipFailed = chip_failed

abbrev pub reply_upiu : Reply → Upiu
reply_upiu (NopIn tag) = blank_upiu NopInKind 0 tag
reply_upiu (Reject lun tag reason) = reject_upiu lun tag reason
reply_upiu (Good lun tag residual) = response_upiu lun tag 0x00 residual []
reply_upiu (TaskSetFull lun tag residual) = response_upiu lun tag 0x28 residual []
reply_upiu (Check lun tag residual cause) = response_upiu lun tag 0x02 residual (fixed_out (cause_sense cause))

-- GOOD with a segment; what isn't GOOD is as ever
abbrev pub told_upiu : List ℕ → Reply → Upiu
told_upiu segment (Good lun tag residual) = response_upiu lun tag 0x00 residual segment
told_upiu segment reply = reply_upiu reply
