-- Replies that end no task.
use Rattle.std.proofs.Common.{◌≡◌, ℕ, ◌^◌, ◌<◌, Bool, false, nat_lt, nat_le, not, ◌&&◌, List, [], ◌∷◌, length, Option, Some, None, Result, Ok, Err, subst, arith}
use Rattle.std.specs.List.{list_any}
use Rattle.hpb_cdb.specs.declared.cdb.Cdb.{Cdb}
use Rattle.hpb_cdb.specs.declared.fault.CdbFault.{CdbFault}
use Rattle.hpb_sense.specs.declared.sense.FixedSense.{FixedSense}
use Rattle.hpb_sense.specs.Sense.{fixed_out}
use Rattle.upiu_wire.specs.declared.fault.WireFault.{WireFault}
use Rattle.upiu_wire.specs.declared.fault.WireFault.TheVariants.{Short, Digest, Ehs, Length, Kind, CommandSet}
use Rattle.upiu_wire.specs.Upiu.{Upiu}
use Rattle.upiu_wire.specs.WireFault.{number_of}
use Rattle.flat_unit.specs.Command.{command_of, is_hpb, needed}
use Rattle.flat_unit.specs.Reply.{has_tag, command_refusal, refusal_of_cdb, check_command, fault_rejection}
use Rattle.flat_unit.specs.Senses.{no_unit, bad_field, unknown_opcode, sense_of_fault}
use Rattle.hpb_cdb.proofs.Branches.{either}
use Rattle.flat_unit.specs.Sizes.{Sizes}
use Rattle.flat_unit.specs.Task.{Task as Waiting}
use Rattle.flat_unit.specs.Harmless.{IsHarmless}
use Rattle.flat_unit.proofs.standing.OneCall.{reject_harmless, response_harmless}
use Rattle.hpb_device.specs.declared.reply.Reply.{Reply}
use Rattle.hpb_device.specs.declared.reply.Reply.TheVariants.{NopIn, Reject, Good, TaskSetFull, Check}
use Rattle.hpb_device.specs.Accept.{IsRejection}
use Rattle.hpb_device.specs.Reply.{reply_upiu}

-- so of whatever is answered
abbrev Answers : (Upiu → Type 0) → Option Upiu → Type 0
Answers P x = (r : Upiu) → x ≡ Some r → P r

only : (P : Upiu → Type 0) (v : Upiu) → P v → (r : Upiu) → Some v ≡ Some r → P r
only P v p r is = let same : v ≡ r = cc in subst P same p

nothing : (P : Upiu → Type 0) (r : Upiu) → None ≡ Some r → P r
nothing P r is = cc

check_harmless : (s : Sizes) (tasks : List Waiting) (v : Upiu) (sense : FixedSense) → v.first < 2 ^ 32 → list_any (has_tag v.tag) tasks ≡ false → IsHarmless s tasks (check_command v sense)
check_harmless s tasks v sense fits none = response_harmless s tasks v.lun v.tag 2 v.first (fixed_out sense) fits (omega arith) none

-- what answers a command ends no task
pub command_harmless : (s : Sizes) (on : Bool) (tasks : List Waiting) (v : Upiu) → v.first < 2 ^ 32 → (r : Upiu) → command_refusal s on tasks v ≡ Some r → IsHarmless s tasks r
command_harmless s on tasks v fits =
    either (Answers P) (list_any (has_tag v.tag) tasks) (λ _. only P _ (reject_harmless s tasks v.lun v.tag 8 (omega arith)))
    (λ none. either (Answers P) (nat_le s.luns v.lun) (λ _. only P _ (check_harmless s tasks v no_unit fits none))
    (λ _. either (Answers P) (nat_le s.room (length tasks)) (λ _. only P _ (response_harmless s tasks v.lun v.tag 0x28 v.first [] fits (omega arith) none))
    (λ _. by_cdb (command_of s v.cdb) none)))
  where
    P : Upiu → Type 0
    P = IsHarmless s tasks

    by_cdb : (command : Result Cdb CdbFault) → list_any (has_tag v.tag) tasks ≡ false → (r : Upiu) → refusal_of_cdb s on v command ≡ Some r → P r
    by_cdb (Err fault) none = only P _ (check_harmless s tasks v (sense_of_fault fault) fits none)
    by_cdb (Ok command) none =
        either (Answers P) (is_hpb command && not on) (λ _. only P _ (check_harmless s tasks v unknown_opcode fits none))
        (λ _. either (Answers P) (nat_lt v.first (needed s command)) (λ _. only P _ (check_harmless s tasks v bad_field fits none)) (λ _. nothing P))

-- a REJECT ends no task
pub rejection_harmless : (s : Sizes) (tasks : List Waiting) (reply : Reply) → IsRejection reply → IsHarmless s tasks (reply_upiu reply)
rejection_harmless s tasks (Reject lun tag reason) fits = reject_harmless s tasks lun tag reason fits
rejection_harmless s tasks (NopIn tag) is = absurd is
rejection_harmless s tasks (Good lun tag residual) is = absurd is
rejection_harmless s tasks (TaskSetFull lun tag residual) is = absurd is
rejection_harmless s tasks (Check lun tag residual cause) is = absurd is

fault_fits : (fault : WireFault) → number_of fault < 256
fault_fits Short = omega arith
fault_fits Digest = omega arith
fault_fits Ehs = omega arith
fault_fits Length = omega arith
fault_fits Kind = omega arith
fault_fits CommandSet = omega arith

pub fault_harmless : (s : Sizes) (tasks : List Waiting) (bytes : List ℕ) (fault : WireFault) → IsHarmless s tasks (fault_rejection bytes (number_of fault))
fault_harmless s tasks (a ∷ b ∷ lun ∷ tag ∷ rest) fault = reject_harmless s tasks lun tag (number_of fault) (fault_fits fault)
fault_harmless s tasks _ fault = reject_harmless s tasks 0 0 (number_of fault) (fault_fits fault)
