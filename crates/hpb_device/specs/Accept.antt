-- What comes of bytes of the host.
use Rattle.std.specs.Prelude.{⊤, ◌≡◌, ℕ, ◌+◌, ◌^◌, ◌<◌, ◌≤◌, Bool, true, false, not, ◌==◌, ◌&&◌, nat_le, List, [], ◌∷◌}
use Rattle.std.specs.Prelude.{length, Some, None, Result, Ok, Err}
use Rattle.hpb_cdb.specs.declared.limits.Limits.{Limits}
use Rattle.hpb_cdb.specs.Cdb.{IsCdb}
use Rattle.upiu_wire.specs.Upiu.{Upiu, upiu_at}
use Rattle.flat_unit.specs.Harmless.{IsHarmless}
use Rattle.upiu_wire.specs.declared.kind.Kind.TheVariants.{Command, DataOut}
use Rattle.hpb_device.specs.declared.reply.Reply.TheVariants.{Reject, Check}
use Rattle.hpb_device.specs.declared.reply.Cause.TheVariants.{DataNotAsked}
use Rattle.flat_unit.specs.Command.{command_of}
use Rattle.flat_unit.specs.Reply.{reply_of, command_refusal, data_refusal}
use Rattle.flat_unit.specs.Senses.{sense_of_fault}
use Rattle.flat_unit.specs.Sizes.{Sizes}
use Rattle.flat_unit.specs.Task.{Task as Waiting}
use Rattle.hpb_cdb.specs.declared.cdb.Cdb.{Cdb}
use Rattle.hpb_cdb.specs.declared.fault.CdbFault.{CdbFault}
use Rattle.hpb_device.specs.declared.reply.Cause.{Cause}
use Rattle.hpb_device.specs.Reply.{reply_upiu, cause_sense}
use Rattle.hpb_device.specs.declared.task.Task.{Task}
use Rattle.hpb_device.specs.declared.reply.Reply.{Reply}
use Rattle.hpb_device.specs.declared.accept.Verdict.{Verdict}
use Rattle.hpb_device.specs.declared.accept.Verdict.TheVariants.{Keep, Data, Answer, End}
use Rattle.hpb_device.specs.Task.{WaitsForData, IsTaskOk, bytes_given}

-- the task of a COMMAND, of which nothing is done yet
pub record IsBegun (lim : Limits) (luns : ℕ) (upiu : Upiu) (task : Task) : Type 0 where
  pub command : IsCdb upiu.cdb lim task.command
  pub task_is : task ≡ record {
    lun = upiu.lun;
    tag = upiu.tag;
    command = task.command;
    expected = upiu.first;
    given = bytes_given lim task.command;
    asked = 0;
    come = 0;
    sent = 0;
    programmed = 0;
    tried = false;
  }
  pub task_ok : IsTaskOk luns lim task

-- the segment goes on with the data that the task waits for
pub record IsNextPiece (task : Task) (segment : List ℕ) : Type 0 where
  pub some : 0 < length segment
  pub asked : task.come + length segment ≤ task.asked

-- the DATA OUT goes on where the data that have come end, within what the task asked for
abbrev pub goes_on : Task → Upiu → Bool
goes_on task upiu =
    (upiu.first == task.come) && ((upiu.count == length upiu.segment)
    && (not (upiu.count == 0) && nat_le (task.come + upiu.count) task.asked))

-- data are taken where the first task waits for them
abbrev pub TakesPiece : List Task → Upiu → List ℕ → Type 0
TakesPiece [] upiu segment = ⊥
TakesPiece (head ∷ _) upiu segment = IsNextPiece head segment × (segment ≡ upiu.segment)

-- the first task waits for other data, and is answered
abbrev pub EndsFirst : List Task → Reply → Type 0
EndsFirst [] reply = ⊥
EndsFirst (head ∷ _) reply =
    WaitsForData head × ((residual : ℕ) × (residual < 2 ^ 32) × (reply ≡ Check head.lun head.tag residual DataNotAsked))

-- a command is kept where there is room
abbrev pub IsVerdict : Limits → ℕ → List Task → Upiu → Verdict → Type 0
IsVerdict lim luns tasks upiu (Keep task) = (length tasks < 32) × IsBegun lim luns upiu task
IsVerdict lim luns tasks upiu (Data segment) = TakesPiece tasks upiu segment.now
IsVerdict lim luns tasks upiu (Answer reply) = ⊤
IsVerdict lim luns tasks upiu (End reply) = EndsFirst tasks reply

-- the command of a CDB, or why it is refused
abbrev pub IsCommandOf : Sizes → List ℕ → Result Cdb Cause → Type 0
IsCommandOf s cdb (Ok command) = command_of s cdb ≡ Ok command
IsCommandOf s cdb (Err cause) = (fault : CdbFault) × (command_of s cdb ≡ Err fault)
    × (cause_sense cause ≡ sense_of_fault fault)

-- nothing stands against a command
pub record IsUnopposed (s : Sizes) (tasks : List Waiting) (upiu : Upiu) (task : Task) : Type 0 where
  pub unopposed : command_refusal s true tasks upiu ≡ None
  pub command : command_of s upiu.cdb ≡ Ok task.command

-- what comes of a COMMAND is what the tasks that are kept allow
abbrev pub IsJudged : Sizes → List Waiting → Upiu → Result Task Reply → Type 0
IsJudged s tasks upiu (Ok task) = IsUnopposed s tasks upiu task
IsJudged s tasks upiu (Err reply) = command_refusal s true tasks upiu ≡ Some (reply_upiu reply)

-- the reply is a REJECT
abbrev pub IsRejection : Reply → Type 0
IsRejection (Reject lun tag reason) = reason < 256
IsRejection _ = ⊥

-- what comes of a DATA OUT is what the tasks that are kept allow
abbrev pub IsDataVerdict : List Waiting → Upiu → Verdict → Type 0
IsDataVerdict tasks upiu (Keep task) = ⊥
IsDataVerdict tasks upiu (Data segment) = (data_refusal tasks upiu ≡ None) × (segment.now ≡ upiu.segment)
IsDataVerdict tasks upiu (Answer reply) = (data_refusal tasks upiu ≡ Some (reply_upiu reply)) × IsRejection reply
IsDataVerdict tasks upiu (End reply) = data_refusal tasks upiu ≡ Some (reply_upiu reply)

-- a command that nothing answers at once
pub record IsKept (s : Sizes) (tasks : List Waiting) (bytes : List ℕ) (task : Task) : Type 0 where
  pub silent : reply_of s true tasks bytes ≡ None
  pub kind : (upiu_at bytes).kind ≡ Command
  pub command : command_of s (upiu_at bytes).cdb ≡ Ok task.command

-- data that nothing answers at once
pub record IsTaken (s : Sizes) (tasks : List Waiting) (bytes segment : List ℕ) : Type 0 where
  pub silent : reply_of s true tasks bytes ≡ None
  pub kind : (upiu_at bytes).kind ≡ DataOut
  pub segment_is : segment ≡ (upiu_at bytes).segment

-- a reply that ends no task
pub record IsAnswered (s : Sizes) (tasks : List Waiting) (bytes : List ℕ) (reply : Reply) : Type 0 where
  pub answers : reply_of s true tasks bytes ≡ Some (reply_upiu reply)
  pub harmless : IsHarmless s tasks (reply_upiu reply)

-- what comes of bytes is what the tasks that are kept allow
abbrev pub Follows : Sizes → List Waiting → List ℕ → Verdict → Type 0
Follows s tasks bytes (Keep task) = IsKept s tasks bytes task
Follows s tasks bytes (Data segment) = IsTaken s tasks bytes segment.now
Follows s tasks bytes (Answer reply) = IsAnswered s tasks bytes reply
Follows s tasks bytes (End reply) = reply_of s true tasks bytes ≡ Some (reply_upiu reply)
