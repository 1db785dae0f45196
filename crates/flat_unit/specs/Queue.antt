-- The tasks that a device keeps after some events, in order of acceptance, and whether HPB is on (SAM's task set, with
-- this project's own rule that tasks run in order of arrival).
use Rattle.std.specs.Prelude.{ℕ, ◌+◌, Bool, true, not, List, [], ◌∷◌, ◌++◌, filter, Option, Some, None, Result, Ok, Err}
use Rattle.std.specs.Prelude.{if◌then◌else◌}
use Rattle.hpb_cdb.specs.declared.cdb.Cdb.{Cdb}
use Rattle.hpb_cdb.specs.declared.fault.CdbFault.{CdbFault}
use Rattle.upiu_wire.specs.declared.kind.Kind.{Kind}
use Rattle.upiu_wire.specs.declared.kind.Kind.TheVariants.{Command, DataOut, Response, DataIn, ReadyToTransfer}
use Rattle.upiu_wire.specs.Upiu.{Upiu, upiu_at}
use Rattle.flat_unit.specs.declared.event.Event.{Event}
use Rattle.flat_unit.specs.declared.event.Event.TheVariants.{Host, Device, Reset, Switched, Gone}
use Rattle.flat_unit.specs.Command.{command_of}
use Rattle.flat_unit.specs.History.{History}
use Rattle.flat_unit.specs.Reply.{has_tag, waits_for_data, reply_of}
use Rattle.flat_unit.specs.Sizes.{Sizes}
use Rattle.flat_unit.specs.Task.{Task}

-- whether HPB is on after these events
abbrev pub on_after : History → Bool
on_after [] = true
on_after (Reset ∷ e) = true
on_after (Switched on ∷ e) = on
on_after (_ ∷ e) = on_after e

-- the task of a command that is kept
abbrev pub task_of : Upiu → Cdb → Task
task_of v command =
    record { lun = v.lun; tag = v.tag; command = command; expected = v.first; asked = 0; come = []; sent = 0 }

abbrev pub with_data : List ℕ → Task → Task
with_data bytes task = record task { come = task.come ++ bytes }

abbrev pub with_sent : ℕ → Task → Task
with_sent count task = record task { sent = task.sent + count }

abbrev pub with_asked : ℕ → Task → Task
with_asked end task = record task { asked = end }

abbrev pub change_head : (Task → Task) → List Task → List Task
change_head f [] = []
change_head f (task ∷ tasks) = f task ∷ tasks

abbrev pub change_head_with_tag : ℕ → (Task → Task) → List Task → List Task
change_head_with_tag tag f tasks = change_head (λ (task : Task). if has_tag tag task then f task else task) tasks

abbrev pub without_tag : ℕ → List Task → List Task
without_tag tag tasks = filter (λ (task : Task). not (has_tag tag task)) tasks

abbrev pub with_command : List Task → Upiu → Result Cdb CdbFault → List Task
with_command tasks v (Ok command) = tasks ++ task_of v command ∷ []
with_command tasks v (Err _) = tasks

-- a UPIU that got no reply: a command is added last, data go to the head
abbrev pub after_kept : Sizes → List Task → Upiu → Kind → List Task
after_kept s tasks v Command = with_command tasks v (command_of s v.cdb)
after_kept s tasks v DataOut = change_head (with_data v.segment) tasks
after_kept s tasks v _ = tasks

-- what a UPIU of the device changes
abbrev pub after_sent : Upiu → Kind → List Task → List Task
after_sent v DataIn tasks = change_head_with_tag v.tag (with_sent v.count) tasks
after_sent v ReadyToTransfer tasks = change_head_with_tag v.tag (with_asked (v.first + v.count)) tasks
after_sent v Response tasks = without_tag v.tag tasks
after_sent v _ tasks = tasks

-- bytes that are answered at once change nothing
abbrev pub after_reply : Sizes → List Task → Upiu → Option Upiu → List Task
after_reply s tasks v (Some _) = tasks
after_reply s tasks v None = after_kept s tasks v v.kind

abbrev pub tasks_changed : Sizes → Bool → List Task → Event → List Task
tasks_changed s on tasks (Host bytes) = after_reply s tasks (upiu_at bytes) (reply_of s on tasks bytes)
tasks_changed s on tasks (Device bytes) = after_sent (upiu_at bytes) (upiu_at bytes).kind tasks
tasks_changed s on tasks (Gone tag) = without_tag tag tasks
tasks_changed s on tasks Reset = []
tasks_changed s on tasks _ = tasks

-- the tasks that are kept after these events
abbrev pub tasks_after : Sizes → History → List Task
tasks_after s [] = []
tasks_after s (x ∷ e) = tasks_changed s (on_after e) (tasks_after s e) x

-- nothing more can happen without the host: no task is kept, or the first one waits for data
abbrev pub at_rest : List Task → Bool
at_rest [] = true
at_rest (task ∷ _) = waits_for_data task
