-- Steps that send nothing, and when they may be made.
use Rattle.std.proofs.Common.{◌≡◌, ◌⊎◌, ℕ, ◌/◌, Option, Some, ◌==◌, Bool, true, false, ◌||◌, nat_lt, List, [], ◌∷◌, ◌++◌, map, refl, sym, ◌∙◌, ap, subst, arith, inl, inr, None}
use Rattle.std.specs.Prelude.{is_some}
use Rattle.std.specs.List.{list_any}
use Rattle.std.proofs.lemmas.Bool.{false≢true}
use Rattle.std.proofs.lemmas.Bool.Decides.{nat_tests}
use Rattle.hpb_cdb.specs.declared.cdb.Cdb.{Cdb}
use Rattle.hpb_cdb.specs.declared.cdb.Cdb.TheVariants.{Write, HpbRead}
use Rattle.flat_unit.specs.Command.{is_write}
use Rattle.flat_unit.specs.History.{History}
use Rattle.flat_unit.specs.Lists.{entry_of_block, lists_after}
use Rattle.flat_unit.specs.Replays.{has_entry, keeps_head}
use Rattle.flat_unit.specs.Reply.{has_tag}
use Rattle.flat_unit.specs.Stands.{First}
use Rattle.flat_unit.specs.Task.{Task as Waiting}
use Rattle.flat_unit.proofs.standing.OneCall.{queue_of}
use Rattle.hpb_device.proofs.Fetching.{entry_is}
use Rattle.hpb_device.specs.Lists.{ListsStand}
use Rattle.entry_lists.specs.Lists.{EntryList}
use Rattle.hpb_device.specs.declared.advance.Progress.{Progress}
use Rattle.hpb_device.specs.declared.advance.Progress.TheVariants.{Sends, Silent, Ended, Failed}
use Rattle.hpb_device.specs.declared.advance.Internal.TheVariants.{Missed, Programmed, Collected}
use Rattle.hpb_device.specs.declared.device.Sent.{Sent}
use Rattle.hpb_device.specs.declared.device.Sent.TheVariants.{Nothing, Upiu}
use Rattle.hpb_device.specs.declared.device.Stepped.{Stepped}
use Rattle.hpb_device.specs.declared.task.Task.{Task}
use Rattle.hpb_device.specs.Advance.{Advances}
use Rattle.flash_pages.specs.declared.chip.ChipOp.{ChipOp}
use Rattle.flash_pages.specs.declared.chip.ChipOp.TheVariants.{Read as ReadCall}
use Rattle.flash_store.specs.declared.answers.Phase.{Phase}
use Rattle.flash_store.specs.declared.answers.Phase.TheVariants.{Scanning, Ready, Foreign}
use Rattle.hpb_device.specs.Calls.{EndsUnread, Leaves, Receives, StepsIn}
use Rattle.hpb_device.specs.Left.{unscanned}
use Rattle.hpb_device.specs.Keeps.{KeepsTasks, waiting_of}
use Rattle.hpb_device.specs.Limits.{limits_of}
use Rattle.hpb_device.specs.Standing.{DeviceStands, kept_of, sizes_of}
use Rattle.flat_unit.specs.Tasks.{AreApart}
use Rattle.hpb_device.specs.State.{DeviceState, IsIdleIn}
use Rattle.hpb_device.specs.Task.{IsTaskOk, WasSilent, entry_of, next_entry, to_try}
use Rattle.hpb_device.proofs.Commands.{tries_of}
use Rattle.hpb_device.proofs.Going.{refusing_sends, sent_or_silent}
use Rattle.hpb_device.proofs.StepStands.{given_is}

-- after a step that sent nothing
silent_after : (segment : List ℕ) (old new : DeviceState) (task : Task) (others : List Task) (progress : Progress) (result : Stepped) (out : List ℕ)
    → IsTaskOk old.store.luns (limits_of old.shape) task
    → Advances (limits_of old.shape) old.store new.store old.held new.held task progress out → Leaves progress segment others new.tasks new.held result out → result.sent ≡ false → WasSilent new.tasks
silent_after segment old new task others (Sends what rest) result out ok advances leaves silent = absurd (sent_or_silent result _ leaves.1 silent)
silent_after segment old new task others (Silent Missed rest) result out ok advances leaves silent = rw (leaves.0) (inl (ap (λ (t : Task). t.tried) advances.0.0.task_is))
silent_after segment old new task others (Silent Programmed rest) result out ok advances leaves silent =
    let programs = advances.0.1 in
    let is : is_write rest.command ≡ true = ap (λ (t : Task). is_write t.command) programs.task_is ∙ programs.write in
    let asked : rest.asked ≡ task.asked = ap (λ (t : Task). t.asked) programs.task_is in
    rw (leaves.0) (inr (is, omega (arith, asked, ok.within.come, programs.more)))
silent_after segment old new task others (Silent (Collected moved) rest) result out ok advances leaves silent =
    let collects = advances.0 in
    let is : is_write rest.command ≡ true = ap (λ (t : Task). is_write t.command) collects.task_is ∙ collects.write in
    let asked : rest.asked ≡ task.asked = ap (λ (t : Task). t.asked) collects.task_is in
    rw (leaves.0) (inr (is, omega (arith, asked, ok.within.come, collects.more)))
silent_after segment old new task others (Ended reply) result out ok advances leaves silent = absurd (sent_or_silent result _ leaves.2 silent)
silent_after segment old new task others (Failed what reply) result out ok advances leaves silent = absurd (sent_or_silent result _ leaves.2 silent)

-- a step of the scan that sends nothing leaves the tasks as they were
unread_silent : (failed : Option ChipOp) (tasks left : List Task) (result : Stepped) (out : List ℕ) → EndsUnread failed tasks left result out → result.sent ≡ false → WasSilent tasks → WasSilent left
unread_silent failed [] left result out ends silent was = absurd was
unread_silent failed (task ∷ others) left result out ends silent was = absurd (sent_or_silent result failed ends.1 silent)

-- a step was due, or one before it had sent nothing
pub going_was_silent : (phase : Phase) (old new : DeviceState) (result : Stepped) (out : List ℕ) → StepsIn phase old new result out → (IsIdleIn phase old.tasks → ⊥) → result.sent ≡ false
    → (unscanned old ≡ 0) ⊎ WasSilent old.tasks → WasSilent new.tasks
going_was_silent Scanning old new result out scans busy silent was = elim was [
  | inl none ↦ absurd (omega (arith, none, scans.more))
  | inr before ↦ elim scans.outcome [
    | inl reads ↦ subst WasSilent (sym reads.tasks) before
    | inr misses ↦ unread_silent (Some ReadCall) old.tasks new.tasks result out misses.ends silent before
  ]
]
going_was_silent Ready old new result out goes busy silent was = silent_after _ old new goes.task goes.others goes.progress result out goes.ok goes.advances goes.leaves silent
going_was_silent Foreign old new result out refuses busy silent was = absurd (false≢true (sym silent ∙ refusing_sends old new result out refuses busy))

-- a task that is to try an entry was not silent
write_has_none : (lists : List (Option EntryList)) (lun : ℕ) (command : Cdb) (k : ℕ) → is_write command ≡ true → entry_of lists lun command k ≡ None
write_has_none lists lun (Write lba n) k is = refl
write_has_none lists lun (HpbRead lba entry n id) k is = absurd (false≢true is)
write_has_none lists lun _ k is = refl

no_entry : {x : ℕ} → None ≡ Some x → ⊥
no_entry is = cc

pub tries_was_silent : (lists : List (Option EntryList)) (tasks : List Task) (task : Task) (others : List Task) (x : ℕ) → tasks ≡ task ∷ others
    → to_try (next_entry lists task) task ≡ Some x → WasSilent tasks → ⊥
tries_was_silent lists tasks task others x is tries silent =
    let at = tries_of (next_entry lists task) x task tries in
    elim (subst WasSilent is silent) [
      | inl tried ↦ false≢true (sym at.untried ∙ tried)
      | inr write ↦ no_entry (sym (write_has_none lists task.lun task.command (task.sent / 4096) write.0) ∙ at.is)
    ]

-- the entry that a task tries is one that its next block has
pub tries_has_entry : (device : DeviceState) (task : Task) (others : List Task) (tasks : List Waiting) (e : History) (x : ℕ) → device.tasks ≡ task ∷ others → KeepsTasks device.tasks device.held tasks
    → IsTaskOk device.store.luns (limits_of device.shape) task → ListsStand device e → to_try (next_entry device.lists task) task ≡ Some x → has_entry (sizes_of device) e tasks ≡ true
tries_has_entry device task others tasks e x was keeps ok stand tries =
    let s = sizes_of device in
    let k = subst (λ (ts : List Task). KeepsTasks ts device.held tasks) was keeps in
    let at = tries_of (next_entry device.lists task) x task tries in
    let given = given_is s (limits_of device.shape) task.command refl refl refl refl ok.accepted.served in
    let more : nat_lt task.sent (Rattle.flat_unit.specs.Command.bytes_given s task.command) ≡ true = grind (arith, nat_tests, given, at.more, ok.accepted.given) in
    let found : is_some (entry_of_block (lists_after s e) k.0 task.command (task.sent / 4096)) ≡ true =
    ap is_some (entry_is device.lists s e k.0 task.command (task.sent / 4096) (limits_of device.shape) stand (omega (arith, k.1.lun, ok.accepted.lun)) ok.accepted.served
    ∙ (ap (λ (lun : ℕ). entry_of device.lists lun task.command (task.sent / 4096)) k.1.lun ∙ at.is)) in
    rw (k.2, k.1.sent, k.1.command, more) found

-- a command that is kept behind the first task
more_silent : (tasks : List Task) (task : Task) → WasSilent tasks → WasSilent (tasks ++ task ∷ [])
more_silent [] task silent = absurd silent
more_silent (head ∷ others) task silent = silent

-- another task comes first where the first one is gone
first_false : (a b : Bool) → (a || b) ≡ false → a ≡ false
first_false false b is = refl
first_false true b is = is

head_gone : (others : List Task) (held : List ℕ) (gone : Waiting) (now : List Waiting) → list_any (has_tag gone.tag) (map waiting_of others) ≡ false → KeepsTasks others held now
    → keeps_head (gone ∷ map waiting_of others) now ≡ false
head_gone [] held gone now alone keeps = rw keeps refl
head_gone (next ∷ others) held gone now alone keeps =
    let other : (next.tag == gone.tag) ≡ false = first_false (next.tag == gone.tag) (list_any (has_tag gone.tag) (map waiting_of others)) alone in
    let apart : (gone.tag == next.tag) ≡ false = grind (arith, nat_tests, other) in
    rw (keeps.2, keeps.1.tag) apart

-- where the first task is the one that it was, it has been silent as before
pub received_was_silent : (old new : DeviceState) (bytes : List ℕ) (result : Sent) (out : List ℕ) (first : First) (e : History) (now : List Waiting) → (at : DeviceStands old first e)
    → KeepsTasks new.tasks new.held now
    → Receives old new bytes result out → keeps_head at.tasks now ≡ true → WasSilent old.tasks → WasSilent new.tasks
received_was_silent old new bytes Nothing out first e now at keeps receives same silent = elim receives [
  | inl kept ↦ rw (kept.kept) (more_silent old.tasks kept.task silent)
  | inr takes ↦ rw (takes.kept) (subst WasSilent takes.was silent)
]
received_was_silent old new bytes Upiu out first e now at keeps receives same silent = elim receives [
  | inl stays ↦ subst (λ (d : DeviceState). WasSilent d.tasks) (sym stays) silent
  | inr ends ↦
      let k = subst (λ (ts : List Task). KeepsTasks ts old.held at.tasks) ends.was at.keeps in
      let queue = queue_of (sizes_of old) first (kept_of at.erases old at.tasks) e at.stands in
      let alone : list_any (has_tag k.0.tag) (map waiting_of ends.others) ≡ false = (subst AreApart k.2 queue.apart).0 in
      let left : KeepsTasks ends.others new.held now = subst (λ (ts : List Task). KeepsTasks ts new.held now) ends.ended keeps in
      let gone : keeps_head at.tasks now ≡ false = ap (λ (ts : List Waiting). keeps_head ts now) k.2 ∙ head_gone ends.others new.held k.0 now alone left in
      absurd (false≢true (sym gone ∙ same))
]
