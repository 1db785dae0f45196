-- What a step of a device tells, and where it leaves the device, whatever its command.
use Rattle.std.proofs.Common.{◌≡◌, ◌⊎◌, ℕ, ◌+◌, ◌-◌, ◌*◌, ◌<◌, ◌≤◌, true, false, nat_lt, List, [], ◌∷◌, map, Option, Some, None, refl, sym, ◌∙◌, ap, subst, arith, inl, inr}
use Rattle.std.proofs.lemmas.Bool.{false≢true, or_parts}
use Rattle.std.proofs.lemmas.Bool.Decides.{nat_tests}
use Rattle.std.specs.Prelude.{if◌then◌else◌, is_none, is_some}
use Rattle.std.specs.List.{AllByRecursion}
use Rattle.flash_pages.specs.declared.chip.ChipOp.{ChipOp}
use Rattle.flash_pages.specs.declared.chip.ChipOp.TheVariants.{Read as ReadCall}
use Rattle.flash_pages.specs.declared.chip.Geometry.{Geometry}
use Rattle.flash_store.specs.declared.answers.Moved.{Moved}
use Rattle.flash_store.specs.declared.answers.Moved.TheVariants.{Idle, Read as ReadPage, Page as MovedPage, Erased as ErasedBlock}
use Rattle.flash_store.specs.declared.answers.Phase.{Phase}
use Rattle.flash_store.specs.declared.answers.Phase.TheVariants.{Scanning, Ready, Foreign}
use Rattle.flash_store.specs.Store.{StoreState}
use Rattle.hpb_outside.specs.Faults.{Rose, raised}
use Rattle.hpb_cdb.specs.declared.limits.Limits.{Limits}
use Rattle.upiu_wire.specs.Upiu.{upiu_at, upiu_out}
use Rattle.upiu_wire.specs.Kind.{kind_of}
use Rattle.hpb_device.specs.Reply.{reply_upiu, cause_sense}
use Rattle.hpb_device.specs.declared.reply.Reply.TheVariants.{Check}
use Rattle.hpb_device.specs.declared.reply.Cause.{Cause}
use Rattle.hpb_device.specs.declared.reply.Cause.TheVariants.{ReadFailed, WriteFailed, UnknownOpcode, OutOfRange, InvalidField, NoSuchUnit, NoNumber, DataNotAsked, ChipFailed}
use Rattle.flat_unit.specs.Causes.{FailuresAre, sense_code}
use Rattle.flat_unit.specs.Command.{is_write}
use Rattle.flat_unit.specs.History.{followed_by}
use Rattle.flat_unit.specs.Queue.{at_rest}
use Rattle.flat_unit.specs.Replays.{IsGroup, events_of, has_asked, keeps_write}
use Rattle.flat_unit.specs.Stands.{First, Stands}
use Rattle.flat_unit.specs.Task.{Task as Waiting}
use Rattle.flat_unit.proofs.standing.Foreign.{foreign_begun}
use Rattle.flat_unit.proofs.standing.OneCall.{stands_begun}
use Rattle.flash_pages.specs.Chip.{erased_count}
use Rattle.flash_pages.specs.Unit.{unit_of, next_seq}
use Rattle.hpb_device.specs.declared.advance.FailedCall.TheVariants.{MappedRead}
use Rattle.hpb_device.specs.declared.advance.Progress.{Progress}
use Rattle.hpb_device.specs.declared.advance.Progress.TheVariants.{Sends, Silent, Ended, Failed}
use Rattle.hpb_device.specs.declared.advance.Internal.TheVariants.{Missed, Programmed, Collected}
use Rattle.hpb_device.specs.declared.advance.Transfer.TheVariants.{LookedUp, ByEntry}
use Rattle.hpb_device.specs.declared.counts.Counts.{Counts}
use Rattle.hpb_device.specs.declared.device.Stepped.{Stepped}
use Rattle.hpb_device.specs.declared.task.Task.{Task}
use Rattle.hpb_device.specs.Advance.{Advances, IsSameStore, ServesEntry}
use Rattle.hpb_device.specs.Counts.{counted, counted_step}
use Rattle.hpb_device.specs.Left.{KeepsNoWrite, unscanned}
use Rattle.hpb_device.specs.Limits.{limits_of}
use Rattle.hpb_device.specs.Calls.{EndsUnread, GoesOn, Leaves, Refuses, Scans, StepsIn, moved_by, stepped}
use Rattle.hpb_device.specs.Keeps.{KeepsTasks, IsTaskOf, waiting_of}
use Rattle.hpb_device.specs.Standing.{DeviceStands, DeviceStandsForeign, first_of, group_of, kept_of, programmed_of, sizes_of}
use Rattle.hpb_device.specs.State.{DeviceState, AreAtRest, AtRest, IsSound}
use Rattle.hpb_device.specs.StoreCounts.{CountsFault}
use Rattle.hpb_device.specs.Task.{IsTaskOk, IsWaiting, next_entry, to_try}
pub use Rattle.hpb_device.proofs.Failures.{none_failed, one_failed}
use Rattle.hpb_device.proofs.Failures.{moved_fails_none}
use Rattle.hpb_device.proofs.StepStands.{sizes_same}
use Rattle.hpb_device.proofs.Stepping.{serves_same}
use Rattle.hpb_device.proofs.Transfers.{same_command}

-- the code of a CHECK CONDITION
pub check_tells : (lun tag residual : ℕ) (cause : Cause) → sense_code (upiu_out (reply_upiu (Check lun tag residual cause))) ≡ Some (cause_sense cause).asc
unfolding upiu_out upiu_at kind_of
check_tells lun tag residual ReadFailed = refl
check_tells lun tag residual WriteFailed = refl
check_tells lun tag residual UnknownOpcode = refl
check_tells lun tag residual OutOfRange = refl
check_tells lun tag residual InvalidField = refl
check_tells lun tag residual NoSuchUnit = refl
check_tells lun tag residual NoNumber = refl
check_tells lun tag residual DataNotAsked = refl
check_tells lun tag residual ChipFailed = refl

-- the failures that a step tells are those that the count of faults has
fails_by : (segment : List ℕ) (before now : ℕ) (progress : Progress) (others tasks : List Task) (held : List ℕ) (result : Stepped) (out : List ℕ) → CountsFault before now progress
    → Leaves progress segment others tasks held result out
    → FailuresAre before now (followed_by [] (events_of (group_of result out)))
fails_by segment before now (Sends what rest) others tasks held result out counts leaves = rw (leaves.1) (none_failed before now _ refl counts)
fails_by segment before now (Silent (Collected moved) rest) others tasks held result out counts leaves = rw (leaves.1) (none_failed before now _ (moved_fails_none moved out) counts)
fails_by segment before now (Silent Missed rest) others tasks held result out counts leaves = rw (leaves.1) (none_failed before now _ refl counts)
fails_by segment before now (Silent Programmed rest) others tasks held result out counts leaves = rw (leaves.1) (none_failed before now _ refl counts)
fails_by segment before now (Ended reply) others tasks held result out counts leaves = rw (leaves.2) (none_failed before now _ refl counts)
fails_by segment before now (Failed what reply) others tasks held result out counts leaves = rw (leaves.2) (one_failed before now _ refl counts.0 counts.1)

unread_fails : (before now : ℕ) (tasks left : List Task) (op : ChipOp) (result : Stepped) (out : List ℕ) → EndsUnread (Some op) tasks left result out → Rose before now → now ≤ before + 1
    → FailuresAre before now (followed_by [] (events_of (group_of result out)))
unread_fails before now [] left op result out ends rose once = rw (ends.1) (one_failed before now _ refl rose once)
unread_fails before now (task ∷ others) left op result out ends rose once = rw (ends.1) (one_failed before now _ refl rose once)

unread_fails_none : (before now : ℕ) (tasks left : List Task) (result : Stepped) (out : List ℕ) → EndsUnread None tasks left result out → now ≡ before
    → FailuresAre before now (followed_by [] (events_of (group_of result out)))
unread_fails_none before now [] left result out ends same = rw (ends.1) (none_failed before now _ refl same)
unread_fails_none before now (task ∷ others) left result out ends same = rw (ends.1) (none_failed before now _ refl same)

pub going_fails : (phase : Phase) (old new : DeviceState) (result : Stepped) (out : List ℕ) → StepsIn phase old new result out
    → FailuresAre old.store.faults new.store.faults (followed_by [] (events_of (group_of result out)))
going_fails Scanning old new result out scans = elim scans.outcome [
  | inl reads ↦ rw (reads.result_is) (none_failed old.store.faults new.store.faults _ refl reads.faults)
  | inr misses ↦ unread_fails old.store.faults new.store.faults old.tasks new.tasks ReadCall result out misses.ends misses.faults.0 misses.faults.1
]
going_fails Ready old new result out goes = fails_by _ old.store.faults new.store.faults goes.progress goes.others new.tasks new.held result out goes.calls.faults goes.leaves
going_fails Foreign old new result out refuses =
    unread_fails_none old.store.faults new.store.faults old.tasks new.tasks result out refuses.ends (ap (λ (z : StoreState). z.faults) refuses.store)

-- what a step tells is one group: a block that was moved, or what failed and what was sent
moved_group : (moved : Moved) (out : List ℕ) → IsGroup (group_of (stepped None (moved_by moved) false) out)
moved_group Idle out = inr refl
moved_group ReadPage out = inr refl
moved_group (MovedPage lun lba) out = inl (refl, refl)
moved_group (ErasedBlock block) out = inr refl

group_by : (segment : List ℕ) (progress : Progress) (others tasks : List Task) (held : List ℕ) (result : Stepped) (out : List ℕ) → Leaves progress segment others tasks held result out
    → IsGroup (group_of result out)
group_by segment (Sends what rest) others tasks held result out leaves = rw (leaves.1) (inr refl)
group_by segment (Silent (Collected moved) rest) others tasks held result out leaves = rw (leaves.1) (moved_group moved out)
group_by segment (Silent Missed rest) others tasks held result out leaves = rw (leaves.1) (inr refl)
group_by segment (Silent Programmed rest) others tasks held result out leaves = rw (leaves.1) (inr refl)
group_by segment (Ended reply) others tasks held result out leaves = rw (leaves.2) (inr refl)
group_by segment (Failed what reply) others tasks held result out leaves = rw (leaves.2) (inr refl)

unread_group : (failed : Option ChipOp) (tasks left : List Task) (result : Stepped) (out : List ℕ) → EndsUnread failed tasks left result out → IsGroup (group_of result out)
unread_group failed [] left result out ends = rw (ends.1) (inr refl)
unread_group failed (task ∷ others) left result out ends = rw (ends.1) (inr refl)

pub going_group : (phase : Phase) (old new : DeviceState) (result : Stepped) (out : List ℕ) → StepsIn phase old new result out → IsGroup (group_of result out)
going_group Scanning old new result out scans = elim scans.outcome [
  | inl reads ↦ rw (reads.result_is) (inr refl)
  | inr misses ↦ unread_group (Some ReadCall) old.tasks new.tasks result out misses.ends
]
going_group Ready old new result out goes = group_by _ goes.progress goes.others new.tasks new.held result out goes.leaves
going_group Foreign old new result out refuses = unread_group None old.tasks new.tasks result out refuses.ends

-- the device serves the same blocks behind a step
pub going_same : (phase : Phase) (old new : DeviceState) (result : Stepped) (out : List ℕ) → StepsIn phase old new result out → IsSameStore old.store new.store
going_same Scanning old new result out scans = scans.same
going_same Ready old new result out goes = serves_same old.store new.store goes.same
going_same Foreign old new result out refuses = record {
  geometry = ap (λ (z : StoreState). z.geometry) refuses.store;
  luns = ap (λ (z : StoreState). z.luns) refuses.store;
  units = ap (λ (z : StoreState). z.units) refuses.store;
}

-- it has the same sizes
pub going_sizes : (phase : Phase) (old new : DeviceState) (result : Stepped) (out : List ℕ) → StepsIn phase old new result out → new.shape ≡ old.shape → sizes_of new ≡ sizes_of old
going_sizes phase old new result out steps shape = sym (sizes_same old new (going_same phase old new result out steps) shape)

-- the pages that are left to scan: one fewer after each step without a failed call, and none on a chip that is known
pub going_unscanned : (phase : Phase) (old new : DeviceState) (result : Stepped) (out : List ℕ) → StepsIn phase old new result out
    → unscanned new ≡ unscanned old - (if is_none result.failed then 1 else 0)
going_unscanned Scanning old new result out scans = elim scans.outcome [
  | inl reads ↦
      let none : is_none result.failed ≡ true = ap (λ (r : Stepped). is_none r.failed) reads.result_is in
      let blocks = ap (λ (g : Geometry). g.blocks * g.pages) scans.same.geometry in
      rw none (omega (arith, blocks, reads.one_more))
  | inr misses ↦
      let blocks = ap (λ (g : Geometry). g.blocks * g.pages) scans.same.geometry in
      rw (unread_failed ReadCall old.tasks new.tasks result out misses.ends) (omega (arith, blocks, misses.scanned))
]
  where
    unread_failed : (op : ChipOp) (tasks left : List Task) (result : Stepped) (out : List ℕ) → EndsUnread (Some op) tasks left result out → is_none result.failed ≡ false
    unread_failed op [] left result out ends = ap (λ (r : Stepped). is_none r.failed) ends.1
    unread_failed op (task ∷ others) left result out ends = ap (λ (r : Stepped). is_none r.failed) ends.1
going_unscanned Ready old new result out goes =
    let blocks = ap (λ (g : Geometry). g.blocks * g.pages) goes.same.geometry in
    omega (arith, blocks, goes.same.scanned, goes.scanned)
going_unscanned Foreign old new result out refuses =
    let same : unscanned new ≡ unscanned old = ap (λ (z : StoreState). z.geometry.blocks * z.geometry.pages - z.scanned) refuses.store in
    omega (arith, same, refuses.scanned)

-- a step is due where no page is left to scan: then it tells no failed look at the chip
pub going_scanned : (phase : Phase) (old new : DeviceState) (result : Stepped) (out : List ℕ) → StepsIn phase old new result out → IsSound old → unscanned old ≡ 0 → GoesOn old new result out
going_scanned Scanning old new result out scans sound none = absurd (omega (arith, scans.more, none))
going_scanned Ready old new result out goes sound none = goes
going_scanned Foreign old new result out refuses sound none = absurd (refuses.foreign sound)

-- where no page is left to scan it goes on with the first task, or refuses it
pub going_due : (phase : Phase) (old new : DeviceState) (result : Stepped) (out : List ℕ) → StepsIn phase old new result out → unscanned old ≡ 0
    → GoesOn old new result out ⊎ Refuses old new result out
going_due Scanning old new result out scans none = absurd (omega (arith, scans.more, none))
going_due Ready old new result out goes none = inl goes
going_due Foreign old new result out refuses none = inr refuses

-- a task that ends unread is answered with 44h
unread_code : (failed : Option ChipOp) (tasks left : List Task) (result : Stepped) (out : List ℕ) → EndsUnread failed tasks left result out → result.sent ≡ true → sense_code out ≡ Some 0x44
unread_code failed [] left result out ends sends = absurd (false≢true (sym (ap (λ (r : Stepped). r.sent) ends.1) ∙ sends))
unread_code failed (task ∷ others) left result out ends sends = ap sense_code ends.2 ∙ check_tells task.lun task.tag _ ChipFailed

scans_code : (old new : DeviceState) (result : Stepped) (out : List ℕ) → Scans old new result out → result.sent ≡ true → sense_code out ≡ Some 0x44
scans_code old new result out scans sends = elim scans.outcome [
  | inl reads ↦ absurd (false≢true (sym (ap (λ (r : Stepped). r.sent) reads.result_is) ∙ sends))
  | inr misses ↦ unread_code (Some ReadCall) old.tasks new.tasks result out misses.ends sends
]

-- while pages are left, it sends nothing but an answer to a failed look at the chip
pub going_scans : (phase : Phase) (old new : DeviceState) (result : Stepped) (out : List ℕ) → StepsIn phase old new result out → 0 < unscanned old → result.sent ≡ true
    → (is_some result.failed ≡ true) × (sense_code out ≡ Some 0x44)
going_scans Scanning old new result out scans some sends = elim scans.outcome [
  | inl reads ↦ absurd (false≢true (sym (ap (λ (r : Stepped). r.sent) reads.result_is) ∙ sends))
  | inr misses ↦ (call_failed old.tasks misses.ends, unread_code (Some ReadCall) old.tasks new.tasks result out misses.ends sends)
]
  where
    call_failed : (tasks : List Task) → EndsUnread (Some ReadCall) tasks new.tasks result out → is_some result.failed ≡ true
    call_failed [] ends = ap (λ (r : Stepped). is_some r.failed) ends.1
    call_failed (task ∷ others) ends = ap (λ (r : Stepped). is_some r.failed) ends.1
going_scans Ready old new result out goes some sends = absurd (omega (arith, goes.scanned, some))
going_scans Foreign old new result out refuses some sends = absurd (omega (arith, refuses.scanned, some))

-- on a chip that isn't sound it sends nothing but 44h
pub going_unready : (phase : Phase) (old new : DeviceState) (result : Stepped) (out : List ℕ) → StepsIn phase old new result out → ¬ IsSound old → result.sent ≡ true
    → sense_code out ≡ Some 0x44
going_unready Scanning old new result out scans unsound sends = scans_code old new result out scans sends
going_unready Ready old new result out goes unsound sends = absurd (unsound goes.sound)
going_unready Foreign old new result out refuses unsound sends = unread_code None old.tasks new.tasks result out refuses.ends sends

-- only a step on a ready chip sends anything else, and the chip stays ready
pub going_serves : (phase : Phase) (old new : DeviceState) (result : Stepped) (out : List ℕ) → StepsIn phase old new result out → result.sent ≡ true → (sense_code out ≡ Some 0x44 → ⊥)
    → phase ≡ Ready
going_serves Scanning old new result out scans sends other = absurd (other (scans_code old new result out scans sends))
going_serves Ready old new result out goes sends other = refl
going_serves Foreign old new result out refuses sends other = absurd (other (unread_code None old.tasks new.tasks result out refuses.ends sends))

pub going_stays_ready : (old new : DeviceState) (result : Stepped) (out : List ℕ) → StepsIn old.store.phase old new result out → old.store.phase ≡ Ready → new.store.phase ≡ Ready
going_stays_ready old new result out steps ready =
    let goes : GoesOn old new result out = subst (λ (phase : Phase). StepsIn phase old new result out) ready steps in
    goes.same.phase ∙ ready

-- a device at rest stays so
waiting_goes : (luns : ℕ) (lim : Limits) (tasks : List Task) → AllByRecursion (IsWaiting luns lim) tasks → AreAtRest tasks → tasks ≡ []
waiting_goes luns lim [] all rests = refl
waiting_goes luns lim (head ∷ others) all rests = absurd (omega (arith, rests, all.0.none_come, all.0.none_asked))

none_left : (failed : Option ChipOp) (tasks left : List Task) (result : Stepped) (out : List ℕ) → tasks ≡ [] → EndsUnread failed tasks left result out → left ≡ []
none_left failed [] left result out none ends = ends.0
none_left failed (task ∷ others) left result out none ends = cc

pub going_rests : (phase : Phase) (old new : DeviceState) (result : Stepped) (out : List ℕ) → StepsIn phase old new result out → AtRest old → AtRest new
going_rests Scanning old new result out scans rests = elim scans.outcome [
  | inl reads ↦ subst AreAtRest (sym reads.tasks) rests
  | inr misses ↦ subst AreAtRest (sym (none_left (Some ReadCall) old.tasks new.tasks result out (waiting_goes old.store.luns (limits_of old.shape) old.tasks scans.waiting rests) misses.ends)) tt
]
going_rests Ready old new result out goes rests = let waits : goes.task.come < goes.task.asked = subst AreAtRest goes.was rests in absurd (omega (arith, waits, goes.goes))
going_rests Foreign old new result out refuses rests =
    subst AreAtRest (sym (none_left None old.tasks new.tasks result out (waiting_goes old.store.luns (limits_of old.shape) old.tasks refuses.waiting rests) refuses.ends)) tt

-- a step on a foreign chip that keeps a task answers it
ends_sends : (failed : Option ChipOp) (tasks left : List Task) (result : Stepped) (out : List ℕ) → EndsUnread failed tasks left result out → (tasks ≡ [] → ⊥) → result.sent ≡ true
ends_sends failed [] left result out ends some = absurd (some refl)
ends_sends failed (task ∷ others) left result out ends some = ap (λ (r : Stepped). r.sent) ends.1

pub refusing_sends : (old new : DeviceState) (result : Stepped) (out : List ℕ) → Refuses old new result out → (old.tasks ≡ [] → ⊥) → result.sent ≡ true
refusing_sends old new result out refuses some = ends_sends None old.tasks new.tasks result out refuses.ends some

pub refusing_goes : (old new : DeviceState) (result : Stepped) (out : List ℕ) → Refuses old new result out → (old.tasks ≡ [] → ⊥) → AtRest old → ⊥
refusing_goes old new result out refuses some rests = some (waiting_goes old.store.luns (limits_of old.shape) old.tasks refuses.waiting rests)

-- an empty queue is at rest
pub no_task_rests : (device : DeviceState) → device.tasks ≡ [] → AtRest device
no_task_rests device none = subst AreAtRest (sym none) tt

-- a step that sends nothing programs a block of a write that has asked for data, or tries an entry for the first time
has_asked_data : (held : List ℕ) (luns : ℕ) (lim : Limits) (kept : Task) (task : Waiting) (others : List Waiting) → IsTaskOf held kept task → IsTaskOk luns lim kept
    → is_write kept.command ≡ true → 4096 * kept.programmed < kept.come → has_asked (task ∷ others) ≡ true
has_asked_data held luns lim kept task others at ok write more =
    let asked : nat_lt 0 kept.asked ≡ true = grind (arith, nat_tests, ok.within.come, more) in
    rw (at.command, write, at.asked, asked) refl

pub sent_or_silent : (result : Stepped) (failed : Option ChipOp) → result ≡ stepped failed None true → result.sent ≡ false → ⊥
sent_or_silent result failed is silent = false≢true (sym silent ∙ ap (λ (r : Stepped). r.sent) is)

silent_by : (segment : List ℕ) (old new : DeviceState) (task : Task) (others : List Task) (progress : Progress) (result : Stepped) (out : List ℕ) (tasks : List Waiting)
    → IsTaskOk old.store.luns (limits_of old.shape) task
    → Advances (limits_of old.shape) old.store new.store old.held new.held task progress out → ServesEntry (next_entry old.lists task) old.store task progress
    → Leaves progress segment others new.tasks new.held result out → KeepsTasks (task ∷ others) old.held tasks
    → result.sent ≡ false
    → (has_asked tasks ≡ true) ⊎ ((x : ℕ) × (to_try (next_entry old.lists task) task ≡ Some x))
silent_by segment old new task others (Sends what rest) result out tasks ok advances serves leaves keeps silent = absurd (sent_or_silent result _ leaves.1 silent)
silent_by segment old new task others (Silent Missed rest) result out tasks ok advances serves leaves keeps silent = inr (serves.0, serves.1)
silent_by segment old new task others (Silent Programmed rest) result out tasks ok advances serves leaves keeps silent =
    inl (subst (λ (ts : List Waiting). has_asked ts ≡ true) (sym keeps.2)
    (has_asked_data old.held old.store.luns (limits_of old.shape) task keeps.0 (map waiting_of others) keeps.1 ok advances.0.1.write advances.0.1.more))
silent_by segment old new task others (Silent (Collected moved) rest) result out tasks ok advances serves leaves keeps silent =
    inl (subst (λ (ts : List Waiting). has_asked ts ≡ true) (sym keeps.2)
    (has_asked_data old.held old.store.luns (limits_of old.shape) task keeps.0 (map waiting_of others) keeps.1 ok advances.0.write advances.0.more))
silent_by segment old new task others (Ended reply) result out tasks ok advances serves leaves keeps silent = absurd (sent_or_silent result _ leaves.2 silent)
silent_by segment old new task others (Failed what reply) result out tasks ok advances serves leaves keeps silent = absurd (sent_or_silent result _ leaves.2 silent)

pub going_is_silent : (old new : DeviceState) (result : Stepped) (out : List ℕ) (tasks : List Waiting) → (goes : GoesOn old new result out) → KeepsTasks old.tasks old.held tasks
    → result.sent ≡ false
    → (has_asked tasks ≡ true) ⊎ ((x : ℕ) × (to_try (next_entry old.lists goes.task) goes.task ≡ Some x))
going_is_silent old new result out tasks goes keeps silent =
    silent_by _ old new goes.task goes.others goes.progress result out tasks goes.ok goes.advances goes.entries goes.leaves (subst (λ (ts : List Task). KeepsTasks ts old.held tasks) goes.was keeps)
    silent

-- a device is at rest where its tasks are
goes_by : (kept : List Task) (held : List ℕ) (tasks : List Waiting) → KeepsTasks kept held tasks → ¬ AreAtRest kept → at_rest tasks ≡ false
goes_by [] held tasks keeps going = absurd (going tt)
goes_by (head ∷ others) held tasks keeps going =
    let test : nat_lt head.come head.asked ≡ false = grind (arith, nat_tests, going) in
    rw (keeps.2, keeps.1.come, keeps.1.asked) test

pub going_tasks : (device : DeviceState) (tasks : List Waiting) → KeepsTasks device.tasks device.held tasks → ¬ AtRest device → at_rest tasks ≡ false
going_tasks device tasks keeps going = goes_by device.tasks device.held tasks keeps going

rests_by : (kept : List Task) (held : List ℕ) (tasks : List Waiting) → KeepsTasks kept held tasks → AreAtRest kept → at_rest tasks ≡ true
rests_by [] held tasks keeps rests = rw (keeps) refl
rests_by (head ∷ others) held tasks keeps rests =
    let test : nat_lt head.come head.asked ≡ true = grind (arith, nat_tests, rests) in
    rw (keeps.2, keeps.1.come, keeps.1.asked) test

pub resting_tasks : (device : DeviceState) (tasks : List Waiting) → KeepsTasks device.tasks device.held tasks → AtRest device → at_rest tasks ≡ true
resting_tasks device tasks keeps rests = rests_by device.tasks device.held tasks keeps rests

-- a device without a task that has erased nothing stands at no events, over the unit that its chip has
pub begins_standing : (device : DeviceState) → device.tasks ≡ [] → device.counts.erased ≡ 0 → IsSound device
    → DeviceStands device (first_of device) []
begins_standing device none unerased sound = record {
  tasks = [];
  erases = 0;
  keeps = subst (λ (ts : List Task). KeepsTasks ts device.held []) (sym none) refl;
  counted = unerased;
  sound = sound;
  stands = subst (λ (ts : List Task). Stands (sizes_of device) (first_of device) (record (kept_of 0 device []) { programmed = programmed_of ts }) []) (sym none)
      (stands_begun (sizes_of device) (unit_of device.store.luns device.store.units device.store.pages) (next_seq device.store.pages) (erased_count device.store.pages));
}

-- over a chip that isn't sound it stands at no events, whatever it began with
pub begins_foreign : (device : DeviceState) (first : First) → device.tasks ≡ [] → ¬ IsSound device → DeviceStandsForeign device device.store.pages first []
begins_foreign device first none unsound = record {
  tasks = [];
  keeps = subst (λ (ts : List Task). KeepsTasks ts device.held []) (sym none) refl;
  stays = refl;
  unsound = unsound;
  stands = foreign_begun (sizes_of device) first.unit first.next first.free (kept_of 0 device []) refl refl;
}

-- a device that doesn't go on is at rest
rest_by : (kept : List Task) → ((AreAtRest kept → ⊥) → ⊥) → AreAtRest kept
rest_by [] other = tt
rest_by (head ∷ others) other = let not_over : (head.come < head.asked → ⊥) → ⊥ = other in grind (arith, not_over)

pub at_rest_of : (device : DeviceState) → ((AtRest device → ⊥) → ⊥) → AtRest device
at_rest_of device other = rest_by device.tasks other

-- no write is kept behind a step where none was kept
no_write_kept : (task rest : Task) (others tasks : List Task) → tasks ≡ rest ∷ others → rest.command ≡ task.command → KeepsNoWrite (task ∷ others) → KeepsNoWrite tasks
no_write_kept task rest others tasks is same none = subst KeepsNoWrite (sym is) (ap is_write same ∙ none.0, none.1)

no_write_by : (segment : List ℕ) (lim : Limits) (old new : StoreState) (held held_now : List ℕ) (task : Task) (progress : Progress) (others tasks : List Task) (left : List ℕ) (result : Stepped)
    (out : List ℕ)
    → Advances lim old new held held_now task progress out → Leaves progress segment others tasks left result out → KeepsNoWrite (task ∷ others) → KeepsNoWrite tasks
no_write_by segment lim old new held held_now task (Sends what rest) others tasks left result out advances leaves none =
    no_write_kept task rest others tasks leaves.0 (same_command lim old what task rest out advances.0) none
no_write_by segment lim old new held held_now task (Silent Missed rest) others tasks left result out advances leaves none =
    no_write_kept task rest others tasks leaves.0 (ap (λ (t : Task). t.command) advances.0.0.task_is) none
no_write_by segment lim old new held held_now task (Silent Programmed rest) others tasks left result out advances leaves none =
    no_write_kept task rest others tasks leaves.0 (ap (λ (t : Task). t.command) advances.0.1.task_is) none
no_write_by segment lim old new held held_now task (Silent (Collected moved) rest) others tasks left result out advances leaves none =
    no_write_kept task rest others tasks leaves.0 (ap (λ (t : Task). t.command) advances.0.task_is) none
no_write_by segment lim old new held held_now task (Ended reply) others tasks left result out advances leaves none = subst KeepsNoWrite (sym leaves.0) none.1
no_write_by segment lim old new held held_now task (Failed what reply) others tasks left result out advances leaves none = subst KeepsNoWrite (sym leaves.0) none.1

unread_no_write : (failed : Option ChipOp) (tasks left : List Task) (result : Stepped) (out : List ℕ) → EndsUnread failed tasks left result out → KeepsNoWrite tasks → KeepsNoWrite left
unread_no_write failed [] left result out ends none = subst KeepsNoWrite (sym ends.0) tt
unread_no_write failed (task ∷ others) left result out ends none = subst KeepsNoWrite (sym ends.0) none.1

pub going_keeps_no_write : (phase : Phase) (old new : DeviceState) (result : Stepped) (out : List ℕ) → StepsIn phase old new result out → KeepsNoWrite old.tasks → KeepsNoWrite new.tasks
going_keeps_no_write Scanning old new result out scans none = elim scans.outcome [
  | inl reads ↦ subst KeepsNoWrite (sym reads.tasks) none
  | inr misses ↦ unread_no_write (Some ReadCall) old.tasks new.tasks result out misses.ends none
]
going_keeps_no_write Ready old new result out goes none =
    no_write_by _ (limits_of old.shape) old.store new.store old.held new.held goes.task goes.progress goes.others new.tasks new.held result out goes.advances goes.leaves
    (subst KeepsNoWrite goes.was none)
going_keeps_no_write Foreign old new result out refuses none = unread_no_write None old.tasks new.tasks result out refuses.ends none

-- none is kept where the history keeps none
waiting_no_write : (others : List Task) → keeps_write (map waiting_of others) ≡ false → KeepsNoWrite others
waiting_no_write [] none = tt
waiting_no_write (next ∷ others) none =
    let parts = or_parts (is_write next.command) (keeps_write (map waiting_of others)) none in
    (parts.0, waiting_no_write others parts.1)

pub keeps_no_write : (kept : List Task) (held : List ℕ) (tasks : List Waiting) → KeepsTasks kept held tasks → keeps_write tasks ≡ false → KeepsNoWrite kept
keeps_no_write [] held tasks keeps none = tt
keeps_no_write (head ∷ others) held tasks keeps none =
    let now : keeps_write (keeps.0 ∷ map waiting_of others) ≡ false = subst (λ (ts : List Waiting). keeps_write ts ≡ false) keeps.2 none in
    let parts = or_parts (is_write keeps.0.command) (keeps_write (map waiting_of others)) now in
    (ap is_write (sym keeps.1.command) ∙ parts.0, waiting_no_write others parts.1)

-- a step counts itself once
counted_steps : (counts : Counts) (progress : Progress) → (counted counts progress).steps ≡ raised counts.steps
counted_steps counts (Sends LookedUp rest) = refl
counted_steps counts (Sends ByEntry rest) = refl
counted_steps counts (Sends what rest) = refl
counted_steps counts (Silent (Collected Idle) rest) = refl
counted_steps counts (Silent (Collected ReadPage) rest) = refl
counted_steps counts (Silent (Collected (MovedPage lun lba)) rest) = refl
counted_steps counts (Silent (Collected (ErasedBlock block)) rest) = refl
counted_steps counts (Silent what rest) = refl
counted_steps counts (Ended reply) = refl
counted_steps counts (Failed MappedRead reply) = refl
counted_steps counts (Failed what reply) = refl

pub going_steps_counted : (phase : Phase) (old new : DeviceState) (result : Stepped) (out : List ℕ) → StepsIn phase old new result out → new.counts.steps ≤ old.counts.steps + 1
going_steps_counted Scanning old new result out scans = let is = ap (λ (c : Counts). c.steps) scans.counts in omega (arith, is)
going_steps_counted Ready old new result out goes = let is = ap (λ (c : Counts). c.steps) goes.counts ∙ counted_steps old.counts goes.progress in omega (arith, is)
going_steps_counted Foreign old new result out refuses = let is = ap (λ (c : Counts). c.steps) refuses.counts in omega (arith, is)

-- a step over a chip that is none of the device's counts itself alone
pub going_counts_step : (phase : Phase) (old new : DeviceState) (result : Stepped) (out : List ℕ) → StepsIn phase old new result out → ¬ IsSound old → new.counts ≡ counted_step old.counts
going_counts_step Scanning old new result out scans unsound = scans.counts
going_counts_step Ready old new result out goes unsound = absurd (unsound goes.sound)
going_counts_step Foreign old new result out refuses unsound = refuses.counts
