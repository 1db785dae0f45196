-- A device over a foreign chip keeps and answers the bytes of the host as one over a chip of its own.
use Rattle.std.proofs.Common.{◌≡◌, ℕ, ◌+◌, ◌^◌, ◌<◌, ◌≤◌, true, List, [], ◌∷◌, ◌++◌, map, length, Some, None, refl, sym, ◌∙◌, ap, subst, arith}
use Rattle.std.specs.List.{AllByRecursion}
use Rattle.flash_pages.specs.Chip.{Page}
use Rattle.hpb_cdb.specs.declared.limits.Limits.{Limits}
use Rattle.hpb_sense.specs.Sense.{fixed_out}
use Rattle.upiu_wire.specs.Upiu.{Upiu, upiu_at, upiu_out}
use Rattle.flat_unit.specs.declared.event.Event.TheVariants.{Host, Device}
use Rattle.flat_unit.specs.History.{History, ◌▹◌}
use Rattle.flat_unit.specs.Queue.{after_sent, task_of, with_data}
use Rattle.flat_unit.specs.Reply.{check, reply_of}
use Rattle.flat_unit.specs.Senses.{wrong_data}
use Rattle.flat_unit.specs.Stands.{First, StandsForeign}
use Rattle.flat_unit.specs.Task.{Task as Waiting}
use Rattle.flat_unit.specs.Tasks.{AreApart}
use Rattle.flat_unit.proofs.History.{response-consistent}
use Rattle.flat_unit.proofs.queue.Tasks.{queue_after}
use Rattle.flat_unit.proofs.standing.Foreign.{foreign_accepted, foreign_answered, foreign_as, foreign_taken}
use Rattle.flat_unit.proofs.standing.Sending.{response_changes, with_tasks}
use Rattle.hpb_device.specs.declared.task.Task.{Task}
use Rattle.hpb_device.specs.declared.reply.Reply.{Reply}
use Rattle.hpb_device.specs.declared.reply.Reply.TheVariants.{Check}
use Rattle.hpb_device.specs.declared.reply.Cause.TheVariants.{DataNotAsked}
use Rattle.hpb_device.specs.Accept.{IsBegun, IsKept, IsTaken, IsAnswered}
use Rattle.hpb_device.specs.Keeps.{KeepsTasks, waiting_of}
use Rattle.hpb_device.specs.Limits.{limits_of}
use Rattle.hpb_device.specs.Reply.{reply_upiu}
use Rattle.hpb_device.specs.Standing.{DeviceStandsForeign, kept_of, sizes_of}
use Rattle.hpb_device.specs.State.{DeviceState}
use Rattle.hpb_device.specs.Task.{IsWaiting, IsQueue}
use Rattle.hpb_device.proofs.ReceiveStands.{data_kept, keeps_more, no_effects, waits_begun}
use Rattle.hpb_device.proofs.StepStands.{keeps_waiting}

-- a command is kept
pub foreign_with_task : (d : DeviceState) (task : Task) (bytes : List ℕ) (lim : Limits) (luns : ℕ) (chip : List Page) (first : First) (e : History) → IsQueue luns lim d.held d.tasks
    → IsBegun lim luns (upiu_at bytes) task
    → ((tasks : List Waiting) → KeepsTasks d.tasks d.held tasks → IsKept (sizes_of d) tasks bytes task)
    → DeviceStandsForeign d chip first e → DeviceStandsForeign (record d { tasks = d.tasks ++ task ∷ [] }) chip first (e ▹ Host bytes)
foreign_with_task d task bytes lim luns chip first e queue begun follows at =
    let kept = follows at.tasks at.keeps in
    let v = upiu_at bytes in
    let now = foreign_accepted (sizes_of d) first (kept_of 0 d at.tasks) e bytes task.command kept.silent kept.kind kept.command at.stands in
    let same : task_of v task.command ≡ waiting_of task = λ i. record {
      lun = sym (ap (λ (t : Task). t.lun) begun.task_is) i;
      tag = sym (ap (λ (t : Task). t.tag) begun.task_is) i;
      command = task.command;
      expected = sym (ap (λ (t : Task). t.expected) begun.task_is) i;
      asked = 0;
      come = [];
      sent = 0;
    } in
    let tasks = at.tasks ++ waiting_of task ∷ [] in
    record {
      tasks = tasks;
      keeps = keeps_more luns lim d.tasks d.held at.tasks task queue (waits_begun lim luns v task begun) at.keeps;
      stays = at.stays;
      unsound = at.unsound;
      stands = foreign_as (sizes_of d) first (with_tasks (at.tasks ++ task_of v task.command ∷ []) (kept_of 0 d at.tasks)) (kept_of 0 (record d { tasks = d.tasks ++ task ∷ [] }) tasks)
          (e ▹ Host bytes)
          (ap (λ (t : Waiting). at.tasks ++ t ∷ []) (sym same)) refl now;
    }

-- data are taken
pub foreign_with_data : (d : DeviceState) (kept : Task) (others : List Task) (bytes segment : List ℕ) (chip : List Page) (first : First) (e : History) → d.tasks ≡ kept ∷ others
    → length d.held ≤ kept.come
    → ((tasks : List Waiting) → KeepsTasks d.tasks d.held tasks → IsTaken (sizes_of d) tasks bytes segment)
    → DeviceStandsForeign d chip first e
    → DeviceStandsForeign (record d { tasks = record kept { come = kept.come + length segment } ∷ others; held = d.held ++ segment }) chip first (e ▹ Host bytes)
foreign_with_data d kept others bytes segment chip first e is part follows at =
    let taken = follows at.tasks at.keeps in
    let keeps = subst (λ (ts : List Task). KeepsTasks ts d.held at.tasks) is at.keeps in
    let task = keeps.0 in
    let ws = map waiting_of others in
    let alone : at.tasks ≡ task ∷ ws = keeps.2 in
    let s = sizes_of d in
    let now_device : DeviceState = record d { tasks = record kept { come = kept.come + length segment } ∷ others; held = d.held ++ segment } in
    let standing : StandsForeign s first (kept_of 0 d (task ∷ ws)) e = subst (λ (ts : List Waiting). StandsForeign s first (kept_of 0 d ts) e) alone at.stands in
    let silent : reply_of s true (task ∷ ws) bytes ≡ None = subst (λ (ts : List Waiting). reply_of s true ts bytes ≡ None) alone taken.silent in
    let now = foreign_taken s first (kept_of 0 d (task ∷ ws)) e bytes task ws silent taken.kind standing in
    record {
      tasks = with_data segment task ∷ ws;
      keeps = (with_data segment task, data_kept d.held segment kept task part keeps.1, refl);
      stays = at.stays;
      unsound = at.unsound;
      stands = foreign_as s first (with_tasks (with_data (upiu_at bytes).segment task ∷ ws) (kept_of 0 d (task ∷ ws))) (kept_of 0 now_device (with_data segment task ∷ ws)) (e ▹ Host bytes)
          (ap (λ (xs : List ℕ). with_data xs task ∷ ws) taken.segment_is) refl now;
    }

-- a reply ends no task
pub foreign_with_reply : (d : DeviceState) (bytes : List ℕ) (reply : Reply) (out : List ℕ) (chip : List Page) (first : First) (e : History) → out ≡ upiu_out (reply_upiu reply)
    → ((tasks : List Waiting) → KeepsTasks d.tasks d.held tasks → IsAnswered (sizes_of d) tasks bytes reply)
    → DeviceStandsForeign d chip first e → DeviceStandsForeign d chip first (e ▹ Host bytes ▹ Device out)
foreign_with_reply d bytes reply out chip first e is follows at =
    let answered = follows at.tasks at.keeps in
    let s = sizes_of d in
    let v = reply_upiu reply in
    let none = no_effects d.store.luns (limits_of d.shape) d.store.geometry at.tasks bytes in
    let now = foreign_answered s first (kept_of 0 d at.tasks) e bytes v answered.harmless.consistent answered.answers none at.stands in
    record {
      tasks = at.tasks;
      keeps = at.keeps;
      stays = at.stays;
      unsound = at.unsound;
      stands = subst (λ (b : List ℕ). StandsForeign s first (kept_of 0 d at.tasks) (e ▹ Host bytes ▹ Device b)) (sym is)
          (foreign_as s first (with_tasks (after_sent v v.kind at.tasks) (kept_of 0 d at.tasks)) (kept_of 0 d at.tasks) (e ▹ Host bytes ▹ Device (upiu_out v)) (sym answered.harmless.tasks_stay) refl
          now);
    }

-- data that weren't asked for end the head
pub foreign_without_head : (d : DeviceState) (kept : Task) (others : List Task) (bytes out : List ℕ) (residual luns : ℕ) (lim : Limits) (chip : List Page) (first : First) (e : History)
    → d.tasks ≡ kept ∷ others
    → AllByRecursion (IsWaiting luns lim) others → residual < 2 ^ 32
    → out ≡ upiu_out (reply_upiu (Check kept.lun kept.tag residual DataNotAsked))
    → ((tasks : List Waiting) → KeepsTasks d.tasks d.held tasks → reply_of (sizes_of d) true tasks bytes ≡ Some (reply_upiu (Check kept.lun kept.tag residual DataNotAsked)))
    → DeviceStandsForeign d chip first e → DeviceStandsForeign (record d { tasks = others; held = [] }) chip first (e ▹ Host bytes ▹ Device out)
foreign_without_head d kept others bytes out residual luns lim chip first e is waiting fits sent follows at =
    let keeps = subst (λ (ts : List Task). KeepsTasks ts d.held at.tasks) is at.keeps in
    let task = keeps.0 in
    let ws = map waiting_of others in
    let alone : at.tasks ≡ task ∷ ws = keeps.2 in
    let s = sizes_of d in
    let standing : StandsForeign s first (kept_of 0 d (task ∷ ws)) e = subst (λ (ts : List Waiting). StandsForeign s first (kept_of 0 d ts) e) alone at.stands in
    let end = check task.lun task.tag residual wrong_data in
    let same : reply_upiu (Check kept.lun kept.tag residual DataNotAsked) ≡ end =
    ap (λ (lun : ℕ). check lun kept.tag residual wrong_data) (sym keeps.1.lun) ∙ ap (λ (tag : ℕ). check task.lun tag residual wrong_data) (sym keeps.1.tag) in
    let answers : reply_of s true (task ∷ ws) bytes ≡ Some end =
    subst (λ (ts : List Waiting). reply_of s true ts bytes ≡ Some end) alone (follows at.tasks at.keeps ∙ ap (λ (u : Upiu). Some u) same) in
    let none = no_effects d.store.luns (limits_of d.shape) d.store.geometry (task ∷ ws) bytes in
    let consistent = response-consistent task.lun task.tag 2 residual (fixed_out wrong_data) fits (omega arith) in
    let now = foreign_answered s first (kept_of 0 d (task ∷ ws)) e bytes end consistent answers none standing in
    let apart : AreApart (task ∷ ws) = subst (λ (ts : List Waiting). AreApart ts) standing.keeps (queue_after s e).apart in
    let left : after_sent end end.kind (task ∷ ws) ≡ ws = response_changes task ws 2 residual (fixed_out wrong_data) apart.0 in
    let now_device : DeviceState = record d { tasks = others; held = [] } in
    record {
      tasks = ws;
      keeps = keeps_waiting luns lim others waiting;
      stays = at.stays;
      unsound = at.unsound;
      stands = subst (λ (b : List ℕ). StandsForeign s first (kept_of 0 now_device ws) (e ▹ Host bytes ▹ Device b)) (sym (sent ∙ ap upiu_out same))
          (foreign_as s first (with_tasks (after_sent end end.kind (task ∷ ws)) (kept_of 0 d (task ∷ ws))) (kept_of 0 now_device ws) (e ▹ Host bytes ▹ Device (upiu_out end)) (sym left) refl now);
    }

pub foreign_same : (d now : DeviceState) (chip : List Page) (first : First) (e : History) → d ≡ now → DeviceStandsForeign d chip first e → DeviceStandsForeign now chip first e
foreign_same d now chip first e same at = subst (λ (x : DeviceState). DeviceStandsForeign x chip first e) same at
