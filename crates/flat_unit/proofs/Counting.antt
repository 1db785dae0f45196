-- What one more event adds to the counts of a history.
use Rattle.std.proofs.Common.{◌≡◌, ℕ, ◌+◌, ◌≤◌, Bool, true, false, List, [], ◌∷◌, Option, Some, None, refl, ◌∙◌, ap, subst, arith, ◌==◌}
use Rattle.std.specs.Prelude.{sum_by, if◌then◌else◌}
use Rattle.flash_pages.specs.Place.{Place}
use Rattle.upiu_wire.specs.declared.kind.Kind.{Kind}
use Rattle.upiu_wire.specs.declared.kind.Kind.TheVariants.{DataIn, ReadyToTransfer}
use Rattle.upiu_wire.specs.Upiu.{Upiu, IsConsistent, upiu_at, upiu_out}
use Rattle.upiu_wire.specs.Written.{data_upiu, response_upiu, transfer_upiu}
use Rattle.flat_unit.specs.declared.event.Event.{Event}
use Rattle.flat_unit.specs.declared.event.Event.TheVariants.{Host, Device}
use Rattle.flat_unit.specs.Causes.{sense_code}
use Rattle.flat_unit.specs.Contents.{Leaving, answered, leaving, leaving_all, next_place, shown, shown_at, shown_by_kind}
use Rattle.flat_unit.specs.Counts.{ends_with, is_at_work, one_if}
use Rattle.flat_unit.specs.History.{History, ◌▹◌}
use Rattle.flat_unit.specs.Queue.{after_reply, on_after, tasks_after}
use Rattle.flat_unit.specs.Reply.{effects_of, has_tag, reply_of}
use Rattle.flat_unit.specs.Sizes.{Sizes}
use Rattle.flat_unit.specs.Sound.{owed}
use Rattle.flat_unit.specs.Task.{Task}
use Rattle.flat_unit.specs.Tasks.{IsQueue}
use Rattle.flat_unit.specs.Writes.{blocks_ended}
use Rattle.flat_unit.proofs.History.{owes_reply}
use Rattle.flat_unit.proofs.queue.Ends.{EndsBadly, IsNoData, IsReply, out_kind, out_leaves, reply_is}
use Rattle.flat_unit.proofs.queue.Tasks.{queue_after}
use Rattle.flat_unit.proofs.standing.Changes.{device_shows}
use Rattle.flat_unit.proofs.standing.Sending.{data_shows, response_leaves}

pub one_at_most : (b : Bool) → one_if b ≤ 1
one_at_most true = omega arith
one_at_most false = omega arith

-- what is no DATA IN shows no block
pub shows_none : (s : Sizes) (tasks : List Task) (v : Upiu) → IsNoData v.kind → shown s tasks (Device (upiu_out v)) ≡ None
shows_none s tasks v other = ap (λ (k : Kind). shown_by_kind s (upiu_at (upiu_out v)) k tasks) (out_kind v) ∙ by_kind v.kind other
  where
    by_kind : (k : Kind) → IsNoData k → shown_by_kind s (upiu_at (upiu_out v)) k tasks ≡ None
    by_kind DataIn other = absurd other
    by_kind _ other = refl

-- DATA IN of the first task shows the block of its next place, if it has one
pub shows_next : (s : Sizes) (e : History) (task : Task) (others : List Task) (bytes : List ℕ) (o : Option Place) → IsConsistent (data_upiu DataIn task.lun task.tag task.sent bytes)
    → tasks_after s e ≡ task ∷ others
    → next_place s task task.command ≡ o
    → shown s (tasks_after s e) (Device (upiu_out (data_upiu DataIn task.lun task.tag task.sent bytes))) ≡ shown_at (data_upiu DataIn task.lun task.tag task.sent bytes) o
shows_next s e task others bytes o consistent is next =
    let v : Upiu = data_upiu DataIn task.lun task.tag task.sent bytes in
    device_shows s (tasks_after s e) v consistent ∙ (ap (λ (ts : List Task). shown_by_kind s v v.kind ts) is ∙ (data_shows s task others bytes ∙ ap (shown_at v) next))

-- nothing shows a block where the first task reads none
pub shows_no_place : (s : Sizes) (e : History) (task : Task) (others : List Task) (bytes : List ℕ) → tasks_after s e ≡ task ∷ others → next_place s task task.command ≡ None
    → shown s (tasks_after s e) (Device bytes) ≡ None
shows_no_place s e task others bytes is none = ap (λ (ts : List Task). shown s ts (Device bytes)) is ∙ by_kind (upiu_at bytes) (upiu_at bytes).kind
  where
    by_tag : (v : Upiu) (b : Bool) (o : Option Place) → o ≡ None → (if b then shown_at v o else None) ≡ None
    by_tag v true o none = ap (shown_at v) none
    by_tag v false o none = refl

    by_kind : (v : Upiu) (k : Kind) → shown_by_kind s v k (task ∷ others) ≡ None
    by_kind v DataIn = by_tag v (has_tag v.tag task) (next_place s task task.command) none
    by_kind v _ = refl

-- DATA IN and READY TO TRANSFER end no task
pub data_leaves_none : (tasks : List Task) (lun tag offset : ℕ) (bytes : List ℕ) → leaving tasks (Device (upiu_out (data_upiu DataIn lun tag offset bytes))) ≡ []
data_leaves_none tasks lun tag offset bytes = out_leaves tasks (data_upiu DataIn lun tag offset bytes)

pub transfer_leaves_none : (tasks : List Task) (lun tag offset count : ℕ) → leaving tasks (Device (upiu_out (transfer_upiu ReadyToTransfer lun tag offset count))) ≡ []
transfer_leaves_none tasks lun tag offset count = out_leaves tasks (transfer_upiu ReadyToTransfer lun tag offset count)

-- a RESPONSE to the first task ends it
pub response_ends : (s : Sizes) (e : History) (task : Task) (others : List Task) (status residual : ℕ) (segment : List ℕ) → tasks_after s e ≡ task ∷ others
    → leaving (tasks_after s e) (Device (upiu_out (response_upiu task.lun task.tag status residual segment))) ≡ record { task = task; good = status == 0 } ∷ []
response_ends s e task others status residual segment is =
    let v : Upiu = response_upiu task.lun task.tag status residual segment in
    let queue : IsQueue s (task ∷ others) = subst (IsQueue s) is (queue_after s e) in
    ap (λ (ts : List Task). leaving ts (Device (upiu_out v))) is ∙ (out_leaves (task ∷ others) v ∙ response_leaves task others status residual segment queue.apart.0)

-- a task that is dropped brings no blocks
pub dropped_ends_none : (tasks : List Task) → sum_by blocks_ended (leaving_all false tasks) ≡ 0
dropped_ends_none tasks = from tasks 0
  where
    from : (tasks : List Task) (a : ℕ) → Rattle.std.specs.Prelude.fold (λ (n : ℕ) (l : Leaving). n + blocks_ended l) a (leaving_all false tasks) ≡ a
    from [] a = refl
    from (task ∷ tasks) a = from tasks (a + 0) ∙ omega arith

-- what a reply ends isn't answered GOOD
ends_none : (tasks : List Task) (ls : List Leaving) → EndsBadly tasks ls → sum_by blocks_ended ls ≡ 0
ends_none tasks [] badly = refl
ends_none tasks (l ∷ []) badly = rw (badly.1) refl
ends_none tasks (l ∷ m ∷ ls) badly = absurd badly

reply_is_no_data : (v : Upiu) (kind : Kind) → IsReply v kind → IsNoData kind
reply_is_no_data v DataIn is = is
reply_is_no_data v _ is = tt

-- what a reply to bytes of the host adds: nothing but the reply
pub record IsOwed (s : Sizes) (e : History) (bytes out : List ℕ) : Type 0 where
  pub due : List Event
  pub owes : owed s (e ▹ Host bytes) ≡ Device out ∷ due
  pub shows : shown s (tasks_after s (e ▹ Host bytes)) (Device out) ≡ None
  pub ended : sum_by blocks_ended (leaving (tasks_after s (e ▹ Host bytes)) (Device out)) ≡ 0

pub reply_is_owed : (s : Sizes) (e : History) (bytes : List ℕ) (v : Upiu) → reply_of s (on_after e) (tasks_after s e) bytes ≡ Some v → IsOwed s e bytes (upiu_out v)
reply_is_owed s e bytes v is =
    let found = reply_is s (on_after e) (tasks_after s e) bytes v (queue_after s e) is in
    let none = ends_none (tasks_after s e) (answered v v.kind (tasks_after s e)) found.0 in
    let stay : tasks_after s (e ▹ Host bytes) ≡ tasks_after s e = ap (after_reply s (tasks_after s e) (upiu_at bytes)) is in
    let leaves : leaving (tasks_after s (e ▹ Host bytes)) (Device (upiu_out v)) ≡ answered v v.kind (tasks_after s e) =
    ap (λ (ts : List Task). leaving ts (Device (upiu_out v))) stay ∙ out_leaves (tasks_after s e) v in
    record {
      due = effects_of s (on_after e) (tasks_after s e) bytes;
      owes = owes_reply s e bytes v is;
      shows = shows_none s (tasks_after s (e ▹ Host bytes)) v (reply_is_no_data v v.kind found.1);
      ended = ap (sum_by blocks_ended) leaves ∙ none;
    }

-- 44h comes of a device that may not have looked at its whole chip
pub unready_is_no_work : (bytes : List ℕ) (due : List Event) → sense_code bytes ≡ Some 0x44 → is_at_work (Device bytes) due ≡ false
unready_is_no_work bytes [] is = rw is refl
unready_is_no_work bytes (x ∷ due) is = refl

-- 11h that nothing owes ends a read
pub read_is_failed : (bytes : List ℕ) (due : List Event) → due ≡ [] → sense_code bytes ≡ Some 0x11 → ends_with 0x11 (Device bytes) due ≡ true
read_is_failed bytes due none is = ap (ends_with 0x11 (Device bytes)) none ∙ rw is refl
