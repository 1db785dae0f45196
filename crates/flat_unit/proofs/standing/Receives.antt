-- Whatever a device receives leaves it standing: it answers at once, or keeps what came.
use Rattle.std.proofs.Common.{◌≡◌, ℕ, ◌+◌, ◌≤◌, Bool, false, List, [], ◌∷◌, ◌++◌, Some, None, Result, Ok, Err, refl, sym, ◌∙◌, ap, subst, arith, filter, ◌==◌}
use Rattle.std.specs.Prelude.{sum_by}
use Rattle.flash_pages.specs.Place.{Place}
use Rattle.hpb_cdb.specs.declared.cdb.Cdb.{Cdb}
use Rattle.hpb_cdb.specs.declared.fault.CdbFault.{CdbFault}
use Rattle.upiu_wire.specs.declared.kind.Kind.{Kind}
use Rattle.upiu_wire.specs.declared.kind.Kind.TheVariants.{NopOut, Command, DataOut, ManageRequest, QueryRequest, NopIn, Response, DataIn, ManageResponse, ReadyToTransfer, QueryResponse, Reject}
use Rattle.upiu_wire.specs.Upiu.{Upiu, IsConsistent, upiu_at, upiu_out}
use Rattle.flat_unit.specs.Command.{command_of}
use Rattle.flat_unit.specs.declared.event.Event.TheVariants.{Host, Device}
use Rattle.flat_unit.specs.Contents.{Block, answered, candidates, leaving_all, seen_at, shown_by_kind}
use Rattle.flat_unit.specs.History.{History, ◌▹◌}
use Rattle.flat_unit.specs.Queue.{after_sent, change_head, task_of, tasks_changed, with_command, with_data}
use Rattle.flat_unit.specs.Reply.{effects_of, has_tag, reply_of}
use Rattle.flat_unit.specs.Sizes.{Sizes}
use Rattle.flat_unit.specs.Stands.{First, HasProgress, HoldsAt, Kept, Stands, ended_by, gone_from}
use Rattle.flat_unit.specs.Task.{Task}
use Rattle.flat_unit.specs.Tasks.{IsQueue}
use Rattle.flat_unit.specs.Writes.{blocks_ended, blocks_of_head}
use Rattle.flat_unit.proofs.standing.Sending.{with_tasks}
use Rattle.flat_unit.proofs.History.{kept_of_kind}
use Rattle.flat_unit.proofs.standing.Changes.{fold_left}
use Rattle.flat_unit.proofs.standing.OneCall.{host_kept, queue_of, stands_accepted, stands_replied, stands_taken, stands_with}
use Rattle.flat_unit.proofs.queue.Ends.{IsReply, reply_is}
use Rattle.flat_unit.proofs.standing.Requests.{goes_from, none_good}

-- what a device keeps goes on over a reply
record Replied (s : Sizes) (first : First) (kept : Kept) (e : History) (v : Upiu) (kind : Kind) : Type 0 where
  tasks : after_sent v kind kept.tasks ≡ (ended_by kind v.tag kept).tasks
  switch : kept.on ≡ (ended_by kind v.tag kept).on
  progress : HasProgress s (ended_by kind v.tag kept).programmed (ended_by kind v.tag kept).tasks
  holds : (p : Place) → HoldsAt s kept (candidates s first.unit e p) p
      → HoldsAt s (ended_by kind v.tag kept) (seen_at p (fold_left s (candidates s first.unit e p) (answered v kind kept.tasks) p) (shown_by_kind s v kind kept.tasks)) p
  at_least : sum_by blocks_ended (answered v kind kept.tasks) + (ended_by kind v.tag kept).programmed + kept.next ≤ kept.programmed + (ended_by kind v.tag kept).next
  at_most : (ended_by kind v.tag kept).next + blocks_of_head s (ended_by kind v.tag kept).tasks + kept.programmed ≤ kept.next + blocks_of_head s kept.tasks + (ended_by kind v.tag kept).programmed
  next : (ended_by kind v.tag kept).next ≡ kept.next
  free : (ended_by kind v.tag kept).free ≡ kept.free
  erases : (ended_by kind v.tag kept).erases ≡ kept.erases

replied_by : (s : Sizes) (first : First) (kept : Kept) (e : History) (v : Upiu) (kind : Kind) → IsReply v kind → IsQueue s kept.tasks → HasProgress s kept.programmed kept.tasks
    → Replied s first kept e v kind
replied_by s first kept e v DataIn is queue progress = absurd is
replied_by s first kept e v ReadyToTransfer is queue progress = absurd is
replied_by s first kept e v Response is queue progress =
    let goes = goes_from s first kept e v.tag kept.tasks queue progress in
    let none = none_good (filter (has_tag v.tag) kept.tasks) 0 in
    let bad : sum_by blocks_ended (leaving_all (v.status == 0) (filter (has_tag v.tag) kept.tasks)) ≡ sum_by blocks_ended (leaving_all false (filter (has_tag v.tag) kept.tasks)) =
    ap (λ (b : Bool). sum_by blocks_ended (leaving_all b (filter (has_tag v.tag) kept.tasks))) is in
    record {
      tasks = refl;
      switch = refl;
      progress = goes.progress;
      holds = λ p held.
          let left : Bool → List Block = λ b. fold_left s (candidates s first.unit e p) (leaving_all b (filter (has_tag v.tag) kept.tasks)) p in
          subst (λ (b : Bool). HoldsAt s (gone_from v.tag kept) (left b) p) (sym is) (goes.holds p held);
      at_least = omega (arith, none, bad, goes.at_least);
      at_most = omega (arith, goes.at_most);
      next = refl;
      free = refl;
      erases = refl;
    }
replied_by s first kept e v _ is queue progress = record {
  tasks = refl;
  switch = refl;
  progress = progress;
  holds = λ p held. held;
  at_least = omega arith;
  at_most = omega arith;
  next = refl;
  free = refl;
  erases = refl;
}

-- whatever is answered at once keeps a device standing
pub stands_reply : (s : Sizes) (first : First) (kept : Kept) (e : History) (bytes : List ℕ) (v : Upiu) → IsConsistent v
    → reply_of s kept.on kept.tasks bytes ≡ Some v → effects_of s kept.on kept.tasks bytes ≡ []
    → Stands s first kept e → Stands s first (ended_by v.kind v.tag kept) (e ▹ Host bytes ▹ Device (upiu_out v))
stands_reply s first kept e bytes v consistent is no_effects at =
    let queue : IsQueue s kept.tasks = queue_of s first kept e at in
    let r = replied_by s first kept e v v.kind (reply_is s kept.on kept.tasks bytes v queue is).1 queue at.progress in
    stands_replied s first kept (ended_by v.kind v.tag kept) e bytes v is no_effects
    (record {
      consistent = consistent;
      tasks = r.tasks;
      switch = r.switch;
      progress = r.progress;
      holds = λ p place. r.holds p;
      at_least = r.at_least;
      at_most = r.at_most;
      next = r.next;
      free = r.free;
      erases = r.erases;
    })
    at

-- whatever isn't answered at once is kept
pub stands_host : (s : Sizes) (first : First) (kept : Kept) (e : History) (bytes : List ℕ) → reply_of s kept.on kept.tasks bytes ≡ None
    → Stands s first kept e → Stands s first (with_tasks (tasks_changed s kept.on kept.tasks (Host bytes)) kept) (e ▹ Host bytes)
stands_host s first kept e bytes silent at = by_kind (upiu_at bytes).kind refl
  where
    became : (ts : List Task) → tasks_changed s kept.on kept.tasks (Host bytes) ≡ ts → Stands s first (with_tasks ts kept) (e ▹ Host bytes)
        → Stands s first (with_tasks (tasks_changed s kept.on kept.tasks (Host bytes)) kept) (e ▹ Host bytes)
    became ts is stands = subst (λ (t : List Task). Stands s first (with_tasks t kept) (e ▹ Host bytes)) (sym is) stands

    same : tasks_changed s kept.on kept.tasks (Host bytes) ≡ kept.tasks → Stands s first (with_tasks (tasks_changed s kept.on kept.tasks (Host bytes)) kept) (e ▹ Host bytes)
    same is = became kept.tasks is (host_kept s first kept e bytes kept.tasks silent is at.progress (λ p held. held) at)

    by_cdb : (upiu_at bytes).kind ≡ Command → (r : Result Cdb CdbFault) → command_of s (upiu_at bytes).cdb ≡ r
        → Stands s first (with_tasks (tasks_changed s kept.on kept.tasks (Host bytes)) kept) (e ▹ Host bytes)
    by_cdb kind (Ok command) reads = became (kept.tasks ++ task_of (upiu_at bytes) command ∷ [])
        (kept_of_kind s kept.on kept.tasks bytes Command kind silent ∙ ap (with_command kept.tasks (upiu_at bytes)) reads)
        (stands_accepted s first kept e bytes command silent kind reads at)
    by_cdb kind (Err fault) reads = same (kept_of_kind s kept.on kept.tasks bytes Command kind silent ∙ ap (with_command kept.tasks (upiu_at bytes)) reads)

    by_head : (upiu_at bytes).kind ≡ DataOut → (ts : List Task) → kept.tasks ≡ ts
        → Stands s first (with_tasks (tasks_changed s kept.on kept.tasks (Host bytes)) kept) (e ▹ Host bytes)
    by_head kind [] is = same (kept_of_kind s kept.on kept.tasks bytes DataOut kind silent ∙ ap (change_head (with_data (upiu_at bytes).segment)) is ∙ sym is)
    by_head kind (task ∷ others) is =
        became (with_data (upiu_at bytes).segment task ∷ others) (kept_of_kind s kept.on kept.tasks bytes DataOut kind silent ∙ ap (change_head (with_data (upiu_at bytes).segment)) is)
        (stands_taken s first kept e bytes task others (ap (λ (t : List Task). reply_of s kept.on t bytes) (sym is) ∙ silent) kind (stands_with s first kept e (task ∷ others) is at))

    by_kind : (k : Kind) → (upiu_at bytes).kind ≡ k → Stands s first (with_tasks (tasks_changed s kept.on kept.tasks (Host bytes)) kept) (e ▹ Host bytes)
    by_kind Command is = by_cdb is (command_of s (upiu_at bytes).cdb) refl
    by_kind DataOut is = by_head is kept.tasks refl
    by_kind NopOut is = same (kept_of_kind s kept.on kept.tasks bytes NopOut is silent)
    by_kind ManageRequest is = same (kept_of_kind s kept.on kept.tasks bytes ManageRequest is silent)
    by_kind QueryRequest is = same (kept_of_kind s kept.on kept.tasks bytes QueryRequest is silent)
    by_kind NopIn is = same (kept_of_kind s kept.on kept.tasks bytes NopIn is silent)
    by_kind Response is = same (kept_of_kind s kept.on kept.tasks bytes Response is silent)
    by_kind DataIn is = same (kept_of_kind s kept.on kept.tasks bytes DataIn is silent)
    by_kind ManageResponse is = same (kept_of_kind s kept.on kept.tasks bytes ManageResponse is silent)
    by_kind ReadyToTransfer is = same (kept_of_kind s kept.on kept.tasks bytes ReadyToTransfer is silent)
    by_kind QueryResponse is = same (kept_of_kind s kept.on kept.tasks bytes QueryResponse is silent)
    by_kind Reject is = same (kept_of_kind s kept.on kept.tasks bytes Reject is silent)
