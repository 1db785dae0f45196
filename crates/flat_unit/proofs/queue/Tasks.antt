-- What holds of the tasks after every history.
use Rattle.std.proofs.Common.{◌≡◌, ℕ, ◌+◌, ◌≤◌, ◌<◌, Bool, true, false, cond, not, ◌&&◌, ◌||◌, List, [], ◌∷◌, ◌++◌}
use Rattle.std.proofs.Common.{length, filter, Option, Some, None, Result, Ok, Err, refl, sym, ◌∙◌, ap, subst, arith}
use Rattle.std.proofs.Common.{eqb, eq-eqb, nat_le, nat_lt, if◌then◌else◌}
use Rattle.std.specs.List.{AllByRecursion, list_any}
use Rattle.std.proofs.lemmas.Bool.Decides.{nat_tests}
use Rattle.hpb_cdb.specs.declared.cdb.Cdb.{Cdb}
use Rattle.hpb_cdb.specs.declared.fault.CdbFault.{CdbFault}
use Rattle.hpb_cdb.specs.declared.fault.CdbFault.TheVariants.{Opcode}
use Rattle.hpb_cdb.specs.Cdb.{IsCdb}
use Rattle.hpb_cdb.specs.Read.{cdb_of}
use Rattle.hpb_cdb.proofs.Branches.{either}
use Rattle.hpb_cdb.proofs.Reading.{is_cdb-cdb_of}
use Rattle.upiu_wire.specs.declared.kind.Kind.{Kind}
use Rattle.upiu_wire.specs.declared.kind.Kind.TheVariants.{Command, DataOut, Response, DataIn, ReadyToTransfer}
use Rattle.upiu_wire.specs.declared.fault.WireFault.{WireFault}
use Rattle.upiu_wire.specs.WireFault.{wire_fault_of}
use Rattle.upiu_wire.specs.Upiu.{Upiu, upiu_at}
use Rattle.flat_unit.specs.declared.event.Event.{Event}
use Rattle.flat_unit.specs.declared.event.Event.TheVariants.{Host, Device, Reset, Gone}
use Rattle.flat_unit.specs.Command.{command_of, is_hpb, needed}
use Rattle.flat_unit.specs.History.{History}
use Rattle.flat_unit.specs.Queue.{after_kept, after_reply, after_sent, change_head, change_head_with_tag, on_after}
use Rattle.flat_unit.specs.Queue.{task_of, tasks_after, tasks_changed, with_asked, with_command, with_data, with_sent}
use Rattle.flat_unit.specs.Queue.{without_tag}
use Rattle.flat_unit.specs.Reply.{has_tag, reply_of, reply_by_kind, reply_by_fault, command_refusal, refusal_of_cdb}
use Rattle.flat_unit.specs.Sizes.{Sizes, limits_of}
use Rattle.flat_unit.specs.Task.{Task}
use Rattle.flat_unit.specs.Tasks.{IsAlone, AreApart, IsUntouched, OthersWait, IsServed, IsQueue}

pub same_tag : (tag : ℕ) → eqb tag tag ≡ true
same_tag tag = eq-eqb tag tag refl

-- where no task has the tag, none leaves with it
pub others_stay : (tag : ℕ) (tasks : List Task) → list_any (has_tag tag) tasks ≡ false → without_tag tag tasks ≡ tasks
others_stay tag [] none = refl
others_stay tag (task ∷ tasks) none =
    elim (has_tag tag task) as (λ b. (b || list_any (has_tag tag) tasks) ≡ false → cond (not b) (task ∷ without_tag tag tasks) (without_tag tag tasks) ≡ task ∷ tasks) [
      | true ↦ λ is. cc
      | false ↦ λ is. ap (λ (ts : List Task). task ∷ ts) (others_stay tag tasks is)
    ] none

pub none_has : (tag : ℕ) (tasks : List Task) → list_any (has_tag tag) tasks ≡ false → filter (has_tag tag) tasks ≡ []
none_has tag [] none = refl
none_has tag (task ∷ tasks) none =
    elim (has_tag tag task) as (λ b. (b || list_any (has_tag tag) tasks) ≡ false → cond b (task ∷ filter (has_tag tag) tasks) (filter (has_tag tag) tasks) ≡ []) [
      | true ↦ λ is. cc
      | false ↦ λ is. none_has tag tasks is
    ] none

-- fewer tasks, none of them new
any_of_fewer : (test keep : Task → Bool) (tasks : List Task) → list_any test tasks ≡ false → list_any test (filter keep tasks) ≡ false
any_of_fewer test keep [] none = refl
any_of_fewer test keep (task ∷ tasks) none =
    elim (test task) as (λ a. (a || list_any test tasks) ≡ false → test task ≡ a → list_any test (cond (keep task) (task ∷ filter keep tasks) (filter keep tasks)) ≡ false) [
      | true ↦ λ is _. cc
      | false ↦ λ is same. elim (keep task) as (λ b. list_any test (cond b (task ∷ filter keep tasks) (filter keep tasks)) ≡ false) [
        | true ↦ ap (λ (b : Bool). b || list_any test (filter keep tasks)) same ∙ any_of_fewer test keep tasks is
        | false ↦ any_of_fewer test keep tasks is
      ]
    ] none refl

apart_fewer : (keep : Task → Bool) (tasks : List Task) → AreApart tasks → AreApart (filter keep tasks)
apart_fewer keep [] apart = tt
apart_fewer keep (task ∷ tasks) apart = elim (keep task) as (λ b. AreApart (cond b (task ∷ filter keep tasks) (filter keep tasks))) [
  | true ↦ (any_of_fewer (has_tag task.tag) keep tasks apart.0, apart_fewer keep tasks apart.1)
  | false ↦ apart_fewer keep tasks apart.1
]

pub all_fewer : (P : Task → Type 0) (keep : Task → Bool) (tasks : List Task) → AllByRecursion P tasks → AllByRecursion P (filter keep tasks)
all_fewer P keep [] all = tt
all_fewer P keep (task ∷ tasks) all = elim (keep task) as (λ b. AllByRecursion P (cond b (task ∷ filter keep tasks) (filter keep tasks))) [
  | true ↦ (all.0, all_fewer P keep tasks all.1)
  | false ↦ all_fewer P keep tasks all.1
]

after_first : (tasks : List Task) → AllByRecursion IsUntouched tasks → OthersWait tasks
after_first [] all = tt
after_first (task ∷ tasks) all = all.1

wait_fewer : (keep : Task → Bool) (tasks : List Task) → OthersWait tasks → OthersWait (filter keep tasks)
wait_fewer keep [] wait = tt
wait_fewer keep (task ∷ tasks) wait = elim (keep task) as (λ b. OthersWait (cond b (task ∷ filter keep tasks) (filter keep tasks))) [
  | true ↦ all_fewer IsUntouched keep tasks wait
  | false ↦ after_first (filter keep tasks) (all_fewer IsUntouched keep tasks wait)
]

pub queue_fewer : (s : Sizes) (keep : Task → Bool) (tasks : List Task) → IsQueue s tasks → IsQueue s (filter keep tasks)
queue_fewer s keep tasks q = record {
  apart = apart_fewer keep tasks q.apart;
  others_wait = wait_fewer keep tasks q.others_wait;
  served = all_fewer (IsServed s) keep tasks q.served;
}

-- one more task
any_more : (test : Task → Bool) (tasks : List Task) (new : Task) → list_any test tasks ≡ false → test new ≡ false → list_any test (tasks ++ new ∷ []) ≡ false
any_more test [] new none other = rw other refl
any_more test (task ∷ tasks) new none other =
    elim (test task) as (λ a. (a || list_any test tasks) ≡ false → (a || list_any test (tasks ++ new ∷ [])) ≡ false) [
      | true ↦ λ is. cc
      | false ↦ λ is. any_more test tasks new is other
    ] none

tag_symmetric : (a b : ℕ) → eqb a b ≡ false → eqb b a ≡ false
tag_symmetric a b is = grind (arith, nat_tests)

apart_more : (tasks : List Task) (new : Task) → AreApart tasks → IsAlone new tasks → AreApart (tasks ++ new ∷ [])
apart_more [] new apart alone = (refl, tt)
apart_more (task ∷ tasks) new apart alone =
    elim (has_tag new.tag task) as (λ a. has_tag new.tag task ≡ a → (a || list_any (has_tag new.tag) tasks) ≡ false → AreApart ((task ∷ tasks) ++ new ∷ [])) [
      | true ↦ λ _ is. cc
      | false ↦ λ other is. (any_more (has_tag task.tag) tasks new apart.0 (tag_symmetric task.tag new.tag other), apart_more tasks new apart.1 is)
    ] refl alone

pub all_more : (P : Task → Type 0) (tasks : List Task) (new : Task) → AllByRecursion P tasks → P new → AllByRecursion P (tasks ++ new ∷ [])
all_more P [] new all is = (is, tt)
all_more P (task ∷ tasks) new all is = (all.0, all_more P tasks new all.1 is)

wait_more : (tasks : List Task) (new : Task) → OthersWait tasks → IsUntouched new → OthersWait (tasks ++ new ∷ [])
wait_more [] new wait is = tt
wait_more (task ∷ tasks) new wait is = all_more IsUntouched tasks new wait is

-- the first task goes on
queue_head : (s : Sizes) (f : Task → Task) (tasks : List Task) → ((t : Task) → (f t).tag ≡ t.tag) → ((t : Task) → IsServed s t → IsServed s (f t)) → IsQueue s tasks → IsQueue s (change_head f tasks)
queue_head s f [] same serves q = q
queue_head s f (task ∷ tasks) same serves q = record {
  apart = (ap (λ (tag : ℕ). list_any (has_tag tag) tasks) (same task) ∙ q.apart.0, q.apart.1);
  others_wait = q.others_wait;
  served = (serves task q.served.0, q.served.1);
}

if_same_tag : (b : Bool) (f : Task → Task) (t : Task) → (f t).tag ≡ t.tag → (if b then f t else t).tag ≡ t.tag
if_same_tag true f t is = is
if_same_tag false f t is = refl

if_served : (s : Sizes) (b : Bool) (f : Task → Task) (t : Task) → (IsServed s t → IsServed s (f t)) → IsServed s t → IsServed s (if b then f t else t)
if_served s true f t serves is = serves is
if_served s false f t serves is = is

head_with_tag : (s : Sizes) (tag : ℕ) (f : Task → Task) (tasks : List Task) → ((t : Task) → (f t).tag ≡ t.tag) → ((t : Task) → IsServed s t → IsServed s (f t)) → IsQueue s tasks
    → IsQueue s (change_head_with_tag tag f tasks)
head_with_tag s tag f tasks same serves q =
    queue_head s (λ (t : Task). if has_tag tag t then f t else t) tasks (λ t. if_same_tag (has_tag tag t) f t (same t)) (λ t. if_served s (has_tag tag t) f t (serves t)) q

still_served : (s : Sizes) (t : Task) (asked sent : ℕ) (come : List ℕ) → IsServed s t → IsServed s (record t { asked = asked; sent = sent; come = come })
still_served s t asked sent come is = record { lun = is.lun; fields = is.fields; range = is.range; expected = is.expected }

sent_queue : (kind : Kind) (s : Sizes) (v : Upiu) (tasks : List Task) → IsQueue s tasks → IsQueue s (after_sent v kind tasks)
sent_queue DataIn s v tasks q = head_with_tag s v.tag (with_sent v.count) tasks (λ t. refl) (λ t is. still_served s t t.asked (t.sent + v.count) t.come is) q
sent_queue ReadyToTransfer s v tasks q = head_with_tag s v.tag (with_asked (v.first + v.count)) tasks (λ t. refl) (λ t is. still_served s t (v.first + v.count) t.sent t.come is) q
sent_queue Response s v tasks q = queue_fewer s (λ (t : Task). not (has_tag v.tag t)) tasks q
sent_queue _ s v tasks q = q

-- a command that nothing stands against
pub record IsAccepted (s : Sizes) (tasks : List Task) (v : Upiu) (command : Cdb) : Type 0 where
  pub alone : list_any (has_tag v.tag) tasks ≡ false
  pub lun : v.lun < s.luns
  pub room : length tasks < s.room
  pub reads : command_of s v.cdb ≡ Ok command
  pub expected : needed s command ≤ v.first

-- a command without a refusal is accepted
abbrev Accepts : Sizes → List Task → Upiu → Option Upiu → Type 0
Accepts s tasks v r = r ≡ None → (command : Cdb) × IsAccepted s tasks v command

not_none : {X : Type 0} (x : X) → Some x ≡ None → ⊥
not_none x is = cc

pub accepted : (s : Sizes) (on : Bool) (tasks : List Task) (v : Upiu) → command_refusal s on tasks v ≡ None → (command : Cdb) × IsAccepted s tasks v command
accepted s on tasks v =
    either (Accepts s tasks v) (list_any (has_tag v.tag) tasks) (λ _ is. absurd (not_none _ is)) (λ alone.
    either (Accepts s tasks v) (nat_le s.luns v.lun) (λ _ is. absurd (not_none _ is)) (λ lun.
    either (Accepts s tasks v) (nat_le s.room (length tasks)) (λ _ is. absurd (not_none _ is)) (λ room.
    by_cdb alone lun room (command_of s v.cdb) refl)))
  where
    by_cdb : list_any (has_tag v.tag) tasks ≡ false → nat_le s.luns v.lun ≡ false → nat_le s.room (length tasks) ≡ false
        → (r : Result Cdb CdbFault) → command_of s v.cdb ≡ r → refusal_of_cdb s on v r ≡ None → (command : Cdb) × IsAccepted s tasks v command
    by_cdb alone lun room (Err fault) reads = λ is. absurd (not_none _ is)
    by_cdb alone lun room (Ok command) reads =
        either (Accepts s tasks v) (is_hpb command && not on) (λ _ is. absurd (not_none _ is)) (λ _.
        either (Accepts s tasks v) (nat_lt v.first (needed s command)) (λ _ is. absurd (not_none _ is)) (λ enough is.
        (command, record { alone = alone; lun = grind (arith, nat_tests); room = grind (arith, nat_tests); reads = reads; expected = grind (arith, nat_tests) })))

-- the task that is kept of an accepted command
accepted_task : (s : Sizes) (tasks : List Task) (v : Upiu) (command : Cdb) → IsAccepted s tasks v command → IsQueue s tasks → IsQueue s (tasks ++ task_of v command ∷ [])
accepted_task s tasks v command is q = record {
  apart = apart_more tasks (task_of v command) q.apart is.alone;
  others_wait = wait_more tasks (task_of v command) q.others_wait (record { asked = refl; come = refl; sent = refl });
  served = all_more (IsServed s) tasks (task_of v command) q.served (record { lun = is.lun; fields = cdb.fields; range = cdb.range; expected = is.expected });
}
  where
    served_cdb : (b : Bool) → (if b then cdb_of (limits_of s) v.cdb else Err Opcode) ≡ Ok command → cdb_of (limits_of s) v.cdb ≡ Ok command
    served_cdb true is = is
    served_cdb false is = cc

    cdb : IsCdb v.cdb (limits_of s) command
    cdb = is_cdb-cdb_of (limits_of s) v.cdb command (served_cdb _ is.reads)

-- a UPIU that nothing answers is a command or data
kept_queue : (kind : Kind) (s : Sizes) (on : Bool) (tasks : List Task) (v : Upiu) → reply_by_kind kind s on tasks v ≡ None → IsQueue s tasks → IsQueue s (after_kept s tasks v kind)
kept_queue Command s on tasks v is q =
    let a = accepted s on tasks v is in
    subst (λ (r : Result Cdb CdbFault). IsQueue s (with_command tasks v r)) (sym a.1.reads) (accepted_task s tasks v a.0 a.1 q)
kept_queue DataOut s on tasks v is q = queue_head s (with_data v.segment) tasks (λ t. refl) (λ t served. still_served s t t.asked t.sent (t.come ++ v.segment) served) q
kept_queue _ s on tasks v is q = q

host_queue : (s : Sizes) (on : Bool) (tasks : List Task) (bytes : List ℕ) → IsQueue s tasks → IsQueue s (tasks_changed s on tasks (Host bytes))
unfolding reply_of
host_queue s on tasks bytes q = by_fault (wire_fault_of bytes)
  where
    by_reply : (r : Option Upiu) → reply_by_kind (upiu_at bytes).kind s on tasks (upiu_at bytes) ≡ r → IsQueue s (after_reply s tasks (upiu_at bytes) r)
    by_reply (Some reply) is = q
    by_reply None is = kept_queue (upiu_at bytes).kind s on tasks (upiu_at bytes) is q

    by_fault : (fault : Option WireFault) → IsQueue s (after_reply s tasks (upiu_at bytes) (reply_by_fault s on tasks bytes fault))
    by_fault (Some fault) = q
    by_fault None = by_reply (reply_by_kind (upiu_at bytes).kind s on tasks (upiu_at bytes)) refl

queue_changed : (s : Sizes) (on : Bool) (tasks : List Task) (x : Event) → IsQueue s tasks → IsQueue s (tasks_changed s on tasks x)
queue_changed s on tasks (Host bytes) q = host_queue s on tasks bytes q
queue_changed s on tasks (Device bytes) q = sent_queue (upiu_at bytes).kind s (upiu_at bytes) tasks q
queue_changed s on tasks (Gone tag) q = queue_fewer s (λ (t : Task). not (has_tag tag t)) tasks q
queue_changed s on tasks Reset q = record { apart = tt; others_wait = tt; served = tt }
queue_changed s on tasks _ q = q

-- the tasks after every history
pub queue_after : (s : Sizes) (e : History) → IsQueue s (tasks_after s e)
queue_after s [] = record { apart = tt; others_wait = tt; served = tt }
queue_after s (x ∷ e) = queue_changed s (on_after e) (tasks_after s e) x (queue_after s e)
