-- What a UPIU of the device ends: of a step the first task at most, and of a reply no task GOOD.
use Rattle.std.proofs.Common.{◌≡◌, ◌⊎◌, ⊎_elim, inl, inr, not, Result, Ok, Err, ℕ, Bool, true, false, cond, ◌&&◌, List}
use Rattle.std.proofs.Common.{[], ◌∷◌, length, Option, Some, None, refl, sym, ◌∙◌, ap, subst, filter, drop, nat_le}
use Rattle.std.proofs.Common.{nat_lt, ◌==◌}
use Rattle.std.specs.Prelude.{map, unwrap_or, if◌then◌else◌}
use Rattle.std.specs.List.{AllByRecursion, list_any}
use Rattle.std.proofs.lemmas.Bool.{eqb-true, false≢true}
use Rattle.hpb_cdb.specs.declared.cdb.Cdb.{Cdb}
use Rattle.hpb_cdb.specs.declared.fault.CdbFault.{CdbFault}
use Rattle.hpb_cdb.proofs.Branches.{either}
use Rattle.upiu_wire.specs.declared.kind.Kind.{Kind}
use Rattle.upiu_wire.specs.declared.kind.Kind.TheVariants.{NopOut, Command, DataOut, ManageRequest, QueryRequest, Response, DataIn, ReadyToTransfer}
use Rattle.upiu_wire.specs.Upiu.{Upiu, upiu_at, upiu_out}
use Rattle.upiu_wire.specs.WireFault.{wire_fault_of, number_of}
use Rattle.upiu_wire.specs.declared.fault.WireFault.{WireFault}
use Rattle.upiu_wire.proofs.Reading.{kind_of-code}
use Rattle.flat_unit.specs.declared.event.Event.{Event}
use Rattle.flat_unit.specs.declared.event.Event.TheVariants.{Host, Device, Cleared, Switched, Gone}
use Rattle.flat_unit.specs.Command.{command_of, is_hpb, needed}
use Rattle.flat_unit.specs.Contents.{Block, Leaving, answered, leaving, leaving_all}
use Rattle.flat_unit.specs.History.{History, ◌▹◌}
use Rattle.flat_unit.specs.Laws.{FirstAlone, IsFirst, MovedAll}
use Rattle.flat_unit.specs.Queue.{after_reply, on_after, tasks_after}
use Rattle.flat_unit.specs.Manage.{goes, manage_reply, manage_events}
use Rattle.flat_unit.specs.Query.{query_code, query_reply, query_events, query_effect, is_change, idn_of, reset_flag, on_after_query}
use Rattle.flat_unit.specs.Reply.{has_tag, waits_for_data, is_next_piece, not_served, command_refusal, refusal_of_cdb}
use Rattle.flat_unit.specs.Reply.{data_refusal, reply_by_kind, reply_by_fault, fault_rejection, reply_of, effects_of}
use Rattle.flat_unit.specs.Reply.{effects_by_fault, effects_by_kind}
use Rattle.flat_unit.specs.Sends.{Answer, Data, Ask, Good, Check, Allows, MaySend, upiu_of}
use Rattle.flat_unit.specs.Sizes.{Sizes}
use Rattle.flat_unit.specs.Sound.{Comes, MayCome, SoundSoFar, owed, reply_events}
use Rattle.flat_unit.specs.Task.{Task}
use Rattle.flat_unit.specs.Tasks.{IsAlone, IsQueue}
use Rattle.flat_unit.proofs.queue.Tasks.{none_has, queue_after, same_tag}

-- what a UPIU that is written ends, by its kind, tag and status
pub out_kind : (v : Upiu) → (upiu_at (upiu_out v)).kind ≡ v.kind
unfolding upiu_at upiu_out
out_kind v = ap (λ (k : Option Kind). unwrap_or k NopOut) (kind_of-code v.kind)

pub out_leaves : (tasks : List Task) (v : Upiu) → leaving tasks (Device (upiu_out v)) ≡ answered v v.kind tasks
unfolding upiu_at upiu_out
out_leaves tasks v = by_kind (upiu_at (upiu_out v)).kind ∙ ap (λ (k : Kind). answered v k tasks) (out_kind v)
  where
    by_kind : (k : Kind) → answered (upiu_at (upiu_out v)) k tasks ≡ answered v k tasks
    by_kind Response = refl
    by_kind _ = refl

-- the first task alone leaves with its tag
pub first_leaves : (good : Bool) (task : Task) (others : List Task) (tag : ℕ)
    → tag ≡ task.tag → IsAlone task others → leaving_all good (filter (has_tag tag) (task ∷ others)) ≡ record { task = task; good = good } ∷ []
first_leaves good task others tag is alone =
    let mine : has_tag tag task ≡ true = ap (λ (t : ℕ). task.tag == t) is ∙ same_tag task.tag in
    let none : filter (has_tag tag) others ≡ [] = none_has tag others (ap (λ (t : ℕ). list_any (has_tag t) others) is ∙ alone) in
    ap (leaving_all good) (ap (λ (b : Bool). cond b (task ∷ filter (has_tag tag) others) (filter (has_tag tag) others)) mine ∙ ap (λ (ts : List Task). task ∷ ts) none)

none_leaves : (good : Bool) (tasks : List Task) (tag : ℕ) → list_any (has_tag tag) tasks ≡ false → leaving_all good (filter (has_tag tag) tasks) ≡ []
none_leaves good tasks tag none = ap (leaving_all good) (none_has tag tasks none)

-- what a reply ends waited for data, and it ends without GOOD
abbrev pub EndsBadly : List Task → List Leaving → Type 0
EndsBadly tasks [] = Unit {0}
EndsBadly tasks (l ∷ []) = IsFirst l.task tasks × (l.good ≡ false) × (waits_for_data l.task ≡ true)
EndsBadly tasks (l ∷ _ ∷ _) = ⊥

badly_alone : (tasks : List Task) (ls : List Leaving) → EndsBadly tasks ls → FirstAlone tasks ls
badly_alone tasks [] badly = tt
badly_alone tasks (l ∷ []) badly = badly.0
badly_alone tasks (l ∷ _ ∷ _) badly = badly

badly_none : (tasks : List Task) (tag : ℕ) → list_any (has_tag tag) tasks ≡ false → EndsBadly tasks (leaving_all false (filter (has_tag tag) tasks))
badly_none tasks tag none = subst (EndsBadly tasks) (sym (none_leaves false tasks tag none)) tt

badly_first : (task : Task) (others : List Task) (tag : ℕ)
    → tag ≡ task.tag → IsAlone task others → waits_for_data task ≡ true → EndsBadly (task ∷ others) (leaving_all false (filter (has_tag tag) (task ∷ others)))
badly_first task others tag is alone waits = subst (EndsBadly (task ∷ others)) (sym (first_leaves false task others tag is alone)) ((others, refl), refl, waits)

-- what a step sends ends the first task at most
sent_first : (s : Sizes) (tasks : List Task) (bytes : List ℕ) → IsQueue s tasks → MaySend s tasks bytes → FirstAlone tasks (leaving tasks (Device bytes))
sent_first s [] bytes queue may = absurd may
sent_first s (task ∷ others) bytes queue (a, allows, is) =
    subst (λ (b : List ℕ). FirstAlone (task ∷ others) (leaving (task ∷ others) (Device b))) (sym is)
    (subst (FirstAlone (task ∷ others)) (sym (out_leaves (task ∷ others) (upiu_of s task a))) (by_answer a))
  where
    by_answer : (a : Answer) → FirstAlone (task ∷ others) (answered (upiu_of s task a) (upiu_of s task a).kind (task ∷ others))
    by_answer (Data bytes) = tt
    by_answer (Ask count) = tt
    by_answer (Good segment) = subst (FirstAlone (task ∷ others)) (sym (first_leaves true task others task.tag refl queue.apart.0)) (others, refl)
    by_answer (Check sense) = subst (FirstAlone (task ∷ others)) (sym (first_leaves false task others task.tag refl queue.apart.0)) (others, refl)

-- no reply is DATA IN
abbrev pub IsNoData : Kind → Type 0
IsNoData DataIn = ⊥
IsNoData _ = Unit {0}

-- nor READY TO TRANSFER
abbrev pub IsNoTransfer : Kind → Type 0
IsNoTransfer DataIn = ⊥
IsNoTransfer ReadyToTransfer = ⊥
IsNoTransfer _ = Unit {0}

-- a reply is no DATA IN and no READY TO TRANSFER, and it is never GOOD
abbrev pub IsReply : Upiu → Kind → Type 0
IsReply v DataIn = ⊥
IsReply v ReadyToTransfer = ⊥
IsReply v Response = (v.status == 0) ≡ false
IsReply v _ = Unit {0}

reply_is_no_transfer : (v : Upiu) (kind : Kind) → IsReply v kind → IsNoTransfer kind
reply_is_no_transfer v DataIn is = is
reply_is_no_transfer v ReadyToTransfer is = is
reply_is_no_transfer v _ is = tt

no_transfer_is_no_data : (kind : Kind) → IsNoTransfer kind → IsNoData kind
no_transfer_is_no_data DataIn is = is
no_transfer_is_no_data _ is = tt

-- a reply ends the first task at most
record Ends (tasks : List Task) (o : Option Upiu) : Type 0 where
  ends : (r : Upiu) → o ≡ Some r → EndsBadly tasks (answered r r.kind tasks) × IsReply r r.kind

only_ends : (tasks : List Task) (v : Upiu) → EndsBadly tasks (answered v v.kind tasks) → IsReply v v.kind → Ends tasks (Some v)
only_ends tasks v alone kind = record { ends = λ r is. let same : v ≡ r = cc in subst (λ (u : Upiu). EndsBadly tasks (answered u u.kind tasks) × IsReply u u.kind) same (alone, kind) }

none_ends : (tasks : List Task) → Ends tasks None
none_ends tasks = record { ends = λ r is. absurd (no_reply r is) }
  where
    no_reply : (r : Upiu) → None ≡ Some r → ⊥
    no_reply r is = cc

command_ends : (s : Sizes) (on : Bool) (tasks : List Task) (v : Upiu) → Ends tasks (command_refusal s on tasks v)
command_ends s on tasks v =
    either (Ends tasks) (list_any (has_tag v.tag) tasks) (λ _. only_ends tasks _ tt tt) (λ none.
    either (Ends tasks) (nat_le s.luns v.lun) (λ _. only_ends tasks _ (badly_none tasks v.tag none) refl) (λ _.
    either (Ends tasks) (nat_le s.room (length tasks)) (λ _. only_ends tasks _ (badly_none tasks v.tag none) refl) (λ _.
    by_cdb (command_of s v.cdb) none)))
  where
    by_cdb : (r : Result Cdb CdbFault) → list_any (has_tag v.tag) tasks ≡ false → Ends tasks (refusal_of_cdb s on v r)
    by_cdb (Err fault) none = only_ends tasks _ (badly_none tasks v.tag none) refl
    by_cdb (Ok command) none =
        either (Ends tasks) (is_hpb command && not on) (λ _. only_ends tasks _ (badly_none tasks v.tag none) refl) (λ _.
        either (Ends tasks) (nat_lt v.first (needed s command)) (λ _. only_ends tasks _ (badly_none tasks v.tag none) refl) (λ _. none_ends tasks))

data_ends : (s : Sizes) (tasks : List Task) (v : Upiu) → IsQueue s tasks → Ends tasks (data_refusal tasks v)
data_ends s [] v queue = only_ends [] _ tt tt
data_ends s (task ∷ others) v queue =
    either (Ends (task ∷ others)) (not (waits_for_data task && ((task.lun == v.lun) && (task.tag == v.tag)))) (λ _. only_ends (task ∷ others) _ tt tt) (λ mine.
    either (Ends (task ∷ others)) (is_next_piece task v) (λ _. none_ends (task ∷ others)) (λ _.
    only_ends (task ∷ others) _ (badly_first task others v.tag (sym (eqb-true task.tag v.tag (third _ _ _ mine))) queue.apart.0 (first _ _ mine)) refl))
  where
    first : (a b : Bool) → not (a && b) ≡ false → a ≡ true
    first true b is = refl
    first false b is = cc

    third : (a b c : Bool) → not (a && (b && c)) ≡ false → c ≡ true
    third true true true is = refl
    third true true false is = cc
    third true false c is = cc
    third false b c is = cc

kind_ends : (kind : Kind) (s : Sizes) (on : Bool) (tasks : List Task) (v : Upiu) → IsQueue s tasks → Ends tasks (reply_by_kind kind s on tasks v)
kind_ends NopOut s on tasks v queue = only_ends tasks _ tt tt
kind_ends Command s on tasks v queue = command_ends s on tasks v
kind_ends DataOut s on tasks v queue = data_ends s tasks v queue
kind_ends QueryRequest s on tasks v queue = elim s.queries as (λ b. Ends tasks (Some (if b then query_reply on v else not_served v))) [
  | true ↦ only_ends tasks _ tt tt
  | false ↦ only_ends tasks _ tt tt
]
kind_ends ManageRequest s on tasks v queue = elim s.manages as (λ b. Ends tasks (Some (if b then manage_reply s tasks v else not_served v))) [
  | true ↦ only_ends tasks _ tt tt
  | false ↦ only_ends tasks _ tt tt
]
kind_ends _ s on tasks v queue = only_ends tasks _ tt tt

fault_ends : (tasks : List Task) (bytes : List ℕ) (reason : ℕ) → Ends tasks (Some (fault_rejection bytes reason))
fault_ends tasks (a ∷ b ∷ lun ∷ tag ∷ rest) reason = only_ends tasks _ tt tt
fault_ends tasks (a ∷ b ∷ lun ∷ []) reason = only_ends tasks _ tt tt
fault_ends tasks (a ∷ b ∷ []) reason = only_ends tasks _ tt tt
fault_ends tasks (a ∷ []) reason = only_ends tasks _ tt tt
fault_ends tasks [] reason = only_ends tasks _ tt tt

reply_ends : (s : Sizes) (on : Bool) (tasks : List Task) (bytes : List ℕ) → IsQueue s tasks → Ends tasks (reply_of s on tasks bytes)
unfolding reply_of
reply_ends s on tasks bytes queue = by_fault (wire_fault_of bytes)
  where
    by_fault : (fault : Option WireFault) → Ends tasks (reply_by_fault s on tasks bytes fault)
    by_fault (Some fault) = fault_ends tasks bytes (number_of fault)
    by_fault None = kind_ends (upiu_at bytes).kind s on tasks (upiu_at bytes) queue

-- what a reply is, and what it ends
pub reply_is : (s : Sizes) (on : Bool) (tasks : List Task) (bytes : List ℕ) (v : Upiu) → IsQueue s tasks → reply_of s on tasks bytes ≡ Some v → EndsBadly tasks (answered v v.kind tasks)
    × IsReply v v.kind
reply_is s on tasks bytes v queue is = (reply_ends s on tasks bytes queue).ends v is

-- no event that follows a reply is a UPIU
abbrev pub IsRequested : Event → Type 0
IsRequested (Device bytes) = ⊥
IsRequested (Host bytes) = ⊥
IsRequested _ = Unit {0}

abbrev pub AreRequested : List Event → Type 0
AreRequested xs = AllByRecursion IsRequested xs

requested : (kind : Kind) (s : Sizes) (on : Bool) (tasks : List Task) (v : Upiu) → AreRequested (effects_by_kind kind s on tasks v)
requested QueryRequest s on tasks v = elim s.queries as (λ b. AreRequested (if b then query_events on v else [])) [
  | true ↦ elim (query_code v == 0) as (λ b. AreRequested (if b then query_effect on v else [])) [
    | true ↦ elim (is_change v) as (λ b. AreRequested (if b then (if idn_of v == reset_flag then Cleared ∷ [] else Switched (on_after_query on v) ∷ []) else [])) [
      | true ↦ elim (idn_of v == reset_flag) as (λ b. AreRequested (if b then Cleared ∷ [] else Switched (on_after_query on v) ∷ [])) [
        | true ↦ (tt, tt)
        | false ↦ (tt, tt)
      ]
      | false ↦ tt
    ]
    | false ↦ tt
  ]
  | false ↦ tt
]
requested ManageRequest s on tasks v = elim s.manages as (λ b. AreRequested (if b then manage_events s tasks v else [])) [
  | true ↦ all_gone (filter (goes s v) tasks)
  | false ↦ tt
]
  where
    all_gone : (ts : List Task) → AreRequested (map (λ (task : Task). Gone task.tag) ts)
    all_gone [] = tt
    all_gone (t ∷ ts) = (tt, all_gone ts)
requested _ s on tasks v = tt

pub effects_requested : (s : Sizes) (on : Bool) (tasks : List Task) (bytes : List ℕ) → AreRequested (effects_of s on tasks bytes)
unfolding effects_of
effects_requested s on tasks bytes = by_fault (wire_fault_of bytes)
  where
    by_fault : (fault : Option WireFault) → AreRequested (effects_by_fault s on tasks bytes fault)
    by_fault (Some fault) = tt
    by_fault None = requested (upiu_at bytes).kind s on tasks (upiu_at bytes)

fewer_requested : (xs : List Event) → AreRequested xs → AreRequested (drop 1 xs)
fewer_requested [] all = tt
fewer_requested (x ∷ xs) all = all.1

-- what is owed behind the first event is no UPIU
owed_requested : (s : Sizes) (e : History) → AreRequested (drop 1 (owed s e))
owed_requested s [] = tt
owed_requested s (Host bytes ∷ e) = by_reply (reply_of s (on_after e) (tasks_after s e) bytes)
  where
    by_reply : (r : Option Upiu) → AreRequested (drop 1 (reply_events (effects_of s (on_after e) (tasks_after s e) bytes) r))
    by_reply (Some v) = effects_requested s (on_after e) (tasks_after s e) bytes
    by_reply None = tt
owed_requested s (_ ∷ e) = fewer_requested (drop 1 (owed s e)) (owed_requested s e)

-- a UPIU of the device that isn't a reply is owed by nothing
unowed : (s : Sizes) (u : List Block) (e : History) (bytes : List ℕ) (due : List Event) → AreRequested due → Comes s u e due (Device bytes) → due ≡ []
unowed s u e bytes [] all comes = refl
unowed s u e bytes (x ∷ rest) all comes = absurd (subst IsRequested (sym comes) all.0)

-- what a reply ends, and what it is not
abbrev pub IsReplied : Sizes → History → List ℕ → Type 0
IsReplied s e bytes = EndsBadly (tasks_after s e) (leaving (tasks_after s e) (Device bytes)) × IsNoTransfer (upiu_at bytes).kind

replied_first : (s : Sizes) (u : List Block) (e : History) (host bytes : List ℕ) → Comes s u (e ▹ Host host) (owed s (e ▹ Host host)) (Device bytes)
    → (owed s (e ▹ Host host) ≡ []) ⊎ IsReplied s (e ▹ Host host) bytes
replied_first s u e host bytes comes = by_reply (reply_of s (on_after e) (tasks_after s e) host) refl comes
  where
    by_reply : (r : Option Upiu) → reply_of s (on_after e) (tasks_after s e) host ≡ r → Comes s u (e ▹ Host host) (reply_events (effects_of s (on_after e) (tasks_after s e) host) r) (Device bytes)
        → (owed s (e ▹ Host host) ≡ []) ⊎ IsReplied s (e ▹ Host host) bytes
    by_reply (Some v) is comes =
        let same : bytes ≡ upiu_out v = cc in
        let kept : tasks_after s (e ▹ Host host) ≡ tasks_after s e = ap (after_reply s (tasks_after s e) (upiu_at host)) is in
        let found = (reply_ends s (on_after e) (tasks_after s e) host (queue_after s e)).ends v is in
        inr (
          subst (λ (ts : List Task). EndsBadly ts (leaving ts (Device bytes))) (sym kept)
              (subst (λ (b : List ℕ). EndsBadly (tasks_after s e) (leaving (tasks_after s e) (Device b))) (sym same)
              (subst (EndsBadly (tasks_after s e)) (sym (out_leaves (tasks_after s e) v))
              found.0)),
          subst (λ (b : List ℕ). IsNoTransfer (upiu_at b).kind) (sym same) (subst IsNoTransfer (sym (out_kind v)) (reply_is_no_transfer v v.kind found.1)),
        )
    by_reply None is comes = inl (ap (reply_events (effects_of s (on_after e) (tasks_after s e) host)) is)

-- nothing owes a UPIU of the device, or it is a reply
pub unowed_or_replied : (s : Sizes) (u : List Block) (e : History) (bytes : List ℕ) → SoundSoFar s u (e ▹ Device bytes) → (owed s e ≡ []) ⊎ IsReplied s e bytes
unowed_or_replied s u [] bytes sound = inl refl
unowed_or_replied s u (Host host ∷ e) bytes sound = replied_first s u e host bytes sound.1
unowed_or_replied s u (x ∷ e) bytes sound = inl (unowed s u (x ∷ e) bytes (owed s (x ∷ e)) (owed_requested s e) sound.1)

-- what nothing owes may come
pub may_come : (s : Sizes) (u : List Block) (e : History) (x : Event) → SoundSoFar s u (e ▹ x) → owed s e ≡ [] → MayCome s u e x
may_come s u e x sound none = subst (λ (due : List Event). Comes s u e due x) none sound.1

-- a UPIU of the device came of a step, or it is a reply
pub sent_or_replied : (s : Sizes) (u : List Block) (e : History) (bytes : List ℕ) → SoundSoFar s u (e ▹ Device bytes)
    → MaySend s (tasks_after s e) bytes ⊎ (EndsBadly (tasks_after s e) (leaving (tasks_after s e) (Device bytes)) × IsNoData (upiu_at bytes).kind)
sent_or_replied s u e bytes sound = ⊎_elim
    (λ (none : owed s e ≡ []). inl (may_come s u e (Device bytes) sound none).0)
    (λ (replied : IsReplied s e bytes). inr (replied.0, no_transfer_is_no_data (upiu_at bytes).kind replied.1))
    (unowed_or_replied s u e bytes sound)

-- the first task alone ends
pub first_ends : (s : Sizes) (u : List Block) (e : History) (bytes : List ℕ) → SoundSoFar s u (e ▹ Device bytes) → FirstAlone (tasks_after s e) (leaving (tasks_after s e) (Device bytes))
first_ends s u e bytes sound = ⊎_elim
    (λ (may : MaySend s (tasks_after s e) bytes). sent_first s (tasks_after s e) bytes (queue_after s e) may)
    (λ (badly : EndsBadly (tasks_after s e) (leaving (tasks_after s e) (Device bytes)) × IsNoData (upiu_at bytes).kind). badly_alone (tasks_after s e) _ badly.0)
    (sent_or_replied s u e bytes sound)

-- a task that is answered GOOD has moved all its bytes
abbrev first_task : Task → List Leaving → Task
first_task default [] = default
first_task default (l ∷ _) = l.task

abbrev first_good : List Leaving → Bool
first_good [] = false
first_good (l ∷ _) = l.good

sent_good : (s : Sizes) (tasks : List Task) (bytes : List ℕ) (task : Task) → IsQueue s tasks → MaySend s tasks bytes
    → leaving tasks (Device bytes) ≡ record { task = task; good = true } ∷ [] → MovedAll s task
sent_good s [] bytes task queue may leaves = absurd may
sent_good s (first ∷ others) bytes task queue (a, allows, is) leaves =
    by_answer a allows (sym (out_leaves (first ∷ others) (upiu_of s first a)) ∙ ap (λ (b : List ℕ). leaving (first ∷ others) (Device b)) (sym is) ∙ leaves)
  where
    by_answer : (a : Answer) → Allows s first a → answered (upiu_of s first a) (upiu_of s first a).kind (first ∷ others) ≡ record { task = task; good = true } ∷ [] → MovedAll s task
    by_answer (Data bytes) allows same = cc
    by_answer (Ask count) allows same = cc
    by_answer (Good segment) allows same =
        let one = sym (first_leaves true first others first.tag refl queue.apart.0) ∙ same in
        let equal : first ≡ task = ap (first_task first) one in
        subst (MovedAll s) equal (record { sent = allows.0; come = allows.1 })
    by_answer (Check sense) allows same =
        let one = sym (first_leaves false first others first.tag refl queue.apart.0) ∙ same in
        absurd (false≢true (ap first_good one))

pub good_moved : (s : Sizes) (u : List Block) (e : History) (bytes : List ℕ) (task : Task) → SoundSoFar s u (e ▹ Device bytes)
    → leaving (tasks_after s e) (Device bytes) ≡ record { task = task; good = true } ∷ [] → MovedAll s task
good_moved s u e bytes task sound leaves = ⊎_elim
    (λ (may : MaySend s (tasks_after s e) bytes). sent_good s (tasks_after s e) bytes task (queue_after s e) may leaves)
    (λ (badly : EndsBadly (tasks_after s e) (leaving (tasks_after s e) (Device bytes)) × IsNoData (upiu_at bytes).kind). absurd (never badly.0))
    (sent_or_replied s u e bytes sound)
  where
    never : EndsBadly (tasks_after s e) (leaving (tasks_after s e) (Device bytes)) → ⊥
    never badly = let b = subst (EndsBadly (tasks_after s e)) leaves badly in false≢true (sym b.1)
