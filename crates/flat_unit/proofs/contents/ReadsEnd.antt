-- What reads show, how they end, and when: over every history and every trace.
use Rattle.std.proofs.Common.{◌≡◌, ◌⊎◌, ⊎_elim, inl, inr, ℕ, zero, suc, ◌+◌, Bool, true, false, not, List, [], ◌∷◌, Option, Some, None, Result, Ok, Err, IsTrue, refl, sym, ap, subst, arith}
use Rattle.std.specs.Prelude.{if◌then◌else◌}
use Rattle.std.specs.List.{AllByRecursion}
use Rattle.std.proofs.lemmas.Bool.{false≢true}
use Rattle.std.proofs.lemmas.Bool.Decides.{nat_tests}
use Rattle.hpb_cdb.specs.declared.cdb.Cdb.{Cdb}
use Rattle.hpb_cdb.specs.declared.cdb.Cdb.TheVariants.{Read, HpbRead}
use Rattle.hpb_cdb.specs.declared.fault.CdbFault.{CdbFault}
use Rattle.hpb_sense.specs.declared.sense.FixedSense.{FixedSense}
use Rattle.upiu_wire.specs.declared.kind.Kind.{Kind}
use Rattle.upiu_wire.specs.declared.kind.Kind.TheVariants.{Command, DataOut, Response, DataIn, ReadyToTransfer}
use Rattle.upiu_wire.specs.Kind.{kind_of}
use Rattle.upiu_wire.specs.Upiu.{Upiu, upiu_at, upiu_out}
use Rattle.flat_unit.specs.declared.event.Event.{Event}
use Rattle.flat_unit.specs.declared.event.Event.TheVariants.{Host, Device, Reset, Gone}
use Rattle.flat_unit.specs.Causes.{Caused, EventHasCause, HasCauseFor, JustFailedToRead, SendHasCause, sense_code}
use Rattle.flat_unit.specs.Command.{bytes_taken, command_of, is_read}
use Rattle.flat_unit.specs.Contents.{Block, Leaving, Shown, answered, candidates, leaving, shown_by_kind}
use Rattle.flat_unit.specs.History.{History, ◌▹◌, followed_by}
use Rattle.flat_unit.specs.Queue.{after_kept, after_reply, after_sent, at_rest, change_head, on_after, task_of, tasks_after, tasks_changed, with_asked, with_command, with_data, with_sent}
use Rattle.flat_unit.specs.Reads.{AfterLine, DrainsReads, EndsRead, ReadsAllowed, ReadsEndGood, ReadsWait}
use Rattle.flat_unit.specs.Replays.{LineTo, Progress, Replays, StepsTo, events_of, tasks_at}
use Rattle.flat_unit.specs.Reply.{check, has_tag, reply_of, waits_for_data}
use Rattle.flat_unit.specs.Sends.{Answer, Data, Ask, Good, Check, Allows, MayEndWith, MaySend, upiu_of}
use Rattle.flat_unit.specs.Senses.{chip_failed, read_failed}
use Rattle.flat_unit.specs.Sizes.{Sizes}
use Rattle.flat_unit.specs.Sound.{IsCandidate, SoundSoFar, answers_to, owed}
use Rattle.flat_unit.specs.Task.{Task}
use Rattle.flat_unit.specs.Tasks.{IsQueue}
use Rattle.flat_unit.specs.Trace.{Line, Upiu as UpiuLine, Steps, Collect, Drain, ResetLine, Blank}
use Rattle.flat_unit.proofs.queue.Tasks.{all_fewer, all_more, queue_after}
use Rattle.flat_unit.proofs.queue.Ends.{EndsBadly, IsNoTransfer, IsReplied, first_leaves, may_come, out_kind, out_leaves, unowed_or_replied}

-- no reply shows a block
shows_none : (s : Sizes) (tasks : List Task) (v : Upiu) (kind : Kind) → IsNoTransfer kind → shown_by_kind s v kind tasks ≡ None
shows_none s tasks v DataIn other = absurd other
shows_none s tasks v _ other = refl

-- each block that a read shows is one that is allowed just before it
pub reads_allowed : (s : Sizes) (u : List Block) (e : History) → SoundSoFar s u e → ReadsAllowed s u e
reads_allowed s u [] sound = tt
reads_allowed s u (Device bytes ∷ e) sound = (
  reads_allowed s u e sound.0,
  ⊎_elim
      (λ (none : owed s e ≡ []). (may_come s u e (Device bytes) sound none).1)
      (λ (replied : IsReplied s e bytes). subst (λ (w : Option Shown). IsCandidate (candidates s u e) w) (sym (shows_none s (tasks_after s e) (upiu_at bytes) (upiu_at bytes).kind replied.1)) tt)
      (unowed_or_replied s u e bytes sound),
)
reads_allowed s u (_ ∷ e) sound = (reads_allowed s u e sound.0, tt)

-- a read has asked for nothing
abbrev pub IsUnasked : Task → Type 0
IsUnasked task = is_read task.command ≡ true → task.asked ≡ 0

abbrev pub AreUnasked : List Task → Type 0
AreUnasked tasks = AllByRecursion IsUnasked tasks

takes_none : (s : Sizes) (command : Cdb) → is_read command ≡ true → bytes_taken s command ≡ 0
takes_none s (Read lba n) is = refl
takes_none s (HpbRead lba entry n id) is = refl
takes_none s _ is = absurd (false≢true is)

-- after the host's bytes
host_asks_none : (s : Sizes) (on : Bool) (tasks : List Task) (bytes : List ℕ) → AreUnasked tasks → AreUnasked (tasks_changed s on tasks (Host bytes))
host_asks_none s on tasks bytes all = by_reply (reply_of s on tasks bytes)
  where
    by_cdb : (r : Result Cdb CdbFault) → AreUnasked (with_command tasks (upiu_at bytes) r)
    by_cdb (Ok command) = all_more IsUnasked tasks (task_of (upiu_at bytes) command) all (λ _. refl)
    by_cdb (Err fault) = all

    by_head : (ts : List Task) → AreUnasked ts → AreUnasked (change_head (with_data (upiu_at bytes).segment) ts)
    by_head [] all = tt
    by_head (task ∷ others) all = (all.0, all.1)

    by_kind : (k : Kind) → AreUnasked (after_kept s tasks (upiu_at bytes) k)
    by_kind Command = by_cdb (command_of s (upiu_at bytes).cdb)
    by_kind DataOut = by_head tasks all
    by_kind _ = all

    by_reply : (r : Option Upiu) → AreUnasked (after_reply s tasks (upiu_at bytes) r)
    by_reply (Some v) = all
    by_reply None = by_kind (upiu_at bytes).kind

-- after a UPIU of the device that asks for nothing
if_sent : (b : Bool) (n : ℕ) (task : Task) → IsUnasked task → IsUnasked (if b then with_sent n task else task)
if_sent true n task is = is
if_sent false n task is = is

if_asked : (b : Bool) (n : ℕ) (task : Task) → (is_read task.command ≡ true → ⊥) → IsUnasked task → IsUnasked (if b then with_asked n task else task)
if_asked true n task other is = λ read. absurd (other read)
if_asked false n task other is = is

abbrev IsNoAsk : Kind → Type 0
IsNoAsk ReadyToTransfer = ⊥
IsNoAsk _ = Unit {0}

no_transfer_asks_none : (kind : Kind) → IsNoTransfer kind → IsNoAsk kind
no_transfer_asks_none DataIn other = absurd other
no_transfer_asks_none ReadyToTransfer other = other
no_transfer_asks_none _ other = tt

sent_asks_none : (v : Upiu) (kind : Kind) (tasks : List Task) → IsNoAsk kind → AreUnasked tasks → AreUnasked (after_sent v kind tasks)
sent_asks_none v DataIn [] other all = tt
sent_asks_none v DataIn (task ∷ others) other all = (if_sent (has_tag v.tag task) v.count task all.0, all.1)
sent_asks_none v Response tasks other all = all_fewer IsUnasked (λ (t : Task). not (has_tag v.tag t)) tasks all
sent_asks_none v ReadyToTransfer tasks other all = absurd other
sent_asks_none v _ tasks other all = all

-- after what a step sends
step_asks_none : (s : Sizes) (tasks : List Task) (bytes : List ℕ) → MaySend s tasks bytes → AreUnasked tasks → AreUnasked (after_sent (upiu_at bytes) (upiu_at bytes).kind tasks)
step_asks_none s [] bytes may all = absurd may
step_asks_none s (task ∷ others) bytes (a, allows, is) all = subst (λ (b : List ℕ). AreUnasked (after_sent (upiu_at b) (upiu_at b).kind (task ∷ others))) (sym is) (by_answer a allows)
  where
    by_kind : (k : Kind) (u : Upiu) → u.kind ≡ k → AreUnasked (after_sent u k (task ∷ others)) → AreUnasked (after_sent u u.kind (task ∷ others))
    by_kind k u same held = subst (λ (x : Kind). AreUnasked (after_sent u x (task ∷ others))) (sym same) held

    by_answer : (a : Answer) → Allows s task a → AreUnasked (after_sent (upiu_at (upiu_out (upiu_of s task a))) (upiu_at (upiu_out (upiu_of s task a))).kind (task ∷ others))
    by_answer (Data piece) allows =
        by_kind DataIn (upiu_at (upiu_out (upiu_of s task (Data piece)))) (out_kind (upiu_of s task (Data piece)))
        (sent_asks_none (upiu_at (upiu_out (upiu_of s task (Data piece)))) DataIn (task ∷ others) tt all)
    by_answer (Ask count) allows =
        let u : Upiu = upiu_at (upiu_out (upiu_of s task (Ask count))) in
        by_kind ReadyToTransfer u (out_kind (upiu_of s task (Ask count)))
        (if_asked (has_tag u.tag task) (u.first + u.count) task (λ read. let none = takes_none s task.command read in omega (arith, allows.1, none)) all.0, all.1)
    by_answer (Good segment) allows =
        by_kind Response (upiu_at (upiu_out (upiu_of s task (Good segment)))) (out_kind (upiu_of s task (Good segment)))
        (sent_asks_none (upiu_at (upiu_out (upiu_of s task (Good segment)))) Response (task ∷ others) tt all)
    by_answer (Check sense) allows =
        by_kind Response (upiu_at (upiu_out (upiu_of s task (Check sense)))) (out_kind (upiu_of s task (Check sense)))
        (sent_asks_none (upiu_at (upiu_out (upiu_of s task (Check sense)))) Response (task ∷ others) tt all)

-- no read that is kept has asked for data
pub reads_ask_none : (s : Sizes) (u : List Block) (e : History) → SoundSoFar s u e → AreUnasked (tasks_after s e)
reads_ask_none s u [] sound = tt
reads_ask_none s u (Host bytes ∷ e) sound = host_asks_none s (on_after e) (tasks_after s e) bytes (reads_ask_none s u e sound.0)
reads_ask_none s u (Device bytes ∷ e) sound = ⊎_elim
    (λ (none : owed s e ≡ []). step_asks_none s (tasks_after s e) bytes (may_come s u e (Device bytes) sound none).0 (reads_ask_none s u e sound.0))
    (λ (replied : IsReplied s e bytes).
    sent_asks_none (upiu_at bytes) (upiu_at bytes).kind (tasks_after s e) (no_transfer_asks_none (upiu_at bytes).kind replied.1) (reads_ask_none s u e sound.0))
    (unowed_or_replied s u e bytes sound)
reads_ask_none s u (Gone tag ∷ e) sound = all_fewer IsUnasked (λ (t : Task). not (has_tag tag t)) (tasks_after s e) (reads_ask_none s u e sound.0)
reads_ask_none s u (Reset ∷ e) sound = tt
reads_ask_none s u (_ ∷ e) sound = reads_ask_none s u e sound.0

-- a task that waits for data is no read
pub waits_no_read : (task : Task) → IsUnasked task → waits_for_data task ≡ true → is_read task.command ≡ true → ⊥
waits_no_read task unasked waits read = let none : task.asked ≡ 0 = unasked read in absurd (grind (arith, nat_tests))

-- once nothing can go on without the host, no read is kept but behind a task that waits for data
pub drained_reads_over : (s : Sizes) (u : List Block) (e : History) → SoundSoFar s u e → IsTrue (at_rest (tasks_after s e)) → ReadsWait (tasks_after s e)
drained_reads_over s u e sound rests = by_tasks (tasks_after s e) (reads_ask_none s u e sound) rests
  where
    by_tasks : (tasks : List Task) → AreUnasked tasks → IsTrue (at_rest tasks) → ReadsWait tasks
    by_tasks [] all rests = tt
    by_tasks (task ∷ others) all rests = (rests, by_read (is_read task.command) refl)
      where
        by_read : (b : Bool) → is_read task.command ≡ b → b ≡ false
        by_read false is = refl
        by_read true is = absurd (waits_no_read task all.0 rests is)

-- the code of a CHECK CONDITION that is written
check_code : (lun tag residual : ℕ) (sense : FixedSense) → sense_code (upiu_out (check lun tag residual sense)) ≡ Some sense.asc
unfolding upiu_at upiu_out kind_of
check_code lun tag residual sense = refl

-- what ends a read, and its cause
read_cause : (s : Sizes) (next : ℕ) (e : History) (command : Cdb) (sense : FixedSense) → is_read command ≡ true → MayEndWith command sense → HasCauseFor s ⊥ next e sense.asc → JustFailedToRead e
read_cause s next e command sense read may cause = ⊎_elim
    (λ (is : sense ≡ read_failed). cause.read (ap (λ (x : FixedSense). x.asc) is))
    (λ (is : sense ≡ chip_failed). ⊎_elim (λ (failed : JustFailedToRead e). failed) (λ (foreign : ⊥). absurd foreign) (cause.chip (ap (λ (x : FixedSense). x.asc) is)))
    (by_command command read may)
  where
    by_command : (c : Cdb) → is_read c ≡ true → MayEndWith c sense → (sense ≡ read_failed) ⊎ (sense ≡ chip_failed)
    by_command (Read lba n) read may = may
    by_command (HpbRead lba entry n id) read may = may
    by_command _ read may = absurd (false≢true read)

-- what a step ends
step_ends : (s : Sizes) (next : ℕ) (e : History) (tasks : List Task) (bytes : List ℕ) → IsQueue s tasks → MaySend s tasks bytes → SendHasCause s ⊥ next e (sense_code bytes)
    → AllByRecursion (EndsRead e) (leaving tasks (Device bytes))
step_ends s next e [] bytes queue may cause = absurd may
step_ends s next e (task ∷ others) bytes queue (a, allows, is) cause =
    subst (λ (b : List ℕ). AllByRecursion (EndsRead e) (leaving (task ∷ others) (Device b))) (sym is)
    (subst (AllByRecursion (EndsRead e)) (sym (out_leaves (task ∷ others) (upiu_of s task a)))
    (by_answer a allows (subst (λ (b : List ℕ). SendHasCause s ⊥ next e (sense_code b)) is cause)))
  where
    by_answer : (a : Answer) → Allows s task a → SendHasCause s ⊥ next e (sense_code (upiu_out (upiu_of s task a)))
        → AllByRecursion (EndsRead e) (answered (upiu_of s task a) (upiu_of s task a).kind (task ∷ others))
    by_answer (Data piece) allows cause = tt
    by_answer (Ask count) allows cause = tt
    by_answer (Good segment) allows cause =
        subst (AllByRecursion (EndsRead e)) (sym (first_leaves true task others task.tag refl queue.apart.0)) ((λ _. inl refl), tt)
    by_answer (Check sense) allows cause =
        subst (AllByRecursion (EndsRead e)) (sym (first_leaves false task others task.tag refl queue.apart.0)) (
          (λ read. inr (read_cause s next e task.command sense read allows
              (subst (λ (code : Option ℕ). SendHasCause s ⊥ next e code) (check_code task.lun task.tag _ sense) cause))),
          tt,
        )

-- what a reply ends is no read
reply_ends_none : (e : History) (tasks : List Task) (ls : List Leaving) → AreUnasked tasks → EndsBadly tasks ls → AllByRecursion (EndsRead e) ls
reply_ends_none e tasks [] all badly = tt
reply_ends_none e tasks (l ∷ []) all badly =
    let unasked : IsUnasked l.task = (subst AreUnasked badly.0.1 all).0 in
    ((λ read. absurd (waits_no_read l.task unasked badly.2 read)), tt)
reply_ends_none e tasks (l ∷ _ ∷ _) all badly = absurd badly

-- each RESPONSE that ends a read is GOOD, or a read of the chip failed directly before it
pub reads_end_well : (s : Sizes) (u : List Block) (next : ℕ) (e : History) → SoundSoFar s u e → Caused s ⊥ next e → ReadsEndGood s e
reads_end_well s u next [] sound caused = tt
reads_end_well s u next (Device bytes ∷ e) sound caused = (
  reads_end_well s u next e sound.0 caused.0,
  ⊎_elim
      (λ (none : owed s e ≡ []). step_ends s next e (tasks_after s e) bytes (queue_after s e) (may_come s u e (Device bytes) sound none).0
      (subst (λ (due : List Event). EventHasCause s ⊥ next e (Device bytes) due) none caused.1))
      (λ (replied : IsReplied s e bytes). reply_ends_none e (tasks_after s e) _ (reads_ask_none s u e sound.0) replied.0)
      (unowed_or_replied s u e bytes sound),
)
reads_end_well s u next (_ ∷ e) sound caused = reads_end_well s u next e sound.0 caused.0

-- a history is sound as far as it had come before some events, or before a line
pub sound_before : (s : Sizes) (u : List Block) (e : History) (xs : List Event) → SoundSoFar s u (followed_by e xs) → SoundSoFar s u e
sound_before s u e [] sound = sound
sound_before s u e (x ∷ xs) sound = (sound_before s u (e ▹ x) xs sound).0

steps_sound : (s : Sizes) (u : List Block) (n : ℕ) (p now : Progress) → StepsTo s n p now → SoundSoFar s u now.events → SoundSoFar s u p.events
steps_sound s u zero p now is sound = subst (λ (q : Progress). SoundSoFar s u q.events) is sound
steps_sound s u (suc n) p now (mid, steps, step) sound =
    steps_sound s u n p mid steps
    (sound_before s u mid.events (events_of step.group) (subst (λ (q : Progress). SoundSoFar s u q.events) step.leads sound))

pub line_sound : (s : Sizes) (u : List Block) (line : Line) (p now : Progress) → LineTo s line p now → SoundSoFar s u now.events → SoundSoFar s u p.events
line_sound s u (UpiuLine bytes) p now is sound =
    (sound_before s u (p.events ▹ Host bytes) (answers_to s (on_after p.events) (tasks_at s p) bytes) (subst (λ (q : Progress). SoundSoFar s u q.events) is sound)).0
line_sound s u (Steps n) p now runs sound = steps_sound s u n _ runs.end runs.steps (subst (λ (q : Progress). SoundSoFar s u q.events) runs.leads sound)
line_sound s u (Collect n) p now collects sound = sound_before s u p.events collects.group (subst (λ (q : Progress). SoundSoFar s u q.events) collects.leads sound)
line_sound s u Drain p now drains sound = steps_sound s u drains.count _ now drains.steps sound
line_sound s u ResetLine p now is sound = (subst (λ (q : Progress). SoundSoFar s u q.events) is sound).0
line_sound s u Blank p now is sound = subst (λ (q : Progress). SoundSoFar s u q.events) is sound

pub replays_sound : (s : Sizes) (u : List Block) (lines : List Line) (p now : Progress) → Replays s lines p now → SoundSoFar s u now.events → SoundSoFar s u p.events
replays_sound s u [] p now is sound = subst (λ (q : Progress). SoundSoFar s u q.events) is sound
replays_sound s u (line ∷ lines) p now (mid, first, rest) sound = line_sound s u line p mid first (replays_sound s u lines mid now rest sound)

-- after each drain of a trace no read goes on
pub drains_end_reads : (s : Sizes) (u : List Block) (lines : List Line) (p now : Progress) → Replays s lines p now → SoundSoFar s u now.events → DrainsReads s lines p now
drains_end_reads s u [] p now is sound = is
drains_end_reads s u (line ∷ lines) p now (mid, first, rest) sound =
    (mid, first, by_line line first, drains_end_reads s u lines mid now rest sound)
  where
    by_line : (l : Line) → LineTo s l p mid → AfterLine s l mid
    by_line Drain drains = drained_reads_over s u mid.events (replays_sound s u lines mid now rest sound) drains.rests
    by_line _ first = tt
