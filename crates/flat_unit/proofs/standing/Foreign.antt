-- A device over a chip that is none of this device's: it keeps its tasks, and a step ends the first of them.
use Rattle.std.proofs.Common.{◌≡◌, ℕ, ◌-◌, ◌^◌, ◌<◌, Bool, true, List, [], ◌∷◌, ◌++◌, length, Option, Some, None, Ok, refl, sym, ◌∙◌, ap, subst, arith, drop, inr}
use Rattle.flash_pages.specs.declared.chip.ChipOp.{ChipOp}
use Rattle.flash_pages.specs.declared.chip.ChipOp.TheVariants.{Read as ReadPage}
use Rattle.hpb_cdb.specs.declared.cdb.Cdb.{Cdb}
use Rattle.hpb_cdb.specs.declared.cdb.Cdb.TheVariants.{Read, Write, HpbRead}
use Rattle.hpb_sense.specs.Sense.{fixed_out}
use Rattle.upiu_wire.specs.declared.kind.Kind.{Kind}
use Rattle.upiu_wire.specs.declared.kind.Kind.TheVariants.{Command, DataOut, Response, DataIn, ReadyToTransfer}
use Rattle.upiu_wire.specs.Upiu.{Upiu, IsConsistent, upiu_at, upiu_out}
use Rattle.flat_unit.specs.declared.event.Event.{Event}
use Rattle.flat_unit.specs.declared.event.Event.TheVariants.{Host, Device, Reset, Failed}
use Rattle.flat_unit.specs.Causes.{EventHasCause, SendHasCause}
use Rattle.flat_unit.specs.Command.{command_of}
use Rattle.flat_unit.specs.Contents.{Block, Shown, candidates}
use Rattle.flat_unit.specs.History.{History, ◌▹◌}
use Rattle.flat_unit.specs.Queue.{after_reply, after_sent, on_after, task_of, tasks_after, tasks_changed, with_command, with_data}
use Rattle.flat_unit.specs.Reply.{effects_of, reply_of}
use Rattle.flat_unit.specs.Sends.{Allows, Check, MaySend, MayEndWith, upiu_of}
use Rattle.flat_unit.specs.Senses.{chip_failed}
use Rattle.flat_unit.specs.Sizes.{Sizes}
use Rattle.flat_unit.specs.Sound.{IsCandidate}
use Rattle.flat_unit.specs.Stands.{First, Kept, Stands, StandsForeign, ended_by}
use Rattle.flat_unit.specs.Task.{Task}
use Rattle.flat_unit.specs.Tasks.{AreApart, IsQueue}
use Rattle.flat_unit.proofs.standing.Sending.{left_with, response_changes, with_tasks}
use Rattle.flat_unit.proofs.History.{comes, kept_of_kind, owes_reply, received_answered, received_kept, response-consistent, sent_sound}
use Rattle.flat_unit.proofs.standing.Changes.{device_changes, device_code, device_shows}
use Rattle.flat_unit.proofs.queue.Tasks.{queue_after}
use Rattle.flat_unit.proofs.standing.OneCall.{FitsWire, cause_chip, cause_foreign, stands_cut, stands_failed}
use Rattle.flat_unit.proofs.queue.Ends.{IsReply, reply_is}

pub foreign_begun : (s : Sizes) (unit : List Block) (next free : ℕ) (kept : Kept) → kept.tasks ≡ [] → kept.on ≡ true → StandsForeign s (record { unit = unit; next = next; free = free }) kept []
foreign_begun s unit next free kept none on = record { keeps = sym none; switch = sym on; sound = record { so_far = tt; nothing_owed = refl }; caused = tt }

same_reply : (s : Sizes) (first : First) (kept : Kept) (e : History) (bytes : List ℕ) (r : Option Upiu) → StandsForeign s first kept e → reply_of s kept.on kept.tasks bytes ≡ r
    → reply_of s (on_after e) (tasks_after s e) bytes ≡ r
same_reply s first kept e bytes r at is = ap (λ (on : Bool). reply_of s on (tasks_after s e) bytes) at.switch ∙ ap (λ (ts : List Task). reply_of s kept.on ts bytes) at.keeps ∙ is

-- the host's bytes are kept
pub foreign_kept : (s : Sizes) (first : First) (kept : Kept) (e : History) (bytes : List ℕ) → reply_of s kept.on kept.tasks bytes ≡ None
    → StandsForeign s first kept e → StandsForeign s first (with_tasks (tasks_changed s kept.on kept.tasks (Host bytes)) kept) (e ▹ Host bytes)
foreign_kept s first kept e bytes silent at = record {
  keeps = ap (λ (on : Bool). tasks_changed s on (tasks_after s e) (Host bytes)) at.switch ∙ ap (λ (ts : List Task). tasks_changed s kept.on ts (Host bytes)) at.keeps;
  switch = at.switch;
  sound = received_kept s first.unit e bytes at.sound (same_reply s first kept e bytes None at silent);
  caused = (at.caused, tt);
}

-- a command is kept
pub foreign_accepted : (s : Sizes) (first : First) (kept : Kept) (e : History) (bytes : List ℕ) (command : Cdb)
    → reply_of s kept.on kept.tasks bytes ≡ None → (upiu_at bytes).kind ≡ Command → command_of s (upiu_at bytes).cdb ≡ Ok command
    → StandsForeign s first kept e → StandsForeign s first (with_tasks (kept.tasks ++ task_of (upiu_at bytes) command ∷ []) kept) (e ▹ Host bytes)
foreign_accepted s first kept e bytes command silent kind reads at =
    subst (λ (ts : List Task). StandsForeign s first (with_tasks ts kept) (e ▹ Host bytes))
    (kept_of_kind s kept.on kept.tasks bytes Command kind silent ∙ ap (with_command kept.tasks (upiu_at bytes)) reads)
    (foreign_kept s first kept e bytes silent at)

-- DATA OUT is taken
pub foreign_taken : (s : Sizes) (first : First) (kept : Kept) (e : History) (bytes : List ℕ) (task : Task) (others : List Task)
    → reply_of s kept.on (task ∷ others) bytes ≡ None → (upiu_at bytes).kind ≡ DataOut
    → StandsForeign s first (with_tasks (task ∷ others) kept) e → StandsForeign s first (with_tasks (with_data (upiu_at bytes).segment task ∷ others) kept) (e ▹ Host bytes)
foreign_taken s first kept e bytes task others silent kind at =
    subst (λ (ts : List Task). StandsForeign s first (with_tasks ts kept) (e ▹ Host bytes))
    (kept_of_kind s kept.on (task ∷ others) bytes DataOut kind silent)
    (foreign_kept s first (with_tasks (task ∷ others) kept) e bytes silent at)

-- the host's bytes are answered at once
pub foreign_answered : (s : Sizes) (first : First) (kept : Kept) (e : History) (bytes : List ℕ) (v : Upiu) → IsConsistent v
    → reply_of s kept.on kept.tasks bytes ≡ Some v → effects_of s kept.on kept.tasks bytes ≡ []
    → StandsForeign s first kept e → StandsForeign s first (with_tasks (after_sent v v.kind kept.tasks) kept) (e ▹ Host bytes ▹ Device (upiu_out v))
foreign_answered s first kept e bytes v consistent is no_effects at =
    let reply = same_reply s first kept e bytes (Some v) at is in
    let none : effects_of s (on_after e) (tasks_after s e) bytes ≡ [] =
    ap (λ (on : Bool). effects_of s on (tasks_after s e) bytes) at.switch ∙ ap (λ (ts : List Task). effects_of s kept.on ts bytes) at.keeps ∙ no_effects in
    let mid : tasks_after s (e ▹ Host bytes) ≡ kept.tasks = ap (after_reply s (tasks_after s e) (upiu_at bytes)) reply ∙ at.keeps in
    record {
      keeps = device_changes s (on_after e) (tasks_after s (e ▹ Host bytes)) v consistent ∙ ap (λ (t : List Task). after_sent v v.kind t) mid;
      switch = at.switch;
      sound = received_answered s first.unit e bytes v at.sound reply none;
      caused = ((at.caused, tt), subst (λ (due : List Event). EventHasCause s (Unit {0}) first.next (e ▹ Host bytes) (Device (upiu_out v)) due) (sym (owes_reply s e bytes v reply)) tt);
    }

-- the same tasks, and HPB as before: nothing else that a device keeps matters over a foreign chip
pub foreign_as : (s : Sizes) (first : First) (kept now : Kept) (e : History) → now.tasks ≡ kept.tasks → now.on ≡ kept.on → StandsForeign s first kept e → StandsForeign s first now e
foreign_as s first kept now e tasks on at = record { keeps = at.keeps ∙ sym tasks; switch = at.switch ∙ sym on; sound = at.sound; caused = at.caused }

-- whatever is answered at once leaves what it leaves of a device on its own chip
pub foreign_reply : (s : Sizes) (first : First) (kept : Kept) (e : History) (bytes : List ℕ) (v : Upiu) → IsConsistent v
    → reply_of s kept.on kept.tasks bytes ≡ Some v → effects_of s kept.on kept.tasks bytes ≡ []
    → StandsForeign s first kept e → StandsForeign s first (ended_by v.kind v.tag kept) (e ▹ Host bytes ▹ Device (upiu_out v))
foreign_reply s first kept e bytes v consistent is no_effects at =
    let queue : IsQueue s kept.tasks = subst (IsQueue s) at.keeps (queue_after s e) in
    let left = by_kind v.kind (reply_is s kept.on kept.tasks bytes v queue is).1 in
    foreign_as s first (with_tasks (after_sent v v.kind kept.tasks) kept) (ended_by v.kind v.tag kept) (e ▹ Host bytes ▹ Device (upiu_out v)) left.0 left.1
    (foreign_answered s first kept e bytes v consistent is no_effects at)
  where
    by_kind : (kind : Kind) → IsReply v kind → ((ended_by kind v.tag kept).tasks ≡ after_sent v kind kept.tasks) × ((ended_by kind v.tag kept).on ≡ kept.on)
    by_kind DataIn is = absurd is
    by_kind ReadyToTransfer is = absurd is
    by_kind Response is = (refl, refl)
    by_kind _ is = (refl, refl)

-- each task may end where the chip failed while the device looked at it
pub may_end_failed : (command : Cdb) → MayEndWith command chip_failed
may_end_failed (Read lba n) = inr refl
may_end_failed (HpbRead lba entry n id) = inr refl
may_end_failed (Write lba n) = inr (inr refl)
may_end_failed _ = refl

pub allows_failed : (s : Sizes) (task : Task) → Allows s task (Check chip_failed)
allows_failed s task = may_end_failed task.command

-- a look at the chip failed, and the first task ends
pub stands_look_failed : (s : Sizes) (first : First) (kept : Kept) (e : History) (task : Task) (others : List Task) → FitsWire s task
    → Stands s first (with_tasks (task ∷ others) kept) e
    → Stands s first (left_with others kept) (e ▹ Failed ReadPage ▹ Device (upiu_out (upiu_of s task (Check chip_failed))))
stands_look_failed s first kept e task others fits at =
    stands_cut s first kept (e ▹ Failed ReadPage) task others chip_failed fits (allows_failed s task) (cause_chip s ⊥ first.next e)
    (stands_failed s first (with_tasks (task ∷ others) kept) e ReadPage at)

-- a step ends the first task
pub foreign_ended : (s : Sizes) (first : First) (kept : Kept) (e : History) (task : Task) (others : List Task) → task.expected < 2 ^ 32
    → StandsForeign s first (with_tasks (task ∷ others) kept) e
    → StandsForeign s first (with_tasks others kept) (e ▹ Device (upiu_out (upiu_of s task (Check chip_failed))))
foreign_ended s first kept e task others fits at =
    let v : Upiu = upiu_of s task (Check chip_failed) in
    let consistent = response-consistent task.lun task.tag 2 _ (fixed_out chip_failed) (residual_fits task fits) (omega arith) in
    let queue = queue_after s e in
    let alone = subst (λ (ts : List Task). AreApart ts) at.keeps queue.apart in
    record {
      keeps = device_changes s (on_after e) (tasks_after s e) v consistent ∙ ap (λ (t : List Task). after_sent v v.kind t) at.keeps
          ∙ response_changes task others 2 (task.expected - task.sent - length task.come) (fixed_out chip_failed) alone.0;
      switch = at.switch;
      sound = sent_sound s first.unit e (upiu_out v) at.sound (
        subst (λ (t : List Task). MaySend s t (upiu_out v)) (sym at.keeps) (Check chip_failed, may_end_failed task.command, refl),
        subst (λ (w : Option Shown). IsCandidate (candidates s first.unit e) w) (sym (device_shows s (tasks_after s e) v consistent)) tt,
      );
      caused = (
        at.caused,
        subst (λ (due : List Event). EventHasCause s (Unit {0}) first.next e (Device (upiu_out v)) due) (sym at.sound.nothing_owed)
            (subst (λ (code : Option ℕ). SendHasCause s (Unit {0}) first.next e code) (sym (device_code v consistent)) (cause_foreign s (Unit {0}) first.next e tt)),
      );
    }
  where
    residual_fits : (t : Task) → t.expected < 2 ^ 32 → t.expected - t.sent - length t.come < 2 ^ 32
    residual_fits t fits = omega arith

-- a failed call of the chip, and a reset
pub foreign_failed : (s : Sizes) (first : First) (kept : Kept) (e : History) (op : ChipOp) → StandsForeign s first kept e → StandsForeign s first kept (e ▹ Failed op)
foreign_failed s first kept e op at = record {
  keeps = at.keeps;
  switch = at.switch;
  sound = record { so_far = comes s first.unit e (Failed op) at.sound tt; nothing_owed = ap (λ (due : List Event). drop 1 due) at.sound.nothing_owed };
  caused = (at.caused, tt);
}

pub foreign_reset : (s : Sizes) (first : First) (kept : Kept) (e : History) → StandsForeign s first kept e → StandsForeign s first (record kept { tasks = []; on = true }) (e ▹ Reset)
foreign_reset s first kept e at = record {
  keeps = refl;
  switch = refl;
  sound = record { so_far = comes s first.unit e Reset at.sound tt; nothing_owed = ap (λ (due : List Event). drop 1 due) at.sound.nothing_owed };
  caused = (at.caused, tt);
}
