-- A write for which data have come took DATA OUT, and what READ BUFFER lists of pages is told.
use Rattle.std.proofs.Common.{◌≡◌, inl, inr, ℕ, ◌+◌, ◌<◌, Bool, true, false, not, cond, ◌&&◌, ◌||◌, List, [], ◌∷◌, ◌++◌}
use Rattle.std.proofs.Common.{length, filter, Option, Some, None, Result, Ok, Err, refl, sym, ◌∙◌, ap, subst, arith}
use Rattle.std.specs.Prelude.{if◌then◌else◌, is_none, is_some, unwrap_or}
use Rattle.std.specs.List.{AllByRecursion}
use Rattle.std.proofs.lemmas.Bool.{false≢true}
use Rattle.flash_pages.specs.declared.chip.ChipOp.{ChipOp}
use Rattle.flash_pages.specs.Place.{Place, IsPlace}
use Rattle.hpb_cdb.specs.declared.cdb.Cdb.{Cdb}
use Rattle.hpb_cdb.specs.declared.fault.CdbFault.{CdbFault}
use Rattle.upiu_wire.specs.declared.kind.Kind.{Kind}
use Rattle.upiu_wire.specs.declared.kind.Kind.TheVariants.{Command, DataOut, Response, DataIn, ReadyToTransfer}
use Rattle.upiu_wire.specs.Upiu.{Upiu, upiu_at}
use Rattle.flat_unit.specs.declared.event.Event.{Event}
use Rattle.flat_unit.specs.declared.event.Event.TheVariants.{Host, Device, Reset, Moved, Failed, Gone}
use Rattle.flat_unit.specs.Command.{command_of}
use Rattle.flat_unit.specs.Entries.{TellsEntry, TellsPage, Told, listed, no_page}
use Rattle.flat_unit.specs.History.{History, ◌▹◌}
use Rattle.flat_unit.specs.Pages.{ArePages, HasPages, HeadTouched, entry_at}
use Rattle.flat_unit.specs.Queue.{after_kept, after_reply, after_sent, change_head, on_after, task_of, tasks_after, tasks_changed, with_asked, with_command, with_data, with_sent}
use Rattle.flat_unit.specs.Reply.{has_tag, reply_of}
use Rattle.flat_unit.specs.Sizes.{Sizes}
use Rattle.flat_unit.specs.Stands.{Kept, is_programmed}
use Rattle.flat_unit.specs.Task.{Task}
use Rattle.flat_unit.specs.Tasks.{IsQueue, IsUntouched}
use Rattle.flat_unit.specs.Writes.{data_for, head_covers, is_settled, is_touched, takes_data}
use Rattle.flat_unit.proofs.queue.Tasks.{all_fewer, queue_after}

or_true : (a b : Bool) → b ≡ true → (a || b) ≡ true
or_true true b is = refl
or_true false b is = is

touched_more : (p : Place) (more before : Bool) (tasks : List Task) → HeadTouched p before tasks → HeadTouched p (more || before) tasks
touched_more p more before [] had = tt
touched_more p more before (task ∷ _) had = λ some covered. or_true more before (had some covered)

untouched_head : (p : Place) (touched : Bool) (tasks : List Task) → AllByRecursion IsUntouched tasks → HeadTouched p touched tasks
untouched_head p touched [] all = tt
untouched_head p touched (task ∷ _) all = λ some covered. absurd (let e : length task.come ≡ 0 = ap length all.0.come in omega arith)

one_more : (p : Place) (touched : Bool) (tasks : List Task) (new : Task) → IsUntouched new → HeadTouched p touched tasks → HeadTouched p touched (tasks ++ new ∷ [])
one_more p touched [] new is had = untouched_head p touched (new ∷ []) (is, tt)
one_more p touched (task ∷ _) new is had = had

fewer : (p : Place) (touched : Bool) (keep : Task → Bool) (s : Sizes) (tasks : List Task) → IsQueue s tasks → HeadTouched p touched tasks → HeadTouched p touched (filter keep tasks)
fewer p touched keep s [] queue had = tt
fewer p touched keep s (task ∷ others) queue had = elim (keep task) as (λ b. HeadTouched p touched (cond b (task ∷ filter keep others) (filter keep others))) [
  | true ↦ had
  | false ↦ untouched_head p touched (filter keep others) (all_fewer IsUntouched keep others queue.others_wait)
]

-- after the host's bytes
host_touched : (s : Sizes) (on : Bool) (tasks : List Task) (p : Place) (before : Bool) (bytes : List ℕ) → HeadTouched p before tasks
    → HeadTouched p (takes_data s on tasks p (Host bytes) || before) (tasks_changed s on tasks (Host bytes))
host_touched s on tasks p before bytes had = by_reply (reply_of s on tasks bytes)
  where
    by_cdb : (r : Result Cdb CdbFault) → HeadTouched p before (with_command tasks (upiu_at bytes) r)
    by_cdb (Ok command) = one_more p before tasks (task_of (upiu_at bytes) command) (record { asked = refl; come = refl; sent = refl }) had
    by_cdb (Err fault) = had

    by_head : (ts : List Task) → HeadTouched p (head_covers p ts || before) (change_head (with_data (upiu_at bytes).segment) ts)
    by_head [] = tt
    by_head (task ∷ others) = λ some covered. ap (λ (b : Bool). b || before) covered

    by_kind : (k : Kind) → HeadTouched p (data_for k p tasks || before) (after_kept s tasks (upiu_at bytes) k)
    by_kind Command = by_cdb (command_of s (upiu_at bytes).cdb)
    by_kind DataOut = by_head tasks
    by_kind _ = had

    by_reply : (r : Option Upiu) → HeadTouched p ((is_none r && data_for (upiu_at bytes).kind p tasks) || before) (after_reply s tasks (upiu_at bytes) r)
    by_reply (Some v) = had
    by_reply None = by_kind (upiu_at bytes).kind

device_touched : (kind : Kind) (s : Sizes) (v : Upiu) (tasks : List Task) (p : Place) (before : Bool) → IsQueue s tasks → HeadTouched p before tasks → HeadTouched p before (after_sent v kind tasks)
device_touched Response s v tasks p before queue had = fewer p before (λ (t : Task). not (has_tag v.tag t)) s tasks queue had
device_touched DataIn s v [] p before queue had = tt
device_touched DataIn s v (task ∷ others) p before queue had = elim (has_tag v.tag task) as (λ b. HeadTouched p before ((if b then with_sent v.count task else task) ∷ others)) [
  | true ↦ had
  | false ↦ had
]
device_touched ReadyToTransfer s v [] p before queue had = tt
device_touched ReadyToTransfer s v (task ∷ others) p before queue had = elim (has_tag v.tag task) as (λ b. HeadTouched p before ((if b then with_asked (v.first + v.count) task else task) ∷ others)) [
  | true ↦ had
  | false ↦ had
]
device_touched _ s v tasks p before queue had = had

-- a write for which data have come took DATA OUT
pub come_touched : (s : Sizes) (p : Place) (e : History) → HeadTouched p (is_touched s e p) (tasks_after s e)
come_touched s p [] = tt
come_touched s p (Host bytes ∷ e) = host_touched s (on_after e) (tasks_after s e) p (is_touched s e p) bytes (come_touched s p e)
come_touched s p (Device bytes ∷ e) = device_touched (upiu_at bytes).kind s (upiu_at bytes) (tasks_after s e) p (is_touched s e p) (queue_after s e) (come_touched s p e)
come_touched s p (Gone tag ∷ e) = fewer p (is_touched s e p) (λ (t : Task). not (has_tag tag t)) s (tasks_after s e) (queue_after s e) (come_touched s p e)
come_touched s p (Reset ∷ e) = tt
come_touched s p (_ ∷ e) = come_touched s p e

-- the entry of a place is told
pub entry_told : (s : Sizes) (pages : ℕ) (had : Place → Bool) (kept : Kept) (page_of : Place → Option ℕ) (e : History) (p : Place) → IsPlace s.luns s.units p
    → ArePages pages page_of → HasPages s had kept page_of e → TellsPage pages (had p) (is_settled s e p) (is_touched s e p) (entry_at page_of p)
entry_told s pages had kept page_of e p place are has = by_page (page_of p) refl (had p) (is_settled s e p) (is_touched s e p) (has.there p place) (has.absent p place)
  where
    by_page : (o : Option ℕ) → page_of p ≡ o → (a b c : Bool)
        → ((a || (b || is_programmed kept.programmed kept.tasks p)) ≡ true → is_some (page_of p) ≡ true) → ((a || c) ≡ false → page_of p ≡ None)
        → TellsPage pages a b c (entry_at page_of p)
    by_page (Some x) is a b c there absent =
        subst (λ (o : Option ℕ). TellsPage pages a b c (unwrap_or o no_page)) (sym is) (with_page a b c x (are p x is) (λ none. no_page_there x (sym is ∙ absent none)))
      where
        no_page_there : (x : ℕ) → Some x ≡ None → ⊥
        no_page_there x is = cc

        with_page : (a b c : Bool) (x : ℕ) → x < pages → ((a || c) ≡ false → ⊥) → TellsPage pages a b c x
        with_page true b c x below other = below
        with_page false true c x below other = below
        with_page false false true x below other = inl below
        with_page false false false x below other = absurd (other refl)
    by_page None is a b c there absent =
        subst (λ (o : Option ℕ). TellsPage pages a b c (unwrap_or o no_page)) (sym is) (without_page a b c (λ one. false≢true (sym (ap is_some is) ∙ there one)))
      where
        without_page : (a b c : Bool) → ((a || (b || is_programmed kept.programmed kept.tasks p)) ≡ true → ⊥) → TellsPage pages a b c no_page
        without_page true b c other = absurd (other refl)
        without_page false true c other = absurd (other refl)
        without_page false false true other = inr refl
        without_page false false false other = refl

-- an event that lists the entries of the chip
pub told_listed : (s : Sizes) (pages : ℕ) (had : Place → Bool) (kept : Kept) (page_of : Place → Option ℕ) (e : History) (x : Event)
    → ((p : Place) (y : ℕ) → listed s (tasks_after s e) x p ≡ Some y → IsPlace s.luns s.units p × (y ≡ entry_at page_of p))
    → ArePages pages page_of → HasPages s had kept page_of e → Told s pages had e → Told s pages had (e ▹ x)
told_listed s pages had kept page_of e x lists are has told = (told, λ p. by_entry p (listed s (tasks_after s e) x p) refl)
  where
    by_entry : (p : Place) (o : Option ℕ) → listed s (tasks_after s e) x p ≡ o → TellsEntry s pages had e p o
    by_entry p None is = tt
    by_entry p (Some y) is =
        let entry = lists p y is in
        subst (TellsPage pages (had p) (is_settled s e p) (is_touched s e p)) (sym entry.1) (entry_told s pages had kept page_of e p entry.0 are has)

-- an event that lists nothing
pub told_more : (s : Sizes) (pages : ℕ) (had : Place → Bool) (e : History) (x : Event) → ((p : Place) → listed s (tasks_after s e) x p ≡ None)
    → Told s pages had e → Told s pages had (e ▹ x)
told_more s pages had e x none told = (told, λ p. subst (TellsEntry s pages had e p) (sym (none p)) tt)

pub told_reset : (s : Sizes) (pages : ℕ) (had : Place → Bool) (e : History) → Told s pages had e → Told s pages had (e ▹ Reset)
told_reset s pages had e told = (told, λ p. tt)

pub told_failed : (s : Sizes) (pages : ℕ) (had : Place → Bool) (e : History) (op : ChipOp) → Told s pages had e → Told s pages had (e ▹ Failed op)
told_failed s pages had e op told = (told, λ p. tt)

pub told_moved : (s : Sizes) (pages : ℕ) (had : Place → Bool) (e : History) (lun lba : ℕ) → Told s pages had e → Told s pages had (e ▹ Moved lun lba)
told_moved s pages had e lun lba told = (told, λ p. tt)
