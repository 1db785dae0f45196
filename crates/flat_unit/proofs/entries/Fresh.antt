-- Fresh entries are the pages of their places, after one more event and after one more page.
use Rattle.std.proofs.Common.{◌≡◌, ℕ, ◌+◌, ◌<◌, Bool, true, false, not, cond, ◌&&◌, ◌||◌, List, [], ◌∷◌, ◌++◌, length}
use Rattle.std.proofs.Common.{filter, Option, Some, None, Result, Ok, Err, refl, sym, ◌∙◌, ap, subst, arith, ◌==◌}
use Rattle.std.specs.Prelude.{if◌then◌else◌, is_none}
use Rattle.std.specs.List.{AllByRecursion}
use Rattle.std.proofs.lemmas.Bool.{false≢true}
use Rattle.std.proofs.lemmas.Bool.Decides.{nat_tests}
use Rattle.flash_pages.specs.declared.chip.ChipOp.{ChipOp}
use Rattle.flash_pages.specs.Place.{Place, IsPlace}
use Rattle.hpb_cdb.specs.declared.cdb.Cdb.{Cdb}
use Rattle.hpb_cdb.specs.declared.cdb.Cdb.TheVariants.{Write, ReadBuffer}
use Rattle.hpb_cdb.specs.declared.fault.CdbFault.{CdbFault}
use Rattle.upiu_wire.specs.declared.kind.Kind.{Kind}
use Rattle.upiu_wire.specs.declared.kind.Kind.TheVariants.{Command, DataOut, Response, DataIn, ReadyToTransfer}
use Rattle.upiu_wire.specs.Upiu.{Upiu, upiu_at}
use Rattle.flat_unit.specs.declared.event.Event.{Event}
use Rattle.flat_unit.specs.declared.event.Event.TheVariants.{Host, Device, Reset, Moved, Failed, Gone}
use Rattle.flat_unit.specs.Command.{command_of}
use Rattle.flat_unit.specs.Contents.{is_among, is_same}
use Rattle.flat_unit.specs.Entries.{is_entry, is_fresh, listed, listed_by, listed_in, no_page, spoils, was_listed}
use Rattle.flat_unit.specs.History.{History, ◌▹◌}
use Rattle.flat_unit.specs.Pages.{HeadUnlisted, KeepsFresh}
use Rattle.flat_unit.specs.Queue.{after_kept, after_reply, after_sent, change_head, on_after, task_of, tasks_after, tasks_changed, with_asked, with_command, with_data, with_sent}
use Rattle.flat_unit.specs.Reply.{has_tag, reply_of}
use Rattle.flat_unit.specs.Sizes.{Sizes}
use Rattle.flat_unit.specs.Task.{Task}
use Rattle.flat_unit.specs.Tasks.{IsQueue, IsUntouched}
use Rattle.flat_unit.specs.Writes.{data_for, head_covers, is_written_by, takes_data}
use Rattle.flat_unit.proofs.entries.Pages.{with_page}
use Rattle.flat_unit.proofs.queue.Tasks.{all_fewer, queue_after}
use Rattle.flat_unit.proofs.standing.OneCall.{same_place}

-- what was listed before an event that spoils nothing more
unlisted_less : (keep before : Bool) → before ≡ false → (keep && before) ≡ false
unlisted_less true before is = is
unlisted_less false before is = refl

less : (p : Place) (keep before : Bool) (tasks : List Task) → HeadUnlisted p before tasks → HeadUnlisted p (keep && before) tasks
less p keep before [] had = tt
less p keep before (task ∷ _) had = λ some covered. unlisted_less keep before (had some covered)

untouched_head : (p : Place) (was : Bool) (tasks : List Task) → AllByRecursion IsUntouched tasks → HeadUnlisted p was tasks
untouched_head p was [] all = tt
untouched_head p was (task ∷ _) all = λ some covered. absurd (let e : length task.come ≡ 0 = ap length all.0.come in omega arith)

one_more : (p : Place) (was : Bool) (tasks : List Task) (new : Task) → IsUntouched new → HeadUnlisted p was tasks → HeadUnlisted p was (tasks ++ new ∷ [])
one_more p was [] new is had = untouched_head p was (new ∷ []) (is, tt)
one_more p was (task ∷ _) new is had = had

fewer : (p : Place) (was : Bool) (keep : Task → Bool) (s : Sizes) (tasks : List Task) → IsQueue s tasks → HeadUnlisted p was tasks → HeadUnlisted p was (filter keep tasks)
fewer p was keep s [] queue had = tt
fewer p was keep s (task ∷ others) queue had = elim (keep task) as (λ b. HeadUnlisted p was (cond b (task ∷ filter keep others) (filter keep others))) [
  | true ↦ had
  | false ↦ untouched_head p was (filter keep others) (all_fewer IsUntouched keep others queue.others_wait)
]

-- after the host's bytes
host_unlisted : (s : Sizes) (on : Bool) (tasks : List Task) (p : Place) (before : Bool) (bytes : List ℕ) → HeadUnlisted p before tasks
    → HeadUnlisted p (not (takes_data s on tasks p (Host bytes)) && before) (tasks_changed s on tasks (Host bytes))
host_unlisted s on tasks p before bytes had = by_reply (reply_of s on tasks bytes)
  where
    by_cdb : (r : Result Cdb CdbFault) → HeadUnlisted p before (with_command tasks (upiu_at bytes) r)
    by_cdb (Ok command) = one_more p before tasks (task_of (upiu_at bytes) command) (record { asked = refl; come = refl; sent = refl }) had
    by_cdb (Err fault) = had

    by_head : (ts : List Task) → HeadUnlisted p (not (head_covers p ts) && before) (change_head (with_data (upiu_at bytes).segment) ts)
    by_head [] = tt
    by_head (task ∷ others) = λ some covered. ap (λ (b : Bool). not b && before) covered

    by_kind : (k : Kind) → HeadUnlisted p (not (data_for k p tasks) && before) (after_kept s tasks (upiu_at bytes) k)
    by_kind Command = by_cdb (command_of s (upiu_at bytes).cdb)
    by_kind DataOut = by_head tasks
    by_kind _ = had

    by_reply : (r : Option Upiu) → HeadUnlisted p (not (is_none r && data_for (upiu_at bytes).kind p tasks) && before) (after_reply s tasks (upiu_at bytes) r)
    by_reply (Some v) = had
    by_reply None = by_kind (upiu_at bytes).kind

-- a write lists nothing
write_lists_none : (s : Sizes) (task : Task) (command : Cdb) (piece : List ℕ) (p : Place) → is_written_by p task command ≡ true → listed_by s task command piece p ≡ None
write_lists_none s task (ReadBuffer region sub len) piece p is = absurd (false≢true is)
write_lists_none s task _ piece p is = refl

device_unlisted : (kind : Kind) (s : Sizes) (v : Upiu) (tasks : List Task) (p : Place) (x : ℕ) (before : Bool) → IsQueue s tasks → HeadUnlisted p before tasks
    → HeadUnlisted p (is_entry x (listed_in s tasks v kind p) || before) (after_sent v kind tasks)
device_unlisted DataIn s v [] p x before queue had = tt
device_unlisted DataIn s v (task ∷ others) p x before queue had =
    elim (has_tag v.tag task) as (λ b. HeadUnlisted p (is_entry x (if b then listed_by s task task.command v.segment p else None) || before) ((if b then with_sent v.count task else task) ∷ others)) [
      | true ↦ λ some covered. ap (λ (o : Option ℕ). is_entry x o || before) (write_lists_none s task task.command v.segment p covered) ∙ had some covered
      | false ↦ had
    ]
device_unlisted Response s v [] p x before queue had = tt
device_unlisted Response s v (task ∷ others) p x before queue had = fewer p before (λ (t : Task). not (has_tag v.tag t)) s (task ∷ others) queue had
device_unlisted ReadyToTransfer s v [] p x before queue had = tt
device_unlisted ReadyToTransfer s v (task ∷ others) p x before queue had =
    elim (has_tag v.tag task) as (λ b. HeadUnlisted p before ((if b then with_asked (v.first + v.count) task else task) ∷ others)) [
      | true ↦ had
      | false ↦ had
    ]
device_unlisted _ s v [] p x before queue had = tt
device_unlisted _ s v (task ∷ others) p x before queue had = had

-- no entry of a place is listed since data came for a write that covers it
pub come_unlisted : (s : Sizes) (p : Place) (x : ℕ) (e : History) → HeadUnlisted p (was_listed s e p x) (tasks_after s e)
come_unlisted s p x [] = tt
come_unlisted s p x (Host bytes ∷ e) = host_unlisted s (on_after e) (tasks_after s e) p (was_listed s e p x) bytes (come_unlisted s p x e)
come_unlisted s p x (Device bytes ∷ e) = device_unlisted (upiu_at bytes).kind s (upiu_at bytes) (tasks_after s e) p x (was_listed s e p x) (queue_after s e) (come_unlisted s p x e)
come_unlisted s p x (Gone tag ∷ e) = fewer p (was_listed s e p x) (λ (t : Task). not (has_tag tag t)) s (tasks_after s e) (queue_after s e) (come_unlisted s p x e)
come_unlisted s p x (Reset ∷ e) = tt
come_unlisted s p x (Moved lun lba ∷ e) = less p _ (was_listed s e p x) (tasks_after s e) (come_unlisted s p x e)
come_unlisted s p x (_ ∷ e) = come_unlisted s p x e

both_hold : (a b : Bool) → (a && b) ≡ true → b ≡ true
both_hold true b is = is
both_hold false b is = absurd (false≢true is)

first_holds : (a b : Bool) → (a && b) ≡ true → a ≡ true
first_holds true b is = refl
first_holds false b is = is

-- an event that moves no page: what it lists are the chip's pages
pub fresh_event : (s : Sizes) (page_of : Place → Option ℕ) (e : History) (ev : Event)
    → ((p : Place) (x : ℕ) → IsPlace s.luns s.units p → not (x == no_page) ≡ true → is_entry x (listed s (tasks_after s e) ev p) ≡ true → page_of p ≡ Some x)
    → KeepsFresh s page_of e → KeepsFresh s page_of (e ▹ ev)
fresh_event s page_of e ev lists keeps p x place fresh =
    by_entry (is_entry x (listed s (tasks_after s e) ev p)) refl (not (spoils s (on_after e) (tasks_after s e) p ev)) (both_hold (not (x == no_page)) _ fresh)
  where
    kept : not (x == no_page) ≡ true → was_listed s e p x ≡ true → page_of p ≡ Some x
    kept real was = keeps p x place (ap (λ (b : Bool). b && was_listed s e p x) real ∙ was)

    by_entry : (a : Bool) → is_entry x (listed s (tasks_after s e) ev p) ≡ a → (b : Bool) → (a || (b && was_listed s e p x)) ≡ true → page_of p ≡ Some x
    by_entry true is b one = lists p x place (first_holds (not (x == no_page)) _ fresh) is
    by_entry false is b one = kept (first_holds (not (x == no_page)) _ fresh) (both_hold b (was_listed s e p x) one)

-- a reset and a failed call leave each entry as fresh as it was, and collection spoils those of the place that it moves
pub is_fresh-reset : (s : Sizes) (e : History) (p : Place) (x : ℕ) → is_fresh s (e ▹ Reset) p x ≡ is_fresh s e p x
is_fresh-reset s e p x = refl

pub is_fresh-failed : (s : Sizes) (e : History) (op : ChipOp) (p : Place) (x : ℕ) → is_fresh s (e ▹ Failed op) p x ≡ is_fresh s e p x
is_fresh-failed s e op p x = refl

pub is_fresh-moved : (s : Sizes) (e : History) (lun lba : ℕ) (p : Place) (x : ℕ)
    → is_fresh s (e ▹ Moved lun lba) p x ≡ (not (is_same (record { lun = lun; lba = lba }) p) && is_fresh s e p x)
is_fresh-moved s e lun lba p x = swapped (not (x == no_page)) (not (is_same (record { lun = lun; lba = lba }) p)) (was_listed s e p x)
  where
    swapped : (a b c : Bool) → (a && (b && c)) ≡ (b && (a && c))
    swapped true b c = refl
    swapped false true c = refl
    swapped false false c = refl

-- a reset, and a failed call
pub fresh_reset : (s : Sizes) (page_of : Place → Option ℕ) (e : History) → KeepsFresh s page_of e → KeepsFresh s page_of (e ▹ Reset)
fresh_reset s page_of e keeps = keeps

pub fresh_failed : (s : Sizes) (page_of : Place → Option ℕ) (e : History) (op : ChipOp) → KeepsFresh s page_of e → KeepsFresh s page_of (e ▹ Failed op)
fresh_failed s page_of e op keeps = keeps

-- pages that are the same ones
pub fresh_along : (s : Sizes) (old new : Place → Option ℕ) (e : History) → ((p : Place) → IsPlace s.luns s.units p → new p ≡ old p)
    → KeepsFresh s old e → KeepsFresh s new e
fresh_along s old new e same keeps p x place fresh = same p place ∙ keeps p x place fresh

-- collection moved a page, and each other place has the page that it had
pub fresh_collected : (s : Sizes) (old new : Place → Option ℕ) (e : History) (lun lba : ℕ)
    → ((p : Place) → IsPlace s.luns s.units p → is_same (record { lun = lun; lba = lba }) p ≡ false → new p ≡ old p)
    → KeepsFresh s old e → KeepsFresh s new (e ▹ Moved lun lba)
fresh_collected s old new e lun lba same keeps p x place fresh =
    by_same (is_same (record { lun = lun; lba = lba }) p) refl (sym (is_fresh-moved s e lun lba p x) ∙ fresh)
  where
    by_same : (b : Bool) → is_same (record { lun = lun; lba = lba }) p ≡ b → (not b && is_fresh s e p x) ≡ true → new p ≡ Some x
    by_same true is one = absurd (false≢true one)
    by_same false is one = same p place is ∙ keeps p x place one

-- a page that collection moved is no more the one that was listed
pub fresh_moved : (s : Sizes) (page_of : Place → Option ℕ) (e : History) (place : Place) (page : ℕ) → KeepsFresh s page_of e
    → KeepsFresh s (with_page place page page_of) (e ▹ Moved place.lun place.lba)
fresh_moved s page_of e place page keeps p x is_place fresh =
    by_same (is_same place p) (not (x == no_page)) refl refl fresh
  where
    by_same : (b real : Bool) → is_same place p ≡ b → not (x == no_page) ≡ real → (real && (not b && was_listed s e p x)) ≡ true → (if b then Some page else page_of p) ≡ Some x
    by_same true true same is one = absurd (false≢true one)
    by_same true false same is one = absurd (false≢true one)
    by_same false true same is one = keeps p x is_place (ap (λ (b : Bool). b && was_listed s e p x) is ∙ one)
    by_same false false same is one = absurd (false≢true one)

-- a block of the first task is programmed, and no entry of its place was fresh
pub fresh_programmed : (s : Sizes) (page_of : Place → Option ℕ) (e : History) (task : Task) (others : List Task) (lba n k page : ℕ)
    → task.command ≡ Write lba n → k < n → 0 < length task.come → tasks_after s e ≡ task ∷ others
    → KeepsFresh s page_of e → KeepsFresh s (with_page (record { lun = task.lun; lba = lba + k }) page page_of) e
fresh_programmed s page_of e task others lba n k page is more come keeps had p x is_place fresh =
    by_same (is_same (record { lun = task.lun; lba = lba + k }) p) refl
  where
    here : is_among task.lun lba n (record { lun = task.lun; lba = lba + k }) ≡ true
    here = grind (arith, nat_tests)

    unlisted : was_listed s e (record { lun = task.lun; lba = lba + k }) x ≡ false
    unlisted = subst (λ (ts : List Task). HeadUnlisted (record { lun = task.lun; lba = lba + k }) (was_listed s e (record { lun = task.lun; lba = lba + k }) x) ts) keeps
        (come_unlisted s (record { lun = task.lun; lba = lba + k }) x e) come
        (ap (is_written_by (record { lun = task.lun; lba = lba + k }) task) is ∙ here)

    by_same : (b : Bool) → is_same (record { lun = task.lun; lba = lba + k }) p ≡ b → (if b then Some page else page_of p) ≡ Some x
    by_same false same = had p x is_place fresh
    by_same true same =
        let q : record { lun = task.lun; lba = lba + k } ≡ p = same_place (record { lun = task.lun; lba = lba + k }) p same in
        absurd (false≢true (sym (subst (λ (r : Place). was_listed s e r x ≡ false) q unlisted) ∙ both_hold (not (x == no_page)) (was_listed s e p x) fresh))
