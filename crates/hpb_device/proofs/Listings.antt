-- The chip of a device has the pages of its history, and what it lists tells of them, after each call.
use Rattle.std.proofs.Common.{◌≡◌, ◌⊎◌, ℕ, ◌+◌, ◌-◌, ◌*◌, ◌/◌, ◌%◌, ◌^◌, ◌<◌, ◌≤◌, ◌==◌, Bool, true, false, ◌||◌, List}
use Rattle.std.proofs.Common.{[], ◌∷◌, ◌++◌, filter, length, length-take, map, take, min, Option, Some, None, refl, sym}
use Rattle.std.proofs.Common.{◌∙◌, ap, subst, arith, inl, inr}
use Rattle.std.specs.Prelude.{if◌then◌else◌, is_some, slice_range, slice_set, unwrap_or}
use Rattle.std.specs.List.{AllByRecursion}
use Rattle.std.proofs.lemmas.Bool.{false≢true}
use Rattle.std.proofs.lemmas.Bool.Decides.{nat_tests}
use Rattle.flash_pages.specs.declared.chip.Geometry.{Geometry}
use Rattle.flash_pages.specs.declared.chip.Spare.{Spare}
use Rattle.flash_pages.specs.Chip.{Page, Written}
use Rattle.flash_pages.specs.Place.{Place, IsPlace}
use Rattle.flash_pages.specs.Unit.{current, next_seq}
use Rattle.flash_pages.proofs.Programming.{current-inside, current-others, current-programmed}
use Rattle.flash_store.specs.Entries.{entry_for}
use Rattle.collector_laws.specs.Changes.{ProgramsBlock}
use Rattle.flash_store.specs.Store.{StoreState}
use Rattle.hpb_cdb.specs.declared.cdb.Cdb.{Cdb}
use Rattle.hpb_cdb.specs.declared.cdb.Cdb.TheVariants.{Write, ReadBuffer}
use Rattle.hpb_cdb.specs.declared.limits.Limits.{Limits}
use Rattle.upiu_wire.specs.declared.kind.Kind.TheVariants.{DataIn, ReadyToTransfer}
use Rattle.upiu_wire.specs.Upiu.{Upiu, upiu_at, upiu_out}
use Rattle.upiu_wire.specs.Written.{data_upiu, transfer_upiu}
use Rattle.flat_unit.specs.declared.event.Event.{Event}
use Rattle.flat_unit.specs.declared.event.Event.TheVariants.{Device, Host, Failed as CallFailed}
use Rattle.flat_unit.specs.Contents.{is_among, is_same, leaving}
use Rattle.flat_unit.specs.Entries.{Told, entries_from, first_block as first_block_of, is_entry, listed, listed_by}
use Rattle.flat_unit.specs.History.{History, ◌▹◌, followed_by}
use Rattle.flat_unit.specs.Pages.{HasPages, entry_at}
use Rattle.flat_unit.specs.Queue.{after_reply, on_after, tasks_after}
use Rattle.flat_unit.specs.Replays.{events_of}
use Rattle.flat_unit.specs.Reply.{has_tag, reply_of}
use Rattle.flat_unit.specs.Sizes.{Sizes}
use Rattle.flat_unit.specs.Stands.{First, Kept, is_programmed, is_programmed_for}
use Rattle.flat_unit.specs.Task.{Task as Waiting}
use Rattle.flat_unit.specs.Tasks.{IsQueue as IsWaitingQueue}
use Rattle.flat_unit.specs.Writes.{is_written_by}
use Rattle.flat_unit.proofs.standing.Sending.{left_with, none_programmed as waiting_none, response_leaves, with_tasks}
use Rattle.flat_unit.proofs.entries.Listed.{listed_entry, listed_within}
use Rattle.flat_unit.proofs.entries.Pages.{bad_settles_none, pages_along, pages_as, pages_good, pages_programmed, pages_stay, settles, with_page}
use Rattle.flat_unit.proofs.queue.Tasks.{queue_after}
use Rattle.flat_unit.proofs.standing.OneCall.{programmed_more, same_place}
use Rattle.flat_unit.proofs.queue.Ends.{out_leaves}
use Rattle.flat_unit.proofs.entries.Told.{told_listed, told_more}
use Rattle.hpb_device.specs.declared.advance.Progress.{Progress}
use Rattle.hpb_device.specs.declared.advance.Progress.TheVariants.{Sends, Silent, Ended, Failed}
use Rattle.flash_pages.specs.declared.chip.ChipOp.{ChipOp}
use Rattle.hpb_device.specs.declared.advance.Transfer.{Transfer}
use Rattle.hpb_device.specs.declared.advance.Transfer.TheVariants.{LookedUp, ByEntry, EntryList, UnitCapacity, Ready}
use Rattle.hpb_device.specs.declared.advance.Internal.TheVariants.{Missed, Programmed, Collected}
use Rattle.hpb_device.specs.declared.device.Stepped.{Stepped}
use Rattle.hpb_device.specs.declared.reply.Cause.{Cause}
use Rattle.hpb_device.specs.declared.reply.Cause.TheVariants.{DataNotAsked, NoNumber}
use Rattle.hpb_device.specs.declared.advance.FailedCall.{FailedCall}
use Rattle.hpb_device.specs.declared.reply.Reply.{Reply}
use Rattle.hpb_device.specs.declared.reply.Reply.TheVariants.{Check, Good}
use Rattle.hpb_device.specs.declared.task.Task.{Task}
use Rattle.hpb_device.specs.Accept.{IsAnswered}
use Rattle.hpb_device.specs.Advance.{Advances, Fails, IsComplete, IsSameStore, Lists, Misses, Programs, Transfers, failure_of, op_of, first_block, first_listed}
use Rattle.hpb_device.specs.Calls.{EndsHead, Keeps, Leaves, TakesData}
use Rattle.hpb_device.specs.Keeps.{KeepsTasks, waiting_of}
use Rattle.hpb_device.specs.Limits.{limits_of}
use Rattle.hpb_device.specs.Listed.{ListingStands, kept_now}
use Rattle.hpb_device.specs.Reply.{reply_upiu, told_upiu}
use Rattle.hpb_device.specs.Standing.{DeviceStands, group_of, kept_of, programmed_of, sizes_of}
use Rattle.hpb_device.specs.State.{DeviceState}
use Rattle.hpb_device.specs.Task.{IsQueue, IsWaiting, bytes_given, bytes_taken}
use Rattle.hpb_device.proofs.Entries.{ListsNone, head_listed, reply_lists_none, sent_lists_none, answer_lists_none}
use Rattle.hpb_device.proofs.Chips.{pages_of}
use Rattle.flat_unit.specs.Command.{is_write}
use Rattle.hpb_device.proofs.Commands.{all_programmed, is_written}
use Rattle.hpb_device.proofs.Leaving.{IsOfTask}
use Rattle.hpb_device.proofs.StepStands.{IsReady, Turn, head_in, none_programmed, others_in, sizes_same, tasks_at}
use Rattle.hpb_device.proofs.Transfers.{transfer_is}

-- the places that are programmed for the first of these tasks
abbrev programmed_at : List Task → Place → Bool
programmed_at tasks p = is_programmed (programmed_of tasks) (map waiting_of tasks) p

for_same : (k : ℕ) (command : Cdb) (t u : Waiting) (p : Place) → t.lun ≡ u.lun → is_programmed_for k t command p ≡ is_programmed_for k u command p
for_same k (Write lba n) t u p lun = ap (λ (l : ℕ). is_among l lba k p) lun
for_same k _ t u p lun = refl

-- what is programmed for a task is told by its unit and its command
same_programmed : (k : ℕ) (t u : Waiting) (ts us : List Waiting) (p : Place) → t.lun ≡ u.lun → t.command ≡ u.command → is_programmed k (t ∷ ts) p ≡ is_programmed k (u ∷ us) p
same_programmed k t u ts us p lun command = for_same k t.command t u p lun ∙ ap (λ (c : Cdb). is_programmed_for k u c p) command

same_head : (a b : Task) (xs ys : List Task) (p : Place) → a.lun ≡ b.lun → a.command ≡ b.command → a.programmed ≡ b.programmed → programmed_at (a ∷ xs) p ≡ programmed_at (b ∷ ys) p
same_head a b xs ys p lun command programmed =
    ap (λ (k : ℕ). is_programmed k (map waiting_of (a ∷ xs)) p) programmed
    ∙ same_programmed b.programmed (waiting_of a) (waiting_of b) (map waiting_of xs) (map waiting_of ys) p lun command

-- nothing is programmed for tasks that wait
waiting_programmed : (luns : ℕ) (lim : Limits) (others : List Task) (p : Place) → AllByRecursion (IsWaiting luns lim) others → programmed_at others p ≡ false
waiting_programmed luns lim others p all =
    ap (λ (k : ℕ). is_programmed k (map waiting_of others) p) (none_programmed luns lim others all) ∙ waiting_none (map waiting_of others) p

data_settles_none : (tasks : List Waiting) (lun tag offset : ℕ) (bytes : List ℕ) (p : Place) → settles p (leaving tasks (Device (upiu_out (data_upiu DataIn lun tag offset bytes)))) ≡ false
data_settles_none tasks lun tag offset bytes p = ap (settles p) (out_leaves tasks (data_upiu DataIn lun tag offset bytes))

transfer_settles_none : (tasks : List Waiting) (lun tag offset count : ℕ) (p : Place) → settles p (leaving tasks (Device (upiu_out (transfer_upiu ReadyToTransfer lun tag offset count)))) ≡ false
transfer_settles_none tasks lun tag offset count p = ap (settles p) (out_leaves tasks (transfer_upiu ReadyToTransfer lun tag offset count))

check_settles_none : (tasks : List Waiting) (lun tag residual : ℕ) (cause : Cause) (p : Place) → settles p (leaving tasks (Device (upiu_out (reply_upiu (Check lun tag residual cause))))) ≡ false
check_settles_none tasks lun tag residual cause p =
    ap (settles p) (out_leaves tasks (reply_upiu (Check lun tag residual cause))) ∙ bad_settles_none p (filter (has_tag tag) tasks)

-- a command that is no write covers no place
not_write : (command : Cdb) → ((p : Place) (task : Waiting) → is_written_by p task command ≡ false) ⊎ ((lba : ℕ) × (n : ℕ) × (command ≡ Write lba n))
not_write (Write lba n) = inr (lba, n, refl)
not_write _ = inl (λ p task. refl)

-- a device with these pages and sizes
pub listings_now : (had : Place → Bool) (pages : ℕ) (d now : DeviceState) (e : History) → IsSameStore d.store now.store → now.shape ≡ d.shape
    → pages ≡ d.store.geometry.blocks * d.store.geometry.pages
    → HasPages (sizes_of d) had (kept_now now) (current now.store.pages) e → Told (sizes_of d) pages had e → ListingStands had pages now e
listings_now had pages d now e same shape whole there told =
    let sized = sizes_same d now same shape in
    record {
      whole = whole ∙ ap (λ (g : Geometry). g.blocks * g.pages) (sym same.geometry);
      pages_there = subst (λ (s : Sizes). HasPages s had (kept_now now) (current now.store.pages) e) sized there;
      told = subst (λ (s : Sizes). Told s pages had e) sized told;
    }

-- an event after which the chip has the same pages, and that no write is answered GOOD by
same_pages : (had : Place → Bool) (pages : ℕ) (d now : DeviceState) (e : History) (x : Event)
    → ((p : Place) → settles p (leaving (tasks_after (sizes_of d) e) x) ≡ false)
    → ((p : Place) → programmed_at now.tasks p ≡ true → programmed_at d.tasks p ≡ true)
    → now.store.pages ≡ d.store.pages → ListingStands had pages d e → HasPages (sizes_of d) had (kept_now now) (current now.store.pages) (e ▹ x)
same_pages had pages d now e x none fewer same stand =
    subst (λ (chip : List Page). HasPages (sizes_of d) had (kept_now now) (current chip) (e ▹ x)) (sym same)
    (pages_stay (sizes_of d) had (kept_now d) (kept_now now) (current d.store.pages) e x none fewer stand.pages_there)

-- an event that changes no page and lists nothing
quiet_listings : (had : Place → Bool) (pages : ℕ) (d now : DeviceState) (e : History) (x : Event)
    → ((p : Place) → settles p (leaving (tasks_after (sizes_of d) e) x) ≡ false) → ListsNone (sizes_of d) e x
    → ((p : Place) → programmed_at now.tasks p ≡ true → programmed_at d.tasks p ≡ true)
    → now.store.pages ≡ d.store.pages → IsSameStore d.store now.store → now.shape ≡ d.shape → ListingStands had pages d e → ListingStands had pages now (e ▹ x)
quiet_listings had pages d now e x none lists fewer same store shape stand =
    listings_now had pages d now (e ▹ x) store shape stand.whole (same_pages had pages d now e x none fewer same stand) (told_more (sizes_of d) pages had e x lists stand.told)

-- the first task goes on, and no more is programmed for it
goes_on : (d now : DeviceState) (task rest : Task) (others : List Task) → d.tasks ≡ task ∷ others → now.tasks ≡ rest ∷ others
    → rest.lun ≡ task.lun → rest.command ≡ task.command → rest.programmed ≡ task.programmed → (p : Place) → programmed_at now.tasks p ≡ true → programmed_at d.tasks p ≡ true
goes_on d now task rest others was head lun command programmed p one =
    ap (λ (ts : List Task). programmed_at ts p) was ∙ sym (same_head rest task others others p lun command programmed) ∙ sym (ap (λ (ts : List Task). programmed_at ts p) head) ∙ one

-- the first task has ended
has_ended : (d now : DeviceState) (luns : ℕ) (lim : Limits) (others : List Task) → AllByRecursion (IsWaiting luns lim) others → now.tasks ≡ others
    → (p : Place) → programmed_at now.tasks p ≡ true → programmed_at d.tasks p ≡ true
has_ended d now luns lim others waiting left p one =
    absurd (false≢true (sym (ap (λ (ts : List Task). programmed_at ts p) left ∙ waiting_programmed luns lim others p waiting) ∙ one))

-- what the first chip had, where nothing is programmed yet and no write took DATA OUT
there_by : (has programmed : Bool) → programmed ≡ false → (has || (false || programmed)) ≡ true → has ≡ true
there_by true programmed none is = refl
there_by false programmed none is = absurd (false≢true (sym none ∙ is))

absent_by : (o : Option ℕ) → (is_some o || false) ≡ false → o ≡ None
absent_by None is = refl
absent_by (Some page) is = absurd (false≢true (sym is))

-- a device without a task stands at no events, over any chip
pub begins_listings : (device : DeviceState) → device.tasks ≡ []
    → ListingStands (λ p. is_some (current device.store.pages p)) (device.store.geometry.blocks * device.store.geometry.pages) device []
begins_listings device none = record {
  whole = refl;
  pages_there = record {
    there = λ p place one. there_by (is_some (current device.store.pages p)) (programmed_at device.tasks p) (ap (λ (ts : List Task). programmed_at ts p) none) one;
    absent = λ p place one. absent_by (current device.store.pages p) one;
  };
  told = tt;
}

same_store : (d now : DeviceState) → now.store ≡ d.store → IsSameStore d.store now.store
same_store d now is = record { geometry = ap (λ (z : StoreState). z.geometry) is; luns = ap (λ (z : StoreState). z.luns) is; units = ap (λ (z : StoreState). z.units) is }

-- a command that is kept has programmed nothing
kept_more : (tasks : List Task) (task : Task) (p : Place) → task.programmed ≡ 0 → programmed_at (tasks ++ task ∷ []) p ≡ true → programmed_at tasks p ≡ true
kept_more [] task p none one =
    absurd (false≢true (sym (ap (λ (k : ℕ). is_programmed k (waiting_of task ∷ []) p) none ∙ waiting_none (waiting_of task ∷ []) p) ∙ one))
kept_more (head ∷ others) task p none one = one

-- the bytes of the host answer nothing and list nothing
host_listings : (had : Place → Bool) (pages : ℕ) (d now : DeviceState) (bytes : List ℕ) (e : History)
    → ((p : Place) → programmed_at now.tasks p ≡ true → programmed_at d.tasks p ≡ true)
    → now.store ≡ d.store → now.shape ≡ d.shape → ListingStands had pages d e → ListingStands had pages now (e ▹ Host bytes)
host_listings had pages d now bytes e fewer store shape stand =
    quiet_listings had pages d now e (Host bytes) (λ p. refl) (λ p. refl) fewer (ap (λ (z : StoreState). z.pages) store) (same_store d now store) shape stand

-- a command that is kept, and data that come
pub kept_listings : (had : Place → Bool) (pages : ℕ) (d now : DeviceState) (bytes : List ℕ) (e : History) → Keeps d now bytes ⊎ TakesData d now (upiu_at bytes).segment
    → now.store ≡ d.store → now.shape ≡ d.shape → ListingStands had pages d e → ListingStands had pages now (e ▹ Host bytes)
kept_listings had pages d now bytes e receives store shape stand =
    host_listings had pages d now bytes e (elim receives [
      | inl keeps ↦ λ p one. kept_more d.tasks keeps.task p (ap (λ (t : Task). t.programmed) keeps.begun.task_is) (sym (ap (λ (ts : List Task). programmed_at ts p) keeps.kept) ∙ one)
      | inr takes ↦ goes_on d now takes.task (record takes.task { come = takes.task.come + length (upiu_at bytes).segment }) takes.others takes.was takes.kept refl refl refl
    ]) store shape stand

-- what is answered at once ends no task
pub answered_listings : (had : Place → Bool) (pages : ℕ) (d : DeviceState) (bytes : List ℕ) (reply : Reply) (out : List ℕ) (first : First) (e : History)
    → ((tasks : List Waiting) → KeepsTasks d.tasks d.held tasks → IsAnswered (sizes_of d) tasks bytes reply) → out ≡ upiu_out (reply_upiu reply)
    → DeviceStands d first e → ListingStands had pages d e → ListingStands had pages d (e ▹ Host bytes ▹ Device out)
answered_listings had pages d bytes reply out first e follows sent at stand =
    let s = sizes_of d in
    let v = reply_upiu reply in
    let answered = follows at.tasks at.keeps in
    let is : reply_of s (on_after e) (tasks_after s e) bytes ≡ Some v =
    ap (λ (on : Bool). reply_of s on (tasks_after s e) bytes) at.stands.switch ∙ ap (λ (ts : List Waiting). reply_of s true ts bytes) at.stands.keeps ∙ answered.answers in
    let stay : tasks_after s (e ▹ Host bytes) ≡ at.tasks = ap (after_reply s (tasks_after s e) (upiu_at bytes)) is ∙ at.stands.keeps in
    let none : (p : Place) → settles p (leaving (tasks_after s (e ▹ Host bytes)) (Device out)) ≡ false =
    λ p. ap (λ (ts : List Waiting). settles p (leaving ts (Device out))) stay ∙ ap (λ (b : List ℕ). settles p (leaving at.tasks (Device b))) sent
    ∙ ap (settles p) (out_leaves at.tasks v ∙ answered.harmless.none_leaves) in
    quiet_listings had pages d d (e ▹ Host bytes) (Device out) none
    (subst (λ (b : List ℕ). ListsNone s (e ▹ Host bytes) (Device b)) (sym sent) (reply_lists_none s (e ▹ Host bytes) reply)) (λ p one. one) refl (same_store d d refl) refl
    (host_listings had pages d d bytes e (λ p one. one) refl refl stand)

-- an answer that ends the first task
pub ending_listings : (had : Place → Bool) (pages : ℕ) (d now : DeviceState) (luns : ℕ) (lim : Limits) (bytes out : List ℕ) (e : History) → IsQueue luns lim d.held d.tasks → EndsHead d now out
    → now.store ≡ d.store → now.shape ≡ d.shape → ListingStands had pages d e → ListingStands had pages now (e ▹ Host bytes ▹ Device out)
ending_listings had pages d now luns lim bytes out e queue ends store shape stand =
    let q = subst (IsQueue luns lim d.held) ends.was queue in
    let s = sizes_of d in
    let answer = Check ends.task.lun ends.task.tag ends.residual DataNotAsked in
    let none : (p : Place) → settles p (leaving (tasks_after s (e ▹ Host bytes)) (Device out)) ≡ false =
    λ p. ap (λ (b : List ℕ). settles p (leaving (tasks_after s (e ▹ Host bytes)) (Device b))) ends.answer
    ∙ check_settles_none (tasks_after s (e ▹ Host bytes)) ends.task.lun ends.task.tag ends.residual DataNotAsked p in
    quiet_listings had pages d now (e ▹ Host bytes) (Device out) none
    (subst (λ (b : List ℕ). ListsNone s (e ▹ Host bytes) (Device b)) (sym ends.answer) (reply_lists_none s (e ▹ Host bytes) answer))
    (has_ended d now luns lim ends.others q.2 ends.ended) (ap (λ (z : StoreState). z.pages) store) (same_store d now store) shape
    (host_listings had pages d d bytes e (λ p one. one) refl refl stand)

-- the pages of a chip on which one more block is programmed
pub current_more : (old new : List Page) (here : Place) (bytes : List ℕ) (program : ProgramsBlock old here bytes new) (p : Place) → current new p ≡ with_page here program.page (current old) p
current_more old new here bytes program p = by_place (is_same here p) refl
  where
    itself : is_same here here ≡ true
    itself = grind (arith, nat_tests)

    spare : Spare
    spare = record { lun = here.lun; lba = here.lba; seq = next_seq old }

    after : List Page
    after = slice_set old program.page (Written bytes spare)

    after_is : (q : Place) → current new q ≡ current after q
    after_is q = ap (λ (chip : List Page). current chip q) program.programmed

    by_place : (b : Bool) → is_same here p ≡ b → current new p ≡ with_page here program.page (current old) p
    by_place true same =
        let q : here ≡ p = same_place here p same in
        after_is p ∙ (ap (current after) (sym q)
        ∙ (current-programmed old program.page bytes spare program.inside refl ∙ sym (ap (λ (b : Bool). if b then Some program.page else current old p) same)))
    by_place false other =
        let apart : ¬ (here ≡ p) = λ q. false≢true (sym other ∙ (ap (is_same here) (sym q) ∙ itself)) in
        after_is p ∙ (current-others old program.page bytes spare program.inside program.erased p apart ∙ sym (ap (λ (b : Bool). if b then Some program.page else current old p) other))

-- a list that begins at a block inside a unit has its blocks inside
inside_unit : (lba start len per units sent size given : ℕ) → start ≤ lba → 8 * (lba - start) + 8 ≤ sent + size → sent + size ≤ given → given ≡ min len (8 * min per (units - start)) → lba < units
inside_unit lba start len per units sent size given from within moved is = omega (arith, from, within, moved, is)

-- an entry is the number of a page, or of none
entry_fits : (chip : List Page) (p : Place) → length chip ≤ 65536 → entry_for chip p < 2 ^ 64
entry_fits chip p few = by_page (current chip p) refl
  where
    by_page : (o : Option ℕ) → current chip p ≡ o → unwrap_or o (2 ^ 64 - 1) < 2 ^ 64
    by_page None is = omega arith
    by_page (Some n) is = let inside = current-inside chip p n is in omega (arith, inside, few)

-- what a step lists are the entries of the places of its unit
lists_entries : (turn : Turn) (rest : Task) (count : ℕ) (out : List ℕ) → Lists (limits_of turn.old.shape) turn.old.store turn.task rest count out → (p : Place) (y : ℕ)
    → listed (sizes_of turn.old) (tasks_after (sizes_of turn.old) turn.history) (Device out) p ≡ Some y
    → IsPlace (sizes_of turn.old).luns (sizes_of turn.old).units p × (y ≡ entry_at (current turn.old.store.pages) p)
lists_entries turn rest count out lists p y is =
    let entry = listed_entry s t region sub len ((count + 7) / 8) count entry_of p y command whole fits one in
    let within = listed_within s t region sub len piece p y command gives in
    let lun : task.lun ≡ p.lun = sym entry.1 in (
      record {
        lun = subst (λ (l : ℕ). l < s.luns) lun ready.ok.accepted.lun;
        lba = inside_unit p.lba (first_block_of s region sub) len s.per_sub s.units task.sent (length piece) task.given within.0 within.1 moved
            (ready.ok.accepted.given ∙ ap (bytes_given (limits_of d.shape)) command);
      },
      entry.0 ∙ ap (λ (l : ℕ). entry_for d.store.pages (record { lun = l; lba = p.lba })) lun,
    )
  where
    d : DeviceState
    d = turn.old

    task : Task
    task = turn.task

    ready : IsReady d task turn.others turn.at.tasks
    ready = turn.ready

    s : Sizes
    s = sizes_of d

    t : Waiting
    t = head_in turn

    region : ℕ
    region = lists.read_buffer.0

    sub : ℕ
    sub = lists.read_buffer.1

    len : ℕ
    len = lists.read_buffer.2

    command : task.command ≡ ReadBuffer region sub len
    command = lists.read_buffer.3

    entry_of : ℕ → ℕ
    entry_of lba = entry_for d.store.pages (record { lun = task.lun; lba = lba })

    piece : List ℕ
    piece = take count (entries_from entry_of (first_block_of s region sub + task.sent / 8) ((count + 7) / 8))

    fits : (lba : ℕ) → entry_of lba < 2 ^ 64
    fits lba = entry_fits d.store.pages (record { lun = task.lun; lba = lba }) turn.few

    short : length piece ≤ count
    short = let most = length-take count (entries_from entry_of (first_block_of s region sub + task.sent / 8) ((count + 7) / 8)) in omega (arith, most)

    moved : task.sent + length piece ≤ task.given
    moved = omega (arith, short, lists.counted, lists.more)

    whole : task.sent % 8 ≡ 0
    whole = elim ready.ok.within.whole_sent [
      | inl part ↦ omega (arith, part)
      | inr all ↦ absurd (omega (arith, all, lists.more))
    ]

    sent : out ≡ upiu_out (data_upiu DataIn task.lun task.tag task.sent piece)
    sent = lists.sent ∙ ap (λ (n : ℕ). upiu_out (data_upiu DataIn task.lun task.tag task.sent (take count (entries_from entry_of (n + task.sent / 8) ((count + 7) / 8)))))
        (ap (first_listed (limits_of d.shape)) command)

    gives : listed_by s t t.command piece p ≡ Some y
    gives = head_listed s turn.history t (others_in turn) piece p y (omega (arith, lists.more, ready.ok.accepted.fits, ready.ok.accepted.expected_fits)) (omega (arith, short, lists.counted))
        (tasks_at turn) (sym (ap (λ (b : List ℕ). listed s (tasks_after s turn.history) (Device b) p) sent) ∙ is)

    one : is_entry y (listed_by s t t.command piece p) ≡ true
    one = let same : (y == y) ≡ true = grind (arith, nat_tests) in ap (is_entry y) gives ∙ same

-- a task that goes on is of the same unit and command, and has as many blocks programmed
record IsSameTask (task rest : Task) : Type 0 where
  lun : rest.lun ≡ task.lun
  command : rest.command ≡ task.command
  programmed : rest.programmed ≡ task.programmed

same_task : (task rest other : Task) → rest ≡ other → IsSameTask task other → IsSameTask task rest
same_task task rest other is same = subst (IsSameTask task) (sym is) same

sent_same : (lim : Limits) (old : StoreState) (what : Transfer) (task rest : Task) (out : List ℕ) → Transfers lim old what task rest out → IsSameTask task rest
sent_same lim old LookedUp task rest out sends = same_task task rest _ sends.task_is (record { lun = refl; command = refl; programmed = refl })
sent_same lim old ByEntry task rest out sends = same_task task rest _ sends.task_is (record { lun = refl; command = refl; programmed = refl })
sent_same lim old EntryList task rest out lists = same_task task rest _ lists.1.task_is (record { lun = refl; command = refl; programmed = refl })
sent_same lim old UnitCapacity task rest out tells = same_task task rest _ tells.task_is (record { lun = refl; command = refl; programmed = refl })
sent_same lim old Ready task rest out asks = same_task task rest _ asks.1.task_is (record { lun = refl; command = refl; programmed = refl })

-- what is sent for a task that goes on answers nothing
sent_settles_none : (lim : Limits) (old : StoreState) (what : Transfer) (task rest : Task) (out : List ℕ) (tasks : List Waiting) → Transfers lim old what task rest out → (p : Place)
    → settles p (leaving tasks (Device out)) ≡ false
sent_settles_none lim old what task rest out tasks sends p = elim (transfer_is lim old what task rest out sends) [
  | inl data_in ↦ ap (λ (b : List ℕ). settles p (leaving tasks (Device b))) data_in.1 ∙ data_settles_none tasks task.lun task.tag task.sent data_in.0 p
  | inr ready ↦ ap (λ (b : List ℕ). settles p (leaving tasks (Device b))) ready.1 ∙ transfer_settles_none tasks task.lun task.tag task.asked ready.0 p
]

-- after a UPIU was sent for a task that goes on
sent_listings : (had : Place → Bool) (pages : ℕ) (turn : Turn) (what : Transfer) (rest : Task) (out : List ℕ) → Transfers (limits_of turn.old.shape) turn.old.store what turn.task rest out
    → turn.new.store.pages ≡ turn.old.store.pages → turn.new.tasks ≡ rest ∷ turn.others → ListingStands had pages turn.old turn.history → ListingStands had pages turn.new (turn.history ▹ Device out)
sent_listings had pages turn what rest out sends same head stand =
    let d = turn.old in
    let e = turn.history in
    let s = sizes_of d in
    let is = sent_same (limits_of d.shape) d.store what turn.task rest out sends in
    let none = sent_settles_none (limits_of d.shape) d.store what turn.task rest out (tasks_after s e) sends in
    let fewer = goes_on d turn.new turn.task rest turn.others turn.was head is.lun is.command is.programmed in
    elim (sent_lists_none turn what rest out sends) [
      | inl lists ↦
          listings_now had pages d turn.new (e ▹ Device out) turn.same turn.shape stand.whole
          (same_pages had pages d turn.new e (Device out) none fewer same stand)
          (told_listed s pages had (kept_now d) (current d.store.pages) e (Device out)
          (lists_entries turn rest lists.0 out lists.1)
          (λ p x is. let inside = current-inside d.store.pages p x is in omega (arith, inside, turn.whole, stand.whole))
          stand.pages_there stand.told)
      | inr quiet ↦ quiet_listings had pages d turn.new e (Device out) none quiet fewer same turn.same turn.shape stand
    ]

-- after a block was programmed
programmed_listings : (had : Place → Bool) (pages : ℕ) (turn : Turn) (rest : Task) (start : ℕ) → Programs turn.old.store turn.new.store turn.old.held turn.task rest start
    → turn.new.tasks ≡ rest ∷ turn.others
    → ListingStands had pages turn.old turn.history → ListingStands had pages turn.new turn.history
programmed_listings had pages turn rest start programs head stand =
    listings_now had pages d now e turn.same turn.shape stand.whole
    (pages_along s had (kept_now now) (with_page here program.page (current d.store.pages)) (current now.store.pages) e (λ p place. current_more d.store.pages now.store.pages here bytes program p)
    (pages_as s had (programmed_more s (t ∷ ws) t lba 0 kept) (kept_now now) (with_page here program.page (current d.store.pages)) e fewer after))
    stand.told
  where
    d : DeviceState
    d = turn.old

    now : DeviceState
    now = turn.new

    task : Task
    task = turn.task

    e : History
    e = turn.history

    s : Sizes
    s = sizes_of d

    t : Waiting
    t = head_in turn

    ws : List Waiting
    ws = others_in turn

    ready : IsReady d task turn.others turn.at.tasks
    ready = turn.ready

    k : ℕ
    k = task.programmed

    write : (lba : ℕ) × (n : ℕ) × (task.command ≡ Write lba n)
    write = is_written task.command programs.write

    lba : ℕ
    lba = write.0

    here : Place
    here = record { lun = task.lun; lba = lba + k }

    bytes : List ℕ
    bytes = slice_range d.held start (start + 4096)

    program : ProgramsBlock d.store.pages here bytes now.store.pages
    program = subst (λ (n : ℕ). let p : Place = record { lun = task.lun; lba = n + k } in ProgramsBlock d.store.pages p bytes now.store.pages) (ap first_block write.2) programs.writes.program

    kept : Kept
    kept = record (kept_of 0 d []) { programmed = k }

    below : k < write.1
    below = let taken : bytes_taken task.command ≡ 4096 * write.1 = ap bytes_taken write.2 in omega (arith, programs.more, ready.ok.within.come, ready.ok.within.asked, taken)

    had_pages : HasPages s had (with_tasks (t ∷ ws) kept) (current d.store.pages) e
    had_pages = pages_as s had (kept_now d) (with_tasks (t ∷ ws) kept) (current d.store.pages) e
        (λ p one. ap (λ (ts : List Task). programmed_at ts p) turn.was ∙ sym (same_programmed k t (waiting_of task) ws ws p refl refl) ∙ one) stand.pages_there

    after : HasPages s had (programmed_more s (t ∷ ws) t lba 0 kept) (with_page here program.page (current d.store.pages)) e
    after = pages_programmed s had kept (current d.store.pages) e t ws lba write.1 0 program.page write.2 below (omega (arith, programs.more, ready.only.counted))
        (tasks_at turn) had_pages

    now_task : Task
    now_task = record task { programmed = k + 1 }

    head_is : now.tasks ≡ now_task ∷ turn.others
    head_is = head ∙ ap (λ (r : Task). r ∷ turn.others) programs.task_is

    fewer : (p : Place) → programmed_at now.tasks p ≡ true → is_programmed (k + 1) (t ∷ ws) p ≡ true
    fewer p one = same_programmed (k + 1) t (waiting_of now_task) ws ws p refl refl ∙ sym (ap (λ (ts : List Task). programmed_at ts p) head_is) ∙ one

-- after the first task was answered GOOD
good_listings : (had : Place → Bool) (pages : ℕ) (turn : Turn) (segment : List ℕ) (residual : ℕ) (out : List ℕ) → IsComplete turn.task
    → out ≡ upiu_out (told_upiu segment (Good turn.task.lun turn.task.tag residual))
    → turn.new.tasks ≡ turn.others
    → turn.new.store.pages ≡ turn.old.store.pages → ListingStands had pages turn.old turn.history → ListingStands had pages turn.new (turn.history ▹ Device out)
good_listings had pages turn segment residual out complete sent left same stand =
    elim (not_write task.command) [
      | inl other ↦
          quiet_listings had pages d now e (Device out) (λ p. ap (settles p) leaves ∙ ap (λ (b : Bool). b || false) (other p t)) lists_none
          (has_ended d now d.store.luns (limits_of d.shape) turn.others turn.ready.waiting left) same turn.same turn.shape stand
      | inr write ↦
          let taken : bytes_taken task.command ≡ 4096 * write.1 = ap bytes_taken write.2 in
          let done = all_programmed task (ap is_write write.2) complete.programmed in
          let all : task.programmed ≡ write.1 = omega (arith, done, complete.come, taken) in
          let good = pages_good s had kept (current d.store.pages) e (Device out) t ws write.0 write.1 write.2 all leaves had_pages in
          let ended = pages_as s had (left_with ws kept) (kept_now now) (current d.store.pages) (e ▹ Device out) fewer good in
          listings_now had pages d now (e ▹ Device out) turn.same turn.shape stand.whole
          (subst (λ (chip : List Page). HasPages s had (kept_now now) (current chip) (e ▹ Device out)) (sym same) ended)
          (told_more s pages had e (Device out) lists_none stand.told)
    ]
  where
    d : DeviceState
    d = turn.old

    now : DeviceState
    now = turn.new

    task : Task
    task = turn.task

    e : History
    e = turn.history

    s : Sizes
    s = sizes_of d

    t : Waiting
    t = head_in turn

    ws : List Waiting
    ws = others_in turn

    kept : Kept
    kept = record (kept_of 0 d []) { programmed = task.programmed }

    v : Upiu
    v = told_upiu segment (Good task.lun task.tag residual)

    tasks_are : tasks_after s e ≡ t ∷ ws
    tasks_are = tasks_at turn

    queue : IsWaitingQueue s (t ∷ ws)
    queue = subst (IsWaitingQueue s) tasks_are (queue_after s e)

    leaves : leaving (tasks_after s e) (Device out) ≡ record { task = t; good = true } ∷ []
    leaves = ap (λ (ts : List Waiting). leaving ts (Device out)) tasks_are ∙ ap (λ (b : List ℕ). leaving (t ∷ ws) (Device b)) sent ∙ out_leaves (t ∷ ws) v
        ∙ response_leaves t ws 0 residual segment queue.apart.0

    lists_none : ListsNone s e (Device out)
    lists_none = subst (λ (b : List ℕ). ListsNone s e (Device b)) (sym sent) (answer_lists_none s e segment (Good task.lun task.tag residual))

    had_pages : HasPages s had (with_tasks (t ∷ ws) kept) (current d.store.pages) e
    had_pages = pages_as s had (kept_now d) (with_tasks (t ∷ ws) kept) (current d.store.pages) e
        (λ p one. ap (λ (ts : List Task). programmed_at ts p) turn.was ∙ sym (same_programmed task.programmed t (waiting_of task) ws ws p refl refl) ∙ one) stand.pages_there

    fewer : (p : Place) → programmed_at now.tasks p ≡ true → is_programmed 0 ws p ≡ true
    fewer p one = absurd (false≢true (sym (ap (λ (ts : List Task). programmed_at ts p) left ∙ waiting_programmed d.store.luns (limits_of d.shape) turn.others p turn.ready.waiting) ∙ one))

-- after the first task was answered with sense
pub cut_listings : (had : Place → Bool) (pages : ℕ) (turn : Turn) (lun tag residual : ℕ) (cause : Cause) (out : List ℕ) (e : History) → out ≡ upiu_out (reply_upiu (Check lun tag residual cause))
    → turn.new.tasks ≡ turn.others → turn.new.store.pages ≡ turn.old.store.pages → ListingStands had pages turn.old e → ListingStands had pages turn.new (e ▹ Device out)
cut_listings had pages turn lun tag residual cause out e sent left same stand =
    let d = turn.old in
    let s = sizes_of d in
    quiet_listings had pages d turn.new e (Device out)
    (λ p. ap (λ (b : List ℕ). settles p (leaving (tasks_after s e) (Device b))) sent ∙ check_settles_none (tasks_after s e) lun tag residual cause p)
    (subst (λ (b : List ℕ). ListsNone s e (Device b)) (sym sent) (reply_lists_none s e (Check lun tag residual cause)))
    (has_ended d turn.new d.store.luns (limits_of d.shape) turn.others turn.ready.waiting left) same turn.same turn.shape stand

-- a call of the chip failed
pub call_failed_listings : (had : Place → Bool) (pages : ℕ) (d : DeviceState) (e : History) (op : ChipOp) → ListingStands had pages d e → ListingStands had pages d (e ▹ CallFailed op)
call_failed_listings had pages d e op stand = quiet_listings had pages d d e (CallFailed op) (λ p. refl) (λ p. refl) (λ p one. one) refl (same_store d d refl) refl stand

-- after an entry was tried in vain
missed_listings : (had : Place → Bool) (pages : ℕ) (turn : Turn) (rest : Task) → Misses turn.task rest → turn.new.store.pages ≡ turn.old.store.pages
    → turn.new.tasks ≡ rest ∷ turn.others
    → ListingStands had pages turn.old turn.history → ListingStands had pages turn.new turn.history
missed_listings had pages turn rest misses same head stand =
    let d = turn.old in
    let is = same_task turn.task rest _ misses.task_is (record { lun = refl; command = refl; programmed = refl }) in
    let fewer = goes_on d turn.new turn.task rest turn.others turn.was head is.lun is.command is.programmed in
    let there = pages_as (sizes_of d) had (kept_now d) (kept_now turn.new) (current d.store.pages) turn.history fewer stand.pages_there in
    listings_now had pages d turn.new turn.history turn.same turn.shape stand.whole
    (subst (λ (chip : List Page). HasPages (sizes_of d) had (kept_now turn.new) (current chip) turn.history) (sym same) there) stand.told

-- after a call of the chip failed
failed_listings : (had : Place → Bool) (pages : ℕ) (turn : Turn) (what : FailedCall) (reply : Reply) (out : List ℕ) → Fails turn.old.store turn.new.store turn.task what reply
    → out ≡ upiu_out (reply_upiu reply)
    → turn.new.tasks ≡ turn.others → turn.new.store.pages ≡ turn.old.store.pages → ListingStands had pages turn.old turn.history
    → ListingStands had pages turn.new (turn.history ▹ CallFailed (op_of what) ▹ Device out)
failed_listings had pages turn what reply out fails sent left same stand =
    let d = turn.old in
    let failed = call_failed_listings had pages d turn.history (op_of what) stand in
    cut_listings had pages turn turn.task.lun turn.task.tag _ (failure_of what) out (turn.history ▹ CallFailed (op_of what)) (sent
    ∙ ap (λ (r : Reply). upiu_out (reply_upiu r)) fails.answer) left same failed

-- what a step leaves
pub stepped_listings : (segment : List ℕ) (had : Place → Bool) (pages : ℕ) (turn : Turn) (progress : Progress) (result : Stepped) (out : List ℕ) → IsOfTask progress
    → Advances (limits_of turn.old.shape) turn.old.store turn.new.store turn.old.held turn.new.held turn.task progress out
    → Leaves progress segment turn.others turn.new.tasks turn.new.held result out → ListingStands had pages turn.old turn.history
    → ListingStands had pages turn.new (followed_by turn.history (events_of (group_of result out)))
stepped_listings segment had pages turn (Sends what rest) result out own advances leaves stand =
    rw (leaves.1) (sent_listings had pages turn what rest out advances.0 (pages_of turn.old.store turn.new.store advances.1) leaves.0 stand)
stepped_listings segment had pages turn (Silent Missed rest) result out own advances leaves stand =
    rw (leaves.1) (missed_listings had pages turn rest advances.0.0 (pages_of turn.old.store turn.new.store advances.0.1) leaves.0 stand)
stepped_listings segment had pages turn (Silent Programmed rest) result out own advances leaves stand =
    rw (leaves.1) (programmed_listings had pages turn rest advances.0.0 advances.0.1 leaves.0 stand)
stepped_listings segment had pages turn (Silent (Collected moved) rest) result out own advances leaves stand = absurd own
stepped_listings segment had pages turn (Ended reply) result out own advances leaves stand =
    let is : (r : Reply) → reply ≡ r → out ≡ upiu_out (told_upiu segment r) = λ r e. leaves.3 ∙ ap (λ (r : Reply). upiu_out (told_upiu segment r)) e in
    let same = pages_of turn.old.store turn.new.store advances.1 in
    rw (leaves.2) (elim advances.0 [
      | inl good ↦ good_listings had pages turn segment _ out good.0 (is _ good.1) leaves.0 same stand
      | inr full ↦ cut_listings had pages turn turn.task.lun turn.task.tag _ NoNumber out turn.history (is _ full.1) leaves.0 same stand
    ])
stepped_listings segment had pages turn (Failed what reply) result out own advances leaves stand =
    rw (leaves.2) (failed_listings had pages turn what reply out advances.0 leaves.3 leaves.0 advances.1 stand)
