-- A device's chip honours what the device has listed, after each call.
use Rattle.std.proofs.Common.{◌≡◌, ◌⊎◌, ℕ, ◌+◌, ◌-◌, ◌*◌, ◌/◌, ◌%◌, ◌^◌, ◌<◌, ◌≤◌, ◌==◌, Bool, true, false, not, ◌&&◌}
use Rattle.std.proofs.Common.{List, [], ◌∷◌, ◌++◌, length, length-take, take, Option, Some, None, refl, sym, ◌∙◌, ap}
use Rattle.std.proofs.Common.{subst, arith, inl, inr}
use Rattle.std.specs.Prelude.{unwrap_or, if◌then◌else◌}
use Rattle.std.specs.Bool.{OnTrue}
use Rattle.std.specs.List.{AllByRecursion}
use Rattle.std.proofs.lemmas.Bool.{false≢true}
use Rattle.std.proofs.lemmas.Bool.Decides.{nat_tests}
use Rattle.flash_pages.specs.Chip.{Page, Written}
use Rattle.flash_pages.specs.declared.chip.Spare.{Spare}
use Rattle.flash_pages.specs.Place.{Place, IsPlace}
use Rattle.flash_pages.specs.Unit.{current, next_seq}
use Rattle.flash_pages.proofs.Programming.{current-inside, current-others, current-programmed}
use Rattle.flash_store.specs.Entries.{IsHonoured, entry_for}
use Rattle.collector_laws.specs.Changes.{ProgramsBlock}
use Rattle.hpb_cdb.specs.declared.cdb.Cdb.{Cdb}
use Rattle.hpb_cdb.specs.declared.cdb.Cdb.TheVariants.{Read, Write, HpbRead, ReadBuffer}
use Rattle.upiu_wire.specs.declared.kind.Kind.TheVariants.{DataIn, ReadyToTransfer}
use Rattle.upiu_wire.specs.Kind.{kind_of}
use Rattle.upiu_wire.specs.Upiu.{upiu_at, upiu_out}
use Rattle.upiu_wire.specs.Written.{data_upiu, transfer_upiu}
use Rattle.flat_unit.specs.declared.event.Event.{Event}
use Rattle.flat_unit.specs.declared.event.Event.TheVariants.{Device, Host, Failed as CallFailed}
use Rattle.flat_unit.specs.Contents.{is_same}
use Rattle.flat_unit.specs.Entries.{entries_from, first_block as first_block_of, is_entry, is_fresh, listed, listed_by, listed_in, no_page, spoils, was_listed}
use Rattle.flat_unit.specs.Reply.{has_tag}
use Rattle.flat_unit.proofs.History.{data-consistent, upiu_at-out}
use Rattle.upiu_wire.specs.Upiu.{Upiu as UpiuValue}
use Rattle.flat_unit.specs.History.{History, ◌▹◌}
use Rattle.flat_unit.specs.Queue.{on_after, tasks_after}
use Rattle.flat_unit.specs.Sizes.{Sizes}
use Rattle.flat_unit.specs.Task.{Task as Waiting}
use Rattle.flat_unit.proofs.entries.Fresh.{fresh_event, fresh_programmed}
use Rattle.flat_unit.proofs.entries.Listed.{listed_entry}
use Rattle.flat_unit.proofs.entries.Pages.{with_page}
use Rattle.flat_unit.proofs.standing.OneCall.{same_place}
use Rattle.hpb_device.specs.declared.reply.Reply.{Reply}
use Rattle.hpb_device.specs.declared.reply.Reply.TheVariants.{NopIn, Reject, Good, TaskSetFull, Check}
use Rattle.hpb_device.specs.declared.task.Task.{Task}
use Rattle.hpb_device.specs.declared.advance.Progress.{Progress}
use Rattle.hpb_device.specs.declared.advance.Progress.TheVariants.{Sends, Silent, Ended, Failed}
use Rattle.hpb_device.specs.declared.advance.Transfer.{Transfer}
use Rattle.hpb_device.specs.declared.advance.Transfer.TheVariants.{LookedUp, ByEntry, EntryList as ListPiece, UnitCapacity, Ready}
use Rattle.hpb_device.specs.declared.advance.Internal.TheVariants.{Missed, Programmed, Collected}
use Rattle.hpb_device.specs.declared.device.Stepped.{Stepped}
use Rattle.hpb_device.specs.Advance.{Advances, Asks, IsSameStore, Lists, Misses, Programs, ReadsBlocks, op_of, SendsBlock, ServesEntry, Transfers, capacity_of, first_block, first_listed, next_place}
use Rattle.hpb_device.specs.Calls.{EndsHead, Keeps, Leaves, TakesData}
use Rattle.hpb_device.specs.Entries.{EntriesStand, FreshHonoured, IsStale, IsStaleAt, TriedStale}
use Rattle.hpb_device.specs.Limits.{limits_of}
use Rattle.hpb_device.specs.Standing.{group_of, sizes_of}
use Rattle.hpb_device.specs.State.{DeviceState}
use Rattle.hpb_device.specs.Task.{IsQueue, IsWaiting, bytes_taken, entry_of, next_entry}
use Rattle.entry_lists.specs.Lists.{EntryList}
use Rattle.hpb_device.specs.Lists.{lists_stepped}
use Rattle.hpb_device.proofs.Commands.{is_written, reads, takes_data, tries_of}
use Rattle.hpb_device.proofs.Chips.{pages_of}
use Rattle.hpb_device.proofs.Leaving.{IsOfTask}
use Rattle.hpb_device.proofs.StepStands.{Turn, head_in, others_in, sizes_same, tasks_at}
use Rattle.flash_store.specs.Store.{StoreState}
use Rattle.flash_pages.specs.Unit.{block_of}
use Rattle.hpb_cdb.specs.declared.limits.Limits.{Limits}
use Rattle.flat_unit.specs.Replays.{events_of}
use Rattle.flat_unit.specs.History.{followed_by}
use Rattle.std.specs.Prelude.{slice_range, slice_set}
use Rattle.hpb_device.specs.Reply.{reply_upiu, told_upiu}
use Rattle.hpb_device.specs.Advance.{Tells}

-- an event that lists nothing
abbrev pub ListsNone : Sizes → History → Event → Type 0
ListsNone s e ev = (p : Place) → listed s (tasks_after s e) ev p ≡ None

pub honoured_stays : (s : Sizes) (chip : List Page) (e : History) (ev : Event) → ListsNone s e ev → FreshHonoured s chip e → FreshHonoured s chip (e ▹ ev)
honoured_stays s chip e ev none keeps = fresh_event s (current chip) e ev (λ p x place real is. absurd (false≢true (sym (ap (is_entry x) (none p)) ∙ is))) keeps

-- an entry that isn't fresh isn't so after an event that lists nothing
stale_place : (s : Sizes) (e : History) (ev : Event) (p : Place) (x : ℕ) → listed s (tasks_after s e) ev p ≡ None → is_fresh s e p x ≡ false → is_fresh s (e ▹ ev) p x ≡ false
stale_place s e ev p x none stale = rw (ap (is_entry x) none) (still (not (x == no_page)) (not (spoils s (on_after e) (tasks_after s e) p ev)) (was_listed s e p x) stale)
  where
    still : (a b c : Bool) → (a && c) ≡ false → (a && (b && c)) ≡ false
    still false b c is = refl
    still true true c is = is
    still true false c is = refl

stale_stays : (s : Sizes) (e : History) (ev : Event) (place : Place) (entry : Option ℕ) → ListsNone s e ev → IsStaleAt s e place entry → IsStaleAt s (e ▹ ev) place entry
stale_stays s e ev place (Some entry) none stale = stale_place s e ev place entry (none _) stale
stale_stays s e ev place None none stale = tt

on_true : (b : Bool) {P Q : Type 0} → (P → Q) → OnTrue b P → OnTrue b Q
on_true true f p = f p
on_true false f p = tt

pub tried_stays : (s : Sizes) (e : History) (ev : Event) (lists : List (Option EntryList)) (tasks : List Task) → ListsNone s e ev → TriedStale s e lists tasks → TriedStale s (e ▹ ev) lists tasks
tried_stays s e ev lists [] none stale = tt
tried_stays s e ev lists (head ∷ others) none stale = on_true head.tried (stale_stays s e ev (next_place head) (next_entry lists head) none) stale

-- what answers the host lists nothing
pub reply_lists_none : (s : Sizes) (e : History) (reply : Reply) → ListsNone s e (Device (upiu_out (reply_upiu reply)))
unfolding upiu_out upiu_at kind_of
reply_lists_none s e reply p = by_tasks (tasks_after s e) reply
  where
    by_tasks : (tasks : List Waiting) (reply : Reply) → listed s tasks (Device (upiu_out (reply_upiu reply))) p ≡ None
    by_tasks [] (NopIn tag) = refl
    by_tasks [] (Reject lun tag reason) = refl
    by_tasks [] (Good lun tag residual) = refl
    by_tasks [] (TaskSetFull lun tag residual) = refl
    by_tasks [] (Check lun tag residual cause) = refl
    by_tasks (task ∷ others) (NopIn tag) = refl
    by_tasks (task ∷ others) (Reject lun tag reason) = refl
    by_tasks (task ∷ others) (Good lun tag residual) = refl
    by_tasks (task ∷ others) (TaskSetFull lun tag residual) = refl
    by_tasks (task ∷ others) (Check lun tag residual cause) = refl

-- nor does GOOD with a hint
pub answer_lists_none : (s : Sizes) (e : History) (segment : List ℕ) (reply : Reply) → ListsNone s e (Device (upiu_out (told_upiu segment reply)))
unfolding upiu_out upiu_at kind_of
answer_lists_none s e segment (Good lun tag residual) p = by_tasks (tasks_after s e)
  where
    by_tasks : (tasks : List Waiting) → listed s tasks (Device (upiu_out (told_upiu segment (Good lun tag residual)))) p ≡ None
    by_tasks [] = refl
    by_tasks (task ∷ others) = refl
answer_lists_none s e segment (NopIn tag) p = reply_lists_none s e (NopIn tag) p
answer_lists_none s e segment (Reject lun tag reason) p = reply_lists_none s e (Reject lun tag reason) p
answer_lists_none s e segment (TaskSetFull lun tag residual) p = reply_lists_none s e (TaskSetFull lun tag residual) p
answer_lists_none s e segment (Check lun tag residual cause) p = reply_lists_none s e (Check lun tag residual cause) p

pub same_lists_none : (s : Sizes) (e : History) (out bytes : List ℕ) → out ≡ bytes → ListsNone s e (Device bytes) → ListsNone s e (Device out)
same_lists_none s e out bytes sent none = subst (λ (b : List ℕ). ListsNone s e (Device b)) (sym sent) none

pub transfer_lists_none : (s : Sizes) (e : History) (lun tag offset count : ℕ) → ListsNone s e (Device (upiu_out (transfer_upiu ReadyToTransfer lun tag offset count)))
unfolding upiu_out upiu_at kind_of
transfer_lists_none s e lun tag offset count p = by_tasks (tasks_after s e)
  where
    by_tasks : (tasks : List Waiting) → listed s tasks (Device (upiu_out (transfer_upiu ReadyToTransfer lun tag offset count))) p ≡ None
    by_tasks [] = refl
    by_tasks (task ∷ others) = refl

-- what a DATA IN of the first task lists
data_listed : (s : Sizes) (e : History) (task : Waiting) (others : List Waiting) (lun tag offset : ℕ) (bytes : List ℕ) (p : Place) → offset < 2 ^ 32 → length bytes < 2 ^ 16
    → tasks_after s e ≡ task ∷ others
    → listed s (tasks_after s e) (Device (upiu_out (data_upiu DataIn lun tag offset bytes))) p ≡ (if has_tag tag task then listed_by s task task.command bytes p else None)
data_listed s e task others lun tag offset bytes p offset_fits bytes_fit is =
    let v = data_upiu DataIn lun tag offset bytes in
    ap (λ (ts : List Waiting). listed s ts (Device (upiu_out v)) p) is
    ∙ ap (λ (u : UpiuValue). listed_in s (task ∷ others) u u.kind p) (upiu_at-out v (data-consistent lun tag offset bytes offset_fits bytes_fit))

either_none : (b : Bool) (o : Option ℕ) → o ≡ None → (if b then o else None) ≡ None
either_none true o is = is
either_none false o is = refl

-- a command that lists no entries
abbrev pub IsNoList : Cdb → Type 0
IsNoList command = (s : Sizes) (task : Waiting) (piece : List ℕ) (p : Place) → listed_by s task command piece p ≡ None

read_is_no_list : (command : Cdb) → ReadsBlocks command → IsNoList command
read_is_no_list (Read lba n) is = λ s task piece p. refl
read_is_no_list (HpbRead lba entry n id) is = λ s task piece p. refl
read_is_no_list _ is = absurd is

data_lists_none : (s : Sizes) (e : History) (task : Waiting) (others : List Waiting) (lun tag offset : ℕ) (bytes : List ℕ) → offset < 2 ^ 32 → length bytes < 2 ^ 16
    → tasks_after s e ≡ task ∷ others → IsNoList task.command
    → ListsNone s e (Device (upiu_out (data_upiu DataIn lun tag offset bytes)))
data_lists_none s e task others lun tag offset bytes offset_fits bytes_fit is none p =
    data_listed s e task others lun tag offset bytes p offset_fits bytes_fit is ∙ either_none (has_tag tag task) (listed_by s task task.command bytes p) (none s task bytes p)

-- an entry is the number of a page, or of none
entry_fits : (chip : List Page) (p : Place) → length chip ≤ 65536 → entry_for chip p < 2 ^ 64
entry_fits chip p few = by_page (current chip p) refl
  where
    by_page : (o : Option ℕ) → current chip p ≡ o → unwrap_or o (2 ^ 64 - 1) < 2 ^ 64
    by_page None is = omega arith
    by_page (Some n) is = let inside = current-inside chip p n is in omega (arith, inside, few)

entry_is_page : (chip : List Page) (p : Place) (x : ℕ) → x ≡ entry_for chip p → not (x == no_page) ≡ true → current chip p ≡ Some x
entry_is_page chip p x is real = by_page (current chip p) refl
  where
    by_page : (o : Option ℕ) → current chip p ≡ o → current chip p ≡ Some x
    by_page (Some n) at = at ∙ ap (λ (y : ℕ). Some y) (sym (is ∙ ap (λ (o : Option ℕ). unwrap_or o (2 ^ 64 - 1)) at))
    by_page None at =
        let none : x ≡ 2 ^ 64 - 1 = is ∙ ap (λ (o : Option ℕ). unwrap_or o (2 ^ 64 - 1)) at in
        let same : (x == no_page) ≡ true = grind (arith, nat_tests, none) in
        absurd (false≢true (sym (ap not same) ∙ real))

-- entries that are sent as they are on the chip are honoured
pub honoured_listed : (s : Sizes) (chip : List Page) (e : History) (task : Waiting) (others : List Waiting) (region sub len count bytes : ℕ) → tasks_after s e ≡ task ∷ others → length chip ≤ 65536
    → task.command ≡ ReadBuffer region sub len → task.sent % 8 ≡ 0 → task.sent < 2 ^ 32
    → length (take bytes (entries_from (λ (lba : ℕ). entry_for chip (record { lun = task.lun; lba = lba })) (first_block_of s region sub + task.sent / 8) count)) < 2 ^ 16
    → FreshHonoured s chip e
    → FreshHonoured s chip (e ▹ Device (upiu_out (data_upiu DataIn task.lun task.tag task.sent
    (take bytes (entries_from (λ (lba : ℕ). entry_for chip (record { lun = task.lun; lba = lba })) (first_block_of s region sub + task.sent / 8) count)))))
honoured_listed s chip e task others region sub len count bytes is few command whole offset_fits bytes_fit keeps =
    fresh_event s (current chip) e (Device (upiu_out (data_upiu DataIn task.lun task.tag task.sent piece))) lists keeps
  where
    entry_at : ℕ → ℕ
    entry_at lba = entry_for chip (record { lun = task.lun; lba = lba })

    piece : List ℕ
    piece = take bytes (entries_from entry_at (first_block_of s region sub + task.sent / 8) count)

    entry_of_none : (b : Bool) (x : ℕ) (o : Option ℕ) → is_entry x (if b then o else None) ≡ true → is_entry x o ≡ true
    entry_of_none true x o at = at
    entry_of_none false x o at = absurd (false≢true at)

    lists : (p : Place) (x : ℕ) → IsPlace s.luns s.units p → not (x == no_page) ≡ true
        → is_entry x (listed s (tasks_after s e) (Device (upiu_out (data_upiu DataIn task.lun task.tag task.sent piece))) p) ≡ true → current chip p ≡ Some x
    lists p x place real at =
        let by = sym (ap (is_entry x) (data_listed s e task others task.lun task.tag task.sent piece p offset_fits bytes_fit is)) ∙ at in
        let entry = listed_entry s task region sub len count bytes entry_at p x command whole (λ lba. entry_fits chip (record { lun = task.lun; lba = lba }) few)
        (entry_of_none (has_tag task.tag task) x (listed_by s task task.command piece p) by) in
        entry_is_page chip p x (entry.0 ∙ ap (λ (lun : ℕ). entry_for chip (record { lun = lun; lba = p.lba })) (sym entry.1)) real

-- a block of the first task is programmed
pub honoured_programmed : (s : Sizes) (old new : List Page) (e : History) (task : Waiting) (others : List Waiting) (lba n k : ℕ) (bytes : List ℕ) → tasks_after s e ≡ task ∷ others
    → task.command ≡ Write lba n → k < n → 0 < length task.come → ProgramsBlock old (record { lun = task.lun; lba = lba + k }) bytes new → FreshHonoured s old e → FreshHonoured s new e
honoured_programmed s old new e task others lba n k bytes is command more come program keeps = λ p x place fresh.
    current_is p (is_same here p) refl ∙ fresh_programmed s (current old) e task others lba n k program.page command more come is keeps p x place fresh
  where
    here : Place
    here = record { lun = task.lun; lba = lba + k }

    itself : is_same here here ≡ true
    itself = grind (arith, nat_tests)

    spare : Spare
    spare = record { lun = task.lun; lba = lba + k; seq = next_seq old }

    after : List Page
    after = slice_set old program.page (Written bytes spare)

    after_is : (p : Place) → current new p ≡ current after p
    after_is p = ap (λ (chip : List Page). current chip p) program.programmed

    current_is : (p : Place) (b : Bool) → is_same here p ≡ b → current new p ≡ with_page here program.page (current old) p
    current_is p true same =
        let q : here ≡ p = same_place here p same in
        after_is p ∙ (ap (current after) (sym q)
        ∙ (current-programmed old program.page bytes spare program.inside refl ∙ sym (ap (λ (b : Bool). if b then Some program.page else current old p) same)))
    current_is p false other =
        let apart : ¬ (here ≡ p) = λ q. false≢true (sym other ∙ (ap (is_same here) (sym q) ∙ itself)) in
        after_is p ∙ (current-others old program.page bytes spare program.inside program.erased p apart ∙ sym (ap (λ (b : Bool). if b then Some program.page else current old p) other))

-- an entry that isn't honoured isn't fresh
pub missed_stale : (s : Sizes) (chip : List Page) (e : History) (place : Place) (entry : ℕ) → FreshHonoured s chip e → IsPlace s.luns s.units place
    → ¬ IsHonoured chip place entry → is_fresh s e place entry ≡ false
missed_stale s chip e place entry keeps inside refused = by_fresh (is_fresh s e place entry) refl
  where
    by_fresh : (b : Bool) → is_fresh s e place entry ≡ b → b ≡ false
    by_fresh false is = refl
    by_fresh true is = absurd (refused (keeps place entry inside is))

-- a device with these sizes
pub entries_now : (d now : DeviceState) (e : History) → IsSameStore d.store now.store → now.shape ≡ d.shape → FreshHonoured (sizes_of d) now.store.pages e
    → TriedStale (sizes_of d) e now.lists now.tasks
    → EntriesStand now e
entries_now d now e same shape fresh tried =
    let sized = sizes_same d now same shape in
    record { fresh = subst (λ (s : Sizes). FreshHonoured s now.store.pages e) sized fresh; tried = subst (λ (s : Sizes). TriedStale s e now.lists now.tasks) sized tried }

-- a task that has no entry to try
untried_task : (s : Sizes) (e : History) (lists : List (Option EntryList)) (task : Task) (others tasks : List Task) → tasks ≡ task ∷ others → next_entry lists task ≡ None → TriedStale s e lists tasks
untried_task s e lists task others tasks is none = rw is (on_any task.tried (subst (IsStaleAt s e (next_place task)) (sym none) tt))
  where
    on_any : (b : Bool) {P : Type 0} → P → OnTrue b P
    on_any true p = p
    on_any false p = tt

pub waiting_untried : (luns : ℕ) (lim : Limits) (s : Sizes) (e : History) (lists : List (Option EntryList)) (others tasks : List Task) → tasks ≡ others
    → AllByRecursion (IsWaiting luns lim) others → TriedStale s e lists tasks
waiting_untried luns lim s e lists [] tasks is all = rw is tt
waiting_untried luns lim s e lists (next ∷ others) tasks is all = rw (is, all.0.none_tried) tt

-- a block that is sent, and the capacity, list nothing
shown_lists_none : (turn : Turn) (rest : Task) (out : List ℕ) → SendsBlock turn.old.store turn.task rest out → ListsNone (sizes_of turn.old) turn.history (Device out)
shown_lists_none turn rest out shows =
    let s = sizes_of turn.old in
    let task = turn.task in
    let block = block_of turn.old.store.pages (next_place task) in
    let ok = turn.ready.ok in
    subst (λ (b : List ℕ). ListsNone s turn.history (Device b)) (sym shows.sent)
    (data_lists_none s turn.history (head_in turn) (others_in turn) task.lun task.tag task.sent block
    (omega (arith, shows.more, ok.accepted.fits, ok.accepted.expected_fits)) (omega (arith, shows.size)) (tasks_at turn) (read_is_no_list task.command shows.reads))

told_lists_none : (turn : Turn) (rest : Task) (out : List ℕ) → Tells turn.old.store.units turn.task rest out → ListsNone (sizes_of turn.old) turn.history (Device out)
told_lists_none turn rest out tells =
    let s = sizes_of turn.old in
    let task = turn.task in
    let size : length (capacity_of turn.old.store.units) < 2 ^ 16 = omega arith in
    subst (λ (b : List ℕ). ListsNone s turn.history (Device b)) (sym tells.sent)
    (data_lists_none s turn.history (head_in turn) (others_in turn) task.lun task.tag task.sent (capacity_of turn.old.store.units)
    (omega (arith, tells.none_sent)) size (tasks_at turn) (subst IsNoList (sym tells.command) (λ s task piece p. refl)))

asked_lists_none : (turn : Turn) (rest : Task) (count : ℕ) (out : List ℕ) → Asks turn.task rest count out → ListsNone (sizes_of turn.old) turn.history (Device out)
asked_lists_none turn rest count out asks =
    subst (λ (b : List ℕ). ListsNone (sizes_of turn.old) turn.history (Device b)) (sym asks.sent)
    (transfer_lists_none (sizes_of turn.old) turn.history turn.task.lun turn.task.tag turn.task.asked count)

-- a transfer that is no list of entries lists nothing
pub sent_lists_none : (turn : Turn) (what : Transfer) (rest : Task) (out : List ℕ) → Transfers (limits_of turn.old.shape) turn.old.store what turn.task rest out
    → ((count : ℕ) × Lists (limits_of turn.old.shape) turn.old.store turn.task rest count out) ⊎ ListsNone (sizes_of turn.old) turn.history (Device out)
sent_lists_none turn LookedUp rest out sends = inr (shown_lists_none turn rest out sends)
sent_lists_none turn ByEntry rest out sends = inr (shown_lists_none turn rest out sends)
sent_lists_none turn ListPiece rest out lists = inl lists
sent_lists_none turn UnitCapacity rest out tells = inr (told_lists_none turn rest out tells)
sent_lists_none turn Ready rest out asks = inr (asked_lists_none turn rest asks.0 out asks.1)

-- entries that are sent are honoured
honoured_sent : (turn : Turn) (rest : Task) (count : ℕ) (out : List ℕ) → Lists (limits_of turn.old.shape) turn.old.store turn.task rest count out
    → FreshHonoured (sizes_of turn.old) turn.old.store.pages turn.history → FreshHonoured (sizes_of turn.old) turn.old.store.pages (turn.history ▹ Device out)
honoured_sent turn rest count out lists fresh =
    let d = turn.old in
    let task = turn.task in
    let e = turn.history in
    let ok = turn.ready.ok in
    let s = sizes_of d in
    let is = lists.read_buffer.3 in
    let entry_at : ℕ → ℕ = λ lba. entry_for d.store.pages (record { lun = task.lun; lba = lba }) in
    let bytes = take count (entries_from entry_at (first_listed (limits_of d.shape) task.command + task.sent / 8) ((count + 7) / 8)) in
    let most = length-take count (entries_from entry_at (first_listed (limits_of d.shape) task.command + task.sent / 8) ((count + 7) / 8)) in
    let few_bytes : length bytes < 2 ^ 16 = omega (arith, most, lists.counted) in
    let whole : task.sent % 8 ≡ 0 = elim ok.within.whole_sent [
      | inl part ↦ omega (arith, part)
      | inr all ↦ absurd (omega (arith, all, lists.more))
    ] in
    let from : first_listed (limits_of d.shape) task.command ≡ first_block_of s lists.read_buffer.0 lists.read_buffer.1 = ap (first_listed (limits_of d.shape)) is in
    let Fresh : ℕ → Type 0 =
    λ n. FreshHonoured s d.store.pages (e ▹ Device (upiu_out (data_upiu DataIn task.lun task.tag task.sent (take count (entries_from entry_at (n + task.sent / 8) ((count + 7) / 8)))))) in
    let Few : ℕ → Type 0 = λ n. length (take count (entries_from entry_at (n + task.sent / 8) ((count + 7) / 8))) < 2 ^ 16 in
    let now_fresh : Fresh (first_listed (limits_of d.shape) task.command) = subst Fresh (sym from)
    (honoured_listed s d.store.pages e (head_in turn) (others_in turn) lists.read_buffer.0 lists.read_buffer.1 lists.read_buffer.2 ((count + 7) / 8) count (tasks_at turn) turn.few is whole
    (omega (arith, lists.more, ok.accepted.fits, ok.accepted.expected_fits)) (subst Few from few_bytes) fresh) in
    rw (lists.sent) now_fresh

-- what is sent tries no entry, and the task that goes on has tried none
untried_sent : (turn : Turn) (what : Transfer) (rest : Task) (out : List ℕ) → Transfers (limits_of turn.old.shape) turn.old.store what turn.task rest out → (s : Sizes) (e : History)
    → (lists : List (Option EntryList)) → TriedStale s e lists (rest ∷ turn.others)
untried_sent turn LookedUp rest out sends s e kept = let untried : rest.tried ≡ false = ap (λ (t : Task). t.tried) sends.task_is in rw untried tt
untried_sent turn ByEntry rest out sends s e kept = let untried : rest.tried ≡ false = ap (λ (t : Task). t.tried) sends.task_is in rw untried tt
untried_sent turn ListPiece rest out lists s e kept =
    let command = ap (λ (t : Task). t.command) lists.1.task_is ∙ lists.1.read_buffer.3 in
    untried_task s e kept rest turn.others (rest ∷ turn.others) refl (ap (λ (c : Cdb). entry_of kept rest.lun c (rest.sent / 4096)) command)
untried_sent turn UnitCapacity rest out tells s e kept =
    let command = ap (λ (t : Task). t.command) tells.task_is ∙ tells.command in
    untried_task s e kept rest turn.others (rest ∷ turn.others) refl (ap (λ (c : Cdb). entry_of kept rest.lun c (rest.sent / 4096)) command)
untried_sent turn Ready rest out asks s e kept =
    let none = (takes_data turn.task.command turn.task.asked asks.1.more).no_entry kept rest.lun (rest.sent / 4096) in
    untried_task s e kept rest turn.others (rest ∷ turn.others) refl (ap (λ (t : Task). entry_of kept rest.lun t.command (rest.sent / 4096)) asks.1.task_is ∙ none)

sent_entries : (turn : Turn) (what : Transfer) (rest : Task) (out : List ℕ) → Transfers (limits_of turn.old.shape) turn.old.store what turn.task rest out
    → turn.new.store.pages ≡ turn.old.store.pages
    → turn.new.tasks ≡ rest ∷ turn.others → EntriesStand turn.old turn.history → EntriesStand turn.new (turn.history ▹ Device out)
sent_entries turn what rest out sends pages head stand =
    let s = sizes_of turn.old in
    let fresh : FreshHonoured s turn.old.store.pages (turn.history ▹ Device out) = elim (sent_lists_none turn what rest out sends) [
      | inl lists ↦ honoured_sent turn rest lists.0 out lists.1 stand.fresh
      | inr none ↦ honoured_stays s turn.old.store.pages turn.history (Device out) none stand.fresh
    ] in
    entries_now turn.old turn.new (turn.history ▹ Device out) turn.same turn.shape (rw pages fresh) (rw head (untried_sent turn what rest out sends s (turn.history ▹ Device out) turn.new.lists))

-- after an entry was tried in vain
missed_entries : (turn : Turn) (rest : Task) (x : ℕ) → Misses turn.task rest → next_entry turn.old.lists turn.task ≡ Some x → turn.new.lists ≡ turn.old.lists
    → ¬ IsHonoured turn.old.store.pages (next_place turn.task) x
    → turn.new.store.pages ≡ turn.old.store.pages → turn.new.tasks ≡ rest ∷ turn.others → EntriesStand turn.old turn.history → EntriesStand turn.new turn.history
missed_entries turn rest x misses entry lists refused pages head stand =
    let d = turn.old in
    let task = turn.task in
    let ready = turn.ready in
    let s = sizes_of d in
    let moves = reads d.store.luns (limits_of d.shape) task ready.ok misses.reads in
    let inside : first_block task.command + task.sent / 4096 < d.shape.units = omega (arith, moves.within, moves.gives, misses.more) in
    let place : IsPlace s.luns s.units (next_place task) = record { lun = ready.ok.accepted.lun; lba = inside } in
    let stale : IsStale s turn.history d.lists task =
    subst (IsStaleAt s turn.history (next_place task)) (sym entry) (missed_stale s d.store.pages turn.history (next_place task) x stand.fresh place refused) in
    let now_task : Task = record task { tried = true } in
    let head_is : turn.new.tasks ≡ now_task ∷ turn.others = head ∙ ap (λ (r : Task). r ∷ turn.others) misses.task_is in
    entries_now d turn.new turn.history turn.same turn.shape (rw pages (stand.fresh)) (rw (lists, head_is) stale)

-- after a block was programmed
programmed_entries : (turn : Turn) (rest : Task) (start : ℕ) → Programs turn.old.store turn.new.store turn.old.held turn.task rest start → turn.new.tasks ≡ rest ∷ turn.others
    → EntriesStand turn.old turn.history → EntriesStand turn.new turn.history
programmed_entries turn rest start programs head stand =
    let d = turn.old in
    let task = turn.task in
    let ready = turn.ready in
    let s = sizes_of d in
    let k = task.programmed in
    let is = is_written task.command programs.write in
    let taken : bytes_taken task.command ≡ 4096 * is.1 = ap bytes_taken is.2 in
    let below : k < is.1 = omega (arith, programs.more, ready.ok.within.come, ready.ok.within.asked, taken) in
    let come : 0 < length ready.only.come = omega (arith, programs.more, ready.only.counted) in
    let bytes = slice_range d.held start (start + 4096) in
    let Programmed : ℕ → Type 0 = λ lba. let p : Place = record { lun = task.lun; lba = lba + k } in ProgramsBlock d.store.pages p bytes turn.new.store.pages in
    let program : Programmed is.0 = subst Programmed (ap first_block is.2) programs.writes.program in
    let fresh = honoured_programmed s d.store.pages turn.new.store.pages turn.history (head_in turn) (others_in turn) is.0 is.1 k bytes (tasks_at turn) is.2 below come program stand.fresh in
    let command : rest.command ≡ Write is.0 is.1 = ap (λ (t : Task). t.command) programs.task_is ∙ is.2 in
    entries_now d turn.new turn.history turn.same turn.shape fresh
    (untried_task s turn.history turn.new.lists rest turn.others turn.new.tasks head (ap (λ (c : Cdb). entry_of turn.new.lists rest.lun c (rest.sent / 4096)) command))

-- after the first task ended
pub ended_entries : (turn : Turn) (out : List ℕ) (e : History) → ListsNone (sizes_of turn.old) e (Device out) → turn.new.store.pages ≡ turn.old.store.pages → turn.new.tasks ≡ turn.others
    → FreshHonoured (sizes_of turn.old) turn.old.store.pages e → EntriesStand turn.new (e ▹ Device out)
ended_entries turn out e none pages left fresh =
    let s = sizes_of turn.old in
    entries_now turn.old turn.new (e ▹ Device out) turn.same turn.shape
    (rw pages (honoured_stays s turn.old.store.pages e (Device out) none fresh))
    (waiting_untried turn.old.store.luns (limits_of turn.old.shape) s (e ▹ Device out) turn.new.lists turn.others turn.new.tasks left turn.ready.waiting)

-- what a step leaves
pub stepped_entries : (segment : List ℕ) (turn : Turn) (progress : Progress) (result : Stepped) (out : List ℕ) → IsOfTask progress
    → Advances (limits_of turn.old.shape) turn.old.store turn.new.store turn.old.held turn.new.held turn.task progress out
    → ServesEntry (next_entry turn.old.lists turn.task) turn.old.store turn.task progress → turn.new.lists ≡ lists_stepped turn.old.lists turn.task turn.old.held progress
    → Leaves progress segment turn.others turn.new.tasks turn.new.held result out → EntriesStand turn.old turn.history
    → EntriesStand turn.new (followed_by turn.history (events_of (group_of result out)))
stepped_entries segment turn (Sends what rest) result out own advances serves lists leaves stand =
    rw (leaves.1) (sent_entries turn what rest out advances.0 (pages_of turn.old.store turn.new.store advances.1) leaves.0 stand)
stepped_entries segment turn (Silent Missed rest) result out own advances serves lists leaves stand =
    let tries = tries_of (next_entry turn.old.lists turn.task) serves.0 turn.task serves.1 in
    rw (leaves.1) (missed_entries turn rest serves.0 advances.0.0 tries.is lists serves.2 (pages_of turn.old.store turn.new.store advances.0.1) leaves.0 stand)
stepped_entries segment turn (Silent Programmed rest) result out own advances serves lists leaves stand = rw (leaves.1) (programmed_entries turn rest advances.0.0 advances.0.1 leaves.0 stand)
stepped_entries segment turn (Silent (Collected moved) rest) result out own advances serves lists leaves stand = absurd own
stepped_entries segment turn (Ended reply) result out own advances serves lists leaves stand =
    rw (leaves.2) (ended_entries turn out turn.history (same_lists_none (sizes_of turn.old) turn.history out _ leaves.3 (answer_lists_none (sizes_of turn.old) turn.history segment reply))
    (pages_of turn.old.store turn.new.store advances.1) leaves.0 stand.fresh)
stepped_entries segment turn (Failed what reply) result out own advances serves lists leaves stand =
    rw (leaves.2) (ended_entries turn out (turn.history ▹ CallFailed (op_of what))
    (same_lists_none (sizes_of turn.old) (turn.history ▹ CallFailed (op_of what)) out _ leaves.3 (reply_lists_none (sizes_of turn.old) (turn.history ▹ CallFailed (op_of what)) reply)) advances.1
    leaves.0
    (honoured_stays (sizes_of turn.old) turn.old.store.pages turn.history (CallFailed (op_of what)) (λ p. refl) stand.fresh))

-- the bytes of the host list nothing
after_host : (d : DeviceState) (bytes : List ℕ) (e : History) → EntriesStand d e → EntriesStand d (e ▹ Host bytes)
after_host d bytes e stand = record {
  fresh = honoured_stays (sizes_of d) d.store.pages e (Host bytes) (λ p. refl) stand.fresh;
  tried = tried_stays (sizes_of d) e (Host bytes) d.lists d.tasks (λ p. refl) stand.tried;
}

after_answer : (d : DeviceState) (out : List ℕ) (e : History) → ListsNone (sizes_of d) e (Device out) → EntriesStand d e → EntriesStand d (e ▹ Device out)
after_answer d out e none stand = record {
  fresh = honoured_stays (sizes_of d) d.store.pages e (Device out) none stand.fresh;
  tried = tried_stays (sizes_of d) e (Device out) d.lists d.tasks none stand.tried;
}

more_tried : (s : Sizes) (e : History) (lists : List (Option EntryList)) (tasks : List Task) (task : Task) → task.tried ≡ false → TriedStale s e lists tasks
    → TriedStale s e lists (tasks ++ task ∷ [])
more_tried s e lists [] task untried stale = rw untried tt
more_tried s e lists (head ∷ others) task untried stale = stale

same_store : (d now : DeviceState) → now.store ≡ d.store → IsSameStore d.store now.store
same_store d now is = record { geometry = ap (λ (z : StoreState). z.geometry) is; luns = ap (λ (z : StoreState). z.luns) is; units = ap (λ (z : StoreState). z.units) is }

-- a command that is kept, and data that come, leave the entries as they were
pub kept_entries : (d now : DeviceState) (bytes : List ℕ) (e : History) → Keeps d now bytes ⊎ TakesData d now (upiu_at bytes).segment → now.store ≡ d.store → now.shape ≡ d.shape
    → now.lists ≡ d.lists → EntriesStand d e → EntriesStand now (e ▹ Host bytes)
kept_entries d now bytes e receives store shape lists stand =
    let host = after_host d bytes e stand in
    let pages : now.store.pages ≡ d.store.pages = ap (λ (z : StoreState). z.pages) store in
    elim receives [
      | inl keeps ↦
          let untried : keeps.task.tried ≡ false = ap (λ (t : Task). t.tried) keeps.begun.task_is in
          entries_now d now (e ▹ Host bytes) (same_store d now store) shape (rw pages (host.fresh))
          (rw (lists, keeps.kept) (more_tried (sizes_of d) (e ▹ Host bytes) d.lists d.tasks keeps.task untried host.tried))
      | inr takes ↦
          let tried : TriedStale (sizes_of d) (e ▹ Host bytes) d.lists (takes.task ∷ takes.others) = subst (TriedStale (sizes_of d) (e ▹ Host bytes) d.lists) takes.was host.tried in
          entries_now d now (e ▹ Host bytes) (same_store d now store) shape (rw pages (host.fresh))
          (rw (lists, takes.kept) tried)
    ]

-- what is answered at once ends no task
pub answered_entries : (d : DeviceState) (bytes : List ℕ) (reply : Reply) (out : List ℕ) (e : History) → out ≡ upiu_out (reply_upiu reply) → EntriesStand d e
    → EntriesStand d (e ▹ Host bytes ▹ Device out)
answered_entries d bytes reply out e sent stand =
    after_answer d out (e ▹ Host bytes) (subst (λ (b : List ℕ). ListsNone (sizes_of d) (e ▹ Host bytes) (Device b)) (sym sent) (reply_lists_none (sizes_of d) (e ▹ Host bytes) reply))
    (after_host d bytes e stand)

-- an answer that ends the first task
pub ending_entries : (d now : DeviceState) (luns : ℕ) (lim : Limits) (bytes : List ℕ) (reply : Reply) (out : List ℕ) (e : History) → IsQueue luns lim d.held d.tasks → EndsHead d now out
    → out ≡ upiu_out (reply_upiu reply)
    → now.store ≡ d.store → now.shape ≡ d.shape → EntriesStand d e → EntriesStand now (e ▹ Host bytes ▹ Device out)
ending_entries d now luns lim bytes reply out e queue ends sent store shape stand =
    let host = answered_entries d bytes reply out e sent stand in
    let pages : now.store.pages ≡ d.store.pages = ap (λ (z : StoreState). z.pages) store in
    let q = subst (IsQueue luns lim d.held) ends.was queue in
    entries_now d now (e ▹ Host bytes ▹ Device out) (same_store d now store) shape (rw pages (host.fresh))
    (waiting_untried luns lim (sizes_of d) (e ▹ Host bytes ▹ Device out) now.lists ends.others now.tasks ends.ended q.2)

-- a device that was just made has listed nothing, and tried nothing
pub begins_entries : (device : DeviceState) → device.tasks ≡ [] → EntriesStand device []
begins_entries device none = record {
  fresh = λ p x place fresh. absurd (false≢true (sym (and_false (not (x == no_page))) ∙ fresh));
  tried = rw none tt;
}
  where
    and_false : (a : Bool) → (a && false) ≡ false
    and_false true = refl
    and_false false = refl

-- the entry that a DATA IN of the first task lists
pub head_listed : (s : Sizes) (e : History) (task : Waiting) (others : List Waiting) (bytes : List ℕ) (p : Place) (y : ℕ)
    → task.sent < 2 ^ 32 → length bytes < 2 ^ 16 → tasks_after s e ≡ task ∷ others
    → listed s (tasks_after s e) (Device (upiu_out (data_upiu DataIn task.lun task.tag task.sent bytes))) p ≡ Some y → listed_by s task task.command bytes p ≡ Some y
head_listed s e task others bytes p y offset_fits bytes_fit is at =
    by_tag (has_tag task.tag task) (listed_by s task task.command bytes p) (sym (data_listed s e task others task.lun task.tag task.sent bytes p offset_fits bytes_fit is) ∙ at)
  where
    by_tag : (b : Bool) (o : Option ℕ) → (if b then o else None) ≡ Some y → o ≡ Some y
    by_tag true o at = at
    by_tag false o at = cc
