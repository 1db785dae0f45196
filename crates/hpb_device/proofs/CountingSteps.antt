-- What a device counts fits its history after a step.
use Rattle.std.proofs.Common.{◌≡◌, ℕ, ◌+◌, ◌-◌, ◌*◌, ◌/◌, ◌^◌, ◌<◌, ◌≤◌, ◌==◌, Bool, true, false, List, [], ◌∷◌, drop}
use Rattle.std.proofs.Common.{length, map, take, Some, None, refl, sym, ◌∙◌, ap, subst, arith, inl, inr, Option}
use Rattle.std.specs.Prelude.{if◌then◌else◌, is_some, sum_by}
use Rattle.std.specs.Bool.{OnTrue}
use Rattle.std.specs.List.{AllByRecursion}
use Rattle.std.proofs.lemmas.Bool.{false≢true}
use Rattle.flash_pages.specs.declared.chip.ChipOp.{ChipOp}
use Rattle.flash_pages.specs.declared.chip.ChipOp.TheVariants.{Read as ReadCall}
use Rattle.flash_pages.specs.Place.{Place}
use Rattle.flash_pages.specs.Unit.{block_of}
use Rattle.flash_store.specs.declared.answers.Phase.{Phase}
use Rattle.flash_store.specs.declared.answers.Phase.TheVariants.{Scanning, Ready, Foreign}
use Rattle.flash_store.specs.Store.{StoreState}
use Rattle.hpb_cdb.specs.declared.cdb.Cdb.{Cdb}
use Rattle.hpb_cdb.specs.declared.cdb.Cdb.TheVariants.{Write}
use Rattle.hpb_cdb.specs.declared.limits.Limits.{Limits}
use Rattle.hpb_sense.specs.Sense.{fixed_out}
use Rattle.upiu_wire.specs.Upiu.{upiu_out}
use Rattle.upiu_wire.specs.Written.{response_upiu}
use Rattle.flat_unit.specs.declared.event.Event.{Event}
use Rattle.flat_unit.specs.declared.event.Event.TheVariants.{Device, Failed as CallFailed}
use Rattle.flat_unit.specs.Causes.{sense_code}
use Rattle.flat_unit.specs.Contents.{Leaving, Shown, leaving, next_place as place_after, shown}
use Rattle.flat_unit.specs.Counts.{ends_with, is_fresh_at, next_entry as next_entry_of, one_if}
use Rattle.flat_unit.specs.History.{History, ◌▹◌, followed_by}
use Rattle.entry_lists.specs.Lists.{EntryList}
use Rattle.flat_unit.specs.Command.{is_write}
use Rattle.hpb_device.specs.Lists.{ListsStand}
use Rattle.flat_unit.specs.Queue.{tasks_after}
use Rattle.flat_unit.specs.Replays.{events_of}
use Rattle.flat_unit.specs.Sizes.{Sizes}
use Rattle.flat_unit.specs.Sound.{owed}
use Rattle.flat_unit.specs.Stands.{First}
use Rattle.flat_unit.specs.Task.{Task as Waiting}
use Rattle.flat_unit.specs.Writes.{blocks_ended, blocks_of_write}
use Rattle.flat_unit.proofs.Counting.{data_leaves_none, one_at_most, read_is_failed, response_ends, shows_next, shows_no_place, shows_none, transfer_leaves_none, unready_is_no_work}
use Rattle.flat_unit.proofs.History.{data-consistent}
use Rattle.hpb_device.specs.declared.advance.FailedCall.TheVariants.{MappedRead, EntryRead, WriteStep}
use Rattle.hpb_device.specs.declared.advance.Internal.TheVariants.{Missed, Programmed, Collected}
use Rattle.hpb_device.specs.declared.advance.Progress.{Progress}
use Rattle.hpb_device.specs.declared.advance.Progress.TheVariants.{Sends, Silent, Ended, Failed}
use Rattle.hpb_device.specs.declared.advance.Transfer.{Transfer}
use Rattle.hpb_device.specs.declared.advance.Transfer.TheVariants.{LookedUp, ByEntry, EntryList as ListPiece, UnitCapacity, Ready as ReadyTransfer}
use Rattle.hpb_device.specs.declared.counts.Counts.{Counts}
use Rattle.hpb_device.specs.declared.device.Stepped.{Stepped}
use Rattle.hpb_device.specs.declared.reply.Cause.{Cause}
use Rattle.hpb_device.specs.declared.reply.Cause.TheVariants.{ReadFailed, WriteFailed, NoNumber, ChipFailed}
use Rattle.hpb_device.specs.declared.reply.Reply.{Reply}
use Rattle.hpb_device.specs.declared.reply.Reply.TheVariants.{Check}
use Rattle.hpb_device.specs.declared.task.Task.{Task}
use Rattle.hpb_device.specs.Advance.{Advances, IsComplete, SendsBlock, ServesEntry, Transfers, capacity_of, check, entries_of, first_block, first_listed, next_place}
use Rattle.hpb_device.specs.Calls.{EndsUnread, GoesOn, Leaves, Scans, StepsIn}
use Rattle.hpb_device.specs.Counted.{AreCounted, CountsStand, steps_scanned}
use Rattle.hpb_device.specs.Counts.{counted, counted_step}
use Rattle.hpb_device.specs.Entries.{EntriesStand, IsStale, IsStaleAt, TriedStale}
use Rattle.hpb_device.specs.Keeps.{waiting_of}
use Rattle.hpb_device.specs.Limits.{limits_of}
use Rattle.hpb_device.specs.Regions.{segment_told}
use Rattle.hpb_device.specs.Reply.{cause_sense, reply_upiu, told_upiu}
use Rattle.hpb_device.specs.Standing.{DeviceStands, group_of, programmed_of, sizes_of}
use Rattle.hpb_device.specs.State.{DeviceState}
use Rattle.hpb_device.specs.Task.{IsQueue, IsTaskOk, IsWaiting, bytes_taken, next_entry, to_try}
use Rattle.hpb_device.proofs.Chips.{pages_of, whole_after}
use Rattle.hpb_device.proofs.Collecting.{moves_on}
use Rattle.hpb_device.proofs.Commands.{takes_data, tries_none, tries_of}
use Rattle.hpb_device.proofs.Counting.{Rises, adds_failed, adds_sent, adds_shown, counted_event, counted_moves}
use Rattle.hpb_device.proofs.Counting.{counted_quiet, counts_now, rise_entry, rise_lookup, rise_moving, rise_none}
use Rattle.hpb_device.proofs.Counting.{rise_step, scanned_idle, scanned_more, scanned_sent}
use Rattle.hpb_device.proofs.Going.{check_tells}
use Rattle.hpb_device.proofs.Fetching.{entry_is}
use Rattle.hpb_device.proofs.StepStands.{first_is, flat, none_programmed, reads_at}
use Rattle.hpb_device.proofs.Stepping.{IsWell, serves_same}

-- the blocks of a write are those that it takes, and those that were programmed once all have come
write_takes : (command : Cdb) (task : Task) → task.come ≡ bytes_taken command → OnTrue (is_write command) (4096 * task.programmed ≡ task.come) → blocks_of_write command ≤ task.programmed
write_takes (Write lba n) task come programmed = omega (arith, come, programmed)
write_takes _ task come programmed = omega arith

-- the first task of a device that stands at a history
pub record Head (d : DeviceState) (task : Task) (others : List Task) (e : History) : Type 0 where
  pub ok : IsTaskOk d.store.luns (limits_of d.shape) task
  pub come : List ℕ
  pub waiting : AllByRecursion (IsWaiting d.store.luns (limits_of d.shape)) others
  pub programmed : programmed_of d.tasks ≡ task.programmed
  pub tasks : tasks_after (sizes_of d) e ≡ flat task come ∷ map waiting_of others
  pub nothing : owed (sizes_of d) e ≡ []

head_at : (d : DeviceState) (task : Task) (others : List Task) (first : First) (e : History) → d.tasks ≡ task ∷ others → IsQueue d.store.luns (limits_of d.shape) d.held d.tasks
    → DeviceStands d first e → Head d task others e
head_at d task others first e was queue at =
    let q = subst (IsQueue d.store.luns (limits_of d.shape) d.held) was queue in
    let only = first_is d.tasks d.held at.tasks task others was at.keeps in
    record { ok = q.0; come = only.come; waiting = q.2; programmed = ap programmed_of was; tasks = at.stands.keeps ∙ only.first; nothing = at.stands.sound.nothing_owed }

-- the same after a failed call of the chip
head_failed : (d : DeviceState) (task : Task) (others : List Task) (e : History) (op : ChipOp) → Head d task others e → Head d task others (e ▹ CallFailed op)
head_failed d task others e op head = record {
  ok = head.ok;
  come = head.come;
  waiting = head.waiting;
  programmed = head.programmed;
  tasks = head.tasks;
  nothing = ap (λ (due : List Event). drop 1 due) head.nothing;
}

-- where none is to be tried, the entry of the next block isn't fresh
stale_or_none : (s : Sizes) (e : History) (lists : List (Option EntryList)) (task : Task) → task.sent < task.given → to_try (next_entry lists task) task ≡ None
    → OnTrue task.tried (IsStale s e lists task) → IsStale s e lists task
stale_or_none s e lists task more untried stale = elim (tries_none (next_entry lists task) task more untried) [
  | inl none ↦ subst (IsStaleAt s e (next_place task)) (sym none) tt
  | inr tried ↦ on task.tried tried stale
]
  where
    on : (b : Bool) {P : Type 0} → b ≡ true → OnTrue b P → P
    on true is p = p
    on false is p = absurd (false≢true is)

unfresh : (s : Sizes) (e : History) (place : Place) (block : List ℕ) (entry : Option ℕ) → IsStaleAt s e place entry → is_fresh_at s e (Some (record { place = place; block = block })) entry ≡ false
unfresh s e place block (Some entry) stale = stale
unfresh s e place block None stale = refl

-- a step of the first task
module _ (d : DeviceState) (task : Task) (others : List Task) (e : History) (head : Head d task others e) where
  abbrev s : Sizes
  s = sizes_of d

  abbrev t : Waiting
  t = flat task head.come

  abbrev scanned : ℕ
  scanned = d.store.scanned

  abbrev done : ℕ
  done = programmed_of d.tasks

  -- the entry of the next block is that of the history
  next_is : ListsStand d e → next_entry_of s e (tasks_after s e) ≡ next_entry d.lists task
  next_is lists = ap (next_entry_of s e) head.tasks
      ∙ entry_is d.lists s e t task.command (task.sent / 4096) (limits_of d.shape) lists head.ok.accepted.lun head.ok.accepted.served

  -- the next block of a read
  module _ (rest : Task) (out : List ℕ) (sends : SendsBlock d.store task rest out) where
    abbrev block : List ℕ
    block = block_of d.store.pages (next_place task)

    abbrev shown_now : Shown
    shown_now = record { place = record { lun = task.lun; lba = first_block task.command + task.sent / 4096 }; block = block }

    shows_block : shown s (tasks_after s e) (Device out) ≡ Some shown_now
    shows_block =
        let ok = head.ok in
        let fits : task.sent < 2 ^ 32 = omega (arith, sends.more, ok.accepted.fits, ok.accepted.expected_fits) in
        let size : length block < 2 ^ 16 = omega (arith, sends.size) in
        ap (λ (b : List ℕ). shown s (tasks_after s e) (Device b)) sends.sent
        ∙ shows_next s e t (map waiting_of others) block (Some (record { lun = task.lun; lba = first_block task.command + task.sent / 4096 }))
        (data-consistent task.lun task.tag task.sent block fits size) head.tasks (reads_at s t task.command sends.reads).place

    leaves_none : leaving (tasks_after s e) (Device out) ≡ []
    leaves_none = ap (λ (b : List ℕ). leaving (tasks_after s e) (Device b)) sends.sent ∙ data_leaves_none (tasks_after s e) task.lun task.tag task.sent block

    looked_up : (now : Counts) → ListsStand d e → s.pages ≤ scanned → to_try (next_entry d.lists task) task ≡ None → OnTrue task.tried (IsStale s e d.lists task) → Rises d.counts now 1 1 0 0
        → AreCounted s scanned done d.counts e → AreCounted s scanned done now (e ▹ Device out)
    looked_up now lists whole untried stale rise at =
        let old = unfresh s e (next_place task) block (next_entry d.lists task) (stale_or_none s e d.lists task sends.more untried stale) in
        let fresh : one_if (is_fresh_at s e (Some shown_now) (next_entry d.lists task)) ≤ 0 = let none = ap one_if old in omega (arith, none) in
        counted_event s scanned scanned done done d.counts now e (Device out) 1 1 0 0 rise
        (adds_shown s scanned done e out shown_now (next_entry d.lists task) 1 0 whole shows_block (next_is lists) leaves_none fresh (omega arith) refl) at

    by_entry : (now : Counts) (x : ℕ) → ListsStand d e → s.pages ≤ scanned → next_entry d.lists task ≡ Some x → Rises d.counts now 1 0 1 0
        → AreCounted s scanned done d.counts e → AreCounted s scanned done now (e ▹ Device out)
    by_entry now x lists whole tries rise at =
        let had : 1 ≤ one_if (is_some (next_entry d.lists task)) = let one = ap (λ (o : Option ℕ). one_if (is_some o)) tries in omega (arith, one) in
        let fresh = one_at_most (is_fresh_at s e (Some shown_now) (next_entry d.lists task)) in
        counted_event s scanned scanned done done d.counts now e (Device out) 1 0 1 0 rise
        (adds_shown s scanned done e out shown_now (next_entry d.lists task) 0 1 whole shows_block (next_is lists) leaves_none fresh had refl) at

  -- what a command sends that is no block of a read
  other_sent : (now : Counts) (out : List ℕ) → s.pages ≤ scanned → shown s (tasks_after s e) (Device out) ≡ None → leaving (tasks_after s e) (Device out) ≡ [] → Rises d.counts now 1 0 0 0
      → AreCounted s scanned done d.counts e → AreCounted s scanned done now (e ▹ Device out)
  other_sent now out whole shows leaves rise at =
      let ended : sum_by blocks_ended (leaving (tasks_after s e) (Device out)) ≡ 0 = ap (sum_by blocks_ended) leaves in
      counted_event s scanned scanned done done d.counts now e (Device out) 1 0 0 0 rise
      (adds_sent s scanned done e out done 0 (scanned_sent s scanned done e out whole) shows (omega (arith, ended)) (omega arith)) at

  -- a RESPONSE to it
  responded : (now : Counts) (out : List ℕ) (status residual : ℕ) (segment : List ℕ) (lookups : ℕ) → out ≡ upiu_out (response_upiu task.lun task.tag status residual segment)
      → steps_scanned s scanned (e ▹ Device out) ≤ steps_scanned s scanned e
      → (if status == 0 then blocks_of_write task.command else 0) ≤ done → lookups ≤ one_if (ends_with 0x11 (Device out) [])
      → Rises d.counts now 1 lookups 0 0
      → AreCounted s scanned done d.counts e → AreCounted s scanned 0 now (e ▹ Device out)
  responded now out status residual segment lookups sent scan good failed rise at =
      let l : Leaving = record { task = t; good = status == 0 } in
      let leaves : leaving (tasks_after s e) (Device out) ≡ l ∷ [] =
      ap (λ (b : List ℕ). leaving (tasks_after s e) (Device b)) sent ∙ response_ends s e t (map waiting_of others) status residual segment head.tasks in
      let ended : sum_by blocks_ended (leaving (tasks_after s e) (Device out)) ≡ 0 + (if status == 0 then blocks_of_write task.command else 0) = ap (sum_by blocks_ended) leaves in
      let shows : shown s (tasks_after s e) (Device out) ≡ None =
      ap (λ (b : List ℕ). shown s (tasks_after s e) (Device b)) sent ∙ shows_none s (tasks_after s e) (response_upiu task.lun task.tag status residual segment) tt in
      let failure : lookups ≤ one_if (ends_with 0x11 (Device out) (owed s e)) = subst (λ (due : List Event). lookups ≤ one_if (ends_with 0x11 (Device out) due)) (sym head.nothing) failed in
      counted_event s scanned scanned done 0 d.counts now e (Device out) 1 lookups 0 0 rise
      (adds_sent s scanned done e out 0 lookups scan shows (omega (arith, ended, good)) failure) at

  -- it ends with sense
  checked : (now : Counts) (out : List ℕ) (cause : Cause) (residual lookups : ℕ) → out ≡ upiu_out (reply_upiu (Check task.lun task.tag residual cause))
      → steps_scanned s scanned (e ▹ Device out) ≤ steps_scanned s scanned e → lookups ≤ one_if (ends_with 0x11 (Device out) []) → Rises d.counts now 1 lookups 0 0
      → AreCounted s scanned done d.counts e → AreCounted s scanned 0 now (e ▹ Device out)
  checked now out cause residual lookups sent scan failed rise at = responded now out 0x02 residual (fixed_out (cause_sense cause)) lookups sent scan (omega arith) failed rise at

  -- it is complete, and ends GOOD with any segment
  good_sent : (now : Counts) (out : List ℕ) (residual : ℕ) (segment : List ℕ) → out ≡ upiu_out (response_upiu task.lun task.tag 0x00 residual segment) → s.pages ≤ scanned → IsComplete task
      → Rises d.counts now 1 0 0 0
      → AreCounted s scanned done d.counts e → AreCounted s scanned 0 now (e ▹ Device out)
  good_sent now out residual segment sent whole complete rise at =
      let most = write_takes task.command task complete.come complete.programmed in
      let all : blocks_of_write task.command ≤ done = omega (arith, most, head.programmed) in
      responded now out 0x00 residual segment 0 sent (scanned_sent s scanned done e out whole) all (omega arith) rise at

-- what is sent for a task that goes on
sent_counts : (d : DeviceState) (task rest : Task) (others : List Task) (e : History) (what : Transfer) (out : List ℕ) (now : Counts) → Head d task others e
    → Transfers (limits_of d.shape) d.store what task rest out → ServesEntry (next_entry d.lists task) d.store task (Sends what rest) → ListsStand d e
    → (sizes_of d).pages ≤ d.store.scanned → TriedStale (sizes_of d) e d.lists (task ∷ others) → now ≡ counted d.counts (Sends what rest)
    → AreCounted (sizes_of d) d.store.scanned (programmed_of d.tasks) d.counts e → AreCounted (sizes_of d) d.store.scanned (programmed_of d.tasks) now (e ▹ Device out)
sent_counts d task rest others e LookedUp out now head sends serves lists whole stale is at =
    looked_up d task others e head rest out sends now lists whole serves stale (subst (λ (c : Counts). Rises d.counts c 1 1 0 0) (sym is) (rise_lookup d.counts rest)) at
sent_counts d task rest others e ByEntry out now head sends serves lists whole stale is at =
    by_entry d task others e head rest out sends now serves.0 lists whole (tries_of (next_entry d.lists task) serves.0 task serves.1).is
    (subst (λ (c : Counts). Rises d.counts c 1 0 1 0) (sym is) (rise_entry d.counts rest)) at
sent_counts d task rest others e ListPiece out now head pieces serves lists whole stale is at =
    let piece = take pieces.0 (entries_of d.store.pages task.lun (first_listed (limits_of d.shape) task.command + task.sent / 8) ((pieces.0 + 7) / 8)) in
    let t = flat task head.come in
    let none : place_after (sizes_of d) t task.command ≡ None = ap (place_after (sizes_of d) t) pieces.1.read_buffer.3 in
    let leaves = ap (λ (b : List ℕ). leaving (tasks_after (sizes_of d) e) (Device b)) pieces.1.sent ∙ data_leaves_none (tasks_after (sizes_of d) e) task.lun task.tag task.sent piece in
    other_sent d task others e head now out whole (shows_no_place (sizes_of d) e t (map waiting_of others) out head.tasks none) leaves
    (subst (λ (c : Counts). Rises d.counts c 1 0 0 0) (sym is) (rise_step d.counts)) at
sent_counts d task rest others e UnitCapacity out now head tells serves lists whole stale is at =
    let t = flat task head.come in
    let none : place_after (sizes_of d) t task.command ≡ None = ap (place_after (sizes_of d) t) tells.command in
    let leaves = ap (λ (b : List ℕ). leaving (tasks_after (sizes_of d) e) (Device b)) tells.sent
    ∙ data_leaves_none (tasks_after (sizes_of d) e) task.lun task.tag task.sent (capacity_of d.store.units) in
    other_sent d task others e head now out whole (shows_no_place (sizes_of d) e t (map waiting_of others) out head.tasks none) leaves
    (subst (λ (c : Counts). Rises d.counts c 1 0 0 0) (sym is) (rise_step d.counts)) at
sent_counts d task rest others e ReadyTransfer out now head asks serves lists whole stale is at =
    let t = flat task head.come in
    let none : place_after (sizes_of d) t task.command ≡ None = (takes_data task.command task.asked asks.1.more).no_place (sizes_of d) t in
    let leaves = ap (λ (b : List ℕ). leaving (tasks_after (sizes_of d) e) (Device b)) asks.1.sent
    ∙ transfer_leaves_none (tasks_after (sizes_of d) e) task.lun task.tag task.asked asks.0 in
    other_sent d task others e head now out whole (shows_no_place (sizes_of d) e t (map waiting_of others) out head.tasks none) leaves
    (subst (λ (c : Counts). Rises d.counts c 1 0 0 0) (sym is) (rise_step d.counts)) at

-- 11h of a failed read
read_tells : (lun tag residual : ℕ) (out : List ℕ) → out ≡ upiu_out (reply_upiu (Check lun tag residual ReadFailed)) → 1 ≤ one_if (ends_with 0x11 (Device out) [])
read_tells lun tag residual out sent =
    let one = ap one_if (read_is_failed out [] refl (ap sense_code sent ∙ check_tells lun tag residual ReadFailed)) in
    omega (arith, one)

-- what is sent for a task that goes on leaves its programmed blocks
sent_programmed : (lim : Limits) (old : StoreState) (what : Transfer) (task rest : Task) (out : List ℕ) → Transfers lim old what task rest out → rest.programmed ≡ task.programmed
sent_programmed lim old LookedUp task rest out sends = ap (λ (t : Task). t.programmed) sends.task_is
sent_programmed lim old ByEntry task rest out sends = ap (λ (t : Task). t.programmed) sends.task_is
sent_programmed lim old ListPiece task rest out lists = ap (λ (t : Task). t.programmed) lists.1.task_is
sent_programmed lim old UnitCapacity task rest out tells = ap (λ (t : Task). t.programmed) tells.task_is
sent_programmed lim old ReadyTransfer task rest out asks = ap (λ (t : Task). t.programmed) asks.1.task_is

-- a step of the first task, whatever it came to
module _ (old new : DeviceState) (well : IsWell old) (shape : new.shape ≡ old.shape) (result : Stepped) (out : List ℕ) (e : History) where
  abbrev c : Counts
  c = old.counts

  abbrev counts_at : ℕ → Counts → History → Type 0
  counts_at programmed counts history = AreCounted (sizes_of old) old.store.scanned programmed counts history

  -- a step on a ready chip
  module _ (goes : GoesOn old new result out) (head : Head old goes.task goes.others e) (stale : TriedStale (sizes_of old) e old.lists (goes.task ∷ goes.others))
      (lists : ListsStand old e) (stand : CountsStand old e) where
    abbrev all_scanned : Type 0
    all_scanned = (sizes_of old).pages ≤ old.store.scanned

    looked : all_scanned
    looked = omega (arith, goes.scanned)

    -- the device as it is counted now
    now_counted : (progress : Progress) (programmed : ℕ) (history : History)
        → length new.store.pages ≡ length old.store.pages → programmed_of new.tasks ≡ programmed → counts_at programmed (counted c progress) history → goes.progress ≡ progress
        → CountsStand new history
    now_counted progress programmed history pages done at is =
        counts_now old new old.store.scanned programmed (counted c progress) history (serves_same old.store new.store goes.same) shape (pages ∙ stand.whole) goes.same.scanned done
        (goes.counts ∙ ap (counted c) is) at

    others_programmed : new.tasks ≡ goes.others → programmed_of new.tasks ≡ 0
    others_programmed left = ap programmed_of left ∙ none_programmed old.store.luns (limits_of old.shape) goes.others head.waiting

    -- it ended where a call failed
    cut : (op : ChipOp) (cause : Cause) (lookups : ℕ) (now : Counts) → out ≡ upiu_out (reply_upiu (check goes.task cause)) → lookups ≤ one_if (ends_with 0x11 (Device out) [])
        → Rises c now 1 lookups 0 0 → counts_at 0 now (e ▹ CallFailed op ▹ Device out)
    cut op cause lookups now sent tells rise =
        checked old goes.task goes.others (e ▹ CallFailed op) (head_failed old goes.task goes.others e op head) now out cause _ lookups sent
        (scanned_sent (sizes_of old) old.store.scanned (programmed_of old.tasks) (e ▹ CallFailed op) out looked) tells rise
        (counted_event (sizes_of old) old.store.scanned old.store.scanned (programmed_of old.tasks) (programmed_of old.tasks) c c e (CallFailed op) 0 0 0 0 (rise_none c)
        (adds_failed (sizes_of old) old.store.scanned (programmed_of old.tasks) e op 0) stand.fits)

    goes_counts : (progress : Progress) → goes.progress ≡ progress → length new.store.pages ≡ length old.store.pages
        → Advances (limits_of old.shape) old.store new.store old.held new.held goes.task progress out → ServesEntry (next_entry old.lists goes.task) old.store goes.task progress
        → Leaves progress (segment_told old.shape old.regions goes.task goes.progress) goes.others new.tasks new.held result out → CountsStand new (followed_by e (events_of (group_of result out)))
    goes_counts (Sends what rest) is pages advances serves leaves =
        let done : programmed_of new.tasks ≡ programmed_of old.tasks =
        ap programmed_of leaves.0 ∙ (sent_programmed (limits_of old.shape) old.store what goes.task rest out advances.0 ∙ sym head.programmed) in
        rw (leaves.1) (now_counted (Sends what rest) (programmed_of old.tasks) (e ▹ Device out) pages done
        (sent_counts old goes.task rest goes.others e what out (counted c (Sends what rest)) head advances.0 serves lists looked stale refl stand.fits) is)
    goes_counts (Silent Missed rest) is pages advances serves leaves =
        let done : programmed_of new.tasks ≡ programmed_of old.tasks =
        ap programmed_of leaves.0 ∙ (ap (λ (t : Task). t.programmed) advances.0.0.task_is ∙ sym head.programmed) in
        rw (leaves.1) (now_counted (Silent Missed rest) (programmed_of old.tasks) e pages done
        (counted_quiet (sizes_of old) old.store.scanned old.store.scanned (programmed_of old.tasks) (programmed_of old.tasks) c (counted_step c) e 1 (rise_step c) (omega arith) stand.fits) is)
    goes_counts (Silent Programmed rest) is pages advances serves leaves =
        let done : programmed_of new.tasks ≡ programmed_of old.tasks + 1 =
        ap programmed_of leaves.0 ∙ (ap (λ (t : Task). t.programmed) advances.0.1.task_is ∙ ap (λ (n : ℕ). n + 1) (sym head.programmed)) in
        rw (leaves.1) (now_counted (Silent Programmed rest) (programmed_of old.tasks + 1) e pages done
        (counted_quiet (sizes_of old) old.store.scanned old.store.scanned (programmed_of old.tasks) (programmed_of old.tasks + 1) c (counted_step c) e 1 (rise_step c) (omega arith) stand.fits) is)
    goes_counts (Silent (Collected moved) rest) is pages advances serves leaves =
        let done : programmed_of new.tasks ≡ programmed_of old.tasks =
        ap programmed_of leaves.0 ∙ (ap (λ (t : Task). t.programmed) advances.0.task_is ∙ sym head.programmed) in
        rw (leaves.1) (now_counted (Silent (Collected moved) rest) (programmed_of old.tasks) (moves_on moved out e) pages done
        (counted_moves (sizes_of old) old.store.scanned (programmed_of old.tasks) c (counted c (Silent (Collected moved) rest)) e moved out 1 (rise_moving c moved) stand.fits) is)
    goes_counts (Ended reply) is pages advances serves leaves =
        let ended : Counts = counted c (Ended reply) in
        let after : counts_at 0 ended (e ▹ Device out) = elim advances.0 [
          | inl good ↦
              let sent = leaves.3 ∙ ap (λ (r : Reply). upiu_out (told_upiu (segment_told old.shape old.regions goes.task goes.progress) r)) good.1 in
              good_sent old goes.task goes.others e head ended out _ (segment_told old.shape old.regions goes.task goes.progress) sent looked good.0 (rise_step c) stand.fits
          | inr full ↦
              let sent = leaves.3 ∙ ap (λ (r : Reply). upiu_out (told_upiu (segment_told old.shape old.regions goes.task goes.progress) r)) full.1 in
              let scan = scanned_sent (sizes_of old) old.store.scanned (programmed_of old.tasks) e out looked in
              checked old goes.task goes.others e head ended out NoNumber _ 0 sent scan (omega arith) (rise_step c) stand.fits
        ] in
        rw (leaves.2) (now_counted (Ended reply) 0 (e ▹ Device out) pages (others_programmed leaves.0) after is)
    goes_counts (Failed MappedRead reply) is pages advances serves leaves =
        let sent = leaves.3 ∙ ap (λ (r : Reply). upiu_out (reply_upiu r)) advances.0.answer in
        let tells = read_tells goes.task.lun goes.task.tag (goes.task.expected - goes.task.sent - goes.task.come) out sent in
        rw (leaves.2) (now_counted (Failed MappedRead reply) 0 (e ▹ CallFailed ReadCall ▹ Device out) pages (others_programmed leaves.0)
        (cut ReadCall ReadFailed 1 (counted c (Failed MappedRead reply)) sent tells (rise_lookup c goes.task)) is)
    goes_counts (Failed EntryRead reply) is pages advances serves leaves =
        let sent = leaves.3 ∙ ap (λ (r : Reply). upiu_out (reply_upiu r)) advances.0.answer in
        rw (leaves.2) (now_counted (Failed EntryRead reply) 0 (e ▹ CallFailed ReadCall ▹ Device out) pages (others_programmed leaves.0)
        (cut ReadCall ReadFailed 0 (counted c (Failed EntryRead reply)) sent (omega arith) (rise_step c)) is)
    goes_counts (Failed (WriteStep op) reply) is pages advances serves leaves =
        let sent = leaves.3 ∙ ap (λ (r : Reply). upiu_out (reply_upiu r)) advances.0.answer in
        rw (leaves.2) (now_counted (Failed (WriteStep op) reply) 0 (e ▹ CallFailed op ▹ Device out) pages (others_programmed leaves.0)
        (cut op WriteFailed 0 (counted c (Failed (WriteStep op) reply)) sent (omega arith) (rise_step c)) is)

    pub readied_counts : old.store.phase ≡ Ready → CountsStand new (followed_by e (events_of (group_of result out)))
    readied_counts ready =
        let whole = whole_after (limits_of old.shape) old.store new.store old.held new.held goes.task goes.progress out goes.ok (sym well.units) (well.standing.ready ready) goes.advances in
        goes_counts goes.progress refl whole.count goes.advances goes.entries goes.leaves

  -- a step of the scan
  module _ (scans : Scans old new result out) (first : First) (at : DeviceStands old first e) (stand : CountsStand old e) where
    abbrev before : ℕ
    before = programmed_of old.tasks

    scan_counted : (scanned programmed : ℕ) (history : History) → new.store.scanned ≡ scanned → programmed_of new.tasks ≡ programmed
        → AreCounted (sizes_of old) scanned programmed (counted_step c) history → CountsStand new history
    scan_counted scanned programmed history read done counted =
        counts_now old new scanned programmed (counted_step c) history scans.same shape (ap length (pages_of old.store new.store scans.kept) ∙ stand.whole) read done scans.counts counted

    missed_counts : (tasks : List Task) → old.tasks ≡ tasks → new.store.scanned ≡ old.store.scanned → EndsUnread (Some ReadCall) tasks new.tasks result out
        → CountsStand new (followed_by e (events_of (group_of result out)))
    missed_counts [] was read ends =
        rw (ends.1) (scan_counted old.store.scanned before (e ▹ CallFailed ReadCall) read (ap programmed_of (ends.0 ∙ sym was))
        (counted_event (sizes_of old) old.store.scanned old.store.scanned before before c (counted_step c) e (CallFailed ReadCall) 1 0 0 0 (rise_step c)
        (adds_failed (sizes_of old) old.store.scanned before e ReadCall 1) stand.fits))
    missed_counts (task ∷ others) was read ends =
        let head = head_at old task others first e was well.queue at in
        let failed = counted_event (sizes_of old) old.store.scanned old.store.scanned before before c c e (CallFailed ReadCall) 0 0 0 0 (rise_none c)
        (adds_failed (sizes_of old) old.store.scanned before e ReadCall 0) stand.fits in
        let idle = unready_is_no_work out (owed (sizes_of old) (e ▹ CallFailed ReadCall)) (ap sense_code ends.2 ∙ check_tells task.lun task.tag _ ChipFailed) in
        rw (ends.1) (scan_counted old.store.scanned 0 (e ▹ CallFailed ReadCall ▹ Device out) read
        (ap programmed_of ends.0 ∙ none_programmed old.store.luns (limits_of old.shape) others head.waiting)
        (checked old task others (e ▹ CallFailed ReadCall) (head_failed old task others e ReadCall head) (counted_step c) out ChipFailed _ 0 ends.2
        (scanned_idle (sizes_of old) old.store.scanned before (e ▹ CallFailed ReadCall) out idle) (omega arith) (rise_step c) failed))

    pub scanned_counts : CountsStand new (followed_by e (events_of (group_of result out)))
    scanned_counts = elim scans.outcome [
      | inl page ↦
          let more = scanned_more (sizes_of old) old.store.scanned before e in
          rw (page.result_is) (scan_counted (old.store.scanned + 1) before e page.one_more (ap programmed_of page.tasks)
          (counted_quiet (sizes_of old) old.store.scanned (old.store.scanned + 1) before before c (counted_step c) e 1 (rise_step c) (omega (arith, more)) stand.fits))
      | inr misses ↦ missed_counts old.tasks refl misses.scanned misses.ends
    ]

-- by what is known of the chip
pub steps_counts : (old new : DeviceState) (well : IsWell old) (shape : new.shape ≡ old.shape) (result : Stepped) (out : List ℕ) (phase : Phase) (first : First) (e : History)
    → old.store.phase ≡ phase → StepsIn phase old new result out → DeviceStands old first e → EntriesStand old e → ListsStand old e → CountsStand old e
    → CountsStand new (followed_by e (events_of (group_of result out)))
steps_counts old new well shape result out Scanning first e is scans at entries lists stand = scanned_counts old new well shape result out e scans first at stand
steps_counts old new well shape result out Ready first e is goes at entries lists stand =
    readied_counts old new well shape result out e goes (head_at old goes.task goes.others first e goes.was well.queue at)
    (subst (TriedStale (sizes_of old) e old.lists) goes.was entries.tried) lists stand is
steps_counts old new well shape result out Foreign first e is refuses at entries lists stand = absurd (well.standing.foreign is at.sound)
