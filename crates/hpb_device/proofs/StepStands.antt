-- A device that stands at a history stands at it with the events of one step.
use Rattle.std.proofs.Common.{◌≡◌, ℕ, ◌+◌, ◌-◌, ◌*◌, ◌/◌, ◌^◌, ◌<◌, ◌≤◌, true, List, [], ◌∷◌, length, drop, min}
use Rattle.std.proofs.Common.{slice_range, map, length-take-le, Some, None, zero, suc, false, refl, sym, ◌∙◌, ap, subst}
use Rattle.std.proofs.Common.{arith, inl, inr, ◌⊎◌}
use Rattle.std.proofs.Math.ListN.{drop_of_length-le}
use Rattle.std.proofs.lemmas.List.{drop-drop}
use Rattle.std.specs.Prelude.{slice_set, take}
use Rattle.flash_pages.specs.declared.chip.ChipOp.{ChipOp}
use Rattle.flash_pages.specs.declared.chip.ChipOp.TheVariants.{Read as ReadCall}
use Rattle.flash_pages.specs.Place.{Place, IsPlace, index_of}
use Rattle.flash_pages.specs.Unit.{block_of, unit_of, next_seq}
use Rattle.flash_pages.proofs.Units.{get_or-unit_of-place}
use Rattle.flash_pages.specs.Chip.{Page, erased_count}
use Rattle.flash_pages.proofs.Programming.{erased_count-programmed, length-unit_of, next_seq-programmed}
use Rattle.hpb_cdb.specs.declared.cdb.Cdb.{Cdb}
use Rattle.hpb_cdb.specs.declared.limits.Limits.{Limits}
use Rattle.hpb_cdb.specs.Cdb.{blocks_of}
use Rattle.hpb_cdb.specs.declared.cdb.Cdb.TheVariants.{TestReady, Read, Write, Capacity, Sync, HpbRead, ReadBuffer, InactOne, InactAll, Prefetch}
use Rattle.upiu_wire.specs.Upiu.{upiu_out}
use Rattle.flat_unit.specs.declared.event.Event.TheVariants.{Device, Failed as CallFailed}
use Rattle.flat_unit.specs.Command.{is_write, needed}
use Rattle.flat_unit.specs.Contents.{block_at, next_place}
use Rattle.upiu_wire.specs.declared.kind.Kind.TheVariants.{DataIn}
use Rattle.upiu_wire.specs.Written.{data_upiu, response_upiu}
use Rattle.flat_unit.specs.Queue.{tasks_after, with_sent}
use Rattle.flat_unit.specs.History.{History, ◌▹◌}
use Rattle.flat_unit.specs.Sends.{Data, Ask, Good as GoodAnswer, Check as CheckAnswer, Allows, IsPiece, upiu_of, asked_at_once}
use Rattle.flat_unit.specs.Sizes.{Sizes}
use Rattle.flat_unit.specs.Stands.{First, Kept, Stands}
use Rattle.flat_unit.specs.Task.{Task as Waiting}
use Rattle.hpb_sense.specs.declared.sense.FixedSense.{FixedSense}
use Rattle.hpb_sense.specs.Sense.{fixed_out}
use Rattle.flat_unit.specs.Causes.{HasCauseFor}
use Rattle.flat_unit.specs.Writes.{moves, blocks_come, blocks_of_head, whole_blocks}
use Rattle.flat_unit.specs.Sends.{MayEndWith}
use Rattle.flat_unit.specs.Senses.{read_failed, write_failed, no_number}
use Rattle.flat_unit.proofs.standing.OneCall.{FitsWire, cause_read, cause_write, cause_number, stands_shown}
use Rattle.flat_unit.proofs.standing.OneCall.{stands_data, stands_asked, stands_ended, stands_good, stands_cut}
use Rattle.flat_unit.proofs.standing.OneCall.{stands_failed, stands_programmed}
use Rattle.std.specs.List.{AllByRecursion}
use Rattle.flat_unit.specs.History.{followed_by}
use Rattle.flat_unit.specs.Replays.{events_of}
use Rattle.hpb_device.specs.declared.advance.Progress.{Progress}
use Rattle.hpb_device.specs.declared.advance.Progress.TheVariants.{Sends, Silent, Ended, Failed}
use Rattle.hpb_device.specs.declared.advance.Transfer.{Transfer}
use Rattle.hpb_device.specs.declared.advance.Transfer.TheVariants.{LookedUp, ByEntry, EntryList, UnitCapacity, Ready}
use Rattle.hpb_device.specs.declared.advance.Internal.TheVariants.{Missed, Programmed, Collected}
use Rattle.hpb_device.specs.declared.device.Stepped.{Stepped}
use Rattle.hpb_device.specs.Advance.{Advances}
use Rattle.hpb_device.specs.Calls.{Leaves}
use Rattle.hpb_device.specs.Standing.{group_of}
use Rattle.hpb_device.specs.declared.task.Task.{Task}
use Rattle.hpb_device.specs.declared.reply.Reply.{Reply}
use Rattle.hpb_device.specs.declared.reply.Reply.TheVariants.{Good}
use Rattle.hpb_device.specs.declared.reply.Cause.{Cause}
use Rattle.hpb_device.specs.declared.reply.Cause.TheVariants.{ReadFailed, WriteFailed, NoNumber}
use Rattle.hpb_device.specs.declared.advance.FailedCall.{FailedCall}
use Rattle.hpb_device.specs.declared.advance.FailedCall.TheVariants.{MappedRead, EntryRead, WriteStep}
use Rattle.hpb_device.specs.Reply.{cause_sense}
use Rattle.hpb_device.specs.Advance.{Misses, IsComplete, HasNoNumber, Transfers, check, held_after, IsSameStore, op_of}
use Rattle.hpb_device.specs.Advance.{SendsBlock, Lists, Tells, Asks, Programs, Fails, ReadsBlocks, entries_of}
use Rattle.hpb_device.specs.Advance.{first_listed, capacity_of, nth_place, first_block}
use Rattle.hpb_device.specs.Keeps.{KeepsTasks, waiting_of}
use Rattle.hpb_device.specs.Limits.{limits_of}
use Rattle.hpb_device.specs.Reply.{reply_upiu, told_upiu}
use Rattle.hpb_device.specs.Sizes.{sizes}
use Rattle.hpb_device.specs.Standing.{sizes_of, kept_of, programmed_of, DeviceStands}
use Rattle.hpb_device.specs.State.{DeviceState, IsSound}
use Rattle.hpb_device.specs.Task.{IsTaskOk, IsWaiting, IsQueue, IsServed, bytes_given, bytes_taken}
use Rattle.hpb_device.proofs.Commands.{is_written, reads, all_programmed, asked_whole, asks_flat}
use Rattle.hpb_device.proofs.Chips.{pages_of}
use Rattle.hpb_device.proofs.Leaving.{IsOfTask}
use Rattle.flat_unit.proofs.entries.Listed.{length-entries_from}

-- the task of a history, of which these bytes have come
abbrev pub flat : Task → List ℕ → Waiting
flat task come = record {
  lun = task.lun;
  tag = task.tag;
  command = task.command;
  expected = task.expected;
  asked = task.asked;
  come = come;
  sent = task.sent;
}

-- the head is the first task of the history, and nothing is done yet for the others
pub record IsFirst (task : Task) (others : List Task) (held : List ℕ) (tasks : List Waiting) : Type 0 where
  pub come : List ℕ
  pub counted : length come ≡ task.come
  pub last : drop (task.come - length held) come ≡ held
  pub first : tasks ≡ flat task come ∷ map waiting_of others

pub first_is : (kept : List Task) (held : List ℕ) (tasks : List Waiting) (task : Task) (others : List Task) → kept ≡ task ∷ others → KeepsTasks kept held tasks → IsFirst task others held tasks
first_is kept held tasks task others is keeps =
    let k = subst (λ (ts : List Task). KeepsTasks ts held tasks) is keeps in
    let at = k.1 in
    let same : k.0 ≡ flat task k.0.come = λ i. record { lun = at.lun i; tag = at.tag i; command = at.command i; expected = at.expected i; asked = at.asked i; come = k.0.come; sent = at.sent i } in
    record { come = k.0.come; counted = at.come; last = at.last; first = k.2 ∙ ap (λ (t : Waiting). t ∷ map waiting_of others) same }

pub keeps_flat : (task : Task) (others : List Task) (held come : List ℕ) → length come ≡ task.come → drop (task.come - length held) come ≡ held
    → KeepsTasks (task ∷ others) held (flat task come ∷ map waiting_of others)
keeps_flat task others held come counted last =
    (flat task come, record { lun = refl; tag = refl; command = refl; expected = refl; asked = refl; come = counted; last = last; sent = refl }, refl)

pub drop-nil : (n : ℕ) → drop {A = ℕ} n [] ≡ []
drop-nil zero = refl
drop-nil (suc n) = refl

-- a task of which nothing is done yet may be the first one
pub keeps_waiting : (luns : ℕ) (lim : Limits) (others : List Task) → AllByRecursion (IsWaiting luns lim) others → KeepsTasks others [] (map waiting_of others)
keeps_waiting luns lim [] all = refl
keeps_waiting luns lim (next ∷ others) all =
    let is = all.0 in (
      waiting_of next,
      record {
        lun = refl;
        tag = refl;
        command = refl;
        expected = refl;
        asked = sym is.none_asked;
        come = sym is.none_come;
        last = drop-nil (next.come - length {A = ℕ} []);
        sent = sym is.none_sent;
      },
      refl,
    )

pub none_programmed : (luns : ℕ) (lim : Limits) (others : List Task) → AllByRecursion (IsWaiting luns lim) others → programmed_of others ≡ 0
none_programmed luns lim [] all = refl
none_programmed luns lim (next ∷ others) all = all.0.none_programmed

-- a device with these sizes stands at a history that these tasks and this unit stand at
record Judged : Type 0 where
  s : Sizes
  kept : Kept

pub stands_now : (s : Sizes) (kept : Kept) (now : DeviceState) (erases : ℕ) (tasks : List Waiting) (first : First) (e : History) → s ≡ sizes_of now → kept ≡ kept_of erases now tasks
    → KeepsTasks now.tasks now.held tasks
    → now.counts.erased ≡ min erases (2 ^ 64 - 1) → IsSound now
    → Stands s first kept e → DeviceStands now first e
stands_now s kept now erases tasks first e sized same keeps counted sound at =
    let pair : record { s = s; kept = kept } ≡ record { s = sizes_of now; kept = kept_of erases now tasks } = λ i. record { s = sized i; kept = same i } in
    record { tasks = tasks; erases = erases; keeps = keeps; counted = counted; sound = sound; stands = subst (λ (j : Judged). Stands j.s first j.kept e) pair at }

pub sizes_same : (d now : DeviceState) → IsSameStore d.store now.store → now.shape ≡ d.shape → sizes_of d ≡ sizes_of now
sizes_same d now same shape = λ i. sizes (sym same.luns i) (limits_of (sym shape i)) (sym same.geometry i)

-- a store with the same pages has the same unit
pub kept_same : (d now : DeviceState) (erases : ℕ) (tasks : List Waiting) (programmed : ℕ) → IsSameStore d.store now.store → now.store.pages ≡ d.store.pages → programmed ≡ programmed_of now.tasks
    → record (kept_of erases d tasks) { programmed = programmed } ≡ kept_of erases now tasks
kept_same d now erases tasks programmed same pages is = λ i. record {
  tasks = tasks;
  on = true;
  unit = unit_of (sym same.luns i) (sym same.units i) (sym pages i);
  programmed = is i;
  next = next_seq (sym pages i);
  free = erased_count (sym pages i);
  erases = erases;
}

-- what is known of a device that goes on by one step
pub record IsReady (d : DeviceState) (task : Task) (others : List Task) (tasks : List Waiting) : Type 0 where
  pub ok : IsTaskOk d.store.luns (limits_of d.shape) task
  pub units : d.store.units ≡ d.shape.units
  pub goes : task.come ≡ task.asked
  pub part : length d.held ≤ task.come
  pub only : IsFirst task others d.held tasks
  pub waiting : AllByRecursion (IsWaiting d.store.luns (limits_of d.shape)) others

-- a step of the first task: the device before and after it, the task, those behind it, and the history that the device stood at
pub record Turn : Type 0 where
  pub old : DeviceState
  pub new : DeviceState
  pub task : Task
  pub others : List Task
  pub first : First
  pub history : History
  pub was : old.tasks ≡ task ∷ others
  pub at : DeviceStands old first history
  pub ready : IsReady old task others at.tasks
  pub few : length old.store.pages ≤ 65536
  pub whole : length old.store.pages ≡ old.store.geometry.blocks * old.store.geometry.pages
  pub same : IsSameStore old.store new.store
  pub shape : new.shape ≡ old.shape
  pub erased : new.counts.erased ≡ old.counts.erased
  pub sound : IsSound new

-- the first task, as the history has it
abbrev pub head_in : Turn → Waiting
head_in turn = flat turn.task turn.ready.only.come

-- the tasks behind it
abbrev pub others_in : Turn → List Waiting
others_in turn = map waiting_of turn.others

-- what the device kept, with other tasks and with so many blocks of the first one programmed
abbrev kept_in : Turn → List Waiting → ℕ → Kept
kept_in turn tasks programmed = record (kept_of turn.at.erases turn.old tasks) { programmed = programmed }

-- these tasks stand at a history
abbrev StandsIn : Turn → List Waiting → ℕ → History → Type 0
StandsIn turn tasks programmed e = Stands (sizes_of turn.old) turn.first (kept_in turn tasks programmed) e

fits_wire : (turn : Turn) → FitsWire (sizes_of turn.old) (head_in turn)
fits_wire turn = record { block = omega arith; expected = turn.ready.ok.accepted.expected_fits }

-- it stood with the head before the others
pub at_head : (turn : Turn) → Stands (sizes_of turn.old) turn.first (kept_of turn.at.erases turn.old (head_in turn ∷ others_in turn)) turn.history
at_head turn = subst (λ (ts : List Waiting). Stands (sizes_of turn.old) turn.first (kept_of turn.at.erases turn.old ts) turn.history) turn.ready.only.first turn.at.stands

pub tasks_at : (turn : Turn) → tasks_after (sizes_of turn.old) turn.history ≡ head_in turn ∷ others_in turn
tasks_at turn = turn.at.stands.keeps ∙ turn.ready.only.first

counted_in : (turn : Turn) → turn.new.counts.erased ≡ min turn.at.erases (2 ^ 64 - 1)
counted_in turn = turn.erased ∙ turn.at.counted

-- the tasks that are kept where the data that are held stay, or are let go
holds_same : (turn : Turn) (rest : Task) → rest.come ≡ turn.task.come → turn.new.held ≡ turn.old.held
    → KeepsTasks (rest ∷ turn.others) turn.new.held (flat rest turn.ready.only.come ∷ others_in turn)
holds_same turn rest come held =
    let only = turn.ready.only in
    let last : drop (rest.come - length turn.old.held) only.come ≡ turn.old.held = ap (λ (n : ℕ). drop (n - length turn.old.held) only.come) come ∙ only.last in
    subst (λ (h : List ℕ). KeepsTasks (rest ∷ turn.others) h (flat rest only.come ∷ others_in turn)) (sym held) (keeps_flat rest turn.others turn.old.held only.come (only.counted ∙ sym come) last)

holds_none : (turn : Turn) (rest : Task) → rest.come ≡ turn.task.come → turn.new.held ≡ [] → KeepsTasks (rest ∷ turn.others) turn.new.held (flat rest turn.ready.only.come ∷ others_in turn)
holds_none turn rest come held =
    let only = turn.ready.only in
    let none : drop (rest.come - length {A = ℕ} []) only.come ≡ [] = drop_of_length-le only.come (omega (arith, only.counted, come)) in
    subst (λ (h : List ℕ). KeepsTasks (rest ∷ turn.others) h (flat rest only.come ∷ others_in turn)) (sym held) (keeps_flat rest turn.others [] only.come (only.counted ∙ sym come) none)

-- the device stands with what is left of its head, where its store has the same pages
finish : (turn : Turn) (rest : Task) (left : Waiting) (e : History) → turn.new.store.pages ≡ turn.old.store.pages → turn.new.tasks ≡ rest ∷ turn.others → rest.programmed ≡ turn.task.programmed
    → left ≡ flat rest turn.ready.only.come → KeepsTasks (rest ∷ turn.others) turn.new.held (flat rest turn.ready.only.come ∷ others_in turn)
    → StandsIn turn (left ∷ others_in turn) (programmed_of turn.old.tasks) e → DeviceStands turn.new turn.first e
finish turn rest left e pages head programmed is keeps at =
    let tasks = flat rest turn.ready.only.come ∷ others_in turn in
    let count = programmed_of turn.old.tasks in
    let same : count ≡ programmed_of turn.new.tasks = ap programmed_of turn.was ∙ sym programmed ∙ sym (ap programmed_of head) in
    stands_now (sizes_of turn.old) (kept_in turn (left ∷ others_in turn) count) turn.new turn.at.erases tasks turn.first e (sizes_same turn.old turn.new turn.same turn.shape)
    (ap (λ (t : Waiting). kept_in turn (t ∷ others_in turn) count) is ∙ kept_same turn.old turn.new turn.at.erases tasks count turn.same pages same)
    (subst (λ (ts : List Task). KeepsTasks ts turn.new.held tasks) (sym head) keeps) (counted_in turn) turn.sound at

-- what a command sends and takes is the same to the flat unit
pub given_is : (s : Sizes) (lim : Limits) (command : Cdb) → s.block ≡ 4096 → s.units ≡ lim.units → s.per_region ≡ lim.per_region → s.per_sub ≡ lim.per_sub → IsServed lim command
    → Rattle.flat_unit.specs.Command.bytes_given s command ≡ bytes_given lim command
given_is s lim (Read lba n) block units region sub ok = ap (λ (b : ℕ). b * n) block
given_is s lim (HpbRead lba entry n id) block units region sub ok = ap (λ (b : ℕ). b * n) block
given_is s lim (ReadBuffer number part len) block units region sub ok =
    λ i. let l : Limits = record { units = units i; per_region = region i; per_sub = sub i } in min len (8 * blocks_of l number part)
given_is s lim (Write lba n) block units region sub ok = refl
given_is s lim TestReady block units region sub ok = refl
given_is s lim Capacity block units region sub ok = refl
given_is s lim (Sync lba n) block units region sub ok = refl
given_is s lim (InactOne number) block units region sub ok = refl
given_is s lim InactAll block units region sub ok = refl
given_is s lim (Prefetch lba id len) block units region sub ok = refl

taken_is : (s : Sizes) (lim : Limits) (command : Cdb) → s.block ≡ 4096 → IsServed lim command → Rattle.flat_unit.specs.Command.bytes_taken s command ≡ bytes_taken command
taken_is s lim (Write lba n) block ok = ap (λ (b : ℕ). b * n) block
taken_is s lim (Read lba n) block ok = refl
taken_is s lim (HpbRead lba entry n id) block ok = refl
taken_is s lim (ReadBuffer region sub len) block ok = refl
taken_is s lim TestReady block ok = refl
taken_is s lim Capacity block ok = refl
taken_is s lim (Sync lba n) block ok = refl
taken_is s lim (InactOne region) block ok = refl
taken_is s lim InactAll block ok = refl
taken_is s lim (Prefetch lba id len) block ok = refl

-- what a command that reads blocks is to the flat unit
pub record ReadsAt (s : Sizes) (task : Waiting) (command : Cdb) : Type 0 where
  pub place : next_place s task command ≡ Some (record { lun = task.lun; lba = first_block command + task.sent / s.block })
  pub piece : (block : List ℕ) → length block ≡ s.block → IsPiece s task command block
  pub may : MayEndWith command read_failed

pub reads_at : (s : Sizes) (task : Waiting) (command : Cdb) → ReadsBlocks command → ReadsAt s task command
reads_at s task (Read lba n) is = record { place = refl; piece = λ block size. size; may = inl refl }
reads_at s task (HpbRead lba entry n id) is = record { place = refl; piece = λ block size. size; may = inl refl }
reads_at s task _ is = absurd is

-- the next block of a read is sent
steps_shown : (turn : Turn) (rest : Task) (out : List ℕ) → SendsBlock turn.old.store turn.task rest out → turn.new.store.pages ≡ turn.old.store.pages → turn.new.held ≡ turn.old.held
    → turn.new.tasks ≡ rest ∷ turn.others
    → DeviceStands turn.new turn.first (turn.history ▹ Device out)
steps_shown turn rest out shows pages held head =
    let d = turn.old in
    let task = turn.task in
    let ready = turn.ready in
    let t = head_in turn in
    let s = sizes_of d in
    let moves = reads d.store.luns (limits_of d.shape) task ready.ok shows.reads in
    let flat_read = reads_at s t task.command shows.reads in
    let p : Place = nth_place task (task.sent / 4096) in
    let given = given_is s (limits_of d.shape) task.command refl refl refl refl ready.ok.accepted.served in
    let inside : IsPlace d.store.luns d.store.units p = record { lun = ready.ok.accepted.lun; lba = omega (arith, shows.more, moves.gives, moves.within, ready.units) } in
    let placed : IsPlace s.luns s.units p = record { lun = ready.ok.accepted.lun; lba = omega (arith, inside.lba, ready.units) } in
    let block = block_of d.store.pages p in
    let unit = unit_of d.store.luns d.store.units d.store.pages in
    let stored : block ≡ block_at s unit p =
    sym (get_or-unit_of-place d.store.luns d.store.units d.store.pages p inside) ∙ ap (λ (u : ℕ). Rattle.std.specs.Prelude.slice_index_or unit (index_of u p) []) ready.units in
    let allows : Allows s t (Data block) = (omega (arith, shows.more, ready.ok.accepted.given, given), flat_read.piece block shows.size) in
    let step = stands_shown s turn.first (kept_of turn.at.erases d (t ∷ others_in turn)) turn.history t (others_in turn) p block (fits_wire turn) flat_read.place placed allows stored (at_head turn) in
    let now_task : Task = record task { sent = task.sent + 4096; tried = false } in
    finish turn now_task (with_sent (length block) t) (turn.history ▹ Device out) pages (head ∙ ap (λ (r : Task). r ∷ turn.others) shows.task_is) refl
    (ap (λ (k : ℕ). record t { sent = task.sent + k }) shows.size) (holds_same turn now_task refl held)
    (subst (λ (b : List ℕ). StandsIn turn (with_sent (length block) t ∷ others_in turn) (programmed_of d.tasks) (turn.history ▹ Device b)) (sym shows.sent) step)

-- entries are sent
steps_listed : (turn : Turn) (rest : Task) (count : ℕ) (out : List ℕ) → Lists (limits_of turn.old.shape) turn.old.store turn.task rest count out → turn.new.store.pages ≡ turn.old.store.pages
    → turn.new.held ≡ []
    → turn.new.tasks ≡ rest ∷ turn.others → DeviceStands turn.new turn.first (turn.history ▹ Device out)
steps_listed turn rest count out lists pages held head =
    let d = turn.old in
    let task = turn.task in
    let ready = turn.ready in
    let t = head_in turn in
    let s = sizes_of d in
    let is = lists.read_buffer.3 in
    let entries = entries_of d.store.pages task.lun (first_listed (limits_of d.shape) task.command + task.sent / 8) ((count + 7) / 8) in
    let bytes = take count entries in
    let whole : length entries ≡ 8 * ((count + 7) / 8) = length-entries_from _ _ ((count + 7) / 8) in
    let size : length bytes ≡ count = length-take-le _ _ (omega (arith, whole)) in
    let given = given_is s (limits_of d.shape) task.command refl refl refl refl ready.ok.accepted.served in
    let more : task.sent < Rattle.flat_unit.specs.Command.bytes_given s task.command = omega (arith, lists.more, ready.ok.accepted.given, given) in
    let piece : IsPiece s t task.command bytes =
    subst (λ (c : Cdb). IsPiece s t c bytes) (sym is)
    (size ∙ (lists.counted ∙ ap (λ (n : ℕ). min 4096 (n - task.sent)) (ready.ok.accepted.given ∙ (sym given ∙ ap (Rattle.flat_unit.specs.Command.bytes_given s) is)))) in
    let next : next_place s t task.command ≡ None = ap (next_place s t) is in
    let step = stands_data s turn.first (kept_of turn.at.erases d (t ∷ others_in turn)) turn.history t (others_in turn) bytes (fits_wire turn) next (more, piece) (at_head turn) in
    let now_task : Task = record task { sent = task.sent + count } in
    finish turn now_task (with_sent (length bytes) t) (turn.history ▹ Device out) pages (head ∙ ap (λ (r : Task). r ∷ turn.others) lists.task_is) refl
    (ap (λ (k : ℕ). record t { sent = task.sent + k }) size) (holds_none turn now_task refl held)
    (subst (λ (b : List ℕ). StandsIn turn (with_sent (length bytes) t ∷ others_in turn) (programmed_of d.tasks) (turn.history ▹ Device b)) (sym lists.sent) step)

-- the capacity of the unit is sent
steps_told : (turn : Turn) (rest : Task) (out : List ℕ) → Tells turn.old.store.units turn.task rest out → turn.new.store.pages ≡ turn.old.store.pages → turn.new.held ≡ turn.old.held
    → turn.new.tasks ≡ rest ∷ turn.others
    → DeviceStands turn.new turn.first (turn.history ▹ Device out)
steps_told turn rest out tells pages held head =
    let d = turn.old in
    let task = turn.task in
    let t = head_in turn in
    let s = sizes_of d in
    let is = tells.command in
    let bytes = capacity_of d.shape.units in
    let size : length bytes ≡ 8 = omega arith in
    let allows : Allows s t (Data bytes) = (
      subst (λ (c : Cdb). task.sent < Rattle.flat_unit.specs.Command.bytes_given s c) (sym is) (omega (arith, tells.none_sent)),
      subst (λ (c : Cdb). IsPiece s t c bytes) (sym is) refl,
    ) in
    let next : next_place s t task.command ≡ None = ap (next_place s t) is in
    let step = stands_data s turn.first (kept_of turn.at.erases d (t ∷ others_in turn)) turn.history t (others_in turn) bytes (fits_wire turn) next allows (at_head turn) in
    let now_task : Task = record task { sent = 8 } in
    let sent : out ≡ upiu_out (upiu_of s t (Data bytes)) =
    tells.sent ∙ ap (λ (u : ℕ). upiu_out (data_upiu DataIn task.lun task.tag task.sent (capacity_of u))) turn.ready.units in
    let count : task.sent + length bytes ≡ 8 = omega (arith, tells.none_sent) in
    finish turn now_task (with_sent (length bytes) t) (turn.history ▹ Device out) pages (head ∙ ap (λ (r : Task). r ∷ turn.others) tells.task_is) refl
    (ap (λ (k : ℕ). record t { sent = k }) count) (holds_same turn now_task refl held)
    (subst (λ (b : List ℕ). StandsIn turn (with_sent (length bytes) t ∷ others_in turn) (programmed_of d.tasks) (turn.history ▹ Device b)) (sym sent) step)

-- the next data of a command are asked for
steps_asked : (turn : Turn) (rest : Task) (count : ℕ) (out : List ℕ) → Asks turn.task rest count out → turn.new.store.pages ≡ turn.old.store.pages → turn.new.held ≡ []
    → turn.new.tasks ≡ rest ∷ turn.others
    → DeviceStands turn.new turn.first (turn.history ▹ Device out)
steps_asked turn rest count out asks pages held head =
    let d = turn.old in
    let task = turn.task in
    let ready = turn.ready in
    let t = head_in turn in
    let s = sizes_of d in
    let flat_asks = asks_flat s t task.command (limits_of d.shape) refl ready.ok.accepted.served asks.more ready.ok.within.whole_asked in
    let taken : bytes_taken task.command ≡ Rattle.flat_unit.specs.Command.bytes_taken s task.command = sym flat_asks.0 in
    let at_once : count ≡ asked_at_once s t task.command = asks.counted ∙ flat_asks.1 in
    let allows : Allows s t (Ask count) = (sym ready.goes ∙ sym ready.only.counted, subst (λ (n : ℕ). task.asked < n) taken asks.more, at_once) in
    let step = stands_asked s turn.first (kept_of turn.at.erases d (t ∷ others_in turn)) turn.history t (others_in turn) count (fits_wire turn) allows (at_head turn) in
    let now_task : Task = record task { asked = task.asked + count } in
    let left = flat now_task ready.only.come in
    finish turn now_task left (turn.history ▹ Device out) pages (head ∙ ap (λ (r : Task). r ∷ turn.others) asks.task_is) refl refl (holds_none turn now_task refl held)
    (subst (λ (b : List ℕ). StandsIn turn (left ∷ others_in turn) (programmed_of d.tasks) (turn.history ▹ Device b)) (sym asks.sent) step)

-- a UPIU is sent, and the head goes on
steps_sent : (turn : Turn) (what : Transfer) (rest : Task) (out : List ℕ) → Transfers (limits_of turn.old.shape) turn.old.store what turn.task rest out → turn.new.store.pages ≡ turn.old.store.pages
    → turn.new.held ≡ held_after what turn.old.held → turn.new.tasks ≡ rest ∷ turn.others → DeviceStands turn.new turn.first (turn.history ▹ Device out)
steps_sent turn LookedUp rest out sends = steps_shown turn rest out sends
steps_sent turn ByEntry rest out sends = steps_shown turn rest out sends
steps_sent turn EntryList rest out lists = steps_listed turn rest lists.0 out lists.1
steps_sent turn UnitCapacity rest out tells = steps_told turn rest out tells
steps_sent turn Ready rest out asks = steps_asked turn rest asks.0 out asks.1

-- a part of the data that are held is a part of all that have come
held_part : (xs held : List ℕ) (come start offset : ℕ) → drop (come - length held) xs ≡ held → length held ≤ come → start + come ≡ offset + length held
    → slice_range xs offset (offset + 4096) ≡ slice_range held start (start + 4096)
held_part xs held come start offset last part starts =
    let before = come - length held in
    let at : before + start ≡ offset = omega arith in
    let whole : (offset + 4096) - offset ≡ (start + 4096) - start = omega arith in
    ap (λ (n : ℕ). take n (drop offset xs)) whole
    ∙ (ap (λ (n : ℕ). take ((start + 4096) - start) (drop n xs)) (sym at)
    ∙ (ap (λ (ys : List ℕ). take ((start + 4096) - start) ys) (sym (drop-drop start before xs))
    ∙ ap (λ (ys : List ℕ). take ((start + 4096) - start) (drop start ys)) last))

-- a block of a write is programmed
steps_programmed : (turn : Turn) (rest : Task) (start : ℕ) → Programs turn.old.store turn.new.store turn.old.held turn.task rest start → turn.new.held ≡ turn.old.held
    → turn.new.tasks ≡ rest ∷ turn.others
    → DeviceStands turn.new turn.first turn.history
steps_programmed turn rest start programs held head =
    let d = turn.old in
    let now = turn.new in
    let task = turn.task in
    let ready = turn.ready in
    let xs = ready.only.come in
    let ws = others_in turn in
    let t = head_in turn in
    let s = sizes_of d in
    let k = task.programmed in
    let command = is_written task.command programs.write in
    let lba = command.0 in
    let n = command.1 in
    let is = command.2 in
    let taken : bytes_taken task.command ≡ 4096 * n = ap bytes_taken is in
    let standing : StandsIn turn (t ∷ ws) k turn.history = subst (λ (m : ℕ). StandsIn turn (t ∷ ws) m turn.history) (ap programmed_of turn.was) (at_head turn) in
    let below : k < n = omega (arith, programs.more, ready.ok.within.come, ready.ok.within.asked, taken) in
    let whole_asked = asked_whole task.command task.asked n is ready.ok.within.whole_asked in
    let blocks : k < length xs / 4096 = omega (arith, programs.more, ready.goes, whole_asked, ready.only.counted) in
    let come : k < blocks_of_head s (t ∷ ws) = subst (λ (c : Cdb). k < whole_blocks s c xs) (sym is) blocks in
    let unit = unit_of d.store.luns d.store.units d.store.pages in
    let whole : length unit ≡ s.luns * s.units = length-unit_of d.store.luns d.store.units d.store.pages ∙ ap (λ (u : ℕ). d.store.luns * u) ready.units in
    let free : erased_count now.store.pages + 1 ≡ erased_count d.store.pages =
    ap (λ (chip : List Page). erased_count chip + 1) programs.writes.program.programmed
    ∙ sym (erased_count-programmed d.store.pages programs.writes.program.page _ _ programs.writes.program.inside programs.writes.program.erased) in
    let step = stands_programmed s turn.first (kept_in turn (t ∷ ws) k) turn.history t ws lba n (erased_count now.store.pages) is below come whole free standing in
    let now_task : Task = record task { programmed = k + 1 } in
    let is_head : now.tasks ≡ now_task ∷ turn.others = head ∙ ap (λ (r : Task). r ∷ turn.others) programs.task_is in
    let place : ℕ → ℕ → ℕ = λ units lba_of. let p : Place = record { lun = task.lun; lba = lba_of + k } in index_of units p in
    let index : place s.units lba ≡ place d.store.units (first_block task.command) =
    ap (λ (u : ℕ). place u lba) (sym ready.units) ∙ ap (λ (l : ℕ). place d.store.units l) (sym (ap first_block is)) in
    let bytes = held_part xs d.held task.come start (4096 * k) ready.only.last ready.part programs.starts in
    let new_unit : slice_set unit (place s.units lba) (slice_range xs (4096 * k) (4096 * k + 4096)) ≡ unit_of now.store.luns now.store.units now.store.pages =
    ap (λ (i : ℕ). slice_set unit i (slice_range xs (4096 * k) (4096 * k + 4096))) index
    ∙ (ap (λ (block : List ℕ). slice_set unit (place d.store.units (first_block task.command)) block) bytes
    ∙ (sym programs.writes.unit ∙ (λ i. unit_of (sym turn.same.luns i) (sym turn.same.units i) now.store.pages))) in
    let next : next_seq d.store.pages + 1 ≡ next_seq now.store.pages =
    sym (ap next_seq programs.writes.program.programmed ∙ next_seq-programmed d.store.pages programs.writes.program.page _ _ programs.writes.program.inside refl) in
    let programmed : k + 1 ≡ programmed_of now.tasks = sym (ap programmed_of is_head) in
    stands_now s _ now turn.at.erases (flat now_task xs ∷ ws) turn.first turn.history (sizes_same d now turn.same turn.shape)
    (λ i. record { tasks = flat now_task xs ∷ ws; on = true; unit = new_unit i; programmed = programmed i; next = next i; free = erased_count now.store.pages; erases = turn.at.erases })
    (subst (λ (ts : List Task). KeepsTasks ts now.held (flat now_task xs ∷ ws)) (sym is_head) (holds_same turn now_task refl held)) (counted_in turn) turn.sound step

-- an entry was tried in vain
steps_missed : (turn : Turn) (rest : Task) → Misses turn.task rest → turn.new.store.pages ≡ turn.old.store.pages → turn.new.held ≡ turn.old.held
    → turn.new.tasks ≡ rest ∷ turn.others
    → DeviceStands turn.new turn.first turn.history
steps_missed turn rest misses pages held head =
    let now_task : Task = record turn.task { tried = true } in
    finish turn now_task (head_in turn) turn.history pages (head ∙ ap (λ (r : Task). r ∷ turn.others) misses.task_is) refl refl (holds_same turn now_task refl held) (at_head turn)

-- the device stands without its head
without : (turn : Turn) (e : History) → (turn.new.tasks ≡ turn.others) × (turn.new.held ≡ []) → turn.new.store.pages ≡ turn.old.store.pages → StandsIn turn (others_in turn) 0 e
    → DeviceStands turn.new turn.first e
without turn e left pages at =
    let ws = others_in turn in
    let waiting = turn.ready.waiting in
    let luns = turn.old.store.luns in
    let lim = limits_of turn.old.shape in
    stands_now (sizes_of turn.old) (kept_in turn ws 0) turn.new turn.at.erases ws turn.first e (sizes_same turn.old turn.new turn.same turn.shape)
    (kept_same turn.old turn.new turn.at.erases ws 0 turn.same pages (sym (ap programmed_of left.0 ∙ none_programmed luns lim turn.others waiting)))
    (subst (λ (ts : List Task). KeepsTasks ts turn.new.held ws) (sym left.0) (subst (λ (h : List ℕ). KeepsTasks turn.others h ws) (sym left.1) (keeps_waiting luns lim turn.others waiting)))
    (counted_in turn) turn.sound at

write_or_not : (command : Cdb) → (is_write command ≡ false) ⊎ ((lba : ℕ) × (n : ℕ) × (command ≡ Write lba n))
write_or_not (Write lba n) = inr (lba, n, refl)
write_or_not _ = inl refl

-- the head is complete, and is answered GOOD
steps_good : (turn : Turn) (segment out : List ℕ) → length segment < 2 ^ 16 → IsComplete turn.task
    → out ≡ upiu_out (told_upiu segment (Good turn.task.lun turn.task.tag (turn.task.expected - turn.task.sent - turn.task.come)))
    → (turn.new.tasks ≡ turn.others) × (turn.new.held ≡ []) → turn.new.store.pages ≡ turn.old.store.pages → DeviceStands turn.new turn.first (turn.history ▹ Device out)
steps_good turn segment out short complete sent none pages =
    let d = turn.old in
    let task = turn.task in
    let ready = turn.ready in
    let ws = others_in turn in
    let t = head_in turn in
    let s = sizes_of d in
    let gives = given_is s (limits_of d.shape) task.command refl refl refl refl ready.ok.accepted.served in
    let takes = taken_is s (limits_of d.shape) task.command refl ready.ok.accepted.served in
    let allows : Allows s t (GoodAnswer segment) = (complete.sent ∙ (ready.ok.accepted.given ∙ sym gives), ready.only.counted ∙ (complete.come ∙ sym takes), short) in
    let residual : task.expected - task.sent - task.come ≡ task.expected - needed s task.command = omega (arith, complete.sent, complete.come, ready.ok.accepted.given, gives, takes) in
    let is_out : out ≡ upiu_out (upiu_of s t (GoodAnswer segment)) = sent ∙ ap (λ (r : ℕ). upiu_out (response_upiu task.lun task.tag 0x00 r segment)) residual in
    let After : List ℕ → Type 0 = λ b. StandsIn turn ws 0 (turn.history ▹ Device b) in
    let kept = kept_of turn.at.erases d (t ∷ ws) in
    let step : After (upiu_out (upiu_of s t (GoodAnswer segment))) = elim (write_or_not task.command) [
      | inl other ↦ stands_ended s turn.first kept turn.history t ws segment (fits_wire turn) other allows (at_head turn)
      | inr write ↦
          let taken : bytes_taken task.command ≡ 4096 * write.1 = ap bytes_taken write.2 in
          let done = all_programmed task (ap is_write write.2) complete.programmed in
          let all : programmed_of d.tasks ≡ write.1 = ap programmed_of turn.was ∙ omega (arith, done, complete.come, taken) in
          stands_good s turn.first kept turn.history t ws write.0 write.1 segment (fits_wire turn) write.2 all allows (at_head turn)
    ] in
    without turn (turn.history ▹ Device out) none pages (subst After (sym is_out) step)

-- the head is answered with sense, for a cause in the history
pub steps_cut : (turn : Turn) (e : History) (cause : Cause) (sense : FixedSense) (out : List ℕ) → cause_sense cause ≡ sense → MayEndWith turn.task.command sense
    → HasCauseFor (sizes_of turn.old) ⊥ turn.first.next e sense.asc → out ≡ upiu_out (reply_upiu (check turn.task cause))
    → (turn.new.tasks ≡ turn.others) × (turn.new.held ≡ []) → turn.new.store.pages ≡ turn.old.store.pages
    → Stands (sizes_of turn.old) turn.first (kept_of turn.at.erases turn.old (head_in turn ∷ others_in turn)) e → DeviceStands turn.new turn.first (e ▹ Device out)
steps_cut turn e cause sense out is may has_cause sent none pages standing =
    let task = turn.task in
    let t = head_in turn in
    let ws = others_in turn in
    let s = sizes_of turn.old in
    let step = stands_cut s turn.first (kept_of turn.at.erases turn.old (t ∷ ws)) e t ws sense (fits_wire turn) may has_cause standing in
    let is_out : out ≡ upiu_out (upiu_of s t (CheckAnswer sense)) =
    sent ∙ (ap (λ (f : FixedSense). upiu_out (response_upiu task.lun task.tag 0x02 (task.expected - task.sent - task.come) (fixed_out f))) is
    ∙ ap (λ (n : ℕ). upiu_out (response_upiu task.lun task.tag 0x02 (task.expected - task.sent - n) (fixed_out sense))) (sym turn.ready.only.counted)) in
    let After : List ℕ → Type 0 = λ b. StandsIn turn ws 0 (e ▹ Device b) in
    without turn (e ▹ Device out) none pages (subst After (sym is_out) step)

-- no sequence number is left for a block of a write
steps_full : (turn : Turn) (out : List ℕ) → HasNoNumber turn.old.store turn.task → out ≡ upiu_out (reply_upiu (check turn.task NoNumber))
    → (turn.new.tasks ≡ turn.others) × (turn.new.held ≡ []) → turn.new.store.pages ≡ turn.old.store.pages → DeviceStands turn.new turn.first (turn.history ▹ Device out)
steps_full turn out full sent none pages =
    let task = turn.task in
    let ready = turn.ready in
    let xs = ready.only.come in
    let s = sizes_of turn.old in
    let command = is_written task.command full.write in
    let whole_asked = asked_whole task.command task.asked command.1 command.2 ready.ok.within.whole_asked in
    let may : MayEndWith task.command no_number = subst (λ (c : Cdb). MayEndWith c no_number) (sym command.2) (inr (inl refl)) in
    let standing = at_head turn in
    let blocks : task.programmed < length xs / 4096 = omega (arith, full.more, ready.goes, whole_asked, ready.only.counted) in
    let come : task.programmed < blocks_of_head s (head_in turn ∷ others_in turn) = subst (λ (c : Cdb). task.programmed < whole_blocks s c xs) (sym command.2) blocks in
    let kept : programmed_of turn.old.tasks ≡ task.programmed = ap programmed_of turn.was in
    let few : 2 ^ 62 ≤ turn.first.next + moves turn.history + blocks_come s turn.history = omega (arith, standing.at_most, come, kept, full.ended) in
    steps_cut turn turn.history NoNumber no_number out refl may (cause_number s ⊥ turn.first.next turn.history few) sent none pages standing

-- a read fails
steps_unread : (turn : Turn) (op : ChipOp) (reply : Reply) (out : List ℕ) → ReadsBlocks turn.task.command → op ≡ ReadCall → reply ≡ check turn.task ReadFailed
    → out ≡ upiu_out (reply_upiu reply)
    → (turn.new.tasks ≡ turn.others) × (turn.new.held ≡ []) → turn.new.store.pages ≡ turn.old.store.pages → DeviceStands turn.new turn.first (turn.history ▹ CallFailed op ▹ Device out)
steps_unread turn op reply out read call answer sent none pages =
    let e = turn.history in
    let next = turn.first.next in
    let s = sizes_of turn.old in
    let standing = stands_failed s turn.first (kept_of turn.at.erases turn.old (head_in turn ∷ others_in turn)) e op (at_head turn) in
    let flat_read = reads_at s (head_in turn) turn.task.command read in
    let cause : HasCauseFor s ⊥ next (e ▹ CallFailed op) 0x11 = subst (λ (o : ChipOp). HasCauseFor s ⊥ next (e ▹ CallFailed o) 0x11) (sym call) (cause_read s ⊥ next e) in
    steps_cut turn (e ▹ CallFailed op) ReadFailed read_failed out refl flat_read.may cause (sent ∙ ap (λ (r : Reply). upiu_out (reply_upiu r)) answer) none pages standing

-- a call of the chip fails
steps_failed : (turn : Turn) (what : FailedCall) (reply : Reply) (out : List ℕ) → Fails turn.old.store turn.new.store turn.task what reply → out ≡ upiu_out (reply_upiu reply)
    → (turn.new.tasks ≡ turn.others) × (turn.new.held ≡ []) → turn.new.store.pages ≡ turn.old.store.pages → DeviceStands turn.new turn.first (turn.history ▹ CallFailed (op_of what) ▹ Device out)
steps_failed turn MappedRead reply out fails sent none pages = steps_unread turn ReadCall reply out fails.due.0 refl fails.answer sent none pages
steps_failed turn EntryRead reply out fails sent none pages =
    steps_unread turn ReadCall reply out fails.due.0 refl fails.answer sent none pages
steps_failed turn (WriteStep op) reply out fails sent none pages =
    let task = turn.task in
    let ready = turn.ready in
    let e = turn.history in
    let s = sizes_of turn.old in
    let standing = stands_failed s turn.first (kept_of turn.at.erases turn.old (head_in turn ∷ others_in turn)) e op (at_head turn) in
    let command = is_written task.command fails.due.0 in
    let may : MayEndWith task.command write_failed = subst (λ (c : Cdb). MayEndWith c write_failed) (sym command.2) (inl refl) in
    steps_cut turn (e ▹ CallFailed op) WriteFailed write_failed out refl may (cause_write s ⊥ turn.first.next e op)
    (sent ∙ ap (λ (r : Reply). upiu_out (reply_upiu r)) fails.answer) none pages standing

-- what is known of a device that isn't at rest
pub ready_of : (d : DeviceState) (task : Task) (others : List Task) (first : First) (e : History) (at : DeviceStands d first e) → d.tasks ≡ task ∷ others
    → IsQueue d.store.luns (limits_of d.shape) d.held d.tasks
    → d.store.units ≡ d.shape.units → task.come ≡ task.asked → IsReady d task others at.tasks
ready_of d task others first e at was queue units goes =
    let q = subst (IsQueue d.store.luns (limits_of d.shape) d.held) was queue in
    record { ok = q.0; units = units; goes = goes; part = q.1.part; only = first_is d.tasks d.held at.tasks task others was at.keeps; waiting = q.2 }

-- what a step came to, and what it tells: all but a step of the collector
pub steps : (segment : List ℕ) → length segment < 2 ^ 16 → (turn : Turn) (progress : Progress) (result : Stepped) (out : List ℕ) → IsOfTask progress
    → Advances (limits_of turn.old.shape) turn.old.store turn.new.store turn.old.held turn.new.held turn.task progress out
    → Leaves progress segment turn.others turn.new.tasks turn.new.held result out → DeviceStands turn.new turn.first (followed_by turn.history (events_of (group_of result out)))
steps segment short turn (Sends what rest) result out own advances leaves =
    rw (leaves.1) (steps_sent turn what rest out advances.0 (pages_of turn.old.store turn.new.store advances.1) advances.2 leaves.0)
steps segment short turn (Silent Missed rest) result out own advances leaves =
    rw (leaves.1) (steps_missed turn rest advances.0.0 (pages_of turn.old.store turn.new.store advances.0.1) advances.1 leaves.0)
steps segment short turn (Silent Programmed rest) result out own advances leaves = rw (leaves.1) (steps_programmed turn rest advances.0.0 advances.0.1 advances.1 leaves.0)
steps segment short turn (Silent (Collected moved) rest) result out own advances leaves = absurd own
steps segment short turn (Ended reply) result out own advances leaves =
    let is : (r : Reply) → reply ≡ r → out ≡ upiu_out (told_upiu segment r) = λ r same. leaves.3 ∙ ap (λ (r : Reply). upiu_out (told_upiu segment r)) same in
    let pages = pages_of turn.old.store turn.new.store advances.1 in
    rw (leaves.2) (elim advances.0 [
      | inl good ↦ steps_good turn segment out short good.0 (is _ good.1) (leaves.0, leaves.1) pages
      | inr full ↦ steps_full turn out full.0 (is _ full.1) (leaves.0, leaves.1) pages
    ])
steps segment short turn (Failed what reply) result out own advances leaves = rw (leaves.2) (steps_failed turn what reply out advances.0 leaves.3 (leaves.0, leaves.1) advances.1)
