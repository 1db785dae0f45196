-- A device that stands at a history stands at it with the events of one more call.
use Rattle.std.proofs.Common.{◌≡◌, ℕ, ◌+◌, ◌-◌, ◌*◌, ◌≤◌, ◌<◌, ◌^◌, Bool, true, false, ◌&&◌, List, [], ◌∷◌, ◌++◌}
use Rattle.std.proofs.Common.{length, Option, Some, None, Ok, refl, sym, ◌∙◌, ap, subst, arith, drop, nat_le, nat_lt}
use Rattle.std.proofs.Common.{◌==◌, slice_range, inl, inr, length-append}
use Rattle.std.specs.Prelude.{Contains, MatchBool, fold, if◌then◌else◌, slice_set}
use Rattle.std.specs.List.{list_any}
use Rattle.std.proofs.lemmas.Bool.{MatchBool-at_false, eq-eqb, eqb-true, leb-true, false≢true}
use Rattle.std.proofs.lemmas.Bool.Decides.{nat_tests}
use Rattle.std.proofs.lemmas.List.{get_or-set_same, get_or-set_other}
use Rattle.flash_pages.specs.declared.chip.ChipOp.{ChipOp}
use Rattle.flash_pages.specs.declared.chip.ChipOp.TheVariants.{Read as ReadPage}
use Rattle.flash_pages.specs.Place.{Place, IsPlace, index_of}
use Rattle.hpb_cdb.specs.declared.cdb.Cdb.{Cdb}
use Rattle.hpb_cdb.specs.declared.cdb.Cdb.TheVariants.{Read, Write, Capacity, HpbRead, ReadBuffer}
use Rattle.hpb_cdb.specs.Cdb.{is_in_unit}
use Rattle.hpb_sense.specs.declared.sense.FixedSense.{FixedSense}
use Rattle.hpb_sense.specs.Sense.{fixed_out}
use Rattle.upiu_wire.specs.declared.kind.Kind.TheVariants.{Command, DataOut, NopIn}
use Rattle.upiu_wire.specs.Upiu.{Upiu, IsConsistent, upiu_at, upiu_out}
use Rattle.upiu_wire.specs.Written.{blank_upiu, reject_upiu, response_upiu}
use Rattle.flat_unit.specs.declared.event.Event.{Event}
use Rattle.flat_unit.specs.declared.event.Event.TheVariants.{Host, Device, Reset, Moved, Failed}
use Rattle.flat_unit.specs.Causes.{HasCauseFor, MayBeFull, EventHasCause}
use Rattle.flat_unit.specs.Command.{is_write, bytes_taken, needed, command_of}
use Rattle.flat_unit.specs.Contents.{Block, Shown, Leaving, block_at, block_written, is_among, is_same, leaving_all, next_place, offset_in, shown_at, candidates}
use Rattle.flat_unit.specs.Harmless.{IsHarmless}
use Rattle.flat_unit.specs.History.{History, ◌▹◌}
use Rattle.flat_unit.specs.Queue.{after_reply, after_sent, on_after, task_of, tasks_changed, tasks_after, with_asked, with_command, with_data, with_sent}
use Rattle.flat_unit.specs.Reply.{check, effects_of, has_tag, reply_of}
use Rattle.flat_unit.specs.Sends.{Answer, Data, Ask, Good, Check, Allows, IsPiece, asked_at_once, upiu_of}
use Rattle.flat_unit.specs.Senses.{wrong_data}
use Rattle.flat_unit.specs.Sizes.{Sizes, limits_of}
use Rattle.flat_unit.specs.Sound.{IsCandidate}
use Rattle.flat_unit.specs.Stands.{Kept, First, HoldsAt, HasProgress, IsProgress, Stands, head_block, is_programmed, is_programmed_for}
use Rattle.flat_unit.specs.Task.{Task}
use Rattle.flat_unit.specs.Tasks.{IsQueue, IsServed}
use Rattle.flat_unit.specs.Writes.{blocks_ended, blocks_of_head, whole_blocks}
use Rattle.flat_unit.proofs.standing.Sending.{IsHeld, data_shows, goes_asked, goes_data, goes_ended, goes_harmless}
use Rattle.flat_unit.proofs.standing.Sending.{goes_shown, leaves_cut, leaves_good, leaves_no_write, stays_block}
use Rattle.flat_unit.proofs.standing.Sending.{left_with, no_progress, none_programmed, with_tasks}
use Rattle.flat_unit.proofs.History.{comes, data-consistent, kept_of_kind, owes_reply, ready-consistent, received_answered, received_kept, reject-consistent, response-consistent}
use Rattle.flat_unit.proofs.standing.Changes.{Goes, device_changes, ends_on, fold_left, holds_on, stands_sent}
use Rattle.flat_unit.proofs.Numbers.{more_blocks, range-append, same_lba, same_lun, within_bytes, within_luns}
use Rattle.flat_unit.proofs.queue.Tasks.{none_has, others_stay, queue_after}

-- the next block of a write is programmed at its place
abbrev pub programmed_more : Sizes → List Task → Task → (lba free : ℕ) → Kept → Kept
programmed_more s tasks task lba free kept = record {
  tasks = tasks;
  on = kept.on;
  unit = slice_set kept.unit (index_of s.units (record { lun = task.lun; lba = lba + kept.programmed })) (slice_range task.come (s.block * kept.programmed) (s.block * kept.programmed + s.block));
  programmed = kept.programmed + 1;
  next = kept.next + 1;
  free = free;
  erases = kept.erases;
}

-- a device that was just made stands at the empty history
pub stands_begun : (s : Sizes) (unit : List Block) (next free : ℕ)
    → Stands s (record { unit = unit; next = next; free = free }) (record { tasks = []; on = true; unit = unit; programmed = 0; next = next; free = free; erases = 0 }) []
stands_begun s unit next free = record {
  keeps = refl;
  switch = refl;
  progress = refl;
  holds = λ p place. (0, omega arith, refl);
  at_least = omega arith;
  at_most = omega arith;
  free = omega arith;
  sound = record { so_far = tt; nothing_owed = refl };
  caused = tt;
}

-- the same device, its tasks written otherwise
pub stands_with : (s : Sizes) (first : First) (kept : Kept) (e : History) (tasks : List Task) → kept.tasks ≡ tasks → Stands s first kept e → Stands s first (with_tasks tasks kept) e
stands_with s first kept e tasks is at = subst (λ (ts : List Task). Stands s first (with_tasks ts kept) e) is at

-- what holds of the tasks of a device that stands at a history
pub queue_of : (s : Sizes) (first : First) (kept : Kept) (e : History) → Stands s first kept e → IsQueue s kept.tasks
queue_of s first kept e at = subst (IsQueue s) at.keeps (queue_after s e)

-- what is programmed has come
pub progress_within : (s : Sizes) (programmed : ℕ) (tasks : List Task) → HasProgress s programmed tasks → programmed ≤ blocks_of_head s tasks
progress_within s programmed [] is = omega arith
progress_within s programmed (task ∷ _) is = by_command task.command task is
  where
    by_command : (command : Cdb) (task : Task) → IsProgress s programmed task command → programmed ≤ blocks_of_head s (task ∷ [])
    by_command (Write lba n) task is = is.1
    by_command _ task is = omega arith

-- a next number at the end is a cause
pub full_of : (s : Sizes) (first : First) (kept : Kept) (e : History) → Stands s first kept e → 2 ^ 62 ≤ kept.next → MayBeFull s first.next e
full_of s first kept e at ended = let e = progress_within s kept.programmed kept.tasks at.progress in omega (arith, at.at_most, e)

-- each ending's cause
pub cause_read : (s : Sizes) (foreign : Type 0) (next : ℕ) (e : History) → HasCauseFor s foreign next (e ▹ Failed ReadPage) 0x11
cause_read s foreign next e = record { read = λ _. (e, refl); write = λ is. absurd (omega arith); chip = λ is. absurd (omega arith); number = λ is. absurd (omega arith) }

pub cause_write : (s : Sizes) (foreign : Type 0) (next : ℕ) (e : History) (op : ChipOp) → HasCauseFor s foreign next (e ▹ Failed op) 0x0C
cause_write s foreign next e op = record { read = λ is. absurd (omega arith); write = λ _. tt; chip = λ is. absurd (omega arith); number = λ is. absurd (omega arith) }

pub cause_chip : (s : Sizes) (foreign : Type 0) (next : ℕ) (e : History) → HasCauseFor s foreign next (e ▹ Failed ReadPage) 0x44
cause_chip s foreign next e = record { read = λ is. absurd (omega arith); write = λ is. absurd (omega arith); chip = λ _. inl (e, refl); number = λ is. absurd (omega arith) }

pub cause_foreign : (s : Sizes) (foreign : Type 0) (next : ℕ) (e : History) → foreign → HasCauseFor s foreign next e 0x44
cause_foreign s foreign next e is_foreign = record { read = λ is. absurd (omega arith); write = λ is. absurd (omega arith); chip = λ _. inr is_foreign; number = λ is. absurd (omega arith) }

pub cause_number : (s : Sizes) (foreign : Type 0) (next : ℕ) (e : History) → MayBeFull s next e → HasCauseFor s foreign next e 0x27
cause_number s foreign next e full = record { read = λ is. absurd (omega arith); write = λ is. absurd (omega arith); chip = λ is. absurd (omega arith); number = λ _. full }

-- the sizes of what a device writes
pub record FitsWire (s : Sizes) (task : Task) : Type 0 where
  pub block : s.block < 2 ^ 16
  pub expected : task.expected < 2 ^ 32

pub piece_fits : (s : Sizes) (task : Task) (command : Cdb) (bytes : List ℕ) → s.block < 2 ^ 16 → IsPiece s task command bytes → length bytes < 2 ^ 16
piece_fits s task (Read lba n) bytes fits is = omega arith
piece_fits s task (HpbRead lba entry n id) bytes fits is = omega arith
piece_fits s task Capacity bytes fits is = let e : length bytes ≡ 8 = ap length is in omega arith
piece_fits s task (ReadBuffer region sub len) bytes fits is = omega arith
piece_fits s task _ bytes fits is = absurd is

asked_within : (s : Sizes) (task : Task) (command : Cdb) → asked_at_once s task command ≤ bytes_taken s command
asked_within s task (Write lba n) = omega arith
asked_within s task _ = omega arith

-- what a task allows can be written
pub answer_consistent : (s : Sizes) (task : Task) (a : Answer) → IsServed s task → FitsWire s task → Allows s task a → IsConsistent (upiu_of s task a)
answer_consistent s task (Data bytes) served fits allows =
    data-consistent task.lun task.tag task.sent bytes (omega (arith, served.expected, fits.expected, allows.0)) (piece_fits s task task.command bytes fits.block allows.1)
answer_consistent s task (Ask count) served fits allows =
    let within = asked_within s task task.command in
    ready-consistent task.lun task.tag task.asked count (omega (arith, served.expected, fits.expected, allows.1)) (omega (arith, served.expected, fits.expected, allows.2, within))
answer_consistent s task (Good segment) served fits allows =
    response-consistent task.lun task.tag 0 (task.expected - needed s task.command) segment (omega (arith, fits.expected)) allows.2
answer_consistent s task (Check sense) served fits allows =
    response-consistent task.lun task.tag 2 (task.expected - task.sent - length task.come) (fixed_out sense) (omega (arith, fits.expected)) (omega arith)

-- a read sends the block of its next place, which it doesn't program
reads_program_nothing : (s : Sizes) (programmed : ℕ) (task : Task) (command : Cdb) (p q : Place) → next_place s task command ≡ Some p → is_programmed_for programmed task command q ≡ false
reads_program_nothing s programmed task (Write lba n) p q is = cc
reads_program_nothing s programmed task _ p q is = refl

-- a read shows the next block of the unit
pub stands_shown : (s : Sizes) (first : First) (kept : Kept) (e : History) (task : Task) (others : List Task) (p : Place) (block : Block)
    → FitsWire s task → next_place s task task.command ≡ Some p → IsPlace s.luns s.units p → Allows s task (Data block) → block ≡ block_at s kept.unit p
    → Stands s first (with_tasks (task ∷ others) kept) e
    → Stands s first (with_tasks (with_sent (length block) task ∷ others) kept) (e ▹ Device (upiu_out (upiu_of s task (Data block))))
stands_shown s first kept e task others p block fits next place allows is at =
    let queue = queue_of s first (with_tasks (task ∷ others) kept) e at in
    let consistent = answer_consistent s task (Data block) queue.served.0 fits allows in
    let held : Contains (candidates s first.unit e p) (block_at s kept.unit p) =
    MatchBool-at_false _ _ (reads_program_nothing s kept.programmed task task.command p p next) (at.holds p place) in
    stands_sent s first (with_tasks (task ∷ others) kept) (with_tasks (with_sent (length block) task ∷ others) kept) e (upiu_of s task (Data block))
    (goes_shown s first kept e task others p block consistent next is at.progress)
    (Data block, allows, refl)
    (subst (λ (w : Option Shown). IsCandidate (candidates s first.unit e) w)
    (sym (data_shows s task others block ∙ ap (shown_at (upiu_of s task (Data block))) next))
    (subst (λ (b : Block). Contains (candidates s first.unit e p) b) (sym is) held))
    (λ none. none)
    at

-- any other command sends its data
pub stands_data : (s : Sizes) (first : First) (kept : Kept) (e : History) (task : Task) (others : List Task) (bytes : List ℕ)
    → FitsWire s task → next_place s task task.command ≡ None → Allows s task (Data bytes)
    → Stands s first (with_tasks (task ∷ others) kept) e
    → Stands s first (with_tasks (with_sent (length bytes) task ∷ others) kept) (e ▹ Device (upiu_out (upiu_of s task (Data bytes))))
stands_data s first kept e task others bytes fits next allows at =
    let queue = queue_of s first (with_tasks (task ∷ others) kept) e at in
    let consistent = answer_consistent s task (Data bytes) queue.served.0 fits allows in
    stands_sent s first (with_tasks (task ∷ others) kept) (with_tasks (with_sent (length bytes) task ∷ others) kept) e (upiu_of s task (Data bytes))
    (goes_data s first kept e task others bytes consistent next at.progress)
    (Data bytes, allows, refl)
    (subst (λ (w : Option Shown). IsCandidate (candidates s first.unit e) w)
    (sym (data_shows s task others bytes ∙ ap (shown_at (upiu_of s task (Data bytes))) next)) tt)
    (λ none. none)
    at

-- READY TO TRANSFER is sent
pub stands_asked : (s : Sizes) (first : First) (kept : Kept) (e : History) (task : Task) (others : List Task) (count : ℕ)
    → FitsWire s task → Allows s task (Ask count)
    → Stands s first (with_tasks (task ∷ others) kept) e
    → Stands s first (with_tasks (with_asked (task.asked + count) task ∷ others) kept) (e ▹ Device (upiu_out (upiu_of s task (Ask count))))
stands_asked s first kept e task others count fits allows at =
    let queue = queue_of s first (with_tasks (task ∷ others) kept) e at in
    let consistent = answer_consistent s task (Ask count) queue.served.0 fits allows in
    stands_sent s first (with_tasks (task ∷ others) kept) (with_tasks (with_asked (task.asked + count) task ∷ others) kept) e (upiu_of s task (Ask count))
    (goes_asked s first kept e task others count consistent at.progress)
    (Ask count, allows, refl) tt (λ none. none) at

-- the first task ends GOOD, where it is no write
pub stands_ended : (s : Sizes) (first : First) (kept : Kept) (e : History) (task : Task) (others : List Task) (segment : List ℕ)
    → FitsWire s task → is_write task.command ≡ false → Allows s task (Good segment)
    → Stands s first (with_tasks (task ∷ others) kept) e
    → Stands s first (left_with others kept) (e ▹ Device (upiu_out (upiu_of s task (Good segment))))
stands_ended s first kept e task others segment fits other allows at =
    let queue = queue_of s first (with_tasks (task ∷ others) kept) e at in
    let consistent = answer_consistent s task (Good segment) queue.served.0 fits allows in
    stands_sent s first (with_tasks (task ∷ others) kept) (left_with others kept) e (upiu_of s task (Good segment))
    (goes_ended s first kept e task others 0 _ segment consistent queue.apart.0 queue.others_wait (leaves_no_write s first kept e task others true other at.progress))
    (Good segment, allows, refl) tt (λ none. none) at

-- a write ends GOOD, once all its blocks are programmed
pub stands_good : (s : Sizes) (first : First) (kept : Kept) (e : History) (task : Task) (others : List Task) (lba n : ℕ) (segment : List ℕ)
    → FitsWire s task → task.command ≡ Write lba n → kept.programmed ≡ n → Allows s task (Good segment)
    → Stands s first (with_tasks (task ∷ others) kept) e
    → Stands s first (left_with others kept) (e ▹ Device (upiu_out (upiu_of s task (Good segment))))
stands_good s first kept e task others lba n segment fits is all allows at =
    let queue = queue_of s first (with_tasks (task ∷ others) kept) e at in
    let consistent = answer_consistent s task (Good segment) queue.served.0 fits allows in
    stands_sent s first (with_tasks (task ∷ others) kept) (left_with others kept) e (upiu_of s task (Good segment))
    (goes_ended s first kept e task others 0 _ segment consistent queue.apart.0 queue.others_wait (leaves_good s first kept e task others lba n is all at.progress))
    (Good segment, allows, refl) tt (λ none. none) at

-- the first task ends with a sense that has its cause
pub stands_cut : (s : Sizes) (first : First) (kept : Kept) (e : History) (task : Task) (others : List Task) (sense : FixedSense)
    → FitsWire s task → Allows s task (Check sense) → HasCauseFor s ⊥ first.next e sense.asc
    → Stands s first (with_tasks (task ∷ others) kept) e
    → Stands s first (left_with others kept) (e ▹ Device (upiu_out (upiu_of s task (Check sense))))
stands_cut s first kept e task others sense fits allows cause at =
    let queue = queue_of s first (with_tasks (task ∷ others) kept) e at in
    let consistent = answer_consistent s task (Check sense) queue.served.0 fits allows in
    stands_sent s first (with_tasks (task ∷ others) kept) (left_with others kept) e (upiu_of s task (Check sense))
    (goes_ended s first kept e task others 2 _ (fixed_out sense) consistent queue.apart.0 queue.others_wait (leaves_cut s first kept e task others at.progress))
    (Check sense, allows, refl) tt cause at

-- a call of the chip that failed changes nothing
pub stands_failed : (s : Sizes) (first : First) (kept : Kept) (e : History) (op : ChipOp) → Stands s first kept e → Stands s first kept (e ▹ Failed op)
stands_failed s first kept e op at = record {
  keeps = at.keeps;
  switch = at.switch;
  progress = at.progress;
  holds = at.holds;
  at_least = omega (arith, at.at_least);
  at_most = omega (arith, at.at_most);
  free = at.free;
  sound = record { so_far = comes s first.unit e (Failed op) at.sound tt; nothing_owed = ap (λ (due : List Event). drop 1 due) at.sound.nothing_owed };
  caused = (at.caused, tt);
}

-- collection moved a page to an erased one, under the next number
pub stands_moved : (s : Sizes) (first : First) (kept : Kept) (e : History) (lun lba free : ℕ) → free + 1 ≡ kept.free → Stands s first kept e
    → Stands s first (record kept { next = kept.next + 1; free = free }) (e ▹ Moved lun lba)
stands_moved s first kept e lun lba free fewer at = record {
  keeps = at.keeps;
  switch = at.switch;
  progress = at.progress;
  holds = at.holds;
  at_least = omega (arith, at.at_least);
  at_most = omega (arith, at.at_most);
  free = omega (arith, at.free);
  sound = record { so_far = comes s first.unit e (Moved lun lba) at.sound tt; nothing_owed = ap (λ (due : List Event). drop 1 due) at.sound.nothing_owed };
  caused = (at.caused, tt);
}

-- an erase block was erased
pub stands_erased : (s : Sizes) (first : First) (kept : Kept) (e : History) → Stands s first kept e
    → Stands s first (record kept { free = kept.free + s.erase_block; erases = kept.erases + 1 }) e
stands_erased s first kept e at = record {
  keeps = at.keeps;
  switch = at.switch;
  progress = at.progress;
  holds = at.holds;
  at_least = at.at_least;
  at_most = at.at_most;
  free = omega (arith, at.free);
  sound = at.sound;
  caused = at.caused;
}

-- the host's bytes are kept, and these tasks with them
pub host_kept : (s : Sizes) (first : First) (kept : Kept) (e : History) (bytes : List ℕ) (now : List Task)
    → reply_of s kept.on kept.tasks bytes ≡ None → tasks_changed s kept.on kept.tasks (Host bytes) ≡ now
    → HasProgress s kept.programmed now
    → ((p : Place) → HoldsAt s kept (candidates s first.unit e p) p → HoldsAt s (with_tasks now kept) (candidates s first.unit e p) p)
    → Stands s first kept e → Stands s first (with_tasks now kept) (e ▹ Host bytes)
host_kept s first kept e bytes now silent is progress holds at =
    let same_reply : reply_of s (on_after e) (tasks_after s e) bytes ≡ None =
    ap (λ (on : Bool). reply_of s on (tasks_after s e) bytes) at.switch ∙ ap (λ (ts : List Task). reply_of s kept.on ts bytes) at.keeps ∙ silent in
    let same_tasks : tasks_changed s (on_after e) (tasks_after s e) (Host bytes) ≡ now =
    ap (λ (on : Bool). tasks_changed s on (tasks_after s e) (Host bytes)) at.switch ∙ ap (λ (ts : List Task). tasks_changed s kept.on ts (Host bytes)) at.keeps ∙ is in
    let after : blocks_of_head s (tasks_changed s (on_after e) (tasks_after s e) (Host bytes)) ≡ blocks_of_head s now = ap (blocks_of_head s) same_tasks in
    let before : blocks_of_head s (tasks_after s e) ≡ blocks_of_head s kept.tasks = ap (blocks_of_head s) at.keeps in
    record {
      keeps = same_tasks;
      switch = at.switch;
      progress = progress;
      holds = λ p place. holds p (at.holds p place);
      at_least = omega (arith, at.at_least);
      at_most = omega (arith, at.at_most, after, before);
      free = at.free;
      sound = received_kept s first.unit e bytes at.sound same_reply;
      caused = (at.caused, tt);
    }

-- a command is kept
pub stands_accepted : (s : Sizes) (first : First) (kept : Kept) (e : History) (bytes : List ℕ) (command : Cdb)
    → reply_of s kept.on kept.tasks bytes ≡ None → (upiu_at bytes).kind ≡ Command → command_of s (upiu_at bytes).cdb ≡ Ok command
    → Stands s first kept e → Stands s first (with_tasks (kept.tasks ++ task_of (upiu_at bytes) command ∷ []) kept) (e ▹ Host bytes)
stands_accepted s first kept e bytes command silent kind reads at =
    host_kept s first kept e bytes (kept.tasks ++ task_of (upiu_at bytes) command ∷ []) silent
    (kept_of_kind s kept.on kept.tasks bytes Command kind silent ∙ ap (with_command kept.tasks (upiu_at bytes)) reads)
    (progress_by kept.tasks at.progress)
    (λ p held. holds_by p kept.tasks at.progress held)
    at
  where
    progress_by : (tasks : List Task) → HasProgress s kept.programmed tasks → HasProgress s kept.programmed (tasks ++ task_of (upiu_at bytes) command ∷ [])
    progress_by [] is = subst (λ (n : ℕ). HasProgress s n (task_of (upiu_at bytes) command ∷ [])) (sym is) (no_progress s (task_of (upiu_at bytes) command ∷ []))
    progress_by (task ∷ tasks) is = is

    holds_by : (p : Place) (tasks : List Task) → HasProgress s kept.programmed tasks
        → HoldsAt s (with_tasks tasks kept) (candidates s first.unit e p) p → HoldsAt s (with_tasks (tasks ++ task_of (upiu_at bytes) command ∷ []) kept) (candidates s first.unit e p) p
    holds_by p [] is held =
        let none : is_programmed kept.programmed (task_of (upiu_at bytes) command ∷ []) p ≡ false = ap (λ (n : ℕ). is_programmed n (task_of (upiu_at bytes) command ∷ []) p) is
        ∙ none_programmed (task_of (upiu_at bytes) command ∷ []) p in
        subst (λ (b : Bool). MatchBool b (head_block s (task_of (upiu_at bytes) command
        ∷ []) p ≡ Some (block_at s kept.unit p)) (Contains (candidates s first.unit e p) (block_at s kept.unit p))) (sym none) held
    holds_by p (task ∷ tasks) is held = held

-- data that come change no block before them
whole_grows : (s : Sizes) (command : Cdb) (come more : List ℕ) → whole_blocks s command come ≤ whole_blocks s command (come ++ more)
whole_grows s (Write lba n) come more = more_blocks (length come) (length (come ++ more)) s.block (let e = length-append come more in omega arith)
whole_grows s _ come more = omega arith

progress_grows : (s : Sizes) (programmed : ℕ) (command : Cdb) (task : Task) (more : List ℕ) → IsProgress s programmed task command → IsProgress s programmed (with_data more task) command
progress_grows s programmed (Write lba n) task more is = let e = whole_grows s task.command task.come more in (is.0, omega (arith, is.1, e))
progress_grows s programmed _ task more is = is

pub written_grows : (s : Sizes) (command : Cdb) (task : Task) (more : List ℕ) (p : Place) (block : Block) → block_written s task command p ≡ Some block
    → block_written s (with_data more task) command p ≡ Some block
written_grows s (Write lba n) task more p block is = by_tests (is_among task.lun lba n p) (nat_le end (length task.come)) (nat_le end (length (task.come ++ more))) refl refl is
  where
    start : ℕ
    start = offset_in s lba p

    end : ℕ
    end = offset_in s lba p + s.block

    by_tests : (a b c : Bool) → nat_le (offset_in s lba p + s.block) (length task.come) ≡ b → nat_le (offset_in s lba p + s.block) (length (task.come ++ more)) ≡ c
        → (if a && b then Some (slice_range task.come (offset_in s lba p) (offset_in s lba p + s.block)) else None) ≡ Some block
        → (if a && c then Some (slice_range (task.come ++ more) (offset_in s lba p) (offset_in s lba p + s.block)) else None) ≡ Some block
    by_tests true true true before after is =
        let inside : offset_in s lba p + s.block ≤ length task.come = grind (arith, nat_tests) in
        ap (λ (l : List ℕ). Some l) (range-append task.come more (offset_in s lba p) (offset_in s lba p + s.block) (omega arith) inside) ∙ is
    by_tests true true false before after is =
        let inside : offset_in s lba p + s.block ≤ length task.come = grind (arith, nat_tests) in
        let outside : length (task.come ++ more) < offset_in s lba p + s.block = grind (arith, nat_tests) in
        let e = length-append task.come more in
        absurd (omega arith)
    by_tests true false c before after is = cc
    by_tests false b c before after is = cc
written_grows s _ task more p block is = cc

holds_grow : (P : Type 0) (s : Sizes) (b : Bool) (command : Cdb) (task : Task) (more : List ℕ) (p : Place) (block : Block)
    → MatchBool b (block_written s task command p ≡ Some block) P → MatchBool b (block_written s (with_data more task) command p ≡ Some block) P
holds_grow P s true command task more p block held = written_grows s command task more p block held
holds_grow P s false command task more p block held = held

-- DATA OUT is taken
pub stands_taken : (s : Sizes) (first : First) (kept : Kept) (e : History) (bytes : List ℕ) (task : Task) (others : List Task)
    → reply_of s kept.on (task ∷ others) bytes ≡ None → (upiu_at bytes).kind ≡ DataOut
    → Stands s first (with_tasks (task ∷ others) kept) e → Stands s first (with_tasks (with_data (upiu_at bytes).segment task ∷ others) kept) (e ▹ Host bytes)
stands_taken s first kept e bytes task others silent kind at =
    host_kept s first (with_tasks (task ∷ others) kept) e bytes (with_data (upiu_at bytes).segment task ∷ others) silent
    (kept_of_kind s kept.on (task ∷ others) bytes DataOut kind silent)
    (progress_grows s kept.programmed task.command task (upiu_at bytes).segment at.progress)
    (λ p held. holds_grow (Contains (candidates s first.unit e p) (block_at s kept.unit p)) s (is_programmed kept.programmed (task
    ∷ others) p) task.command task (upiu_at bytes).segment p (block_at s kept.unit p) held)
    at

-- a reset drops all tasks
pub stands_reset : (s : Sizes) (first : First) (kept : Kept) (e : History) → Stands s first kept e
    → Stands s first (record kept { tasks = []; on = true; programmed = 0 }) (e ▹ Reset)
stands_reset s first kept e at =
    let none = none_good (tasks_after s e) 0 in
    let within = progress_within s kept.programmed kept.tasks at.progress in
    record {
      keeps = refl;
      switch = refl;
      progress = refl;
      holds = λ p place.
          subst (λ (ts : List Task). Contains (fold_left s (candidates s first.unit e p) (leaving_all false ts) p) (block_at s kept.unit p)) (sym at.keeps)
          (reset_holds p kept.tasks at.progress (at.holds p place));
      at_least = omega (arith, at.at_least, none);
      at_most = omega (arith, at.at_most, within);
      free = at.free;
      sound = record { so_far = comes s first.unit e Reset at.sound tt; nothing_owed = ap (λ (due : List Event). drop 1 due) at.sound.nothing_owed };
      caused = (at.caused, tt);
    }
  where
    none_good : (tasks : List Task) (a : ℕ) → fold (λ (n : ℕ) (l : Leaving). n + blocks_ended l) a (leaving_all false tasks) ≡ a
    none_good [] a = refl
    none_good (task ∷ tasks) a = none_good tasks (a + 0) ∙ omega arith

    fold_stays : (p : Place) (block : Block) (tasks : List Task) (blocks : List Block) → Contains blocks block → Contains (fold_left s blocks (leaving_all false tasks) p) block
    fold_stays p block [] blocks held = held
    fold_stays p block (task ∷ tasks) blocks held = fold_stays p block tasks _ (stays_block blocks block (block_written s task task.command p) held)

    reset_holds : (p : Place) (tasks : List Task) → HasProgress s kept.programmed tasks → HoldsAt s (with_tasks tasks kept) (candidates s first.unit e p) p
        → Contains (fold_left s (candidates s first.unit e p) (leaving_all false tasks) p) (block_at s kept.unit p)
    reset_holds p [] progress held = held
    reset_holds p (task ∷ tasks) progress held = fold_stays p (block_at s kept.unit p) tasks _ ((leaves_cut s first kept e task tasks progress).held p held)

-- the host's bytes are answered at once
pub stands_replied : (s : Sizes) (first : First) (kept now : Kept) (e : History) (bytes : List ℕ) (v : Upiu)
    → reply_of s kept.on kept.tasks bytes ≡ Some v → effects_of s kept.on kept.tasks bytes ≡ [] → Goes s first kept now e v
    → Stands s first kept e → Stands s first now (e ▹ Host bytes ▹ Device (upiu_out v))
stands_replied s first kept now e bytes v is no_effects goes at =
    let reply : reply_of s (on_after e) (tasks_after s e) bytes ≡ Some v =
    ap (λ (on : Bool). reply_of s on (tasks_after s e) bytes) at.switch ∙ ap (λ (ts : List Task). reply_of s kept.on ts bytes) at.keeps ∙ is in
    let none : effects_of s (on_after e) (tasks_after s e) bytes ≡ [] =
    ap (λ (on : Bool). effects_of s on (tasks_after s e) bytes) at.switch ∙ ap (λ (ts : List Task). effects_of s kept.on ts bytes) at.keeps ∙ no_effects in
    let mid : tasks_after s (e ▹ Host bytes) ≡ kept.tasks = ap (after_reply s (tasks_after s e) (upiu_at bytes)) reply ∙ at.keeps in
    let goes_on : Goes s first kept now (e ▹ Host bytes) v =
    record {
      consistent = goes.consistent;
      tasks = goes.tasks;
      switch = goes.switch;
      progress = goes.progress;
      holds = goes.holds;
      at_least = goes.at_least;
      at_most = goes.at_most;
      next = goes.next;
      free = goes.free;
      erases = goes.erases;
    } in
    let ended = ends_on s first kept now (e ▹ Host bytes) v goes_on (tasks_after s (e ▹ Host bytes)) mid in
    record {
      keeps = device_changes s (on_after e) (tasks_after s (e ▹ Host bytes)) v goes.consistent ∙ ap (λ (t : List Task). after_sent v v.kind t) mid ∙ goes.tasks;
      switch = at.switch ∙ goes.switch;
      progress = goes.progress;
      holds = λ p place. holds_on s first kept now (e ▹ Host bytes) v p goes_on place (tasks_after s (e ▹ Host bytes)) mid (at.holds p place);
      at_least = omega (arith, ended, at.at_least, goes.at_least);
      at_most = omega (arith, at.at_most, goes.at_most);
      free = rw (goes.free, goes.next, goes.erases) at.free;
      sound = received_answered s first.unit e bytes v at.sound reply none;
      caused = ((at.caused, tt), subst (λ (due : List Event). EventHasCause s ⊥ first.next (e ▹ Host bytes) (Device (upiu_out v)) due) (sym (owes_reply s e bytes v reply)) tt);
    }

-- a reply that ends no task leaves all as it is
pub stands_answered : (s : Sizes) (first : First) (kept : Kept) (e : History) (bytes : List ℕ) (v : Upiu)
    → reply_of s kept.on kept.tasks bytes ≡ Some v → effects_of s kept.on kept.tasks bytes ≡ [] → IsHarmless s kept.tasks v
    → Stands s first kept e → Stands s first kept (e ▹ Host bytes ▹ Device (upiu_out v))
stands_answered s first kept e bytes v is no_effects harmless at =
    stands_replied s first kept kept e bytes v is no_effects (goes_harmless s first kept e v harmless at.progress) at

-- data that weren't asked for end the first task
pub stands_refused : (s : Sizes) (first : First) (kept : Kept) (e : History) (bytes : List ℕ) (task : Task) (others : List Task) (residual : ℕ)
    → reply_of s kept.on (task ∷ others) bytes ≡ Some (check task.lun task.tag residual wrong_data) → effects_of s kept.on (task ∷ others) bytes ≡ []
    → residual < 2 ^ 32
    → Stands s first (with_tasks (task ∷ others) kept) e
    → Stands s first (left_with others kept) (e ▹ Host bytes ▹ Device (upiu_out (check task.lun task.tag residual wrong_data)))
stands_refused s first kept e bytes task others residual is no_effects fits at =
    let queue = queue_of s first (with_tasks (task ∷ others) kept) e at in
    let consistent = response-consistent task.lun task.tag 2 residual (fixed_out wrong_data) fits (omega arith) in
    stands_replied s first (with_tasks (task ∷ others) kept) (left_with others kept) e bytes (check task.lun task.tag residual wrong_data) is no_effects
    (goes_ended s first kept e task others 2 residual (fixed_out wrong_data) consistent queue.apart.0 queue.others_wait (leaves_cut s first kept e task others at.progress))
    at

-- a reply that ends no task
pub reject_harmless : (s : Sizes) (tasks : List Task) (lun tag reason : ℕ) → reason < 256 → IsHarmless s tasks (reject_upiu lun tag reason)
reject_harmless s tasks lun tag reason fits = record { consistent = reject-consistent lun tag reason fits; tasks_stay = refl; none_leaves = refl; none_shown = refl }

pub nop_harmless : (s : Sizes) (tasks : List Task) (tag : ℕ) → IsHarmless s tasks (blank_upiu NopIn 0 tag)
nop_harmless s tasks tag = record {
  consistent = record { first = omega arith; cdb = refl; count = refl; value = refl; segment = omega arith };
  tasks_stay = refl;
  none_leaves = refl;
  none_shown = refl;
}

pub response_harmless : (s : Sizes) (tasks : List Task) (lun tag status residual : ℕ) (segment : List ℕ) → residual < 2 ^ 32 → length segment < 2 ^ 16
    → list_any (has_tag tag) tasks ≡ false → IsHarmless s tasks (response_upiu lun tag status residual segment)
response_harmless s tasks lun tag status residual segment residual_fits segment_fits none = record {
  consistent = response-consistent lun tag status residual segment residual_fits segment_fits;
  tasks_stay = others_stay tag tasks none;
  none_leaves = ap (leaving_all (status == 0)) (none_has tag tasks none);
  none_shown = refl;
}

-- one more block of a write, and the other places
pub same_place : (p q : Place) → is_same p q ≡ true → p ≡ q
same_place p q true_test =
    let lun : p.lun ≡ q.lun = grind (arith, nat_tests) in
    let lba : p.lba ≡ q.lba = grind (arith, nat_tests) in
    λ i. record { lun = lun i; lba = lba i }

other_place : (lun lba : ℕ) (q : Place) → is_same (record { lun = lun; lba = lba }) q ≡ false → lun ≡ q.lun → lba ≡ q.lba → ⊥
other_place lun lba q is one two = false≢true (sym is ∙ (ap (λ (b : Bool). b && (lba == q.lba)) (eq-eqb lun q.lun one) ∙ eq-eqb lba q.lba two))

pub among_next : (lun lba k : ℕ) (q : Place) → is_same (record { lun = lun; lba = lba + k }) q ≡ false → is_among lun lba (k + 1) q ≡ is_among lun lba k q
among_next lun lba k q is = by_tests (lun == q.lun) (nat_le lba q.lba) (nat_lt q.lba (lba + (k + 1))) (nat_lt q.lba (lba + k)) refl refl refl
  where
    by_tests : (a b c d : Bool) → (lun == q.lun) ≡ a → nat_lt q.lba (lba + (k + 1)) ≡ c → nat_lt q.lba (lba + k) ≡ d → (a && (b && c)) ≡ (a && (b && d))
    by_tests false b c d at_lun more less = refl
    by_tests true false c d at_lun more less = refl
    by_tests true true true true at_lun more less = refl
    by_tests true true false false at_lun more less = refl
    by_tests true true true false at_lun more less =
        let here : lba + k ≡ q.lba = grind (arith, nat_tests) in
        absurd (other_place lun (lba + k) q is (eqb-true lun q.lun at_lun) here)
    by_tests true true false true at_lun more less = absurd (grind (arith, nat_tests))

among_last : (lun lba k : ℕ) → is_among lun lba (k + 1) (record { lun = lun; lba = lba + k }) ≡ true
among_last lun lba k = grind (arith, nat_tests)

at_true : {b : Bool} {P : Type 0} (Q : Type 0) → b ≡ true → P → MatchBool b P Q
at_true {b} {P} Q is p = subst (λ (c : Bool). MatchBool c P Q) (sym is) p

-- block k of the data that came for a write, and the unit where it is programmed at its place
abbrev block_come : Sizes → Task → ℕ → Block
block_come s task k = slice_range task.come (s.block * k) (s.block * k + s.block)

abbrev unit_with : Sizes → Task → (lba k : ℕ) → List Block → List Block
unit_with s task lba k unit = slice_set unit (index_of s.units (record { lun = task.lun; lba = lba + k })) (block_come s task k)

-- the block of a write at its place
written_here : (s : Sizes) (task : Task) (lba n k : ℕ) → k < n → s.block * k + s.block ≤ length task.come
    → block_written s task (Write lba n) (record { lun = task.lun; lba = lba + k }) ≡ Some (block_come s task k)
written_here s task lba n k more bytes =
    let place : Place = record { lun = task.lun; lba = lba + k } in
    let among : is_among task.lun lba n place ≡ true = grind (arith, nat_tests) in
    let inside : nat_le (s.block * k + s.block) (length task.come) ≡ true = grind (arith, nat_tests) in
    let here : lba + k - lba ≡ k = omega arith in
    ap (λ (m : ℕ). if is_among task.lun lba n place && nat_le (s.block * m + s.block) (length task.come) then Some (block_come s task m) else None) here
    ∙ ap (λ (b : Bool). if b && nat_le (s.block * k + s.block) (length task.come) then Some (block_come s task k) else None) among
    ∙ ap (λ (b : Bool). if b then Some (block_come s task k) else None) inside

-- where one more block of a write is programmed, each place holds what it must
programmed_holds : (s : Sizes) (task : Task) (lba n k : ℕ) (unit allowed : List Block) (q : Place) (b : Bool) → is_same (record { lun = task.lun; lba = lba + k }) q ≡ b
    → k < n → length unit ≡ s.luns * s.units → IsPlace s.luns s.units q → IsPlace s.luns s.units (record { lun = task.lun; lba = lba + k }) → s.block * k + s.block ≤ length task.come
    → IsHeld s task (Write lba n) unit allowed q (is_among task.lun lba k q)
    → IsHeld s task (Write lba n) (unit_with s task lba k unit) allowed q (is_among task.lun lba (k + 1) q)
programmed_holds s task lba n k unit allowed q true same more whole is_place here bytes held =
    let index : ℕ = task.lun * s.units + (lba + k) in
    let fits : index < length unit = let e = within_luns task.lun s.luns s.units (lba + k) here.lun here.lba in omega arith in
    subst (λ (p : Place). IsHeld s task (Write lba n) (unit_with s task lba k unit) allowed p (is_among task.lun lba (k + 1) p))
    (same_place (record { lun = task.lun; lba = lba + k }) q same)
    (at_true _ (among_last task.lun lba k)
    (written_here s task lba n k more bytes ∙ ap (λ (x : Block). Some x) (sym (get_or-set_same unit index (block_come s task k) [] fits))))
programmed_holds s task lba n k unit allowed q false same more whole is_place here bytes held =
    let index : ℕ = task.lun * s.units + (lba + k) in
    let apart : (q.lun * s.units + q.lba ≡ index → ⊥) = λ e.
    let one = same_lun q.lun task.lun s.units q.lba (lba + k) is_place.lba here.lba e in
    other_place task.lun (lba + k) q same (sym one) (sym (same_lba q.lun task.lun s.units q.lba (lba + k) one e)) in
    let stays : block_at s (unit_with s task lba k unit) q ≡ block_at s unit q = get_or-set_other unit index (q.lun * s.units + q.lba) (block_come s task k) [] apart in
    subst (λ (b : Bool). IsHeld s task (Write lba n) (unit_with s task lba k unit) allowed q b) (sym (among_next task.lun lba k q same))
    (subst (λ (x : Block). MatchBool (is_among task.lun lba k q) (block_written s task (Write lba n) q ≡ Some x) (Contains allowed x)) (sym stays) held)

-- a block of the first task is programmed on an erased page, under the next number
pub stands_programmed : (s : Sizes) (first : First) (kept : Kept) (e : History) (task : Task) (others : List Task) (lba n free : ℕ)
    → task.command ≡ Write lba n → kept.programmed < n → kept.programmed < blocks_of_head s (task ∷ [])
    → length kept.unit ≡ s.luns * s.units → free + 1 ≡ kept.free
    → Stands s first (with_tasks (task ∷ others) kept) e
    → Stands s first (programmed_more s (task ∷ others) task lba free kept) e
stands_programmed s first kept e task others lba n free is more come whole fewer at =
    let queue = queue_of s first (with_tasks (task ∷ others) kept) e at in
    let range : is_in_unit (limits_of s) (Write lba n) ≡ true = ap (is_in_unit (limits_of s)) (sym is) ∙ queue.served.0.range in
    let within : lba + n ≤ s.units = leb-true (lba + n) s.units range in
    let here : IsPlace s.luns s.units place = record { lun = queue.served.0.lun; lba = omega arith } in
    let bytes : s.block * k + s.block ≤ length task.come = within_bytes (length task.come) k s.block (subst (λ (c : Cdb). k < whole_blocks s c task.come) is come) in
    record {
      keeps = at.keeps;
      switch = at.switch;
      progress = subst (λ (c : Cdb). IsProgress s (k + 1) task c) (sym is) (omega arith, omega arith);
      holds = λ q is_place.
          subst (λ (c : Cdb). IsHeld s task c now.unit (candidates s first.unit e q) q (is_programmed_for (k + 1) task c q)) (sym is)
          (programmed_holds s task lba n k kept.unit (candidates s first.unit e q) q (is_same place q) refl more whole is_place here bytes
          (subst (λ (c : Cdb). IsHeld s task c kept.unit (candidates s first.unit e q) q (is_programmed_for k task c q)) is (at.holds q is_place)));
      at_least = omega (arith, at.at_least);
      at_most = omega (arith, at.at_most);
      free = omega (arith, at.free);
      sound = at.sound;
      caused = at.caused;
    }
  where
    k : ℕ
    k = kept.programmed

    place : Place
    place = record { lun = task.lun; lba = lba + kept.programmed }

    now : Kept
    now = programmed_more s (task ∷ others) task lba free kept

-- what a device hands back: each of its blocks is one that is allowed after a reset
pub handed_back : (s : Sizes) (first : First) (kept : Kept) (e : History) → Stands s first kept e
    → (p : Place) → IsPlace s.luns s.units p → Contains (candidates s first.unit (e ▹ Reset) p) (block_at s kept.unit p)
handed_back s first kept e at = (stands_reset s first kept e at).holds
