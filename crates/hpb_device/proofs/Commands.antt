-- What a task is whose command is known.
use Rattle.std.specs.Prelude.{IsSome, is_some, if◌then◌else◌}
use Rattle.std.specs.declared.option.Option.{Option}
use Rattle.std.proofs.lemmas.Bool.{false≢true}
use Rattle.std.proofs.lemmas.Bool.Decides.{nat_tests}
use Rattle.std.proofs.Common.{◌≡◌, ◌⊎◌, ◌∙◌, Bool, true, false, not, ◌&&◌, ◌-◌, nat_lt, min, ℕ, ◌+◌, ◌*◌, ◌/◌, ◌%◌, ◌^◌}
use Rattle.std.proofs.Common.{◌<◌, ◌≤◌, List, [], ◌∷◌, drop, Some, None, refl, subst, ap, arith, inl, inr, sym}
use Rattle.hpb_outside.specs.Faults.{Rose}
use Rattle.flash_pages.specs.Place.{Place}
use Rattle.flash_pages.specs.Unit.{current}
use Rattle.flash_store.specs.Store.{StoreState, collecting}
use Rattle.hpb_cdb.specs.declared.cdb.Cdb.{Cdb}
use Rattle.hpb_cdb.specs.declared.cdb.Cdb.TheVariants.{Read, Write, HpbRead, Prefetch}
use Rattle.hpb_cdb.specs.declared.limits.Limits.{Limits}
use Rattle.hpb_device.specs.declared.task.Task.{Task}
use Rattle.upiu_wire.specs.Upiu.{Upiu}
use Rattle.hpb_device.specs.declared.reply.Reply.{Reply}
use Rattle.hpb_device.specs.declared.reply.Reply.TheVariants.{Check}
use Rattle.hpb_device.specs.declared.reply.Cause.TheVariants.{DataNotAsked, ReadFailed}
use Rattle.hpb_device.specs.declared.advance.FailedCall.TheVariants.{MappedRead}
use Rattle.hpb_device.specs.Accept.{EndsFirst, IsNextPiece, TakesPiece}
use Rattle.hpb_device.specs.Left.{steps_of, tries_by}
use Rattle.hpb_device.specs.Work.{work_of}
use Rattle.entry_lists.specs.Lists.{EntryList}
use Rattle.flat_unit.specs.Command.{is_write}
use Rattle.flat_unit.specs.Contents.{next_place as place_after}
use Rattle.flat_unit.specs.Sends.{asked_at_once}
use Rattle.flat_unit.specs.Sizes.{Sizes}
use Rattle.flat_unit.specs.Task.{Task as Waiting}
use Rattle.std.specs.Bool.{OnTrue}
use Rattle.hpb_device.specs.Task.{AreProgrammed, WaitsForData, head_of, IsTaskOk, IsServed, bytes_given, bytes_taken, entry_of, to_try}
use Rattle.hpb_device.specs.Advance.{Fails, ReadsBlocks, check, first_block, next_place}

-- a command that writes blocks is a WRITE(10)
pub is_written : (command : Cdb) → is_write command ≡ true → (lba : ℕ) × (k : ℕ) × (command ≡ Write lba k)
is_written (Write lba k) is = (lba, k, refl)
is_written _ is = absurd (false≢true is)

-- a command that takes data has no entry for a block, and reads none
pub record TakesData (command : Cdb) : Type 0 where
  pub no_entry : (lists : List (Option EntryList)) (lun k : ℕ) → entry_of lists lun command k ≡ None
  pub no_place : (s : Sizes) (task : Waiting) → place_after s task command ≡ None

pub takes_data : (command : Cdb) (n : ℕ) → n < bytes_taken command → TakesData command
takes_data (Write lba k) n more = record { no_entry = λ lists lun k. refl; no_place = λ s task. refl }
takes_data (Prefetch lba id len) n more = record { no_entry = λ lists lun k. refl; no_place = λ s task. refl }
takes_data _ n more = absurd (omega arith)

-- a write asks for whole blocks
pub asked_whole : (command : Cdb) (asked n : ℕ) {lba : ℕ} → command ≡ Write lba n → (asked % 4096 ≡ 0) ⊎ (asked ≡ bytes_taken command) → asked % 4096 ≡ 0
asked_whole command asked n is whole = elim whole [
  | inl part ↦ part
  | inr all ↦ let taken : bytes_taken command ≡ 4096 * n = ap bytes_taken is in omega (arith, all, taken)
]

-- the blocks of a write that have come were programmed
pub all_programmed : (task : Task) → is_write task.command ≡ true → AreProgrammed task → 4096 * task.programmed ≡ task.come
all_programmed task write are = subst (λ (b : Bool). OnTrue b (4096 * task.programmed ≡ task.come)) write are

-- it asks for its data as the flat unit has it
pub asks_flat : (s : Sizes) (task : Waiting) (command : Cdb) (lim : Limits) → s.block ≡ 4096 → IsServed lim command → task.asked < bytes_taken command
    → (task.asked % 4096 ≡ 0) ⊎ (task.asked ≡ bytes_taken command)
    → (Rattle.flat_unit.specs.Command.bytes_taken s command ≡ bytes_taken command) × (min 32768 (bytes_taken command - task.asked) ≡ asked_at_once s task command)
asks_flat s task (Write lba n) lim block served more whole = (ap (λ (b : ℕ). b * n) block, sym (ap (λ (b : ℕ). min (8 * b) (b * n - task.asked)) block))
asks_flat s task (Prefetch lba id len) lim block served more whole = (refl, omega (arith, served, more, whole))
asks_flat s task _ lim block served more whole = absurd (omega arith)

-- a write of so many blocks
pub record Writes (lim : Limits) (task : Task) (lba n : ℕ) : Type 0 where
  pub range : lba + n < 2 ^ 32
  pub within : lba + n ≤ lim.units
  pub first : first_block task.command ≡ lba
  pub gives : task.given ≡ 0
  pub takes : bytes_taken task.command ≡ 4096 * n
  pub none_sent : task.sent ≡ 0

pub writes : (luns : ℕ) (lim : Limits) (lba n : ℕ) (task : Task) → IsTaskOk luns lim task → task.command ≡ Write lba n → Writes lim task lba n
writes luns lim lba n task ok is =
    let range : lba + n ≤ lim.units = subst (IsServed lim) is ok.accepted.served in
    let gives : task.given ≡ 0 = ok.accepted.given ∙ ap (bytes_given lim) is in
    record {
      range = omega (arith, ok.accepted.few_blocks, range);
      within = range;
      first = ap first_block is;
      gives = gives;
      takes = ap bytes_taken is;
      none_sent = omega (arith, ok.within.sent, gives);
    }

-- a read of so many blocks
pub record Reads (lim : Limits) (task : Task) : Type 0 where
  pub n : ℕ
  pub range : first_block task.command + n < 2 ^ 32
  pub within : first_block task.command + n ≤ lim.units
  pub gives : task.given ≡ 4096 * n
  pub takes : bytes_taken task.command ≡ 0
  pub whole : task.sent % 4096 ≡ 0

reads_by : (lim : Limits) (command : Cdb) → ReadsBlocks command → IsServed lim command
    → (n : ℕ) × (bytes_given lim command ≡ 4096 * n) × (first_block command + n ≤ lim.units) × (bytes_taken command ≡ 0)
reads_by lim (Read lba n) is served = (n, refl, served, refl)
reads_by lim (HpbRead lba entry n id) is served = (n, refl, served.0, refl)
reads_by lim _ is served = absurd is

pub reads : (luns : ℕ) (lim : Limits) (task : Task) → IsTaskOk luns lim task → ReadsBlocks task.command → Reads lim task
reads luns lim task ok is =
    let by = reads_by lim task.command is ok.accepted.served in
    let given : task.given ≡ 4096 * by.0 = ok.accepted.given ∙ by.1 in
    let whole : task.sent % 4096 ≡ 0 = elim ok.within.whole_sent [
      | inl part ↦ part
      | inr all ↦ omega (arith, all, given)
    ] in
    record { n = by.0; range = omega (arith, ok.accepted.few_blocks, by.2); within = by.2; gives = given; takes = by.3; whole = whole }

-- a page that is read for a look-up
some_true : (o : Option ℕ) → IsSome o → is_some o ≡ true
some_true None is = absurd (false≢true is)
some_true (Some n) is = refl

pub page_looked_up : (old : StoreState) (task : Task) (lba : ℕ) → first_block task.command ≡ lba
    → (let p : Place = record { lun = task.lun; lba = lba + task.sent / 4096 } in IsSome (current old.pages p)) → is_some (current old.pages (next_place task)) ≡ true
page_looked_up old task lba first is = rw (first) (some_true _ is)

-- a read of a block that was looked up failed
pub read_fails : (old new : StoreState) (task : Task) (reply : Reply) → ReadsBlocks task.command → task.sent < task.given
    → Rose old.faults new.faults → collecting new ≡ collecting old → reply ≡ check task ReadFailed → Fails old new task MappedRead reply
read_fails old new task reply is more rose kept answer = record { due = (is, more); cause = rose; left = kept; answer = answer }

-- an entry that is to be tried is that of a block that is left, and wasn't tried yet
pub record Tries (entry : Option ℕ) (x : ℕ) (task : Task) : Type 0 where
  pub is : entry ≡ Some x
  pub more : task.sent < task.given
  pub untried : task.tried ≡ false

pub tries_of : (entry : Option ℕ) (x : ℕ) (task : Task) → to_try entry task ≡ Some x → Tries entry x task
tries_of entry x task is = by_more (nat_lt task.sent task.given) task.tried refl refl is
  where
    by_more : (a b : Bool) → nat_lt task.sent task.given ≡ a → task.tried ≡ b → (if a && not b then entry else None) ≡ Some x → Tries entry x task
    by_more true false more untried is = record { is = is; more = grind (arith, nat_tests, more); untried = untried }
    by_more true true more untried is = cc
    by_more false b more untried is = cc

-- it is tried
pub tries_now : (entry : Option ℕ) (task : Task) → task.sent < task.given → task.tried ≡ false → to_try entry task ≡ entry
tries_now entry task more untried =
    let left : nat_lt task.sent task.given ≡ true = grind (arith, nat_tests, more) in
    rw (left, untried) refl

-- none is to be tried where a block is left: the block has none, or it was tried in vain
pub tries_none : (entry : Option ℕ) (task : Task) → task.sent < task.given → to_try entry task ≡ None → (entry ≡ None) ⊎ (task.tried ≡ true)
tries_none entry task more is =
    let left : nat_lt task.sent task.given ≡ true = grind (arith, nat_tests, more) in
    by_tried task.tried refl (sym (ap (λ (b : Bool). if b && not task.tried then entry else None) left) ∙ is)
  where
    by_tried : (b : Bool) → task.tried ≡ b → (if true && not b then entry else None) ≡ None → (entry ≡ None) ⊎ (task.tried ≡ true)
    by_tried true at is = inr at
    by_tried false at is = inl is

-- after one more block
pub block_ok : (luns : ℕ) (lim : Limits) (task : Task) → IsTaskOk luns lim task → ReadsBlocks task.command → task.sent < task.given
    → IsTaskOk luns lim (record task { sent = task.sent + 4096; tried = false })
block_ok luns lim task ok is more =
    let r = reads luns lim task ok is in
    record {
      accepted = ok.accepted;
      within = record {
        asked = ok.within.asked;
        whole_asked = ok.within.whole_asked;
        come = ok.within.come;
        programmed = ok.within.programmed;
        sent = omega (arith, more, r.gives, r.whole);
        whole_sent = inl (omega (arith, r.whole));
      };
    }

pub block_fewer : (luns : ℕ) (lim : Limits) (task : Task) → IsTaskOk luns lim task → ReadsBlocks task.command → task.sent < task.given → (pages wait : ℕ)
    → steps_of lim pages wait (record task { sent = task.sent + 4096; tried = false }) < steps_of lim pages wait task
block_fewer luns lim task ok is more pages wait =
    let r = reads luns lim task ok is in
    let fewer = block_tries task.command task.sent task.tried in
    omega (arith, more, r.gives, r.whole, ok.accepted.given, fewer)
  where
    one_less : (n sent : ℕ) (b : Bool) → n - (sent + 4096) / 4096 - 0 ≤ n - sent / 4096 - (if b then 1 else 0)
    one_less n sent true = omega arith
    one_less n sent false = omega arith

    block_tries : (command : Cdb) (sent : ℕ) (tried : Bool) → tries_by (work_of command) (sent + 4096) false ≤ tries_by (work_of command) sent tried
    block_tries (Read lba n) sent tried = one_less n sent tried
    block_tries (HpbRead lba entry n id) sent tried = one_less n sent tried
    block_tries _ sent tried = omega arith

-- after an entry that was tried in vain
pub missed_ok : (luns : ℕ) (lim : Limits) (task : Task) → IsTaskOk luns lim task → IsTaskOk luns lim (record task { tried = true })
missed_ok luns lim task ok = record {
  accepted = ok.accepted;
  within = record {
    asked = ok.within.asked;
    whole_asked = ok.within.whole_asked;
    come = ok.within.come;
    programmed = ok.within.programmed;
    sent = ok.within.sent;
    whole_sent = ok.within.whole_sent;
  };
}

pub missed_fewer : (luns : ℕ) (lim : Limits) (task : Task) → IsTaskOk luns lim task → ReadsBlocks task.command → task.sent < task.given → task.tried ≡ false → (pages wait : ℕ)
    → steps_of lim pages wait (record task { tried = true }) < steps_of lim pages wait task
missed_fewer luns lim task ok is more untried pages wait =
    let given : bytes_given lim task.command ≡ task.given = sym ok.accepted.given in
    let fewer = one_try task.command task.sent is (omega (arith, more, given)) in
    rw untried (omega (arith, fewer))
  where
    one_try : (command : Cdb) (sent : ℕ) → ReadsBlocks command → sent < bytes_given lim command → tries_by (work_of command) sent true < tries_by (work_of command) sent false
    one_try (Read lba n) sent is more = omega (arith, more)
    one_try (HpbRead lba entry n id) sent is more = omega (arith, more)
    one_try _ sent is more = absurd is

-- data that end a task came where it waited for others
pub ends : (tasks : List Task) (reply : Reply) → EndsFirst tasks reply
    → (task : Task) × (others : List Task) × (tasks ≡ task ∷ others) × WaitsForData task × ((residual : ℕ) × (residual < 2 ^ 32) × (reply ≡ Check task.lun task.tag residual DataNotAsked))
ends [] reply none = absurd none
ends (task ∷ others) reply waits = (task, others, refl, waits.0, waits.1)

-- data that are taken came for a task
pub takes : (tasks : List Task) (upiu : Upiu) (segment : List ℕ) → TakesPiece tasks upiu segment → (task : Task) × (others : List Task) × (tasks ≡ task ∷ others) × IsNextPiece task segment
takes [] upiu segment none = absurd none
takes (task ∷ others) upiu segment piece = (task, others, refl, piece.0)

-- the first task is the first of a list
pub first_of : (tasks : List Task) (task : Task) → head_of tasks ≡ Some task → tasks ≡ task ∷ drop 1 tasks
first_of [] task is = cc
first_of (head ∷ others) task is = let same : head ≡ task = cc in ap (λ (t : Task). t ∷ others) same

pub none_of : (tasks : List Task) → head_of tasks ≡ None → tasks ≡ []
none_of [] is = refl
none_of (head ∷ others) is = cc

-- a piece of a list is a whole block of it, or its last one
pub listed_whole : (sent given count : ℕ) → sent % 4096 ≡ 0 → sent < given → count ≡ min 4096 (given - sent) → ((sent + count) % 4096 ≡ 0) ⊎ (sent + count ≡ given)
listed_whole sent given count part more counted = by_size (nat_lt (given - sent) 4096) refl
  where
    by_size : (b : Bool) → nat_lt (given - sent) 4096 ≡ b → ((sent + count) % 4096 ≡ 0) ⊎ (sent + count ≡ given)
    by_size true is = let less : given - sent < 4096 = grind (arith, nat_tests, is) in inr (omega (arith, less, more, counted))
    by_size false is = let most : 4096 ≤ given - sent = grind (arith, nat_tests, is) in inl (omega (arith, most, part, counted))
