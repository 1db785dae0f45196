-- A read that is answered GOOD has sent exactly its blocks, in order.
use Rattle.std.proofs.Common.{◌≡◌, ⊎_elim, ℕ, suc, ◌+◌, ◌-◌, ◌*◌, ◌/◌, ◌<◌, ◌^◌, Bool, true, false, cond, not, ◌||◌}
use Rattle.std.proofs.Common.{List, [], ◌∷◌, ◌++◌, length, map, replicate, Option, Some, None, Result, Ok, Err, refl}
use Rattle.std.proofs.Common.{sym, ◌∙◌, ap, subst, arith, ◌==◌}
use Rattle.std.specs.Prelude.{if◌then◌else◌}
use Rattle.std.specs.List.{AllByRecursion, list_any}
use Rattle.std.specs.Int.{next_multiple_of}
use Rattle.std.proofs.Math.Nat.{mul-suc, mul-div_cancel_left}
use Rattle.std.proofs.lemmas.Bool.{false≢true, eqb-true}
use Rattle.std.proofs.lemmas.Bool.Decides.{nat_tests}
use Rattle.std.proofs.lemmas.List.{take_at}
use Rattle.byteorder.specs.Endian.{big_number, big_bytes}
use Rattle.byteorder.specs.Numbers.{big_number-reads_back}
use Rattle.flash_pages.specs.Place.{Place}
use Rattle.hpb_cdb.specs.declared.cdb.Cdb.{Cdb}
use Rattle.hpb_cdb.specs.declared.cdb.Cdb.TheVariants.{Read, HpbRead}
use Rattle.hpb_cdb.specs.declared.fault.CdbFault.{CdbFault}
use Rattle.upiu_wire.specs.declared.kind.Kind.{Kind}
use Rattle.upiu_wire.specs.declared.kind.Kind.TheVariants.{Command, DataOut, Response, DataIn, ReadyToTransfer}
use Rattle.upiu_wire.specs.Kind.{kind_of}
use Rattle.upiu_wire.specs.Upiu.{Upiu, upiu_at, upiu_out}
use Rattle.upiu_wire.specs.Written.{data_upiu}
use Rattle.flat_unit.specs.declared.event.Event.TheVariants.{Host, Device, Reset, Gone}
use Rattle.flat_unit.specs.Command.{bytes_given, command_of}
use Rattle.flat_unit.specs.Contents.{Block, Shown, leaving, next_place, shown_at, shown_by_kind}
use Rattle.flat_unit.specs.History.{History, ◌▹◌}
use Rattle.flat_unit.specs.Laws.{FirstAlone, HasSent, places_from, shown_by_first, shown_next}
use Rattle.flat_unit.specs.Queue.{after_kept, after_reply, after_sent, change_head, on_after, task_of, tasks_after, tasks_changed, with_asked, with_command, with_data, with_sent, without_tag}
use Rattle.flat_unit.specs.Replays.{keeps_head}
use Rattle.flat_unit.specs.Reply.{has_tag, reply_of}
use Rattle.flat_unit.specs.Sends.{Answer, Data, Ask, Good, Check, Allows, IsPiece, MaySend, upiu_of}
use Rattle.flat_unit.specs.Sizes.{Sizes}
use Rattle.flat_unit.specs.Sound.{SoundSoFar}
use Rattle.flat_unit.specs.Task.{Task}
use Rattle.flat_unit.specs.Tasks.{IsAlone, IsQueue, IsUntouched}
use Rattle.flat_unit.specs.Work.{ReadsBlocks, work_of}
use Rattle.flat_unit.proofs.queue.Tasks.{others_stay, queue_after, same_tag}
use Rattle.flat_unit.proofs.standing.OneCall.{piece_fits}
use Rattle.flat_unit.proofs.queue.Ends.{EndsBadly, IsNoData, out_kind, first_ends, good_moved, sent_or_replied}

-- what the first task has sent, where it is a read; any other task has shown nothing
abbrev pub SentBy : Sizes → Task → Cdb → List Shown → Type 0
SentBy s task (Read lba n) ws = HasSent s task.lun lba task.sent ws
SentBy s task (HpbRead lba entry n id) ws = HasSent s task.lun lba task.sent ws
SentBy s task _ ws = ws ≡ []

abbrev pub FirstSent : Sizes → List Task → List Shown → Type 0
FirstSent s [] ws = ws ≡ []
FirstSent s (task ∷ _) ws = SentBy s task task.command ws

none_sent : (s : Sizes) (lun lba sent : ℕ) → sent ≡ 0 → HasSent s lun lba sent []
none_sent s lun lba sent is = record { count = 0; sent_whole = omega arith; places = refl; blocks = tt }

untouched_sent : (s : Sizes) (task : Task) (command : Cdb) → IsUntouched task → SentBy s task command []
untouched_sent s task (Read lba n) is = none_sent s task.lun lba task.sent is.sent
untouched_sent s task (HpbRead lba entry n id) is = none_sent s task.lun lba task.sent is.sent
untouched_sent s task _ is = refl

new_first : (s : Sizes) (tasks : List Task) → AllByRecursion IsUntouched tasks → FirstSent s tasks []
new_first s [] all = refl
new_first s (task ∷ _) all = untouched_sent s task task.command all.0

-- an event that shows nothing, after which the same task comes first
stays_first : (s : Sizes) (b : Bool) (tasks : List Task) (ws : List Shown) → b ≡ true → FirstSent s tasks ws → FirstSent s tasks (if b then ws else [])
stays_first s b tasks ws is had = subst (λ (x : Bool). FirstSent s tasks (if x then ws else [])) (sym is) had

abbrev After : Sizes → List Task → List Task → List Shown → Type 0
After s before now ws = FirstSent s now (shown_next None (keeps_head before now) ws)

same_tasks : (s : Sizes) (tasks : List Task) (ws : List Shown) → FirstSent s tasks ws → After s tasks tasks ws
same_tasks s [] ws had = had
same_tasks s (task ∷ others) ws had = stays_first s (task.tag == task.tag) (task ∷ others) ws (same_tag task.tag) had

one_more : (s : Sizes) (tasks : List Task) (new : Task) (ws : List Shown) → IsUntouched new → FirstSent s tasks ws → After s tasks (tasks ++ new ∷ []) ws
one_more s [] new ws is had = subst (SentBy s new new.command) (sym had) (untouched_sent s new new.command is)
one_more s (task ∷ others) new ws is had = stays_first s (task.tag == task.tag) (task ∷ others) ws (same_tag task.tag) had

head_asks : (s : Sizes) (task : Task) (asked : ℕ) (come : List ℕ) (others : List Task) (ws : List Shown) → FirstSent s (task ∷ others) ws
    → After s (task ∷ others) (record task { asked = asked; come = come } ∷ others) ws
head_asks s task asked come others ws had = stays_first s (task.tag == task.tag) (task ∷ others) ws (same_tag task.tag) had

fewer_tasks : (s : Sizes) (tag : ℕ) (tasks : List Task) (ws : List Shown) → IsQueue s tasks → FirstSent s tasks ws → After s tasks (without_tag tag tasks) ws
fewer_tasks s tag [] ws queue had = had
fewer_tasks s tag (task ∷ others) ws queue had = by_head (has_tag tag task) refl
  where
    by_others : (ts : List Task) → IsAlone task ts → AllByRecursion IsUntouched ts → After s (task ∷ others) ts ws
    by_others [] alone wait = refl
    by_others (first ∷ rest) alone wait =
        subst (λ (b : Bool). FirstSent s (first ∷ rest) (if b then ws else [])) (sym (apart (first.tag == task.tag) refl alone)) (new_first s (first ∷ rest) wait)
      where
        apart : (b : Bool) → (first.tag == task.tag) ≡ b → (b || list_any (has_tag task.tag) rest) ≡ false → (task.tag == first.tag) ≡ false
        apart true is other = absurd (false≢true (sym other))
        apart false is other = grind (arith, nat_tests)

    by_head : (b : Bool) → has_tag tag task ≡ b → After s (task ∷ others) (cond (not b) (task ∷ without_tag tag others) (without_tag tag others)) ws
    by_head false is = stays_first s (task.tag == task.tag) (task ∷ others) ws (same_tag task.tag) had
    by_head true is =
        let same : tag ≡ task.tag = sym (eqb-true task.tag tag is) in
        let stay : without_tag tag others ≡ others = others_stay tag others (ap (λ (t : ℕ). list_any (has_tag t) others) same ∙ queue.apart.0) in
        subst (λ (ts : List Task). After s (task ∷ others) ts ws) (sym stay) (by_others others queue.apart.0 queue.others_wait)

-- what DATA IN that is written says of its bytes
data_count : (lun tag offset : ℕ) (bytes : List ℕ) → length bytes < 2 ^ 16 → (upiu_at (upiu_out (data_upiu DataIn lun tag offset bytes))).count ≡ length bytes
unfolding upiu_at upiu_out kind_of
data_count lun tag offset bytes fits = big_number-reads_back 4 (length bytes) [] (omega arith)

data_segment : (lun tag offset : ℕ) (bytes : List ℕ) → length bytes < 2 ^ 16 → (upiu_at (upiu_out (data_upiu DataIn lun tag offset bytes))).segment ≡ bytes
unfolding upiu_at upiu_out kind_of
data_segment lun tag offset bytes fits =
    let n : big_number 2 (big_bytes 2 (length bytes)) ≡ length bytes = big_number-reads_back 2 (length bytes) [] fits in
    take_at bytes (replicate (next_multiple_of (length bytes) 4 - length bytes) 0) _ (omega (arith, n))

-- the next block of a read
next_block : (s : Sizes) (lun lba sent : ℕ) (ws : List Shown) (block : Block) → 0 < s.block → length block ≡ s.block → HasSent s lun lba sent ws
    → HasSent s lun lba (sent + length block) (record { place = record { lun = lun; lba = lba + sent / s.block }; block = block } ∷ ws)
next_block s lun lba sent ws block some whole had =
    let k : sent / s.block ≡ had.count = ap (λ (m : ℕ). m / s.block) had.sent_whole ∙ mul-div_cancel_left had.count some in
    let more = mul-suc s.block had.count in
    record {
      count = suc had.count;
      sent_whole = omega (arith, had.sent_whole);
      places = λ i. record { lun = lun; lba = lba + k i } ∷ had.places i;
      blocks = (whole, had.blocks);
    }

-- DATA IN of the first task
data_sent : (s : Sizes) (task : Task) (others : List Task) (ws : List Shown) (bytes : List ℕ) → 0 < s.block → s.block < 2 ^ 16 → Allows s task (Data bytes) → FirstSent s (task ∷ others) ws
    → FirstSent s (with_sent (length bytes) task
    ∷ others) (shown_next (shown_at (record (data_upiu DataIn task.lun task.tag task.sent bytes) { segment = bytes }) (next_place s task task.command)) true ws)
data_sent s task others ws bytes some fits allows had = by_command task.command allows.1 had
  where
    by_command : (command : Cdb) → IsPiece s task command bytes → SentBy s task command ws
        → SentBy s (with_sent (length bytes) task) command (shown_next (shown_at (record (data_upiu DataIn task.lun task.tag task.sent bytes) { segment = bytes }) (next_place s task command)) true ws)
    by_command (Read lba n) piece had = next_block s task.lun lba task.sent ws bytes some piece had
    by_command (HpbRead lba entry n id) piece had = next_block s task.lun lba task.sent ws bytes some piece had
    by_command _ piece had = had

-- after the host's bytes
host_sent : (s : Sizes) (on : Bool) (tasks : List Task) (ws : List Shown) (bytes : List ℕ) → FirstSent s tasks ws → After s tasks (tasks_changed s on tasks (Host bytes)) ws
host_sent s on tasks ws bytes had = by_reply (reply_of s on tasks bytes)
  where
    by_cdb : (r : Result Cdb CdbFault) → After s tasks (with_command tasks (upiu_at bytes) r) ws
    by_cdb (Ok command) = one_more s tasks (task_of (upiu_at bytes) command) ws (record { asked = refl; come = refl; sent = refl }) had
    by_cdb (Err fault) = same_tasks s tasks ws had

    by_head : (ts : List Task) → FirstSent s ts ws → After s ts (change_head (with_data (upiu_at bytes).segment) ts) ws
    by_head [] had = had
    by_head (task ∷ others) had = head_asks s task task.asked (task.come ++ (upiu_at bytes).segment) others ws had

    by_kind : (k : Kind) → After s tasks (after_kept s tasks (upiu_at bytes) k) ws
    by_kind Command = by_cdb (command_of s (upiu_at bytes).cdb)
    by_kind DataOut = by_head tasks had
    by_kind _ = same_tasks s tasks ws had

    by_reply : (r : Option Upiu) → After s tasks (after_reply s tasks (upiu_at bytes) r) ws
    by_reply (Some v) = same_tasks s tasks ws had
    by_reply None = by_kind (upiu_at bytes).kind

-- after a UPIU of the device that is no DATA IN
other_sent : (s : Sizes) (v : Upiu) (kind : Kind) (tasks : List Task) (ws : List Shown) → IsQueue s tasks → IsNoData kind → FirstSent s tasks ws
    → FirstSent s (after_sent v kind tasks) (shown_next (shown_by_kind s v kind tasks) (keeps_head tasks (after_sent v kind tasks)) ws)
other_sent s v DataIn tasks ws queue other had = absurd other
other_sent s v Response tasks ws queue other had = fewer_tasks s v.tag tasks ws queue had
other_sent s v ReadyToTransfer [] ws queue other had = had
other_sent s v ReadyToTransfer (task ∷ others) ws queue other had = by_tag (has_tag v.tag task)
  where
    by_tag : (b : Bool) → After s (task ∷ others) ((if b then with_asked (v.first + v.count) task else task) ∷ others) ws
    by_tag true = head_asks s task (v.first + v.count) task.come others ws had
    by_tag false = same_tasks s (task ∷ others) ws had
other_sent s v _ tasks ws queue other had = same_tasks s tasks ws had

shown_same : (u v : Upiu) (o : Option Place) → u.segment ≡ v.segment → shown_at u o ≡ shown_at v o
shown_same u v None is = refl
shown_same u v (Some place) is = λ i. Some (record { place = place; block = is i })

-- after DATA IN with these fields
with_fields : (s : Sizes) (u : Upiu) (task : Task) (others : List Task) (ws : List Shown) (bytes : List ℕ) → 0 < s.block → s.block < 2 ^ 16 → Allows s task (Data bytes)
    → u.tag ≡ task.tag → u.count ≡ length bytes → u.segment ≡ bytes → FirstSent s (task ∷ others) ws
    → FirstSent s (after_sent u DataIn (task ∷ others)) (shown_next (shown_by_kind s u DataIn (task ∷ others)) (keeps_head (task ∷ others) (after_sent u DataIn (task ∷ others))) ws)
with_fields s u task others ws bytes some fits allows tag count segment had =
    subst (λ (b : Bool). FirstSent s ((if b then with_sent u.count task else task) ∷ others)
    (shown_next (if b then shown_at u (next_place s task task.command) else None) (task.tag == (if b then with_sent u.count task else task).tag) ws))
    (sym (ap (λ (t : ℕ). task.tag == t) tag ∙ same_tag task.tag))
    (subst (λ (n : ℕ). FirstSent s (with_sent n task ∷ others) (shown_next (shown_at u (next_place s task task.command)) (task.tag == task.tag) ws)) (sym count)
    (subst (λ (o : Option Shown). FirstSent s (with_sent (length bytes) task ∷ others) (shown_next o (task.tag == task.tag) ws))
    (sym (shown_same u (record (data_upiu DataIn task.lun task.tag task.sent bytes) { segment = bytes }) (next_place s task task.command) segment))
    (subst (λ (b : Bool). FirstSent s (with_sent (length bytes) task
    ∷ others) (shown_next (shown_at (record (data_upiu DataIn task.lun task.tag task.sent bytes) { segment = bytes }) (next_place s task task.command)) b ws)) (sym (same_tag task.tag))
    (data_sent s task others ws bytes some fits allows had))))

-- after what a step sends
abbrev ByUpiu : Sizes → List Task → List Shown → Upiu → Type 0
ByUpiu s tasks ws u = FirstSent s (after_sent u u.kind tasks) (shown_next (shown_by_kind s u u.kind tasks) (keeps_head tasks (after_sent u u.kind tasks)) ws)

sent_tag : (lun tag offset : ℕ) (bytes : List ℕ) → (upiu_at (upiu_out (data_upiu DataIn lun tag offset bytes))).tag ≡ tag
unfolding upiu_at upiu_out kind_of
sent_tag lun tag offset bytes = refl

sent_device : (s : Sizes) (tasks : List Task) (ws : List Shown) (bytes : List ℕ) → 0 < s.block → s.block < 2 ^ 16 → IsQueue s tasks → MaySend s tasks bytes → FirstSent s tasks ws
    → ByUpiu s tasks ws (upiu_at bytes)
sent_device s [] ws bytes some fits queue may had = absurd may
sent_device s (task ∷ others) ws bytes some fits queue (a, allows, is) had = subst (λ (b : List ℕ). ByUpiu s (task ∷ others) ws (upiu_at b)) (sym is) (by_answer a allows)
  where
    by_kind : (k : Kind) (u : Upiu) → u.kind ≡ k
        → FirstSent s (after_sent u k (task ∷ others)) (shown_next (shown_by_kind s u k (task ∷ others)) (keeps_head (task ∷ others) (after_sent u k (task ∷ others))) ws)
        → ByUpiu s (task ∷ others) ws u
    by_kind k u same held = subst (λ (x : Kind). FirstSent s (after_sent u x (task
        ∷ others)) (shown_next (shown_by_kind s u x (task ∷ others)) (keeps_head (task ∷ others) (after_sent u x (task ∷ others))) ws)) (sym same) held

    by_answer : (a : Answer) → Allows s task a → ByUpiu s (task ∷ others) ws (upiu_at (upiu_out (upiu_of s task a)))
    by_answer (Data piece) allows =
        let fit : length piece < 2 ^ 16 = piece_fits s task task.command piece fits allows.1 in
        by_kind DataIn (upiu_at (upiu_out (upiu_of s task (Data piece)))) (out_kind (upiu_of s task (Data piece)))
        (with_fields s (upiu_at (upiu_out (upiu_of s task (Data piece)))) task others ws piece some fits allows
        (sent_tag task.lun task.tag task.sent piece) (data_count task.lun task.tag task.sent piece fit) (data_segment task.lun task.tag task.sent piece fit) had)
    by_answer (Ask count) allows =
        let u : Upiu = upiu_at (upiu_out (upiu_of s task (Ask count))) in
        by_kind ReadyToTransfer u (out_kind (upiu_of s task (Ask count))) (other_sent s u ReadyToTransfer (task ∷ others) ws queue tt had)
    by_answer (Good segment) allows =
        let u : Upiu = upiu_at (upiu_out (upiu_of s task (Good segment))) in
        by_kind Response u (out_kind (upiu_of s task (Good segment))) (other_sent s u Response (task ∷ others) ws queue tt had)
    by_answer (Check sense) allows =
        let u : Upiu = upiu_at (upiu_out (upiu_of s task (Check sense))) in
        by_kind Response u (out_kind (upiu_of s task (Check sense))) (other_sent s u Response (task ∷ others) ws queue tt had)

-- what the first task has sent, after every sound history
pub first_sent : (s : Sizes) (u : List Block) (e : History) → 0 < s.block → s.block < 2 ^ 16 → SoundSoFar s u e → FirstSent s (tasks_after s e) (shown_by_first s e)
first_sent s u [] some fits sound = refl
first_sent s u (Host bytes ∷ e) some fits sound = host_sent s (on_after e) (tasks_after s e) (shown_by_first s e) bytes (first_sent s u e some fits sound.0)
first_sent s u (Device bytes ∷ e) some fits sound = ⊎_elim
    (λ (may : MaySend s (tasks_after s e) bytes). sent_device s (tasks_after s e) (shown_by_first s e) bytes some fits (queue_after s e) may (first_sent s u e some fits sound.0))
    (λ (badly : EndsBadly (tasks_after s e) (leaving (tasks_after s e) (Device bytes)) × IsNoData (upiu_at bytes).kind).
    other_sent s (upiu_at bytes) (upiu_at bytes).kind (tasks_after s e) (shown_by_first s e) (queue_after s e) badly.1 (first_sent s u e some fits sound.0))
    (sent_or_replied s u e bytes sound)
first_sent s u (Gone tag ∷ e) some fits sound = fewer_tasks s tag (tasks_after s e) (shown_by_first s e) (queue_after s e) (first_sent s u e some fits sound.0)
first_sent s u (Reset ∷ e) some fits sound = none_left (tasks_after s e) (first_sent s u e some fits sound.0)
  where
    none_left : (ts : List Task) → FirstSent s ts (shown_by_first s e) → After s ts [] (shown_by_first s e)
    none_left [] had = had
    none_left (task ∷ _) had = refl
first_sent s u (_ ∷ e) some fits sound = same_tasks s (tasks_after s e) (shown_by_first s e) (first_sent s u e some fits sound.0)

-- what a read has sent, and what it gives
same_blocks : {a b c d : ℕ} → ReadsBlocks a b ≡ ReadsBlocks c d → (a ≡ c) × (b ≡ d)
same_blocks {a} {b} {c} {d} is = (let first : a ≡ c = cc in first, let count : b ≡ d = cc in count)

read_sent : (s : Sizes) (task : Task) (command : Cdb) (lba n : ℕ) (ws : List Shown) → work_of command ≡ ReadsBlocks lba n → SentBy s task command ws → HasSent s task.lun lba task.sent ws
read_sent s task (Read first count) lba n ws reads had = subst (λ (l : ℕ). HasSent s task.lun l task.sent ws) (same_blocks reads).0 had
read_sent s task (HpbRead first entry count id) lba n ws reads had = subst (λ (l : ℕ). HasSent s task.lun l task.sent ws) (same_blocks reads).0 had
read_sent s task _ lba n ws reads had = cc

read_gives : (s : Sizes) (command : Cdb) (lba n : ℕ) → work_of command ≡ ReadsBlocks lba n → bytes_given s command ≡ s.block * n
read_gives s (Read first count) lba n reads = ap (λ (m : ℕ). s.block * m) (same_blocks reads).1
read_gives s (HpbRead first entry count id) lba n reads = ap (λ (m : ℕ). s.block * m) (same_blocks reads).1
read_gives s _ lba n reads = cc

-- a read that is answered GOOD has sent exactly its blocks, in order
pub good_read : (s : Sizes) (u : List Block) (e : History) (bytes : List ℕ) (task : Task) (lba n : ℕ) → 0 < s.block → s.block < 2 ^ 16 → SoundSoFar s u (e ▹ Device bytes)
    → leaving (tasks_after s e) (Device bytes) ≡ record { task = task; good = true } ∷ [] → work_of task.command ≡ ReadsBlocks lba n
    → map (λ (w : Shown). w.place) (shown_by_first s e) ≡ places_from task.lun lba n
good_read s u e bytes task lba n some fits sound leaves is =
    let first = subst (FirstAlone (tasks_after s e)) leaves (first_ends s u e bytes sound) in
    let had : SentBy s task task.command (shown_by_first s e) = subst (λ (ts : List Task). FirstSent s ts (shown_by_first s e)) first.1 (first_sent s u e some fits sound.0) in
    let read : HasSent s task.lun lba task.sent (shown_by_first s e) = read_sent s task task.command lba n (shown_by_first s e) is had in
    let all : task.sent ≡ s.block * n = (good_moved s u e bytes task sound leaves).sent ∙ read_gives s task.command lba n is in
    let count : read.count ≡ n =
    sym (mul-div_cancel_left read.count some) ∙ ap (λ (m : ℕ). m / s.block) (sym read.sent_whole ∙ all) ∙ mul-div_cancel_left n some in
    read.places ∙ ap (places_from task.lun lba) count
