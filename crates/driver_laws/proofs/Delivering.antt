-- What the device sends for its first task is in phase, and the driver's commands stay the device's tasks.
use Rattle.std.proofs.Common.{◌≡◌, ⊎_elim, inr, ℕ, ◌+◌, ◌-◌, ◌*◌, ◌≤◌, ◌<◌, Bool, true, false, cond, not, ◌&&◌, ◌||◌, List, [], ◌∷◌, ◌++◌, length}
use Rattle.std.proofs.Common.{length-append, map, filter, take, drop, Option, None, Ok, Err, refl, sym, ◌∙◌, ap, subst, arith, ◌==◌}
use Rattle.std.specs.Prelude.{if◌then◌else◌}
use Rattle.std.specs.List.{find}
use Rattle.std.proofs.Math.Nat.{mul-suc, mul-le-mul_left, lt_of_mul-lt-mul_left}
use Rattle.std.proofs.lemmas.List.{length-take-le}
use Rattle.std.proofs.lemmas.Bool.{false≢true, eq-eqb}
use Rattle.hpb_cdb.specs.declared.cdb.Cdb.{Cdb}
use Rattle.hpb_cdb.specs.declared.cdb.Cdb.TheVariants.{TestReady, Read, Write, Capacity, Sync, HpbRead, ReadBuffer, Prefetch, InactOne, InactAll}
use Rattle.hpb_sense.specs.Sense.{fixed_out}
use Rattle.upiu_wire.specs.declared.kind.Kind.TheVariants.{DataIn, ReadyToTransfer, Response}
use Rattle.upiu_wire.specs.Upiu.{Upiu, IsConsistent, upiu_at, upiu_out}
use Rattle.upiu_wire.specs.WireFault.{wire_fault_of}
use Rattle.upiu_wire.specs.Written.{transfer_upiu, data_upiu, response_upiu}
use Rattle.flat_unit.specs.declared.event.Event.{Event}
use Rattle.flat_unit.specs.declared.event.Event.TheVariants.{Device}
use Rattle.flat_unit.specs.Command.{bytes_given, bytes_taken, needed}
use Rattle.flat_unit.specs.Contents.{Block}
use Rattle.flat_unit.specs.History.{History, ◌▹◌}
use Rattle.flat_unit.specs.Queue.{after_sent, on_after, tasks_after, tasks_changed, with_sent, with_asked as with_task_asked, without_tag}
use Rattle.flat_unit.specs.Sends.{Answer, Data, Ask, Good, Check, Allows, IsPiece, MaySend, asked_at_once, upiu_of}
use Rattle.flat_unit.specs.Sizes.{Sizes}
use Rattle.flat_unit.specs.Sound.{Comes, IsCandidate, SoundSoFar}
use Rattle.flat_unit.specs.Contents.{candidates, shown}
use Rattle.flat_unit.specs.Task.{Task}
use Rattle.flat_unit.specs.Tasks.{IsQueue}
use Rattle.flat_unit.proofs.History.{upiu_at-out, wire_fault_of-out}
use Rattle.flat_unit.proofs.standing.Changes.{device_changes}
use Rattle.flat_unit.proofs.queue.Tasks.{same_tag, others_stay, queue_after}
use Rattle.flat_unit.proofs.standing.OneCall.{answer_consistent}
use Rattle.driver_laws.specs.declared.answer.Done.{Done}
use Rattle.driver_laws.specs.declared.fault.DriverFault.TheVariants.{Phase}
use Rattle.driver_laws.specs.Commands.{OpenCommand, has, is_out, uses}
use Rattle.driver_laws.specs.Deliver.{delivered, delivered_by, delivered_by_fault, delivered_to, done_of, is_in_phase, taken, with_asked, with_got}
use Rattle.driver_laws.specs.Fits.{Fits, FitsCdb, GotWhole, IsProper, OutFirst, Serves, kept_as}
use Rattle.driver_laws.proofs.Opens.{and_true, first_changes, first_goes, found, none_out, nonzero, within}

-- what the task of a command allows can be written
pub consistent : (s : Sizes) (o : OpenCommand) (a : Answer) → Serves s → IsProper s o → Allows s (kept_as s o) a → IsConsistent (upiu_of s (kept_as s o) a)
consistent s o a serves is allows = answer_consistent s (kept_as s o) a
    (record { lun = is.lun; fields = is.fields; range = is.range; expected = omega arith })
    (record { block = serves.block_fits; expected = is.expected })
    allows

-- bytes that are written are read
pub delivered_of : (s : Sizes) (opens : List OpenCommand) (bytes : List ℕ) (v : Upiu) → IsConsistent v → bytes ≡ upiu_out v → delivered s opens bytes ≡ delivered_by v.kind s opens v
unfolding delivered
delivered_of s opens bytes v h is =
    ap (delivered_by_fault s opens bytes) (ap wire_fault_of is ∙ wire_fault_of-out v h)
    ∙ ap (λ (u : Upiu). delivered_by u.kind s opens u) (ap upiu_at is ∙ upiu_at-out v h)

taken_first : (s : Sizes) (o : OpenCommand) (os : List OpenCommand) (v : Upiu) → v.tag ≡ o.tag → is_in_phase s o v ≡ true
    → delivered_to s (o ∷ os) v (find (has v.tag) (o ∷ os)) ≡ Ok (taken v.kind (o ∷ os) o v)
taken_first s o os v tag phase =
    ap (delivered_to s (o ∷ os) v) (found o os v.tag tag)
    ∙ ap (λ (b : Bool). if b then Ok (taken v.kind (o ∷ os) o v) else Err Phase) phase

data_taken : (s : Sizes) (o : OpenCommand) (os : List OpenCommand) (piece : List ℕ) → 0 < length piece → length o.got + length piece ≤ bytes_given s o.command
    → delivered_by DataIn s (o ∷ os) (data_upiu DataIn o.lun o.tag (length o.got) piece) ≡ Ok (record { opens = with_got piece o ∷ os; done = None })
data_taken s o os piece some fits =
    taken_first s o os (data_upiu DataIn o.lun o.tag (length o.got) piece) refl
    (and_true _ _ (same_tag o.lun) (and_true _ _ (same_tag (length o.got)) (and_true _ _ (same_tag (length piece)) (and_true _ _ (nonzero (length piece) some) (within _ _ fits)))))
    ∙ ap (λ (opens : List OpenCommand). Ok (record { opens = opens; done = None })) (first_changes (with_got piece) o os)

range_taken : (s : Sizes) (o : OpenCommand) (os : List OpenCommand) (count : ℕ) → 0 < count → o.asked + count ≤ bytes_taken s o.command
    → delivered_by ReadyToTransfer s (o ∷ os) (transfer_upiu ReadyToTransfer o.lun o.tag o.asked count) ≡ Ok (record { opens = with_asked (o.asked + count) o ∷ os; done = None })
range_taken s o os count some fits =
    taken_first s o os (transfer_upiu ReadyToTransfer o.lun o.tag o.asked count) refl
    (and_true _ _ (same_tag o.lun) (and_true _ _ (same_tag o.asked) (and_true _ _ (nonzero count some) (within _ _ fits))))
    ∙ ap (λ (opens : List OpenCommand). Ok (record { opens = opens; done = None })) (first_changes (with_asked (o.asked + count)) o os)

response_taken : (s : Sizes) (o : OpenCommand) (os : List OpenCommand) (status residual : ℕ) (segment : List ℕ)
    → (not (status == 0) || ((length o.got == bytes_given s o.command) && (o.given == bytes_taken s o.command))) ≡ true
    → delivered_by Response s (o ∷ os) (response_upiu o.lun o.tag status residual segment)
    ≡ Ok (record { opens = os; done = done_of o (response_upiu o.lun o.tag status residual segment) })
response_taken s o os status residual segment moved =
    taken_first s o os (response_upiu o.lun o.tag status residual segment) refl (and_true _ _ (same_tag o.lun) moved)
    ∙ ap (λ (opens : List OpenCommand). Ok (record { opens = opens; done = done_of o (response_upiu o.lun o.tag status residual segment) })) (first_goes o os)

-- a piece of data is the next one of a command that a driver sends
data_within : (s : Sizes) (o : OpenCommand) (task : Task) (command : Cdb) (piece : List ℕ) → 0 < s.block → FitsCdb command → GotWhole s command o.got o.asked → task.sent ≡ length o.got
    → length o.got < bytes_given s command → IsPiece s task command piece → (0 < length piece) × (length o.got + length piece ≤ bytes_given s command)
data_within s o task (Read lba n) piece some fits whole sent more is = (omega arith, next_whole s.block n whole.0 (length o.got) (length piece) whole.1 is more)
  where
    next_whole : (block n k got len : ℕ) → got ≡ block * k → len ≡ block → got < block * n → got + len ≤ block * n
    next_whole block n k got len whole is more =
        let below : k < n = lt_of_mul-lt-mul_left block (omega (arith, whole, more)) in
        let e : block * (k + 1) ≤ block * n = mul-le-mul_left block (omega arith) in
        let f = mul-suc block k in
        omega arith
data_within s o task (HpbRead lba entry n id) piece some fits whole sent more is = (omega arith, next_whole s.block n whole.0 (length o.got) (length piece) whole.1 is more)
  where
    next_whole : (block n k got len : ℕ) → got ≡ block * k → len ≡ block → got < block * n → got + len ≤ block * n
    next_whole block n k got len whole is more =
        let below : k < n = lt_of_mul-lt-mul_left block (omega (arith, whole, more)) in
        let e : block * (k + 1) ≤ block * n = mul-le-mul_left block (omega arith) in
        let f = mul-suc block k in
        omega arith
data_within s o task (ReadBuffer region sub len) piece some fits whole sent more is = (omega (arith, is, sent, some, more), omega (arith, is, sent, more))
data_within s o task Capacity piece some fits whole sent more is = absurd fits
data_within s o task TestReady piece some fits whole sent more is = absurd is
data_within s o task (Write lba n) piece some fits whole sent more is = absurd is
data_within s o task (Sync lba n) piece some fits whole sent more is = absurd is
data_within s o task (Prefetch lba id len) piece some fits whole sent more is = absurd is
data_within s o task (InactOne region) piece some fits whole sent more is = absurd is
data_within s o task InactAll piece some fits whole sent more is = absurd is

-- what is asked for is the next range
asks_within : (s : Sizes) (o : OpenCommand) (task : Task) (command : Cdb) (count : ℕ) → 0 < s.block → GotWhole s command o.got o.asked → task.asked ≡ o.asked
    → o.asked < bytes_taken s command → count ≡ asked_at_once s task command → (0 < count) × (o.asked + count ≤ bytes_taken s command)
asks_within s o task (Write lba n) count some whole same more is = (omega arith, omega arith)
asks_within s o task (Prefetch lba id len) count some whole same more is = ⊎_elim
    (λ (none : o.asked ≡ 0). (omega arith, omega arith))
    (λ (all : o.asked ≡ len). absurd (omega arith))
    whole
asks_within s o task (Read lba n) count some whole same more is = absurd (omega arith)
asks_within s o task (HpbRead lba entry n id) count some whole same more is = absurd (omega arith)
asks_within s o task (ReadBuffer region sub len) count some whole same more is = absurd (omega arith)
asks_within s o task Capacity count some whole same more is = absurd (omega arith)
asks_within s o task TestReady count some whole same more is = absurd (omega arith)
asks_within s o task (Sync lba n) count some whole same more is = absurd (omega arith)
asks_within s o task (InactOne region) count some whole same more is = absurd (omega arith)
asks_within s o task InactAll count some whole same more is = absurd (omega arith)

-- the device's tasks after a UPIU for its first one
device_after : (s : Sizes) (opens : List OpenCommand) (o : OpenCommand) (os : List OpenCommand) (e : History) (bytes : List ℕ) (v : Upiu) → opens ≡ o ∷ os → o.out ≡ true → Fits s opens e
    → IsConsistent v → bytes ≡ upiu_out v → tasks_after s (e ▹ Device bytes) ≡ after_sent v v.kind (kept_as s o ∷ map (kept_as s) (filter is_out os))
device_after s opens o os e bytes v is out fits h same =
    ap (λ (b : List ℕ). tasks_changed s (on_after e) (tasks_after s e) (Device b)) same
    ∙ device_changes s (on_after e) (tasks_after s e) v h
    ∙ ap (after_sent v v.kind) (fits.keeps ∙ ap (λ (os : List OpenCommand). map (kept_as s) (filter is_out os)) is
    ∙ ap (λ (b : Bool). map (kept_as s) (cond b (o ∷ filter is_out os) (filter is_out os))) out)

-- the first command goes on
pub fits_with : (s : Sizes) (o now : OpenCommand) (os : List OpenCommand) (e : History) (bytes : List ℕ) → Fits s (o ∷ os) e
    → tasks_after s (e ▹ Device bytes) ≡ kept_as s now ∷ map (kept_as s) (filter is_out os) → now.out ≡ true → now.tag ≡ o.tag → IsProper s now → Fits s (now ∷ os) (e ▹ Device bytes)
fits_with s o now os e bytes fits keeps out tag proper = record {
  keeps = keeps ∙ ap (λ (b : Bool). map (kept_as s) (cond b (now ∷ filter is_out os) (filter is_out os))) (sym out);
  in_order = (λ waits. absurd (false≢true (sym waits ∙ out)), fits.in_order.1);
  apart = (ap (uses os) tag ∙ fits.apart.0, fits.apart.1);
  proper = (proper, fits.proper.1);
  room = fits.room;
  switch = fits.switch;
  nothing_owed = ap (drop 1) fits.nothing_owed;
}

-- the first command ends
pub fits_without : (s : Sizes) (o : OpenCommand) (os : List OpenCommand) (e : History) (bytes : List ℕ) → Fits s (o ∷ os) e
    → tasks_after s (e ▹ Device bytes) ≡ map (kept_as s) (filter is_out os) → Fits s os (e ▹ Device bytes)
fits_without s o os e bytes fits keeps = record {
  keeps = keeps;
  in_order = fits.in_order.1;
  apart = fits.apart.1;
  proper = fits.proper.1;
  room = let r = fits.room in omega arith;
  switch = fits.switch;
  nothing_owed = ap (drop 1) fits.nothing_owed;
}

-- what the device sends is for the driver's first command
pub record FirstSent (s : Sizes) (o : OpenCommand) (bytes : List ℕ) : Type 0 where
  pub a : Answer
  pub allows : Allows s (kept_as s o) a
  pub is : bytes ≡ upiu_out (upiu_of s (kept_as s o) a)
  pub out : o.out ≡ true

pub first_sent : (s : Sizes) (opens : List OpenCommand) (e : History) (bytes : List ℕ) → Fits s opens e → MaySend s (tasks_after s e) bytes
    → (o : OpenCommand) × (os : List OpenCommand) × (opens ≡ o ∷ os) × FirstSent s o bytes
first_sent s opens e bytes fits may = by_opens opens fits.in_order (subst (λ (ts : List Task). MaySend s ts bytes) fits.keeps may)
  where
    by_opens : (opens : List OpenCommand) → OutFirst opens → MaySend s (map (kept_as s) (filter is_out opens)) bytes
        → (o : OpenCommand) × (os : List OpenCommand) × (opens ≡ o ∷ os) × FirstSent s o bytes
    by_opens [] in_order may = absurd may
    by_opens (o ∷ os) in_order may = by_out o.out refl may
      where
        by_out : (b : Bool) → o.out ≡ b → MaySend s (map (kept_as s) (cond b (o ∷ filter is_out os) (filter is_out os))) bytes
            → (o' : OpenCommand) × (os' : List OpenCommand) × (o ∷ os ≡ o' ∷ os') × FirstSent s o' bytes
        by_out true out may = (o, os, refl, record { a = may.0; allows = may.1; is = may.2; out = out })
        by_out false out may = absurd (subst (λ (left : List OpenCommand). MaySend s (map (kept_as s) left) bytes) (none_out os (in_order.0 out)) may)

-- the commands after an answer to the first one, and the request that it ends
abbrev pub after_answer : OpenCommand → List OpenCommand → Answer → List OpenCommand
after_answer o os (Data piece) = with_got piece o ∷ os
after_answer o os (Ask count) = with_asked (o.asked + count) o ∷ os
after_answer o os (Good segment) = os
after_answer o os (Check sense) = os

abbrev pub done_after : Sizes → OpenCommand → Answer → Option Done
done_after s o (Good segment) = done_of o (upiu_of s (kept_as s o) (Good segment))
done_after s o (Check sense) = done_of o (upiu_of s (kept_as s o) (Check sense))
done_after s o _ = None

pub record Goes (s : Sizes) (o : OpenCommand) (os : List OpenCommand) (e : History) (bytes : List ℕ) (a : Answer) : Type 0 where
  pub takes : delivered s (o ∷ os) bytes ≡ Ok (record { opens = after_answer o os a; done = done_after s o a })
  pub fits : Fits s (after_answer o os a) (e ▹ Device bytes)

got_whole : (s : Sizes) (o : OpenCommand) (task : Task) (command : Cdb) (piece : List ℕ) → IsPiece s task command piece → GotWhole s command o.got o.asked → GotWhole s command (o.got ++ piece) o.asked
got_whole s o task (Read lba n) piece is whole = let e = mul-suc s.block whole.0 in let f = length-append o.got piece in (whole.0 + 1, omega (arith, whole.1, is, e, f))
got_whole s o task (HpbRead lba entry n id) piece is whole = let e = mul-suc s.block whole.0 in let f = length-append o.got piece in (whole.0 + 1, omega (arith, whole.1, is, e, f))
got_whole s o task (Prefetch lba id len) piece is whole = absurd is
got_whole s o task _ piece is whole = tt

asked_whole : (s : Sizes) (o : OpenCommand) (task : Task) (command : Cdb) (count : ℕ) → GotWhole s command o.got o.asked → o.asked < bytes_taken s command → count ≡ asked_at_once s task command
    → GotWhole s command o.got (o.asked + count)
asked_whole s o task (Read lba n) count whole more is = whole
asked_whole s o task (HpbRead lba entry n id) count whole more is = whole
asked_whole s o task (Prefetch lba id len) count whole more is = ⊎_elim
    (λ (none : o.asked ≡ 0). inr (omega arith))
    (λ (all : o.asked ≡ len). absurd (omega arith))
    whole
asked_whole s o task _ count whole more is = tt

-- the first command has moved all its bytes
moved_all : (s : Sizes) (o : OpenCommand) → o.given ≤ length o.bytes → length o.got ≡ bytes_given s o.command → length (take o.given o.bytes) ≡ bytes_taken s o.command
    → ((length o.got == bytes_given s o.command) && (o.given == bytes_taken s o.command)) ≡ true
moved_all s o fits sent come =
    let e : length (take o.given o.bytes) ≡ o.given = length-take-le o.given o.bytes fits in
    and_true _ _ (eq-eqb _ _ sent) (eq-eqb _ _ (sym e ∙ come))

without_first : (s : Sizes) (o : OpenCommand) (ts : List Task) → IsQueue s (kept_as s o ∷ ts) → without_tag o.tag (kept_as s o ∷ ts) ≡ ts
without_first s o ts queue =
    ap (λ (b : Bool). cond (not b) (kept_as s o ∷ without_tag o.tag ts) (without_tag o.tag ts)) (same_tag o.tag) ∙ others_stay o.tag ts queue.apart.0

pub goes : (s : Sizes) (o : OpenCommand) (os : List OpenCommand) (e : History) (bytes : List ℕ) (sent : FirstSent s o bytes) → Serves s → Fits s (o ∷ os) e → Goes s o os e bytes sent.a
goes s o os e bytes sent serves fits = by_answer sent.a sent.allows sent.is
  where
    ts : List Task
    ts = map (kept_as s) (filter is_out os)

    proper : IsProper s o
    proper = fits.proper.0

    queue : IsQueue s (kept_as s o ∷ ts)
    queue = subst (IsQueue s) (fits.keeps ∙ ap (λ (b : Bool). map (kept_as s) (cond b (o ∷ filter is_out os) (filter is_out os))) sent.out) (queue_after s e)

    by_answer : (a : Answer) → Allows s (kept_as s o) a → bytes ≡ upiu_out (upiu_of s (kept_as s o) a) → Goes s o os e bytes a
    by_answer (Data piece) allows is =
        let h = consistent s o (Data piece) serves proper allows in
        let w = data_within s o (kept_as s o) o.command piece serves.block proper.fits proper.whole refl allows.0 allows.1 in
        record {
          takes = delivered_of s (o ∷ os) bytes (upiu_of s (kept_as s o) (Data piece)) h is ∙ data_taken s o os piece w.0 w.1;
          fits = fits_with s o (with_got piece o) os e bytes fits
              (device_after s (o ∷ os) o os e bytes (upiu_of s (kept_as s o) (Data piece)) refl sent.out fits h is
              ∙ ap (λ (b : Bool). (if b then with_sent (length piece) (kept_as s o) else kept_as s o) ∷ ts) (same_tag o.tag)
              ∙ ap (λ (n : ℕ). record (kept_as s o) { sent = n } ∷ ts) (sym (length-append o.got piece)))
              sent.out refl
              (record {
                lun = proper.lun;
                fields = proper.fields;
                range = proper.range;
                fits = proper.fits;
                expected = proper.expected;
                bytes = proper.bytes;
                asked = proper.asked;
                given = proper.given;
                whole = got_whole s o (kept_as s o) o.command piece allows.1 proper.whole;
                fresh = λ waits. absurd (false≢true (sym waits ∙ sent.out));
                serving = proper.serving;
                own = proper.own;
              });
        }
    by_answer (Ask count) allows is =
        let h = consistent s o (Ask count) serves proper allows in
        let w = asks_within s o (kept_as s o) o.command count serves.block proper.whole refl allows.1 allows.2 in
        record {
          takes = delivered_of s (o ∷ os) bytes (upiu_of s (kept_as s o) (Ask count)) h is ∙ range_taken s o os count w.0 w.1;
          fits = fits_with s o (with_asked (o.asked + count) o) os e bytes fits
              (device_after s (o ∷ os) o os e bytes (upiu_of s (kept_as s o) (Ask count)) refl sent.out fits h is
              ∙ ap (λ (b : Bool). (if b then with_task_asked (o.asked + count) (kept_as s o) else kept_as s o) ∷ ts) (same_tag o.tag))
              sent.out refl
              (record {
                lun = proper.lun;
                fields = proper.fields;
                range = proper.range;
                fits = proper.fits;
                expected = proper.expected;
                bytes = proper.bytes;
                asked = w.1;
                given = let g = proper.given in omega arith;
                whole = asked_whole s o (kept_as s o) o.command count proper.whole allows.1 allows.2;
                fresh = λ waits. absurd (false≢true (sym waits ∙ sent.out));
                serving = proper.serving;
                own = proper.own;
              });
        }
    by_answer (Good segment) allows is =
        let h = consistent s o (Good segment) serves proper allows in
        record {
          takes = delivered_of s (o ∷ os) bytes (upiu_of s (kept_as s o) (Good segment)) h is
              ∙ response_taken s o os 0 (needed s o.command - needed s o.command) segment
              (moved_all s o (let a = proper.asked in let b = proper.bytes in let g = proper.given in omega arith) allows.0 allows.1);
          fits = fits_without s o os e bytes fits (device_after s (o ∷ os) o os e bytes (upiu_of s (kept_as s o) (Good segment)) refl sent.out fits h is ∙ without_first s o ts queue);
        }
    by_answer (Check sense) allows is =
        let h = consistent s o (Check sense) serves proper allows in
        record {
          takes = delivered_of s (o ∷ os) bytes (upiu_of s (kept_as s o) (Check sense)) h is
              ∙ response_taken s o os 2 (needed s o.command - length o.got - length (take o.given o.bytes)) (fixed_out sense) refl;
          fits = fits_without s o os e bytes fits (device_after s (o ∷ os) o os e bytes (upiu_of s (kept_as s o) (Check sense)) refl sent.out fits h is ∙ without_first s o ts queue);
        }

-- what a sound history's next UPIU of the device is
pub may_send : (s : Sizes) (u : List Block) (opens : List OpenCommand) (e : History) (bytes : List ℕ) → Fits s opens e → SoundSoFar s u (e ▹ Device bytes)
    → MaySend s (tasks_after s e) bytes × IsCandidate (candidates s u e) (shown s (tasks_after s e) (Device bytes))
may_send s u opens e bytes fits sound = subst (λ (due : List Event). Comes s u e due (Device bytes)) fits.nothing_owed sound.1
