-- Where no call of the chip failed, each request is answered GOOD, or cut, or the sequence numbers were used up.
use Rattle.std.proofs.Common.{◌≡◌, ⊎_elim, ℕ, Bool, true, false, List, [], ◌∷◌, ◌++◌, map, Option, Some, None, refl, sym, ◌∙◌, ap, subst, arith}
use Rattle.std.specs.Prelude.{if◌then◌else◌}
use Rattle.std.specs.List.{find}
use Rattle.hpb_cdb.specs.declared.cdb.Cdb.{Cdb}
use Rattle.hpb_cdb.specs.declared.cdb.Cdb.TheVariants.{Read, Write, HpbRead}
use Rattle.hpb_sense.specs.declared.sense.FixedSense.{FixedSense}
use Rattle.upiu_wire.specs.Upiu.{Upiu, upiu_out}
use Rattle.flat_unit.specs.declared.event.Event.{Event}
use Rattle.flat_unit.specs.declared.event.Event.TheVariants.{Device, Failed}
use Rattle.flat_unit.specs.Causes.{Caused, EventHasCause, HasCauseFor, JustFailed, JustFailedToRead, SendHasCause, failures, sense_code}
use Rattle.flat_unit.specs.Contents.{Block}
use Rattle.flat_unit.specs.History.{History, ◌▹◌}
use Rattle.flat_unit.specs.Sends.{Answer, Data, Ask, Good as GoodAnswer, Check as CheckAnswer, Allows, MayEndWith, upiu_of}
use Rattle.flat_unit.specs.Senses.{read_failed, write_failed, chip_failed, no_number}
use Rattle.flat_unit.specs.Sizes.{Sizes}
use Rattle.flat_unit.specs.Sound.{SoundSoFar}
use Rattle.flat_unit.proofs.standing.Changes.{device_code}
use Rattle.driver_laws.specs.declared.answer.Answer.{Answer as Given}
use Rattle.driver_laws.specs.declared.answer.Answer.TheVariants.{Good, Check}
use Rattle.driver_laws.specs.Commands.{OpenCommand, next_of, upiu_of_next}
use Rattle.driver_laws.specs.Deliver.{answer_of}
use Rattle.driver_laws.specs.Drive.{Asks, Fails, Gets, Moment, Moves, Resets, Sends, Turn, Wants, answered_for, cut, gets, has_asked, moment_after, sent_events, turned, with_done}
use Rattle.driver_laws.specs.Flat.{Answered, Asked, Came}
use Rattle.driver_laws.specs.Fits.{Fits, MayLead, Serves, kept_as}
use Rattle.driver_laws.specs.Laws.{AllGoodOrCut, IsGoodOrCut}
use Rattle.driver_laws.proofs.Delivering.{after_answer, consistent}
use Rattle.driver_laws.proofs.Flatness.{after}
use Rattle.driver_laws.proofs.Turning.{Takes, gets_events, sound_before, takes, together}

just_failed : (e : History) → JustFailed e → failures e ≡ 0 → ⊥
just_failed (Failed op ∷ e) is none = absurd (omega arith)
just_failed [] is none = absurd is
just_failed (x ∷ e) is none = absurd is

just_failed_to_read : (e : History) → JustFailedToRead e → failures e ≡ 0 → ⊥
just_failed_to_read e (earlier, is) none = just_failed e (subst JustFailed (sym is) tt) none

-- a command's own sense, as its answer says it
ended_with : (s : Sizes) (next : ℕ) (e : History) (command : Cdb) (sense : FixedSense) → failures e ≡ 0 → MayEndWith command sense → HasCauseFor s ⊥ next e sense.asc → sense ≡ no_number
ended_with s next e command sense none may cause = by_command command may
  where
    bad_read : sense ≡ read_failed → sense ≡ no_number
    bad_read is = absurd (just_failed_to_read e (cause.read (ap (λ (x : FixedSense). x.asc) is)) none)

    bad_write : sense ≡ write_failed → sense ≡ no_number
    bad_write is = absurd (just_failed e (cause.write (ap (λ (x : FixedSense). x.asc) is)) none)

    bad_chip : sense ≡ chip_failed → sense ≡ no_number
    bad_chip is = ⊎_elim
        (λ (failed : JustFailedToRead e). absurd (just_failed_to_read e failed none))
        (λ (foreign : ⊥). absurd foreign)
        (cause.chip (ap (λ (x : FixedSense). x.asc) is))

    by_command : (command : Cdb) → MayEndWith command sense → sense ≡ no_number
    by_command (Read lba n) may = ⊎_elim bad_read bad_chip may
    by_command (HpbRead lba entry n id) may = ⊎_elim bad_read bad_chip may
    by_command (Write lba n) may = ⊎_elim bad_write (⊎_elim (λ (is : sense ≡ no_number). is) bad_chip) may
    by_command _ may = bad_chip may

-- the answer to a caller
check_answer : (s : Sizes) (o : OpenCommand) (sense : FixedSense) → sense ≡ no_number → answer_of o (upiu_of s (kept_as s o) (CheckAnswer sense)) ≡ Check no_number
check_answer s o sense is = ap (λ (x : FixedSense). answer_of o (upiu_of s (kept_as s o) (CheckAnswer x))) is

good_or_cut_more : (xs : List Answered) (ys : List Answered) → AllGoodOrCut xs → AllGoodOrCut ys → AllGoodOrCut (xs ++ ys)
good_or_cut_more [] ys one two = two
good_or_cut_more (x ∷ xs) ys one two = (one.0, good_or_cut_more xs ys one.1 two)

done_good : (o : OpenCommand) (answer : Given) (m : Moment) → IsGoodOrCut (Came answer) → AllGoodOrCut m.answers
    → AllGoodOrCut (with_done (if o.caller then Some (record { tag = o.tag; answer = answer }) else None) m).answers
done_good o answer m is all = by_caller o.caller
  where
    by_asked : (x : Option Asked) → AllGoodOrCut (m.answers ++ answered_for (record { tag = o.tag; answer = answer }) x)
    by_asked (Some a) = good_or_cut_more m.answers _ all (is, tt)
    by_asked None = good_or_cut_more m.answers _ all tt

    by_caller : (b : Bool) → AllGoodOrCut (with_done (if b then Some (record { tag = o.tag; answer = answer }) else None) m).answers
    by_caller true = by_asked (find (has_asked o.tag) m.callers)
    by_caller false = all

cut_all : (callers : List Asked) → AllGoodOrCut (map cut callers)
cut_all [] = tt
cut_all (a ∷ rest) = (tt, cut_all rest)

takes_good : (s : Sizes) (next : ℕ) (m : Moment) (bytes : List ℕ) → Serves s → Fits s m.opens m.events → failures m.events ≡ 0
    → Caused s ⊥ next (m.events ▹ Device bytes) → Takes s m bytes → AllGoodOrCut m.answers → AllGoodOrCut (gets s bytes m).answers
takes_good s next m bytes serves fits none caused t all =
    subst (λ (n : Moment). AllGoodOrCut n.answers) (sym t.leads) (by_answer t.sent.a t.sent.allows t.sent.is)
  where
    o : OpenCommand
    o = t.o

    now : Answer → Moment
    now a = record m { opens = after_answer o t.os a; events = m.events ▹ Device bytes }

    by_answer : (a : Answer) → Allows s (kept_as s o) a → bytes ≡ upiu_out (upiu_of s (kept_as s o) a) → AllGoodOrCut (after s m o t.os bytes a).answers
    by_answer (Data piece) allows is = all
    by_answer (Ask count) allows is = all
    by_answer (GoodAnswer segment) allows is = done_good o (Good o.got) (now (GoodAnswer segment)) tt all
    by_answer (CheckAnswer sense) allows is =
        let v : Upiu = upiu_of s (kept_as s o) (CheckAnswer sense) in
        let head : Fits s (o ∷ t.os) m.events = subst (λ (os : List OpenCommand). Fits s os m.events) t.is fits in
        let h = consistent s o (CheckAnswer sense) serves head.proper.0 allows in
        let code : sense_code bytes ≡ Some sense.asc = ap sense_code is ∙ device_code v h in
        let cause : HasCauseFor s ⊥ next m.events sense.asc =
        subst (SendHasCause s ⊥ next m.events) code (subst (λ (due : List Event). EventHasCause s ⊥ next m.events (Device bytes) due) fits.nothing_owed caused.1) in
        let ended : sense ≡ no_number = ended_with s next m.events o.command sense none allows cause in
        let answer : answer_of o v ≡ Check no_number = check_answer s o sense ended in
        done_good o (answer_of o v) (now (CheckAnswer sense)) (subst (λ (x : Given). IsGoodOrCut (Came x)) (sym answer) refl) all

-- fewer events have fewer failures, and the same causes
fewer : (s : Sizes) (next : ℕ) (turn : Turn) (m : Moment) → failures (turned s turn m).events ≡ 0 → Caused s ⊥ next (turned s turn m).events → (failures m.events ≡ 0) × Caused s ⊥ next m.events
fewer s next (Asks number way request) m none caused = (none, caused)
fewer s next (Wants w) m none caused = (none, caused)
fewer s next Sends m none caused = by_upiu (upiu_of_next s (next_of m.opens)) none caused
  where
    by_upiu : (v : Option Upiu) → failures (sent_events m.events v) ≡ 0 → Caused s ⊥ next (sent_events m.events v) → (failures m.events ≡ 0) × Caused s ⊥ next m.events
    by_upiu (Some v) none caused = (none, caused.0)
    by_upiu None none caused = (none, caused)
fewer s next (Gets bytes) m none caused =
    (subst (λ (e : History). failures e ≡ 0) (gets_events s bytes m) none, (subst (Caused s ⊥ next) (gets_events s bytes m) caused).0)
fewer s next (Moves lun lba) m none caused = (none, caused.0)
fewer s next (Fails op) m none caused = absurd (omega arith)
fewer s next Resets m none caused = (none, caused.0)

pub good_or_cut : (s : Sizes) (u : List Block) (next : ℕ) (turns : List Turn) → Serves s → MayLead s turns → SoundSoFar s u (moment_after s turns).events
    → Caused s ⊥ next (moment_after s turns).events → failures (moment_after s turns).events ≡ 0 → AllGoodOrCut (moment_after s turns).answers
good_or_cut s u next [] serves may sound caused none = tt
good_or_cut s u next (turn ∷ turns) serves may sound caused none =
    let m : Moment = moment_after s turns in
    let less = fewer s next turn m none caused in
    let sooner = sound_before s u turn m sound in
    let before = good_or_cut s u next turns serves may.0 sooner less.1 less.0 in
    let fits = (together s u turns serves may.0 sooner).fits in
    by_turn turn m sound caused fits less.0 before
  where
    by_turn : (turn : Turn) (m : Moment) → SoundSoFar s u (turned s turn m).events → Caused s ⊥ next (turned s turn m).events → Fits s m.opens m.events → failures m.events ≡ 0
        → AllGoodOrCut m.answers → AllGoodOrCut (turned s turn m).answers
    by_turn (Gets bytes) m sound caused fits none all =
        takes_good s next m bytes serves fits none (subst (Caused s ⊥ next) (gets_events s bytes m) caused)
        (takes s u m bytes serves fits (subst (SoundSoFar s u) (gets_events s bytes m) sound)) all
    by_turn Resets m sound caused fits none all = good_or_cut_more m.answers (map cut m.callers) all (cut_all m.callers)
    by_turn _ m sound caused fits none all = all
