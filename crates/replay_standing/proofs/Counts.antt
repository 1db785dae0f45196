-- What a replay counts over the events of one more call.
use Rattle.std.proofs.Common.{◌≡◌, ℕ, ◌+◌, ◌≤◌, Bool, true, false, not, List, [], ◌∷◌, ◌++◌, Option, Some, None, refl, sym, ◌∙◌, ap, subst, arith}
use Rattle.std.specs.Prelude.{is_some}
use Rattle.std.specs.List.{list_any}
use Rattle.std.proofs.lemmas.Bool.{false≢true}
use Rattle.flash_pages.specs.declared.chip.ChipOp.{ChipOp}
use Rattle.flash_pages.specs.Place.{Place}
use Rattle.flat_unit.specs.declared.event.Event.{Event}
use Rattle.flat_unit.specs.declared.event.Event.TheVariants.{Host, Device, Reset, Moved, Failed}
use Rattle.flat_unit.specs.Causes.{sense_code}
use Rattle.flat_unit.specs.History.{History, ◌▹◌, followed_by}
use Rattle.flat_unit.specs.Replays.{events_of, failed_events, is_failure, is_unready, moved_events, serves}
use Rattle.flat_unit.specs.Sizes.{Sizes}
use Rattle.flat_unit.specs.Sound.{owed}
use Rattle.hpb_outside.specs.Faults.{raised}
use Rattle.flat_unit.specs.Counts.{is_sent, one_if, sends}
use Rattle.hpb_device.specs.declared.counts.Counts.{Counts}
use Rattle.hpb_device.specs.declared.device.Sent.{Sent}
use Rattle.hpb_device.specs.declared.device.Sent.TheVariants.{Nothing, Upiu as UpiuSent}
use Rattle.hpb_device.specs.Counts.{counted_step, no_counts}
use Rattle.hpb_device.specs.Standing.{answer_events}
use Rattle.replay_standing.specs.Transcript.{CountStepsAlone, IsUnready, SendsUnready}

-- events that follow others
pub followed_by-more : (e : History) (xs ys : List Event) → followed_by e (xs ++ ys) ≡ followed_by (followed_by e xs) ys
followed_by-more e [] ys = refl
followed_by-more e (x ∷ xs) ys = followed_by-more (e ▹ x) xs ys

-- whether one of the events of a call of `collect` is a failure
pub fails_in : (failed : Option ChipOp) (moved : Option Place) → list_any is_failure (events_of (record { failed = failed; moved = moved; sent = None })) ≡ is_some failed
fails_in None None = refl
fails_in None (Some p) = refl
fails_in (Some op) None = refl
fails_in (Some op) (Some p) = refl

-- a step that serves a task sends something that tells no unready chip
pub serves_some : (sent : Option (List ℕ)) → serves sent ≡ true → (bytes : List ℕ) × (sent ≡ Some bytes) × (sense_code bytes ≡ Some 0x44 → ⊥)
serves_some None is = absurd (false≢true is)
serves_some (Some bytes) is = (bytes, refl, λ code. false≢true (sym (ap (λ (c : Option ℕ). not (is_unready c)) code) ∙ is))

-- nothing is owed, and each step so far told no more than that the chip isn't ready
pub record IsQuiet (s : Sizes) (e : History) : Type 0 where
  pub unready : SendsUnready s e
  pub nothing_owed : owed s e ≡ []

still_owed : (s : Sizes) (e : History) → owed s e ≡ [] → Rattle.std.specs.Prelude.drop 1 (owed s e) ≡ []
still_owed s e none = ap (Rattle.std.specs.Prelude.drop 1) none

quiet_failed : (s : Sizes) (e : History) (failed : Option ChipOp) → IsQuiet s e → IsQuiet s (followed_by e (failed_events failed))
quiet_failed s e None at = at
quiet_failed s e (Some op) at = record { unready = at.unready; nothing_owed = still_owed s e at.nothing_owed }

quiet_moved : (s : Sizes) (e : History) (moved : Option Place) → IsQuiet s e → IsQuiet s (followed_by e (moved_events moved))
quiet_moved s e None at = at
quiet_moved s e (Some p) at = record { unready = at.unready; nothing_owed = still_owed s e at.nothing_owed }

quiet_sent : (s : Sizes) (e : History) (bytes : List ℕ) → sense_code bytes ≡ Some 0x44 → IsQuiet s e → SendsUnready s (e ▹ Device bytes)
quiet_sent s e bytes code at = (at.unready, subst (IsUnready bytes) (sym at.nothing_owed) code)

-- what a step of an unready device tells
pub unready_group : (s : Sizes) (e : History) (failed : Option ChipOp) (moved : Option Place) (sent : Option (List ℕ))
    → ((bytes : List ℕ) → sent ≡ Some bytes → sense_code bytes ≡ Some 0x44) → IsQuiet s e
    → SendsUnready s (followed_by e (events_of (record { failed = failed; moved = moved; sent = sent })))
unready_group s e None None None codes at = at.unready
unready_group s e None None (Some bytes) codes at = quiet_sent s e bytes (codes bytes refl) at
unready_group s e None (Some p) None codes at = (quiet_moved s e (Some p) at).unready
unready_group s e None (Some p) (Some bytes) codes at = quiet_sent s (e ▹ Moved p.lun p.lba) bytes (codes bytes refl) (quiet_moved s e (Some p) at)
unready_group s e (Some op) None None codes at = (quiet_failed s e (Some op) at).unready
unready_group s e (Some op) None (Some bytes) codes at = quiet_sent s (e ▹ Failed op) bytes (codes bytes refl) (quiet_failed s e (Some op) at)
unready_group s e (Some op) (Some p) None codes at = (quiet_moved s (e ▹ Failed op) (Some p) (quiet_failed s e (Some op) at)).unready
unready_group s e (Some op) (Some p) (Some bytes) codes at =
    quiet_sent s (e ▹ Failed op ▹ Moved p.lun p.lba) bytes (codes bytes refl) (quiet_moved s (e ▹ Failed op) (Some p) (quiet_failed s e (Some op) at))

-- what a device counts that serves nothing
one_most : (b : Bool) → one_if b ≤ 1
one_most true = omega arith
one_most false = omega arith

sends_more : (s : Sizes) (e : History) (x : Event) → sends s (e ▹ x) ≤ sends s e + 1
sends_more s e x = let most = one_most (is_sent x (owed s e)) in omega (arith, most)

-- a step sends one UPIU at most
sends_group : (s : Sizes) (e : History) (failed : Option ChipOp) (moved : Option Place) (sent : Option (List ℕ))
    → sends s (followed_by e (events_of (record { failed = failed; moved = moved; sent = sent }))) ≤ sends s e + 1
sends_group s e None None None = omega arith
sends_group s e None None (Some bytes) = sends_more s e (Device bytes)
sends_group s e None (Some p) None = omega arith
sends_group s e None (Some p) (Some bytes) = let more = sends_more s (e ▹ Moved p.lun p.lba) (Device bytes) in omega (arith, more)
sends_group s e (Some op) None None = omega arith
sends_group s e (Some op) None (Some bytes) = let more = sends_more s (e ▹ Failed op) (Device bytes) in omega (arith, more)
sends_group s e (Some op) (Some p) None = omega arith
sends_group s e (Some op) (Some p) (Some bytes) = let more = sends_more s (e ▹ Failed op ▹ Moved p.lun p.lba) (Device bytes) in omega (arith, more)

-- it counts each step
pub stepped_alone : (s : Sizes) (e : History) (failed : Option ChipOp) (moved : Option Place) (sent : Option (List ℕ)) (before now : Counts) → now ≡ counted_step before
    → CountStepsAlone s e before → CountStepsAlone s (followed_by e (events_of (record { failed = failed; moved = moved; sent = sent }))) now
stepped_alone s e failed moved sent before now is so_far =
    let most = sends_group s e failed moved sent in
    let step : now.steps ≡ raised before.steps = ap (λ (c : Counts). c.steps) is in
    record {
      steps = omega (arith, most, step, so_far.steps);
      lookups = ap (λ (c : Counts). c.lookups) is ∙ so_far.lookups;
      entries = ap (λ (c : Counts). c.entries) is ∙ so_far.entries;
      moved = ap (λ (c : Counts). c.moved) is ∙ so_far.moved;
      erased = ap (λ (c : Counts). c.erased) is ∙ so_far.erased;
    }

alone_still : (s : Sizes) (e now : History) (counts : Counts) → sends s now ≡ sends s e → CountStepsAlone s e counts → CountStepsAlone s now counts
alone_still s e now counts same so_far = record {
  steps = omega (arith, same, so_far.steps);
  lookups = so_far.lookups;
  entries = so_far.entries;
  moved = so_far.moved;
  erased = so_far.erased;
}

-- what comes from the host, and a reset, are no steps
pub received_alone : (s : Sizes) (e : History) (bytes : List ℕ) (counts : Counts) → CountStepsAlone s e counts → CountStepsAlone s (e ▹ Host bytes) counts
received_alone s e bytes counts = alone_still s e (e ▹ Host bytes) counts (omega arith)

pub reset_alone : (s : Sizes) (e : History) (counts : Counts) → CountStepsAlone s e counts → CountStepsAlone s (e ▹ Reset) counts
reset_alone s e counts = alone_still s e (e ▹ Reset) counts (omega arith)

-- nor is an answer that is owed
pub answered_alone : (s : Sizes) (e : History) (sent : Sent) (out : List ℕ) (counts : Counts) → owed s e ≡ answer_events sent out → CountStepsAlone s e counts
    → CountStepsAlone s (followed_by e (answer_events sent out)) counts
answered_alone s e Nothing out counts owes so_far = so_far
answered_alone s e UpiuSent out counts owes so_far =
    let none : one_if (is_sent (Device out) (owed s e)) ≡ 0 = ap (λ (xs : List Event). one_if (is_sent (Device out) xs)) owes in
    alone_still s e (e ▹ Device out) counts (omega (arith, none)) so_far

-- at first nothing is counted
pub begins_alone : (s : Sizes) (counts : Counts) → counts ≡ no_counts → CountStepsAlone s [] counts
begins_alone s counts none = record {
  steps = omega arith;
  lookups = ap (λ (c : Counts). c.lookups) none;
  entries = ap (λ (c : Counts). c.entries) none;
  moved = ap (λ (c : Counts). c.moved) none;
  erased = ap (λ (c : Counts). c.erased) none;
}
