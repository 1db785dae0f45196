-- A run goes on line by line, and how it ends.
use Rattle.std.proofs.Common.{◌≡◌, ℕ, ◌+◌, ◌<◌, ◌≤◌, List, [], ◌∷◌, ◌++◌, Option, Some, refl, sym, ◌∙◌, ap, subst, arith, inl, inr, ◌⊎◌, length-append}
use Rattle.std.proofs.lemmas.List.{map-append}
use Rattle.std.specs.Io.KnownBytes.{Appends}
use Rattle.flat_unit.specs.Print.{print}
use Rattle.flat_unit.specs.Replays.{Progress, LineTo, Replays, begun}
use Rattle.flat_unit.proofs.contents.ReadsEnd.{drains_end_reads}
use Rattle.flat_unit.specs.Sizes.{Sizes}
use Rattle.flat_unit.specs.Trace.{Line}
use Rattle.flat_unit.proofs.History.{replays_more}
use Rattle.hpb_device.specs.Counted.{CountsStand}
use Rattle.hpb_device.specs.Lists.{ListsStand}
use Rattle.hpb_device.specs.Regions.{HintsStand}
use Rattle.hpb_device.specs.Standing.{first_of, sizes_of}
use Rattle.hpb_device.specs.declared.counts.Counts.{Counts}
use Rattle.hpb_device.specs.Counts.{no_counts}
use Rattle.hpb_device.specs.State.{DeviceState}
use Rattle.trace_text.specs.Grammar.{trace_line}
use Rattle.trace_text.specs.Lines.{IsLine, TakesLine, EndsAt, WhereTold}
use Rattle.run_output.specs.declared.status.Status.{Status}
use Rattle.run_output.specs.declared.status.Status.TheVariants.{Done, BadLine, ReadFault, WriteFault, LongTrace, Usage, Memory, Geometry, ChipFault, BadImage, BadCapture}
use Rattle.replay_standing.specs.Standing.{Standing}
use Rattle.trace_replay.specs.Moments.{Leads, Cuts}
use Rattle.run_output.specs.Ends.{HasMore, LastIs, ReadsAhead, StopsWithinLine}
use Rattle.trace_replay.specs.Run.{IsBadNext, IsCutNext, IsCutShort, Ran, RunIs}
use Rattle.run_output.specs.Texts.{bad_line_text, counts_text, long_text}
use Rattle.hpb_outside.specs.Writes.{AppendsFront, HasWrittenUpTo}
use Rattle.hpb_outside.proofs.Written.{nothing_yet}
use Rattle.run_output.proofs.Written.{front_wordless}
use Rattle.run_output.proofs.Ended.{takes_more}
use Rattle.replay_standing.proofs.Beginning.{sound_at, begun_standing}

-- what holds between two lines
abbrev pub StandsAndPrinted : (start now : DeviceState) (before written : Option (List ℕ)) (gathered : List ℕ) → Progress → Type 0
StandsAndPrinted start now before written gathered p = Standing start now p × HasWrittenUpTo before written (print p.events) gathered

pub ran_begins : (start : DeviceState) (left w : Option (List ℕ)) (gathered : List ℕ) → start.tasks ≡ [] → start.counts ≡ no_counts → HintsStand start [] → ListsStand start [] → CountsStand start []
    → start.store.scanned ≡ 0
    → Rattle.std.proofs.Common.◌≤◌ 1 start.store.geometry.pages → gathered ≡ []
    → Ran (sizes_of start) left left 0 (StandsAndPrinted start start w w gathered)
unfolding print
ran_begins start left w gathered none uncounted hints fetched counted scanned some fresh = record {
  texts = [];
  lines = [];
  moment = begun;
  taken = refl;
  parsed = refl;
  counted = refl;
  replays = refl;
  drains = refl;
  shows = (begun_standing start none uncounted hints fetched counted scanned some, rw fresh (nothing_yet w []));
}

pub ran_more : (start old new : DeviceState) (left mid now before w written : Option (List ℕ)) (gathered gathered_now : List ℕ) (n next : ℕ)
    → (ran : Ran (sizes_of start) left mid n (StandsAndPrinted start old before w gathered))
    → (text : List ℕ) (line : Line) → IsLine text → WhereTold (TakesLine text) mid now → trace_line text ≡ Some line
    → Leads (LineTo (sizes_of start) line ran.moment) start new before written gathered_now → next ≡ n + 1
    → Ran (sizes_of start) left now next (StandsAndPrinted start new before written gathered_now)
ran_more start old new left mid now before w written gathered gathered_now n next ran text line whole takes parses leads is = record {
  texts = ran.texts ++ text ∷ [];
  lines = ran.lines ++ line ∷ [];
  moment = leads.moment;
  taken = takes_more left ran.texts mid now text ran.taken whole takes;
  parsed = map-append trace_line ran.texts (text ∷ []) ∙ ((λ i. ran.parsed i ++ parses i ∷ []) ∙ sym (map-append (λ (l : Line). Some l) ran.lines (line ∷ [])));
  counted = omega (arith, length-append ran.texts (text ∷ []), ran.counted, is);
  replays = all;
  drains = drains_end_reads (sizes_of start) (first_of start).unit (ran.lines ++ line ∷ []) begun leads.moment all
      (sound_at start new leads.moment leads.standing);
  shows = (leads.standing, leads.printed);
}
  where
    all : Replays (sizes_of start) (ran.lines ++ line ∷ []) begun leads.moment
    all = replays_more (sizes_of start) ran.lines line begun ran.moment leads.moment ran.replays leads.reached

-- other facts of the same run
pub ran_with : (s : Sizes) (left now : Option (List ℕ)) (n : ℕ) (facts others : Progress → Type 0) (ran : Ran s left now n facts) → others ran.moment → Ran s left now n others
ran_with s left now n facts others ran shows = record {
  texts = ran.texts;
  lines = ran.lines;
  moment = ran.moment;
  taken = ran.taken;
  parsed = ran.parsed;
  counted = ran.counted;
  replays = ran.replays;
  drains = ran.drains;
  shows = shows;
}

module _ (s : Sizes) (good : Progress → Type 0) (counted : Progress → Counts → Type 0) (left mid left_now before written : Option (List ℕ)) (limit n : ℕ) (facts : Progress
    → Type 0) (ran : Ran s left mid n facts) (well : good ran.moment) where
  abbrev pub RunEnds : Status → Type 0
  RunEnds status = RunIs s good counted left left_now before written limit status

  pub ends_cut : (words : List ℕ) → IsCutShort s counted mid limit n ran.moment ran.moment words → AppendsFront before written (print ran.moment.events ++ words) → RunEnds WriteFault
  ends_cut words short cut = (mid, n, ran.moment, words, ran_with s left mid n facts (λ p. IsCutShort s counted mid limit n p ran.moment words) ran short, well, cut)

  pub ends_done : {A B : Type 0} (counts : Counts) (result : Status) → counted ran.moment counts → n ≤ limit → WhereTold EndsAt mid left_now
      → ((result ≡ Done) × Appends before written (print ran.moment.events ++ counts_text counts) × A)
      ⊎ ((result ≡ WriteFault) × AppendsFront before written (print ran.moment.events ++ counts_text counts) × B) → RunEnds result
  ends_done counts result are few ends (inl (is, all, _)) = subst RunEnds (sym is) (
    mid,
    n,
    ran_with s left mid n facts (λ p. good p
        × ((told : Counts) × counted p told × Appends before written (print p.events ++ counts_text told))) ran (well, (counts, are, all)),
    few,
    ends,
  )
  ends_done counts result are few ends (inr (is, cut, _)) =
      subst RunEnds (sym is) (ends_cut (counts_text counts) (inr (inr (inr (refl, few, (left_now, ends), (counts, are, refl))))) cut)

  pub ends_unread : n ≤ limit → StopsWithinLine mid left_now → Appends before written (print ran.moment.events) → RunEnds ReadFault
  ends_unread few stops all = (mid, n, ran_with s left mid n facts (λ p. good p × Appends before written (print p.events)) ran (well, all), few, stops)

  pub ends_bad : {A B : Type 0} (result : Status) (number : ℕ) (behind : Option (List ℕ)) → number ≡ n + 1 → n < limit → IsBadNext mid behind → ReadsAhead behind left_now
      → ((result ≡ BadLine number) × Appends before written (print ran.moment.events ++ bad_line_text number) × A)
      ⊎ ((result ≡ WriteFault) × AppendsFront before written (print ran.moment.events ++ bad_line_text number) × B) → RunEnds result
  ends_bad result number behind numbered few bad ahead (inl (is, all, _)) =
      subst RunEnds (sym is) (mid, behind, n, ran_with s left mid n facts (λ p. good p × Appends before written (print p.events ++ bad_line_text number)) ran (well, all), few, numbered, bad, ahead)
  ends_bad result number behind numbered few bad ahead (inr (is, cut, _)) =
      subst RunEnds (sym is) (ends_cut (bad_line_text number) (inr (inl (refl, few, ap bad_line_text numbered, (behind, bad)))) cut)

  -- the last line that may be taken was taken, and the trace doesn't end there
  pub ends_last : (result : Status) → n ≡ limit → (result ≡ Done → ⊥) → LastIs before written (print ran.moment.events) mid left_now result → RunEnds result
  ends_last Done all other last = absurd (other refl)
  ends_last LongTrace all other (written_all, more, ahead) = (
    mid,
    subst (λ (count : ℕ). Ran s left mid count (λ p. good p × Appends before written (print p.events ++ long_text))) all (ran_with s left mid n facts (λ p. good p
        × Appends before written (print p.events ++ long_text)) ran (well, written_all)),
    more,
    ahead,
  )
  ends_last ReadFault all other (written_all, stops) = (mid, n, ran_with s left mid n facts (λ p. good p × Appends before written (print p.events)) ran (well, written_all), omega arith, stops)
  ends_last WriteFault all other (words, last, cut) = ends_cut words (by_words last) cut
    where
      by_words : (words ≡ []) ⊎ ((words ≡ long_text) × HasMore mid) → IsCutShort s counted mid limit n ran.moment ran.moment words
      by_words (inl none) = inl (inl refl, omega arith, λ _. refl, none)
      by_words (inr (are, more)) = inr (inr (inl (refl, all, are, more)))
  ends_last (BadLine number) all other none = absurd none
  ends_last Usage all other none = absurd none
  ends_last Memory all other none = absurd none
  ends_last Geometry all other none = absurd none
  ends_last ChipFault all other none = absurd none
  ends_last (BadImage fault) all other none = absurd none
  ends_last (BadCapture offset fault) all other none = absurd none

-- the sink failed at the next line
pub ends_unwritten : (s : Sizes) (good : Progress → Type 0) (counted : Progress → Counts → Type 0) (left mid left_now before written : Option (List ℕ)) (limit n : ℕ) (facts : Progress
    → Type 0) (ran : Ran s left mid n facts) (start new : DeviceState)
    → n < limit → (cuts : Cuts (IsCutNext s mid ran.moment) start new before written) → good cuts.moment → RunIs s good counted left left_now before written limit WriteFault
ends_unwritten s good counted left mid left_now before written limit n facts ran start new few cuts still = (
  mid,
  n,
  cuts.moment,
  [],
  ran_with s left mid n facts (λ p. IsCutShort s counted mid limit n p cuts.moment []) ran (inl (cuts.reached, omega arith, λ all. absurd (omega arith), refl)),
  still,
  front_wordless before written (print cuts.moment.events) cuts.printed,
)
