-- The sentences of the headline follow from what a run promises.
use Rattle.std.proofs.Common.{◌≡◌, true, ◌⊎◌, ℕ, ◌+◌, List, [], ◌++◌, Option, Some, refl, sym, subst, inl, inr}
use Rattle.std.proofs.lemmas.List.{append-nil}
use Rattle.std.specs.Io.KnownBytes.{Appends}
use Rattle.hpb_outside.specs.Faults.{Rose}
use Rattle.flash_pages.specs.declared.chip.Geometry.{Geometry}
use Rattle.flat_unit.specs.History.{History}
use Rattle.flat_unit.specs.Print.{print}
use Rattle.flat_unit.specs.Reads.{ReadsAllowed, ReadsEndGood}
use Rattle.flat_unit.specs.Replays.{Progress}
use Rattle.flat_unit.specs.Sizes.{Sizes}
use Rattle.flat_unit.proofs.contents.ReadsEnd.{reads_allowed, reads_end_well}
use Rattle.trace_replay.specs.ByText.{is_shown_line, is_trace_line, status_of}
use Rattle.trace_replay.specs.Headline.{AreLastWords, DrainsAll, EndsByText, Tells}
use Rattle.hpb_device.specs.declared.counts.Counts.{Counts}
use Rattle.flash_pages.specs.Chip.{Page}
use Rattle.trace_replay.specs.Programs.{IsPlanned, ReplayIs, ReplayProgramIs, ReplayServes}
use Rattle.trace_replay.specs.Run.{IsCutShort, RunIs}
use Rattle.trace_replay.specs.Serving.{Found, ServesIfAny}
use Rattle.trace_replay.proofs.Serving.{found_of, served_program, serves_as}
use Rattle.run_output.specs.Ends.{SinkEnds, SourceEnds}
use Rattle.run_output.specs.Texts.{bad_line_text, counts_text, long_text}
use Rattle.trace_replay.specs.Showing.{ShowIs, ShowProgramIs}
use Rattle.replay_standing.specs.Transcript.{IsChipOf, IsPlain, SendsUnready, sizes_on, unit_on}
use Rattle.command_words.specs.Limits.{IsNamed}
use Rattle.command_words.specs.Words.{IsReplay, has_image, named_unit}
use Rattle.run_output.specs.declared.status.Status.{Status}
use Rattle.run_output.specs.declared.status.Status.TheVariants.{Done, BadLine, ReadFault, WriteFault, LongTrace, Usage, Memory, Geometry as BadGeometry, ChipFault, BadImage, BadCapture}
use Rattle.trace_replay.proofs.ByText.{all_parsed, all_shown, begins_bad, begins_unshown, told_bad, told_done, told_long}

worded : (a b : Option (List ℕ)) (text : List ℕ) → Appends a b text → Appends a b (text ++ [])
worded a b text = subst (Appends a b) (sym (append-nil text))

-- what a run had to write when its sink failed ends with last words
last_words : (s : Sizes) (counted : Progress → Counts → Type 0) (mid : Option (List ℕ)) (limit n : ℕ) (p last : Progress) (words : List ℕ) → IsCutShort s counted mid limit n p last words
    → AreLastWords words
last_words s counted mid limit n p last words (inl (_, _, _, is)) = inl is
last_words s counted mid limit n p last words (inr (inl (_, _, is, _))) = inr (inl (n + 1, is))
last_words s counted mid limit n p last words (inr (inr (inl (_, _, is, _)))) = inr (inr (inl is))
last_words s counted mid limit n p last words (inr (inr (inr (_, _, _, (counts, _, is))))) = inr (inr (inr (counts, is)))

-- a fact of all events that a run may have, which are plain
tells_run : (P : History → Type 0) (s : Sizes) (good : Progress → Type 0) (counted : Progress → Counts → Type 0) (left left_now w w_now : Option (List ℕ)) (limit : ℕ) (status : Status)
    → ((p : Progress) → good p → P p.events)
    → ((p : Progress) → good p → IsPlain p.events)
    → RunIs s good counted left left_now w w_now limit status → Tells status w w_now P
tells_run P s good counted left left_now w w_now limit Done leads plain (mid, n, ran, few, ends) =
    let (is, (counts, are, written)) = ran.shows in
    record { events = ran.moment.events; words = counts_text counts; plain = plain ran.moment is; last = inr (inr (inr (counts, refl))); holds = leads ran.moment is; written = written }
tells_run P s good counted left left_now w w_now limit (BadLine number) leads plain (mid, behind, n, ran, few, is, bad, ahead) = record {
  events = ran.moment.events;
  words = bad_line_text number;
  plain = plain ran.moment ran.shows.0;
  last = inr (inl (number, refl));
  holds = leads ran.moment ran.shows.0;
  written = ran.shows.1;
}
tells_run P s good counted left left_now w w_now limit ReadFault leads plain (mid, n, ran, few, stops) =
    record {
      events = ran.moment.events;
      words = [];
      plain = plain ran.moment ran.shows.0;
      last = inl refl;
      holds = leads ran.moment ran.shows.0;
      written = worded w w_now (print ran.moment.events) ran.shows.1;
    }
tells_run P s good counted left left_now w w_now limit LongTrace leads plain (mid, ran, more, ahead) =
    record { events = ran.moment.events; words = long_text; plain = plain ran.moment ran.shows.0; last = inr (inr (inl refl)); holds = leads ran.moment ran.shows.0; written = ran.shows.1 }
tells_run P s good counted left left_now w w_now limit WriteFault leads plain (mid, n, last, words, ran, well, cut) =
    record { events = last.events; words = words; plain = plain last well; last = last_words s counted mid limit n ran.moment last words ran.shows; holds = leads last well; written = cut }
tells_run P s good counted left left_now w w_now limit Usage leads plain none = absurd none
tells_run P s good counted left left_now w w_now limit Memory leads plain none = absurd none
tells_run P s good counted left left_now w w_now limit BadGeometry leads plain none = absurd none
tells_run P s good counted left left_now w w_now limit ChipFault leads plain none = absurd none
tells_run P s good counted left left_now w w_now limit (BadImage fault) leads plain none = absurd none
tells_run P s good counted left left_now w w_now limit (BadCapture offset fault) leads plain none = absurd none

-- how a told text ends a run without faults
run_by_text : (s : Sizes) (good : Progress → Type 0) (counted : Progress → Counts → Type 0) (text : List ℕ) (left_now w w_now : Option (List ℕ)) (limit : ℕ) (status : Status)
    → (status ≡ ReadFault → ⊥) → (status ≡ WriteFault → ⊥)
    → RunIs s good counted (Some text) left_now w w_now limit status → status ≡ status_of is_trace_line limit text
run_by_text s good counted text left_now w w_now limit Done read write (mid, n, ran, few, ends) =
    told_done is_trace_line limit n text ran.texts (all_parsed (Some text) ran.texts ran.lines mid ran.taken ran.parsed) ran.counted mid left_now ran.taken few ends
run_by_text s good counted text left_now w w_now limit (BadLine number) read write (mid, behind, n, ran, few, is, bad, ahead) =
    told_bad is_trace_line limit n text ran.texts (all_parsed (Some text) ran.texts ran.lines mid ran.taken ran.parsed) ran.counted number mid ran.taken few is
    (λ rest told. begins_bad rest behind (subst (λ (m : Option (List ℕ)). Rattle.trace_replay.specs.Run.IsBadNext m behind) told bad))
run_by_text s good counted text left_now w w_now limit LongTrace read write (mid, ran, more, ahead) =
    told_long is_trace_line limit limit text ran.texts (all_parsed (Some text) ran.texts ran.lines mid ran.taken ran.parsed) ran.counted mid ran.taken refl more
run_by_text s good counted text left_now w w_now limit ReadFault read write run = absurd (read refl)
run_by_text s good counted text left_now w w_now limit WriteFault read write run = absurd (write refl)
run_by_text s good counted text left_now w w_now limit Usage read write none = absurd none
run_by_text s good counted text left_now w w_now limit Memory read write none = absurd none
run_by_text s good counted text left_now w w_now limit BadGeometry read write none = absurd none
run_by_text s good counted text left_now w w_now limit ChipFault read write none = absurd none
run_by_text s good counted text left_now w w_now limit (BadImage fault) read write none = absurd none
run_by_text s good counted text left_now w w_now limit (BadCapture offset fault) read write none = absurd none

no_read_fault : (before now : ℕ) (status : Status) → SourceEnds before now status → (Rose before now → ⊥) → status ≡ ReadFault → ⊥
no_read_fault before now status ends none is = none (subst (SourceEnds before now) is ends).rose

no_write_fault : (before now : ℕ) (status : Status) → SinkEnds before now status → (Rose before now → ⊥) → status ≡ WriteFault → ⊥
no_write_fault before now status ends none is = none (subst (SinkEnds before now) is ends).rose

module _ (words : List (List ℕ)) (geometry : Geometry) (pages back : List Page) (faults faults_back : ℕ) (same : Type 0) (left left_now w w_now : Option (List ℕ)) (status : Status)
    (planned : IsPlanned words geometry) (program : ReplayProgramIs words geometry pages back faults faults_back same left left_now w w_now status) where
  -- what is known of each replay that a program ends with
  of_replay : (fact : List Page → Option (List ℕ) → Status → Type 0)
      → ((chip : List Page) (mid : Option (List ℕ)) → ReplayIs (named_unit words) geometry chip back faults faults_back mid left_now w w_now status → fact chip mid status)
      → ServesIfAny (has_image words) true geometry pages back left left_now w w_now fact status
  of_replay fact leads = elim (served_program (IsReplay words) (IsNamed words geometry) same
      (ReplayServes (named_unit words) (has_image words) true geometry pages back faults faults_back left left_now w w_now) w w_now status planned.0 planned.1 program) [
        | inl none ↦ inl none
        | inr serves ↦ inr (serves_as (has_image words) true geometry pages back left left_now w w_now
            (λ chip mid. ReplayIs (named_unit words) geometry chip back faults faults_back mid left_now w w_now) fact status leads serves)
      ]

  pub tells_allowed : ServesIfAny (has_image words) true geometry pages back left left_now w w_now
      (λ chip _ status. IsChipOf (named_unit words) geometry chip → Tells status w w_now (ReadsAllowed (sizes_on (named_unit words) geometry) (unit_on (named_unit words) chip))) status
  tells_allowed = of_replay (λ chip _ s. IsChipOf (named_unit words) geometry chip → Tells s w w_now (ReadsAllowed (sizes_on (named_unit words) geometry) (unit_on (named_unit words) chip))) (λ chip mid run sound.
      tells_run _ (sizes_on (named_unit words) geometry) _ _ mid left_now w w_now 1000000 status (λ p is. reads_allowed _ _ p.events (is.own sound).sound.so_far) (λ p is. is.plain) run)

  pub tells_good : ServesIfAny (has_image words) true geometry pages back left left_now w w_now
      (λ chip _ status. IsChipOf (named_unit words) geometry chip → Tells status w w_now (ReadsEndGood (sizes_on (named_unit words) geometry))) status
  tells_good = of_replay (λ chip _ s. IsChipOf (named_unit words) geometry chip → Tells s w w_now (ReadsEndGood (sizes_on (named_unit words) geometry))) (λ chip mid run sound.
      tells_run _ (sizes_on (named_unit words) geometry) _ _ mid left_now w w_now 1000000 status (λ p is. reads_end_well _ _ _ p.events (is.own sound).sound.so_far (is.own sound).caused) (λ p is. is.plain)
      run)

  pub tells_unready : ServesIfAny (has_image words) true geometry pages back left left_now w w_now
      (λ chip _ status. ¬ IsChipOf (named_unit words) geometry chip → Tells status w w_now (SendsUnready (sizes_on (named_unit words) geometry))) status
  tells_unready = of_replay (λ chip _ s. ¬ IsChipOf (named_unit words) geometry chip → Tells s w w_now (SendsUnready (sizes_on (named_unit words) geometry))) (λ chip mid run unsound.
      tells_run _ (sizes_on (named_unit words) geometry) _ _ mid left_now w w_now 1000000 status (λ p is. (is.foreign unsound).unready) (λ p is. is.plain) run)

  pub ends_by_text : (source source_now sink sink_now : ℕ) → SourceEnds source source_now status → SinkEnds sink sink_now status
      → ServesIfAny (has_image words) true geometry pages back left left_now w w_now (λ _ mid. EndsByText is_trace_line mid source source_now sink sink_now) status
  ends_by_text source source_now sink sink_now source_ends sink_ends = of_replay (λ _ mid. EndsByText is_trace_line mid source source_now sink sink_now) (λ chip mid run text told read write.
      inr (run_by_text (sizes_on (named_unit words) geometry) _ _ text left_now w w_now 1000000 status (no_read_fault source source_now status source_ends read)
      (no_write_fault sink sink_now status sink_ends write)
      (subst (λ (l : Option (List ℕ)). ReplayIs (named_unit words) geometry chip back faults faults_back l left_now w w_now status) told run)))

-- a replay that took all lines drains its reads
pub drains_all : (words : List (List ℕ)) (geometry : Geometry) (pages back : List Page) (faults faults_back : ℕ) (same : Type 0) (left left_now w w_now : Option (List ℕ)) (status : Status)
    → ReplayProgramIs words geometry pages back faults faults_back same left left_now w w_now status → status ≡ Done
    → Found (has_image words) geometry pages left (λ _ mid. DrainsAll (sizes_on (named_unit words) geometry) mid left_now w w_now)
drains_all words geometry pages back faults faults_back same left left_now w w_now status program is = by_done
    (subst (λ (s : Status). ReplayProgramIs words geometry pages back faults faults_back same left left_now w w_now s) is program)
  where
    drains_run : (chip : List Page) (mid : Option (List ℕ)) → ReplayIs (named_unit words) geometry chip back faults faults_back mid left_now w w_now Done
        → DrainsAll (sizes_on (named_unit words) geometry) mid left_now w w_now
    drains_run chip mid (at, n, ran, few, ends) = record {
      texts = ran.texts;
      lines = ran.lines;
      moment = ran.moment;
      mid = at;
      taken = ran.taken;
      ends = ends;
      parsed = ran.parsed;
      drains = ran.drains;
      counts = ran.shows.1.0;
      printed = ran.shows.1.2;
    }

    by_done : ReplayProgramIs words geometry pages back faults faults_back same left left_now w w_now Done
        → Found (has_image words) geometry pages left (λ _ mid. DrainsAll (sizes_on (named_unit words) geometry) mid left_now w w_now)
    by_done (_, _, serves) =
        let (chip, mid, finds, run) = found_of (has_image words) true geometry pages back left left_now w w_now
        (λ chip mid. ReplayIs (named_unit words) geometry chip back faults faults_back mid left_now w w_now) Done (λ none. none) serves in
        (chip, mid, finds, drains_run chip mid run)

show_by_text : (text : List ℕ) (left_now w w_now : Option (List ℕ)) (limit : ℕ) (status : Status) → (status ≡ ReadFault → ⊥) → (status ≡ WriteFault → ⊥)
    → ShowIs (Some text) left_now w w_now limit status → status ≡ status_of is_shown_line limit text
show_by_text text left_now w w_now limit Done read write (mid, n, all, shows, printed, few, ends) =
    told_done is_shown_line limit n text shows.lines (all_shown (Some text) shows.lines shows.shown mid shows.taken shows.each) shows.counted mid left_now shows.taken few ends
show_by_text text left_now w w_now limit (BadLine number) read write (mid, behind, n, all, shows, printed, few, is, bad, ahead) =
    told_bad is_shown_line limit n text shows.lines (all_shown (Some text) shows.lines shows.shown mid shows.taken shows.each) shows.counted number mid shows.taken few is
    (λ rest told. begins_unshown rest behind (subst (λ (m : Option (List ℕ)). Rattle.trace_replay.specs.Showing.IsUnshown m behind) told bad))
show_by_text text left_now w w_now limit LongTrace read write (mid, all, shows, printed, more, ahead) =
    told_long is_shown_line limit limit text shows.lines (all_shown (Some text) shows.lines shows.shown mid shows.taken shows.each) shows.counted mid shows.taken refl more
show_by_text text left_now w w_now limit ReadFault read write run = absurd (read refl)
show_by_text text left_now w w_now limit WriteFault read write run = absurd (write refl)
show_by_text text left_now w w_now limit Usage read write none = absurd none
show_by_text text left_now w w_now limit Memory read write none = absurd none
show_by_text text left_now w w_now limit BadGeometry read write none = absurd none
show_by_text text left_now w w_now limit ChipFault read write none = absurd none
show_by_text text left_now w w_now limit (BadImage fault) read write none = absurd none
show_by_text text left_now w w_now limit (BadCapture offset fault) read write none = absurd none

pub shows_by_text : (left left_now w w_now : Option (List ℕ)) (source source_now sink sink_now : ℕ) (status : Status) → ShowProgramIs left left_now w w_now 1000000 status
    → SourceEnds source source_now status → SinkEnds sink sink_now status
    → EndsByText is_shown_line left source source_now sink sink_now status
shows_by_text left left_now w w_now source source_now sink sink_now status program source_ends sink_ends text told read write =
    by_memory (memory_or status program)
  where
    memory_or : (status : Status) → ShowProgramIs left left_now w w_now 1000000 status → (status ≡ Memory) ⊎ ShowIs left left_now w w_now 1000000 status
    memory_or Memory program = inl refl
    memory_or Done program = inr program
    memory_or (BadLine number) program = inr program
    memory_or ReadFault program = inr program
    memory_or WriteFault program = inr program
    memory_or LongTrace program = inr program
    memory_or Usage program = inr program
    memory_or BadGeometry program = inr program
    memory_or ChipFault program = inr program
    memory_or (BadImage fault) program = inr program
    memory_or (BadCapture offset fault) program = inr program

    by_memory : (status ≡ Memory) ⊎ ShowIs left left_now w w_now 1000000 status → (status ≡ Memory) ⊎ (status ≡ status_of is_shown_line 1000000 text)
    by_memory (inl is) = inl is
    by_memory (inr run) = inr (show_by_text text left_now w w_now 1000000 status (no_read_fault source source_now status source_ends read) (no_write_fault sink sink_now status sink_ends write)
        (subst (λ (l : Option (List ℕ)). ShowIs l left_now w w_now 1000000 status) told run))
