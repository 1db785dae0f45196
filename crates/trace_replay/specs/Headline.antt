-- The sentences of the headline, of the events whose text a run has written.
use Rattle.std.specs.Prelude.{◌≡◌, ◌⊎◌, ℕ, Bool, List, [], ◌++◌, map, Option, Some}
use Rattle.hpb_outside.specs.Faults.{Rose}
use Rattle.flat_unit.specs.History.{History}
use Rattle.flat_unit.specs.Print.{print}
use Rattle.flat_unit.specs.Reads.{DrainsReads}
use Rattle.flat_unit.specs.Replays.{Progress, begun}
use Rattle.flat_unit.specs.Sizes.{Sizes}
use Rattle.flat_unit.specs.Trace.{Line}
use Rattle.std.specs.Io.KnownBytes.{Appends}
use Rattle.trace_text.specs.Grammar.{trace_line}
use Rattle.trace_text.specs.Lines.{EndsAt, WhereTold}
use Rattle.trace_replay.specs.ByText.{status_of}
use Rattle.hpb_device.specs.declared.counts.Counts.{Counts}
use Rattle.run_output.specs.Ends.{TakesLines}
use Rattle.run_output.specs.Texts.{bad_line_text, counts_text, long_text}
use Rattle.replay_standing.specs.Transcript.{IsPlain}
use Rattle.hpb_outside.specs.Writes.{AppendsFront}
use Rattle.run_output.specs.declared.status.Status.{Status}
use Rattle.run_output.specs.declared.status.Status.TheVariants.{Memory, WriteFault}

-- a text was written, or a front of it where the sink failed
abbrev pub IsWritten : Status → (old new : Option (List ℕ)) → (text : List ℕ) → Type 0
IsWritten WriteFault old new text = AppendsFront old new text
IsWritten _ old new text = Appends old new text

-- the last words of a run: none, the number of a line, that the text is long, or the counts
abbrev pub AreLastWords : List ℕ → Type 0
AreLastWords words =
    (words ≡ []) ⊎ ((number : ℕ) × (words ≡ bad_line_text number)) ⊎ (words ≡ long_text)
    ⊎ ((counts : Counts) × (words ≡ counts_text counts))

-- The text of plain events with this fact was written, and then the last words. No line of an event begins as those do,
-- so the text tells which events they are.
pub record Tells (status : Status) (old new : Option (List ℕ)) (fact : History → Type 0) : Type 0 where
  pub events : History
  pub words : List ℕ
  pub plain : IsPlain events
  pub last : AreLastWords words
  pub holds : fact events
  pub written : IsWritten status old new (print events ++ words)

-- all lines of a text were taken, and after each drain no read goes on; the text of the events was written, and the
-- counts
pub record DrainsAll (s : Sizes) (left left_now written written_now : Option (List ℕ)) : Type 0 where
  pub texts : List (List ℕ)
  pub lines : List Line
  pub moment : Progress
  pub mid : Option (List ℕ)
  pub taken : TakesLines left texts mid
  pub ends : WhereTold EndsAt mid left_now
  pub parsed : map trace_line texts ≡ map (λ (line : Line). Some line) lines
  pub drains : DrainsReads s lines begun moment
  pub counts : Counts
  pub printed : Appends written written_now (print moment.events ++ counts_text counts)

-- where a text is told and no call of the source or the sink failed, the status is that of the text, or memory was
-- wanted
abbrev pub EndsByText : (good : List ℕ → Bool) → (left : Option (List ℕ)) → (source source_now sink sink_now : ℕ)
    → Status → Type 0
EndsByText good left source source_now sink sink_now status = (text : List ℕ) → left ≡ Some text
    → ¬ Rose source source_now → ¬ Rose sink sink_now
    → (status ≡ Memory) ⊎ (status ≡ status_of good 1000000 text)
