-- What a run of a trace leaves.
use Rattle.std.specs.Prelude.{◌≡◌, ◌≢◌, ◌⊎◌, ℕ, ◌+◌, ◌<◌, ◌≤◌, List, [], ◌++◌, map, length, Option, Some, None}
use Rattle.std.specs.Prelude.{codes}
use Rattle.std.specs.Io.KnownBytes.{Appends, Keeps}
use Rattle.flat_unit.specs.Print.{print}
use Rattle.flat_unit.specs.Reads.{DrainsReads}
use Rattle.flat_unit.specs.Replays.{Progress, begun, LineTo, Replays}
use Rattle.flat_unit.specs.Sizes.{Sizes}
use Rattle.flat_unit.specs.Trace.{Line}
use Rattle.hpb_device.specs.Standing.{sizes_of}
use Rattle.hpb_device.specs.declared.counts.Counts.{Counts}
use Rattle.hpb_device.specs.State.{DeviceState}
use Rattle.trace_text.specs.Grammar.{trace_line}
use Rattle.trace_text.specs.Lines.{IsLine, TakesLine, EndsAt, WhereTold}
use Rattle.replay_standing.specs.Standing.{Standing}
use Rattle.trace_replay.specs.Moments.{Leads, Cuts, CutLineTo}
use Rattle.run_output.specs.Ends.{CountsFault, HasMore, IsLong, ReadsAhead, StopsWithinLine, TakesLines}
use Rattle.run_output.specs.Texts.{bad_line_text, counts_text, long_text}
use Rattle.hpb_outside.specs.Writes.{AppendsFront, HasWrittenUpTo}
use Rattle.run_output.specs.declared.turn.Turn.{Turn}
use Rattle.run_output.specs.declared.turn.Turn.TheVariants.{Served, Ended, Bad, Unread, Unwritten}
use Rattle.run_output.specs.declared.status.Status.{Status}
use Rattle.run_output.specs.declared.status.Status.TheVariants.{Done, BadLine, ReadFault, WriteFault, LongTrace, Usage}
use Rattle.run_output.specs.declared.status.Status.TheVariants.{ChipFault, Geometry as BadGeometry, Memory}

-- the next line is too long, and nothing was taken; or it was taken and is none of a trace. This is what follows what
-- was taken.
abbrev pub IsBadNext : (left behind : Option (List ℕ)) → Type 0
IsBadNext left behind = (IsLong left × Keeps left behind)
    ⊎ ((text : List ℕ) × WhereTold (TakesLine text) left behind × (trace_line text ≡ None))

-- the sink failed before the next line was taken, or after one of the calls that serve it
abbrev pub IsCutNext : Sizes → Option (List ℕ) → Progress → Progress → Type 0
IsCutNext s left p now = (now ≡ p)
    ⊎ ((text : List ℕ) × (mid : Option (List ℕ)) × (line : Line) × WhereTold (TakesLine text) left mid
    × (trace_line text ≡ Some line) × CutLineTo s line p now)

-- what one line comes to, where the replay has come so far
abbrev pub TurnAt : (start : DeviceState) (before : Option (List ℕ)) (p : Progress) (old new : DeviceState)
    (left left_now written : Option (List ℕ)) (gathered : List ℕ) → Turn → Type 0
TurnAt start before p old new left left_now written gathered Served =
    (text : List ℕ) × (line : Line) × IsLine text × WhereTold (TakesLine text) left left_now
    × (trace_line text ≡ Some line)
    × Leads (LineTo (sizes_of start) line p) start new before written gathered
TurnAt start before p old new left left_now written gathered Ended =
    WhereTold EndsAt left left_now × (new ≡ old) × HasWrittenUpTo before written (print p.events) gathered
TurnAt start before p old new left left_now written gathered Unread =
    Keeps left left_now × (new ≡ old) × Appends before written (print p.events)
TurnAt start before p old new left left_now written gathered Bad =
    IsBadNext left left_now × (new ≡ old) × HasWrittenUpTo before written (print p.events) gathered
TurnAt start before p old new left left_now written gathered Unwritten =
    Cuts (IsCutNext (sizes_of start) left p) start new before written

abbrev pub TurnIs : (old new : DeviceState) (left left_now written written_now : Option (List ℕ))
    (gathered gathered_now : List ℕ) → Turn → Type 0
TurnIs old new left left_now written written_now gathered gathered_now turn =
    (start : DeviceState) (before : Option (List ℕ)) (p : Progress) → Standing start old p
    → HasWrittenUpTo before written (print p.events) gathered
    → TurnAt start before p old new left left_now written_now gathered_now turn

-- so many lines were taken and served, and the events that they led to have these facts
pub record Ran (s : Sizes) (left now : Option (List ℕ)) (count : ℕ) (facts : Progress → Type 0) : Type 0 where
  pub texts : List (List ℕ)
  pub lines : List Line
  pub moment : Progress
  pub taken : TakesLines left texts now
  pub parsed : map trace_line texts ≡ map (λ (line : Line). Some line) lines
  pub counted : length texts ≡ count
  pub replays : Replays s lines begun moment
  pub drains : DrainsReads s lines begun moment
  pub shows : facts moment

-- What a run had to write when its sink failed, where so many lines were taken and served: the text of the next line as
-- far as it was served, or of all of them with the last words.
abbrev pub IsCutShort : Sizes → (counted : Progress → Counts → Type 0) → (mid : Option (List ℕ)) → (limit n : ℕ)
    → (p last : Progress) → (words : List ℕ) → Type 0
IsCutShort s counted mid limit n p last words =
    (IsCutNext s mid p last × (n ≤ limit) × (n ≡ limit → last ≡ p) × (words ≡ []))
    ⊎ ((last ≡ p) × (n < limit) × (words ≡ bad_line_text (n + 1)) × ((behind : Option (List ℕ)) × IsBadNext mid behind))
    ⊎ ((last ≡ p) × (n ≡ limit) × (words ≡ long_text) × HasMore mid)
    ⊎ ((last ≡ p) × (n ≤ limit) × ((behind : Option (List ℕ)) × WhereTold EndsAt mid behind)
    × ((counts : Counts) × counted p counts × (words ≡ counts_text counts)))

-- What a replay leaves at each status. `good` is what is known of the events and of the device, `counted` what is known
-- of the counts at the end, and `left_now` is what is left in the source.
abbrev pub RunIs : Sizes → (good : Progress → Type 0) → (counted : Progress → Counts → Type 0)
    → (left left_now written written_now : Option (List ℕ)) → ℕ → Status → Type 0
RunIs s good counted left left_now written written_now limit Done =
    (mid : Option (List ℕ)) × (n : ℕ)
    × Ran s left mid n (λ p. good p × ((counts : Counts) × counted p counts
    × Appends written written_now (print p.events ++ counts_text counts)))
    × (n ≤ limit) × WhereTold EndsAt mid left_now
RunIs s good counted left left_now written written_now limit (BadLine number) =
    (mid : Option (List ℕ)) × (behind : Option (List ℕ)) × (n : ℕ)
    × Ran s left mid n (λ p. good p × Appends written written_now (print p.events ++ bad_line_text number))
    × (n < limit) × (number ≡ n + 1) × IsBadNext mid behind × ReadsAhead behind left_now
RunIs s good counted left left_now written written_now limit ReadFault =
    (mid : Option (List ℕ)) × (n : ℕ) × Ran s left mid n (λ p. good p × Appends written written_now (print p.events))
    × (n ≤ limit) × StopsWithinLine mid left_now
RunIs s good counted left left_now written written_now limit LongTrace =
    (mid : Option (List ℕ))
    × Ran s left mid limit (λ p. good p × Appends written written_now (print p.events ++ long_text)) × HasMore mid
    × ReadsAhead mid left_now
RunIs s good counted left left_now written written_now limit WriteFault =
    (mid : Option (List ℕ)) × (n : ℕ) × (last : Progress) × (words : List ℕ)
    × Ran s left mid n (λ p. IsCutShort s counted mid limit n p last words) × good last
    × AppendsFront written written_now (print last.events ++ words)
RunIs s good counted left left_now written written_now limit _ = ⊥

abbrev pub usage_text : List ℕ
usage_text = codes "E usage\n"

abbrev pub geometry_text : List ℕ
geometry_text = codes "E geometry\n"

-- why no line is taken, and the text that says so
abbrev pub IsRefusedRun : (in_form named : Type 0) → List ℕ → Type 0
IsRefusedRun in_form named text = (¬ in_form × (text ≡ usage_text))
    ⊎ (in_form × ¬ named × (text ≡ geometry_text))

-- What a run leaves at each status. `in_form` says that the words are in form, `named` that the chip serves what they
-- name, `same` that nothing was read and the chip is as it came, and `serves` what is left where lines were served. For
-- want of memory nothing was read or written, or that came between the lines.
abbrev pub ProgramIs : (in_form named same : Type 0) → (serves : Status → Type 0)
    → (written written_now : Option (List ℕ)) → Status → Type 0
ProgramIs in_form named same serves written written_now Usage =
    ¬ in_form × same × Appends written written_now usage_text
ProgramIs in_form named same serves written written_now BadGeometry =
    in_form × ¬ named × same × Appends written written_now geometry_text
ProgramIs in_form named same serves written written_now Memory =
    (same × (written_now ≡ written)) ⊎ (in_form × named × serves Memory)
ProgramIs in_form named same serves written written_now WriteFault =
    ((text : List ℕ) × IsRefusedRun in_form named text × same × AppendsFront written written_now text)
    ⊎ (in_form × named × serves WriteFault)
ProgramIs in_form named same serves written written_now status = in_form × named × serves status

-- how the writing of an image ends, by the count of the chip's faults before it and now
abbrev pub WritesImage : (image : List ℕ) → (faults faults_now : ℕ) → (written written_now : Option (List ℕ))
    → Status → Type 0
WritesImage image faults faults_now written written_now Done =
    Appends written written_now image × (faults_now ≡ faults)
WritesImage image faults faults_now written written_now WriteFault =
    AppendsFront written written_now image × (faults_now ≡ faults)
WritesImage image faults faults_now written written_now ChipFault =
    AppendsFront written written_now image × CountsFault faults faults_now
WritesImage image faults faults_now written written_now _ = ⊥

-- What a replay leaves behind whose counts an image is written, by what the replay leaves with this count of the chip's
-- faults and with these bytes written: it ends before, or it is done and the image is written.
abbrev pub SnapIs : (replay : ℕ → Option (List ℕ) → Status → Type 0) → (image : List ℕ) → (faults : ℕ)
    → (written_now : Option (List ℕ)) → Status → Type 0
SnapIs replay image faults written_now status =
    ((status ≢ Done) × replay faults written_now status)
    ⊎ ((before : ℕ) × (mid : Option (List ℕ)) × replay before mid Done
    × WritesImage image before faults mid written_now status)
