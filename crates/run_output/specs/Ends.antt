-- How a run ends: which lines were taken before, what was written, and which count of faults rose.
use Rattle.std.specs.Prelude.{◌≡◌, ◌⊎◌, ℕ, ◌+◌, ◌≤◌, ⊤, List, [], ◌∷◌, ◌++◌, length, Option, Some, None}
use Rattle.std.specs.Io.KnownBytes.{Appends, Keeps, prepend_known}
use Rattle.hpb_outside.specs.Faults.{Rose}
use Rattle.trace_text.specs.Lines.{IsLine, IsWithinLine, TakesLine, EndsAt, BeginsLong, WhereTold}
use Rattle.run_output.specs.Texts.{long_text}
use Rattle.hpb_outside.specs.Writes.{AppendsFront, HasWrittenUpTo}
use Rattle.run_output.specs.declared.turn.Turn.{Turn}
use Rattle.run_output.specs.declared.turn.Turn.TheVariants.{Unread, Unwritten}
use Rattle.run_output.specs.declared.status.Status.{Status}
use Rattle.run_output.specs.declared.status.Status.TheVariants.{Done, ReadFault, WriteFault, LongTrace}

-- one fault was counted, but where the count stands at its last value
pub record CountsFault (before now : ℕ) : Type 0 where
  pub later : before ≤ now
  pub rose : Rose before now
  pub once : now ≤ before + 1

-- a fault of the source is counted at a turn that could not read, and at no other
abbrev pub SourceFaults : (before now : ℕ) → Turn → Type 0
SourceFaults before now Unread = CountsFault before now
SourceFaults before now _ = now ≡ before

-- and one of the sink at a turn that could not write
abbrev pub SinkFaults : (before now : ℕ) → Turn → Type 0
SinkFaults before now Unwritten = CountsFault before now
SinkFaults before now _ = now ≡ before

-- a run counts a fault of its source where it ends with one, and at no other status
abbrev pub SourceEnds : (before now : ℕ) → Status → Type 0
SourceEnds before now ReadFault = CountsFault before now
SourceEnds before now _ = now ≡ before

-- and likewise of its sink
abbrev pub SinkEnds : (before now : ℕ) → Status → Type 0
SinkEnds before now WriteFault = CountsFault before now
SinkEnds before now _ = now ≡ before

-- these lines were taken, one after another
abbrev pub TakesLines : Option (List ℕ) → List (List ℕ) → Option (List ℕ) → Type 0
TakesLines left [] now = now ≡ left
TakesLines left (text ∷ texts) now = (mid : Option (List ℕ)) × IsLine text × WhereTold (TakesLine text) left mid
    × TakesLines mid texts now

-- a text that is told begins with a line that is too long
abbrev pub IsLong : Option (List ℕ) → Type 0
IsLong None = ⊤
IsLong (Some text) = BeginsLong text

-- a text that is told isn't at its end
abbrev pub HasMore : Option (List ℕ) → Type 0
HasMore None = ⊤
HasMore (Some text) = ¬ (text ≡ [])

-- some bytes were read and not taken, and what is left in the source follows them
abbrev pub ReadsAhead : (rest source_left : Option (List ℕ)) → Type 0
ReadsAhead rest source_left = (held : List ℕ) × Keeps rest (prepend_known held source_left)

-- the source failed within a line: what was read of it is no whole line, and what is left in the source follows
pub record StopsWithinLine (rest source_left : Option (List ℕ)) : Type 0 where
  pub held : List ℕ
  pub within : IsWithinLine held
  pub size : length held ≤ 131200
  pub follows : Keeps rest (prepend_known held source_left)

-- a text and last words were written, and the status is this; or a front of them, where the sink failed
abbrev pub Finishes : (old new : Option (List ℕ)) (gathered words : List ℕ) (faults faults_now : ℕ)
    (status result : Status) → Type 0
Finishes old new gathered words faults faults_now status result = (before : Option (List ℕ)) (text : List ℕ)
    → HasWrittenUpTo before old text gathered
    → ((result ≡ status) × Appends before new (text ++ words) × (faults_now ≡ faults))
    ⊎ ((result ≡ WriteFault) × AppendsFront before new (text ++ words) × CountsFault faults faults_now)

-- how a text ends after the last line that a trace may have
abbrev pub LastIs : (before new : Option (List ℕ)) (text : List ℕ) (left left_now : Option (List ℕ)) → Status → Type 0
LastIs before new text left left_now Done = Appends before new text × WhereTold EndsAt left left_now
LastIs before new text left left_now LongTrace = Appends before new (text ++ long_text) × HasMore left
    × ReadsAhead left left_now
LastIs before new text left left_now ReadFault = Appends before new text × StopsWithinLine left left_now
LastIs before new text left left_now WriteFault =
    (words : List ℕ) × ((words ≡ []) ⊎ ((words ≡ long_text) × HasMore left)) × AppendsFront before new (text ++ words)
LastIs before new text left left_now _ = ⊥

abbrev pub EndsLong : (old new : Option (List ℕ)) (gathered : List ℕ) (left left_now : Option (List ℕ)) → Status
    → Type 0
EndsLong old new gathered left left_now result = (before : Option (List ℕ)) (text : List ℕ)
    → HasWrittenUpTo before old text gathered
    → LastIs before new text left left_now result
