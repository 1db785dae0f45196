-- What `show` leaves of a text: the line that each of its lines is shown as.
use Rattle.std.specs.Prelude.{◌≡◌, ◌⊎◌, ℕ, ◌+◌, ◌<◌, ◌≤◌, List, [], ◌++◌, map, flat_map, length, Option, Some, None}
use Rattle.std.specs.Io.KnownBytes.{Appends, Keeps}
use Rattle.trace_text.specs.Lines.{IsLine, TakesLine, EndsAt, WhereTold}
use Rattle.trace_text.specs.Shown.{shown_line}
use Rattle.run_output.specs.Ends.{HasMore, IsLong, ReadsAhead, StopsWithinLine, TakesLines}
use Rattle.run_output.specs.Texts.{bad_line_text, long_text}
use Rattle.hpb_outside.specs.Writes.{AppendsFront, HasWrittenUpTo}
use Rattle.run_output.specs.declared.turn.Turn.{Turn}
use Rattle.run_output.specs.declared.turn.Turn.TheVariants.{Served, Ended, Bad, Unread, Unwritten}
use Rattle.run_output.specs.declared.status.Status.{Status}
use Rattle.run_output.specs.declared.status.Status.TheVariants.{Done, BadLine, ReadFault, WriteFault, LongTrace, Memory}

-- so many lines were taken, and all that they are shown as is this text
pub record Shows (left now : Option (List ℕ)) (count : ℕ) (text : List ℕ) : Type 0 where
  pub lines : List (List ℕ)
  pub shown : List (List ℕ)
  pub taken : TakesLines left lines now
  pub each : map shown_line lines ≡ map (λ (line : List ℕ). Some line) shown
  pub counted : length lines ≡ count
  pub whole : text ≡ flat_map (λ (line : List ℕ). line) shown

-- the next line is too long, and nothing was taken; or it was taken, and its UPIU isn't hex. This is what follows what
-- was taken.
abbrev pub IsUnshown : (left behind : Option (List ℕ)) → Type 0
IsUnshown left behind = (IsLong left × Keeps left behind)
    ⊎ ((line : List ℕ) × WhereTold (TakesLine line) left behind × (shown_line line ≡ None))

-- what one line comes to
abbrev pub ShowTurnAt : (before : Option (List ℕ)) (text : List ℕ) (left left_now written : Option (List ℕ))
    (gathered : List ℕ) → Turn → Type 0
ShowTurnAt before text left left_now written gathered Served =
    (line : List ℕ) × (shown : List ℕ) × IsLine line × WhereTold (TakesLine line) left left_now
    × (shown_line line ≡ Some shown) × HasWrittenUpTo before written (text ++ shown) gathered
ShowTurnAt before text left left_now written gathered Ended = WhereTold EndsAt left left_now
    × HasWrittenUpTo before written text gathered
ShowTurnAt before text left left_now written gathered Unread = Keeps left left_now × Appends before written text
ShowTurnAt before text left left_now written gathered Bad = IsUnshown left left_now
    × HasWrittenUpTo before written text gathered
ShowTurnAt before text left left_now written gathered Unwritten = AppendsFront before written text

abbrev pub ShowTurnIs : (left left_now written written_now : Option (List ℕ)) (gathered gathered_now : List ℕ) → Turn
    → Type 0
ShowTurnIs left left_now written written_now gathered gathered_now turn =
    (before : Option (List ℕ)) (text : List ℕ) → HasWrittenUpTo before written text gathered
    → ShowTurnAt before text left left_now written_now gathered_now turn

-- what was to be written behind the lines that were shown when the sink failed
abbrev pub IsShownShort : (mid : Option (List ℕ)) → (limit n : ℕ) → (words : List ℕ) → Type 0
IsShownShort mid limit n words = ((n ≤ limit) × (words ≡ []))
    ⊎ ((n < limit) × (words ≡ bad_line_text (n + 1)) × ((behind : Option (List ℕ)) × IsUnshown mid behind))
    ⊎ ((n ≡ limit) × (words ≡ long_text) × HasMore mid)

-- what is left at each status; `left_now` is what is left in the source
abbrev pub ShowIs : (left left_now written written_now : Option (List ℕ)) → ℕ → Status → Type 0
ShowIs left left_now written written_now limit Done =
    (mid : Option (List ℕ)) × (n : ℕ) × (text : List ℕ) × Shows left mid n text × Appends written written_now text
    × (n ≤ limit) × WhereTold EndsAt mid left_now
ShowIs left left_now written written_now limit (BadLine number) =
    (mid : Option (List ℕ)) × (behind : Option (List ℕ)) × (n : ℕ) × (text : List ℕ) × Shows left mid n text
    × Appends written written_now (text ++ bad_line_text number)
    × (n < limit) × (number ≡ n + 1) × IsUnshown mid behind × ReadsAhead behind left_now
ShowIs left left_now written written_now limit ReadFault =
    (mid : Option (List ℕ)) × (n : ℕ) × (text : List ℕ) × Shows left mid n text × Appends written written_now text
    × (n ≤ limit) × StopsWithinLine mid left_now
ShowIs left left_now written written_now limit LongTrace =
    (mid : Option (List ℕ)) × (text : List ℕ) × Shows left mid limit text
    × Appends written written_now (text ++ long_text) × HasMore mid × ReadsAhead mid left_now
ShowIs left left_now written written_now limit WriteFault =
    (mid : Option (List ℕ)) × (n : ℕ) × (text : List ℕ) × (words : List ℕ) × Shows left mid n text
    × IsShownShort mid limit n words × AppendsFront written written_now (text ++ words)
ShowIs left left_now written written_now limit _ = ⊥

-- what is left of a run of `show`, which may also want memory before it reads
abbrev pub ShowProgramIs : (left left_now written written_now : Option (List ℕ)) → ℕ → Status → Type 0
ShowProgramIs left left_now written written_now limit Memory = (written_now ≡ written) × (left_now ≡ left)
ShowProgramIs left left_now written written_now limit status = ShowIs left left_now written written_now limit status
