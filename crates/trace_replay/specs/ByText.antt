-- The status of a run as a function of its text alone.
use Rattle.std.specs.Prelude.{ℕ, ◌+◌, Bool, ◌&&◌, ◌==◌, nat_le, nat_lt, is_some, List, length, if◌then◌else◌}
use Rattle.std.specs.List.{prefix_len}
use Rattle.trace_text.specs.Grammar.{trace_line}
use Rattle.trace_text.specs.Lines.{lines_of}
use Rattle.trace_text.specs.Shown.{shown_line}
use Rattle.run_output.specs.declared.status.Status.{Status}
use Rattle.run_output.specs.declared.status.Status.TheVariants.{Done, BadLine, LongTrace}

-- a line of a trace: at most 131,200 bytes, and in the grammar
abbrev pub is_trace_line : List ℕ → Bool
is_trace_line line = nat_le (length line) 131200 && is_some (trace_line line)

-- a line that `show` shows: at most 131,200 bytes, and its UPIU is hex
abbrev pub is_shown_line : List ℕ → Bool
is_shown_line line = nat_le (length line) 131200 && is_some (shown_line line)

-- how lines end a run that takes so many of them at most, where so many are good before the first that isn't
abbrev pub status_by : ℕ → (good all : ℕ) → Status
status_by limit good all =
    if nat_le limit good && nat_lt limit all then LongTrace else (if good == all then Done else BadLine (good + 1))

-- the status of a text: Done where each line is good, LongTrace where more lines follow than may be taken, else the
-- number of the first line that isn't good
abbrev pub status_of : (List ℕ → Bool) → ℕ → List ℕ → Status
status_of good limit text = status_by limit (prefix_len good (lines_of text)) (length (lines_of text))
