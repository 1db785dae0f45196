-- What is shown of a line, and the last words of a run.
use Rattle.std.specs.Prelude.{ℕ, List, [], ◌∷◌, ◌++◌, codes, decimal}
use Rattle.std.specs.Option.{option_map_or}
use Rattle.hpb_device.specs.declared.counts.Counts.{Counts}
use Rattle.trace_text.specs.Shown.{shown_line}
use Rattle.trace_text.specs.Written.{counts_line}

-- what is shown of a line, or nothing
abbrev pub shown_text : List ℕ → List ℕ
shown_text line = option_map_or (λ (text : List ℕ). text) (shown_line line) []

-- the last words of a run
abbrev pub bad_line_text : ℕ → List ℕ
bad_line_text number = codes "E line " ++ decimal number ++ codes "\n"

abbrev pub long_text : List ℕ
long_text = codes "E long\n"

-- the last line of a trace that was taken whole
abbrev pub counts_text : Counts → List ℕ
counts_text counts =
    counts_line (counts.steps ∷ counts.lookups ∷ counts.entries ∷ counts.moved ∷ counts.erased ∷ [])
