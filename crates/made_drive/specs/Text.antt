-- The text of the lines of a drive.
use Rattle.std.specs.Prelude.{ℕ, List, [], ◌∷◌, ◌++◌, codes, decimal}
use Rattle.trace_text.specs.declared.drive.DriveLine.{DriveLine}
use Rattle.trace_text.specs.declared.drive.DriveLine.TheVariants.{Read, Write, Steps, Collect, Drain, Reset, Lun, Blank}

-- the words of a line
abbrev pub words_text : DriveLine → List ℕ
words_text (Read lba n) = codes "read " ++ decimal lba ++ codes " " ++ decimal n
words_text (Write lba n seed) = codes "write " ++ decimal lba ++ codes " " ++ decimal n ++ codes " " ++ decimal seed
words_text (Steps count) = codes "steps " ++ decimal count
words_text (Collect count) = codes "collect " ++ decimal count
words_text Drain = codes "drain"
words_text Reset = codes "reset"
words_text (Lun lun) = codes "lun " ++ decimal lun
words_text Blank = []

-- a line, with its end
abbrev pub line_text : DriveLine → List ℕ
line_text line = words_text line ++ codes "\n"

-- some lines, one after another
abbrev pub lines_text : List DriveLine → List ℕ
lines_text [] = []
lines_text (line ∷ rest) = line_text line ++ lines_text rest
