-- What the lines of a drive say.
use Rattle.std.specs.Prelude.{ℕ, ◌-◌, ◌&&◌, List, [], ◌∷◌, codes, Option, Some, None, if◌then◌else◌, ◌==◌, nat_le}
use Rattle.std.specs.Prelude.{option_map}
use Rattle.std.specs.List.{slice_split}
use Rattle.std.specs.Str.{bytes_eq}
use Rattle.trace_text.specs.Grammar.{is_blank, number_of}
use Rattle.trace_text.specs.declared.drive.DriveLine.{DriveLine}
use Rattle.trace_text.specs.declared.drive.DriveLine.TheVariants.{Read, Write, Steps, Collect, Drain, Reset, Lun, Blank}

-- the words of a text, which is cut at each space
abbrev pub words_of : List ℕ → List (List ℕ)
words_of text = slice_split (λ byte. byte == 32) text

-- one digit from 0 to 7
abbrev pub unit_of : List ℕ → Option ℕ
unit_of (c ∷ []) = if nat_le 48 c && nat_le c 55 then Some (c - 48) else None
unit_of _ = None

-- a read of 255 blocks at most
abbrev pub read_of : Option ℕ → Option ℕ → Option DriveLine
read_of (Some lba) (Some n) = if nat_le n 255 then Some (Read lba n) else None
read_of _ _ = None

-- a write of 255 blocks at most
abbrev pub write_of : Option ℕ → Option ℕ → Option ℕ → Option DriveLine
write_of (Some lba) (Some n) (Some seed) = if nat_le n 255 then Some (Write lba n seed) else None
write_of _ _ _ = None

-- what one word says, and two, three and four
abbrev pub one_word : List ℕ → Option DriveLine
one_word word =
    if bytes_eq word (codes "drain") then Some Drain else
    (if bytes_eq word (codes "reset") then Some Reset else None)

abbrev pub two_words : List ℕ → List ℕ → Option DriveLine
two_words word first =
    if bytes_eq word (codes "steps") then option_map Steps (number_of first) else
    (if bytes_eq word (codes "collect") then option_map Collect (number_of first) else
    (if bytes_eq word (codes "lun") then option_map Lun (unit_of first) else None))

abbrev pub three_words : List ℕ → List ℕ → List ℕ → Option DriveLine
three_words word first second =
    if bytes_eq word (codes "read") then read_of (number_of first) (number_of second) else None

abbrev pub four_words : List ℕ → List ℕ → List ℕ → List ℕ → Option DriveLine
four_words word first second third =
    if bytes_eq word (codes "write") then write_of (number_of first) (number_of second) (number_of third) else None

-- what the words of a line say, or nothing where they are outside the grammar
abbrev pub said_by : List (List ℕ) → Option DriveLine
said_by (word ∷ []) = one_word word
said_by (word ∷ first ∷ []) = two_words word first
said_by (word ∷ first ∷ second ∷ []) = three_words word first second
said_by (word ∷ first ∷ second ∷ third ∷ []) = four_words word first second third
said_by _ = None

-- what a line says, or nothing where it is outside the grammar
abbrev pub drive_line : List ℕ → Option DriveLine
drive_line text = if is_blank text then Some Blank else said_by (words_of text)
