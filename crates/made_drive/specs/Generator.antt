-- The lines that the generator makes.
use Rattle.std.specs.Prelude.{ℕ, zero, suc, ◌+◌, ◌-◌, ◌*◌, ◌/◌, ◌%◌, ◌^◌, ◌==◌, List, [], ◌∷◌, min, nat_lt}
use Rattle.std.specs.Prelude.{if◌then◌else◌}
use Rattle.trace_text.specs.declared.drive.DriveLine.{DriveLine}
use Rattle.trace_text.specs.declared.drive.DriveLine.TheVariants.{Read, Write, Steps, Collect, Drain, Reset}

-- the number behind a number
unfoldable pub next_number : ℕ → ℕ
next_number x = (1103515245 * x + 12345) % 2 ^ 31

-- one of so many choices, by the number behind this one
unfoldable pub drawn : ℕ → ℕ → ℕ
drawn choices x = next_number x / 65536 % choices

-- a line, and the number behind it
pub record Made : Type 0 where
  pub line : DriveLine
  pub number : ℕ

-- the first block of a request, among so many of the unit and 32,768 at most
abbrev pub first_block : ℕ → ℕ → ℕ
first_block units x = drawn (min units 32768) x

-- how many blocks it has: 1 to 8, and none behind the end of the unit
abbrev pub block_count : ℕ → ℕ → ℕ
block_count units x = min (1 + drawn 8 (next_number x)) (units - first_block units x)

abbrev pub made_read : ℕ → ℕ → Made
made_read units x = record {
  line = Read (first_block units x) (block_count units x);
  number = next_number (next_number x);
}

abbrev pub made_write : ℕ → ℕ → Made
made_write units x = record {
  line = Write (first_block units x) (block_count units x) (drawn 256 (next_number (next_number x)));
  number = next_number (next_number (next_number x));
}

abbrev pub made_collect : ℕ → Made
made_collect x = record { line = Collect (1 + drawn 16 x); number = next_number x }

abbrev pub made_steps : ℕ → Made
made_steps x = record { line = Steps (1 + drawn 32 x); number = next_number x }

-- one of 64 is a reset
abbrev pub made_end : ℕ → Made
made_end x = record { line = if drawn 64 x == 0 then Reset else Drain; number = next_number x }

-- a line of one of 16 kinds: 8 are reads and 5 are writes
abbrev pub made_of : ℕ → ℕ → ℕ → Made
made_of kind units x =
    if nat_lt kind 8 then made_read units x else
    (if nat_lt kind 13 then made_write units x else
    (if kind == 13 then made_collect x else
    (if kind == 14 then made_steps x else made_end x)))

-- the line that is made from a number
unfoldable pub line_after : ℕ → ℕ → Made
line_after units x = made_of (drawn 16 x) units (next_number x)

-- so many lines
unfoldable pub made_lines : ℕ → ℕ → ℕ → List DriveLine
made_lines units x zero = []
made_lines units x (suc count) = (line_after units x).line ∷ made_lines units (line_after units x).number count
