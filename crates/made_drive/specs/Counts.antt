-- How many lines of a drive are requests.
use Rattle.std.specs.Prelude.{ℕ, ◌+◌, List, [], ◌∷◌}
use Rattle.trace_text.specs.declared.drive.DriveLine.{DriveLine}
use Rattle.trace_text.specs.declared.drive.DriveLine.TheVariants.{Read, Write}

-- 1 for a read
abbrev pub read_count : DriveLine → ℕ
read_count (Read lba n) = 1
read_count _ = 0

-- 1 for a write
abbrev pub write_count : DriveLine → ℕ
write_count (Write lba n seed) = 1
write_count _ = 0

-- how many are reads
abbrev pub reads_in : List DriveLine → ℕ
reads_in [] = 0
reads_in (line ∷ rest) = read_count line + reads_in rest

-- how many are writes
abbrev pub writes_in : List DriveLine → ℕ
writes_in [] = 0
writes_in (line ∷ rest) = write_count line + writes_in rest
