-- How a run ended.
use Rattle.std.specs.Prelude.{ℕ}
use Rattle.run_output.specs.declared.status.Status.{Status}
use Rattle.run_output.specs.declared.status.Status.TheVariants.{Done, BadLine, Usage, ReadFault, WriteFault, Memory}
use Rattle.run_output.specs.declared.status.Status.TheVariants.{Geometry, LongTrace, ChipFault, BadImage, BadCapture}

-- the exit code of a status
abbrev pub number_of : Status → ℕ
number_of Done = 0
number_of (BadLine line) = 1
number_of Usage = 2
number_of ReadFault = 3
number_of WriteFault = 4
number_of Memory = 5
number_of Geometry = 6
number_of LongTrace = 7
number_of ChipFault = 8
number_of (BadImage fault) = 9
number_of (BadCapture offset fault) = 10
