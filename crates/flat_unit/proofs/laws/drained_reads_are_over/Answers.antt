use Rattle.flat_unit.proofs.contents.ReadsEnd.{drained_reads_over}
use Rattle.flat_unit.proofs.laws.drained_reads_are_over.Goals as goal

pub returns : goal.returns
returns c = drained_reads_over
