use Rattle.flat_unit.proofs.contents.ReadsEnd.{drains_end_reads}
use Rattle.flat_unit.proofs.laws.each_drain_ends_reads.Goals as goal

pub returns : goal.returns
returns c = drains_end_reads
