use Rattle.flat_unit.proofs.contents.ReadsEnd.{reads_end_well}
use Rattle.flat_unit.proofs.laws.reads_end_good.Goals as goal

pub returns : goal.returns
returns c = reads_end_well
