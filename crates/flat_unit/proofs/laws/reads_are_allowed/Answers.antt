use Rattle.flat_unit.proofs.contents.ReadsEnd.{reads_allowed}
use Rattle.flat_unit.proofs.laws.reads_are_allowed.Goals as goal

pub returns : goal.returns
returns c = reads_allowed
