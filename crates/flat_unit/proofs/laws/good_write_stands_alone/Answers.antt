use Rattle.flat_unit.proofs.contents.Blocks.{good_write}
use Rattle.flat_unit.proofs.laws.good_write_stands_alone.Goals as goal

pub returns : goal.returns
returns c = good_write
