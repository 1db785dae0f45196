use Rattle.flat_unit.proofs.contents.Blocks.{shown_alone}
use Rattle.flat_unit.proofs.laws.shown_block_stands_alone.Goals as goal

pub returns : goal.returns
returns c = shown_alone
