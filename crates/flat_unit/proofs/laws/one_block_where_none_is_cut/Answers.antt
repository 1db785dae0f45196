use Rattle.flat_unit.proofs.contents.Blocks.{one_block}
use Rattle.flat_unit.proofs.laws.one_block_where_none_is_cut.Goals as goal

pub returns : goal.returns
returns c = one_block
