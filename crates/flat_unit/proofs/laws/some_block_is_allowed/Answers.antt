use Rattle.flat_unit.proofs.contents.Blocks.{some_candidate}
use Rattle.flat_unit.proofs.laws.some_block_is_allowed.Goals as goal

pub returns : goal.returns
returns c = some_candidate
