use Rattle.flat_unit.proofs.contents.Blocks.{moves_needed}
use Rattle.flat_unit.proofs.laws.given_and_taken.Goals as goal

pub returns : goal.returns
returns c = moves_needed
