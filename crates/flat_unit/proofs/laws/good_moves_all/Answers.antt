use Rattle.flat_unit.proofs.queue.Ends.{good_moved}
use Rattle.flat_unit.proofs.laws.good_moves_all.Goals as goal

pub returns : goal.returns
returns c = good_moved
