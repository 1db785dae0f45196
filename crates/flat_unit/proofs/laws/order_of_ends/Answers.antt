use Rattle.flat_unit.proofs.queue.Ends.{first_ends}
use Rattle.flat_unit.proofs.laws.order_of_ends.Goals as goal

pub returns : goal.returns
returns c = first_ends
