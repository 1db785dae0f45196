use Rattle.flat_unit.proofs.contents.ReadsInOrder.{good_read}
use Rattle.flat_unit.proofs.laws.good_read_is_in_order.Goals as goal

pub returns : goal.returns
returns c = good_read
