use Rattle.flat_unit.proofs.contents.Blocks.{nothing_changes}
use Rattle.flat_unit.proofs.laws.other_events_change_no_block.Goals as goal

pub returns : goal.returns
returns c = nothing_changes
