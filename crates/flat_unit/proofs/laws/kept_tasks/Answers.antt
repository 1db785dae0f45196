use Rattle.flat_unit.proofs.queue.Tasks.{queue_after}
use Rattle.flat_unit.proofs.laws.kept_tasks.Goals as goal

pub returns : goal.returns
returns c = queue_after
