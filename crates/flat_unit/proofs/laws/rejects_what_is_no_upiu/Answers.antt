use Rattle.flat_unit.proofs.replies.Rejects.{rejected, rejection}
use Rattle.flat_unit.proofs.laws.rejects_what_is_no_upiu.Goals as goal

pub returns-clause-all : goal.returns-clause-all
returns-clause-all c = rejection

pub returns-clause-only : goal.returns-clause-only
returns-clause-only c = rejected
