use Rattle.made_laws.proofs.Whole.{made_answered, made_count}
use Rattle.made_laws.proofs.each_made_request_is_answered.Goals as goal

pub returns-clause-numbers : goal.returns-clause-numbers
returns-clause-numbers c = made_answered

pub returns-clause-count : goal.returns-clause-count
returns-clause-count c = made_count
