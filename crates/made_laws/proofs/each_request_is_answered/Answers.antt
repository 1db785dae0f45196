use Rattle.made_laws.proofs.Keeping.{all_answered, as_many, none_left}
use Rattle.made_laws.proofs.each_request_is_answered.Goals as goal

pub returns-clause-numbers : goal.returns-clause-numbers
returns-clause-numbers c = all_answered

pub returns-clause-count : goal.returns-clause-count
returns-clause-count c = as_many

pub returns-clause-none_waits : goal.returns-clause-none_waits
returns-clause-none_waits c = none_left
