use Rattle.made_laws.proofs.Whole.{good_or_cut, made_good_or_cut}
use Rattle.made_laws.proofs.good_and_cut_are_all.Goals as goal

pub returns-clause-any : goal.returns-clause-any
returns-clause-any c = good_or_cut

pub returns-clause-made : goal.returns-clause-made
returns-clause-made c = made_good_or_cut
