use Rattle.flat_unit.proofs.printing.Texts.{print_injective}
use Rattle.flat_unit.proofs.laws.texts_tell_histories.Goals as goal

pub returns : goal.returns
returns c = print_injective
