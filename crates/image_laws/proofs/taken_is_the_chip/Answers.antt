use Rattle.image_laws.proofs.Taking.{taken_is_the_chip}
use Rattle.image_laws.proofs.taken_is_the_chip.Goals as goal

pub returns : goal.returns
returns c = taken_is_the_chip
