use Rattle.image_laws.proofs.Taking.{image_is_taken}
use Rattle.image_laws.proofs.image_is_taken.Goals as goal

pub returns : goal.returns
returns c = image_is_taken
