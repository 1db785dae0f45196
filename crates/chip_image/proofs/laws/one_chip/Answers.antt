use Rattle.chip_image.proofs.OneChip.{image_same}
use Rattle.chip_image.proofs.laws.one_chip.Goals as goal

pub returns : goal.returns
returns c = image_same
