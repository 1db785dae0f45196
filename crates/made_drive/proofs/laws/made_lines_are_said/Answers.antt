use Rattle.made_drive.proofs.Sayings.{text_said}
use Rattle.made_drive.proofs.laws.made_lines_are_said.Goals as goal

pub returns : goal.returns
returns c = λ units seed count some. text_said units seed count some
