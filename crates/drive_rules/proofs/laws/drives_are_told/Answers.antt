use Rattle.drive_rules.proofs.Telling.{told_drive}
use Rattle.drive_rules.proofs.laws.drives_are_told.Goals as goal

pub returns : goal.returns
returns c = told_drive
