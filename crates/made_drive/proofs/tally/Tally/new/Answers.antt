use Rattle.std.proofs.Common.{◌∙◌, sym, ap}
use Rattle.made_drive.specs.Scan.{scanned}
use Rattle.made_drive.proofs.Scans.{scanned_none}
use Rattle.made_drive.proofs.tally.Tally.new.Goals as goal

pub invariant_of-result : goal.invariant_of-result
invariant_of-result c = scanned_none ∙ ap scanned (sym c.new.ensures)
