use Rattle.std.proofs.Common.{◌∙◌, sym, ap}
use Rattle.made_drive.specs.Scan.{scanned}
use Rattle.made_drive.proofs.Scans.{scanned_more}
use Rattle.made_drive.proofs.tally.TallySink.write.Goals as goal

pub invariant_of-self : goal.invariant_of-self
invariant_of-self c =
    c.scan_on-self-inside.ensures
    ∙ scanned_more c.self.inside.written.bytes c.args.buf.now c.self.inside.scan c.self.invariant
    ∙ ap scanned (sym c.note.ensures)
