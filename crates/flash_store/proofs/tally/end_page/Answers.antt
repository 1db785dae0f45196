use Rattle.std.proofs.Common.{subst, arith}
use Rattle.flash_store.specs.Scan.{IsScannedTo}
use Rattle.flash_store.proofs.Order.{scanned-end, scanned-at}
use Rattle.flash_store.proofs.tally.end_page.Goals as goal

pub returns-then-inside-geometry-clause-scanned : goal.returns-then-inside-geometry-clause-scanned
returns-then-inside-geometry-clause-scanned g c =
    let chip = g.F.Flash.pages c.args.flash.now in
    let whole : IsScannedTo c.args.geometry chip c.args.index.now c.args.tally.now c.args.block c.args.geometry.pages =
    subst (IsScannedTo c.args.geometry chip c.args.index.now c.args.tally.now c.args.block) c.if-inside-geometry.true c.requires.scanned in
    rw c.found.ensures (scanned-end c.args.geometry chip c.requires.shape.served.limits c.requires.chip c.args.index.now c.args.tally.now c.args.block c.requires.shape.blocks c.requires.block whole)

pub returns-else-inside-geometry-clause-scanned : goal.returns-else-inside-geometry-clause-scanned
returns-else-inside-geometry-clause-scanned g c =
    scanned-at c.args.geometry (g.F.Flash.pages c.args.flash.now) c.requires.shape.served.limits c.requires.chip c.args.index.now c.args.tally.now c.args.block c.args.inside
    (omega (arith, c.requires.inside, c.if-inside-geometry.false)) c.requires.scanned
