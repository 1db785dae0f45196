use Rattle.std.proofs.Common.{rules}
use Rattle.std.proofs.lemmas.Result.{err_from_is_err_and}
use Rattle.drive_rules.specs.Cuts.{CutPass}
use Rattle.drive_rules.specs.Lines.{Passes}
use Rattle.run_output.proofs.Written.{grows_more}
use Rattle.drive_run.proofs.Drains.{drain_is_cut, drained}
use Rattle.drive_run.proofs.Playing.{stands_after}
use Rattle.drive_run.proofs.drain.drain.Goals as goal

pub pass-requires-2 : goal.pass-requires-2
pass-requires-2 g c =
    stands_after Passes CutPass c.args.only c.args.link.now c.pass.new.link (g.K.Sink.written c.args.sink.now)
    (g.K.Sink.written c.pass.new.sink) c.args.desk.now.output c.pass.new.desk.output c.pass.result (search rules) c.pass.ensures.plays c.requires

pub returns-in_err-pass-clause-plays : goal.returns-in_err-pass-clause-plays
returns-in_err-pass-clause-plays g c start d at =
    let failed = err_from_is_err_and c.from_residual.result c.from_residual.ensures.1 in
    rw failed.1 (drain_is_cut start _ _ _ _ _ _ _ d c.pass.result at c.pass.ensures.plays (search rules))

pub returns-clause-plays : goal.returns-clause-plays
returns-clause-plays g c start d at = drained start _ _ _ _ _ _ _ _ _ _ d c.pass.result c.pass-2.result at c.pass.ensures.plays (search rules) c.pass-2.ensures.plays

pub returns-clause-grows : goal.returns-clause-grows
returns-clause-grows g c = grows_more _ _ _ c.pass.ensures.grows c.pass-2.ensures.grows
