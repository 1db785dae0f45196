use Rattle.std.proofs.Common.{rules, refl}
use Rattle.std.proofs.lemmas.Result.{err_from_is_err_and}
use Rattle.run_output.proofs.Written.{cut_of, whole_of}
use Rattle.drive_run.proofs.Lining.{line_done, read_serves}
use Rattle.trace_text.specs.declared.drive.DriveLine.TheVariants.{Lun}
use Rattle.drive_run.proofs.line.serve.Goals as goal

pub returns-in-Read-clause-serves : goal.returns-in-Read-clause-serves
returns-in-Read-clause-serves g c = rw c.in-Read.is (read_serves _ c.args.link.now _ _ _ _ _ c.lun-lun.result c.in-Read.lba c.in-Read.n c.make_request.result c.lun-lun.ensures
    c.make_request.ensures.asks)

pub returns-in_err-make_steps-in-Steps-clause-serves : goal.returns-in_err-make_steps-in-Steps-clause-serves
returns-in_err-make_steps-in-Steps-clause-serves g c start d at =
    let failed = err_from_is_err_and c.from_residual.result c.from_residual.ensures.1 in
    rw (failed.1, c.in-Steps.is) (cut_of c.make_steps.result _ _ (search rules) (c.make_steps.ensures.plays start d at))

pub returns-in_ok-make_steps-in-Steps-clause-serves : goal.returns-in_ok-make_steps-in-Steps-clause-serves
returns-in_ok-make_steps-in-Steps-clause-serves g c start d at = rw c.in-Steps.is (whole_of c.make_steps.result _ _ (search rules) (c.make_steps.ensures.plays start d at))

pub returns-in_err-collect-in-Collect-clause-serves : goal.returns-in_err-collect-in-Collect-clause-serves
returns-in_err-collect-in-Collect-clause-serves g c start d at =
    let failed = err_from_is_err_and c.from_residual-in_err-collect-in-Collect.result c.from_residual-in_err-collect-in-Collect.ensures.1 in
    rw (failed.1, c.in-Collect.is) (cut_of c.collect.result _ _ (search rules) (c.collect.ensures.plays start d at))

pub returns-in_ok-collect-in-Collect-clause-serves : goal.returns-in_ok-collect-in-Collect-clause-serves
returns-in_ok-collect-in-Collect-clause-serves g c start d at = rw c.in-Collect.is (whole_of c.collect.result _ _ (search rules) (c.collect.ensures.plays start d at))

pub returns-in_err-drain-in-Drain-clause-serves : goal.returns-in_err-drain-in-Drain-clause-serves
returns-in_err-drain-in-Drain-clause-serves g c start d at =
    let failed = err_from_is_err_and c.from_residual-in_err-drain-in-Drain.result c.from_residual-in_err-drain-in-Drain.ensures.1 in
    rw (failed.1, c.in-Drain.is) (cut_of c.drain.result _ _ (search rules) (c.drain.ensures.plays start d at))

pub returns-in_ok-drain-in-Drain-clause-serves : goal.returns-in_ok-drain-in-Drain-clause-serves
returns-in_ok-drain-in-Drain-clause-serves g c start d at = rw c.in-Drain.is (whole_of c.drain.result _ _ (search rules) (c.drain.ensures.plays start d at))

pub returns-in_err-reset-in-Reset-clause-serves : goal.returns-in_err-reset-in-Reset-clause-serves
returns-in_err-reset-in-Reset-clause-serves g c start d at =
    let failed = err_from_is_err_and c.from_residual-in_err-reset-in-Reset.result c.from_residual-in_err-reset-in-Reset.ensures.1 in
    rw (failed.1, c.in-Reset.is) (cut_of c.reset.result _ _ (search rules) (c.reset.ensures.plays start d at))

pub returns-in_ok-reset-in-Reset-clause-serves : goal.returns-in_ok-reset-in-Reset-clause-serves
returns-in_ok-reset-in-Reset-clause-serves g c start d at = rw c.in-Reset.is (whole_of c.reset.result _ _ (search rules) (c.reset.ensures.plays start d at))

pub returns-in-Lun-clause-serves : goal.returns-in-Lun-clause-serves
returns-in-Lun-clause-serves g c start d at =
    rw c.in-Lun.is (line_done start c.args.only c.choose.new.self _ _ d (record d { lun = c.in-Lun.lun }) (Lun c.in-Lun.lun) (c.choose.ensures start d at) refl refl)
