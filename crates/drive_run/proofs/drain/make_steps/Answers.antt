use Rattle.std.proofs.Common.{rules, ◌≡◌, ◌+◌, refl, arith, add-one, ◌∙◌}
use Rattle.std.proofs.lemmas.Result.{err_from_is_err_and}
use Rattle.run_output.proofs.Written.{grows_more, grows_none}
use Rattle.drive_run.proofs.Drains.{stepped_begins, stepped_ends, stepped_goes_on, stepped_is_cut}
use Rattle.drive_run.proofs.drain.make_steps.Goals as goal

pub loop-step-init : goal.loop-step-init
loop-step-init g c = record {
  steps = λ start d at. stepped_begins start _ _ _ _ d at;
  grows = grows_none _;
  none = refl;
}

pub loop-step-preserved : goal.loop-step-preserved
loop-step-preserved g c = record {
  steps = λ start d at.
      stepped_goes_on start _ _ _ _ _ _ _ _ _ d c.loop-step._step (c.loop-step._step + 1) c.make_step.result (rw add-one refl)
      (c.loop-step.invariant.steps start d at) c.make_step.ensures.plays (search rules);
  grows = grows_more _ _ _ c.loop-step.invariant.grows c.make_step.ensures.grows;
  none = c.in_ok-make_step.ensures.cause.given ∙ c.loop-step.invariant.none;
}

pub returns-in_err-make_step-clause-plays : goal.returns-in_err-make_step-clause-plays
returns-in_err-make_step-clause-plays g c start d at =
    let failed = err_from_is_err_and c.from_residual.result c.from_residual.ensures.1 in
    rw failed.1 (stepped_is_cut start _ _ _ _ _ _ _ _ _ d c.loop-step._step c.args.count c.make_step.result (omega (arith, c.loop-step-test.true))
    (c.loop-step.invariant.steps start d at) c.make_step.ensures.plays (search rules))

pub returns-in_err-make_step-clause-grows : goal.returns-in_err-make_step-clause-grows
returns-in_err-make_step-clause-grows g c = grows_more _ _ _ c.loop-step.invariant.grows c.make_step.ensures.grows

pub returns-clause-plays : goal.returns-clause-plays
returns-clause-plays g c start d at =
    let all : c.loop-step._step ≡ c.args.count = omega (arith, c.loop-step-test.false, c.loop-step.auto._step-end) in
    rw (← all) (stepped_ends start _ _ _ _ _ _ d c.loop-step._step (c.loop-step.invariant.steps start d at))
