use Rattle.std.proofs.Common.{rules, refl, arith, ◌∙◌}
use Rattle.std.proofs.lemmas.Result.{err_from_is_err_and}
use Rattle.run_output.proofs.Written.{grows_more}
use Rattle.drive_run.proofs.Resets.{ticket_added, tickets_cut}
use Rattle.drive_run.proofs.line.push_cut.Goals as goal

pub returns-in_err-push_ending-clause-text : goal.returns-in_err-push_ending-clause-text
returns-in_err-push_ending-clause-text g c before text so_far =
    let failed = err_from_is_err_and c.from_residual.result c.from_residual.ensures.1 in
    rw failed.1 (tickets_cut c.args.tickets.now c.loop-place.place (record { number = 0; tag = 0; lba = 0 }) _ (omega
    (arith, c.loop-place-test.true)) refl _ _ _ _ _ _ c.push_ending.result c.loop-place.invariant.added c.push_ending.ensures.text (search rules) before text so_far)

pub returns-in_err-push_ending-clause-grows : goal.returns-in_err-push_ending-clause-grows
returns-in_err-push_ending-clause-grows g c = grows_more _ _ _ c.loop-place.invariant.grows c.push_ending.ensures.grows

pub loop-place-preserved : goal.loop-place-preserved
loop-place-preserved g c = record {
  added = ticket_added c.args.tickets.now c.loop-place.place (record { number = 0; tag = 0; lba = 0 }) _ (omega
      (arith, c.loop-place-test.true)) refl _ _ _ _ _ _ c.push_ending.result c.loop-place.invariant.added c.push_ending.ensures.text (search rules);
  grows = grows_more _ _ _ c.loop-place.invariant.grows c.push_ending.ensures.grows;
  none = c.in_ok-push_ending.ensures.cause.given ∙ c.loop-place.invariant.none;
}
