use Rattle.std.proofs.Common.{rules, ◌∙◌}
use Rattle.std.proofs.lemmas.Result.{err_from_is_err_and}
use Rattle.hpb_driver.specs.State.{is_inside}
use Rattle.run_output.proofs.Written.{cut_of, grows_more, whole_of}
use Rattle.drive_run.proofs.Requesting.{asked_told, cause_behind, freeing_is_cut, request_is_cut, request_made, starved, told_is_cut}
use Rattle.drive_run.proofs.line.make_request.Goals as goal

pub returns-in_err-free_tags-clause-asks : goal.returns-in_err-free_tags-clause-asks
returns-in_err-free_tags-clause-asks g c start d at =
    let failed = err_from_is_err_and c.from_residual.result c.from_residual.ensures.1 in
    rw failed.1 (freeing_is_cut start _ _ _ _ _ c.args.request (is_inside d.machine c.args.request) d (cut_of c.free_tags.result _ _ (search rules) (c.free_tags.ensures.plays start d at)))

pub returns-in-Memory-clause-asks : goal.returns-in-Memory-clause-asks
returns-in-Memory-clause-asks g c start d at =
    let leads = whole_of c.free_tags.result _ _ (search rules) (c.free_tags.ensures.plays start d at) in
    starved start _ c.free_tags.new.link c.submit-submitted.new.self _ _ _ _ d (c.in-Memory.ensures start leads.moment leads.stands) leads

pub returns-in_err-push_submitted-in_default : goal.returns-in_err-push_submitted-in_default
returns-in_err-push_submitted-in_default g c = record {
  asks = λ start d at.
      let failed = err_from_is_err_and c.from_residual-in_err-push_submitted-in_default.result c.from_residual-in_err-push_submitted-in_default.ensures.1 in
      let leads = whole_of c.free_tags.result _ _ (search rules) (c.free_tags.ensures.plays start d at) in
      rw failed.1 (told_is_cut start _ c.args.link.now c.free_tags.new.link c.submit-submitted.new.self _ _ _ _ _ _ c.args.request c.count.result c.submit-submitted.result d
      c.push_submitted.result at leads c.in_default.not-Memory c.count.ensures
      (c.submit-submitted.ensures start leads.moment leads.stands) c.push_submitted.ensures.text (search rules));
  grows = grows_more _ _ _ c.free_tags.ensures.grows c.push_submitted.ensures.grows;
  cause = search rules;
}

pub returns-in_err-exchange : goal.returns-in_err-exchange
returns-in_err-exchange g c = record {
  asks = λ start d at.
      let failed = err_from_is_err_and c.from_residual-in_err-exchange.result c.from_residual-in_err-exchange.ensures.1 in
      let leads = whole_of c.free_tags.result _ _ (search rules) (c.free_tags.ensures.plays start d at) in
      let asked = asked_told start _ c.args.link.now c.free_tags.new.link c.submit-submitted.new.self _ _ _ _ _ _ c.args.request c.count.result c.submit-submitted.result d
      c.push_submitted.result at leads c.in_default.not-Memory c.count.ensures
      (c.submit-submitted.ensures start leads.moment leads.stands) c.push_submitted.ensures.text (search rules) in
      rw failed.1 (request_is_cut start _ _ _ _ _ _ _ _ _ c.args.request (is_inside d.machine c.args.request) d c.exchange.result asked c.exchange.ensures.plays (search rules));
  grows = grows_more _ _ _ (grows_more _ _ _ c.free_tags.ensures.grows c.push_submitted.ensures.grows) c.exchange.ensures.grows;
  cause =
      let failed = err_from_is_err_and c.from_residual-in_err-exchange.result c.from_residual-in_err-exchange.ensures.1 in
      rw failed.1 (cause_behind _ _ _ _ c.exchange.result _ (c.in_ok-push_submitted-in_default.ensures.cause.given ∙ c.in_ok-free_tags.ensures.cause.given) c.exchange.ensures.cause (search rules));
}

pub returns : goal.returns
returns g c = record {
  asks = λ start d at.
      let leads = whole_of c.free_tags.result _ _ (search rules) (c.free_tags.ensures.plays start d at) in
      let asked = asked_told start _ c.args.link.now c.free_tags.new.link c.submit-submitted.new.self _ _ _ _ _ _ c.args.request c.count.result c.submit-submitted.result d
      c.push_submitted.result at leads c.in_default.not-Memory c.count.ensures
      (c.submit-submitted.ensures start leads.moment leads.stands) c.push_submitted.ensures.text (search rules) in
      request_made start _ _ _ _ _ _ _ _ _ c.args.request (is_inside d.machine c.args.request) d c.exchange.result asked c.exchange.ensures.plays (search rules);
  grows = grows_more _ _ _ (grows_more _ _ _ c.free_tags.ensures.grows c.push_submitted.ensures.grows) c.exchange.ensures.grows;
  cause = search rules;
}
