use Rattle.std.proofs.Common.{refl, ◌∙◌}
use Rattle.std.proofs.lemmas.Result.{err_from_is_err_and}
use Rattle.flat_unit.specs.Print.{print}
use Rattle.hpb_device.specs.State.{AtRest}
use Rattle.hpb_device.proofs.Going.{at_rest_of}
use Rattle.trace_replay.proofs.Draining.{draining_begins, draining_written, draining_goes_on, draining_is_cut, draining_ends}
use Rattle.replay_standing.proofs.Standing.{Stepping, idle_rests, stepping_of}
use Rattle.run_output.proofs.Written.{grows_more, grows_none, keeps_grows}
use Rattle.trace_replay.proofs.replay.drain.Goals as goal

pub steps-init : goal.steps-init
steps-init g c = record {
  drains = λ start before p at printed. draining_begins start c.args.device.now before _ _ p at printed;
  grows = grows_none _;
  none = refl;
}

pub steps-preserved : goal.steps-preserved
steps-preserved g c =
    let going : AtRest c.steps.device → ⊥ = c.in-Step.ensures.rest.0 refl in
    let step : Stepping c.steps.device c.step-stepped.new.self c.step-stepped.result c.step-stepped.new.out =
    stepping_of c.steps.device c.step-stepped.new.self c.step-stepped.result c.step-stepped.new.out c.step-stepped.ensures.stands c.step-stepped.ensures.foreign c.step-stepped.ensures.entries
    c.step-stepped.ensures.listings c.step-stepped.ensures.counted c.step-stepped.ensures.hints c.step-stepped.ensures.fetched
    (λ idle. going (idle_rests c.steps.device.store.phase c.steps.device.tasks (c.step-stepped.ensures.idle.0 idle))) c.step-stepped.ensures.idle.1 c.step-stepped.ensures.steps
    c.step-stepped.ensures.fewer c.step-stepped.ensures.shape
    c.push_step.ensures.bytes c.push_step.ensures.small in
    record {
      drains = λ start before p at printed.
          let so_far = c.steps.invariant.drains start before p at printed in
          draining_goes_on start c.steps.device c.step-stepped.new.self before _ c.make_room.new.output c.push_step.new.output p c.step-stepped.result c.step-stepped.new.out going step
          c.push_step.ensures.text
          (draining_written start c.steps.device before _ _ _ _ p so_far (c.in_ok-make_room.ensures.text before (print so_far.moment.events) so_far.printed));
      grows = grows_more _ _ _ c.steps.invariant.grows (keeps_grows _ _ _ _ c.make_room.result c.make_room.ensures.text);
      none = c.in_ok-make_room.ensures.cause.given ∙ c.steps.invariant.none;
    }

pub returns-in_err-make_room-clause-serves : goal.returns-in_err-make_room-clause-serves
returns-in_err-make_room-clause-serves g c start before p at printed =
    let so_far = c.steps.invariant.drains start before p at printed in
    let failed = err_from_is_err_and c.from_residual.result c.from_residual.ensures.1 in
    rw failed.1 (draining_is_cut start c.steps.device before _ _ _ p so_far (c.in_err-make_room.ensures.text before (print so_far.moment.events) so_far.printed))

pub returns-clause-serves : goal.returns-clause-serves
returns-clause-serves g c start before p at printed =
    let rests : AtRest c.steps.device = at_rest_of c.steps.device (λ going. c.in_default.not-Step (c.waits.ensures.rest.1 going)) in
    draining_ends start c.steps.device before _ _ p rests (c.steps.invariant.drains start before p at printed)

pub returns-in_err-make_room-clause-grows : goal.returns-in_err-make_room-clause-grows
returns-in_err-make_room-clause-grows g c = grows_more _ _ _ c.steps.invariant.grows (keeps_grows _ _ _ _ c.make_room.result c.make_room.ensures.text)
