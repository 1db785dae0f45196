use Rattle.std.proofs.Common.{◌≡◌, ◌+◌, refl, sym, ◌∙◌, arith, add-one}
use Rattle.std.proofs.lemmas.Bool.{false≢true}
use Rattle.std.proofs.lemmas.Result.{err_from_is_err_and}
use Rattle.flat_unit.specs.Print.{print}
use Rattle.trace_replay.proofs.Making.{made_all, made_begins, made_written, made_goes_on, made_is_cut, made_ends}
use Rattle.replay_standing.proofs.Standing.{idle_rests, stepping_of}
use Rattle.run_output.proofs.Written.{grows_more, grows_none, keeps_grows}
use Rattle.trace_replay.proofs.replay.make_steps.Goals as goal

pub loop-step-init : goal.loop-step-init
loop-step-init g c = record {
  makes = λ start before p at printed. made_begins start c.args.device.now before _ _ p at printed;
  grows = grows_none _;
  none = refl;
}

pub loop-step-preserved : goal.loop-step-preserved
loop-step-preserved g c =
    let step = stepping_of c.loop-step.device c.step-stepped.new.self c.step-stepped.result c.step-stepped.new.out c.step-stepped.ensures.stands c.step-stepped.ensures.foreign
    c.step-stepped.ensures.entries c.step-stepped.ensures.listings c.step-stepped.ensures.counted c.step-stepped.ensures.hints c.step-stepped.ensures.fetched
    (λ idle. false≢true (sym c.if-stepped.false ∙ idle)) c.step-stepped.ensures.idle.1 c.step-stepped.ensures.steps c.step-stepped.ensures.fewer c.step-stepped.ensures.shape c.push_step.ensures.bytes
    c.push_step.ensures.small in
    record {
      makes = λ start before p at printed.
          let so_far = c.loop-step.invariant.makes start before p at printed in
          made_goes_on start c.loop-step.device c.step-stepped.new.self before _ _ _ p c.step-stepped.result c.step-stepped.new.out c.loop-step._step (c.loop-step._step + 1) (rw add-one refl) step
          c.push_step.ensures.text
          (made_written start c.loop-step.device before _ _ _ _ p c.loop-step._step so_far (c.in_ok-make_room.ensures.text before (print so_far.moment.events) so_far.printed));
      grows = grows_more _ _ _ c.loop-step.invariant.grows (keeps_grows _ _ _ _ c.make_room.result c.make_room.ensures.text);
      none = c.in_ok-make_room.ensures.cause.given ∙ c.loop-step.invariant.none;
    }

pub returns-then-stepped-clause-serves : goal.returns-then-stepped-clause-serves
returns-then-stepped-clause-serves g c start before p at printed =
    let so_far = c.loop-step.invariant.makes start before p at printed in
    let idle = c.if-stepped.true in
    rw (c.step-stepped.ensures.unchanged idle)
    (made_all start c.loop-step.device before _ _ p c.loop-step._step c.args.count (omega (arith, c.loop-step-test.true))
    (idle_rests c.loop-step.device.store.phase c.loop-step.device.tasks (c.step-stepped.ensures.idle.0 idle)) (c.step-stepped.ensures.looked idle)
    (made_written start c.loop-step.device before _ _ _ _ p c.loop-step._step so_far (c.in_ok-make_room.ensures.text before (print so_far.moment.events) so_far.printed)))

pub returns-in_err-make_room-clause-serves : goal.returns-in_err-make_room-clause-serves
returns-in_err-make_room-clause-serves g c start before p at printed =
    let so_far = c.loop-step.invariant.makes start before p at printed in
    let failed = err_from_is_err_and c.from_residual.result c.from_residual.ensures.1 in
    rw failed.1 (made_is_cut start c.loop-step.device before _ _ _ p c.loop-step._step c.args.count (omega (arith, c.loop-step-test.true)) so_far
    (c.in_err-make_room.ensures.text before (print so_far.moment.events) so_far.printed))

pub returns-clause-serves : goal.returns-clause-serves
returns-clause-serves g c start before p at printed =
    let all : c.loop-step._step ≡ c.args.count = omega (arith, c.loop-step-test.false, c.loop-step.auto._step-end) in
    rw (← all) (made_ends start c.loop-step.device before _ _ p c.loop-step._step (c.loop-step.invariant.makes start before p at printed))

pub returns-in_err-make_room-clause-grows : goal.returns-in_err-make_room-clause-grows
returns-in_err-make_room-clause-grows g c = grows_more _ _ _ c.loop-step.invariant.grows (keeps_grows _ _ _ _ c.make_room.result c.make_room.ensures.text)

pub returns-then-stepped-clause-grows : goal.returns-then-stepped-clause-grows
returns-then-stepped-clause-grows g c = grows_more _ _ _ c.loop-step.invariant.grows (keeps_grows _ _ _ _ c.make_room.result c.make_room.ensures.text)
