use Rattle.std.proofs.Common.{◌≡◌, ◌+◌, refl, sym, ◌∙◌, arith, add-one}
use Rattle.std.proofs.lemmas.Bool.{false≢true}
use Rattle.std.proofs.lemmas.Result.{err_from_is_err_and}
use Rattle.flat_unit.specs.History.{followed_by}
use Rattle.flat_unit.specs.Print.{print}
use Rattle.replay_standing.proofs.Collecting.{calling_of, rests_of}
use Rattle.trace_replay.proofs.Collecting.{call_lines, called_all, called_begins, called_written, called_goes_on, called_is_cut, called_ends}
use Rattle.run_output.proofs.Written.{grows_more, grows_none, keeps_grows}
use Rattle.trace_replay.proofs.replay.collect.Goals as goal

pub loop-call-init : goal.loop-call-init
loop-call-init g c = record {
  calls = λ start before p at printed. called_begins start c.args.device.now before _ _ p at printed;
  grows = grows_none _;
  none = refl;
}

pub loop-call-preserved : goal.loop-call-preserved
loop-call-preserved g c =
    let call = calling_of c.loop-call.device c.collect-stepped.new.self c.collect-stepped.result c.collect-stepped.ensures.stands c.collect-stepped.ensures.foreign c.collect-stepped.ensures.entries
    c.collect-stepped.ensures.listings c.collect-stepped.ensures.counted c.collect-stepped.ensures.hints c.collect-stepped.ensures.fetched c.collect-stepped.ensures.sound
    (λ idle. false≢true (sym c.if-stepped.false ∙ idle)) c.collect-stepped.ensures.collects c.collect-stepped.ensures.fewer c.collect-stepped.ensures.most c.collect-stepped.ensures.over
    c.collect-stepped.ensures.left c.collect-stepped.ensures.shape c.push_moved.ensures.small in
    record {
      calls = λ start before p at printed.
          let so_far = c.loop-call.invariant.calls start before p at printed in
          called_goes_on start c.loop-call.device c.collect-stepped.new.self before _ _ _ p c.collect-stepped.result c.loop-call._call (c.loop-call._call + 1) (rw add-one refl) call
          (call_lines c.loop-call.device c.collect-stepped.new.self c.collect-stepped.result _ c.push_failed.new.output c.push_moved.new.output call c.push_failed.ensures.text
          c.push_moved.ensures.text)
          (called_written start c.loop-call.device before _ _ _ _ p c.loop-call._call so_far (c.in_ok-make_room.ensures.text before (print (followed_by p.events so_far.group)) so_far.printed));
      grows = grows_more _ _ _ c.loop-call.invariant.grows (keeps_grows _ _ _ _ c.make_room.result c.make_room.ensures.text);
      none = c.in_ok-make_room.ensures.cause.given ∙ c.loop-call.invariant.none;
    }

pub returns-in_err-make_room-clause-serves : goal.returns-in_err-make_room-clause-serves
returns-in_err-make_room-clause-serves g c start before p at printed =
    let so_far = c.loop-call.invariant.calls start before p at printed in
    let failed = err_from_is_err_and c.from_residual.result c.from_residual.ensures.1 in
    rw failed.1 (called_is_cut start c.loop-call.device before _ _ _ p c.loop-call._call c.args.count (omega (arith, c.loop-call-test.true)) so_far
    (c.in_err-make_room.ensures.text before (print (followed_by p.events so_far.group)) so_far.printed))

pub returns-then-stepped-clause-serves : goal.returns-then-stepped-clause-serves
returns-then-stepped-clause-serves g c start before p at printed =
    let so_far = c.loop-call.invariant.calls start before p at printed in
    let idle = c.if-stepped.true in
    rw (c.collect-stepped.ensures.unchanged idle)
    (called_all start c.loop-call.device before _ _ p c.loop-call._call c.args.count (omega (arith, c.loop-call-test.true))
    (rests_of c.loop-call.device (c.collect-stepped.ensures.rests idle) c.collect-stepped.ensures.none_left)
    (called_written start c.loop-call.device before _ _ _ _ p c.loop-call._call so_far (c.in_ok-make_room.ensures.text before (print (followed_by p.events so_far.group)) so_far.printed)))

pub returns-clause-serves : goal.returns-clause-serves
returns-clause-serves g c start before p at printed =
    let all : c.loop-call._call ≡ c.args.count = omega (arith, c.loop-call-test.false, c.loop-call.auto._call-end) in
    rw (← all) (called_ends start c.loop-call.device before _ _ p c.loop-call._call (c.loop-call.invariant.calls start before p at printed))

pub returns-in_err-make_room-clause-grows : goal.returns-in_err-make_room-clause-grows
returns-in_err-make_room-clause-grows g c = grows_more _ _ _ c.loop-call.invariant.grows (keeps_grows _ _ _ _ c.make_room.result c.make_room.ensures.text)

pub returns-then-stepped-clause-grows : goal.returns-then-stepped-clause-grows
returns-then-stepped-clause-grows g c = grows_more _ _ _ c.loop-call.invariant.grows (keeps_grows _ _ _ _ c.make_room.result c.make_room.ensures.text)
