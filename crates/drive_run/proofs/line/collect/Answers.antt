use Rattle.std.proofs.Common.{rules, ◌≡◌, ◌+◌, ◌++◌, [], refl, arith, add-one, ◌∙◌}
use Rattle.std.specs.Prelude.{All}
use Rattle.std.proofs.lemmas.Result.{err_from_is_err_and}
use Rattle.flat_unit.specs.Replays.{IsCollection, events_of}
use Rattle.hpb_device.specs.Standing.{group_of}
use Rattle.run_output.proofs.Written.{grows_more, grows_none, keeps_grows}
use Rattle.drive_run.specs.Moments.{events_text}
use Rattle.drive_run.proofs.Calls.{call_lines, called_begins, called_ends, called_goes_on, called_is_cut, no_lines}
use Rattle.drive_run.proofs.line.collect.Goals as goal
use Rattle.drive_run.proofs.line.collect.Goals.{then-not-only, else-not-only}

pub loop-call-init : goal.loop-call-init
loop-call-init g c = record {
  calls = λ start d at. called_begins start _ _ _ _ d at;
  grows = grows_none _;
  none = refl;
}

pub loop-call-preserved : goal.loop-call-preserved
loop-call-preserved g c =
    let group = group_of c.collect-stepped.result [] in
    let text : All IsCollection (events_of group) → c.if-not-only.output ≡ c.make_room.new.output ++ events_text c.args.only (events_of group) = λ all.
    elim c.if-not-only.branch [
      | then-not-only w ↦ rw w.output-is (call_lines c.args.only _ _ _ c.make_room.new.output _ _ (search rules) w.push_failed.ensures.text w.push_moved.ensures.text all)
      | else-not-only w ↦ rw w.output-is (no_lines c.args.only (events_of group) c.make_room.new.output (search rules))
    ] in
    record {
      calls = λ start d at.
          called_goes_on start _ _ _ _ _ _ _ _ _ _ d c.loop-call._call (c.loop-call._call + 1) group c.make_room.result (rw add-one refl)
          (c.loop-call.invariant.calls start d at) c.make_room.ensures.text (search rules) c.collect-stepped.ensures.leads text;
      grows = grows_more _ _ _ c.loop-call.invariant.grows (keeps_grows _ _ _ _ c.make_room.result c.make_room.ensures.text);
      none = c.in_ok-make_room.ensures.cause.given ∙ c.loop-call.invariant.none;
    }

pub returns-in_err-make_room-clause-plays : goal.returns-in_err-make_room-clause-plays
returns-in_err-make_room-clause-plays g c start d at =
    let failed = err_from_is_err_and c.from_residual.result c.from_residual.ensures.1 in
    rw failed.1 (called_is_cut start _ _ _ _ _ _ _ _ d c.loop-call._call c.args.count c.make_room.result (omega (arith, c.loop-call-test.true))
    (c.loop-call.invariant.calls start d at) c.make_room.ensures.text (search rules))

pub returns-in_err-make_room-clause-grows : goal.returns-in_err-make_room-clause-grows
returns-in_err-make_room-clause-grows g c = grows_more _ _ _ c.loop-call.invariant.grows (keeps_grows _ _ _ _ c.make_room.result c.make_room.ensures.text)

pub returns-clause-plays : goal.returns-clause-plays
returns-clause-plays g c start d at =
    let all : c.loop-call._call ≡ c.args.count = omega (arith, c.loop-call-test.false, c.loop-call.auto._call-end) in
    rw (← all) (called_ends start _ _ _ _ _ _ d c.loop-call._call (c.loop-call.invariant.calls start d at))
