use Rattle.std.proofs.Common.{rules}
use Rattle.std.proofs.lemmas.Result.{err_from_is_err_and}
use Rattle.hpb_device.specs.Standing.{group_of}
use Rattle.run_output.proofs.Written.{grows_more, keeps_grows}
use Rattle.drive_run.proofs.Stepping.{end_is_cut, end_printed, events_printed, in_any_case, step_leaves_fewer, step_played, step_unmade}
use Rattle.drive_run.proofs.exchange.make_step.Goals as goal

pub returns-in_err-make_room-clause-plays : goal.returns-in_err-make_room-clause-plays
returns-in_err-make_room-clause-plays g c start d at =
    let failed = err_from_is_err_and c.from_residual.result c.from_residual.ensures.1 in
    rw failed.1 (step_unmade start _ _ _ _ _ _ d c.make_room.result at c.make_room.ensures.text (search rules))

pub returns-in_err-make_room-clause-grows : goal.returns-in_err-make_room-clause-grows
returns-in_err-make_room-clause-grows g c = keeps_grows _ _ _ _ c.make_room.result c.make_room.ensures.text

pub returns-in_err-push_end-clause-plays : goal.returns-in_err-push_end-clause-plays
returns-in_err-push_end-clause-plays g c start d at =
    let failed = err_from_is_err_and c.from_residual-in_err-push_end.result c.from_residual-in_err-push_end.ensures.1 in
    let group = group_of c.step-ended.result.0 c.step-ended.new.out in
    let driven = c.step-ended.ensures.leads start d at in
    let prints = events_printed c.args.only _ _ _ _ _ d.said group c.make_room.result c.make_room.ensures.text (search rules) c.push_stepped.ensures.text in
    rw failed.1 (end_is_cut start _ _ _ _ _ _ _ _ d group c.step-ended.result.1 c.push_end.result driven prints c.push_end.ensures.text (search rules))

pub returns-in_err-push_end-clause-grows : goal.returns-in_err-push_end-clause-grows
returns-in_err-push_end-clause-grows g c = grows_more _ _ _ (keeps_grows _ _ _ _ c.make_room.result c.make_room.ensures.text) c.push_end.ensures.grows

pub returns-clause-plays : goal.returns-clause-plays
returns-clause-plays g c start d at =
    let group = group_of c.step-ended.result.0 c.step-ended.new.out in
    let driven = c.step-ended.ensures.leads start d at in
    let prints = events_printed c.args.only _ _ _ _ _ d.said group c.make_room.result c.make_room.ensures.text (search rules) c.push_stepped.ensures.text in
    let ended = end_printed start _ _ _ _ _ _ _ _ d group c.step-ended.result.1 c.push_end.result driven prints c.push_end.ensures.text (search rules) in
    step_played start _ _ _ _ _ _ _ _ _ d group c.step-ended.result.1 c.exchange.result driven ended c.exchange.ensures.plays

pub returns-clause-fewer : goal.returns-clause-fewer
returns-clause-fewer g c =
    in_any_case c.exchange.result _ (step_leaves_fewer c.args.link.now c.step-ended.new.self c.exchange.new.link
    (group_of c.step-ended.result.0 c.step-ended.new.out) c.step-ended.result.1 c.step-ended.ensures.leads c.step-ended.ensures.fewer c.exchange.ensures.steps)

pub returns-clause-grows : goal.returns-clause-grows
returns-clause-grows g c = grows_more _ _ _ (grows_more _ _ _ (keeps_grows _ _ _ _ c.make_room.result c.make_room.ensures.text) c.push_end.ensures.grows) c.exchange.ensures.grows
