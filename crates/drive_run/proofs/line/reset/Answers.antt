use Rattle.std.proofs.Common.{rules, ◌∙◌}
use Rattle.std.proofs.lemmas.Result.{err_from_is_err_and}
use Rattle.run_output.proofs.Written.{grows_more, keeps_grows}
use Rattle.drive_run.proofs.Resets.{reset_gathered, reset_played, reset_unmade}
use Rattle.drive_run.proofs.line.reset.Goals as goal

pub returns-in_err-make_room-clause-plays : goal.returns-in_err-make_room-clause-plays
returns-in_err-make_room-clause-plays g c start d at =
    let failed = err_from_is_err_and c.from_residual.result c.from_residual.ensures.1 in
    rw failed.1 (reset_unmade start _ _ _ _ _ _ d c.make_room.result at c.make_room.ensures.text (search rules))

pub returns-in_err-make_room-clause-grows : goal.returns-in_err-make_room-clause-grows
returns-in_err-make_room-clause-grows g c = keeps_grows _ _ _ _ c.make_room.result c.make_room.ensures.text

pub returns-clause-plays : goal.returns-clause-plays
returns-clause-plays g c start d at =
    let gathered = reset_gathered c.args.only _ _ _ _ _ d c.make_room.result c.make_room.ensures.text (search rules) c.push_reset.ensures.text in
    reset_played start _ c.args.link.now c.reset.new.self _ _ _ _ _ _ d c.deref.result.now c.push_cut.result at (c.reset.ensures.leads start d at)
    (c.deref.ensures.value ∙ c.reset.ensures.cut) gathered c.push_cut.ensures.text

pub returns-clause-grows : goal.returns-clause-grows
returns-clause-grows g c = grows_more _ _ _ (keeps_grows _ _ _ _ c.make_room.result c.make_room.ensures.text) c.push_cut.ensures.grows
