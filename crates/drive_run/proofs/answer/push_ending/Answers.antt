use Rattle.std.proofs.Common.{rules}
use Rattle.std.proofs.lemmas.Result.{err_from_is_err_and}
use Rattle.run_output.proofs.Written.{keeps_grows}
use Rattle.drive_run.proofs.Playing.{cut_before}
use Rattle.drive_run.proofs.answer.push_ending.Goals as goal

pub returns-in_err-make_room-clause-text : goal.returns-in_err-make_room-clause-text
returns-in_err-make_room-clause-text g c before text so_far =
    let failed = err_from_is_err_and c.from_residual.result c.from_residual.ensures.1 in
    rw failed.1 (cut_before _ _ _ _ _ c.make_room.result c.make_room.ensures.text (search rules) before text so_far)

pub returns-in_err-make_room-clause-grows : goal.returns-in_err-make_room-clause-grows
returns-in_err-make_room-clause-grows g c = keeps_grows _ _ _ _ c.make_room.result c.make_room.ensures.text

pub returns-clause-grows : goal.returns-clause-grows
returns-clause-grows g c = keeps_grows _ _ _ _ c.make_room.result c.make_room.ensures.text
