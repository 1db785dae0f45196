use Rattle.std.proofs.Common.{rules, length, ◌/◌}
use Rattle.std.proofs.lemmas.Result.{err_from_is_err_and}
use Rattle.driver_laws.specs.Flat.{Came}
use Rattle.drive_rules.specs.Text.{blocks_text, bytes_of}
use Rattle.run_output.proofs.Written.{grows_more}
use Rattle.drive_run.proofs.Playing.{adds_then, cut_first}
use Rattle.drive_run.proofs.answer.push_ended.Goals as goal

pub returns-in_err-push_ending-clause-text : goal.returns-in_err-push_ending-clause-text
returns-in_err-push_ending-clause-text g c before text so_far =
    let failed = err_from_is_err_and c.from_residual.result c.from_residual.ensures.1 in
    let bytes = bytes_of (Came c.args.ended.now.answer) in
    rw failed.1 (cut_first _ (blocks_text c.args.ended.now.ticket.lba bytes (length bytes / 4096)) _ _ _ _ c.push_ending.result (rw c.ending_of.ensures at c.push_ending.ensures.text)
    (search rules) before text so_far)

pub returns-in-Good-clause-text : goal.returns-in-Good-clause-text
returns-in-Good-clause-text g c =
    rw c.in-Good.is (adds_then _ _ _ _ _ _ _ _ c.push_ending.result c.push_blocks.result (rw (c.ending_of.ensures, c.in-Good.is) at c.push_ending.ensures.text) (search rules)
    (rw c.as_slice.ensures at c.push_blocks.ensures.text))

pub returns-in-Good-clause-grows : goal.returns-in-Good-clause-grows
returns-in-Good-clause-grows g c = grows_more _ _ _ c.push_ending.ensures.grows c.push_blocks.ensures.grows
