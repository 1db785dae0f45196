use Rattle.std.proofs.Common.{rules}
use Rattle.std.proofs.lemmas.Result.{err_from_is_err_and}
use Rattle.run_output.proofs.Written.{cut_of}
use Rattle.drive_run.proofs.Lining.{write_is_cut, write_serves}
use Rattle.drive_run.proofs.line.make_write.Goals as goal

pub returns-in_err-free_tags-clause-serves : goal.returns-in_err-free_tags-clause-serves
returns-in_err-free_tags-clause-serves g c start d at =
    let failed = err_from_is_err_and c.from_residual.result c.from_residual.ensures.1 in
    rw failed.1 (write_is_cut c.args.only c.args.link.now c.free_tags.new.link _ _ _ c.free_tags.new.desk.output c.args.lba c.args.n c.args.seed start d (cut_of c.free_tags.result _ _
    (search rules) (c.free_tags.ensures.plays start d at)))

pub returns-clause-serves : goal.returns-clause-serves
returns-clause-serves g c =
    write_serves _ c.args.link.now _ _ _ _ _ c.lun-lun.result c.args.lba c.args.n c.args.seed c.in-Ok.bytes c.make_request.result c.lun-lun.ensures c.in-Ok.ensures.bytes c.make_request.ensures.asks
