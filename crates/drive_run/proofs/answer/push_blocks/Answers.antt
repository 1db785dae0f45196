use Rattle.std.proofs.Common.{rules, ◌+◌, ◌*◌, ◌-◌, ◌/◌, length, refl, arith, add-one, ◌∙◌}
use Rattle.std.proofs.lemmas.Result.{err_from_is_err_and}
use Rattle.run_output.proofs.Written.{grows_more, keeps_grows}
use Rattle.drive_run.proofs.Answering.{block_added, blocks_cut}
use Rattle.drive_run.proofs.answer.push_blocks.Goals as goal

pub returns-in_err-make_room-clause-text : goal.returns-in_err-make_room-clause-text
returns-in_err-make_room-clause-text g c before text so_far =
    let failed = err_from_is_err_and c.from_residual.result c.from_residual.ensures.1 in
    let all = length c.args.bytes.now / 4096 in
    rw failed.1 (blocks_cut c.args.lba c.args.bytes.now c.loop-block.block all (all - c.loop-block.block) (omega
    (arith, c.loop-block-test.true)) _ _ _ _ _ _ c.make_room.result c.loop-block.invariant.added c.make_room.ensures.text (search rules) before text so_far)

pub returns-in_err-make_room-clause-grows : goal.returns-in_err-make_room-clause-grows
returns-in_err-make_room-clause-grows g c = grows_more _ _ _ c.loop-block.invariant.grows (keeps_grows _ _ _ _ c.make_room.result c.make_room.ensures.text)

pub loop-block-preserved : goal.loop-block-preserved
loop-block-preserved g c = record {
  added = block_added c.args.lba (c.args.lba + c.loop-block.block) (c.loop-block.block * 4096) (c.loop-block.block * 4096 + 4096) c.args.bytes.now c.loop-block.block
      (c.loop-block.block + 1) refl (omega arith) (omega arith) (rw add-one refl) _ _ _ _ _ _ _ c.make_room.result c.loop-block.invariant.added c.make_room.ensures.text
      (search rules) c.push_block.ensures.text;
  grows = grows_more _ _ _ c.loop-block.invariant.grows (keeps_grows _ _ _ _ c.make_room.result c.make_room.ensures.text);
  none = c.in_ok-make_room.ensures.cause.given ∙ c.loop-block.invariant.none;
}
