use Rattle.std.proofs.Common.{◌+◌, arith, sym, ◌∙◌}
use Rattle.hpb_device.proofs.Machines.{changes_more}
use Rattle.hpb_device.proofs.regions.change.Goals as goal

pub loop-block-preserved : goal.loop-block-preserved
loop-block-preserved c = (
  rw c.changed.ensures.new
      (sym (changes_more c.loop-block.regions c.loop-block.block (c.args.lba + c.args.n) (omega arith)) ∙ c.loop-block.invariant.0),
  c.changed.ensures.shape ∙ c.loop-block.invariant.1,
)
