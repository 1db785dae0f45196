use Rattle.std.proofs.Common.{arith, sym, ◌∙◌}
use Rattle.region_state.proofs.ListLemmas.{fold-range_more}
use Rattle.region_state.proofs.lists.touch.Goals as goal

pub loop-region-preserved : goal.loop-region-preserved
loop-region-preserved c = (
  rw c.bring_to_front.ensures.items
      (sym (fold-range_more c.loop-region.list.items c.loop-region.region c.args.end (omega arith)) ∙ c.loop-region.invariant.0),
  omega arith,
  omega arith,
)
