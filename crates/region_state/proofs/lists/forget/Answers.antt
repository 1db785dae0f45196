use Rattle.region_state.specs.Subregion.{unloaded}
use Rattle.region_state.proofs.ListLemmas.{filled}
use Rattle.region_state.proofs.lists.forget.Goals as goal

pub returns : goal.returns
returns c =
    rw c.min-end.ensures
    (filled unloaded c.args.first c.args.end c.args.subregions.now c.fill.new.self c.requires.order c.requires.start
    (rw (← c.min-end.ensures) (c.fill.ensures.after (λ y is. is))))
