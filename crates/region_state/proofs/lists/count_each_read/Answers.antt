use Rattle.std.proofs.Common.{arith, ◌<◌, get_or, length}
use Rattle.std.proofs.lemmas.List.{get_or_default}
use Rattle.std.proofs.lemmas.List.Edits.{map_over_more}
use Rattle.region_state.specs.declared.subregion.Subregion.{Subregion}
use Rattle.region_state.specs.Subregion.{read_counted, unloaded}
use Rattle.region_state.proofs.lists.count_each_read.Goals as goal

pub loop-subregion-preserved : goal.loop-subregion-preserved
loop-subregion-preserved c =
    let read : Subregion = get_or c.loop-subregion.subregions c.loop-subregion.subregion-index unloaded in
    let within : c.loop-subregion.subregion-index < length c.loop-subregion.subregions = omega arith in
    rw c.read_counted.ensures
    (map_over_more read_counted c.args.subregions.now c.loop-subregion.subregions c.loop-subregion.subregion-index read (omega arith) c.loop-subregion.invariant
    (get_or_default c.loop-subregion.subregions c.loop-subregion.subregion-index unloaded read within))
