use Rattle.std.proofs.Common.{arith, length, ◌<◌}
use Rattle.std.proofs.lemmas.List.Edits.{map_over_more}
use Rattle.host_map_cache.specs.Regions.{lapsed_state}
use Rattle.host_map_cache.proofs.slots.Slot.lapse.Goals as goal

pub loop-index-preserved : goal.loop-index-preserved
loop-index-preserved c = let inside : c.loop-index.index < length c.args.self.now.states.items = omega
    (arith, c.loop-index-test.true, c.len-index-end.ensures, c.args.self.now.states.ok.0) in record {
      states = rw c.lapsed.ensures (map_over_more lapsed_state c.args.self.now.states.items c.loop-index.self.states.items c.loop-index.index c.index.result.now inside
          c.loop-index.invariant.states c.index.ensures);
      entries = c.loop-index.invariant.entries;
      dirty = c.loop-index.invariant.dirty;
      region = c.loop-index.invariant.region;
    }
