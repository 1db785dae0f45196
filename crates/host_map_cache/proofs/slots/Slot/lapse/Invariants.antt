use Rattle.std.proofs.Common.{◌≡◌, ◌++◌, map, take, drop}
use Rattle.host_map_cache.specs.Regions.{lapsed_state}
use Rattle.host_map_cache.proofs.slots.Slot.lapse.Given as goal

abbrev pub invariant-loop-index : goal.invariant-loop-index
invariant-loop-index l = record {
  states : l.self.states.items ≡ map lapsed_state (take l.index l.initial.self.states.items) ++ drop l.index l.initial.self.states.items;
  entries : l.self.entries.items ≡ l.initial.self.entries.items;
  dirty : l.self.dirty ≡ l.initial.self.dirty;
  region : l.self.region ≡ l.initial.self.region;
}
