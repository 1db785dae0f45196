use Rattle.std.proofs.Common.{◌≡◌}
use Rattle.host_map_cache.proofs.Made.{Made}
use Rattle.host_map_cache.proofs.slots.Slots.new.Given as goal

abbrev pub invariant-loop-key : goal.invariant-loop-key
invariant-loop-key l = record {
  cap : l.slots.cap ≡ l.room;
  made : Made l.key l.subregions l.blocks l.slots.entries;
}
