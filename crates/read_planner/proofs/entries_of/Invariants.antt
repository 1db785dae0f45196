use Rattle.std.proofs.Common.{◌≡◌, Some, map}
use Rattle.std.specs.List.{range_with_len}
use Rattle.host_map_cache.specs.Cache.{entry_of}
use Rattle.read_planner.proofs.entries_of.Given as goal

abbrev pub invariant-loop-place : goal.invariant-loop-place
invariant-loop-place l = map Some l.entries.items ≡ map (entry_of l.fn.cache) (range_with_len l.fn.lba l.place)
