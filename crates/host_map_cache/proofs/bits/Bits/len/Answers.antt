use Rattle.std.proofs.Common.{sym}
use Rattle.std.proofs.lemmas.List.FromFn.{length-map-range_with_len}
use Rattle.host_map_cache.proofs.bits.Bits.len.Goals as goal

pub returns : goal.returns
returns c = rw (← c.self.view_is) (sym (length-map-range_with_len _ 0 c.self.inside.count))
