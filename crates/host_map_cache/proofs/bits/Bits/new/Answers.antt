use Rattle.std.proofs.Common.{ap, ◌∙◌}
use Rattle.host_map_cache.specs.Words.{bits_in}
use Rattle.host_map_cache.proofs.BitLists.{no_bits}
use Rattle.host_map_cache.proofs.bits.Bits.new.Goals as goal

pub returns : goal.returns
returns c = ap (bits_in c.args.count) (c.in_ok-words.ensures.items_if_clones_equal (λ y is. is)) ∙ no_bits c.args.count c.div_ceil.result
