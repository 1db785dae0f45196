use Rattle.host_map_cache.proofs.Words.{mask_fits, mask_is}
use Rattle.host_map_cache.proofs.bits.mask.Goals as goal

pub overflow_sub-result-3 : goal.overflow_sub-result-3
overflow_sub-result-3 c = mask_fits c.args.low c.args.high c.requires.low c.requires.order c.requires.high

pub returns : goal.returns
returns c = mask_is c.args.low c.args.high c.requires.low c.requires.order c.requires.high
