use Rattle.host_map_cache.proofs.BitLists.{AreFilled}
use Rattle.host_map_cache.proofs.bits.fill_words.Given as goal

abbrev pub invariant-loop-index : goal.invariant-loop-index
invariant-loop-index l = AreFilled l.from l.until l.value l.index l.initial.words l.words
