use Rattle.std.proofs.Common.{refl, arith}
use Rattle.host_map_cache.proofs.BitLists.{more_filled}
use Rattle.host_map_cache.proofs.bits.fill_words.Goals as goal

pub loop-index-preserved : goal.loop-index-preserved
loop-index-preserved c = more_filled c.args.from c.args.until c.args.value c.loop-index.index c.args.words.now c.loop-index.words c.loop-index.invariant _ c.filled.result
    c.saturating_sub-low.result c.min-high.result (omega (arith, c.loop-index-test.true, c.div_ceil-index-end.ensures, c.loop-index.invariant.count, c.requires.inside)) refl
    c.saturating_sub-low.ensures c.min-high.ensures (record { filled = c.filled.ensures.filled; before = c.filled.ensures.before; after = c.filled.ensures.after })
