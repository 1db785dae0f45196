use Rattle.std.proofs.Common.{◌∙◌, ap, sym, nat_lt}
use Rattle.std.specs.Option.{is_some}
use Rattle.host_map_cache.specs.Cache.{entry_of}
use Rattle.host_map_cache.proofs.Ranges.{all-push, all-fails, and-false}
use Rattle.host_map_cache.proofs.cache.Cache.covers.Goals as goal

pub returns-then-is_none-clause-answer : goal.returns-then-is_none-clause-answer
returns-then-is_none-clause-answer c = rw (all-fails (λ block. is_some (entry_of c.args.self.now block))
    c.args.lba c.args.n c.loop-block.block c.loop-block.auto.block c.loop-block-test.true
    (ap is_some (sym c.entry.ensures) ∙ c.if-is_none.ensures)) (sym (and-false (nat_lt 0 c.args.n)))

pub loop-block-preserved : goal.loop-block-preserved
loop-block-preserved c = all-push (λ block. is_some (entry_of c.args.self.now block)) c.args.lba c.loop-block.block c.loop-block.auto.block
    c.loop-block.invariant (ap is_some (sym c.entry.ensures) ∙ c.if-is_none.ensures)
