use Rattle.std.proofs.Common.{◌∙◌, ◌/◌, ap, sym}
use Rattle.host_map_cache.specs.Cache.{heated}
use Rattle.host_map_cache.proofs.Ranges.{fold-range}
use Rattle.host_map_cache.proofs.cache.Cache.plain_read.Goals as goal

pub loop-number-preserved : goal.loop-number-preserved
loop-number-preserved c = (
  c.heat_up.ensures.after ∙ ap (λ s. heated s c.loop-number.number) c.loop-number.invariant.0
      ∙ sym (fold-range heated c.args.self.now (c.args.lba / c.self.inside.sub_blocks) c.loop-number.number c.loop-number.auto.number),
  c.heat_up.ensures.shape ∙ c.loop-number.invariant.1,
  c.heat_up.ensures.heat ∙ c.loop-number.invariant.2,
)
