use Rattle.std.proofs.Common.{◌<◌, ◌∙◌, arith}
use Rattle.hpb_outside.proofs.Written.{up_to_more}
use Rattle.hpb_outside.proofs.whole.write_whole.Goals as goal

pub loop-rest-preserved : goal.loop-rest-preserved
loop-rest-preserved g c =
    let some : 0 < c.in_ok-count.count = omega arith in
    record {
      written = rw c.split_at.ensures.back (up_to_more _ _ _ _ _ c.in_ok-count.count c.loop-rest.invariant.written c.in_ok-count.ensures.bytes);
      none = c.in_ok-count.ensures.cause.given some ∙ c.loop-rest.invariant.none;
    }
