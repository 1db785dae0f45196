use Rattle.std.proofs.Common.{refl, rules, inr}
use Rattle.run_output.proofs.Written.{front_wordless, cut_of, flushed}
use Rattle.run_output.proofs.ends.finish.Goals as goal

pub returns-in-Err : goal.returns-in-Err
returns-in-Err g c = record {
  ends = λ before text so_far.
      let cut = cut_of c.flush.result _ _ (search rules) (flushed _ _ _ c.flush.result c.flush.ensures.writes before text so_far) in
      let cause = c.in-Err.ensures.cause in
      inr (refl, front_wordless before _ text cut, record { later = cause.later; rose = cause.failed; once = cause.once });
}
