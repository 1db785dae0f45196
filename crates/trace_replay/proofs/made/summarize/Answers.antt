use Rattle.std.proofs.Common.{◌∙◌, ◌++◌}
use Rattle.run_output.specs.Texts.{counts_text}
use Rattle.trace_replay.specs.Making.{summary_line}
use Rattle.trace_replay.proofs.MadeDrives.{finishes_with}
use Rattle.trace_replay.proofs.made.summarize.Goals as goal

pub returns : goal.returns
returns g c =
    let line = c.push_summary.ensures.text ∙ (λ i. summary_line (c.made_counts-reads.ensures.reads i) (c.made_counts-reads.ensures.writes i) (c.good.ensures i) (c.cut.ensures i)) in
    record {
      ends = finishes_with _ _ _ _ _ _ _ c.finish.result (c.push_counts.ensures ∙ (λ i. line i ++ counts_text (c.counts.ensures i))) c.finish.ensures.ends;
    }
