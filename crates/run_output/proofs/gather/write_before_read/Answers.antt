use Rattle.run_output.proofs.Written.{flushed}
use Rattle.run_output.proofs.gather.write_before_read.Goals as goal

pub returns-clause-text : goal.returns-clause-text
returns-clause-text g c = rw c.flush.ensures.empty (flushed _ _ _ c.flush.result c.flush.ensures.writes)
