use Rattle.std.proofs.Common.{ap}
use Rattle.trace_text.specs.Lines.{ReaderState}
use Rattle.trace_replay.proofs.Transcripts.{show_from_source}
use Rattle.trace_replay.proofs.program.run_show.Goals as goal

pub returns-clause-show : goal.returns-clause-show
returns-clause-show g c = show_from_source _ _ _ _ _ _ c.show.result (ap (λ (r : ReaderState). r.held) c.in-Ok.ensures.reader) c.show.ensures.show
