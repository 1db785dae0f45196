use Rattle.trace_text.proofs.LinesOf.{takes-unique}
use Rattle.trace_text.proofs.laws.line_is_unique.Goals as goal

pub returns : goal.returns
returns c = takes-unique
