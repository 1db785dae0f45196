use Rattle.trace_text.proofs.LinesOf.{lines_of-long, lines_of-none, lines_of-takes}
use Rattle.trace_text.proofs.laws.lines_in_order.Goals as goal

pub returns : goal.returns
returns c = record { taken = lines_of-takes; long = lines_of-long; empty = lines_of-none }
