use Rattle.std.proofs.Common.{◌≡◌, take}
use Rattle.run_output.specs.Writes.{Grows}
use Rattle.drive_run.specs.Moments.{cut_text}
use Rattle.drive_run.proofs.Answering.{Added}
use Rattle.drive_run.proofs.line.push_cut.Given as goal

abbrev pub invariant-loop-place : goal.invariant-loop-place
invariant-loop-place g l = record {
  added : Added (cut_text (take l.place l.fn.tickets)) (g.K.Sink.written l.fn.sink) (g.K.Sink.written l.sink) l.fn.output l.output;
  grows : Grows (g.K.Sink.written l.fn.sink) (g.K.Sink.written l.sink);
  none : g.K.Sink.faults l.sink ≡ g.K.Sink.faults l.fn.sink;
}
