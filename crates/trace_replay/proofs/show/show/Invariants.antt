use Rattle.std.proofs.Common.{◌≡◌}
use Rattle.std.specs.Prelude.{IsTrue}
use Rattle.std.specs.Io.KnownBytes.{IsAtEnd, prepend_known}
use Rattle.trace_replay.proofs.Shown.{HasShown}
use Rattle.trace_replay.proofs.show.show.Given as goal

abbrev pub invariant-loop-number : goal.invariant-loop-number
invariant-loop-number g l = record {
  ran : HasShown (prepend_known l.fn.buffers.reader.held (g.S.Source.left l.fn.source)) (prepend_known l.buffers.reader.held (g.S.Source.left l.source)) (g.K.Sink.written l.fn.sink)
      (g.K.Sink.written l.sink) l.buffers.output l.number;
  at_end : IsTrue l.buffers.reader.ended → IsAtEnd (g.S.Source.left l.source);
  source_same : g.S.Source.faults l.source ≡ g.S.Source.faults l.fn.source;
  sink_same : g.K.Sink.faults l.sink ≡ g.K.Sink.faults l.fn.sink;
}
