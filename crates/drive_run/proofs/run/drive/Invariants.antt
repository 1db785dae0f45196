use Rattle.std.proofs.Common.{◌≡◌}
use Rattle.std.specs.Prelude.{IsTrue}
use Rattle.std.specs.Io.KnownBytes.{IsAtEnd, prepend_known}
use Rattle.hpb_device.specs.Standing.{sizes_of}
use Rattle.drive_run.specs.Run.{Drove}
use Rattle.drive_run.proofs.Runs.{StandsAndPrinted}
use Rattle.drive_run.proofs.run.drive.Given as goal

abbrev pub invariant-loop-number : goal.invariant-loop-number
invariant-loop-number g l = record {
  drove : Drove (sizes_of l.fn.link.device) l.fn.link.driver (prepend_known l.fn.buffers.reader.held (g.S.Source.left l.fn.source)) (prepend_known l.buffers.reader.held
      (g.S.Source.left l.source)) l.number
      (StandsAndPrinted l.fn.link.device l.fn.only l.link (g.K.Sink.written l.fn.sink) (g.K.Sink.written l.sink) l.buffers.desk.output);
  at_end : IsTrue l.buffers.reader.ended → IsAtEnd (g.S.Source.left l.source);
  source_same : g.S.Source.faults l.source ≡ g.S.Source.faults l.fn.source;
  sink_same : g.K.Sink.faults l.sink ≡ g.K.Sink.faults l.fn.sink;
}
