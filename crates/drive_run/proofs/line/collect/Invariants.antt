use Rattle.std.proofs.Common.{◌≡◌}
use Rattle.hpb_device.specs.State.{DeviceState}
use Rattle.drive_rules.specs.Lines.{Drive}
use Rattle.hpb_link.specs.Stands.{AtDrive}
use Rattle.run_output.specs.Writes.{Grows}
use Rattle.drive_run.proofs.Calls.{Called}
use Rattle.drive_run.proofs.line.collect.Given as goal

abbrev pub invariant-loop-call : goal.invariant-loop-call
invariant-loop-call g l = record {
  calls : (start : DeviceState) (d : Drive) → AtDrive start l.fn.link d
      → Called start l.fn.only l.link (g.K.Sink.written l.fn.sink) (g.K.Sink.written l.sink) l.fn.output l.output d l._call;
  grows : Grows (g.K.Sink.written l.fn.sink) (g.K.Sink.written l.sink);
  none : g.K.Sink.faults l.sink ≡ g.K.Sink.faults l.fn.sink;
}
