use Rattle.std.proofs.Common.{◌≡◌}
use Rattle.hpb_device.specs.State.{DeviceState}
use Rattle.drive_rules.specs.Lines.{Drive}
use Rattle.hpb_link.specs.Stands.{AtDrive}
use Rattle.run_output.specs.Writes.{Grows}
use Rattle.drive_run.proofs.Drains.{Stepped}
use Rattle.drive_run.proofs.drain.make_steps.Given as goal

abbrev pub invariant-loop-step : goal.invariant-loop-step
invariant-loop-step g l = record {
  steps : (start : DeviceState) (d : Drive) → AtDrive start l.fn.link d
      → Stepped start l.fn.only l.link (g.K.Sink.written l.fn.sink) (g.K.Sink.written l.sink) l.fn.desk.output l.desk.output d l._step;
  grows : Grows (g.K.Sink.written l.fn.sink) (g.K.Sink.written l.sink);
  none : g.K.Sink.faults l.sink ≡ g.K.Sink.faults l.fn.sink;
}
