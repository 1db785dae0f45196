use Rattle.std.proofs.Common.{◌≡◌}
use Rattle.hpb_device.specs.Left.{steps_left}
use Rattle.hpb_device.specs.State.{DeviceState}
use Rattle.drive_rules.specs.Lines.{Drive}
use Rattle.hpb_link.specs.Stands.{AtDrive}
use Rattle.run_output.specs.Writes.{Grows}
use Rattle.drive_run.specs.Moments.{Stands}
use Rattle.drive_run.proofs.Drains.{Passing}
use Rattle.drive_run.proofs.drain.pass.Given as goal

abbrev pub invariant-loop-link : goal.invariant-loop-link
invariant-loop-link g l = record {
  passes : (start : DeviceState) (d : Drive) → AtDrive start l.fn.link d
      → Passing start l.fn.only l.link (g.K.Sink.written l.fn.sink) (g.K.Sink.written l.sink) l.fn.desk.output l.desk.output d;
  stands : Stands l.fn.link;
  grows : Grows (g.K.Sink.written l.fn.sink) (g.K.Sink.written l.sink);
  none : g.K.Sink.faults l.sink ≡ g.K.Sink.faults l.fn.sink;
}

abbrev pub decreases-loop-link : goal.decreases-loop-link
decreases-loop-link g l = steps_left l.link.device
