use Rattle.std.proofs.Common.{◌≡◌}
use Rattle.drive_rules.specs.Lines.{Drive}
use Rattle.hpb_device.specs.State.{DeviceState}
use Rattle.hpb_driver.specs.State.{to_send}
use Rattle.hpb_link.specs.Stands.{AtDrive}
use Rattle.run_output.specs.Writes.{Grows}
use Rattle.drive_run.specs.Moments.{AddsNoSteps}
use Rattle.drive_run.proofs.Exchanging.{Exchanging}
use Rattle.drive_run.proofs.exchange.exchange.Given as goal

abbrev pub invariant-loop-desk : goal.invariant-loop-desk
invariant-loop-desk g l = record {
  sends : (start : DeviceState) (d : Drive) → AtDrive start l.fn.link d
      → Exchanging start l.fn.only l.link (g.K.Sink.written l.fn.sink) (g.K.Sink.written l.sink) l.fn.desk.output l.desk.output d;
  steps : AddsNoSteps l.fn.link l.link;
  grows : Grows (g.K.Sink.written l.fn.sink) (g.K.Sink.written l.sink);
  none : g.K.Sink.faults l.sink ≡ g.K.Sink.faults l.fn.sink;
}

abbrev pub decreases-loop-desk : goal.decreases-loop-desk
decreases-loop-desk g l = to_send l.link.driver
