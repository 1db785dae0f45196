use Rattle.std.proofs.Common.{◌≡◌, List, ℕ, Option}
use Rattle.flat_unit.specs.Print.{print}
use Rattle.flat_unit.specs.Replays.{Progress}
use Rattle.hpb_device.specs.State.{DeviceState}
use Rattle.replay_standing.specs.Standing.{Standing}
use Rattle.hpb_outside.specs.Writes.{HasWrittenUpTo}
use Rattle.run_output.specs.Writes.{Grows}
use Rattle.trace_replay.proofs.Collecting.{Called}
use Rattle.trace_replay.proofs.replay.collect.Given as goal

abbrev pub invariant-loop-call : goal.invariant-loop-call
invariant-loop-call g l = record {
  calls : (start : DeviceState) (before : Option (List ℕ)) (p : Progress) → Standing start l.fn.device p → HasWrittenUpTo before (g.K.Sink.written l.fn.sink) (print p.events) l.fn.output
      → Called start l.device before (g.K.Sink.written l.sink) l.output p l._call;
  grows : Grows (g.K.Sink.written l.fn.sink) (g.K.Sink.written l.sink);
  none : g.K.Sink.faults l.sink ≡ g.K.Sink.faults l.fn.sink;
}
