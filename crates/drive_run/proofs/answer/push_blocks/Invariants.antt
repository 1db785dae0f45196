use Rattle.std.proofs.Common.{◌≡◌}
use Rattle.drive_rules.specs.Text.{blocks_text}
use Rattle.run_output.specs.Writes.{Grows}
use Rattle.drive_run.proofs.Answering.{Added}
use Rattle.drive_run.proofs.answer.push_blocks.Given as goal

abbrev pub invariant-loop-block : goal.invariant-loop-block
invariant-loop-block g l = record {
  added : Added (blocks_text l.fn.lba l.fn.bytes l.block) (g.K.Sink.written l.fn.sink) (g.K.Sink.written l.sink) l.fn.output l.output;
  grows : Grows (g.K.Sink.written l.fn.sink) (g.K.Sink.written l.sink);
  none : g.K.Sink.faults l.sink ≡ g.K.Sink.faults l.fn.sink;
}
