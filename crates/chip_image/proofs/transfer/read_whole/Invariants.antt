use Rattle.std.proofs.Common.{◌≡◌, ◌≤◌, ◌-◌, length, take}
use Rattle.std.specs.Io.KnownBytes.{Consumes}
use Rattle.chip_image.proofs.transfer.read_whole.Given as goal

abbrev pub invariant-loop-filled : goal.invariant-loop-filled
invariant-loop-filled g l = record {
  taken : Consumes (g.S.Source.left l.fn.source) (g.S.Source.left l.source) (take l.filled l.buf);
  few : l.filled ≤ length l.buf;
  len : length l.buf ≡ length l.fn.buf;
  none : g.S.Source.faults l.source ≡ g.S.Source.faults l.fn.source;
}

abbrev pub decreases-loop-filled : goal.decreases-loop-filled
decreases-loop-filled g l = length l.buf - l.filled
