use Rattle.std.proofs.Common.{◌≡◌, ◌≤◌, ◌*◌, length, vec_capacity}
use Rattle.flat_unit.specs.Sizes.{Sizes}
use Rattle.drive_rules.specs.Lines.{pattern_bytes}
use Rattle.drive_run.proofs.pattern.pattern.Given as goal

abbrev pub invariant-loop-block : goal.invariant-loop-block
invariant-loop-block l = record {
  bytes : (s : Sizes) → s.block ≡ 4096 → l.bytes.items ≡ pattern_bytes s l.seed l.lba l.block;
  size : length l.bytes.items ≡ 4096 * l.block;
  room : 4096 * l.n ≤ vec_capacity l.bytes;
}
