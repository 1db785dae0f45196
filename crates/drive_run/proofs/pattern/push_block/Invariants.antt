use Rattle.std.proofs.Common.{◌≡◌, ◌++◌, map, vec_capacity}
use Rattle.std.specs.List.{range_with_len}
use Rattle.drive_rules.specs.Lines.{pattern}
use Rattle.drive_run.proofs.pattern.push_block.Given as goal

abbrev pub invariant-loop-place : goal.invariant-loop-place
invariant-loop-place l = record {
  bytes : l.bytes.items ≡ l.fn.bytes.items ++ map (pattern l.fn.seed l.fn.lba) (range_with_len 0 l.place);
  capacity : vec_capacity l.bytes ≡ vec_capacity l.fn.bytes;
}
