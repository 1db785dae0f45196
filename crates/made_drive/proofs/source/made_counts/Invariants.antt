use Rattle.std.proofs.Common.{◌≡◌, ◌+◌, ◌-◌, ◌≤◌}
use Rattle.made_drive.specs.Counts.{reads_in, writes_in}
use Rattle.made_drive.specs.Generator.{made_lines}
use Rattle.made_drive.proofs.source.made_counts.Given as goal

abbrev pub invariant-loop-line : goal.invariant-loop-line
invariant-loop-line l = record {
  units : l.generator.units ≡ l.units;
  reads : l.reads + reads_in (made_lines l.units l.generator.number (l.lines - l._line)) ≡ reads_in (made_lines l.units l.seed l.lines);
  writes : l.writes + writes_in (made_lines l.units l.generator.number (l.lines - l._line)) ≡ writes_in (made_lines l.units l.seed l.lines);
  fewer_reads : l.reads ≤ l._line;
  fewer_writes : l.writes ≤ l._line;
}
