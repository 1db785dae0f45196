use Rattle.std.proofs.Common.{◌≡◌, ◌-◌, arith, ap, refl, ◌∙◌}
use Rattle.made_drive.specs.declared.generator.Generator.{Generator}
use Rattle.made_drive.specs.Counts.{reads_in, writes_in}
use Rattle.made_drive.proofs.Lines.{line_counted, no_line_left}
use Rattle.made_drive.proofs.source.made_counts.Goals as goal

pub loop-line-preserved : goal.loop-line-preserved
loop-line-preserved c =
    let units = c.loop-line.invariant.units in
    let line = rw units at c.next_line-line.ensures.line in
    let number = rw units at (ap (λ (g : Generator). g.number) c.next_line-line.ensures.next) in
    let all = line_counted c.args.units c.loop-line.generator.number c.args.lines c.loop-line._line c.args.units c.next_line-line.new.self.number c.next_line-line.result (omega arith) line refl number in
    record {
      units = ap (λ (g : Generator). g.units) c.next_line-line.ensures.next ∙ units;
      reads = omega (arith, ap reads_in all, c.loop-line.invariant.reads);
      writes = omega (arith, ap writes_in all, c.loop-line.invariant.writes);
      fewer_reads = omega arith;
      fewer_writes = omega arith;
    }

pub returns-clause-reads : goal.returns-clause-reads
returns-clause-reads c =
    let all : c.args.lines - c.loop-line._line ≡ 0 = omega (arith, c.loop-line-test.false) in
    let none = ap reads_in (no_line_left c.args.units c.loop-line.generator.number (c.args.lines - c.loop-line._line) all) in
    omega (arith, none, c.loop-line.invariant.reads)

pub returns-clause-writes : goal.returns-clause-writes
returns-clause-writes c =
    let all : c.args.lines - c.loop-line._line ≡ 0 = omega (arith, c.loop-line-test.false) in
    let none = ap writes_in (no_line_left c.args.units c.loop-line.generator.number (c.args.lines - c.loop-line._line) all) in
    omega (arith, none, c.loop-line.invariant.writes)
