use Rattle.std.proofs.Common.{arith, ap}
use Rattle.made_drive.specs.declared.generator.Generator.{Generator}
use Rattle.made_drive.proofs.Lines.{line_begun, none_left, no_lines}
use Rattle.made_drive.proofs.source.MadeSource.begin_line.Goals as goal
use Rattle.made_drive.proofs.source.MadeSource.begin_line.Goals.{then-self-len-via-then-self-len, then-self-len-via-else-self-len+then-self-eq0}

pub returns-then-self-len-clause-last : goal.returns-then-self-len-clause-last
returns-then-self-len-clause-last c =
    rw (← c.self.view_is) (λ none. elim c.then-self-len.branch [
      | then-self-len-via-then-self-len w ↦ absurd (none_left c.self.inside.place c.self.inside.text.items (omega arith) none)
      | then-self-len-via-else-self-len+then-self-eq0 w ↦ no_lines c.self.inside.generator.units c.self.inside.generator.number c.self.inside.lines w.if-self-eq0.true
    ])

pub returns-clause-same : goal.returns-clause-same
returns-clause-same c =
    rw (← c.self.view_is) (line_begun c.self.inside.generator.units c.self.inside.generator.number c.self.inside.lines c.self.inside.place c.next_line.new.self.units c.next_line.new.self.number
    c.self.inside.text.items c.text_of-self-inside.result.items c.next_line.result (omega arith) c.if-self-eq0.false c.next_line.ensures.line (ap (λ (g : Generator). g.units) c.next_line.ensures.next) (ap (λ (g : Generator). g.number) c.next_line.ensures.next) c.text_of-self-inside.ensures)
