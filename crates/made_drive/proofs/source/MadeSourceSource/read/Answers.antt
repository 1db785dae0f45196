use Rattle.std.proofs.Common.{arith, drop, ◌∙◌, ap, sym, List, ℕ}
use Rattle.made_drive.specs.Generator.{made_lines}
use Rattle.made_drive.specs.Source.{text_left}
use Rattle.made_drive.specs.Text.{lines_text}
use Rattle.made_drive.proofs.Lines.{line_read, all_read}
use Rattle.made_drive.proofs.source.MadeSourceSource.read.Goals as goal

pub returns-clause-bytes : goal.returns-clause-bytes
returns-clause-bytes c =
    let inside = c.self.inside in
    let behind : List ℕ = lines_text (made_lines inside.generator.units inside.generator.number inside.lines) in
    let text : List ℕ = inside.text.items in
    let first = line_read text c.copy_from_slice.new.self (drop c.min-count.result c.args.buf.now) behind inside.place c.min-count.result (omega arith) (grind arith) in
    let last = rw (← c.self.view_is) at c.begin_line.ensures.last in (
      sym c.begin_line.ensures.same ∙ ap text_left (sym c.self.view_is) ∙ first,
      λ none room. all_read text behind inside.place c.min-count.result none (omega arith) last,
    )
