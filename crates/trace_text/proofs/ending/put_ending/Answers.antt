use Rattle.std.proofs.Common.{◌≡◌, List, ◌++◌, ℕ, ap, ◌∙◌}
use Rattle.trace_text.specs.Written.{ending_text}
use Rattle.trace_text.proofs.Overwriting.{Puts-then, Puts-line}
use Rattle.trace_text.proofs.ending.put_ending.Goals as goal

pub returns-clause-written : goal.returns-clause-written
returns-clause-written c =
    let empty = c.new-text.ensures in
    let text : c.as_slice.result.now ≡ ending_text c.args.ending =
    c.as_slice.ensures.value ∙ c.push_ending.ensures.text ∙ ap (λ (t : List ℕ). t ++ ending_text c.args.ending) empty in
    let middle = rw text at c.put-end.ensures in
    Puts-line (Puts-then (Puts-then c.put_marked-front.ensures.written middle) c.put.ensures)
