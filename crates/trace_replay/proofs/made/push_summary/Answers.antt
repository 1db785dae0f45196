use Rattle.std.proofs.Common.{◌∙◌, ◌++◌, ℕ, List, ap, codes, decimal}
use Rattle.trace_replay.specs.Making.{summary_line}
use Rattle.trace_replay.proofs.made.push_summary.Goals as goal

pub returns-clause-text : goal.returns-clause-text
unfolding summary_line
returns-clause-text c =
    let one = c.push_number.ensures.text ∙ ap (λ (o : List ℕ). o ++ codes "G lines=2000 reads=" ++ decimal c.args.reads) c.requires in
    let two = c.push_number-2.ensures.text ∙ ap (λ (o : List ℕ). o ++ codes " writes=" ++ decimal c.args.writes) one in
    let three = c.push_number-3.ensures.text ∙ ap (λ (o : List ℕ). o ++ codes " good=" ++ decimal c.args.good) two in
    let four = c.push_number-4.ensures.text ∙ ap (λ (o : List ℕ). o ++ codes " cut=" ++ decimal c.args.cut) three in
    c.push_text.ensures ∙ ap (λ (o : List ℕ). o ++ codes "\n") four
