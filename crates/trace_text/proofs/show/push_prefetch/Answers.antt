use Rattle.trace_text.proofs.Joins.{joined-three}
use Rattle.trace_text.proofs.show.push_prefetch.Goals as goal

pub returns-clause-text : goal.returns-clause-text
returns-clause-text c =
    let first = rw c.from.ensures at c.push_named.ensures.text in
    let second = rw c.from-2.ensures at c.push_named-2.ensures.text in
    let third = rw c.from-3.ensures at c.push_named-3.ensures.text in
    joined-three _ _ _ _ _ _ _ first second third
