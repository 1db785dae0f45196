use Rattle.trace_text.proofs.Joins.{joined-five}
use Rattle.trace_text.proofs.show.push_hpb_read.Goals as goal

pub returns-clause-text : goal.returns-clause-text
returns-clause-text c =
    let first = rw c.from.ensures at c.push_named.ensures.text in
    let fourth = rw c.from-2.ensures at c.push_named-2.ensures.text in
    let fifth = rw c.from-3.ensures at c.push_named-3.ensures.text in
    joined-five _ _ _ _ _ _ _ _ _ _ _ first c.push.ensures c.push_entry.ensures.text fourth fifth
