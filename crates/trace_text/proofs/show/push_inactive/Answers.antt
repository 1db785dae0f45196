use Rattle.trace_text.proofs.show.push_inactive.Goals as goal

pub returns-clause-text : goal.returns-clause-text
returns-clause-text c = rw c.from.ensures at c.push_named.ensures.text
