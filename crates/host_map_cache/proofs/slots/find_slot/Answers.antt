use Rattle.std.proofs.Common.{rules, tests, nat_eq}
use Rattle.std.proofs.lemmas.Iterator.{YieldsList-from_take}
use Rattle.std.proofs.lemmas.Iterator.Consumers.{YieldsList-at, YieldsList-from_rest}
use Rattle.std.proofs.lemmas.Iterator.Search.{find_from_yields_List}
use Rattle.host_map_cache.proofs.slots.find_slot.Goals as goal

pub returns-clause-found : goal.returns-clause-found
returns-clause-found c = find_from_yields_List (λ e. nat_eq c.args.region e.1.region) _ _ _ c.find.ensures.ran
    (YieldsList-from_take c.args.used (YieldsList-at c.take.ensures.source (YieldsList-from_rest c.args.slots.now.entries c.iter.ensures.rest)) c.take.ensures.count)
    (λ x b q k. search (rules, tests))
