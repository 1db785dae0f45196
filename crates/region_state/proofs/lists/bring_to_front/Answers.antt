use Rattle.std.proofs.Common.{rules, arith, ◌<◌, length, true, ◌≡◌}
use Rattle.region_state.specs.Lists.{has}
use Rattle.region_state.proofs.ListLemmas.{length-without}
use Rattle.region_state.proofs.lists.bring_to_front.Goals as goal

pub unwrap-requires : goal.unwrap-requires
unwrap-requires c =
    let found : has c.args.region c.args.list.now.items ≡ true = search rules in
    let room : length c.remove.new.list.items < length c.args.list.now.items =
    rw c.remove.ensures.items (length-without c.args.region c.args.list.now.items found) in
    c.insert.ensures.succeeds (omega arith)

pub returns-then-contains-clause-len : goal.returns-then-contains-clause-len
returns-then-contains-clause-len c =
    let found : has c.args.region c.args.list.now.items ≡ true = search rules in
    let shorter : length c.remove.new.list.items < length c.args.list.now.items =
    rw c.remove.ensures.items (length-without c.args.region c.args.list.now.items found) in
    let inserted = rw c.unwrap.ensures at c.insert.ensures.len in
    omega (arith, inserted)
