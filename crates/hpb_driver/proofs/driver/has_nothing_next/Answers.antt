use Rattle.std.proofs.Common.{sym}
use Rattle.hpb_driver.proofs.Nothing.{none_is_nothing, owing_is_next}
use Rattle.hpb_driver.proofs.driver.has_nothing_next.Goals as goal

pub returns-then-is_some : goal.returns-then-is_some
returns-then-is_some c = sym (owing_is_next c.args.commands.now c.first_owing.result c.first_owing.ensures (sym c.if-is_some.ensures))

pub returns : goal.returns
returns c =
    none_is_nothing c.args.commands.now c.first_owing.result c.first_waiting.result c.is_none.result c.first_owing.ensures (sym c.if-is_some.ensures) c.first_waiting.ensures
    c.is_none.ensures
