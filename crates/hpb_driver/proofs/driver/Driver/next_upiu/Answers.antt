use Rattle.std.proofs.Common.{arith, ◌∙◌}
use Rattle.driver_commands.specs.Open.{sizes_in}
use Rattle.driver_commands.proofs.Ready.{next_ready}
use Rattle.hpb_driver.proofs.Fewer.{sent_fewer}
use Rattle.hpb_driver.proofs.Opened.{driver_sent}
use Rattle.hpb_driver.proofs.driver.Driver.next_upiu.Goals as goal

pub invariant_of-self : goal.invariant_of-self
invariant_of-self c =
    driver_sent _ _ _ _ _ c.self.invariant c.send_next.ensures.count c.send_next.ensures.room
    (next_ready _ (sizes_in c.limits_of.result) _ _ _ _ c.self.invariant.ready c.send_next.ensures.items)

pub returns-clause-fewer : goal.returns-clause-fewer
returns-clause-fewer c is =
    sent_fewer (sizes_in c.limits_of.result) c.args.self.now _ c.send_next.new.commands.items c.send_next.result _ _ (omega arith) (c.self.view_is ∙ c.add_own.ensures) c.send_next.ensures.items
    c.send_next.ensures.sent is
