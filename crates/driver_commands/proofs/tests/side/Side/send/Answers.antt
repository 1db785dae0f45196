use Rattle.std.proofs.Common.{arith}
use Rattle.driver_commands.specs.Open.{sizes_in}
use Rattle.driver_commands.proofs.Ready.{next_ready}
use Rattle.driver_commands.proofs.tests.side.Side.send.Goals as goal

pub invariant_of-self : goal.invariant_of-self
invariant_of-self c =
    let room = c.send_next.ensures.room in
    let before = c.self.invariant in
    let large = before.1 in (
      next_ready c.self.inside.shape (sizes_in c.limits_of.result) c.self.inside.commands.items c.send_next.new.commands.items c.self.inside.caches.items _ before.0 c.send_next.ensures.items,
      omega (arith, room, large),
    )
