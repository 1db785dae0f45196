use Rattle.std.proofs.Common.{arith, refl}
use Rattle.hpb_driver.proofs.Empty.{driver_begun}
use Rattle.hpb_driver.proofs.driver.Driver.with_memory.Goals as goal

pub invariant_of-result : goal.invariant_of-result
invariant_of-result c =
    let commands = c.in_ok-commands.ensures.capacity in
    let list = c.in_ok-list.ensures.capacity in
    driver_begun _ c.args.count _ _ c.requires.can c.requires.few c.in_ok-commands.ensures.items c.in_ok-caches.ensures refl (omega (arith, commands)) (omega (arith, list))
