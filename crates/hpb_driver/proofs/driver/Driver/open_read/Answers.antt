use Rattle.std.proofs.Common.{ap, arith, length}
use Rattle.driver_caches.specs.Machine.{Machine}
use Rattle.hpb_driver.proofs.Opened.{driver_opened, lent_shapes}
use Rattle.hpb_driver.proofs.driver.Driver.open_read.Goals as goal

pub invariant_of-self : goal.invariant_of-self
invariant_of-self c =
    driver_opened _ _ _ _ _ _ _ _ c.self.invariant (omega (arith, c.requires.free, ap (λ (m : Machine). length m.opens) c.self.view_is))
    (lent_shapes _ c.mark_read.new.caches _ c.self.inside.caches.items c.mark_read.ensures.shapes c.deref_mut.ensures.value c.self.inside.caches.ok.0)
    c.requires.no_load c.open_command.ensures.opened c.open_command.ensures.count c.open_command.ensures.room
    (c.self.invariant.some_id, c.self.invariant.last_id)
