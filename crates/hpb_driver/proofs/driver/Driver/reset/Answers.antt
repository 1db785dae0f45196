use Rattle.hpb_driver.proofs.Opened.{driver_dropped, lent_shapes}
use Rattle.hpb_driver.proofs.driver.Driver.reset.Goals as goal

pub invariant_of-self : goal.invariant_of-self
invariant_of-self c =
    driver_dropped _ _ _ _ _ _ _ c.self.invariant
    (lent_shapes _ c.lapse_all.new.caches _ c.self.inside.caches.items c.lapse_all.ensures.shapes c.deref_mut.ensures.value c.self.inside.caches.ok.0)
    c.drop_commands.ensures.none c.drop_commands.ensures.room c.drop_commands.ensures.list
