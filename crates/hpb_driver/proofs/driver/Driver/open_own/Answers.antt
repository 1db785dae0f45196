use Rattle.hpb_driver.proofs.Opened.{driver_cached, lent_shapes}
use Rattle.hpb_driver.proofs.driver.Driver.open_own.Goals as goal

pub invariant_of-self : goal.invariant_of-self
invariant_of-self c =
    driver_cached _ _ _ _ c.self.invariant
    (lent_shapes _ c.take_evicted.new.caches _ c.self.inside.caches.items c.take_evicted.ensures.shapes c.deref_mut.ensures.value c.self.inside.caches.ok.0)
