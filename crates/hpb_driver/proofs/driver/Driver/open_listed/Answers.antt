use Rattle.std.proofs.Common.{ℕ, List, length, ap, ◌∙◌}
use Rattle.hpb_driver.proofs.Opened.{driver_listed, lent_shapes, list_length}
use Rattle.hpb_driver.proofs.driver.Driver.open_listed.Goals as goal

pub invariant_of-self : goal.invariant_of-self
invariant_of-self c =
    driver_listed _ _ _ _ c.self.invariant
    (lent_shapes _ c.mark_read.new.caches _ c.self.inside.caches.items c.mark_read.ensures.shapes c.deref_mut.ensures.value c.self.inside.caches.ok.0)

pub open_list-requires-clause-bytes : goal.open_list-requires-clause-bytes
open_list-requires-clause-bytes c = ap (λ (bytes : List ℕ). length bytes) c.in_ok-bytes.ensures ∙ list_length c.args.entries.now
