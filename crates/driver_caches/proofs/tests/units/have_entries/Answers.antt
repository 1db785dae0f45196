use Rattle.driver_caches.proofs.Shaped.{two_have_entries, two_loads}
use Rattle.driver_caches.proofs.tests.units.have_entries.Goals as goal

pub returns-clause-whole : goal.returns-clause-whole
returns-clause-whole c = two_have_entries c.args.shape c.args.caches.now c.args.region c.args.bytes.now c.requires.same c.requires.whole

pub returns-clause-loads : goal.returns-clause-loads
returns-clause-loads c =
    two_loads c.args.good c.args.region c.args.bytes.now c.args.caches.now
    (two_have_entries c.args.shape c.args.caches.now c.args.region c.args.bytes.now c.requires.same c.requires.whole)
