use Rattle.driver_caches.specs.Machine.{load_ends}
use Rattle.driver_caches.proofs.Changing.{change_none, no_load}
use Rattle.driver_caches.proofs.effects.mark_ended.Goals as goal

pub returns-in_default-clause-after : goal.returns-in_default-clause-after
returns-in_default-clause-after c =
    change_none c.args.caches.now c.args.lun (load_ends c.args.good c.args.got.now c.args.command)
    (no_load c.args.good c.args.got.now c.args.command c.in_default.not-ReadBuffer)
