use Rattle.std.proofs.Common.{◌≡◌, map, take, drop, ◌++◌}
use Rattle.region_state.specs.Machine.{after_reset}
use Rattle.hpb_device.proofs.regions.reset_all.Given as goal

abbrev pub invariant-loop-regions : goal.invariant-loop-regions
invariant-loop-regions l = l.regions-items ≡ map after_reset (take l.regions-index l.initial.regions-items) ++ drop l.regions-index l.initial.regions-items
