use Rattle.std.proofs.Common.{◌≡◌, ◌≤◌, replicate}
use Rattle.std.specs.Prelude.{vec_capacity}
use Rattle.region_state.specs.Machine.{start}
use Rattle.hpb_device.proofs.regions.new_regions.Given as goal

abbrev pub invariant-loop : goal.invariant-loop
invariant-loop l = (l.made.items ≡ replicate l.counter (start l.shape)) × (l.luns ≤ vec_capacity l.made)
