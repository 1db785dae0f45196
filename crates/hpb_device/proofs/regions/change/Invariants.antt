use Rattle.std.proofs.Common.{◌≡◌, ◌+◌, ◌-◌, fold}
use Rattle.std.specs.List.{range_with_len}
use Rattle.region_state.specs.Machine.{after_change}
use Rattle.hpb_device.proofs.regions.change.Given as goal

abbrev pub invariant-loop-block : goal.invariant-loop-block
invariant-loop-block l =
    (fold after_change l.regions (range_with_len l.block (l.lba + l.n - l.block)) ≡ fold after_change l.initial.regions (range_with_len l.initial.lba l.n))
    × (l.regions.shape ≡ l.initial.regions.shape)
