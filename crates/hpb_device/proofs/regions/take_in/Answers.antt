use Rattle.std.proofs.Common.{ℕ, ◌<◌, subst}
use Rattle.hpb_device.specs.Limits.{limits_of}
use Rattle.hpb_device.specs.Task.{IsServed}
use Rattle.hpb_device.proofs.Machines.{per_region_is}
use Rattle.hpb_device.proofs.regions.take_in.Goals as goal

pub loaded-requires : goal.loaded-requires
loaded-requires c =
    let shape = c.args.regions.now.shape in
    let served = subst (IsServed (limits_of shape)) c.in-ReadBuffer.is c.requires.served in
    record { inside = subst (λ (n : ℕ). c.in-ReadBuffer.sub < n) (per_region_is shape c.requires.limits) served.0; present = served.1 }
