use Rattle.std.proofs.Common.{◌≤◌, arith, subst}
use Rattle.hpb_device.specs.State.{DeviceState}
use Rattle.hpb_device.proofs.Left.{few_left}
use Rattle.hpb_device.proofs.device.Device.waits.Goals as goal

pub returns-then-waits_for_data-clause-few : goal.returns-then-waits_for_data-clause-few
returns-then-waits_for_data-clause-few g c = λ first e at.
    let some : 1 ≤ c.self.inside.store.geometry.pages = let least = c.self.invariant.served.limits.least_pages in omega (arith, least) in
    few_left c.args.self.now first e (subst (λ (x : DeviceState). 1 ≤ x.store.geometry.pages) c.self.view_is some) at

pub returns-else-waits_for_data-clause-few : goal.returns-else-waits_for_data-clause-few
returns-else-waits_for_data-clause-few g c = λ first e at.
    let some : 1 ≤ c.self.inside.store.geometry.pages = let least = c.self.invariant.served.limits.least_pages in omega (arith, least) in
    few_left c.args.self.now first e (subst (λ (x : DeviceState). 1 ≤ x.store.geometry.pages) c.self.view_is some) at
