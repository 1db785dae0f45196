use Rattle.std.proofs.Common.{◌≡◌, refl, arith, rules, subst, sym}
use Rattle.hpb_device.specs.Limits.{limits_of}
use Rattle.hpb_device.specs.Calls.{LeavesFewer}
use Rattle.hpb_device.specs.Task.{IsQueue}
use Rattle.hpb_device.specs.State.{DeviceState}
use Rattle.hpb_device.proofs.Left.{misses_fewer}
use Rattle.hpb_device.proofs.device.Device.scan.Goals as goal

pub returns-in-Err-clause-fewer : goal.returns-in-Err-clause-fewer
returns-in-Err-clause-fewer g c =
    let s = c.self.inside in
    let d : DeviceState = record { store = s.store; shape = s.shape; regions = s.regions.items; lists = s.lists; tasks = s.tasks.items; held = s.held.items; counts = s.counts } in
    let n : DeviceState = record {
      store = c.scan_step.new.self;
      shape = s.shape;
      regions = s.regions.items;
      lists = c.unread_list.new.lists;
      tasks = c.end_unread.new.tasks.items;
      held = c.end_unread.new.held.items;
      counts = c.stepped-self-inside.result;
    } in
    let some = c.self.invariant.served.limits.least_pages in
    let same = c.in-Err.ensures.same in
    subst (λ (x : DeviceState). LeavesFewer x n c.end_unread.result) c.self.view_is
    (misses_fewer d n c.end_unread.result c.end_unread.new.out (omega (arith, some)) same.0 refl c.in-Err.ensures.kept c.in-Err.ensures.err.1 c.end_unread.ensures.ends)

pub unread_list-requires : goal.unread_list-requires
unread_list-requires g c =
    let s = c.self.inside in
    let lent : c.deref.result.now ≡ s.tasks.items = search rules in (
      s.luns,
      limits_of s.shape,
      s.held.items,
      subst (IsQueue s.luns (limits_of s.shape) s.held.items) (sym lent) c.self.invariant.queue,
      c.self.invariant.all_lists,
    )
