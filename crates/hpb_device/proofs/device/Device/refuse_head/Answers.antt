use Rattle.std.proofs.Common.{◌≡◌, ◌<◌, [], None, arith, rules, refl, sym, ap, subst, ◌∙◌}
use Rattle.flash_store.specs.declared.answers.Phase.TheVariants.{Foreign, Scanning}
use Rattle.flash_store.specs.Store.{IsStanding}
use Rattle.hpb_device.specs.Calls.{Refuses}
use Rattle.hpb_device.specs.Lists.{lists_unread}
use Rattle.hpb_device.specs.Left.{steps_left, wait_of}
use Rattle.hpb_device.specs.Limits.{limits_of}
use Rattle.hpb_device.specs.Task.{IsQueue}
use Rattle.hpb_device.specs.State.{DeviceState}
use Rattle.hpb_device.proofs.Leaving.{on_false}
use Rattle.hpb_device.proofs.Left.{unread_fewer, wait_most}
use Rattle.hpb_device.proofs.Stepping.{not_foreign, unready_of, well_of}
use Rattle.hpb_device.proofs.device.Device.refuse_head.Given.{Over}
use Rattle.hpb_device.proofs.device.Device.refuse_head.Goals.{After-end_unread}
use Rattle.hpb_device.proofs.device.Device.refuse_head.Goals as goal

-- the device before the step, and after it
abbrev before : (g : Over) → After-end_unread g → DeviceState
before g c = let s = c.self.inside in record { store = s.store; shape = s.shape; regions = s.regions.items; lists = s.lists; tasks = s.tasks.items; held = s.held.items; counts = s.counts }

abbrev after : (g : Over) → After-end_unread g → DeviceState
after g c = record (before g c) { lists = c.unread_list.new.lists; tasks = c.end_unread.new.tasks.items; held = c.end_unread.new.held.items; counts = c.stepped-self-inside.result }

is_foreign : (g : Over) (c : After-end_unread g) → (before g c).store.phase ≡ Foreign
is_foreign g c = ap (λ (x : DeviceState). x.store.phase) c.self.view_is ∙ c.requires.foreign

pub returns-clause-refuses : goal.returns-clause-refuses
returns-clause-refuses g c =
    let d = before g c in
    let n = after g c in
    let stands : IsStanding d.store = subst (λ (x : DeviceState). IsStanding x.store) (sym c.self.view_is) c.requires.stands in
    let unready = unready_of d (well_of d c.self.inside.luns _ c.self.invariant stands) (not_foreign d.store.phase (is_foreign g c)) in
    let read = stands.scanned (λ is. absurd (apart (sym is ∙ is_foreign g c))) in
    let lent : c.deref.result.now ≡ d.tasks = search rules in
    let refuses : Refuses d n c.end_unread.result c.end_unread.new.out = record {
      lists = c.unread_list.ensures.lists ∙ ap (lists_unread d.lists) lent;
      foreign = stands.foreign (is_foreign g c);
      scanned = omega (arith, read);
      waiting = unready.waiting;
      store = refl;
      regions = refl;
      held = c.end_unread.ensures.held;
      counts = c.stepped-self-inside.ensures;
      ends = c.end_unread.ensures.ends;
    } in
    on_false c.end_unread.result.idle (subst (λ (x : DeviceState). Refuses x n c.end_unread.result c.end_unread.new.out) c.self.view_is refuses)
  where
    apart : Scanning ≡ Foreign → ⊥
    apart same = cc

pub returns-clause-fewer : goal.returns-clause-fewer
returns-clause-fewer g c =
    let d = before g c in
    let n = after g c in
    let some = c.self.invariant.served.limits.least_pages in
    let task_kept : d.tasks ≡ [] → ⊥ = search rules in
    let less = unread_fewer (limits_of d.shape) d.store.geometry.pages (wait_of d.store) None d.tasks n.tasks c.end_unread.result c.end_unread.new.out (wait_most d.store (omega (arith, some)))
    c.end_unread.ensures.ends task_kept in
    let fewer : steps_left n < steps_left d = omega (arith, less) in
    on_false c.end_unread.result.idle (subst (λ (x : DeviceState). steps_left n < steps_left x) c.self.view_is fewer)

pub unread_list-requires : goal.unread_list-requires
unread_list-requires g c =
    let s = c.self.inside in
    let lent : c.deref.result.now ≡ s.tasks.items = search rules in (
      s.luns,
      limits_of s.shape,
      s.held.items,
      subst (IsQueue s.luns (limits_of s.shape) s.held.items) (sym lent) c.self.invariant.queue,
      c.self.invariant.all_lists,
    )
