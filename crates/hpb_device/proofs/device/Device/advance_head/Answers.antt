use Rattle.std.proofs.Common.{Option, length, ◌≤◌, ◌≡◌, ◌*◌, ℕ, ◌<◌, List, ◌∷◌, drop, arith, sym, ap, subst, ◌∙◌, rules}
use Rattle.flash_pages.specs.declared.chip.Geometry.{Geometry}
use Rattle.flash_store.specs.declared.answers.Phase.TheVariants.{Scanning, Ready}
use Rattle.flash_store.specs.Store.{IsSame, IsStanding}
use Rattle.hpb_cdb.specs.declared.limits.Limits.{Limits}
use Rattle.hpb_device.specs.declared.task.Task.{Task}
use Rattle.hpb_device.specs.Advance.{Advances, AllTasks, ServesEntry, WhereOver}
use Rattle.hpb_device.specs.Counts.{counted}
use Rattle.hpb_device.specs.Calls.{Leaves}
use Rattle.hpb_device.specs.Regions.{regions_after, segment_told}
use Rattle.hpb_device.specs.Left.{steps_left, steps_of, tasks_left, unscanned, wait_of}
use Rattle.hpb_device.specs.Limits.{limits_of}
use Rattle.hpb_device.specs.State.{DeviceState, IsSound}
use Rattle.hpb_device.specs.StoreCounts.{CountsStep}
use Rattle.hpb_device.specs.Task.{IsQueue, IsTaskOk, bytes_taken, next_entry}
use Rattle.hpb_device.proofs.Chips.{whole_after}
use Rattle.hpb_device.proofs.Commands.{first_of}
use Rattle.hpb_device.specs.Lists.{lists_stepped}
use Rattle.hpb_device.proofs.Leaving.{over_short, stepped_same}
use Rattle.hpb_device.proofs.Hinting.{progress_within}
use Rattle.hpb_device.proofs.Leaving.{leaves_queue, on_false, still_advances}
use Rattle.hpb_device.proofs.Left.{leaves_fewer, wait_most}
use Rattle.hpb_device.proofs.device.Device.advance_head.Given.{Over}
use Rattle.hpb_device.proofs.device.Device.advance_head.Goals.{After-leave}
use Rattle.hpb_device.proofs.device.Device.advance_head.Goals as goal

-- the device before the step, and after it
abbrev before : (g : Over) → After-leave g → DeviceState
before g c = let s = c.self.inside in record { store = s.store; shape = s.shape; regions = s.regions.items; lists = s.lists; tasks = s.tasks.items; held = s.held.items; counts = s.counts }

abbrev after : (g : Over) → After-leave g → DeviceState
after g c = record {
  store = c.advance-progress.new.store;
  shape = c.self.inside.shape;
  regions = c.take_progress-hint.new.machines.items;
  lists = c.step_list.new.lists;
  tasks = c.leave.new.tasks.items;
  held = c.leave.new.held.items;
  counts = c.after-counts.result;
}

abbrev others : (g : Over) → After-leave g → List Task
others g c = drop 1 c.self.inside.tasks.items

was : (g : Over) (c : After-leave g) → (before g c).tasks ≡ c.in-Some.task ∷ others g c
was g c = first_of c.self.inside.tasks.items c.in-Some.task (search rules)

standing : (g : Over) (c : After-leave g) → IsStanding (before g c).store
standing g c = subst (λ (x : DeviceState). IsStanding x.store) (sym c.self.view_is) c.requires.stands

is_ready : (g : Over) (c : After-leave g) → (before g c).store.phase ≡ Ready
is_ready g c = ap (λ (x : DeviceState). x.store.phase) c.self.view_is ∙ c.requires.ready

-- what the step came to
told : (g : Over) (c : After-leave g) → let d = before g c in let p = c.advance-progress in Advances (limits_of d.shape) d.store p.new.store d.held p.new.held.items c.in-Some.task p.result p.new.out
told g c =
    let d = before g c in
    let p = c.advance-progress in
    subst (λ (lim : Limits). Advances lim d.store p.new.store d.held p.new.held.items c.in-Some.task p.result p.new.out) c.limits_of-limits.ensures p.ensures.advances

advances : (g : Over) (c : After-leave g)
    → let d = before g c in Advances (limits_of d.shape) d.store (after g c).store d.held (after g c).held c.in-Some.task c.advance-progress.result c.leave.new.out
advances g c =
    let d = before g c in
    let p = c.advance-progress in
    still_advances (limits_of d.shape) d.store p.new.store d.held p.new.held.items c.leave.new.held.items c.in-Some.task p.result _ _ c.leave.ensures.stays (told g c)

task_ok : (g : Over) (c : After-leave g) → let d = before g c in IsTaskOk d.store.luns (limits_of d.shape) c.in-Some.task
task_ok g c =
    let d = before g c in
    let queue : IsQueue d.store.luns (limits_of d.shape) d.held d.tasks = search rules in
    (subst (IsQueue d.store.luns (limits_of d.shape) d.held) (was g c) queue).0

pub invariant_of-self : goal.invariant_of-self
invariant_of-self g c =
    let s = c.self.inside in
    let d = before g c in
    let lim = limits_of s.shape in
    let task = c.in-Some.task in
    let p = c.advance-progress in
    let queue = subst (IsQueue s.luns lim s.held.items) (was g c) c.self.invariant.queue in
    let same = p.ensures.same in
    let ok : AllTasks (IsTaskOk s.luns lim) p.result =
    subst (λ (luns : ℕ). AllTasks (IsTaskOk luns lim) p.result) c.self.invariant.luns_served
    (subst (λ (l : Limits). AllTasks (IsTaskOk s.store.luns l) p.result) c.limits_of-limits.ensures p.ensures.ok) in
    let whole = whole_after lim d.store p.new.store d.held p.new.held.items task p.result p.new.out (task_ok g c) (sym c.self.invariant.units_served) ((standing g c).ready (is_ready g c))
    (told g c) in
    record {
      limits = c.self.invariant.limits;
      luns_served = same.luns ∙ c.self.invariant.luns_served;
      units_served = same.units ∙ c.self.invariant.units_served;
      served = rw (same.geometry) (c.self.invariant.served);
      whole = whole.count ∙ (c.self.invariant.whole ∙ ap (λ (geometry : Geometry). geometry.blocks * geometry.pages) (sym same.geometry));
      shapes = c.take_progress-hint.ensures.shapes ∙ c.self.invariant.shapes;
      all_lists = c.step_list.ensures.count ∙ c.self.invariant.all_lists;
      queue = leaves_queue _ s.luns lim p.result _ c.leave.new.tasks.items p.new.held.items c.leave.new.held.items c.leave.result _ _ c.leave.ensures.leaves c.leave.ensures.stays ok p.ensures.held
          queue.2;
      burst = omega (arith, c.self.invariant.burst, c.leave.ensures.room, p.ensures.room);
      unbegun = λ other. absurd (other (same.phase ∙ is_ready g c));
    }

pub returns-clause-fewer : goal.returns-clause-fewer
returns-clause-fewer g c =
    let d = before g c in
    let n = after g c in
    let lim = limits_of d.shape in
    let task = c.in-Some.task in
    let p = c.advance-progress in
    let same : IsSame d.store n.store = p.ensures.same in
    let pages = d.store.geometry.pages in
    let now = wait_of n.store in
    let same_pages : n.store.geometry.pages ≡ pages = ap (λ (geometry : Geometry). geometry.pages) same.geometry in
    let blocks : n.store.geometry.blocks * n.store.geometry.pages ≡ d.store.geometry.blocks * pages = ap (λ (geometry : Geometry). geometry.blocks * geometry.pages) same.geometry in
    let some = c.self.invariant.served.limits.least_pages in
    let few = wait_most n.store (omega (arith, some, same_pages)) in
    let less : AllTasks (λ rest. steps_of lim pages now rest < steps_of lim pages (wait_of d.store) task) p.result =
    subst (λ (l : Limits). AllTasks (λ rest. steps_of l pages now rest < steps_of l pages (wait_of d.store) task) p.result) c.limits_of-limits.ensures p.ensures.fewer in
    let fewer = leaves_fewer _ lim pages (wait_of d.store) now task p.result (others g c) n.tasks n.held c.leave.result c.leave.new.out (omega (arith, few, same_pages)) c.leave.ensures.leaves less in
    let now_left : tasks_left lim n.store.geometry.pages now n.tasks ≡ tasks_left lim pages now n.tasks = ap (λ (k : ℕ). tasks_left lim k now n.tasks) same_pages in
    let was_left : tasks_left lim pages (wait_of d.store) d.tasks ≡ tasks_left lim pages (wait_of d.store) (task ∷ others g c) = ap (tasks_left lim pages (wait_of d.store)) (was g c) in
    let fewer_left : steps_left n < steps_left d = omega (arith, fewer, now_left, was_left, blocks, same.scanned) in
    on_false c.leave.result.idle (subst (λ (x : DeviceState). steps_left n < steps_left x) c.self.view_is fewer_left)

held_lent : (g : Over) (c : After-leave g) → c.deref-2.result.now ≡ c.advance-progress.new.held.items
held_lent g c = search rules

pub returns-clause-goes : goal.returns-clause-goes
returns-clause-goes g c =
    let task = c.in-Some.task in
    let p = c.advance-progress in
    let d = before g c in
    let goes : task.come ≡ task.asked = search rules in
    let stands = standing g c in
    let read = stands.scanned (λ is. absurd (apart (sym is ∙ is_ready g c))) in
    let none : unscanned d ≡ 0 = omega (arith, read) in
    on_false c.leave.result.idle (record {
      task = task;
      others = others g c;
      progress = p.result;
      was = ap (λ (x : DeviceState). x.tasks) (sym c.self.view_is) ∙ was g c;
      ok = subst (λ (x : DeviceState). IsTaskOk x.store.luns (limits_of x.shape) task) c.self.view_is (task_ok g c);
      goes = goes;
      scanned = subst (λ (x : DeviceState). unscanned x ≡ 0) c.self.view_is none;
      sound = subst IsSound c.self.view_is (stands.ready (is_ready g c)).sound;
      advances = subst (λ (x : DeviceState). Advances (limits_of x.shape) x.store p.new.store x.held c.leave.new.held.items task p.result c.leave.new.out) c.self.view_is (advances g c);
      leaves = subst (λ (x : DeviceState). Leaves p.result (segment_told x.shape x.regions task p.result) (others g c) c.leave.new.tasks.items c.leave.new.held.items c.leave.result c.leave.new.out)
          c.self.view_is
          (subst (λ (b : List ℕ). Leaves p.result b (others g c) c.leave.new.tasks.items c.leave.new.held.items c.leave.result c.leave.new.out) (c.take_progress-hint.ensures.segment d.shape)
          c.leave.ensures.leaves);
      regions = subst (λ (x : DeviceState). c.take_progress-hint.new.machines.items ≡ regions_after x.shape x.regions task p.result) c.self.view_is (c.take_progress-hint.ensures.regions d.shape);
      same = subst (λ (x : DeviceState). IsSame x.store p.new.store) c.self.view_is p.ensures.same;
      counts = c.after-counts.ensures ∙ ap (λ (x : DeviceState). counted x.counts p.result) c.self.view_is;
      lists = subst (λ (x : DeviceState). c.step_list.new.lists ≡ lists_stepped x.lists task x.held p.result) c.self.view_is
          (c.step_list.ensures.lists ∙ (ap (λ (h : List ℕ). lists_stepped d.lists task h p.result) (held_lent g c) ∙ stepped_same d.lists task d.held p.new.held.items p.result p.ensures.over));
      entries = subst (λ (x : DeviceState). ServesEntry (next_entry x.lists task) x.store task p.result) c.self.view_is
          (subst (λ (o : Option ℕ). ServesEntry o d.store task p.result) c.next_entry-entry.ensures p.ensures.entries);
      calls = subst (λ (x : DeviceState). CountsStep x.store p.new.store (next_entry x.lists task) task p.result) c.self.view_is
          (subst (λ (o : Option ℕ). CountsStep d.store p.new.store o task p.result) c.next_entry-entry.ensures p.ensures.calls);
    })
  where
    apart : Scanning ≡ Ready → ⊥
    apart same = cc

pub take_progress-hint-requires : goal.take_progress-hint-requires
take_progress-hint-requires g c =
    let s = c.self.inside in
    let lim = limits_of s.shape in
    let task = c.in-Some.task in
    let p = c.advance-progress in
    let first : s.tasks.items ≡ task ∷ drop 1 s.tasks.items = first_of s.tasks.items task (search rules) in
    let ok = (subst (IsQueue s.luns lim s.held.items) first c.self.invariant.queue).0 in
    let advances = subst (λ (l : Limits). Advances l s.store p.new.store s.held.items p.new.held.items task p.result p.new.out) c.limits_of-limits.ensures p.ensures.advances in (
      s.shape,
      s.luns,
      record { limits = c.self.invariant.limits; shapes = c.self.invariant.shapes },
      record { lun = ok.accepted.lun; served = ok.accepted.served },
      progress_within s.shape s.luns lim s.store p.new.store s.held.items p.new.held.items task p.result p.new.out c.self.invariant.luns_served c.self.invariant.units_served advances,
    )

pub next_entry-entry-requires : goal.next_entry-entry-requires
next_entry-entry-requires g c =
    let s = c.self.inside in
    let task = c.in-Some.task in
    let first : s.tasks.items ≡ task ∷ drop 1 s.tasks.items = first_of s.tasks.items task (search rules) in
    (s.luns, limits_of s.shape, (subst (IsQueue s.luns (limits_of s.shape) s.held.items) first c.self.invariant.queue).0, c.self.invariant.all_lists)

pub step_list-requires-clause-task : goal.step_list-requires-clause-task
step_list-requires-clause-task g c =
    let s = c.self.inside in
    let task = c.in-Some.task in
    let first : s.tasks.items ≡ task ∷ drop 1 s.tasks.items = first_of s.tasks.items task (search rules) in
    (s.luns, limits_of s.shape, (subst (IsQueue s.luns (limits_of s.shape) s.held.items) first c.self.invariant.queue).0, c.self.invariant.all_lists)

pub step_list-requires-clause-few : goal.step_list-requires-clause-few
step_list-requires-clause-few g c =
    let s = c.self.inside in
    let task = c.in-Some.task in
    let p = c.advance-progress in
    let first : s.tasks.items ≡ task ∷ drop 1 s.tasks.items = first_of s.tasks.items task (search rules) in
    let queue = subst (IsQueue s.luns (limits_of s.shape) s.held.items) first c.self.invariant.queue in
    let lent : c.deref-2.result.now ≡ p.new.held.items = search rules in
    subst (λ (h : List ℕ). WhereOver p.result (length h ≤ bytes_taken task.command)) (sym lent)
    (over_short s.luns (limits_of s.shape) s.held.items p.new.held.items task p.result queue.0 queue.1 p.ensures.over)
