use Rattle.std.proofs.Common.{◌≡◌, ◌*◌, [], arith, refl, sym, ap, subst, ◌∙◌}
use Rattle.flash_pages.specs.declared.chip.Geometry.{Geometry}
use Rattle.collector_laws.specs.Changes.{Changes}
use Rattle.flash_store.specs.declared.answers.Moved.{Moved}
use Rattle.flash_store.specs.declared.answers.Moved.TheVariants.{Idle, Read as ReadPage, Page as MovedPage, Erased as ErasedBlock}
use Rattle.flash_store.specs.declared.answers.Phase.TheVariants.{Ready}
use Rattle.flash_store.specs.Collecting.{as_collected}
use Rattle.flash_store.specs.Store.{IsCollected, IsStanding}
use Rattle.hpb_device.specs.Advance.{IsSameStore}
use Rattle.hpb_device.specs.Calls.{uncollected_in}
use Rattle.hpb_device.specs.Counted.{CountsStand}
use Rattle.hpb_device.specs.Entries.{EntriesStand}
use Rattle.hpb_device.specs.Left.{KeepsNoWrite, steps_left}
use Rattle.hpb_device.specs.Listed.{ListingStands}
use Rattle.hpb_device.specs.Standing.{DeviceStands, DeviceStandsForeign}
use Rattle.hpb_device.specs.State.{DeviceState}
use Rattle.hpb_device.proofs.Collecting.{IsCollecting, IsMoved, collect_left, collected_over, idle_leaves_none}
use Rattle.hpb_device.proofs.Collecting.{moved_entries, moved_listings, moved_of_collect, moved_stands, no_foreign}
use Rattle.hpb_device.proofs.Collecting.{unmoved_stands, whole_moved}
use Rattle.flat_unit.specs.declared.event.Event.TheVariants.{Failed as CallFailed}
use Rattle.flat_unit.specs.History.{◌▹◌}
use Rattle.hpb_device.specs.Regions.{HintsStand}
use Rattle.hpb_device.specs.Lists.{ListsStand}
use Rattle.hpb_device.proofs.Fetching.{collect_lists, unmoved_lists}
use Rattle.hpb_device.proofs.Hinting.{hints_along, hints_failed, hints_moved}
use Rattle.hpb_device.proofs.Machines.{count_of}
use Rattle.hpb_device.proofs.StepStands.{sizes_same}
use Rattle.hpb_device.proofs.CountingCalls.{collect_counts, unmoved_counts}
use Rattle.hpb_device.proofs.Unready.{sound_along}
use Rattle.hpb_device.proofs.device.Device.collect.Goals as goal

pub invariant_of-self-in-Ok-Erased : goal.invariant_of-self-in-Ok-Erased
invariant_of-self-in-Ok-Erased g c =
    let s = c.self.inside in
    let d : DeviceState = record { store = s.store; shape = s.shape; regions = s.regions.items; lists = s.lists; tasks = s.tasks.items; held = s.held.items; counts = s.counts } in
    let n : DeviceState = record {
      store = c.collect_step.new.self;
      shape = s.shape;
      regions = s.regions.items;
      lists = s.lists;
      tasks = s.tasks.items;
      held = s.held.items;
      counts = c.after_moved-self-inside-in-Ok-Erased.result;
    } in
    let ready : d.store.phase ≡ Ready = sym c.phase.ensures.phase ∙ c.in-Ready.is in
    let is : IsCollecting d n = record { ready = ready; standing = c.phase.ensures.stands; same = c.collect_step.ensures.same; shape = refl; lists = refl; tasks = refl; held = refl } in
    let at = c.self.invariant in
    let same = c.collect_step.ensures.same in
    let whole = whole_moved d n is (ErasedBlock c.in-Ok-Erased.block) (subst (λ (m : Moved). IsCollected d.store m n.store) c.in-Ok-Erased.field-0-is (c.in-Ok-Erased.ensures.moved ready)) in
    record {
      limits = at.limits;
      luns_served = same.luns ∙ at.luns_served;
      units_served = same.units ∙ at.units_served;
      served = rw (same.geometry) (at.served);
      whole = whole ∙ (at.whole ∙ ap (λ (geometry : Geometry). geometry.blocks * geometry.pages) (sym same.geometry));
      shapes = at.shapes;
      all_lists = at.all_lists;
      queue = at.queue;
      burst = at.burst;
      unbegun = λ other. absurd (other (same.phase ∙ ready));
    }

pub returns-in-Ok-Idle-clause-foreign : goal.returns-in-Ok-Idle-clause-foreign
returns-in-Ok-Idle-clause-foreign g c = λ chip first e at.
    let s = c.self.inside in
    let d : DeviceState = record { store = s.store; shape = s.shape; regions = s.regions.items; lists = s.lists; tasks = s.tasks.items; held = s.held.items; counts = s.counts } in
    let n : DeviceState = record { store = c.collect_step.new.self; shape = s.shape; regions = s.regions.items; lists = s.lists; tasks = s.tasks.items; held = s.held.items; counts = s.counts } in
    let ready : d.store.phase ≡ Ready = sym c.phase.ensures.phase ∙ c.in-Ready.is in
    let is : IsCollecting d n = record { ready = ready; standing = c.phase.ensures.stands; same = c.collect_step.ensures.same; shape = refl; lists = refl; tasks = refl; held = refl } in
    no_foreign d n is chip first e _ (subst (λ (x : DeviceState). DeviceStandsForeign x chip first e) (sym c.self.view_is) at)

pub returns-in-Ok-Idle-clause-left : goal.returns-in-Ok-Idle-clause-left
returns-in-Ok-Idle-clause-left g c = λ none.
    let s = c.self.inside in
    let d : DeviceState = record { store = s.store; shape = s.shape; regions = s.regions.items; lists = s.lists; tasks = s.tasks.items; held = s.held.items; counts = s.counts } in
    let n : DeviceState = record { store = c.collect_step.new.self; shape = s.shape; regions = s.regions.items; lists = s.lists; tasks = s.tasks.items; held = s.held.items; counts = s.counts } in
    let ready : d.store.phase ≡ Ready = sym c.phase.ensures.phase ∙ c.in-Ready.is in
    let is : IsCollecting d n = record { ready = ready; standing = c.phase.ensures.stands; same = c.collect_step.ensures.same; shape = refl; lists = refl; tasks = refl; held = refl } in
    subst (λ (x : DeviceState). steps_left n ≡ steps_left x) c.self.view_is (collect_left d n is (subst (λ (x : DeviceState). KeepsNoWrite x.tasks) (sym c.self.view_is) none))

pub returns-in-Ok-Read-clause-foreign : goal.returns-in-Ok-Read-clause-foreign
returns-in-Ok-Read-clause-foreign g c = λ chip first e at.
    let s = c.self.inside in
    let d : DeviceState = record { store = s.store; shape = s.shape; regions = s.regions.items; lists = s.lists; tasks = s.tasks.items; held = s.held.items; counts = s.counts } in
    let n : DeviceState = record { store = c.collect_step.new.self; shape = s.shape; regions = s.regions.items; lists = s.lists; tasks = s.tasks.items; held = s.held.items; counts = s.counts } in
    let ready : d.store.phase ≡ Ready = sym c.phase.ensures.phase ∙ c.in-Ready.is in
    let is : IsCollecting d n = record { ready = ready; standing = c.phase.ensures.stands; same = c.collect_step.ensures.same; shape = refl; lists = refl; tasks = refl; held = refl } in
    no_foreign d n is chip first e _ (subst (λ (x : DeviceState). DeviceStandsForeign x chip first e) (sym c.self.view_is) at)

pub returns-in-Ok-Read-clause-left : goal.returns-in-Ok-Read-clause-left
returns-in-Ok-Read-clause-left g c = λ none.
    let s = c.self.inside in
    let d : DeviceState = record { store = s.store; shape = s.shape; regions = s.regions.items; lists = s.lists; tasks = s.tasks.items; held = s.held.items; counts = s.counts } in
    let n : DeviceState = record { store = c.collect_step.new.self; shape = s.shape; regions = s.regions.items; lists = s.lists; tasks = s.tasks.items; held = s.held.items; counts = s.counts } in
    let ready : d.store.phase ≡ Ready = sym c.phase.ensures.phase ∙ c.in-Ready.is in
    let is : IsCollecting d n = record { ready = ready; standing = c.phase.ensures.stands; same = c.collect_step.ensures.same; shape = refl; lists = refl; tasks = refl; held = refl } in
    subst (λ (x : DeviceState). steps_left n ≡ steps_left x) c.self.view_is (collect_left d n is (subst (λ (x : DeviceState). KeepsNoWrite x.tasks) (sym c.self.view_is) none))

pub returns-in-Ok-Page-clause-foreign : goal.returns-in-Ok-Page-clause-foreign
returns-in-Ok-Page-clause-foreign g c = λ chip first e at.
    let s = c.self.inside in
    let d : DeviceState = record { store = s.store; shape = s.shape; regions = s.regions.items; lists = s.lists; tasks = s.tasks.items; held = s.held.items; counts = s.counts } in
    let n : DeviceState = record {
      store = c.collect_step.new.self;
      shape = s.shape;
      regions = c.take_moved.new.machines.items;
      lists = s.lists;
      tasks = s.tasks.items;
      held = s.held.items;
      counts = c.after_moved-self-inside.result;
    } in
    let ready : d.store.phase ≡ Ready = sym c.phase.ensures.phase ∙ c.in-Ready.is in
    let is : IsCollecting d n = record { ready = ready; standing = c.phase.ensures.stands; same = c.collect_step.ensures.same; shape = refl; lists = refl; tasks = refl; held = refl } in
    no_foreign d n is chip first e _ (subst (λ (x : DeviceState). DeviceStandsForeign x chip first e) (sym c.self.view_is) at)

pub returns-in-Ok-Page-clause-left : goal.returns-in-Ok-Page-clause-left
returns-in-Ok-Page-clause-left g c = λ none.
    let s = c.self.inside in
    let d : DeviceState = record { store = s.store; shape = s.shape; regions = s.regions.items; lists = s.lists; tasks = s.tasks.items; held = s.held.items; counts = s.counts } in
    let n : DeviceState = record {
      store = c.collect_step.new.self;
      shape = s.shape;
      regions = c.take_moved.new.machines.items;
      lists = s.lists;
      tasks = s.tasks.items;
      held = s.held.items;
      counts = c.after_moved-self-inside.result;
    } in
    let ready : d.store.phase ≡ Ready = sym c.phase.ensures.phase ∙ c.in-Ready.is in
    let is : IsCollecting d n = record { ready = ready; standing = c.phase.ensures.stands; same = c.collect_step.ensures.same; shape = refl; lists = refl; tasks = refl; held = refl } in
    subst (λ (x : DeviceState). steps_left n ≡ steps_left x) c.self.view_is (collect_left d n is (subst (λ (x : DeviceState). KeepsNoWrite x.tasks) (sym c.self.view_is) none))

pub returns-in-Ok-Erased-clause-foreign : goal.returns-in-Ok-Erased-clause-foreign
returns-in-Ok-Erased-clause-foreign g c = λ chip first e at.
    let s = c.self.inside in
    let d : DeviceState = record { store = s.store; shape = s.shape; regions = s.regions.items; lists = s.lists; tasks = s.tasks.items; held = s.held.items; counts = s.counts } in
    let n : DeviceState = record {
      store = c.collect_step.new.self;
      shape = s.shape;
      regions = s.regions.items;
      lists = s.lists;
      tasks = s.tasks.items;
      held = s.held.items;
      counts = c.after_moved-self-inside-in-Ok-Erased.result;
    } in
    let ready : d.store.phase ≡ Ready = sym c.phase.ensures.phase ∙ c.in-Ready.is in
    let is : IsCollecting d n = record { ready = ready; standing = c.phase.ensures.stands; same = c.collect_step.ensures.same; shape = refl; lists = refl; tasks = refl; held = refl } in
    no_foreign d n is chip first e _ (subst (λ (x : DeviceState). DeviceStandsForeign x chip first e) (sym c.self.view_is) at)

pub returns-in-Ok-Erased-clause-left : goal.returns-in-Ok-Erased-clause-left
returns-in-Ok-Erased-clause-left g c = λ none.
    let s = c.self.inside in
    let d : DeviceState = record { store = s.store; shape = s.shape; regions = s.regions.items; lists = s.lists; tasks = s.tasks.items; held = s.held.items; counts = s.counts } in
    let n : DeviceState = record {
      store = c.collect_step.new.self;
      shape = s.shape;
      regions = s.regions.items;
      lists = s.lists;
      tasks = s.tasks.items;
      held = s.held.items;
      counts = c.after_moved-self-inside-in-Ok-Erased.result;
    } in
    let ready : d.store.phase ≡ Ready = sym c.phase.ensures.phase ∙ c.in-Ready.is in
    let is : IsCollecting d n = record { ready = ready; standing = c.phase.ensures.stands; same = c.collect_step.ensures.same; shape = refl; lists = refl; tasks = refl; held = refl } in
    subst (λ (x : DeviceState). steps_left n ≡ steps_left x) c.self.view_is (collect_left d n is (subst (λ (x : DeviceState). KeepsNoWrite x.tasks) (sym c.self.view_is) none))

pub returns-in-Ok-Idle-clause-none_left : goal.returns-in-Ok-Idle-clause-none_left
returns-in-Ok-Idle-clause-none_left g c = λ is_ready zero.
    let stands : IsStanding c.args.self.now.store = subst (λ (x : DeviceState). IsStanding x.store) c.self.view_is c.phase.ensures.stands in
    stands.none_left is_ready zero

pub returns-in-Err-clause-none_left : goal.returns-in-Err-clause-none_left
returns-in-Err-clause-none_left g c = λ is_ready zero.
    let stands : IsStanding c.args.self.now.store = subst (λ (x : DeviceState). IsStanding x.store) c.self.view_is c.phase.ensures.stands in
    stands.none_left is_ready zero

pub returns-in-Ok-Page-clause-stands : goal.returns-in-Ok-Page-clause-stands
returns-in-Ok-Page-clause-stands g c = λ first e at.
    let s = c.self.inside in
    let d : DeviceState = record { store = s.store; shape = s.shape; regions = s.regions.items; lists = s.lists; tasks = s.tasks.items; held = s.held.items; counts = s.counts } in
    let n : DeviceState = record {
      store = c.collect_step.new.self;
      shape = s.shape;
      regions = c.take_moved.new.machines.items;
      lists = s.lists;
      tasks = s.tasks.items;
      held = s.held.items;
      counts = c.after_moved-self-inside.result;
    } in
    let ready : d.store.phase ≡ Ready = sym c.phase.ensures.phase ∙ c.in-Ready.is in
    let is : IsCollecting d n = record { ready = ready; standing = c.phase.ensures.stands; same = c.collect_step.ensures.same; shape = refl; lists = refl; tasks = refl; held = refl } in
    let moved : IsMoved d n (MovedPage c.in-Ok-Page.lun c.in-Ok-Page.lba) = moved_of_collect d n is (MovedPage c.in-Ok-Page.lun c.in-Ok-Page.lba)
    (subst (λ (m : Moved). IsCollected d.store m n.store) c.in-Ok-Page.field-0-is (c.in-Ok-Page.ensures.moved ready))
    (subst (λ (m : Moved). Changes d.store.geometry d.store.luns d.store.units d.store.pages (as_collected m) n.store.pages) c.in-Ok-Page.field-0-is (c.in-Ok-Page.ensures.changes ready))
    c.in-Ok-Page.ensures.unit c.after_moved-self-inside.ensures in
    rw (c.new-in-Ok-Page.ensures) (moved_stands d n (MovedPage c.in-Ok-Page.lun c.in-Ok-Page.lba) [] first e moved (subst (λ (x : DeviceState). DeviceStands x first e) (sym c.self.view_is) at))

pub returns-in-Ok-Page-clause-entries : goal.returns-in-Ok-Page-clause-entries
returns-in-Ok-Page-clause-entries g c = λ e stand.
    let s = c.self.inside in
    let d : DeviceState = record { store = s.store; shape = s.shape; regions = s.regions.items; lists = s.lists; tasks = s.tasks.items; held = s.held.items; counts = s.counts } in
    let n : DeviceState = record {
      store = c.collect_step.new.self;
      shape = s.shape;
      regions = c.take_moved.new.machines.items;
      lists = s.lists;
      tasks = s.tasks.items;
      held = s.held.items;
      counts = c.after_moved-self-inside.result;
    } in
    let ready : d.store.phase ≡ Ready = sym c.phase.ensures.phase ∙ c.in-Ready.is in
    let is : IsCollecting d n = record { ready = ready; standing = c.phase.ensures.stands; same = c.collect_step.ensures.same; shape = refl; lists = refl; tasks = refl; held = refl } in
    let moved : IsMoved d n (MovedPage c.in-Ok-Page.lun c.in-Ok-Page.lba) = moved_of_collect d n is (MovedPage c.in-Ok-Page.lun c.in-Ok-Page.lba)
    (subst (λ (m : Moved). IsCollected d.store m n.store) c.in-Ok-Page.field-0-is (c.in-Ok-Page.ensures.moved ready))
    (subst (λ (m : Moved). Changes d.store.geometry d.store.luns d.store.units d.store.pages (as_collected m) n.store.pages) c.in-Ok-Page.field-0-is (c.in-Ok-Page.ensures.changes ready))
    c.in-Ok-Page.ensures.unit c.after_moved-self-inside.ensures in
    rw (c.new-in-Ok-Page.ensures) (moved_entries d n (MovedPage c.in-Ok-Page.lun c.in-Ok-Page.lba) [] e moved (subst (λ (x : DeviceState). EntriesStand x e) (sym c.self.view_is) stand))

pub returns-in-Ok-Page-clause-listings : goal.returns-in-Ok-Page-clause-listings
returns-in-Ok-Page-clause-listings g c = λ had pages e stand.
    let s = c.self.inside in
    let d : DeviceState = record { store = s.store; shape = s.shape; regions = s.regions.items; lists = s.lists; tasks = s.tasks.items; held = s.held.items; counts = s.counts } in
    let n : DeviceState = record {
      store = c.collect_step.new.self;
      shape = s.shape;
      regions = c.take_moved.new.machines.items;
      lists = s.lists;
      tasks = s.tasks.items;
      held = s.held.items;
      counts = c.after_moved-self-inside.result;
    } in
    let ready : d.store.phase ≡ Ready = sym c.phase.ensures.phase ∙ c.in-Ready.is in
    let is : IsCollecting d n = record { ready = ready; standing = c.phase.ensures.stands; same = c.collect_step.ensures.same; shape = refl; lists = refl; tasks = refl; held = refl } in
    let moved : IsMoved d n (MovedPage c.in-Ok-Page.lun c.in-Ok-Page.lba) = moved_of_collect d n is (MovedPage c.in-Ok-Page.lun c.in-Ok-Page.lba)
    (subst (λ (m : Moved). IsCollected d.store m n.store) c.in-Ok-Page.field-0-is (c.in-Ok-Page.ensures.moved ready))
    (subst (λ (m : Moved). Changes d.store.geometry d.store.luns d.store.units d.store.pages (as_collected m) n.store.pages) c.in-Ok-Page.field-0-is (c.in-Ok-Page.ensures.changes ready))
    c.in-Ok-Page.ensures.unit c.after_moved-self-inside.ensures in
    rw (c.new-in-Ok-Page.ensures) (moved_listings d n (MovedPage c.in-Ok-Page.lun c.in-Ok-Page.lba) [] had pages e moved
    (subst (λ (x : DeviceState). ListingStands had pages x e) (sym c.self.view_is) stand))

pub returns-in-Ok-Erased-clause-stands : goal.returns-in-Ok-Erased-clause-stands
returns-in-Ok-Erased-clause-stands g c = λ first e at.
    let s = c.self.inside in
    let d : DeviceState = record { store = s.store; shape = s.shape; regions = s.regions.items; lists = s.lists; tasks = s.tasks.items; held = s.held.items; counts = s.counts } in
    let n : DeviceState = record {
      store = c.collect_step.new.self;
      shape = s.shape;
      regions = s.regions.items;
      lists = s.lists;
      tasks = s.tasks.items;
      held = s.held.items;
      counts = c.after_moved-self-inside-in-Ok-Erased.result;
    } in
    let ready : d.store.phase ≡ Ready = sym c.phase.ensures.phase ∙ c.in-Ready.is in
    let is : IsCollecting d n = record { ready = ready; standing = c.phase.ensures.stands; same = c.collect_step.ensures.same; shape = refl; lists = refl; tasks = refl; held = refl } in
    let moved : IsMoved d n (ErasedBlock c.in-Ok-Erased.block) = moved_of_collect d n is (ErasedBlock c.in-Ok-Erased.block)
    (subst (λ (m : Moved). IsCollected d.store m n.store) c.in-Ok-Erased.field-0-is (c.in-Ok-Erased.ensures.moved ready))
    (subst (λ (m : Moved). Changes d.store.geometry d.store.luns d.store.units d.store.pages (as_collected m) n.store.pages) c.in-Ok-Erased.field-0-is (c.in-Ok-Erased.ensures.changes ready))
    c.in-Ok-Erased.ensures.unit c.after_moved-self-inside-in-Ok-Erased.ensures in
    rw (c.new-in-Ok-Erased.ensures) (moved_stands d n (ErasedBlock c.in-Ok-Erased.block) [] first e moved (subst (λ (x : DeviceState). DeviceStands x first e) (sym c.self.view_is) at))

pub returns-in-Ok-Erased-clause-entries : goal.returns-in-Ok-Erased-clause-entries
returns-in-Ok-Erased-clause-entries g c = λ e stand.
    let s = c.self.inside in
    let d : DeviceState = record { store = s.store; shape = s.shape; regions = s.regions.items; lists = s.lists; tasks = s.tasks.items; held = s.held.items; counts = s.counts } in
    let n : DeviceState = record {
      store = c.collect_step.new.self;
      shape = s.shape;
      regions = s.regions.items;
      lists = s.lists;
      tasks = s.tasks.items;
      held = s.held.items;
      counts = c.after_moved-self-inside-in-Ok-Erased.result;
    } in
    let ready : d.store.phase ≡ Ready = sym c.phase.ensures.phase ∙ c.in-Ready.is in
    let is : IsCollecting d n = record { ready = ready; standing = c.phase.ensures.stands; same = c.collect_step.ensures.same; shape = refl; lists = refl; tasks = refl; held = refl } in
    let moved : IsMoved d n (ErasedBlock c.in-Ok-Erased.block) = moved_of_collect d n is (ErasedBlock c.in-Ok-Erased.block)
    (subst (λ (m : Moved). IsCollected d.store m n.store) c.in-Ok-Erased.field-0-is (c.in-Ok-Erased.ensures.moved ready))
    (subst (λ (m : Moved). Changes d.store.geometry d.store.luns d.store.units d.store.pages (as_collected m) n.store.pages) c.in-Ok-Erased.field-0-is (c.in-Ok-Erased.ensures.changes ready))
    c.in-Ok-Erased.ensures.unit c.after_moved-self-inside-in-Ok-Erased.ensures in
    rw (c.new-in-Ok-Erased.ensures) (moved_entries d n (ErasedBlock c.in-Ok-Erased.block) [] e moved (subst (λ (x : DeviceState). EntriesStand x e) (sym c.self.view_is) stand))

pub returns-in-Ok-Erased-clause-listings : goal.returns-in-Ok-Erased-clause-listings
returns-in-Ok-Erased-clause-listings g c = λ had pages e stand.
    let s = c.self.inside in
    let d : DeviceState = record { store = s.store; shape = s.shape; regions = s.regions.items; lists = s.lists; tasks = s.tasks.items; held = s.held.items; counts = s.counts } in
    let n : DeviceState = record {
      store = c.collect_step.new.self;
      shape = s.shape;
      regions = s.regions.items;
      lists = s.lists;
      tasks = s.tasks.items;
      held = s.held.items;
      counts = c.after_moved-self-inside-in-Ok-Erased.result;
    } in
    let ready : d.store.phase ≡ Ready = sym c.phase.ensures.phase ∙ c.in-Ready.is in
    let is : IsCollecting d n = record { ready = ready; standing = c.phase.ensures.stands; same = c.collect_step.ensures.same; shape = refl; lists = refl; tasks = refl; held = refl } in
    let moved : IsMoved d n (ErasedBlock c.in-Ok-Erased.block) = moved_of_collect d n is (ErasedBlock c.in-Ok-Erased.block)
    (subst (λ (m : Moved). IsCollected d.store m n.store) c.in-Ok-Erased.field-0-is (c.in-Ok-Erased.ensures.moved ready))
    (subst (λ (m : Moved). Changes d.store.geometry d.store.luns d.store.units d.store.pages (as_collected m) n.store.pages) c.in-Ok-Erased.field-0-is (c.in-Ok-Erased.ensures.changes ready))
    c.in-Ok-Erased.ensures.unit c.after_moved-self-inside-in-Ok-Erased.ensures in
    rw (c.new-in-Ok-Erased.ensures) (moved_listings d n (ErasedBlock c.in-Ok-Erased.block) [] had pages e moved (subst (λ (x : DeviceState). ListingStands had pages x e) (sym c.self.view_is) stand))

pub returns-in-Err-clause-foreign : goal.returns-in-Err-clause-foreign
returns-in-Err-clause-foreign g c = λ chip first e at.
    let s = c.self.inside in
    let d : DeviceState = record { store = s.store; shape = s.shape; regions = s.regions.items; lists = s.lists; tasks = s.tasks.items; held = s.held.items; counts = s.counts } in
    let n : DeviceState = record { store = c.collect_step.new.self; shape = s.shape; regions = s.regions.items; lists = s.lists; tasks = s.tasks.items; held = s.held.items; counts = s.counts } in
    let ready : d.store.phase ≡ Ready = sym c.phase.ensures.phase ∙ c.in-Ready.is in
    let is : IsCollecting d n = record { ready = ready; standing = c.phase.ensures.stands; same = c.collect_step.ensures.same; shape = refl; lists = refl; tasks = refl; held = refl } in
    no_foreign d n is chip first e _ (subst (λ (x : DeviceState). DeviceStandsForeign x chip first e) (sym c.self.view_is) at)

pub returns-in-Err-clause-left : goal.returns-in-Err-clause-left
returns-in-Err-clause-left g c = λ none.
    let s = c.self.inside in
    let d : DeviceState = record { store = s.store; shape = s.shape; regions = s.regions.items; lists = s.lists; tasks = s.tasks.items; held = s.held.items; counts = s.counts } in
    let n : DeviceState = record { store = c.collect_step.new.self; shape = s.shape; regions = s.regions.items; lists = s.lists; tasks = s.tasks.items; held = s.held.items; counts = s.counts } in
    let ready : d.store.phase ≡ Ready = sym c.phase.ensures.phase ∙ c.in-Ready.is in
    let is : IsCollecting d n = record { ready = ready; standing = c.phase.ensures.stands; same = c.collect_step.ensures.same; shape = refl; lists = refl; tasks = refl; held = refl } in
    subst (λ (x : DeviceState). steps_left n ≡ steps_left x) c.self.view_is (collect_left d n is (subst (λ (x : DeviceState). KeepsNoWrite x.tasks) (sym c.self.view_is) none))

pub returns-in-Err-clause-stands : goal.returns-in-Err-clause-stands
returns-in-Err-clause-stands g c = λ first e at.
    let s = c.self.inside in
    let d : DeviceState = record { store = s.store; shape = s.shape; regions = s.regions.items; lists = s.lists; tasks = s.tasks.items; held = s.held.items; counts = s.counts } in
    let n : DeviceState = record { store = c.collect_step.new.self; shape = s.shape; regions = s.regions.items; lists = s.lists; tasks = s.tasks.items; held = s.held.items; counts = s.counts } in
    let ready : d.store.phase ≡ Ready = sym c.phase.ensures.phase ∙ c.in-Ready.is in
    let is : IsCollecting d n = record { ready = ready; standing = c.phase.ensures.stands; same = c.collect_step.ensures.same; shape = refl; lists = refl; tasks = refl; held = refl } in
    let here : DeviceStands d first e = subst (λ (x : DeviceState). DeviceStands x first e) (sym c.self.view_is) at in
    let fault = c.in-Err.ensures.fault ready in
    let same : IsSameStore d.store n.store = record { geometry = is.same.geometry; luns = is.same.luns; units = is.same.units } in
    rw (c.new-in-Err.ensures) (unmoved_stands d n c.in-Err.op first e same fault.chip refl refl refl refl (sound_along d n same fault.chip here.sound) here)

pub returns-in-Ok-Idle-clause-rests : goal.returns-in-Ok-Idle-clause-rests
returns-in-Ok-Idle-clause-rests g c = λ idle is_ready.
    let s = c.self.inside in
    let d : DeviceState = record { store = s.store; shape = s.shape; regions = s.regions.items; lists = s.lists; tasks = s.tasks.items; held = s.held.items; counts = s.counts } in
    let n : DeviceState = record { store = c.collect_step.new.self; shape = s.shape; regions = s.regions.items; lists = s.lists; tasks = s.tasks.items; held = s.held.items; counts = s.counts } in
    let ready : d.store.phase ≡ Ready = sym c.phase.ensures.phase ∙ c.in-Ready.is in
    subst (λ (x : DeviceState). uncollected_in x ≡ 0) c.self.view_is
    (idle_leaves_none d n (subst (λ (m : Moved). IsCollected d.store m n.store) c.in-Ok-Idle.field-0-is (c.in-Ok-Idle.ensures.moved ready)))

pub returns-in-Ok-Idle-clause-over : goal.returns-in-Ok-Idle-clause-over
returns-in-Ok-Idle-clause-over g c = λ is_ready given none.
    let s = c.self.inside in
    let d : DeviceState = record { store = s.store; shape = s.shape; regions = s.regions.items; lists = s.lists; tasks = s.tasks.items; held = s.held.items; counts = s.counts } in
    let n : DeviceState = record { store = c.collect_step.new.self; shape = s.shape; regions = s.regions.items; lists = s.lists; tasks = s.tasks.items; held = s.held.items; counts = s.counts } in
    let ready : d.store.phase ≡ Ready = sym c.phase.ensures.phase ∙ c.in-Ready.is in
    let is : IsCollecting d n = record { ready = ready; standing = c.phase.ensures.stands; same = c.collect_step.ensures.same; shape = refl; lists = refl; tasks = refl; held = refl } in
    collected_over d n is Idle (subst (λ (m : Moved). IsCollected d.store m n.store) c.in-Ok-Idle.field-0-is (c.in-Ok-Idle.ensures.moved ready)) none

pub returns-in-Ok-Read-clause-over : goal.returns-in-Ok-Read-clause-over
returns-in-Ok-Read-clause-over g c = λ is_ready given none.
    let s = c.self.inside in
    let d : DeviceState = record { store = s.store; shape = s.shape; regions = s.regions.items; lists = s.lists; tasks = s.tasks.items; held = s.held.items; counts = s.counts } in
    let n : DeviceState = record { store = c.collect_step.new.self; shape = s.shape; regions = s.regions.items; lists = s.lists; tasks = s.tasks.items; held = s.held.items; counts = s.counts } in
    let ready : d.store.phase ≡ Ready = sym c.phase.ensures.phase ∙ c.in-Ready.is in
    let is : IsCollecting d n = record { ready = ready; standing = c.phase.ensures.stands; same = c.collect_step.ensures.same; shape = refl; lists = refl; tasks = refl; held = refl } in
    collected_over d n is ReadPage (subst (λ (m : Moved). IsCollected d.store m n.store) c.in-Ok-Read.field-0-is (c.in-Ok-Read.ensures.moved ready)) none

pub returns-in-Ok-Page-clause-over : goal.returns-in-Ok-Page-clause-over
returns-in-Ok-Page-clause-over g c = λ is_ready given none.
    let s = c.self.inside in
    let d : DeviceState = record { store = s.store; shape = s.shape; regions = s.regions.items; lists = s.lists; tasks = s.tasks.items; held = s.held.items; counts = s.counts } in
    let n : DeviceState = record {
      store = c.collect_step.new.self;
      shape = s.shape;
      regions = c.take_moved.new.machines.items;
      lists = s.lists;
      tasks = s.tasks.items;
      held = s.held.items;
      counts = c.after_moved-self-inside.result;
    } in
    let ready : d.store.phase ≡ Ready = sym c.phase.ensures.phase ∙ c.in-Ready.is in
    let is : IsCollecting d n = record { ready = ready; standing = c.phase.ensures.stands; same = c.collect_step.ensures.same; shape = refl; lists = refl; tasks = refl; held = refl } in
    collected_over d n is (MovedPage c.in-Ok-Page.lun c.in-Ok-Page.lba) (subst (λ (m : Moved). IsCollected d.store m n.store) c.in-Ok-Page.field-0-is (c.in-Ok-Page.ensures.moved ready)) none

pub returns-in-Ok-Erased-clause-over : goal.returns-in-Ok-Erased-clause-over
returns-in-Ok-Erased-clause-over g c = λ is_ready given none.
    let s = c.self.inside in
    let d : DeviceState = record { store = s.store; shape = s.shape; regions = s.regions.items; lists = s.lists; tasks = s.tasks.items; held = s.held.items; counts = s.counts } in
    let n : DeviceState = record {
      store = c.collect_step.new.self;
      shape = s.shape;
      regions = s.regions.items;
      lists = s.lists;
      tasks = s.tasks.items;
      held = s.held.items;
      counts = c.after_moved-self-inside-in-Ok-Erased.result;
    } in
    let ready : d.store.phase ≡ Ready = sym c.phase.ensures.phase ∙ c.in-Ready.is in
    let is : IsCollecting d n = record { ready = ready; standing = c.phase.ensures.stands; same = c.collect_step.ensures.same; shape = refl; lists = refl; tasks = refl; held = refl } in
    collected_over d n is (ErasedBlock c.in-Ok-Erased.block) (subst (λ (m : Moved). IsCollected d.store m n.store) c.in-Ok-Erased.field-0-is (c.in-Ok-Erased.ensures.moved ready)) none

pub returns-in-Ok-Idle-clause-hints : goal.returns-in-Ok-Idle-clause-hints
returns-in-Ok-Idle-clause-hints g c = λ e stand.
    let s = c.self.inside in
    let d : DeviceState = record { store = s.store; shape = s.shape; regions = s.regions.items; lists = s.lists; tasks = s.tasks.items; held = s.held.items; counts = s.counts } in
    let n : DeviceState = record { store = c.collect_step.new.self; shape = s.shape; regions = s.regions.items; lists = s.lists; tasks = s.tasks.items; held = s.held.items; counts = s.counts } in
    let ready : d.store.phase ≡ Ready = sym c.phase.ensures.phase ∙ c.in-Ready.is in
    let is = c.collect_step.ensures.same in
    let sizes = sizes_same d n (record { geometry = is.geometry; luns = is.luns; units = is.units }) refl in
    let here : HintsStand d e = subst (λ (x : DeviceState). HintsStand x e) (sym c.self.view_is) stand in
    rw (c.idle-in-Ok-Idle.ensures) (hints_along d n e refl refl sizes here)

pub returns-in-Ok-Read-clause-hints : goal.returns-in-Ok-Read-clause-hints
returns-in-Ok-Read-clause-hints g c = λ e stand.
    let s = c.self.inside in
    let d : DeviceState = record { store = s.store; shape = s.shape; regions = s.regions.items; lists = s.lists; tasks = s.tasks.items; held = s.held.items; counts = s.counts } in
    let n : DeviceState = record { store = c.collect_step.new.self; shape = s.shape; regions = s.regions.items; lists = s.lists; tasks = s.tasks.items; held = s.held.items; counts = s.counts } in
    let ready : d.store.phase ≡ Ready = sym c.phase.ensures.phase ∙ c.in-Ready.is in
    let is = c.collect_step.ensures.same in
    let sizes = sizes_same d n (record { geometry = is.geometry; luns = is.luns; units = is.units }) refl in
    let here : HintsStand d e = subst (λ (x : DeviceState). HintsStand x e) (sym c.self.view_is) stand in
    rw (c.new.ensures) (hints_along d n e refl refl sizes here)

pub returns-in-Ok-Erased-clause-hints : goal.returns-in-Ok-Erased-clause-hints
returns-in-Ok-Erased-clause-hints g c = λ e stand.
    let s = c.self.inside in
    let d : DeviceState = record { store = s.store; shape = s.shape; regions = s.regions.items; lists = s.lists; tasks = s.tasks.items; held = s.held.items; counts = s.counts } in
    let n : DeviceState = record {
      store = c.collect_step.new.self;
      shape = s.shape;
      regions = s.regions.items;
      lists = s.lists;
      tasks = s.tasks.items;
      held = s.held.items;
      counts = c.after_moved-self-inside-in-Ok-Erased.result;
    } in
    let ready : d.store.phase ≡ Ready = sym c.phase.ensures.phase ∙ c.in-Ready.is in
    let is = c.collect_step.ensures.same in
    let sizes = sizes_same d n (record { geometry = is.geometry; luns = is.luns; units = is.units }) refl in
    let here : HintsStand d e = subst (λ (x : DeviceState). HintsStand x e) (sym c.self.view_is) stand in
    rw (c.new-in-Ok-Erased.ensures) (hints_along d n e refl refl sizes here)

pub returns-in-Err-clause-hints : goal.returns-in-Err-clause-hints
returns-in-Err-clause-hints g c = λ e stand.
    let s = c.self.inside in
    let d : DeviceState = record { store = s.store; shape = s.shape; regions = s.regions.items; lists = s.lists; tasks = s.tasks.items; held = s.held.items; counts = s.counts } in
    let n : DeviceState = record { store = c.collect_step.new.self; shape = s.shape; regions = s.regions.items; lists = s.lists; tasks = s.tasks.items; held = s.held.items; counts = s.counts } in
    let ready : d.store.phase ≡ Ready = sym c.phase.ensures.phase ∙ c.in-Ready.is in
    let is = c.collect_step.ensures.same in
    let sizes = sizes_same d n (record { geometry = is.geometry; luns = is.luns; units = is.units }) refl in
    let here : HintsStand d e = subst (λ (x : DeviceState). HintsStand x e) (sym c.self.view_is) stand in
    rw (c.new-in-Err.ensures) (hints_along d n (e ▹ CallFailed c.in-Err.op) refl refl sizes (hints_failed d e c.in-Err.op here))

pub returns-in-Ok-Page-clause-hints : goal.returns-in-Ok-Page-clause-hints
returns-in-Ok-Page-clause-hints g c = λ e stand.
    let s = c.self.inside in
    let d : DeviceState = record { store = s.store; shape = s.shape; regions = s.regions.items; lists = s.lists; tasks = s.tasks.items; held = s.held.items; counts = s.counts } in
    let n : DeviceState = record {
      store = c.collect_step.new.self;
      shape = s.shape;
      regions = c.take_moved.new.machines.items;
      lists = s.lists;
      tasks = s.tasks.items;
      held = s.held.items;
      counts = c.after_moved-self-inside.result;
    } in
    let ready : d.store.phase ≡ Ready = sym c.phase.ensures.phase ∙ c.in-Ready.is in
    let is = c.collect_step.ensures.same in
    let sizes = sizes_same d n (record { geometry = is.geometry; luns = is.luns; units = is.units }) refl in
    let here : HintsStand d e = subst (λ (x : DeviceState). HintsStand x e) (sym c.self.view_is) stand in
    let changes = subst (λ (m : Moved). Changes d.store.geometry d.store.luns d.store.units d.store.pages (as_collected m) n.store.pages) c.in-Ok-Page.field-0-is
    (c.in-Ok-Page.ensures.changes ready) in
    let count = count_of s.shape s.luns s.regions.items c.self.invariant.shapes in
    rw (c.new-in-Ok-Page.ensures) (hints_moved d n c.in-Ok-Page.lun c.in-Ok-Page.lba e (omega (arith, changes.place.lun, count, c.self.invariant.luns_served)) (c.take_moved.ensures.regions s.shape)
    refl sizes here)

pub returns-in-Ok-Idle-clause-fetched : goal.returns-in-Ok-Idle-clause-fetched
returns-in-Ok-Idle-clause-fetched g c = λ e stand.
    let s = c.self.inside in
    let d : DeviceState = record { store = s.store; shape = s.shape; regions = s.regions.items; lists = s.lists; tasks = s.tasks.items; held = s.held.items; counts = s.counts } in
    let n : DeviceState = record { store = c.collect_step.new.self; shape = s.shape; regions = s.regions.items; lists = s.lists; tasks = s.tasks.items; held = s.held.items; counts = s.counts } in
    let ready : d.store.phase ≡ Ready = sym c.phase.ensures.phase ∙ c.in-Ready.is in
    let is : IsCollecting d n = record { ready = ready; standing = c.phase.ensures.stands; same = c.collect_step.ensures.same; shape = refl; lists = refl; tasks = refl; held = refl } in
    let here : ListsStand d e = subst (λ (x : DeviceState). ListsStand x e) (sym c.self.view_is) stand in
    rw (c.idle-in-Ok-Idle.ensures) (collect_lists d n is Idle e here)

pub returns-in-Ok-Read-clause-fetched : goal.returns-in-Ok-Read-clause-fetched
returns-in-Ok-Read-clause-fetched g c = λ e stand.
    let s = c.self.inside in
    let d : DeviceState = record { store = s.store; shape = s.shape; regions = s.regions.items; lists = s.lists; tasks = s.tasks.items; held = s.held.items; counts = s.counts } in
    let n : DeviceState = record { store = c.collect_step.new.self; shape = s.shape; regions = s.regions.items; lists = s.lists; tasks = s.tasks.items; held = s.held.items; counts = s.counts } in
    let ready : d.store.phase ≡ Ready = sym c.phase.ensures.phase ∙ c.in-Ready.is in
    let is : IsCollecting d n = record { ready = ready; standing = c.phase.ensures.stands; same = c.collect_step.ensures.same; shape = refl; lists = refl; tasks = refl; held = refl } in
    let here : ListsStand d e = subst (λ (x : DeviceState). ListsStand x e) (sym c.self.view_is) stand in
    rw (c.new.ensures) (collect_lists d n is ReadPage e here)

pub returns-in-Ok-Erased-clause-fetched : goal.returns-in-Ok-Erased-clause-fetched
returns-in-Ok-Erased-clause-fetched g c = λ e stand.
    let s = c.self.inside in
    let d : DeviceState = record { store = s.store; shape = s.shape; regions = s.regions.items; lists = s.lists; tasks = s.tasks.items; held = s.held.items; counts = s.counts } in
    let n : DeviceState = record {
      store = c.collect_step.new.self;
      shape = s.shape;
      regions = s.regions.items;
      lists = s.lists;
      tasks = s.tasks.items;
      held = s.held.items;
      counts = c.after_moved-self-inside-in-Ok-Erased.result;
    } in
    let ready : d.store.phase ≡ Ready = sym c.phase.ensures.phase ∙ c.in-Ready.is in
    let is : IsCollecting d n = record { ready = ready; standing = c.phase.ensures.stands; same = c.collect_step.ensures.same; shape = refl; lists = refl; tasks = refl; held = refl } in
    let here : ListsStand d e = subst (λ (x : DeviceState). ListsStand x e) (sym c.self.view_is) stand in
    rw (c.new-in-Ok-Erased.ensures) (collect_lists d n is (ErasedBlock c.in-Ok-Erased.block) e here)

pub returns-in-Err-clause-fetched : goal.returns-in-Err-clause-fetched
returns-in-Err-clause-fetched g c = λ e stand.
    let s = c.self.inside in
    let d : DeviceState = record { store = s.store; shape = s.shape; regions = s.regions.items; lists = s.lists; tasks = s.tasks.items; held = s.held.items; counts = s.counts } in
    let n : DeviceState = record { store = c.collect_step.new.self; shape = s.shape; regions = s.regions.items; lists = s.lists; tasks = s.tasks.items; held = s.held.items; counts = s.counts } in
    let ready : d.store.phase ≡ Ready = sym c.phase.ensures.phase ∙ c.in-Ready.is in
    let is : IsCollecting d n = record { ready = ready; standing = c.phase.ensures.stands; same = c.collect_step.ensures.same; shape = refl; lists = refl; tasks = refl; held = refl } in
    let here : ListsStand d e = subst (λ (x : DeviceState). ListsStand x e) (sym c.self.view_is) stand in
    rw (c.new-in-Err.ensures) (unmoved_lists d n is c.in-Err.op e here)

pub returns-in-Ok-Page-clause-fetched : goal.returns-in-Ok-Page-clause-fetched
returns-in-Ok-Page-clause-fetched g c = λ e stand.
    let s = c.self.inside in
    let d : DeviceState = record { store = s.store; shape = s.shape; regions = s.regions.items; lists = s.lists; tasks = s.tasks.items; held = s.held.items; counts = s.counts } in
    let n : DeviceState = record {
      store = c.collect_step.new.self;
      shape = s.shape;
      regions = c.take_moved.new.machines.items;
      lists = s.lists;
      tasks = s.tasks.items;
      held = s.held.items;
      counts = c.after_moved-self-inside.result;
    } in
    let ready : d.store.phase ≡ Ready = sym c.phase.ensures.phase ∙ c.in-Ready.is in
    let is : IsCollecting d n = record { ready = ready; standing = c.phase.ensures.stands; same = c.collect_step.ensures.same; shape = refl; lists = refl; tasks = refl; held = refl } in
    let here : ListsStand d e = subst (λ (x : DeviceState). ListsStand x e) (sym c.self.view_is) stand in
    rw (c.new-in-Ok-Page.ensures) (collect_lists d n is (MovedPage c.in-Ok-Page.lun c.in-Ok-Page.lba) e here)

pub take_moved-requires : goal.take_moved-requires
take_moved-requires g c =
    let s = c.self.inside in
    let ready : s.store.phase ≡ Ready = sym c.phase.ensures.phase ∙ c.in-Ready.is in
    let changes = subst (λ (m : Moved). Changes s.store.geometry s.store.luns s.store.units s.store.pages (as_collected m) c.collect_step.new.self.pages) c.in-Ok-Page.field-0-is
    (c.in-Ok-Page.ensures.changes ready) in (
      s.shape,
      s.luns,
      record { limits = c.self.invariant.limits; shapes = c.self.invariant.shapes },
      (omega (arith, changes.place.lun, c.self.invariant.luns_served), omega (arith, changes.place.lba, c.self.invariant.units_served)),
    )

pub returns-in-Ok-Page-clause-counted : goal.returns-in-Ok-Page-clause-counted
returns-in-Ok-Page-clause-counted g c = λ e stand.
    let s = c.self.inside in
    let d : DeviceState = record { store = s.store; shape = s.shape; regions = s.regions.items; lists = s.lists; tasks = s.tasks.items; held = s.held.items; counts = s.counts } in
    let n : DeviceState = record {
      store = c.collect_step.new.self;
      shape = s.shape;
      regions = c.take_moved.new.machines.items;
      lists = s.lists;
      tasks = s.tasks.items;
      held = s.held.items;
      counts = c.after_moved-self-inside.result;
    } in
    let ready : d.store.phase ≡ Ready = sym c.phase.ensures.phase ∙ c.in-Ready.is in
    let is : IsCollecting d n = record { ready = ready; standing = c.phase.ensures.stands; same = c.collect_step.ensures.same; shape = refl; lists = refl; tasks = refl; held = refl } in
    let here : CountsStand d e = subst (λ (x : DeviceState). CountsStand x e) (sym c.self.view_is) stand in
    let step = subst (λ (m : Moved). IsCollected d.store m n.store) c.in-Ok-Page.field-0-is (c.in-Ok-Page.ensures.moved ready) in
    rw (c.new-in-Ok-Page.ensures) (collect_counts d n is (MovedPage c.in-Ok-Page.lun c.in-Ok-Page.lba) e step c.after_moved-self-inside.ensures here)

pub returns-in-Ok-Erased-clause-counted : goal.returns-in-Ok-Erased-clause-counted
returns-in-Ok-Erased-clause-counted g c = λ e stand.
    let s = c.self.inside in
    let d : DeviceState = record { store = s.store; shape = s.shape; regions = s.regions.items; lists = s.lists; tasks = s.tasks.items; held = s.held.items; counts = s.counts } in
    let n : DeviceState = record {
      store = c.collect_step.new.self;
      shape = s.shape;
      regions = s.regions.items;
      lists = s.lists;
      tasks = s.tasks.items;
      held = s.held.items;
      counts = c.after_moved-self-inside-in-Ok-Erased.result;
    } in
    let ready : d.store.phase ≡ Ready = sym c.phase.ensures.phase ∙ c.in-Ready.is in
    let is : IsCollecting d n = record { ready = ready; standing = c.phase.ensures.stands; same = c.collect_step.ensures.same; shape = refl; lists = refl; tasks = refl; held = refl } in
    let here : CountsStand d e = subst (λ (x : DeviceState). CountsStand x e) (sym c.self.view_is) stand in
    let step = subst (λ (m : Moved). IsCollected d.store m n.store) c.in-Ok-Erased.field-0-is (c.in-Ok-Erased.ensures.moved ready) in
    rw (c.new-in-Ok-Erased.ensures) (collect_counts d n is (ErasedBlock c.in-Ok-Erased.block) e step c.after_moved-self-inside-in-Ok-Erased.ensures here)

pub returns-in-Err-clause-counted : goal.returns-in-Err-clause-counted
returns-in-Err-clause-counted g c = λ e stand.
    let s = c.self.inside in
    let d : DeviceState = record { store = s.store; shape = s.shape; regions = s.regions.items; lists = s.lists; tasks = s.tasks.items; held = s.held.items; counts = s.counts } in
    let n : DeviceState = record { store = c.collect_step.new.self; shape = s.shape; regions = s.regions.items; lists = s.lists; tasks = s.tasks.items; held = s.held.items; counts = s.counts } in
    let ready : d.store.phase ≡ Ready = sym c.phase.ensures.phase ∙ c.in-Ready.is in
    let is : IsCollecting d n = record { ready = ready; standing = c.phase.ensures.stands; same = c.collect_step.ensures.same; shape = refl; lists = refl; tasks = refl; held = refl } in
    let here : CountsStand d e = subst (λ (x : DeviceState). CountsStand x e) (sym c.self.view_is) stand in
    let fault = c.in-Err.ensures.fault ready in
    rw (c.new-in-Err.ensures) (unmoved_counts d n is c.in-Err.op e fault.chip refl here)
