use Rattle.std.proofs.Common.{arith, sym, ap, subst, ◌≡◌, ◌∙◌}
use Rattle.flash_store.specs.declared.answers.Phase.TheVariants.{Scanning, Ready, Foreign}
use Rattle.flash_store.specs.Store.{IsStanding}
use Rattle.flat_unit.specs.History.{History}
use Rattle.hpb_device.specs.Calls.{GoesOn, Refuses}
use Rattle.hpb_device.specs.Counted.{CountsStand}
use Rattle.hpb_device.specs.Entries.{EntriesStand}
use Rattle.hpb_device.specs.Listed.{ListingStands}
use Rattle.hpb_device.specs.Lists.{ListsStand}
use Rattle.hpb_device.specs.Regions.{HintsStand}
use Rattle.hpb_device.proofs.Fetching.{steps_lists}
use Rattle.hpb_device.proofs.Hinting.{steps_hints}
use Rattle.hpb_device.specs.Standing.{DeviceStands, DeviceStandsForeign}
use Rattle.hpb_device.specs.State.{DeviceState}
use Rattle.hpb_device.proofs.CountingSteps.{steps_counts}
use Rattle.hpb_device.proofs.Stepping.{IsWell, idle_or, steps_entries, steps_foreign, steps_listings, steps_stands, well_of}
use Rattle.hpb_device.proofs.device.Device.step.Goals as goal

apart-Ready : Scanning ≡ Ready → ⊥
apart-Ready same = cc

apart-Foreign : Scanning ≡ Foreign → ⊥
apart-Foreign same = cc

pub returns-in-Scanning-clause-stands : goal.returns-in-Scanning-clause-stands
returns-in-Scanning-clause-stands g c = λ first e at.
    let s = c.self.inside in
    let d : DeviceState = record { store = s.store; shape = s.shape; regions = s.regions.items; lists = s.lists; tasks = s.tasks.items; held = s.held.items; counts = s.counts } in
    let well : IsWell c.args.self.now = subst IsWell c.self.view_is (well_of d s.luns _ c.self.invariant c.phase.ensures.stands) in
    let is : c.args.self.now.store.phase ≡ Scanning = ap (λ (x : DeviceState). x.store.phase) (sym c.self.view_is) ∙ (sym c.phase.ensures.phase ∙ c.in-Scanning.is) in
    steps_stands c.args.self.now c.scan.new.self well c.scan.ensures.shape c.scan.result c.scan.new.out Scanning first e is c.scan.ensures.scans at

pub returns-in-Scanning-clause-foreign : goal.returns-in-Scanning-clause-foreign
returns-in-Scanning-clause-foreign g c = λ chip first e at.
    let s = c.self.inside in
    let d : DeviceState = record { store = s.store; shape = s.shape; regions = s.regions.items; lists = s.lists; tasks = s.tasks.items; held = s.held.items; counts = s.counts } in
    let well : IsWell c.args.self.now = subst IsWell c.self.view_is (well_of d s.luns _ c.self.invariant c.phase.ensures.stands) in
    let is : c.args.self.now.store.phase ≡ Scanning = ap (λ (x : DeviceState). x.store.phase) (sym c.self.view_is) ∙ (sym c.phase.ensures.phase ∙ c.in-Scanning.is) in
    steps_foreign c.args.self.now c.scan.new.self well c.scan.ensures.shape c.scan.result c.scan.new.out chip Scanning first e is c.scan.ensures.scans at

pub returns-in-Scanning-clause-entries : goal.returns-in-Scanning-clause-entries
returns-in-Scanning-clause-entries g c = λ first e at stand.
    let s = c.self.inside in
    let d : DeviceState = record { store = s.store; shape = s.shape; regions = s.regions.items; lists = s.lists; tasks = s.tasks.items; held = s.held.items; counts = s.counts } in
    let well : IsWell c.args.self.now = subst IsWell c.self.view_is (well_of d s.luns _ c.self.invariant c.phase.ensures.stands) in
    let is : c.args.self.now.store.phase ≡ Scanning = ap (λ (x : DeviceState). x.store.phase) (sym c.self.view_is) ∙ (sym c.phase.ensures.phase ∙ c.in-Scanning.is) in
    steps_entries c.args.self.now c.scan.new.self well c.scan.ensures.shape c.scan.result c.scan.new.out Scanning first e is c.scan.ensures.scans at stand

pub returns-in-Scanning-clause-listings : goal.returns-in-Scanning-clause-listings
returns-in-Scanning-clause-listings g c = λ had pages first e at stand.
    let s = c.self.inside in
    let d : DeviceState = record { store = s.store; shape = s.shape; regions = s.regions.items; lists = s.lists; tasks = s.tasks.items; held = s.held.items; counts = s.counts } in
    let well : IsWell c.args.self.now = subst IsWell c.self.view_is (well_of d s.luns _ c.self.invariant c.phase.ensures.stands) in
    let is : c.args.self.now.store.phase ≡ Scanning = ap (λ (x : DeviceState). x.store.phase) (sym c.self.view_is) ∙ (sym c.phase.ensures.phase ∙ c.in-Scanning.is) in
    steps_listings c.args.self.now c.scan.new.self well c.scan.ensures.shape c.scan.result c.scan.new.out had pages Scanning first e is c.scan.ensures.scans at stand

pub returns-in-Ready-clause-stands : goal.returns-in-Ready-clause-stands
returns-in-Ready-clause-stands g c = λ first e at.
    let s = c.self.inside in
    let d : DeviceState = record { store = s.store; shape = s.shape; regions = s.regions.items; lists = s.lists; tasks = s.tasks.items; held = s.held.items; counts = s.counts } in
    let well : IsWell c.args.self.now = subst IsWell c.self.view_is (well_of d s.luns _ c.self.invariant c.phase.ensures.stands) in
    let is : c.args.self.now.store.phase ≡ Ready = ap (λ (x : DeviceState). x.store.phase) (sym c.self.view_is) ∙ (sym c.phase.ensures.phase ∙ c.in-Ready.is) in
    idle_or (λ (x : DeviceState) (h : History). DeviceStands x first h) (GoesOn c.args.self.now c.advance_head.new.self c.advance_head.result c.advance_head.new.out) c.args.self.now
    c.advance_head.new.self c.advance_head.result c.advance_head.new.out e c.advance_head.ensures.nothing c.advance_head.ensures.unchanged
    (λ steps before. steps_stands c.args.self.now c.advance_head.new.self well c.advance_head.ensures.shape c.advance_head.result c.advance_head.new.out Ready first e is steps before)
    c.advance_head.ensures.goes at

pub returns-in-Ready-clause-foreign : goal.returns-in-Ready-clause-foreign
returns-in-Ready-clause-foreign g c = λ chip first e at.
    let s = c.self.inside in
    let d : DeviceState = record { store = s.store; shape = s.shape; regions = s.regions.items; lists = s.lists; tasks = s.tasks.items; held = s.held.items; counts = s.counts } in
    let well : IsWell c.args.self.now = subst IsWell c.self.view_is (well_of d s.luns _ c.self.invariant c.phase.ensures.stands) in
    let is : c.args.self.now.store.phase ≡ Ready = ap (λ (x : DeviceState). x.store.phase) (sym c.self.view_is) ∙ (sym c.phase.ensures.phase ∙ c.in-Ready.is) in
    idle_or (λ (x : DeviceState) (h : History). DeviceStandsForeign x chip first h) (GoesOn c.args.self.now c.advance_head.new.self c.advance_head.result c.advance_head.new.out) c.args.self.now
    c.advance_head.new.self c.advance_head.result c.advance_head.new.out e c.advance_head.ensures.nothing c.advance_head.ensures.unchanged
    (λ steps before. steps_foreign c.args.self.now c.advance_head.new.self well c.advance_head.ensures.shape c.advance_head.result c.advance_head.new.out chip Ready first e is steps before)
    c.advance_head.ensures.goes at

pub returns-in-Ready-clause-entries : goal.returns-in-Ready-clause-entries
returns-in-Ready-clause-entries g c = λ first e at stand.
    let s = c.self.inside in
    let d : DeviceState = record { store = s.store; shape = s.shape; regions = s.regions.items; lists = s.lists; tasks = s.tasks.items; held = s.held.items; counts = s.counts } in
    let well : IsWell c.args.self.now = subst IsWell c.self.view_is (well_of d s.luns _ c.self.invariant c.phase.ensures.stands) in
    let is : c.args.self.now.store.phase ≡ Ready = ap (λ (x : DeviceState). x.store.phase) (sym c.self.view_is) ∙ (sym c.phase.ensures.phase ∙ c.in-Ready.is) in
    idle_or (EntriesStand) (GoesOn c.args.self.now c.advance_head.new.self c.advance_head.result c.advance_head.new.out) c.args.self.now c.advance_head.new.self c.advance_head.result
    c.advance_head.new.out e c.advance_head.ensures.nothing c.advance_head.ensures.unchanged
    (λ steps before. steps_entries c.args.self.now c.advance_head.new.self well c.advance_head.ensures.shape c.advance_head.result c.advance_head.new.out Ready first e is steps at before)
    c.advance_head.ensures.goes stand

pub returns-in-Ready-clause-listings : goal.returns-in-Ready-clause-listings
returns-in-Ready-clause-listings g c = λ had pages first e at stand.
    let s = c.self.inside in
    let d : DeviceState = record { store = s.store; shape = s.shape; regions = s.regions.items; lists = s.lists; tasks = s.tasks.items; held = s.held.items; counts = s.counts } in
    let well : IsWell c.args.self.now = subst IsWell c.self.view_is (well_of d s.luns _ c.self.invariant c.phase.ensures.stands) in
    let is : c.args.self.now.store.phase ≡ Ready = ap (λ (x : DeviceState). x.store.phase) (sym c.self.view_is) ∙ (sym c.phase.ensures.phase ∙ c.in-Ready.is) in
    idle_or (ListingStands had pages) (GoesOn c.args.self.now c.advance_head.new.self c.advance_head.result c.advance_head.new.out) c.args.self.now c.advance_head.new.self c.advance_head.result
    c.advance_head.new.out e c.advance_head.ensures.nothing c.advance_head.ensures.unchanged
    (λ steps before. steps_listings c.args.self.now c.advance_head.new.self well c.advance_head.ensures.shape c.advance_head.result c.advance_head.new.out had pages Ready first e is steps at before)
    c.advance_head.ensures.goes stand

pub returns-in-Foreign-clause-foreign : goal.returns-in-Foreign-clause-foreign
returns-in-Foreign-clause-foreign g c = λ chip first e at.
    let s = c.self.inside in
    let d : DeviceState = record { store = s.store; shape = s.shape; regions = s.regions.items; lists = s.lists; tasks = s.tasks.items; held = s.held.items; counts = s.counts } in
    let well : IsWell c.args.self.now = subst IsWell c.self.view_is (well_of d s.luns _ c.self.invariant c.phase.ensures.stands) in
    let is : c.args.self.now.store.phase ≡ Foreign = ap (λ (x : DeviceState). x.store.phase) (sym c.self.view_is) ∙ (sym c.phase.ensures.phase ∙ c.in-Foreign.is) in
    idle_or (λ (x : DeviceState) (h : History). DeviceStandsForeign x chip first h) (Refuses c.args.self.now c.refuse_head.new.self c.refuse_head.result c.refuse_head.new.out) c.args.self.now
    c.refuse_head.new.self c.refuse_head.result c.refuse_head.new.out e c.refuse_head.ensures.nothing c.refuse_head.ensures.unchanged
    (λ steps before. steps_foreign c.args.self.now c.refuse_head.new.self well c.refuse_head.ensures.shape c.refuse_head.result c.refuse_head.new.out chip Foreign first e is steps before)
    c.refuse_head.ensures.refuses at

pub returns-in-Scanning-clause-counted : goal.returns-in-Scanning-clause-counted
returns-in-Scanning-clause-counted g c = λ first e at entries lists stand.
    let s = c.self.inside in
    let d : DeviceState = record { store = s.store; shape = s.shape; regions = s.regions.items; lists = s.lists; tasks = s.tasks.items; held = s.held.items; counts = s.counts } in
    let well : IsWell c.args.self.now = subst IsWell c.self.view_is (well_of d s.luns _ c.self.invariant c.phase.ensures.stands) in
    let is : c.args.self.now.store.phase ≡ Scanning = ap (λ (x : DeviceState). x.store.phase) (sym c.self.view_is) ∙ (sym c.phase.ensures.phase ∙ c.in-Scanning.is) in
    steps_counts c.args.self.now c.scan.new.self well c.scan.ensures.shape c.scan.result c.scan.new.out Scanning first e is c.scan.ensures.scans at entries lists stand

pub returns-in-Ready-clause-counted : goal.returns-in-Ready-clause-counted
returns-in-Ready-clause-counted g c = λ first e at entries lists stand.
    let s = c.self.inside in
    let d : DeviceState = record { store = s.store; shape = s.shape; regions = s.regions.items; lists = s.lists; tasks = s.tasks.items; held = s.held.items; counts = s.counts } in
    let well : IsWell c.args.self.now = subst IsWell c.self.view_is (well_of d s.luns _ c.self.invariant c.phase.ensures.stands) in
    let is : c.args.self.now.store.phase ≡ Ready = ap (λ (x : DeviceState). x.store.phase) (sym c.self.view_is) ∙ (sym c.phase.ensures.phase ∙ c.in-Ready.is) in
    idle_or (CountsStand) (GoesOn c.args.self.now c.advance_head.new.self c.advance_head.result c.advance_head.new.out) c.args.self.now c.advance_head.new.self c.advance_head.result
    c.advance_head.new.out e c.advance_head.ensures.nothing c.advance_head.ensures.unchanged
    (λ steps before. steps_counts c.args.self.now c.advance_head.new.self well c.advance_head.ensures.shape c.advance_head.result c.advance_head.new.out Ready first e is steps at entries lists before)
    c.advance_head.ensures.goes stand

pub returns-in-Ready-clause-looked : goal.returns-in-Ready-clause-looked
returns-in-Ready-clause-looked g c = λ idle.
    let is : c.self.inside.store.phase ≡ Ready = sym c.phase.ensures.phase ∙ c.in-Ready.is in
    let stands : IsStanding c.args.self.now.store = subst (λ (x : DeviceState). IsStanding x.store) c.self.view_is c.phase.ensures.stands in
    let now : c.args.self.now.store.phase ≡ Ready = ap (λ (x : DeviceState). x.store.phase) (sym c.self.view_is) ∙ is in
    let read = stands.scanned (λ scans. absurd (apart-Ready (sym scans ∙ now))) in
    omega (arith, read)

pub returns-in-Foreign-clause-looked : goal.returns-in-Foreign-clause-looked
returns-in-Foreign-clause-looked g c = λ idle.
    let is : c.self.inside.store.phase ≡ Foreign = sym c.phase.ensures.phase ∙ c.in-Foreign.is in
    let stands : IsStanding c.args.self.now.store = subst (λ (x : DeviceState). IsStanding x.store) c.self.view_is c.phase.ensures.stands in
    let now : c.args.self.now.store.phase ≡ Foreign = ap (λ (x : DeviceState). x.store.phase) (sym c.self.view_is) ∙ is in
    let read = stands.scanned (λ scans. absurd (apart-Foreign (sym scans ∙ now))) in
    omega (arith, read)

pub returns-in-Scanning-clause-hints : goal.returns-in-Scanning-clause-hints
returns-in-Scanning-clause-hints g c = λ e keeps stand.
    let s = c.self.inside in
    let d : DeviceState = record { store = s.store; shape = s.shape; regions = s.regions.items; lists = s.lists; tasks = s.tasks.items; held = s.held.items; counts = s.counts } in
    let well : IsWell c.args.self.now = subst IsWell c.self.view_is (well_of d s.luns _ c.self.invariant c.phase.ensures.stands) in
    steps_hints Scanning c.args.self.now c.scan.new.self c.scan.result c.scan.new.out e well.regions c.scan.ensures.scans c.scan.ensures.shape keeps stand

pub returns-in-Ready-clause-hints : goal.returns-in-Ready-clause-hints
returns-in-Ready-clause-hints g c = λ e keeps stand.
    let s = c.self.inside in
    let d : DeviceState = record { store = s.store; shape = s.shape; regions = s.regions.items; lists = s.lists; tasks = s.tasks.items; held = s.held.items; counts = s.counts } in
    let well : IsWell c.args.self.now = subst IsWell c.self.view_is (well_of d s.luns _ c.self.invariant c.phase.ensures.stands) in
    idle_or HintsStand (GoesOn c.args.self.now c.advance_head.new.self c.advance_head.result c.advance_head.new.out) c.args.self.now c.advance_head.new.self c.advance_head.result
    c.advance_head.new.out e c.advance_head.ensures.nothing c.advance_head.ensures.unchanged
    (λ steps before. steps_hints Ready c.args.self.now c.advance_head.new.self c.advance_head.result c.advance_head.new.out e well.regions steps c.advance_head.ensures.shape keeps before)
    c.advance_head.ensures.goes stand

pub returns-in-Foreign-clause-hints : goal.returns-in-Foreign-clause-hints
returns-in-Foreign-clause-hints g c = λ e keeps stand.
    let s = c.self.inside in
    let d : DeviceState = record { store = s.store; shape = s.shape; regions = s.regions.items; lists = s.lists; tasks = s.tasks.items; held = s.held.items; counts = s.counts } in
    let well : IsWell c.args.self.now = subst IsWell c.self.view_is (well_of d s.luns _ c.self.invariant c.phase.ensures.stands) in
    idle_or HintsStand (Refuses c.args.self.now c.refuse_head.new.self c.refuse_head.result c.refuse_head.new.out) c.args.self.now c.refuse_head.new.self c.refuse_head.result c.refuse_head.new.out e
    c.refuse_head.ensures.nothing c.refuse_head.ensures.unchanged
    (λ steps before. steps_hints Foreign c.args.self.now c.refuse_head.new.self c.refuse_head.result c.refuse_head.new.out e well.regions steps c.refuse_head.ensures.shape keeps before)
    c.refuse_head.ensures.refuses stand

pub returns-in-Scanning-clause-fetched : goal.returns-in-Scanning-clause-fetched
returns-in-Scanning-clause-fetched g c = λ e keeps stand.
    let s = c.self.inside in
    let d : DeviceState = record { store = s.store; shape = s.shape; regions = s.regions.items; lists = s.lists; tasks = s.tasks.items; held = s.held.items; counts = s.counts } in
    let well : IsWell c.args.self.now = subst IsWell c.self.view_is (well_of d s.luns _ c.self.invariant c.phase.ensures.stands) in
    steps_lists Scanning c.args.self.now c.scan.new.self c.scan.result c.scan.new.out e well c.scan.ensures.scans c.scan.ensures.shape keeps stand

pub returns-in-Ready-clause-fetched : goal.returns-in-Ready-clause-fetched
returns-in-Ready-clause-fetched g c = λ e keeps stand.
    let s = c.self.inside in
    let d : DeviceState = record { store = s.store; shape = s.shape; regions = s.regions.items; lists = s.lists; tasks = s.tasks.items; held = s.held.items; counts = s.counts } in
    let well : IsWell c.args.self.now = subst IsWell c.self.view_is (well_of d s.luns _ c.self.invariant c.phase.ensures.stands) in
    idle_or ListsStand (GoesOn c.args.self.now c.advance_head.new.self c.advance_head.result c.advance_head.new.out) c.args.self.now c.advance_head.new.self c.advance_head.result
    c.advance_head.new.out e c.advance_head.ensures.nothing c.advance_head.ensures.unchanged
    (λ steps before. steps_lists Ready c.args.self.now c.advance_head.new.self c.advance_head.result c.advance_head.new.out e well steps c.advance_head.ensures.shape keeps before)
    c.advance_head.ensures.goes stand

pub returns-in-Foreign-clause-fetched : goal.returns-in-Foreign-clause-fetched
returns-in-Foreign-clause-fetched g c = λ e keeps stand.
    let s = c.self.inside in
    let d : DeviceState = record { store = s.store; shape = s.shape; regions = s.regions.items; lists = s.lists; tasks = s.tasks.items; held = s.held.items; counts = s.counts } in
    let well : IsWell c.args.self.now = subst IsWell c.self.view_is (well_of d s.luns _ c.self.invariant c.phase.ensures.stands) in
    idle_or ListsStand (Refuses c.args.self.now c.refuse_head.new.self c.refuse_head.result c.refuse_head.new.out) c.args.self.now c.refuse_head.new.self c.refuse_head.result c.refuse_head.new.out e
    c.refuse_head.ensures.nothing c.refuse_head.ensures.unchanged
    (λ steps before. steps_lists Foreign c.args.self.now c.refuse_head.new.self c.refuse_head.result c.refuse_head.new.out e well steps c.refuse_head.ensures.shape keeps before)
    c.refuse_head.ensures.refuses stand
