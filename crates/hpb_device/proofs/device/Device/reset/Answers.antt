use Rattle.std.proofs.Common.{length, ◌∙◌, refl, sym, ap, subst}
use Rattle.hpb_device.specs.Advance.{IsSameStore}
use Rattle.hpb_device.specs.Counted.{CountsStand}
use Rattle.hpb_device.specs.Listed.{ListingStands}
use Rattle.hpb_device.specs.Standing.{DeviceStands}
use Rattle.hpb_device.specs.State.{DeviceState}
use Rattle.flash_store.specs.Store.{StoreState}
use Rattle.hpb_device.proofs.Collecting.{reset_listings, reset_stands}
use Rattle.hpb_device.specs.Regions.{HintsStand}
use Rattle.hpb_device.proofs.Fetching.{reset_lists}
use Rattle.hpb_device.proofs.Hinting.{hints_reset}
use Rattle.hpb_device.proofs.Machines.{count_of}
use Rattle.hpb_device.proofs.StepStands.{sizes_same}
use Rattle.hpb_device.proofs.CountingCalls.{reset_counts}
use Rattle.hpb_device.proofs.Unready.{sound_along}
use Rattle.hpb_device.proofs.device.Device.reset.Given.{Over}
use Rattle.hpb_device.proofs.device.Device.reset.Goals.{After-reset}
use Rattle.hpb_device.proofs.device.Device.reset.Goals as goal

-- the device before the call, and after it
abbrev before : (g : Over) → After-reset g → DeviceState
before g c = let s = c.self.inside in record { store = s.store; shape = s.shape; regions = s.regions.items; lists = s.lists; tasks = s.tasks.items; held = s.held.items; counts = s.counts }

abbrev after : (g : Over) → After-reset g → DeviceState
after g c = record (before g c) { store = c.reset.new.self; regions = c.reset_all.new.machines.items; lists = c.clear.new.self; tasks = c.clear-2.new.self.items; held = c.clear-3.new.self.items }

pub returns-clause-stands : goal.returns-clause-stands
returns-clause-stands g c = λ first e at.
    let d = before g c in
    let n = after g c in
    let here : DeviceStands d first e = subst (λ (x : DeviceState). DeviceStands x first e) (sym c.self.view_is) at in
    let store = c.reset.ensures in
    let same : IsSameStore d.store n.store = record {
      geometry = ap (λ (z : StoreState). z.geometry) store;
      luns = ap (λ (z : StoreState). z.luns) store;
      units = ap (λ (z : StoreState). z.units) store;
    } in
    let pages = ap (λ (z : StoreState). z.pages) store in
    reset_stands d n first e same pages refl c.clear-2.ensures c.clear-3.ensures.items refl (sound_along d n same pages here.sound) here

pub returns-clause-listings : goal.returns-clause-listings
returns-clause-listings g c = λ had pages e stand.
    let d = before g c in
    let n = after g c in
    let here : ListingStands had pages d e = subst (λ (x : DeviceState). ListingStands had pages x e) (sym c.self.view_is) stand in
    let store = c.reset.ensures in
    reset_listings had pages d n e (record {
      geometry = ap (λ (z : StoreState). z.geometry) store;
      luns = ap (λ (z : StoreState). z.luns) store;
      units = ap (λ (z : StoreState). z.units) store;
    }) (ap (λ (z : StoreState). z.pages) store) refl c.clear-2.ensures here

pub returns-clause-hints : goal.returns-clause-hints
returns-clause-hints g c = λ e stand.
    let d = before g c in
    let n = after g c in
    let here : HintsStand d e = subst (λ (x : DeviceState). HintsStand x e) (sym c.self.view_is) stand in
    let store = c.reset.ensures in
    let count = count_of d.shape c.self.inside.luns d.regions c.self.invariant.shapes in
    hints_reset d n e (count ∙ sym c.self.invariant.luns_served) c.reset_all.ensures.regions refl (sizes_same d n (record {
      geometry = ap (λ (z : StoreState). z.geometry) store;
      luns = ap (λ (z : StoreState). z.luns) store;
      units = ap (λ (z : StoreState). z.units) store;
    }) refl) here

pub returns-clause-counted : goal.returns-clause-counted
returns-clause-counted g c = λ e stand.
    let d = before g c in
    let n = after g c in
    let here : CountsStand d e = subst (λ (x : DeviceState). CountsStand x e) (sym c.self.view_is) stand in
    let store = c.reset.ensures in
    reset_counts d n e (record {
      geometry = ap (λ (z : StoreState). z.geometry) store;
      luns = ap (λ (z : StoreState). z.luns) store;
      units = ap (λ (z : StoreState). z.units) store;
    }) (ap (λ (z : StoreState). z.pages) store) refl c.clear-2.ensures (ap (λ (z : StoreState). z.scanned) store) refl here

pub returns-clause-fetched : goal.returns-clause-fetched
returns-clause-fetched g c = λ e stand. reset_lists (after g c) (length c.self.inside.lists) e c.clear.ensures.list
