use Rattle.std.proofs.Common.{◌≡◌, ℕ, ◌*◌, None, replicate, sym, ◌∙◌, ap, subst}
use Rattle.flash_pages.specs.declared.chip.Geometry.{Geometry}
use Rattle.flash_store.specs.Store.{StoreState}
use Rattle.region_state.specs.Machine.{start}
use Rattle.hpb_device.specs.Begun.{Begins}
use Rattle.hpb_device.specs.State.{DeviceState}
use Rattle.hpb_device.proofs.Begun.{begun_of, loads_count}
use Rattle.hpb_device.proofs.device.Device.load.Goals as goal

pub returns-clause-begun : goal.returns-clause-begun
returns-clause-begun g c =
    let s = c.self.inside in
    let old : DeviceState = record { store = s.store; shape = s.shape; regions = s.regions.items; lists = s.lists; tasks = s.tasks.items; held = s.held.items; counts = s.counts } in
    let now : DeviceState = record old { store = c.load.new.self } in
    let begins : Begins old = subst Begins (sym c.self.view_is) c.requires.begins in
    let store = c.load.ensures.begins in
    let luns : now.store.luns ≡ old.store.luns = ap (λ (z : StoreState). z.luns) store in
    begun_of now (record {
      scans = ap (λ (z : StoreState). z.phase) store;
      scanned = ap (λ (z : StoreState). z.scanned) store;
      lookups = ap (λ (z : StoreState). z.lookups) store ∙ begins.lookups;
      hits = ap (λ (z : StoreState). z.hits) store ∙ begins.hits;
      regions = begins.regions ∙ ap (λ (n : ℕ). replicate n (start old.shape)) (sym luns);
      lists = begins.lists ∙ ap (λ (n : ℕ). replicate (127 * n) None) (sym luns);
      tasks = begins.tasks;
      counts = begins.counts;
    }) (loads_count _ _ _ _ _ c.load.result c.load.ensures.loads ∙ (c.self.invariant.whole ∙ ap (λ (x : Geometry). x.blocks * x.pages) (sym (ap (λ (z : StoreState). z.geometry) store))))
