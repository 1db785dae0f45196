use Rattle.std.proofs.Common.{◌≡◌, ◌*◌, [], length, rules, refl, sym, ap, ◌∙◌}
use Rattle.flash_pages.specs.declared.chip.Geometry.{Geometry}
use Rattle.hpb_device.specs.Counts.{no_counts}
use Rattle.hpb_device.specs.State.{DeviceState}
use Rattle.hpb_device.proofs.CountingCalls.{begins_counts}
use Rattle.hpb_device.proofs.device.Device.new.Goals as goal

pub returns-clause-counted : goal.returns-clause-counted
returns-clause-counted g c =
    let store = c.in_ok-store.store in
    let made = c.in_ok-store.ensures in
    let d : DeviceState = record {
      store = store;
      shape = c.args.shape;
      regions = c.in-Ok-new_regions.regions.items;
      lists = c.in-Ok-new.lists;
      tasks = c.new-3.result.items;
      held = c.in-Ok.held.items;
      counts = no_counts;
    } in
    let none : d.tasks ≡ [] = search rules in
    let whole : length d.store.pages ≡ d.store.geometry.blocks * d.store.geometry.pages =
    ap length made.pages ∙ ((g.met.F.Flash.whole c.args.flash).count ∙ ap (λ (geometry : Geometry). geometry.blocks * geometry.pages) (sym made.geometry)) in
    begins_counts d whole none refl made.scanned
