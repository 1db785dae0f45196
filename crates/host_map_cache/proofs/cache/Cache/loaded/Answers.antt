use Rattle.host_map_cache.proofs.Kept.{with_regions}
use Rattle.host_map_cache.proofs.Lists.{IsApart-changed}
use Rattle.host_map_cache.specs.Regions.{with_state, with_entries, changed}
use Rattle.host_map_cache.specs.declared.slots.SubregionState.TheVariants.{Valid}
use Rattle.host_map_cache.proofs.Places.{present, in_subregions, whole_entries}
use Rattle.host_map_cache.proofs.cache.Cache.loaded.Goals as goal

pub set_state-requires : goal.set_state-requires
set_state-requires c = let p = present c.self.inside.shape c.args.region c.args.sub c.self.invariant.is_shape (rw (← c.self.view_is) at c.requires.present) in
    rw (c.load.ensures, c.self.invariant.subregions) (in_subregions c.self.inside.shape c.args.region c.args.sub c.self.invariant.is_shape p)

pub load-requires-clause-inside : goal.load-requires-clause-inside
load-requires-clause-inside c = let p = present c.self.inside.shape c.args.region c.args.sub c.self.invariant.is_shape (rw (← c.self.view_is) at c.requires.present) in
    rw (c.self.invariant.sub_size, c.self.invariant.blocks) (whole_entries c.self.inside.shape c.args.region c.args.sub c.args.bytes.now p (rw (← c.self.view_is) at c.requires.whole))

pub invariant_of-self : goal.invariant_of-self
invariant_of-self c = rw (c.set_state.ensures, c.load.ensures) (with_regions c.self.invariant _
    (IsApart-changed _ _ c.args.region (with_state c.args.sub Valid) (changed c.args.region (with_entries _ c.args.bytes.now) c.self.inside.slots.regions)
    (IsApart-changed _ _ c.args.region (with_entries _ c.args.bytes.now) c.self.inside.slots.regions c.self.invariant.apart)))
