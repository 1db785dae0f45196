use Rattle.std.proofs.Common.{◌*◌, ◌+◌, false}
use Rattle.host_map_cache.proofs.Kept.{with_regions}
use Rattle.host_map_cache.proofs.Lists.{IsApart-changed}
use Rattle.host_map_cache.specs.Regions.{with_dirty}
use Rattle.host_map_cache.proofs.Places.{present, in_blocks}
use Rattle.host_map_cache.proofs.cache.Cache.issued.Goals as goal

pub set_dirty-requires-clause-inside : goal.set_dirty-requires-clause-inside
set_dirty-requires-clause-inside c = let p = present c.self.inside.shape c.args.region c.args.sub c.self.invariant.is_shape (rw (← c.self.view_is) at c.requires) in
    rw (c.self.invariant.sub_size, c.sub_length.ensures, ← c.self.view_is, c.self.invariant.blocks) (in_blocks c.self.inside.shape c.args.region c.args.sub p)

pub invariant_of-self : goal.invariant_of-self
invariant_of-self c = rw c.set_dirty.ensures (with_regions c.self.invariant _
    (IsApart-changed _ _ c.args.region (with_dirty (c.args.sub * c.self.inside.sub_blocks) (c.args.sub * c.self.inside.sub_blocks + c.sub_length.result) false)
    c.self.inside.slots.regions c.self.invariant.apart))
