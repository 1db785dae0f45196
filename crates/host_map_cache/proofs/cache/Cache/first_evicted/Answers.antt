use Rattle.std.proofs.Common.{arith, sym, ◌≡◌, ◌<◌, ◌*◌, ℕ, Option, Some, None}
use Rattle.std.proofs.lemmas.Grind.{common_steps}
use Rattle.std.specs.Prelude.{IfSome, slice_get}
use Rattle.std.specs.Map.{keys_of}
use Rattle.region_state.specs.Shape.{region_count}
use Rattle.host_map_cache.specs.Shapes.{region_blocks}
use Rattle.host_map_cache.proofs.Lists.{first-lt}
use Rattle.host_map_cache.proofs.Places.{region_inside}
use Rattle.host_map_cache.proofs.cache.Cache.first_evicted.Goals as goal

pub returns-clause-present : goal.returns-clause-present
returns-clause-present c = rw (← c.self.view_is) (by_first c.copied.result (grind (arith, common_steps)))
  where
    by_first : (x : Option ℕ) → x ≡ slice_get c.self.inside.evicted.items 0 → IfSome x (λ region. region * region_blocks c.self.inside.shape < c.self.inside.shape.units)
    by_first None is = tt
    by_first (Some region) is = region_inside c.self.inside.shape region c.self.invariant.is_shape
        (first-lt (keys_of c.self.inside.slots.regions) c.self.inside.evicted.items (region_count c.self.inside.shape) region c.self.invariant.apart (sym is))
