use Rattle.std.proofs.Common.{sym, arith, ◌∙◌}
use Rattle.std.proofs.Common.{IsTrue}
use Rattle.host_map_cache.specs.Shapes.{is_present}
use Rattle.host_map_cache.proofs.Kept.{with_lists, with_regions}
use Rattle.host_map_cache.proofs.Lists.{IsApart-changed}
use Rattle.host_map_cache.proofs.Wants.{AreWants-push, wants_room}
use Rattle.host_map_cache.specs.Regions.{with_state}
use Rattle.host_map_cache.specs.declared.slots.SubregionState.TheVariants.{Issued}
use Rattle.host_map_cache.proofs.cache.Cache.ask.Goals as goal

pub unwrap-requires : goal.unwrap-requires
unwrap-requires c =
    let there : IsTrue (is_present c.self.inside.shape c.args.region c.args.sub) = rw (← c.self.view_is) at c.requires in
    let new = rw (← c.self.view_is) at (sym c.is_wanted-is_wanted.ensures ∙ c.if-not-is_wanted.true) in
    let room = wants_room c.self.inside.shape c.self.invariant.is_shape c.args.region c.args.sub there c.self.inside.wants.items c.self.invariant.are_wants new in
    c.push_back.ensures.succeeds (omega (arith, room, c.self.invariant.wants_room))

pub invariant_of-self : goal.invariant_of-self
invariant_of-self c =
    let there : IsTrue (is_present c.self.inside.shape c.args.region c.args.sub) = rw (← c.self.view_is) at c.requires in
    let new = rw (← c.self.view_is) at (sym c.is_wanted-is_wanted.ensures ∙ c.if-not-is_wanted.true) in
    let pushed = rw c.unwrap.ensures at c.push_back.ensures.items in
    rw (c.set_state.ensures, pushed)
    (with_lists c.self.invariant _ _ _ _ _
    (AreWants-push c.self.inside.shape c.self.invariant.is_shape c.args.region c.args.sub there c.self.inside.wants.items c.self.invariant.are_wants new)
    (IsApart-changed _ _ c.args.region (with_state c.args.sub Issued) c.self.inside.slots.regions c.self.invariant.apart)
    (omega (arith, c.push_back.ensures.capacity)) (omega arith))

pub invariant_of-self-else-not-is_wanted : goal.invariant_of-self-else-not-is_wanted
invariant_of-self-else-not-is_wanted c = rw c.set_state.ensures
    (with_regions c.self.invariant _ (IsApart-changed _ _ c.args.region (with_state c.args.sub Issued) c.self.inside.slots.regions c.self.invariant.apart))
