use Rattle.std.proofs.Common.{sym, ap, arith, ◌∙◌, ◌≡◌, ◌-◌, nat_eq, length, Some, None}
use Rattle.std.specs.Prelude.{slice_get}
use Rattle.std.specs.Map.{lookup}
use Rattle.std.specs.Option.{option_map}
use Rattle.region_state.specs.Shape.{region_count}
use Rattle.host_map_cache.specs.Regions.{blank}
use Rattle.host_map_cache.proofs.Kept.{with_lists}
use Rattle.host_map_cache.proofs.Lists.{IsApart-claimed, IsApart-told_last, told_room, none-mapped}
use Rattle.host_map_cache.proofs.Places.{region-lt}
use Rattle.host_map_cache.proofs.cache.Cache.hold.Goals as goal

pub unwrap-requires : goal.unwrap-requires
unwrap-requires c =
    let below = region-lt c.self.inside.shape c.args.region (rw (← c.self.view_is) at c.requires) in
    let new : lookup (nat_eq c.args.region) c.self.inside.slots.regions ≡ None =
    sym c.get.ensures.found ∙ none-mapped _ c.get.result (sym c.is_some.ensures ∙ c.if-is_some.false) in
    let last : option_map (λ e. e.0) (slice_get c.self.inside.slots.regions (c.self.inside.slots.room - 1)) ≡ Some c.in-Some-Host.last =
    sym c.claim-last.ensures.given_up ∙ c.in-Some-Host.is-0 in
    let room = told_room (region_count c.self.inside.shape) c.args.region c.self.inside.slots.regions c.self.inside.evicted.items c.self.invariant.apart
    below new (c.self.inside.slots.room - 1) c.in-Some-Host.last last in
    c.push_back.ensures.succeeds (omega (arith, room, c.self.invariant.evicted_room, c.remove.ensures.capacity, ap length c.remove.ensures.items))

pub invariant_of-self : goal.invariant_of-self
invariant_of-self c =
    let below = region-lt c.self.inside.shape c.args.region (rw (← c.self.view_is) at c.requires) in
    let new : lookup (nat_eq c.args.region) c.self.inside.slots.regions ≡ None =
    sym c.get.ensures.found ∙ none-mapped _ c.get.result (sym c.is_some.ensures ∙ c.if-is_some.false) in
    let last : option_map (λ e. e.0) (slice_get c.self.inside.slots.regions (c.self.inside.slots.room - 1)) ≡ Some c.in-Some-Host.last =
    sym c.claim-last.ensures.given_up ∙ c.in-Some-Host.is-0 in
    let pushed = rw (c.unwrap.ensures, c.remove.ensures.items) at c.push_back.ensures.items in
    rw (c.claim-last.ensures.regions, pushed)
    (with_lists c.self.invariant _ _ _ _ _ c.self.invariant.are_wants
    (IsApart-told_last (region_count c.self.inside.shape) c.args.region c.self.inside.slots.regions c.self.inside.evicted.items c.self.invariant.apart
    below new (c.self.inside.slots.room - 1) c.in-Some-Host.last last (blank c.self.inside.slots.subregions c.self.inside.slots.blocks))
    (omega arith) (omega (arith, c.remove.ensures.capacity, c.push_back.ensures.capacity)))

pub invariant_of-self-in_default : goal.invariant_of-self-in_default
invariant_of-self-in_default c =
    let below = region-lt c.self.inside.shape c.args.region (rw (← c.self.view_is) at c.requires) in
    let new : lookup (nat_eq c.args.region) c.self.inside.slots.regions ≡ None =
    sym c.get.ensures.found ∙ none-mapped _ c.get.result (sym c.is_some.ensures ∙ c.if-is_some.false) in
    rw (c.claim-last.ensures.regions, c.remove.ensures.items)
    (with_lists c.self.invariant _ _ _ _ _ c.self.invariant.are_wants
    (IsApart-claimed (region_count c.self.inside.shape) c.args.region c.self.inside.slots.regions c.self.inside.evicted.items c.self.invariant.apart
    below new (c.self.inside.slots.room - 1) (blank c.self.inside.slots.subregions c.self.inside.slots.blocks))
    (omega arith) (omega (arith, c.remove.ensures.capacity)))

pub invariant_of-self-in_default-2 : goal.invariant_of-self-in_default-2
invariant_of-self-in_default-2 c =
    let below = region-lt c.self.inside.shape c.args.region (rw (← c.self.view_is) at c.requires) in
    let new : lookup (nat_eq c.args.region) c.self.inside.slots.regions ≡ None =
    sym c.get.ensures.found ∙ none-mapped _ c.get.result (sym c.is_some.ensures ∙ c.if-is_some.false) in
    rw (c.claim-last.ensures.regions, c.remove.ensures.items)
    (with_lists c.self.invariant _ _ _ _ _ c.self.invariant.are_wants
    (IsApart-claimed (region_count c.self.inside.shape) c.args.region c.self.inside.slots.regions c.self.inside.evicted.items c.self.invariant.apart
    below new (c.self.inside.slots.room - 1) (blank c.self.inside.slots.subregions c.self.inside.slots.blocks))
    (omega arith) (omega (arith, c.remove.ensures.capacity)))
