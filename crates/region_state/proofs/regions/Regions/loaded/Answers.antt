use Rattle.std.proofs.Common.{rules, arith, refl, false, ap, sym, subst, ◌∙◌, ◌≡◌, ◌<◌, ◌∷◌, length, vec_len, length-set}
use Rattle.region_state.specs.declared.shape.Shape.{Shape}
use Rattle.region_state.specs.Lists.{has, without, with_first}
use Rattle.region_state.specs.Shape.{HasSubregion, number_of, region_count, subregion_count}
use Rattle.region_state.specs.Machine.{Machine}
use Rattle.region_state.proofs.Apart.{IsApart-with_first}
use Rattle.region_state.specs.Subregion.{just_loaded}
use Rattle.region_state.proofs.Due.{none-set}
use Rattle.region_state.proofs.KeptLemmas.{IsKept-changed}
use Rattle.region_state.proofs.ListLemmas.{length-without_room}
use Rattle.region_state.proofs.ShapeLemmas.{number_of-lt, region-lt, has_region}
use Rattle.region_state.proofs.regions.Regions.loaded.Goals as goal

pub unwrap-requires : goal.unwrap-requires
unwrap-requires c =
    let P : Machine → Type 0 = λ m. has c.args.region m.held ≡ false → length m.held < m.shape.held in
    let room = subst P (sym c.self.view_is) c.make_room.ensures.room in
    let fewer : length (without c.args.region c.self.inside.held.items) < c.self.inside.shape.held =
    length-without_room c.args.region c.self.inside.held.items c.self.inside.shape.held c.self.invariant.held_limit room in
    let taken = ap length c.remove.ensures.items in
    c.insert.ensures.succeeds (omega (arith, c.self.invariant.held_room, c.remove.ensures.capacity))

pub index_mut-requires : goal.index_mut-requires
index_mut-requires c =
    let long : vec_len c.self.inside.subregions ≡ length c.self.inside.subregions.items = search rules in
    let P : Shape → Type 0 = λ shape. HasSubregion shape c.args.region c.args.sub in
    let same : c.self.inside.shape ≡ c.args.self.now.shape = ap (λ (m : Machine). m.shape) c.self.view_is ∙ c.make_room.ensures.shape in
    let below : number_of c.self.inside.shape c.args.region c.args.sub < subregion_count c.self.inside.shape =
    number_of-lt c.self.inside.shape c.self.invariant.limits c.args.region c.args.sub (subst P (sym same) c.requires) in
    omega (arith, c.number_of-number.ensures, c.self.invariant.all_subregions)

pub invariant_of-self : goal.invariant_of-self
invariant_of-self c =
    let P : Shape → Type 0 = λ shape. HasSubregion shape c.args.region c.args.sub in
    let same : c.self.inside.shape ≡ c.args.self.now.shape = ap (λ (m : Machine). m.shape) c.self.view_is ∙ c.make_room.ensures.shape in
    let below : c.args.region < region_count c.self.inside.shape =
    region-lt c.self.inside.shape c.self.invariant.limits c.args.region
    (has_region c.self.inside.shape c.self.invariant.limits c.args.region c.args.sub (subst P (sym same) c.requires)) in
    let Q : Machine → Type 0 = λ m. has c.args.region m.held ≡ false → length m.held < m.shape.held in
    let room = subst Q (sym c.self.view_is) c.make_room.ensures.room in
    let fewer : length (without c.args.region c.self.inside.held.items) < c.self.inside.shape.held =
    length-without_room c.args.region c.self.inside.held.items c.self.inside.shape.held c.self.invariant.held_limit room in
    let inserted : c.insert.new.self.items ≡ with_first c.args.region c.self.inside.held.items =
    (rw c.unwrap.ensures at c.insert.ensures.items) ∙ ap (λ xs. c.args.region ∷ xs) c.remove.ensures.items in
    IsKept-changed c.self.invariant _ _ _ _ _ _
    (rw inserted (omega (arith, fewer)))
    (length-set c.self.inside.subregions.items c.number_of-number.result _)
    (rw (inserted, c.remove-2.ensures.items) (IsApart-with_first c.self.inside.held.items c.self.inside.gone.items _ c.self.invariant.lists c.args.region below))
    (omega (arith, c.insert.ensures.capacity))
    (omega (arith, c.remove-2.ensures.capacity))
    (λ none. none-set c.self.inside.subregions.items c.number_of-number.result just_loaded refl (c.self.invariant.none_due none))
