use Rattle.std.proofs.Common.{arith, ap, ◌<◌, length, vec_len, sym, subst, ◌∙◌}
use Rattle.region_state.specs.Shape.{HasRegion, number_of, subregion_count}
use Rattle.std.specs.List.{list_any}
use Rattle.region_state.specs.Subregion.{is_due}
use Rattle.region_state.specs.Machine.{Machine}
use Rattle.region_state.proofs.Apart.{IsApart-without}
use Rattle.region_state.proofs.Due.{none-refilled, none-each_forgotten}
use Rattle.region_state.proofs.KeptLemmas.{IsKept-changed, length-refilled}
use Rattle.region_state.proofs.ListLemmas.{length-without_le}
use Rattle.region_state.proofs.ShapeLemmas.{region-lt, first-lt}
use Rattle.region_state.proofs.regions.Regions.inactivate.Goals as goal

pub forget-requires-clause-start : goal.forget-requires-clause-start
forget-requires-clause-start c =
    let first : number_of c.self.inside.shape c.args.region 0 < subregion_count c.self.inside.shape =
    first-lt c.self.inside.shape c.self.invariant.limits c.args.region
    (region-lt c.self.inside.shape c.self.invariant.limits c.args.region
    (let P : Machine → Type 0 = λ m. HasRegion m.shape c.args.region in subst P (sym c.self.view_is) c.requires)) in
    let all = c.self.invariant.all_subregions in
    let same = ap length c.deref_mut.ensures.value in
    omega (arith, c.number_of-first.ensures)

pub invariant_of-self : goal.invariant_of-self
invariant_of-self c =
    IsKept-changed c.self.invariant _ _ _ _ _ _
    (rw c.remove.ensures.items (omega (arith, length-without_le c.args.region c.self.inside.held.items, c.self.invariant.held_limit)))
    (length-refilled (vec_len c.self.inside.subregions) c.forget.new.subregions c.self.inside.subregions.items (c.forget.auto.subregions ∙ c.deref_mut.ensures.len)
    ∙ sym c.deref_mut.ensures.len ∙ ap length c.deref_mut.ensures.value)
    (rw (c.remove.ensures.items, c.remove-2.ensures.items) (IsApart-without c.self.inside.held.items c.self.inside.gone.items _ c.self.invariant.lists c.args.region))
    (omega arith) (omega arith)
    (λ none.
    none-refilled (vec_len c.self.inside.subregions) c.forget.new.subregions c.self.inside.subregions.items
    (ap (list_any is_due) c.forget.ensures
    ∙ none-each_forgotten c.number_of-first.result _ c.deref_mut.result.now (ap (list_any is_due) c.deref_mut.ensures.value ∙ c.self.invariant.none_due none))
    (c.self.invariant.none_due none))
