use Rattle.std.proofs.Common.{arith, refl, ap, sym, ◌∙◌, ◌-◌, ◌+◌, ℕ, List, length, vec_len}
use Rattle.std.proofs.lemmas.Bool.{or_parts}
use Rattle.std.specs.List.{list_any, range_with_len}
use Rattle.region_state.specs.Subregion.{is_due, read_counted}
use Rattle.region_state.proofs.Apart.{IsApart-fold, length-fold_limit}
use Rattle.region_state.proofs.Due.{none-refilled, none-each_within}
use Rattle.region_state.proofs.KeptLemmas.{IsKept-changed, length-refilled}
use Rattle.region_state.proofs.regions.Regions.read.Goals as goal

pub invariant_of-self : goal.invariant_of-self
invariant_of-self c =
    let touched : List ℕ = range_with_len c.region_of.result (c.region_of-2.result + 1 - c.region_of.result) in
    IsKept-changed c.self.invariant _ _ _ _ _ _
    (rw c.touch.ensures.items (length-fold_limit c.self.inside.shape.held touched c.self.inside.held.items c.self.invariant.held_limit))
    (length-refilled (vec_len c.self.inside.subregions) c.count_reads.new.subregions c.self.inside.subregions.items
    (c.count_reads.auto.subregions ∙ c.deref_mut.ensures.len)
    ∙ sym c.deref_mut.ensures.len ∙ ap length c.deref_mut.ensures.value)
    (rw c.touch.ensures.items (IsApart-fold _ touched c.self.inside.held.items c.self.inside.gone.items c.self.invariant.lists))
    c.touch.ensures.capacity (omega arith)
    (λ none.
    let parts = or_parts c.self.inside.may_be_due c.count_reads.result none in
    none-refilled (vec_len c.self.inside.subregions) c.count_reads.new.subregions c.self.inside.subregions.items
    (ap (list_any is_due) c.count_reads.ensures.counted
    ∙ none-each_within read_counted c.from-first.result _ c.deref_mut.result.now (sym c.count_reads.ensures.due ∙ parts.1)
    (ap (list_any is_due) c.deref_mut.ensures.value ∙ c.self.invariant.none_due parts.0))
    (c.self.invariant.none_due parts.0))

pub invariant_of-self-else-plain : goal.invariant_of-self-else-plain
invariant_of-self-else-plain c =
    let touched : List ℕ = range_with_len c.region_of.result (c.region_of-2.result + 1 - c.region_of.result) in
    IsKept-changed c.self.invariant _ _ _ _ _ _
    (rw c.touch.ensures.items (length-fold_limit c.self.inside.shape.held touched c.self.inside.held.items c.self.invariant.held_limit))
    refl
    (rw c.touch.ensures.items (IsApart-fold _ touched c.self.inside.held.items c.self.inside.gone.items c.self.invariant.lists))
    c.touch.ensures.capacity (omega arith) c.self.invariant.none_due
