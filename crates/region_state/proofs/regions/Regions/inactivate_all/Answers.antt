use Rattle.std.proofs.Common.{arith, rules, ◌≡◌, ◌∙◌, sym, refl, map, replicate, length, vec_len, ap}
use Rattle.region_state.specs.declared.subregion.Subregion.{Subregion}
use Rattle.region_state.specs.Shape.{region_count}
use Rattle.region_state.specs.Machine.{after_all_inactive}
use Rattle.region_state.specs.Subregion.{unloaded}
use Rattle.region_state.proofs.ListLemmas.{map-constant}
use Rattle.std.proofs.lemmas.List.{length-replicate}
use Rattle.region_state.proofs.Apart.{IsApart-none}
use Rattle.region_state.proofs.Due.{none-replicate}
use Rattle.region_state.proofs.KeptLemmas.{IsKept-changed}
use Rattle.region_state.proofs.regions.Regions.inactivate_all.Goals as goal

pub returns-clause-new : goal.returns-clause-new
unfolding after_all_inactive
returns-clause-new c =
    let long : vec_len c.self.inside.subregions ≡ length c.self.inside.subregions.items = search rules in
    let filled : c.fill.new.self.items ≡ map {A = Subregion} (λ _. unloaded) c.self.inside.subregions.items =
    c.fill.ensures.items (λ y is. is) ∙ ap (λ n. replicate n unloaded) long ∙ sym (map-constant unloaded c.self.inside.subregions.items) in
    rw (← c.self.view_is, c.clear.ensures.items, c.clear-2.ensures.items, filled) refl

pub invariant_of-self : goal.invariant_of-self
invariant_of-self c =
    let long : vec_len c.self.inside.subregions ≡ length c.self.inside.subregions.items = search rules in
    let filled : c.fill.new.self.items ≡ replicate (vec_len c.self.inside.subregions) unloaded = c.fill.ensures.items (λ y is. is) in
    IsKept-changed c.self.invariant _ _ _ _ _ _
    (rw c.clear.ensures.items (omega arith))
    (rw filled (length-replicate (vec_len c.self.inside.subregions) unloaded ∙ long))
    (rw (c.clear.ensures.items, c.clear-2.ensures.items) (IsApart-none (region_count c.self.inside.shape)))
    (omega arith) (omega arith)
    (λ _. rw filled (none-replicate (vec_len c.self.inside.subregions)))
