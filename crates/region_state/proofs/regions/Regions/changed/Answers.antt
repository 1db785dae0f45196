use Rattle.std.proofs.Common.{subst, ◌-◌, arith, sym, refl, ◌≡◌, ◌<◌, ◌∙◌, length, get_or, length-set}
use Rattle.std.proofs.lemmas.Bool.{or_parts}
use Rattle.std.proofs.lemmas.List.{get_or_default}
use Rattle.region_state.specs.Subregion.{unloaded}
use Rattle.region_state.specs.Machine.{Machine, after_change}
use Rattle.region_state.proofs.Due.{none-set}
use Rattle.region_state.proofs.KeptLemmas.{IsKept-changed}
use Rattle.region_state.proofs.ShapeLemmas.{div-lt}
use Rattle.region_state.proofs.regions.Regions.changed.Goals as goal

pub invariant_of-self : goal.invariant_of-self
invariant_of-self c =
    IsKept-changed c.self.invariant _ _ _ _ _ _ c.self.invariant.held_limit (length-set c.self.inside.subregions.items c.from-number.result _)
    c.self.invariant.lists (omega arith) (omega arith)
    (λ none.
    let parts = or_parts c.self.inside.may_be_due c.is_due.result none in
    none-set c.self.inside.subregions.items c.from-number.result c.write_counted-counted.result (sym c.is_due.ensures ∙ parts.1)
    (c.self.invariant.none_due parts.0))

pub returns-clause-new : goal.returns-clause-new
unfolding after_change
returns-clause-new c =
    let P : Machine → Type 0 = λ m. c.args.lba < m.shape.units in
    let below : c.args.lba < c.self.inside.shape.units = subst P (sym c.self.view_is) c.requires in
    let within : c.from-number.result < length c.self.inside.subregions.items =
    omega (arith, c.self.invariant.all_subregions, div-lt c.args.lba c.self.inside.shape.units (c.self.inside.shape.sub_exp - 3) below) in
    let read : c.index.result.now ≡ get_or c.self.inside.subregions.items c.from-number.result unloaded =
    c.index.ensures ∙ get_or_default c.self.inside.subregions.items c.from-number.result c.index.result.now unloaded within in
    rw (← c.self.view_is, c.write_counted-counted.ensures, read, c.from-number.ensures, c.subregion_of.ensures) refl
