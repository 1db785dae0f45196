use Rattle.std.proofs.Common.{arith, refl, ap, sym, ◌≡◌, ◌∙◌, Some, None, ◌<◌, length, get_or}
use Rattle.std.proofs.lemmas.List.{get_or_default}
use Rattle.std.specs.List.{position_from}
use Rattle.std.specs.Option.{option_map}
use Rattle.region_state.specs.Shape.{place_of}
use Rattle.region_state.specs.Subregion.{is_due, unloaded}
use Rattle.region_state.specs.contracts.regions.Regions.{the_view}
use Rattle.region_state.proofs.Due.{position-none, none-position}
use Rattle.region_state.proofs.KeptLemmas.{IsKept-changed, first-due, after_told-none, after_told-some}
use Rattle.region_state.proofs.regions.Regions.take_active.Goals as goal

pub returns-then-not-self-clause-first : goal.returns-then-not-self-clause-first
returns-then-not-self-clause-first c =
    let none : position_from is_due 0 c.self.inside.subregions.items ≡ None =
    position-none 0 c.self.inside.subregions.items (c.self.invariant.none_due c.if-not-self.true) in
    rw (← c.self.view_is)
    (sym (ap (option_map (place_of c.self.inside.shape)) (first-due (the_view c.self.inside) c.in-Device.is ∙ none)))

pub returns-then-not-self-clause-told : goal.returns-then-not-self-clause-told
returns-then-not-self-clause-told c =
    let none : position_from is_due 0 c.self.inside.subregions.items ≡ None =
    position-none 0 c.self.inside.subregions.items (c.self.invariant.none_due c.if-not-self.true) in
    rw (← c.self.view_is) (sym (after_told-none (the_view c.self.inside) c.in-Device.is none))

pub invariant_of-self : goal.invariant_of-self
invariant_of-self c =
    let none : position_from is_due 0 c.self.inside.subregions.items ≡ None =
    rw (← c.deref.ensures.value) (sym c.first_due.ensures.first ∙ c.in_default.is) in
    IsKept-changed c.self.invariant _ _ _ _ _ _ c.self.invariant.held_limit refl c.self.invariant.lists (omega arith) (omega arith)
    (λ _. none-position 0 c.self.inside.subregions.items none)

pub returns-in_default-clause-first : goal.returns-in_default-clause-first
returns-in_default-clause-first c =
    let none : position_from is_due 0 c.self.inside.subregions.items ≡ None =
    rw (← c.deref.ensures.value) (sym c.first_due.ensures.first ∙ c.in_default.is) in
    rw (← c.self.view_is)
    (sym (ap (option_map (place_of c.self.inside.shape)) (first-due (the_view c.self.inside) c.in-Device.is ∙ none)))

pub returns-in_default-clause-told : goal.returns-in_default-clause-told
returns-in_default-clause-told c =
    let none : position_from is_due 0 c.self.inside.subregions.items ≡ None =
    rw (← c.deref.ensures.value) (sym c.first_due.ensures.first ∙ c.in_default.is) in
    rw (← c.self.view_is) (sym (after_told-none (the_view c.self.inside) c.in-Device.is none))

pub returns-in-Some-clause-first : goal.returns-in-Some-clause-first
returns-in-Some-clause-first c =
    let some : position_from is_due 0 c.self.inside.subregions.items ≡ Some c.in-Some.number =
    rw (← c.deref.ensures.value) (sym c.in-Some.ensures.first) in
    rw (← c.self.view_is, c.place_of.ensures)
    (sym (ap (option_map (place_of c.self.inside.shape)) (first-due (the_view c.self.inside) c.in-Device.is ∙ some)))

pub returns-in-Some-clause-told : goal.returns-in-Some-clause-told
returns-in-Some-clause-told c =
    let some : position_from is_due 0 c.self.inside.subregions.items ≡ Some c.in-Some.number =
    rw (← c.deref.ensures.value) (sym c.in-Some.ensures.first) in
    let within : c.in-Some.number < length c.self.inside.subregions.items = rw (← c.deref.ensures.value) c.in-Some.ensures.bound in
    let read : c.index.result.now ≡ get_or c.self.inside.subregions.items c.in-Some.number unloaded =
    c.index.ensures ∙ get_or_default c.self.inside.subregions.items c.in-Some.number c.index.result.now unloaded within in
    rw (← c.self.view_is, c.recounted.ensures, read) (sym (after_told-some (the_view c.self.inside) c.in-Device.is c.in-Some.number some))
