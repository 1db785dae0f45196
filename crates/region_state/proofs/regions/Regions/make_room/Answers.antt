use Rattle.std.proofs.Common.{rules, arith, true, false, ap, sym, subst, ◌∙◌, ◌≡◌, ◌<◌, ℕ, List, [], ◌∷◌, ◌++◌, length, vec_len, length-append}
use Rattle.std.proofs.lemmas.Bool.{false≢true}
use Rattle.region_state.specs.Lists.{has}
use Rattle.region_state.specs.Shape.{number_of, region_count, subregion_count}
use Rattle.region_state.specs.Kept.{IsApart}
use Rattle.std.specs.List.{list_any}
use Rattle.region_state.specs.Subregion.{is_due}
use Rattle.region_state.specs.Machine.{Machine}
use Rattle.region_state.proofs.Apart.{IsApart-dropped, last-lt, length-gone_lt}
use Rattle.region_state.proofs.Due.{none-refilled, none-each_forgotten}
use Rattle.region_state.proofs.KeptLemmas.{IsKept-changed, length-refilled}
use Rattle.region_state.proofs.ShapeLemmas.{first-lt}
use Rattle.region_state.proofs.regions.Regions.make_room.Goals as goal

pub returns-then-contains-clause-room : goal.returns-then-contains-clause-room
returns-then-contains-clause-room c none =
    let found : has c.args.region c.self.inside.held.items ≡ true = search rules in
    let P : Machine → Type 0 = λ m. has c.args.region m.held ≡ false in
    absurd (false≢true (sym (subst P (sym c.self.view_is) none) ∙ found))

pub forget-requires-clause-start : goal.forget-requires-clause-start
forget-requires-clause-start c =
    let P : List ℕ → Type 0 = λ held. IsApart held c.self.inside.gone.items (region_count c.self.inside.shape) in
    let apart : IsApart (c.pop.new.self.items ++ c.in-Some.last ∷ []) c.self.inside.gone.items (region_count c.self.inside.shape) =
    subst P c.in-Some.ensures.items c.self.invariant.lists in
    let first : number_of c.self.inside.shape c.in-Some.last 0 < subregion_count c.self.inside.shape =
    first-lt c.self.inside.shape c.self.invariant.limits c.in-Some.last (last-lt c.pop.new.self.items c.self.inside.gone.items c.in-Some.last _ apart) in
    let all = c.self.invariant.all_subregions in
    let same = ap length c.deref_mut.ensures.value in
    omega (arith, c.number_of-first.ensures)

pub unwrap-requires : goal.unwrap-requires
unwrap-requires c =
    let P : List ℕ → Type 0 = λ held. IsApart held c.self.inside.gone.items (region_count c.self.inside.shape) in
    let apart : IsApart (c.pop.new.self.items ++ c.in-Some.last ∷ []) c.self.inside.gone.items (region_count c.self.inside.shape) =
    subst P c.in-Some.ensures.items c.self.invariant.lists in
    let room : length c.self.inside.gone.items < region_count c.self.inside.shape =
    length-gone_lt c.pop.new.self.items c.self.inside.gone.items c.in-Some.last _ apart in
    c.push.ensures.succeeds (omega (arith, c.self.invariant.gone_room))

pub invariant_of-self : goal.invariant_of-self
invariant_of-self c =
    let P : List ℕ → Type 0 = λ held. IsApart held c.self.inside.gone.items (region_count c.self.inside.shape) in
    let apart : IsApart (c.pop.new.self.items ++ c.in-Some.last ∷ []) c.self.inside.gone.items (region_count c.self.inside.shape) =
    subst P c.in-Some.ensures.items c.self.invariant.lists in
    let pushed = rw c.unwrap.ensures at c.push.ensures.items in
    let fewer = ap length c.in-Some.ensures.items in
    IsKept-changed c.self.invariant _ _ _ _ _ _
    (omega (arith, c.self.invariant.held_limit, length-append c.pop.new.self.items (c.in-Some.last ∷ []), fewer))
    (length-refilled (vec_len c.self.inside.subregions) c.forget.new.subregions c.self.inside.subregions.items
    (c.forget.auto.subregions ∙ c.deref_mut.ensures.len)
    ∙ sym c.deref_mut.ensures.len ∙ ap length c.deref_mut.ensures.value)
    (rw pushed (IsApart-dropped c.pop.new.self.items c.self.inside.gone.items c.in-Some.last _ apart))
    (omega (arith, c.pop.ensures.capacity))
    (omega (arith, c.push.ensures.capacity))
    (λ none.
    none-refilled (vec_len c.self.inside.subregions) c.forget.new.subregions c.self.inside.subregions.items
    (ap (list_any is_due) c.forget.ensures
    ∙ none-each_forgotten c.number_of-first.result _ c.deref_mut.result.now (ap (list_any is_due) c.deref_mut.ensures.value ∙ c.self.invariant.none_due none))
    (c.self.invariant.none_due none))
