-- The subregions to load: there is room for all of them.
use Rattle.std.proofs.Common.{◌≡◌, ℕ, ◌+◌, ◌-◌, ◌<◌, ◌≤◌, Bool, true, false, ◌&&◌, IsTrue, List, [], ◌∷◌, ◌++◌, length, map, refl, sym, ◌∙◌, subst}
use Rattle.std.proofs.Common.{arith, eqb, nat_eq, length-append, ⊎_elim}
use Rattle.std.proofs.lemmas.Bool.{false≢true, or_cases, or_parts, eqb-true, eq-eqb}
use Rattle.std.proofs.lemmas.List.{length-map, map-append}
use Rattle.std.specs.List.{AllByRecursion, list_any}
use Rattle.region_state.specs.declared.shape.Shape.{Shape}
use Rattle.region_state.specs.Lists.{has, is_distinct}
use Rattle.region_state.specs.Shape.{IsWithinLimits, number_of, per_region}
use Rattle.region_state.proofs.Apart.{length-distinct}
use Rattle.region_state.proofs.ShapeLemmas.{number_of-lt}
use Rattle.host_map_cache.specs.Shapes.{is_present}
use Rattle.host_map_cache.specs.Cache.{AreWants, IsThere, number_in, unit_subregions}
use Rattle.host_map_cache.proofs.Lists.{all-push, is_distinct-push}
use Rattle.host_map_cache.proofs.Places.{present, has_subregion, same_number}

module _ (shape : Shape) (limits : IsWithinLimits shape) where
  number-lt : (want : ℕ × ℕ) → IsThere shape want → number_in shape want < unit_subregions shape
  number-lt want there = number_of-lt shape limits want.0 want.1 (has_subregion shape want.0 want.1 limits (present shape want.0 want.1 limits there))

  all-lt : (wants : List (ℕ × ℕ)) → AllByRecursion (IsThere shape) wants → (n : ℕ) → has n (map (number_in shape) wants) ≡ true → n < unit_subregions shape
  all-lt [] there n found = absurd (false≢true found)
  all-lt (want ∷ wants) there n found = ⊎_elim
      (λ here. let P : ℕ → Type 0 = λ k. k < unit_subregions shape in subst P (eqb-true (number_in shape want) n here) (number-lt want there.0))
      (λ rest. all-lt wants there.1 n rest)
      (or_cases (eqb (number_in shape want) n) (has n (map (number_in shape) wants)) found)

  -- no more than the unit has
  pub wants_fit : (wants : List (ℕ × ℕ)) → AreWants shape wants → length wants ≤ unit_subregions shape
  wants_fit wants are = rw (← length-map wants (number_in shape)) (length-distinct (unit_subregions shape) (map (number_in shape) wants) are.once (all-lt wants are.there))

  module _ (region sub : ℕ) (there : IsTrue (is_present shape region sub)) where
    abbrev is_same : ℕ × ℕ → Bool
    is_same want = nat_eq want.0 region && nat_eq want.1 sub

    other_number : (want : ℕ × ℕ) → IsThere shape want → is_same want ≡ false → eqb (number_in shape want) (number_of shape region sub) ≡ false
    other_number want is other = by_test (eqb (number_in shape want) (number_of shape region sub)) refl
      where
        by_test : (b : Bool) → eqb (number_in shape want) (number_of shape region sub) ≡ b → b ≡ false
        by_test false t = refl
        by_test true t =
            let one = has_subregion shape want.0 want.1 limits (present shape want.0 want.1 limits is) in
            let two = has_subregion shape region sub limits (present shape region sub limits there) in
            let same : (want.0 ≡ region) × (want.1 ≡ sub) = same_number (per_region shape) want.0 want.1 region sub one.inside two.inside (eqb-true _ _ t) in
            let both : is_same want ≡ true = rw (eq-eqb want.0 region same.0, eq-eqb want.1 sub same.1) refl in
            sym both ∙ other

    new_number : (wants : List (ℕ × ℕ)) → AllByRecursion (IsThere shape) wants → list_any is_same wants ≡ false → has (number_of shape region sub) (map (number_in shape) wants) ≡ false
    new_number [] is none = refl
    new_number (want ∷ wants) is none =
        let parts : (is_same want ≡ false) × (list_any is_same wants ≡ false) = or_parts (is_same want) (list_any is_same wants) none in
        rw (other_number want is.0 parts.0) (new_number wants is.1 parts.1)

    module _ (wants : List (ℕ × ℕ)) (are : AreWants shape wants) (none : list_any is_same wants ≡ false) where
      pub AreWants-push : AreWants shape (wants ++ (region, sub) ∷ [])
      AreWants-push = record {
        there = all-push (IsThere shape) wants (region, sub) are.there there;
        once =
            let P : List ℕ → Type 0 = λ l. is_distinct l ≡ true in
            subst P (sym (map-append (number_in shape) wants ((region, sub) ∷ [])))
            (is_distinct-push (number_of shape region sub) (map (number_in shape) wants) are.once (new_number wants are.there none));
      }

      pub wants_room : length wants < unit_subregions shape
      wants_room = omega (arith, wants_fit (wants ++ (region, sub) ∷ []) AreWants-push, length-append wants ((region, sub) ∷ []))

pub AreWants-none : (shape : Shape) → AreWants shape []
AreWants-none shape = record { there = tt; once = refl }
