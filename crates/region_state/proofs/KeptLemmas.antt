-- What holds of the regions holds after a change.
use Rattle.std.proofs.Common.{◌≡◌, ℕ, ◌+◌, ◌≤◌, Bool, true, false, cond, List, [], ◌∷◌, ◌++◌, length, take, drop, set, get_or, Some, None, refl, ◌∙◌, arith, length-append}
use Rattle.std.proofs.lemmas.List.{length-take-le}
use Rattle.std.specs.List.{list_any, position_from, slice_get}
use Rattle.region_state.specs.declared.shape.Shape.{Shape}
use Rattle.region_state.specs.declared.shape.Mode.TheVariants.{Device}
use Rattle.region_state.specs.declared.subregion.Subregion.{Subregion}
use Rattle.region_state.specs.Shape.{region_count}
use Rattle.region_state.specs.Subregion.{is_due, recounted, unloaded}
use Rattle.region_state.specs.Machine.{Machine, due, due_in, due_from, after_told}
use Rattle.region_state.specs.Kept.{IsKept, IsApart}

pub IsKept-changed : {shape : Shape} {held gone : List ℕ} {subregions : List Subregion} {may_be_due : Bool} {held_capacity gone_capacity : ℕ}
    → IsKept shape held subregions gone may_be_due held_capacity gone_capacity
    → (held' gone' : List ℕ) (subregions' : List Subregion) (may_be_due' : Bool) (held_capacity' gone_capacity' : ℕ)
    → length held' ≤ shape.held → length subregions' ≡ length subregions → IsApart held' gone' (region_count shape)
    → held_capacity ≤ held_capacity' → gone_capacity ≤ gone_capacity'
    → (may_be_due' ≡ false → list_any is_due subregions' ≡ false)
    → IsKept shape held' subregions' gone' may_be_due' held_capacity' gone_capacity'
IsKept-changed is held' gone' subregions' may_be_due' h g few same lists held_room gone_room none_due = record {
  limits = is.limits;
  all_subregions = same ∙ is.all_subregions;
  held_limit = few;
  held_room = omega (arith, is.held_room);
  gone_room = omega (arith, is.gone_room);
  lists = lists;
  none_due = none_due;
}

-- a list that is written as a whole keeps its length
pub length-refilled : {X : Type 0} (n : ℕ) (ys xs : List X) → length ys ≡ n → length (take n (ys ++ drop (length ys) xs)) ≡ n
length-refilled n ys xs same =
    length-take-le n (ys ++ drop (length ys) xs) (omega (arith, length-append ys (drop (length ys) xs)))

-- the first subregion that is due
pub first-due_from : (k : ℕ) (xs : List Subregion) → slice_get (due_from k xs) 0 ≡ position_from is_due k xs
first-due_from k [] = refl
first-due_from k (x ∷ xs) =
    elim (is_due x) as (λ t. slice_get (cond t (k ∷ due_from (k + 1) xs) (due_from (k + 1) xs)) 0 ≡ cond t (Some k) (position_from is_due (k + 1) xs))
    [ true ↦ refl | false ↦ first-due_from (k + 1) xs ]

take_none : (xs : List ℕ) → slice_get xs 0 ≡ None → take 1 xs ≡ []
take_none [] _ = refl
take_none (x ∷ xs) e = cc

take_some : (xs : List ℕ) (x : ℕ) → slice_get xs 0 ≡ Some x → take 1 xs ≡ x ∷ []
take_some [] x e = cc
take_some (y ∷ ys) x e = let same : y ≡ x = cc in rw same refl

module _ (m : Machine) (device : m.shape.mode ≡ Device) where
  pub due-device : due m ≡ due_from 0 m.subregions
  unfolding due
  due-device = rw (device, due_in) refl

  pub first-due : slice_get (due m) 0 ≡ position_from is_due 0 m.subregions
  first-due = rw due-device (first-due_from 0 m.subregions)

  -- where none is due, nothing changes
  pub after_told-none : position_from is_due 0 m.subregions ≡ None → after_told 1 m ≡ m
  unfolding after_told
  after_told-none none = rw (take_none (due m) (first-due ∙ none)) refl

  -- where one is due, its count is back at the start
  pub after_told-some : (number : ℕ) → position_from is_due 0 m.subregions ≡ Some number
      → (let told : Machine = record m { subregions = set m.subregions number (recounted (get_or m.subregions number unloaded)) } in after_told 1 m ≡ told)
  unfolding after_told
  after_told-some number some = rw (take_some (due m) number (first-due ∙ some)) refl
