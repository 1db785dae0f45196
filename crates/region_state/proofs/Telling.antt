-- What is due after the first subregion that is due was told.
use Rattle.std.proofs.Common.{◌≡◌, ℕ, suc, ◌+◌, Bool, true, false, cond, List, [], ◌∷◌, take, drop, set, get_or, refl, ap, ◌∙◌, arith, ◌⊎◌, inl, inr, ⊎_elim}
use Rattle.region_state.specs.declared.shape.Mode.TheVariants.{Device, Host}
use Rattle.region_state.specs.declared.subregion.Subregion.{Subregion}
use Rattle.region_state.specs.Subregion.{is_due, recounted, unloaded}
use Rattle.region_state.specs.Machine.{Machine, due, due_in, due_from, counts_cleared, after_told}

-- the first that is due, and what is due after it was told
record IsFirst (k : ℕ) (xs : List Subregion) : Type 0 where
  place : ℕ
  rest : List ℕ
  first : due_from k xs ≡ (k + place) ∷ rest
  after : due_from k (set xs place (recounted (get_or xs place unloaded))) ≡ rest

recounted_is_not_due : (x : Subregion) → is_due (recounted x) ≡ false
recounted_is_not_due x =
    elim x.loaded as (λ t. (let y : Subregion = record { loaded = t; count = 0 } in is_due y) ≡ false) [ true ↦ refl | false ↦ refl ]

chosen : (t : Bool) (a b : List ℕ) → t ≡ true → cond t a b ≡ a
chosen t a b e = rw e refl

not_chosen : (t : Bool) (a b : List ℕ) → t ≡ false → cond t a b ≡ b
not_chosen t a b e = rw e refl

is_first : (k : ℕ) (xs : List Subregion) → (due_from k xs ≡ []) ⊎ IsFirst k xs
is_first k [] = inl refl
is_first k (x ∷ xs) =
    elim (is_due x) as (λ t. (is_due x ≡ t) → (cond t (k ∷ due_from (k + 1) xs) (due_from (k + 1) xs) ≡ []) ⊎ IsFirst k (x ∷ xs)) [
      | true ↦ λ yes. inr record {
        place = 0;
        rest = due_from (k + 1) xs;
        first = chosen (is_due x) _ _ yes ∙ (let e : k ≡ k + 0 = omega arith in ap (λ n. n ∷ due_from (k + 1) xs) e);
        after = not_chosen (is_due (recounted x)) _ _ (recounted_is_not_due x);
      }
      | false ↦ λ no. ⊎_elim (λ none. inl none) (λ (is : IsFirst (k + 1) xs). inr record {
        place = suc is.place;
        rest = is.rest;
        first = not_chosen (is_due x) _ _ no ∙ is.first ∙ (let e : k + 1 + is.place ≡ k + suc is.place = omega arith in ap (λ n. n ∷ is.rest) e);
        after = not_chosen (is_due x) _ _ no ∙ is.after;
      }) (is_first (k + 1) xs)
    ]
    refl

due_from-told : (xs : List Subregion) → due_from 0 (counts_cleared xs (take 1 (due_from 0 xs))) ≡ drop 1 (due_from 0 xs)
due_from-told xs = ⊎_elim (λ none. rw (none) none) (λ (is : IsFirst 0 xs).
    let e : 0 + is.place ≡ is.place = omega arith in
    let first : due_from 0 xs ≡ is.place ∷ is.rest = is.first ∙ ap (λ n. n ∷ is.rest) e in
    rw first is.after) (is_first 0 xs)

-- the rest is due after one was told
pub due-after_told : (m : Machine) → due (after_told 1 m) ≡ drop 1 (due m)
unfolding due after_told
due-after_told m =
    elim m.shape.mode as (λ mode. due_in mode (counts_cleared m.subregions (take 1 (due_in mode m.subregions))) ≡ drop 1 (due_in mode m.subregions))
    [ Device ↦ due_from-told m.subregions | Host ↦ refl ]

two_cleared : (xs : List Subregion) (numbers : List ℕ) → counts_cleared (counts_cleared xs (take 1 numbers)) (take 1 (drop 1 numbers)) ≡ counts_cleared xs (take 2 numbers)
two_cleared xs [] = refl
two_cleared xs (a ∷ []) = refl
two_cleared xs (a ∷ b ∷ numbers) = refl

-- one and then another is two
pub after_told-twice : (m : Machine) → after_told 1 (after_told 1 m) ≡ after_told 2 m
unfolding after_told
after_told-twice m = rw (due-after_told m, two_cleared m.subregions (due m)) refl
