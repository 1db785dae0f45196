-- What the place of the first command that passes a test tells of the list.
use Rattle.std.proofs.Common.{◌≡◌, ℕ, zero, suc, ◌<◌, Bool, true, false, cond, ◌||◌, List, [], ◌∷◌, length, take, Option, Some, None, refl, sym, ◌∙◌, ap, arith}
use Rattle.std.specs.Prelude.{if◌then◌else◌, is_some, slice_set, slice_index_or}
use Rattle.std.specs.List.{find, list_any, remove}
use Rattle.std.proofs.lemmas.Bool.{false≢true}
use Rattle.driver_laws.specs.Commands.{OpenCommand, change_first, remove_first}
use Rattle.driver_commands.specs.Places.{IsFirst, IsFirstAt}

pub record Found (test : OpenCommand → Bool) (opens : List OpenCommand) (place : ℕ) : Type 0 where
  pub o : OpenCommand
  pub inside : place < length opens
  pub found : find test opens ≡ Some o
  pub passes : test o ≡ true
  pub is_there : (d : OpenCommand) → slice_index_or opens place d ≡ o
  pub any : list_any test opens ≡ true
  pub changes : (f : OpenCommand → OpenCommand) → change_first test f opens ≡ slice_set opens place (f o)
  pub goes : remove_first test opens ≡ remove opens place

either_fails : (a b : Bool) → (a || b) ≡ false → (a ≡ false) × (b ≡ false)
either_fails true b is = absurd (false≢true (sym is))
either_fails false b is = (refl, is)

pub first_at : (test : OpenCommand → Bool) (opens : List OpenCommand) (place : ℕ) → IsFirstAt test opens place → Found test opens place
first_at test [] place is = absurd (let i = is.inside in omega arith)
first_at test (x ∷ xs) zero is =
    let here : test x ≡ true = is.passes x in
    record {
      o = x;
      inside = is.inside;
      found = ap (λ (b : Bool). cond b (Some x) (find test xs)) here;
      passes = here;
      is_there = λ d. refl;
      any = ap (λ (b : Bool). b || list_any test xs) here;
      changes = λ f. ap (λ (b : Bool). if b then f x ∷ xs else x ∷ change_first test f xs) here;
      goes = ap (λ (b : Bool). if b then xs else x ∷ remove_first test xs) here;
    }
first_at test (x ∷ xs) (suc place) is =
    let fails = either_fails (test x) (list_any test (take place xs)) is.before in
    let rest : Found test xs place = first_at test xs place (record { inside = let i = is.inside in omega arith; before = fails.1; passes = is.passes }) in
    record {
      o = rest.o;
      inside = is.inside;
      found = ap (λ (b : Bool). cond b (Some x) (find test xs)) fails.0 ∙ rest.found;
      passes = rest.passes;
      is_there = rest.is_there;
      any = ap (λ (b : Bool). b || list_any test xs) fails.0 ∙ rest.any;
      changes = λ f. ap (λ (b : Bool). if b then f x ∷ xs else x ∷ change_first test f xs) fails.0 ∙ ap (λ (os : List OpenCommand). x ∷ os) (rest.changes f);
      goes = ap (λ (b : Bool). if b then xs else x ∷ remove_first test xs) fails.0 ∙ ap (λ (os : List OpenCommand). x ∷ os) rest.goes;
    }

pub first_any : (test : OpenCommand → Bool) (opens : List OpenCommand) (r : Option ℕ) → IsFirst test opens r → is_some r ≡ list_any test opens
first_any test opens (Some place) is = sym (first_at test opens place is).any
first_any test opens None is = sym is

pub none_found : (test : OpenCommand → Bool) (opens : List OpenCommand) → list_any test opens ≡ false → find test opens ≡ None
none_found test [] none = refl
none_found test (x ∷ xs) none =
    let fails = either_fails (test x) (list_any test xs) none in
    ap (λ (b : Bool). cond b (Some x) (find test xs)) fails.0 ∙ none_found test xs fails.1
