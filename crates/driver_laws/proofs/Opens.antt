-- Lists of open commands.
use Rattle.std.proofs.Common.{◌≡◌, ℕ, ◌≤◌, ◌<◌, Bool, true, cond, not, ◌&&◌, List, [], ◌∷◌, filter, Some, refl, ◌∙◌, ap, arith, ◌==◌, nat_le}
use Rattle.std.specs.Prelude.{if◌then◌else◌}
use Rattle.std.specs.List.{find}
use Rattle.std.proofs.lemmas.Bool.Decides.{nat_tests}
use Rattle.flat_unit.proofs.queue.Tasks.{same_tag}
use Rattle.driver_laws.specs.Commands.{OpenCommand, has, is_out, change_first, remove_first}
use Rattle.driver_laws.specs.Fits.{NoneOut}

pub and_true : (a b : Bool) → a ≡ true → b ≡ true → (a && b) ≡ true
and_true a b p q = ap (λ (x : Bool). x && b) p ∙ q

pub nonzero : (n : ℕ) → 0 < n → not (n == 0) ≡ true
nonzero n some = grind (arith, nat_tests)

pub within : (m n : ℕ) → m ≤ n → nat_le m n ≡ true
within m n is = grind (arith, nat_tests)

-- the first command has the tag
pub found : (o : OpenCommand) (os : List OpenCommand) (tag : ℕ) → tag ≡ o.tag → find (has tag) (o ∷ os) ≡ Some o
found o os tag is =
    ap (λ (t : ℕ). cond (o.tag == t) (Some o) (find (has t) os)) is ∙ ap (λ (b : Bool). cond b (Some o) (find (has o.tag) os)) (same_tag o.tag)

pub first_changes : (f : OpenCommand → OpenCommand) (o : OpenCommand) (os : List OpenCommand) → change_first (has o.tag) f (o ∷ os) ≡ f o ∷ os
first_changes f o os = ap (λ (b : Bool). if b then f o ∷ os else o ∷ change_first (has o.tag) f os) (same_tag o.tag)

pub first_goes : (o : OpenCommand) (os : List OpenCommand) → remove_first (has o.tag) (o ∷ os) ≡ os
first_goes o os = ap (λ (b : Bool). if b then os else o ∷ remove_first (has o.tag) os) (same_tag o.tag)

pub none_out : (opens : List OpenCommand) → NoneOut opens → filter is_out opens ≡ []
none_out [] none = refl
none_out (o ∷ os) none = ap (λ (b : Bool). cond b (o ∷ filter is_out os) (filter is_out os)) none.0 ∙ none_out os none.1
