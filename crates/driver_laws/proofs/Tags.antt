-- Where fewer commands are open than there are tags, a tag is free.
use Rattle.std.proofs.Common.{◌≡◌, ℕ, zero, suc, ◌+◌, ◌≤◌, ◌<◌, Bool, true, false, cond, not, ◌||◌, List, [], ◌∷◌, length, Option, Some, None, refl, sym, ◌∙◌, ap, arith, ◌==◌}
use Rattle.std.specs.Prelude.{if◌then◌else◌}
use Rattle.std.specs.List.{find, range_with_len}
use Rattle.std.proofs.lemmas.Bool.{false≢true, eqb-true}
use Rattle.std.proofs.lemmas.Bool.Decides.{nat_tests}
use Rattle.driver_laws.specs.Commands.{OpenCommand, free_tag, has, remove_first, tags, uses}

or_true : (a : Bool) → (a || true) ≡ true
or_true true = refl
or_true false = refl

-- one command less
less_one : (tag : ℕ) (opens : List OpenCommand) → uses opens tag ≡ true → length (remove_first (has tag) opens) + 1 ≡ length opens
less_one tag [] is = absurd (false≢true is)
less_one tag (o ∷ os) is = by_test (λ used. less_one tag os used) (has tag o) refl is
  where
    by_test : (uses os tag ≡ true → length (remove_first (has tag) os) + 1 ≡ length os) → (b : Bool) → has tag o ≡ b → (b || uses os tag) ≡ true
        → length (if b then os else o ∷ remove_first (has tag) os) + 1 ≡ length (o ∷ os)
    by_test behind true found is = omega arith
    by_test behind false found is = let e = behind is in omega (arith, e)

other : (o : OpenCommand) (t u : ℕ) → (t ≡ u → ⊥) → has t o ≡ true → has u o ≡ true → ⊥
other o t u differ first second = differ (sym (eqb-true o.tag t first) ∙ eqb-true o.tag u second)

-- it took no other tag
still_uses : (tag u : ℕ) (opens : List OpenCommand) → (tag ≡ u → ⊥) → uses opens u ≡ true → uses (remove_first (has tag) opens) u ≡ true
still_uses tag u [] differ is = is
still_uses tag u (o ∷ os) differ is = by_test (λ used. still_uses tag u os differ used) (has tag o) refl (has u o) refl is
  where
    by_test : (uses os u ≡ true → uses (remove_first (has tag) os) u ≡ true) → (a : Bool) → has tag o ≡ a → (b : Bool) → has u o ≡ b → (b || uses os u) ≡ true
        → uses (if a then os else o ∷ remove_first (has tag) os) u ≡ true
    by_test behind true one true two is = absurd (other o tag u differ one two)
    by_test behind true one false two is = is
    by_test behind false one true two is = ap (λ (b : Bool). b || uses (remove_first (has tag) os) u) two
    by_test behind false one false two is = ap (λ (b : Bool). b || uses (remove_first (has tag) os) u) two ∙ behind is

-- each of n tags is used by a command of its own
all_used : (n : ℕ) (opens : List OpenCommand) → ((t : ℕ) → t < n → uses opens t ≡ true) → n ≤ length opens
all_used zero opens used = omega arith
all_used (suc n) opens used =
    let e = less_one n opens (used n (omega arith)) in
    let f : n ≤ length (remove_first (has n) opens) = all_used n (remove_first (has n) opens) (λ t below. still_uses n t opens (λ is. absurd (omega arith)) (used t (omega arith))) in
    omega (arith, e, f)

none_passes : (p : ℕ → Bool) (a n : ℕ) → find p (range_with_len a n) ≡ None → (t : ℕ) → a ≤ t → t < a + n → p t ≡ false
none_passes p a zero none t above below = absurd (omega arith)
none_passes p a (suc n) none t above below = by_test (λ rest later. none_passes p (a + 1) n rest t later (omega arith)) (p a) refl none
  where
    no_number : Some a ≡ None → ⊥
    no_number is = cc

    by_first : (t ≡ a → p t ≡ false) → (a + 1 ≤ t → p t ≡ false) → p t ≡ false
    by_first now later = by_order (t == a) refl
      where
        by_order : (b : Bool) → (t == a) ≡ b → p t ≡ false
        by_order true is = now (eqb-true t a is)
        by_order false is = later (grind (arith, nat_tests))

    by_test : (find p (range_with_len (a + 1) n) ≡ None → a + 1 ≤ t → p t ≡ false) → (b : Bool) → p a ≡ b → cond b (Some a) (find p (range_with_len (a + 1) n)) ≡ None → p t ≡ false
    by_test behind true passes is = absurd (no_number is)
    by_test behind false passes is = by_first (λ same. ap p same ∙ passes) (λ later. behind is later)

double : (b : Bool) → not b ≡ false → b ≡ true
double true is = refl
double false is = absurd (false≢true (sym is))

pub tag_is_free : (opens : List OpenCommand) → length opens < tags → (tag : ℕ) × (free_tag opens ≡ Some tag)
unfolding free_tag
tag_is_free opens few = by_tag (free_tag opens) refl
  where
    by_tag : (x : Option ℕ) → free_tag opens ≡ x → (tag : ℕ) × (free_tag opens ≡ Some tag)
    by_tag (Some tag) is = (tag, is)
    by_tag None is =
        let full : tags ≤ length opens = all_used tags opens (λ t below. double (uses opens t) (none_passes (λ (u : ℕ). not (uses opens u)) 0 tags is t (omega arith) (omega arith))) in
        absurd (omega (arith, full, few))
