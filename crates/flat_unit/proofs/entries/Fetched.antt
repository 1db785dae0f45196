-- The lists of entries that are kept, by unit and read id.
use Rattle.std.proofs.Common.{◌≡◌, ℕ, ◌==◌, Bool, true, false, not, ◌&&◌, cond, List, [], ◌∷◌, filter, Some, refl, sym, ◌∙◌, ap, arith}
use Rattle.std.specs.Prelude.{find}
use Rattle.std.proofs.lemmas.Bool.Decides.{nat_tests}
use Rattle.flat_unit.specs.Lists.{Fetched, is_for_read, is_list, without_list}

-- the lists of one unit and read id
abbrev pub lists_of : ℕ → ℕ → List Fetched → List Fetched
lists_of lun id lists = filter (is_list lun id) lists

-- the list that a read uses is one of its unit and id
pub found_of : (lun id lba : ℕ) (lists : List Fetched) → find (is_for_read lun id lba) lists ≡ find (λ (l : Fetched). l.lba == lba) (lists_of lun id lists)
found_of lun id lba [] = refl
found_of lun id lba (l ∷ lists) = by_list (is_list lun id l) (l.lba == lba) refl (found_of lun id lba lists)
  where
    rest : List Fetched
    rest = lists_of lun id lists

    by_list : (a b : Bool) → (l.lba == lba) ≡ b → find (is_for_read lun id lba) lists ≡ find (λ (l : Fetched). l.lba == lba) rest
        → cond (a && b) (Some l) (find (is_for_read lun id lba) lists) ≡ find (λ (l : Fetched). l.lba == lba) (cond a (l ∷ rest) rest)
    by_list true true is more = sym (ap (λ (b : Bool). cond b (Some l) (find (λ (l : Fetched). l.lba == lba) rest)) is)
    by_list true false is more = more ∙ sym (ap (λ (b : Bool). cond b (Some l) (find (λ (l : Fetched). l.lba == lba) rest)) is)
    by_list false b is more = more

-- two pairs of unit and id are the same, or no list has both
abbrev pub is_same_list : (lun id other_lun other_id : ℕ) → Bool
is_same_list lun id other_lun other_id = (lun == other_lun) && (id == other_id)

both_lists : (lun id other_lun other_id : ℕ) (l : Fetched) → is_same_list lun id other_lun other_id ≡ false → is_list lun id l ≡ true → is_list other_lun other_id l ≡ false
both_lists lun id other_lun other_id l apart is = grind (arith, nat_tests, apart, is)

-- where a list is taken away, none of its unit and id is left, and those of any other are as before
pub without_same : (lun id : ℕ) (lists : List Fetched) → lists_of lun id (without_list lun id lists) ≡ []
without_same lun id [] = refl
without_same lun id (l ∷ lists) = by_list (is_list lun id l) refl (without_same lun id lists)
  where
    rest : List Fetched
    rest = without_list lun id lists

    by_list : (b : Bool) → is_list lun id l ≡ b → lists_of lun id rest ≡ [] → lists_of lun id (cond (not b) (l ∷ rest) rest) ≡ []
    by_list true is none = none
    by_list false is none = ap (λ (b : Bool). cond b (l ∷ lists_of lun id rest) (lists_of lun id rest)) is ∙ none

pub without_other : (lun id other_lun other_id : ℕ) (lists : List Fetched) → is_same_list lun id other_lun other_id ≡ false
    → lists_of other_lun other_id (without_list lun id lists) ≡ lists_of other_lun other_id lists
without_other lun id other_lun other_id [] apart = refl
without_other lun id other_lun other_id (l ∷ lists) apart = by_list (is_list lun id l) refl (without_other lun id other_lun other_id lists apart)
  where
    rest : List Fetched
    rest = without_list lun id lists

    others : List Fetched
    others = lists_of other_lun other_id lists

    by_list : (b : Bool) → is_list lun id l ≡ b → lists_of other_lun other_id rest ≡ others
        → lists_of other_lun other_id (cond (not b) (l ∷ rest) rest) ≡ cond (is_list other_lun other_id l) (l ∷ others) others
    by_list true is more =
        more ∙ sym (ap (λ (b : Bool). cond b (l ∷ others) others) (both_lists lun id other_lun other_id l apart is))
    by_list false is more = ap (λ (xs : List Fetched). cond (is_list other_lun other_id l) (l ∷ xs) xs) more
