-- The words of a text, by where its first space stands.
use Rattle.std.proofs.Common.{◌≡◌, ℕ, ◌+◌, ◌-◌, ◌<◌, ◌≤◌, Bool, true, false, ◌==◌, List, [], ◌∷◌, ◌++◌, length, get_or, take, drop, All, None, Some, refl, sym, ap, ◌∙◌, arith, take-append-drop}
use Rattle.std.proofs.lemmas.Bool.{eqb-true}
use Rattle.std.proofs.lemmas.List.{drop_more, get_or-take, length-take-le, length-drop, take_all}
use Rattle.std.proofs.lemmas.List.Elements.{All-from_get_or}
use Rattle.std.proofs.lemmas.List.Splits.{slice_split_none, slice_split_at, length-slice_split}
use Rattle.memchr.specs.Find.{IsFirstByte, is_byte}
use Rattle.trace_text.specs.Drives.{words_of, said_by}

abbrev is_space : ℕ → Bool
is_space byte = byte == 32

not_true : (b : Bool) → (b ≡ true → ⊥) → b ≡ false
not_true true other = absurd (other refl)
not_true false other = refl

pub words-none : (xs : List ℕ) → IsFirstByte (is_byte 32) xs None → words_of xs ≡ xs ∷ []
words-none xs found =
    slice_split_none is_space xs (All-from_get_or (λ x. is_space x ≡ false) xs 0 (λ k lt. not_true (get_or xs k 0 == 32) (found k (omega arith) lt)))

pub words-found : (xs : List ℕ) (at : ℕ) → IsFirstByte (is_byte 32) xs (Some at) → words_of xs ≡ take at xs ∷ words_of (drop (at + 1) xs)
words-found xs at found =
    let below = found.0.high in
    let size = length-take-le at xs (omega arith) in
    let space : get_or xs at 0 ≡ 32 = eqb-true (get_or xs at 0) 32 found.1 in
    let parts : xs ≡ take at xs ++ 32 ∷ drop (at + 1) xs =
    sym (take-append-drop at xs) ∙ ap (λ ys. take at xs ++ ys) (drop_more xs at 0 below ∙ ap (λ x. x ∷ drop (at + 1) xs) space) in
    let front : All (λ x. is_space x ≡ false) (take at xs) =
    All-from_get_or (λ x. is_space x ≡ false) (take at xs) 0
    (λ k lt. let inside : k < at = omega arith in rw (get_or-take at xs k 0 inside) (not_true (get_or xs k 0 == 32) (found.0.before k (omega arith) inside))) in
    ap words_of parts ∙ slice_split_at is_space (take at xs) 32 (drop (at + 1) xs) front refl

-- the part that the code takes is all that is left
pub words-parts : (xs : List ℕ) (at : ℕ) → IsFirstByte (is_byte 32) xs (Some at)
    → words_of xs ≡ take at xs ∷ words_of (take (length xs - (at + 1)) (drop (at + 1) xs))
words-parts xs at found =
    let whole = take_all (length xs - (at + 1)) (drop (at + 1) xs) (simp length-drop (omega arith)) in
    words-found xs at found ∙ ap (λ ys. take at xs ∷ words_of ys) (sym whole)

said-more : (word first second third : List ℕ) (others : List (List ℕ)) → 1 ≤ length others
    → None ≡ said_by (word ∷ first ∷ second ∷ third ∷ others)
said-more word first second third [] some = absurd (omega arith)
said-more word first second third (other ∷ others) some = refl

-- five words or more say nothing
pub said-five : (word first second third rest : List ℕ) → None ≡ said_by (word ∷ first ∷ second ∷ third ∷ words_of rest)
said-five word first second third rest =
    let count = length-slice_split is_space rest in
    said-more word first second third (words_of rest) (omega arith)
