-- Texts inside a line.
use Rattle.std.proofs.Common.{◌≡◌, ℕ, zero, suc, ◌/◌, ◌%◌, true, false, ◌==◌, List, [], ◌∷◌, ◌++◌, decimal, refl, sym, ap, ◌∙◌, subst, arith, cond}
use Rattle.std.specs.Prelude.{fold, slice_index}
use Rattle.std.specs.Fmt.{digit_glyph, digits, digits_onto}
use Rattle.std.proofs.lemmas.Bool.Decides.{nat_tests}
use Rattle.std.proofs.lemmas.List.Sums.{fold-append}
use Rattle.hex.specs.Hex.{encode_lower, encode_with, lower_digits}
use Rattle.made_drive.specs.declared.scan.Scan.{Scan}
use Rattle.made_drive.specs.declared.scan.Place.{Place}
use Rattle.made_drive.specs.declared.scan.Place.TheVariants.{Begin, Other}
use Rattle.made_drive.specs.Scan.{byte_taken, line_ended, place_behind}

-- no line ends in a text
abbrev pub NoEnd : List ℕ → Type 0
NoEnd [] = Unit {0}
NoEnd (x ∷ xs) = ((x == 10) ≡ false) × NoEnd xs

pub no_end_both : (xs ys : List ℕ) → NoEnd xs → NoEnd ys → NoEnd (xs ++ ys)
no_end_both [] ys first then = then
no_end_both (x ∷ xs) ys first then = (first.0, no_end_both xs ys first.1 then)

-- a digit of a number
glyph_no_end : (d : ℕ) → (digit_glyph false d == 10) ≡ false
glyph_no_end d = grind (arith, nat_tests)

digits_no_end : (k n : ℕ) (acc : List ℕ) → NoEnd acc → NoEnd (digits_onto k 10 false n acc)
digits_no_end zero n acc none = none
digits_no_end (suc k) n acc none =
    let first = digit_glyph false (n % 10) in
    elim (n / 10 == 0) as (λ t. NoEnd (cond t (first ∷ acc) (digits_onto k 10 false (n / 10) (first ∷ acc)))) [
      | true ↦ (glyph_no_end (n % 10), none)
      | false ↦ digits_no_end k (n / 10) (first ∷ acc) (glyph_no_end (n % 10), none)
    ]

pub decimal_no_end : (n : ℕ) → NoEnd (decimal n)
unfolding digits
decimal_no_end n = digits_no_end 64 n [] tt

-- a byte that ends no line, and is not the last but one of a line that is counted
pub record Plain (x : ℕ) : Type 0 where
  pub no_end : (x == 10) ≡ false
  pub no_o : (x == 111) ≡ false
  pub no_u : (x == 117) ≡ false

plain_all : (xs : List ℕ) → Type 0
plain_all [] = Unit {0}
plain_all (x ∷ xs) = Plain x × plain_all xs

plain_at : (xs : List ℕ) (i : ℕ) → plain_all xs → Plain (slice_index xs i)
unfolding plain_all
plain_at [] i all = record { no_end = refl; no_o = refl; no_u = refl }
plain_at (x ∷ xs) zero all = all.0
plain_at (x ∷ xs) (suc i) all = plain_at xs i all.1

plain_digits : plain_all lower_digits
unfolding plain_all
plain_digits =
    let p : (x : ℕ) → (x == 10) ≡ false → (x == 111) ≡ false → (x == 117) ≡ false → Plain x = λ x a b c. record { no_end = a; no_o = b; no_u = c } in (
      p 48 refl refl refl,
      (
        p 49 refl refl refl,
        (
          p 50 refl refl refl,
          (
            p 51 refl refl refl,
            (
              p 52 refl refl refl,
              (
                p 53 refl refl refl,
                (
                  p 54 refl refl refl,
                  (
                    p 55 refl refl refl,
                    (
                      p 56 refl refl refl,
                      (
                        p 57 refl refl refl,
                        (
                          p 97 refl refl refl,
                          (
                            p 98 refl refl refl,
                            (p 99 refl refl refl, (p 100 refl refl refl, (p 101 refl refl refl, (p 102 refl refl refl, tt)))),
                          ),
                        ),
                      ),
                    ),
                  ),
                ),
              ),
            ),
          ),
        ),
      ),
    )

pub digit_plain : (i : ℕ) → Plain (slice_index lower_digits i)
digit_plain i = plain_at lower_digits i plain_digits

pub hex_no_end : (bytes : List ℕ) → NoEnd (encode_lower bytes)
unfolding encode_with
hex_no_end [] = tt
hex_no_end (b ∷ rest) = ((digit_plain (b / 16)).no_end, ((digit_plain (b % 16)).no_end, hex_no_end rest))

-- the two digits of a byte
pub byte_digits : (byte : ℕ) → encode_lower (byte ∷ []) ≡ slice_index lower_digits (byte / 16) ∷ slice_index lower_digits (byte % 16) ∷ []
unfolding encode_with
byte_digits byte = refl

-- a scan with these counts, at a place in a line behind these two bytes
abbrev pub inside : ℕ → ℕ → Place → ℕ → ℕ → Scan
inside good cut place before last = record { good = good; cut = cut; place = place; before = before; last = last }

-- one at the begin of a line
abbrev pub at_begin : ℕ → ℕ → Scan
at_begin good cut = inside good cut Begin 0 0

-- the place stays while no line ends
abbrev pub Stays : Place → Type 0
Stays place = (byte : ℕ) → place_behind place byte ≡ place

pub record Within (scan : Scan) (good cut : ℕ) (place : Place) : Type 0 where
  pub before : ℕ
  pub last : ℕ
  pub is : scan ≡ inside good cut place before last

byte_within : (good cut before last byte : ℕ) (place : Place) → Stays place → (byte == 10) ≡ false
    → byte_taken (inside good cut place before last) byte ≡ inside good cut place last byte
byte_within good cut before last byte place stays none = rw (none, stays byte) refl

pub text_within : (text : List ℕ) (good cut before last : ℕ) (place : Place) → Stays place → NoEnd text
    → Within (fold byte_taken (inside good cut place before last) text) good cut place
text_within [] good cut before last place stays none = record { before = before; last = last; is = refl }
text_within (x ∷ xs) good cut before last place stays none =
    subst (λ (s : Scan). Within (fold byte_taken s xs) good cut place) (sym (byte_within good cut before last x place stays none.0))
    (text_within xs good cut last x place stays none.1)

-- the rest of a line that ends in two bytes
pub line_within : (text : List ℕ) (x y good cut before last : ℕ) (place : Place) → Stays place → NoEnd text
    → (x == 10) ≡ false → (y == 10) ≡ false
    → fold byte_taken (inside good cut place before last) (text ++ x ∷ y ∷ 10 ∷ []) ≡ line_ended (inside good cut place x y)
line_within text x y good cut before last place stays none no_x no_y =
    let w = text_within text good cut before last place stays none in
    fold-append byte_taken (inside good cut place before last) text (x ∷ y ∷ 10 ∷ [])
    ∙ ap (λ (s : Scan). fold byte_taken s (x ∷ y ∷ 10 ∷ [])) w.is
    ∙ ap (λ (s : Scan). fold byte_taken s (y ∷ 10 ∷ [])) (byte_within good cut w.before w.last x place stays no_x)
    ∙ ap (λ (s : Scan). fold byte_taken s (10 ∷ [])) (byte_within good cut w.last x y place stays no_y)

-- the rest of a line of another kind
pub other_within : (text : List ℕ) (good cut before last : ℕ) → NoEnd text
    → fold byte_taken (inside good cut Other before last) (text ++ 10 ∷ []) ≡ at_begin good cut
other_within text good cut before last none =
    let w = text_within text good cut before last Other (λ byte. refl) none in
    fold-append byte_taken (inside good cut Other before last) text (10 ∷ [])
    ∙ ap (λ (s : Scan). fold byte_taken s (10 ∷ [])) w.is
