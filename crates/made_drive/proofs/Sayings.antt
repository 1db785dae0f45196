-- What the text of a made line says.
use Rattle.std.proofs.Common.{◌≡◌, ℕ, zero, suc, ◌+◌, ◌-◌, ◌*◌, ◌/◌, ◌%◌, ◌^◌, ◌≤◌, ◌<◌, Bool, true, false, ◌==◌, nat_le, nat_lt, List, [], ◌∷◌, ◌++◌, codes}
use Rattle.std.proofs.Common.{decimal, length, map, min, Some, refl, sym, subst, ap, ◌∙◌, arith, cond, append_assoc, length-append}
use Rattle.std.specs.Prelude.{fold, if◌then◌else◌}
use Rattle.std.specs.List.{AllByRecursion, list_all}
use Rattle.std.specs.Fmt.{digit_glyph, digits, digits_onto}
use Rattle.std.proofs.lemmas.Bool.{and_parts, eqb-false, le-leb, leb-true}
use Rattle.std.proofs.lemmas.Bool.Decides.{nat_tests}
use Rattle.std.proofs.lemmas.Fmt.{decimal_nonempty, digits_decimal, digits_value-decimal, length-decimal-le}
use Rattle.std.proofs.lemmas.Str.Parse.{FoldsDigits, IsDigitsTest, IsNumeralModel, numerals_by_fold}
use Rattle.trace_text.specs.declared.drive.DriveLine.{DriveLine}
use Rattle.trace_text.specs.declared.drive.DriveLine.TheVariants.{Read, Write, Steps, Collect, Drain, Reset, Lun, Blank}
use Rattle.trace_text.specs.Drives.{drive_line, said_by, words_of}
use Rattle.trace_text.specs.Grammar.{is_digit, number_of}
use Rattle.trace_text.specs.Lines.{IsWithinLine, lines_of}
use Rattle.trace_text.proofs.LinesOf.{lines_of-ended, within-cons, within-nil}
use Rattle.made_drive.specs.Generator.{block_count, drawn, first_block, line_after, made_collect, made_end, made_lines, made_read, made_steps, made_write, next_number}
use Rattle.made_drive.specs.Text.{line_text, lines_text, words_text}
use Rattle.made_drive.proofs.WithinLines.{NoEnd, decimal_no_end, no_end_both}

-- ---- numbers

read_on : ℕ → List ℕ → ℕ
read_on n text = fold (λ (n c : ℕ). 10 * n + (c - 48)) n text

reads_on : FoldsDigits read_on
unfolding read_on
reads_on = record {
  empty = λ n. refl;
  more = λ n c cs is. let same : 10 * n + (c - 48) ≡ n * 10 + (c - 48) = omega arith in ap (λ (m : ℕ). fold (λ (n c : ℕ). 10 * n + (c - 48)) m cs) same;
}

tells : IsDigitsTest (λ (ds : List ℕ). list_all is_digit ds ≡ true)
tells = record {
  empty = refl;
  parts = λ c cs e. let k = and_parts (is_digit c) (list_all is_digit cs) e in let m = and_parts (nat_le 48 c) (nat_le c 57) k.0 in ((leb-true 48 c m.0, leb-true c 57 m.1), k.1);
  more = λ c cs k e. let low = le-leb 48 c k.0 in let high = le-leb c 57 k.1 in rw (low, high, e) refl;
}

own : IsNumeralModel (λ (ds : List ℕ). list_all is_digit ds ≡ true) (read_on 0)
own = numerals_by_fold (λ (ds : List ℕ). list_all is_digit ds ≡ true) tells read_on reads_on

number_read : (n : ℕ) → n < 1000000 → number_of (decimal n) ≡ Some n
unfolding read_on
number_read n few =
    let fits : n < 2 ^ 64 = omega arith in
    let some : nat_le 1 (length (decimal n)) ≡ true = le-leb 1 (length (decimal n)) (decimal_nonempty n fits) in
    let short : nat_le (length (decimal n)) 6 ≡ true = le-leb (length (decimal n)) 6 (length-decimal-le 6 n (omega arith) (omega arith) fits) in
    let all : list_all is_digit (decimal n) ≡ true = digits_decimal own n fits in
    let value : fold (λ (n c : ℕ). 10 * n + (c - 48)) 0 (decimal n) ≡ n = digits_value-decimal own n fits in
    rw (some, short, all, value) refl

-- ---- words

-- no word ends in a text
NoGap : List ℕ → Type 0
NoGap [] = Unit {0}
NoGap (x ∷ xs) = ((x == 32) ≡ false) × NoGap xs

glyph_no_gap : (d : ℕ) → (digit_glyph false d == 32) ≡ false
glyph_no_gap d = grind (arith, nat_tests)

digits_no_gap : (k n : ℕ) (acc : List ℕ) → NoGap acc → NoGap (digits_onto k 10 false n acc)
unfolding NoGap
digits_no_gap zero n acc none = none
digits_no_gap (suc k) n acc none =
    let first = digit_glyph false (n % 10) in
    elim (n / 10 == 0) as (λ t. NoGap (cond t (first ∷ acc) (digits_onto k 10 false (n / 10) (first ∷ acc)))) [
      | true ↦ (glyph_no_gap (n % 10), none)
      | false ↦ digits_no_gap k (n / 10) (first ∷ acc) (glyph_no_gap (n % 10), none)
    ]

decimal_no_gap : (n : ℕ) → NoGap (decimal n)
unfolding NoGap digits
decimal_no_gap n = digits_no_gap 64 n [] tt

last_word : (xs : List ℕ) → NoGap xs → words_of xs ≡ xs ∷ []
unfolding NoGap
last_word [] none = refl
last_word (x ∷ xs) none = let first = none.0 in let rest = last_word xs none.1 in rw (first, rest) refl

next_word : (xs rest : List ℕ) → NoGap xs → words_of (xs ++ 32 ∷ rest) ≡ xs ∷ words_of rest
unfolding NoGap
next_word [] rest none = refl
next_word (x ∷ xs) rest none = let first = none.0 in let more = next_word xs rest none.1 in rw (first, more) refl

one_number : (a : ℕ) → words_of (decimal a) ≡ decimal a ∷ []
one_number a = last_word (decimal a) (decimal_no_gap a)

two_numbers : (a b : ℕ) → words_of (decimal a ++ codes " " ++ decimal b) ≡ decimal a ∷ decimal b ∷ []
two_numbers a b =
    ap words_of (append_assoc (decimal a) (codes " ") (decimal b))
    ∙ (next_word (decimal a) (decimal b) (decimal_no_gap a) ∙ ap (λ (ws : List (List ℕ)). decimal a ∷ ws) (one_number b))

three_numbers : (a b d : ℕ) → words_of (decimal a ++ codes " " ++ decimal b ++ codes " " ++ decimal d) ≡ decimal a ∷ decimal b ∷ decimal d ∷ []
three_numbers a b d =
    ap words_of (append_assoc (decimal a ++ codes " " ++ decimal b) (codes " ") (decimal d)
    ∙ (append_assoc (decimal a ++ codes " ") (decimal b) (32 ∷ decimal d) ∙ append_assoc (decimal a) (codes " ") (decimal b ++ 32 ∷ decimal d)))
    ∙ (next_word (decimal a) (decimal b ++ 32 ∷ decimal d) (decimal_no_gap a)
    ∙ ap (λ (ws : List (List ℕ)). decimal a ∷ ws) (next_word (decimal b) (decimal d) (decimal_no_gap b) ∙ ap (λ (ws : List (List ℕ)). decimal b ∷ ws) (one_number d)))

-- ---- lines

-- a line with numbers that the grammar has
IsSaid : DriveLine → Type 0
IsSaid (Read lba n) = (lba < 1000000) × (n ≤ 255)
IsSaid (Write lba n seed) = (lba < 1000000) × (n ≤ 255) × (seed < 1000000)
IsSaid (Steps count) = count < 1000000
IsSaid (Collect count) = count < 1000000
IsSaid Drain = Unit {0}
IsSaid Reset = Unit {0}
IsSaid (Lun lun) = ⊥
IsSaid Blank = ⊥

parsed : (line : DriveLine) → IsSaid line → drive_line (words_text line) ≡ Some line
unfolding IsSaid
parsed (Read lba n) is =
    let a = number_read lba is.0 in
    let b = number_read n (omega (arith, is.1)) in
    let few : nat_le n 255 ≡ true = le-leb n 255 is.1 in
    ap (λ (ws : List (List ℕ)). said_by (codes "read" ∷ ws)) (two_numbers lba n) ∙ rw (a, b, few) refl
parsed (Write lba n seed) is =
    let a = number_read lba is.0 in
    let b = number_read n (omega (arith, is.1)) in
    let d = number_read seed is.2 in
    let few : nat_le n 255 ≡ true = le-leb n 255 is.1 in
    ap (λ (ws : List (List ℕ)). said_by (codes "write" ∷ ws)) (three_numbers lba n seed) ∙ rw (a, b, d, few) refl
parsed (Steps count) is =
    let a = number_read count is in
    ap (λ (ws : List (List ℕ)). said_by (codes "steps" ∷ ws)) (one_number count) ∙ rw a refl
parsed (Collect count) is =
    let a = number_read count is in
    ap (λ (ws : List (List ℕ)). said_by (codes "collect" ∷ ws)) (one_number count) ∙ rw a refl
parsed Drain is = refl
parsed Reset is = refl
parsed (Lun lun) is = absurd is
parsed Blank is = absurd is

drawn_below : (choices x : ℕ) → 0 < choices → drawn choices x < choices
unfolding drawn
drawn_below choices x some = omega arith

first_said : (units x : ℕ) → 1 ≤ units → first_block units x < 1000000
first_said units x some = omega (arith, drawn_below (min units 32768) x (omega arith))

count_said : (units x : ℕ) → block_count units x ≤ 255
count_said units x = omega (arith, drawn_below 8 (next_number x) (omega arith))

end_said : (t : Bool) → IsSaid (if t then Reset else Drain)
unfolding IsSaid
end_said true = tt
end_said false = tt

other_said : (thirteen fourteen : Bool) (x : ℕ) → IsSaid (if thirteen then made_collect x else (if fourteen then made_steps x else made_end x)).line
unfolding IsSaid
other_said true fourteen x = omega (arith, drawn_below 16 x (omega arith))
other_said false true x = omega (arith, drawn_below 32 x (omega arith))
other_said false false x = end_said (drawn 64 x == 0)

made_said : (read write thirteen fourteen : Bool) (units x : ℕ) → 1 ≤ units
    → IsSaid (if read then made_read units x else (if write then made_write units x else (if thirteen then made_collect x else (if fourteen then made_steps x else made_end x)))).line
unfolding IsSaid
made_said true write thirteen fourteen units x some = (first_said units x some, count_said units x)
made_said false true thirteen fourteen units x some =
    let seed = drawn_below 256 (next_number (next_number x)) (omega arith) in
    (first_said units x some, count_said units x, omega (arith, seed))
made_said false false thirteen fourteen units x some = other_said thirteen fourteen x

line_said : (units x : ℕ) → 1 ≤ units → IsSaid (line_after units x).line
unfolding line_after
line_said units x some =
    let kind = drawn 16 x in
    made_said (nat_lt kind 8) (nat_lt kind 13) (kind == 13) (kind == 14) units (next_number x) some

within_from : (xs : List ℕ) → NoEnd xs → IsWithinLine xs
within_from [] none = within-nil
within_from (x ∷ xs) none = within-cons x xs (eqb-false x 10 none.0) (within_from xs none.1)

number_behind : (text : List ℕ) (n : ℕ) → NoEnd text → NoEnd (text ++ decimal n)
number_behind text n none = no_end_both text (decimal n) none (decimal_no_end n)

next_behind : (text : List ℕ) (n : ℕ) → NoEnd text → NoEnd (text ++ codes " " ++ decimal n)
next_behind text n none = number_behind (text ++ codes " ") n (no_end_both text (codes " ") none (refl, tt))

words_no_end : (line : DriveLine) → NoEnd (words_text line)
words_no_end (Read lba n) =
    next_behind (codes "read " ++ decimal lba) n (number_behind (codes "read ") lba (refl, (refl, (refl, (refl, (refl, tt))))))
words_no_end (Write lba n seed) =
    next_behind (codes "write " ++ decimal lba ++ codes " " ++ decimal n) seed
    (next_behind (codes "write " ++ decimal lba) n (number_behind (codes "write ") lba (refl, (refl, (refl, (refl, (refl, (refl, tt))))))))
words_no_end (Steps count) = number_behind (codes "steps ") count (refl, (refl, (refl, (refl, (refl, (refl, tt))))))
words_no_end (Collect count) = number_behind (codes "collect ") count (refl, (refl, (refl, (refl, (refl, (refl, (refl, (refl, tt))))))))
words_no_end Drain = (refl, (refl, (refl, (refl, (refl, tt)))))
words_no_end Reset = (refl, (refl, (refl, (refl, (refl, tt)))))
words_no_end (Lun lun) = number_behind (codes "lun ") lun (refl, (refl, (refl, (refl, tt))))
words_no_end Blank = tt

pub text_said : (units x count : ℕ) → 1 ≤ units
    → map drive_line (lines_of (lines_text (made_lines units x count))) ≡ map Some (made_lines units x count)
unfolding made_lines
text_said units x zero some = refl
text_said units x (suc count) some =
    let line : DriveLine = (line_after units x).line in
    let rest : List DriveLine = made_lines units (line_after units x).number count in
    ap (λ (l : List ℕ). map drive_line (lines_of l)) (append_assoc (words_text line) (10 ∷ []) (lines_text rest))
    ∙ (ap (map drive_line) (lines_of-ended (words_text line) (lines_text rest) (within_from (words_text line) (words_no_end line)))
    ∙ (ap (λ o. o ∷ map drive_line (lines_of (lines_text rest))) (parsed line (line_said units x some))
    ∙ ap (λ os. Some line ∷ os) (text_said units (line_after units x).number count some)))

-- ---- lengths

few_digits : (n : ℕ) → n < 1000000 → length (decimal n) ≤ 6
few_digits n fits = length-decimal-le 6 n (omega arith) (omega (arith, fits)) (omega (arith, fits))

short_words : (line : DriveLine) → IsSaid line → length (words_text line) ≤ 131200
unfolding IsSaid
short_words (Read lba n) is = omega (
  arith,
  length-append (codes "read " ++ decimal lba ++ codes " ") (decimal n),
  length-append (codes "read " ++ decimal lba) (codes " "),
  length-append (codes "read ") (decimal lba),
  few_digits lba is.0,
  few_digits n (omega (arith, is.1)),
)
short_words (Write lba n seed) is = omega (
  arith,
  length-append (codes "write " ++ decimal lba ++ codes " " ++ decimal n ++ codes " ") (decimal seed),
  length-append (codes "write " ++ decimal lba ++ codes " " ++ decimal n) (codes " "),
  length-append (codes "write " ++ decimal lba ++ codes " ") (decimal n),
  length-append (codes "write " ++ decimal lba) (codes " "),
  length-append (codes "write ") (decimal lba),
  few_digits lba is.0,
  few_digits n (omega (arith, is.1)),
  few_digits seed is.2,
)
short_words (Steps count) is = omega (arith, length-append (codes "steps ") (decimal count), few_digits count is)
short_words (Collect count) is = omega (arith, length-append (codes "collect ") (decimal count), few_digits count is)
short_words Drain is = omega arith
short_words Reset is = omega arith
short_words (Lun lun) is = absurd is
short_words Blank is = absurd is

-- each line of the made text is short
pub lines_short : (units x count : ℕ) → 1 ≤ units → AllByRecursion (λ (l : List ℕ). length l ≤ 131200) (lines_of (lines_text (made_lines units x count)))
unfolding made_lines
lines_short units x zero some = tt
lines_short units x (suc count) some =
    let line : DriveLine = (line_after units x).line in
    let rest : List DriveLine = made_lines units (line_after units x).number count in
    let parts : lines_of (line_text line ++ lines_text rest) ≡ words_text line ∷ lines_of (lines_text rest) =
    ap lines_of (append_assoc (words_text line) (10 ∷ []) (lines_text rest)) ∙ lines_of-ended (words_text line) (lines_text rest) (within_from (words_text line) (words_no_end line)) in
    subst (AllByRecursion (λ (l : List ℕ). length l ≤ 131200)) (sym parts)
    (short_words line (line_said units x some), lines_short units (line_after units x).number count some)
