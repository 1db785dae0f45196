-- The lines of a text, one after the other.
use Rattle.std.proofs.Common.{◌≡◌, ◌≢◌, ◌⊎◌, ℕ, suc, zero, ◌<◌, ◌≤◌, ◌==◌, true, false, List, [], ◌∷◌, ◌++◌, length, drop, refl, sym, ap, ◌∙◌, subst, arith, length-append, inl, inr}
use Rattle.std.proofs.lemmas.Bool.{cases_eq, cases_lt}
use Rattle.std.proofs.lemmas.Bool.Decides.{nat_tests}
use Rattle.std.proofs.lemmas.List.{append-nil}
use Rattle.trace_text.specs.Lines.{BeginsLong, BeginsWithLine, IsWithinLine, TakesLine, lines_of, put_before}

pub within-nil : IsWithinLine []
within-nil k lt is = absurd (omega arith)

pub within-cons : (byte : ℕ) (bytes : List ℕ) → byte ≢ 10 → IsWithinLine bytes → IsWithinLine (byte ∷ bytes)
within-cons byte bytes other within zero lt is = other is
within-cons byte bytes other within (suc k) lt is = within k (omega arith) is

within-tail : (byte : ℕ) (bytes : List ℕ) → IsWithinLine (byte ∷ bytes) → IsWithinLine bytes
within-tail byte bytes within k lt is = within (suc k) (omega arith) is

no_end : (byte : ℕ) (bytes : List ℕ) → IsWithinLine (byte ∷ bytes) → (byte == 10) ≡ false
no_end byte bytes within =
    let other : byte ≢ 10 = within 0 (omega arith) in
    grind (arith, nat_tests)

lines_of-byte : (byte : ℕ) (rest : List ℕ) → (byte == 10) ≡ false → lines_of (byte ∷ rest) ≡ put_before byte (lines_of rest)
lines_of-byte byte rest other = rw other refl

-- a line with its end
pub lines_of-ended : (line rest : List ℕ) → IsWithinLine line → lines_of (line ++ 10 ∷ rest) ≡ line ∷ lines_of rest
lines_of-ended [] rest within = refl
lines_of-ended (byte ∷ bytes) rest within =
    lines_of-byte byte (bytes ++ 10 ∷ rest) (no_end byte bytes within)
    ∙ ap (put_before byte) (lines_of-ended bytes rest (within-tail byte bytes within))

-- a line that lacks its end
pub lines_of-last : (byte : ℕ) (bytes : List ℕ) → IsWithinLine (byte ∷ bytes) → lines_of (byte ∷ bytes) ≡ (byte ∷ bytes) ∷ []
lines_of-last byte [] within = lines_of-byte byte [] (no_end byte [] within)
lines_of-last byte (next ∷ bytes) within =
    lines_of-byte byte (next ∷ bytes) (no_end byte (next ∷ bytes) within)
    ∙ ap (put_before byte) (lines_of-last next bytes (within-tail byte (next ∷ bytes) within))

lines_of-last_line : (line : List ℕ) → line ≢ [] → IsWithinLine line → lines_of line ≡ line ∷ []
lines_of-last_line [] some within = absurd (some refl)
lines_of-last_line (byte ∷ bytes) some within = lines_of-last byte bytes within

-- a line that a text begins with is the first of its lines
pub lines_of-takes : (line text rest : List ℕ) → TakesLine line text rest → lines_of text ≡ line ∷ lines_of rest
lines_of-takes line text rest takes =
    elim takes.parts [
      | inl ended ↦ ap lines_of ended ∙ lines_of-ended line rest takes.is_line.within
      | inr last ↦ ap lines_of last.0 ∙ lines_of-last_line line last.2 takes.is_line.within ∙ ap (λ (t : List ℕ). line ∷ lines_of t) (sym last.1)
    ]

-- the first of some lines has this many bytes at least
abbrev pub HasFirst : ℕ → List (List ℕ) → Type 0
HasFirst size lines = (first : List ℕ) × (others : List (List ℕ)) × (lines ≡ first ∷ others) × (size ≤ length first)

first-put : (byte size : ℕ) (lines : List (List ℕ)) → HasFirst size lines → HasFirst (suc size) (put_before byte lines)
first-put byte size lines (first, others, is, long) = (byte ∷ first, others, ap (put_before byte) is, omega arith)

first-one : (byte : ℕ) (lines : List (List ℕ)) → HasFirst 1 (put_before byte lines)
first-one byte [] = (byte ∷ [], [], refl, omega arith)
first-one byte (line ∷ lines) = (byte ∷ line, lines, refl, omega arith)

first-front : (byte : ℕ) (bytes rest : List ℕ) → IsWithinLine (byte ∷ bytes) → HasFirst (length (byte ∷ bytes)) (lines_of ((byte ∷ bytes) ++ rest))
first-front byte [] rest within =
    let is = lines_of-byte byte rest (no_end byte [] within) in
    subst (HasFirst 1) (sym is) (first-one byte (lines_of rest))
first-front byte (next ∷ bytes) rest within =
    let is = lines_of-byte byte ((next ∷ bytes) ++ rest) (no_end byte (next ∷ bytes) within) in
    let more = first-front next bytes rest (within-tail byte (next ∷ bytes) within) in
    subst (HasFirst (length (byte ∷ next ∷ bytes))) (sym is) (first-put byte (length (next ∷ bytes)) _ more)

-- a text that begins too long has a first line that is too long
pub lines_of-long : (text : List ℕ) → BeginsLong text
    → (first : List ℕ) × (others : List (List ℕ)) × (lines_of text ≡ first ∷ others) × (131200 < length first)
lines_of-long text ([], rest, is, long, within) = absurd (omega arith)
lines_of-long text (byte ∷ bytes, rest, is, long, within) =
    let found = first-front byte bytes rest within in
    let size = found.3 in
    (found.0, found.1, ap lines_of is ∙ found.2, omega arith)

put_before-some : (byte : ℕ) (lines : List (List ℕ)) → put_before byte lines ≢ []
put_before-some byte [] is = cc is
put_before-some byte (line ∷ lines) is = cc is

-- a text with no lines is empty
pub lines_of-none : (text : List ℕ) → lines_of text ≡ [] → text ≡ []
lines_of-none [] none = refl
lines_of-none (byte ∷ rest) none =
    elim (byte == 10) as (λ b. (byte == 10) ≡ b → (byte ∷ rest) ≡ []) [
      | true ↦ λ is. let some : lines_of (byte ∷ rest) ≡ [] ∷ lines_of rest = rw is refl in cc
      | false ↦ λ is. absurd (put_before-some byte (lines_of rest) (sym (lines_of-byte byte rest is) ∙ none))
    ] refl

-- ---- the one line that a text begins with

after_end : (line rest : List ℕ) → drop (suc (length line)) (line ++ 10 ∷ rest) ≡ rest
after_end [] rest = refl
after_end (byte ∷ bytes) rest = after_end bytes rest

same_rest : (line text r q : List ℕ) → TakesLine line text r → TakesLine line text q → r ≡ q
same_rest line text r q one two =
    elim one.parts [
      | inl ended ↦ elim two.parts [
        | inl ended' ↦ sym (after_end line r) ∙ ap (drop (suc (length line))) (sym ended ∙ ended') ∙ after_end line q
        | inr last ↦ absurd (longer line r (sym ended ∙ last.0))
      ]
      | inr last ↦ elim two.parts [
        | inl ended ↦ absurd (longer line q (sym ended ∙ last.0))
        | inr last' ↦ last.1 ∙ sym last'.1
      ]
    ]
  where
    longer : (line rest : List ℕ) → line ++ 10 ∷ rest ≡ line → ⊥
    longer line rest is = let len = ap length is in let sum = length-append line (10 ∷ rest) in omega arith

pub takes-unique : (a b text r q : List ℕ) → TakesLine a text r → TakesLine b text q → (a ≡ b) × (r ≡ q)
takes-unique a b text r q one two =
    let both = sym (lines_of-takes a text r one) ∙ lines_of-takes b text q two in
    let same : a ≡ b = cc in
    (same, same_rest b text r q (subst (λ (line : List ℕ). TakesLine line text r) same one) two)

-- ---- every text is empty, begins with a line or begins too long

-- a text up to its first end
abbrev pub Split : List ℕ → Type 0
Split text = ((line : List ℕ) × (rest : List ℕ) × (text ≡ line ++ 10 ∷ rest) × IsWithinLine line) ⊎ IsWithinLine text

split-cons : (byte : ℕ) (text : List ℕ) → byte ≢ 10 → Split text → Split (byte ∷ text)
split-cons byte text other (inl (line, rest, is, within)) = inl (byte ∷ line, rest, ap (◌∷◌ byte) is, within-cons byte line other within)
split-cons byte text other (inr within) = inr (within-cons byte text other within)

split : (text : List ℕ) → Split text
split [] = inr within-nil
split (byte ∷ text) =
    elim (cases_eq byte 10) [
      | inl is ↦ inl ([], text, ap (λ (b : ℕ). b ∷ text) is, within-nil)
      | inr other ↦ split-cons byte text other (split text)
    ]

pub one_of_three : (text : List ℕ) → (text ≡ []) ⊎ (BeginsWithLine text ⊎ BeginsLong text)
one_of_three text =
    elim (split text) [
      | inl (line, rest, is, within) ↦ elim (cases_lt 131200 (length line)) [
        | inl long ↦ inr (inr (line, 10 ∷ rest, is, long, within))
        | inr short ↦ inr (inl (line, rest, record { is_line = record { within = within; size = short }; parts = inl is }))
      ]
      | inr within ↦ elim (cases_lt 131200 (length text)) [
        | inl long ↦ inr (inr (text, [], sym (append-nil text), long, within))
        | inr short ↦ elim (cases_eq (length text) 0) [
          | inl none ↦ inl (empty text none)
          | inr some ↦
              inr (inl (text, [], record { is_line = record { within = within; size = short }; parts = inr (refl, refl, λ is. some (ap length is)) }))
        ]
      ]
    ]
  where
    empty : (text : List ℕ) → length text ≡ 0 → text ≡ []
    empty [] none = refl
    empty (byte ∷ text) none = absurd (omega arith)

pub empty_has_no_line : (text : List ℕ) → text ≡ [] → BeginsWithLine text → ⊥
empty_has_no_line text none (line, rest, takes) =
    let first = sym (ap lines_of none) ∙ lines_of-takes line text rest takes in
    cc first

pub empty_is_not_long : (text : List ℕ) → text ≡ [] → BeginsLong text → ⊥
empty_is_not_long text none long =
    let found = lines_of-long text long in
    let first = sym (ap lines_of none) ∙ found.2 in
    cc first

pub line_is_not_long : (text : List ℕ) → BeginsWithLine text → BeginsLong text → ⊥
line_is_not_long text (line, rest, takes) long =
    let found = lines_of-long text long in
    let both = sym (lines_of-takes line text rest takes) ∙ found.2 in
    let same : line ≡ found.0 = cc in
    let short = takes.is_line.size in
    let size = found.3 in
    let len = ap length same in
    omega arith
