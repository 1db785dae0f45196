-- The text of lines that are made, line by line.
use Rattle.std.proofs.Common.{◌≡◌, ◌+◌, ◌-◌, ◌≤◌, ◌<◌, ℕ, zero, suc, List, [], ◌∷◌, ◌++◌, length, take, drop, refl, ap, ◌∙◌, arith, append_assoc, length-drop}
use Rattle.std.proofs.lemmas.List.{drop_all}
use Rattle.trace_text.specs.declared.drive.DriveLine.{DriveLine}
use Rattle.hpb_outside.proofs.Leftover.{read_takes}
use Rattle.made_drive.specs.Generator.{line_after, made_lines}
use Rattle.made_drive.specs.Text.{line_text, lines_text}

-- where bytes of a text are left, there are some
pub none_left : (place : ℕ) (text : List ℕ) → place < length text → drop place text ≡ [] → ⊥
none_left place text within none = omega (arith, length-drop place text, ap length none)

pub no_lines : (units x lines : ℕ) → lines ≡ 0 → lines_text (made_lines units x lines) ≡ []
unfolding made_lines
no_lines units x lines none = rw none refl

-- the next of the lines to come, where the last one was read
pub line_begun : (units x lines place same number : ℕ) (text next : List ℕ) (line : DriveLine) → length text ≤ place
    → (lines ≡ 0 → ⊥) → line ≡ (line_after units x).line → same ≡ units → number ≡ (line_after units x).number
    → next ≡ line_text line
    → next ++ lines_text (made_lines same number (lines - 1)) ≡ drop place text ++ lines_text (made_lines units x lines)
unfolding made_lines
line_begun units x zero place same number text next line ended some is kept then written = absurd (some refl)
line_begun units x (suc lines) place same number text next line ended some is kept then written =
    let less : suc lines - 1 ≡ lines = omega arith in
    rw (drop_all place text ended, less, written, is, kept, then) refl

-- the next of the lines that are counted
pub line_counted : (units x lines done same number : ℕ) (line : DriveLine) → done < lines
    → line ≡ (line_after units x).line → same ≡ units → number ≡ (line_after units x).number
    → made_lines units x (lines - done) ≡ line ∷ made_lines same number (lines - (done + 1))
unfolding made_lines
line_counted units x lines done same number line more is kept then =
    let less : lines - done ≡ suc (lines - (done + 1)) = omega arith in
    rw (less, is, kept, then) refl

-- a read of the line begun, with more text behind it
pub line_read : (text given more behind : List ℕ) (place count : ℕ) → place + count ≤ length text
    → given ≡ take count (drop place text)
    → drop place text ++ behind ≡ take count (given ++ more) ++ (drop (place + count) text ++ behind)
line_read text given more behind place count fits is =
    ap (λ (l : List ℕ). l ++ behind) (read_takes text given more place count fits is)
    ∙ append_assoc (take count (given ++ more)) (drop (place + count) text) behind

-- where nothing is read of the line begun, nothing is left
pub all_read : (text behind : List ℕ) (place count : ℕ) → count ≡ 0 → length text ≤ place
    → (drop place text ≡ [] → behind ≡ []) → drop (place + count) text ++ behind ≡ []
all_read text behind place count none ended last =
    let here : drop place text ≡ [] = drop_all place text ended in
    let there : drop (place + count) text ≡ [] = drop_all (place + count) text (omega arith) in
    rw (there, last here) refl

-- no line is left
pub no_line_left : (units x count : ℕ) → count ≡ 0 → made_lines units x count ≡ []
unfolding made_lines
no_line_left units x zero none = refl
no_line_left units x (suc count) none = absurd (omega (arith, none))
