-- Answers and blocks, one line after another.
use Rattle.std.proofs.Common.{◌≡◌, ℕ, zero, suc, ◌+◌, ◌*◌, List, [], ◌++◌, Option, Result, sym, ◌∙◌, ap, subst, arith}
use Rattle.std.proofs.lemmas.List.{append_assoc, append-nil}
use Rattle.std.specs.Prelude.{IsErr, slice_range}
use Rattle.drive_rules.specs.Text.{blocks_text}
use Rattle.trace_text.specs.Written.{block_line}
use Rattle.hpb_outside.specs.Writes.{AppendsFront, HasWrittenUpTo}
use Rattle.run_output.specs.Writes.{KeepsText}
use Rattle.run_output.proofs.Written.{cut_of, gathers_more, whole_of}

-- a text of which all is written but what was gathered is longer by this now
abbrev pub Added : (more : List ℕ) (a b : Option (List ℕ)) (one two : List ℕ) → Type 0
Added more a b one two = (before : Option (List ℕ)) (text : List ℕ) → HasWrittenUpTo before a text one → HasWrittenUpTo before b (text ++ more) two

pub nothing_added : (a : Option (List ℕ)) (one : List ℕ) → Added [] a a one one
nothing_added a one before text so_far = subst (λ (t : List ℕ). HasWrittenUpTo before a t one) (sym (append-nil text)) so_far

-- one line more is gathered
pub line_added : {T E : Type 0} (more line : List ℕ) (a b c : Option (List ℕ)) (one two three four : List ℕ) (r : Result T E) → Added more a b one two → KeepsText b c two three r
    → ¬ IsErr r → four ≡ three ++ line
    → Added (more ++ line) a c one four
line_added more line a b c one two three four r added keeps worked is before text so_far =
    let kept = whole_of r _ _ worked (keeps before (text ++ more) (added before text so_far)) in
    rw is (subst (λ (t : List ℕ). HasWrittenUpTo before c t (three ++ line)) (append_assoc text more line) (gathers_more before c (text ++ more) three line kept))

-- a longer text was cut there
pub line_cut : {T E : Type 0} (more rest all : List ℕ) (a b c : Option (List ℕ)) (one two three : List ℕ) (r : Result T E) → Added more a b one two → KeepsText b c two three r → IsErr r
    → all ≡ more ++ rest
    → (before : Option (List ℕ)) (text : List ℕ) → HasWrittenUpTo before a text one → AppendsFront before c (text ++ all)
line_cut more rest all a b c one two three r added keeps failed is before text so_far =
    let cut = cut_of r _ _ failed (keeps before (text ++ more) (added before text so_far)) in
    record {
      front = cut.front;
      rest = cut.rest ++ rest;
      parts = sym (append_assoc cut.front cut.rest rest) ∙ ap (λ (l : List ℕ). l ++ rest) cut.parts ∙ append_assoc text more rest ∙ ap (λ (l : List ℕ). text ++ l) (sym is);
      appended = cut.appended;
    }

-- the lines of so many blocks begin those of more
blocks_begin : (lba : ℕ) (bytes : List ℕ) (k more : ℕ) → (rest : List ℕ) × (blocks_text lba bytes (more + k) ≡ blocks_text lba bytes k ++ rest)
blocks_begin lba bytes k zero =
    let same : zero + k ≡ k = omega arith in
    ([], ap (blocks_text lba bytes) same ∙ sym (append-nil (blocks_text lba bytes k)))
blocks_begin lba bytes k (suc more) =
    let (rest, is) = blocks_begin lba bytes k more in
    let line = block_line (lba + (more + k)) (slice_range bytes (4096 * (more + k)) (4096 * (more + k) + 4096)) in
    let next : suc more + k ≡ suc (more + k) = omega arith in
    (rest ++ line, ap (blocks_text lba bytes) next ∙ ap (λ (l : List ℕ). l ++ line) is ∙ append_assoc (blocks_text lba bytes k) rest line)

pub blocks_cut : {T E : Type 0} (lba : ℕ) (bytes : List ℕ) (k all more : ℕ) → all ≡ more + k → (a b c : Option (List ℕ)) (one two three : List ℕ) (r : Result T E)
    → Added (blocks_text lba bytes k) a b one two
    → KeepsText b c two three r → IsErr r → (before : Option (List ℕ)) (text : List ℕ) → HasWrittenUpTo before a text one → AppendsFront before c (text ++ blocks_text lba bytes all)
blocks_cut lba bytes k all more is a b c one two three r added keeps failed =
    let (rest, begins) = blocks_begin lba bytes k more in
    line_cut (blocks_text lba bytes k) rest (blocks_text lba bytes all) a b c one two three r added keeps failed (ap (blocks_text lba bytes) is ∙ begins)

-- one block more
pub block_added : {T E : Type 0} (lba number first end : ℕ) (bytes : List ℕ) (k next : ℕ) → number ≡ lba + k → first ≡ 4096 * k → end ≡ 4096 * k + 4096 → next ≡ suc k
    → (a b c : Option (List ℕ)) (one two three four : List ℕ) (r : Result T E)
    → Added (blocks_text lba bytes k) a b one two → KeepsText b c two three r → ¬ IsErr r → four ≡ three ++ block_line number (slice_range bytes first end)
    → Added (blocks_text lba bytes next) a c one four
block_added lba number first end bytes k next number_is first_is end_is next_is a b c one two three four r added keeps worked is =
    let line = block_line (lba + k) (slice_range bytes (4096 * k) (4096 * k + 4096)) in
    let same : four ≡ three ++ line = is ∙ (λ i. three ++ block_line (number_is i) (slice_range bytes (first_is i) (end_is i))) in
    subst (λ (n : ℕ). Added (blocks_text lba bytes n) a c one four) (sym next_is) (line_added (blocks_text lba bytes k) line a b c one two three four r added keeps worked same)
