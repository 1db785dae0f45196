-- The status of a run is that of its text, where no call of the source or the sink failed.
use Rattle.std.proofs.Common.{◌≡◌, ℕ, suc, ◌+◌, ◌<◌, ◌≤◌, Bool, true, false, ◌&&◌, nat_le, nat_lt, List, [], ◌∷◌, ◌++◌}
use Rattle.std.proofs.Common.{length, Option, Some, None, refl, sym, ◌∙◌, ap, subst, arith, inl, inr, length-append}
use Rattle.std.specs.Prelude.{is_some, map, ◌==◌}
use Rattle.std.specs.List.{AllByRecursion, prefix_len}
use Rattle.std.proofs.lemmas.Bool.{le-leb}
use Rattle.std.proofs.lemmas.Bool.Decides.{nat_tests}
use Rattle.flat_unit.specs.Trace.{Line}
use Rattle.trace_text.specs.Grammar.{trace_line}
use Rattle.trace_text.specs.Lines.{BeginsLong, EndsAt, IsLine, TakesLine, WhereTold, lines_of}
use Rattle.trace_text.specs.Shown.{shown_line}
use Rattle.trace_text.proofs.LinesOf.{lines_of-long, lines_of-none, lines_of-takes}
use Rattle.trace_replay.specs.ByText.{is_shown_line, is_trace_line, status_by, status_of}
use Rattle.run_output.specs.Ends.{HasMore, TakesLines}
use Rattle.trace_replay.specs.Run.{IsBadNext}
use Rattle.trace_replay.specs.Showing.{IsUnshown}
use Rattle.run_output.specs.declared.status.Status.TheVariants.{Done, BadLine, LongTrace}
use Rattle.run_output.proofs.Ended.{first_lines}

-- good lines, and what follows them
prefix-good : (good : List ℕ → Bool) (texts more : List (List ℕ)) → AllByRecursion (λ (line : List ℕ). good line ≡ true) texts → prefix_len good (texts ++ more) ≡ length texts + prefix_len good more
prefix-good good [] more all = omega arith
prefix-good good (line ∷ texts) more all = rw all.0 (omega (arith, prefix-good good texts more all.1))

-- how so many lines end a run
by_done : (limit n : ℕ) → n ≤ limit → status_by limit n n ≡ Done
by_done limit n few =
    let none : (nat_le limit n && nat_lt limit n) ≡ false = grind (arith, nat_tests) in
    let same : (n == n) ≡ true = grind (arith, nat_tests) in
    rw (none, same) refl

by_bad : (limit good all : ℕ) → good < limit → good < all → status_by limit good all ≡ BadLine (good + 1)
by_bad limit good all few fewer =
    let none : (nat_le limit good && nat_lt limit all) ≡ false = grind (arith, nat_tests) in
    let other : (good == all) ≡ false = grind (arith, nat_tests) in
    rw (none, other) refl

by_long : (limit good all : ℕ) → limit ≤ good → limit < all → status_by limit good all ≡ LongTrace
by_long limit good all many more =
    let both : (nat_le limit good && nat_lt limit all) ≡ true = grind (arith, nat_tests) in
    rw both refl

-- a text whose lines are all good
pub ends_done : (good : List ℕ → Bool) (limit : ℕ) (text : List ℕ) (texts : List (List ℕ)) → AllByRecursion (λ (line : List ℕ). good line ≡ true) texts → length texts ≤ limit
    → lines_of text ≡ texts ++ [] → Done ≡ status_of good limit text
ends_done good limit text texts all few is =
    let passes : prefix_len good (lines_of text) ≡ length texts = let one = prefix-good good texts [] all in ap (prefix_len good) is ∙ omega (arith, one) in
    let counted : length (lines_of text) ≡ length texts = let one = length-append texts [] in ap length is ∙ omega (arith, one) in
    sym ((λ i. status_by limit (passes i) (counted i)) ∙ by_done limit (length texts) few)

-- a text with a line that isn't good
pub ends_bad : (good : List ℕ → Bool) (limit number : ℕ) (text : List ℕ) (texts more : List (List ℕ)) (line : List ℕ) → AllByRecursion (λ (line : List ℕ). good line ≡ true) texts
    → length texts < limit → number ≡ length texts + 1
    → good line ≡ false → lines_of text ≡ texts ++ line ∷ more → BadLine number ≡ status_of good limit text
ends_bad good limit number text texts more line all few is bad lines =
    let stops : prefix_len good (line ∷ more) ≡ 0 = rw bad refl in
    let passes : prefix_len good (lines_of text) ≡ length texts = let one = prefix-good good texts (line ∷ more) all in ap (prefix_len good) lines ∙ omega (arith, one, stops) in
    let counted : length (lines_of text) ≡ length texts + suc (length more) = ap length lines ∙ length-append texts (line ∷ more) in
    sym ((λ i. status_by limit (passes i) (counted i)) ∙ (by_bad limit (length texts) (length texts + suc (length more)) few (omega arith) ∙ ap BadLine (sym is)))

-- a text with more lines than may be taken
pub ends_long : (good : List ℕ → Bool) (limit : ℕ) (text : List ℕ) (texts more : List (List ℕ)) → AllByRecursion (λ (line : List ℕ). good line ≡ true) texts → length texts ≡ limit → 0 < length more
    → lines_of text ≡ texts ++ more → LongTrace ≡ status_of good limit text
ends_long good limit text texts more all counted some lines =
    let passes : prefix_len good (lines_of text) ≡ length texts + prefix_len good more = ap (prefix_len good) lines ∙ prefix-good good texts more all in
    let whole : length (lines_of text) ≡ length texts + length more = ap length lines ∙ length-append texts more in
    sym ((λ i. status_by limit (passes i) (whole i)) ∙ by_long limit (length texts + prefix_len good more) (length texts + length more) (omega arith) (omega arith))

-- the lines that were taken, or shown, are good
short : (line : List ℕ) → IsLine line → nat_le (length line) 131200 ≡ true
short line one = le-leb (length line) 131200 one.size

long : (line : List ℕ) → 131200 < length line → nat_le (length line) 131200 ≡ false
long line over = grind (arith, nat_tests)

pub all_parsed : (left : Option (List ℕ)) (texts : List (List ℕ)) (lines : List Line) (mid : Option (List ℕ)) → TakesLines left texts mid
    → map trace_line texts ≡ map (λ (line : Line). Some line) lines
    → AllByRecursion (λ (line : List ℕ). is_trace_line line ≡ true) texts
all_parsed left [] lines mid taken parsed = tt
all_parsed left (text ∷ texts) [] mid taken parsed = absurd (unequal parsed)
  where
    unequal : {x : Option Line} {xs : List (Option Line)} → x ∷ xs ≡ [] → ⊥
    unequal is = cc
all_parsed left (text ∷ texts) (line ∷ lines) mid (now, one, takes, more) parsed =
    (rw (short text one, head parsed) refl, all_parsed now texts lines mid more (tail parsed))
  where
    head : {a b : Option Line} {xs ys : List (Option Line)} → a ∷ xs ≡ b ∷ ys → a ≡ b
    head is = cc

    tail : {a b : Option Line} {xs ys : List (Option Line)} → a ∷ xs ≡ b ∷ ys → xs ≡ ys
    tail is = cc

pub all_shown : (left : Option (List ℕ)) (lines shown : List (List ℕ)) (mid : Option (List ℕ)) → TakesLines left lines mid → map shown_line lines ≡ map (λ (line : List ℕ). Some line) shown
    → AllByRecursion (λ (line : List ℕ). is_shown_line line ≡ true) lines
all_shown left [] shown mid taken each = tt
all_shown left (line ∷ lines) [] mid taken each = absurd (unequal each)
  where
    unequal : {x : Option (List ℕ)} {xs : List (Option (List ℕ))} → x ∷ xs ≡ [] → ⊥
    unequal is = cc
all_shown left (line ∷ lines) (text ∷ shown) mid (now, one, takes, more) each =
    (rw (short line one, head each) refl, all_shown now lines shown mid more (tail each))
  where
    head : {a b : Option (List ℕ)} {xs ys : List (Option (List ℕ))} → a ∷ xs ≡ b ∷ ys → a ≡ b
    head is = cc

    tail : {a b : Option (List ℕ)} {xs ys : List (Option (List ℕ))} → a ∷ xs ≡ b ∷ ys → xs ≡ ys
    tail is = cc

-- the next line of a told text isn't good
abbrev BeginsBad : (List ℕ → Bool) → List ℕ → Type 0
BeginsBad good text = (line : List ℕ) × (more : List (List ℕ)) × (lines_of text ≡ line ∷ more) × (good line ≡ false)

long_is_bad : (test : List ℕ → Bool) (text : List ℕ) → BeginsLong text → BeginsBad (λ (line : List ℕ). nat_le (length line) 131200 && test line) text
long_is_bad test text begins =
    let first = lines_of-long text begins in
    (first.0, first.1, first.2, rw (long first.0 first.3) refl)

bad_test : (a b : Bool) → b ≡ false → (a && b) ≡ false
bad_test true b none = none
bad_test false b none = refl

taken_is_bad : (test : List ℕ → Bool) (text line : List ℕ) (behind : Option (List ℕ)) → WhereTold (TakesLine line) (Some text) behind → test line ≡ false
    → BeginsBad (λ (line : List ℕ). nat_le (length line) 131200 && test line) text
taken_is_bad test text line None takes none = absurd takes
taken_is_bad test text line (Some rest) takes none = (line, lines_of rest, lines_of-takes line text rest takes, bad_test (nat_le (length line) 131200) (test line) none)

pub begins_bad : (text : List ℕ) (behind : Option (List ℕ)) → IsBadNext (Some text) behind → BeginsBad is_trace_line text
begins_bad text behind (inl (begins, _)) = long_is_bad (λ (line : List ℕ). is_some (trace_line line)) text begins
begins_bad text behind (inr (line, takes, none)) = taken_is_bad (λ (line : List ℕ). is_some (trace_line line)) text line behind takes (ap is_some none)

pub begins_unshown : (text : List ℕ) (behind : Option (List ℕ)) → IsUnshown (Some text) behind → BeginsBad is_shown_line text
begins_unshown text behind (inl (begins, _)) = long_is_bad (λ (line : List ℕ). is_some (shown_line line)) text begins
begins_unshown text behind (inr (line, takes, none)) = taken_is_bad (λ (line : List ℕ). is_some (shown_line line)) text line behind takes (ap is_some none)

-- some line follows where the text isn't at its end
pub some_follow : (text : List ℕ) → HasMore (Some text) → 0 < length (lines_of text)
some_follow text more = by_lines (lines_of text) refl
  where
    by_lines : (lines : List (List ℕ)) → lines_of text ≡ lines → 0 < length lines
    by_lines [] none = absurd (more (lines_of-none text none))
    by_lines (line ∷ lines) is = omega arith

-- how told text ends a run, by what was taken of it
module _ (good : List ℕ → Bool) (limit n : ℕ) (text : List ℕ) (texts : List (List ℕ)) (all : AllByRecursion (λ (line : List ℕ). good line ≡ true) texts) (counted : length texts ≡ n) where
  pub told_done : (mid left_now : Option (List ℕ)) → TakesLines (Some text) texts mid → n ≤ limit → WhereTold EndsAt mid left_now → Done ≡ status_of good limit text
  told_done mid left_now taken few ends =
      let first = first_lines text texts mid taken in
      ends_done good limit text texts all (omega arith) (first.2 ∙ ap (λ (ls : List (List ℕ)). texts ++ ls) (ap lines_of (at_end mid left_now first.0 first.1 ends)))
    where
      at_end : (mid left_now : Option (List ℕ)) (rest : List ℕ) → mid ≡ Some rest → WhereTold EndsAt mid left_now → rest ≡ []
      at_end None left_now rest is ends = cc is
      at_end (Some here) None rest is ends = absurd ends
      at_end (Some here) (Some left) rest is ends = same rest here (sym is) ∙ ends.0
        where
          same : (a b : List ℕ) → Some a ≡ Some b → a ≡ b
          same a b is = cc

  pub told_bad : (number : ℕ) (mid : Option (List ℕ)) → TakesLines (Some text) texts mid → n < limit → number ≡ n + 1 → ((rest : List ℕ) → mid ≡ Some rest → BeginsBad good rest)
      → BadLine number ≡ status_of good limit text
  told_bad number mid taken few is bad =
      let first = first_lines text texts mid taken in
      let next = bad first.0 first.1 in
      ends_bad good limit number text texts next.1 next.0 all (omega arith) (omega arith) next.3 (first.2 ∙ ap (λ (ls : List (List ℕ)). texts ++ ls) next.2)

  pub told_long : (mid : Option (List ℕ)) → TakesLines (Some text) texts mid → n ≡ limit → HasMore mid → LongTrace ≡ status_of good limit text
  told_long mid taken full more =
      let first = first_lines text texts mid taken in
      ends_long good limit text texts (lines_of first.0) all (omega arith) (some_follow first.0 (subst HasMore first.1 more)) first.2
