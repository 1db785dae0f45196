-- Texts that are written one after another.
use Rattle.std.proofs.Common.{◌≡◌, ℕ, List, [], ◌++◌, Option, Some, None, Result, Ok, Err, refl, sym, ◌∙◌, ap, subst, ◌⊎◌, inl, inr}
use Rattle.std.proofs.lemmas.List.{append_assoc, append-nil}
use Rattle.std.specs.Prelude.{MatchResult, IsErr, OnOk}
use Rattle.std.specs.Io.KnownBytes.{Appends, Keeps}
use Rattle.std.proofs.lemmas.Result.{MatchResult-weaker}
use Rattle.std.proofs.lemmas.Bool.{false≢true}
use Rattle.hpb_outside.proofs.Written.{appends_more, appends_nothing, nothing_yet, up_to_end}
use Rattle.hpb_outside.specs.Writes.{AppendsFront, HasWrittenUpTo, Writes}
use Rattle.run_output.specs.Writes.{Grows, KeepsText, WritesAll}

-- what was gathered was written, or a front of it
pub flushed : {T E : Type 0} (old new : Option (List ℕ)) (gathered : List ℕ) (r : Result T E) → Writes old new r gathered → KeepsText old new gathered [] r
flushed old new gathered r writes before text so_far =
    MatchResult-weaker r writes
    (λ _ all. record {
      front = so_far.front ++ gathered;
      parts = append-nil (so_far.front ++ gathered) ∙ so_far.parts;
      appended = appends_more before old new so_far.front gathered so_far.appended all;
    })
    (λ _ cut. record {
      front = so_far.front ++ cut.front;
      rest = cut.rest;
      parts = append_assoc so_far.front cut.front cut.rest ∙ (ap (λ (l : List ℕ). so_far.front ++ l) cut.parts ∙ so_far.parts);
      appended = appends_more before old new so_far.front cut.front so_far.appended cut.appended;
    })

-- more is gathered
pub gathers_more : (before written : Option (List ℕ)) (text gathered more : List ℕ) → HasWrittenUpTo before written text gathered → HasWrittenUpTo before written (text ++ more) (gathered ++ more)
gathers_more before written text gathered more so_far = record {
  front = so_far.front;
  parts = sym (append_assoc so_far.front gathered more) ∙ ap (λ (l : List ℕ). l ++ more) so_far.parts;
  appended = so_far.appended;
}

-- what is said of a call that failed, or didn't
pub cut_of : {T E : Type 0} (r : Result T E) (P Q : Type 0) → IsErr r → MatchResult r (λ _. P) (λ _. Q) → Q
cut_of (Ok x) P Q failed told = absurd (false≢true failed)
cut_of (Err x) P Q failed told = told

pub whole_of : {T E : Type 0} (r : Result T E) (P Q : Type 0) → ¬ IsErr r → MatchResult r (λ _. P) (λ _. Q) → P
whole_of (Ok x) P Q worked told = told
whole_of (Err x) P Q worked told = absurd (worked refl)

-- text that was written stays, and more may follow
pub grows_none : (known : Option (List ℕ)) → Grows known known
grows_none known = ([], appends_nothing known)

pub grows_more : (a b c : Option (List ℕ)) → Grows a b → Grows b c → Grows a c
grows_more a b c first then = (first.0 ++ then.0, appends_more a b c first.0 then.0 first.1 then.1)

-- a call that keeps a text writes a front of it
pub keeps_grows : {T E : Type 0} (old new : Option (List ℕ)) (gathered gathered_now : List ℕ) (r : Result T E) → KeepsText old new gathered gathered_now r → Grows old new
keeps_grows old new gathered gathered_now (Ok x) keeps = let up_to = keeps old gathered (nothing_yet old gathered) in (up_to.front, up_to.appended)
keeps_grows old new gathered gathered_now (Err x) keeps = let cut = keeps old gathered (nothing_yet old gathered) in (cut.front, cut.appended)

-- all that was gathered is written where nothing is gathered then
pub writes_all : {T E : Type 0} (old new : Option (List ℕ)) (gathered gathered_now : List ℕ) (r : Result T E) → KeepsText old new gathered gathered_now r → ¬ IsErr r → gathered_now ≡ []
    → Appends old new gathered
writes_all old new gathered gathered_now r keeps worked none =
    up_to_end old new gathered gathered_now none (whole_of r _ _ worked (keeps old gathered (nothing_yet old gathered)))

pub writes_all_then : (a b c : Option (List ℕ)) (text : List ℕ) → Appends a b text → Grows b c → WritesAll a c text
writes_all_then a b c text first then = (then.0, appends_more a b c text then.0 first then.1)

pub keeps_same : (known : Option (List ℕ)) → Keeps known known
keeps_same None = tt
keeps_same (Some xs) = refl

-- what is so of an answer that is no failure
pub of_ok : {T E : Type 0} (r : Result T E) (P : Type 0) → ¬ IsErr r → OnOk r P → P
of_ok (Ok x) P worked is = is
of_ok (Err x) P worked is = absurd (worked refl)

-- the source was not asked, or all that was gathered was written before
pub asked_after : {T E : Type 0} (same holds : Type 0) (old mid new : Option (List ℕ)) (gathered gathered_now : List ℕ) (r : Result T E) → KeepsText old mid gathered gathered_now r → ¬ IsErr r
    → OnOk r (holds ⊎ (gathered_now ≡ [])) → (holds → same) → Grows mid new → same ⊎ WritesAll old new gathered
asked_after same holds old mid new gathered gathered_now r keeps worked all still grows = by_holds (of_ok r (holds ⊎ (gathered_now ≡ [])) worked all)
  where
    by_holds : holds ⊎ (gathered_now ≡ []) → same ⊎ WritesAll old new gathered
    by_holds (inl held) = inl (still held)
    by_holds (inr none) = inr (writes_all_then old mid new gathered (writes_all old mid gathered gathered_now r keeps worked none) grows)

-- what was gathered is written where the next line isn't held
pub empty_unless : {T E : Type 0} (holds : Type 0) (gathered : List ℕ) (r : Result T E) → ¬ IsErr r → OnOk r (holds ⊎ (gathered ≡ [])) → ¬ holds → gathered ≡ []
empty_unless holds gathered r worked all other = by_holds (of_ok r (holds ⊎ (gathered ≡ [])) worked all)
  where
    by_holds : holds ⊎ (gathered ≡ []) → gathered ≡ []
    by_holds (inl held) = absurd (other held)
    by_holds (inr none) = none

-- where nothing is gathered, nothing is after a call that keeps it or writes it
pub still_none : (old new : List ℕ) → old ≡ [] → (new ≡ old) ⊎ (new ≡ []) → new ≡ []
still_none old new none (inl same) = same ∙ none
still_none old new none (inr is) = is

-- no last words
pub wordless : (a b : Option (List ℕ)) (text : List ℕ) → Appends a b (text ++ []) → Appends a b text
wordless a b text = subst (Appends a b) (append-nil text)

pub front_wordless : (a b : Option (List ℕ)) (text : List ℕ) → AppendsFront a b text → AppendsFront a b (text ++ [])
front_wordless a b text = subst (AppendsFront a b) (sym (append-nil text))

-- a front of a text is one of a longer text
pub front_longer : (a b : Option (List ℕ)) (text words : List ℕ) → AppendsFront a b text → AppendsFront a b (text ++ words)
front_longer a b text words cut = record {
  front = cut.front;
  rest = cut.rest ++ words;
  parts = sym (append_assoc cut.front cut.rest words) ∙ ap (λ (l : List ℕ). l ++ words) cut.parts;
  appended = cut.appended;
}

-- three texts that are gathered one after another
pub three_more : (before written : Option (List ℕ)) (text gathered one two three a b c : List ℕ) → HasWrittenUpTo before written text gathered → one ≡ gathered ++ a → two ≡ one ++ b → three ≡ two ++ c
    → HasWrittenUpTo before written (text ++ (a ++ b ++ c)) three
three_more before written text gathered one two three a b c so_far is_one is_two is_three =
    let first = gathers_more before written text gathered a so_far in
    let second = gathers_more before written (text ++ a) (gathered ++ a) b first in
    let all = gathers_more before written ((text ++ a) ++ b) ((gathered ++ a) ++ b) c second in
    let grouped : ((text ++ a) ++ b) ++ c ≡ text ++ ((a ++ b) ++ c) = ap (λ (l : List ℕ). l ++ c) (append_assoc text a b) ∙ append_assoc text (a ++ b) c in
    rw (is_three, is_two, is_one) (subst (λ (l : List ℕ). HasWrittenUpTo before written l (((gathered ++ a) ++ b) ++ c)) grouped all)
