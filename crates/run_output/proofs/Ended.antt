-- How a run ends.
use Rattle.std.proofs.Common.{◌≡◌, ℕ, List, [], ◌∷◌, ◌++◌, Option, Some, None, refl, sym, ◌∙◌, ap, subst, inl, inr, ◌⊎◌}
use Rattle.std.proofs.lemmas.List.{append_assoc, append-nil}
use Rattle.std.specs.Io.KnownBytes.{Appends, Keeps, prepend_known}
use Rattle.trace_text.specs.Lines.{BeginsLong, IsLine, TakesLine, WhereTold, lines_of}
use Rattle.trace_text.proofs.LinesOf.{lines_of-takes}
use Rattle.run_output.specs.declared.status.Status.{Status}
use Rattle.run_output.specs.declared.status.Status.TheVariants.{LongTrace, WriteFault}
use Rattle.run_output.specs.Ends.{CountsFault, HasMore, IsLong, LastIs, ReadsAhead, SinkEnds, SourceEnds, TakesLines}
use Rattle.run_output.specs.Texts.{long_text}
use Rattle.hpb_outside.specs.Writes.{AppendsFront}
use Rattle.run_output.proofs.Written.{wordless}

-- one more line was taken
pub takes_more : (left : Option (List ℕ)) (texts : List (List ℕ)) (mid now : Option (List ℕ)) (text : List ℕ) → TakesLines left texts mid → IsLine text → WhereTold (TakesLine text) mid now
    → TakesLines left (texts ++ text ∷ []) now
takes_more left [] mid now text same line takes = (now, line, subst (λ (from : Option (List ℕ)). WhereTold (TakesLine text) from now) same takes, refl)
takes_more left (t ∷ texts) mid now text taken line takes = (taken.0, taken.1, taken.2, takes_more taken.0 texts mid now text taken.3 line takes)

-- the lines that were taken of a told text are its first ones
pub first_lines : (text : List ℕ) (texts : List (List ℕ)) (mid : Option (List ℕ)) → TakesLines (Some text) texts mid
    → (rest : List ℕ) × (mid ≡ Some rest) × (lines_of text ≡ texts ++ lines_of rest)
first_lines text [] mid is = (text, is, refl)
first_lines text (line ∷ texts) mid (None, one, taken, more) = absurd taken
first_lines text (line ∷ texts) mid (Some left, one, taken, more) =
    let all = first_lines left texts mid more in
    (all.0, all.1, lines_of-takes line text left taken ∙ ap (λ (ls : List (List ℕ)). line ∷ ls) all.2)

-- a text whose begin is held is too long where those bytes are
long_before : (held left : List ℕ) → BeginsLong held → BeginsLong (held ++ left)
long_before held left (front, rest, is, long, within) =
    (front, rest ++ left, ap (λ (xs : List ℕ). xs ++ left) is ∙ append_assoc front rest left, long, within)

pub long_text_of : (text : Option (List ℕ)) (held : List ℕ) (left : Option (List ℕ)) → Keeps text (prepend_known held left) → BeginsLong held → IsLong text
long_text_of None held left same long = tt
long_text_of (Some xs) held None same long = absurd same
long_text_of (Some xs) held (Some rest) same long = subst BeginsLong same (long_before held rest long)

-- what a last text leaves of the count of the sink's faults, and of the source's
pub sink_ended : {A B : Type 0} (before now : ℕ) (result status : Status) → (now ≡ before → SinkEnds before now status) → ((result ≡ status) × A × (now ≡ before))
    ⊎ ((result ≡ WriteFault) × B × CountsFault before now) → SinkEnds before now result
sink_ended before now result status same (inl (is, _, none)) = subst (SinkEnds before now) (sym is) (same none)
sink_ended before now result status same (inr (is, _, one)) = subst (SinkEnds before now) (sym is) one

pub source_ended : {A B C D : Type 0} (before now : ℕ) (result status : Status) → SourceEnds before now status → now ≡ before → ((result ≡ status) × A × B) ⊎ ((result ≡ WriteFault) × C × D)
    → SourceEnds before now result
source_ended before now result status holds same (inl (is, _, _)) = subst (SourceEnds before now) (sym is) holds
source_ended before now result status holds same (inr (is, _, _)) = subst (SourceEnds before now) (sym is) same

-- what a text that is gathered behind others leaves
pub last_since : {A B : Type 0} (before mid now : ℕ) (result status : Status) → mid ≡ before → ((result ≡ status) × A × (now ≡ mid)) ⊎ ((result ≡ WriteFault) × B × CountsFault mid now)
    → ((result ≡ status) × A × (now ≡ before)) ⊎ ((result ≡ WriteFault) × B × CountsFault before now)
last_since before mid now result status same (inl (is, all, none)) = inl (is, all, none ∙ same)
last_since before mid now result status same (inr (is, cut, one)) = inr (is, cut, subst (λ (n : ℕ). CountsFault n now) same one)

pub ends_wordless : {A B : Type 0} (a b : Option (List ℕ)) (text : List ℕ) (result status : Status) → ((result ≡ status) × Appends a b (text ++ []) × A)
    ⊎ ((result ≡ WriteFault) × AppendsFront a b (text ++ []) × B)
    → ((result ≡ status) × Appends a b text × A) ⊎ ((result ≡ WriteFault) × AppendsFront a b text × B)
ends_wordless a b text result status (inl (is, all, same)) = inl (is, wordless a b text all, same)
ends_wordless a b text result status (inr (is, cut, rises)) = inr (is, subst (AppendsFront a b) (append-nil text) cut, rises)

-- a text whose rest is held, and isn't at its end
pub more_of : (text : Option (List ℕ)) (held : List ℕ) (left : Option (List ℕ)) → Keeps text (prepend_known held left) → (held ≡ [] → ⊥) → HasMore text
more_of None held left same some = tt
more_of (Some xs) held None same some = absurd same
more_of (Some xs) [] (Some rest) same some = absurd (some refl)
more_of (Some xs) (x ∷ held) (Some rest) same some = λ none. is_none (same ∙ none)
  where
    is_none : x ∷ (held ++ rest) ≡ [] → ⊥
    is_none is = cc

-- the last words of a trace that is too long
pub last_long : {A B : Type 0} (before new : Option (List ℕ)) (text : List ℕ) (left left_now : Option (List ℕ)) (result : Status) → HasMore left → ReadsAhead left left_now
    → ((result ≡ LongTrace) × Appends before new (text ++ long_text) × A) ⊎ ((result ≡ WriteFault) × AppendsFront before new (text ++ long_text) × B) → LastIs before new text left left_now result
last_long before new text left left_now result more ahead (inl (is, all, _)) = subst (LastIs before new text left left_now) (sym is) (all, more, ahead)
last_long before new text left left_now result more ahead (inr (is, cut, _)) =
    subst (LastIs before new text left left_now) (sym is) (long_text, inr (refl, more), cut)
