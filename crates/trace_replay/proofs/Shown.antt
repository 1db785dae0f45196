-- `show` goes on line by line, and how it ends.
use Rattle.std.proofs.Common.{◌≡◌, ℕ, ◌+◌, ◌<◌, ◌≤◌, true, false, List, [], ◌∷◌, ◌++◌, Option, Some, None, refl, sym, ◌∙◌, ap, subst, arith, inl, inr, ◌⊎◌, length-append}
use Rattle.std.specs.Prelude.{flat_map, is_some}
use Rattle.std.specs.Option.{option_map_or}
use Rattle.std.proofs.lemmas.List.{append_assoc, append-nil, map-append}
use Rattle.std.proofs.lemmas.Bool.{false≢true}
use Rattle.std.specs.Io.KnownBytes.{Appends}
use Rattle.trace_text.specs.Lines.{IsLine, TakesLine, EndsAt, WhereTold}
use Rattle.trace_text.specs.Shown.{shown_line}
use Rattle.run_output.specs.declared.status.Status.{Status}
use Rattle.run_output.specs.declared.status.Status.TheVariants.{Done, BadLine, ReadFault, WriteFault, LongTrace, Usage, Memory, Geometry, ChipFault, BadImage, BadCapture}
use Rattle.run_output.specs.Ends.{HasMore, LastIs, ReadsAhead}
use Rattle.run_output.specs.Texts.{bad_line_text, long_text}
use Rattle.trace_replay.specs.Showing.{IsShownShort, IsUnshown, ShowIs, Shows}
use Rattle.hpb_outside.specs.Writes.{AppendsFront, HasWrittenUpTo}
use Rattle.run_output.proofs.Ended.{takes_more}
use Rattle.hpb_outside.proofs.Written.{nothing_yet}
use Rattle.run_output.proofs.Written.{wordless}

pub some_of : (o : Option (List ℕ)) → is_some o ≡ true → o ≡ Some (option_map_or (λ (text : List ℕ). text) o [])
some_of None some = absurd (false≢true some)
some_of (Some text) some = refl

pub none_of : (o : Option (List ℕ)) → is_some o ≡ false → o ≡ None
none_of None none = refl
none_of (Some text) none = absurd (false≢true (sym none))

-- nothing is added for a line that isn't shown
pub nothing_shown : (o : Option (List ℕ)) (gathered : List ℕ) → is_some o ≡ false → gathered ++ option_map_or (λ (text : List ℕ). text) o [] ≡ gathered
nothing_shown None gathered none = append-nil gathered
nothing_shown (Some text) gathered none = absurd (false≢true (sym none))

-- the lines so far, and what was written of them
abbrev pub HasShown : (left now before written : Option (List ℕ)) (gathered : List ℕ) → ℕ → Type 0
HasShown left now before written gathered n = (text : List ℕ) × Shows left now n text × HasWrittenUpTo before written text gathered

pub shows_begin : (left w : Option (List ℕ)) (gathered : List ℕ) → gathered ≡ [] → HasShown left left w w gathered 0
shows_begin left w gathered fresh =
    ([], record { lines = []; shown = []; taken = refl; each = refl; counted = refl; whole = refl }, rw fresh (nothing_yet w []))

flat_more : (xs : List (List ℕ)) (last : List ℕ) → flat_map (λ (x : List ℕ). x) xs ++ last ≡ flat_map (λ (x : List ℕ). x) (xs ++ last ∷ [])
flat_more [] last = sym (append-nil last)
flat_more (x ∷ xs) last = append_assoc x (flat_map (λ (x : List ℕ). x) xs) last ∙ ap (λ (l : List ℕ). x ++ l) (flat_more xs last)

pub shows_more : (left mid now : Option (List ℕ)) (n next : ℕ) (text line shown : List ℕ) → Shows left mid n text → IsLine line → WhereTold (TakesLine line) mid now → shown_line line ≡ Some shown
    → next ≡ n + 1 → Shows left now next (text ++ shown)
shows_more left mid now n next text line shown so_far one takes is counted = record {
  lines = so_far.lines ++ line ∷ [];
  shown = so_far.shown ++ shown ∷ [];
  taken = takes_more left so_far.lines mid now line so_far.taken one takes;
  each = map-append shown_line so_far.lines (line ∷ []) ∙ ((λ i. so_far.each i ++ is i ∷ []) ∙ sym (map-append (λ (l : List ℕ). Some l) so_far.shown (shown ∷ [])));
  counted = omega (arith, length-append so_far.lines (line ∷ []), so_far.counted, counted);
  whole = ap (λ (l : List ℕ). l ++ shown) so_far.whole ∙ flat_more so_far.shown shown;
}

module _ (left mid left_now before written : Option (List ℕ)) (limit n : ℕ) (text : List ℕ) (shows : Shows left mid n text) where
  abbrev pub ShowEnds : Status → Type 0
  ShowEnds status = ShowIs left left_now before written limit status

  pub show_cut : (words : List ℕ) → IsShownShort mid limit n words → AppendsFront before written (text ++ words) → ShowEnds WriteFault
  show_cut words short cut = (mid, n, text, words, shows, short, cut)

  pub show_done : {A B : Type 0} (result : Status) → n ≤ limit → WhereTold EndsAt mid left_now → ((result ≡ Done) × Appends before written (text ++ []) × A)
      ⊎ ((result ≡ WriteFault) × AppendsFront before written (text ++ []) × B) → ShowEnds result
  show_done result few ends (inl (is, all, _)) = subst ShowEnds (sym is) (mid, n, text, shows, wordless before written text all, few, ends)
  show_done result few ends (inr (is, cut, _)) = subst ShowEnds (sym is) (show_cut [] (inl (few, refl)) cut)

  pub show_bad : {A B : Type 0} (result : Status) (number : ℕ) (behind : Option (List ℕ)) → number ≡ n + 1 → n < limit → IsUnshown mid behind → ReadsAhead behind left_now
      → ((result ≡ BadLine number) × Appends before written (text ++ bad_line_text number) × A) ⊎ ((result ≡ WriteFault) × AppendsFront before written (text ++ bad_line_text number) × B)
      → ShowEnds result
  show_bad result number behind counted few bad ahead (inl (is, all, _)) = subst ShowEnds (sym is) (mid, behind, n, text, shows, all, few, counted, bad, ahead)
  show_bad result number behind counted few bad ahead (inr (is, cut, _)) = subst ShowEnds (sym is) (show_cut (bad_line_text number) (inr (inl (few, ap bad_line_text counted, (behind, bad)))) cut)

  pub show_last : (result : Status) → n ≡ limit → LastIs before written text mid left_now result → ShowEnds result
  show_last Done all (written_all, ends) = (mid, n, text, shows, written_all, omega arith, ends)
  show_last LongTrace all (written_all, more, ahead) = (mid, text, subst (λ (count : ℕ). Shows left mid count text) all shows, written_all, more, ahead)
  show_last ReadFault all (written_all, stops) = (mid, n, text, shows, written_all, omega arith, stops)
  show_last WriteFault all (words, last, cut) = show_cut words (by_words last) cut
    where
      by_words : (words ≡ []) ⊎ ((words ≡ long_text) × HasMore mid) → IsShownShort mid limit n words
      by_words (inl none) = inl (omega arith, none)
      by_words (inr (are, more)) = inr (inr (all, are, more))
  show_last (BadLine number) all none = absurd none
  show_last Usage all none = absurd none
  show_last Memory all none = absurd none
  show_last Geometry all none = absurd none
  show_last ChipFault all none = absurd none
  show_last (BadImage fault) all none = absurd none
  show_last (BadCapture offset fault) all none = absurd none
