-- Where the last end of a line stands.
use Rattle.std.proofs.Common.{◌≡◌, ℕ, ◌+◌, ◌-◌, ◌<◌, ◌≤◌, List, length, get_or, take, sym, ap, ◌∙◌, arith, eq-eqb, inl, inr, None, Some}
use Rattle.std.specs.Prelude.{slice_range}
use Rattle.std.proofs.lemmas.Bool.{cases_lt, eqb-true}
use Rattle.std.proofs.lemmas.List.{get_or-take}
use Rattle.std.proofs.lemmas.List.Edits.{get_or-between}
use Rattle.memchr.specs.Find.{IsLastByte, is_byte}
use Rattle.trace_text.specs.Lines.{EndsLast}
use Rattle.trace_text.proofs.Windows.{length-slice_range, none_behind}

-- no end was found behind those that were searched before
pub EndsLast-none : (xs : List ℕ) (known searched end : ℕ) → EndsLast xs known searched → searched ≤ end → end ≤ length xs
    → IsLastByte (is_byte 10) (slice_range xs searched end) None → EndsLast xs known end
EndsLast-none xs known searched end told order within found =
    let inside = told.within in
    record {
      within = omega arith;
      is_end = told.is_end;
      none = λ k low high. elim (cases_lt k searched) [
        | inl before ↦ told.none k low before
        | inr behind ↦ none_behind xs searched end order within found k behind high
      ];
    }

-- the last end was found there
pub EndsLast-found : (xs : List ℕ) (searched end at : ℕ) → searched ≤ end → end ≤ length xs
    → IsLastByte (is_byte 10) (slice_range xs searched end) (Some at) → EndsLast xs (searched + at + 1) end
EndsLast-found xs searched end at order within found =
    let len = length-slice_range xs searched end order within in
    let high = found.0.high in
    let place : searched + at + 1 - 1 ≡ searched + at = omega arith in
    let there = get_or-between xs searched end at 0 (omega arith) in
    record {
      within = omega arith;
      is_end = λ some. ap (λ n. get_or xs n 0) place ∙ sym there ∙ eqb-true (get_or (slice_range xs searched end) at 0) 10 found.1;
      none = λ k low below is.
          let place : searched + (k - searched) ≡ k = omega arith in
          let inside : searched + (k - searched) < end = omega arith in
          let is_ten : get_or (slice_range xs searched end) (k - searched) 0 ≡ 10 = get_or-between xs searched end (k - searched) 0 inside ∙ rw place is in
          found.0.after (k - searched) (omega arith) (omega arith) (eq-eqb (get_or (slice_range xs searched end) (k - searched) 0) 10 is_ten);
    }

-- the bytes up to the end are the same
pub EndsLast-front : (xs ys : List ℕ) (behind end : ℕ) → take end ys ≡ take end xs → EndsLast xs behind end → EndsLast ys behind end
EndsLast-front xs ys behind end same told =
    let inside = told.within in
    record {
      within = inside;
      is_end = λ some. at (behind - 1) (omega arith) ∙ told.is_end some;
      none = λ k low high is. told.none k low high (sym (at k high) ∙ is);
    }
  where
    at : (k : ℕ) → k < end → get_or ys k 0 ≡ get_or xs k 0
    at k lt = sym (get_or-take end ys k 0 lt) ∙ ap (λ (t : List ℕ). get_or t k 0) same ∙ get_or-take end xs k 0 lt
