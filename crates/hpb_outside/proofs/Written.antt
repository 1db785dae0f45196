-- Bytes that are moved one piece after another.
use Rattle.std.proofs.Common.{◌≡◌, ◌+◌, ◌≤◌, ◌<◌, ℕ, List, [], ◌++◌, take, drop, length, Option, Some, None, refl, sym, ◌∙◌, ap, subst, take-append-drop}
use Rattle.std.proofs.lemmas.List.{append_assoc, append-nil}
use Rattle.std.specs.Io.KnownBytes.{Appends, Keeps}
use Rattle.std.proofs.lemmas.Bool.{false≢true}
use Rattle.std.proofs.lemmas.Result.{MatchResult-weaker}
use Rattle.std.specs.Prelude.{IsErr, MatchResult, Result, Ok, Err}
use Rattle.hpb_outside.specs.Writes.{AppendsFront, HasWrittenUpTo, Writes}

pub appends_nothing : (known : Option (List ℕ)) → Appends known known []
appends_nothing None = tt
appends_nothing (Some xs) = sym (append-nil xs)

pub appends_more : (a b c : Option (List ℕ)) (xs ys : List ℕ) → Appends a b xs → Appends b c ys → Appends a c (xs ++ ys)
appends_more None b c xs ys first then = tt
appends_more (Some x) None c xs ys first then = absurd first
appends_more (Some x) (Some y) None xs ys first then = absurd then
appends_more (Some x) (Some y) (Some z) xs ys first then = then ∙ (ap (λ (l : List ℕ). l ++ ys) first ∙ append_assoc x xs ys)

pub appends_kept : (a b c : Option (List ℕ)) (xs : List ℕ) → Appends a b xs → Keeps b c → Appends a c xs
appends_kept None b c xs first same = tt
appends_kept (Some x) None c xs first same = absurd first
appends_kept (Some x) (Some y) None xs first same = absurd same
appends_kept (Some x) (Some y) (Some z) xs first same = same ∙ first

pub nothing_yet : (known : Option (List ℕ)) (bytes : List ℕ) → HasWrittenUpTo known known bytes bytes
nothing_yet known bytes = record { front = []; parts = refl; appended = appends_nothing known }

-- all of the bytes were written
pub all_written : (a b : Option (List ℕ)) (bytes : List ℕ) → Appends a b bytes → HasWrittenUpTo a b bytes []
all_written a b bytes all = record { front = bytes; parts = append-nil bytes; appended = all }

pub up_to_more : (a b c : Option (List ℕ)) (bytes rest : List ℕ) (n : ℕ) → HasWrittenUpTo a b bytes rest → Appends b c (take n rest) → HasWrittenUpTo a c bytes (drop n rest)
up_to_more a b c bytes rest n so_far more = record {
  front = so_far.front ++ take n rest;
  parts = append_assoc so_far.front (take n rest) (drop n rest) ∙ (ap (λ (l : List ℕ). so_far.front ++ l) (take-append-drop n rest) ∙ so_far.parts);
  appended = appends_more a b c so_far.front (take n rest) so_far.appended more;
}

pub up_to_end : (a b : Option (List ℕ)) (bytes rest : List ℕ) → rest ≡ [] → HasWrittenUpTo a b bytes rest → Appends a b bytes
up_to_end a b bytes rest none so_far =
    subst (λ (l : List ℕ). Appends a b l) (sym (append-nil so_far.front) ∙ (ap (λ (l : List ℕ). so_far.front ++ l) (sym none) ∙ so_far.parts)) so_far.appended

pub front_kept : (a b c : Option (List ℕ)) (bytes rest : List ℕ) → HasWrittenUpTo a b bytes rest → Keeps b c → AppendsFront a c bytes
front_kept a b c bytes rest so_far same = record { front = so_far.front; rest = rest; parts = so_far.parts; appended = appends_kept a b c so_far.front so_far.appended same }

pub front_more : (a b : Option (List ℕ)) (xs ys : List ℕ) → AppendsFront a b xs → AppendsFront a b (xs ++ ys)
front_more a b xs ys cut = record {
  front = cut.front;
  rest = cut.rest ++ ys;
  parts = sym (append_assoc cut.front cut.rest ys) ∙ ap (λ (l : List ℕ). l ++ ys) cut.parts;
  appended = cut.appended;
}

pub front_after : (a b c : Option (List ℕ)) (xs ys : List ℕ) → Appends a b xs → AppendsFront b c ys → AppendsFront a c (xs ++ ys)
front_after a b c xs ys all cut = record {
  front = xs ++ cut.front;
  rest = cut.rest;
  parts = append_assoc xs cut.front cut.rest ∙ ap (λ (l : List ℕ). xs ++ l) cut.parts;
  appended = appends_more a b c xs cut.front all cut.appended;
}

-- the same, of a text of which the bytes are a front
pub writes_part : {T E : Type 0} (a b : Option (List ℕ)) (xs : List ℕ) (r : Result T E) → IsErr r → AppendsFront a b xs → Writes a b r xs
writes_part a b xs (Ok v) failed cut = absurd (false≢true failed)
writes_part a b xs (Err e) failed cut = cut

-- a front was written where the call failed
pub writes_cut : {T E : Type 0} (a b : Option (List ℕ)) (xs first ys : List ℕ) (r : Result T E) → first ≡ xs → IsErr r → AppendsFront a b first → Writes a b r (xs ++ ys)
writes_cut a b xs first ys (Ok v) is failed cut = absurd (false≢true failed)
writes_cut a b xs first ys (Err e) is failed cut = front_more a b xs ys (subst (λ (l : List ℕ). AppendsFront a b l) is cut)

-- bytes are written, and then more
pub writes_after : {T E : Type 0} (a b c : Option (List ℕ)) (xs first ys last : List ℕ) (r : Result T E) → first ≡ xs → last ≡ ys → Appends a b first → Writes b c r last
    → Writes a c r (xs ++ ys)
writes_after a b c xs first ys last r first_is last_is all writes = MatchResult-weaker r writes
    (λ _ more. appends_more a b c xs ys (subst (Appends a b) first_is all) (subst (Appends b c) last_is more))
    (λ _ cut. front_after a b c xs ys (subst (Appends a b) first_is all) (subst (AppendsFront b c) last_is cut))
