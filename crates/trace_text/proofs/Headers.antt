-- Hex text of which the header alone was read.
use Rattle.std.proofs.Common.{◌≡◌, ℕ, ◌/◌, ◌%◌, ◌≤◌, Bool, true, false, List, ◌++◌, length, take, drop, slice_index, Option, Some, None, option_map, Result, Ok, Err, refl, sym, ap, ◌∙◌, arith}
use Rattle.std.specs.Prelude.{IfSome, is_some}
use Rattle.std.specs.List.{AllPass, list_all}
use Rattle.std.proofs.Math.Seq.{take-append_seam}
use Rattle.std.proofs.lemmas.List.{get_or-take, take-take, length-take-le, length-drop}
use Rattle.std.proofs.lemmas.List.Elements.{All-take, All-drop}
use Rattle.std.proofs.lemmas.List.Sums.{AllPass-from_list_all, list_all-from_AllPass}
use Rattle.hex.specs.Hex.{decode_of, is_hex_digit}
use Rattle.hex.specs.declared.error.FromHexError.{FromHexError}
use Rattle.hex.proofs.HexLemmas.{decode_of-ok, decode_of-digits}
use Rattle.hex_lanes.proofs.DecodeSteps.{decode_of-parts}
use Rattle.upiu_wire.specs.Kind.{kind_of}
use Rattle.trace_text.specs.Shown.{decoded, shown_upiu, is_response}
use Rattle.trace_text.proofs.Fronts.{shown_same}

-- a text is refused where its front is, or its rest
pub refused_front : (digits front : List ℕ) (n : ℕ) → front ≡ take n digits → n % 2 ≡ 0 → n ≤ length digits → decoded (decode_of front) ≡ None
    → decoded (decode_of digits) ≡ None
refused_front digits front n is even within none =
    elim (decode_of digits)
    as (λ d. (decode_of digits ≡ d) → decoded d ≡ None) [
      | Err e ↦ λ _. refl
      | Ok bytes ↦ λ read.
          let all = (decode_of-ok digits bytes read).1 in
          let size = length-take-le n digits within in
          let front_read = decode_of-digits (take n digits) (omega arith) (All-take (λ (c : ℕ). is_hex_digit c ≡ true) n digits all) in
          absurd (some_none front_read.0 (sym (ap decoded (ap decode_of is ∙ front_read.1)) ∙ none))
    ] refl
  where
    some_none : (bytes : List ℕ) → ◌≡◌ {A = Option (List ℕ)} (Some bytes) None → ⊥
    some_none bytes e = cc e

pub refused_rest : (digits rest : List ℕ) (n : ℕ) → rest ≡ drop n digits → list_all is_hex_digit rest ≡ false → decoded (decode_of digits) ≡ None
refused_rest digits rest n is none =
    elim (decode_of digits)
    as (λ d. (decode_of digits ≡ d) → decoded d ≡ None) [
      | Err e ↦ λ _. refl
      | Ok bytes ↦ λ read.
          let all = (decode_of-ok digits bytes read).1 in
          let rest_all = list_all-from_AllPass is_hex_digit (drop n digits) (All-drop (λ (c : ℕ). is_hex_digit c ≡ true) n digits all) in
          absurd (true_false (sym rest_all ∙ sym (ap (list_all is_hex_digit) is) ∙ none))
    ] refl
  where
    true_false : ◌≡◌ {A = Bool} true false → ⊥
    true_false e = cc e

read_bytes : (d : Result (List ℕ) FromHexError) (bytes : List ℕ) → Some bytes ≡ decoded d → d ≡ Ok bytes
read_bytes (Ok bytes') bytes e = ap Ok (sym (some_same bytes bytes' e))
  where
    some_same : (a b : List ℕ) → Some a ≡ Some b → a ≡ b
    some_same a b e = cc
read_bytes (Err _) bytes e = cc e

-- the header was read and the rest is digits
pub header_shown : (digits front rest room : List ℕ) (r : Option ℕ) → front ≡ take 64 digits → rest ≡ drop 64 digits
    → 64 ≤ length digits → length digits % 2 ≡ 0 → length digits / 2 ≤ length room
    → option_map (λ (count : ℕ). take count room) r ≡ decoded (decode_of front) → IfSome r (λ count. count ≡ length front / 2) → is_some r ≡ true
    → is_response (kind_of (slice_index room 0)) ≡ false → list_all is_hex_digit rest ≡ true
    → Some (shown_upiu (take (length digits / 2) room)) ≡ option_map shown_upiu (decoded (decode_of digits))
header_shown digits front rest room None is is_rest long even fits read half some other all = cc some
header_shown digits front rest room (Some count) is is_rest long even fits read half some other all =
    let n = length digits / 2 in
    let size : length front ≡ 64 = ap length is ∙ length-take-le 64 digits long in
    let is_half : count ≡ length front / 2 = half in
    let is_32 : count ≡ 32 = omega arith in
    let head = take 32 room in
    let front_read : decode_of (take 64 digits) ≡ Ok head =
    ap decode_of (sym is) ∙ read_bytes (decode_of front) head (sym (ap (λ k. Some (take k room)) is_32) ∙ read) in
    let left = length-drop 64 digits in
    let rest_all : AllPass is_hex_digit (drop 64 digits) = AllPass-from_list_all is_hex_digit (drop 64 digits) (ap (list_all is_hex_digit) (sym is_rest) ∙ all) in
    let rest_read = decode_of-digits (drop 64 digits) (omega arith) rest_all in
    let tail = rest_read.0 in
    let whole : decode_of digits ≡ Ok (head ++ tail) = decode_of-parts digits head tail 64 even refl long front_read rest_read.1 in
    let twice = (decode_of-ok digits (head ++ tail) whole).2 in
    let told = length-take-le n room fits in
    let head_size : length head ≡ 32 = length-take-le 32 room (omega arith) in
    let len : length (take n room) ≡ length (head ++ tail) = omega arith in
    let same : take 32 (take n room) ≡ take 32 (head ++ tail) =
    take-take 32 n room (omega arith) ∙ sym (ap (λ k. take k (head ++ tail)) (sym head_size) ∙ take-append_seam head tail) in
    let first : slice_index (take n room) 0 ≡ slice_index room 0 = get_or-take n room 0 0 (omega arith) in
    let text = shown_same (take n room) (head ++ tail) len same (ap (λ c. is_response (kind_of c)) first ∙ other) in
    rw whole (ap Some text)

-- nothing was read
pub nothing_read : (r : Option ℕ) (f : ℕ → List ℕ) (d : Option (List ℕ)) → is_some r ≡ false → option_map f r ≡ d → d ≡ None
nothing_read None f d none read = sym read
nothing_read (Some count) f d none read = cc none
