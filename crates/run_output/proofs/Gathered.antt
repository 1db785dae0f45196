-- A line that is written behind the text that was gathered.
use Rattle.std.proofs.Common.{◌≡◌, ℕ, ◌+◌, ◌≤◌, List, ◌++◌, length, take, sym, ◌∙◌, ap, subst, Option}
use Rattle.std.proofs.lemmas.List.{append_assoc, length-take-le}
use Rattle.std.proofs.Math.Seq.{take-append-add, take-append_seam}
use Rattle.std.specs.Prelude.{flat_map}
use Rattle.flat_unit.specs.declared.event.Event.{Event}
use Rattle.flat_unit.specs.History.{History, followed_by}
use Rattle.flat_unit.specs.Print.{print, line_of}
use Rattle.flat_unit.proofs.History.{print-followed_by}
use Rattle.hpb_outside.specs.Writes.{HasWrittenUpTo}
use Rattle.run_output.proofs.Written.{gathers_more}

-- the line stands behind the text, whatever follows it
pub gathered : (items out rest after line : List ℕ) (len count : ℕ) → len ≤ length items → out ≡ line ++ rest → count ≡ length line
    → take (len + count) (take len items ++ (out ++ after)) ≡ take len items ++ line
gathered items out rest after line len count inside is counted =
    let front = take len items in
    let whole : (n : ℕ) → n ≡ length front → take (n + count) (front ++ (out ++ after)) ≡ front ++ take count (out ++ after) =
    λ n same. subst (λ (m : ℕ). take (m + count) (front ++ (out ++ after)) ≡ front ++ take count (out ++ after)) (sym same) (take-append-add front (out ++ after) count) in
    let grouped : out ++ after ≡ line ++ (rest ++ after) = ap (λ (xs : List ℕ). xs ++ after) is ∙ append_assoc line rest after in
    let begins : take count (out ++ after) ≡ line =
    ap (λ (xs : List ℕ). take count xs) grouped ∙ (ap (λ (n : ℕ). take n (line ++ (rest ++ after))) counted ∙ take-append_seam line (rest ++ after)) in
    whole len (sym (length-take-le len items inside)) ∙ ap (λ (xs : List ℕ). front ++ xs) begins

-- the lines of more events are gathered
pub events_gathered : (before written : Option (List ℕ)) (e : History) (xs : List Event) (gathered : List ℕ) → HasWrittenUpTo before written (print e) gathered
    → HasWrittenUpTo before written (print (followed_by e xs)) (gathered ++ flat_map line_of xs)
events_gathered before written e xs gathered so_far =
    subst (λ (text : List ℕ). HasWrittenUpTo before written text (gathered ++ flat_map line_of xs)) (sym (print-followed_by e xs))
    (gathers_more before written (print e) gathered (flat_map line_of xs) so_far)
