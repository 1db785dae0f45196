use Rattle.std.proofs.Common.{◌≡◌, ◌≤◌, ◌+◌, ◌-◌, length, take, arith, ap, sym, ◌∙◌, ◌++◌, List, [], ℕ, Option, Some, None}
use Rattle.std.specs.Prelude.{IfSome, option_map}
use Rattle.std.specs.Option.{option_map_or}
use Rattle.std.proofs.lemmas.List.{with_items_is}
use borrow.Rule.Slice.PartMut.{put_mid}
use Rattle.trace_text.specs.Shown.{shown_line}
use Rattle.trace_text.proofs.Windows.{length-filled, length-part}
use Rattle.run_output.specs.Texts.{shown_text}
use Rattle.run_output.proofs.Gathered.{gathered}
use Rattle.run_output.proofs.output.Output.push_shown.Goals as goal

-- the text of a line that is shown, by how long it is
text_of_count : (o : Option (List ℕ)) (count : ℕ) (P : List ℕ → Type 0) → Some count ≡ option_map length o → IfSome o P → P (option_map_or (λ (text : List ℕ). text) o [])
    × (count ≡ length (option_map_or (λ (text : List ℕ). text) o []))
text_of_count None count P is told = absurd (no_count is)
  where
    no_count : {n : ℕ} → Some n ≡ None → ⊥
    no_count e = cc
text_of_count (Some text) count P is told = (told, same is)
  where
    same : {a b : ℕ} → Some a ≡ Some b → a ≡ b
    same e = cc

pub returns-in-Some-clause-shown : goal.returns-in-Some-clause-shown
returns-in-Some-clause-shown c =
    let n = c.self.inside.len in
    let items = c.deref_mut.result.now in
    let out = c.put_shown.new.out in
    let line = shown_text c.args.line.now in
    let k = length items - n in
    let told = text_of_count (shown_line c.args.line.now) c.in-Some.len _ (sym c.in-Some.is ∙ c.put_shown.ensures.count) c.put_shown.ensures.written in
    let inside : n ≤ length items = omega (arith, c.deref_mut.ensures.len) in
    let room : n + k ≡ length items = omega arith in
    let filled = with_items_is c.self.inside.text (put_mid n k items out) (length-filled n k items out room (c.put_shown.auto.out ∙ length-part n k items room) ∙ c.deref_mut.ensures.len) in
    ap (λ (xs : List ℕ). take (n + c.in-Some.len) xs) filled
    ∙ (gathered items out _ _ line n c.in-Some.len inside told.0 told.1
    ∙ (ap (λ (xs : List ℕ). take n xs ++ line) c.deref_mut.ensures.value ∙ ap (λ (xs : List ℕ). xs ++ line) c.self.view_is))
