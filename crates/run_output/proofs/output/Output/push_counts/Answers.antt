use Rattle.std.proofs.Common.{◌≡◌, ◌<◌, ◌≤◌, ◌+◌, ◌-◌, ◌^◌, length, take, arith, ap, sym, ◌∙◌, ◌++◌, List, [], ◌∷◌, ℕ, zero, suc}
use Rattle.std.specs.Prelude.{slice_index}
use Rattle.std.specs.List.{AllByRecursion}
use Rattle.std.proofs.lemmas.List.{length-take-le}
use Rattle.std.proofs.lemmas.List.{with_items_is}
use borrow.Rule.Slice.PartMut.{put_mid}
use Rattle.trace_text.proofs.Lengths.{length-counts_line-le}
use Rattle.trace_text.proofs.Windows.{length-filled, length-part}
use Rattle.run_output.specs.Texts.{counts_text}
use Rattle.run_output.proofs.Gathered.{gathered}
use Rattle.run_output.proofs.output.Output.push_counts.Goals as goal

-- each of some counts fits
small : (counts : List ℕ) → AllByRecursion (λ (n : ℕ). n < 2 ^ 64) counts → (k : ℕ) → slice_index counts k < 2 ^ 64
small [] all k = omega arith
small (n ∷ counts) all zero = all.0
small (n ∷ counts) all (suc k) = small counts all.1 k

pub put_counts-len-requires-clause-room : goal.put_counts-len-requires-clause-room
put_counts-len-requires-clause-room c =
    let n = c.self.inside.len in
    let items = c.deref_mut.result.now in
    let counts = c.args.counts in
    let numbers : List ℕ = counts.steps ∷ counts.lookups ∷ counts.entries ∷ counts.moved ∷ counts.erased ∷ [] in
    let fit : AllByRecursion (λ (n : ℕ). n < 2 ^ 64) numbers = (omega arith, (omega arith, (omega arith, (omega arith, (omega arith, tt))))) in
    let few : length (counts_text counts) ≤ 142 = length-counts_line-le numbers (small numbers fit) in
    let inside : n ≤ length items = omega (arith, c.deref_mut.ensures.len) in
    let room : n + (length items - n) ≡ length items = omega (arith, inside) in
    let part = length-part n (length items - n) items room in
    let before : length (take n c.self.inside.text.items) ≡ n = length-take-le n c.self.inside.text.items (omega arith) in
    let size : length c.args.self.now ≡ n = sym (ap length c.self.view_is) ∙ before in
    omega (arith, few, part, size, c.requires, c.deref_mut.ensures.len)

pub returns : goal.returns
returns c =
    let n = c.self.inside.len in
    let items = c.deref_mut.result.now in
    let out = c.put_counts-len.new.out in
    let line = counts_text c.args.counts in
    let k = length items - n in
    let inside : n ≤ length items = omega (arith, c.deref_mut.ensures.len) in
    let room : n + k ≡ length items = omega arith in
    let filled = with_items_is c.self.inside.text (put_mid n k items out) (length-filled n k items out room (c.put_counts-len.auto.out ∙ length-part n k items room) ∙ c.deref_mut.ensures.len) in
    ap (λ (xs : List ℕ). take (n + c.put_counts-len.result) xs) filled
    ∙ (gathered items out _ _ line n c.put_counts-len.result inside c.put_counts-len.ensures.written c.put_counts-len.ensures.length
    ∙ (ap (λ (xs : List ℕ). take n xs ++ line) c.deref_mut.ensures.value ∙ ap (λ (xs : List ℕ). xs ++ line) c.self.view_is))
