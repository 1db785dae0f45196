use Rattle.std.proofs.Common.{◌≡◌, ◌≤◌, ◌+◌, ◌-◌, length, take, arith, ap, ◌∙◌, ◌++◌, List, ℕ}
use Rattle.std.proofs.lemmas.List.{with_items_is}
use borrow.Rule.Slice.PartMut.{put_mid}
use Rattle.flat_unit.specs.Print.{line_of}
use Rattle.trace_text.proofs.Windows.{length-filled, length-part}
use Rattle.run_output.proofs.Gathered.{gathered}
use Rattle.run_output.proofs.output.Output.push_event.Goals as goal

pub returns : goal.returns
returns c =
    let n = c.self.inside.len in
    let items = c.deref_mut.result.now in
    let out = c.put_event-len.new.out in
    let line = line_of c.args.event.now in
    let k = length items - n in
    let inside : n ≤ length items = omega (arith, c.deref_mut.ensures.len) in
    let room : n + k ≡ length items = omega arith in
    let filled = with_items_is c.self.inside.text (put_mid n k items out) (length-filled n k items out room (c.put_event-len.auto.out ∙ length-part n k items room) ∙ c.deref_mut.ensures.len) in
    ap (λ (xs : List ℕ). take (n + c.put_event-len.result) xs) filled
    ∙ (gathered items out _ _ line n c.put_event-len.result inside c.put_event-len.ensures.written c.put_event-len.ensures.length
    ∙ (ap (λ (xs : List ℕ). take n xs ++ line) c.deref_mut.ensures.value ∙ ap (λ (xs : List ℕ). xs ++ line) c.self.view_is))
