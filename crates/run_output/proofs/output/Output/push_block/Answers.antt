use Rattle.std.proofs.Common.{◌≡◌, ◌≤◌, ◌+◌, ◌-◌, length, take, arith, ap, ◌∙◌, ◌++◌, List, ℕ}
use Rattle.std.proofs.lemmas.List.{with_items_is}
use borrow.Rule.Slice.PartMut.{put_mid}
use Rattle.trace_text.specs.Written.{block_line}
use Rattle.trace_text.proofs.Windows.{length-filled, length-part}
use Rattle.run_output.proofs.Gathered.{gathered}
use Rattle.run_output.proofs.output.Output.push_block.Goals as goal

pub returns : goal.returns
returns c =
    let n = c.self.inside.len in
    let items = c.deref_mut.result.now in
    let out = c.put_block-len.new.out in
    let line = block_line c.args.lba c.args.bytes.now in
    let k = length items - n in
    let inside : n ≤ length items = omega (arith, c.deref_mut.ensures.len) in
    let room : n + k ≡ length items = omega arith in
    let filled = with_items_is c.self.inside.text (put_mid n k items out) (length-filled n k items out room (c.put_block-len.auto.out ∙ length-part n k items room) ∙ c.deref_mut.ensures.len) in
    record {
      text = ap (λ (xs : List ℕ). take (n + c.put_block-len.result) xs) filled
          ∙ (gathered items out _ _ line n c.put_block-len.result inside c.put_block-len.ensures.written c.put_block-len.ensures.length
          ∙ (ap (λ (xs : List ℕ). take n xs ++ line) c.deref_mut.ensures.value ∙ ap (λ (xs : List ℕ). xs ++ line) c.self.view_is));
    }
