use Rattle.std.proofs.Common.{◌≡◌, ◌+◌, ℕ, map, length, ap, arith, add-one, refl, ◌∙◌}
use Rattle.std.specs.List.{range_with_len}
use Rattle.std.proofs.lemmas.List.{length-append}
use Rattle.std.proofs.lemmas.List.FromFn.{length-map-range_with_len}
use Rattle.drive_rules.specs.Lines.{pattern}
use Rattle.drive_run.proofs.Patterns.{block_added}
use Rattle.drive_run.proofs.pattern.pattern.Goals as goal

pub loop-block-preserved : goal.loop-block-preserved
loop-block-preserved c =
    let so_far = c.loop-block.invariant in
    let added = c.push_block.ensures in
    let f = pattern c.args.seed (c.args.lba + c.loop-block.block) in
    let size : length c.push_block.new.bytes.items ≡ length c.loop-block.bytes.items + 4096 =
    ap length added.bytes ∙ length-append c.loop-block.bytes.items (map f (range_with_len 0 4096)) ∙ ap (λ (n : ℕ). length c.loop-block.bytes.items + n) (length-map-range_with_len f 0 4096) in
    record {
      bytes = λ s is. block_added s c.args.seed c.args.lba (c.args.lba + c.loop-block.block) c.loop-block.block (c.loop-block.block + 1) _ _ is refl (rw add-one refl) added.bytes (so_far.bytes s is);
      size = omega (arith, size, so_far.size);
      room = omega (arith, so_far.room, added.capacity);
    }
