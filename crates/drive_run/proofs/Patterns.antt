-- The bytes of a write, one block after another.
use Rattle.std.proofs.Common.{◌≡◌, ℕ, zero, suc, ◌+◌, List, ◌++◌, map, sym, ◌∙◌, ap, arith}
use Rattle.std.specs.List.{range_with_len}
use Rattle.std.proofs.lemmas.List.{append_assoc, append-nil}
use Rattle.flat_unit.specs.Sizes.{Sizes}
use Rattle.drive_rules.specs.Lines.{pattern, pattern_block, pattern_bytes}

-- one block more, at the end
pub blocks_then : (s : Sizes) (seed lba n : ℕ) → pattern_bytes s seed lba (suc n) ≡ pattern_bytes s seed lba n ++ pattern_block s seed (lba + n)
blocks_then s seed lba zero =
    let same : lba + zero ≡ lba = omega arith in
    append-nil (pattern_block s seed lba) ∙ ap (pattern_block s seed) (sym same)
blocks_then s seed lba (suc n) =
    let next : lba + 1 + n ≡ lba + suc n = omega arith in
    ap (λ (l : List ℕ). pattern_block s seed lba ++ l) (blocks_then s seed (lba + 1) n ∙ ap (λ (k : ℕ). pattern_bytes s seed (lba + 1) n ++ pattern_block s seed k) next)
    ∙ sym (append_assoc (pattern_block s seed lba) (pattern_bytes s seed (lba + 1) n) (pattern_block s seed (lba + suc n)))

-- a block of the pattern was added
pub block_added : (s : Sizes) (seed lba number n next : ℕ) (old new : List ℕ) → s.block ≡ 4096 → number ≡ lba + n → next ≡ suc n → new ≡ old ++ map (pattern seed number) (range_with_len 0 4096)
    → old ≡ pattern_bytes s seed lba n → new ≡ pattern_bytes s seed lba next
block_added s seed lba number n next old new size number_is next_is added so_far =
    added
    ∙ (λ i. so_far i ++ map (pattern seed (number_is i)) (range_with_len 0 (sym size i)))
    ∙ sym (blocks_then s seed lba n)
    ∙ ap (pattern_bytes s seed lba) (sym next_is)
