use Rattle.std.proofs.Common.{◌≡◌, ℕ, zero, suc, ◌<◌, List, [], ◌∷◌, ◌++◌, length, None, replicate, drop, arith, add-one, ap, refl}
use Rattle.std.proofs.Math.ListN.{set}
use Rattle.entry_lists.proofs.lists.remove_each.Goals as goal

-- one more item is replaced
filled_more : {X : Type 0} → (xs : List X) (i : ℕ) (y : X) → i < length xs → set (replicate i y ++ drop i xs) i y ≡ replicate (suc i) y ++ drop (suc i) xs
filled_more [] i y within = absurd (omega arith)
filled_more (x ∷ xs) zero y within = refl
filled_more (x ∷ xs) (suc i) y within = ap (λ zs. y ∷ zs) (filled_more xs i y (omega arith))

pub loop-slot-preserved : goal.loop-slot-preserved
loop-slot-preserved c = rw (c.loop-slot.invariant, c.remove.ensures, add-one) (filled_more c.args.slots.now c.loop-slot.slot-index None (omega arith))
