use Rattle.std.proofs.Common.{ℕ, zero, suc, ◌^◌, ◌<◌, [], ◌∷◌, arith}
use Rattle.std.specs.Prelude.{slice_index}
use Rattle.trace_text.proofs.Lengths.{length-counts_line-le}
use Rattle.trace_text.proofs.tests.last_line.Goals as goal

small : (k : ℕ) → slice_index (12 ∷ 0 ∷ 7 ∷ 1 ∷ 100 ∷ []) k < 2 ^ 64
small zero = omega arith
small (suc zero) = omega arith
small (suc (suc zero)) = omega arith
small (suc (suc (suc zero))) = omega arith
small (suc (suc (suc (suc zero)))) = omega arith
small (suc (suc (suc (suc (suc k))))) = omega arith

pub put_counts-count-requires-clause-room : goal.put_counts-count-requires-clause-room
put_counts-count-requires-clause-room g c = length-counts_line-le (12 ∷ 0 ∷ 7 ∷ 1 ∷ 100 ∷ []) small
