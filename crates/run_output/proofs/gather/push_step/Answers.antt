use Rattle.std.proofs.Common.{ℕ, ◌≤◌, List, length, subst}
use Rattle.hex.specs.Hex.{IsBytes}
use Rattle.run_output.proofs.gather.push_step.Goals as goal

pub returns-then-stepped-clause-bytes : goal.returns-then-stepped-clause-bytes
returns-then-stepped-clause-bytes c sends =
    (subst IsBytes c.bytes.ensures.value c.push_upiu.ensures.bytes, subst (λ (l : List ℕ). length l ≤ 4128) c.bytes.ensures.value c.bytes.ensures.fits)
