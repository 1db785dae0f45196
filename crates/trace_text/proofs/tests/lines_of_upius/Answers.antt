use Rattle.std.proofs.Common.{ℕ, ◌≡◌, ◌≤◌, List, [], ◌∷◌, ◌++◌, length, codes, arith, refl, ap, sym, ◌∙◌}
use Rattle.hex.specs.Hex.{encode_lower}
use Rattle.trace_text.proofs.Overwriting.{length-line}
use Rattle.trace_text.proofs.tests.lines_of_upius.Goals as goal

short : (front bytes : List ℕ) → length front ≡ 2 → length bytes ≡ 3 → length ((front ++ encode_lower bytes) ++ 10 ∷ []) ≤ 16
short front bytes few three = let line = length-line front bytes few in omega arith

pub check-requires : goal.check-requires
check-requires g c = short (codes "> ") c.new.result refl (ap length c.new.ensures ∙ sym c.in_ok-to_vec.field-0.ok.0 ∙ c.in_ok-to_vec.ensures.len ∙ ap length c.as_slice-bytes.ensures)

pub check-requires-2 : goal.check-requires-2
check-requires-2 g c = short (codes "< ") c.new-2.result refl (ap length c.new-2.ensures ∙ sym c.in_ok-to_vec-2.field-0.ok.0 ∙ c.in_ok-to_vec-2.ensures.len ∙ ap length c.as_slice-bytes.ensures)
