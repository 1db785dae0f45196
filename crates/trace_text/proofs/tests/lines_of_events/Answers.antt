use Rattle.std.proofs.Common.{ℕ, ◌≤◌, List, ◌++◌, length, codes, decimal, arith, length-append}
use Rattle.std.proofs.lemmas.Fmt.{length-decimal-le}
use Rattle.trace_text.proofs.tests.lines_of_events.Goals as goal

short : (front text : List ℕ) → length front ≤ 2 → length text ≤ 10 → length ((front ++ text) ++ codes "\n") ≤ 16
short front text few some = simp length-append (omega arith)

pub check-requires-8 : goal.check-requires-8
check-requires-8 g c =
    let number = length-decimal-le 2 12 (omega arith) (omega arith) (omega arith) in
    short (codes "M ") (decimal 12) (omega arith) (omega arith)

pub check-requires-9 : goal.check-requires-9
check-requires-9 g c =
    let unit = length-decimal-le 1 3 (omega arith) (omega arith) (omega arith) in
    let number = length-decimal-le 2 12 (omega arith) (omega arith) (omega arith) in
    short (codes "M ") (decimal 3 ++ codes ":" ++ decimal 12) (omega arith) (simp length-append (omega arith))

pub check-requires-10 : goal.check-requires-10
check-requires-10 g c =
    let number = length-decimal-le 3 250 (omega arith) (omega arith) (omega arith) in
    short (codes "X ") (decimal 250) (omega arith) (omega arith)
