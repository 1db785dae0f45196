use Rattle.std.proofs.Common.{arith}
use Rattle.std.proofs.lemmas.Fmt.{length-decimal-le}
use Rattle.trace_text.proofs.Overwriting.{Puts-then}
use Rattle.trace_text.proofs.ending.put_marked.Goals as goal

pub put_number-end-requires : goal.put_number-end-requires
put_number-end-requires c =
    let digits = length-decimal-le 20 c.args.number (omega arith) (omega arith) (omega arith) in
    omega arith

pub put-requires : goal.put-requires
put-requires c =
    let digits = length-decimal-le 20 c.args.number (omega arith) (omega arith) (omega arith) in
    omega arith

pub returns-clause-written : goal.returns-clause-written
returns-clause-written c = Puts-then (Puts-then c.put-front.ensures c.put_number-end.ensures) c.put.ensures

pub returns-clause-few : goal.returns-clause-few
returns-clause-few c =
    let digits = length-decimal-le 20 c.args.number (omega arith) (omega arith) (omega arith) in
    omega arith
