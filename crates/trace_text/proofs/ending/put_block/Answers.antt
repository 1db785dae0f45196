use Rattle.std.proofs.Common.{◌+◌, ◌*◌, length, arith}
use Rattle.trace_text.proofs.Overwriting.{Puts-then, Puts-line, Puts-part}
use Rattle.hex.specs.Hex.{lower_digits}
use Rattle.hex.proofs.HexLemmas.{length-encode_with}
use Rattle.trace_text.proofs.ending.put_block.Goals as goal

pub returns-clause-written : goal.returns-clause-written
returns-clause-written c =
    let len = length-encode_with lower_digits c.args.bytes.now in
    let part = c.encode.ensures in
    let front = c.put_marked-front.ensures.written in
    let middle = Puts-part c.put_marked-front.new.out c.put_marked-front.result _ (c.put_marked-front.result + 2 * length c.args.bytes.now) c.encode.new.out (omega arith) (rw part (omega arith))
    (rw part (omega arith)) in
    rw (← part) (Puts-line (Puts-then (Puts-then front middle) c.put.ensures))
