use Rattle.std.proofs.Common.{arith}
use Rattle.run_output.proofs.output.Output.push_upiu.Goals as goal

pub returns-clause-bytes : goal.returns-clause-bytes
returns-clause-bytes c i = omega (arith, c.type_inv.bytes i)
