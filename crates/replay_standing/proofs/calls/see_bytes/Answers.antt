use Rattle.std.proofs.Common.{arith}
use Rattle.replay_standing.proofs.calls.see_bytes.Goals as goal

pub returns : goal.returns
returns c i = omega (arith, c.type_inv.bytes i)
