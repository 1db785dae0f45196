use Rattle.std.proofs.Common.{arith}
use Rattle.chip_image.proofs.Numbers.{two_numbers}
use Rattle.chip_image.proofs.load.place_of.Goals as goal

pub returns : goal.returns
returns c = two_numbers c.args.bytes.now _ _ _ _ c.split_at.ensures.front c.split_at.ensures.back c.split_at.ensures.front_len
    (omega (arith, c.split_at.ensures.back_len, c.requires.len)) (λ k. omega (arith, c.type_inv.bytes k)) c.read_u32.ensures c.read_u64.ensures
