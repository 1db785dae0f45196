use Rattle.std.proofs.Common.{◌<◌, ◌==◌, ◌%◌, ◌/◌, ap, ◌∙◌, arith, length, true}
use Rattle.std.proofs.lemmas.List.{get_or_read}
use Rattle.std.proofs.lemmas.List.FromFn.{length-map-range_with_len, get_or-map-range_with_len}
use Rattle.std.proofs.lemmas.Nat.Bits.{shr_and_one}
use Rattle.host_map_cache.specs.Words.{bit_in, is_set}
use Rattle.host_map_cache.proofs.bits.Bits.get.Goals as goal

pub index-requires : goal.index-requires
index-requires c = let below = rw (← c.self.view_is, length-map-range_with_len (bit_in c.self.inside.words.items) 0 c.self.inside.count) at c.requires in
    omega (arith, below, c.self.invariant, c.self.inside.words.ok.0)

pub returns : goal.returns
returns c = let below = rw (← c.self.view_is, length-map-range_with_len (bit_in c.self.inside.words.items) 0 c.self.inside.count) at c.requires in
    rw (← c.self.view_is, get_or-map-range_with_len (bit_in c.self.inside.words.items) 0 c.self.inside.count c.args.place c.args.place true below (omega arith))
    (ap (λ b. b == 1) (shr_and_one c.index.result.now (c.args.place % 64))
    ∙ ap (λ w. is_set w (c.args.place % 64)) (get_or_read c.self.inside.words.items (c.args.place / 64) c.index.result.now (inside below) c.index.ensures 0))
  where
    inside : c.args.place < c.self.inside.count → c.args.place / 64 < length c.self.inside.words.items
    inside below = omega (arith, below, c.self.invariant)
