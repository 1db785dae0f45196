use Rattle.std.proofs.Common.{◌≡◌, ap, ◌∙◌, length, arith}
use Rattle.std.proofs.lemmas.List.{with_items_is}
use Rattle.std.proofs.lemmas.List.FromFn.{length-map-range_with_len}
use Rattle.host_map_cache.specs.Words.{bit_in, bits_in}
use Rattle.host_map_cache.proofs.BitLists.{filled_bits}
use Rattle.host_map_cache.proofs.bits.Bits.fill.Goals as goal

pub fill_words-requires-clause-inside : goal.fill_words-requires-clause-inside
fill_words-requires-clause-inside c = let below = rw (← c.self.view_is, length-map-range_with_len (bit_in c.self.inside.words.items) 0 c.self.inside.count) at c.requires.inside in
    let same : length c.deref_mut.result.now ≡ length c.self.inside.words.items = ap length c.deref_mut.ensures.value in
    omega (arith, below, c.self.invariant, same)

pub returns : goal.returns
returns c = let below = rw (← c.self.view_is, length-map-range_with_len (bit_in c.self.inside.words.items) 0 c.self.inside.count) at c.requires.inside in
    rw (← c.self.view_is) (ap (bits_in c.self.inside.count) (with_items_is c.self.inside.words c.fill_words.new.words (c.fill_words.auto.words ∙ c.deref_mut.ensures.len))
    ∙ filled_bits c.self.inside.count c.args.from c.args.until c.args.value c.self.inside.words.items c.fill_words.new.words c.requires.order below
    c.fill_words.ensures.filled
    (λ place below. c.fill_words.ensures.before place below ∙ ap (λ w. bit_in w place) c.deref_mut.ensures.value)
    (λ place above. c.fill_words.ensures.after place above ∙ ap (λ w. bit_in w place) c.deref_mut.ensures.value))
