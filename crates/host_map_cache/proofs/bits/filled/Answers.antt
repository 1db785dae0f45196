use Rattle.std.proofs.Common.{◌<◌, ◌^◌, sym, ap, ◌∙◌, arith}
use Rattle.std.specs.Int.{bit_at}
use Rattle.std.proofs.lemmas.Nat.Bits.{bit_at_mask_inside, bit_at_mask_below, bit_at_mask_above}
use Rattle.host_map_cache.proofs.Words.{mask_below, set_inside, set_outside, clear_inside, clear_outside}
use Rattle.host_map_cache.proofs.bits.filled.Goals as goal

pub returns-then-value-clause-filled : goal.returns-then-value-clause-filled
returns-then-value-clause-filled c = λ place from below.
    set_inside c.args.word c.mask-mask.result place (ap (λ m. bit_at m place) c.mask-mask.ensures ∙ bit_at_mask_inside c.args.low c.args.high place from below) ∙ sym c.if-value.true

pub returns-then-value-clause-before : goal.returns-then-value-clause-before
returns-then-value-clause-before c = λ place below.
    set_outside c.args.word c.mask-mask.result place (ap (λ m. bit_at m place) c.mask-mask.ensures ∙ bit_at_mask_below c.args.low c.args.high place below)

pub returns-then-value-clause-after : goal.returns-then-value-clause-after
returns-then-value-clause-after c = λ place above _.
    set_outside c.args.word c.mask-mask.result place (ap (λ m. bit_at m place) c.mask-mask.ensures ∙ bit_at_mask_above c.args.low c.args.high place above)

pub returns-else-value-clause-filled : goal.returns-else-value-clause-filled
returns-else-value-clause-filled c = λ place from below.
    let fits : c.mask-mask.result < 2 ^ 64 = rw c.mask-mask.ensures (mask_below c.args.low c.args.high c.requires.low c.requires.order c.requires.high) in
    clear_inside c.args.word c.mask-mask.result place fits (omega (arith, below, c.requires.high))
    (ap (λ m. bit_at m place) c.mask-mask.ensures ∙ bit_at_mask_inside c.args.low c.args.high place from below)
    ∙ sym c.if-value.false

pub returns-else-value-clause-before : goal.returns-else-value-clause-before
returns-else-value-clause-before c = λ place below.
    let fits : c.mask-mask.result < 2 ^ 64 = rw c.mask-mask.ensures (mask_below c.args.low c.args.high c.requires.low c.requires.order c.requires.high) in
    clear_outside c.args.word c.mask-mask.result place fits (omega (arith, below, c.requires.low))
    (ap (λ m. bit_at m place) c.mask-mask.ensures ∙ bit_at_mask_below c.args.low c.args.high place below)

pub returns-else-value-clause-after : goal.returns-else-value-clause-after
returns-else-value-clause-after c = λ place above within.
    let fits : c.mask-mask.result < 2 ^ 64 = rw c.mask-mask.ensures (mask_below c.args.low c.args.high c.requires.low c.requires.order c.requires.high) in
    clear_outside c.args.word c.mask-mask.result place fits within (ap (λ m. bit_at m place) c.mask-mask.ensures ∙ bit_at_mask_above c.args.low c.args.high place above)
