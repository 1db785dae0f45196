use Rattle.std.proofs.Common.{◌≡◌, ◌+◌, sym, ◌∙◌, arith, refl}
use Rattle.driver_commands.proofs.Ranges.{no_tag, tag_found, tag_not_yet}
use Rattle.driver_commands.proofs.queue.free_tag.Goals as goal

pub returns-then-not-uses : goal.returns-then-not-uses
returns-then-not-uses c =
    sym (tag_found c.args.commands.now c.loop-tag.tag c.loop-tag-test.true c.loop-tag.invariant (sym c.uses.ensures ∙ c.if-not-uses.true))

pub loop-tag-preserved : goal.loop-tag-preserved
loop-tag-preserved c =
    tag_not_yet c.args.commands.now c.loop-tag.tag (c.loop-tag.tag + 1) refl c.loop-tag.invariant (sym c.uses.ensures ∙ c.if-not-uses.false)

pub returns : goal.returns
returns c = let all : c.loop-tag.tag ≡ 32 = omega (arith, c.loop-tag-test.false, c.loop-tag.auto.tag-end) in sym (no_tag c.args.commands.now c.loop-tag.tag all c.loop-tag.invariant)
