use Rattle.std.proofs.Common.{◌≡◌, ◌+◌, ◌<◌, ◌∷◌, [], length, arith, refl, ap, ◌∙◌}
use Rattle.std.proofs.lemmas.List.{length-append}
use Rattle.flash_pages.specs.Memory.{pages_in}
use Rattle.flash_pages.proofs.Growing.{one_more}
use Rattle.flash_pages.proofs.slots.grow_slots.Goals as goal

pub loop-slots-preserved : goal.loop-slots-preserved
loop-slots-preserved c =
    let before = c.loop-slots.slots in
    let pushed = c.push_reserved.ensures in
    let size : length c.push_reserved.new.self.items ≡ length before.items + 1 = ap length pushed.items ∙ length-append before.items (_ ∷ []) in
    let below : length before.items < c.args.count = omega arith in
    record {
      fewer = λ all old enough. omega arith;
      pages = λ all old enough. ap (λ items. pages_in items all) pushed.items ∙ one_more before.items _ all refl (omega arith) ∙ c.loop-slots.invariant.pages all old enough;
      same = pushed.capacity ∙ c.loop-slots.invariant.same;
    }
