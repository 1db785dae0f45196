use Rattle.std.proofs.Common.{◌+◌, ◌*◌, ◌≤◌, arith, ap, ◌∙◌}
use Rattle.std.proofs.Math.Nat.{mul-le-mul_right}
use Rattle.std.proofs.lemmas.List.{with_items_is}
use Rattle.flash_pages.specs.Memory.{pages_in}
use Rattle.flash_pages.proofs.memory.MemFlashFlash.erase.Goals as goal

pub returns-clause-ok : goal.returns-clause-ok
returns-clause-ok c =
    let flash = c.args.self.now in
    let pages = flash.geometry.pages in
    let all = flash.geometry.blocks * pages in
    let below = c.requires in
    let next : c.args.block + 1 ≤ flash.geometry.blocks = omega arith in
    let end = mul-le-mul_right pages next in
    let inside : c.args.block * pages + pages ≤ all = grind (arith, end) in
    let same = with_items_is flash.slots c.erase_slots.new.slots (omega arith) in
    let erased = rw c.deref_mut.ensures.value at c.erase_slots.ensures in
    ap (λ items. pages_in items all) same ∙ erased all flash.fewer inside
