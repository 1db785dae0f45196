use Rattle.std.proofs.Common.{rules, ◌≡◌, sym, ap, ◌∙◌}
use Rattle.flash_pages.specs.declared.chip.Geometry.{Geometry}
use Rattle.flash_pages.specs.Chip.{erase_block}
use Rattle.flash_store.proofs.Programs.{full-written, indexed-erased}
use Rattle.flash_store.proofs.tables.erase_victim.Goals as goal

pub erased_block-requires-clause-full : goal.erased_block-requires-clause-full
erased_block-requires-clause-full g c =
    let flash = c.args.flash.now in
    full-written (g.F.Flash.geometry flash) (g.F.Flash.pages flash) c.args.index.now
    (g.met.F.Flash.whole flash).count c.requires.indexed c.requires.sound c.args.victim c.requires.in_range c.requires.full c.requires.copied
    ∙ ap (λ (shape : Geometry). shape.pages) (sym c.requires.indexed.shape.room_geometry)

pub returns-clause-indexed : goal.returns-clause-indexed
returns-clause-indexed g c =
    let flash = c.args.flash.now in
    let erased : g.F.Flash.pages c.erase.new.self ≡ erase_block (g.F.Flash.pages flash) (g.F.Flash.geometry flash).pages c.args.victim = search rules in
    let shape : g.F.Flash.geometry c.erase.new.self ≡ g.F.Flash.geometry flash = search rules in
    rw (erased, shape, c.erased_block.ensures)
    (indexed-erased (g.F.Flash.geometry flash) (g.F.Flash.pages flash) c.args.index.now
    (g.met.F.Flash.whole flash).count c.requires.indexed c.requires.sound c.args.victim c.requires.in_range c.requires.full c.requires.copied)
