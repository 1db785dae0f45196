use Rattle.std.proofs.Common.{◌≡◌, ◌⊎◌, ◌≤◌, All, true, false, sym, subst}
use Rattle.flash_pages.specs.declared.chip.Geometry.{Geometry}
use Rattle.flash_pages.specs.Sound.{ChipOk}
use Rattle.page_validity.specs.ValidPages.{valid_count}
use Rattle.block_collector.specs.Room.{erased_pages, HasOnePartly, HasSpare}
use Rattle.flash_store.specs.declared.tally.Newest.{Newest}
use Rattle.flash_store.specs.Scan.{IsScanned}
use Rattle.flash_store.proofs.Entire.{indexed-whole, once-from, none-doubled, one_partly-to, room-to, sound-whole}
use Rattle.flash_store.proofs.tally.is_sound.Goals as goal

pub returns-then-not-none_doubled-clause-sound : goal.returns-then-not-none_doubled-clause-sound
returns-then-not-none_doubled-clause-sound g c =
    let flash = c.args.flash.now in
    let geometry = g.F.Flash.geometry flash in
    let chip = g.F.Flash.pages flash in
    let r = c.requires.tallied in
    let at : IsScanned geometry chip c.args.index.now c.args.tally.now = r.sound c.if-not-tally.false in
    let refused : ChipOk geometry c.args.index.now.luns c.args.index.now.units chip → ⊥ = λ sound.
    let none : All (λ (one : Newest). one.doubled ≡ false) c.args.tally.now.newest.items =
    none-doubled geometry chip (g.met.F.Flash.whole flash).count c.args.index.now c.args.tally.now r.shape r.whole_newest c.requires.whole at sound.one_newest in
    let passed : c.none_doubled.result ≡ true = c.none_doubled.ensures.1 (rw c.deref.ensures.value none) in
    cc in
    (λ e. cc, λ sound. absurd (refused sound))

pub returns-then-not-has_one_partly-clause-sound : goal.returns-then-not-has_one_partly-clause-sound
returns-then-not-has_one_partly-clause-sound g c =
    let flash = c.args.flash.now in
    let geometry = g.F.Flash.geometry flash in
    let chip = g.F.Flash.pages flash in
    let r = c.requires.tallied in
    let at : IsScanned geometry chip c.args.index.now c.args.tally.now = r.sound c.if-not-tally.false in
    let refused : ChipOk geometry c.args.index.now.luns c.args.index.now.units chip → ⊥ = λ sound.
    let one : HasOnePartly geometry.pages c.args.index.now.collector.written =
    one_partly-to geometry chip (g.met.F.Flash.whole flash).count c.args.index.now c.args.tally.now r.shape r.whole_newest c.requires.whole at sound.one_partly_written in
    let passed : c.has_one_partly.result ≡ true =
    c.has_one_partly.ensures.1 (subst (λ (shape : Geometry). HasOnePartly shape.pages c.args.index.now.collector.written) (sym r.shape.room_geometry) one) in
    cc in
    (λ e. cc, λ sound. absurd (refused sound))

pub returns-clause-sound : goal.returns-clause-sound
returns-clause-sound g c =
    let flash = c.args.flash.now in
    let geometry = g.F.Flash.geometry flash in
    let chip = g.F.Flash.pages flash in
    let index = c.args.index.now in
    let r = c.requires.tallied in
    let count = (g.met.F.Flash.whole flash).count in
    let at : IsScanned geometry chip index c.args.tally.now = r.sound c.if-not-tally.false in
    let room_at = λ (shape : Geometry). (shape.pages ≤ erased_pages shape.pages index.collector.written)
    ⊎ HasSpare shape.pages index.collector.written (valid_count shape.pages index.validity.valid) (erased_pages shape.pages index.collector.written) in
    let none : All (λ (one : Newest). one.doubled ≡ false) c.args.tally.now.newest.items = rw (← c.deref.ensures.value) (c.none_doubled.ensures.0 c.if-not-none_doubled.false) in
    let one = once-from geometry chip count index c.args.tally.now r.shape r.whole_newest c.requires.whole at none in
    let partly : HasOnePartly geometry.pages index.collector.written =
    subst (λ (shape : Geometry). HasOnePartly shape.pages index.collector.written) r.shape.room_geometry (c.has_one_partly.ensures.0 c.if-not-has_one_partly.false) in (
      λ has. sound-whole geometry chip count index c.args.tally.now r.shape r.whole_newest c.requires.whole at one partly (subst room_at r.shape.room_geometry (c.has_room.ensures.0 has)),
      λ sound. c.has_room.ensures.1 (subst room_at (sym r.shape.room_geometry) (room-to geometry chip count index c.args.tally.now r.shape r.whole_newest c.requires.whole at one sound.room)),
    )

pub returns-clause-indexed : goal.returns-clause-indexed
returns-clause-indexed g c = λ _.
    let flash = c.args.flash.now in
    indexed-whole (g.F.Flash.geometry flash) (g.F.Flash.pages flash)
    (g.met.F.Flash.whole flash).count c.args.index.now c.args.tally.now c.requires.tallied.shape c.requires.tallied.whole_newest c.requires.whole (c.requires.tallied.sound c.if-not-tally.false)
