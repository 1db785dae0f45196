use Rattle.std.proofs.Common.{rules, ◌≡◌, slice_index_or, slice_set, None, refl, sym, ap, ◌∙◌, subst, arith}
use Rattle.std.specs.Option.{IsSome}
use Rattle.hpb_outside.specs.Faults.{raised}
use Rattle.flash_pages.specs.Chip.{Written, page_at}
use Rattle.flash_pages.specs.Place.{Place}
use Rattle.flash_pages.specs.Unit.{current}
use Rattle.flash_pages.proofs.Programming.{current-inside}
use Rattle.flash_store.specs.declared.tables.Index.{Index}
use Rattle.flash_store.proofs.Programs.{some_same, front, frontier-is, programmed_chip, programmed-is, index_after, indexed-programmed}
use Rattle.flash_store.proofs.tables.program_block.Goals as goal

pub unwrap-page-requires : goal.unwrap-page-requires
unwrap-page-requires g c =
    let flash = c.args.flash.now in
    let is = frontier-is (g.F.Flash.geometry flash) (g.F.Flash.pages flash) c.args.index.now (g.met.F.Flash.whole flash).count c.requires.indexed c.requires.sound c.requires.room in
    subst IsSome (sym (c.frontier.ensures.page ∙ is)) refl

pub program-requires-clause-erased : goal.program-requires-clause-erased
program-requires-clause-erased g c =
    let flash = c.args.flash.now in
    let chip = g.F.Flash.pages flash in
    let count = (g.met.F.Flash.whole flash).count in
    let at = front (g.F.Flash.geometry flash) chip c.args.index.now count c.requires.indexed c.requires.sound c.requires.room in
    let is = frontier-is (g.F.Flash.geometry flash) chip c.args.index.now count c.requires.indexed c.requires.sound c.requires.room in
    let same : c.unwrap-page.result ≡ at.page = some_same c.unwrap-page.result at.page (sym c.unwrap-page.ensures ∙ c.frontier.ensures.page ∙ is) in
    ap (page_at chip) same ∙ at.erased

pub make_valid-requires-clause-old : goal.make_valid-requires-clause-old
make_valid-requires-clause-old g c = λ other was.
    let flash = c.args.flash.now in
    let chip = g.F.Flash.pages flash in
    let index = c.args.index.now in
    let count = (g.met.F.Flash.whole flash).count in
    let place : Place = record { lun = c.args.lun; lba = c.args.lba } in
    let old : c.set-old.result ≡ current chip place = c.set-old.ensures.old ∙ ap (λ k. slice_index_or index.map.pages k None) c.key-key.ensures
    ∙ c.requires.indexed.mapped.mapped place c.requires.place in
    omega (arith, current-inside chip place other (sym old ∙ was), c.requires.indexed.shape.whole_flags, count)

pub returns-clause-ok : goal.returns-clause-ok
returns-clause-ok g c =
    let flash = c.args.flash.now in
    let chip = g.F.Flash.pages flash in
    let index = c.args.index.now in
    let geometry = g.F.Flash.geometry flash in
    let count = (g.met.F.Flash.whole flash).count in
    let place : Place = record { lun = c.args.lun; lba = c.args.lba } in
    let bytes = c.args.bytes.now in
    let at = front geometry chip index count c.requires.indexed c.requires.sound c.requires.room in
    let is = frontier-is geometry chip index count c.requires.indexed c.requires.sound c.requires.room in
    let same : c.unwrap-page.result ≡ at.page = some_same c.unwrap-page.result at.page (sym c.unwrap-page.ensures ∙ c.frontier.ensures.page ∙ is) in
    let written : g.F.Flash.pages c.program.new.self ≡ slice_set chip c.unwrap-page.result (Written bytes (record { lun = c.args.lun; lba = c.args.lba; seq = index.next_seq })) = search rules in
    written
    ∙ ap (λ n. slice_set chip n (Written bytes (record { lun = c.args.lun; lba = c.args.lba; seq = index.next_seq }))) same
    ∙ ap (λ q. slice_set chip at.page (Written bytes (record { lun = c.args.lun; lba = c.args.lba; seq = q }))) c.requires.indexed.mapped.numbered
    ∙ sym (programmed-is geometry chip index count c.requires.indexed c.requires.sound c.requires.room place bytes c.requires.place 0)

pub returns-clause-indexed : goal.returns-clause-indexed
returns-clause-indexed g c =
    let flash = c.args.flash.now in
    let chip = g.F.Flash.pages flash in
    let index = c.args.index.now in
    let geometry = g.F.Flash.geometry flash in
    let count = (g.met.F.Flash.whole flash).count in
    let place : Place = record { lun = c.args.lun; lba = c.args.lba } in
    let bytes = c.args.bytes.now in
    let at = front geometry chip index count c.requires.indexed c.requires.sound c.requires.room in
    let is = frontier-is geometry chip index count c.requires.indexed c.requires.sound c.requires.room in
    let same : c.unwrap-page.result ≡ at.page = some_same c.unwrap-page.result at.page (sym c.unwrap-page.ensures ∙ c.frontier.ensures.page ∙ is) in
    let written : g.F.Flash.pages c.program.new.self ≡ slice_set chip c.unwrap-page.result (Written bytes (record { lun = c.args.lun; lba = c.args.lba; seq = index.next_seq })) = search rules in
    let programmed : g.F.Flash.pages c.program.new.self ≡ programmed_chip geometry chip index count c.requires.indexed c.requires.sound c.requires.room place bytes c.requires.place 0 =
    written
    ∙ ap (λ n. slice_set chip n (Written bytes (record { lun = c.args.lun; lba = c.args.lba; seq = index.next_seq }))) same
    ∙ ap (λ q. slice_set chip at.page (Written bytes (record { lun = c.args.lun; lba = c.args.lba; seq = q }))) c.requires.indexed.mapped.numbered in
    let shape : g.F.Flash.geometry c.program.new.self ≡ geometry = search rules in
    let old : c.set-old.result ≡ current chip place = c.set-old.ensures.old ∙ ap (λ k. slice_index_or index.map.pages k None) c.key-key.ensures
    ∙ c.requires.indexed.mapped.mapped place c.requires.place in
    let after : Index = index_after geometry chip index count c.requires.indexed c.requires.sound c.requires.room place bytes c.requires.place (raised index.map.lookups) in
    let changed : c.set-old.new.self ≡ after.map = rw (← same, ← c.key-key.ensures) c.set-old.ensures.new in
    let marked : c.make_valid.new.validity ≡ after.validity = rw (← old, ← same) c.make_valid.ensures in
    let counted : c.programmed.new.self ≡ after.collector = c.programmed.ensures.written in
    rw (programmed, shape, changed, marked, counted) (indexed-programmed geometry chip index count c.requires.indexed c.requires.sound c.requires.room place bytes c.requires.place
    (raised index.map.lookups))
