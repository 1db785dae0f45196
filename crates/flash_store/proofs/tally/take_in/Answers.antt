use Rattle.std.proofs.Common.{◌≡◌, ◌+◌, true, false, slice_index_or, slice_set, Some, None, sym, ap, ◌∙◌, arith}
use Rattle.hpb_outside.specs.Faults.{raised}
use Rattle.flash_pages.specs.Place.{Place, index_of}
use Rattle.flash_pages.specs.Unit.{place_of, current}
use Rattle.flash_pages.proofs.Programming.{current-inside}
use Rattle.page_map.specs.Table.{Table}
use Rattle.page_validity.specs.ValidPages.{ValidPages}
use Rattle.flash_store.specs.Entries.{flags_after}
use Rattle.flash_store.specs.Scan.{seen, nothing_noted, noted, is_newer}
use Rattle.flash_store.proofs.Seen.{length-seen}
use Rattle.flash_store.proofs.Taken.{follows-older, follows-newer}
use Rattle.flash_store.proofs.tally.take_in.Goals as goal

pub make_valid-requires-clause-old : goal.make_valid-requires-clause-old
make_valid-requires-clause-old g c = λ other was.
    let flash = c.args.flash.now in
    let chip = g.F.Flash.pages flash in
    let index = c.args.index.now in
    let place : Place = place_of c.args.spare in
    let old : c.set-old.result ≡ current (seen chip c.args.page) place = c.set-old.ensures.old ∙ ap (λ k. slice_index_or index.map.pages k None) c.key-key.ensures
    ∙ c.requires.follows.mapped.mapped place c.requires.good.0 in
    omega (
      arith,
      current-inside (seen chip c.args.page) place other (sym old ∙ was),
      length-seen chip c.args.page (omega (arith, c.requires.page)),
      c.requires.shape.whole_flags,
      (g.met.F.Flash.whole flash).count,
    )

pub returns-then-note-clause-follows : goal.returns-then-note-clause-follows
returns-then-note-clause-follows g c =
    let flash = c.args.flash.now in
    let chip = g.F.Flash.pages flash in
    let index = c.args.index.now in
    let n = c.args.page in
    let spare = c.args.spare in
    let newest = c.args.newest.now in
    let place : Place = place_of spare in
    let key = index_of index.units place in
    let old : c.set-old.result ≡ current (seen chip n) place = c.set-old.ensures.old ∙ ap (λ k. slice_index_or index.map.pages k None) c.key-key.ensures
    ∙ c.requires.follows.mapped.mapped place c.requires.good.0 in
    let newer : is_newer (slice_index_or newest key nothing_noted) (spare.seq + 1) ≡ true = ap (λ k. is_newer (slice_index_or newest k nothing_noted) (spare.seq + 1)) (sym c.key-key.ensures)
    ∙ sym c.note.ensures.newer ∙ c.if-note.true in
    let table : Table = record { pages = slice_set index.map.pages key (Some n); page_count = index.map.page_count; lookups = raised index.map.lookups } in
    let changed : c.set-old.new.self ≡ table = rw (← c.key-key.ensures) c.set-old.ensures.new in
    let flags : ValidPages = record { geometry = index.validity.geometry; valid = flags_after index.validity.valid n (current (seen chip n) place) } in
    let marked : c.make_valid.new.validity ≡ flags = rw (← old) c.make_valid.ensures in
    let new : slice_set newest c.key-key.result c.note.new.newest ≡ slice_set newest key (noted (slice_index_or newest key nothing_noted) (spare.seq + 1)) =
    rw (← c.key-key.ensures) (ap (slice_set newest c.key-key.result) c.note.ensures.noted) in
    rw (changed, marked, new)
    (follows-newer chip n spare index newest c.requires.page c.requires.shown c.requires.good c.requires.follows c.requires.whole c.requires.shape.whole_map
    (c.requires.shape.whole_flags ∙ sym (g.met.F.Flash.whole flash).count) newer c.max-index.result (raised index.map.lookups) c.max-index.ensures)

pub returns-else-note-clause-follows : goal.returns-else-note-clause-follows
returns-else-note-clause-follows g c =
    let flash = c.args.flash.now in
    let chip = g.F.Flash.pages flash in
    let index = c.args.index.now in
    let n = c.args.page in
    let spare = c.args.spare in
    let newest = c.args.newest.now in
    let key = index_of index.units (place_of spare) in
    let older : is_newer (slice_index_or newest key nothing_noted) (spare.seq + 1) ≡ false = ap (λ k. is_newer (slice_index_or newest k nothing_noted) (spare.seq + 1)) (sym c.key-key.ensures)
    ∙ sym c.note.ensures.newer ∙ c.if-note.false in
    let new : slice_set newest c.key-key.result c.note.new.newest ≡ slice_set newest key (noted (slice_index_or newest key nothing_noted) (spare.seq + 1)) =
    rw (← c.key-key.ensures) (ap (slice_set newest c.key-key.result) c.note.ensures.noted) in
    rw new
    (follows-older chip n spare index newest c.requires.page c.requires.shown c.requires.good c.requires.follows c.requires.whole older c.max-index.result c.max-index.ensures)
