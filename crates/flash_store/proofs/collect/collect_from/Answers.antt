use Rattle.std.proofs.Common.{rules, ◌≡◌, true, None, Some, sym, ap, ◌∙◌}
use Rattle.flash_pages.specs.Chip.{erase_block}
use Rattle.flash_pages.specs.Place.{Place}
use Rattle.collector_laws.specs.CollectStep.{fresh, first_current, buffered, programmed, read_or_erase, copy_or_read}
use Rattle.flash_store.specs.Collecting.{call_of}
use Rattle.flash_store.specs.Entries.{is_valid_page}
use Rattle.flash_store.specs.Index.{buffered_in}
use Rattle.flash_store.proofs.Collects.{next_copy-is, copy-inside, copy-written, no-buffer, stale-buffer, fresh-buffer}
use Rattle.flash_store.proofs.collect.collect_from.Goals as goal
use Rattle.flash_store.proofs.collect.collect_from.Goals.{in-Some+else-is_valid, in_default}

pub returns-then-is_valid-clause-ok : goal.returns-then-is_valid-clause-ok
returns-then-is_valid-clause-ok g c =
    let chip = g.F.Flash.pages c.args.flash.now in
    let geometry = g.F.Flash.geometry c.args.flash.now in
    let index = c.args.index.now in
    let count = c.requires.collectable.count in
    let h = c.in-Some.page in
    let place : Place = record { lun = h.lun; lba = h.lba } in
    let valid : is_valid_page chip h.page ≡ true = sym (c.requires.indexed.mapped.valid h.page) ∙ sym c.is_valid.ensures ∙ c.if-is_valid.true in
    let is_fresh = fresh-buffer geometry chip index count c.requires.indexed c.requires.collectable.sound c.args.victim c.requires.victim c.args.held.now c.args.buffer.now.items h c.in-Some.is
    c.requires.collectable.buffer valid in
    let pages : g.F.Flash.pages c.program_block.new.flash ≡ programmed geometry chip place c.args.buffer.now.items = search rules in
    let victim : c.program_block.new.index.collector.victim ≡ Some c.args.victim = c.program_block.ensures.victim ∙ c.requires.victim in
    rw (pages, victim) (ap (copy_or_read geometry chip c.args.victim) is_fresh)

pub read-requires : goal.read-requires
read-requires g c =
    let chip = g.F.Flash.pages c.args.flash.now in
    let geometry = g.F.Flash.geometry c.args.flash.now in
    let index = c.args.index.now in
    let count = c.requires.collectable.count in
    let first : first_current geometry chip c.args.victim ≡ Some c.in-Some-next_copy.page =
    sym (next_copy-is geometry chip index count c.requires.indexed c.requires.collectable.sound c.args.victim c.requires.victim) ∙ sym c.next_copy.ensures ∙ c.in-Some-next_copy.is in
    copy-inside geometry chip index count c.requires.indexed c.requires.collectable.sound c.args.victim c.requires.victim c.in-Some-next_copy.page c.requires.collectable.victim.in_range first

pub hold_shown-requires-clause-written : goal.hold_shown-requires-clause-written
hold_shown-requires-clause-written g c =
    let chip = g.F.Flash.pages c.args.flash.now in
    let geometry = g.F.Flash.geometry c.args.flash.now in
    let index = c.args.index.now in
    let count = c.requires.collectable.count in
    let first : first_current geometry chip c.args.victim ≡ Some c.in-Some-next_copy.page =
    sym (next_copy-is geometry chip index count c.requires.indexed c.requires.collectable.sound c.args.victim c.requires.victim) ∙ sym c.next_copy.ensures ∙ c.in-Some-next_copy.is in
    rw c.read.ensures.pages (copy-written geometry chip index count c.requires.indexed c.requires.collectable.sound c.args.victim c.requires.victim c.in-Some-next_copy.page first)

pub erase_victim-requires-clause-copied : goal.erase_victim-requires-clause-copied
erase_victim-requires-clause-copied g c =
    let chip = g.F.Flash.pages c.args.flash.now in
    let geometry = g.F.Flash.geometry c.args.flash.now in
    sym (next_copy-is geometry chip c.args.index.now c.requires.collectable.count c.requires.indexed c.requires.collectable.sound c.args.victim c.requires.victim) ∙ sym c.next_copy.ensures
    ∙ c.in-None.is

pub returns-else-is_err-2-clause-ok : goal.returns-else-is_err-2-clause-ok
returns-else-is_err-2-clause-ok g c =
    let chip = g.F.Flash.pages c.args.flash.now in
    let geometry = g.F.Flash.geometry c.args.flash.now in
    let index = c.args.index.now in
    let count = c.requires.collectable.count in
    let sound = c.requires.collectable.sound in
    let first : first_current geometry chip c.args.victim ≡ Some c.in-Some-next_copy.page = sym (next_copy-is geometry chip index count c.requires.indexed sound c.args.victim c.requires.victim)
    ∙ sym c.next_copy.ensures ∙ c.in-Some-next_copy.is in
    let stale : fresh chip (buffered_in c.args.held.now c.args.buffer.now.items) ≡ None = elim c.match-held.branch [
      | in-Some+else-is_valid w ↦
          stale-buffer geometry chip index count c.requires.indexed sound c.args.victim c.requires.victim c.args.held.now c.args.buffer.now.items w.in-Some.page w.in-Some.is
          c.requires.collectable.buffer
          (sym (c.requires.indexed.mapped.valid w.in-Some.page.page) ∙ sym w.is_valid.ensures ∙ w.if-is_valid.false)
      | in_default w ↦ no-buffer geometry chip index count c.requires.indexed sound c.args.victim c.requires.victim c.args.held.now c.args.buffer.now.items w.in_default.is
    ] in
    let held : buffered_in (Some c.hold_shown.result) c.hold_shown.new.buffer.items ≡ Some (buffered chip c.in-Some-next_copy.page) = rw (← c.read.ensures.pages) c.hold_shown.ensures.held in
    rw (c.read.ensures.pages, c.requires.victim, held)
    (ap (copy_or_read geometry chip c.args.victim) stale ∙ ap (read_or_erase geometry chip c.args.victim) first)

pub returns-else-is_err-2-clause-indexed : goal.returns-else-is_err-2-clause-indexed
returns-else-is_err-2-clause-indexed g c = rw (c.read.ensures.pages, c.read.ensures.geometry) c.requires.indexed

pub returns-else-is_err-3-clause-ok : goal.returns-else-is_err-3-clause-ok
returns-else-is_err-3-clause-ok g c =
    let chip = g.F.Flash.pages c.args.flash.now in
    let geometry = g.F.Flash.geometry c.args.flash.now in
    let index = c.args.index.now in
    let count = c.requires.collectable.count in
    let sound = c.requires.collectable.sound in
    let first : first_current geometry chip c.args.victim ≡ None = sym (next_copy-is geometry chip index count c.requires.indexed sound c.args.victim c.requires.victim) ∙ sym c.next_copy.ensures
    ∙ c.in-None.is in
    let stale : fresh chip (buffered_in c.args.held.now c.args.buffer.now.items) ≡ None = elim c.match-held.branch [
      | in-Some+else-is_valid w ↦
          stale-buffer geometry chip index count c.requires.indexed sound c.args.victim c.requires.victim c.args.held.now c.args.buffer.now.items w.in-Some.page w.in-Some.is
          c.requires.collectable.buffer
          (sym (c.requires.indexed.mapped.valid w.in-Some.page.page) ∙ sym w.is_valid.ensures ∙ w.if-is_valid.false)
      | in_default w ↦ no-buffer geometry chip index count c.requires.indexed sound c.args.victim c.requires.victim c.args.held.now c.args.buffer.now.items w.in_default.is
    ] in
    let pages : g.F.Flash.pages c.erase_victim.new.flash ≡ erase_block chip geometry.pages c.args.victim = search rules in
    let victim : c.erase_victim.new.index.collector.victim ≡ None = search rules in
    rw (pages, victim)
    (ap (copy_or_read geometry chip c.args.victim) stale ∙ ap (read_or_erase geometry chip c.args.victim) first)

pub returns-then-is_err-clause-named : goal.returns-then-is_err-clause-named
returns-then-is_err-clause-named g c =
    let chip = g.F.Flash.pages c.args.flash.now in
    let geometry = g.F.Flash.geometry c.args.flash.now in
    let index = c.args.index.now in
    let count = c.requires.collectable.count in
    let h = c.in-Some.page in
    let place : Place = record { lun = h.lun; lba = h.lba } in
    let valid : is_valid_page chip h.page ≡ true = sym (c.requires.indexed.mapped.valid h.page) ∙ sym c.is_valid.ensures ∙ c.if-is_valid.true in
    let is_fresh = fresh-buffer geometry chip index count c.requires.indexed c.requires.collectable.sound c.args.victim c.requires.victim c.args.held.now c.args.buffer.now.items h c.in-Some.is
    c.requires.collectable.buffer valid in
    sym (ap (λ o. call_of (copy_or_read geometry chip c.args.victim o).did) is_fresh)

pub returns-then-is_err-2-clause-named : goal.returns-then-is_err-2-clause-named
returns-then-is_err-2-clause-named g c =
    let chip = g.F.Flash.pages c.args.flash.now in
    let geometry = g.F.Flash.geometry c.args.flash.now in
    let index = c.args.index.now in
    let count = c.requires.collectable.count in
    let sound = c.requires.collectable.sound in
    let first : first_current geometry chip c.args.victim ≡ Some c.in-Some-next_copy.page = sym (next_copy-is geometry chip index count c.requires.indexed sound c.args.victim c.requires.victim)
    ∙ sym c.next_copy.ensures ∙ c.in-Some-next_copy.is in
    let stale : fresh chip (buffered_in c.args.held.now c.args.buffer.now.items) ≡ None = elim c.match-held.branch [
      | in-Some+else-is_valid w ↦
          stale-buffer geometry chip index count c.requires.indexed sound c.args.victim c.requires.victim c.args.held.now c.args.buffer.now.items w.in-Some.page w.in-Some.is
          c.requires.collectable.buffer
          (sym (c.requires.indexed.mapped.valid w.in-Some.page.page) ∙ sym w.is_valid.ensures ∙ w.if-is_valid.false)
      | in_default w ↦ no-buffer geometry chip index count c.requires.indexed sound c.args.victim c.requires.victim c.args.held.now c.args.buffer.now.items w.in_default.is
    ] in
    sym (ap (λ o. call_of (copy_or_read geometry chip c.args.victim o).did) stale ∙ ap (λ o. call_of (read_or_erase geometry chip c.args.victim o).did) first)

pub returns-then-is_err-3-clause-named : goal.returns-then-is_err-3-clause-named
returns-then-is_err-3-clause-named g c =
    let chip = g.F.Flash.pages c.args.flash.now in
    let geometry = g.F.Flash.geometry c.args.flash.now in
    let index = c.args.index.now in
    let count = c.requires.collectable.count in
    let sound = c.requires.collectable.sound in
    let first : first_current geometry chip c.args.victim ≡ None = sym (next_copy-is geometry chip index count c.requires.indexed sound c.args.victim c.requires.victim) ∙ sym c.next_copy.ensures
    ∙ c.in-None.is in
    let stale : fresh chip (buffered_in c.args.held.now c.args.buffer.now.items) ≡ None = elim c.match-held.branch [
      | in-Some+else-is_valid w ↦
          stale-buffer geometry chip index count c.requires.indexed sound c.args.victim c.requires.victim c.args.held.now c.args.buffer.now.items w.in-Some.page w.in-Some.is
          c.requires.collectable.buffer
          (sym (c.requires.indexed.mapped.valid w.in-Some.page.page) ∙ sym w.is_valid.ensures ∙ w.if-is_valid.false)
      | in_default w ↦ no-buffer geometry chip index count c.requires.indexed sound c.args.victim c.requires.victim c.args.held.now c.args.buffer.now.items w.in_default.is
    ] in
    sym (ap (λ o. call_of (copy_or_read geometry chip c.args.victim o).did) stale ∙ ap (λ o. call_of (read_or_erase geometry chip c.args.victim o).did) first)
