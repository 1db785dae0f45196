use Rattle.std.proofs.Common.{◌≡◌, ◌-◌, ◌^◌, None, slice_index_or, unwrap_or, sym, ap, ◌∙◌, rules}
use Rattle.flash_pages.specs.Place.{Place, index_of}
use Rattle.flash_pages.specs.Unit.{current}
use Rattle.flash_store.specs.Store.{StoreState}
use Rattle.flash_store.proofs.store.Store.entry_of.Goals as goal

pub returns-in_default-clause-entry : goal.returns-in_default-clause-entry
returns-in_default-clause-entry g c =
    let indexed = (c.self.invariant.ready (ap (λ (s : StoreState). s.phase) c.self.view_is ∙ c.requires.ready)).0 in
    let s = c.self.inside in
    let chip = g.F.Flash.pages s.flash in
    let place : Place = record { lun = c.args.lun; lba = c.args.lba } in
    let key : c.key-key.result ≡ index_of s.index.units place = search rules in
    let was : c.lookup.result ≡ current chip place = c.lookup.ensures.page ∙ ap (λ k. slice_index_or s.index.map.pages k None) key
    ∙ indexed.mapped.mapped place (record { lun = search rules; lba = search rules }) in
    rw (← c.self.view_is) (ap (λ o. unwrap_or o (2 ^ 64 - 1)) (sym c.in_default.is ∙ was))

pub returns-clause-entry : goal.returns-clause-entry
returns-clause-entry g c =
    let indexed = (c.self.invariant.ready (ap (λ (s : StoreState). s.phase) c.self.view_is ∙ c.requires.ready)).0 in
    let s = c.self.inside in
    let chip = g.F.Flash.pages s.flash in
    let place : Place = record { lun = c.args.lun; lba = c.args.lba } in
    let key : c.key-key.result ≡ index_of s.index.units place = search rules in
    let was : c.lookup.result ≡ current chip place = c.lookup.ensures.page ∙ ap (λ k. slice_index_or s.index.map.pages k None) key
    ∙ indexed.mapped.mapped place (record { lun = search rules; lba = search rules }) in
    rw (← c.self.view_is) (c.from.ensures ∙ ap (λ o. unwrap_or o (2 ^ 64 - 1)) (sym c.in-Some.is ∙ was))
