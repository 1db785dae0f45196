use Rattle.std.proofs.Common.{◌≡◌, ◌+◌, ◌*◌, ◌/◌, ◌%◌, ◌<◌, true, false, length, Some, refl, sym, ap, ◌∙◌, subst, arith}
use Rattle.std.specs.Option.{IfSome}
use Rattle.std.specs.Vec.{with_items}
use Rattle.std.proofs.lemmas.List.{with_items_is}
use Rattle.std.proofs.lemmas.Nat.{mod_below, div_below}
use Rattle.flash_pages.specs.declared.chip.Geometry.{Geometry}
use Rattle.flash_pages.specs.Chip.{Erased, Written, page_at, page_in}
use Rattle.flash_pages.specs.Sound.{ChipOk}
use Rattle.flash_store.specs.Scan.{IsGood, IsScanned, spare_of, spare_at}
use Rattle.flash_store.proofs.Order.{scanned-erased, scanned-written, unsound-spare, unsound-order}
use Rattle.flash_store.proofs.tally.scan_page.Goals as goal
use Rattle.flash_store.proofs.tally.scan_page.Goals.{then-not-is_good-via-then-not-is_good, then-not-is_good-via-else-not-is_good+then-tally-inside}

pub end_page-requires-clause-scanned : goal.end_page-requires-clause-scanned
end_page-requires-clause-scanned g c =
    let chip = g.F.Flash.pages c.args.flash.now in
    let geometry = c.args.geometry in
    let tally = c.args.tally.now in
    let r = c.requires.tallied in
    let at : IsScanned geometry chip c.args.index.now tally = r.sound c.if-not-tally.false in
    let within = r.shape.served.limits in
    let count : length chip ≡ geometry.blocks * geometry.pages =
    subst (λ (shape : Geometry). length chip ≡ shape.blocks * shape.pages) c.requires.geometry (g.met.F.Flash.whole c.args.flash.now).count in
    let shown : page_in c.shown.result ≡ page_at chip tally.scanned = subst (λ o. IfSome o (λ page. page_in c.shown.result ≡ page_at chip page)) c.requires.shown c.shown.ensures in
    let erased : page_at chip tally.scanned ≡ Erased = sym shown ∙ ap page_in c.in-Erased.is in
    scanned-erased geometry chip within count c.args.index.now tally (tally.scanned / geometry.pages) (tally.scanned % geometry.pages)
    (mod_below tally.scanned geometry.pages (omega (arith, within.least_pages))) at (omega (arith, c.requires.more, count)) erased

pub returns-then-not-is_good-clause-tallied : goal.returns-then-not-is_good-clause-tallied
returns-then-not-is_good-clause-tallied g c =
    let chip = g.F.Flash.pages c.args.flash.now in
    let geometry = c.args.geometry in
    let tally = c.args.tally.now in
    let index = c.args.index.now in
    let r = c.requires.tallied in
    let at : IsScanned geometry chip index tally = r.sound c.if-not-tally.false in
    let within = r.shape.served.limits in
    let count : length chip ≡ geometry.blocks * geometry.pages =
    subst (λ (shape : Geometry). length chip ≡ shape.blocks * shape.pages) c.requires.geometry (g.met.F.Flash.whole c.args.flash.now).count in
    let shown : page_in c.shown.result ≡ page_at chip tally.scanned = subst (λ o. IfSome o (λ page. page_in c.shown.result ≡ page_at chip page)) c.requires.shown c.shown.ensures in
    let written : page_at chip tally.scanned ≡ Written c.in-Written.bytes.now c.in-Written.spare = sym shown ∙ ap page_in c.in-Written.is in
    let spare : spare_at chip tally.scanned ≡ Some c.in-Written.spare = ap spare_of written in
    let in_block = mod_below tally.scanned geometry.pages (omega (arith, within.least_pages)) in
    let more : tally.scanned < length chip = omega (arith, c.requires.more, count) in
    let refused : ChipOk geometry index.luns index.units chip → ⊥ = elim c.then-not-is_good.branch [
      | then-not-is_good-via-then-not-is_good w ↦
          unsound-spare geometry chip within count index tally (tally.scanned / geometry.pages) (tally.scanned % geometry.pages) in_block at more c.in-Written.spare spare
          (λ good. let passed : c.is_good.result ≡ true = c.is_good.ensures.1 good in let failed : c.is_good.result ≡ false = w.if-not-is_good.true in cc)
      | then-not-is_good-via-else-not-is_good+then-tally-inside w ↦
          unsound-order geometry chip within count index tally (tally.scanned / geometry.pages) (tally.scanned % geometry.pages) in_block at more c.in-Written.spare spare w.if-tally-inside.true
          (div_below tally.scanned geometry.pages geometry.blocks (omega (arith, within.least_pages)) c.requires.more)
    ] in
    record {
      shape = r.shape;
      whole_newest = r.whole_newest;
      within = omega (arith, c.requires.more);
      sound = λ e. cc;
      unsound = λ _. refused;
    }

pub end_page-requires-in-Written-clause-scanned : goal.end_page-requires-in-Written-clause-scanned
end_page-requires-in-Written-clause-scanned g c =
    let chip = g.F.Flash.pages c.args.flash.now in
    let geometry = c.args.geometry in
    let tally = c.args.tally.now in
    let index = c.args.index.now in
    let r = c.requires.tallied in
    let at : IsScanned geometry chip index tally = r.sound c.if-not-tally.false in
    let within = r.shape.served.limits in
    let count : length chip ≡ geometry.blocks * geometry.pages =
    subst (λ (shape : Geometry). length chip ≡ shape.blocks * shape.pages) c.requires.geometry (g.met.F.Flash.whole c.args.flash.now).count in
    let shown : page_in c.shown.result ≡ page_at chip tally.scanned = subst (λ o. IfSome o (λ page. page_in c.shown.result ≡ page_at chip page)) c.requires.shown c.shown.ensures in
    let written : page_at chip tally.scanned ≡ Written c.in-Written.bytes.now c.in-Written.spare = sym shown ∙ ap page_in c.in-Written.is in
    let good : IsGood index.luns index.units c.in-Written.spare = c.is_good.ensures.0 c.if-not-is_good.false in
    scanned-written geometry chip within count index tally (tally.scanned / geometry.pages) (tally.scanned % geometry.pages)
    (mod_below tally.scanned geometry.pages (omega (arith, within.least_pages))) at (omega (arith, c.requires.more, count))
    c.in-Written.spare (ap spare_of written) good c.if-tally-inside.false
    c.take_in.new.index c.take_in.ensures.units.0 c.take_in.ensures.units.1 c.take_in.ensures.collector c.take_in.new.newest
    (record { newest = with_items tally.newest c.take_in.new.newest; scanned = tally.scanned + 1; here = tally.here + 1; sound = tally.sound })
    (with_items_is tally.newest c.take_in.new.newest (c.take_in.ensures.whole ∙ c.deref_mut.ensures.len)) refl refl c.take_in.ensures.follows
