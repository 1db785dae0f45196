use Rattle.std.proofs.Common.{◌≡◌, ℕ, ◌+◌, ◌-◌, ◌*◌, ◌<◌, ◌++◌, List, length, suc, arith, sym, rules, ap, subst, ◌∙◌}
use Rattle.byteorder.specs.Endian.{big_bytes}
use Rattle.hpb_outside.specs.Faults.{raised}
use Rattle.flash_pages.specs.Chip.{Page}
use Rattle.flash_pages.specs.Place.{Place}
use Rattle.flash_store.specs.Entries.{entry_for}
use Rattle.collector_laws.specs.CollectStep.{CollectState}
use Rattle.flash_store.specs.Store.{StoreState, collecting}
use Rattle.flat_unit.proofs.entries.Listed.{length-entries_from, entries_more}
use Rattle.hpb_device.specs.Advance.{entries_of}
use Rattle.hpb_device.specs.StoreCounts.{raised_times}
use Rattle.hpb_device.proofs.advance.push_entries.Goals as goal

pub unwrap-requires : goal.unwrap-requires
unwrap-requires g c =
    let count = c.loop-lba.lba - c.args.first in
    let whole : length c.loop-lba.held.items ≡ 8 * count = ap length c.loop-lba.invariant.entries ∙ length-entries_from _ c.args.first count in
    let eight : length c.to_be_bytes.result ≡ 8 = search rules in
    let more : c.loop-lba.lba < c.args.first + c.args.count = search rules in
    c.extend_from_slice.ensures.succeeds (omega (arith, whole, eight, more, c.loop-lba.invariant.from, c.loop-lba.invariant.room, c.requires.room))

pub loop-lba-preserved : goal.loop-lba-preserved
loop-lba-preserved g c =
    let count = c.loop-lba.lba - c.args.first in
    let pages : c.loop-lba.store.pages ≡ c.args.store.now.pages = ap (λ (s : CollectState). s.chip) c.loop-lba.invariant.kept in
    let entry_at : ℕ → ℕ = λ lba. let p : Place = record { lun = c.args.lun; lba = lba } in entry_for c.args.store.now.pages p in
    let counted = c.entry_of.ensures.counted in
    let next : c.args.first + count ≡ c.loop-lba.lba = omega (arith, c.loop-lba.invariant.from) in
    let one_more : c.loop-lba.lba + 1 - c.args.first ≡ count + 1 = omega (arith, c.loop-lba.invariant.from) in
    let next_count : c.loop-lba.lba + 1 - c.args.first ≡ suc count = omega (arith, c.loop-lba.invariant.from) in
    let Entry : List Page → ℕ → Type 0 = λ chip lba. let p : Place = record { lun = c.args.lun; lba = lba } in c.entry_of.result ≡ entry_for chip p in
    let entry : c.entry_of.result ≡ entry_at (c.args.first + count) =
    subst (Entry c.args.store.now.pages) (sym next) (subst (λ (chip : List Page). Entry chip c.loop-lba.lba) pages c.entry_of.ensures.entry) in
    let bytes : c.to_be_bytes.result ≡ big_bytes 8 c.entry_of.result = search rules in
    let added : c.extend_from_slice.new.self.items ≡ c.loop-lba.held.items ++ c.to_be_bytes.result = search rules in
    record {
      entries = added ∙ (ap (λ (xs : List ℕ). xs ++ c.to_be_bytes.result) c.loop-lba.invariant.entries
          ∙ (ap (λ (xs : List ℕ). entries_of c.args.store.now.pages c.args.lun c.args.first count ++ xs) (bytes ∙ ap (big_bytes 8) entry)
          ∙ (sym (entries_more entry_at c.args.first count) ∙ ap (entries_of c.args.store.now.pages c.args.lun c.args.first) (sym one_more))));
      from = omega (arith, c.loop-lba.invariant.from);
      kept = ap collecting counted ∙ c.loop-lba.invariant.kept;
      same = record {
        geometry = ap (λ (z : StoreState). z.geometry) counted ∙ c.loop-lba.invariant.same.geometry;
        luns = ap (λ (z : StoreState). z.luns) counted ∙ c.loop-lba.invariant.same.luns;
        units = ap (λ (z : StoreState). z.units) counted ∙ c.loop-lba.invariant.same.units;
        phase = ap (λ (z : StoreState). z.phase) counted ∙ c.loop-lba.invariant.same.phase;
        scanned = ap (λ (z : StoreState). z.scanned) counted ∙ c.loop-lba.invariant.same.scanned;
      };
      calls = ap (λ (z : StoreState). z.calls) counted ∙ c.loop-lba.invariant.calls;
      faults = ap (λ (z : StoreState). z.faults) counted ∙ c.loop-lba.invariant.faults;
      lookups = ap (λ (z : StoreState). z.lookups) c.entry_of.ensures.counted
          ∙ (ap raised c.loop-lba.invariant.lookups ∙ ap (λ (n : ℕ). raised_times n c.args.store.now.lookups) (sym next_count));
      hits = ap (λ (z : StoreState). z.hits) c.entry_of.ensures.counted ∙ c.loop-lba.invariant.hits;
      room = search rules;
    }

pub returns-clause-lookups : goal.returns-clause-lookups
returns-clause-lookups g c =
    let all : c.loop-lba.lba - c.args.first ≡ c.args.count = omega (arith, c.loop-lba.invariant.from) in
    c.loop-lba.invariant.lookups ∙ ap (λ (n : ℕ). raised_times n c.args.store.now.lookups) all
