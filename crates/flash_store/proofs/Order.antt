-- The order of the written pages in the blocks, as the scan reads them.
use Rattle.std.proofs.Common.{◌≡◌, ◌≢◌, ◌⊎◌, ◌+◌, ◌-◌, ◌*◌, ◌/◌, ◌%◌, ◌<◌, ◌≤◌, ℕ, List, [], ◌∷◌, zero, suc, false}
use Rattle.std.proofs.Common.{length, get_or, set, count_by, None, Some, refl, sym, ap, ◌∙◌, subst, inl, inr, arith}
use Rattle.std.proofs.lemmas.Bool.{cases_eq, cases_lt}
use Rattle.std.proofs.lemmas.List.{get_or-set_same, get_or-set_other}
use Rattle.std.proofs.lemmas.Nat.{div-mul-add, mod-mul-add}
use Rattle.flash_pages.specs.declared.chip.Geometry.{Geometry}
use Rattle.flash_pages.specs.declared.chip.Spare.{Spare}
use Rattle.flash_pages.specs.Chip.{Page, Erased, Written, page_at, is_erased, IsWithinLimits}
use Rattle.flash_pages.specs.Sound.{ChipOk, HasGoodSpare}
use Rattle.page_validity.specs.ValidPages.{block_part}
use Rattle.page_validity.proofs.BlockParts.{blocks_apart, get_or-block_part}
use Rattle.collector_laws.specs.CollectStep.{written_in}
use Rattle.collector_laws.proofs.Counts.{flag_count, count_by-cons, count_by-all}
use Rattle.collector_laws.proofs.Room.{length-part}
use Rattle.flash_store.specs.declared.tables.Index.{Index}
use Rattle.flash_store.specs.declared.tally.Newest.{Newest}
use Rattle.flash_store.specs.declared.tally.Tally.{Tally}
use Rattle.flash_store.specs.Scan.{seen, spare_of, spare_at, IsGood, IsFollowed, IsOrdered, IsScannedTo, IsScanned}
use Rattle.flash_store.proofs.Seen.{seen-erased}
use Rattle.flash_store.proofs.Taken.{written-spare}

not-erased : (page : Page) → page ≢ Erased → is_erased page ≡ false
not-erased Erased other = absurd (other refl)
not-erased (Written bytes spare) other = refl

written-not-erased : (page : Page) (spare : Spare) → spare_of page ≡ Some spare → page ≢ Erased
written-not-erased Erased spare is e = cc
written-not-erased (Written bytes other) spare is e = cc

spare-erased : (page : Page) → spare_of page ≡ None → page ≡ Erased
spare-erased Erased is = refl
spare-erased (Written bytes spare) is = cc

-- written pages in front of erased ones
split-count : (pages : List Page) (here : ℕ) → here ≤ length pages → ((i : ℕ) → i < here → page_at pages i ≢ Erased) → ((i : ℕ) → here ≤ i → i < length pages → page_at pages i ≡ Erased)
    → count_by is_erased pages + here ≡ length pages
split-count [] here most front behind = omega arith
split-count (page ∷ pages) zero most front behind =
    let all : count_by is_erased (page ∷ pages) ≡ length (page ∷ pages) = count_by-all is_erased Erased (page ∷ pages) (λ i below. ap is_erased (behind i (omega arith) below)) in
    omega (arith, all)
split-count (page ∷ pages) (suc here) most front behind =
    let none : flag_count (is_erased page) ≡ 0 = ap flag_count (not-erased page (front 0 (omega arith))) in
    let rest : count_by is_erased pages + here ≡ length pages =
    split-count pages here (omega arith) (λ i below. front (suc i) (omega arith)) (λ i from below. behind (suc i) (omega arith) (omega arith)) in
    omega (arith, none, rest, count_by-cons is_erased page pages)

-- the block of a page, and its place there
pub one_block : (a b x y pages : ℕ) → x < pages → y < pages → a * pages + x ≡ b * pages + y → (a ≡ b) × (x ≡ y)
one_block a b x y pages in_x in_y same =
    let blocks : a ≡ b = elim (cases_lt a b) [
      | inl below ↦ absurd (omega (arith, blocks_apart a b pages below))
      | inr above ↦ elim (cases_eq a b) [
        | inl e ↦ e
        | inr apart ↦ absurd (omega (arith, blocks_apart b a pages (omega arith)))
      ]
    ] in
    let rows : a * pages ≡ b * pages = ap (λ k. k * pages) blocks in
    (blocks, omega (arith, rows, same))

module _ (geometry : Geometry) (chip : List Page) (within : IsWithinLimits geometry) (count : length chip ≡ geometry.blocks * geometry.pages) where
  abbrev pages : ℕ
  pages = geometry.pages

  pub written-of : (block here : ℕ) → block < geometry.blocks → IsOrdered geometry chip block pages here → written_in geometry chip block ≡ here
  written-of block here below at =
      let size : length (block_part pages chip block) ≡ pages = length-part geometry chip within count block below in
      let counted : count_by is_erased (block_part pages chip block) + here ≡ length (block_part pages chip block) =
      split-count (block_part pages chip block) here (omega (arith, at.most, size))
      (λ i front e. at.front i front (sym (get_or-block_part pages chip block i Erased (omega (arith, front, at.most))) ∙ e))
      (λ i from short. get_or-block_part pages chip block i Erased (omega (arith, short, size)) ∙ at.behind i from (omega (arith, short, size))) in
      omega (arith, counted, size)

  module _ (index : Index) (tally : Tally) (block inside : ℕ) (in_block : inside < pages) (at : IsScannedTo geometry chip index tally block inside) (more : tally.scanned < length chip) where
    abbrev n : ℕ
    n = tally.scanned

    next-place : n + 1 ≡ block * pages + (inside + 1)
    next-place = omega (arith, at.place)

    last : (page : ℕ) → page < n + 1 → (page < n) ⊎ (page ≡ n)
    last page below = elim (cases_lt page n) [
      | inl before ↦ inl before
      | inr from ↦ inr (omega arith)
    ]

    -- an erased page was read
    pub scanned-erased : page_at chip n ≡ Erased → IsScannedTo geometry chip index (record { newest = tally.newest; scanned = n + 1; here = tally.here; sound = tally.sound }) block (inside + 1)
    scanned-erased erased = record {
      place = next-place;
      follows = subst (λ c. IsFollowed c index tally.newest.items) (sym (seen-erased chip n more erased)) at.follows;
      spares = λ page below. elim (last page below) [
        | inl before ↦ at.spares page before
        | inr here ↦ subst (HasGoodSpare index.luns index.units) (sym (ap (page_at chip) here ∙ erased)) tt
      ];
      ordered = record {
        in_order = λ other page short below was. elim (cases_eq (other * pages + page + 1) n) [
          | inl here ↦ ap (page_at chip) here ∙ erased
          | inr apart ↦ at.ordered.in_order other page short (omega (arith, below, at.place, apart)) was
        ];
        most = omega (arith, at.ordered.most);
        front = at.ordered.front;
        behind = λ page from below. elim (cases_lt page inside) [
          | inl before ↦ at.ordered.behind page from before
          | inr past ↦ ap (page_at chip) (omega (arith, below, at.place)) ∙ erased
        ];
      };
      found = at.found;
      not_found = at.not_found;
    }

    -- a written page was read, and all before it in its block are written
    pub scanned-written : (spare : Spare) → spare_at chip n ≡ Some spare → IsGood index.luns index.units spare → tally.here ≡ inside
        → (after : Index) (luns : after.luns ≡ index.luns) (units : after.units ≡ index.units) (collector : after.collector ≡ index.collector) (newest : List Newest) (tally_after : Tally)
        → tally_after.newest.items ≡ newest → tally_after.scanned ≡ n + 1 → tally_after.here ≡ tally.here + 1 → IsFollowed (seen chip (n + 1)) after newest
        → IsScannedTo geometry chip after tally_after block (inside + 1)
    scanned-written spare shown good all after luns units collector newest tally_after items scanned counted follows =
        let written : page_at chip n ≢ Erased = written-not-erased (page_at chip n) spare shown in
        record {
          place = scanned ∙ next-place;
          follows = rw (scanned, items) follows;
          spares = λ page below. rw (luns, units) (elim (last page (omega (arith, below, scanned))) [
            | inl before ↦ at.spares page before
            | inr here ↦ subst (HasGoodSpare index.luns index.units) (sym (ap (page_at chip) here ∙ written-spare (page_at chip n) spare shown)) good
          ]);
          ordered = record {
            in_order = λ other page short below was. elim (cases_eq (other * pages + page + 1) n) [
              | inr apart ↦ at.ordered.in_order other page short (omega (arith, below, at.place, apart)) was
              | inl here ↦
                  let same = one_block other block (page + 1) inside pages short in_block (omega (arith, here, at.place)) in
                  let rows : other * pages ≡ block * pages = ap (λ k. k * pages) same.0 in
                  absurd (at.ordered.front page (omega (arith, all, same.1)) (ap (page_at chip) (omega (arith, rows)) ∙ was))
            ];
            most = omega (arith, counted, all);
            front = λ page below. elim (cases_lt page inside) [
              | inl before ↦ at.ordered.front page (omega (arith, before, all))
              | inr past ↦ λ e. written (ap (page_at chip) (omega (arith, below, counted, all, past, at.place)) ∙ e)
            ];
            behind = λ page from below. absurd (omega (arith, from, below, counted, all));
          };
          found = λ other below. ap (λ room. get_or room.written other 0) collector ∙ at.found other below;
          not_found = λ other above. ap (λ room. get_or room.written other 0) collector ∙ at.not_found other above;
        }

    -- a page that no sound chip has was read
    pub unsound-spare : (spare : Spare) → spare_at chip n ≡ Some spare → (IsGood index.luns index.units spare → ⊥) → ChipOk geometry index.luns index.units chip → ⊥
    unsound-spare spare shown bad sound = bad (subst (HasGoodSpare index.luns index.units) (written-spare (page_at chip n) spare shown) (sound.spares n Erased more))

    pub unsound-order : (spare : Spare) → spare_at chip n ≡ Some spare → tally.here ≢ inside → block < geometry.blocks → ChipOk geometry index.luns index.units chip → ⊥
    unsound-order spare shown apart in_range sound =
        let less : tally.here < inside = omega (arith, at.ordered.most, apart) in
        let k = inside - 1 in
        let was : page_at chip (block * pages + k) ≡ Erased = at.ordered.behind k (omega (arith, less)) (omega (arith, less)) in
        written-not-erased (page_at chip n) spare shown
        (ap (page_at chip) (omega (arith, at.place, less)) ∙ sound.in_order block k in_range (omega (arith, less, in_block)) was)

  -- the last page of a block was read
  pub scanned-block : (index : Index) (tally : Tally) (block : ℕ) → length index.collector.written ≡ geometry.blocks → block < geometry.blocks → IsScannedTo geometry chip index tally block pages
      → IsScannedTo geometry chip (record {
        luns = index.luns;
        units = index.units;
        map = index.map;
        validity = index.validity;
        collector = record {
          geometry = index.collector.geometry;
          written = set index.collector.written block tally.here;
          victim = index.collector.victim;
        };
        next_seq = index.next_seq;
      })
      (record { newest = tally.newest; scanned = tally.scanned; here = 0; sound = tally.sound }) (block + 1) 0
  scanned-block index tally block size below at =
      let rows : (block + 1) * pages ≡ block * pages + pages = omega arith in
      record {
        place = omega (arith, at.place, rows);
        follows = record { mapped = record { mapped = at.follows.mapped.mapped; valid = at.follows.mapped.valid; numbered = at.follows.mapped.numbered }; noted = at.follows.noted };
        spares = at.spares;
        ordered = record {
          in_order = λ other page short under was. at.ordered.in_order other page short (omega (arith, under, rows)) was;
          most = omega arith;
          front = λ page none. absurd (omega (arith, none));
          behind = λ page _ none. absurd (omega (arith, none));
        };
        found = λ other under. elim (cases_eq other block) [
          | inl same ↦
              ap (λ k. get_or (set index.collector.written block tally.here) k 0) same
              ∙ get_or-set_same index.collector.written block tally.here 0 (omega (arith, size, below))
              ∙ sym (ap (written_in geometry chip) same ∙ written-of block tally.here below at.ordered)
          | inr apart ↦ get_or-set_other index.collector.written block other tally.here 0 apart ∙ at.found other (omega (arith, under, apart))
        ];
        not_found = λ other above. get_or-set_other index.collector.written block other tally.here 0 (λ e. omega (arith, e, above)) ∙ at.not_found other (omega (arith, above));
      }

  -- where the scan stands, by the number of the page
  pub scanned-at : (index : Index) (tally : Tally) (block inside : ℕ) → inside < pages → IsScannedTo geometry chip index tally block inside → IsScanned geometry chip index tally
  scanned-at index tally block inside short at =
      let own_block : tally.scanned / pages ≡ block = ap (λ k. k / pages) at.place ∙ div-mul-add block pages inside short in
      let own_place : tally.scanned % pages ≡ inside = ap (λ k. k % pages) at.place ∙ mod-mul-add block pages inside short in
      rw (own_block, own_place) at

  -- and what the index and the scan are then
  abbrev pub index_end : Index → ℕ → ℕ → Index
  index_end index block here = record {
    luns = index.luns;
    units = index.units;
    map = index.map;
    validity = index.validity;
    collector = record { geometry = index.collector.geometry; written = set index.collector.written block here; victim = index.collector.victim };
    next_seq = index.next_seq;
  }

  abbrev pub tally_end : Tally → Tally
  tally_end tally = record { newest = tally.newest; scanned = tally.scanned; here = 0; sound = tally.sound }

  pub scanned-end : (index : Index) (tally : Tally) (block : ℕ) → length index.collector.written ≡ geometry.blocks → block < geometry.blocks → IsScannedTo geometry chip index tally block pages
      → IsScanned geometry chip (index_end index block tally.here) (tally_end tally)
  scanned-end index tally block size below at =
      scanned-at (index_end index block tally.here) (tally_end tally) (block + 1) 0 (omega (arith, within.least_pages)) (scanned-block index tally block size below at)
