-- A chip of which the scan read every page: the index is the chip's, and the chip is sound where the last tests pass.
use Rattle.std.proofs.Common.{◌≡◌, ◌⊎◌, ◌+◌, ◌*◌, ◌/◌, ◌<◌, ◌≤◌, ℕ, List, true, false, length, get_or, count_by, All, sym, ap, ◌∙◌, subst, inl, inr, arith}
use Rattle.std.proofs.lemmas.Bool.{cases_Bool, cases_lt}
use Rattle.std.proofs.lemmas.List.{get_or_default, get_or_past, ext_get_or}
use Rattle.std.proofs.lemmas.List.Elements.{All-from_get_or}
use Rattle.std.proofs.lemmas.Nat.{div-mul-add}
use Rattle.flash_pages.specs.declared.chip.Geometry.{Geometry}
use Rattle.flash_pages.specs.Chip.{Page, Erased, page_at, is_erased, erased_count, IsWithinLimits}
use Rattle.flash_pages.specs.Place.{Place, IsPlace, index_of, place_at}
use Rattle.flash_pages.specs.Unit.{rank_for}
use Rattle.flash_pages.specs.Sound.{ChipOk, HasGoodSpare, HasRoom, IsPartlyWritten, block_pages, current_count}
use Rattle.flash_pages.proofs.Places.{index_of-place_at, IsPlace-place_at, index_of-inside}
use Rattle.page_validity.specs.ValidPages.{valid_count}
use Rattle.page_validity.proofs.BlockParts.{blocks_apart}
use Rattle.block_collector.specs.Room.{erased_pages, IsPartly, HasOnePartly, HasSpare}
use Rattle.collector_laws.specs.CollectStep.{written_in, written_counts}
use Rattle.collector_laws.proofs.Keeps.{site-below}
use Rattle.collector_laws.proofs.Room.{erased_in-le, blocks_written, written-at, erased_total}
use Rattle.flash_store.specs.declared.tables.Index.{Index}
use Rattle.flash_store.specs.declared.tally.Newest.{Newest}
use Rattle.flash_store.specs.declared.tally.Tally.{Tally}
use Rattle.flash_store.specs.Index.{HasShape, IsIndexed}
use Rattle.flash_store.specs.Scan.{nothing_noted, IsTwice, IsNoted, IsFollowed, IsScanned}
use Rattle.flash_store.proofs.Seen.{seen-whole}
use Rattle.flash_store.proofs.Current.{HasOneNewest, valid_count-is}

module _ (geometry : Geometry) (chip : List Page) (count : length chip ≡ geometry.blocks * geometry.pages) (index : Index) (tally : Tally) (shape : HasShape geometry index)
    (newest_size : length tally.newest.items ≡ index.luns * index.units) (whole : tally.scanned ≡ geometry.blocks * geometry.pages) (at : IsScanned geometry chip index tally) where
  abbrev pages : ℕ
  pages = geometry.pages

  abbrev within : IsWithinLimits geometry
  within = shape.served.limits

  all_blocks : tally.scanned / pages ≡ geometry.blocks
  all_blocks =
      let place : tally.scanned ≡ geometry.blocks * pages + 0 = omega (arith, whole) in
      ap (λ k. k / pages) place ∙ div-mul-add geometry.blocks pages 0 (omega (arith, within.least_pages))

  pub follows : IsFollowed chip index tally.newest.items
  follows = subst (λ c. IsFollowed c index tally.newest.items) (seen-whole chip tally.scanned (whole ∙ sym count)) at.follows

  written_in-is : (block : ℕ) → block < geometry.blocks → get_or index.collector.written block 0 ≡ written_in geometry chip block
  written_in-is block below = at.found block (omega (arith, below, all_blocks))

  written-is : index.collector.written ≡ written_counts geometry chip
  written-is =
      ext_get_or 0 index.collector.written (written_counts geometry chip) (shape.blocks ∙ sym (blocks_written geometry chip within count))
      (λ i below.
      let inside : i < geometry.blocks = omega (arith, below, shape.blocks) in
      written_in-is i inside ∙ sym (written-at geometry chip within count i inside))

  pub indexed-whole : IsIndexed geometry chip index
  indexed-whole = record { shape = shape; mapped = follows.mapped; written = written-is }

  -- one page with the greatest number
  differ : true ≡ false → ⊥
  differ e = cc

  abbrev NoneDoubled : Type 0
  NoneDoubled = All (λ (one : Newest). one.doubled ≡ false) tally.newest.items

  pub once-from : NoneDoubled → HasOneNewest chip
  once-from none p m n at_m at_n =
      let inside : m < length chip = elim (cases_lt m (length chip)) [
        | inl inside ↦ inside
        | inr past ↦ let zero_rank : rank_for p (page_at chip m) ≡ 0 = ap (rank_for p) (get_or_past chip m Erased past) in absurd (omega (arith, zero_rank, at_m.0, at_m.1))
      ] in
      let in_units : IsPlace index.luns index.units p = site-below index.luns index.units p (page_at chip m) (omega (arith, at_m.0, at_m.1)) (at.spares m (omega (arith, inside, whole, count))) in
      let key = index_of index.units p in
      let below : key < length tally.newest.items = omega (arith, newest_size, index_of-inside index.luns index.units p in_units) in
      (follows.noted p in_units).once (none key nothing_noted below) m n at_m at_n

  pub none-doubled : HasOneNewest chip → NoneDoubled
  none-doubled one = λ k d below.
      let p : Place = place_at index.units k in
      let in_units : IsPlace index.luns index.units p = IsPlace-place_at index.luns index.units k (omega (arith, below, newest_size)) in
      let own : get_or tally.newest.items (index_of index.units p) nothing_noted ≡ get_or tally.newest.items k d =
      ap (λ i. get_or tally.newest.items i nothing_noted) (index_of-place_at index.units k) ∙ get_or_default tally.newest.items k nothing_noted d below in
      let noted : IsNoted chip p (get_or tally.newest.items k d) = subst (IsNoted chip p) own (follows.noted p in_units) in
      elim (cases_Bool (get_or tally.newest.items k d).doubled) [
        | inr single ↦ single
        | inl double ↦ let two : IsTwice chip p = noted.twice double in absurd (two.apart (one p two.one two.other two.at_one two.at_other))
      ]

  -- at most one block partly written
  few : (block : ℕ) → block < geometry.blocks → count_by is_erased (block_pages geometry chip block) ≤ pages
  few = erased_in-le geometry chip within count

  to-partly : (block : ℕ) → block < geometry.blocks → IsPartlyWritten geometry chip block → IsPartly pages index.collector.written block
  to-partly block below partly =
      (omega (arith, below, shape.blocks), omega (arith, written_in-is block below, partly.1), omega (arith, written_in-is block below, partly.0, few block below, within.least_pages))

  from-partly : (block : ℕ) → IsPartly pages index.collector.written block → (block < geometry.blocks) × IsPartlyWritten geometry chip block
  from-partly block partly =
      let below : block < geometry.blocks = omega (arith, partly.0, shape.blocks) in
      (below, (omega (arith, written_in-is block below, few block below, partly.2), omega (arith, written_in-is block below, few block below, partly.1)))

  pub one_partly-from : HasOnePartly pages index.collector.written → (a b : ℕ) → a < geometry.blocks → b < geometry.blocks → IsPartlyWritten geometry chip a → IsPartlyWritten geometry chip b → a ≡ b
  one_partly-from one a b in_a in_b partly_a partly_b = one a b (to-partly a in_a partly_a) (to-partly b in_b partly_b)

  pub one_partly-to : ((a b : ℕ) → a < geometry.blocks → b < geometry.blocks → IsPartlyWritten geometry chip a → IsPartlyWritten geometry chip b → a ≡ b) → HasOnePartly pages index.collector.written
  one_partly-to one a b partly_a partly_b =
      let in_a = from-partly a partly_a in
      let in_b = from-partly b partly_b in
      one a b in_a.0 in_b.0 in_a.1 in_b.1

  -- room
  erased-is : erased_pages pages index.collector.written ≡ erased_count chip
  erased-is = ap (erased_pages pages) written-is ∙ erased_total geometry chip within count

  abbrev HasRoomLeft : Type 0
  HasRoomLeft = (pages ≤ erased_pages pages index.collector.written) ⊎ HasSpare pages index.collector.written (valid_count pages index.validity.valid) (erased_pages pages index.collector.written)

  counts : HasOneNewest chip → (block : ℕ) → valid_count pages index.validity.valid block ≡ current_count geometry chip block
  counts one block = valid_count-is geometry chip index.validity.valid one follows.mapped.valid (shape.whole_flags ∙ sym count) block

  pub room-from : HasOneNewest chip → HasRoomLeft → HasRoom geometry chip
  room-from one (inl many) = inl (omega (arith, many, erased-is))
  room-from one (inr spare) =
      let below : spare.0 < geometry.blocks = omega (arith, spare.1.0, shape.blocks) in
      inr (spare.0, below, omega (arith, spare.1.1, written_in-is spare.0 below, few spare.0 below, within.least_pages), omega (arith, spare.2, counts one spare.0, erased-is))

  pub room-to : HasOneNewest chip → HasRoom geometry chip → HasRoomLeft
  room-to one (inl many) = inl (omega (arith, many, erased-is))
  room-to one (inr spare) =
      inr (spare.0, (omega (arith, spare.1, shape.blocks), omega (arith, spare.2, written_in-is spare.0 spare.1)), omega (arith, spare.3, counts one spare.0, erased-is))

  pub sound-whole : HasOneNewest chip → HasOnePartly pages index.collector.written → HasRoomLeft → ChipOk geometry index.luns index.units chip
  sound-whole one partly room = record {
    spares = All-from_get_or (HasGoodSpare index.luns index.units) chip Erased (λ i below. at.spares i (omega (arith, below, whole, count)));
    one_newest = one;
    in_order = λ block page in_range short. at.ordered.in_order block page short (omega (arith, blocks_apart block geometry.blocks pages in_range, whole, at.place, short));
    one_partly_written = one_partly-from partly;
    room = room-from one room;
  }
