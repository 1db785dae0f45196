-- There are no more current pages than blocks, so where at most a block's worth of pages is erased the collector has work.
use Rattle.std.proofs.Common.{◌≡◌, ◌≢◌, ◌⊎◌, ◌+◌, ◌-◌, ◌*◌, ◌^◌, ◌<◌, ◌≤◌, ℕ, List, [], ◌∷◌, zero, suc, Bool, true}
use Rattle.std.proofs.Common.{false, length, get_or, set, count_by, Option, None, Some, Ok, refl, sym, ap, ◌∙◌, subst}
use Rattle.std.proofs.Common.{inl, inr, arith}
use Rattle.std.specs.Option.{option_or}
use Rattle.std.proofs.lemmas.Bool.{cases_eq, cases_lt, cases_Bool}
use Rattle.std.proofs.lemmas.List.{length-set, get_or_past, get_or-set_same, get_or-set_other}
use Rattle.std.proofs.lemmas.List.Sums.{sum_by-set}
use Rattle.flash_pages.specs.declared.chip.Geometry.{Geometry}
use Rattle.flash_pages.specs.Chip.{Page, page_at, is_erased, erased_count, IsWithinLimits}
use Rattle.flash_pages.specs.Place.{Place, IsPlace, index_of}
use Rattle.flash_pages.specs.Unit.{current}
use Rattle.flash_pages.specs.Sound.{ChipOk, IsNewest, IsPartlyWritten, block_pages, current_count}
use Rattle.flash_pages.proofs.Programming.{current-inside}
use Rattle.block_collector.specs.Room.{IsRoom, IsFull, IsPartly, HasOnePartly, IsChoice, erased_pages}
use Rattle.block_collector.proofs.RoomLaws.{worth_collecting}
use Rattle.block_collector.proofs.Choices.{IsChoice-victim_of}
use Rattle.collector_laws.specs.CollectStep.{Idle, Step, place_named, written_counts, written_in, chip_victim, fresh, collect_step, IsCollectable}
use Rattle.collector_laws.proofs.Changes.{busy}
use Rattle.collector_laws.proofs.Counts.{flag_count, count_by-none}
use Rattle.collector_laws.proofs.Flags.{current-newest}
use Rattle.collector_laws.proofs.Keeps.{site-below}
use Rattle.collector_laws.proofs.Room.{blocks_written, written-at, erased_in-le, erased_total}
use Rattle.flash_store.specs.declared.answers.Moved.{Moved}
use Rattle.flash_store.specs.declared.answers.Moved.TheVariants as answer
use Rattle.flash_store.specs.declared.tables.Index.{Index}
use Rattle.flash_store.specs.declared.tables.Held.{Held}
use Rattle.flash_store.specs.Collecting.{as_collected}
use Rattle.flash_store.specs.Entries.{is_valid_page}
use Rattle.flash_store.specs.Index.{IsIndexed, buffered_in}
use Rattle.flash_store.specs.Store.{is_idle}
use Rattle.flash_store.proofs.Current.{valid_count-is}
use Rattle.flash_store.proofs.Steps.{step-goes}
use Rattle.flash_store.proofs.Valid.{has_current-some}

some_same : (a b : ℕ) → Some a ≡ Some b → a ≡ b
some_same a b e = cc

differ : true ≡ false → ⊥
differ e = cc

-- a flag that is set stands in the list
record IsListed (entries : List (Option ℕ)) (n : ℕ) : Type 0 where
  at : ℕ
  is : get_or entries at None ≡ Some n

-- of flags each of which is listed there are no more than entries
count-listed : (entries : List (Option ℕ)) (flags : List Bool) → ((n : ℕ) → get_or flags n false ≡ true → IsListed entries n) → count_by (λ flag. flag) flags ≤ length entries
count-listed [] flags listed =
    let none : count_by (λ flag. flag) flags ≡ 0 = count_by-none (λ (flag : Bool). flag) false flags (λ i _. elim (cases_Bool (get_or flags i false)) [
      | inr unset ↦ unset
      | inl is_set ↦ absurd (nowhere (listed i is_set))
    ]) in
    omega (arith, none)
  where
    nowhere : {n : ℕ} → IsListed [] n → ⊥
    nowhere at = let e = at.is in cc
count-listed (None ∷ entries) flags listed =
    let rest : count_by (λ flag. flag) flags ≤ length entries = count-listed entries flags (λ n is_set. later n (listed n is_set)) in
    omega (arith, rest)
  where
    later : (n : ℕ) → IsListed (None ∷ entries) n → IsListed entries n
    later n at = later_at n at.at at.is
      where
        later_at : (n i : ℕ) → get_or (None ∷ entries) i None ≡ Some n → IsListed entries n
        later_at n zero is = cc
        later_at n (suc i) is = record { at = i; is = is }
count-listed (Some m ∷ entries) flags listed =
    let rest : count_by (λ flag. flag) (set flags m false) ≤ length entries = count-listed entries (set flags m false) (λ n is_set. later n is_set) in
    elim (cases_lt m (length flags)) [
      | inl inside ↦
          let changed : count_by (λ flag. flag) (set flags m false) + flag_count (get_or flags m false) ≡ count_by (λ flag. flag) flags + 0 = sum_by-set flag_count flags m false false inside in
          omega (arith, rest, changed, one (get_or flags m false))
      | inr past ↦
          let same : count_by (λ flag. flag) flags ≤ length entries = count-listed entries flags (λ n is_set. elim (cases_eq n m) [
            | inl here ↦ absurd (differ (sym is_set ∙ get_or_past flags n false (omega (arith, here, past))))
            | inr apart ↦ other n apart (listed n is_set)
          ]) in
          omega (arith, same)
    ]
  where
    one : (flag : Bool) → flag_count flag ≤ 1
    one true = omega arith
    one false = omega arith

    other : (n : ℕ) → n ≢ m → IsListed (Some m ∷ entries) n → IsListed entries n
    other n apart at = other_at at.at at.is
      where
        other_at : (i : ℕ) → get_or (Some m ∷ entries) i None ≡ Some n → IsListed entries n
        other_at zero is = absurd (apart (sym (some_same m n is)))
        other_at (suc i) is = record { at = i; is = is }

    later : (n : ℕ) → get_or (set flags m false) n false ≡ true → IsListed entries n
    later n is_set =
        elim (cases_eq n m) [
          | inr apart ↦ other n apart (listed n (sym (get_or-set_other flags m n false false apart) ∙ is_set))
          | inl here ↦ absurd (differ (sym is_set ∙ gone n here))
        ]
      where
        gone : (n : ℕ) → n ≡ m → get_or (set flags m false) n false ≡ false
        gone n here = elim (cases_lt m (length flags)) [
          | inl inside ↦ ap (λ k. get_or (set flags m false) k false) here ∙ get_or-set_same flags m false false inside
          | inr past ↦ get_or_past (set flags m false) n false (omega (arith, here, past, length-set flags m false))
        ]

module _ (geometry : Geometry) (chip : List Page) (index : Index) (count : length chip ≡ geometry.blocks * geometry.pages) (indexed : IsIndexed geometry chip index)
    (sound : ChipOk geometry index.luns index.units chip) where
  abbrev pages : ℕ
  pages = geometry.pages

  abbrev within : IsWithinLimits geometry
  within = indexed.shape.served.limits

  listed : (n : ℕ) → get_or index.validity.valid n false ≡ true → IsListed index.map.pages n
  listed n is_set =
      let valid : is_valid_page chip n ≡ true = sym (indexed.mapped.valid n) ∙ is_set in
      let p : Place = place_named (page_at chip n) in
      let now : current chip p ≡ Some n = has_current-some chip n (page_at chip n) valid in
      let newest : IsNewest chip p n = current-newest chip p n now in
      let in_units : IsPlace index.luns index.units p =
      site-below index.luns index.units p (page_at chip n) (omega (arith, newest.0, newest.1)) (sound.spares n (page_at [] 0) (current-inside chip p n now)) in
      record { at = index_of index.units p; is = indexed.mapped.mapped p in_units ∙ now }

  few_valid : count_by (λ flag. flag) index.validity.valid ≤ (geometry.blocks - 3) * pages
  few_valid = omega (arith, count-listed index.map.pages index.validity.valid listed, indexed.shape.whole_map, indexed.shape.served.room)

  abbrev written : List ℕ
  written = written_counts geometry chip

  is_room : IsRoom geometry written
  is_room = record {
    within = within;
    blocks = blocks_written geometry chip within count;
    most = λ block. elim (cases_lt block geometry.blocks) [
      | inl below ↦ omega (arith, written-at geometry chip within count block below)
      | inr past ↦ omega (arith, get_or_past written block 0 (omega (arith, past, blocks_written geometry chip within count)))
    ];
  }

  from-partly : (block : ℕ) → IsPartly pages written block → (block < geometry.blocks) × IsPartlyWritten geometry chip block
  from-partly block partly =
      let below : block < geometry.blocks = omega (arith, partly.0, blocks_written geometry chip within count) in
      let at : get_or written block 0 ≡ written_in geometry chip block = written-at geometry chip within count block below in
      let most : count_by is_erased (block_pages geometry chip block) ≤ pages = erased_in-le geometry chip within count block below in
      (below, (omega (arith, at, most, partly.2), omega (arith, at, most, partly.1)))

  one_partly : HasOnePartly pages written
  one_partly a b partly_a partly_b =
      let in_a = from-partly a partly_a in
      let in_b = from-partly b partly_b in
      sound.one_partly_written a b in_a.0 in_b.0 in_a.1 in_b.1

  -- a victim can be chosen
  pub some-victim : erased_count chip ≤ pages → chip_victim geometry chip ≢ None
  some-victim few none =
      let erased : erased_pages pages written ≤ pages = omega (arith, few, erased_total geometry chip within count) in
      let worth = worth_collecting geometry written index.validity.valid is_room one_partly indexed.shape.whole_flags few_valid erased in
      let choice : (block : ℕ) → IsFull pages written block
      → pages ≤ current_count geometry chip block = subst (IsChoice pages written (current_count geometry chip)) none (IsChoice-victim_of pages written (current_count geometry chip)) in
      omega (arith, choice worth.0 worth.1, worth.2, valid_count-is geometry chip index.validity.valid sound.one_newest indexed.mapped.valid (indexed.shape.whole_flags ∙ sym count) worth.0)

pub cases_option : (o : Option ℕ) → (o ≡ None) ⊎ ((n : ℕ) × (o ≡ Some n))
cases_option None = inl refl
cases_option (Some n) = inr (n, refl)

pub or-none : (o other : Option ℕ) → option_or o other ≡ None → other ≡ None
or-none None other is = is
or-none (Some n) other is = cc

pub idle-false : (E : Type 0) (moved : Moved) → moved ≢ answer.Idle → is_idle {E = E} (Ok moved) ≡ false
idle-false E answer.Idle other = absurd (other refl)
idle-false E answer.Read other = refl
idle-false E (answer.Page lun lba) other = refl
idle-false E (answer.Erased block) other = refl

module _ (geometry : Geometry) (chip : List Page) (index : Index) (held : Option Held) (bytes : List ℕ) (indexed : IsIndexed geometry chip index)
    (collectable : IsCollectable geometry index.luns index.units (record { chip = chip; victim = index.collector.victim; buffer = buffered_in held bytes })) where
  pub erased-is : erased_pages index.collector.geometry.pages index.collector.written ≡ erased_count chip
  erased-is =
      ap (λ (g : Geometry). erased_pages g.pages index.collector.written) indexed.shape.room_geometry
      ∙ ap (erased_pages geometry.pages) indexed.written
      ∙ erased_total geometry chip collectable.within collectable.count

  -- where at most a block's worth of pages is erased, a step is not idle
  pub not-idle : index.next_seq ≢ 2 ^ 62 → erased_count chip ≤ geometry.pages
      → (collect_step geometry (record { chip = chip; victim = index.collector.victim; buffer = buffered_in held bytes })).did ≢ Idle
  not-idle apart few is_idle =
      elim (cases_option (option_or index.collector.victim (chip_victim geometry chip))) [
        | inl none ↦ some-victim geometry chip index collectable.count indexed collectable.sound few (or-none index.collector.victim (chip_victim geometry chip) none)
        | inr some ↦ busy geometry chip some.0 (fresh chip (buffered_in held bytes))
            (sym (ap (λ (step : Step). step.did) (step-goes geometry chip index held bytes indexed collectable apart some.0 some.1)) ∙ is_idle)
      ]

pub collected-busy : (moved : Moved) → moved ≢ answer.Idle → as_collected moved ≢ Idle
collected-busy answer.Idle other = absurd (other refl)
collected-busy answer.Read other = λ e. cc
collected-busy (answer.Page lun lba) other = λ e. cc
collected-busy (answer.Erased block) other = λ e. cc
