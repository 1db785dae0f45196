-- A step of the collector, and a program of the host, leave the chip sound, and what they should of the unit.
use Rattle.std.proofs.Common.{◌≡◌, ◌≢◌, ◌+◌, ◌*◌, ◌^◌, ◌<◌, ◌≤◌, ℕ, List, true, false, cond, nat_eq, [], length, get_or}
use Rattle.std.proofs.Common.{set, Option, None, Some, MatchOption, refl, sym, ap, ◌∙◌, subst, inl, inr, arith}
use Rattle.std.specs.Option.{option_map_or, option_or}
use Rattle.std.proofs.lemmas.List.{set-get_or}
use Rattle.std.proofs.lemmas.Bool.{cases_lt, eqb-false, both_ways}
use Rattle.flash_pages.specs.declared.chip.Geometry.{Geometry}
use Rattle.flash_pages.specs.declared.chip.Spare.{Spare}
use Rattle.flash_pages.specs.Chip.{Page, Erased, Written, page_at, bytes_of, is_erased, zeros, erased_count, IsWithinLimits}
use Rattle.flash_pages.specs.Place.{Place, IsPlace, index_of}
use Rattle.flash_pages.proofs.Places.{same_place-other, cases_place}
use Rattle.flash_pages.specs.Unit.{place_of, rank_for, current, next_seq, unit_of}
use Rattle.flash_pages.specs.Sound.{is_current, ChipOk, HasRoom, HasGoodSpare, IsNewest}
use Rattle.flash_pages.proofs.Programming.{current-inside, erased_count-programmed, unit_of-programmed}
use Rattle.flash_pages.proofs.Units.{get_or-unit_of-place}
use Rattle.flash_pages.proofs.EraseLaws.{unit_of-erased_between}
use Rattle.page_validity.proofs.FirstBetween.{IsFirst, first_between-some, first_between-none}
use Rattle.collector_laws.specs.CollectStep.{Buffered, CollectState, Idle, chip_victim, is_current_at, first_current}
use Rattle.collector_laws.specs.CollectStep.{if_current, fresh, programmed, programmed_at, read_or_erase, copy_or_read}
use Rattle.collector_laws.specs.CollectStep.{step_with, collect_step, IsBuffer, IsCollectable}
use Rattle.collector_laws.proofs.Flags.{newest-flag, current-newest}
use Rattle.collector_laws.proofs.Room.{whole, HasFrontier, frontier_found}
use Rattle.collector_laws.proofs.Sound.{next_seq-le, ChipOk-programmed, ChipOk-erased}
use Rattle.collector_laws.proofs.Steps.{IsFresh, IsRunning, Runs, copied, read, freed, choose, runs_from}

-- a program of the host
pub host_keeps : (geometry : Geometry) (luns units : ℕ) (chip : List Page) (site : Place) (bytes : List ℕ) → IsWithinLimits geometry → length chip ≡ geometry.blocks * geometry.pages
    → ChipOk geometry luns units chip → IsPlace luns units site → next_seq chip < 2 ^ 62 → geometry.pages + 1 ≤ erased_count chip
    → ChipOk geometry luns units (programmed geometry chip site bytes) × (unit_of luns units (programmed geometry chip site bytes) ≡ set (unit_of luns units chip) (index_of units site) bytes)
host_keeps geometry luns units chip site bytes within count sound in_units in_limit room =
    let front : HasFrontier geometry chip within count = frontier_found geometry chip within count (omega (arith, room)) in
    let spare : Spare = record { lun = site.lun; lba = site.lba; seq = next_seq chip } in
    let after : List Page = set chip front.page (Written bytes spare) in
    let is_after : programmed geometry chip site bytes ≡ after = ap (programmed_at chip site bytes) front.is in
    let less : erased_count chip ≡ erased_count after + 1 = erased_count-programmed chip front.page bytes spare front.inside front.erased in (
      subst (ChipOk geometry luns units) (sym is_after) (ChipOk-programmed geometry luns units chip within count sound front site bytes in_units in_limit (inl (omega (arith, less, room)))),
      ap (unit_of luns units) is_after ∙ unit_of-programmed chip front.page bytes spare front.inside front.erased luns units in_units refl,
    )

-- a page of an LBA names it
pub site-below : (luns units : ℕ) (site : Place) (page : Page) → 0 < rank_for site page → HasGoodSpare luns units page → IsPlace luns units site
site-below luns units site Erased above good = absurd (omega (arith, above))
site-below luns units site (Written bytes spare) above good =
    elim (cases_place (place_of spare) site) [
      | inl same ↦ subst (IsPlace luns units) same good.0
      | inr apart ↦ let none : rank_for site (Written bytes spare) ≡ 0 = ap (λ t. cond t (spare.seq + 1) 0) (same_place-other (place_of spare) site apart) in absurd (omega (arith, above, none))
    ]

-- the fresh buffer has its page's bytes
pub fresh-bytes : (geometry : Geometry) (chip : List Page) (victim : Option ℕ) (buffer : Option Buffered) → MatchOption buffer (Unit {0}) (IsBuffer geometry chip victim)
    → MatchOption (fresh chip buffer) (Unit {0}) (λ held. held.bytes ≡ bytes_of (page_at chip held.page))
fresh-bytes geometry chip victim None at = tt
fresh-bytes geometry chip victim (Some held) at =
    elim (current chip held.place)
    as (λ o. (current chip held.place ≡ o) → MatchOption (if_current (option_map_or (nat_eq held.page) o false) held) (Unit {0}) (λ held. held.bytes ≡ bytes_of (page_at chip held.page))) [
      | None ↦ λ _. tt
      | Some page ↦ λ is.
          elim (nat_eq held.page page)
          as (λ t. (nat_eq held.page page ≡ t) → MatchOption (if_current t held) (Unit {0}) (λ held. held.bytes ≡ bytes_of (page_at chip held.page))) [
            | false ↦ λ _. tt
            | true ↦ λ _. sym at.bytes
          ] refl
    ] refl

-- a current page is written
pub not-erased : (chip : List Page) (page : Page) → is_current chip page ≡ true → is_erased page ≡ false
not-erased chip Erased flag = cc
not-erased chip (Written bytes spare) flag = refl

-- what a step keeps
record Keeps (geometry : Geometry) (luns units : ℕ) (chip : List Page) (s : CollectState) : Type 0 where
  sound : ChipOk geometry luns units s.chip
  buffer : MatchOption s.buffer (Unit {0}) (IsBuffer geometry s.chip s.victim)
  unit : unit_of luns units s.chip ≡ unit_of luns units chip
  runs : Runs geometry s

module _ (geometry : Geometry) (luns units : ℕ) (chip : List Page) (victim : ℕ) (buffer : Option Buffered) (running : IsRunning geometry chip (Some victim) buffer)
    (sound : ChipOk geometry luns units chip) (in_limit : next_seq chip < 2 ^ 62)
    (right_bytes : MatchOption (fresh chip buffer) (Unit {0}) (λ held. held.bytes ≡ bytes_of (page_at chip held.page))) where
  keeps_copied : (held : Buffered) → fresh chip buffer ≡ Some held → Keeps geometry luns units chip (copy_or_read geometry chip victim (Some held)).state
  keeps_copied held is_fresh =
      let at : IsFresh geometry chip (Some victim) held = subst (λ o. MatchOption o (Unit {0}) (IsFresh geometry chip (Some victim))) is_fresh running.buffer_fresh in
      let bytes : held.bytes ≡ bytes_of (page_at chip held.page) = subst (λ o. MatchOption o (Unit {0}) (λ held. held.bytes ≡ bytes_of (page_at chip held.page))) is_fresh right_bytes in
      let low = copied geometry chip victim buffer running held is_fresh at in
      let front : HasFrontier geometry chip running.within running.count = frontier_found geometry chip running.within running.count (omega (arith, running.victim_held.room)) in
      let spare : Spare = record { lun = held.place.lun; lba = held.place.lba; seq = next_seq chip } in
      let after : List Page = set chip front.page (Written held.bytes spare) in
      let is_after : programmed geometry chip held.place held.bytes ≡ after = ap (programmed_at chip held.place held.bytes) front.is in
      let newest : IsNewest chip held.place held.page = current-newest chip held.place held.page at.is_current in
      let in_units : IsPlace luns units held.place =
      site-below luns units held.place (page_at chip held.page) (omega (arith, newest.0, newest.1)) (sound.spares held.page Erased (current-inside chip held.place held.page at.is_current)) in
      let block : get_or (unit_of luns units chip) (index_of units held.place) [] ≡ held.bytes =
      get_or-unit_of-place luns units chip held.place in_units ∙ ap (λ o. option_map_or (λ page. bytes_of (page_at chip page)) o zeros) at.is_current ∙ sym bytes in
      record {
        sound = subst (ChipOk geometry luns units) (sym is_after) (ChipOk-programmed geometry luns units chip running.within running.count sound front held.place held.bytes in_units in_limit
            (subst (HasRoom geometry) is_after low.runs.room));
        buffer = tt;
        unit = ap (unit_of luns units) is_after ∙ unit_of-programmed chip front.page held.bytes spare front.inside front.erased luns units in_units refl
            ∙ ap (set (unit_of luns units chip) (index_of units held.place)) (sym block) ∙ set-get_or (unit_of luns units chip) (index_of units held.place) [];
        runs = low.runs;
      }

  keeps_read : fresh chip buffer ≡ None → (page : ℕ) → first_current geometry chip victim ≡ Some page → Keeps geometry luns units chip (read_or_erase geometry chip victim (Some page)).state
  keeps_read none page is =
      let first : IsFirst (victim * geometry.pages) (victim * geometry.pages + geometry.pages) (is_current_at chip) page =
      first_between-some (victim * geometry.pages) (victim * geometry.pages + geometry.pages) (is_current_at chip) page is in
      record {
        sound = sound;
        buffer = record { of_victim = (first.from, first.below); written = not-erased chip (page_at chip page) first.passed; place = refl; bytes = refl };
        unit = refl;
        runs = (read geometry chip victim buffer running none page is).runs;
      }

  keeps_freed : fresh chip buffer ≡ None → first_current geometry chip victim ≡ None → Keeps geometry luns units chip (read_or_erase geometry chip victim None).state
  keeps_freed none_fresh none =
      let low = freed geometry chip victim buffer running none_fresh none in
      let first = victim * geometry.pages in
      let inside : first + geometry.pages ≤ length chip = whole geometry chip running.within running.count victim running.victim_held.in_range in
      let none_current : (site : Place) (page : ℕ) → first ≤ page → page < first + geometry.pages → current chip site ≢ Some page = λ site page above below is.
      both_ways (is_current_at chip page) (first_between-none first (first + geometry.pages) (is_current_at chip) none page above below)
      (newest-flag chip site page (current-newest chip site page is)).0 in
      record {
        sound = ChipOk-erased geometry luns units chip running.within running.count sound victim running.victim_held.in_range none_current (low.runs.count ∙ sym running.count) low.runs.room;
        buffer = tt;
        unit = unit_of-erased_between chip first (first + geometry.pages) (omega arith) inside luns units (λ site page _. none_current site page);
        runs = low.runs;
      }

  keeps_with : Keeps geometry luns units chip (copy_or_read geometry chip victim (fresh chip buffer)).state
  keeps_with =
      elim (fresh chip buffer)
      as (λ o. (fresh chip buffer ≡ o) → Keeps geometry luns units chip (copy_or_read geometry chip victim o).state) [
        | Some held ↦ keeps_copied held
        | None ↦ λ none.
            elim (first_current geometry chip victim)
            as (λ o. (first_current geometry chip victim ≡ o) → Keeps geometry luns units chip (read_or_erase geometry chip victim o).state) [
              | Some page ↦ keeps_read none page
              | None ↦ keeps_freed none
            ] refl
      ] refl

keeps_idle : (geometry : Geometry) (luns units : ℕ) (s : CollectState) → IsCollectable geometry luns units s → Keeps geometry luns units s.chip s
keeps_idle geometry luns units s at = record { sound = at.sound; buffer = at.buffer; unit = refl; runs = runs_from geometry luns units s at }

keeps_step : (geometry : Geometry) (luns units : ℕ) (s : CollectState) → IsCollectable geometry luns units s → Keeps geometry luns units s.chip (collect_step geometry s).state
keeps_step geometry luns units s at =
    let runs : Runs geometry s = runs_from geometry luns units s at in
    let bytes : MatchOption (fresh s.chip s.buffer) (Unit {0}) (λ held. held.bytes ≡ bytes_of (page_at s.chip held.page)) = fresh-bytes geometry s.chip s.victim s.buffer at.buffer in
    elim (nat_eq (next_seq s.chip) (2 ^ 62))
    as (λ t. (nat_eq (next_seq s.chip) (2 ^ 62) ≡ t)
    → Keeps geometry luns units s.chip (cond t (record { did = Idle; state = s }) (step_with geometry s (option_or s.victim (chip_victim geometry s.chip)))).state) [
      | true ↦ λ _. keeps_idle geometry luns units s at
      | false ↦ λ limit.
          let apart : next_seq s.chip ≡ 2 ^ 62 → ⊥ = eqb-false (next_seq s.chip) (2 ^ 62) limit in
          let in_limit : next_seq s.chip < 2 ^ 62 = elim (cases_lt (next_seq s.chip) (2 ^ 62)) [
            | inl below ↦ below
            | inr above ↦ absurd (apart (omega (arith, above, next_seq-le geometry luns units s.chip at.within at.count at.sound)))
          ] in
          elim s.victim
          as (λ v. (s.victim ≡ v) → Keeps geometry luns units s.chip (step_with geometry s (option_or v (chip_victim geometry s.chip))).state) [
            | Some victim ↦ λ is. keeps_with geometry luns units s.chip victim s.buffer (subst (λ v. IsRunning geometry s.chip v s.buffer) is runs) at.sound in_limit bytes
            | None ↦ λ is.
                elim (chip_victim geometry s.chip)
                as (λ o. (chip_victim geometry s.chip ≡ o) → Keeps geometry luns units s.chip (step_with geometry s o).state) [
                  | None ↦ λ _. keeps_idle geometry luns units s at
                  | Some victim ↦ λ chosen_is.
                      keeps_with geometry luns units s.chip victim s.buffer (choose geometry s.chip s.buffer
                      (subst (λ v. IsRunning geometry s.chip v s.buffer) is runs) victim chosen_is).0 at.sound in_limit bytes
                ] refl
          ] refl
    ] refl

-- the invariant is kept, and the unit stays
pub collect_keeps : (geometry : Geometry) (luns units : ℕ) (s : CollectState) → IsCollectable geometry luns units s
    → IsCollectable geometry luns units (collect_step geometry s).state × (unit_of luns units (collect_step geometry s).state.chip ≡ unit_of luns units s.chip)
collect_keeps geometry luns units s at =
    let kept : Keeps geometry luns units s.chip (collect_step geometry s).state = keeps_step geometry luns units s at in
    (record { within = at.within; count = kept.runs.count; sound = kept.sound; victim = kept.runs.victim_held; buffer = kept.buffer }, kept.unit)
