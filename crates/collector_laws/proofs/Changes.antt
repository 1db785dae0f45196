-- What a step does to the chip, and that fewer steps are left after it.
use Rattle.std.proofs.Common.{◌≡◌, ◌≢◌, ◌⊎◌, ◌-◌, ◌*◌, ◌^◌, ◌<◌, ◌≤◌, ℕ, List, true, false, cond, nat_eq, nat_lt}
use Rattle.std.proofs.Common.{length, set, Option, None, Some, MatchOption, refl, sym, ap, ◌∙◌, subst, inl, inr, arith}
use Rattle.std.specs.Option.{option_map_or, option_or}
use Rattle.std.proofs.lemmas.Bool.{cases_Bool, eqb-true, lt-ltb, le-ltb}
use Rattle.std.proofs.lemmas.List.Sums.{count_by-le-length}
use Rattle.flash_pages.specs.declared.chip.Geometry.{Geometry}
use Rattle.flash_pages.specs.declared.chip.Spare.{Spare}
use Rattle.flash_pages.specs.Chip.{Page, Erased, Written, page_at, bytes_of, zeros, erased_count, IsWithinLimits}
use Rattle.flash_pages.specs.Unit.{block_of, next_seq}
use Rattle.flash_pages.specs.Sound.{ChipOk, IsNewest, is_current, current_count}
use Rattle.flash_pages.proofs.Programming.{current-inside}
use Rattle.page_validity.specs.ValidPages.{block_part}
use Rattle.block_collector.specs.Room.{IsChoice}
use Rattle.block_collector.proofs.Choices.{IsChoice-victim_of}
use Rattle.collector_laws.specs.CollectStep.{Buffered, CollectState, Collected, Idle, Copied, Read, Freed, Step}
use Rattle.collector_laws.specs.CollectStep.{chip_victim, written_counts, first_current, fresh, programmed}
use Rattle.collector_laws.specs.CollectStep.{programmed_at, read_or_erase, copy_or_read, step_with, collect_step}
use Rattle.collector_laws.specs.CollectStep.{IsHeld, IsCollectable}
use Rattle.collector_laws.specs.Changes.{CopiesBlock, FreesBlock, Changes, room_with, until_room, waiting, is_idle, uncollected, AreCollected}
use Rattle.collector_laws.proofs.Counts.{erased_count-erased}
use Rattle.collector_laws.proofs.Flags.{current-newest}
use Rattle.collector_laws.proofs.Keeps.{site-below, fresh-bytes}
use Rattle.collector_laws.proofs.Numbers.{current-freed, next_seq-freed}
use Rattle.collector_laws.proofs.Room.{HasFrontier, frontier_found, whole, length-part, written-at, blocks_written}
use Rattle.collector_laws.proofs.Steps.{IsFresh, IsRunning, Runs, choose, left, left-most, runs_from, step_lowers}

module _ (geometry : Geometry) (luns units : ℕ) (chip : List Page) (victim : ℕ) (buffer : Option Buffered) (running : IsRunning geometry chip (Some victim) buffer)
    (sound : ChipOk geometry luns units chip) (right_bytes : MatchOption (fresh chip buffer) (Unit {0}) (λ held. held.bytes ≡ bytes_of (page_at chip held.page))) where
  changes_copied : (held : Buffered) → fresh chip buffer ≡ Some held → CopiesBlock luns units chip held.place (programmed geometry chip held.place held.bytes)
  changes_copied held is_fresh =
      let at : IsFresh geometry chip (Some victim) held = subst (λ o. MatchOption o (Unit {0}) (IsFresh geometry chip (Some victim))) is_fresh running.buffer_fresh in
      let bytes : held.bytes ≡ bytes_of (page_at chip held.page) = subst (λ o. MatchOption o (Unit {0}) (λ held. held.bytes ≡ bytes_of (page_at chip held.page))) is_fresh right_bytes in
      let front : HasFrontier geometry chip running.within running.count = frontier_found geometry chip running.within running.count (omega (arith, running.victim_held.room)) in
      let spare : Spare = record { lun = held.place.lun; lba = held.place.lba; seq = next_seq chip } in
      let newest : IsNewest chip held.place held.page = current-newest chip held.place held.page at.is_current in
      let block : held.bytes ≡ block_of chip held.place = bytes ∙ sym (ap (λ o. option_map_or (λ page. bytes_of (page_at chip page)) o zeros) at.is_current) in
      record {
        place = site-below luns units held.place (page_at chip held.page) (omega (arith, newest.0, newest.1)) (sound.spares held.page Erased (current-inside chip held.place held.page at.is_current));
        was = held.page;
        current = at.is_current;
        program = record {
          page = front.page;
          inside = front.inside;
          erased = front.erased;
          programmed = ap (programmed_at chip held.place held.bytes) front.is ∙ ap (λ b. set chip front.page (Written b spare)) block;
        };
      }

  changes_freed : first_current geometry chip victim ≡ None → FreesBlock geometry chip victim (read_or_erase geometry chip victim None).state.chip
  changes_freed none =
      let at = running.victim_held in
      record {
        in_range = at.in_range;
        erased = refl;
        kept = current-freed geometry chip running.within running.count running.one_newest victim at.in_range none;
        next = next_seq-freed geometry chip running.within running.count running.one_newest victim at.in_range none;
        room = erased_count-erased chip (victim * geometry.pages) geometry.pages (whole geometry chip running.within running.count victim at.in_range) at.full;
      }

  changes_with : let step = copy_or_read geometry chip victim (fresh chip buffer) in Changes geometry luns units chip step.did step.state.chip
  changes_with =
      elim (fresh chip buffer)
      as (λ o. (fresh chip buffer ≡ o) → let step = copy_or_read geometry chip victim o in Changes geometry luns units chip step.did step.state.chip) [
        | Some held ↦ changes_copied held
        | None ↦ λ _.
            elim (first_current geometry chip victim)
            as (λ o. (first_current geometry chip victim ≡ o) → let step = read_or_erase geometry chip victim o in Changes geometry luns units chip step.did step.state.chip) [
              | Some page ↦ λ _. refl
              | None ↦ changes_freed
            ] refl
      ] refl

pub step_changes : (geometry : Geometry) (luns units : ℕ) (s : CollectState) → IsCollectable geometry luns units s
    → Changes geometry luns units s.chip (collect_step geometry s).did (collect_step geometry s).state.chip
step_changes geometry luns units s at =
    let runs : Runs geometry s = runs_from geometry luns units s at in
    let bytes : MatchOption (fresh s.chip s.buffer) (Unit {0}) (λ held. held.bytes ≡ bytes_of (page_at s.chip held.page)) = fresh-bytes geometry s.chip s.victim s.buffer at.buffer in
    elim (nat_eq (next_seq s.chip) (2 ^ 62))
    as (λ t. let step = cond t (record { did = Idle; state = s })
    (step_with geometry s (option_or s.victim (chip_victim geometry s.chip))) in Changes geometry luns units s.chip step.did step.state.chip) [
      | true ↦ refl
      | false ↦
          elim s.victim
          as (λ v. (s.victim ≡ v) → let step = step_with geometry s (option_or v (chip_victim geometry s.chip)) in Changes geometry luns units s.chip step.did step.state.chip) [
            | Some victim ↦ λ is. changes_with geometry luns units s.chip victim s.buffer (subst (λ v. IsRunning geometry s.chip v s.buffer) is runs) at.sound bytes
            | None ↦ λ is.
                elim (chip_victim geometry s.chip)
                as (λ o. (chip_victim geometry s.chip ≡ o) → let step = step_with geometry s o in Changes geometry luns units s.chip step.did step.state.chip) [
                  | None ↦ λ _. refl
                  | Some victim ↦ λ chosen_is. changes_with geometry luns units s.chip victim s.buffer
                      (choose geometry s.chip s.buffer (subst (λ v. IsRunning geometry s.chip v s.buffer) is runs) victim chosen_is).0 at.sound bytes
                ] refl
          ] refl
    ]

-- fewer steps are left
uncollected-le : (geometry : Geometry) (s : CollectState) → uncollected geometry s ≤ left geometry s
uncollected-le geometry s =
    elim (is_idle (collect_step geometry s).did)
    as (λ t. cond t 0 (left geometry s) ≤ left geometry s) [ true ↦ omega arith | false ↦ omega arith ]

busy_is : (did : Collected) → did ≢ Idle → is_idle did ≡ false
busy_is Idle other = absurd (other refl)
busy_is (Copied p) other = refl
busy_is Read other = refl
busy_is (Freed block) other = refl

idle_is : (did : Collected) → is_idle did ≡ true → did ≡ Idle
idle_is Idle is = refl
idle_is (Copied p) is = cc
idle_is Read is = cc
idle_is (Freed block) is = cc

pub uncollected-falls : (geometry : Geometry) (luns units : ℕ) (s : CollectState) → IsCollectable geometry luns units s → (collect_step geometry s).did ≢ Idle
    → uncollected geometry (collect_step geometry s).state < uncollected geometry s
uncollected-falls geometry luns units s at busy =
    let all : uncollected geometry s ≡ left geometry s = ap (λ t. cond t 0 (left geometry s)) (busy_is (collect_step geometry s).did busy) in
    elim (step_lowers geometry s (runs_from geometry luns units s at)) [
      | inl idle ↦ absurd (busy (ap (λ (step : Step). step.did) idle))
      | inr lower ↦ omega (arith, all, lower.lower, uncollected-le geometry (collect_step geometry s).state)
    ]

pub uncollected-most : (geometry : Geometry) (luns units : ℕ) (s : CollectState) → IsCollectable geometry luns units s
    → uncollected geometry s ≤ 2 * geometry.pages * (geometry.blocks * geometry.pages)
uncollected-most geometry luns units s at =
    omega (arith, uncollected-le geometry s, left-most geometry s (runs_from geometry luns units s at))

-- with a victim a step is not idle
busy-read : (geometry : Geometry) (chip : List Page) (victim : ℕ) (o : Option ℕ) → (read_or_erase geometry chip victim o).did ≢ Idle
busy-read geometry chip victim None = λ e. cc
busy-read geometry chip victim (Some page) = λ e. cc

pub busy : (geometry : Geometry) (chip : List Page) (victim : ℕ) (o : Option Buffered) → (copy_or_read geometry chip victim o).did ≢ Idle
busy geometry chip victim (Some held) = λ e. cc
busy geometry chip victim None = busy-read geometry chip victim (first_current geometry chip victim)

-- where no victim can be chosen each full block holds current pages alone
none-chosen : (geometry : Geometry) (chip : List Page) (within : IsWithinLimits geometry) (count : length chip ≡ geometry.blocks * geometry.pages) → chip_victim geometry chip ≡ None
    → AreCollected geometry chip
none-chosen geometry chip within count none = λ block below full.
    let written = written_counts geometry chip in
    let least = subst (IsChoice geometry.pages written (current_count geometry chip)) none (IsChoice-victim_of geometry.pages written (current_count geometry chip)) block
    (omega (arith, below, blocks_written geometry chip within count), omega (arith, written-at geometry chip within count block below, full)) in
    omega (arith, least, count_by-le-length (is_current chip) (block_part geometry.pages chip block), length-part geometry chip within count block below)

idle-rests : (geometry : Geometry) (luns units : ℕ) (s : CollectState) → IsCollectable geometry luns units s → (collect_step geometry s).did ≡ Idle
    → (next_seq s.chip ≡ 2 ^ 62) ⊎ AreCollected geometry s.chip
idle-rests geometry luns units s at is_idle =
    elim (nat_eq (next_seq s.chip) (2 ^ 62))
    as (λ t. (nat_eq (next_seq s.chip) (2 ^ 62) ≡ t) → (cond t (record { did = Idle; state = s }) (step_with geometry s (option_or s.victim (chip_victim geometry s.chip)))).did ≡ Idle
    → (next_seq s.chip ≡ 2 ^ 62) ⊎ AreCollected geometry s.chip) [
      | true ↦ λ end _. inl (eqb-true (next_seq s.chip) (2 ^ 62) end)
      | false ↦ λ _.
          elim s.victim
          as (λ v. (step_with geometry s (option_or v (chip_victim geometry s.chip))).did ≡ Idle → (next_seq s.chip ≡ 2 ^ 62) ⊎ AreCollected geometry s.chip) [
            | Some victim ↦ λ e. absurd (busy geometry s.chip victim (fresh s.chip s.buffer) e)
            | None ↦
                elim (chip_victim geometry s.chip)
                as (λ o. (chip_victim geometry s.chip ≡ o) → (step_with geometry s o).did ≡ Idle → (next_seq s.chip ≡ 2 ^ 62) ⊎ AreCollected geometry s.chip) [
                  | Some victim ↦ λ _ e. absurd (busy geometry s.chip victim (fresh s.chip s.buffer) e)
                  | None ↦ λ none _. inr (none-chosen geometry s.chip at.within at.count none)
                ] refl
          ]
    ] refl is_idle

-- where no step is left, there is nothing to collect, or no sequence number
pub uncollected-none : (geometry : Geometry) (luns units : ℕ) (s : CollectState) → IsCollectable geometry luns units s → uncollected geometry s ≡ 0
    → (next_seq s.chip ≡ 2 ^ 62) ⊎ AreCollected geometry s.chip
uncollected-none geometry luns units s at none =
    elim (cases_Bool (is_idle (collect_step geometry s).did)) [
      | inl idle ↦ idle-rests geometry luns units s at (idle_is (collect_step geometry s).did idle)
      | inr other ↦ absurd (omega (arith, none, uncollected-falls geometry luns units s at (λ e. absurd (differ (sym other ∙ ap is_idle e)))))
    ]
  where
    differ : false ≡ true → ⊥
    differ e = cc

-- and fewer are left until there is room
until_room-le : (geometry : Geometry) (s : CollectState) → until_room geometry s ≤ room_with geometry s.chip s.buffer s.victim
until_room-le geometry s =
    elim (nat_lt geometry.pages (erased_count s.chip))
    as (λ t. cond t 0 (room_with geometry s.chip s.buffer s.victim) ≤ room_with geometry s.chip s.buffer s.victim) [ true ↦ omega arith | false ↦ omega arith ]

pub until_room-falls : (geometry : Geometry) (luns units : ℕ) (s : CollectState) → IsCollectable geometry luns units s → erased_count s.chip ≤ geometry.pages → (collect_step geometry s).did ≢ Idle
    → until_room geometry (collect_step geometry s).state < until_room geometry s
until_room-falls geometry luns units s at few busy =
    let all : until_room geometry s ≡ room_with geometry s.chip s.buffer s.victim =
    ap (λ t. cond t 0 (room_with geometry s.chip s.buffer s.victim)) (le-ltb geometry.pages (erased_count s.chip) few) in
    let after : CollectState = (collect_step geometry s).state in
    elim (step_lowers geometry s (runs_from geometry luns units s at)) [
      | inl idle ↦ absurd (busy (ap (λ (step : Step). step.did) idle))
      | inr lower ↦ elim lower.sooner [
        | inr less ↦ omega (arith, all, less, until_room-le geometry after)
        | inl room ↦
            let none : until_room geometry after ≡ 0 = ap (λ t. cond t 0 (room_with geometry after.chip after.buffer after.victim)) (lt-ltb geometry.pages (erased_count after.chip) room.0) in
            omega (arith, all, none, room.1)
      ]
    ]

waits : (o : Option Buffered) → waiting o ≤ 1
waits None = omega arith
waits (Some held) = omega arith

room_with-most : (geometry : Geometry) (chip : List Page) (buffer : Option Buffered) (victim : Option ℕ) → MatchOption victim (Unit {0}) (IsHeld geometry chip)
    → room_with geometry chip buffer victim ≤ 2 * geometry.pages - 1
room_with-most geometry chip buffer None held = omega arith
room_with-most geometry chip buffer (Some victim) held = omega (arith, held.gains, waits (fresh chip buffer))

pub until_room-most : (geometry : Geometry) (luns units : ℕ) (s : CollectState) → IsCollectable geometry luns units s → until_room geometry s ≤ 2 * geometry.pages - 1
until_room-most geometry luns units s at =
    omega (arith, until_room-le geometry s, room_with-most geometry s.chip s.buffer s.victim at.victim)
