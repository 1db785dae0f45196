-- A program of the host leaves the victim and the buffer in order.
use Rattle.std.proofs.Common.{◌≡◌, ◌≢◌, ◌+◌, ◌-◌, ◌*◌, ◌^◌, ◌<◌, ◌≤◌, ◌⊎◌, ℕ, List, true, length, get_or, set, count_by, Option, None, Some, MatchOption, refl, sym, ap, ◌∙◌, subst, inl, inr, arith}
use Rattle.std.proofs.lemmas.List.{length-set}
use Rattle.std.proofs.lemmas.Bool.{cases_lt, both_ways}
use Rattle.flash_pages.specs.declared.chip.Geometry.{Geometry}
use Rattle.flash_pages.specs.declared.chip.Spare.{Spare}
use Rattle.flash_pages.specs.Chip.{Page, Erased, Written, page_at, bytes_of, is_erased, erased_count}
use Rattle.flash_pages.specs.Place.{Place, IsPlace}
use Rattle.flash_pages.proofs.Places.{cases_place}
use Rattle.flash_pages.specs.Unit.{next_seq}
use Rattle.flash_pages.specs.Sound.{is_current, current_count}
use Rattle.flash_pages.proofs.Programming.{erased_count-programmed}
use Rattle.page_validity.specs.ValidPages.{block_part}
use Rattle.page_validity.proofs.BlockParts.{block_part-set_other, get_or-block_part}
use Rattle.collector_laws.specs.CollectStep.{Buffered, CollectState, place_named, programmed, programmed_at, IsInBlock, IsHeld, IsBuffer, IsCollectable}
use Rattle.collector_laws.proofs.Flags.{flag_same, flag_gone, page-same}
use Rattle.collector_laws.proofs.Counts.{count_by-weaker, count_by-some}
use Rattle.collector_laws.proofs.Room.{length-part, HasFrontier, frontier_found}
use Rattle.collector_laws.proofs.Keeps.{host_keeps}

some_same : (a b : ℕ) → Some a ≡ Some b → a ≡ b
some_same a b e = cc

module _ (geometry : Geometry) (luns units : ℕ) (s : CollectState) (at : IsCollectable geometry luns units s) (site : Place) (bytes : List ℕ) (in_units : IsPlace luns units site)
    (in_limit : next_seq s.chip < 2 ^ 62) (room : geometry.pages + 1 ≤ erased_count s.chip) where
  abbrev front : HasFrontier geometry s.chip at.within at.count
  front = frontier_found geometry s.chip at.within at.count (omega (arith, room))

  abbrev spare : Spare
  spare = record { lun = site.lun; lba = site.lba; seq = next_seq s.chip }

  abbrev after : List Page
  after = set s.chip front.page (Written bytes spare)

  is_after : programmed geometry s.chip site bytes ≡ after
  is_after = ap (programmed_at s.chip site bytes) front.is

  -- the frontier is no page of a full block
  not_in : (victim page : ℕ) → IsHeld geometry s.chip victim → IsInBlock geometry victim page → page ≢ front.page
  not_in victim page held inside same =
      let i = page - victim * geometry.pages in
      let place : victim * geometry.pages + i ≡ front.page = omega (arith, same, inside.0) in
      let short : i < geometry.pages = omega (arith, inside.0, inside.1) in
      let at_part : get_or (block_part geometry.pages s.chip victim) i Erased ≡ Erased = get_or-block_part geometry.pages s.chip victim i Erased short ∙ ap (page_at s.chip) place ∙ front.erased in
      omega (
        arith,
        held.full,
        count_by-some is_erased Erased (block_part geometry.pages s.chip victim) i (omega (arith, short, length-part geometry s.chip at.within at.count victim held.in_range))
            (ap is_erased at_part),
      )

  outside : (victim : ℕ) → IsHeld geometry s.chip victim → (front.page < victim * geometry.pages) ⊎ (victim * geometry.pages + geometry.pages ≤ front.page)
  outside victim held =
      elim (cases_lt front.page (victim * geometry.pages)) [
        | inl before ↦ inl before
        | inr above ↦ elim (cases_lt front.page (victim * geometry.pages + geometry.pages)) [
          | inr past ↦ inr past
          | inl within ↦ absurd (not_in victim front.page held (above, within) refl)
        ]
      ]

  still_held : (victim : ℕ) → IsHeld geometry s.chip victim → IsHeld geometry after victim
  still_held victim held =
      let part : block_part geometry.pages after victim ≡ block_part geometry.pages s.chip victim =
      block_part-set_other geometry.pages s.chip victim front.page (Written bytes spare) (outside victim held) in
      let fewer : count_by (is_current after) (block_part geometry.pages s.chip victim) ≤ current_count geometry s.chip victim =
      count_by-weaker (is_current after) (is_current s.chip) Erased (block_part geometry.pages s.chip victim) (λ i inside flag.
      let short : i < geometry.pages = omega (arith, inside, length-part geometry s.chip at.within at.count victim held.in_range) in
      let same : get_or (block_part geometry.pages s.chip victim) i Erased ≡ page_at s.chip (victim * geometry.pages + i) = get_or-block_part geometry.pages s.chip victim i Erased short in
      let page : Page = page_at s.chip (victim * geometry.pages + i) in
      let now : is_current after page ≡ true = ap (is_current after) (sym same) ∙ flag in
      ap (is_current s.chip) same
      ∙ elim (cases_place (place_named page) site) [
        | inl own ↦ absurd (both_ways (is_current after page) (flag_gone s.chip front.page bytes spare front.inside front.erased refl (victim * geometry.pages + i) page refl own) now)
        | inr other ↦ sym (flag_same s.chip front.page bytes spare front.inside front.erased refl page other) ∙ now
      ]) in
      let count : current_count geometry after victim ≤ current_count geometry s.chip victim = subst (λ l. count_by (is_current after) l ≤ current_count geometry s.chip victim) (sym part) fewer in
      let less : erased_count s.chip ≡ erased_count after + 1 = erased_count-programmed s.chip front.page bytes spare front.inside front.erased in
      record {
        in_range = held.in_range;
        full = ap (count_by is_erased) part ∙ held.full;
        gains = omega (arith, count, held.gains);
        room = omega (arith, count, held.gains, less, room);
      }

  victim_kept : (victim : Option ℕ) → MatchOption victim (Unit {0}) (IsHeld geometry s.chip) → MatchOption victim (Unit {0}) (IsHeld geometry after)
  victim_kept None held = tt
  victim_kept (Some victim) held = still_held victim held

  buffer_kept : (victim : Option ℕ) (buffer : Option Buffered) → MatchOption victim (Unit {0}) (IsHeld geometry s.chip) → MatchOption buffer (Unit {0}) (IsBuffer geometry s.chip victim)
      → MatchOption buffer (Unit {0}) (IsBuffer geometry after victim)
  buffer_kept victim None held is = tt
  buffer_kept None (Some kept) held is = absurd is.of_victim
  buffer_kept (Some victim) (Some kept) held is =
      let apart : kept.page ≢ front.page = not_in victim kept.page held is.of_victim in
      let same : page_at after kept.page ≡ page_at s.chip kept.page = page-same s.chip front.page bytes spare front.inside front.erased refl kept.page apart in
      record {
        of_victim = is.of_victim;
        written = ap is_erased same ∙ is.written;
        place = ap place_named same ∙ is.place;
        bytes = ap bytes_of same ∙ is.bytes;
      }

  pub write_keeps : IsCollectable geometry luns units (record { chip = programmed geometry s.chip site bytes; victim = s.victim; buffer = s.buffer })
  write_keeps =
      let kept = host_keeps geometry luns units s.chip site bytes at.within at.count at.sound in_units in_limit room in
      record {
        within = at.within;
        count = ap length is_after ∙ length-set s.chip front.page (Written bytes spare) ∙ at.count;
        sound = kept.0;
        victim = subst (λ chip. MatchOption s.victim (Unit {0}) (IsHeld geometry chip)) (sym is_after) (victim_kept s.victim at.victim);
        buffer = subst (λ chip. MatchOption s.buffer (Unit {0}) (IsBuffer geometry chip s.victim)) (sym is_after) (buffer_kept s.victim s.buffer at.victim at.buffer);
      }
