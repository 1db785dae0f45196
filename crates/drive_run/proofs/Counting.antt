-- What is counted in a drive: it has no more requests than lines, and at its end the counts of its device.
use Rattle.std.proofs.Common.{◌≡◌, ℕ, ◌+◌, ◌*◌, ◌≤◌, List, [], ◌∷◌, length, map, Some, sym, ◌∙◌, ap, subst, inl, inr, arith}
use Rattle.std.proofs.lemmas.List.{length-map}
use Rattle.flash_pages.specs.Chip.{erased_count}
use Rattle.flash_pages.specs.Sound.{ChipOk}
use Rattle.flash_pages.specs.declared.chip.Geometry.{Geometry}
use Rattle.flat_unit.specs.Counts.{Counted}
use Rattle.flat_unit.specs.Replays.{Progress}
use Rattle.flat_unit.specs.Sizes.{Sizes}
use Rattle.hpb_device.specs.Standing.{first_of, sizes_of}
use Rattle.hpb_device.specs.State.{DeviceState, IsSound}
use Rattle.hpb_device.proofs.CountingCalls.{counted_of}
use Rattle.replay_standing.specs.Standing.{AreCountsOf, ForeignStanding, OwnStanding, Standing, pages_in}
use Rattle.replay_standing.specs.Transcript.{FitTranscript}
use Rattle.driver_laws.specs.declared.request.Request.TheVariants.{Read as ReadOf, Write as WriteOf}
use Rattle.trace_text.specs.Drives.{drive_line}
use Rattle.trace_text.specs.declared.drive.DriveLine.{DriveLine}
use Rattle.trace_text.specs.declared.drive.DriveLine.TheVariants.{Read, Write, Steps, Collect, Drain, Reset, Lun, Blank}
use Rattle.drive_rules.specs.Lines.{Drive, DriveLineTo, DrivesLines, are_there, pattern_bytes}
use Rattle.drive_rules.proofs.Asking.{Requested, asked_collected, asked_drain, asked_request, asked_steps}

-- a line makes one request at most
line_count : (s : Sizes) (line : DriveLine) (d now : Drive) → DriveLineTo s line d now → now.count ≤ d.count + 1
line_count s (Read lba n) d now one =
    let is : now.count ≡ d.count + 1 = ap (λ (x : Requested). x.count) (asked_request s (are_there s d.lun lba n) (ReadOf d.lun lba n) d now one) in
    omega (arith, is)
line_count s (Write lba n seed) d now one =
    let is : now.count ≡ d.count + 1 = ap (λ (x : Requested). x.count) (asked_request s (are_there s d.lun lba n) (WriteOf d.lun lba n (pattern_bytes s seed lba n)) d now one) in
    omega (arith, is)
line_count s (Steps n) d now one =
    let is : now.count ≡ d.count = ap (λ (x : Requested). x.count) (asked_steps s n d now one) in
    omega (arith, is)
line_count s (Collect n) d now one =
    let is : now.count ≡ d.count = ap (λ (x : Requested). x.count) (asked_collected s n d now one) in
    omega (arith, is)
line_count s Drain d now one =
    let is : now.count ≡ d.count = ap (λ (x : Requested). x.count) (asked_drain s d now one) in
    omega (arith, is)
line_count s Reset d now one =
    let is : now.count ≡ d.count = ap (λ (x : Drive). x.count) one in
    omega (arith, is)
line_count s (Lun k) d now one =
    let is : now.count ≡ d.count = ap (λ (x : Drive). x.count) one in
    omega (arith, is)
line_count s Blank d now one =
    let is : now.count ≡ d.count = ap (λ (x : Drive). x.count) one in
    omega (arith, is)

pub lines_count : (s : Sizes) (lines : List DriveLine) (d now : Drive) → DrivesLines s lines d now → now.count ≤ d.count + length lines
lines_count s [] d now is =
    let same : now.count ≡ d.count = ap (λ (x : Drive). x.count) is in
    omega (arith, same)
lines_count s (line ∷ lines) d now (mid, one, rest) = omega (arith, line_count s line d mid one, lines_count s lines mid now rest)

-- as many lines as texts that they were read from
pub lines_read : (texts : List (List ℕ)) (lines : List DriveLine) → map drive_line texts ≡ map (λ (line : DriveLine). Some line) lines → length lines ≡ length texts
lines_read texts lines parsed =
    sym (length-map lines (λ (line : DriveLine). Some line)) ∙ sym (ap length parsed) ∙ length-map texts drive_line

-- the counts of a device at the end of a drive, by its chip at first
pub counts_of : (start now : DeviceState) (p : Progress) → Standing start now p → AreCountsOf start p now.counts
counts_of start now p at = record {
  steps = at.steps;
  fit = λ sound. elim at.chip [
    | inl own ↦ fit_of own
    | inr foreign ↦ absurd (was_unsound foreign sound)
  ];
  alone = λ unsound. elim at.chip [
    | inl own ↦ absurd (unsound own.was)
    | inr foreign ↦ foreign.counted
  ];
}
  where
    fit_of : OwnStanding start now p → FitTranscript (sizes_of start) (pages_in start) start.store.geometry.pages (erased_count start.store.pages) p.events now.counts
    fit_of own =
        let told = counted_of now (first_of start) p.events own.stands own.counted in (
          told.0,
          subst (λ (g : Geometry). Counted (sizes_of start) (g.blocks * g.pages) g.pages (erased_count start.store.pages) p.events told.0) at.same.geometry
              (subst (λ (s : Sizes). Counted s (pages_in now) now.store.geometry.pages (erased_count start.store.pages) p.events told.0) at.sizes told.1),
          told.2,
        )

    was_unsound : ForeignStanding start now p → IsSound start → ⊥
    was_unsound foreign sound =
        let here = foreign.stands (first_of start) in
        here.unsound (subst (λ (t : Type 0). t) (λ i. ChipOk (sym at.same.geometry i) (sym at.same.luns i) (sym at.same.units i) (sym here.stays i)) sound)
