-- The answers of a drive over a sound chip are those of a plain list of blocks.
use Rattle.std.proofs.Common.{◌≡◌, true, ℕ, Bool, List, Option, refl, subst, arith}
use Rattle.flash_pages.specs.declared.chip.Geometry.{Geometry}
use Rattle.flash_pages.specs.Chip.{Page}
use Rattle.flash_pages.specs.Unit.{next_seq}
use Rattle.region_state.specs.declared.shape.Shape.{Shape}
use Rattle.region_state.specs.Shape.{IsWithinLimits}
use Rattle.replay_standing.specs.Transcript.{IsChipOf, sizes_on, unit_on}
use Rattle.driver_caches.specs.Machine.{machine_begun}
use Rattle.driver_laws.specs.Fits.{Serves}
use Rattle.drive_rules.specs.Cached.{HasShape}
use Rattle.drive_rules.specs.Lines.{Drives}
use Rattle.drive_rules.proofs.Telling.{told_drive}
use Rattle.drive_rules.proofs.Whole.{drive_is_flat, good_whole}
use Rattle.run_output.specs.declared.status.Status.{Status}
use Rattle.run_output.specs.declared.status.Status.TheVariants.{Done}
use Rattle.command_words.specs.Words.{has_image, is_plain, named_unit, only_answers}
use Rattle.trace_replay.specs.Programs.{DriveOnIs, DriveProgramIs}
use Rattle.trace_replay.specs.Serving.{Found}
use Rattle.trace_replay.proofs.Serving.{found_of}
use Rattle.trace_replay.specs.FlatAnswers.{AnswersFlat}

serves_on : (unit : Shape) (geometry : Geometry) → IsWithinLimits unit → Serves (sizes_on unit geometry)
serves_on unit geometry limits = record {
  block = omega arith;
  block_fits = omega arith;
  units_fit = let few = limits.units in omega (arith, few);
  has_units = omega arith;
  room = refl;
  opcodes = refl;
}

has_shape : (unit : Shape) (geometry : Geometry) → IsWithinLimits unit → HasShape (sizes_on unit geometry) unit
has_shape unit geometry limits = record { limits = limits; units = refl; per_region = refl; per_sub = refl }

-- a drive that took all lines
flat_run : (unit : Shape) (geometry : Geometry) (plain only : Bool) (chip back : List Page) (faults faults_back : ℕ) (left left_now w w_now : Option (List ℕ)) → IsWithinLimits unit
    → DriveOnIs unit (machine_begun plain unit 1) only geometry chip back faults faults_back left left_now w w_now Done
    → IsChipOf unit geometry chip → AnswersFlat (sizes_on unit geometry) (unit_on unit chip) (machine_begun plain unit 1) only left left_now w w_now
flat_run unit geometry plain only chip back faults faults_back left left_now w w_now limits (mid, n, last, drove, good, (counts, are, printed), few, ends) sound =
    let s = sizes_on unit geometry in
    let all : Drives s (machine_begun plain unit 1) drove.lines last = record { mid = drove.moment; each = drove.drives; end = drove.shows } in
    let own = good.own sound in
    record {
      texts = drove.texts;
      lines = drove.lines;
      last = last;
      mid = mid;
      taken = drove.taken;
      ends = ends;
      parsed = drove.parsed;
      drives = all;
      counts = counts;
      printed = printed;
      told = told_drive s (machine_begun plain unit 1) drove.lines last all;
      flat = λ all_good. drive_is_flat s unit plain (unit_on unit chip) drove.lines last (serves_on unit geometry limits) (has_shape unit geometry limits)
          (record { begins = refl; drives = all; sound = own.sound.so_far; good = all_good });
      good = λ none. good_whole s unit plain (unit_on unit chip) (next_seq chip) drove.lines last (serves_on unit geometry limits) (has_shape unit geometry limits) all own.sound.so_far
          own.caused none;
    }

pub answers_flat : (words : List (List ℕ)) (geometry : Geometry) (pages back : List Page) (faults faults_back : ℕ) (same : Type 0) (left left_now w w_now : Option (List ℕ)) (status : Status)
    → DriveProgramIs words geometry pages back faults faults_back same left left_now w w_now status → status ≡ Done
    → Found (has_image words) geometry pages left (λ chip mid. IsChipOf (named_unit words) geometry chip
    → AnswersFlat (sizes_on (named_unit words) geometry) (unit_on (named_unit words) chip) (machine_begun (is_plain words) (named_unit words) 1) (only_answers words) mid left_now w w_now)
answers_flat words geometry pages back faults faults_back same left left_now w w_now status program is =
    by_done (subst (λ (s : Status). DriveProgramIs words geometry pages back faults faults_back same left left_now w w_now s) is program)
  where
    by_done : DriveProgramIs words geometry pages back faults faults_back same left left_now w w_now Done
        → Found (has_image words) geometry pages left (λ chip mid. IsChipOf (named_unit words) geometry chip
        → AnswersFlat (sizes_on (named_unit words) geometry) (unit_on (named_unit words) chip) (machine_begun (is_plain words) (named_unit words) 1) (only_answers words) mid left_now w w_now)
    by_done (_, (is, limits, serves), ends) =
        let (chip, mid, finds, run) = found_of (has_image words) true geometry pages back left left_now w w_now
        (λ chip mid. DriveOnIs (named_unit words) (machine_begun (is_plain words) (named_unit words) 1) (only_answers words) geometry chip back faults faults_back mid left_now w w_now) Done (λ none. none)
        ends in
        (chip, mid, finds, flat_run (named_unit words) geometry (is_plain words) (only_answers words) chip back faults faults_back mid left_now w w_now limits run)
