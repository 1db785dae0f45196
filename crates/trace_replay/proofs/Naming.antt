-- Programs in terms of what the words name, and of the chips that their lines begin on.
use Rattle.std.proofs.Common.{◌≡◌, ◌⊎◌, ℕ, Bool, true, List, Option, sym, subst, inl, inr}
use Rattle.std.specs.Prelude.{⊤}
use Rattle.flash_pages.specs.Chip.{Page}
use Rattle.flash_pages.specs.declared.chip.Geometry.{Geometry}
use Rattle.region_state.specs.declared.shape.Shape.{Shape}
use Rattle.command_words.specs.Limits.{IsNamed}
use Rattle.command_words.specs.Words.{IsDrive, IsGen, IsReplay, IsSnap, has_image, is_plain, named_chip, named_seed, named_unit, only_answers}
use Rattle.run_output.specs.declared.status.Status.{Status}
use Rattle.run_output.specs.declared.status.Status.TheVariants.{Memory, Usage, Geometry as BadGeometry}
use Rattle.driver_caches.specs.Machine.{machine_begun}
use Rattle.trace_replay.specs.Beginning.{IsServedBy}
use Rattle.trace_replay.specs.Programs.{DriveOnIs, DriveProgramIs, DriveServes, GenProgramIs, ReplayIs, ReplayProgramIs, ReplayServes, SnapProgramIs, SnapServes}
use Rattle.trace_replay.specs.Making.{MadeIs}
use Rattle.trace_replay.specs.Run.{ProgramIs}
use Rattle.trace_replay.proofs.Serving.{never_served, program_named, program_serves}
use Rattle.trace_replay.proofs.Transcripts.{names_served, serves_named}

module _ (unit : Shape) (imaged : Bool) (geometry : Geometry) (pages back : List Page) (faults faults_back : ℕ) (left left_now w w_now : Option (List ℕ)) (named same : Type 0) (status : Status)
    (is : named) where
  -- a program that serves the lines of a replay
  pub replay_program : (tells : Bool) → ReplayServes unit imaged tells geometry pages back faults faults_back left left_now w w_now status
      → ProgramIs ⊤ named same (ReplayServes unit imaged tells geometry pages back faults faults_back left left_now w w_now) w w_now status
  replay_program tells run =
      let lines : List Page → Option (List ℕ) → Status → Type 0 = λ chip mid. ReplayIs unit geometry chip back faults faults_back mid left_now w w_now in
      program_serves ⊤ named same (ReplayServes unit imaged tells geometry pages back faults faults_back left left_now w w_now) w w_now status
      (never_served imaged tells geometry pages back left left_now w w_now lines Usage (λ none. none) (λ chip mid none. none))
      (never_served imaged tells geometry pages back left left_now w w_now lines BadGeometry (λ none. none) (λ chip mid none. none)) tt is run

  -- and one that serves those of a drive
  pub drive_program : (plain only : Bool) → DriveServes unit plain only imaged geometry pages back faults faults_back left left_now w w_now status
      → ProgramIs ⊤ named same (DriveServes unit plain only imaged geometry pages back faults faults_back left left_now w w_now) w w_now status
  drive_program plain only run =
      let lines : List Page → Option (List ℕ) → Status → Type 0 = λ chip mid. DriveOnIs unit (machine_begun plain unit 1) only geometry chip back faults faults_back mid left_now w w_now in
      program_serves ⊤ named same (DriveServes unit plain only imaged geometry pages back faults faults_back left left_now w w_now) w w_now status
      (never_served imaged true geometry pages back left left_now w w_now lines Usage (λ none. none) (λ chip mid none. none))
      (never_served imaged true geometry pages back left left_now w w_now lines BadGeometry (λ none. none) (λ chip mid none. none)) tt is run

-- a drive, or want of memory before it
pub drive_or_starved : {S : Type 0} {source source_now : S} (unit : Shape) (imaged : Bool) (geometry : Geometry) (pages back : List Page) (faults faults_back : ℕ) (left left_now w w_now : Option (List ℕ))
    (named : Type 0) (status : Status) (plain only : Bool) → named
    → ((status ≡ Memory) × (source_now ≡ source) × (w_now ≡ w) × (back ≡ pages)) ⊎ DriveServes unit plain only imaged geometry pages back faults faults_back left left_now w w_now status
    → ProgramIs ⊤ named ((source_now ≡ source) × (back ≡ pages)) (DriveServes unit plain only imaged geometry pages back faults faults_back left left_now w w_now) w w_now status
drive_or_starved {S} {source} {source_now} unit imaged geometry pages back faults faults_back left left_now w w_now named status plain only is (inl (starved, unread, unwritten, stays)) =
    subst (ProgramIs ⊤ named ((source_now ≡ source) × (back ≡ pages)) (DriveServes unit plain only imaged geometry pages back faults faults_back left left_now w w_now) w w_now) (sym starved)
    (inl ((unread, stays), unwritten))
drive_or_starved {S} {source} {source_now} unit imaged geometry pages back faults faults_back left left_now w w_now named status plain only is (inr run) =
    drive_program unit imaged geometry pages back faults faults_back left left_now w w_now named ((source_now ≡ source) × (back ≡ pages)) status is plain only run

-- and a made drive
pub made_or_starved : (unit : Shape) (plain : Bool) (seed : ℕ) (geometry : Geometry) (pages back : List Page) (faults faults_back : ℕ) (w w_now : Option (List ℕ))
    (named : Type 0) (status : Status) → named
    → ((status ≡ Memory) × (w_now ≡ w) × (back ≡ pages)) ⊎ MadeIs unit plain seed geometry pages back faults faults_back w w_now status
    → ProgramIs ⊤ named (back ≡ pages) (MadeIs unit plain seed geometry pages back faults faults_back w w_now) w w_now status
made_or_starved unit plain seed geometry pages back faults faults_back w w_now named status is (inl (starved, unwritten, stays)) =
    subst (ProgramIs ⊤ named (back ≡ pages) (MadeIs unit plain seed geometry pages back faults faults_back w w_now) w w_now) (sym starved) (inl (stays, unwritten))
made_or_starved unit plain seed geometry pages back faults faults_back w w_now named status is (inr run) =
    program_serves ⊤ named (back ≡ pages) (MadeIs unit plain seed geometry pages back faults faults_back w w_now) w w_now status (λ none. none) (λ none. none) tt is run

-- the same by the words
module _ (words : List (List ℕ)) (chip : Geometry) (imaged : Bool) (geometry : Geometry) (pages back : List Page) (faults faults_back : ℕ) (same : Type 0) (left left_now w w_now : Option (List ℕ)) where
  pub replay_named : (status : Status) → IsReplay words → chip ≡ named_chip words → imaged ≡ has_image words
      → ProgramIs ⊤ (IsServedBy chip (named_unit words) geometry) same (ReplayServes (named_unit words) imaged true geometry pages back faults faults_back left left_now w w_now) w w_now status
      → ReplayProgramIs words geometry pages back faults faults_back same left left_now w w_now status
  replay_named status form chip_is imaged_is run =
      program_named (IsReplay words) (IsServedBy chip (named_unit words) geometry) (IsNamed words geometry) same
      (ReplayServes (named_unit words) imaged true geometry pages back faults faults_back left left_now w w_now)
      (ReplayServes (named_unit words) (has_image words) true geometry pages back faults faults_back left left_now w w_now) w w_now status form
      (names_served words chip geometry chip_is) (serves_named words chip geometry chip_is)
      (λ s serves. subst (λ (b : Bool). ReplayServes (named_unit words) b true geometry pages back faults faults_back left left_now w w_now s) imaged_is serves) run

  pub snap_named : (status : Status) → IsSnap words → chip ≡ named_chip words → imaged ≡ has_image words
      → ProgramIs ⊤ (IsServedBy chip (named_unit words) geometry) same (SnapServes (named_unit words) imaged geometry pages back faults faults_back left left_now w w_now) w w_now status
      → SnapProgramIs words geometry pages back faults faults_back same left left_now w w_now status
  snap_named status form chip_is imaged_is run =
      program_named (IsSnap words) (IsServedBy chip (named_unit words) geometry) (IsNamed words geometry) same
      (SnapServes (named_unit words) imaged geometry pages back faults faults_back left left_now w w_now)
      (SnapServes (named_unit words) (has_image words) geometry pages back faults faults_back left left_now w w_now) w w_now status form
      (names_served words chip geometry chip_is) (serves_named words chip geometry chip_is)
      (λ s serves. subst (λ (b : Bool). SnapServes (named_unit words) b geometry pages back faults faults_back left left_now w w_now s) imaged_is serves) run

  pub drive_named : (plain only : Bool) (status : Status) → IsDrive words → chip ≡ named_chip words → plain ≡ is_plain words → only ≡ only_answers words → imaged ≡ has_image words
      → ProgramIs ⊤ (IsServedBy chip (named_unit words) geometry) same (DriveServes (named_unit words) plain only imaged geometry pages back faults faults_back left left_now w w_now) w w_now status
      → DriveProgramIs words geometry pages back faults faults_back same left left_now w w_now status
  drive_named plain only status form chip_is plain_is only_is imaged_is run =
      program_named (IsDrive words) (IsServedBy chip (named_unit words) geometry) (IsNamed words geometry) same
      (DriveServes (named_unit words) plain only imaged geometry pages back faults faults_back left left_now w w_now)
      (DriveServes (named_unit words) (is_plain words) (only_answers words) (has_image words) geometry pages back faults faults_back left left_now w w_now) w w_now status form
      (names_served words chip geometry chip_is) (serves_named words chip geometry chip_is)
      (λ s serves. subst (λ (b : Bool). DriveServes (named_unit words) (is_plain words) (only_answers words) b geometry pages back faults faults_back left left_now w w_now s) imaged_is
      (subst (λ (b : Bool). DriveServes (named_unit words) (is_plain words) b imaged geometry pages back faults faults_back left left_now w w_now s) only_is
      (subst (λ (b : Bool). DriveServes (named_unit words) b only imaged geometry pages back faults faults_back left left_now w w_now s) plain_is serves))) run

-- and of `gen`
module _ (words : List (List ℕ)) (chip : Geometry) (geometry : Geometry) (pages back : List Page) (faults faults_back : ℕ) (same : Type 0) (w w_now : Option (List ℕ)) where
  pub gen_named : (plain : Bool) (seed : ℕ) (status : Status) → IsGen words → chip ≡ named_chip words → plain ≡ is_plain words → seed ≡ named_seed words
      → ProgramIs ⊤ (IsServedBy chip (named_unit words) geometry) same (MadeIs (named_unit words) plain seed geometry pages back faults faults_back w w_now) w w_now status
      → GenProgramIs words geometry pages back faults faults_back same w w_now status
  gen_named plain seed status form chip_is plain_is seed_is run =
      program_named (IsGen words) (IsServedBy chip (named_unit words) geometry) (IsNamed words geometry) same
      (MadeIs (named_unit words) plain seed geometry pages back faults faults_back w w_now)
      (MadeIs (named_unit words) (is_plain words) (named_seed words) geometry pages back faults faults_back w w_now) w w_now status form
      (names_served words chip geometry chip_is) (serves_named words chip geometry chip_is)
      (λ s serves. subst (λ (n : ℕ). MadeIs (named_unit words) (is_plain words) n geometry pages back faults faults_back w w_now s) seed_is
      (subst (λ (b : Bool). MadeIs (named_unit words) b seed geometry pages back faults faults_back w w_now s) plain_is serves)) run
