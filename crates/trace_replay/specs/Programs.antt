-- What each command leaves: of the source, the sink and the chip that it was handed, at each status.
use Rattle.std.specs.Prelude.{ℕ, Bool, true, false, List, Option}
use Rattle.flash_pages.specs.Chip.{Page}
use Rattle.flash_pages.specs.declared.chip.Geometry.{Geometry}
use Rattle.region_state.specs.declared.shape.Shape.{Shape}
use Rattle.chip_image.specs.Image.{image_of}
use Rattle.chip_image.specs.declared.version.Version.TheVariants as version
use Rattle.replay_standing.specs.Transcript.{AreCountsOn, IsTranscript, sizes_on}
use Rattle.driver_caches.specs.Machine.{Machine, machine_begun}
use Rattle.drive_rules.specs.Lines.{Drive}
use Rattle.drive_run.specs.Run.{DriveIs}
use Rattle.command_words.specs.Limits.{IsNamed}
use Rattle.command_words.specs.Words.{IsDrive, IsGen, IsReplay, IsSnap, has_image, is_plain}
use Rattle.command_words.specs.Words.{named_seed, named_unit, only_answers}
use Rattle.run_output.specs.declared.status.Status.{Status}
use Rattle.trace_replay.specs.Making.{MadeIs}
use Rattle.trace_replay.specs.Run.{ProgramIs, RunIs, SnapIs}
use Rattle.trace_replay.specs.Serving.{Serves}

-- a replay of at most 1,000,000 lines over a chip, which is handed back with these pages
abbrev pub ReplayIs : Shape → Geometry → (chip back : List Page) (faults faults_now : ℕ)
    (left left_now written written_now : Option (List ℕ)) → Status → Type 0
ReplayIs unit geometry chip back faults faults_now left left_now written written_now status =
    RunIs (sizes_on unit geometry) (IsTranscript unit geometry faults faults_now chip back)
    (AreCountsOn unit geometry chip) left left_now written written_now 1000000 status

-- a drive of at most 1,000,000 lines over a chip, by a driver that begins so
abbrev pub DriveOnIs : Shape → Machine → (only : Bool) → Geometry → (chip back : List Page) (faults faults_now : ℕ)
    (left left_now written written_now : Option (List ℕ)) → Status → Type 0
DriveOnIs unit machine only geometry chip back faults faults_now left left_now written written_now status =
    DriveIs (sizes_on unit geometry) machine only
    (λ (d : Drive). IsTranscript unit geometry faults faults_now chip back d.progress)
    (λ (d : Drive). AreCountsOn unit geometry chip d.progress) left left_now written written_now 1000000 status

-- the lines of a replay of this unit, behind an image where one stands before them
abbrev pub ReplayServes : Shape → (imaged tells_chip : Bool) → Geometry → (pages back : List Page)
    (faults faults_now : ℕ) (left left_now written written_now : Option (List ℕ)) → Status → Type 0
ReplayServes unit imaged tells_chip geometry pages back faults faults_now left left_now written written_now status =
    Serves imaged tells_chip geometry pages back left left_now written written_now
    (λ chip mid. ReplayIs unit geometry chip back faults faults_now mid left_now written written_now) status

-- the same, and then the image of the chip that is handed back
abbrev pub SnapServes : Shape → (imaged : Bool) → Geometry → (pages back : List Page)
    (faults faults_now : ℕ) (left left_now written written_now : Option (List ℕ)) → Status → Type 0
SnapServes unit imaged geometry pages back faults faults_now left left_now written written_now status =
    Serves imaged false geometry pages back left left_now written written_now
    (λ chip mid. SnapIs (λ before. ReplayIs unit geometry chip back faults before mid left_now written)
    (image_of version.Two geometry back) faults_now written_now) status

-- the lines of a drive
abbrev pub DriveServes : Shape → (plain only imaged : Bool) → Geometry → (pages back : List Page)
    (faults faults_now : ℕ) (left left_now written written_now : Option (List ℕ)) → Status → Type 0
DriveServes unit plain only imaged geometry pages back faults faults_now left left_now written written_now status =
    Serves imaged true geometry pages back left left_now written written_now
    (λ chip mid. DriveOnIs unit (machine_begun plain unit 1) only geometry chip back faults faults_now mid left_now
    written written_now) status

-- the command `replay`
abbrev pub ReplayProgramIs : List (List ℕ) → Geometry → (pages back : List Page) (faults faults_now : ℕ)
    (same : Type 0) (left left_now written written_now : Option (List ℕ)) → Status → Type 0
ReplayProgramIs words geometry pages back faults faults_now same left left_now written written_now status =
    ProgramIs (IsReplay words) (IsNamed words geometry) same
    (ReplayServes (named_unit words) (has_image words) true geometry pages back faults faults_now left left_now written
    written_now) written written_now status

-- the command `snap`
abbrev pub SnapProgramIs : List (List ℕ) → Geometry → (pages back : List Page) (faults faults_now : ℕ)
    (same : Type 0) (left left_now written written_now : Option (List ℕ)) → Status → Type 0
SnapProgramIs words geometry pages back faults faults_now same left left_now written written_now status =
    ProgramIs (IsSnap words) (IsNamed words geometry) same
    (SnapServes (named_unit words) (has_image words) geometry pages back faults faults_now left left_now written
    written_now) written written_now status

-- the command `drive`
abbrev pub DriveProgramIs : List (List ℕ) → Geometry → (pages back : List Page) (faults faults_now : ℕ)
    (same : Type 0) (left left_now written written_now : Option (List ℕ)) → Status → Type 0
DriveProgramIs words geometry pages back faults faults_now same left left_now written written_now status =
    ProgramIs (IsDrive words) (IsNamed words geometry) same
    (DriveServes (named_unit words) (is_plain words) (only_answers words) (has_image words) geometry pages back faults
    faults_now left left_now written written_now) written written_now status

-- the command `gen`
abbrev pub GenProgramIs : List (List ℕ) → Geometry → (pages back : List Page) (faults faults_now : ℕ)
    (same : Type 0) (written written_now : Option (List ℕ)) → Status → Type 0
GenProgramIs words geometry pages back faults faults_now same written written_now status =
    ProgramIs (IsGen words) (IsNamed words geometry) same
    (MadeIs (named_unit words) (is_plain words) (named_seed words) geometry pages back faults faults_now written
    written_now) written written_now status

-- the words are in form, and the chip serves what they name
abbrev pub IsPlanned : List (List ℕ) → Geometry → Type 0
IsPlanned words geometry = IsReplay words × IsNamed words geometry
