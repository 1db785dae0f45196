-- A replay, and then the image of its chip.
use Rattle.std.proofs.Common.{◌≢◌, ℕ, Bool, false, List, Option, refl, inl, inr}
use Rattle.std.specs.Prelude.{⊤}
use Rattle.flash_pages.specs.Chip.{Page}
use Rattle.flash_pages.specs.declared.chip.Geometry.{Geometry}
use Rattle.region_state.specs.declared.shape.Shape.{Shape}
use Rattle.chip_image.specs.Image.{image_of}
use Rattle.chip_image.specs.declared.version.Version.TheVariants as version
use Rattle.run_output.specs.declared.status.Status.{Status}
use Rattle.run_output.specs.declared.status.Status.TheVariants.{Done, BadLine, ReadFault, WriteFault, LongTrace, Usage, Memory, Geometry as BadGeometry, ChipFault, BadImage, BadCapture}
use Rattle.trace_replay.specs.Programs.{ReplayIs, ReplayServes, SnapServes}
use Rattle.trace_replay.specs.Run.{ProgramIs, SnapIs, WritesImage}
use Rattle.trace_replay.proofs.Serving.{found_of, program_serves, serves_as, never_served}

module _ (unit : Shape) (imaged : Bool) (geometry : Geometry) (pages back : List Page) (faults : ℕ) (left left_now w : Option (List ℕ)) (named same : Type 0) where
  abbrev pub replays : (faults_now : ℕ) (w_now : Option (List ℕ)) → Status → Type 0
  replays faults_now w_now = ReplayServes unit imaged false geometry pages back faults faults_now left left_now w w_now

  abbrev pub snaps : (faults_now : ℕ) (w_now : Option (List ℕ)) → Status → Type 0
  snaps faults_now w_now = SnapServes unit imaged geometry pages back faults faults_now left left_now w w_now

  -- the replay ended before its end
  pub snap_ends : (faults_now : ℕ) (w_now : Option (List ℕ)) (status : Status) → status ≢ Done → ProgramIs ⊤ named same (replays faults_now w_now) w w_now status
      → ProgramIs ⊤ named same (snaps faults_now w_now) w w_now status
  snap_ends faults_now w_now status other run =
      by_status status other run
    where
      ended : (s : Status) → s ≢ Done → replays faults_now w_now s → snaps faults_now w_now s
      ended s other serves = serves_as imaged false geometry pages back left left_now w w_now (λ chip mid. ReplayIs unit geometry chip back faults faults_now mid left_now w w_now)
          (λ chip mid. SnapIs (λ before. ReplayIs unit geometry chip back faults before mid left_now w) (image_of version.Two geometry back) faults_now w_now) s (λ chip mid is. inl (other, is)) serves

      by_status : (s : Status) → s ≢ Done → ProgramIs ⊤ named same (replays faults_now w_now) w w_now s → ProgramIs ⊤ named same (snaps faults_now w_now) w w_now s
      by_status Done other run = absurd (other refl)
      by_status Usage other run = run
      by_status BadGeometry other run = run
      by_status Memory other (inl none) = inl none
      by_status Memory other (inr (form, is, run)) = inr (form, is, ended Memory other run)
      by_status WriteFault other (inl refused) = inl refused
      by_status WriteFault other (inr (form, is, run)) = inr (form, is, ended WriteFault other run)
      by_status (BadLine number) other (form, is, run) = (form, is, ended (BadLine number) other run)
      by_status ReadFault other (form, is, run) = (form, is, ended ReadFault other run)
      by_status LongTrace other (form, is, run) = (form, is, ended LongTrace other run)
      by_status ChipFault other (form, is, run) = (form, is, ended ChipFault other run)
      by_status (BadImage fault) other (form, is, run) = (form, is, ended (BadImage fault) other run)
      by_status (BadCapture offset fault) other (form, is, run) = (form, is, ended (BadCapture offset fault) other run)

  -- the replay is done, and the image was written
  pub snap_goes_on : (before faults_now : ℕ) (mid w_now : Option (List ℕ)) (status : Status) → named → replays before mid Done
      → WritesImage (image_of version.Two geometry back) before faults_now mid w_now status
      → ProgramIs ⊤ named same (snaps faults_now w_now) w w_now status
  snap_goes_on before faults_now mid w_now status is serves writes =
      let (chip, rest, finds, run) = found_of imaged false geometry pages back left left_now w mid (λ chip m. ReplayIs unit geometry chip back faults before m left_now w mid) Done (λ none. none) serves in
      let lines : List Page → Option (List ℕ) → Status → Type 0 = λ c m. SnapIs (λ b. ReplayIs unit geometry c back faults b m left_now w) (image_of version.Two geometry back) faults_now w_now in
      program_serves ⊤ named same (snaps faults_now w_now) w w_now status
      (never_served imaged false geometry pages back left left_now w w_now lines Usage (λ none. none) (λ c m short. never Usage c m (λ none. none) (λ b then none. none) short))
      (never_served imaged false geometry pages back left left_now w w_now lines BadGeometry (λ none. none) (λ c m short. never BadGeometry c m (λ none. none) (λ b then none. none) short))
      tt is (inl (chip, rest, finds, inr (before, mid, run, writes)))
    where
      never : (s : Status) (c : List Page) (m : Option (List ℕ)) → (ReplayIs unit geometry c back faults faults_now m left_now w w_now s → ⊥)
          → ((b : ℕ) (then : Option (List ℕ)) → WritesImage (image_of version.Two geometry back) b faults_now then w_now s → ⊥)
          → SnapIs (λ b. ReplayIs unit geometry c back faults b m left_now w) (image_of version.Two geometry back) faults_now w_now s → ⊥
      never s c m no_replay no_image (inl (_, run)) = no_replay run
      never s c m no_replay no_image (inr (b, then, run, image)) = no_image b then image
