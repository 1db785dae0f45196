-- What a run of a drive leaves, from where its two ends begin and are left.
use Rattle.std.proofs.Common.{◌≡◌, ℕ, ◌*◌, ◌≤◌, Bool, true, false, List, [], Option, refl, sym, ◌∙◌, ap, subst, arith}
use Rattle.flash_pages.specs.declared.chip.Geometry.{Geometry}
use Rattle.flash_pages.specs.Chip.{Page, erased_count}
use Rattle.flash_pages.specs.Sound.{ChipOk}
use Rattle.flat_unit.specs.Sizes.{Sizes}
use Rattle.region_state.specs.declared.shape.Shape.{Shape}
use Rattle.region_state.specs.Shape.{IsWithinLimits}
use Rattle.hpb_device.specs.Counted.{CountsStand}
use Rattle.hpb_device.specs.Counts.{no_counts}
use Rattle.hpb_device.specs.Lists.{ListsStand}
use Rattle.hpb_device.specs.Regions.{HintsStand}
use Rattle.hpb_device.specs.Standing.{sizes_of}
use Rattle.hpb_device.specs.State.{DeviceState}
use Rattle.hpb_device.specs.declared.counts.Counts.{Counts}
use Rattle.replay_standing.specs.Standing.{AreCountsOf}
use Rattle.replay_standing.specs.Transcript.{AreCounts, AreCountsOn, IsTranscript, sizes_on}
use Rattle.replay_standing.proofs.Beginning.{begun_standing}
use Rattle.driver_caches.specs.Machine.{Machine, machine_begun}
use Rattle.drive_rules.specs.Cached.{HasCaches}
use Rattle.drive_rules.specs.Lines.{Drive, drive_begun}
use Rattle.drive_rules.proofs.Turns.{led_begun}
use Rattle.hpb_driver.specs.State.{CanDrive}
use Rattle.hpb_link.specs.Stands.{AtDrive}
use Rattle.hpb_link.specs.State.{LinkState}
use Rattle.drive_run.specs.Run.{DriveIs}
use Rattle.drive_run.proofs.Runs.{drove_with}
use Rattle.run_output.specs.declared.status.Status.{Status}
use Rattle.run_output.specs.declared.status.Status.TheVariants.{Done, BadLine, ReadFault, WriteFault, LongTrace, Usage, Memory, Geometry as BadGeometry, ChipFault, BadImage, BadCapture}
use Rattle.trace_replay.specs.Beginning.{IsFresh, link_begun}
use Rattle.trace_replay.specs.Programs.{DriveOnIs}
use Rattle.std.specs.Io.KnownBytes.{prepend_known}
use Rattle.std.proofs.KnownBytes.{prepend_known-nil}
use Rattle.trace_replay.proofs.Transcripts.{OnChip, fresh_sizes, left_transcript, named_on, start_chip}

-- a unit within its limits has a driver
pub can_drive : (unit : Shape) → IsWithinLimits unit → CanDrive unit 1
can_drive unit limits = record { limits = limits; some_unit = omega arith; few_units = omega arith; blocks = omega (arith, limits.units) }

begins_cached : (s : Sizes) (plain : Bool) (unit : Shape) → 1 ≤ s.luns → HasCaches s unit (machine_begun plain unit 1)
begins_cached s true unit some = record { caches = tt; some_id = omega arith; last_id = omega arith; few = omega arith; got = tt }
begins_cached s false unit some =
    record { caches = (record { shape_is = refl; wants = tt; evicted = tt; held = tt }, tt); some_id = omega arith; last_id = omega arith; few = some; got = tt }

-- a device that was just made, and a driver, stand at the beginning of a drive
pub begins_at : (device : DeviceState) (plain : Bool) (unit : Shape) → device.tasks ≡ [] → device.counts ≡ no_counts → HintsStand device [] → ListsStand device [] → CountsStand device []
    → device.store.scanned ≡ 0 → 1 ≤ device.store.geometry.pages → IsWithinLimits unit → device.shape ≡ unit → device.store.luns ≡ 1
    → AtDrive device (link_begun device plain unit) (drive_begun (machine_begun plain unit 1))
begins_at device plain unit none uncounted hints fetched counted scanned some limits shape luns =
    let one : 1 ≤ device.store.luns = omega (arith, luns) in
    record {
      limits = subst IsWithinLimits (sym shape) limits;
      some_unit = one;
      standing = begun_standing device none uncounted hints fetched counted scanned some;
      machine = refl;
      tickets = refl;
      count = refl;
      lun = refl;
      shape = sym shape;
      luns = sym luns;
      no_runs = refl;
      led = led_begun (sizes_of device) (HasCaches (sizes_of device) device.shape) (machine_begun plain unit 1)
          (subst (λ (s : Shape). HasCaches (sizes_of device) s (machine_begun plain unit 1)) (sym shape) (begins_cached (sizes_of device) plain unit one)) refl;
    }

-- what is said of the moments may be weakened
pub drive_shows : (s : Sizes) (machine : Machine) (only : Bool) (good better : Drive → Type 0) (counted : Drive → Counts → Type 0) (left left_now w w_now : Option (List ℕ)) (limit : ℕ) (status : Status)
    → ((d : Drive) → good d → better d)
    → DriveIs s machine only good counted left left_now w w_now limit status → DriveIs s machine only better counted left left_now w w_now limit status
drive_shows s machine only good better counted left left_now w w_now limit Done leads (mid, n, last, drove, well, counts, few, ends) = (mid, n, last, drove, leads last well, counts, few, ends)
drive_shows s machine only good better counted left left_now w w_now limit (BadLine number) leads (mid, behind, n, drove, few, is, bad, ahead) =
    (mid, behind, n, drove_with s machine left mid n _ _ drove (leads _ drove.shows.0, drove.shows.1), few, is, bad, ahead)
drive_shows s machine only good better counted left left_now w w_now limit ReadFault leads (mid, n, drove, few, stops) =
    (mid, n, drove_with s machine left mid n _ _ drove (leads _ drove.shows.0, drove.shows.1), few, stops)
drive_shows s machine only good better counted left left_now w w_now limit LongTrace leads (mid, drove, more, ahead) =
    (mid, drove_with s machine left mid limit _ _ drove (leads _ drove.shows.0, drove.shows.1), more, ahead)
drive_shows s machine only good better counted left left_now w w_now limit WriteFault leads (mid, n, last, words, drove, well, cut) = (mid, n, last, words, drove, leads last well, cut)
drive_shows s machine only good better counted left left_now w w_now limit Memory leads (mid, behind, n, line, last, drove, well, all, few, takes, ahead) =
    (mid, behind, n, line, last, drove, leads last well, all, few, takes, ahead)
drive_shows s machine only good better counted left left_now w w_now limit Usage leads none = absurd none
drive_shows s machine only good better counted left left_now w w_now limit BadGeometry leads none = absurd none
drive_shows s machine only good better counted left left_now w w_now limit ChipFault leads none = absurd none
drive_shows s machine only good better counted left left_now w w_now limit (BadImage fault) leads none = absurd none
drive_shows s machine only good better counted left left_now w w_now limit (BadCapture offset fault) leads none = absurd none

module _ (unit : Shape) (geometry : Geometry) (start : DeviceState) (plain only : Bool) (pages : List Page) (faults : ℕ) (fresh : IsFresh start unit geometry pages faults)
    (left left_now w w_now : Option (List ℕ)) where
  -- the promise of a drive, in terms of the chip
  pub drive_of_chip : (now : LinkState) (back : List Page) (faults_back : ℕ) (status : Status) → back ≡ now.device.store.pages → faults_back ≡ now.device.store.faults
      → DriveIs (sizes_of start) (machine_begun plain unit 1) only (AtDrive start now) (λ (d : Drive). AreCountsOf start d.progress) left left_now w w_now 1000000 status
      → DriveOnIs unit (machine_begun plain unit 1) only geometry pages back faults faults_back left left_now w w_now status
  drive_of_chip now back faults_back status is_back is_faults run =
      let machine = machine_begun plain unit 1 in
      let good : Drive → Type 0 = λ d. IsTranscript unit geometry faults faults_back pages back d.progress in
      let there : OnChip = named_on unit geometry pages in
      let sized : Sizes → OnChip → Drive → Counts → Type 0 = λ s c d. AreCounts s (c.geometry.blocks * c.geometry.pages) c.geometry.pages (erased_count c.pages)
      (ChipOk c.geometry c.luns c.units c.pages) d.progress in
      let run0 : DriveIs (sizes_of start) machine only (AtDrive start now) (sized (sizes_of start) there) left left_now w w_now 1000000 status =
      subst (λ (c : OnChip). DriveIs (sizes_of start) machine only (AtDrive start now) (sized (sizes_of start) c) left left_now w w_now 1000000 status)
      (start_chip start now.device unit geometry pages faults fresh) run in
      let run1 : DriveIs (sizes_on unit geometry) machine only (AtDrive start now) (sized (sizes_on unit geometry) there) left left_now w w_now 1000000 status =
      subst (λ (s : Sizes). DriveIs s machine only (AtDrive start now) (sized s there) left left_now w w_now 1000000 status) (fresh_sizes start now.device unit geometry pages faults fresh) run0 in
      drive_shows (sizes_on unit geometry) machine only (AtDrive start now) good (λ (d : Drive). AreCountsOn unit geometry pages d.progress) left left_now w w_now 1000000 status
      (λ d at. left_transcript start now.device unit geometry pages back faults faults_back d.progress fresh is_back is_faults at.standing) run1

-- the same of two ends that begin
pub drive_of_link : (unit : Shape) (geometry : Geometry) (link now : LinkState) (plain only : Bool) (pages back : List Page) (faults faults_back : ℕ) (left left_now w w_now : Option (List ℕ))
    (held : List ℕ) (status : Status) → IsFresh link.device unit geometry pages faults → link ≡ link_begun link.device plain link.device.shape → held ≡ []
    → back ≡ now.device.store.pages → faults_back ≡ now.device.store.faults
    → DriveIs (sizes_of link.device) link.driver only (AtDrive link.device now) (λ (d : Drive). AreCountsOf link.device d.progress) (prepend_known held left) left_now w w_now 1000000 status
    → DriveOnIs unit (machine_begun plain unit 1) only geometry pages back faults faults_back left left_now w w_now status
drive_of_link unit geometry link now plain only pages back faults faults_back left left_now w w_now held status fresh is none is_back is_faults run =
    let driver : link.driver ≡ machine_begun plain unit 1 = ap (λ (l : LinkState). l.driver) is ∙ ap (λ (s : Shape). machine_begun plain s 1) fresh.shape_is in
    let from : prepend_known held left ≡ left = ap (λ (l : List ℕ). prepend_known l left) none ∙ prepend_known-nil left in
    drive_of_chip unit geometry link.device plain only pages faults fresh left left_now w w_now now back faults_back status is_back is_faults
    (subst (λ (m : Machine). DriveIs (sizes_of link.device) m only (AtDrive link.device now) (λ (d : Drive). AreCountsOf link.device d.progress) left left_now w w_now 1000000 status) driver
    (subst (λ (l : Option (List ℕ)). DriveIs (sizes_of link.device) link.driver only (AtDrive link.device now) (λ (d : Drive). AreCountsOf link.device d.progress) l left_now w w_now 1000000 status) from
    run))
