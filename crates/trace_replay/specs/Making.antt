-- A drive of lines that a seed makes, of which only a summary is printed.
use Rattle.std.specs.Prelude.{◌≡◌, ◌-◌, ◌^◌, ℕ, Bool, List, ◌++◌, Option, codes, decimal, min}
use Rattle.std.specs.Io.KnownBytes.{Appends}
use Rattle.flash_pages.specs.Chip.{Page}
use Rattle.flash_pages.specs.declared.chip.Geometry.{Geometry}
use Rattle.region_state.specs.declared.shape.Shape.{Shape}
use Rattle.hpb_device.specs.declared.counts.Counts.{Counts}
use Rattle.hpb_outside.specs.Writes.{AppendsFront}
use Rattle.replay_standing.specs.Transcript.{AreCountsOn, IsTranscript, sizes_on}
use Rattle.driver_caches.specs.Machine.{machine_begun}
use Rattle.drive_rules.specs.Lines.{Drive, Drives}
use Rattle.made_drive.specs.Answers.{cut_in, good_in}
use Rattle.made_drive.specs.Counts.{reads_in, writes_in}
use Rattle.made_drive.specs.Generator.{made_lines}
use Rattle.run_output.specs.Texts.{counts_text}
use Rattle.run_output.specs.declared.status.Status.{Status}
use Rattle.run_output.specs.declared.status.Status.TheVariants.{Done, Memory, WriteFault}

-- the first line of the summary: how many requests there were of each kind, and how many answers were good or cut
unfoldable pub summary_line : (reads writes good cut : ℕ) → List ℕ
summary_line reads writes good cut =
    codes "G lines=2000 reads=" ++ decimal reads ++ codes " writes=" ++ decimal writes ++ codes " good=" ++ decimal good
    ++ codes " cut=" ++ decimal cut ++ codes "\n"

-- the summary of a drive of 2,000 lines for a unit of so many blocks; the counts of answers stop at 2^32 - 1
abbrev pub summary_text : (units seed : ℕ) → Drive → Counts → List ℕ
summary_text units seed last counts =
    summary_line (reads_in (made_lines units seed 2000)) (writes_in (made_lines units seed 2000))
    (min (good_in last.said) (2 ^ 32 - 1)) (min (cut_in last.said) (2 ^ 32 - 1)) ++ counts_text counts

-- the lines that the seed makes led to this moment and these counts, as those of a drive do
pub record MadeDrive (unit : Shape) (plain : Bool) (seed : ℕ) (geometry : Geometry) (chip back : List Page)
    (faults faults_now : ℕ) (last : Drive) (counts : Counts) : Type 0 where
  pub drives : Drives (sizes_on unit geometry) (machine_begun plain unit 1) (made_lines unit.units seed 2000) last
  pub transcript : IsTranscript unit geometry faults faults_now chip back last.progress
  pub counted : AreCountsOn unit geometry chip last.progress counts

-- What a made drive leaves at each status. For want of memory nothing was written.
abbrev pub MadeIs : Shape → (plain : Bool) → (seed : ℕ) → Geometry → (chip back : List Page) → (faults faults_now : ℕ)
    → (written written_now : Option (List ℕ)) → Status → Type 0
MadeIs unit plain seed geometry chip back faults faults_now written written_now Done =
    (last : Drive) × (counts : Counts) × MadeDrive unit plain seed geometry chip back faults faults_now last counts
    × Appends written written_now (summary_text unit.units seed last counts)
MadeIs unit plain seed geometry chip back faults faults_now written written_now WriteFault =
    (last : Drive) × (counts : Counts) × MadeDrive unit plain seed geometry chip back faults faults_now last counts
    × AppendsFront written written_now (summary_text unit.units seed last counts)
MadeIs unit plain seed geometry chip back faults faults_now written written_now Memory =
    ((last : Drive) × IsTranscript unit geometry faults faults_now chip back last.progress)
    × (written_now ≡ written)
MadeIs unit plain seed geometry chip back faults faults_now written written_now _ = ⊥
