-- How a drive over the made text ends.
use Rattle.std.proofs.Common.{◌≡◌, ◌≢◌, ◌⊎◌, ℕ, zero, suc, ◌+◌, ◌≤◌, true, List, [], ◌∷◌, ◌++◌, length, Option, Some, None, refl, sym, ◌∙◌, ap, subst, arith, inl, inr, length-append}
use Rattle.std.specs.Prelude.{map, Bool, ◌*◌}
use Rattle.std.specs.Io.KnownBytes.{prepend_known}
use Rattle.std.proofs.KnownBytes.{prepend_known-nil}
use Rattle.flash_pages.specs.declared.chip.Geometry as chip
use Rattle.flash_pages.specs.Chip.{Page, erased_count}
use Rattle.flash_pages.specs.Sound.{ChipOk}
use Rattle.flat_unit.specs.Replays.{Progress}
use Rattle.region_state.specs.declared.shape.Shape.{Shape}
use Rattle.hpb_device.specs.Standing.{sizes_of}
use Rattle.replay_standing.specs.Standing.{AreCountsOf}
use Rattle.replay_standing.specs.Transcript.{AreCounts, AreCountsOn, IsTranscript, sizes_on}
use Rattle.driver_caches.specs.Machine.{machine_begun}
use Rattle.hpb_link.specs.Stands.{AtDrive}
use Rattle.hpb_link.specs.State.{LinkState}
use Rattle.made_drive.specs.Counts.{reads_in, writes_in}
use Rattle.made_drive.specs.Scan.{scanned}
use Rattle.made_drive.specs.declared.scan.Scan.{Scan}
use Rattle.made_drive.proofs.Tallies.{said_tally-counts}
use Rattle.trace_replay.specs.Beginning.{IsFresh, link_begun}
use Rattle.trace_replay.specs.Making.{MadeDrive, MadeIs, summary_line, summary_text}
use Rattle.trace_replay.proofs.Driven.{drive_shows}
use Rattle.trace_replay.proofs.Transcripts.{OnChip, counts_of, fresh_sizes, left_transcript, named_on, start_chip}
use Rattle.std.specs.List.{AllByRecursion}
use Rattle.std.proofs.lemmas.List.{append-nil, length-map}
use Rattle.flat_unit.specs.Sizes.{Sizes}
use Rattle.hpb_device.specs.declared.counts.Counts.{Counts}
use Rattle.driver_caches.specs.Machine.{Machine}
use Rattle.drive_rules.specs.Lines.{Drive, Drives}
use Rattle.drive_rules.specs.Text.{said_text}
use Rattle.drive_run.specs.Run.{DriveIs, IsBadNext}
use Rattle.made_drive.specs.Generator.{line_after, made_lines}
use Rattle.made_drive.specs.Text.{lines_text}
use Rattle.made_drive.proofs.Sayings.{lines_short, text_said}
use Rattle.std.specs.Io.KnownBytes.{Appends}
use Rattle.hpb_outside.specs.Writes.{AppendsFront, HasWrittenUpTo}
use Rattle.hpb_outside.proofs.Written.{nothing_yet}
use Rattle.run_output.specs.Ends.{CountsFault, Finishes, SinkEnds, SourceEnds, TakesLines}
use Rattle.run_output.specs.Texts.{counts_text}
use Rattle.run_output.proofs.Ended.{first_lines}
use Rattle.run_output.specs.declared.status.Status.{Status}
use Rattle.run_output.specs.declared.status.Status.TheVariants.{Done, BadLine, ReadFault, WriteFault, LongTrace, Usage, Memory, Geometry, ChipFault, BadImage, BadCapture}
use Rattle.trace_text.specs.Drives.{drive_line}
use Rattle.trace_text.specs.Lines.{EndsAt, WhereTold, lines_of}
use Rattle.trace_text.specs.declared.drive.DriveLine.{DriveLine}
use Rattle.trace_text.proofs.LinesOf.{lines_of-long, lines_of-takes}

same_lines : (a b : List DriveLine) → map (λ (line : DriveLine). Some line) a ≡ map (λ (line : DriveLine). Some line) b → a ≡ b
same_lines [] [] is = refl
same_lines [] (y ∷ b) is = absurd (differ is)
  where
    differ : {x : Option DriveLine} {xs : List (Option DriveLine)} → [] ≡ x ∷ xs → ⊥
    differ e = cc
same_lines (x ∷ a) [] is = absurd (differ is)
  where
    differ : {x : Option DriveLine} {xs : List (Option DriveLine)} → x ∷ xs ≡ [] → ⊥
    differ e = cc
same_lines (x ∷ a) (y ∷ b) is = let first = head is in let rest = same_lines a b (tail is) in λ i. first i ∷ rest i
  where
    head : {xs ys : List (Option DriveLine)} → Some x ∷ xs ≡ Some y ∷ ys → x ≡ y
    head e = cc

    tail : {c d : Option DriveLine} {xs ys : List (Option DriveLine)} → c ∷ xs ≡ d ∷ ys → xs ≡ ys
    tail e = cc

-- where lines say something, the one behind some of them does
one_said : (texts : List (List ℕ)) (text : List ℕ) (more : List (List ℕ)) (lines : List DriveLine) → map drive_line (texts ++ text ∷ more) ≡ map (λ (line : DriveLine). Some line) lines
    → drive_line text ≡ None → ⊥
one_said [] text more [] is none = absurd (differ is)
  where
    differ : {x : Option DriveLine} {xs : List (Option DriveLine)} → x ∷ xs ≡ [] → ⊥
    differ e = cc
one_said [] text more (line ∷ lines) is none = differ (sym none ∙ head is)
  where
    head : {c d : Option DriveLine} {xs ys : List (Option DriveLine)} → c ∷ xs ≡ d ∷ ys → c ≡ d
    head e = cc

    differ : {l : DriveLine} → None ≡ Some l → ⊥
    differ e = cc
one_said (t ∷ texts) text more [] is none = absurd (differ is)
  where
    differ : {x : Option DriveLine} {xs : List (Option DriveLine)} → x ∷ xs ≡ [] → ⊥
    differ e = cc
one_said (t ∷ texts) text more (line ∷ lines) is none = one_said texts text more lines (tail is) none
  where
    tail : {c d : Option DriveLine} {xs ys : List (Option DriveLine)} → c ∷ xs ≡ d ∷ ys → xs ≡ ys
    tail e = cc

-- and likewise of what holds of each line
one_holds : (P : List ℕ → Type 0) (texts : List (List ℕ)) (text : List ℕ) (more : List (List ℕ)) → AllByRecursion P (texts ++ text ∷ more) → P text
one_holds P [] text more all = all.0
one_holds P (t ∷ texts) text more all = one_holds P texts text more all.1

made_count : (units x count : ℕ) → length (made_lines units x count) ≡ count
unfolding made_lines
made_count units x zero = refl
made_count units x (suc count) = ap suc (made_count units (line_after units x).number count)

module _ (units seed : ℕ) (some : 1 ≤ units) (s : Sizes) (machine : Machine) (good : Drive → Type 0) (counted : Drive → Counts → Type 0) (left_now : Option (List ℕ)) (bytes : List ℕ) where
  -- all lines were served
  pub record IsMade : Type 0 where
    pub last : Drive
    pub counts : Counts
    pub drives : Drives s machine (made_lines units seed 2000) last
    pub well : good last
    pub told : counted last counts
    pub written : bytes ≡ said_text true last.said ++ counts_text counts

  abbrev pub Ends : Status → Type 0
  Ends status = ((status ≡ Memory) × ((last : Drive) × good last)) ⊎ ((status ≡ Done) × IsMade)

  -- the lines that were taken to the end are those that were made
  all_taken : (texts : List (List ℕ)) (taken : List DriveLine) (mid : Option (List ℕ)) → TakesLines (Some (lines_text (made_lines units seed 2000))) texts mid → WhereTold EndsAt mid left_now
      → map drive_line texts ≡ map (λ (line : DriveLine). Some line) taken → taken ≡ made_lines units seed 2000
  all_taken texts taken mid takes ends parsed =
      let text = lines_text (made_lines units seed 2000) in
      let (rest, mid_is, parts) = first_lines text texts mid takes in
      let none : rest ≡ [] = at_end rest left_now (subst (λ (m : Option (List ℕ)). WhereTold EndsAt m left_now) mid_is ends) in
      let whole : lines_of text ≡ texts = parts ∙ (ap (λ (r : List ℕ). texts ++ lines_of r) none ∙ append-nil texts) in
      same_lines taken (made_lines units seed 2000) (sym parsed ∙ (ap (map drive_line) (sym whole) ∙ text_said units seed 2000 some))
    where
      at_end : (rest : List ℕ) (now : Option (List ℕ)) → WhereTold EndsAt (Some rest) now → rest ≡ []
      at_end rest None told = absurd told
      at_end rest (Some r) told = told.0

  no_bad : (texts : List (List ℕ)) (mid behind : Option (List ℕ)) → TakesLines (Some (lines_text (made_lines units seed 2000))) texts mid → IsBadNext mid behind → ⊥
  no_bad texts mid behind takes bad =
      let text = lines_text (made_lines units seed 2000) in
      let (rest, mid_is, parts) = first_lines text texts mid takes in
      by_bad rest behind parts (subst (λ (m : Option (List ℕ)). IsBadNext m behind) mid_is bad)
    where
      by_bad : (rest : List ℕ) (behind : Option (List ℕ)) → lines_of (lines_text (made_lines units seed 2000)) ≡ texts ++ lines_of rest → IsBadNext (Some rest) behind → ⊥
      by_bad rest behind parts (inl (long, _)) =
          let (first, others, is, over) = lines_of-long rest long in
          let short = one_holds (λ (l : List ℕ). length l ≤ 131200) texts first others
          (subst (AllByRecursion (λ (l : List ℕ). length l ≤ 131200)) (parts ∙ ap (λ (ls : List (List ℕ)). texts ++ ls) is) (lines_short units seed 2000 some)) in
          omega (arith, short, over)
      by_bad rest None parts (inr (line, told, none)) = absurd told
      by_bad rest (Some r) parts (inr (line, told, none)) =
          one_said texts line (lines_of r) (made_lines units seed 2000)
          (ap (map drive_line) (sym (parts ∙ ap (λ (ls : List (List ℕ)). texts ++ ls) (lines_of-takes line rest r told))) ∙ text_said units seed 2000 some) none

  no_long : (texts : List (List ℕ)) (mid : Option (List ℕ)) → TakesLines (Some (lines_text (made_lines units seed 2000))) texts mid → length texts ≡ 1000000 → ⊥
  no_long texts mid takes many =
      let text = lines_text (made_lines units seed 2000) in
      let (rest, mid_is, parts) = first_lines text texts mid takes in
      let all : length (lines_of text) ≡ 2000 =
      sym (length-map (lines_of text) drive_line) ∙ (ap length (text_said units seed 2000 some) ∙ (length-map (made_lines units seed 2000) (λ (line : DriveLine). Some line) ∙ made_count units seed 2000)) in
      let both : length (lines_of text) ≡ length texts + length (lines_of rest) = ap length parts ∙ length-append texts (lines_of rest) in
      omega (arith, all, both, many)

  pub made_ends : (status : Status) → DriveIs s machine true good counted (Some (lines_text (made_lines units seed 2000))) left_now (Some []) (Some bytes) 1000000 status
      → status ≢ ReadFault → status ≢ WriteFault → Ends status
  made_ends Done (mid, n, last, drove, well, (counts, are, printed), few, ends) read write = inr (
    refl,
    record {
      last = last;
      counts = counts;
      drives = record {
        mid = drove.moment;
        each = subst (λ (ls : List DriveLine). Rattle.drive_rules.specs.Lines.DrivesLines s ls (Rattle.drive_rules.specs.Lines.drive_begun machine) drove.moment)
            (all_taken drove.texts drove.lines mid drove.taken ends drove.parsed) drove.drives;
        end = drove.shows;
      };
      well = well;
      told = are;
      written = printed;
    },
  )
  made_ends Memory (mid, behind, n, line, last, drove, well, all, few, takes, ahead) read write = inl (refl, (last, well))
  made_ends (BadLine number) (mid, behind, n, drove, few, is, bad, ahead) read write = absurd (no_bad drove.texts mid behind drove.taken bad)
  made_ends LongTrace (mid, drove, more, ahead) read write = absurd (no_long drove.texts mid drove.taken drove.counted)
  made_ends ReadFault run read write = absurd (read refl)
  made_ends WriteFault run read write = absurd (write refl)
  made_ends Usage none read write = absurd none
  made_ends Geometry none read write = absurd none
  made_ends ChipFault none read write = absurd none
  made_ends (BadImage fault) none read write = absurd none
  made_ends (BadCapture offset fault) none read write = absurd none

module _ (unit : Shape) (geometry : chip.Geometry) (link now : LinkState) (plain : Bool) (seed : ℕ) (pages back : List Page) (faults faults_back : ℕ) (left_now : Option (List ℕ)) (bytes : List ℕ) where
  -- what is known of the last moment
  abbrev Known : Drive → Type 0
  Known d = IsTranscript unit geometry faults faults_back pages back d.progress × AreCountsOn unit geometry pages d.progress now.device.counts

  -- how a made drive ends, in terms of the chip
  pub made_of_chip : (held : List ℕ) (left : Option (List ℕ)) (status : Status) → (some : 1 ≤ unit.units) → IsFresh link.device unit geometry pages faults → link ≡ link_begun link.device plain link.device.shape → held ≡ []
      → left ≡ Some (lines_text (made_lines unit.units seed 2000))
      → back ≡ now.device.store.pages → faults_back ≡ now.device.store.faults
      → DriveIs (sizes_of link.device) link.driver true (AtDrive link.device now) (λ (d : Drive). AreCountsOf link.device d.progress) (prepend_known held left) left_now (Some []) (Some bytes) 1000000 status
      → status ≢ ReadFault → status ≢ WriteFault
      → Ends unit.units seed some (sizes_on unit geometry) (machine_begun plain unit 1) Known (λ (d : Drive). AreCountsOf link.device d.progress) left_now bytes status
  made_of_chip held left status some fresh is none told is_back is_faults run read write =
      let start = link.device in
      let counted : Drive → Counts → Type 0 = λ d. AreCountsOf start d.progress in
      let driver : link.driver ≡ machine_begun plain unit 1 = ap (λ (l : LinkState). l.driver) is ∙ ap (λ (s : Shape). machine_begun plain s 1) fresh.shape_is in
      let from : prepend_known held left ≡ Some (lines_text (made_lines unit.units seed 2000)) = ap (λ (l : List ℕ). prepend_known l left) none ∙ (prepend_known-nil left ∙ told) in
      let run0 = subst (λ (m : Machine). DriveIs (sizes_of start) m true (AtDrive start now) counted (Some (lines_text (made_lines unit.units seed 2000))) left_now (Some []) (Some bytes) 1000000 status) driver
      (subst (λ (l : Option (List ℕ)). DriveIs (sizes_of start) link.driver true (AtDrive start now) counted l left_now (Some []) (Some bytes) 1000000 status) from run) in
      let run1 = subst (λ (s : Sizes). DriveIs s (machine_begun plain unit 1) true (AtDrive start now) counted (Some (lines_text (made_lines unit.units seed 2000))) left_now (Some []) (Some bytes) 1000000 status)
      (fresh_sizes start now.device unit geometry pages faults fresh) run0 in
      made_ends unit.units seed some (sizes_on unit geometry) (machine_begun plain unit 1) Known counted left_now bytes status
      (drive_shows (sizes_on unit geometry) (machine_begun plain unit 1) true (AtDrive start now) Known counted (Some (lines_text (made_lines unit.units seed 2000))) left_now (Some []) (Some bytes) 1000000
      status known run1) read write
    where
      sized : Sizes → OnChip → Progress → Counts → Type 0
      sized s c = AreCounts s (c.geometry.blocks * c.geometry.pages) c.geometry.pages (erased_count c.pages) (ChipOk c.geometry c.luns c.units c.pages)

      known : (d : Drive) → AtDrive link.device now d → Known d
      known d at = (
        left_transcript link.device now.device unit geometry pages back faults faults_back d.progress fresh is_back is_faults at.standing,
        subst (λ (s : Sizes). sized s (named_on unit geometry pages) d.progress now.device.counts) (fresh_sizes link.device now.device unit geometry pages faults fresh)
            (subst (λ (c : OnChip). sized (sizes_of link.device) c d.progress now.device.counts) (start_chip link.device now.device unit geometry pages faults fresh)
            (counts_of link.device now.device d.progress at.standing)),
      )

  -- the summary is that of the last moment
  pub made_summary : (last : Drive) (printed : Counts) → bytes ≡ said_text true last.said ++ counts_text printed
      → summary_line (reads_in (made_lines unit.units seed 2000)) (writes_in (made_lines unit.units seed 2000)) (scanned bytes).good (scanned bytes).cut ++ counts_text now.device.counts
      ≡ summary_text unit.units seed last now.device.counts
  made_summary last printed is =
      let tally = ap scanned is ∙ said_tally-counts last.said (printed.steps ∷ printed.lookups ∷ printed.entries ∷ printed.moved ∷ printed.erased ∷ []) in
      ap (λ (t : Scan). summary_line (reads_in (made_lines unit.units seed 2000)) (writes_in (made_lines unit.units seed 2000)) t.good t.cut ++ counts_text now.device.counts) tally

  -- and the program ends with it
  pub made_is : (w w_now : Option (List ℕ)) (words : List ℕ) (faults_sink faults_sink_now : ℕ) (result : Status) {counted : Drive → Counts → Type 0} {some : 1 ≤ unit.units} {left_now : Option (List ℕ)}
      → (made : IsMade unit.units seed some (sizes_on unit geometry) (machine_begun plain unit 1) Known counted left_now bytes)
      → words ≡ summary_text unit.units seed made.last now.device.counts
      → Finishes w w_now [] words faults_sink faults_sink_now Done result
      → MadeIs unit plain seed geometry pages back faults faults_back w w_now result
  made_is w w_now words faults_sink faults_sink_now result made are ends = by_end (ends w [] (nothing_yet w []))
    where
      drive : MadeDrive unit plain seed geometry pages back faults faults_back made.last now.device.counts
      drive = record { drives = made.drives; transcript = made.well.0; counted = made.well.1 }

      by_end : ((result ≡ Done) × Appends w w_now ([] ++ words) × (faults_sink_now ≡ faults_sink)) ⊎ ((result ≡ WriteFault) × AppendsFront w w_now ([] ++ words) × CountsFault faults_sink faults_sink_now)
          → MadeIs unit plain seed geometry pages back faults faults_back w w_now result
      by_end (inl (is, all, _)) = subst (MadeIs unit plain seed geometry pages back faults faults_back w w_now) (sym is)
          (made.last, now.device.counts, drive, subst (Appends w w_now) are all)
      by_end (inr (is, cut, _)) = subst (MadeIs unit plain seed geometry pages back faults faults_back w w_now) (sym is)
          (made.last, now.device.counts, drive, subst (AppendsFront w w_now) are cut)

-- what was gathered is the last words
pub finishes_with : (w w_now : Option (List ℕ)) (gathered words : List ℕ) (faults faults_now : ℕ) (status result : Status) → gathered ≡ words → Finishes w w_now gathered [] faults faults_now status result
    → Finishes w w_now [] words faults faults_now status result
finishes_with w w_now gathered words faults faults_now status result are ends = λ before text so_far.
    let more : HasWrittenUpTo before w (text ++ words) gathered = record {
      front = so_far.front;
      parts = ap (λ (l : List ℕ). so_far.front ++ l) are ∙ ap (λ (l : List ℕ). l ++ words) (sym (append-nil so_far.front) ∙ so_far.parts);
      appended = so_far.appended;
    } in
    elim (ends before (text ++ words) more) [
      | inl (is, all, same) ↦ inl (is, subst (Appends before w_now) (append-nil (text ++ words)) all, same)
      | inr (is, cut, fault) ↦ inr (is, subst (AppendsFront before w_now) (append-nil (text ++ words)) cut, fault)
    ]

-- a summary ends with no fault of a source
pub summary_reads : (w w_now : Option (List ℕ)) (words : List ℕ) (faults faults_now : ℕ) (result : Status) → Finishes w w_now [] words faults faults_now Done result → result ≡ ReadFault → ⊥
summary_reads w w_now words faults faults_now result ends is = elim (ends w [] (nothing_yet w [])) [
  | inl (done, _, _) ↦ done_or (sym done ∙ is)
  | inr (fault, _, _) ↦ fault_or (sym fault ∙ is)
]
  where
    done_or : Done ≡ ReadFault → ⊥
    done_or e = cc

    fault_or : WriteFault ≡ ReadFault → ⊥
    fault_or e = cc

pub summary_sink : (w w_now : Option (List ℕ)) (words : List ℕ) (faults faults_now : ℕ) (result : Status) → Finishes w w_now [] words faults faults_now Done result → SinkEnds faults faults_now result
summary_sink w w_now words faults faults_now result ends = elim (ends w [] (nothing_yet w [])) [
  | inl (done, _, same) ↦ subst (SinkEnds faults faults_now) (sym done) same
  | inr (fault, _, counts) ↦ subst (SinkEnds faults faults_now) (sym fault) counts
]

-- an end that counts no fault is none of a fault
pub no_read : (status : Status) → SourceEnds 0 0 status → status ≡ ReadFault → ⊥
no_read status ends is = let fault = subst (SourceEnds 0 0) is ends in let rose = fault.rose in omega (arith, rose)

pub no_write : (status : Status) → SinkEnds 0 0 status → status ≡ WriteFault → ⊥
no_write status ends is = let fault = subst (SinkEnds 0 0) is ends in let rose = fault.rose in omega (arith, rose)

-- an end without a summary is for want of memory
pub starved_status : {A B : Type 0} (status : Status) → (status ≡ Done → ⊥) → ((status ≡ Memory) × A) ⊎ ((status ≡ Done) × B) → (status ≡ Memory) × A
starved_status status other (inl is) = is
starved_status status other (inr (is, _)) = absurd (other is)

pub starved : (unit : Shape) (geometry : chip.Geometry) (plain : Bool) (seed : ℕ) (pages back : List Page) (faults faults_back : ℕ) (w : Option (List ℕ)) (status : Status) → status ≡ Memory
    → (last : Drive) → IsTranscript unit geometry faults faults_back pages back last.progress → MadeIs unit plain seed geometry pages back faults faults_back w w status
starved unit geometry plain seed pages back faults faults_back w status is last known =
    subst (MadeIs unit plain seed geometry pages back faults faults_back w w) (sym is) ((last, known), refl)

-- a drive that is done was made whole
pub made_whole : {A B : Type 0} (status : Status) → status ≡ Done → ((status ≡ Memory) × A) ⊎ ((status ≡ Done) × B) → B
made_whole status done (inl (is, _)) = absurd (differ (sym is ∙ done))
  where
    differ : Memory ≡ Done → ⊥
    differ e = cc
made_whole status done (inr (_, made)) = made

-- a status that is no fault of a write counts none
pub quiet_sink : (faults : ℕ) (status : Status) → (status ≡ WriteFault → ⊥) → SinkEnds faults faults status
quiet_sink faults Done other = refl
quiet_sink faults (BadLine number) other = refl
quiet_sink faults ReadFault other = refl
quiet_sink faults WriteFault other = absurd (other refl)
quiet_sink faults LongTrace other = refl
quiet_sink faults Usage other = refl
quiet_sink faults Memory other = refl
quiet_sink faults Geometry other = refl
quiet_sink faults ChipFault other = refl
quiet_sink faults (BadImage fault) other = refl
quiet_sink faults (BadCapture offset fault) other = refl

-- and one that is no fault of a read
pub quiet_source : (faults : ℕ) (status : Status) → (status ≡ ReadFault → ⊥) → SourceEnds faults faults status
quiet_source faults Done other = refl
quiet_source faults (BadLine number) other = refl
quiet_source faults ReadFault other = absurd (other refl)
quiet_source faults WriteFault other = refl
quiet_source faults LongTrace other = refl
quiet_source faults Usage other = refl
quiet_source faults Memory other = refl
quiet_source faults Geometry other = refl
quiet_source faults ChipFault other = refl
quiet_source faults (BadImage fault) other = refl
quiet_source faults (BadCapture offset fault) other = refl
