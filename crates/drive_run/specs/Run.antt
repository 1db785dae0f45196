-- What a drive leaves.
use Rattle.std.specs.Prelude.{◌≡◌, ◌⊎◌, ℕ, ◌+◌, ◌<◌, ◌≤◌, List, [], ◌++◌, map, length, Option, Some, None, Bool}
use Rattle.std.specs.Io.KnownBytes.{Appends, Keeps}
use Rattle.flat_unit.specs.Sizes.{Sizes}
use Rattle.hpb_device.specs.Standing.{sizes_of}
use Rattle.hpb_device.specs.State.{DeviceState}
use Rattle.hpb_device.specs.declared.counts.Counts.{Counts}
use Rattle.driver_caches.specs.Machine.{Machine}
use Rattle.trace_text.specs.declared.drive.DriveLine.{DriveLine}
use Rattle.trace_text.specs.Drives.{drive_line}
use Rattle.trace_text.specs.Lines.{IsLine, TakesLine, EndsAt, WhereTold}
use Rattle.drive_rules.specs.Cuts.{CutDrain, CutLineTo}
use Rattle.drive_rules.specs.Lines.{Drive, DrainsTo, DriveLineTo, DrivesLines, drive_begun}
use Rattle.drive_rules.specs.Text.{said_text}
use Rattle.hpb_link.specs.Stands.{AtDrive}
use Rattle.hpb_link.specs.State.{LinkState}
use Rattle.run_output.specs.Ends.{CountsFault, HasMore, IsLong, ReadsAhead, StopsWithinLine, TakesLines}
use Rattle.run_output.specs.Texts.{bad_line_text, counts_text, long_text}
use Rattle.hpb_outside.specs.Writes.{AppendsFront, HasWrittenUpTo}
use Rattle.run_output.specs.declared.status.Status.{Status}
use Rattle.run_output.specs.declared.status.Status.TheVariants.{Done, BadLine, ReadFault, WriteFault, LongTrace, Memory}
use Rattle.drive_run.specs.Moments.{Cuts, Leads, Prints}
use Rattle.drive_run.specs.Play.{WantsMemory}
use Rattle.drive_run.specs.declared.turn.Turn.{Turn}
use Rattle.drive_run.specs.declared.turn.Turn.TheVariants.{Served, Starved, Ended, Bad, Unread, Unwritten}

-- a fault of the source is counted at a turn that could not read, and at no other
abbrev pub SourceFaults : (before now : ℕ) → Turn → Type 0
SourceFaults before now Unread = CountsFault before now
SourceFaults before now _ = now ≡ before

-- and one of the sink at a turn that could not write
abbrev pub SinkFaults : (before now : ℕ) → Turn → Type 0
SinkFaults before now Unwritten = CountsFault before now
SinkFaults before now _ = now ≡ before

-- the next line is too long, and nothing was taken; or it was taken and is none of a drive. This is what follows what
-- was taken.
abbrev pub IsBadNext : (left behind : Option (List ℕ)) → Type 0
IsBadNext left behind = (IsLong left × Keeps left behind)
    ⊎ ((text : List ℕ) × WhereTold (TakesLine text) left behind × (drive_line text ≡ None))

-- the next line was taken, and it is this one
pub record TakesNext (left behind : Option (List ℕ)) (line : DriveLine) : Type 0 where
  pub text : List ℕ
  pub whole : IsLine text
  pub takes : WhereTold (TakesLine text) left behind
  pub parses : drive_line text ≡ Some line

-- the sink failed before the next line was taken, or while it was served, or where there was no memory for its request
abbrev pub IsCutNext : Sizes → (left : Option (List ℕ)) → Drive → Drive → Type 0
IsCutNext s left d now = (now ≡ d)
    ⊎ ((line : DriveLine) × (behind : Option (List ℕ)) × TakesNext left behind line
    × (CutLineTo s line d now ⊎ WantsMemory s line d now))

-- what one line comes to, where the drive has come so far
abbrev pub TurnAt : (start : DeviceState) (only : Bool) (d : Drive) (old new : LinkState)
    (left left_now written written_now : Option (List ℕ)) (gathered gathered_now : List ℕ) → Turn → Type 0
TurnAt start only d old new left left_now written written_now gathered gathered_now Served =
    (line : DriveLine) × TakesNext left left_now line
    × Leads (DriveLineTo (sizes_of start) line d) start only new written written_now gathered gathered_now d.said
TurnAt start only d old new left left_now written written_now gathered gathered_now Starved =
    (line : DriveLine) × TakesNext left left_now line
    × Leads (WantsMemory (sizes_of start) line d) start only new written written_now gathered gathered_now d.said
TurnAt start only d old new left left_now written written_now gathered gathered_now Ended =
    WhereTold EndsAt left left_now × (new ≡ old) × Prints only written written_now gathered gathered_now d.said d.said
TurnAt start only d old new left left_now written written_now gathered gathered_now Unread =
    Keeps left left_now × (new ≡ old) × Prints only written written_now gathered [] d.said d.said
TurnAt start only d old new left left_now written written_now gathered gathered_now Bad =
    IsBadNext left left_now × (new ≡ old) × Prints only written written_now gathered gathered_now d.said d.said
TurnAt start only d old new left left_now written written_now gathered gathered_now Unwritten =
    Cuts (IsCutNext (sizes_of start) left d) start only new written written_now gathered d.said

abbrev pub TurnIs : Bool → (old new : LinkState) → (left left_now written written_now : Option (List ℕ))
    → (gathered gathered_now : List ℕ) → Turn → Type 0
TurnIs only old new left left_now written written_now gathered gathered_now turn =
    (start : DeviceState) (d : Drive) → AtDrive start old d
    → TurnAt start only d old new left left_now written written_now gathered gathered_now turn

-- so many lines were taken and served, and this is known of the moment that they led to
pub record Drove (s : Sizes) (machine : Machine) (left now : Option (List ℕ)) (count : ℕ) (facts : Drive → Type 0)
    : Type 0 where
  pub texts : List (List ℕ)
  pub lines : List DriveLine
  pub moment : Drive
  pub taken : TakesLines left texts now
  pub parsed : map drive_line texts ≡ map (λ (line : DriveLine). Some line) lines
  pub counted : length texts ≡ count
  pub drives : DrivesLines s lines (drive_begun machine) moment
  pub shows : facts moment

-- What a drive had to write when its sink failed, where so many lines were taken and served: all that was said as far
-- as the next line was served, or the drain at the end, or all of it with the last words.
abbrev pub IsCutShort : Sizes → (counted : Drive → Counts → Type 0) → (mid : Option (List ℕ)) → (limit n : ℕ)
    → (d last : Drive) → (words : List ℕ) → Type 0
IsCutShort s counted mid limit n d last words =
    (IsCutNext s mid d last × (n ≤ limit) × (n ≡ limit → last ≡ d) × (words ≡ []))
    ⊎ ((last ≡ d) × (n < limit) × (words ≡ bad_line_text (n + 1)) × ((behind : Option (List ℕ)) × IsBadNext mid behind))
    ⊎ ((last ≡ d) × (n ≡ limit) × (words ≡ long_text) × HasMore mid)
    ⊎ ((n ≤ limit) × ((behind : Option (List ℕ)) × WhereTold EndsAt mid behind)
    × ((CutDrain s d last × (words ≡ []))
    ⊎ (DrainsTo s d last × ((counts : Counts) × counted last counts × (words ≡ counts_text counts)))))

-- What a drive leaves at each status, with answers alone or not. `good` is what is known of the moment and of the two
-- ends, `counted` what is known of the counts at the end, and `left_now` is what is left in the source.
abbrev pub DriveIs : Sizes → Machine → (only : Bool) → (good : Drive → Type 0) → (counted : Drive → Counts → Type 0)
    → (left left_now written written_now : Option (List ℕ)) → ℕ → Status → Type 0
DriveIs s machine only good counted left left_now written written_now limit Done =
    (mid : Option (List ℕ)) × (n : ℕ) × (last : Drive) × Drove s machine left mid n (λ d. DrainsTo s d last)
    × good last × ((counts : Counts) × counted last counts
    × Appends written written_now (said_text only last.said ++ counts_text counts))
    × (n ≤ limit) × WhereTold EndsAt mid left_now
DriveIs s machine only good counted left left_now written written_now limit (BadLine number) =
    (mid : Option (List ℕ)) × (behind : Option (List ℕ)) × (n : ℕ)
    × Drove s machine left mid n (λ d. good d
    × Appends written written_now (said_text only d.said ++ bad_line_text number))
    × (n < limit) × (number ≡ n + 1) × IsBadNext mid behind × ReadsAhead behind left_now
DriveIs s machine only good counted left left_now written written_now limit ReadFault =
    (mid : Option (List ℕ)) × (n : ℕ)
    × Drove s machine left mid n (λ d. good d × Appends written written_now (said_text only d.said))
    × (n ≤ limit) × StopsWithinLine mid left_now
DriveIs s machine only good counted left left_now written written_now limit LongTrace =
    (mid : Option (List ℕ))
    × Drove s machine left mid limit (λ d. good d × Appends written written_now (said_text only d.said ++ long_text))
    × HasMore mid × ReadsAhead mid left_now
DriveIs s machine only good counted left left_now written written_now limit Memory =
    (mid : Option (List ℕ)) × (behind : Option (List ℕ)) × (n : ℕ) × (line : DriveLine) × (last : Drive)
    × Drove s machine left mid n (λ d. WantsMemory s line d last) × good last
    × Appends written written_now (said_text only last.said)
    × (n < limit) × TakesNext mid behind line × ReadsAhead behind left_now
DriveIs s machine only good counted left left_now written written_now limit WriteFault =
    (mid : Option (List ℕ)) × (n : ℕ) × (last : Drive) × (words : List ℕ)
    × Drove s machine left mid n (λ d. IsCutShort s counted mid limit n d last words) × good last
    × AppendsFront written written_now (said_text only last.said ++ words)
DriveIs s machine only good counted left left_now written written_now limit _ = ⊥

-- a drain was made and all that was said is written, and the counts; or a front of it, where the sink failed
abbrev pub DriveEnds : Bool → (old new : LinkState) → (written written_now : Option (List ℕ)) → (gathered : List ℕ)
    → (faults faults_now : ℕ) → Status → Type 0
DriveEnds only old new written written_now gathered faults faults_now result =
    (start : DeviceState) (before : Option (List ℕ)) (d : Drive) → AtDrive start old d
    → HasWrittenUpTo before written (said_text only d.said) gathered
    → ((result ≡ Done) × (faults_now ≡ faults) × ((last : Drive) × DrainsTo (sizes_of start) d last
    × AtDrive start new last × Appends before written_now (said_text only last.said ++ counts_text new.device.counts)))
    ⊎ ((result ≡ WriteFault) × CountsFault faults faults_now × ((last : Drive) × AtDrive start new last
    × ((CutDrain (sizes_of start) d last × AppendsFront before written_now (said_text only last.said))
    ⊎ (DrainsTo (sizes_of start) d last
    × AppendsFront before written_now (said_text only last.said ++ counts_text new.device.counts)))))
