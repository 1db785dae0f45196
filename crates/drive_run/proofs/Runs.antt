-- A drive goes on line by line, and how it ends.
use Rattle.std.proofs.Common.{◌≡◌, ℕ, ◌+◌, ◌<◌, ◌≤◌, Bool, List, [], ◌∷◌, ◌++◌, length, Option, Some, None, Result, Ok, Err, refl, sym, ◌∙◌, ap, subst, arith, inl, inr, ◌⊎◌, length-append}
use Rattle.std.specs.Prelude.{IsErr}
use Rattle.std.proofs.lemmas.Bool.{false≢true}
use Rattle.std.proofs.lemmas.List.{map-append}
use Rattle.std.specs.Io.KnownBytes.{Appends, prepend_known}
use Rattle.flat_unit.specs.Sizes.{Sizes}
use Rattle.hpb_device.specs.Standing.{sizes_of}
use Rattle.hpb_device.specs.State.{DeviceState}
use Rattle.hpb_device.specs.declared.counts.Counts.{Counts}
use Rattle.replay_standing.specs.Standing.{AreCountsOf}
use Rattle.driver_caches.specs.Machine.{Machine}
use Rattle.trace_text.specs.Drives.{drive_line}
use Rattle.trace_text.specs.Lines.{EndsAt, WhereTold}
use Rattle.trace_text.specs.declared.drive.DriveLine.{DriveLine}
use Rattle.drive_rules.specs.Cuts.{CutDrain, CutLineTo}
use Rattle.drive_rules.specs.Lines.{DrainsTo, Drive, DriveLineTo, DrivesLines, drive_begun}
use Rattle.drive_rules.specs.Said.{Said}
use Rattle.drive_rules.specs.Text.{said_text}
use Rattle.hpb_link.specs.Stands.{AtDrive}
use Rattle.hpb_outside.specs.Faults.{HasCause}
use Rattle.hpb_link.specs.State.{LinkState}
use Rattle.run_output.specs.Ends.{CountsFault, Finishes, HasMore, LastIs, ReadsAhead, SinkEnds, SourceEnds, StopsWithinLine}
use Rattle.run_output.specs.Texts.{bad_line_text, counts_text, long_text}
use Rattle.hpb_outside.specs.Writes.{AppendsFront, HasWrittenUpTo}
use Rattle.run_output.specs.Writes.{KeepsText}
use Rattle.run_output.specs.declared.status.Status.{Status}
use Rattle.run_output.specs.declared.status.Status.TheVariants.{Done, BadLine, ReadFault, WriteFault, LongTrace, Usage, Memory, Geometry, ChipFault, BadImage, BadCapture}
use Rattle.run_output.proofs.Ended.{ends_wordless, last_since, takes_more}
use Rattle.hpb_outside.proofs.Written.{nothing_yet}
use Rattle.run_output.proofs.Written.{cut_of, front_longer, front_wordless, gathers_more, whole_of, wordless}
use Rattle.drive_run.specs.Moments.{Cuts, Leads, Plays, Prints}
use Rattle.drive_run.specs.Play.{WantsMemory}
use Rattle.drive_run.specs.Run.{Drove, DriveEnds, DriveIs, IsBadNext, IsCutNext, IsCutShort, TakesNext}
use Rattle.drive_run.proofs.Counting.{counts_of, lines_count, lines_read}
use Rattle.drive_run.proofs.Playing.{front_then, prints_then}
use Rattle.drive_run.proofs.Saying.{said_none}

-- what holds between two lines
abbrev pub StandsAndPrinted : (start : DeviceState) (only : Bool) (now : LinkState) (before written : Option (List ℕ)) (gathered : List ℕ) → Drive → Type 0
StandsAndPrinted start only now before written gathered d = AtDrive start now d × HasWrittenUpTo before written (said_text only d.said) gathered

pub drove_begins : (start : DeviceState) (only : Bool) (now : LinkState) (left w : Option (List ℕ)) (gathered : List ℕ) → AtDrive start now (drive_begun now.driver) → gathered ≡ []
    → Drove (sizes_of start) now.driver left left 0 (StandsAndPrinted start only now w w gathered)
drove_begins start only now left w gathered at fresh = record {
  texts = [];
  lines = [];
  moment = drive_begun now.driver;
  taken = refl;
  parsed = refl;
  counted = refl;
  drives = refl;
  shows = (at, rw (said_none only, fresh) (nothing_yet w []));
}

-- one line more
lines_more : (s : Sizes) (lines : List DriveLine) (line : DriveLine) (d mid now : Drive) → DrivesLines s lines d mid → DriveLineTo s line mid now → DrivesLines s (lines ++ line ∷ []) d now
lines_more s [] line d mid now same one = (now, subst (λ (from : Drive). DriveLineTo s line from now) same one, refl)
lines_more s (x ∷ lines) line d mid now (then, first, rest) one = (then, first, lines_more s lines line then mid now rest one)

pub drove_more : (start : DeviceState) (only : Bool) (machine : Machine) (old new : LinkState) (left mid now before w w_now : Option (List ℕ)) (gathered gathered_now : List ℕ) (n next : ℕ)
    → (drove : Drove (sizes_of start) machine left mid n (StandsAndPrinted start only old before w gathered)) → (line : DriveLine) → TakesNext mid now line
    → Leads (DriveLineTo (sizes_of start) line drove.moment) start only new w w_now gathered gathered_now drove.moment.said → next ≡ n + 1
    → Drove (sizes_of start) machine left now next (StandsAndPrinted start only new before w_now gathered_now)
drove_more start only machine old new left mid now before w w_now gathered gathered_now n next drove line takes leads is = record {
  texts = drove.texts ++ takes.text ∷ [];
  lines = drove.lines ++ line ∷ [];
  moment = leads.moment;
  taken = takes_more left drove.texts mid now takes.text drove.taken takes.whole takes.takes;
  parsed = map-append drive_line drove.texts (takes.text ∷ [])
      ∙ ((λ i. drove.parsed i ++ takes.parses i ∷ []) ∙ sym (map-append (λ (l : DriveLine). Some l) drove.lines (line ∷ [])));
  counted = omega (arith, length-append drove.texts (takes.text ∷ []), drove.counted, is);
  drives = lines_more (sizes_of start) drove.lines line (drive_begun machine) drove.moment leads.moment drove.drives leads.reached;
  shows = (leads.stands, leads.prints before drove.shows.1);
}

-- a drive has no more requests than lines
pub drove_few : (start : DeviceState) (only : Bool) (machine : Machine) (now : LinkState) (left mid before w : Option (List ℕ)) (gathered : List ℕ) (n : ℕ)
    → (drove : Drove (sizes_of start) machine left mid n (StandsAndPrinted start only now before w gathered)) → now.count ≤ n
drove_few start only machine now left mid before w gathered n drove =
    let few : drove.moment.count ≤ 0 + length drove.lines = lines_count (sizes_of start) drove.lines (drive_begun machine) drove.moment drove.drives in
    omega (arith, few, lines_read drove.texts drove.lines drove.parsed, drove.counted, drove.shows.0.count)

-- other facts of the same lines
pub drove_with : (s : Sizes) (machine : Machine) (left now : Option (List ℕ)) (n : ℕ) (facts others : Drive → Type 0) (drove : Drove s machine left now n facts) → others drove.moment
    → Drove s machine left now n others
drove_with s machine left now n facts others drove shows = record {
  texts = drove.texts;
  lines = drove.lines;
  moment = drove.moment;
  taken = drove.taken;
  parsed = drove.parsed;
  counted = drove.counted;
  drives = drove.drives;
  shows = shows;
}

module _ (s : Sizes) (machine : Machine) (only : Bool) (good : Drive → Type 0) (counted : Drive → Counts
    → Type 0) (left mid left_now before written : Option (List ℕ)) (limit n : ℕ) (facts : Drive → Type 0)
    (drove : Drove s machine left mid n facts) where
  abbrev pub DriveStops : Status → Type 0
  DriveStops status = DriveIs s machine only good counted left left_now before written limit status

  pub ends_cut : (last : Drive) (words : List ℕ) → IsCutShort s counted mid limit n drove.moment last words → good last → AppendsFront before written (said_text only last.said ++ words)
      → DriveStops WriteFault
  ends_cut last words short well cut = (mid, n, last, words, drove_with s machine left mid n facts (λ d. IsCutShort s counted mid limit n d last words) drove short, well, cut)

  -- the sink failed with no last words
  pub ends_front : (last : Drive) → IsCutShort s counted mid limit n drove.moment last [] → good last → AppendsFront before written (said_text only last.said) → DriveStops WriteFault
  ends_front last short well cut = ends_cut last [] short well (front_wordless before written (said_text only last.said) cut)

  pub ends_done : (last : Drive) (counts : Counts) → DrainsTo s drove.moment last → good last → counted last counts → Appends before written (said_text only last.said ++ counts_text counts)
      → n ≤ limit → WhereTold EndsAt mid left_now → DriveStops Done
  ends_done last counts drains well are all few ends =
      (mid, n, last, drove_with s machine left mid n facts (λ d. DrainsTo s d last) drove drains, well, (counts, are, all), few, ends)

  -- the source failed
  pub ends_unread : good drove.moment → n ≤ limit → StopsWithinLine mid left_now → Appends before written (said_text only drove.moment.said) → DriveStops ReadFault
  ends_unread well few stops all = (mid, n, drove_with s machine left mid n facts (λ d. good d × Appends before written (said_text only d.said)) drove (well, all), few, stops)

  -- a line that a drive can't have
  pub ends_bad : {A B : Type 0} (result : Status) (number : ℕ) (behind : Option (List ℕ)) → good drove.moment → number ≡ n + 1 → n < limit → IsBadNext mid behind → ReadsAhead behind left_now
      → ((result ≡ BadLine number) × Appends before written (said_text only drove.moment.said ++ bad_line_text number) × A)
      ⊎ ((result ≡ WriteFault) × AppendsFront before written (said_text only drove.moment.said ++ bad_line_text number) × B) → DriveStops result
  ends_bad result number behind well numbered few bad ahead (inl (is, all, _)) =
      subst DriveStops (sym is) (
        mid,
        behind,
        n,
        drove_with s machine left mid n facts (λ d. good d × Appends before written (said_text only d.said ++ bad_line_text number)) drove (well, all),
        few,
        numbered,
        bad,
        ahead,
      )
  ends_bad result number behind well numbered few bad ahead (inr (is, cut, _)) =
      subst DriveStops (sym is) (ends_cut drove.moment (bad_line_text number) (inr (inl (refl, few, ap bad_line_text numbered, (behind, bad)))) well cut)

  -- the last line that may be taken was taken, and the drive doesn't end there
  pub ends_last : (result : Status) → good drove.moment → n ≡ limit → (result ≡ Done → ⊥) → LastIs before written (said_text only drove.moment.said) mid left_now result → DriveStops result
  ends_last Done well all other last = absurd (other refl)
  ends_last LongTrace well all other (written_all, more, ahead) = (
    mid,
    subst (λ (count : ℕ). Drove s machine left mid count (λ d. good d × Appends before written (said_text only d.said ++ long_text))) all
        (drove_with s machine left mid n facts (λ d. good d × Appends before written (said_text only d.said ++ long_text)) drove (well, written_all)),
    more,
    ahead,
  )
  ends_last ReadFault well all other (written_all, stops) = ends_unread well (omega arith) stops written_all
  ends_last WriteFault well all other (words, last, cut) = ends_cut drove.moment words (by_words last) well cut
    where
      by_words : (words ≡ []) ⊎ ((words ≡ long_text) × HasMore mid) → IsCutShort s counted mid limit n drove.moment drove.moment words
      by_words (inl none) = inl (inl refl, omega arith, λ _. refl, none)
      by_words (inr (are, more)) = inr (inr (inl (refl, all, are, more)))
  ends_last (BadLine number) well all other none = absurd none
  ends_last Usage well all other none = absurd none
  ends_last Memory well all other none = absurd none
  ends_last Geometry well all other none = absurd none
  ends_last ChipFault well all other none = absurd none
  ends_last (BadImage fault) well all other none = absurd none
  ends_last (BadCapture offset fault) well all other none = absurd none

  -- the sink failed at the next line
  pub ends_unwritten : (last : Drive) → n < limit → IsCutNext s mid drove.moment last → good last → AppendsFront before written (said_text only last.said) → DriveStops WriteFault
  ends_unwritten last few next well cut = ends_front last (inl (next, omega arith, λ all. absurd (omega arith), refl)) well cut

  -- there is no memory for the request of the next line
  pub ends_starved : {A B : Type 0} (result : Status) (last : Drive) (behind : Option (List ℕ)) (line : DriveLine) → n < limit → TakesNext mid behind line → WantsMemory s line drove.moment last
      → good last → ReadsAhead behind left_now
      → ((result ≡ Memory) × Appends before written (said_text only last.said ++ []) × A) ⊎ ((result ≡ WriteFault) × AppendsFront before written (said_text only last.said ++ []) × B)
      → DriveStops result
  ends_starved result last behind line few takes wants well ahead (inl (is, all, _)) =
      subst DriveStops (sym is) (
        mid,
        behind,
        n,
        line,
        last,
        drove_with s machine left mid n facts (λ d. WantsMemory s line d last) drove wants,
        well,
        wordless before written (said_text only last.said) all,
        few,
        takes,
        ahead,
      )
  ends_starved result last behind line few takes wants well ahead (inr (is, cut, _)) =
      subst DriveStops (sym is) (ends_cut last [] (inl (inr (line, behind, takes, inr wants), omega arith, λ all. absurd (omega arith), refl)) well cut)

-- a call that failed has counted a fault, and one that worked none
counted_fault : {T E : Type 0} (before now : ℕ) (r : Result T E) → HasCause before now r → IsErr r → CountsFault before now
counted_fault before now (Ok x) cause failed = absurd (false≢true failed)
counted_fault before now (Err x) cause failed = record { later = cause.later; rose = cause.failed; once = cause.once }

pub counted_none : {T E : Type 0} (before now : ℕ) (r : Result T E) → HasCause before now r → ¬ IsErr r → now ≡ before
counted_none before now (Ok x) cause worked = cause.given
counted_none before now (Err x) cause worked = absurd (worked refl)

-- the sink failed while the last drain was made
pub drain_cut : {T E : Type 0} (only : Bool) (old new : LinkState) (a b : Option (List ℕ)) (one two : List ℕ) (n m : ℕ) (r : Result T E) → Plays DrainsTo CutDrain only old new a b one two r
    → HasCause n m r → IsErr r → DriveEnds only old new a b one n m WriteFault
drain_cut only old new a b one two n m r plays cause failed start before d at so_far =
    let cuts = cut_of r _ _ failed (plays start d at) in
    inr (refl, counted_fault n m r cause failed, (cuts.moment, cuts.stands, inl (cuts.reached, cuts.prints before so_far)))

module _ {T U E F : Type 0} (only : Bool) (old new : LinkState) (a b c : Option (List ℕ)) (one two three : List ℕ) (n m k : ℕ) (r : Result T E) (q : Result U F)
    (plays : Plays DrainsTo CutDrain only old new a b one two r) (caused : HasCause n m r) (worked : ¬ IsErr r) (keeps : KeepsText b c two three q) (cause : HasCause m k q) where
  -- it failed behind it
  pub room_cut : IsErr q → DriveEnds only old new a c one n k WriteFault
  room_cut failed start before d at so_far =
      let leads = whole_of r _ _ worked (plays start d at) in
      let cut = cut_of q _ _ failed (keeps before (said_text only leads.moment.said) (leads.prints before so_far)) in
      let one_fault = subst (λ (f : ℕ). CountsFault f k) (counted_none n m r caused worked) (counted_fault m k q cause failed) in
      inr (refl, one_fault, (leads.moment, leads.stands, inr (leads.reached, front_longer before c (said_text only leads.moment.said) (counts_text new.device.counts) cut)))

  -- the counts are the last words
  pub drive_ends : (all : List ℕ) (e : Option (List ℕ)) (f : ℕ) (result : Status) → ¬ IsErr q → all ≡ three ++ counts_text new.device.counts → Finishes c e all [] k f Done result
      → DriveEnds only old new a e one n f result
  drive_ends all e f result kept is finishes start before d at so_far =
      let leads = whole_of r _ _ worked (plays start d at) in
      let text = said_text only leads.moment.said in
      let whole = whole_of q _ _ kept (keeps before text (leads.prints before so_far)) in
      let gathered = subst (HasWrittenUpTo before c (text ++ counts_text new.device.counts)) (sym is) (gathers_more before c text three (counts_text new.device.counts) whole) in
      let none = counted_none m k q cause kept ∙ counted_none n m r caused worked in
      by_end leads.moment leads.reached leads.stands
      (last_since n k f result Done none (ends_wordless before e (text ++ counts_text new.device.counts) result Done (finishes before (text ++ counts_text new.device.counts) gathered)))
    where
      by_end : (last : Drive) → DrainsTo (sizes_of start) d last → AtDrive start new last
          → ((result ≡ Done) × Appends before e (said_text only last.said ++ counts_text new.device.counts) × (f ≡ n))
          ⊎ ((result ≡ WriteFault) × AppendsFront before e (said_text only last.said ++ counts_text new.device.counts) × CountsFault n f)
          → ((result ≡ Done) × (f ≡ n) × ((last : Drive) × DrainsTo (sizes_of start) d last
          × AtDrive start new last × Appends before e (said_text only last.said ++ counts_text new.device.counts)))
          ⊎ ((result ≡ WriteFault) × CountsFault n f × ((last : Drive) × AtDrive start new last
          × ((CutDrain (sizes_of start) d last × AppendsFront before e (said_text only last.said))
          ⊎ (DrainsTo (sizes_of start) d last × AppendsFront before e (said_text only last.said ++ counts_text new.device.counts)))))
      by_end last drains stands (inl (ok, written, same)) = inl (ok, same, (last, drains, stands, written))
      by_end last drains stands (inr (cut, front, fault)) = inr (cut, fault, (last, stands, inr (drains, front)))

-- a drive that was taken whole ended
pub ends_whole : {A B : Type 0} (start : DeviceState) (machine : Machine) (only : Bool) (new : LinkState) (left mid left_now before written : Option (List ℕ)) (limit n : ℕ) (facts : Drive → Type 0)
    → (drove : Drove (sizes_of start) machine left mid n facts) (result : Status) → n ≤ limit → WhereTold EndsAt mid left_now
    → ((result ≡ Done) × A × ((last : Drive) × DrainsTo (sizes_of start) drove.moment last
    × AtDrive start new last × Appends before written (said_text only last.said ++ counts_text new.device.counts)))
    ⊎ ((result ≡ WriteFault) × B × ((last : Drive) × AtDrive start new last
    × ((CutDrain (sizes_of start) drove.moment last × AppendsFront before written (said_text only last.said))
    ⊎ (DrainsTo (sizes_of start) drove.moment last × AppendsFront before written (said_text only last.said ++ counts_text new.device.counts)))))
    → DriveIs (sizes_of start) machine only (AtDrive start new) (λ d. AreCountsOf start d.progress) left left_now before written limit result
ends_whole start machine only new left mid left_now before written limit n facts drove result few ends (inl (is, _, (last, drains, at, all))) =
    subst (DriveIs (sizes_of start) machine only (AtDrive start new) (λ d. AreCountsOf start d.progress) left left_now before written limit) (sym is)
    (ends_done (sizes_of start) machine only (AtDrive start new) (λ d. AreCountsOf start d.progress) left mid left_now before written limit n facts drove
    last new.device.counts drains at (counts_of start new.device last.progress at.standing) all few ends)
ends_whole start machine only new left mid left_now before written limit n facts drove result few ends (inr (is, _, (last, at, inl (cut, front)))) =
    subst (DriveIs (sizes_of start) machine only (AtDrive start new) (λ d. AreCountsOf start d.progress) left left_now before written limit) (sym is)
    (ends_front (sizes_of start) machine only (AtDrive start new) (λ d. AreCountsOf start d.progress) left mid left_now before written limit n facts drove
    last (inr (inr (inr (few, (left_now, ends), inl (cut, refl))))) at front)
ends_whole start machine only new left mid left_now before written limit n facts drove result few ends (inr (is, _, (last, at, inr (drains, front)))) =
    subst (DriveIs (sizes_of start) machine only (AtDrive start new) (λ d. AreCountsOf start d.progress) left left_now before written limit) (sym is)
    (ends_cut (sizes_of start) machine only (AtDrive start new) (λ d. AreCountsOf start d.progress) left mid left_now before written limit n facts drove
    last (counts_text new.device.counts)
    (inr (inr (inr (few, (left_now, ends), inr (drains, (new.device.counts, counts_of start new.device last.progress at.standing, refl)))))) at front)

-- what the end of a drive leaves of the count of the sink's faults, and of the source's
pub sink_whole : {A B : Type 0} (before now : ℕ) (result : Status) → ((result ≡ Done) × (now ≡ before) × A) ⊎ ((result ≡ WriteFault) × CountsFault before now × B) → SinkEnds before now result
sink_whole before now result (inl (is, none, _)) = subst (SinkEnds before now) (sym is) none
sink_whole before now result (inr (is, one, _)) = subst (SinkEnds before now) (sym is) one

pub source_whole : {A B : Type 0} (before now faults faults_now : ℕ) (result : Status) → now ≡ before
    → ((result ≡ Done) × (faults_now ≡ faults) × A) ⊎ ((result ≡ WriteFault) × CountsFault faults faults_now × B)
    → SourceEnds before now result
source_whole before now faults faults_now result same (inl (is, _, _)) = subst (SourceEnds before now) (sym is) same
source_whole before now faults faults_now result same (inr (is, _, _)) = subst (SourceEnds before now) (sym is) same

-- a text that is at its end has nothing left in its source
pub ends_in_source : (mid : Option (List ℕ)) (held : List ℕ) (left : Option (List ℕ)) → WhereTold EndsAt mid (prepend_known held left) → WhereTold EndsAt mid left
ends_in_source None held left ends = tt
ends_in_source (Some text) held None ends = absurd ends
ends_in_source (Some text) [] (Some rest) ends = ends
ends_in_source (Some text) (x ∷ held) (Some rest) ends = absurd (is_none ends.1)
  where
    is_none : x ∷ (held ++ rest) ≡ [] → ⊥
    is_none is = cc

-- what was written before a call prints what it leads to
pub leads_since : (next : Drive → Type 0) (start : DeviceState) (only : Bool) (now : LinkState) (a b c : Option (List ℕ)) (one two three : List ℕ) (said : List Said)
    → Prints only a b one two said said
    → Leads next start only now b c two three said → Leads next start only now a c one three said
leads_since next start only now a b c one two three said first leads = record {
  moment = leads.moment;
  reached = leads.reached;
  stands = leads.stands;
  prints = prints_then only a b c one two three said said leads.moment.said first leads.prints;
}

-- where nothing is gathered any more
pub prints_emptied : (only : Bool) (a b : Option (List ℕ)) (one two : List ℕ) (said : List Said) → two ≡ [] → Prints only a b one two said said → Prints only a b one [] said said
prints_emptied only a b one two said none first before so_far = subst (λ (g : List ℕ). HasWrittenUpTo before b (said_text only said) g) none (first before so_far)

-- a line that was taken is cut
pub turn_cut : (start : DeviceState) (only : Bool) (d : Drive) (now : LinkState) (left behind a b c : Option (List ℕ)) (one two : List ℕ) (line : DriveLine) → TakesNext left behind line
    → Prints only a b one two d.said d.said → Cuts (CutLineTo (sizes_of start) line d) start only now b c two d.said
    → Cuts (IsCutNext (sizes_of start) left d) start only now a c one d.said
turn_cut start only d now left behind a b c one two line takes first cuts = record {
  moment = cuts.moment;
  reached = inr (line, behind, takes, inl cuts.reached);
  stands = cuts.stands;
  prints = front_then only a b c one two d.said d.said cuts.moment.said first cuts.prints;
}
