-- Lines that are served, or an image that is refused; and programs over these.
use Rattle.std.proofs.Common.{◌≡◌, ◌≢◌, ◌⊎◌, ℕ, Bool, List, [], Option, refl, sym, subst, inl, inr}
use Rattle.std.specs.Prelude.{⊤, Err}
use Rattle.std.specs.Io.KnownBytes.{Appends}
use Rattle.flash_pages.specs.Chip.{Page}
use Rattle.flash_pages.specs.declared.chip.Geometry.{Geometry}
use Rattle.chip_image.specs.declared.fault.ImageFault.{ImageFault}
use Rattle.chip_image.specs.declared.fault.ImageFault.TheVariants as image
use Rattle.hpb_outside.specs.Writes.{AppendsFront}
use Rattle.run_output.specs.declared.status.Status.{Status}
use Rattle.run_output.specs.declared.status.Status.TheVariants.{Done, BadLine, ReadFault, WriteFault, LongTrace, Usage, Memory, Geometry as BadGeometry, ChipFault, BadImage, BadCapture}
use Rattle.trace_replay.specs.Run.{ProgramIs, geometry_text}
use Rattle.chip_image.specs.Transfer.{RoseOnlyAt}
use Rattle.run_output.specs.Ends.{SourceEnds}
use Rattle.trace_replay.specs.Serving.{EndsWith, Found, RefusesImage, Serves, image_status, image_text}

-- the statuses of a run whose image is refused
abbrev pub RefusesAt : Status → Type 0
RefusesAt (BadImage fault) = ⊤
RefusesAt ReadFault = ⊤
RefusesAt ChipFault = ⊤
RefusesAt WriteFault = ⊤
RefusesAt _ = ⊥

refuses_for : (fault : ImageFault) → RefusesAt (image_status fault)
refuses_for image.Magic = tt
refuses_for image.Shape = tt
refuses_for image.PageKind = tt
refuses_for image.Cut = tt
refuses_for image.Taken = tt
refuses_for image.ReadFault = tt
refuses_for image.ChipFault = tt

module _ (imaged tells : Bool) (geometry : Geometry) (old new : List Page) (left left_now w w_now : Option (List ℕ)) where
  pub refuses_at : (status : Status) → RefusesImage imaged tells geometry old new left left_now w w_now status → RefusesAt status
  refuses_at status refuses = by_end refuses.ends
    where
      by_end : EndsWith (image_status refuses.fault) (image_text tells refuses.fault) w w_now status → RefusesAt status
      by_end (inl (is, _)) = subst RefusesAt (sym is) (refuses_for refuses.fault)
      by_end (inr (is, _, _)) = subst RefusesAt (sym is) tt

  -- where no image is refused, lines were served
  pub found_of : (lines : List Page → Option (List ℕ) → Status → Type 0) (status : Status) → ¬ RefusesAt status → Serves imaged tells geometry old new left left_now w w_now lines status
      → Found imaged geometry old left (λ chip mid. lines chip mid status)
  found_of lines status none (inl found) = found
  found_of lines status none (inr refuses) = absurd (none (refuses_at status refuses))

  -- no lines end so, and no image is refused so
  pub never_served : (lines : List Page → Option (List ℕ) → Status → Type 0) (status : Status) → ¬ RefusesAt status → ((chip : List Page) (mid : Option (List ℕ)) → lines chip mid status → ⊥)
      → Serves imaged tells geometry old new left left_now w w_now lines status → ⊥
  never_served lines status none no_lines serves = let found = found_of lines status none serves in no_lines found.0 found.1 found.3

  -- what is known of the lines may be weakened
  pub serves_as : (lines others : List Page → Option (List ℕ) → Status → Type 0) (status : Status) → ((chip : List Page) (mid : Option (List ℕ)) → lines chip mid status → others chip mid status)
      → Serves imaged tells geometry old new left left_now w w_now lines status → Serves imaged tells geometry old new left left_now w w_now others status
  serves_as lines others status leads (inl (chip, mid, finds, is)) = inl (chip, mid, finds, leads chip mid is)
  serves_as lines others status leads (inr refuses) = inr refuses

-- a count of faults of the source rises at ReadFault alone
pub refused_source : (tells : Bool) (w w_now : Option (List ℕ)) (before now : ℕ) (fault : ImageFault) (status : Status) → RoseOnlyAt {A = Unit {0}} {E = ImageFault} before now image.ReadFault (Err fault)
    → EndsWith (image_status fault) (image_text tells fault) w w_now status → SourceEnds before now status
refused_source tells w w_now before now fault status rose (inr (is, some, _)) = subst (SourceEnds before now) (sym is) (by_fault fault rose some)
  where
    by_fault : (f : ImageFault) → RoseOnlyAt {A = Unit {0}} {E = ImageFault} before now image.ReadFault (Err f) → image_text tells f ≢ [] → now ≡ before
    by_fault image.ReadFault r some = absurd (some refl)
    by_fault image.Magic r some = r.1 (λ e. cc)
    by_fault image.Shape r some = r.1 (λ e. cc)
    by_fault image.PageKind r some = r.1 (λ e. cc)
    by_fault image.Cut r some = r.1 (λ e. cc)
    by_fault image.Taken r some = r.1 (λ e. cc)
    by_fault image.ChipFault r some = r.1 (λ e. cc)
refused_source tells w w_now before now fault status rose (inl (is, _)) = subst (SourceEnds before now) (sym is) (by_fault fault rose)
  where
    by_fault : (f : ImageFault) → RoseOnlyAt {A = Unit {0}} {E = ImageFault} before now image.ReadFault (Err f) → SourceEnds before now (image_status f)
    by_fault image.ReadFault r = let risen = r.0 refl in record { later = risen.0; rose = risen.1; once = risen.2 }
    by_fault image.Magic r = r.1 (λ e. cc)
    by_fault image.Shape r = r.1 (λ e. cc)
    by_fault image.PageKind r = r.1 (λ e. cc)
    by_fault image.Cut r = r.1 (λ e. cc)
    by_fault image.Taken r = r.1 (λ e. cc)
    by_fault image.ChipFault r = r.1 (λ e. cc)

module _ (in_form named same : Type 0) (serves : Status → Type 0) (w w_now : Option (List ℕ)) where
  -- lines were served, and the program ends as they do
  pub program_serves : (status : Status) → (serves Usage → ⊥) → (serves BadGeometry → ⊥) → in_form → named → serves status → ProgramIs in_form named same serves w w_now status
  program_serves Usage no_usage no_geometry form is run = absurd (no_usage run)
  program_serves BadGeometry no_usage no_geometry form is run = absurd (no_geometry run)
  program_serves Memory no_usage no_geometry form is run = inr (form, is, run)
  program_serves WriteFault no_usage no_geometry form is run = inr (form, is, run)
  program_serves _ no_usage no_geometry form is run = (form, is, run)

  -- the chip doesn't serve what is named
  pub program_refused : {A B : Type 0} (status : Status) → in_form → ¬ named → same → ((status ≡ BadGeometry) × Appends w w_now geometry_text × A) ⊎ ((status ≡ WriteFault) × AppendsFront w w_now geometry_text × B)
      → ProgramIs in_form named same serves w w_now status
  program_refused status form differs kept (inl (is, all, _)) = subst (ProgramIs in_form named same serves w w_now) (sym is) (form, differs, kept, all)
  program_refused status form differs kept (inr (is, cut, _)) =
      subst (ProgramIs in_form named same serves w w_now) (sym is) (inl (geometry_text, inr (form, differs, refl), kept, cut))

  -- a program whose words and chip are as they have to be
  pub served_program : (status : Status) → in_form → named → ProgramIs in_form named same serves w w_now status → ((status ≡ Memory) × (w_now ≡ w)) ⊎ serves status
  served_program Usage form is (other, _, _) = absurd (other form)
  served_program BadGeometry form is (_, other, _, _) = absurd (other is)
  served_program Memory form is (inl (_, none)) = inl (refl, none)
  served_program Memory form is (inr (_, _, run)) = inr run
  served_program WriteFault form is (inl (text, inl (other, _), _, _)) = absurd (other form)
  served_program WriteFault form is (inl (text, inr (_, other, _), _, _)) = absurd (other is)
  served_program WriteFault form is (inr (_, _, run)) = inr run
  served_program Done form is (_, _, run) = inr run
  served_program (BadLine number) form is (_, _, run) = inr run
  served_program ReadFault form is (_, _, run) = inr run
  served_program LongTrace form is (_, _, run) = inr run
  served_program ChipFault form is (_, _, run) = inr run
  served_program (BadImage fault) form is (_, _, run) = inr run
  served_program (BadCapture offset fault) form is (_, _, run) = inr run

-- the chip doesn't serve what is named, and nothing was read
pub chip_refused : {A B S : Type 0} {source source_now : S} {pages back : List Page} (named : Type 0) (serves : Status → Type 0) (w w_now : Option (List ℕ)) (status : Status) → ¬ named
    → source_now ≡ source → back ≡ pages → ((status ≡ BadGeometry) × Appends w w_now geometry_text × A) ⊎ ((status ≡ WriteFault) × AppendsFront w w_now geometry_text × B)
    → ProgramIs ⊤ named ((source_now ≡ source) × (back ≡ pages)) serves w w_now status
chip_refused {A} {B} {S} {source} {source_now} {pages} {back} named serves w w_now status differs unread kept ends =
    program_refused ⊤ named ((source_now ≡ source) × (back ≡ pages)) serves w w_now status tt differs (unread, kept) ends

-- a program of words in form, by what they name
pub program_named : (form named other same : Type 0) (serves others : Status → Type 0) (w w_now : Option (List ℕ)) (status : Status) → form → (named → other) → (other → named)
    → ((s : Status) → serves s → others s) → ProgramIs ⊤ named same serves w w_now status → ProgramIs form other same others w w_now status
program_named form named other same serves others w w_now Usage is to back leads (never, _, _) = absurd (never tt)
program_named form named other same serves others w w_now BadGeometry is to back leads (_, differs, kept, all) = (is, λ o. differs (back o), kept, all)
program_named form named other same serves others w w_now Memory is to back leads (inl none) = inl none
program_named form named other same serves others w w_now Memory is to back leads (inr (_, n, run)) = inr (is, to n, leads Memory run)
program_named form named other same serves others w w_now WriteFault is to back leads (inl (text, inl (never, _), _, _)) = absurd (never tt)
program_named form named other same serves others w w_now WriteFault is to back leads (inl (text, inr (_, differs, text_is), kept, cut)) = inl (text, inr (is, λ o. differs (back o), text_is), kept, cut)
program_named form named other same serves others w w_now WriteFault is to back leads (inr (_, n, run)) = inr (is, to n, leads WriteFault run)
program_named form named other same serves others w w_now Done is to back leads (_, n, run) = (is, to n, leads Done run)
program_named form named other same serves others w w_now (BadLine number) is to back leads (_, n, run) = (is, to n, leads (BadLine number) run)
program_named form named other same serves others w w_now ReadFault is to back leads (_, n, run) = (is, to n, leads ReadFault run)
program_named form named other same serves others w w_now LongTrace is to back leads (_, n, run) = (is, to n, leads LongTrace run)
program_named form named other same serves others w w_now ChipFault is to back leads (_, n, run) = (is, to n, leads ChipFault run)
program_named form named other same serves others w w_now (BadImage fault) is to back leads (_, n, run) = (is, to n, leads (BadImage fault) run)
program_named form named other same serves others w w_now (BadCapture offset fault) is to back leads (_, n, run) = (is, to n, leads (BadCapture offset fault) run)
