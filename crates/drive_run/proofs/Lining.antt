-- What the lines of a drive come to.
use Rattle.std.proofs.Common.{◌≡◌, ℕ, Bool, List, Option, Result, Ok, Err, inl, refl, ◌∙◌, subst}
use Rattle.flat_unit.specs.Sizes.{Sizes}
use Rattle.hpb_device.specs.Standing.{sizes_of}
use Rattle.hpb_device.specs.State.{DeviceState}
use Rattle.driver_laws.specs.declared.request.Request.TheVariants.{Read as ReadOf, Write as WriteOf}
use Rattle.trace_text.specs.declared.drive.DriveLine.{DriveLine}
use Rattle.trace_text.specs.declared.drive.DriveLine.TheVariants.{Read, Write}
use Rattle.drive_rules.specs.Cuts.{CutDrain, CutLineTo, CutRequest}
use Rattle.drive_rules.specs.Lines.{Drive, DriveLineTo, Requests, pattern_bytes}
use Rattle.hpb_driver.specs.State.{is_inside}
use Rattle.hpb_link.specs.Stands.{AtDrive}
use Rattle.hpb_link.specs.State.{LinkState}
use Rattle.drive_run.specs.declared.line.Served.{Served}
use Rattle.drive_run.specs.declared.line.Served.TheVariants.{Whole, NoMemory}
use Rattle.drive_run.specs.Moments.{Cuts, Leads}
use Rattle.drive_run.specs.Play.{Asks, Serves}
use Rattle.drive_run.proofs.Requesting.{read_there, write_there}

module _ (only : Bool) (old new : LinkState) (a b : Option (List ℕ)) (one two : List ℕ) where
  -- a read
  pub read_serves : {E : Type 0} (lun lba n : ℕ) (r : Result Served E) → lun ≡ old.lun → Asks (ReadOf lun lba n) only old new a b one two r → Serves (Read lba n) only old new a b one two r
  read_serves lun lba n (Ok Whole) same asks start d at =
      let s = sizes_of start in
      let leads = subst (λ (l : ℕ). Leads (Requests s (is_inside d.machine (ReadOf l lba n)) (ReadOf l lba n) d) start only new a b one two d.said) (same ∙ at.lun) (asks start d at) in
      subst (λ (there : Bool). Leads (Requests s there (ReadOf d.lun lba n) d) start only new a b one two d.said) (read_there start old d lba n at) leads
  read_serves lun lba n (Ok NoMemory) same asks start d at = asks start d at
  read_serves lun lba n (Err e) same asks start d at =
      let s = sizes_of start in
      let cuts = subst (λ (l : ℕ). Cuts (CutRequest s (is_inside d.machine (ReadOf l lba n)) (ReadOf l lba n) d) start only new a b one d.said) (same ∙ at.lun) (asks start d at) in
      subst (λ (there : Bool). Cuts (CutRequest s there (ReadOf d.lun lba n) d) start only new a b one d.said) (read_there start old d lba n at) cuts

  -- a write
  pub write_serves : {E : Type 0} (lun lba n seed : ℕ) (bytes : List ℕ) (r : Result Served E) → lun ≡ old.lun → ((s : Sizes) → s.block ≡ 4096 → bytes ≡ pattern_bytes s seed lba n)
      → Asks (WriteOf lun lba n bytes) only old new a b one two r → Serves (Write lba n seed) only old new a b one two r
  write_serves lun lba n seed bytes (Ok Whole) same are asks start d at =
      let s = sizes_of start in
      let all = pattern_bytes s seed lba n in
      let leads0 = subst (λ (l : ℕ). Leads (Requests s (is_inside d.machine (WriteOf l lba n bytes)) (WriteOf l lba n bytes) d) start only new a b one two d.said) (same ∙ at.lun) (asks start d at) in
      let leads1 = subst (λ (bs : List ℕ). Leads (Requests s (is_inside d.machine (WriteOf d.lun lba n bs)) (WriteOf d.lun lba n bs) d) start only new a b one two d.said) (are s refl) leads0 in
      subst (λ (there : Bool). Leads (Requests s there (WriteOf d.lun lba n all) d) start only new a b one two d.said) (write_there start old d lba n all at) leads1
  write_serves lun lba n seed bytes (Ok NoMemory) same are asks start d at = asks start d at
  write_serves lun lba n seed bytes (Err e) same are asks start d at =
      let s = sizes_of start in
      let all = pattern_bytes s seed lba n in
      let cuts0 = subst (λ (l : ℕ). Cuts (CutRequest s (is_inside d.machine (WriteOf l lba n bytes)) (WriteOf l lba n bytes) d) start only new a b one d.said) (same ∙ at.lun) (asks start d at) in
      let cuts1 = subst (λ (bs : List ℕ). Cuts (CutRequest s (is_inside d.machine (WriteOf d.lun lba n bs)) (WriteOf d.lun lba n bs) d) start only new a b one d.said) (are s refl) cuts0 in
      subst (λ (there : Bool). Cuts (CutRequest s there (WriteOf d.lun lba n all) d) start only new a b one d.said) (write_there start old d lba n all at) cuts1

  -- no tag could be freed for a write for which there is no memory
  pub write_is_cut : (lba n seed : ℕ) (start : DeviceState) (d : Drive) → Cuts (CutDrain (sizes_of start) d) start only new a b one d.said
      → Cuts (CutLineTo (sizes_of start) (Write lba n seed) d) start only new a b one d.said
  write_is_cut lba n seed start d cuts = record { moment = cuts.moment; reached = inl cuts.reached; stands = cuts.stands; prints = cuts.prints }

-- another unit is chosen, or nothing is done
pub line_done : (start : DeviceState) (only : Bool) (new : LinkState) (a : Option (List ℕ)) (one : List ℕ) (d now : Drive) (line : DriveLine) → AtDrive start new now → now.said ≡ d.said
    → DriveLineTo (sizes_of start) line d now
    → Leads (DriveLineTo (sizes_of start) line d) start only new a a one one d.said
line_done start only new a one d now line at same leads = record { moment = now; reached = leads; stands = at; prints = λ before so_far. rw same so_far }
