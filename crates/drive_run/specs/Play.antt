-- What the lines of a drive come to.
use Rattle.std.specs.Prelude.{◌≡◌, ◌⊎◌, ◌≤◌, ℕ, Bool, List, Option, Result, MatchResult}
use Rattle.flat_unit.specs.Sizes.{Sizes}
use Rattle.hpb_device.specs.Standing.{sizes_of}
use Rattle.hpb_device.specs.State.{DeviceState}
use Rattle.driver_laws.specs.declared.request.Request.{Request}
use Rattle.trace_text.specs.declared.drive.DriveLine.{DriveLine}
use Rattle.trace_text.specs.declared.drive.DriveLine.TheVariants.{Read, Write}
use Rattle.drive_rules.specs.Cuts.{CutLineTo, CutRequest}
use Rattle.drive_rules.specs.Lines.{CollectsTo, Drive, DriveLineTo, FreesTags, Requests, reset_both}
use Rattle.hpb_driver.specs.State.{is_inside}
use Rattle.hpb_link.specs.Stands.{AtDrive}
use Rattle.hpb_link.specs.State.{LinkState}
use Rattle.drive_run.specs.Moments.{Cuts, Leads}
use Rattle.drive_run.specs.declared.line.Served.{Served}
use Rattle.drive_run.specs.declared.line.Served.TheVariants.{Whole, NoMemory}

-- calls of the collector are cut after some of them
abbrev pub CutCollects : ℕ → Sizes → Drive → Drive → Type 0
CutCollects n s d now = (k : ℕ) × (k ≤ n) × CollectsTo s k d now

-- a reset
abbrev pub Resets : Sizes → Drive → Drive → Type 0
Resets s d now = now ≡ reset_both d

-- it is cut before it is made, or when it is told
abbrev pub CutReset : Sizes → Drive → Drive → Type 0
CutReset s d now = (now ≡ d) ⊎ (now ≡ reset_both d)

-- the first unit or the first block of a request is there or isn't
abbrev pub request_led : Served → Request → Sizes → Drive → Drive → Type 0
request_led Whole request s d now = Requests s (is_inside d.machine request) request d now
request_led NoMemory request s d now = FreesTags s d now

-- a request is made, or there is no memory for it, or the call is cut
abbrev pub Asks : {E : Type 0} → Request → Bool → (old new : LinkState)
    → (written written_now : Option (List ℕ)) (gathered gathered_now : List ℕ) → Result Served E → Type 0
Asks request only old new written written_now gathered gathered_now result =
    (start : DeviceState) (d : Drive) → AtDrive start old d → MatchResult result
    (λ served. Leads (request_led served request (sizes_of start) d) start only new written written_now gathered
    gathered_now d.said)
    (λ _. Cuts (CutRequest (sizes_of start) (is_inside d.machine request) request d) start only new written written_now
    gathered d.said)

-- there is no memory for the request of a line: it is left undone, once a tag is free
abbrev pub WantsMemory : Sizes → DriveLine → Drive → Drive → Type 0
WantsMemory s (Read lba n) d now = FreesTags s d now
WantsMemory s (Write lba n seed) d now = FreesTags s d now
WantsMemory s _ d now = ⊥

-- what a line leads to
abbrev pub line_led : Served → DriveLine → Sizes → Drive → Drive → Type 0
line_led Whole line s d now = DriveLineTo s line d now
line_led NoMemory line s d now = WantsMemory s line d now

-- a line is served, or there is no memory for its request, or it is cut
abbrev pub Serves : {E : Type 0} → DriveLine → Bool → (old new : LinkState)
    → (written written_now : Option (List ℕ)) (gathered gathered_now : List ℕ) → Result Served E → Type 0
Serves line only old new written written_now gathered gathered_now result =
    (start : DeviceState) (d : Drive) → AtDrive start old d → MatchResult result
    (λ served. Leads (line_led served line (sizes_of start) d) start only new written written_now gathered gathered_now
    d.said)
    (λ _. Cuts (CutLineTo (sizes_of start) line d) start only new written written_now gathered d.said)
