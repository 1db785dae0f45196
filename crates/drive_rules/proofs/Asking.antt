-- Which requests a drive takes is said by its lines alone.
use Rattle.std.proofs.Common.{◌≡◌, ℕ, zero, suc, ◌+◌, Bool, true, false, List, [], ◌∷◌, ◌++◌, length, Option, Some, None, Result, Ok, Err, refl, sym, ◌∙◌, ap, append_assoc, append-nil, nat_le}
use Rattle.std.specs.Prelude.{fold, MatchBool}
use Rattle.std.proofs.lemmas.List.{map-append}
use Rattle.flat_unit.specs.declared.event.Event.{Event}
use Rattle.flat_unit.specs.declared.event.Event.TheVariants.{Device, Failed, Moved, Host, Reset, Cleared, Switched, Gone}
use Rattle.flat_unit.specs.History.{◌▹◌}
use Rattle.flat_unit.specs.Queue.{on_after}
use Rattle.flat_unit.specs.Replays.{Group, events_of, tasks_at}
use Rattle.flat_unit.specs.Sizes.{Sizes}
use Rattle.flat_unit.specs.Sound.{answers_to}
use Rattle.upiu_wire.specs.Upiu.{Upiu, upiu_out}
use Rattle.driver_laws.specs.declared.answer.Done.{Done}
use Rattle.driver_laws.specs.declared.fault.DriverFault.{DriverFault}
use Rattle.driver_laws.specs.declared.request.Request.{Request}
use Rattle.driver_laws.specs.declared.request.Request.TheVariants.{Read as ReadOf, Write as WriteOf}
use Rattle.driver_laws.specs.Commands.{tags}
use Rattle.driver_laws.specs.Deliver.{Delivered, delivered}
use Rattle.driver_laws.specs.Drive.{Moment, gets, with_done, with_delivered as moment_delivered}
use Rattle.driver_laws.specs.Flat.{Asked}
use Rattle.driver_laws.specs.Laws.{Numbered, numbered, under_number}
use Rattle.driver_caches.specs.Machine.{Machine, next_upiu, with_next}
use Rattle.trace_text.specs.declared.drive.DriveLine.{DriveLine}
use Rattle.trace_text.specs.declared.drive.DriveLine.TheVariants.{Read, Write, Steps, Collect, Drain, Reset as ResetBoth, Lun, Blank}
use Rattle.drive_rules.specs.Lines.{CollectsTo, DrainsTo, Drive, DriveSteps, Drives, DrivesLines, Exchanges, FreesTags, Passes, Requests}
use Rattle.drive_rules.specs.Lines.{are_there, drive_begun, handed, happened, held_back, moment_of, pattern_bytes, requested, sent, sent_times, stepped_by}
use Rattle.drive_rules.specs.FlatLines.{one_outside, one_request, outside_of, requests_of}

-- what is said of a drive by its lines
pub record Requested : Type 0 where
  pub requests : List Numbered
  pub outside : List ℕ
  pub count : ℕ
  pub lun : ℕ

abbrev pub so_far : Drive → Requested
so_far d = record { requests = numbered d.asked; outside = d.outside; count = d.count; lun = d.lun }

done_asked : (d : Option Done) (m : Moment) → (with_done d m).asked ≡ m.asked
done_asked None m = refl
done_asked (Some ended) m = refl

gets_asked : (s : Sizes) (bytes : List ℕ) (m : Moment) → (gets s bytes m).asked ≡ m.asked
gets_asked s bytes m = by_result (delivered s m.opens bytes)
  where
    by_result : (r : Result Delivered DriverFault) → (moment_delivered r (record m { events = m.events ▹ Device bytes })).asked ≡ m.asked
    by_result (Ok taken) = done_asked taken.done (record m { opens = taken.opens; events = m.events ▹ Device bytes })
    by_result (Err fault) = refl

asked_happened : (s : Sizes) (d : Drive) (x : Event) → so_far (happened s d x) ≡ so_far d
asked_happened s d (Device bytes) = ap (λ (asked : List Asked). record { requests = numbered asked; outside = d.outside; count = d.count; lun = d.lun }) (gets_asked s bytes (moment_of d))
asked_happened s d (Host bytes) = refl
asked_happened s d Reset = refl
asked_happened s d (Moved lun lba) = refl
asked_happened s d (Failed op) = refl
asked_happened s d Cleared = refl
asked_happened s d (Switched on) = refl
asked_happened s d (Gone tag) = refl

pub asked_events : (s : Sizes) (xs : List Event) (d : Drive) → so_far (fold (happened s) d xs) ≡ so_far d
asked_events s [] d = refl
asked_events s (x ∷ xs) d = asked_events s xs (happened s d x) ∙ asked_happened s d x

asked_handed : (s : Sizes) (v : Option Upiu) (d : Drive) → so_far (handed s v d) ≡ so_far d
asked_handed s None d = refl
asked_handed s (Some v) d = asked_events s (answers_to s (on_after d.progress.events) (tasks_at s d.progress) (upiu_out v)) (happened s d (Host (upiu_out v)))

pub asked_sent : (s : Sizes) (d : Drive) → so_far (sent s d) ≡ so_far d
asked_sent s d = asked_handed s (next_upiu s d.machine) (record d { machine = with_next s d.machine })

asked_times : (s : Sizes) (n : ℕ) (d : Drive) → so_far (sent_times s n d) ≡ so_far d
asked_times s zero d = refl
asked_times s (suc n) d = asked_sent s (sent_times s n d) ∙ asked_times s n d

pub asked_exchange : (s : Sizes) (d now : Drive) → Exchanges s d now → so_far now ≡ so_far d
asked_exchange s d now x = ap so_far x.leads ∙ asked_sent s x.last ∙ ap so_far x.sends ∙ asked_times s x.count d

pub asked_stepped : (s : Sizes) (g : Group) (d : Drive) → so_far (stepped_by s g d) ≡ so_far d
asked_stepped s g d = asked_events s (events_of g) d

pub asked_steps : (s : Sizes) (n : ℕ) (d now : Drive) → DriveSteps s n d now → so_far now ≡ so_far d
asked_steps s zero d now is = ap so_far is
asked_steps s (suc n) d now (mid, before, step) =
    asked_exchange s (stepped_by s step.group mid) now step.exchange ∙ asked_stepped s step.group mid ∙ asked_steps s n d mid before

asked_pass : (s : Sizes) (d now : Drive) → Passes s d now → so_far now ≡ so_far d
asked_pass s d now pass =
    ap so_far pass.leads ∙ asked_steps s pass.count (held_back true pass.first) pass.last pass.steps ∙ asked_exchange s d pass.first pass.exchange

pub asked_drain : (s : Sizes) (d now : Drive) → DrainsTo s d now → so_far now ≡ so_far d
asked_drain s d now (mid, one, two) = asked_pass s mid now two ∙ asked_pass s d mid one

pub asked_freed : (s : Sizes) (d free : Drive) → FreesTags s d free → so_far free ≡ so_far d
asked_freed s d free frees = by_full (nat_le tags (length d.machine.opens)) frees
  where
    by_full : (b : Bool) → MatchBool b (DrainsTo s d free) (free ≡ d) → so_far free ≡ so_far d
    by_full true drain = asked_drain s d free drain
    by_full false same = ap so_far same

-- a request more
abbrev pub one_more : Bool → Request → Requested → Requested
one_more there request d = record {
  requests = d.requests ++ one_request there (d.count + 1) request [];
  outside = d.outside ++ one_outside there (d.count + 1) [];
  count = d.count + 1;
  lun = d.lun;
}

asked_requested : (there : Bool) (request : Request) (d : Drive) → so_far (requested there request d) ≡ one_more there request (so_far d)
asked_requested true request d =
    ap (λ (rs : List Numbered). record { requests = rs; outside = d.outside; count = d.count + 1; lun = d.lun }) (map-append under_number d.asked _)
    ∙ ap (λ (os : List ℕ). record { requests = numbered d.asked ++ record { number = d.count + 1; request = request } ∷ []; outside = os; count = d.count + 1; lun = d.lun })
    (sym (append-nil d.outside))
asked_requested false request d =
    ap (λ (rs : List Numbered). record { requests = rs; outside = d.outside ++ (d.count + 1) ∷ []; count = d.count + 1; lun = d.lun }) (sym (append-nil (numbered d.asked)))

pub asked_request : (s : Sizes) (there : Bool) (request : Request) (d now : Drive) → Requests s there request d now → so_far now ≡ one_more there request (so_far d)
asked_request s there request d now r =
    asked_exchange s (requested there request r.free) now r.exchange ∙ asked_requested there request r.free ∙ ap (one_more there request) (asked_freed s d r.free r.frees)

-- what the lines say, from what was said before
abbrev asked_by : Sizes → List DriveLine → Requested → Requested
asked_by s lines d = record {
  requests = d.requests ++ requests_of s d.lun d.count lines;
  outside = d.outside ++ outside_of s d.lun d.count lines;
  count = d.count;
  lun = d.lun;
}

-- what counts of it in the end
pub record AllAsked : Type 0 where
  pub requests : List Numbered
  pub outside : List ℕ

abbrev pub all_asked : Requested → AllAsked
all_asked x = record { requests = x.requests; outside = x.outside }

one_then : (there : Bool) (number : ℕ) (request : Request) (before rest : List Numbered) → (before ++ one_request there number request []) ++ rest ≡ before ++ one_request there number request rest
one_then true number request before rest = append_assoc before _ rest
one_then false number request before rest = ap (λ (xs : List Numbered). xs ++ rest) (append-nil before)

out_then : (there : Bool) (number : ℕ) (before rest : List ℕ) → (before ++ one_outside there number []) ++ rest ≡ before ++ one_outside there number rest
out_then true number before rest = ap (λ (xs : List ℕ). xs ++ rest) (append-nil before)
out_then false number before rest = append_assoc before _ rest

after_request : (s : Sizes) (there : Bool) (request : Request) (lines : List DriveLine) (x y : Requested) → y ≡ one_more there request x
    → all_asked (asked_by s lines y) ≡ record {
      requests = x.requests ++ one_request there (x.count + 1) request (requests_of s x.lun (x.count + 1) lines);
      outside = x.outside ++ one_outside there (x.count + 1) (outside_of s x.lun (x.count + 1) lines);
    }
after_request s there request lines x y is =
    ap (λ (z : Requested). all_asked (asked_by s lines z)) is
    ∙ ap (λ (rs : List Numbered). record { requests = rs; outside = (x.outside ++ one_outside there (x.count + 1) []) ++ outside_of s x.lun (x.count + 1) lines })
    (one_then there (x.count + 1) request x.requests (requests_of s x.lun (x.count + 1) lines))
    ∙ ap (λ (os : List ℕ). record { requests = x.requests ++ one_request there (x.count + 1) request (requests_of s x.lun (x.count + 1) lines); outside = os })
    (out_then there (x.count + 1) x.outside (outside_of s x.lun (x.count + 1) lines))

pub asked_collected : (s : Sizes) (n : ℕ) (d now : Drive) → CollectsTo s n d now → so_far now ≡ so_far d
asked_collected s zero d now is = ap so_far is
asked_collected s (suc n) d now (mid, calls, one) = ap so_far one.leads ∙ asked_events s one.group mid ∙ asked_collected s n d mid calls

pub asked_lines : (s : Sizes) (lines : List DriveLine) (d now : Drive) → DrivesLines s lines d now → all_asked (so_far now) ≡ all_asked (asked_by s lines (so_far d))
asked_lines s [] d now is =
    ap (λ (x : Drive). all_asked (so_far x)) is
    ∙ ap (λ (rs : List Numbered). record { requests = rs; outside = d.outside }) (sym (append-nil (numbered d.asked)))
    ∙ ap (λ (os : List ℕ). record { requests = numbered d.asked ++ []; outside = os }) (sym (append-nil d.outside))
asked_lines s (Read lba n ∷ lines) d now (mid, one, rest) =
    asked_lines s lines mid now rest
    ∙ after_request s (are_there s d.lun lba n) (ReadOf d.lun lba n) lines (so_far d) (so_far mid) (asked_request s (are_there s d.lun lba n) (ReadOf d.lun lba n) d mid one)
asked_lines s (Write lba n seed ∷ lines) d now (mid, one, rest) =
    asked_lines s lines mid now rest
    ∙ after_request s (are_there s d.lun lba n) (WriteOf d.lun lba n (pattern_bytes s seed lba n)) lines (so_far d) (so_far mid)
    (asked_request s (are_there s d.lun lba n) (WriteOf d.lun lba n (pattern_bytes s seed lba n)) d mid one)
asked_lines s (Steps n ∷ lines) d now (mid, one, rest) = asked_lines s lines mid now rest ∙ ap (λ (x : Requested). all_asked (asked_by s lines x)) (asked_steps s n d mid one)
asked_lines s (Collect n ∷ lines) d now (mid, one, rest) =
    asked_lines s lines mid now rest ∙ ap (λ (x : Requested). all_asked (asked_by s lines x)) (asked_collected s n d mid one)
asked_lines s (Drain ∷ lines) d now (mid, one, rest) = asked_lines s lines mid now rest ∙ ap (λ (x : Requested). all_asked (asked_by s lines x)) (asked_drain s d mid one)
asked_lines s (ResetBoth ∷ lines) d now (mid, one, rest) = asked_lines s lines mid now rest ∙ ap (λ (x : Drive). all_asked (asked_by s lines (so_far x))) one
asked_lines s (Lun k ∷ lines) d now (mid, one, rest) = asked_lines s lines mid now rest ∙ ap (λ (x : Drive). all_asked (asked_by s lines (so_far x))) one
asked_lines s (Blank ∷ lines) d now (mid, one, rest) = asked_lines s lines mid now rest ∙ ap (λ (x : Drive). all_asked (asked_by s lines (so_far x))) one

pub asked_drive : (s : Sizes) (machine : Machine) (lines : List DriveLine) (now : Drive) → Drives s machine lines now
    → all_asked (so_far now) ≡ record { requests = requests_of s 0 0 lines; outside = outside_of s 0 0 lines }
asked_drive s machine lines now drives = ap all_asked (asked_drain s drives.mid now drives.end) ∙ asked_lines s lines (drive_begun machine) drives.mid drives.each
