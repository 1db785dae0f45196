-- What a drive says are its events, its answers and the numbers out of range, each in order.
use Rattle.std.proofs.Common.{◌≡◌, ℕ, zero, suc, ◌+◌, Bool, true, false, List, [], ◌∷◌, ◌++◌, length, map}
use Rattle.std.proofs.Common.{Option, Some, None, Result, Ok, Err, refl, sym, ◌∙◌, ap, subst, append_assoc, append-nil, nat_le}
use Rattle.std.specs.Prelude.{fold, MatchBool}
use Rattle.std.specs.List.{find}
use Rattle.upiu_wire.specs.Upiu.{Upiu, upiu_out}
use Rattle.flat_unit.specs.declared.event.Event.{Event}
use Rattle.flat_unit.specs.declared.event.Event.TheVariants.{Device, Host, Moved, Failed, Cleared, Switched, Gone, Reset as ResetEvent}
use Rattle.flat_unit.specs.History.{◌▹◌}
use Rattle.flat_unit.specs.Queue.{on_after}
use Rattle.flat_unit.specs.Replays.{Group, Progress, collected_to, events_of, received, stepped, tasks_at}
use Rattle.flat_unit.specs.Sizes.{Sizes}
use Rattle.flat_unit.specs.Sound.{answers_to}
use Rattle.driver_laws.specs.declared.answer.Done.{Done}
use Rattle.driver_laws.specs.declared.fault.DriverFault.{DriverFault}
use Rattle.driver_laws.specs.declared.request.Request.{Request}
use Rattle.driver_laws.specs.Commands.{tags}
use Rattle.driver_laws.specs.Deliver.{Delivered, delivered}
use Rattle.driver_laws.specs.Drive.{Moment, answered_for, cut, has_asked, with_delivered as moment_delivered, with_done as moment_done}
use Rattle.driver_laws.specs.Flat.{Answered, Asked, Cut}
use Rattle.driver_caches.specs.Machine.{Machine, next_upiu, with_next}
use Rattle.trace_text.specs.declared.drive.DriveLine.{DriveLine}
use Rattle.trace_text.specs.declared.drive.DriveLine.TheVariants.{Read, Write, Steps, Collect, Drain, Reset, Lun, Blank}
use Rattle.drive_rules.specs.Lines.{CollectCall, CollectsTo, DrainsTo, Drive, DriveLineTo, DriveSteps, Drives, DrivesLines, Exchanges, FreesTags, Passes, Requests}
use Rattle.drive_rules.specs.Lines.{drive_begun, handed, happened, held_back, moment_of, requested, reset_both, sent, sent_times, stepped_by}
use Rattle.drive_rules.specs.Said.{Ended, Happened, Said, answers_in, events_in, outside_in, with_answer, with_cut, with_delivered, with_done}
use Rattle.drive_rules.specs.Told.{IsTold}
use Rattle.drive_rules.proofs.Earlier.{events_folded, events_happened}

-- what a UPIU of the device ends is no event, and no number out of range
answer_said : (done : Done) (a : Option Asked) (said : List Said) → (events_in (with_answer done a said) ≡ events_in said) × (outside_in (with_answer done a said) ≡ outside_in said)
answer_said done (Some a) said = (refl, refl)
answer_said done None said = (refl, refl)

done_said : (done : Option Done) (callers : List Asked) (said : List Said) → (events_in (with_done done callers said) ≡ events_in said) × (outside_in (with_done done callers said) ≡ outside_in said)
done_said (Some done) callers said = answer_said done (find (has_asked done.tag) callers) said
done_said None callers said = (refl, refl)

delivered_said : (r : Result Delivered DriverFault) (callers : List Asked) (said : List Said)
    → (events_in (with_delivered r callers said) ≡ events_in said) × (outside_in (with_delivered r callers said) ≡ outside_in said)
delivered_said (Ok d) callers said = done_said d.done callers said
delivered_said (Err fault) callers said = (refl, refl)

-- its answer is said last
answer_told : (done : Done) (a : Option Asked) (said : List Said) → answers_in said ++ answered_for done a ≡ answers_in (with_answer done a said)
answer_told done (Some a) said = refl
answer_told done None said = append-nil (answers_in said)

done_told : (done : Option Done) (m : Moment) (said : List Said) → m.answers ≡ answers_in said → (moment_done done m).answers ≡ answers_in (with_done done m.callers said)
done_told (Some done) m said is =
    ap (λ (answers : List Answered). answers ++ answered_for done (find (has_asked done.tag) m.callers)) is ∙ answer_told done (find (has_asked done.tag) m.callers) said
done_told None m said is = is

delivered_told : (r : Result Delivered DriverFault) (m : Moment) (said : List Said) → m.answers ≡ answers_in said → (moment_delivered r m).answers ≡ answers_in (with_delivered r m.callers said)
delivered_told (Ok d) m said is = done_told d.done (record m { opens = d.opens }) said is
delivered_told (Err fault) m said is = is

-- what happens is told
pub told_happened : (s : Sizes) (d : Drive) (x : Event) → IsTold d → IsTold (happened s d x)
told_happened s d (Device bytes) told =
    let said = delivered_said (delivered s d.machine.opens bytes) d.callers (Happened (Device bytes) ∷ d.said) in
    record {
      events = events_happened s d (Device bytes) ∙ ap (λ (e : List Event). Device bytes ∷ e) told.events ∙ sym said.0;
      answers = delivered_told (delivered s d.machine.opens bytes) (record (moment_of d) { events = d.progress.events ▹ Device bytes }) (Happened (Device bytes) ∷ d.said) told.answers;
      outside = told.outside ∙ sym said.1;
    }
told_happened s d (Host bytes) told = record { events = ap (λ (e : List Event). Host bytes ∷ e) told.events; answers = told.answers; outside = told.outside }
told_happened s d (Moved lun lba) told = record { events = ap (λ (e : List Event). Moved lun lba ∷ e) told.events; answers = told.answers; outside = told.outside }
told_happened s d (Failed op) told = record { events = ap (λ (e : List Event). Failed op ∷ e) told.events; answers = told.answers; outside = told.outside }
told_happened s d ResetEvent told = record { events = ap (λ (e : List Event). ResetEvent ∷ e) told.events; answers = told.answers; outside = told.outside }
told_happened s d Cleared told = record { events = ap (λ (e : List Event). Cleared ∷ e) told.events; answers = told.answers; outside = told.outside }
told_happened s d (Switched on) told = record { events = ap (λ (e : List Event). Switched on ∷ e) told.events; answers = told.answers; outside = told.outside }
told_happened s d (Gone tag) told = record { events = ap (λ (e : List Event). Gone tag ∷ e) told.events; answers = told.answers; outside = told.outside }

pub told_events : (s : Sizes) (xs : List Event) (d : Drive) → IsTold d → IsTold (fold (happened s) d xs)
told_events s [] d told = told
told_events s (x ∷ xs) d told = told_events s xs (happened s d x) (told_happened s d x told)

told_again : (d : Drive) (p : Progress) → p.events ≡ d.progress.events → IsTold d → IsTold (record d { progress = p })
told_again d p same told = record { events = same ∙ told.events; answers = told.answers; outside = told.outside }

-- a request that is taken or out of range
pub told_requested : (there : Bool) (request : Request) (d : Drive) → IsTold d → IsTold (requested there request d)
told_requested true request d told = record { events = told.events; answers = told.answers; outside = told.outside }
told_requested false request d told = record { events = told.events; answers = told.answers; outside = ap (λ (numbers : List ℕ). numbers ++ (d.count + 1) ∷ []) told.outside }

told_handed : (s : Sizes) (v : Option Upiu) (d : Drive) → IsTold d → IsTold (handed s v d)
told_handed s None d told = told
told_handed s (Some v) d told =
    let answers : List Event = answers_to s (on_after d.progress.events) (tasks_at s d.progress) (upiu_out v) in
    let before : Drive = happened s d (Host (upiu_out v)) in
    told_again (fold (happened s) before answers) (received s d.progress (upiu_out v)) (sym (events_folded s answers before))
    (told_events s answers before (told_happened s d (Host (upiu_out v)) told))

-- the driver sends
pub told_sent : (s : Sizes) (d : Drive) → IsTold d → IsTold (sent s d)
told_sent s d told =
    told_handed s (next_upiu s d.machine) (record d { machine = with_next s d.machine }) (record { events = told.events; answers = told.answers; outside = told.outside })

told_times : (s : Sizes) (n : ℕ) (d : Drive) → IsTold d → IsTold (sent_times s n d)
told_times s zero d told = told
told_times s (suc n) d told = told_sent s (sent_times s n d) (told_times s n d told)

told_exchange : (s : Sizes) (d now : Drive) → Exchanges s d now → IsTold d → IsTold now
told_exchange s d now x told = subst IsTold (sym x.leads) (told_sent s x.last (subst IsTold (sym x.sends) (told_times s x.count d told)))

-- the device makes a step
pub told_stepped : (s : Sizes) (g : Group) (d : Drive) → IsTold d → IsTold (stepped_by s g d)
told_stepped s g d told = told_again (fold (happened s) d (events_of g)) (stepped s d.progress g) (sym (events_folded s (events_of g) d)) (told_events s (events_of g) d told)

told_steps : (s : Sizes) (n : ℕ) (d now : Drive) → DriveSteps s n d now → IsTold d → IsTold now
told_steps s zero d now is told = subst IsTold (sym is) told
told_steps s (suc n) d now (mid, before, step) told =
    told_exchange s (stepped_by s step.group mid) now step.exchange (told_stepped s step.group mid (told_steps s n d mid before told))

told_held : (on : Bool) (d : Drive) → IsTold d → IsTold (held_back on d)
told_held on d told = record { events = told.events; answers = told.answers; outside = told.outside }

told_pass : (s : Sizes) (d now : Drive) → Passes s d now → IsTold d → IsTold now
told_pass s d now pass told =
    subst IsTold (sym pass.leads)
    (told_held false pass.last
    (told_steps s pass.count (held_back true pass.first) pass.last pass.steps (told_held true pass.first (told_exchange s d pass.first pass.exchange told))))

told_drain : (s : Sizes) (d now : Drive) → DrainsTo s d now → IsTold d → IsTold now
told_drain s d now (mid, one, two) told = told_pass s mid now two (told_pass s d mid one told)

told_freed : (s : Sizes) (d free : Drive) → FreesTags s d free → IsTold d → IsTold free
told_freed s d free frees told = by_full (nat_le tags (length d.machine.opens)) frees
  where
    by_full : (b : Bool) → MatchBool b (DrainsTo s d free) (free ≡ d) → IsTold free
    by_full true drain = told_drain s d free drain told
    by_full false same = subst IsTold (sym same) told

told_request : (s : Sizes) (there : Bool) (request : Request) (d now : Drive) → Requests s there request d now → IsTold d → IsTold now
told_request s there request d now r told = told_exchange s (requested there request r.free) now r.exchange (told_requested there request r.free (told_freed s d r.free r.frees told))

-- calls of the collector
pub told_call : (s : Sizes) (d now : Drive) → CollectCall s d now → IsTold d → IsTold now
told_call s d now c told =
    subst IsTold (sym c.leads) (told_again (fold (happened s) d c.group) (collected_to 1 c.group d.progress) (sym (events_folded s c.group d)) (told_events s c.group d told))

pub told_collected : (s : Sizes) (n : ℕ) (d now : Drive) → CollectsTo s n d now → IsTold d → IsTold now
told_collected s zero d now is told = subst IsTold (sym is) told
told_collected s (suc n) d now (mid, calls, one) told = told_call s mid now one (told_collected s n d mid calls told)

-- a reset says each request that it cuts
cut_said : (callers : List Asked) (said : List Said) → (events_in (with_cut callers said) ≡ events_in said) × (outside_in (with_cut callers said) ≡ outside_in said)
cut_said [] said = (refl, refl)
cut_said (a ∷ rest) said = cut_said rest (Ended a Cut ∷ said)

cut_told : (callers : List Asked) (said : List Said) → answers_in said ++ map cut callers ≡ answers_in (with_cut callers said)
cut_told [] said = append-nil (answers_in said)
cut_told (a ∷ rest) said = sym (append_assoc (answers_in said) (cut a ∷ []) (map cut rest)) ∙ cut_told rest (Ended a Cut ∷ said)

-- both ends are reset
pub told_reset : (d : Drive) → IsTold d → IsTold (reset_both d)
told_reset d told =
    let said = cut_said d.callers (Happened ResetEvent ∷ d.said) in
    record {
      events = ap (λ (e : List Event). ResetEvent ∷ e) told.events ∙ sym said.0;
      answers = ap (λ (answers : List Answered). answers ++ map cut d.callers) told.answers ∙ cut_told d.callers (Happened ResetEvent ∷ d.said);
      outside = told.outside ∙ sym said.1;
    }

-- each line
pub told_line : (s : Sizes) (line : DriveLine) (d now : Drive) → DriveLineTo s line d now → IsTold d → IsTold now
told_line s (Read lba n) d now r told = told_request s _ _ d now r told
told_line s (Write lba n seed) d now r told = told_request s _ _ d now r told
told_line s (Steps n) d now steps told = told_steps s n d now steps told
told_line s (Collect n) d now c told = told_collected s n d now c told
told_line s Drain d now drain told = told_drain s d now drain told
told_line s Reset d now is told = subst IsTold (sym is) (told_reset d told)
told_line s (Lun k) d now is told = subst IsTold (sym is) (record { events = told.events; answers = told.answers; outside = told.outside })
told_line s Blank d now is told = subst IsTold (sym is) told

pub told_lines : (s : Sizes) (lines : List DriveLine) (d now : Drive) → DrivesLines s lines d now → IsTold d → IsTold now
told_lines s [] d now is told = subst IsTold (sym is) told
told_lines s (line ∷ lines) d now (mid, one, rest) told = told_lines s lines mid now rest (told_line s line d mid one told)

-- a whole drive
pub told_drive : (s : Sizes) (machine : Machine) (lines : List DriveLine) (now : Drive) → Drives s machine lines now → IsTold now
told_drive s machine lines now drives =
    told_drain s drives.mid now drives.end (told_lines s lines (drive_begun machine) drives.mid drives.each (record { events = refl; answers = refl; outside = refl }))
