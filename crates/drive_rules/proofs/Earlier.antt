-- The events of a drive only go on: where they are sound, those before each step of it were.
use Rattle.std.proofs.Common.{◌≡◌, ℕ, zero, suc, Bool, true, false, List, [], ◌∷◌, length, Option, Some, None, refl, ◌∙◌, ap, subst, nat_le}
use Rattle.std.specs.Prelude.{fold, MatchBool}
use Rattle.upiu_wire.specs.Upiu.{Upiu, upiu_out}
use Rattle.flat_unit.specs.declared.event.Event.{Event}
use Rattle.flat_unit.specs.declared.event.Event.TheVariants.{Device, Host}
use Rattle.flat_unit.specs.Contents.{Block}
use Rattle.flat_unit.specs.History.{History, ◌▹◌, followed_by}
use Rattle.flat_unit.specs.Queue.{on_after}
use Rattle.flat_unit.specs.Replays.{Group, events_of, tasks_at}
use Rattle.flat_unit.specs.Sizes.{Sizes}
use Rattle.flat_unit.specs.Sound.{SoundSoFar, answers_to}
use Rattle.flat_unit.proofs.contents.ReadsEnd.{sound_before}
use Rattle.driver_laws.specs.declared.request.Request.{Request}
use Rattle.driver_laws.specs.Commands.{tags}
use Rattle.driver_laws.proofs.Turning.{gets_events}
use Rattle.driver_caches.specs.Machine.{next_upiu, with_next}
use Rattle.trace_text.specs.declared.drive.DriveLine.{DriveLine}
use Rattle.trace_text.specs.declared.drive.DriveLine.TheVariants.{Read, Write, Steps, Collect, Drain, Reset, Lun, Blank}
use Rattle.drive_rules.specs.Lines.{CollectCall, CollectsTo, DrainsTo, Drive, DriveLineTo, DriveStep, DriveSteps, DrivesLines, Exchanges, FreesTags, Passes, Requests}
use Rattle.drive_rules.specs.Lines.{handed, happened, held_back, moment_of, requested, sent, sent_times, stepped_by}

-- the events so far are sound
abbrev pub IsSoundAt : Sizes → List Block → Drive → Type 0
IsSoundAt s u d = SoundSoFar s u d.progress.events

-- what happens is told
pub events_happened : (s : Sizes) (d : Drive) (x : Event) → (happened s d x).progress.events ≡ d.progress.events ▹ x
events_happened s d (Device bytes) = gets_events s bytes (moment_of d)
events_happened s d _ = refl

pub events_folded : (s : Sizes) (xs : List Event) (d : Drive) → (fold (happened s) d xs).progress.events ≡ followed_by d.progress.events xs
events_folded s [] d = refl
events_folded s (x ∷ xs) d = events_folded s xs (happened s d x) ∙ ap (λ (e : History). followed_by e xs) (events_happened s d x)

-- each step, back
sound_handed : (s : Sizes) (u : List Block) (v : Option Upiu) (d : Drive) → IsSoundAt s u (handed s v d) → IsSoundAt s u d
sound_handed s u None d sound = sound
sound_handed s u (Some v) d sound =
    (sound_before s u (d.progress.events ▹ Host (upiu_out v)) (answers_to s (on_after d.progress.events) (tasks_at s d.progress) (upiu_out v)) sound).0

pub sound_sent : (s : Sizes) (u : List Block) (d : Drive) → IsSoundAt s u (sent s d) → IsSoundAt s u d
sound_sent s u d sound = sound_handed s u (next_upiu s d.machine) (record d { machine = with_next s d.machine }) sound

sound_times : (s : Sizes) (u : List Block) (n : ℕ) (d : Drive) → IsSoundAt s u (sent_times s n d) → IsSoundAt s u d
sound_times s u zero d sound = sound
sound_times s u (suc n) d sound = sound_times s u n d (sound_sent s u (sent_times s n d) sound)

pub sound_last : (s : Sizes) (u : List Block) (d now : Drive) (x : Exchanges s d now) → IsSoundAt s u now → IsSoundAt s u x.last
sound_last s u d now x sound = sound_sent s u x.last (subst (IsSoundAt s u) x.leads sound)

pub sound_exchange : (s : Sizes) (u : List Block) (d now : Drive) → Exchanges s d now → IsSoundAt s u now → IsSoundAt s u d
sound_exchange s u d now x sound = sound_times s u x.count d (subst (IsSoundAt s u) x.sends (sound_last s u d now x sound))

pub sound_stepped : (s : Sizes) (u : List Block) (g : Group) (d : Drive) → IsSoundAt s u (stepped_by s g d) → IsSoundAt s u d
sound_stepped s u g d sound = sound_before s u d.progress.events (events_of g) sound

pub sound_step : (s : Sizes) (u : List Block) (d now : Drive) → DriveStep s d now → IsSoundAt s u now → IsSoundAt s u d
sound_step s u d now step sound = sound_stepped s u step.group d (sound_exchange s u (stepped_by s step.group d) now step.exchange sound)

pub sound_steps : (s : Sizes) (u : List Block) (n : ℕ) (d now : Drive) → DriveSteps s n d now → IsSoundAt s u now → IsSoundAt s u d
sound_steps s u zero d now is sound = subst (IsSoundAt s u) is sound
sound_steps s u (suc n) d now (mid, before, step) sound = sound_steps s u n d mid before (sound_step s u mid now step sound)

pub sound_first : (s : Sizes) (u : List Block) (d now : Drive) (pass : Passes s d now) → IsSoundAt s u now → IsSoundAt s u pass.first
sound_first s u d now pass sound = sound_steps s u pass.count (held_back true pass.first) pass.last pass.steps (subst (IsSoundAt s u) pass.leads sound)

pub sound_pass : (s : Sizes) (u : List Block) (d now : Drive) → Passes s d now → IsSoundAt s u now → IsSoundAt s u d
sound_pass s u d now pass sound = sound_exchange s u d pass.first pass.exchange (sound_first s u d now pass sound)

pub sound_drain : (s : Sizes) (u : List Block) (d now : Drive) → DrainsTo s d now → IsSoundAt s u now → IsSoundAt s u d
sound_drain s u d now (mid, one, two) sound = sound_pass s u d mid one (sound_pass s u mid now two sound)

sound_freed : (s : Sizes) (u : List Block) (d free : Drive) → FreesTags s d free → IsSoundAt s u free → IsSoundAt s u d
sound_freed s u d free frees sound = by_full (nat_le tags (length d.machine.opens)) frees
  where
    by_full : (b : Bool) → MatchBool b (DrainsTo s d free) (free ≡ d) → IsSoundAt s u d
    by_full true drain = sound_drain s u d free drain sound
    by_full false same = subst (IsSoundAt s u) same sound

sound_requested : (s : Sizes) (u : List Block) (there : Bool) (request : Request) (d : Drive) → IsSoundAt s u (requested there request d) → IsSoundAt s u d
sound_requested s u true request d sound = sound
sound_requested s u false request d sound = sound

pub sound_free : (s : Sizes) (u : List Block) (there : Bool) (request : Request) (d now : Drive) (r : Requests s there request d now) → IsSoundAt s u now → IsSoundAt s u r.free
sound_free s u there request d now r sound = sound_requested s u there request r.free (sound_exchange s u (requested there request r.free) now r.exchange sound)

pub sound_request : (s : Sizes) (u : List Block) (there : Bool) (request : Request) (d now : Drive) → Requests s there request d now → IsSoundAt s u now → IsSoundAt s u d
sound_request s u there request d now r sound = sound_freed s u d r.free r.frees (sound_free s u there request d now r sound)

pub sound_call : (s : Sizes) (u : List Block) (d now : Drive) → CollectCall s d now → IsSoundAt s u now → IsSoundAt s u d
sound_call s u d now c sound = sound_before s u d.progress.events c.group (subst (IsSoundAt s u) c.leads sound)

pub sound_collected : (s : Sizes) (u : List Block) (n : ℕ) (d now : Drive) → CollectsTo s n d now → IsSoundAt s u now → IsSoundAt s u d
sound_collected s u zero d now is sound = subst (IsSoundAt s u) is sound
sound_collected s u (suc n) d now (mid, calls, one) sound = sound_collected s u n d mid calls (sound_call s u mid now one sound)

-- and each line
pub sound_line : (s : Sizes) (u : List Block) (line : DriveLine) (d now : Drive) → DriveLineTo s line d now → IsSoundAt s u now → IsSoundAt s u d
sound_line s u (Read lba n) d now r sound = sound_request s u _ _ d now r sound
sound_line s u (Write lba n seed) d now r sound = sound_request s u _ _ d now r sound
sound_line s u (Steps n) d now steps sound = sound_steps s u n d now steps sound
sound_line s u (Collect n) d now c sound = sound_collected s u n d now c sound
sound_line s u Drain d now drain sound = sound_drain s u d now drain sound
sound_line s u Reset d now is sound = (subst (IsSoundAt s u) is sound).0
sound_line s u (Lun k) d now is sound = subst (IsSoundAt s u) is sound
sound_line s u Blank d now is sound = subst (IsSoundAt s u) is sound

pub sound_lines : (s : Sizes) (u : List Block) (lines : List DriveLine) (d now : Drive) → DrivesLines s lines d now → IsSoundAt s u now → IsSoundAt s u d
sound_lines s u [] d now is sound = subst (IsSoundAt s u) is sound
sound_lines s u (line ∷ lines) d now (mid, one, rest) sound = sound_line s u line d mid one (sound_lines s u lines mid now rest sound)
