-- Why a pass of a drain comes to its end: each step of the device leaves fewer, and what the driver sends doesn't add any.
use Rattle.std.proofs.Common.{◌≡◌, ◌≢◌, inl, inr, ℕ, suc, ◌≤◌, ◌<◌, Bool, true, false, List, [], ◌∷◌, length, map, refl, sym, ◌∙◌, ap, subst, arith}
use Rattle.std.specs.Prelude.{IsTrue}
use Rattle.std.specs.Bool.{OnFalse}
use Rattle.std.proofs.lemmas.List.{length-append, length-map}
use Rattle.flat_unit.specs.Sizes.{Sizes}
use Rattle.flat_unit.specs.Task.{Task}
use Rattle.hpb_device.specs.declared.device.Sent.{Sent}
use Rattle.hpb_device.specs.declared.device.Sent.TheVariants.{Nothing as NothingSent, Upiu as UpiuSent}
use Rattle.hpb_device.specs.declared.device.Stepped.{Stepped}
use Rattle.hpb_device.specs.declared.task.Task.{Task as Kept}
use Rattle.hpb_device.specs.Calls.{Keeps, LeavesFewer, Receives}
use Rattle.hpb_device.specs.Keeps.{KeepsTasks}
use Rattle.hpb_device.specs.Left.{steps_left}
use Rattle.hpb_device.specs.Standing.{sizes_of}
use Rattle.hpb_device.specs.State.{AtRest, DeviceState, IsIdle}
use Rattle.hpb_device.proofs.Going.{no_task_rests}
use Rattle.replay_standing.proofs.Beginning.{sound_of}
use Rattle.replay_standing.proofs.Making.{rests_at}
use Rattle.replay_standing.proofs.Standing.{Tracked, idle_rests, tracked}
use Rattle.driver_laws.specs.Commands.{Nothing, next_of}
use Rattle.driver_laws.specs.Fits.{Fits, kept_as}
use Rattle.driver_laws.proofs.Resting.{rests}
use Rattle.driver_caches.specs.Machine.{Machine, with_next, with_own}
use Rattle.drive_rules.specs.Cached.{HasCaches}
use Rattle.drive_rules.specs.Held.{AllOut, weight}
use Rattle.drive_rules.specs.Lines.{Drive, sent}
use Rattle.drive_rules.proofs.Passing.{all_out, held_own, held_send}
use Rattle.drive_rules.proofs.Turns.{SendsQuietly, led_fits, sends_quietly}
use Rattle.hpb_driver.proofs.Fewer.{after_count}
use Rattle.hpb_link.specs.State.{LinkState}
use Rattle.hpb_link.specs.Stands.{AtDrive}
use Rattle.hpb_link.proofs.Sent.{serves_of, stays_of}

-- the driver's commands are the device's tasks
pub fits_at : (start : DeviceState) (now : LinkState) (d : Drive) → AtDrive start now d → Fits (sizes_of start) d.machine.opens d.progress.events
fits_at start now d at =
    let (u, sound) = sound_of start now.device d.progress at.standing in
    led_fits (sizes_of start) u (HasCaches (sizes_of start) start.shape) d (serves_of start at.limits at.some_unit) sound at.led

-- where the driver has nothing to send and something is open, the device isn't at rest
not_rests : (start : DeviceState) (now : LinkState) (d : Drive) → AtDrive start now d → next_of now.driver.opens ≡ Nothing → now.driver.opens ≢ [] → AtRest now.device → ⊥
not_rests start now d at nothing some resting =
    let opens : now.driver.opens ≡ d.machine.opens = ap (λ (m : Machine). m.opens) at.machine in
    some (opens ∙ rests (sizes_of start) d.machine.opens d.progress.events (fits_at start now d at) (sym (ap next_of opens) ∙ nothing) (rests_at start now.device d.progress at.standing resting))

on_false : {P : Type 0} (b : Bool) → (IsTrue b → ⊥) → OnFalse b P → P
on_false true other told = absurd (other refl)
on_false false other told = told

busy_fewer : (start : DeviceState) (old : LinkState) (new : DeviceState) (r : Stepped) (d : Drive) → AtDrive start old d → next_of old.driver.opens ≡ Nothing → old.driver.opens ≢ []
    → (IsTrue r.idle → IsIdle old.device) → OnFalse r.idle (LeavesFewer old.device new r) → steps_left new < steps_left old.device
busy_fewer start old new r d at nothing some idle fewer =
    elim (on_false r.idle (λ is. not_rests start old d at nothing some (idle_rests old.device.store.phase old.device.tasks (idle is))) fewer) [
      | inl less ↦ less
      | inr none ↦ absurd (not_rests start old d at nothing some (no_task_rests old.device none.0))
    ]

-- where all commands have gone out, the device keeps as many tasks as are open
kept_count : (kept : List Kept) (held : List ℕ) (tasks : List Task) → KeepsTasks kept held tasks → length kept ≡ length tasks
kept_count [] held tasks is = sym (ap length is)
kept_count (first ∷ others) held tasks (task, of, is) = sym (ap length is ∙ ap (λ (n : ℕ). suc n) (length-map others _))

task_count : (start : DeviceState) (now : LinkState) (d : Drive) → AtDrive start now d → AllOut d.machine.opens → length now.device.tasks ≡ length d.machine.opens
task_count start now d at all =
    let s = sizes_of start in
    let t : Tracked start now.device d.progress = tracked start now.device d.progress at.standing in
    let fits = fits_at start now d at in
    kept_count now.device.tasks now.device.held t.tasks t.keeps
    ∙ ap length (sym t.kept ∙ fits.keeps ∙ ap (map (kept_as s)) (all_out d.machine.opens all))
    ∙ length-map d.machine.opens (kept_as s)

-- a driver that is held sends as it is
sent_count : (s : Sizes) (m : Machine) → m.held ≡ true → length (with_next s m).opens ≡ length m.opens
sent_count s m held = after_count s (with_own m).opens (next_of (with_own m).opens) ∙ ap (λ (x : Machine). length x.opens) (held_own m held)

receives_left : (old new : DeviceState) (bytes out : List ℕ) (result : Sent) → length new.tasks ≡ length old.tasks → Receives old new bytes result out → steps_left new ≤ steps_left old
receives_left old new bytes out NothingSent same (inl keeps) =
    let k : Keeps old new bytes = keeps in
    let more = ap length k.kept ∙ length-append old.tasks (k.task ∷ []) in
    absurd (omega (arith, same, more))
receives_left old new bytes out NothingSent same (inr takes) = let left = takes.left in omega (arith, left)
receives_left old new bytes out UpiuSent same (inl is) = let left = ap steps_left is in omega (arith, left)
receives_left old new bytes out UpiuSent same (inr ends) = let left = ends.left in omega (arith, left)

-- what it sends to the device adds no steps
pub sent_left : (start : DeviceState) (old now : LinkState) (d : Drive) (bytes out : List ℕ) (result : Sent) → AtDrive start old d → AtDrive start now (sent (sizes_of start) d)
    → old.driver.held ≡ true
    → AllOut old.driver.opens → Receives old.device now.device bytes result out → steps_left now.device ≤ steps_left old.device
sent_left start old now d bytes out result at after held all receives =
    let s = sizes_of start in
    let (u, sound) = sound_of start old.device d.progress at.standing in
    let q : SendsQuietly s d = sends_quietly s u (HasCaches s start.shape) d (serves_of start at.limits at.some_unit) (stays_of start at.limits) sound at.led in
    let held_too : d.machine.held ≡ true = sym (ap (λ (m : Machine). m.held) at.machine) ∙ held in
    let all_too : AllOut d.machine.opens = subst (λ (m : Machine). AllOut m.opens) at.machine all in
    let kept = held_send s (weight s d.machine.opens) d (record { held = held_too; out = all_too; within = omega arith }) in
    let count = ap (λ (m : Machine). length m.opens) q.machine ∙ sent_count s d.machine held_too in
    receives_left old.device now.device bytes out result
    (task_count start now (sent s d) after kept.out ∙ count ∙ sym (task_count start old d at all_too)) receives

pub step_fewer : (start : DeviceState) (old : LinkState) (was new : DeviceState) (r : Stepped) (d : Drive) → AtDrive start old d → was ≡ old.device → next_of old.driver.opens ≡ Nothing
    → old.driver.opens ≢ []
    → (IsTrue r.idle → IsIdle was) → OnFalse r.idle (LeavesFewer was new r) → steps_left new < steps_left old.device
step_fewer start old was new r d at same nothing some idle fewer =
    let both = subst (λ (x : DeviceState). (IsTrue r.idle → IsIdle x) × OnFalse r.idle (LeavesFewer x new r)) same (idle, fewer) in
    busy_fewer start old new r d at nothing some both.0 both.1
