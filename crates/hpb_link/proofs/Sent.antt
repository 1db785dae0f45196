-- The driver sends, and the device gets it.
use Rattle.std.proofs.Common.{◌≡◌, ℕ, ◌≤◌, Bool, true, false, List, [], ◌∷◌, map, Option, Some, None, refl, sym, ◌∙◌, ap, subst, arith}
use Rattle.std.specs.Prelude.{if◌then◌else◌}
use Rattle.std.proofs.lemmas.Bool.{false≢true}
use Rattle.region_state.specs.declared.shape.Shape.{Shape}
use Rattle.region_state.specs.Shape.{IsWithinLimits}
use Rattle.upiu_wire.specs.Upiu.{Upiu, upiu_out}
use Rattle.flat_unit.specs.Replays.{Progress, received}
use Rattle.flat_unit.specs.Sizes.{Sizes}
use Rattle.hpb_device.specs.Standing.{sizes_of}
use Rattle.hpb_device.specs.State.{DeviceState}
use Rattle.replay_standing.specs.Standing.{Standing}
use Rattle.replay_standing.proofs.Beginning.{sound_of}
use Rattle.driver_laws.specs.Drive.{Moment}
use Rattle.driver_laws.specs.Fits.{Serves}
use Rattle.driver_caches.specs.Machine.{Machine, Own, evicted_from, loads, may_send_own, next_upiu, wanted_from, with_evicted, with_next, with_own, with_picked}
use Rattle.driver_commands.specs.Calls.{IsSent}
use Rattle.driver_commands.specs.Open.{sizes_of as driver_sizes}
use Rattle.drive_rules.specs.Cached.{HasCaches, HasShape}
use Rattle.drive_rules.specs.Lines.{Drive, handed, sent}
use Rattle.flat_unit.specs.declared.event.Event.TheVariants.{Host}
use Rattle.drive_rules.specs.Said.{Happened, Said, with_sent}
use Rattle.drive_rules.specs.Tame.{StaysTame}
use Rattle.drive_rules.proofs.Asking.{Requested, asked_sent}
use Rattle.drive_rules.proofs.Staying.{cached_stays}
use Rattle.drive_rules.proofs.Turns.{SendsQuietly, led_sent, sends_quietly}
use Rattle.hpb_link.specs.State.{LinkState, ticket_of}
use Rattle.hpb_link.specs.Stands.{AtDrive, said_sent}

-- what a device of a driver's units serves
pub serves_of : (start : DeviceState) → IsWithinLimits start.shape → 1 ≤ start.store.luns → Serves (sizes_of start)
serves_of start limits some = record {
  block = omega arith;
  block_fits = omega arith;
  units_fit = let few = limits.units in omega (arith, few);
  has_units = omega (arith, some);
  room = refl;
  opcodes = refl;
}

pub shape_of : (start : DeviceState) → IsWithinLimits start.shape → HasShape (sizes_of start) start.shape
shape_of start limits = record { limits = limits; units = refl; per_region = refl; per_sub = refl }

pub stays_of : (start : DeviceState) → IsWithinLimits start.shape → StaysTame (sizes_of start) (HasCaches (sizes_of start) start.shape)
stays_of start limits = cached_stays (sizes_of start) start.shape (shape_of start limits)

-- by the sizes of the driver it sends what it sends by those of the device
pub same_next : (start : DeviceState) (m : Machine) → m.shape ≡ start.shape → with_next (driver_sizes m.shape) m ≡ with_next (sizes_of start) m
same_next start m is = ap (λ (shape : Shape). with_next (driver_sizes shape) m) is

pub same_upiu : (start : DeviceState) (m : Machine) → m.shape ≡ start.shape → next_upiu (driver_sizes m.shape) m ≡ next_upiu (sizes_of start) m
same_upiu start m is = ap (λ (shape : Shape). next_upiu (driver_sizes shape) m) is

-- the units stay
evicted_shape : (m : Machine) (own : Option Own) → ((with_evicted m own).shape ≡ m.shape) × ((with_evicted m own).luns ≡ m.luns)
evicted_shape m (Some own) = (refl, refl)
evicted_shape m None = by_loads (loads m.opens)
  where
    by_loads : (b : Bool) → ((if b then m else with_picked m (wanted_from 0 m.caches)).shape ≡ m.shape) × ((if b then m else with_picked m (wanted_from 0 m.caches)).luns ≡ m.luns)
    by_loads true = (refl, refl)
    by_loads false = (refl, refl)

pub own_shape : (m : Machine) → ((with_own m).shape ≡ m.shape) × ((with_own m).luns ≡ m.luns)
own_shape m = by_may (may_send_own m)
  where
    by_may : (b : Bool) → ((if b then with_evicted m (evicted_from 0 m.caches) else m).shape ≡ m.shape) × ((if b then with_evicted m (evicted_from 0 m.caches) else m).luns ≡ m.luns)
    by_may true = evicted_shape m (evicted_from 0 m.caches)
    by_may false = (refl, refl)

-- how the device stands after what was sent, if anything was
abbrev pub HandedTo : (start : DeviceState) (was now : DeviceState) (p : Progress) → Option Upiu → Type 0
HandedTo start was now p (Some v) = Standing start now (received (sizes_of start) p (upiu_out v))
HandedTo start was now p None = now ≡ was

handed_standing : (start was now : DeviceState) (d : Drive) (v : Option Upiu) → Standing start was d.progress → HandedTo start was now d.progress v
    → Standing start now (handed (sizes_of start) v d).progress
handed_standing start was now d (Some v) at got = got
handed_standing start was now d None at same = subst (λ (x : DeviceState). Standing start x d.progress) (sym same) at

handed_runs : (s : Sizes) (d : Drive) (v : Option Upiu) → d.progress.runs ≡ [] → (handed s v d).progress.runs ≡ []
handed_runs s d (Some v) none = refl
handed_runs s d None none = none

pub sent_at : (start : DeviceState) (old now : LinkState) (d : Drive) → AtDrive start old d → now.driver ≡ with_next (driver_sizes old.driver.shape) old.driver → now.tickets ≡ old.tickets
    → now.count ≡ old.count
    → now.lun ≡ old.lun → HandedTo start old.device now.device d.progress (next_upiu (driver_sizes old.driver.shape) old.driver) → AtDrive start now (sent (sizes_of start) d)
sent_at start old now d at driver tickets count lun got =
    let s = sizes_of start in
    let (u, sound) = sound_of start old.device d.progress at.standing in
    let serves = serves_of start at.limits at.some_unit in
    let stays = stays_of start at.limits in
    let q : SendsQuietly s d = sends_quietly s u (HasCaches s start.shape) d serves stays sound at.led in
    let shaped : old.driver.shape ≡ start.shape = ap (λ (m : Machine). m.shape) at.machine ∙ at.shape in
    let ready : Drive = record d { machine = with_next s d.machine } in
    let own = own_shape d.machine in
    let next : next_upiu (driver_sizes old.driver.shape) old.driver ≡ next_upiu s d.machine = same_upiu start old.driver shaped ∙ ap (next_upiu s) at.machine in
    record {
      limits = at.limits;
      some_unit = at.some_unit;
      standing = handed_standing start old.device now.device ready (next_upiu s d.machine) at.standing (subst (HandedTo start old.device now.device d.progress) next got);
      machine = driver ∙ same_next start old.driver shaped ∙ ap (with_next s) at.machine ∙ sym q.machine;
      tickets = tickets ∙ at.tickets ∙ ap (map ticket_of) (sym (ap (λ (m : Moment). m.callers) q.moment));
      count = count ∙ at.count ∙ sym (ap (λ (r : Requested). r.count) (asked_sent s d));
      lun = lun ∙ at.lun ∙ sym (ap (λ (r : Requested). r.lun) (asked_sent s d));
      shape = ap (λ (m : Machine). m.shape) q.machine ∙ own.0 ∙ at.shape;
      luns = ap (λ (m : Machine). m.luns) q.machine ∙ own.1 ∙ at.luns;
      no_runs = handed_runs s ready (next_upiu s d.machine) at.no_runs;
      led = led_sent s u (HasCaches s start.shape) d serves stays sound at.led;
    }

-- what is said of it
pub said_by : (next : Option Upiu) (result : Bool) (before out : List ℕ) (said : List Said) → IsSent next result before out → with_sent next said ≡ said_sent result out said
said_by (Some v) result before out said (sends, is) = sym (ap (λ (b : Bool). said_sent b out said) sends ∙ ap (λ (bytes : List ℕ). Happened (Host bytes) ∷ said) is)
said_by None result before out said (sends, is) = sym (ap (λ (b : Bool). said_sent b out said) sends)

pub sent_says : (start : DeviceState) (old : LinkState) (d : Drive) (result : Bool) (before out : List ℕ) → AtDrive start old d
    → IsSent (next_upiu (driver_sizes old.driver.shape) old.driver) result before out → (sent (sizes_of start) d).said ≡ said_sent result out d.said
sent_says start old d result before out at sends =
    let s = sizes_of start in
    let (u, sound) = sound_of start old.device d.progress at.standing in
    let q : SendsQuietly s d = sends_quietly s u (HasCaches s start.shape) d (serves_of start at.limits at.some_unit) (stays_of start at.limits) sound at.led in
    let shaped : old.driver.shape ≡ start.shape = ap (λ (m : Machine). m.shape) at.machine ∙ at.shape in
    let next : next_upiu (driver_sizes old.driver.shape) old.driver ≡ next_upiu s d.machine = same_upiu start old.driver shaped ∙ ap (next_upiu s) at.machine in
    q.said ∙ said_by (next_upiu s d.machine) result before out d.said (subst (λ (n : Option Upiu). IsSent n result before out) next sends)

-- nothing was handed over, or this
pub not_handed : (start was now : DeviceState) (p : Progress) (next : Option Upiu) (result : Bool) (before out : List ℕ) → IsSent next result before out → result ≡ false → now ≡ was
    → HandedTo start was now p next
not_handed start was now p (Some v) result before out (sends, is) none same = absurd (false≢true (sym none ∙ sends))
not_handed start was now p None result before out told none same = same

pub is_handed : (start was now : DeviceState) (p : Progress) (next : Option Upiu) (result : Bool) (before out bytes : List ℕ) → IsSent next result before out → result ≡ true → bytes ≡ out
    → Standing start now (received (sizes_of start) p bytes) → HandedTo start was now p next
is_handed start was now p (Some v) result before out bytes (sends, is) some same standing = subst (λ (xs : List ℕ). Standing start now (received (sizes_of start) p xs)) (same ∙ is) standing
is_handed start was now p None result before out bytes (sends, is) some same standing = absurd (false≢true (sym sends ∙ some))
