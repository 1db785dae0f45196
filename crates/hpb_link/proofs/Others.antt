-- Requests, calls of the collector, resets, holds and the choice of a unit.
use Rattle.std.proofs.Common.{◌≡◌, ℕ, ◌+◌, ◌≤◌, ◌<◌, Bool, true, false, ◌&&◌, List, [], ◌∷◌, ◌++◌, length, map, Option, None, refl, sym, ◌∙◌, ap, subst, arith, nat_le, nat_lt}
use Rattle.std.proofs.lemmas.Bool.{false≢true}
use Rattle.std.proofs.lemmas.Bool.Decides.{nat_tests}
use Rattle.region_state.specs.declared.shape.Shape.{Shape}
use Rattle.flat_unit.specs.Replays.{Group, events_of, reset as reset_progress}
use Rattle.hpb_device.specs.Standing.{sizes_of}
use Rattle.hpb_device.specs.State.{DeviceState}
use Rattle.replay_standing.specs.Calls.{HasCalled}
use Rattle.replay_standing.specs.Standing.{Standing}
use Rattle.driver_laws.specs.declared.request.Request.{Request}
use Rattle.driver_laws.specs.declared.request.Request.TheVariants.{Read as ReadOf, Write as WriteOf, Sync as SyncAll, Ready}
use Rattle.driver_laws.specs.Drive.{last_tag}
use Rattle.driver_laws.specs.Fits.{IsRequest}
use Rattle.driver_laws.specs.Flat.{Asked}
use Rattle.driver_caches.specs.Machine.{Machine, hold, reset, submit}
use Rattle.drive_rules.specs.Cached.{HasCaches}
use Rattle.drive_rules.specs.Lines.{Drive, collected_by, held_back, requested, reset_both}
use Rattle.drive_rules.proofs.Asking.{Requested, asked_events}
use Rattle.drive_rules.proofs.Turns.{led_call, led_held, led_outside, led_requested, led_reset}
use Rattle.hpb_driver.specs.State.{HasBytes, is_inside}
use Rattle.hpb_link.specs.declared.ticket.Ticket.{Ticket}
use Rattle.drive_rules.specs.Text.{lba_of}
use Rattle.hpb_link.specs.State.{LinkState, machine_heard, ticket_of, tickets_heard}
use Rattle.hpb_link.specs.Stands.{AtDrive}
use Rattle.hpb_link.proofs.Heard.{step_machine, step_tickets}
use Rattle.hpb_link.proofs.Sent.{stays_of}

-- a call of the collector, of which the driver hears nothing
pub collected_at : (start : DeviceState) (old now : LinkState) (d : Drive) (g : Group) → AtDrive start old d → HasCalled start now.device d.progress (events_of g) → g.sent ≡ None
    → now.driver ≡ old.driver
    → now.tickets ≡ old.tickets → now.count ≡ old.count → now.lun ≡ old.lun → AtDrive start now (collected_by (sizes_of start) (events_of g) d)
collected_at start old now d g at called silent driver tickets count lun =
    let s = sizes_of start in
    let machine = step_machine s d g.failed g.moved g.sent ∙ ap (λ (sent : Option (List ℕ)). machine_heard s sent d.machine) silent in
    let callers = ap (λ (sent : Option (List ℕ)). tickets_heard s sent d.machine.opens (map ticket_of d.callers)) (sym silent) ∙ step_tickets s d g.failed g.moved g.sent in
    record {
      limits = at.limits;
      some_unit = at.some_unit;
      standing = called.alone at.no_runs;
      machine = driver ∙ at.machine ∙ sym machine;
      tickets = tickets ∙ at.tickets ∙ callers;
      count = count ∙ at.count ∙ sym (ap (λ (r : Requested). r.count) (asked_events s (events_of g) d));
      lun = lun ∙ at.lun ∙ sym (ap (λ (r : Requested). r.lun) (asked_events s (events_of g) d));
      shape = ap (λ (m : Machine). m.shape) machine ∙ at.shape;
      luns = ap (λ (m : Machine). m.luns) machine ∙ at.luns;
      no_runs = at.no_runs;
      led = led_call s (HasCaches s start.shape) (events_of g) d called.collection at.led;
    }

-- both ends are reset
pub reset_at : (start : DeviceState) (old now : LinkState) (d : Drive) → AtDrive start old d → Standing start now.device (reset_progress d.progress) → now.driver ≡ reset old.driver → now.tickets ≡ []
    → now.count ≡ old.count → now.lun ≡ old.lun → AtDrive start now (reset_both d)
reset_at start old now d at standing driver tickets count lun = record {
  limits = at.limits;
  some_unit = at.some_unit;
  standing = standing;
  machine = driver ∙ ap reset at.machine;
  tickets = tickets;
  count = count ∙ at.count;
  lun = lun ∙ at.lun;
  shape = at.shape;
  luns = at.luns;
  no_runs = refl;
  led = led_reset (sizes_of start) (HasCaches (sizes_of start) start.shape) d (stays_of start at.limits) at.led;
}

-- the driver is held, or let go
pub held_at : (start : DeviceState) (old now : LinkState) (on : Bool) (d : Drive) → AtDrive start old d → now.device ≡ old.device → now.driver ≡ hold on old.driver → now.tickets ≡ old.tickets
    → now.count ≡ old.count → now.lun ≡ old.lun → AtDrive start now (held_back on d)
held_at start old now on d at device driver tickets count lun = record {
  limits = at.limits;
  some_unit = at.some_unit;
  standing = subst (λ (x : DeviceState). Standing start x d.progress) (sym device) at.standing;
  machine = driver ∙ ap (hold on) at.machine;
  tickets = tickets ∙ at.tickets;
  count = count ∙ at.count;
  lun = lun ∙ at.lun;
  shape = at.shape;
  luns = at.luns;
  no_runs = at.no_runs;
  led = led_held (sizes_of start) (HasCaches (sizes_of start) start.shape) on d (stays_of start at.limits) at.led;
}

-- another unit is chosen
pub chosen_at : (start : DeviceState) (old now : LinkState) (lun : ℕ) (d : Drive) → AtDrive start old d → now ≡ record old { lun = lun } → AtDrive start now (record d { lun = lun })
chosen_at start old now lun d at is = subst (λ (x : LinkState). AtDrive start x (record d { lun = lun })) (sym is) (record {
  limits = at.limits;
  some_unit = at.some_unit;
  standing = at.standing;
  machine = at.machine;
  tickets = at.tickets;
  count = at.count;
  lun = refl;
  shape = at.shape;
  luns = at.luns;
  no_runs = at.no_runs;
  led = record { turns = at.led.turns; may = at.led.may; is = at.led.is; stays = at.led.stays };
})

and_both : (a b : Bool) → (a && b) ≡ true → (a ≡ true) × (b ≡ true)
and_both true b is = (refl, is)
and_both false b is = absurd (false≢true is)

-- the blocks of a request that are there are one that the device serves
there_blocks : (start : DeviceState) (m : Machine) (lun lba n : ℕ) → m.shape ≡ start.shape → m.luns ≡ start.store.luns → (nat_lt lun m.luns && (nat_le n 255 && nat_le (lba + n) m.shape.units)) ≡ true
    → (lun < (sizes_of start).luns) × (n ≤ 255) × (lba + n ≤ (sizes_of start).units)
there_blocks start m lun lba n shape luns is =
    let a = and_both (nat_lt lun m.luns) (nat_le n 255 && nat_le (lba + n) m.shape.units) is in
    let b = and_both (nat_le n 255) (nat_le (lba + n) m.shape.units) a.1 in
    let l : lun < m.luns = (let x = a.0 in grind (arith, nat_tests, x)) in
    let f : n ≤ 255 = (let x = b.0 in grind (arith, nat_tests, x)) in
    let w : lba + n ≤ m.shape.units = (let x = b.1 in grind (arith, nat_tests, x)) in
    let units = ap (λ (x : Shape). x.units) shape in
    (omega (arith, l, luns), f, omega (arith, w, units))

pub is_request : (start : DeviceState) (m : Machine) (request : Request) → m.shape ≡ start.shape → m.luns ≡ start.store.luns → HasBytes request → is_inside m request ≡ true
    → IsRequest (sizes_of start) request
is_request start m (ReadOf lun lba n) shape luns has is = there_blocks start m lun lba n shape luns is
is_request start m (WriteOf lun lba n bytes) shape luns has is = let t = there_blocks start m lun lba n shape luns is in (t.0, t.1, t.2, has)
is_request start m SyncAll shape luns has is = tt
is_request start m Ready shape luns has is = tt

map_behind : (callers : List Asked) (a : Asked) → map ticket_of (callers ++ a ∷ []) ≡ map ticket_of callers ++ ticket_of a ∷ []
map_behind [] a = refl
map_behind (x ∷ xs) a = ap (λ (ts : List Ticket). ticket_of x ∷ ts) (map_behind xs a)

-- a request was taken
pub taken_at : (start : DeviceState) (old now : LinkState) (request : Request) (d : Drive) (tag : ℕ) → AtDrive start old d → HasBytes request → length old.driver.opens < 32
    → is_inside old.driver request ≡ true
    → now.device ≡ old.device → now.driver ≡ submit request old.driver → tag ≡ last_tag now.driver.opens
    → now.tickets ≡ old.tickets ++ record { number = old.count + 1; tag = tag; lba = lba_of request } ∷ [] → now.count ≡ old.count + 1 → now.lun ≡ old.lun
    → AtDrive start now (requested true request d)
taken_at start old now request d tag at has few inside device driver last tickets count lun =
    let s = sizes_of start in
    let submitted = driver ∙ ap (submit request) at.machine in
    let tag_is : tag ≡ last_tag (submit request d.machine).opens = last ∙ ap (λ (m : Machine). last_tag m.opens) submitted in
    let a : Asked = record { number = d.count + 1; tag = last_tag (submit request d.machine).opens; request = request } in
    record {
      limits = at.limits;
      some_unit = at.some_unit;
      standing = subst (λ (x : DeviceState). Standing start x d.progress) (sym device) at.standing;
      machine = submitted;
      tickets = tickets ∙ (λ i. at.tickets i ++ record { number = at.count i + 1; tag = tag_is i; lba = lba_of request } ∷ []) ∙ sym (map_behind d.callers a);
      count = count ∙ ap (λ (n : ℕ). n + 1) at.count;
      lun = lun ∙ at.lun;
      shape = at.shape;
      luns = at.luns;
      no_runs = at.no_runs;
      led = led_requested s (HasCaches s start.shape) request d (stays_of start at.limits)
          (is_request start d.machine request at.shape at.luns has (subst (λ (m : Machine). is_inside m request ≡ true) at.machine inside))
          (subst (λ (m : Machine). length m.opens < 32) at.machine few) at.led;
    }

-- a request is out of range
pub outside_at : (start : DeviceState) (old now : LinkState) (request : Request) (d : Drive) → AtDrive start old d → now ≡ record old { count = old.count + 1 }
    → AtDrive start now (requested false request d)
outside_at start old now request d at is = subst (λ (x : LinkState). AtDrive start x (requested false request d)) (sym is) (record {
  limits = at.limits;
  some_unit = at.some_unit;
  standing = at.standing;
  machine = at.machine;
  tickets = at.tickets;
  count = ap (λ (n : ℕ). n + 1) at.count;
  lun = at.lun;
  shape = at.shape;
  luns = at.luns;
  no_runs = at.no_runs;
  led = led_outside (sizes_of start) (HasCaches (sizes_of start) start.shape) request d at.led;
})
