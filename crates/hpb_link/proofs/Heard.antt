-- The device makes a step, and the driver hears what it sends.
use Rattle.std.proofs.Common.{◌≡◌, ℕ, Bool, true, false, cond, suc, ◌≤◌, not, ◌&&◌, ◌||◌, nat_le, ◌+◌, length, List, [], ◌∷◌, ◌++◌, map, Option, Some, None, Result, Ok, Err, refl, sym, ◌∙◌, ap, subst}
use Rattle.std.specs.Prelude.{if◌then◌else◌, fold, option_map, ◌==◌, IsTrue}
use Rattle.std.specs.List.{find}
use Rattle.region_state.specs.declared.shape.Shape.{Shape}
use Rattle.flash_pages.specs.declared.chip.ChipOp.{ChipOp}
use Rattle.flash_pages.specs.Place.{Place}
use Rattle.flat_unit.specs.declared.event.Event.TheVariants.{Device}
use Rattle.flat_unit.specs.Replays.{Group, events_of, failed_events, moved_events, sent_events}
use Rattle.flat_unit.specs.Sizes.{Sizes}
use Rattle.hex.specs.Hex.{IsBytes}
use Rattle.hpb_device.specs.declared.device.Stepped.{Stepped}
use Rattle.hpb_device.specs.Standing.{group_of, sizes_of}
use Rattle.hpb_device.specs.State.{DeviceState}
use Rattle.driver_laws.specs.declared.answer.Done.{Done}
use Rattle.driver_laws.specs.declared.fault.DriverFault.{DriverFault}
use Rattle.driver_laws.specs.Commands.{OpenCommand}
use Rattle.hpb_cdb.specs.declared.cdb.Cdb.{Cdb}
use Rattle.hpb_cdb.specs.declared.cdb.Cdb.TheVariants.{TestReady, Read, Write, Capacity, Sync, HpbRead, ReadBuffer, Prefetch, InactOne, InactAll}
use Rattle.upiu_wire.specs.declared.fault.WireFault.{WireFault}
use Rattle.upiu_wire.specs.declared.kind.Kind.{Kind}
use Rattle.upiu_wire.specs.declared.kind.Kind.TheVariants.{NopIn, DataIn, ReadyToTransfer, Response}
use Rattle.upiu_wire.specs.Upiu.{Upiu, upiu_at}
use Rattle.upiu_wire.specs.WireFault.{wire_fault_of}
use Rattle.flat_unit.specs.Command.{bytes_given, bytes_taken}
use Rattle.driver_laws.specs.declared.fault.DriverFault.TheVariants.{Phase}
use Rattle.driver_laws.specs.Commands.{has}
use Rattle.driver_laws.specs.Deliver.{Delivered, delivered, delivered_by, delivered_by_fault, delivered_to, may_come_by, taken}
use Rattle.driver_laws.specs.Drive.{Moment, has_asked, without_asked, with_delivered as moment_delivered, with_done as moment_done}
use Rattle.driver_laws.specs.Flat.{Asked}
use Rattle.driver_caches.specs.Machine.{Machine, with_delivered as machine_delivered}
use Rattle.driver_commands.specs.Open.{sizes_of as driver_sizes}
use Rattle.drive_rules.specs.Lines.{AreBytes, Drive, SendsBytes, happened, moment_of, stepped_by}
use Rattle.drive_rules.specs.Said.{Said, with_answer, with_delivered, with_done}
use Rattle.hpb_link.specs.declared.ticket.Ticket.{Ticket}
use Rattle.hpb_link.specs.declared.ticket.Ended.{Ended}
use Rattle.hpb_link.specs.State.{IsHeard, LinkState, ended_after, ended_done, ended_heard, is_for, machine_heard, ticket_of, tickets_after, tickets_done, tickets_heard, without_ticket}
use Rattle.hpb_link.proofs.Sent.{stays_of}
use Rattle.drive_rules.specs.Cached.{HasCaches}
use Rattle.drive_rules.proofs.Asking.{Requested, asked_events}
use Rattle.drive_rules.proofs.Turns.{led_stepped}
use Rattle.replay_standing.specs.Calls.{HasStepped}
use Rattle.flat_unit.specs.History.{◌▹◌}
use Rattle.flat_unit.specs.declared.event.Event.TheVariants.{Moved, Failed}
use Rattle.hpb_link.specs.Stands.{AtDrive, HasDriven, IsSaid, said_events}

-- by the sizes of the driver comes what comes by those of the device
given_same : (start : DeviceState) (command : Cdb) → bytes_given (driver_sizes start.shape) command ≡ bytes_given (sizes_of start) command
given_same start TestReady = refl
given_same start (Read lba n) = refl
given_same start (Write lba n) = refl
given_same start Capacity = refl
given_same start (Sync lba n) = refl
given_same start (HpbRead lba entry n id) = refl
given_same start (ReadBuffer region sub len) = refl
given_same start (Prefetch lba id len) = refl
given_same start (InactOne region) = refl
given_same start InactAll = refl

taken_same : (start : DeviceState) (command : Cdb) → bytes_taken (driver_sizes start.shape) command ≡ bytes_taken (sizes_of start) command
taken_same start TestReady = refl
taken_same start (Read lba n) = refl
taken_same start (Write lba n) = refl
taken_same start Capacity = refl
taken_same start (Sync lba n) = refl
taken_same start (HpbRead lba entry n id) = refl
taken_same start (ReadBuffer region sub len) = refl
taken_same start (Prefetch lba id len) = refl
taken_same start (InactOne region) = refl
taken_same start InactAll = refl

come_same : (start : DeviceState) (k : Kind) (o : OpenCommand) (v : Upiu) → may_come_by k (driver_sizes start.shape) o v ≡ may_come_by k (sizes_of start) o v
come_same start DataIn o v = ap (λ (n : ℕ). (v.first == length o.got) && ((v.count == length v.segment) && (not (v.count == 0) && nat_le (length o.got + v.count) n))) (given_same start o.command)
come_same start ReadyToTransfer o v = ap (λ (n : ℕ). (v.first == o.asked) && (not (v.count == 0) && nat_le (o.asked + v.count) n)) (taken_same start o.command)
come_same start Response o v = λ i. not (v.status == 0) || ((length o.got == given_same start o.command i) && (o.given == taken_same start o.command i))
come_same start _ o v = refl

to_same : (start : DeviceState) (opens : List OpenCommand) (v : Upiu) (found : Option OpenCommand) → delivered_to (driver_sizes start.shape) opens v found ≡ delivered_to (sizes_of start) opens v found
to_same start opens v (Some o) = ap (λ (b : Bool). if (o.lun == v.lun) && b then Ok (taken v.kind opens o v) else Err Phase) (come_same start v.kind o v)
to_same start opens v None = refl

by_same : (start : DeviceState) (opens : List OpenCommand) (v : Upiu) (k : Kind) → delivered_by k (driver_sizes start.shape) opens v ≡ delivered_by k (sizes_of start) opens v
by_same start opens v NopIn = refl
by_same start opens v _ = to_same start opens v (find (has v.tag) opens)

fault_same : (start : DeviceState) (opens : List OpenCommand) (bytes : List ℕ) (fault : Option WireFault)
    → delivered_by_fault (driver_sizes start.shape) opens bytes fault ≡ delivered_by_fault (sizes_of start) opens bytes fault
fault_same start opens bytes (Some fault) = refl
fault_same start opens bytes None = by_same start opens (upiu_at bytes) (upiu_at bytes).kind

delivered_is : (s : Sizes) (opens : List OpenCommand) (bytes : List ℕ) → delivered s opens bytes ≡ delivered_by_fault s opens bytes (wire_fault_of bytes)
unfolding delivered
delivered_is s opens bytes = refl

pub same_delivered : (start : DeviceState) (shape : Shape) (opens : List OpenCommand) (bytes : List ℕ) → shape ≡ start.shape
    → delivered (driver_sizes shape) opens bytes ≡ delivered (sizes_of start) opens bytes
same_delivered start shape opens bytes is =
    ap (λ (x : Shape). delivered (driver_sizes x) opens bytes) is
    ∙ delivered_is (driver_sizes start.shape) opens bytes ∙ fault_same start opens bytes (wire_fault_of bytes) ∙ sym (delivered_is (sizes_of start) opens bytes)

-- the tickets are those of the requests that are open
pub without_same : (tag : ℕ) (callers : List Asked) → without_ticket tag (map ticket_of callers) ≡ map ticket_of (without_asked tag callers)
without_same tag [] = refl
without_same tag (a ∷ rest) = by_tag (a.tag == tag) (without_same tag rest)
  where
    by_tag : (b : Bool) → without_ticket tag (map ticket_of rest) ≡ map ticket_of (without_asked tag rest)
        → (if b then map ticket_of rest else ticket_of a ∷ without_ticket tag (map ticket_of rest)) ≡ map ticket_of (if b then rest else a ∷ without_asked tag rest)
    by_tag true is = refl
    by_tag false is = ap (λ (ts : List Ticket). ticket_of a ∷ ts) is

pub find_same : (tag : ℕ) (callers : List Asked) → find (is_for tag) (map ticket_of callers) ≡ option_map ticket_of (find (has_asked tag) callers)
find_same tag [] = refl
find_same tag (a ∷ rest) = by_tag (a.tag == tag) (find_same tag rest)
  where
    by_tag : (b : Bool) → find (is_for tag) (map ticket_of rest) ≡ option_map ticket_of (find (has_asked tag) rest)
        → cond b (Some (ticket_of a)) (find (is_for tag) (map ticket_of rest)) ≡ option_map ticket_of (cond b (Some a) (find (has_asked tag) rest))
    by_tag true is = refl
    by_tag false is = is

-- what bytes of the device make of them
tickets_same : (r : Result Delivered DriverFault) (m : Moment) → tickets_after r (map ticket_of m.callers) ≡ map ticket_of (moment_delivered r m).callers
tickets_same (Ok d) m = by_done d.done
  where
    by_done : (done : Option Done) → tickets_done done (map ticket_of m.callers) ≡ map ticket_of (moment_done done (record m { opens = d.opens })).callers
    by_done (Some done) = without_same done.tag m.callers
    by_done None = refl
tickets_same (Err fault) m = refl

answer_said : (done : Done) (found : Option Asked) (said : List Said)
    → IsSaid (option_map (λ (t : Ticket). record { ticket = t; answer = done.answer }) (option_map ticket_of found)) said (with_answer done found said)
answer_said done (Some a) said = (a, refl, refl)
answer_said done None said = refl

pub ended_said : (r : Result Delivered DriverFault) (callers : List Asked) (said : List Said) → IsSaid (ended_after r (map ticket_of callers)) said (with_delivered r callers said)
ended_said (Ok d) callers said = by_done d.done
  where
    by_done : (done : Option Done) → IsSaid (ended_done done (map ticket_of callers)) said (with_done done callers said)
    by_done (Some done) =
        subst (λ (found : Option Ticket). IsSaid (option_map (λ (t : Ticket). record { ticket = t; answer = done.answer }) found) said (with_answer done (find (has_asked done.tag) callers) said))
        (sym (find_same done.tag callers)) (answer_said done (find (has_asked done.tag) callers) said)
    by_done None = refl
ended_said (Err fault) callers said = refl

-- what a step made of the driver and the tickets, whatever failed and moved before it sent
pub step_machine : (s : Sizes) (d : Drive) (failed : Option ChipOp) (moved : Option Place) (sent : Option (List ℕ))
    → (fold (happened s) d (failed_events failed ++ moved_events moved ++ sent_events sent)).machine ≡ machine_heard s sent d.machine
step_machine s d None None None = refl
step_machine s d None None (Some bytes) = refl
step_machine s d None (Some p) None = refl
step_machine s d None (Some p) (Some bytes) = refl
step_machine s d (Some op) None None = refl
step_machine s d (Some op) None (Some bytes) = refl
step_machine s d (Some op) (Some p) None = refl
step_machine s d (Some op) (Some p) (Some bytes) = refl

got_tickets : (s : Sizes) (d : Drive) (bytes : List ℕ) → tickets_after (delivered s d.machine.opens bytes) (map ticket_of d.callers) ≡ map ticket_of (happened s d (Device bytes)).callers
got_tickets s d bytes = tickets_same (delivered s d.machine.opens bytes) (record (moment_of d) { events = d.progress.events ▹ Device bytes })

pub step_tickets : (s : Sizes) (d : Drive) (failed : Option ChipOp) (moved : Option Place) (sent : Option (List ℕ))
    → tickets_heard s sent d.machine.opens (map ticket_of d.callers) ≡ map ticket_of (fold (happened s) d (failed_events failed ++ moved_events moved ++ sent_events sent)).callers
step_tickets s d None None None = refl
step_tickets s d None None (Some bytes) = got_tickets s d bytes
step_tickets s d None (Some p) None = refl
step_tickets s d None (Some p) (Some bytes) = got_tickets s (happened s d (Moved p.lun p.lba)) bytes
step_tickets s d (Some op) None None = refl
step_tickets s d (Some op) None (Some bytes) = got_tickets s (happened s d (Failed op)) bytes
step_tickets s d (Some op) (Some p) None = refl
step_tickets s d (Some op) (Some p) (Some bytes) = got_tickets s (happened s (happened s d (Failed op)) (Moved p.lun p.lba)) bytes

step_said : (s : Sizes) (d : Drive) (failed : Option ChipOp) (moved : Option Place) (sent : Option (List ℕ))
    → IsSaid (ended_heard s sent d.machine.opens (map ticket_of d.callers)) (said_events d.said (failed_events failed ++ moved_events moved ++ sent_events sent))
    (fold (happened s) d (failed_events failed ++ moved_events moved ++ sent_events sent)).said
step_said s d None None None = refl
step_said s d None None (Some bytes) = ended_said (delivered s d.machine.opens bytes) d.callers _
step_said s d None (Some p) None = refl
step_said s d None (Some p) (Some bytes) = ended_said (delivered s d.machine.opens bytes) d.callers _
step_said s d (Some op) None None = refl
step_said s d (Some op) None (Some bytes) = ended_said (delivered s d.machine.opens bytes) d.callers _
step_said s d (Some op) (Some p) None = refl
step_said s d (Some op) (Some p) (Some bytes) = ended_said (delivered s d.machine.opens bytes) d.callers _

-- the units stay
delivered_shape : (m : Machine) (bytes : List ℕ) (r : Result Delivered DriverFault) → ((machine_delivered m bytes r).shape ≡ m.shape) × ((machine_delivered m bytes r).luns ≡ m.luns)
delivered_shape m bytes (Ok d) = (refl, refl)
delivered_shape m bytes (Err fault) = (refl, refl)

heard_shape : (s : Sizes) (sent : Option (List ℕ)) (m : Machine) → ((machine_heard s sent m).shape ≡ m.shape) × ((machine_heard s sent m).luns ≡ m.luns)
heard_shape s (Some bytes) m = delivered_shape m bytes (delivered s m.opens bytes)
heard_shape s None m = (refl, refl)

-- by the sizes of the driver it is what it is by those of the device
same_machine : (start : DeviceState) (sent : Option (List ℕ)) (m : Machine) → m.shape ≡ start.shape → machine_heard (driver_sizes m.shape) sent m ≡ machine_heard (sizes_of start) sent m
same_machine start (Some bytes) m is = ap (machine_delivered m bytes) (same_delivered start m.shape m.opens bytes is)
same_machine start None m is = refl

same_tickets : (start : DeviceState) (sent : Option (List ℕ)) (shape : Shape) (opens : List OpenCommand) (tickets : List Ticket) → shape ≡ start.shape
    → tickets_heard (driver_sizes shape) sent opens tickets ≡ tickets_heard (sizes_of start) sent opens tickets
same_tickets start (Some bytes) shape opens tickets is = ap (λ (r : Result Delivered DriverFault). tickets_after r tickets) (same_delivered start shape opens bytes is)
same_tickets start None shape opens tickets is = refl

same_ended : (start : DeviceState) (sent : Option (List ℕ)) (shape : Shape) (opens : List OpenCommand) (tickets : List Ticket) → shape ≡ start.shape
    → ended_heard (driver_sizes shape) sent opens tickets ≡ ended_heard (sizes_of start) sent opens tickets
same_ended start (Some bytes) shape opens tickets is = ap (λ (r : Result Delivered DriverFault). ended_after r tickets) (same_delivered start shape opens bytes is)
same_ended start None shape opens tickets is = refl

-- where the two ends stand after it, but for the device
pub record Hears (start : DeviceState) (now : LinkState) (d : Drive) (g : Group) (ended : Option Ended) : Type 0 where
  pub machine : now.driver ≡ (stepped_by (sizes_of start) g d).machine
  pub tickets : now.tickets ≡ map ticket_of (stepped_by (sizes_of start) g d).callers
  pub count : now.count ≡ (stepped_by (sizes_of start) g d).count
  pub lun : now.lun ≡ (stepped_by (sizes_of start) g d).lun
  pub shape : (stepped_by (sizes_of start) g d).machine.shape ≡ start.shape
  pub luns : (stepped_by (sizes_of start) g d).machine.luns ≡ start.store.luns
  pub said : IsSaid ended (said_events d.said (events_of g)) (stepped_by (sizes_of start) g d).said

pub hears : (start : DeviceState) (old now : LinkState) (d : Drive) (g : Group) (ended : Option Ended) → AtDrive start old d → IsHeard g.sent old now ended → Hears start now d g ended
hears start old now d g ended at heard =
    let s = sizes_of start in
    let shaped : old.driver.shape ≡ start.shape = ap (λ (m : Machine). m.shape) at.machine ∙ at.shape in
    let machine = step_machine s d g.failed g.moved g.sent in
    let stays = heard_shape s g.sent d.machine in
    let opens : old.driver.opens ≡ d.machine.opens = ap (λ (m : Machine). m.opens) at.machine in
    let ended_same : ended ≡ ended_heard s g.sent d.machine.opens (map ticket_of d.callers) =
    heard.ended_is ∙ same_ended start g.sent old.driver.shape old.driver.opens old.tickets shaped
    ∙ (λ i. ended_heard s g.sent (opens i) (at.tickets i)) in
    record {
      machine = heard.driver ∙ same_machine start g.sent old.driver shaped ∙ ap (machine_heard s g.sent) at.machine ∙ sym machine;
      tickets = heard.tickets ∙ same_tickets start g.sent old.driver.shape old.driver.opens old.tickets shaped
          ∙ (λ i. tickets_heard s g.sent (opens i) (at.tickets i)) ∙ step_tickets s d g.failed g.moved g.sent;
      count = heard.count ∙ at.count ∙ sym (ap (λ (r : Requested). r.count) (asked_events s (events_of g) d));
      lun = heard.lun ∙ at.lun ∙ sym (ap (λ (r : Requested). r.lun) (asked_events s (events_of g) d));
      shape = ap (λ (m : Machine). m.shape) machine ∙ stays.0 ∙ at.shape;
      luns = ap (λ (m : Machine). m.luns) machine ∙ stays.1 ∙ at.luns;
      said = subst (λ (e : Option Ended). IsSaid e (said_events d.said (events_of g)) (stepped_by s g d).said) (sym ended_same) (step_said s d g.failed g.moved g.sent);
    }

-- a step of the device, which the driver hears
pub stepped_at : (start : DeviceState) (old now : LinkState) (d : Drive) (g : Group) (ended : Option Ended) → AtDrive start old d → HasStepped start now.device d.progress g → SendsBytes g.sent
    → IsHeard g.sent old now ended → HasDriven start now d g ended
stepped_at start old now d g ended at stepped bytes heard =
    let h : Hears start now d g ended = hears start old now d g ended at heard in
    record {
      is_group = stepped.is_group;
      bytes = bytes;
      timely = stepped.timely;
      stands = record {
        limits = at.limits;
        some_unit = at.some_unit;
        standing = stepped.standing;
        machine = h.machine;
        tickets = h.tickets;
        count = h.count;
        lun = h.lun;
        shape = h.shape;
        luns = h.luns;
        no_runs = at.no_runs;
        led = led_stepped (sizes_of start) (HasCaches (sizes_of start) start.shape) g d (stays_of start at.limits) bytes at.led;
      };
      said = h.said;
    }

-- what a step sent are bytes
are_bytes : (xs : List ℕ) → IsBytes xs → AreBytes xs
are_bytes [] all = tt
are_bytes (x ∷ xs) all = (all 0, are_bytes xs (λ i. all (suc i)))

pub sends_bytes : (r : Stepped) (out : List ℕ) → (IsTrue r.sent → IsBytes out × (length out ≤ 4128)) → SendsBytes (group_of r out).sent
sends_bytes r out room = by_sent r.sent refl
  where
    by_sent : (b : Bool) → r.sent ≡ b → SendsBytes (if b then Some out else None)
    by_sent true is = are_bytes out (room is).0
    by_sent false is = tt

pub group_sent : (r : Stepped) (out : List ℕ) → r.sent ≡ true → (group_of r out).sent ≡ Some out
group_sent r out is = ap (λ (b : Bool). if b then Some out else None) is

pub group_unsent : (r : Stepped) (out : List ℕ) → r.sent ≡ false → (group_of r out).sent ≡ None
group_unsent r out is = ap (λ (b : Bool). if b then Some out else None) is

-- a group that sends nothing ends nothing
pub unsent_said : (s : Sizes) (d : Drive) (g : Group) → g.sent ≡ None → (fold (happened s) d (events_of g)).said ≡ said_events d.said (events_of g)
unsent_said s d g none =
    subst (λ (sent : Option (List ℕ)). IsSaid (ended_heard s sent d.machine.opens (map ticket_of d.callers)) (said_events d.said (events_of g)) (fold (happened s) d (events_of g)).said) none
    (step_said s d g.failed g.moved g.sent)

-- what was heard depends on the driver and the tickets alone
pub heard_by : (old was now : LinkState) (ended : Option Ended) (sent same : Option (List ℕ)) → was.driver ≡ old.driver → was.tickets ≡ old.tickets → was.count ≡ old.count → was.lun ≡ old.lun
    → sent ≡ same
    → IsHeard sent was now ended → IsHeard same old now ended
heard_by old was now ended sent same driver tickets count lun is heard = record {
  driver = heard.driver ∙ (λ i. machine_heard (driver_sizes (driver i).shape) (is i) (driver i));
  tickets = heard.tickets ∙ (λ i. tickets_heard (driver_sizes (driver i).shape) (is i) (driver i).opens (tickets i));
  ended_is = heard.ended_is ∙ (λ i. ended_heard (driver_sizes (driver i).shape) (is i) (driver i).opens (tickets i));
  count = heard.count ∙ count;
  lun = heard.lun ∙ lun;
}

pub unheard : (old now : LinkState) (sent : Option (List ℕ)) → now.driver ≡ old.driver → now.tickets ≡ old.tickets → now.count ≡ old.count → now.lun ≡ old.lun → sent ≡ None → IsHeard sent old now None
unheard old now sent driver tickets count lun none =
    heard_by old old now None None sent refl refl refl refl (sym none) (record { driver = driver; tickets = tickets; ended_is = refl; count = count; lun = lun })
