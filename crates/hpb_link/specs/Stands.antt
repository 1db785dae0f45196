-- Where the two ends stand while a drive goes on.
use Rattle.std.specs.Prelude.{◌≡◌, ℕ, Bool, true, false, List, [], ◌∷◌, map, Option, Some, None, All, length, ◌≤◌}
use Rattle.flat_unit.specs.declared.event.Event.{Event}
use Rattle.flat_unit.specs.declared.event.Event.TheVariants.{Host}
use Rattle.flat_unit.specs.Replays.{Group, IsCollection, IsGroup, IsTimely, events_of}
use Rattle.hpb_device.specs.Standing.{sizes_of}
use Rattle.hpb_device.specs.State.{DeviceState}
use Rattle.region_state.specs.Shape.{IsWithinLimits}
use Rattle.replay_standing.specs.Standing.{Standing}
use Rattle.driver_laws.specs.Flat.{Asked, Came}
use Rattle.drive_rules.specs.Cached.{HasCaches}
use Rattle.drive_rules.specs.Lines.{Drive, SendsBytes, collected_by, requested, stepped_by}
use Rattle.driver_laws.specs.declared.request.Request.{Request}
use Rattle.hpb_driver.specs.State.{is_inside}
use Rattle.hpb_link.specs.declared.link.Submitted.{Submitted}
use Rattle.hpb_link.specs.declared.link.Submitted.TheVariants.{Taken, Range, Memory}
use Rattle.drive_rules.specs.Said.{Said, Happened, Ended as EndedSaid}
use Rattle.drive_rules.specs.Tame.{IsLed}
use Rattle.hpb_link.specs.declared.ticket.Ended.{Ended}
use Rattle.hpb_link.specs.State.{LinkState, ticket_of}

-- two ends that began with this device now stand at a moment of a drive
pub record AtDrive (start : DeviceState) (now : LinkState) (d : Drive) : Type 0 where
  pub limits : IsWithinLimits start.shape
  pub some_unit : 1 ≤ start.store.luns
  pub standing : Standing start now.device d.progress
  pub machine : now.driver ≡ d.machine
  pub tickets : now.tickets ≡ map ticket_of d.callers
  pub count : now.count ≡ d.count
  pub lun : now.lun ≡ d.lun
  pub shape : d.machine.shape ≡ start.shape
  pub luns : d.machine.luns ≡ start.store.luns
  pub no_runs : d.progress.runs ≡ []
  pub led : IsLed (sizes_of start) (HasCaches (sizes_of start) start.shape) d

-- what is said of bytes that the driver sent, if it sent any
abbrev pub said_sent : Bool → List ℕ → List Said → List Said
said_sent true bytes said = Happened (Host bytes) ∷ said
said_sent false bytes said = said

-- events are said one after another
abbrev pub said_events : List Said → List Event → List Said
said_events said [] = said
said_events said (x ∷ xs) = said_events (Happened x ∷ said) xs

-- the end of a request is said, where one ended
abbrev pub IsSaid : Option Ended → (before now : List Said) → Type 0
IsSaid None before now = now ≡ before
IsSaid (Some ended) before now =
    (a : Asked) × (now ≡ EndedSaid a (Came ended.answer) ∷ before) × (ended.ticket ≡ ticket_of a)

-- a step of the device made a group, and the driver got what it sent
pub record HasDriven (start : DeviceState) (now : LinkState) (d : Drive) (g : Group) (ended : Option Ended)
    : Type 0 where
  pub is_group : IsGroup g
  pub bytes : SendsBytes g.sent
  pub timely : IsTimely (sizes_of start) d.progress g
  pub stands : AtDrive start now (stepped_by (sizes_of start) g d)
  pub said : IsSaid ended (said_events d.said (events_of g)) (stepped_by (sizes_of start) g d).said

-- a call of the collector made these events, one at most
pub record HasCollected (start : DeviceState) (now : LinkState) (d : Drive) (group : List Event) : Type 0 where
  pub few : length group ≤ 1
  pub collection : All IsCollection group
  pub stands : AtDrive start now (collected_by (sizes_of start) group d)
  pub said : (collected_by (sizes_of start) group d).said ≡ said_events d.said group

-- a request was taken, or was out of range, or there wasn't enough memory
abbrev pub IsSubmittedAt : DeviceState → LinkState → LinkState → Request → Drive → Submitted → Type 0
IsSubmittedAt start old now request d Taken =
    (is_inside d.machine request ≡ true) × AtDrive start now (requested true request d)
IsSubmittedAt start old now request d Range =
    (is_inside d.machine request ≡ false) × AtDrive start now (requested false request d)
IsSubmittedAt start old now request d Memory = now ≡ old
