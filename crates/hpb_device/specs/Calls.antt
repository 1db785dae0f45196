-- What the calls of a device leave.
use Rattle.std.specs.Prelude.{⊤, ◌≡◌, ◌≢◌, ◌⊎◌, ℕ, ◌+◌, ◌*◌, ◌<◌, ◌≤◌, List, [], ◌∷◌, ◌++◌, length, map, replicate}
use Rattle.std.specs.Prelude.{Option, Some, None, Bool, false, true}
use Rattle.std.specs.Bool.{OnFalse}
use Rattle.std.specs.List.{AllByRecursion}
use Rattle.hpb_outside.specs.Faults.{Rose, raised}
use Rattle.flash_pages.specs.declared.chip.ChipOp.{ChipOp}
use Rattle.flash_pages.specs.declared.chip.ChipOp.TheVariants.{Read as ReadCall}
use Rattle.flash_pages.specs.Sound.{ChipOk}
use Rattle.collector_laws.specs.Changes.{Changes, uncollected}
use Rattle.flash_store.specs.declared.answers.Moved.{Moved}
use Rattle.flash_store.specs.declared.answers.Moved.TheVariants.{Idle, Page}
use Rattle.flash_store.specs.declared.answers.Phase.{Phase}
use Rattle.flash_store.specs.declared.answers.Phase.TheVariants.{Scanning, Ready, Foreign}
use Rattle.flash_store.specs.Collecting.{as_collected}
use Rattle.flash_store.specs.Store.{IsCollected, IsCollectFault, IsSame, StoreState, collecting}
use Rattle.region_state.specs.Machine.{after_reset}
use Rattle.upiu_wire.specs.Upiu.{upiu_at, upiu_out}
use Rattle.flat_unit.specs.Replays.{bound}
use Rattle.hpb_device.specs.declared.device.Sent.{Sent}
use Rattle.hpb_device.specs.declared.device.Sent.TheVariants.{Nothing, Upiu}
use Rattle.hpb_device.specs.declared.device.Stepped.{Stepped}
use Rattle.hpb_device.specs.declared.task.Task.{Task}
use Rattle.hpb_device.specs.declared.reply.Cause.TheVariants.{DataNotAsked, ChipFailed}
use Rattle.hpb_device.specs.declared.reply.Reply.TheVariants.{Check}
use Rattle.hpb_device.specs.declared.advance.Internal.{Internal}
use Rattle.hpb_device.specs.declared.advance.Internal.TheVariants.{Collected}
use Rattle.hpb_device.specs.declared.advance.Progress.{Progress}
use Rattle.hpb_device.specs.declared.advance.Progress.TheVariants.{Sends, Silent, Ended, Failed}
use Rattle.hpb_device.specs.Accept.{IsBegun, IsNextPiece}
use Rattle.hpb_device.specs.Counts.{counted, counted_moved, counted_step}
use Rattle.hpb_device.specs.Advance.{Advances, IsSameStore, ServesEntry, check, op_of}
use Rattle.hpb_device.specs.Left.{steps_left, unscanned}
use Rattle.hpb_device.specs.Limits.{limits_of}
use Rattle.hpb_device.specs.Lists.{lists_stepped, lists_unread}
use Rattle.hpb_device.specs.Regions.{regions_after, regions_moved, segment_told}
use Rattle.hpb_device.specs.Reply.{reply_upiu, told_upiu}
use Rattle.hpb_device.specs.Standing.{sizes_of}
use Rattle.hpb_device.specs.State.{DeviceState, IsSound}
use Rattle.hpb_device.specs.StoreCounts.{CountsStep}
use Rattle.hpb_device.specs.Task.{WaitsForData, IsTaskOk, IsWaiting, next_entry}

-- a command was kept, last in order, where there was room; no more steps are left than it takes at most
pub record Keeps (old new : DeviceState) (bytes : List ℕ) : Type 0 where
  pub task : Task
  pub room : length old.tasks < 32
  pub begun : IsBegun (limits_of old.shape) old.store.luns (upiu_at bytes) task
  pub kept : new.tasks ≡ old.tasks ++ task ∷ []
  pub held : new.held ≡ old.held
  pub left : steps_left new ≤ steps_left old + bound (sizes_of old) task.command

-- the next data of the first task have come
pub record TakesData (old new : DeviceState) (segment : List ℕ) : Type 0 where
  pub task : Task
  pub others : List Task
  pub was : old.tasks ≡ task ∷ others
  pub piece : IsNextPiece task segment
  pub kept : new.tasks ≡ record task { come = task.come + length segment } ∷ others
  pub held : new.held ≡ old.held ++ segment
  pub left : steps_left new ≡ steps_left old

-- the first task, which waited for other data, is no longer kept
pub record EndsHead (old new : DeviceState) (out : List ℕ) : Type 0 where
  pub task : Task
  pub others : List Task
  pub was : old.tasks ≡ task ∷ others
  pub waited : WaitsForData task
  pub ended : new.tasks ≡ others
  pub residual : ℕ
  pub answer : out ≡ upiu_out (reply_upiu (Check task.lun task.tag residual DataNotAsked))
  pub left : steps_left new < steps_left old

-- what was answered at once leaves the tasks as they were, or ends the first one where it waited for other data
abbrev pub Receives : (old new : DeviceState) → (bytes : List ℕ) → Sent → (out : List ℕ) → Type 0
Receives old new bytes Nothing out = Keeps old new bytes ⊎ TakesData old new (upiu_at bytes).segment
Receives old new bytes Upiu out = (new ≡ old) ⊎ EndsHead old new out

abbrev pub stepped : Option ChipOp → Option (ℕ × ℕ) → Bool → Stepped
stepped failed moved sent = record { idle = false; failed = failed; moved = moved; sent = sent }

-- nothing was to be done
abbrev pub at_rest : Stepped
at_rest = record { idle = true; failed = None; moved = None; sent = false }

-- the block that the collector programmed anew
abbrev pub moved_by : Moved → Option (ℕ × ℕ)
moved_by (Page lun lba) = Some (lun, lba)
moved_by _ = None

abbrev pub moved_in : Internal → Option (ℕ × ℕ)
moved_in (Collected moved) = moved_by moved
moved_in _ = None

-- the tasks that are kept after a step, the data that are held, and what the step tells and sends: a GOOD RESPONSE has
-- this segment
abbrev pub Leaves : Progress → (segment : List ℕ) → (others tasks : List Task) → (held : List ℕ) → Stepped → List ℕ
    → Type 0
Leaves (Sends what rest) segment others tasks held result out = (tasks ≡ rest ∷ others)
    × (result ≡ stepped None None true)
Leaves (Silent what rest) segment others tasks held result out =
    (tasks ≡ rest ∷ others) × (result ≡ stepped None (moved_in what) false)
Leaves (Ended reply) segment others tasks held result out =
    (tasks ≡ others) × (held ≡ []) × (result ≡ stepped None None true) × (out ≡ upiu_out (told_upiu segment reply))
Leaves (Failed what reply) segment others tasks held result out =
    (tasks ≡ others) × (held ≡ []) × (result ≡ stepped (Some (op_of what)) None true)
    × (out ≡ upiu_out (reply_upiu reply))

-- where the first task is kept, nothing is done to the data that are held and to the UPIU that was sent
abbrev pub Stays : Progress → (held held_now out out_now : List ℕ) → Type 0
Stays (Ended reply) held held_now out out_now = ⊤
Stays (Failed what reply) held held_now out out_now = ⊤
Stays _ held held_now out out_now = (held_now ≡ held) × (out_now ≡ out)

-- on a ready chip, which is sound, the first task went on by one step
pub record GoesOn (old new : DeviceState) (result : Stepped) (out : List ℕ) : Type 0 where
  pub task : Task
  pub others : List Task
  pub progress : Progress
  pub was : old.tasks ≡ task ∷ others
  pub ok : IsTaskOk old.store.luns (limits_of old.shape) task
  pub goes : task.come ≡ task.asked
  pub scanned : unscanned old ≡ 0
  pub sound : IsSound old
  pub advances : Advances (limits_of old.shape) old.store new.store old.held new.held task progress out
  pub leaves : Leaves progress (segment_told old.shape old.regions task progress) others new.tasks new.held result out
  pub regions : new.regions ≡ regions_after old.shape old.regions task progress
  pub same : IsSame old.store new.store
  pub lists : new.lists ≡ lists_stepped old.lists task old.held progress
  pub entries : ServesEntry (next_entry old.lists task) old.store task progress
  pub calls : CountsStep old.store new.store (next_entry old.lists task) task progress
  pub counts : new.counts ≡ counted old.counts progress

-- the first task, if there is one, is answered that the chip could not be read, and the step tells this failure
abbrev pub EndsUnread : Option ChipOp → (tasks now : List Task) → Stepped → (out : List ℕ) → Type 0
EndsUnread failed [] now result out = (now ≡ []) × (result ≡ stepped failed None false)
EndsUnread failed (task ∷ others) now result out =
    (now ≡ others) × (result ≡ stepped failed None true) × (out ≡ upiu_out (reply_upiu (check task ChipFailed)))

-- how far a scan has come: pages are left, or all were read and the chip is sound or foreign
abbrev pub IsKnown : Phase → StoreState → Type 0
IsKnown Scanning store = store.scanned < store.geometry.blocks * store.geometry.pages
IsKnown Ready store =
    (store.scanned ≡ store.geometry.blocks * store.geometry.pages)
    × ChipOk store.geometry store.luns store.units store.pages
IsKnown Foreign store =
    (store.scanned ≡ store.geometry.blocks * store.geometry.pages)
    × ¬ ChipOk store.geometry store.luns store.units store.pages

-- the next page of the scan was read
pub record ReadsPage (old new : DeviceState) (result : Stepped) : Type 0 where
  pub lists : new.lists ≡ old.lists
  pub one_more : new.store.scanned ≡ old.store.scanned + 1
  pub known : IsKnown new.store.phase new.store
  pub faults : new.store.faults ≡ old.store.faults
  pub tasks : new.tasks ≡ old.tasks
  pub result_is : result ≡ stepped None None false

-- the chip failed to read it, and it is read next
pub record MissesPage (old new : DeviceState) (result : Stepped) (out : List ℕ) : Type 0 where
  pub lists : new.lists ≡ lists_unread old.lists old.tasks
  pub scanned : new.store.scanned ≡ old.store.scanned
  pub phase : new.store.phase ≡ Scanning
  pub faults : Rose old.store.faults new.store.faults × (new.store.faults ≤ old.store.faults + 1)
  pub ends : EndsUnread (Some ReadCall) old.tasks new.tasks result out

-- one step of the scan: one call of the chip, which keeps its pages
pub record Scans (old new : DeviceState) (result : Stepped) (out : List ℕ) : Type 0 where
  pub same : IsSameStore old.store new.store
  pub kept : collecting new.store ≡ collecting old.store
  pub calls : new.store.calls ≡ raised old.store.calls
  pub lookups : (new.store.lookups ≡ old.store.lookups) ⊎ (new.store.lookups ≡ raised old.store.lookups)
  pub hits : new.store.hits ≡ old.store.hits
  pub more : 0 < unscanned old
  pub waiting : AllByRecursion (IsWaiting old.store.luns (limits_of old.shape)) old.tasks
  pub regions : new.regions ≡ old.regions
  pub held : new.held ≡ []
  pub counts : new.counts ≡ counted_step old.counts
  pub outcome : ReadsPage old new result ⊎ MissesPage old new result out

-- a step on a foreign chip: it makes no call of the chip
pub record Refuses (old new : DeviceState) (result : Stepped) (out : List ℕ) : Type 0 where
  pub lists : new.lists ≡ lists_unread old.lists old.tasks
  pub foreign : ¬ IsSound old
  pub scanned : unscanned old ≡ 0
  pub waiting : AllByRecursion (IsWaiting old.store.luns (limits_of old.shape)) old.tasks
  pub store : new.store ≡ old.store
  pub regions : new.regions ≡ old.regions
  pub held : new.held ≡ []
  pub counts : new.counts ≡ counted_step old.counts
  pub ends : EndsUnread None old.tasks new.tasks result out

-- what a step does that isn't idle, by what is known of the chip
abbrev pub StepsIn : Phase → (old new : DeviceState) → Stepped → (out : List ℕ) → Type 0
StepsIn Scanning old new result out = Scans old new result out
StepsIn Ready old new result out = GoesOn old new result out
StepsIn Foreign old new result out = Refuses old new result out

abbrev pub Steps : (old new : DeviceState) → Stepped → (out : List ℕ) → Type 0
Steps old new result out = OnFalse result.idle (StepsIn old.store.phase old new result out)

-- fewer steps are left, unless no task is kept and the chip failed to read a page of the scan
abbrev pub LeavesFewer : (old new : DeviceState) → Stepped → Type 0
LeavesFewer old new result =
    (steps_left new < steps_left old)
    ⊎ ((old.tasks ≡ []) × (result.failed ≡ Some ReadCall) × (steps_left new ≡ steps_left old))

-- a step of the collector was made, or its call failed: then the chosen victim is held, and all else is as before
pub record MovesOn (old new : DeviceState) (moved : Moved) (result : Stepped) : Type 0 where
  pub busy : moved ≢ Idle
  pub step : IsCollected old.store moved new.store
  pub changes :
      Changes old.store.geometry old.store.luns old.store.units old.store.pages (as_collected moved) new.store.pages
  pub faults : new.store.faults ≡ old.store.faults
  pub regions : new.regions ≡ regions_moved old.shape old.regions moved
  pub counts : new.counts ≡ counted_moved old.counts moved
  pub result_is : result ≡ stepped None (moved_by moved) false

pub record FailsToMove (old new : DeviceState) (op : ChipOp) (result : Stepped) : Type 0 where
  pub fault : IsCollectFault old.store op new.store
  pub faults : Rose old.store.faults new.store.faults × (new.store.faults ≤ old.store.faults + 1)
  pub regions : new.regions ≡ old.regions
  pub counts : new.counts ≡ old.counts
  pub result_is : result ≡ stepped (Some op) None false

-- what a call of `collect` does that isn't idle: one call of the chip
pub record CollectsOn (old new : DeviceState) (result : Stepped) : Type 0 where
  pub lists : new.lists ≡ old.lists
  pub phase : old.store.phase ≡ Ready
  pub same : IsSame old.store new.store
  pub tasks : new.tasks ≡ old.tasks
  pub held : new.held ≡ old.held
  pub calls : new.store.calls ≡ raised old.store.calls
  pub hits : new.store.hits ≡ old.store.hits
  pub outcome : ((moved : Moved) × MovesOn old new moved result) ⊎ ((op : ChipOp) × FailsToMove old new op result)

abbrev pub Collects : (old new : DeviceState) → Stepped → Type 0
Collects old new result = OnFalse result.idle (CollectsOn old new result)

-- the device after a reset: no task and no list of entries is kept, its chip is scanned anew, and each host is to be
-- told that all regions are forgotten
abbrev pub reset_of : DeviceState → DeviceState
reset_of device = record device {
  regions = map after_reset device.regions;
  lists = replicate (length device.lists) None;
  store = record device.store { phase = Scanning; scanned = 0; victim = None; buffer = None };
  tasks = [];
  held = [];
}

-- how many calls of `collect` are left at most before one is idle
abbrev pub uncollected_in : DeviceState → ℕ
uncollected_in device = uncollected device.store.geometry (collecting device.store)
