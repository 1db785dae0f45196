-- How many steps a device takes at most, after each of its calls.
use Rattle.std.proofs.Common.{◌%◌, ◌⊎◌, ◌≡◌, Option, ℕ, zero, suc, ◌+◌, ◌-◌, ◌*◌, ◌/◌, ◌<◌, ◌≤◌, Bool, true, false}
use Rattle.std.proofs.Common.{nat_lt, min, List, [], ◌∷◌, ◌++◌, map, refl, sym, ap, subst, arith, Some, inl, inr, ◌∙◌}
use Rattle.std.proofs.lemmas.Bool.Decides.{nat_tests}
use Rattle.std.proofs.Math.Nat.{mul-le-mul_left, mul-suc}
use Rattle.std.specs.Prelude.{sum_by, if◌then◌else◌}
use Rattle.std.proofs.lemmas.List.Sums.{sum_by-cons, sum_by_push}
use Rattle.std.proofs.lemmas.Bool.{false≢true}
use Rattle.flash_pages.specs.declared.chip.Geometry.{Geometry}
use Rattle.flash_pages.specs.declared.chip.ChipOp.{ChipOp}
use Rattle.flash_pages.specs.declared.chip.ChipOp.TheVariants.{Read as ReadCall}
use Rattle.collector_laws.specs.Changes.{until_room}
use Rattle.flash_store.specs.Store.{IsSame, StoreState, collecting}
use Rattle.hpb_cdb.specs.declared.cdb.Cdb.{Cdb}
use Rattle.hpb_cdb.specs.declared.cdb.Cdb.TheVariants.{TestReady, Read, Write, Capacity, Sync, HpbRead, ReadBuffer, Prefetch}
use Rattle.hpb_cdb.specs.declared.limits.Limits.{Limits}
use Rattle.flat_unit.specs.Command.{is_write}
use Rattle.flat_unit.specs.History.{History}
use Rattle.flat_unit.specs.Queue.{tasks_after}
use Rattle.flat_unit.specs.Replays.{bound, enough}
use Rattle.flat_unit.specs.Stands.{First}
use Rattle.flat_unit.specs.Task.{Task as Waiting}
use Rattle.hpb_device.specs.declared.advance.Progress.{Progress}
use Rattle.hpb_device.specs.declared.advance.Progress.TheVariants.{Sends, Silent, Ended, Failed}
use Rattle.hpb_device.specs.declared.device.Stepped.{Stepped}
use Rattle.hpb_device.specs.declared.task.Task.{Task}
use Rattle.hpb_device.specs.Advance.{AllTasks}
use Rattle.hpb_device.specs.Calls.{EndsUnread, Leaves, LeavesFewer}
use Rattle.hpb_device.specs.Keeps.{KeepsTasks, waiting_of}
use Rattle.hpb_device.specs.Left.{KeepsNoWrite, asks_by, steps_left, steps_of, tasks_left, tries_by, unprogrammed_by, unscanned, wait_of, write_steps}
use Rattle.hpb_device.specs.declared.task.Work.TheVariants.{TakeList}
use Rattle.hpb_device.specs.Work.{work_of}
use Rattle.hpb_device.specs.Limits.{limits_of}
use Rattle.hpb_device.specs.Sizes.{sizes}
use Rattle.hpb_device.specs.Standing.{DeviceStands, sizes_of}
use Rattle.hpb_device.specs.State.{AreAtRest, AtRest, DeviceState}
use Rattle.hpb_device.specs.Task.{IsServed, bytes_given, bytes_taken}

-- the steps of the blocks of a write
pub writes_most : (pages wait n : ℕ) → wait + 1 ≤ 2 * pages → write_steps pages wait n ≤ 2 * pages * n
writes_most pages wait zero few = omega arith
writes_most pages wait (suc more) few = let all = mul-suc (2 * pages) more in omega (arith, few, all)

pub writes_wait : (pages wait n : ℕ) → wait + 1 ≤ 2 * pages → write_steps pages wait n ≤ write_steps pages (2 * pages - 1) n
writes_wait pages wait zero few = omega arith
writes_wait pages wait (suc more) few = omega (arith, few)

pub no_writes : (pages wait n : ℕ) → n ≡ 0 → write_steps pages wait n ≡ 0
no_writes pages wait n is = ap (write_steps pages wait) is

pub wait_most : (store : StoreState) → 1 ≤ store.geometry.pages → wait_of store + 1 ≤ 2 * store.geometry.pages
wait_most store some = omega (arith, some)

-- a task has a step left
pub some_left : (lim : Limits) (pages wait : ℕ) (task : Task) → 0 < steps_of lim pages wait task
some_left lim pages wait task = omega arith

steps_wait : (lim : Limits) (pages wait : ℕ) (task : Task) → wait + 1 ≤ 2 * pages → steps_of lim pages wait task ≤ steps_of lim pages (2 * pages - 1) task
steps_wait lim pages wait task few = let more = writes_wait pages wait (unprogrammed_by (work_of task.command) task.programmed) few in omega (arith, more)

-- the steps of some tasks, the first of which waits no longer than any other
pub tasks_most : (lim : Limits) (pages wait : ℕ) (tasks : List Task) → wait + 1 ≤ 2 * pages → tasks_left lim pages wait tasks ≤ sum_by (steps_of lim pages (2 * pages - 1)) tasks
tasks_most lim pages wait [] few = omega arith
tasks_most lim pages wait (head ∷ others) few =
    let first = steps_wait lim pages wait head few in
    let all = sum_by-cons (steps_of lim pages (2 * pages - 1)) head others in
    omega (arith, first, all)

-- the first task is gone
without_fewer : (lim : Limits) (pages wait now : ℕ) (task : Task) (others : List Task) → now + 1 ≤ 2 * pages → tasks_left lim pages now others < tasks_left lim pages wait (task ∷ others)
without_fewer lim pages wait now task others few =
    let most = tasks_most lim pages now others few in
    let some = some_left lim pages wait task in
    omega (arith, most, some)

-- a step of the first task leaves fewer
pub leaves_fewer : (segment : List ℕ) (lim : Limits) (pages wait now : ℕ) (task : Task) (progress : Progress) (others tasks : List Task) (held : List ℕ) (result : Stepped) (out : List ℕ)
    → now + 1 ≤ 2 * pages
    → Leaves progress segment others tasks held result out
    → AllTasks (λ rest. steps_of lim pages now rest < steps_of lim pages wait task) progress → tasks_left lim pages now tasks < tasks_left lim pages wait (task ∷ others)
leaves_fewer segment lim pages wait now task (Sends what rest) others tasks held result out few leaves less = rw (leaves.0) (omega (arith, less))
leaves_fewer segment lim pages wait now task (Silent what rest) others tasks held result out few leaves less = rw (leaves.0) (omega (arith, less))
leaves_fewer segment lim pages wait now task (Ended reply) others tasks held result out few leaves less = rw (leaves.0) (without_fewer lim pages wait now task others few)
leaves_fewer segment lim pages wait now task (Failed what reply) others tasks held result out few leaves less = rw (leaves.0) (without_fewer lim pages wait now task others few)

pub ended_left : (lim : Limits) (pages wait now : ℕ) (old tasks : List Task) (task : Task) (others : List Task) → now + 1 ≤ 2 * pages → old ≡ task ∷ others → tasks ≡ others
    → tasks_left lim pages now tasks < tasks_left lim pages wait old
ended_left lim pages wait now old tasks task others few was gone = rw (was, gone) (without_fewer lim pages wait now task others few)

-- no more steps are left than the tasks need

few_for : (luns : ℕ) (lim : Limits) (geometry : Geometry) (wait sent asked programmed : ℕ) (tried : Bool) (command : Cdb) → wait + 1 ≤ 2 * geometry.pages
    → (bytes_given lim command - sent + 4095) / 4096 + tries_by (work_of command) sent tried + asks_by (work_of command) asked
    + write_steps geometry.pages wait (unprogrammed_by (work_of command) programmed) + 1
    ≤ bound (sizes luns lim geometry) command
few_for luns lim geometry wait sent asked programmed tried (Write lba n) few =
    let left = n - programmed in
    let all = writes_most geometry.pages wait left few in
    let more : 2 * geometry.pages * left ≤ 2 * geometry.pages * n = mul-le-mul_left (2 * geometry.pages) (omega arith) in
    omega (arith, all, more)
few_for luns lim geometry wait sent asked programmed tried (HpbRead lba entry n id) few = omega arith
few_for luns lim geometry wait sent asked programmed tried (Read lba n) few = omega arith
few_for luns lim geometry wait sent asked programmed tried TestReady few = omega arith
few_for luns lim geometry wait sent asked programmed tried Capacity few = omega arith
few_for luns lim geometry wait sent asked programmed tried (Sync lba n) few = omega arith
few_for luns lim geometry wait sent asked programmed tried (ReadBuffer number part len) few = omega arith
few_for luns lim geometry wait sent asked programmed tried (Prefetch lba id len) few = by_asked (nat_lt asked len)
  where
    by_asked : (b : Bool) → (0 - sent + 4095) / 4096 + 0 + (if b then 1 else 0) + 0 + 1 ≤ 2
    by_asked true = omega arith
    by_asked false = omega arith
few_for luns lim geometry wait sent asked programmed tried _ few = omega arith

pub few_of : (device : DeviceState) (wait : ℕ) (task : Task) → wait + 1 ≤ 2 * device.store.geometry.pages
    → steps_of (limits_of device.shape) device.store.geometry.pages wait task ≤ bound (sizes_of device) task.command
few_of device wait task few = few_for device.store.luns (limits_of device.shape) device.store.geometry wait task.sent task.asked task.programmed task.tried task.command few

-- sums over the tasks of a device and of its history
sums_waiting : (f : Task → ℕ) (g : Waiting → ℕ) (others : List Task) → ((task : Task) → f task ≤ g (waiting_of task)) → sum_by f others ≤ sum_by g (map waiting_of others)
sums_waiting f g [] each = omega arith
sums_waiting f g (task ∷ others) each =
    let one = each task in
    let rest = sums_waiting f g others each in
    let left = sum_by-cons f task others in
    let right = sum_by-cons g (waiting_of task) (map waiting_of others) in
    omega (arith, one, rest, left, right)

few_by : (device : DeviceState) (wait : ℕ) (kept : List Task) (held : List ℕ) (tasks : List Waiting) → wait + 1 ≤ 2 * device.store.geometry.pages → KeepsTasks kept held tasks
    → tasks_left (limits_of device.shape) device.store.geometry.pages wait kept ≤ sum_by (λ (task : Waiting). bound (sizes_of device) task.command) tasks
few_by device wait [] held tasks few keeps = omega arith
few_by device wait (head ∷ others) held tasks few keeps =
    let pages = device.store.geometry.pages in
    let f : Task → ℕ = steps_of (limits_of device.shape) pages (2 * pages - 1) in
    let g : Waiting → ℕ = λ task. bound (sizes_of device) task.command in
    let same : bound (sizes_of device) keeps.0.command ≡ bound (sizes_of device) head.command = ap (bound (sizes_of device)) keeps.1.command in
    let first = few_of device wait head few in
    let rest = sums_waiting f g others (λ task. few_of device (2 * pages - 1) task (omega (arith, few))) in
    let all = sum_by-cons g keeps.0 (map waiting_of others) in
    let least : tasks_left (limits_of device.shape) pages wait (head ∷ others) ≤ sum_by g (keeps.0 ∷ map waiting_of others) = omega (arith, first, same, rest, all) in
    subst (λ (ts : List Waiting). tasks_left (limits_of device.shape) pages wait (head ∷ others) ≤ sum_by g ts) (sym keeps.2) least

pub few_kept : (device : DeviceState) (tasks : List Waiting) → 1 ≤ device.store.geometry.pages → KeepsTasks device.tasks device.held tasks → steps_left device ≤ enough (sizes_of device) tasks
few_kept device tasks some keeps =
    let few = few_by device (wait_of device.store) device.tasks device.held tasks (wait_most device.store some) keeps in
    omega (arith, few)

pub few_left : (device : DeviceState) (first : First) (e : History) → 1 ≤ device.store.geometry.pages → DeviceStands device first e
    → steps_left device ≤ enough (sizes_of device) (tasks_after (sizes_of device) e)
few_left device first e some at =
    subst (λ (ts : List Waiting). steps_left device ≤ enough (sizes_of device) ts) (sym at.stands.keeps) (few_kept device at.tasks some at.keeps)

-- a command that is kept adds at most its bound
more_left : (device : DeviceState) (wait : ℕ) (kept : List Task) (task : Task) → wait + 1 ≤ 2 * device.store.geometry.pages
    → tasks_left (limits_of device.shape) device.store.geometry.pages wait (kept ++ task ∷ [])
    ≤ tasks_left (limits_of device.shape) device.store.geometry.pages wait kept + bound (sizes_of device) task.command
more_left device wait [] task few = let one = few_of device wait task few in omega (arith, one)
more_left device wait (head ∷ others) task few =
    let pages = device.store.geometry.pages in
    let one = few_of device (2 * pages - 1) task (omega (arith, few)) in
    let more = sum_by_push (steps_of (limits_of device.shape) pages (2 * pages - 1)) others task in
    omega (arith, one, more)

pub keeps_left : (device : DeviceState) (task : Task) → 1 ≤ device.store.geometry.pages
    → steps_left (record device { tasks = device.tasks ++ task ∷ [] }) ≤ steps_left device + bound (sizes_of device) task.command
keeps_left device task some = let more = more_left device (wait_of device.store) device.tasks task (wait_most device.store some) in omega (arith, more)

-- the collector changes nothing for tasks of which none writes
no_write_left : (command : Cdb) (programmed : ℕ) → is_write command ≡ false → unprogrammed_by (work_of command) programmed ≡ 0
no_write_left (Write lba n) programmed is = absurd (false≢true (sym is))
no_write_left (Read lba n) programmed is = refl
no_write_left (HpbRead lba entry n id) programmed is = refl
no_write_left (Prefetch lba id len) programmed is = refl
no_write_left (ReadBuffer region sub len) programmed is = refl
no_write_left _ programmed is = refl

pub quiet_left : (lim : Limits) (pages wait now : ℕ) (tasks : List Task) → KeepsNoWrite tasks → tasks_left lim pages now tasks ≡ tasks_left lim pages wait tasks
quiet_left lim pages wait now [] none = refl
quiet_left lim pages wait now (head ∷ others) none =
    let zero_left = no_write_left head.command head.programmed none.0 in
    let before = no_writes pages wait _ zero_left in
    let after = no_writes pages now _ zero_left in
    omega (arith, before, after)

-- a device that can go on has a step left
pub going_left : (device : DeviceState) (head : Task) (others : List Task) → device.tasks ≡ head ∷ others → 1 ≤ steps_left device
going_left device head others was =
    let some = some_left (limits_of device.shape) device.store.geometry.pages (wait_of device.store) head in
    let all : tasks_left (limits_of device.shape) device.store.geometry.pages (wait_of device.store) device.tasks
    ≡ tasks_left (limits_of device.shape) device.store.geometry.pages (wait_of device.store) (head ∷ others) =
    ap (tasks_left (limits_of device.shape) device.store.geometry.pages (wait_of device.store)) was in
    omega (arith, some, all)

-- the next block of a write was programmed, or waits for one step of the collector less
pub programmed_fewer : (lim : Limits) (pages wait now : ℕ) (task : Task) (lba n : ℕ) → now + 1 ≤ 2 * pages → task.command ≡ Write lba n → task.programmed < n
    → steps_of lim pages now (record task { programmed = task.programmed + 1 }) < steps_of lim pages wait task
programmed_fewer lim pages wait now task lba n few is below =
    let more = n - (task.programmed + 1) in
    let left : ℕ → ℕ = λ done. unprogrammed_by (work_of task.command) done in
    let before : left task.programmed ≡ suc more = ap (λ (c : Cdb). unprogrammed_by (work_of c) task.programmed) is ∙ omega (arith, below) in
    let after : left (task.programmed + 1) ≡ more = ap (λ (c : Cdb). unprogrammed_by (work_of c) (task.programmed + 1)) is in
    let most = writes_most pages now more few in
    let all_before : write_steps pages wait (left task.programmed) ≡ 2 * pages * more + wait + 1 = ap (write_steps pages wait) before in
    let all_after : write_steps pages now (left (task.programmed + 1)) ≡ write_steps pages now more = ap (write_steps pages now) after in
    omega (arith, most, all_before, all_after)

pub collected_fewer : (lim : Limits) (pages wait now : ℕ) (task : Task) (lba n : ℕ) → now < wait → task.command ≡ Write lba n → task.programmed < n
    → steps_of lim pages now task < steps_of lim pages wait task
collected_fewer lim pages wait now task lba n less is below =
    let more = n - (task.programmed + 1) in
    let left : unprogrammed_by (work_of task.command) task.programmed ≡ suc more = ap (λ (c : Cdb). unprogrammed_by (work_of c) task.programmed) is ∙ omega (arith, below) in
    let before : write_steps pages wait (unprogrammed_by (work_of task.command) task.programmed) ≡ 2 * pages * more + wait + 1 = ap (write_steps pages wait) left in
    let after : write_steps pages now (unprogrammed_by (work_of task.command) task.programmed) ≡ 2 * pages * more + now + 1 = ap (write_steps pages now) left in
    omega (arith, less, before, after)

-- the next data were asked for
pub asked_fewer : (lim : Limits) (pages wait : ℕ) (task : Task) (count : ℕ) → IsServed lim task.command → task.asked < bytes_taken task.command
    → (task.asked % 4096 ≡ 0) ⊎ (task.asked ≡ bytes_taken task.command) → count ≡ min 32768 (bytes_taken task.command - task.asked)
    → steps_of lim pages wait (record task { asked = task.asked + count }) < steps_of lim pages wait task
asked_fewer lim pages wait task count served more whole counted =
    let fewer = by_command task.command task.asked served more whole counted in
    omega (arith, fewer)
  where
    some : (asked bytes : ℕ) → asked < bytes → bytes ≤ asked + count → asks_by (TakeList bytes) (asked + count) < asks_by (TakeList bytes) asked
    some asked bytes more all =
        let before : nat_lt asked bytes ≡ true = grind (arith, nat_tests, more) in
        let after : nat_lt (asked + count) bytes ≡ false = grind (arith, nat_tests, all) in
        rw (before, after) (omega arith)

    by_command : (command : Cdb) (asked : ℕ) → IsServed lim command → asked < bytes_taken command → (asked % 4096 ≡ 0) ⊎ (asked ≡ bytes_taken command)
        → count ≡ min 32768 (bytes_taken command - asked) → asks_by (work_of command) (asked + count) < asks_by (work_of command) asked
    by_command (Write lba n) asked served more whole counted = omega (arith, more, counted)
    by_command (Prefetch lba id len) asked served more whole counted = some asked len more (omega (arith, served.4, more, counted))
    by_command _ asked served more whole counted = absurd (omega arith)

-- where the collector is as it was, the first task waits as long as before
pub wait_same : (old new : StoreState) → IsSame old new → collecting new ≡ collecting old → wait_of new ≡ wait_of old
wait_same old new same kept = λ i. min (until_room (same.geometry i) (kept i)) (2 * (same.geometry i).pages - 1)

pub fewer_along : (lim : Limits) (pages : ℕ) (old new : StoreState) (task : Task) (progress : Progress) → IsSame old new → collecting new ≡ collecting old
    → AllTasks (λ rest. steps_of lim pages (wait_of old) rest < steps_of lim pages (wait_of old) task) progress
    → AllTasks (λ rest. steps_of lim pages (wait_of new) rest < steps_of lim pages (wait_of old) task) progress
fewer_along lim pages old new task progress same kept less =
    subst (λ (wait : ℕ). AllTasks (λ rest. steps_of lim pages wait rest < steps_of lim pages (wait_of old) task) progress) (sym (wait_same old new same kept)) less

-- a task that ends because the chip could not be read
pub unread_fewer : (lim : Limits) (pages wait : ℕ) (failed : Option ChipOp) (tasks left : List Task) (result : Stepped) (out : List ℕ) → wait + 1 ≤ 2 * pages
    → EndsUnread failed tasks left result out → (tasks ≡ [] → ⊥) → tasks_left lim pages wait left < tasks_left lim pages wait tasks
unread_fewer lim pages wait failed [] left result out few ends some = absurd (some refl)
unread_fewer lim pages wait failed (task ∷ others) left result out few ends some = ended_left lim pages wait wait (task ∷ others) left task others few refl ends.0

pub rest_left : (device : DeviceState) → (AtRest device → ⊥) → 1 ≤ steps_left device
rest_left device going = by_tasks device.tasks refl
  where
    by_tasks : (tasks : List Task) → device.tasks ≡ tasks → 1 ≤ steps_left device
    by_tasks [] none = absurd (going (subst AreAtRest (sym none) tt))
    by_tasks (head ∷ others) was = going_left device head others was

-- a scan that failed to read its page leaves fewer steps where it ended a task, and else as many
pub misses_fewer : (old new : DeviceState) (result : Stepped) (out : List ℕ) → 1 ≤ old.store.geometry.pages → new.store.geometry ≡ old.store.geometry → new.shape ≡ old.shape
    → collecting new.store ≡ collecting old.store → new.store.scanned ≡ old.store.scanned → EndsUnread (Some ReadCall) old.tasks new.tasks result out → LeavesFewer old new result
misses_fewer old new result out some geometry shape kept scanned ends = by_tasks old.tasks refl ends
  where
    waits : wait_of new.store ≡ wait_of old.store
    waits = λ i. min (until_room (geometry i) (kept i)) (2 * (geometry i).pages - 1)

    left : tasks_left (limits_of new.shape) new.store.geometry.pages (wait_of new.store) new.tasks
        ≡ tasks_left (limits_of old.shape) old.store.geometry.pages (wait_of old.store) new.tasks
    left = λ i. tasks_left (limits_of (shape i)) (geometry i).pages (waits i) new.tasks

    unread : unscanned new ≡ unscanned old
    unread = λ i. (geometry i).blocks * (geometry i).pages - scanned i

    by_tasks : (tasks : List Task) → old.tasks ≡ tasks → EndsUnread (Some ReadCall) tasks new.tasks result out → LeavesFewer old new result
    by_tasks [] is ends =
        let same : tasks_left (limits_of old.shape) old.store.geometry.pages (wait_of old.store) new.tasks ≡ tasks_left (limits_of old.shape) old.store.geometry.pages (wait_of old.store) old.tasks =
        ap (tasks_left (limits_of old.shape) old.store.geometry.pages (wait_of old.store)) (ends.0 ∙ sym is) in
        inr (is, ap (λ (r : Stepped). r.failed) ends.1, omega (arith, left, unread, same))
    by_tasks (task ∷ others) is ends =
        let less = ended_left (limits_of old.shape) old.store.geometry.pages (wait_of old.store) (wait_of old.store) old.tasks new.tasks task others (wait_most old.store some) is ends.0 in
        inl (omega (arith, less, left, unread))
