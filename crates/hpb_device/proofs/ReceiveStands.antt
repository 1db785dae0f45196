-- A device that stands at a history stands at it with the bytes of the host and their answer.
use Rattle.std.proofs.Common.{◌≡◌, ℕ, ◌+◌, ◌-◌, ◌^◌, ◌<◌, ◌≤◌, true, List, [], ◌∷◌, ◌++◌, map, length, drop, Option, Some, None, refl, sym, ◌∙◌, ap, subst, arith}
use Rattle.std.proofs.lemmas.List.{length-append, drop-append-le}
use Rattle.std.specs.List.{AllByRecursion}
use Rattle.flash_pages.specs.declared.chip.Geometry.{Geometry}
use Rattle.hpb_cdb.specs.declared.limits.Limits.{Limits}
use Rattle.upiu_wire.specs.declared.kind.Kind.{Kind}
use Rattle.upiu_wire.specs.declared.kind.Kind.TheVariants.{ManageRequest, QueryRequest}
use Rattle.upiu_wire.specs.declared.fault.WireFault.{WireFault}
use Rattle.upiu_wire.specs.Upiu.{Upiu, upiu_at, upiu_out}
use Rattle.upiu_wire.specs.WireFault.{wire_fault_of}
use Rattle.flat_unit.specs.declared.event.Event.{Event}
use Rattle.flat_unit.specs.declared.event.Event.TheVariants.{Host, Device}
use Rattle.flat_unit.specs.History.{History, ◌▹◌}
use Rattle.flat_unit.specs.Queue.{task_of, with_data}
use Rattle.flat_unit.specs.Reply.{reply_of, effects_of, effects_by_fault, effects_by_kind, check}
use Rattle.flat_unit.specs.Senses.{wrong_data}
use Rattle.flat_unit.specs.Sizes.{Sizes}
use Rattle.flat_unit.specs.Sound.{answers_to, reply_events}
use Rattle.flat_unit.specs.Stands.{First, Stands}
use Rattle.flat_unit.specs.Task.{Task as Waiting}
use Rattle.flat_unit.proofs.standing.OneCall.{stands_accepted, stands_taken, stands_answered, stands_refused}
use Rattle.hpb_device.specs.declared.task.Task.{Task}
use Rattle.hpb_device.specs.declared.reply.Reply.{Reply}
use Rattle.hpb_device.specs.declared.reply.Reply.TheVariants.{Check}
use Rattle.hpb_device.specs.declared.reply.Cause.TheVariants.{DataNotAsked}
use Rattle.hpb_device.specs.declared.accept.Verdict.{Verdict}
use Rattle.hpb_device.specs.Accept.{Follows, IsBegun, IsKept, IsTaken, IsAnswered}
use Rattle.hpb_device.specs.Keeps.{KeepsTasks, IsTaskOf, waiting_of}
use Rattle.hpb_device.specs.Limits.{limits_of}
use Rattle.hpb_device.specs.Reply.{reply_upiu}
use Rattle.hpb_device.specs.Sizes.{sizes}
use Rattle.hpb_device.specs.Standing.{sizes_of, kept_of, programmed_of, DeviceStands}
use Rattle.hpb_device.specs.State.{DeviceState}
use Rattle.hpb_device.specs.Task.{IsWaiting, IsQueue}
use Rattle.hpb_device.proofs.Leaving.{waiting_queue}
use Rattle.hpb_device.proofs.StepStands.{keeps_waiting, none_programmed}

-- no request but a command does anything
pub no_effects : (luns : ℕ) (lim : Limits) (geometry : Geometry) (tasks : List Waiting) (bytes : List ℕ) → effects_of (sizes luns lim geometry) true tasks bytes ≡ []
unfolding effects_of
no_effects luns lim geometry tasks bytes = by_fault (wire_fault_of bytes)
  where
    by_kind : (kind : Kind) → effects_by_kind kind (sizes luns lim geometry) true tasks (upiu_at bytes) ≡ []
    by_kind QueryRequest = refl
    by_kind ManageRequest = refl
    by_kind _ = refl

    by_fault : (fault : Option WireFault) → effects_by_fault (sizes luns lim geometry) true tasks bytes fault ≡ []
    by_fault (Some fault) = refl
    by_fault None = by_kind (upiu_at bytes).kind

waiting_more : (others : List Task) (task : Task) → map waiting_of (others ++ task ∷ []) ≡ map waiting_of others ++ waiting_of task ∷ []
waiting_more [] task = refl
waiting_more (next ∷ others) task = ap (λ (ts : List Waiting). waiting_of next ∷ ts) (waiting_more others task)

-- a command is kept last in order
pub keeps_more : (luns : ℕ) (lim : Limits) (kept : List Task) (held : List ℕ) (tasks : List Waiting) (task : Task) → IsQueue luns lim held kept → IsWaiting luns lim task
    → KeepsTasks kept held tasks → KeepsTasks (kept ++ task ∷ []) held (tasks ++ waiting_of task ∷ [])
keeps_more luns lim [] held tasks task queue is keeps =
    let all : AllByRecursion (IsWaiting luns lim) (task ∷ []) = (is, tt) in
    subst (λ (h : List ℕ). KeepsTasks (task ∷ []) h (tasks ++ waiting_of task ∷ [])) (sym queue)
    (subst (λ (ts : List Waiting). KeepsTasks (task ∷ []) [] (ts ++ waiting_of task ∷ [])) (sym keeps) (keeps_waiting luns lim (task ∷ []) all))
keeps_more luns lim (head ∷ others) held tasks task queue is keeps =
    (keeps.0, keeps.1, ap (λ (ts : List Waiting). ts ++ waiting_of task ∷ []) keeps.2 ∙ ap (λ (ts : List Waiting). keeps.0 ∷ ts) (sym (waiting_more others task)))

pub waiting_all : (luns : ℕ) (lim : Limits) (others : List Task) (task : Task) → AllByRecursion (IsWaiting luns lim) others → IsWaiting luns lim task
    → AllByRecursion (IsWaiting luns lim) (others ++ task ∷ [])
waiting_all luns lim [] task all is = (is, tt)
waiting_all luns lim (next ∷ others) task all is = (all.0, waiting_all luns lim others task all.1 is)

pub queue_more : (luns : ℕ) (lim : Limits) (kept : List Task) (held : List ℕ) (task : Task) → IsQueue luns lim held kept → IsWaiting luns lim task → IsQueue luns lim held (kept ++ task ∷ [])
queue_more luns lim [] held task queue is = waiting_queue luns lim held (task ∷ []) queue (is, tt)
queue_more luns lim (head ∷ others) held task queue is = (queue.0, queue.1, waiting_all luns lim others task queue.2 is)

pub programmed_more : (luns : ℕ) (lim : Limits) (kept : List Task) (task : Task) → IsWaiting luns lim task → programmed_of kept ≡ programmed_of (kept ++ task ∷ [])
programmed_more luns lim [] task is = sym is.none_programmed
programmed_more luns lim (head ∷ others) task is = refl

-- a command of which nothing is done yet
pub waits_begun : (lim : Limits) (luns : ℕ) (upiu : Upiu) (task : Task) → IsBegun lim luns upiu task → IsWaiting luns lim task
waits_begun lim luns upiu task begun = record {
  ok = begun.task_ok;
  none_asked = ap (λ (t : Task). t.asked) begun.task_is;
  none_come = ap (λ (t : Task). t.come) begun.task_is;
  none_sent = ap (λ (t : Task). t.sent) begun.task_is;
  none_programmed = ap (λ (t : Task). t.programmed) begun.task_is;
  none_tried = ap (λ (t : Task). t.tried) begun.task_is;
}

-- a command is kept
pub stands_kept : (d : DeviceState) (task : Task) (bytes : List ℕ) (lim : Limits) (luns : ℕ) (first : First) (e : History) → IsQueue luns lim d.held d.tasks → IsBegun lim luns (upiu_at bytes) task
    → ((tasks : List Waiting) → KeepsTasks d.tasks d.held tasks → IsKept (sizes_of d) tasks bytes task)
    → DeviceStands d first e → DeviceStands (record d { tasks = d.tasks ++ task ∷ [] }) first (e ▹ Host bytes)
stands_kept d task bytes lim luns first e queue begun follows at =
    let kept = follows at.tasks at.keeps in
    let v = upiu_at bytes in
    let now = stands_accepted (sizes_of d) first (kept_of at.erases d at.tasks) e bytes task.command kept.silent kept.kind kept.command at.stands in
    let waits = waits_begun lim luns v task begun in
    let same : task_of v task.command ≡ waiting_of task = λ i. record {
      lun = sym (ap (λ (t : Task). t.lun) begun.task_is) i;
      tag = sym (ap (λ (t : Task). t.tag) begun.task_is) i;
      command = task.command;
      expected = sym (ap (λ (t : Task). t.expected) begun.task_is) i;
      asked = 0;
      come = [];
      sent = 0;
    } in
    let P : List Waiting → ℕ → Type 0 =
    λ tasks programmed. Stands (sizes_of d) first (record (kept_of at.erases d tasks) { programmed = programmed }) (e ▹ Host bytes) in
    record {
      tasks = at.tasks ++ waiting_of task ∷ [];
      erases = at.erases;
      keeps = keeps_more luns lim d.tasks d.held at.tasks task queue waits at.keeps;
      counted = at.counted;
      sound = at.sound;
      stands = subst (λ (n : ℕ). P (at.tasks ++ waiting_of task ∷ []) n) (programmed_more luns lim d.tasks task waits)
          (subst (λ (t : Waiting). P (at.tasks ++ t ∷ []) (programmed_of d.tasks)) same now);
    }

-- data are added to the head
pub data_kept : (held segment : List ℕ) (kept : Task) (task : Waiting) → length held ≤ kept.come → IsTaskOf held kept task
    → IsTaskOf (held ++ segment) (record kept { come = kept.come + length segment }) (with_data segment task)
data_kept held segment kept task part at = record {
  lun = at.lun;
  tag = at.tag;
  command = at.command;
  expected = at.expected;
  asked = at.asked;
  come = length-append task.come segment ∙ ap (λ (n : ℕ). n + length segment) at.come;
  last = last;
  sent = at.sent;
}
  where
    before : ℕ
    before = kept.come - length held

    same : (kept.come + length segment) - length (held ++ segment) ≡ before
    same = let e = length-append held segment in omega (arith, e, part)

    inside : before ≤ length task.come
    inside = omega (arith, at.come)

    last : drop ((kept.come + length segment) - length (held ++ segment)) (task.come ++ segment) ≡ held ++ segment
    last =
        ap (λ (n : ℕ). drop n (task.come ++ segment)) same
        ∙ (drop-append-le before task.come segment inside ∙ ap (λ (xs : List ℕ). xs ++ segment) at.last)

pub stands_with_data : (d : DeviceState) (kept : Task) (others : List Task) (bytes segment : List ℕ) (first : First) (e : History) → d.tasks ≡ kept ∷ others → length d.held ≤ kept.come
    → ((tasks : List Waiting) → KeepsTasks d.tasks d.held tasks → IsTaken (sizes_of d) tasks bytes segment)
    → DeviceStands d first e → DeviceStands (record d { tasks = record kept { come = kept.come + length segment } ∷ others; held = d.held ++ segment }) first (e ▹ Host bytes)
stands_with_data d kept others bytes segment first e is part follows at =
    let taken = follows at.tasks at.keeps in
    let keeps = subst (λ (ts : List Task). KeepsTasks ts d.held at.tasks) is at.keeps in
    let task = keeps.0 in
    let ws = map waiting_of others in
    let alone : at.tasks ≡ task ∷ ws = keeps.2 in
    let s = sizes_of d in
    let standing : Stands s first (kept_of at.erases d (task ∷ ws)) e = subst (λ (ts : List Waiting). Stands s first (kept_of at.erases d ts) e) alone at.stands in
    let silent : reply_of s true (task ∷ ws) bytes ≡ None = subst (λ (ts : List Waiting). reply_of s true ts bytes ≡ None) alone taken.silent in
    let now = stands_taken s first (kept_of at.erases d (task ∷ ws)) e bytes task ws silent taken.kind standing in
    let P : List ℕ → ℕ → Type 0 =
    λ more programmed. Stands s first (record (kept_of at.erases d (with_data more task ∷ ws)) { programmed = programmed }) (e ▹ Host bytes) in
    record {
      tasks = with_data segment task ∷ ws;
      erases = at.erases;
      keeps = (with_data segment task, data_kept d.held segment kept task part keeps.1, refl);
      counted = at.counted;
      sound = at.sound;
      stands = subst (λ (n : ℕ). P segment n) (ap programmed_of is) (subst (λ (xs : List ℕ). P xs (programmed_of d.tasks)) (sym taken.segment_is) now);
    }

-- a reply ends no task
pub stands_with_reply : (d : DeviceState) (bytes : List ℕ) (reply : Reply) (out : List ℕ) (first : First) (e : History) → out ≡ upiu_out (reply_upiu reply)
    → ((tasks : List Waiting) → KeepsTasks d.tasks d.held tasks → IsAnswered (sizes_of d) tasks bytes reply)
    → DeviceStands d first e → DeviceStands d first (e ▹ Host bytes ▹ Device out)
stands_with_reply d bytes reply out first e is follows at =
    let answered = follows at.tasks at.keeps in
    let s = sizes_of d in
    let none = no_effects d.store.luns (limits_of d.shape) d.store.geometry at.tasks bytes in
    let now = stands_answered s first (kept_of at.erases d at.tasks) e bytes (reply_upiu reply) answered.answers none answered.harmless at.stands in
    record {
      tasks = at.tasks;
      erases = at.erases;
      keeps = at.keeps;
      counted = at.counted;
      sound = at.sound;
      stands = subst (λ (b : List ℕ). Stands s first (kept_of at.erases d at.tasks) (e ▹ Host bytes ▹ Device b)) (sym is) now;
    }

-- data that weren't asked for end the head
pub stands_without_head : (d : DeviceState) (kept : Task) (others : List Task) (bytes out : List ℕ) (residual luns : ℕ) (lim : Limits) (first : First) (e : History) → d.tasks ≡ kept ∷ others
    → AllByRecursion (IsWaiting luns lim) others → residual < 2 ^ 32
    → out ≡ upiu_out (reply_upiu (Check kept.lun kept.tag residual DataNotAsked))
    → ((tasks : List Waiting) → KeepsTasks d.tasks d.held tasks → reply_of (sizes_of d) true tasks bytes ≡ Some (reply_upiu (Check kept.lun kept.tag residual DataNotAsked)))
    → DeviceStands d first e → DeviceStands (record d { tasks = others; held = [] }) first (e ▹ Host bytes ▹ Device out)
stands_without_head d kept others bytes out residual luns lim first e is waiting fits sent follows at =
    let keeps = subst (λ (ts : List Task). KeepsTasks ts d.held at.tasks) is at.keeps in
    let task = keeps.0 in
    let ws = map waiting_of others in
    let alone : at.tasks ≡ task ∷ ws = keeps.2 in
    let s = sizes_of d in
    let standing : Stands s first (kept_of at.erases d (task ∷ ws)) e = subst (λ (ts : List Waiting). Stands s first (kept_of at.erases d ts) e) alone at.stands in
    let end = check task.lun task.tag residual wrong_data in
    let same : reply_upiu (Check kept.lun kept.tag residual DataNotAsked) ≡ end =
    ap (λ (lun : ℕ). check lun kept.tag residual wrong_data) (sym keeps.1.lun) ∙ ap (λ (tag : ℕ). check task.lun tag residual wrong_data) (sym keeps.1.tag) in
    let answers : reply_of s true (task ∷ ws) bytes ≡ Some end =
    subst (λ (ts : List Waiting). reply_of s true ts bytes ≡ Some end) alone (follows at.tasks at.keeps ∙ ap (λ (u : Upiu). Some u) same) in
    let none = no_effects d.store.luns (limits_of d.shape) d.store.geometry (task ∷ ws) bytes in
    let now = stands_refused s first (kept_of at.erases d (task ∷ ws)) e bytes task ws residual answers none fits standing in
    let P : ℕ → List ℕ → Type 0 = λ n b. Stands s first (record (kept_of at.erases d ws) { programmed = n }) (e ▹ Host bytes ▹ Device b) in
    record {
      tasks = ws;
      erases = at.erases;
      keeps = keeps_waiting luns lim others waiting;
      counted = at.counted;
      sound = at.sound;
      stands = subst (λ (n : ℕ). P n out) (sym (none_programmed luns lim others waiting)) (subst (P 0) (sym (sent ∙ ap upiu_out same)) now);
    }

-- the events that a reply owes
pub owes_events : (s : Sizes) (tasks : List Waiting) (bytes : List ℕ) (u : Upiu) (out : List ℕ) → reply_of s true tasks bytes ≡ Some u → effects_of s true tasks bytes ≡ [] → out ≡ upiu_out u
    → answers_to s true tasks bytes ≡ Device out ∷ []
owes_events s tasks bytes u out is none sent =
    ap (reply_events (effects_of s true tasks bytes)) is ∙ (ap (λ (effects : List Event). Device (upiu_out u) ∷ effects) none ∙ ap (λ (b : List ℕ). Device b ∷ []) (sym sent))

pub owes_nothing : (s : Sizes) (tasks : List Waiting) (bytes : List ℕ) → reply_of s true tasks bytes ≡ None → answers_to s true tasks bytes ≡ []
owes_nothing s tasks bytes is = ap (reply_events (effects_of s true tasks bytes)) is

-- a device is what its parts are
pub device_is : (d now : DeviceState) (tasks : List Task) (held : List ℕ) → now.store ≡ d.store → now.shape ≡ d.shape → now.regions ≡ d.regions → now.lists ≡ d.lists → now.tasks ≡ tasks
    → now.held ≡ held → now.counts ≡ d.counts
    → record d { tasks = tasks; held = held } ≡ now
device_is d now tasks held store shape regions lists is_tasks is_held counts =
    λ i. record { store = sym store i; shape = sym shape i; regions = sym regions i; lists = sym lists i; tasks = sym is_tasks i; held = sym is_held i; counts = sym counts i }

-- the sizes are those of the limits and of the count of units
pub sizes_are : (d : DeviceState) (lim : Limits) (luns : ℕ) → lim ≡ limits_of d.shape → d.store.luns ≡ luns → sizes luns lim d.store.geometry ≡ sizes_of d
sizes_are d lim luns same_limits same_luns = λ i. sizes (sym same_luns i) (same_limits i) d.store.geometry

pub stands_same : (d now : DeviceState) (first : First) (e : History) → d ≡ now → DeviceStands d first e → DeviceStands now first e
stands_same d now first e same at = subst (λ (x : DeviceState). DeviceStands x first e) same at

pub answers_same : (d now : DeviceState) (tasks : List Waiting) (bytes : List ℕ) (events : List Event) → d ≡ now → answers_to (sizes_of d) true tasks bytes ≡ events
    → answers_to (sizes_of now) true tasks bytes ≡ events
answers_same d now tasks bytes events same at = subst (λ (x : DeviceState). answers_to (sizes_of x) true tasks bytes ≡ events) same at

-- what comes of bytes, by the tasks that were looked at, is what the tasks of a history allow the device
pub follows_at : (d : DeviceState) (lim : Limits) (luns : ℕ) (looked : List Task) (bytes : List ℕ) (verdict : Verdict) → lim ≡ limits_of d.shape → d.store.luns ≡ luns → looked ≡ d.tasks
    → ((geometry : Geometry) (held : List ℕ) (tasks : List Waiting) → KeepsTasks looked held tasks → Follows (sizes luns lim geometry) tasks bytes verdict)
    → (tasks : List Waiting) → KeepsTasks d.tasks d.held tasks → Follows (sizes_of d) tasks bytes verdict
follows_at d lim luns looked bytes verdict same_limits same_luns same follows tasks keeps =
    subst (λ (s : Sizes). Follows s tasks bytes verdict) (sizes_are d lim luns same_limits same_luns)
    (follows d.store.geometry d.held tasks (subst (λ (ts : List Task). KeepsTasks ts d.held tasks) (sym same) keeps))
