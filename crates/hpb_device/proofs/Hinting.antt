-- What each call of a device tells of its regions is what the history says.
use Rattle.std.proofs.Common.{◌≡◌, ℕ, ◌-◌, ◌^◌, ◌<◌, ◌≤◌, Bool, true, false, cond, ◌&&◌, ◌==◌, List, [], ◌∷◌, map, filter, length, Option, Some, None, refl, sym, ◌∙◌, ap, subst, arith, inl, inr}
use Rattle.std.specs.Prelude.{fold, if◌then◌else◌}
use Rattle.std.proofs.lemmas.Bool.{false≢true}
use Rattle.std.proofs.lemmas.Bool.Decides.{nat_tests}
use Rattle.std.proofs.lemmas.List.{get_or-map, get_or-set_other, get_or-set_same}
use Rattle.flash_pages.specs.declared.chip.ChipOp.{ChipOp}
use Rattle.flash_pages.specs.declared.chip.ChipOp.TheVariants.{Read as ReadCall}
use Rattle.flash_store.specs.declared.answers.Moved.{Moved}
use Rattle.flash_store.specs.declared.answers.Moved.TheVariants.{Idle, Read as ReadPage, Page as MovedPage, Erased as ErasedBlock}
use Rattle.flash_store.specs.declared.answers.Phase.{Phase}
use Rattle.flash_store.specs.declared.answers.Phase.TheVariants.{Scanning, Ready, Foreign}
use Rattle.hpb_sense.specs.declared.sense.Hint.{Hint}
use Rattle.region_state.specs.declared.shape.Shape.{Shape}
use Rattle.region_state.specs.Machine.{Machine, after_change, after_reset, start}
use Rattle.upiu_wire.specs.declared.kind.Kind.{Kind}
use Rattle.upiu_wire.specs.declared.kind.Kind.TheVariants.{DataIn, ReadyToTransfer, Response}
use Rattle.upiu_wire.specs.Upiu.{IsConsistent, Upiu, upiu_at, upiu_out}
use Rattle.upiu_wire.specs.Written.{data_upiu, response_upiu, transfer_upiu}
use Rattle.flat_unit.specs.declared.event.Event.{Event}
use Rattle.flat_unit.specs.declared.event.Event.TheVariants.{Device, Host, Reset, Moved as MovedEvent, Failed as CallFailed}
use Rattle.flat_unit.specs.Contents.{Leaving, answered, leaving, leaving_all}
use Rattle.flat_unit.specs.Hints.{EventHints, Hinted, HintsDue, after_good, after_take, good_of_unit, hint_of, hint_segment, machine_after, segment_due, told_at}
use Rattle.flat_unit.specs.History.{History, ◌▹◌, followed_by}
use Rattle.flat_unit.specs.Queue.{after_reply, on_after, tasks_after, tasks_changed}
use Rattle.flat_unit.specs.Replays.{events_of}
use Rattle.flat_unit.specs.Sizes.{Sizes}
use Rattle.flat_unit.specs.Task.{Task as Waiting}
use Rattle.flat_unit.specs.Reply.{effects_of, has_tag, reply_of}
use Rattle.flat_unit.specs.Sound.{answers_to, reply_events}
use Rattle.flat_unit.specs.Tasks.{IsQueue as IsWaitingQueue}
use Rattle.flat_unit.proofs.History.{response-consistent}
use Rattle.flat_unit.proofs.Regions.{hinted_sent, machine_sent}
use Rattle.flat_unit.proofs.queue.Ends.{IsReply, out_leaves, reply_is}
use Rattle.flat_unit.proofs.queue.Tasks.{queue_after}
use Rattle.flat_unit.proofs.standing.Sending.{response_leaves}
use Rattle.hpb_cdb.specs.declared.limits.Limits.{Limits}
use Rattle.hpb_device.specs.declared.advance.Internal.TheVariants.{Missed, Programmed, Collected}
use Rattle.hpb_device.specs.declared.advance.Progress.{Progress}
use Rattle.hpb_device.specs.declared.advance.Progress.TheVariants.{Sends, Silent, Ended, Failed}
use Rattle.hpb_device.specs.declared.reply.Cause.{Cause}
use Rattle.hpb_device.specs.declared.reply.Reply.{Reply}
use Rattle.hpb_device.specs.declared.reply.Reply.TheVariants.{NopIn, Reject, Good, TaskSetFull, Check}
use Rattle.hpb_device.specs.declared.task.Task.{Task}
use Rattle.hpb_device.specs.declared.advance.Transfer.{Transfer}
use Rattle.hpb_device.specs.declared.device.Sent.{Sent}
use Rattle.hpb_device.specs.declared.device.Sent.TheVariants.{Nothing, Upiu as Answered}
use Rattle.hpb_device.specs.declared.device.Stepped.{Stepped}
use Rattle.hpb_device.specs.declared.reply.Cause.TheVariants.{NoNumber, ChipFailed}
use Rattle.hpb_device.specs.Advance.{Advances, Transfers, check, failure_of, op_of}
use Rattle.hpb_device.specs.Calls.{EndsUnread, Leaves, StepsIn, moved_by, stepped}
use Rattle.hpb_device.specs.Keeps.{KeepsTasks, waiting_of}
use Rattle.hpb_device.specs.Limits.{limits_of}
use Rattle.hpb_device.specs.Task.{IsTaskOk}
use Rattle.hpb_device.proofs.StepStands.{first_is, flat, sizes_same}
use Rattle.hpb_device.proofs.Transfers.{transfer_is}
use Rattle.collector_laws.specs.Changes.{Changes}
use Rattle.flash_store.specs.Collecting.{as_collected}
use Rattle.flash_store.specs.Store.{StoreState}
use Rattle.hpb_device.specs.Regions.{HintsStand, IsProgressWithin, KeepsHistory, regions_after, regions_at, regions_moved, segment_told, with_regions}
use Rattle.hpb_device.specs.Reply.{reply_upiu, told_upiu}
use Rattle.hpb_device.specs.Standing.{answer_events, group_of, sizes_of}
use Rattle.hpb_device.specs.State.{DeviceState}

-- the segment of a hint has 20 bytes
hint_short : (hint : Option Hint) → length (hint_segment hint) < 2 ^ 16
hint_short (Some hint) = omega arith
hint_short None = omega arith

pub segment_short : (shape : Shape) (machines : List Machine) (task : Task) (progress : Progress) → length (segment_told shape machines task progress) < 2 ^ 16
segment_short shape machines task (Ended (Good lun tag residual)) = hint_short _
segment_short shape machines task (Ended (NopIn tag)) = omega arith
segment_short shape machines task (Ended (Reject lun tag reason)) = omega arith
segment_short shape machines task (Ended (TaskSetFull lun tag residual)) = omega arith
segment_short shape machines task (Ended (Check lun tag residual cause)) = omega arith
segment_short shape machines task (Sends what rest) = omega arith
segment_short shape machines task (Silent what rest) = omega arith
segment_short shape machines task (Failed what reply) = omega arith

-- no task is answered GOOD
abbrev pub AnswersNoneGood : List Waiting → List ℕ → Type 0
AnswersNoneGood tasks bytes = filter (λ (l : Leaving). l.good) (leaving tasks (Device bytes)) ≡ []

no_item : {x : Leaving} {xs : List Leaving} → x ∷ xs ≡ [] → ⊥
no_item is = cc

none_of_unit : (lun : ℕ) (ls : List Leaving) → filter (λ (l : Leaving). l.good) ls ≡ [] → filter (good_of_unit lun) ls ≡ []
none_of_unit lun [] none = refl
none_of_unit lun (l ∷ ls) none = by_good l.good refl (none_of_unit lun ls)
  where
    fewer : List Leaving
    fewer = filter (λ (l : Leaving). l.good) ls

    of_unit : List Leaving
    of_unit = filter (good_of_unit lun) ls

    by_good : (b : Bool) → l.good ≡ b → (filter (λ (l : Leaving). l.good) ls ≡ [] → filter (good_of_unit lun) ls ≡ []) → cond (l.good && (l.task.lun == lun)) (l ∷ of_unit) of_unit ≡ []
    by_good true is more = absurd (no_item (sym (ap (λ (b : Bool). cond b (l ∷ fewer) fewer) is) ∙ none))
    by_good false is more =
        ap (λ (b : Bool). cond (b && (l.task.lun == lun)) (l ∷ of_unit) of_unit) is
        ∙ more (sym (ap (λ (b : Bool). cond b (l ∷ fewer) fewer) is) ∙ none)

none_good_of : (tasks : List Waiting) (good : Bool) → good ≡ false → filter (λ (l : Leaving). l.good) (leaving_all good tasks) ≡ []
none_good_of [] good is = refl
none_good_of (task ∷ tasks) good is =
    ap (λ (b : Bool). cond b (record { task = task; good = good } ∷ filter (λ (l : Leaving). l.good) (leaving_all good tasks)) (filter (λ (l : Leaving). l.good) (leaving_all good tasks))) is
    ∙ none_good_of tasks good is

none_good_out : (tasks : List Waiting) (v : Upiu) → filter (λ (l : Leaving). l.good) (answered v v.kind tasks) ≡ [] → AnswersNoneGood tasks (upiu_out v)
none_good_out tasks v none = ap (filter (λ (l : Leaving). l.good)) (out_leaves tasks v) ∙ none

check_none_good : (tasks : List Waiting) (lun tag residual : ℕ) (cause : Cause) → AnswersNoneGood tasks (upiu_out (reply_upiu (Check lun tag residual cause)))
check_none_good tasks lun tag residual cause =
    none_good_out tasks (reply_upiu (Check lun tag residual cause)) (none_good_of (filter (has_tag tag) tasks) false refl)

reply_none_good : (tasks : List Waiting) (v : Upiu) (kind : Kind) → IsReply v kind → filter (λ (l : Leaving). l.good) (answered v kind tasks) ≡ []
reply_none_good tasks v Response is = none_good_of (filter (has_tag v.tag) tasks) (v.status == 0) is
reply_none_good tasks v _ is = refl

-- the parts of a device by which its regions are judged
record Parts : Type 0 where
  shape : Shape
  machines : List Machine
  s : Sizes

abbrev RegionsAre : Parts → History → Type 0
RegionsAre p e = (lun : ℕ) → lun < p.s.luns → regions_at p.shape p.machines lun ≡ machine_after p.shape p.s lun e

pub hints_along : (d now : DeviceState) (e : History) → now.regions ≡ d.regions → now.shape ≡ d.shape → sizes_of d ≡ sizes_of now → HintsStand d e → HintsStand now e
hints_along d now e regions shape sizes stand =
    let was : Parts = record { shape = d.shape; machines = d.regions; s = sizes_of d } in
    let is : Parts = record { shape = now.shape; machines = now.regions; s = sizes_of now } in
    let same : was ≡ is = λ i. record { shape = sym shape i; machines = sym regions i; s = sizes i } in
    record {
      regions = subst (λ (p : Parts). RegionsAre p e) same stand.regions;
      hinted = subst (λ (p : Parts). Hinted p.shape p.s e) same stand.hinted;
    }

-- an event that changes no region and has nothing to tell
hints_quiet : (d : DeviceState) (e : History) (x : Event)
    → ((lun : ℕ) → machine_after d.shape (sizes_of d) lun (e ▹ x) ≡ machine_after d.shape (sizes_of d) lun e)
    → EventHints d.shape (sizes_of d) e x → HintsStand d e → HintsStand d (e ▹ x)
hints_quiet d e x same due stand = record { regions = λ lun is. stand.regions lun is ∙ sym (same lun); hinted = (stand.hinted, due) }

pub hints_unsaid : (d : DeviceState) (e : History) (out : List ℕ) → AnswersNoneGood (tasks_after (sizes_of d) e) out → HintsStand d e → HintsStand d (e ▹ Device out)
hints_unsaid d e out none stand =
    hints_quiet d e (Device out)
    (λ lun. ap (fold (told_at (on_after e)) (machine_after d.shape (sizes_of d) lun e)) (none_of_unit lun (leaving (tasks_after (sizes_of d) e) (Device out)) none))
    (subst (HintsDue d.shape (sizes_of d) e (upiu_at out).segment) (sym none) tt) stand

pub hints_failed : (d : DeviceState) (e : History) (op : ChipOp) → HintsStand d e → HintsStand d (e ▹ CallFailed op)
hints_failed d e op = hints_quiet d e (CallFailed op) (λ lun. refl) tt

hints_received : (d : DeviceState) (e : History) (bytes : List ℕ) → HintsStand d e → HintsStand d (e ▹ Host bytes)
hints_received d e bytes = hints_quiet d e (Host bytes) (λ lun. refl) tt

hints_checked : (d : DeviceState) (e : History) (lun tag residual : ℕ) (cause : Cause) (out : List ℕ) → out ≡ upiu_out (reply_upiu (Check lun tag residual cause))
    → HintsStand d e → HintsStand d (e ▹ Device out)
hints_checked d e lun tag residual cause out sent =
    hints_unsaid d e out (subst (AnswersNoneGood (tasks_after (sizes_of d) e)) (sym sent) (check_none_good (tasks_after (sizes_of d) e) lun tag residual cause))

-- the regions of one unit changed
changed_at : (shape : Shape) (machines : List Machine) (lun : ℕ) (change : Machine → Machine) (other : ℕ) → lun < length machines
    → regions_at shape (with_regions shape machines lun change) other
    ≡ (if lun == other then change (regions_at shape machines other) else regions_at shape machines other)
changed_at shape machines lun change other inside = by_same (lun == other) refl
  where
    by_same : (b : Bool) → (lun == other) ≡ b
        → regions_at shape (with_regions shape machines lun change) other ≡ (if b then change (regions_at shape machines other) else regions_at shape machines other)
    by_same true is =
        let same : lun ≡ other = grind (arith, nat_tests, is) in
        subst (λ (n : ℕ). regions_at shape (with_regions shape machines lun change) n ≡ change (regions_at shape machines n)) same
        (get_or-set_same machines lun (change (regions_at shape machines lun)) (start shape) inside)
    by_same false is =
        let apart : other ≡ lun → ⊥ = λ same. false≢true (sym is ∙ grind (arith, nat_tests, same)) in
        get_or-set_other machines lun other (change (regions_at shape machines lun)) (start shape) apart

-- after a page of a unit was moved
pub hints_moved : (d now : DeviceState) (lun lba : ℕ) (e : History) → lun < length d.regions → now.regions ≡ with_regions d.shape d.regions lun (λ m. after_change m lba)
    → now.shape ≡ d.shape → sizes_of d ≡ sizes_of now → HintsStand d e → HintsStand now (e ▹ MovedEvent lun lba)
hints_moved d now lun lba e inside regions shape sizes stand =
    hints_along (record d { regions = with_regions d.shape d.regions lun (λ m. after_change m lba) }) now (e ▹ MovedEvent lun lba) regions shape sizes (record {
      regions = λ other is.
          changed_at d.shape d.regions lun (λ m. after_change m lba) other inside
          ∙ ap (λ (m : Machine). if lun == other then after_change m lba else m) (stand.regions other is);
      hinted = (stand.hinted, tt);
    })

-- after a reset
pub hints_reset : (d now : DeviceState) (e : History) → length d.regions ≡ d.store.luns → now.regions ≡ map after_reset d.regions → now.shape ≡ d.shape → sizes_of d ≡ sizes_of now
    → HintsStand d e → HintsStand now (e ▹ Reset)
hints_reset d now e count regions shape sizes stand =
    hints_along (record d { regions = map after_reset d.regions }) now (e ▹ Reset) regions shape sizes (record {
      regions = λ lun is. get_or-map after_reset d.regions lun (start d.shape) (start d.shape) (omega (arith, is, count)) ∙ ap after_reset (stand.regions lun is);
      hinted = (stand.hinted, tt);
    })

-- the first task is answered GOOD, with the hint that is due
pub record TellsGood (d now : DeviceState) (t : Waiting) (ws : List Waiting) (segment : List ℕ) (residual : ℕ) (out : List ℕ) (e : History) : Type 0 where
  pub keeps : tasks_after (sizes_of d) e ≡ t ∷ ws
  pub on : on_after e ≡ true
  pub inside : t.lun < length d.regions
  pub count : length d.regions ≡ d.store.luns
  pub fits : residual < 2 ^ 32
  pub short : length segment < 2 ^ 16
  pub segment_is : segment ≡ hint_segment (hint_of (after_good (regions_at d.shape d.regions t.lun) t.command) t.lun)
  pub sent : out ≡ upiu_out (response_upiu t.lun t.tag 0x00 residual segment)
  pub regions : now.regions ≡ with_regions d.shape d.regions t.lun (λ m. after_take (after_good m t.command))
  pub shape : now.shape ≡ d.shape
  pub sizes : sizes_of d ≡ sizes_of now

module _ (d now : DeviceState) (t : Waiting) (ws : List Waiting) (segment : List ℕ) (residual : ℕ) (out : List ℕ) (e : History) (tells : TellsGood d now t ws segment residual out e)
    (stand : HintsStand d e) where
  abbrev s : Sizes
  s = sizes_of d

  abbrev v : Upiu
  v = response_upiu t.lun t.tag 0x00 residual segment

  consistent : IsConsistent v
  consistent = response-consistent t.lun t.tag 0x00 residual segment tells.fits tells.short

  leaves : answered v v.kind (tasks_after s e) ≡ record { task = t; good = true } ∷ []
  leaves = ap (λ (ts : List Waiting). answered v v.kind ts) tells.keeps
      ∙ response_leaves t ws 0 residual segment (subst (IsWaitingQueue s) tells.keeps (queue_after s e)).apart.0

  due : segment ≡ segment_due (on_after e) (after_good (machine_after d.shape s t.lun e) t.command) t.lun
  due = tells.segment_is
      ∙ ap (λ (m : Machine). hint_segment (hint_of (after_good m t.command) t.lun)) (stand.regions t.lun (omega (arith, tells.inside, tells.count)))
      ∙ sym (ap (λ (b : Bool). segment_due b (after_good (machine_after d.shape s t.lun e) t.command) t.lun) tells.on)

  hinted : Hinted d.shape s (e ▹ Device (upiu_out v))
  hinted = hinted_sent d.shape s e v consistent
      (subst (λ (ls : List Leaving). HintsDue d.shape s e segment (filter (λ (l : Leaving). l.good) ls)) (sym leaves) (due, tt)) stand.hinted

  told_one : (lun : ℕ) (b : Bool) (m : Machine)
      → fold (told_at true) m (cond b (record { task = t; good = true } ∷ []) []) ≡ (if b then after_take (after_good m t.command) else m)
  told_one lun true m = refl
  told_one lun false m = refl

  regions : (lun : ℕ) → lun < s.luns
      → regions_at d.shape (with_regions d.shape d.regions t.lun (λ m. after_take (after_good m t.command))) lun ≡ machine_after d.shape s lun (e ▹ Device (upiu_out v))
  regions lun is =
      changed_at d.shape d.regions t.lun (λ m. after_take (after_good m t.command)) lun tells.inside
      ∙ ap (λ (m : Machine). if t.lun == lun then after_take (after_good m t.command) else m) (stand.regions lun is)
      ∙ sym (machine_sent d.shape s lun e v consistent
      ∙ ap (λ (ls : List Leaving). fold (told_at (on_after e)) (machine_after d.shape s lun e) (filter (good_of_unit lun) ls)) leaves
      ∙ ap (λ (b : Bool). fold (told_at b) (machine_after d.shape s lun e) (cond (t.lun == lun) (record { task = t; good = true } ∷ []) [])) tells.on
      ∙ told_one lun (t.lun == lun) (machine_after d.shape s lun e))

  pub hints_told : HintsStand now (e ▹ Device out)
  hints_told =
      let there : HintsStand now (e ▹ Device (upiu_out v)) =
      hints_along (record d { regions = with_regions d.shape d.regions t.lun (λ m. after_take (after_good m t.command)) }) now (e ▹ Device (upiu_out v)) tells.regions tells.shape tells.sizes
      (record { regions = regions; hinted = hinted }) in
      subst (λ (b : List ℕ). HintsStand now (e ▹ Device b)) (sym tells.sent) there

-- what a step of the first task makes of the regions, and tells of them
module _ (old new : DeviceState) (task : Task) (others : List Task) (result : Stepped) (out : List ℕ) (e : History) (count : length old.regions ≡ old.store.luns)
    (shape : new.shape ≡ old.shape) (same_sizes : sizes_of old ≡ sizes_of new) (keeps : KeepsHistory old e) (was : old.tasks ≡ task ∷ others)
    (ok : IsTaskOk old.store.luns (limits_of old.shape) task) (stand : HintsStand old e) where
  abbrev answered_with : Reply → Type 0
  answered_with r = out ≡ upiu_out (told_upiu (segment_told old.shape old.regions task (Ended r)) r)

  abbrev changed_by : Progress → Type 0
  changed_by progress = new.regions ≡ regions_after old.shape old.regions task progress

  silent : new.regions ≡ old.regions → HintsStand new e
  silent regions = hints_along old new e regions shape same_sizes stand

  sent_none_good : (what : Transfer) (rest : Task) → Transfers (limits_of old.shape) old.store what task rest out → AnswersNoneGood (tasks_after (sizes_of old) e) out
  sent_none_good what rest sends =
      let P : List ℕ → Type 0 = AnswersNoneGood (tasks_after (sizes_of old) e) in
      elim (transfer_is (limits_of old.shape) old.store what task rest out sends) [
        | inl data_in ↦ subst P (sym data_in.1) (none_good_out (tasks_after (sizes_of old) e) (data_upiu DataIn task.lun task.tag task.sent data_in.0) refl)
        | inr ready ↦ subst P (sym ready.1) (none_good_out (tasks_after (sizes_of old) e) (transfer_upiu ReadyToTransfer task.lun task.tag task.asked ready.0) refl)
      ]

  good_hints : (residual : ℕ) → residual ≤ task.expected → answered_with (Good task.lun task.tag residual) → changed_by (Ended (Good task.lun task.tag residual)) → HintsStand new (e ▹ Device out)
  good_hints residual most sent regions =
      let only = first_is old.tasks old.held keeps.tasks task others was keeps.keeps in
      hints_told old new (flat task only.come) (map waiting_of others) (segment_told old.shape old.regions task (Ended (Good task.lun task.tag residual))) residual out e (record {
        keeps = keeps.same ∙ only.first;
        on = keeps.on;
        inside = omega (arith, ok.accepted.lun, count);
        count = count;
        fits = omega (arith, most, ok.accepted.expected_fits);
        short = segment_short old.shape old.regions task (Ended (Good task.lun task.tag residual));
        segment_is = refl;
        sent = sent;
        regions = regions;
        shape = shape;
        sizes = same_sizes;
      }) stand

  checked : (cause : Cause) (h : History) → HintsStand old h → out ≡ upiu_out (reply_upiu (check task cause)) → new.regions ≡ old.regions → HintsStand new (h ▹ Device out)
  checked cause h at sent regions =
      hints_along old new (h ▹ Device out) regions shape same_sizes (hints_checked old h task.lun task.tag (task.expected - task.sent - task.come) cause out sent at)

  collected : (moved : Moved) → Changes old.store.geometry old.store.luns old.store.units old.store.pages (as_collected moved) new.store.pages
      → new.regions ≡ regions_moved old.shape old.regions moved → HintsStand new (followed_by e (events_of (group_of (stepped None (moved_by moved) false) out)))
  collected Idle changes regions = silent regions
  collected ReadPage changes regions = silent regions
  collected (MovedPage lun lba) changes regions = hints_moved old new lun lba e (omega (arith, changes.place.lun, count)) regions shape same_sizes stand
  collected (ErasedBlock block) changes regions = silent regions

  pub hints_by : (progress : Progress) → Advances (limits_of old.shape) old.store new.store old.held new.held task progress out
      → Leaves progress (segment_told old.shape old.regions task progress) others new.tasks new.held result out → changed_by progress
      → HintsStand new (followed_by e (events_of (group_of result out)))
  hints_by (Sends what rest) advances leaves regions =
      rw (leaves.1) (hints_along old new (e ▹ Device out) regions shape same_sizes (hints_unsaid old e out (sent_none_good what rest advances.0) stand))
  hints_by (Silent Missed rest) advances leaves regions = rw (leaves.1) (silent regions)
  hints_by (Silent Programmed rest) advances leaves regions = rw (leaves.1) (silent regions)
  hints_by (Silent (Collected moved) rest) advances leaves regions = rw (leaves.1) (collected moved advances.0.collects.changes regions)
  hints_by (Ended reply) advances leaves regions =
      let sent : (r : Reply) → reply ≡ r → answered_with r = λ r is. leaves.3 ∙ ap (λ (r : Reply). upiu_out (told_upiu (segment_told old.shape old.regions task (Ended r)) r)) is in
      let changed : (r : Reply) → reply ≡ r → changed_by (Ended r) = λ r is. regions ∙ ap (λ (r : Reply). regions_after old.shape old.regions task (Ended r)) is in
      rw (leaves.2) (elim advances.0 [
        | inl good ↦ good_hints (task.expected - task.sent - task.come) (omega arith) (sent _ good.1) (changed _ good.1)
        | inr full ↦ checked NoNumber e stand (sent _ full.1) (changed _ full.1)
      ])
  hints_by (Failed what reply) advances leaves regions =
      rw (leaves.2) (checked (failure_of what) (e ▹ CallFailed (op_of what)) (hints_failed old e (op_of what) stand)
      (leaves.3 ∙ ap (λ (r : Reply). upiu_out (reply_upiu r)) advances.0.answer) regions)

-- a step that ends the first task, if there is one, unserved
unread_hints : (old new : DeviceState) (failed : Option ChipOp) (tasks left : List Task) (result : Stepped) (out : List ℕ) (e : History) → EndsUnread failed tasks left result out
    → new.regions ≡ old.regions → new.shape ≡ old.shape → sizes_of old ≡ sizes_of new → HintsStand old e → HintsStand new (followed_by e (events_of (group_of result out)))
unread_hints old new None [] left result out e ends regions shape sizes stand = rw (ends.1) (hints_along old new e regions shape sizes stand)
unread_hints old new (Some op) [] left result out e ends regions shape sizes stand =
    rw (ends.1) (hints_along old new (e ▹ CallFailed op) regions shape sizes (hints_failed old e op stand))
unread_hints old new None (task ∷ others) left result out e ends regions shape sizes stand =
    rw (ends.1) (hints_along old new (e ▹ Device out) regions shape sizes (hints_checked old e task.lun task.tag _ ChipFailed out ends.2 stand))
unread_hints old new (Some op) (task ∷ others) left result out e ends regions shape sizes stand =
    rw (ends.1) (hints_along old new (e ▹ CallFailed op ▹ Device out) regions shape sizes
    (hints_checked old (e ▹ CallFailed op) task.lun task.tag _ ChipFailed out ends.2 (hints_failed old e op stand)))

-- what a step tells, whatever is known of the chip
pub steps_hints : (phase : Phase) (old new : DeviceState) (result : Stepped) (out : List ℕ) (e : History) → length old.regions ≡ old.store.luns → StepsIn phase old new result out
    → new.shape ≡ old.shape → KeepsHistory old e → HintsStand old e → HintsStand new (followed_by e (events_of (group_of result out)))
steps_hints Scanning old new result out e count scans shape keeps stand =
    let sizes = sizes_same old new scans.same shape in
    elim scans.outcome [
      | inl reads ↦ rw (reads.result_is) (hints_along old new e scans.regions shape sizes stand)
      | inr misses ↦ unread_hints old new (Some ReadCall) old.tasks new.tasks result out e misses.ends scans.regions shape sizes stand
    ]
steps_hints Ready old new result out e count goes shape keeps stand =
    let sizes = sizes_same old new (record { geometry = goes.same.geometry; luns = goes.same.luns; units = goes.same.units }) shape in
    hints_by old new goes.task goes.others result out e count shape sizes keeps goes.was goes.ok stand goes.progress goes.advances goes.leaves goes.regions
steps_hints Foreign old new result out e count refuses shape keeps stand =
    let store = refuses.store in
    let sizes = sizes_same old new (record {
      geometry = ap (λ (z : StoreState). z.geometry) store;
      luns = ap (λ (z : StoreState). z.luns) store;
      units = ap (λ (z : StoreState). z.units) store;
    }) shape in
    unread_hints old new None old.tasks new.tasks result out e refuses.ends refuses.regions shape sizes stand

-- bytes of the host, and what answers them at once
pub answered_hints : (d : DeviceState) (bytes : List ℕ) (sent : Sent) (out : List ℕ) (e : History) → KeepsHistory d e
    → ((tasks : List Waiting) → KeepsTasks d.tasks d.held tasks → answers_to (sizes_of d) true tasks bytes ≡ answer_events sent out) → HintsStand d e
    → HintsStand d (followed_by (e ▹ Host bytes) (answer_events sent out))
answered_hints d bytes Nothing out e keeps answers stand = hints_received d e bytes stand
answered_hints d bytes Answered out e keeps answers stand =
    by_reply (reply_of s true keeps.tasks bytes) refl (answers keeps.tasks keeps.keeps)
  where
    s : Sizes
    s = sizes_of d

    queue : IsWaitingQueue s keeps.tasks
    queue = subst (IsWaitingQueue s) keeps.same (queue_after s e)

    same_bytes : {a b : List ℕ} {xs : List Event} → Device a ∷ xs ≡ Device b ∷ [] → a ≡ b
    same_bytes is = cc

    no_answer : {x : Event} → [] ≡ x ∷ [] → ⊥
    no_answer is = cc

    tasks_same : (v : Upiu) → reply_of s true keeps.tasks bytes ≡ Some v → tasks_after s (e ▹ Host bytes) ≡ keeps.tasks
    tasks_same v is =
        (λ i. tasks_changed s (keeps.on i) (keeps.same i) (Host bytes))
        ∙ ap (after_reply s keeps.tasks (upiu_at bytes)) is

    by_reply : (reply : Option Upiu) → reply_of s true keeps.tasks bytes ≡ reply → reply_events (effects_of s true keeps.tasks bytes) (reply_of s true keeps.tasks bytes) ≡ Device out ∷ []
        → HintsStand d (e ▹ Host bytes ▹ Device out)
    by_reply None is events = absurd (no_answer (sym (ap (reply_events (effects_of s true keeps.tasks bytes)) is) ∙ events))
    by_reply (Some v) is events =
        let out_is : upiu_out v ≡ out = same_bytes (sym (ap (reply_events (effects_of s true keeps.tasks bytes)) is) ∙ events) in
        let reply = reply_is s true keeps.tasks bytes v queue is in
        let none : AnswersNoneGood (tasks_after s (e ▹ Host bytes)) out =
        subst (λ (ts : List Waiting). AnswersNoneGood ts out) (sym (tasks_same v is))
        (subst (AnswersNoneGood keeps.tasks) out_is (none_good_out keeps.tasks v (reply_none_good keeps.tasks v v.kind reply.1))) in
        hints_unsaid d (e ▹ Host bytes) out none (hints_received d e bytes stand)

-- a page that the collector moves is one of the units'
pub progress_within : (shape : Shape) (luns : ℕ) (lim : Limits) (old new : StoreState) (held held_now : List ℕ) (task : Task) (progress : Progress) (out : List ℕ) → old.luns ≡ luns
    → old.units ≡ shape.units → Advances lim old new held held_now task progress out → IsProgressWithin shape luns progress
progress_within shape luns lim old new held held_now task (Silent (Collected (MovedPage lun lba)) rest) out same_luns same_units advances =
    let place = advances.0.collects.changes.place in
    (omega (arith, place.lun, same_luns), omega (arith, place.lba, same_units))
progress_within shape luns lim old new held held_now task (Silent (Collected Idle) rest) out same_luns same_units advances = tt
progress_within shape luns lim old new held held_now task (Silent (Collected ReadPage) rest) out same_luns same_units advances = tt
progress_within shape luns lim old new held held_now task (Silent (Collected (ErasedBlock block)) rest) out same_luns same_units advances = tt
progress_within shape luns lim old new held held_now task (Silent Missed rest) out same_luns same_units advances = tt
progress_within shape luns lim old new held held_now task (Silent Programmed rest) out same_luns same_units advances = tt
progress_within shape luns lim old new held held_now task (Sends what rest) out same_luns same_units advances = tt
progress_within shape luns lim old new held held_now task (Ended reply) out same_luns same_units advances = tt
progress_within shape luns lim old new held held_now task (Failed what reply) out same_luns same_units advances = tt
