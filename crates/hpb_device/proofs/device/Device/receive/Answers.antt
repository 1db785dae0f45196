use Rattle.std.proofs.Common.{◌≡◌, ℕ, ◌+◌, ◌<◌, ◌≤◌, true, List, [], ◌∷◌, ◌++◌, drop, length, Some, refl, inl, inr, sym, ap, subst, ◌∙◌, arith, rules}
use Rattle.hpb_cdb.specs.declared.limits.Limits.{Limits}
use Rattle.flat_unit.specs.Replays.{bound}
use Rattle.hpb_device.specs.Task.{IsQueue, IsWaiting}
use Rattle.flat_unit.specs.Reply.{reply_of}
use Rattle.flat_unit.specs.Sound.{answers_to}
use Rattle.flat_unit.specs.Task.{Task as Waiting}
use Rattle.upiu_wire.specs.Upiu.{upiu_at, upiu_out}
use Rattle.hpb_device.specs.declared.task.Task.{Task}
use Rattle.hpb_device.specs.declared.reply.Reply.{Reply}
use Rattle.hpb_device.specs.declared.reply.Reply.TheVariants.{Check}
use Rattle.hpb_device.specs.declared.reply.Cause.TheVariants.{DataNotAsked}
use Rattle.hpb_device.specs.declared.accept.Verdict.TheVariants.{Keep, Data, Answer, End}
use Rattle.hpb_device.specs.Accept.{EndsFirst, TakesPiece, IsBegun}
use Rattle.hpb_device.specs.Calls.{EndsHead, Keeps, TakesData}
use Rattle.hpb_device.specs.Counted.{CountsStand}
use Rattle.hpb_device.specs.Keeps.{KeepsTasks}
use Rattle.hpb_device.specs.Reply.{reply_upiu}
use Rattle.hpb_device.specs.Standing.{sizes_of, DeviceStands, DeviceStandsForeign}
use Rattle.hpb_device.specs.State.{DeviceState}
use Rattle.hpb_device.specs.Left.{steps_left, wait_of}
use Rattle.hpb_device.proofs.Commands.{ends}
use Rattle.hpb_device.proofs.CountingCalls.{ending_fewer, kept_counts, reply_counts}
use Rattle.hpb_device.proofs.Entries.{answered_entries, ending_entries, kept_entries}
use Rattle.hpb_device.proofs.Listings.{answered_listings, ending_listings, kept_listings}
use Rattle.hpb_device.proofs.ReceiveForeign.{foreign_same, foreign_with_data, foreign_with_reply, foreign_with_task, foreign_without_head}
use Rattle.flash_store.specs.Store.{StoreState}
use Rattle.flat_unit.specs.History.{History}
use Rattle.hpb_device.specs.declared.device.Sent.TheVariants.{Nothing, Upiu}
use Rattle.hpb_device.specs.Listed.{ListingStands}
use Rattle.hpb_device.specs.Regions.{HintsStand}
use Rattle.hpb_device.proofs.Fetching.{answered_lists, lists_still, queue_in}
use Rattle.hpb_device.proofs.Hinting.{answered_hints, hints_along}
use Rattle.hpb_device.proofs.StepStands.{sizes_same}
use Rattle.flat_unit.specs.declared.event.Event.TheVariants.{Host, Device}
use Rattle.flat_unit.specs.History.{◌▹◌}
use Rattle.hpb_device.proofs.Left.{ended_left, keeps_left, wait_most}
use Rattle.hpb_device.proofs.ReceiveStands.{queue_more, waiting_all, waits_begun, stands_kept, stands_with_data}
use Rattle.hpb_device.proofs.ReceiveStands.{stands_with_reply, stands_without_head, owes_events, owes_nothing}
use Rattle.hpb_device.proofs.ReceiveStands.{no_effects, device_is, follows_at, stands_same, answers_same}
use Rattle.hpb_device.specs.Limits.{limits_of}
use Rattle.hpb_device.proofs.device.Device.receive.Given.{Over}
use Rattle.hpb_device.proofs.device.Device.receive.Goals.{After-put_reply-in-End}
use Rattle.hpb_device.proofs.device.Device.receive.Goals as goal

pub invariant_of-self : goal.invariant_of-self
invariant_of-self g c =
    let s = c.self.inside in
    let task = c.in-Keep.task in
    let pushed : c.push.new.self.items ≡ s.tasks.items ++ task ∷ [] = c.push.ensures.items in
    let waits : IsWaiting s.luns (limits_of s.shape) task =
    subst (λ (lim : Limits). IsWaiting s.luns lim task) c.limits_of-limits.ensures (waits_begun c.limits_of-limits.result s.luns (upiu_at c.args.bytes.now) task c.in-Keep.ensures.verdict.1) in
    record {
      limits = c.self.invariant.limits;
      luns_served = c.self.invariant.luns_served;
      units_served = c.self.invariant.units_served;
      served = c.self.invariant.served;
      whole = c.self.invariant.whole;
      shapes = c.self.invariant.shapes;
      all_lists = c.self.invariant.all_lists;
      queue = rw pushed (queue_more s.luns (limits_of s.shape) s.tasks.items s.held.items task c.self.invariant.queue waits);
      burst = c.self.invariant.burst;
      unbegun = λ other. let none = c.self.invariant.unbegun other in (none.0, rw pushed (waiting_all s.luns (limits_of s.shape) s.tasks.items task none.1 waits));
    }

pub returns-in-Keep-clause-stands : goal.returns-in-Keep-clause-stands
returns-in-Keep-clause-stands g c = λ first e at.
    let s = c.self.inside in
    let d : DeviceState = record { store = s.store; shape = s.shape; regions = s.regions.items; lists = s.lists; tasks = s.tasks.items; held = s.held.items; counts = s.counts } in
    let lent : c.deref.result.now ≡ d.tasks = search rules in
    let before : DeviceStands d first e = subst (λ (x : DeviceState). DeviceStands x first e) (sym c.self.view_is) at in
    let kept = follows_at d c.limits_of-limits.result s.luns c.deref.result.now c.args.bytes.now (Keep c.in-Keep.task) c.limits_of-limits.ensures c.self.invariant.luns_served lent
    c.in-Keep.ensures.follows in
    let queue : IsQueue s.luns c.limits_of-limits.result d.held d.tasks = subst (λ (lim : Limits). IsQueue s.luns lim d.held d.tasks) (sym c.limits_of-limits.ensures) c.self.invariant.queue in
    let now = stands_kept d c.in-Keep.task c.args.bytes.now c.limits_of-limits.result s.luns first e queue c.in-Keep.ensures.verdict.1 kept before in
    rw c.push.ensures.items now

pub returns-in-Keep-clause-foreign : goal.returns-in-Keep-clause-foreign
returns-in-Keep-clause-foreign g c = λ chip first e at.
    let s = c.self.inside in
    let d : DeviceState = record { store = s.store; shape = s.shape; regions = s.regions.items; lists = s.lists; tasks = s.tasks.items; held = s.held.items; counts = s.counts } in
    let lent : c.deref.result.now ≡ d.tasks = search rules in
    let before : DeviceStandsForeign d chip first e = subst (λ (x : DeviceState). DeviceStandsForeign x chip first e) (sym c.self.view_is) at in
    let kept = follows_at d c.limits_of-limits.result s.luns c.deref.result.now c.args.bytes.now (Keep c.in-Keep.task) c.limits_of-limits.ensures c.self.invariant.luns_served lent
    c.in-Keep.ensures.follows in
    let queue : IsQueue s.luns c.limits_of-limits.result d.held d.tasks = subst (λ (lim : Limits). IsQueue s.luns lim d.held d.tasks) (sym c.limits_of-limits.ensures) c.self.invariant.queue in
    let now = foreign_with_task d c.in-Keep.task c.args.bytes.now c.limits_of-limits.result s.luns chip first e queue c.in-Keep.ensures.verdict.1 kept before in
    rw c.push.ensures.items now

pub take_data-requires : goal.take_data-requires
take_data-requires g c =
    let s = c.self.inside in
    let lent : c.deref.result.now ≡ s.tasks.items = search rules in
    let same : s.tasks.items ≡ c.args.self.now.tasks = ap (λ (x : DeviceState). x.tasks) c.self.view_is in
    (upiu_at c.args.bytes.now, subst (λ (ts : List Task). TakesPiece ts (upiu_at c.args.bytes.now) c.in-Data.segment.now) (lent ∙ same) c.in-Data.ensures.verdict)

pub returns-in-Data-clause-stands : goal.returns-in-Data-clause-stands
returns-in-Data-clause-stands g c = λ first e at.
    let s = c.self.inside in
    let d : DeviceState = record { store = s.store; shape = s.shape; regions = s.regions.items; lists = s.lists; tasks = s.tasks.items; held = s.held.items; counts = s.counts } in
    let lent : c.deref.result.now ≡ d.tasks = search rules in
    let segment = c.in-Data.segment.now in
    let before : DeviceStands d first e = subst (λ (x : DeviceState). DeviceStands x first e) (sym c.self.view_is) at in
    let taken = follows_at d c.limits_of-limits.result s.luns c.deref.result.now c.args.bytes.now (Data c.in-Data.segment) c.limits_of-limits.ensures c.self.invariant.luns_served lent
    c.in-Data.ensures.follows in
    let data_taken : TakesData c.args.self.now c.take_data.new.self segment = c.take_data.ensures.taken in
    let task = data_taken.task in
    let others = data_taken.others in
    let is : d.tasks ≡ task ∷ others = ap (λ (x : DeviceState). x.tasks) c.self.view_is ∙ data_taken.was in
    let queue = subst (IsQueue s.luns (limits_of s.shape) d.held) is c.self.invariant.queue in
    let now = stands_with_data d task others c.args.bytes.now segment first e is queue.1.part taken before in
    let same = device_is d c.take_data.new.self (record task { come = task.come + length segment } ∷ others) (d.held ++ segment)
    (c.take_data.ensures.store ∙ ap (λ (x : DeviceState). x.store) (sym c.self.view_is)) (c.take_data.ensures.shape ∙ ap (λ (x : DeviceState). x.shape) (sym c.self.view_is))
    (c.take_data.ensures.regions ∙ ap (λ (x : DeviceState). x.regions) (sym c.self.view_is)) (c.take_data.ensures.lists ∙ ap (λ (x : DeviceState). x.lists) (sym c.self.view_is)) data_taken.kept
    (data_taken.held ∙ ap (λ (x : DeviceState). x.held ++ segment) (sym c.self.view_is))
    (c.take_data.ensures.counts ∙ ap (λ (x : DeviceState). x.counts) (sym c.self.view_is)) in
    stands_same _ _ _ _ same now

pub returns-in-Data-clause-foreign : goal.returns-in-Data-clause-foreign
returns-in-Data-clause-foreign g c = λ chip first e at.
    let s = c.self.inside in
    let d : DeviceState = record { store = s.store; shape = s.shape; regions = s.regions.items; lists = s.lists; tasks = s.tasks.items; held = s.held.items; counts = s.counts } in
    let lent : c.deref.result.now ≡ d.tasks = search rules in
    let segment = c.in-Data.segment.now in
    let before : DeviceStandsForeign d chip first e = subst (λ (x : DeviceState). DeviceStandsForeign x chip first e) (sym c.self.view_is) at in
    let taken = follows_at d c.limits_of-limits.result s.luns c.deref.result.now c.args.bytes.now (Data c.in-Data.segment) c.limits_of-limits.ensures c.self.invariant.luns_served lent
    c.in-Data.ensures.follows in
    let data_taken : TakesData c.args.self.now c.take_data.new.self segment = c.take_data.ensures.taken in
    let task = data_taken.task in
    let others = data_taken.others in
    let is : d.tasks ≡ task ∷ others = ap (λ (x : DeviceState). x.tasks) c.self.view_is ∙ data_taken.was in
    let queue = subst (IsQueue s.luns (limits_of s.shape) d.held) is c.self.invariant.queue in
    let now = foreign_with_data d task others c.args.bytes.now segment chip first e is queue.1.part taken before in
    let same = device_is d c.take_data.new.self (record task { come = task.come + length segment } ∷ others) (d.held ++ segment)
    (c.take_data.ensures.store ∙ ap (λ (x : DeviceState). x.store) (sym c.self.view_is)) (c.take_data.ensures.shape ∙ ap (λ (x : DeviceState). x.shape) (sym c.self.view_is))
    (c.take_data.ensures.regions ∙ ap (λ (x : DeviceState). x.regions) (sym c.self.view_is)) (c.take_data.ensures.lists ∙ ap (λ (x : DeviceState). x.lists) (sym c.self.view_is)) data_taken.kept
    (data_taken.held ∙ ap (λ (x : DeviceState). x.held ++ segment) (sym c.self.view_is))
    (c.take_data.ensures.counts ∙ ap (λ (x : DeviceState). x.counts) (sym c.self.view_is)) in
    foreign_same _ _ _ _ _ same now

pub returns-in-Answer-clause-stands : goal.returns-in-Answer-clause-stands
returns-in-Answer-clause-stands g c = λ first e at.
    let s = c.self.inside in
    let d : DeviceState = record { store = s.store; shape = s.shape; regions = s.regions.items; lists = s.lists; tasks = s.tasks.items; held = s.held.items; counts = s.counts } in
    let lent : c.deref.result.now ≡ d.tasks = search rules in
    let before : DeviceStands d first e = subst (λ (x : DeviceState). DeviceStands x first e) (sym c.self.view_is) at in
    let answered = follows_at d c.limits_of-limits.result s.luns c.deref.result.now c.args.bytes.now (Answer c.in-Answer.reply) c.limits_of-limits.ensures c.self.invariant.luns_served lent
    c.in-Answer.ensures.follows in
    let now = stands_with_reply d c.args.bytes.now c.in-Answer.reply c.put_reply.new.out first e c.put_reply.ensures answered before in
    stands_same _ _ _ _ c.self.view_is now

pub returns-in-Answer-clause-foreign : goal.returns-in-Answer-clause-foreign
returns-in-Answer-clause-foreign g c = λ chip first e at.
    let s = c.self.inside in
    let d : DeviceState = record { store = s.store; shape = s.shape; regions = s.regions.items; lists = s.lists; tasks = s.tasks.items; held = s.held.items; counts = s.counts } in
    let lent : c.deref.result.now ≡ d.tasks = search rules in
    let before : DeviceStandsForeign d chip first e = subst (λ (x : DeviceState). DeviceStandsForeign x chip first e) (sym c.self.view_is) at in
    let answered = follows_at d c.limits_of-limits.result s.luns c.deref.result.now c.args.bytes.now (Answer c.in-Answer.reply) c.limits_of-limits.ensures c.self.invariant.luns_served lent
    c.in-Answer.ensures.follows in
    let now = foreign_with_reply d c.args.bytes.now c.in-Answer.reply c.put_reply.new.out chip first e c.put_reply.ensures answered before in
    foreign_same _ _ _ _ _ c.self.view_is now

pub returns-in-Answer-clause-answers : goal.returns-in-Answer-clause-answers
returns-in-Answer-clause-answers g c = λ tasks keeps.
    let s = c.self.inside in
    let d : DeviceState = record { store = s.store; shape = s.shape; regions = s.regions.items; lists = s.lists; tasks = s.tasks.items; held = s.held.items; counts = s.counts } in
    let lent : c.deref.result.now ≡ d.tasks = search rules in
    let before : KeepsTasks d.tasks d.held tasks = subst (λ (x : DeviceState). KeepsTasks x.tasks x.held tasks) (sym c.self.view_is) keeps in
    let answered = follows_at d c.limits_of-limits.result s.luns c.deref.result.now c.args.bytes.now (Answer c.in-Answer.reply) c.limits_of-limits.ensures c.self.invariant.luns_served lent
    c.in-Answer.ensures.follows tasks before in
    let now = owes_events (sizes_of d) tasks c.args.bytes.now (reply_upiu c.in-Answer.reply) c.put_reply.new.out answered.answers
    (no_effects d.store.luns (limits_of d.shape) d.store.geometry tasks c.args.bytes.now) c.put_reply.ensures in
    answers_same _ _ _ _ _ c.self.view_is now

pub returns-in-Keep-clause-receives : goal.returns-in-Keep-clause-receives
returns-in-Keep-clause-receives g c =
    let s = c.self.inside in
    let d : DeviceState = record { store = s.store; shape = s.shape; regions = s.regions.items; lists = s.lists; tasks = s.tasks.items; held = s.held.items; counts = s.counts } in
    let lent : c.deref.result.now ≡ d.tasks = search rules in
    let task = c.in-Keep.task in
    let pushed : c.push.new.self.items ≡ d.tasks ++ task ∷ [] = c.push.ensures.items in
    let begun : IsBegun (limits_of d.shape) d.store.luns (upiu_at c.args.bytes.now) task =
    subst (λ (lim : Limits). IsBegun lim d.store.luns (upiu_at c.args.bytes.now) task) c.limits_of-limits.ensures
    (subst (λ (luns : ℕ). IsBegun c.limits_of-limits.result luns (upiu_at c.args.bytes.now) task) (sym c.self.invariant.luns_served) c.in-Keep.ensures.verdict.1) in
    let some : 1 ≤ d.store.geometry.pages = let limits = c.self.invariant.served.limits in omega (arith, limits.least_pages) in
    let now : DeviceState = record { store = s.store; shape = s.shape; regions = s.regions.items; lists = s.lists; tasks = c.push.new.self.items; held = s.held.items; counts = s.counts } in
    let left : steps_left now ≤ steps_left d + bound (sizes_of d) task.command =
    subst (λ (ts : List Task). steps_left (record d { tasks = ts }) ≤ steps_left d + bound (sizes_of d) task.command) (sym pushed) (keeps_left d task some) in
    let keeps : Keeps d now c.args.bytes.now = record {
      task = task;
      room = subst (λ (ts : List Task). length ts < 32) lent c.in-Keep.ensures.verdict.0;
      begun = begun;
      kept = pushed;
      held = refl;
      left = left;
    } in
    inl (subst (λ (x : DeviceState). Keeps x now c.args.bytes.now) c.self.view_is keeps)

-- the device without its head
abbrev now_of : (g : Over) → After-put_reply-in-End g → DeviceState
now_of g c = let s = c.self.inside in record {
  store = s.store;
  shape = s.shape;
  regions = s.regions.items;
  lists = s.lists;
  tasks = c.end_head.new.tasks.items;
  held = c.end_head.new.held.items;
  counts = s.counts;
}

-- the head has ended
ends_it : (g : Over) (c : After-put_reply-in-End g) → EndsHead c.args.self.now (now_of g c) c.put_reply-in-End.new.out
ends_it g c =
    let s = c.self.inside in
    let d : DeviceState = record { store = s.store; shape = s.shape; regions = s.regions.items; lists = s.lists; tasks = s.tasks.items; held = s.held.items; counts = s.counts } in
    let lent : c.deref.result.now ≡ d.tasks = search rules in
    let ended = ends d.tasks c.in-End.reply (subst (λ (ts : List Task). EndsFirst ts c.in-End.reply) lent c.in-End.ensures.verdict) in
    let now = now_of g c in
    let sent = c.put_reply-in-End.ensures ∙ ap (λ (r : Reply). upiu_out (reply_upiu r)) ended.4.2 in
    let gone : now.tasks ≡ ended.1 = c.end_head.ensures.tasks ∙ ap (drop 1) ended.2 in
    let some = c.self.invariant.served.limits.least_pages in
    let less = ended_left (limits_of d.shape) d.store.geometry.pages (wait_of d.store) (wait_of d.store) d.tasks now.tasks ended.0 ended.1 (wait_most d.store (omega (arith, some))) ended.2 gone in
    let fewer : steps_left now < steps_left d = omega (arith, less) in
    let head : EndsHead d now c.put_reply-in-End.new.out = record {
      task = ended.0;
      others = ended.1;
      was = ended.2;
      waited = ended.3;
      ended = gone;
      residual = ended.4.0;
      answer = sent;
      left = fewer;
    } in
    subst (λ (x : DeviceState). EndsHead x now c.put_reply-in-End.new.out) c.self.view_is head

pub returns-in-End-clause-receives : goal.returns-in-End-clause-receives
returns-in-End-clause-receives g c = inr (ends_it g c)

pub returns-in-End-clause-stands : goal.returns-in-End-clause-stands
returns-in-End-clause-stands g c = λ first e at.
    let s = c.self.inside in
    let d : DeviceState = record { store = s.store; shape = s.shape; regions = s.regions.items; lists = s.lists; tasks = s.tasks.items; held = s.held.items; counts = s.counts } in
    let lent : c.deref.result.now ≡ d.tasks = search rules in
    let before : DeviceStands d first e = subst (λ (x : DeviceState). DeviceStands x first e) (sym c.self.view_is) at in
    let ended = ends d.tasks c.in-End.reply (subst (λ (ts : List Task). EndsFirst ts c.in-End.reply) lent c.in-End.ensures.verdict) in
    let queue = subst (IsQueue s.luns (limits_of s.shape) d.held) ended.2 c.self.invariant.queue in
    let answers : (tasks : List Waiting) → KeepsTasks d.tasks d.held tasks
    → reply_of (sizes_of d) true tasks c.args.bytes.now ≡ Some (reply_upiu (Check ended.0.lun ended.0.tag ended.4.0 DataNotAsked)) =
    λ tasks keeps. follows_at d c.limits_of-limits.result s.luns c.deref.result.now c.args.bytes.now (End c.in-End.reply) c.limits_of-limits.ensures c.self.invariant.luns_served lent
    c.in-End.ensures.follows tasks keeps
    ∙ ap (λ (r : Reply). Some (reply_upiu r)) ended.4.2 in
    let sent = c.put_reply-in-End.ensures ∙ ap (λ (r : Reply). upiu_out (reply_upiu r)) ended.4.2 in
    let gone : c.end_head.new.tasks.items ≡ ended.1 = c.end_head.ensures.tasks ∙ ap (drop 1) ended.2 in
    let now = stands_without_head d ended.0 ended.1 c.args.bytes.now c.put_reply-in-End.new.out ended.4.0 s.luns (limits_of s.shape) first e ended.2 queue.2 ended.4.1 sent answers before in
    rw (gone, c.end_head.ensures.held) now

pub returns-in-End-clause-foreign : goal.returns-in-End-clause-foreign
returns-in-End-clause-foreign g c = λ chip first e at.
    let s = c.self.inside in
    let d : DeviceState = record { store = s.store; shape = s.shape; regions = s.regions.items; lists = s.lists; tasks = s.tasks.items; held = s.held.items; counts = s.counts } in
    let lent : c.deref.result.now ≡ d.tasks = search rules in
    let before : DeviceStandsForeign d chip first e = subst (λ (x : DeviceState). DeviceStandsForeign x chip first e) (sym c.self.view_is) at in
    let ended = ends d.tasks c.in-End.reply (subst (λ (ts : List Task). EndsFirst ts c.in-End.reply) lent c.in-End.ensures.verdict) in
    let queue = subst (IsQueue s.luns (limits_of s.shape) d.held) ended.2 c.self.invariant.queue in
    let answers : (tasks : List Waiting) → KeepsTasks d.tasks d.held tasks
    → reply_of (sizes_of d) true tasks c.args.bytes.now ≡ Some (reply_upiu (Check ended.0.lun ended.0.tag ended.4.0 DataNotAsked)) =
    λ tasks keeps. follows_at d c.limits_of-limits.result s.luns c.deref.result.now c.args.bytes.now (End c.in-End.reply) c.limits_of-limits.ensures c.self.invariant.luns_served lent
    c.in-End.ensures.follows tasks keeps
    ∙ ap (λ (r : Reply). Some (reply_upiu r)) ended.4.2 in
    let sent = c.put_reply-in-End.ensures ∙ ap (λ (r : Reply). upiu_out (reply_upiu r)) ended.4.2 in
    let gone : c.end_head.new.tasks.items ≡ ended.1 = c.end_head.ensures.tasks ∙ ap (drop 1) ended.2 in
    let now = foreign_without_head d ended.0 ended.1 c.args.bytes.now c.put_reply-in-End.new.out ended.4.0 s.luns (limits_of s.shape) chip first e ended.2 queue.2 ended.4.1 sent answers before in
    rw (gone, c.end_head.ensures.held) now

pub returns-in-End-clause-answers : goal.returns-in-End-clause-answers
returns-in-End-clause-answers g c = λ tasks keeps.
    let s = c.self.inside in
    let d : DeviceState = record { store = s.store; shape = s.shape; regions = s.regions.items; lists = s.lists; tasks = s.tasks.items; held = s.held.items; counts = s.counts } in
    let lent : c.deref.result.now ≡ d.tasks = search rules in
    let before : KeepsTasks d.tasks d.held tasks = subst (λ (x : DeviceState). KeepsTasks x.tasks x.held tasks) (sym c.self.view_is) keeps in
    let answers = follows_at d c.limits_of-limits.result s.luns c.deref.result.now c.args.bytes.now (End c.in-End.reply) c.limits_of-limits.ensures c.self.invariant.luns_served lent
    c.in-End.ensures.follows tasks before in
    let now = owes_events (sizes_of d) tasks c.args.bytes.now (reply_upiu c.in-End.reply) c.put_reply-in-End.new.out answers
    (no_effects d.store.luns (limits_of d.shape) d.store.geometry tasks c.args.bytes.now) c.put_reply-in-End.ensures in
    answers_same _ _ _ _ _ c.self.view_is now

pub returns-in-Answer-clause-entries : goal.returns-in-Answer-clause-entries
returns-in-Answer-clause-entries g c = λ e stand. answered_entries c.args.self.now c.args.bytes.now c.in-Answer.reply c.put_reply.new.out e c.put_reply.ensures stand

pub returns-in-End-clause-entries : goal.returns-in-End-clause-entries
returns-in-End-clause-entries g c = λ e stand.
    let d = c.args.self.now in
    let queue : IsQueue c.self.inside.luns (limits_of d.shape) d.held d.tasks = subst (λ (x : DeviceState). IsQueue c.self.inside.luns (limits_of x.shape) x.held x.tasks) c.self.view_is
    c.self.invariant.queue in
    let store = ap (λ (x : DeviceState). x.store) c.self.view_is in
    let shape = ap (λ (x : DeviceState). x.shape) c.self.view_is in
    ending_entries d (now_of g c) c.self.inside.luns (limits_of d.shape) c.args.bytes.now c.in-End.reply c.put_reply-in-End.new.out e queue (ends_it g c) c.put_reply-in-End.ensures store shape stand

pub returns-in-Keep-clause-entries : goal.returns-in-Keep-clause-entries
returns-in-Keep-clause-entries g c = λ e stand.
    let store = ap (λ (x : DeviceState). x.store) c.self.view_is in
    let shape = ap (λ (x : DeviceState). x.shape) c.self.view_is in
    kept_entries c.args.self.now _ c.args.bytes.now e (returns-in-Keep-clause-receives g c) store shape (ap (λ (x : DeviceState). x.lists) c.self.view_is) stand

pub returns-in-Answer-clause-listings : goal.returns-in-Answer-clause-listings
returns-in-Answer-clause-listings g c = λ had pages first e at stand.
    let s = c.self.inside in
    let d : DeviceState = record { store = s.store; shape = s.shape; regions = s.regions.items; lists = s.lists; tasks = s.tasks.items; held = s.held.items; counts = s.counts } in
    let lent : c.deref.result.now ≡ d.tasks = search rules in
    let before : DeviceStands d first e = subst (λ (x : DeviceState). DeviceStands x first e) (sym c.self.view_is) at in
    let answered = follows_at d c.limits_of-limits.result s.luns c.deref.result.now c.args.bytes.now (Answer c.in-Answer.reply) c.limits_of-limits.ensures c.self.invariant.luns_served lent
    c.in-Answer.ensures.follows in
    let now = answered_listings had pages d c.args.bytes.now c.in-Answer.reply c.put_reply.new.out first e answered c.put_reply.ensures before
    (subst (λ (x : DeviceState). ListingStands had pages x e) (sym c.self.view_is) stand) in
    subst (λ (x : DeviceState). ListingStands had pages x (e ▹ Host c.args.bytes.now ▹ Device c.put_reply.new.out)) c.self.view_is now

pub returns-in-End-clause-listings : goal.returns-in-End-clause-listings
returns-in-End-clause-listings g c = λ had pages first e at stand.
    let d = c.args.self.now in
    let queue : IsQueue c.self.inside.luns (limits_of d.shape) d.held d.tasks = subst (λ (x : DeviceState). IsQueue c.self.inside.luns (limits_of x.shape) x.held x.tasks) c.self.view_is
    c.self.invariant.queue in
    let store = ap (λ (x : DeviceState). x.store) c.self.view_is in
    let shape = ap (λ (x : DeviceState). x.shape) c.self.view_is in
    ending_listings had pages d (now_of g c) c.self.inside.luns (limits_of d.shape) c.args.bytes.now c.put_reply-in-End.new.out e queue (ends_it g c) store shape stand

pub returns-in-Keep-clause-listings : goal.returns-in-Keep-clause-listings
returns-in-Keep-clause-listings g c = λ had pages first e at stand.
    let store = ap (λ (x : DeviceState). x.store) c.self.view_is in
    let shape = ap (λ (x : DeviceState). x.shape) c.self.view_is in
    kept_listings had pages c.args.self.now _ c.args.bytes.now e (returns-in-Keep-clause-receives g c) store shape stand

-- the device has the same regions, of the same units
hints_still : (d now : DeviceState) (e : History) → now.store ≡ d.store → now.shape ≡ d.shape → now.regions ≡ d.regions → HintsStand d e → HintsStand now e
hints_still d now e store shape regions stand =
    hints_along d now e regions shape (sizes_same d now (record {
      geometry = ap (λ (z : StoreState). z.geometry) store;
      luns = ap (λ (z : StoreState). z.luns) store;
      units = ap (λ (z : StoreState). z.units) store;
    }) shape) stand

pub returns-in-Keep-clause-hints : goal.returns-in-Keep-clause-hints
returns-in-Keep-clause-hints g c = λ e keeps stand.
    let s = c.self.inside in
    let d : DeviceState = record { store = s.store; shape = s.shape; regions = s.regions.items; lists = s.lists; tasks = s.tasks.items; held = s.held.items; counts = s.counts } in
    let lent : c.deref.result.now ≡ d.tasks = search rules in
    let answers : (tasks : List Waiting) → KeepsTasks c.args.self.now.tasks c.args.self.now.held tasks → answers_to (sizes_of c.args.self.now) true tasks c.args.bytes.now ≡ [] =
    λ tasks keeps_tasks.
    let before : KeepsTasks d.tasks d.held tasks = subst (λ (x : DeviceState). KeepsTasks x.tasks x.held tasks) (sym c.self.view_is) keeps_tasks in
    let kept = follows_at d c.limits_of-limits.result s.luns c.deref.result.now c.args.bytes.now (Keep c.in-Keep.task) c.limits_of-limits.ensures c.self.invariant.luns_served lent
    c.in-Keep.ensures.follows tasks before in
    answers_same _ _ _ _ _ c.self.view_is (owes_nothing (sizes_of d) tasks c.args.bytes.now kept.silent) in
    let is = c.self.view_is in
    hints_still c.args.self.now _ (e ▹ Host c.args.bytes.now) (ap (λ (x : DeviceState). x.store) is) (ap (λ (x : DeviceState). x.shape) is) (ap (λ (x : DeviceState). x.regions) is)
    (answered_hints c.args.self.now c.args.bytes.now Nothing [] e keeps answers stand)

pub returns-in-Data-clause-hints : goal.returns-in-Data-clause-hints
returns-in-Data-clause-hints g c = λ e keeps stand.
    let s = c.self.inside in
    let d : DeviceState = record { store = s.store; shape = s.shape; regions = s.regions.items; lists = s.lists; tasks = s.tasks.items; held = s.held.items; counts = s.counts } in
    let lent : c.deref.result.now ≡ d.tasks = search rules in
    let answers : (tasks : List Waiting) → KeepsTasks c.args.self.now.tasks c.args.self.now.held tasks → answers_to (sizes_of c.args.self.now) true tasks c.args.bytes.now ≡ [] =
    λ tasks keeps_tasks.
    let before : KeepsTasks d.tasks d.held tasks = subst (λ (x : DeviceState). KeepsTasks x.tasks x.held tasks) (sym c.self.view_is) keeps_tasks in
    let kept = follows_at d c.limits_of-limits.result s.luns c.deref.result.now c.args.bytes.now (Data c.in-Data.segment) c.limits_of-limits.ensures c.self.invariant.luns_served lent
    c.in-Data.ensures.follows tasks before in
    answers_same _ _ _ _ _ c.self.view_is (owes_nothing (sizes_of d) tasks c.args.bytes.now kept.silent) in
    hints_still c.args.self.now c.take_data.new.self (e ▹ Host c.args.bytes.now) c.take_data.ensures.store c.take_data.ensures.shape c.take_data.ensures.regions
    (answered_hints c.args.self.now c.args.bytes.now Nothing [] e keeps answers stand)

pub returns-in-Answer-clause-hints : goal.returns-in-Answer-clause-hints
returns-in-Answer-clause-hints g c = λ e keeps stand.
    answered_hints c.args.self.now c.args.bytes.now Upiu c.put_reply.new.out e keeps (returns-in-Answer-clause-answers g c) stand

pub returns-in-End-clause-hints : goal.returns-in-End-clause-hints
returns-in-End-clause-hints g c = λ e keeps stand.
    let is = c.self.view_is in
    hints_still c.args.self.now (now_of g c) (e ▹ Host c.args.bytes.now ▹ Device c.put_reply-in-End.new.out) (ap (λ (x : DeviceState). x.store) is) (ap (λ (x : DeviceState). x.shape) is)
    (ap (λ (x : DeviceState). x.regions) is)
    (answered_hints c.args.self.now c.args.bytes.now Upiu c.put_reply-in-End.new.out e keeps (returns-in-End-clause-answers g c) stand)

pub returns-in-Keep-clause-fetched : goal.returns-in-Keep-clause-fetched
returns-in-Keep-clause-fetched g c = λ e keeps stand.
    let s = c.self.inside in
    let d : DeviceState = record { store = s.store; shape = s.shape; regions = s.regions.items; lists = s.lists; tasks = s.tasks.items; held = s.held.items; counts = s.counts } in
    let lent : c.deref.result.now ≡ d.tasks = search rules in
    let answers : (tasks : List Waiting) → KeepsTasks c.args.self.now.tasks c.args.self.now.held tasks → answers_to (sizes_of c.args.self.now) true tasks c.args.bytes.now ≡ [] =
    λ tasks keeps_tasks.
    let before : KeepsTasks d.tasks d.held tasks = subst (λ (x : DeviceState). KeepsTasks x.tasks x.held tasks) (sym c.self.view_is) keeps_tasks in
    let kept = follows_at d c.limits_of-limits.result s.luns c.deref.result.now c.args.bytes.now (Keep c.in-Keep.task) c.limits_of-limits.ensures c.self.invariant.luns_served lent
    c.in-Keep.ensures.follows tasks before in
    answers_same _ _ _ _ _ c.self.view_is (owes_nothing (sizes_of d) tasks c.args.bytes.now kept.silent) in
    let is = c.self.view_is in
    let now : DeviceState = record { store = s.store; shape = s.shape; regions = s.regions.items; lists = s.lists; tasks = c.push.new.self.items; held = s.held.items; counts = s.counts } in
    lists_still c.args.self.now now (e ▹ Host c.args.bytes.now) (ap (λ (x : DeviceState). x.store) is) (ap (λ (x : DeviceState). x.shape) is) (ap (λ (x : DeviceState). x.lists) is)
    (answered_lists c.args.self.now c.args.bytes.now Nothing [] e (queue_in d c.args.self.now c.self.inside.luns _ c.self.view_is c.self.invariant) keeps answers stand)

pub returns-in-Data-clause-fetched : goal.returns-in-Data-clause-fetched
returns-in-Data-clause-fetched g c = λ e keeps stand.
    let s = c.self.inside in
    let d : DeviceState = record { store = s.store; shape = s.shape; regions = s.regions.items; lists = s.lists; tasks = s.tasks.items; held = s.held.items; counts = s.counts } in
    let lent : c.deref.result.now ≡ d.tasks = search rules in
    let answers : (tasks : List Waiting) → KeepsTasks c.args.self.now.tasks c.args.self.now.held tasks → answers_to (sizes_of c.args.self.now) true tasks c.args.bytes.now ≡ [] =
    λ tasks keeps_tasks.
    let before : KeepsTasks d.tasks d.held tasks = subst (λ (x : DeviceState). KeepsTasks x.tasks x.held tasks) (sym c.self.view_is) keeps_tasks in
    let kept = follows_at d c.limits_of-limits.result s.luns c.deref.result.now c.args.bytes.now (Data c.in-Data.segment) c.limits_of-limits.ensures c.self.invariant.luns_served lent
    c.in-Data.ensures.follows tasks before in
    answers_same _ _ _ _ _ c.self.view_is (owes_nothing (sizes_of d) tasks c.args.bytes.now kept.silent) in
    lists_still c.args.self.now c.take_data.new.self (e ▹ Host c.args.bytes.now) c.take_data.ensures.store c.take_data.ensures.shape c.take_data.ensures.lists
    (answered_lists c.args.self.now c.args.bytes.now Nothing [] e (queue_in d c.args.self.now c.self.inside.luns _ c.self.view_is c.self.invariant) keeps answers stand)

pub returns-in-Answer-clause-fetched : goal.returns-in-Answer-clause-fetched
returns-in-Answer-clause-fetched g c = λ e keeps stand.
    let s = c.self.inside in
    let d : DeviceState = record { store = s.store; shape = s.shape; regions = s.regions.items; lists = s.lists; tasks = s.tasks.items; held = s.held.items; counts = s.counts } in
    answered_lists c.args.self.now c.args.bytes.now Upiu c.put_reply.new.out e (queue_in d c.args.self.now c.self.inside.luns _ c.self.view_is c.self.invariant) keeps
    (returns-in-Answer-clause-answers g c) stand

pub returns-in-End-clause-fetched : goal.returns-in-End-clause-fetched
returns-in-End-clause-fetched g c = λ e keeps stand.
    let s = c.self.inside in
    let d : DeviceState = record { store = s.store; shape = s.shape; regions = s.regions.items; lists = s.lists; tasks = s.tasks.items; held = s.held.items; counts = s.counts } in
    let is = c.self.view_is in
    lists_still c.args.self.now (now_of g c) (e ▹ Host c.args.bytes.now ▹ Device c.put_reply-in-End.new.out) (ap (λ (x : DeviceState). x.store) is) (ap (λ (x : DeviceState). x.shape) is)
    (ap (λ (x : DeviceState). x.lists) is)
    (answered_lists c.args.self.now c.args.bytes.now Upiu c.put_reply-in-End.new.out e (queue_in d c.args.self.now c.self.inside.luns _ c.self.view_is c.self.invariant) keeps
    (returns-in-End-clause-answers g c) stand)

pub returns-in-Keep-clause-counted : goal.returns-in-Keep-clause-counted
returns-in-Keep-clause-counted g c = λ first e at stand.
    let store = ap (λ (x : DeviceState). x.store) c.self.view_is in
    let shape = ap (λ (x : DeviceState). x.shape) c.self.view_is in
    let counts = ap (λ (x : DeviceState). x.counts) c.self.view_is in
    kept_counts c.args.self.now _ c.args.bytes.now e (returns-in-Keep-clause-receives g c) store shape counts stand

pub returns-in-Answer-clause-counted : goal.returns-in-Answer-clause-counted
returns-in-Answer-clause-counted g c = λ first e at stand.
    let s = c.self.inside in
    let d : DeviceState = record { store = s.store; shape = s.shape; regions = s.regions.items; lists = s.lists; tasks = s.tasks.items; held = s.held.items; counts = s.counts } in
    let lent : c.deref.result.now ≡ d.tasks = search rules in
    let before : DeviceStands d first e = subst (λ (x : DeviceState). DeviceStands x first e) (sym c.self.view_is) at in
    let answers : (tasks : List Waiting) → KeepsTasks d.tasks d.held tasks → reply_of (sizes_of d) true tasks c.args.bytes.now ≡ Some (reply_upiu c.in-Answer.reply) =
    λ tasks keeps. (follows_at d c.limits_of-limits.result s.luns c.deref.result.now c.args.bytes.now (Answer c.in-Answer.reply) c.limits_of-limits.ensures c.self.invariant.luns_served lent
    c.in-Answer.ensures.follows tasks keeps).answers in
    let now = reply_counts d d c.args.bytes.now e refl refl refl (omega arith) (subst (λ (x : DeviceState). CountsStand x e) (sym c.self.view_is) stand)
    (reply_upiu c.in-Answer.reply) c.put_reply.new.out first before answers c.put_reply.ensures in
    subst (λ (x : DeviceState). CountsStand x (e ▹ Host c.args.bytes.now ▹ Device c.put_reply.new.out)) c.self.view_is now

pub returns-in-End-clause-counted : goal.returns-in-End-clause-counted
returns-in-End-clause-counted g c = λ first e at stand.
    let s = c.self.inside in
    let d : DeviceState = record { store = s.store; shape = s.shape; regions = s.regions.items; lists = s.lists; tasks = s.tasks.items; held = s.held.items; counts = s.counts } in
    let lent : c.deref.result.now ≡ d.tasks = search rules in
    let before : DeviceStands d first e = subst (λ (x : DeviceState). DeviceStands x first e) (sym c.self.view_is) at in
    let ends : EndsHead d (now_of g c) c.put_reply-in-End.new.out = subst (λ (x : DeviceState). EndsHead x (now_of g c) c.put_reply-in-End.new.out) (sym c.self.view_is) (ends_it g c) in
    let answers : (tasks : List Waiting) → KeepsTasks d.tasks d.held tasks → reply_of (sizes_of d) true tasks c.args.bytes.now ≡ Some (reply_upiu c.in-End.reply) =
    λ tasks keeps. follows_at d c.limits_of-limits.result s.luns c.deref.result.now c.args.bytes.now (End c.in-End.reply) c.limits_of-limits.ensures c.self.invariant.luns_served lent
    c.in-End.ensures.follows tasks keeps in
    let fewer = ending_fewer d (now_of g c) s.luns (limits_of s.shape) c.put_reply-in-End.new.out c.self.invariant.queue ends in
    reply_counts d (now_of g c) c.args.bytes.now e refl refl refl fewer (subst (λ (x : DeviceState). CountsStand x e) (sym c.self.view_is) stand)
    (reply_upiu c.in-End.reply) c.put_reply-in-End.new.out first before answers c.put_reply-in-End.ensures
