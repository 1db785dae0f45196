-- A step of the device leads from where it stands to where it stands then.
use Rattle.std.proofs.Common.{◌≡◌, ◌⊎◌, ℕ, ◌+◌, ◌-◌, ◌^◌, ◌<◌, ◌≤◌, Bool, true, false, not, ◌&&◌, ◌||◌, nat_le, List, [], ◌∷◌, length, Option, Some, None, refl, sym, ◌∙◌, ap, subst, arith, inl, inr}
use Rattle.std.proofs.lemmas.Bool.{cases_lt, false≢true}
use Rattle.std.proofs.lemmas.Bool.Decides.{nat_tests}
use Rattle.std.specs.Prelude.{is_none, is_some, IsTrue, if◌then◌else◌}
use Rattle.std.specs.Bool.{OnFalse}
use Rattle.std.specs.List.{AllByRecursion}
use Rattle.flat_unit.specs.Causes.{sense_code}
use Rattle.flat_unit.specs.History.{History, followed_by}
use Rattle.flat_unit.specs.Queue.{at_rest, on_after, tasks_after}
use Rattle.flat_unit.specs.Replays.{OpenRun, Progress, Group, IsTimely, StepTo, events_of, stepped, serves, enough, has_asked, has_entry, is_due, keeps_write, may_be_silent, tasks_at, with_run, told}
use Rattle.flat_unit.specs.Sizes.{Sizes}
use Rattle.flat_unit.specs.Stands.{First}
use Rattle.flat_unit.specs.Task.{Task}
use Rattle.flash_pages.specs.Chip.{Page}
use Rattle.flash_pages.specs.Place.{Place}
use Rattle.flat_unit.proofs.History.{failures_are-followed_by, due_later, due_now}
use Rattle.hpb_device.specs.declared.device.Stepped.{Stepped}
use Rattle.hpb_device.specs.declared.task.Task.{Task as Kept}
use Rattle.flash_store.specs.declared.answers.Phase.{Phase}
use Rattle.flash_store.specs.declared.answers.Phase.TheVariants.{Scanning, Ready, Foreign}
use Rattle.flash_store.specs.Store.{StoreState}
use Rattle.hpb_device.specs.Advance.{IsSameStore}
use Rattle.hpb_device.specs.Calls.{GoesOn, LeavesFewer, StepsIn}
use Rattle.hpb_device.specs.Left.{steps_left, unscanned}
use Rattle.hpb_device.specs.Task.{WasSilent, next_entry, to_try}
use Rattle.hpb_device.proofs.Silence.{going_was_silent, tries_has_entry, tries_was_silent}
use Rattle.hpb_device.specs.Keeps.{KeepsTasks}
use Rattle.hpb_device.specs.Standing.{DeviceStands, DeviceStandsForeign, first_of, group_of, sizes_of}
use Rattle.hpb_device.specs.State.{DeviceState, AreAtRest, AtRest, IsIdleIn, IsSound}
use Rattle.hpb_device.proofs.Going.{going_counts_step, going_fails, going_group, going_is_silent, going_keeps_no_write, going_rests, going_same, going_scanned}
use Rattle.hpb_device.proofs.Going.{going_scans, going_serves, going_sizes, going_stays_ready, going_steps_counted}
use Rattle.hpb_device.proofs.Going.{going_tasks, going_unready, going_unscanned, keeps_no_write, no_task_rests}
use Rattle.hpb_device.proofs.Going.{refusing_goes, refusing_sends}
use Rattle.hpb_device.proofs.Left.{few_kept}
use Rattle.hpb_device.specs.Counted.{CountsStand}
use Rattle.hpb_device.specs.Entries.{EntriesStand}
use Rattle.hpb_device.specs.Lists.{ListsStand}
use Rattle.hpb_device.specs.Regions.{HintsStand, KeepsHistory}
use Rattle.hpb_device.specs.Listed.{ListingStands}
use Rattle.hex.specs.Hex.{IsBytes}
use Rattle.replay_standing.specs.Calls.{HasStepped}
use Rattle.replay_standing.specs.Standing.{ForeignStanding, LacksEnough, OwnStanding, Standing, pages_in}
use Rattle.replay_standing.specs.Transcript.{IsPlain, has_page}
use Rattle.replay_standing.proofs.Counts.{serves_some, stepped_alone, unready_group}
use Rattle.replay_standing.proofs.Plain.{place_of_step, plain_group, upiu_of_step}
use Rattle.flat_unit.specs.Sound.{owed, Sound}
use Rattle.flat_unit.specs.Counts.{sends}

-- the tasks of the device are those of the events, and HPB is on
pub record Tracked (start now : DeviceState) (p : Progress) : Type 0 where
  pub tasks : List Task
  pub keeps : KeepsTasks now.tasks now.held tasks
  pub kept : tasks_at (sizes_of start) p ≡ tasks
  pub on : on_after p.events ≡ true

pub tracked : (start now : DeviceState) (p : Progress) → Standing start now p → Tracked start now p
tracked start now p at = elim at.chip [
  | inl own ↦ record {
    tasks = own.stands.tasks;
    keeps = own.stands.keeps;
    kept = subst (λ (s : Sizes). tasks_after s p.events ≡ own.stands.tasks) at.sizes own.stands.stands.keeps;
    on = own.stands.stands.switch;
  }
  | inr foreign ↦
      let here = foreign.stands (first_of start) in
      record {
        tasks = here.tasks;
        keeps = here.keeps;
        kept = subst (λ (s : Sizes). tasks_after s p.events ≡ here.tasks) at.sizes here.stands.keeps;
        on = here.stands.switch;
      }
]

-- so is what the regions are judged by
pub keeps_history : (start now : DeviceState) (p : Progress) → Standing start now p → KeepsHistory now p.events
keeps_history start now p at =
    let t = tracked start now p at in
    record { tasks = t.tasks; keeps = t.keeps; same = ap (λ (s : Sizes). tasks_after s p.events) at.sizes ∙ t.kept; on = t.on }

-- a step of a device that has something to do
pub record Stepping (old new : DeviceState) (r : Stepped) (out : List ℕ) : Type 0 where
  pub stands : (first : First) (e : History) → DeviceStands old first e → DeviceStands new first (followed_by e (events_of (group_of r out)))
  pub foreign : (chip : List Page) (first : First) (e : History) → DeviceStandsForeign old chip first e → DeviceStandsForeign new chip first (followed_by e (events_of (group_of r out)))
  pub busy : IsIdleIn old.store.phase old.tasks → ⊥
  pub steps : StepsIn old.store.phase old new r out
  pub fewer : LeavesFewer old new r
  pub shape : new.shape ≡ old.shape
  pub entries : (first : First) (e : History) → DeviceStands old first e → EntriesStand old e → EntriesStand new (followed_by e (events_of (group_of r out)))
  pub listings : (had : Place → Bool) (pages : ℕ) (first : First) (e : History) → DeviceStands old first e → ListingStands had pages old e
      → ListingStands had pages new (followed_by e (events_of (group_of r out)))
  pub counted : (first : First) (e : History) → DeviceStands old first e → EntriesStand old e → ListsStand old e → CountsStand old e → CountsStand new (followed_by e (events_of (group_of r out)))
  pub hints : (e : History) → KeepsHistory old e → HintsStand old e → HintsStand new (followed_by e (events_of (group_of r out)))
  pub fetched : (e : History) → KeepsHistory old e → ListsStand old e → ListsStand new (followed_by e (events_of (group_of r out)))
  pub room : r.sent ≡ true → IsBytes out × (length out ≤ 4128)
  pub small : (place : ℕ × ℕ) → r.moved ≡ Some place → (place.0 < 2 ^ 8) × (place.1 < 2 ^ 32)

abbrev pub after_step : DeviceState → Progress → Stepped → List ℕ → Progress
after_step start m r out = stepped (sizes_of start) m (group_of r out)

due_timely : (s : Sizes) (m : Progress) (g : Group) → is_due s m ≡ true → (g.sent ≡ None → may_be_silent s m ≡ true) → IsTimely s m g
due_timely s m g due silent = rw due (λ none. rw (silent none) refl)

-- a step that isn't due sends nothing but an answer to a failed look at the chip
early_timely : (s : Sizes) (m : Progress) (g : Group) → is_due s m ≡ false
    → ((bytes : List ℕ) → g.sent ≡ Some bytes → IsTrue (is_some g.failed) × (sense_code bytes ≡ Some 0x44)) → IsTimely s m g
early_timely s m g early looks = rw early looks

pub not_sent : (r : Stepped) (out : List ℕ) (b : Bool) → r.sent ≡ b → (group_of r out).sent ≡ None → b ≡ false
not_sent r out true is none = absurd (no_bytes (sent ∙ none))
  where
    sent : Some out ≡ (group_of r out).sent
    sent = rw is refl

    no_bytes : {bytes : List ℕ} → Some bytes ≡ None → ⊥
    no_bytes is = cc
not_sent r out false is none = refl

-- a step on a sound chip that sends nothing programs a block, or tries an entry for the first time
silent_step : (start old new : DeviceState) (m : Progress) (r : Stepped) (out : List ℕ) → Standing start old m → (m.tried ≡ true → WasSilent old.tasks) → GoesOn old new r out → r.sent ≡ false
    → may_be_silent (sizes_of start) m ≡ true
silent_step start old new m r out at tried goes silent =
    let t = tracked start old m at in
    let asked_or_tried = ap (λ (ts : List Task). has_asked ts || (has_entry (sizes_of start) m.events ts && not m.tried)) t.kept in
    asked_or_tried ∙ (elim (going_is_silent old new r out t.tasks goes t.keeps silent) [
      | inl asked ↦ ap (λ (b : Bool). b || (has_entry (sizes_of start) m.events t.tasks && not m.tried)) asked
      | inr tries ↦
          let entry : has_entry (sizes_of start) m.events t.tasks ≡ true = subst (λ (s : Sizes). has_entry s m.events t.tasks ≡ true) at.sizes
          (tries_has_entry old goes.task goes.others t.tasks m.events tries.0 goes.was t.keeps goes.ok at.fetched tries.1) in
          ap (λ (b : Bool). has_asked t.tasks || (b && not m.tried)) entry ∙ untried (has_asked t.tasks) m.tried refl tries.0 tries.1
    ])
  where
    or_true : (b : Bool) → (b || true) ≡ true
    or_true true = refl
    or_true false = refl

    untried : (b was : Bool) → m.tried ≡ was → (x : ℕ) → to_try (next_entry old.lists goes.task) goes.task ≡ Some x → (b || not was) ≡ true
    untried b false is x tries = or_true b
    untried b true is x tries = absurd (tries_was_silent old.lists old.tasks goes.task goes.others x goes.was tries (tried is))

-- a group that sends nothing
pub sent_none : (o : Option (List ℕ)) (b : Bool) → (is_none o && b) ≡ true → o ≡ None
sent_none None b is = refl
sent_none (Some bytes) b is = absurd (false≢true is)

sent_tried : (o : Option (List ℕ)) (b : Bool) → (is_none o && b) ≡ true → b ≡ true
sent_tried None b is = is
sent_tried (Some bytes) b is = absurd (false≢true is)

bytes_of_step : (r : Stepped) (out bytes : List ℕ) → (group_of r out).sent ≡ Some bytes → (r.sent ≡ true) × (out ≡ bytes)
bytes_of_step r out bytes is = by_sent r.sent refl is
  where
    same : {a b : List ℕ} → Some a ≡ Some b → a ≡ b
    same e = cc

    no_bytes : {a : List ℕ} → None ≡ Some a → ⊥
    no_bytes e = cc

    by_sent : (b : Bool) → r.sent ≡ b → (if b then Some out else None) ≡ Some bytes → (r.sent ≡ true) × (out ≡ bytes)
    by_sent true at is = (at, same is)
    by_sent false at is = absurd (no_bytes is)

-- a device that is to go on with its first task isn't at rest
goes_not_rests : (old new : DeviceState) (r : Stepped) (out : List ℕ) → GoesOn old new r out → AtRest old → ⊥
goes_not_rests old new r out goes rests =
    let waits : goes.task.come < goes.task.asked = subst AreAtRest goes.was rests in
    absurd (omega (arith, waits, goes.goes))

-- a step of a device over another chip that was scanned ends a task
foreign_late : (phase : Phase) (old new : DeviceState) (r : Stepped) (out : List ℕ) → StepsIn phase old new r out → (IsIdleIn phase old.tasks → ⊥) → ¬ IsSound old → unscanned old ≡ 0
    → (r.sent ≡ true) × (AtRest old → ⊥)
foreign_late Scanning old new r out scans busy unsound none = absurd (omega (arith, scans.more, none))
foreign_late Ready old new r out goes busy unsound none = absurd (unsound goes.sound)
foreign_late Foreign old new r out refuses busy unsound none = (refusing_sends old new r out refuses busy, refusing_goes old new r out refuses busy)

-- a step sends where it is due, and nowhere else but in the cases that are allowed
pub step_timely : (start old new : DeviceState) (m : Progress) (r : Stepped) (out : List ℕ) → Standing start old m → Stepping old new r out
    → IsTimely (sizes_of start) m (group_of r out)
step_timely start old new m r out at step = elim (cases_lt m.quiet (pages_in start)) [
  | inl early ↦
      let some : 0 < unscanned old = omega (arith, at.quiet, early) in
      early_timely (sizes_of start) m (group_of r out) (due_later (sizes_of start) m early) (λ bytes sends.
      let sent = bytes_of_step r out bytes sends in
      let looks = going_scans old.store.phase old new r out step.steps some sent.0 in
      (looks.0, ap sense_code (sym sent.1) ∙ looks.1))
  | inr late ↦
      let none : unscanned old ≡ 0 = omega (arith, at.quiet, late) in
      elim at.chip [
        | inl own ↦
            let goes = going_scanned old.store.phase old new r out step.steps own.stands.sound none in
            due_timely (sizes_of start) m (group_of r out) (due_now (sizes_of start) m late (going (goes_not_rests old new r out goes)))
            (λ silent. silent_step start old new m r out at own.tried goes (not_sent r out r.sent refl silent))
        | inr foreign ↦
            let ends = foreign_late old.store.phase old new r out step.steps step.busy (foreign.stands (first_of start)).unsound none in
            due_timely (sizes_of start) m (group_of r out) (due_now (sizes_of start) m late (going ends.1))
            (λ silent. absurd (false≢true (sym (not_sent r out r.sent refl silent) ∙ ends.0)))
      ]
]
  where
    going : (AtRest old → ⊥) → at_rest (tasks_at (sizes_of start) m) ≡ false
    going goes = let t = tracked start old m at in ap at_rest t.kept ∙ going_tasks old t.tasks t.keeps goes

pub step_leads : (start old new : DeviceState) (m : Progress) (r : Stepped) (out : List ℕ) → Standing start old m → Stepping old new r out → StepTo (sizes_of start) m (after_step start m r out)
step_leads start old new m r out at step = record {
  group = group_of r out;
  is_group = going_group old.store.phase old new r out step.steps;
  timely = step_timely start old new m r out at step;
  leads = refl;
}

step_plain : (start old new : DeviceState) (m : Progress) (r : Stepped) (out : List ℕ) → Standing start old m → Stepping old new r out → IsPlain (followed_by m.events (events_of (group_of r out)))
step_plain start old new m r out at step =
    plain_group m.events r.failed (group_of r out).moved (group_of r out).sent (place_of_step r.moved out r refl step.small)
    (λ bytes is. upiu_of_step r.sent out bytes (λ sends. record {
      bytes_are = (step.room sends).0;
      short = (step.room sends).1;
    }) is) at.plain

-- what follows from what is said of each run
pub all_weaker : (P Q : OpenRun → Type 0) (runs : List OpenRun) → ((run : OpenRun) → P run → Q run) → AllByRecursion P runs → AllByRecursion Q runs
all_weaker P Q [] leads all = tt
all_weaker P Q (run ∷ runs) leads all = (leads run all.0, all_weaker P Q runs leads all.1)

pub same_since : (first old new : StoreState) → IsSameStore first old → IsSameStore old new → IsSameStore first new
same_since first old new before now = record { geometry = now.geometry ∙ before.geometry; luns = now.luns ∙ before.luns; units = now.units ∙ before.units }

-- a device that rested before a step rests after it
pub going_before : (old new : DeviceState) (r : Stepped) (out : List ℕ) → Stepping old new r out → (AtRest new → ⊥) → AtRest old → ⊥
going_before old new r out step going rests = going (going_rests old.store.phase old new r out step.steps rests)

-- a run lacks as many calls as there are steps left, or nothing can go on
still_lacks : (old new : DeviceState) (r : Stepped) (out : List ℕ) (run : OpenRun) → Stepping old new r out → LacksEnough old run → LacksEnough new run
still_lacks old new r out run step lacks = record {
  enough = λ going. elim step.fewer [
    | inl less ↦ let few = lacks.enough (going_before old new r out step going) in omega (arith, few, less)
    | inr none ↦ absurd (going_before old new r out step going (no_task_rests old none.0))
  ];
  writes = λ none. going_keeps_no_write old.store.phase old new r out step.steps (lacks.writes none);
}

-- the quiet groups that are still to come
quiet_after : (pages quiet left now : ℕ) (b : Bool) → left ≡ pages - quiet → now ≡ left - (if b then 1 else 0) → now ≡ pages - (if b then quiet + 1 else quiet)
quiet_after pages quiet left now true was is = omega (arith, was, is)
quiet_after pages quiet left now false was is = omega (arith, was, is)

-- where a step is due, the chip was scanned
both_hold : (a b : Bool) → (a && b) ≡ true → b ≡ true
both_hold true b is = is
both_hold false b is = absurd (false≢true is)

due_scanned : (start old : DeviceState) (m : Progress) → Standing start old m → is_due (sizes_of start) m ≡ true → unscanned old ≡ 0
due_scanned start old m at is =
    let late : nat_le (pages_in start) m.quiet ≡ true = both_hold (not (at_rest (tasks_at (sizes_of start) m))) (nat_le (pages_in start) m.quiet) is in
    let enough : pages_in start ≤ m.quiet = grind (arith, nat_tests, late) in
    omega (arith, at.quiet, enough)

-- a step tried an entry in vain, or one before it did
tried_before : (start old : DeviceState) (m : Progress) → Standing start old m → (m.tried ≡ true → WasSilent old.tasks) → (m.tried || is_due (sizes_of start) m) ≡ true
    → (unscanned old ≡ 0) ⊎ WasSilent old.tasks
tried_before start old m at tried is = by_tried m.tried refl is
  where
    by_tried : (b : Bool) → m.tried ≡ b → (b || is_due (sizes_of start) m) ≡ true → (unscanned old ≡ 0) ⊎ WasSilent old.tasks
    by_tried true was is = inr (tried was)
    by_tried false was is = inl (due_scanned start old m at is)

-- on another chip no step that is due is silent
never_tried : (start old new : DeviceState) (m : Progress) (r : Stepped) (out : List ℕ) → Standing start old m → Stepping old new r out → ForeignStanding start old m
    → (after_step start m r out).tried ≡ false
never_tried start old new m r out at step foreign = by_sent (group_of r out).sent refl
  where
    by_due : (b : Bool) → is_due (sizes_of start) m ≡ b → (group_of r out).sent ≡ None → (m.tried || b) ≡ false
    by_due false due silent = ap (λ (t : Bool). t || false) foreign.untried
    by_due true due silent =
        let ends = foreign_late old.store.phase old new r out step.steps step.busy (foreign.stands (first_of start)).unsound (due_scanned start old m at due) in
        absurd (false≢true (sym (not_sent r out r.sent refl silent) ∙ ends.0))

    by_sent : (o : Option (List ℕ)) → (group_of r out).sent ≡ o → (is_none o && (m.tried || is_due (sizes_of start) m)) ≡ false
    by_sent (Some bytes) is = refl
    by_sent None is = by_due (is_due (sizes_of start) m) refl is

-- once a task was served the chip is ready
stays_ready : (start old new : DeviceState) (m : Progress) (r : Stepped) (out : List ℕ) → Standing start old m → Stepping old new r out → (after_step start m r out).served ≡ true
    → new.store.phase ≡ Ready
stays_ready start old new m r out at step served = by_served m.served refl served
  where
    by_served : (b : Bool) → m.served ≡ b → (b || serves (group_of r out).sent) ≡ true → new.store.phase ≡ Ready
    by_served true was is = going_stays_ready old new r out step.steps (at.ready was)
    by_served false was is =
        let (bytes, sends, other) = serves_some (group_of r out).sent is in
        let sent = bytes_of_step r out bytes sends in
        going_stays_ready old new r out step.steps (going_serves old.store.phase old new r out step.steps sent.0 (λ code. other (ap sense_code (sym sent.1) ∙ code)))

step_own : (start old new : DeviceState) (m : Progress) (r : Stepped) (out : List ℕ) → Standing start old m → Stepping old new r out → OwnStanding start old m
    → OwnStanding start new (after_step start m r out)
step_own start old new m r out at step own = record {
  was = own.was;
  stands = step.stands (first_of start) m.events own.stands;
  entries = step.entries (first_of start) m.events own.stands own.entries;
  listings = step.listings (has_page start.store.pages) (pages_in start) (first_of start) m.events own.stands own.listings;
  counted = step.counted (first_of start) m.events own.stands own.entries at.fetched own.counted;
  tried = λ is. going_was_silent old.store.phase old new r out step.steps step.busy (not_sent r out r.sent refl (sent_none (group_of r out).sent _ is))
      (tried_before start old m at own.tried (sent_tried (group_of r out).sent _ is));
}

step_foreign : (start old new : DeviceState) (m : Progress) (r : Stepped) (out : List ℕ) → Standing start old m → Stepping old new r out → ForeignStanding start old m
    → ForeignStanding start new (after_step start m r out)
step_foreign start old new m r out at step foreign =
    let here = foreign.stands (first_of start) in
    record {
      stands = λ first. step.foreign start.store.pages first m.events (foreign.stands first);
      unready = unready_group (sizes_of start) m.events r.failed (group_of r out).moved (group_of r out).sent (λ bytes sends.
          let sent = bytes_of_step r out bytes sends in
          ap sense_code (sym sent.1) ∙ going_unready old.store.phase old new r out step.steps here.unsound sent.0)
          (record { unready = foreign.unready; nothing_owed = subst (λ (s : Sizes). Rattle.flat_unit.specs.Sound.owed s m.events ≡ []) at.sizes here.stands.sound.nothing_owed });
      counted = stepped_alone (sizes_of start) m.events r.failed (group_of r out).moved (group_of r out).sent old.counts new.counts
          (going_counts_step old.store.phase old new r out step.steps here.unsound) foreign.counted;
      untried = never_tried start old new m r out at step foreign;
    }

pub step_standing : (start old new : DeviceState) (m : Progress) (r : Stepped) (out : List ℕ) → Standing start old m → Stepping old new r out → Standing start new (after_step start m r out)
step_standing start old new m r out at step =
    let made = going_steps_counted old.store.phase old new r out step.steps in
    record {
      some_page = at.some_page;
      sizes = going_sizes old.store.phase old new r out step.steps step.shape ∙ at.sizes;
      shape = step.shape ∙ at.shape;
      same = same_since start.store old.store new.store at.same (going_same old.store.phase old new r out step.steps);
      faults = failures_are-followed_by start.store.faults old.store.faults new.store.faults m.events (events_of (group_of r out)) at.faults (going_fails old.store.phase old new r out step.steps);
      plain = step_plain start old new m r out at step;
      hints = step.hints m.events (keeps_history start old m at) at.hints;
      fetched = step.fetched m.events (keeps_history start old m at) at.fetched;
      lacking = all_weaker (LacksEnough old) (LacksEnough new) m.runs (λ run lacks. still_lacks old new r out run step lacks) at.lacking;
      quiet = quiet_after (pages_in start) m.quiet (unscanned old) (unscanned new) (is_none r.failed) at.quiet (going_unscanned old.store.phase old new r out step.steps);
      steps = omega (arith, at.steps, made);
      ready = stays_ready start old new m r out at step;
      collected = λ is some. absurd (omega (arith, some));
      chip = elim at.chip [
        | inl own ↦ inl (step_own start old new m r out at step own)
        | inr foreign ↦ inr (step_foreign start old new m r out at step foreign)
      ];
    }

-- a step that had something to do made its group
pub busy_stepped : (start old new : DeviceState) (m : Progress) (r : Stepped) (out : List ℕ) → Standing start old m → Stepping old new r out → HasStepped start new m (group_of r out)
busy_stepped start old new m r out at step = record {
  is_group = going_group old.store.phase old new r out step.steps;
  timely = step_timely start old new m r out at step;
  standing = step_standing start old new m r out at step;
}

-- the steps that are left are at most those that the tasks need
pub few_steps : (start now : DeviceState) (p : Progress) → Standing start now p → steps_left now ≤ enough (sizes_of start) (tasks_at (sizes_of start) p)
few_steps start now p at =
    let t = tracked start now p at in
    let some : 1 ≤ now.store.geometry.pages = rw (ap (λ (s : Sizes). s.erase_block) at.sizes) at.some_page in
    let few = few_kept now t.tasks some t.keeps in
    subst (λ (ts : List Task). steps_left now ≤ enough (sizes_of start) ts) (sym t.kept) (subst (λ (s : Sizes). steps_left now ≤ enough s t.tasks) at.sizes few)

-- the same moment with other runs
pub with_runs : (start now : DeviceState) (p : Progress) (runs : List OpenRun) → Standing start now p → AllByRecursion (LacksEnough now) runs → Standing start now (record p { runs = runs })
with_runs start now p runs at lacking = record {
  some_page = at.some_page;
  sizes = at.sizes;
  shape = at.shape;
  same = at.same;
  faults = at.faults;
  plain = at.plain;
  hints = at.hints;
  fetched = at.fetched;
  lacking = lacking;
  quiet = at.quiet;
  steps = at.steps;
  ready = at.ready;
  collected = at.collected;
  chip = elim at.chip [
    | inl own ↦ inl (record { was = own.was; stands = own.stands; entries = own.entries; listings = own.listings; counted = own.counted; tried = own.tried })
    | inr foreign ↦ inr (record { stands = foreign.stands; unready = foreign.unready; counted = foreign.counted; untried = foreign.untried })
  ];
}

-- a run that begins lacks as many calls as end all tasks
pub run_standing : (start now : DeviceState) (p : Progress) → Standing start now p → Standing start now (with_run (sizes_of start) p)
run_standing start now p at =
    let t = tracked start now p at in
    with_runs start now p (with_run (sizes_of start) p).runs at (
      record {
        enough = λ going. few_steps start now p at;
        writes = λ none. keeps_no_write now.tasks now.held t.tasks t.keeps (ap keeps_write (sym t.kept) ∙ none);
      },
      at.lacking,
    )

-- a step of a device that wasn't idle
on_false : {P : Type 0} (b : Bool) → (IsTrue b → ⊥) → OnFalse b P → P
on_false true other told = absurd (other refl)
on_false false other told = told

pub stepping_of : (old new : DeviceState) (r : Stepped) (out : List ℕ)
    → ((first : First) (e : History) → DeviceStands old first e → DeviceStands new first (followed_by e (events_of (group_of r out))))
    → ((chip : List Page) (first : First) (e : History) → DeviceStandsForeign old chip first e → DeviceStandsForeign new chip first (followed_by e (events_of (group_of r out))))
    → ((first : First) (e : History) → DeviceStands old first e → EntriesStand old e → EntriesStand new (followed_by e (events_of (group_of r out))))
    → ((had : Place → Bool) (pages : ℕ) (first : First) (e : History) → DeviceStands old first e → ListingStands had pages old e
    → ListingStands had pages new (followed_by e (events_of (group_of r out))))
    → ((first : First) (e : History) → DeviceStands old first e → EntriesStand old e → ListsStand old e → CountsStand old e → CountsStand new (followed_by e (events_of (group_of r out))))
    → ((e : History) → KeepsHistory old e → HintsStand old e → HintsStand new (followed_by e (events_of (group_of r out))))
    → ((e : History) → KeepsHistory old e → ListsStand old e → ListsStand new (followed_by e (events_of (group_of r out))))
    → (IsTrue r.idle → ⊥) → (IsIdleIn old.store.phase old.tasks → IsTrue r.idle) → OnFalse r.idle (StepsIn old.store.phase old new r out) → OnFalse r.idle (LeavesFewer old new r)
    → new.shape ≡ old.shape → (r.sent ≡ true → IsBytes out × (length out ≤ 4128)) → ((place : ℕ × ℕ) → r.moved ≡ Some place → (place.0 < 2 ^ 8) × (place.1 < 2 ^ 32)) → Stepping old new r out
stepping_of old new r out stands foreign entries listings counted hints fetched busy idle steps fewer shape room small = record {
  stands = stands;
  foreign = foreign;
  busy = λ is. busy (idle is);
  steps = on_false r.idle busy steps;
  fewer = on_false r.idle busy fewer;
  shape = shape;
  entries = entries;
  listings = listings;
  counted = counted;
  hints = hints;
  fetched = fetched;
  room = room;
  small = small;
}

-- a device that is idle is at rest
pub idle_rests : (phase : Phase) (tasks : List Kept) → IsIdleIn phase tasks → AreAtRest tasks
idle_rests Scanning tasks is = absurd is
idle_rests Ready tasks is = is
idle_rests Foreign tasks is = subst AreAtRest (sym is) tt
