-- Calls of the collector. Behind the first one with nothing to do, no other does anything.
use Rattle.std.proofs.Common.{◌≡◌, ◌⊎◌, ℕ, suc, ◌+◌, ◌*◌, ◌^◌, ◌<◌, ◌≤◌, Bool, true, false, not, ◌||◌, List, [], ◌∷◌, ◌++◌, length, Option, Some, None, refl, sym, ◌∙◌, ap, subst, arith, inl, inr}
use Rattle.std.proofs.lemmas.Bool.{cases_lt, false≢true}
use Rattle.std.specs.Prelude.{All, filter, is_some, IsTrue, if◌then◌else◌}
use Rattle.std.specs.Bool.{OnFalse}
use Rattle.std.specs.List.{AllByRecursion, list_any}
use Rattle.std.proofs.lemmas.List.Elements.{All-nil, All-push}
use Rattle.std.proofs.lemmas.List.Folds.{list_any-append}
use Rattle.flash_pages.specs.declared.chip.ChipOp.{ChipOp}
use Rattle.flash_pages.specs.Chip.{Page}
use Rattle.flash_pages.specs.Place.{Place}
use Rattle.flash_store.specs.declared.answers.Phase.TheVariants.{Ready}
use Rattle.flat_unit.specs.declared.event.Event.{Event}
use Rattle.flat_unit.specs.declared.event.Event.TheVariants.{Moved, Failed}
use Rattle.flat_unit.specs.History.{History, followed_by}
use Rattle.flat_unit.specs.Replays.{OpenRun, Progress, IsCollection, collected_to, events_of, is_failure, without_writes, told}
use Rattle.flat_unit.specs.Sizes.{Sizes}
use Rattle.flat_unit.specs.Stands.{First}
use Rattle.flat_unit.proofs.History.{failures_are-followed_by}
use Rattle.hpb_device.specs.declared.device.Stepped.{Stepped}
use Rattle.hpb_device.specs.Advance.{IsSameStore}
use Rattle.hpb_device.specs.Calls.{at_rest as idle_result, CollectsOn, uncollected_in}
use Rattle.hpb_device.specs.Counted.{CountsStand}
use Rattle.hpb_device.specs.Entries.{EntriesStand}
use Rattle.hpb_device.specs.Lists.{ListsStand}
use Rattle.hpb_device.specs.Regions.{HintsStand}
use Rattle.hpb_device.specs.Left.{KeepsNoWrite, steps_left}
use Rattle.hpb_device.specs.Limits.{limits_of}
use Rattle.hpb_device.specs.Listed.{ListingStands}
use Rattle.hpb_device.specs.Sizes.{sizes}
use Rattle.hpb_device.specs.Standing.{DeviceStands, DeviceStandsForeign, first_of, group_of, sizes_of}
use Rattle.hpb_device.specs.State.{DeviceState, AreAtRest, IsSound}
use Rattle.hpb_device.specs.Task.{WasSilent}
use Rattle.hpb_device.proofs.Collecting.{collect_fails, collect_sends_none, collect_steps_counted}
use Rattle.replay_standing.specs.Calls.{HasCalled}
use Rattle.replay_standing.specs.Standing.{HasCollected, LacksEnough, Standing, pages_in}
use Rattle.replay_standing.specs.Transcript.{HasNoMore, has_page}
use Rattle.replay_standing.proofs.Counts.{unready_group, followed_by-more, fails_in}
use Rattle.replay_standing.proofs.Plain.{place_of_step, plain_group}
use Rattle.replay_standing.proofs.Standing.{same_since, with_runs}
use Rattle.flat_unit.specs.Causes.{failures}
use Rattle.flat_unit.specs.Sound.{owed, Sound}

-- a call of `collect` that had something to do
pub record Calling (old new : DeviceState) (r : Stepped) : Type 0 where
  pub stands : (first : First) (e : History) → DeviceStands old first e → DeviceStands new first (followed_by e (events_of (group_of r [])))
  pub foreign : (chip : List Page) (first : First) (e : History) → DeviceStandsForeign old chip first e → DeviceStandsForeign new chip first (followed_by e (events_of (group_of r [])))
  pub entries : (e : History) → EntriesStand old e → EntriesStand new (followed_by e (events_of (group_of r [])))
  pub listings : (had : Place → Bool) (pages : ℕ) (e : History) → ListingStands had pages old e → ListingStands had pages new (followed_by e (events_of (group_of r [])))
  pub counted : (e : History) → CountsStand old e → CountsStand new (followed_by e (events_of (group_of r [])))
  pub hints : (e : History) → HintsStand old e → HintsStand new (followed_by e (events_of (group_of r [])))
  pub fetched : (e : History) → ListsStand old e → ListsStand new (followed_by e (events_of (group_of r [])))
  pub sound : old.store.phase ≡ Ready → IsSound old
  pub calls : CollectsOn old new r
  pub fewer : r.failed ≡ None → uncollected_in new < uncollected_in old
  pub most : uncollected_in old ≤ 2 * old.store.geometry.pages * pages_in old
  pub over : r.failed ≡ None → uncollected_in new ≡ 0 → HasNoMore new.store.geometry new.store.pages
  pub left : KeepsNoWrite old.tasks → steps_left new ≡ steps_left old
  pub shape : new.shape ≡ old.shape
  pub small : (place : ℕ × ℕ) → r.moved ≡ Some place → (place.0 < 2 ^ 8) × (place.1 < 2 ^ 32)

-- a call with nothing to do, on a ready chip: nothing is left to collect
abbrev pub Rests : DeviceState → Type 0
Rests now = now.store.phase ≡ Ready → (uncollected_in now ≡ 0) × HasNoMore now.store.geometry now.store.pages

-- no write was kept when these runs began
abbrev pub Writeless : List OpenRun → Type 0
Writeless runs = AllByRecursion (λ (run : OpenRun). run.has_write ≡ false) runs

pub writeless : (runs : List OpenRun) → Writeless (filter (λ (run : OpenRun). not run.has_write) runs)
writeless [] = tt
writeless (run ∷ runs) = by_write run.has_write refl (writeless runs)
  where
    by_write : (b : Bool) → run.has_write ≡ b → Writeless (filter (λ (run : OpenRun). not run.has_write) runs)
        → Writeless (if not b then run ∷ filter (λ (run : OpenRun). not run.has_write) runs else filter (λ (run : OpenRun). not run.has_write) runs)
    by_write true is others = others
    by_write false is others = (is, others)

-- those of a list that pass
kept_runs : (P : OpenRun → Type 0) (test : OpenRun → Bool) (runs : List OpenRun) → AllByRecursion P runs → AllByRecursion P (filter test runs)
kept_runs P test [] all = tt
kept_runs P test (run ∷ runs) all = by_test (test run) (kept_runs P test runs all.1)
  where
    by_test : (b : Bool) → AllByRecursion P (filter test runs) → AllByRecursion P (if b then run ∷ filter test runs else filter test runs)
    by_test true others = (all.0, others)
    by_test false others = others

still_lacks : (old new : DeviceState) (r : Stepped) (runs : List OpenRun) → Calling old new r → Writeless runs → AllByRecursion (LacksEnough old) runs → AllByRecursion (LacksEnough new) runs
still_lacks old new r [] call none lacks = tt
still_lacks old new r (run ∷ runs) call none lacks =
    let no_write = lacks.0.writes none.0 in (
      record {
        enough = λ going. let few = lacks.0.enough (λ rests. going (subst AreAtRest (sym call.calls.tasks) rests)) in let same = call.left no_write in omega (arith, few, same);
        writes = λ is. subst KeepsNoWrite (sym call.calls.tasks) (lacks.0.writes is);
      },
      still_lacks old new r runs call none.1 lacks.1,
    )

-- how many calls there were since one of another kind, or since one that failed
abbrev Counts : Progress → Stepped → ℕ → Type 0
Counts q r count = (count ≡ 0) ⊎ ((r.failed ≡ None) × (count ≡ q.collected + 1))

now_most : (old new : DeviceState) (r : Stepped) → Calling old new r → 2 * new.store.geometry.pages * pages_in new ≡ 2 * old.store.geometry.pages * pages_in old
now_most old new r call = λ i. 2 * (call.calls.same.geometry i).pages * ((call.calls.same.geometry i).blocks * (call.calls.same.geometry i).pages)

has_collected : (start old new : DeviceState) (q : Progress) (r : Stepped) (count : ℕ) → Standing start old q → Calling old new r → Counts q r count → 0 < count → HasCollected new count
has_collected start old new q r count at call counts some = elim counts [
  | inl none ↦ absurd (omega (arith, none, some))
  | inr (well, more) ↦
      let less = call.fewer well in
      let same = now_most old new r call in
      record {
        fewer = elim (cases_lt 0 q.collected) [
          | inl before ↦ elim (at.collected call.calls.phase before).fewer [
            | inl few ↦ inl (omega (arith, few, less, same, more))
            | inr over ↦ absurd (omega (arith, over, less))
          ]
          | inr first ↦ let most = call.most in inl (omega (arith, most, less, same, more, first))
        ];
        over = call.over well;
      }
]

-- a call tells no UPIU
tells_none : (r : Stepped) (sent : Bool) → r.sent ≡ sent → sent ≡ false → (group_of r []).sent ≡ None
tells_none r true is none = absurd (false≢true (sym none))
tells_none r false is none = ap (λ (b : Bool). if b then Some [] else None) is

-- the events of a call
abbrev pub events_by : Stepped → List Event
events_by r = events_of (group_of r [])

abbrev after_call : Progress → Stepped → ℕ → Progress
after_call q r count = record q { events = followed_by q.events (events_by r); collected = count }

no_upiu : {o : Option (List ℕ)} {bytes : List ℕ} → o ≡ None → o ≡ Some bytes → ⊥
no_upiu none is = none_some (sym none ∙ is)
  where
    none_some : {bytes : List ℕ} → None ≡ Some bytes → ⊥
    none_some e = cc

call_standing : (start old new : DeviceState) (q : Progress) (r : Stepped) (count : ℕ) → Standing start old q → Calling old new r → Writeless q.runs → Counts q r count
    → Standing start new (after_call q r count)
call_standing start old new q r count at call runs counts =
    let silent = collect_sends_none old new r call.calls in
    let none = tells_none r r.sent refl silent in
    let store : IsSameStore old.store new.store = record { geometry = call.calls.same.geometry; luns = call.calls.same.luns; units = call.calls.same.units } in
    let made = collect_steps_counted old new r call.calls in
    let blocks : pages_in new ≡ pages_in old = λ i. (call.calls.same.geometry i).blocks * (call.calls.same.geometry i).pages in
    record {
      some_page = at.some_page;
      shape = call.shape ∙ at.shape;
      hints = call.hints q.events at.hints;
      fetched = call.fetched q.events at.fetched;
      sizes = (λ i. sizes (call.calls.same.luns i) (limits_of (call.shape i)) (call.calls.same.geometry i)) ∙ at.sizes;
      same = same_since start.store old.store new.store at.same store;
      faults = failures_are-followed_by start.store.faults old.store.faults new.store.faults q.events (events_by r) at.faults (collect_fails old new r call.calls);
      plain = plain_group q.events r.failed (group_of r []).moved (group_of r []).sent (place_of_step r.moved [] r refl call.small) (λ bytes is. absurd (no_upiu none is)) at.plain;
      lacking = still_lacks old new r q.runs call runs at.lacking;
      quiet = omega (arith, at.quiet, blocks, call.calls.same.scanned);
      steps = omega (arith, at.steps, made);
      ready = λ is. call.calls.same.phase ∙ at.ready is;
      collected = λ ready some. has_collected start old new q r count at call counts some;
      chip = elim at.chip [
        | inl own ↦ inl (record {
          was = own.was;
          stands = call.stands (first_of start) q.events own.stands;
          entries = call.entries q.events own.entries;
          listings = call.listings (has_page start.store.pages) (pages_in start) q.events own.listings;
          counted = call.counted q.events own.counted;
          tried = λ is. subst WasSilent (sym call.calls.tasks) (own.tried is);
        })
        | inr foreign ↦
            let here = foreign.stands (first_of start) in
            inr (record {
              stands = λ first. call.foreign start.store.pages first q.events (foreign.stands first);
              unready = unready_group (sizes_of start) q.events r.failed (group_of r []).moved (group_of r []).sent (λ bytes is. absurd (no_upiu none is))
                  (record { unready = foreign.unready; nothing_owed = subst (λ (s : Sizes). Rattle.flat_unit.specs.Sound.owed s q.events ≡ []) at.sizes here.stands.sound.nothing_owed });
              counted = absurd (here.unsound (call.sound call.calls.phase));
              untried = foreign.untried;
            })
      ];
    }

no_more : (start now : DeviceState) (p : Progress) → Standing start now p → Standing start now (record p { collected = p.collected + 0 })
no_more start now p at = subst (λ (n : ℕ). Standing start now (record p { collected = n })) (sum p.collected) at
  where
    sum : (n : ℕ) → n ≡ n + 0
    sum n = omega arith

-- the events of a call are those of a collection, and one at most
few_events : (failed : Option ChipOp) (moved : Option Place) → (failed ≡ None) ⊎ (moved ≡ None) → (length (events_of (record { failed = failed; moved = moved; sent = None })) ≤ 1)
    × All IsCollection (events_of (record { failed = failed; moved = moved; sent = None }))
few_events None None one = (omega arith, All-nil IsCollection)
few_events None (Some p) one = (omega arith, All-push IsCollection [] (Moved p.lun p.lba) (All-nil IsCollection) tt)
few_events (Some op) None one = (omega arith, All-push IsCollection [] (Failed op) (All-nil IsCollection) tt)
few_events (Some op) (Some p) one = elim one [ inl none ↦ cc | inr none ↦ cc ]

one_only : (old new : DeviceState) (r : Stepped) → CollectsOn old new r → (r.failed ≡ None) ⊎ ((group_of r []).moved ≡ None)
one_only old new r calls = elim calls.outcome [
  | inl (moved, is) ↦ inl (ap (λ (x : Stepped). x.failed) is.result_is)
  | inr (op, is) ↦ inr (ap (λ (x : Stepped). (group_of x []).moved) is.result_is)
]

-- how the count goes on
counts_on : (q : Progress) (count : ℕ) (group xs : List Event) (r : Stepped) → list_any is_failure xs ≡ is_some r.failed
    → Counts (collected_to count group q) r ((collected_to (suc count) (group ++ xs) q).collected)
counts_on q count group xs r failures = by_any (list_any is_failure group) (list_any is_failure xs) refl refl
  where
    failed_none : (o : Option ChipOp) → is_some o ≡ false → o ≡ None
    failed_none None is = refl
    failed_none (Some op) is = absurd (false≢true (sym is))

    now_is : (a b : Bool) → list_any is_failure group ≡ a → list_any is_failure xs ≡ b → list_any is_failure (group ++ xs) ≡ (a || b)
    now_is a b one two = list_any-append is_failure group xs ∙ (λ i. one i || two i)

    by_any : (a b : Bool) → list_any is_failure group ≡ a → list_any is_failure xs ≡ b
        → Counts (collected_to count group q) r ((collected_to (suc count) (group ++ xs) q).collected)
    by_any true b one two = inl (ap (λ (t : Bool). if t then 0 else q.collected + suc count) (now_is true b one two))
    by_any false true one two = inl (ap (λ (t : Bool). if t then 0 else q.collected + suc count) (now_is false true one two))
    by_any false false one two =
        let all : (collected_to (suc count) (group ++ xs) q).collected ≡ q.collected + suc count =
        ap (λ (t : Bool). if t then 0 else q.collected + suc count) (now_is false false one two) in
        let before : (collected_to count group q).collected ≡ q.collected + count = ap (λ (t : Bool). if t then 0 else q.collected + count) one in
        inr (failed_none r.failed (sym failures ∙ two), omega (arith, all, before))

-- a call that does something tells no UPIU
pub events_are : (old new : DeviceState) (r : Stepped) → Calling old new r
    → events_by r ≡ events_of (record { failed = r.failed; moved = (group_of r []).moved; sent = None })
events_are old new r call =
    let none = tells_none r r.sent refl (collect_sends_none old new r call.calls) in
    λ i. events_of (record { failed = r.failed; moved = (group_of r []).moved; sent = none i })

-- its events are those of a collection, and one at most
pub one_event : (old new : DeviceState) (r : Stepped) → Calling old new r → (length (events_by r) ≤ 1) × All IsCollection (events_by r)
one_event old new r call =
    subst (λ (xs : List Event). (length xs ≤ 1) × All IsCollection xs) (sym (events_are old new r call))
    (few_events r.failed (group_of r []).moved (one_only old new r call.calls))

-- before the first call the runs that began with a write end
pub calls_begin : (start now : DeviceState) (p : Progress) → Standing start now p → Standing start now (collected_to 0 [] (without_writes p))
calls_begin start now p at =
    no_more start now (without_writes p) (with_runs start now p (without_writes p).runs at
    (kept_runs (LacksEnough now) (λ (run : OpenRun). not run.has_write) p.runs at.lacking))

-- one more call of the collector
pub calls_go_on : (start old new : DeviceState) (q : Progress) (r : Stepped) (count : ℕ) (group : List Event) → Writeless q.runs → Calling old new r
    → Standing start old (collected_to count group q) → Standing start new (collected_to (suc count) (group ++ events_by r) q)
calls_go_on start old new q r count group none call at =
    let fails : list_any is_failure (events_by r) ≡ is_some r.failed = ap (list_any is_failure) (events_are old new r call) ∙ fails_in r.failed (group_of r []).moved in
    let more = followed_by-more q.events group (events_by r) in
    subst (λ (e : History). Standing start new (record (collected_to (suc count) (group ++ events_by r) q) { events = e })) (sym more)
    (call_standing start old new (collected_to count group q) r ((collected_to (suc count) (group ++ events_by r) q).collected) at call none
    (counts_on q count group (events_by r) r fails))

-- the same moment with more calls that do nothing
pub idle_standing : (start now : DeviceState) (q : Progress) (count : ℕ) → Rests now → Standing start now q → Standing start now (record q { collected = count })
idle_standing start now q count rests at = record {
  some_page = at.some_page;
  sizes = at.sizes;
  shape = at.shape;
  same = at.same;
  faults = at.faults;
  plain = at.plain;
  hints = at.hints;
  fetched = at.fetched;
  lacking = at.lacking;
  quiet = at.quiet;
  steps = at.steps;
  ready = at.ready;
  collected = λ ready some. record { fewer = inr (rests ready).0; over = λ none. (rests ready).1 };
  chip = elim at.chip [
    | inl own ↦ inl (record { was = own.was; stands = own.stands; entries = own.entries; listings = own.listings; counted = own.counted; tried = own.tried })
    | inr foreign ↦ inr (record { stands = foreign.stands; unready = foreign.unready; counted = foreign.counted; untried = foreign.untried })
  ];
}

-- a call that wasn't idle
on_false : {P : Type 0} (b : Bool) → (IsTrue b → ⊥) → OnFalse b P → P
on_false true other told = absurd (other refl)
on_false false other told = told

pub calling_of : (old new : DeviceState) (r : Stepped)
    → ((first : First) (e : History) → DeviceStands old first e → DeviceStands new first (followed_by e (events_of (group_of r []))))
    → ((chip : List Page) (first : First) (e : History) → DeviceStandsForeign old chip first e → DeviceStandsForeign new chip first (followed_by e (events_of (group_of r []))))
    → ((e : History) → EntriesStand old e → EntriesStand new (followed_by e (events_of (group_of r []))))
    → ((had : Place → Bool) (pages : ℕ) (e : History) → ListingStands had pages old e → ListingStands had pages new (followed_by e (events_of (group_of r []))))
    → ((e : History) → CountsStand old e → CountsStand new (followed_by e (events_of (group_of r []))))
    → ((e : History) → HintsStand old e → HintsStand new (followed_by e (events_of (group_of r []))))
    → ((e : History) → ListsStand old e → ListsStand new (followed_by e (events_of (group_of r []))))
    → (old.store.phase ≡ Ready → IsSound old)
    → (IsTrue r.idle → ⊥) → OnFalse r.idle (CollectsOn old new r) → OnFalse r.idle (r.failed ≡ None → uncollected_in new < uncollected_in old)
    → (old.store.phase ≡ Ready → uncollected_in old ≤ 2 * old.store.geometry.pages * (old.store.geometry.blocks * old.store.geometry.pages))
    → (old.store.phase ≡ Ready → r.failed ≡ None → uncollected_in new ≡ 0 → HasNoMore new.store.geometry new.store.pages)
    → (KeepsNoWrite old.tasks → steps_left new ≡ steps_left old) → new.shape ≡ old.shape → ((place : ℕ × ℕ) → r.moved ≡ Some place → (place.0 < 2 ^ 8) × (place.1 < 2 ^ 32)) → Calling old new r
calling_of old new r stands foreign entries listings counted hints fetched sound busy collects fewer most over left shape small =
    let calls = on_false r.idle busy collects in
    record {
      stands = stands;
      foreign = foreign;
      entries = entries;
      listings = listings;
      counted = counted;
      hints = hints;
      fetched = fetched;
      sound = sound;
      calls = calls;
      fewer = on_false r.idle busy fewer;
      most = most calls.phase;
      over = over calls.phase;
      left = left;
      shape = shape;
      small = small;
    }

pub rests_of : (now : DeviceState) → (now.store.phase ≡ Ready → uncollected_in now ≡ 0) → (now.store.phase ≡ Ready → uncollected_in now ≡ 0 → HasNoMore now.store.geometry now.store.pages) → Rests now
rests_of now none over ready = (none ready, over ready (none ready))

-- where there is no run, none ends
ends_no_run : (start now : DeviceState) (p : Progress) (group : List Event) → p.runs ≡ [] → Standing start now (collected_to 1 group (without_writes p))
    → Standing start now (collected_to 1 group p)
ends_no_run start now p group none at =
    let same : (without_writes p).runs ≡ p.runs = ap (filter (λ (run : OpenRun). not run.has_write)) none ∙ sym none in
    subst (λ (runs : List OpenRun). Standing start now (record (collected_to 1 group p) { runs = runs })) same at

-- one call of the collector that had something to do, and one that had nothing to do
pub busy_called : (start old new : DeviceState) (p : Progress) (r : Stepped) → Calling old new r → Standing start old p → HasCalled start new p (events_by r)
busy_called start old new p r call at =
    let one = one_event old new r call in
    let standing = calls_go_on start old new (without_writes p) r 0 [] (writeless p.runs) call (calls_begin start old p at) in
    record { few = one.0; collection = one.1; standing = standing; alone = λ none. ends_no_run start new p (events_by r) none standing }

pub idle_called : (start now : DeviceState) (p : Progress) (r : Stepped) → r ≡ idle_result → Rests now → Standing start now p → HasCalled start now p (events_by r)
idle_called start now p r is rests at =
    let standing = idle_standing start now (collected_to 0 [] (without_writes p)) ((collected_to 1 [] p).collected) rests (calls_begin start now p at) in
    subst (λ (x : Stepped). HasCalled start now p (events_by x)) (sym is)
    (record { few = omega arith; collection = All-nil IsCollection; standing = standing; alone = λ none. ends_no_run start now p [] none standing })
