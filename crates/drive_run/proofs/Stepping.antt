-- A step of the device, and the exchange behind it.
use Rattle.std.proofs.Common.{◌≡◌, ◌≢◌, ℕ, ◌<◌, Bool, List, [], ◌++◌, Option, Result, Ok, Err, inl, inr, refl, sym, ◌∙◌, ap, subst, arith}
use Rattle.std.specs.Prelude.{IsErr, MatchResult, OnOk}
use Rattle.flat_unit.specs.Replays.{Group, events_of}
use Rattle.hpb_device.specs.Left.{steps_left}
use Rattle.hpb_device.specs.Standing.{sizes_of}
use Rattle.hpb_device.specs.State.{DeviceState}
use Rattle.driver_caches.specs.Machine.{Machine}
use Rattle.driver_laws.specs.Commands.{Nothing, next_of}
use Rattle.drive_rules.specs.Cuts.{CutExchange, CutStep}
use Rattle.drive_rules.specs.Held.{AllOut, IsHeldWithin, weight}
use Rattle.drive_rules.specs.Lines.{Drive, DriveStep, Exchanges, stepped_by}
use Rattle.drive_rules.specs.Said.{Said}
use Rattle.drive_rules.proofs.Passing.{held_stepped}
use Rattle.hpb_link.specs.declared.ticket.Ended.{Ended}
use Rattle.hpb_link.specs.Stands.{AtDrive, HasDriven, said_events}
use Rattle.hpb_link.specs.State.{LinkState}
use Rattle.run_output.specs.Writes.{KeepsText}
use Rattle.drive_run.specs.Moments.{Adds, AddsNoSteps, Cuts, Leads, LeavesFewer, Plays, Prints, ended_text, events_text}
use Rattle.drive_run.proofs.Playing.{front_added, front_kept, front_then, prints_added, prints_gathered, prints_kept, prints_then}
use Rattle.drive_run.proofs.Saying.{ended_said, events_said}

-- the sink failed before the step
pub step_unmade : {T E : Type 0} (start : DeviceState) (only : Bool) (old : LinkState) (a b : Option (List ℕ)) (one two : List ℕ) (d : Drive) (r : Result T E) → AtDrive start old d
    → KeepsText a b one two r → IsErr r
    → Cuts (CutStep (sizes_of start) d) start only old a b one d.said
step_unmade start only old a b one two d r at keeps failed =
    record { moment = d; reached = inl refl; stands = at; prints = front_kept only a b one two d.said r keeps failed }

-- the events of the step are gathered
pub events_printed : {T E : Type 0} (only : Bool) (a b : Option (List ℕ)) (one two three : List ℕ) (said : List Said) (g : Group) (r : Result T E) → KeepsText a b one two r → ¬ IsErr r
    → three ≡ two ++ events_text only (events_of g) → Prints only a b one three said (said_events said (events_of g))
events_printed only a b one two three said g r keeps worked is =
    prints_gathered only a b one two three (events_text only (events_of g)) said said (said_events said (events_of g)) (prints_kept only a b one two said r keeps worked) is (events_said only
    (events_of g) said)

-- a step was cut where an answer is printed
pub end_is_cut : {T E : Type 0} (start : DeviceState) (only : Bool) (now : LinkState) (a b c : Option (List ℕ)) (one two three : List ℕ) (d : Drive) (g : Group) (ended : Option Ended) (r : Result T E)
    → HasDriven start now d g ended
    → Prints only a b one two d.said (said_events d.said (events_of g)) → Adds (ended_text ended) b c two three r → IsErr r → Cuts (CutStep (sizes_of start) d) start only now a c one d.said
end_is_cut start only now a b c one two three d g ended r driven prints adds failed =
    let s = sizes_of start in
    let mid = said_events d.said (events_of g) in
    record {
      moment = stepped_by s g d;
      reached = inr (record { group = g; is_group = driven.is_group; bytes = driven.bytes; timely = driven.timely; exchange = (0, refl) });
      stands = driven.stands;
      prints = front_then only a b c one two d.said mid (stepped_by s g d).said prints
          (front_added only b c two three (ended_text ended) mid (stepped_by s g d).said r adds failed (ended_said only ended mid (stepped_by s g d).said driven.said));
    }

-- or an answer was printed
pub end_printed : {T E : Type 0} (start : DeviceState) (only : Bool) (now : LinkState) (a b c : Option (List ℕ)) (one two three : List ℕ) (d : Drive) (g : Group) (ended : Option Ended)
    (r : Result T E)
    → HasDriven start now d g ended
    → Prints only a b one two d.said (said_events d.said (events_of g)) → Adds (ended_text ended) b c two three r → ¬ IsErr r
    → Prints only a c one three d.said (stepped_by (sizes_of start) g d).said
end_printed start only now a b c one two three d g ended r driven prints adds worked =
    let mid = said_events d.said (events_of g) in
    let now = (stepped_by (sizes_of start) g d).said in
    prints_then only a b c one two three d.said mid now prints
    (prints_added only b c two three (ended_text ended) mid now r adds worked (ended_said only ended mid now driven.said))

-- the exchange behind it
pub step_played : {T E : Type 0} (start : DeviceState) (only : Bool) (mid new : LinkState) (a b c : Option (List ℕ)) (one two three : List ℕ) (d : Drive) (g : Group) (ended : Option Ended)
    (r : Result T E)
    → HasDriven start mid d g ended → Prints only a b one two d.said (stepped_by (sizes_of start) g d).said → Plays Exchanges CutExchange only mid new b c two three r
    → MatchResult r (λ _. Leads (DriveStep (sizes_of start) d) start only new a c one three d.said) (λ _. Cuts (CutStep (sizes_of start) d) start only new a c one d.said)
step_played start only mid new a b c one two three d g ended (Ok x) driven prints plays =
    let s = sizes_of start in
    let leads = plays start (stepped_by s g d) driven.stands in
    record {
      moment = leads.moment;
      reached = record { group = g; is_group = driven.is_group; bytes = driven.bytes; timely = driven.timely; exchange = leads.reached };
      stands = leads.stands;
      prints = prints_then only a b c one two three d.said (stepped_by s g d).said leads.moment.said prints leads.prints;
    }
step_played start only mid new a b c one two three d g ended (Err e) driven prints plays =
    let s = sizes_of start in
    let cuts = plays start (stepped_by s g d) driven.stands in
    record {
      moment = cuts.moment;
      reached = inr (record { group = g; is_group = driven.is_group; bytes = driven.bytes; timely = driven.timely; exchange = cuts.reached });
      stands = cuts.stands;
      prints = front_then only a b c one two d.said (stepped_by s g d).said cuts.moment.said prints cuts.prints;
    }

-- the step leaves fewer, and the exchange adds none
pub step_leaves_fewer : (old mid new : LinkState) (g : Group) (ended : Option Ended) → ((start : DeviceState) (d : Drive) → AtDrive start old d → HasDriven start mid d g ended)
    → ((start : DeviceState) (d : Drive) → AtDrive start old d → next_of old.driver.opens ≡ Nothing → old.driver.opens ≢ [] → steps_left mid.device < steps_left old.device)
    → AddsNoSteps mid new → LeavesFewer old new
step_leaves_fewer old mid new g ended drives fewer adds start d at held all nothing some =
    let s = sizes_of start in
    let driven = drives start d at in
    let w = weight s d.machine.opens in
    let is : IsHeldWithin s w d.machine = record {
      held = sym (ap (λ (m : Machine). m.held) at.machine) ∙ held;
      out = subst (λ (m : Machine). AllOut m.opens) at.machine all;
      within = omega arith;
    } in
    let there = held_stepped s w g d is in
    let less = fewer start d at nothing some in
    let more = adds start (stepped_by s g d) driven.stands (ap (λ (m : Machine). m.held) driven.stands.machine ∙ there.held) (subst (λ (m : Machine). AllOut m.opens)
    (sym driven.stands.machine) there.out) in
    omega (arith, less, more)

-- what is so in any case is so where a call worked
pub in_any_case : {T E : Type 0} (r : Result T E) (P : Type 0) → P → OnOk r P
in_any_case (Ok x) P is = is
in_any_case (Err x) P is = tt
