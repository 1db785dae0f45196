-- Steps of the device, passes and drains.
use Rattle.std.proofs.Common.{◌≡◌, ◌≢◌, ℕ, suc, ◌+◌, ◌≤◌, ◌<◌, Bool, true, false, List, [], ◌∷◌, length, Option, Result, Ok, Err, inl, inr, refl, sym, ◌∙◌, ap, subst, arith}
use Rattle.std.specs.Prelude.{IsErr, MatchResult, MatchBool, OnOk, nat_le}
use Rattle.std.proofs.lemmas.Bool.Decides.{nat_tests}
use Rattle.flat_unit.specs.Replays.{enough, tasks_at}
use Rattle.flat_unit.specs.Sizes.{Sizes}
use Rattle.hpb_device.specs.Left.{steps_left}
use Rattle.hpb_device.specs.Standing.{sizes_of}
use Rattle.hpb_device.specs.State.{DeviceState}
use Rattle.replay_standing.proofs.Standing.{few_steps}
use Rattle.driver_caches.specs.Machine.{Machine, with_own}
use Rattle.driver_laws.specs.Commands.{Nothing, OpenCommand, after_next, next_of, tags}
use Rattle.drive_rules.specs.Cuts.{CutDrain, CutExchange, CutPass, CutStep, CutSteps}
use Rattle.drive_rules.specs.Held.{AllOut, IsHeldWithin, weight}
use Rattle.drive_rules.specs.Lines.{DrainsTo, Drive, DriveStep, DriveSteps, Exchanges, FreesTags, Passes, held_back, stepped_by}
use Rattle.drive_rules.proofs.Asking.{Requested, asked_drain}
use Rattle.drive_rules.proofs.Passing.{Silent, held_first, held_step, nothing_sent, silent_of}
use Rattle.driver_laws.proofs.Resting.{rests}
use Rattle.hpb_device.specs.declared.task.Task.{Task}
use Rattle.hpb_device.specs.Left.{tasks_left, wait_of}
use Rattle.hpb_device.specs.Limits.{limits_of}
use Rattle.hpb_device.specs.State.{AreAtRest, AtRest}
use Rattle.replay_standing.proofs.Making.{rests_at}
use Rattle.hpb_link.proofs.Passes.{fits_at}
use Rattle.hpb_link.specs.Stands.{AtDrive}
use Rattle.hpb_link.specs.State.{LinkState}
use Rattle.run_output.proofs.Written.{cut_of, whole_of}
use Rattle.drive_run.specs.Moments.{Cuts, Leads, LeavesFewer, Plays, Prints, Stands}
use Rattle.drive_run.proofs.Playing.{front_then, prints_same, prints_then}

-- so many steps were made
pub record Stepped (start : DeviceState) (only : Bool) (now : LinkState) (a b : Option (List ℕ)) (one two : List ℕ) (d : Drive) (count : ℕ) : Type 0 where
  pub moment : Drive
  pub steps : DriveSteps (sizes_of start) count d moment
  pub stands : AtDrive start now moment
  pub prints : Prints only a b one two d.said moment.said

pub stepped_begins : (start : DeviceState) (only : Bool) (now : LinkState) (a : Option (List ℕ)) (one : List ℕ) (d : Drive) → AtDrive start now d → Stepped start only now a a one one d 0
stepped_begins start only now a one d at = record { moment = d; steps = refl; stands = at; prints = prints_same only a one d.said }

pub stepped_goes_on : {T E : Type 0} (start : DeviceState) (only : Bool) (old new : LinkState) (a b c : Option (List ℕ)) (one two three : List ℕ) (d : Drive) (count next : ℕ) (r : Result T E)
    → next ≡ suc count → (so_far : Stepped start only old a b one two d count) → Plays DriveStep CutStep only old new b c two three r → ¬ IsErr r → Stepped start only new a c one three d next
stepped_goes_on start only old new a b c one two three d count next r is so_far plays worked =
    let m = so_far.moment in
    let leads = whole_of r _ _ worked (plays start m so_far.stands) in
    let more : Stepped start only new a c one three d (suc count) = record {
      moment = leads.moment;
      steps = (m, so_far.steps, leads.reached);
      stands = leads.stands;
      prints = prints_then only a b c one two three d.said m.said leads.moment.said so_far.prints leads.prints;
    } in
    subst (Stepped start only new a c one three d) (sym is) more

pub stepped_is_cut : {T E : Type 0} (start : DeviceState) (only : Bool) (old new : LinkState) (a b c : Option (List ℕ)) (one two three : List ℕ) (d : Drive) (count all : ℕ) (r : Result T E)
    → count < all
    → (so_far : Stepped start only old a b one two d count) → Plays DriveStep CutStep only old new b c two three r → IsErr r → Cuts (CutSteps (sizes_of start) all d) start only new a c one d.said
stepped_is_cut start only old new a b c one two three d count all r few so_far plays failed =
    let m = so_far.moment in
    let cuts = cut_of r _ _ failed (plays start m so_far.stands) in
    record {
      moment = cuts.moment;
      reached = (count, few, (m, so_far.steps, cuts.reached));
      stands = cuts.stands;
      prints = front_then only a b c one two d.said m.said cuts.moment.said so_far.prints cuts.prints;
    }

pub stepped_ends : (start : DeviceState) (only : Bool) (now : LinkState) (a b : Option (List ℕ)) (one two : List ℕ) (d : Drive) (count : ℕ) → Stepped start only now a b one two d count
    → Leads (DriveSteps (sizes_of start) count d) start only now a b one two d.said
stepped_ends start only now a b one two d count so_far = record { moment = so_far.moment; reached = so_far.steps; stands = so_far.stands; prints = so_far.prints }

-- after an exchange nothing is to be sent
pub silent_after : (s : Sizes) (d now : Drive) → Exchanges s d now → next_of now.machine.opens ≡ Nothing
silent_after s d now x =
    let opens : List OpenCommand = (with_own x.last.machine).opens in
    let quiet : Silent opens = silent_of s opens x.silent in
    let same : now.machine.opens ≡ opens = ap (λ (e : Drive). e.machine.opens) (nothing_sent s d now x) ∙ ap (after_next s opens) quiet.next in
    ap next_of same ∙ quiet.next

-- a pass that has made an exchange and so many steps
pub record Passing (start : DeviceState) (only : Bool) (now : LinkState) (a b : Option (List ℕ)) (one two : List ℕ) (d : Drive) : Type 0 where
  pub first : Drive
  pub exchange : Exchanges (sizes_of start) d first
  pub count : ℕ
  pub moment : Drive
  pub steps : DriveSteps (sizes_of start) count (held_back true first) moment
  pub few : count + steps_left now.device ≤ enough (sizes_of start) (tasks_at (sizes_of start) first.progress)
  pub held : IsHeldWithin (sizes_of start) (weight (sizes_of start) first.machine.opens) moment.machine
  pub silent : next_of moment.machine.opens ≡ Nothing
  pub stands : AtDrive start now moment
  pub prints : Prints only a b one two d.said moment.said

-- the exchange is made, and the driver held
pub passing_begins : {T E : Type 0} (start : DeviceState) (only : Bool) (old mid new : LinkState) (a b : Option (List ℕ)) (one two : List ℕ) (d : Drive) (r : Result T E) → AtDrive start old d
    → Plays Exchanges CutExchange only old mid a b one two r → ¬ IsErr r
    → ((start : DeviceState) (d : Drive) → AtDrive start mid d → AtDrive start new (held_back true d)) → Passing start only new a b one two d
passing_begins start only old mid new a b one two d r at plays worked holds =
    let s = sizes_of start in
    let leads = whole_of r _ _ worked (plays start d at) in
    let stands : AtDrive start new (held_back true leads.moment) = holds start leads.moment leads.stands in
    record {
      first = leads.moment;
      exchange = leads.reached;
      count = 0;
      moment = held_back true leads.moment;
      steps = refl;
      few = let few = few_steps start new.device leads.moment.progress stands.standing in omega (arith, few);
      held = held_first s d leads.moment leads.reached;
      silent = silent_after s d leads.moment leads.reached;
      stands = stands;
      prints = leads.prints;
    }

-- what is known of the link then
pub record HeldLink (link : LinkState) : Type 0 where
  pub held : link.driver.held ≡ true
  pub out : AllOut link.driver.opens
  pub silent : next_of link.driver.opens ≡ Nothing

pub held_link : (start : DeviceState) (only : Bool) (now : LinkState) (a b : Option (List ℕ)) (one two : List ℕ) (d : Drive) → Passing start only now a b one two d → HeldLink now
held_link start only now a b one two d so_far = record {
  held = ap (λ (m : Machine). m.held) so_far.stands.machine ∙ so_far.held.held;
  out = subst (λ (m : Machine). AllOut m.opens) (sym so_far.stands.machine) so_far.held.out;
  silent = ap (λ (m : Machine). next_of m.opens) so_far.stands.machine ∙ so_far.silent;
}

-- a device with a task that doesn't wait for data has a step left
busy_left : (device : DeviceState) (tasks : List Task) → (AreAtRest tasks → ⊥) → 1 ≤ tasks_left (limits_of device.shape) device.store.geometry.pages (wait_of device.store) tasks
busy_left device [] busy = absurd (busy tt)
busy_left device (head ∷ others) busy = omega arith

-- while something is open there are steps left
some_left : (start : DeviceState) (only : Bool) (now : LinkState) (a b : Option (List ℕ)) (one two : List ℕ) (d : Drive) → Passing start only now a b one two d → now.driver.opens ≢ []
    → 1 ≤ steps_left now.device
some_left start only now a b one two d so_far some =
    let m = so_far.moment in
    let opens : now.driver.opens ≡ m.machine.opens = ap (λ (x : Machine). x.opens) so_far.stands.machine in
    let busy : AtRest now.device → ⊥ = λ resting.
    some (opens ∙ rests (sizes_of start) m.machine.opens m.progress.events (fits_at start now m so_far.stands) so_far.silent (rests_at start now.device m.progress so_far.stands.standing resting)) in
    let left = busy_left now.device now.device.tasks busy in
    omega (arith, left)

-- each step leaves fewer
pub passing_fewer : (start : DeviceState) (only : Bool) (old new : LinkState) (a b : Option (List ℕ)) (one two : List ℕ) (d : Drive) → Passing start only old a b one two d
    → LeavesFewer old new → old.driver.opens ≢ []
    → steps_left new.device < steps_left old.device
passing_fewer start only old new a b one two d so_far fewer some =
    let link = held_link start only old a b one two d so_far in
    fewer start so_far.moment so_far.stands link.held link.out link.silent some

pub passing_goes_on : {T E : Type 0} (start : DeviceState) (only : Bool) (old new : LinkState) (a b c : Option (List ℕ)) (one two three : List ℕ) (d : Drive) (r : Result T E)
    → Passing start only old a b one two d → Plays DriveStep CutStep only old new b c two three r → ¬ IsErr r → LeavesFewer old new → old.driver.opens ≢ [] → Passing start only new a c one three d
passing_goes_on start only old new a b c one two three d r so_far plays worked fewer some =
    let s = sizes_of start in
    let m = so_far.moment in
    let leads = whole_of r _ _ worked (plays start m so_far.stands) in
    let less = passing_fewer start only old new a b one two d so_far fewer some in
    let few = so_far.few in
    record {
      first = so_far.first;
      exchange = so_far.exchange;
      count = suc so_far.count;
      moment = leads.moment;
      steps = (m, so_far.steps, leads.reached);
      few = omega (arith, few, less);
      held = held_step s (weight s so_far.first.machine.opens) m leads.moment leads.reached so_far.held;
      silent = silent_after s (stepped_by s leads.reached.group m) leads.moment leads.reached.exchange;
      stands = leads.stands;
      prints = prints_then only a b c one two three d.said m.said leads.moment.said so_far.prints leads.prints;
    }

pub passing_is_cut : {T E : Type 0} (start : DeviceState) (only : Bool) (old new : LinkState) (a b c : Option (List ℕ)) (one two three : List ℕ) (d : Drive) (r : Result T E)
    → Passing start only old a b one two d
    → old.driver.opens ≢ [] → Plays DriveStep CutStep only old new b c two three r → IsErr r → Cuts (CutPass (sizes_of start) d) start only new a c one d.said
passing_is_cut start only old new a b c one two three d r so_far busy plays failed =
    let m = so_far.moment in
    let few = so_far.few in
    let some = some_left start only old a b one two d so_far busy in
    let cuts = cut_of r _ _ failed (plays start m so_far.stands) in
    record {
      moment = cuts.moment;
      reached = inr (record { first = so_far.first; exchange = so_far.exchange; steps = (so_far.count, omega (arith, few, some), (m, so_far.steps, cuts.reached)) });
      stands = cuts.stands;
      prints = front_then only a b c one two d.said m.said cuts.moment.said so_far.prints cuts.prints;
    }

-- the sink failed in the exchange
pub exchange_is_cut : {T E : Type 0} (start : DeviceState) (only : Bool) (old new : LinkState) (a b : Option (List ℕ)) (one two : List ℕ) (d : Drive) (r : Result T E) → AtDrive start old d
    → Plays Exchanges CutExchange only old new a b one two r → IsErr r → Cuts (CutPass (sizes_of start) d) start only new a b one d.said
exchange_is_cut start only old new a b one two d r at plays failed =
    let cuts = cut_of r _ _ failed (plays start d at) in
    record { moment = cuts.moment; reached = inl cuts.reached; stands = cuts.stands; prints = cuts.prints }

no_opens : (opens : List OpenCommand) → length opens ≡ 0 → opens ≡ []
no_opens [] none = refl
no_opens (o ∷ os) none = absurd (omega (arith, none))

-- nothing is open any more, and the driver is let go
pub passing_ends : (start : DeviceState) (only : Bool) (old new : LinkState) (a b : Option (List ℕ)) (one two : List ℕ) (d : Drive) → Passing start only old a b one two d → length old.driver.opens ≡ 0
    → ((start : DeviceState) (d : Drive) → AtDrive start old d → AtDrive start new (held_back false d)) → Leads (Passes (sizes_of start) d) start only new a b one two d.said
passing_ends start only old new a b one two d so_far none holds =
    let m = so_far.moment in
    let few = so_far.few in
    record {
      moment = held_back false m;
      reached = record {
        first = so_far.first;
        exchange = so_far.exchange;
        count = so_far.count;
        few = omega (arith, few);
        last = m;
        steps = so_far.steps;
        none_open = sym (ap (λ (x : Machine). x.opens) so_far.stands.machine) ∙ no_opens old.driver.opens none;
        leads = refl;
      };
      stands = holds start m so_far.stands;
      prints = so_far.prints;
    }

pub some_open : (opens : List OpenCommand) (n : ℕ) → n ≡ length opens → 0 < n → opens ≢ []
some_open [] n is some none = omega (arith, is, some)
some_open (o ∷ os) n is some none = absurd (some_none none)
  where
    some_none : o ∷ os ≡ [] → ⊥
    some_none same = cc

-- two passes
pub drain_is_cut : {T E : Type 0} (start : DeviceState) (only : Bool) (old new : LinkState) (a b : Option (List ℕ)) (one two : List ℕ) (d : Drive) (r : Result T E) → AtDrive start old d
    → Plays Passes CutPass only old new a b one two r → IsErr r → Cuts (CutDrain (sizes_of start) d) start only new a b one d.said
drain_is_cut start only old new a b one two d r at plays failed =
    let cuts = cut_of r _ _ failed (plays start d at) in
    record { moment = cuts.moment; reached = inl cuts.reached; stands = cuts.stands; prints = cuts.prints }

pub drained : {T U E F : Type 0} (start : DeviceState) (only : Bool) (old mid new : LinkState) (a b c : Option (List ℕ)) (one two three : List ℕ) (d : Drive) (r : Result T E)
    (q : Result U F) → AtDrive start old d
    → Plays Passes CutPass only old mid a b one two r → ¬ IsErr r → Plays Passes CutPass only mid new b c two three q
    → MatchResult q (λ _. Leads (DrainsTo (sizes_of start) d) start only new a c one three d.said) (λ _. Cuts (CutDrain (sizes_of start) d) start only new a c one d.said)
drained start only old mid new a b c one two three d r (Ok x) at plays worked then =
    let first = whole_of r _ _ worked (plays start d at) in
    let leads = then start first.moment first.stands in
    record {
      moment = leads.moment;
      reached = (first.moment, first.reached, leads.reached);
      stands = leads.stands;
      prints = prints_then only a b c one two three d.said first.moment.said leads.moment.said first.prints leads.prints;
    }
drained start only old mid new a b c one two three d r (Err x) at plays worked then =
    let first = whole_of r _ _ worked (plays start d at) in
    let cuts = then start first.moment first.stands in
    record {
      moment = cuts.moment;
      reached = inr (first.moment, first.reached, cuts.reached);
      stands = cuts.stands;
      prints = front_then only a b c one two d.said first.moment.said cuts.moment.said first.prints cuts.prints;
    }

-- a drain is made where all tags are in use
pub freed : {T E : Type 0} (start : DeviceState) (only : Bool) (old new : LinkState) (a b : Option (List ℕ)) (one two : List ℕ) (d : Drive) (r : Result T E) → AtDrive start old d
    → 32 ≤ length old.driver.opens
    → Plays DrainsTo CutDrain only old new a b one two r
    → MatchResult r (λ _. Leads (FreesTags (sizes_of start) d) start only new a b one two d.said) (λ _. Cuts (CutDrain (sizes_of start) d) start only new a b one d.said)
freed start only old new a b one two d (Ok x) at full plays =
    let leads = plays start d at in
    let many : nat_le tags (length d.machine.opens) ≡ true = full_is (length d.machine.opens) (subst (λ (m : Machine). 32 ≤ length m.opens) at.machine full) in
    record {
      moment = leads.moment;
      reached = subst (λ (b : Bool). MatchBool b (DrainsTo (sizes_of start) d leads.moment) (leads.moment ≡ d)) (sym many) leads.reached;
      stands = leads.stands;
      prints = leads.prints;
    }
  where
    full_is : (n : ℕ) → 32 ≤ n → nat_le 32 n ≡ true
    full_is n full = grind (arith, nat_tests, full)
freed start only old new a b one two d (Err x) at full plays = plays start d at

pub not_full : (start : DeviceState) (only : Bool) (now : LinkState) (a : Option (List ℕ)) (one : List ℕ) (d : Drive) → AtDrive start now d → length now.driver.opens < 32
    → Leads (FreesTags (sizes_of start) d) start only now a a one one d.said
not_full start only now a one d at few =
    let some : nat_le tags (length d.machine.opens) ≡ false = few_is (length d.machine.opens) (subst (λ (m : Machine). length m.opens < 32) at.machine few) in
    record {
      moment = d;
      reached = subst (λ (b : Bool). MatchBool b (DrainsTo (sizes_of start) d d) (d ≡ d)) (sym some) refl;
      stands = at;
      prints = prints_same only a one d.said;
    }
  where
    few_is : (n : ℕ) → n < 32 → nat_le 32 n ≡ false
    few_is n few = grind (arith, nat_tests, few)

-- after a drain nothing is open, and as many requests were made as before
pub after_drain : {T E : Type 0} (only : Bool) (old new : LinkState) (a b : Option (List ℕ)) (one two : List ℕ) (r : Result T E) → Stands old → Plays DrainsTo CutDrain only old new a b one two r
    → OnOk r (length new.driver.opens < 32) × OnOk r (new.count ≡ old.count)
after_drain only old new a b one two (Ok x) (start, (d, at)) plays =
    let leads = plays start d at in
    let (mid, first, second) = leads.reached in
    let none : new.driver.opens ≡ [] = ap (λ (m : Machine). m.opens) leads.stands.machine ∙ ap (λ (e : Drive). e.machine.opens) second.leads ∙ second.none_open in
    let count : length new.driver.opens ≡ 0 = ap length none in
    let same = ap (λ (q : Requested). q.count) (asked_drain (sizes_of start) d leads.moment leads.reached) in
    (omega (arith, count), leads.stands.count ∙ same ∙ sym at.count)
after_drain only old new a b one two (Err x) at plays = (tt, tt)
