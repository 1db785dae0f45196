-- Steps one after another, and those where nothing is to be done.
use Rattle.std.proofs.Common.{◌≡◌, ℕ, suc, ◌+◌, ◌-◌, ◌≤◌, Bool, true, false, not, ◌&&◌, ◌||◌, nat_le, List, [], ◌∷◌, Some, None, refl, sym, ◌∙◌, ap, subst, arith, inl, inr}
use Rattle.std.specs.Prelude.{map}
use Rattle.std.specs.List.{AllByRecursion}
use Rattle.flat_unit.specs.Queue.{at_rest}
use Rattle.flat_unit.specs.Replays.{OpenRun, Progress, Group, IsTimely, StepTo, stepped, is_due, tasks_at, enough}
use Rattle.flat_unit.specs.Sizes.{Sizes}
use Rattle.flat_unit.proofs.History.{idle_step}
use Rattle.hpb_device.specs.declared.device.Stepped.{Stepped}
use Rattle.hpb_device.specs.Left.{steps_left, unscanned}
use Rattle.hpb_device.specs.Standing.{group_of, sizes_of}
use Rattle.hpb_device.specs.State.{DeviceState, AtRest}
use Rattle.hpb_device.proofs.Going.{no_task_rests, resting_tasks}
use Rattle.replay_standing.specs.Calls.{HasStepped}
use Rattle.replay_standing.specs.Standing.{Standing, LacksEnough}
use Rattle.replay_standing.proofs.Standing.{Stepping, going_before, tracked}
use Rattle.hpb_device.specs.Calls.{LeavesFewer, at_rest as idle_result}

-- where the device can go on, a step leaves fewer
pub drains_fewer : (count most : ℕ) (old new : DeviceState) (r : Stepped) → (AtRest old → ⊥) → LeavesFewer old new r → count + steps_left old ≤ most → suc count + steps_left new ≤ most
drains_fewer count most old new r going fewer few = elim fewer [
  | inl less ↦ omega (arith, few, less)
  | inr none ↦ absurd (going (no_task_rests old none.0))
]

-- the same after so many calls that the run doesn't count yet
abbrev pub LacksBeside : ℕ → DeviceState → OpenRun → Type 0
LacksBeside count now run = ¬ AtRest now → count + steps_left now ≤ run.lacks

pub lacks_beside : (old new : DeviceState) (r : Stepped) (out : List ℕ) (run : OpenRun) (count next : ℕ) → next ≡ suc count → Stepping old new r out
    → LacksBeside count old run → LacksBeside next new run
lacks_beside old new r out run count next counted step enough going = elim step.fewer [
  | inl less ↦ let few = enough (going_before old new r out step going) in omega (arith, few, less, counted)
  | inr none ↦ absurd (going_before old new r out step going (no_task_rests old none.0))
]

-- a step where nothing is to be done
abbrev pub no_group : Group
no_group = record { failed = None; moved = None; sent = None }

abbrev pub after_rest : DeviceState → Progress → Progress
after_rest start m = stepped (sizes_of start) m no_group

pub rests_at : (start now : DeviceState) (m : Progress) → Standing start now m → AtRest now → at_rest (tasks_at (sizes_of start) m) ≡ true
rests_at start now m at rests = let t = tracked start now m at in ap at_rest t.kept ∙ resting_tasks now t.tasks t.keeps rests

pub rest_leads : (start now : DeviceState) (m : Progress) → Standing start now m → AtRest now → StepTo (sizes_of start) m (after_rest start m)
rest_leads start now m at rests = idle_step (sizes_of start) m no_group (rests_at start now m at rests) refl refl

-- a step where nothing is to be done tries nothing
still_tried : (s : Sizes) (m : Progress) → at_rest (tasks_at s m) ≡ true → (m.tried || is_due s m) ≡ m.tried
still_tried s m rests = by_due m.tried (is_due s m) (ap (λ (b : Bool). not b && nat_le s.pages m.quiet) rests)
  where
    by_due : (a b : Bool) → b ≡ false → (a || b) ≡ a
    by_due true b none = refl
    by_due false b none = none

or_false : (b : Bool) → (b || false) ≡ b
or_false true = refl
or_false false = refl

pub rest_standing : (start now : DeviceState) (m : Progress) → AtRest now → unscanned now ≡ 0 → Standing start now m → Standing start now (after_rest start m)
rest_standing start now m rests looked at =
    let same = still_tried (sizes_of start) m (rests_at start now m at rests) in
    record {
      some_page = at.some_page;
      sizes = at.sizes;
      shape = at.shape;
      same = at.same;
      faults = at.faults;
      plain = at.plain;
      hints = at.hints;
      fetched = at.fetched;
      lacking = at.lacking;
      quiet = omega (arith, at.quiet, looked);
      steps = omega (arith, at.steps);
      ready = λ is. at.ready (sym (or_false m.served) ∙ is);
      collected = λ is some. absurd (omega (arith, some));
      chip = elim at.chip [
        | inl own ↦ inl (record { was = own.was; stands = own.stands; entries = own.entries; listings = own.listings; counted = own.counted; tried = λ is. own.tried (sym same ∙ is) })
        | inr foreign ↦ inr (record { stands = foreign.stands; unready = foreign.unready; counted = foreign.counted; untried = same ∙ foreign.untried })
      ];
    }

rest_timely : (s : Sizes) (m : Progress) → at_rest (tasks_at s m) ≡ true → IsTimely s m no_group
rest_timely s m rests = rw (ap (λ (b : Bool). not b && nat_le s.pages m.quiet) rests) (λ bytes sends. absurd (no_bytes sends))
  where
    no_bytes : {bytes : List ℕ} → None ≡ Some bytes → ⊥
    no_bytes is = cc

-- an idle step made a group with nothing in it
pub idle_stepped : (start now : DeviceState) (m : Progress) (r : Stepped) (out : List ℕ) → r ≡ idle_result → AtRest now → unscanned now ≡ 0
    → Standing start now m → HasStepped start now m (group_of r out)
idle_stepped start now m r out is rests looked at = subst (λ (x : Stepped). HasStepped start now m (group_of x out)) (sym is) (record {
  is_group = inr refl;
  timely = rest_timely (sizes_of start) m (rests_at start now m at rests);
  standing = rest_standing start now m rests looked at;
})

pub lacks_down : (now : DeviceState) (count : ℕ) (runs : List OpenRun) → AllByRecursion (LacksBeside count now) runs → AllByRecursion (LacksEnough now) runs
    → AllByRecursion (LacksEnough now) (map (λ (run : OpenRun). record run { lacks = run.lacks - count }) runs)
lacks_down now count [] all lacks = tt
lacks_down now count (run ∷ runs) all lacks =
    (record { enough = λ going. let few = all.0 going in omega (arith, few); writes = lacks.0.writes }, lacks_down now count runs all.1 lacks.1)
