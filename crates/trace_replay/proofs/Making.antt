-- So many steps are made for a line. Behind the first one where nothing is to be done, no other does anything.
use Rattle.std.proofs.Common.{◌≡◌, ℕ, zero, suc, ◌+◌, ◌-◌, ◌≤◌, List, ◌++◌, Option, refl, sym, subst, arith}
use Rattle.std.specs.Prelude.{flat_map, IsTrue}
use Rattle.std.specs.List.{AllByRecursion}
use Rattle.flat_unit.specs.Print.{print, line_of}
use Rattle.flat_unit.specs.Queue.{at_rest}
use Rattle.flat_unit.specs.Replays.{OpenRun, Progress, StepTo, StepsTo, LineTo, events_of, lacks_less, tasks_at, with_run}
use Rattle.flat_unit.specs.Trace.{Steps}
use Rattle.hpb_device.specs.declared.device.Stepped.{Stepped}
use Rattle.hpb_device.specs.Left.{unscanned}
use Rattle.hpb_device.specs.Standing.{group_of, sizes_of}
use Rattle.hpb_device.specs.State.{DeviceState, AtRest}
use Rattle.hpb_device.proofs.Going.{at_rest_of}
use Rattle.hpb_device.proofs.Left.{rest_left}
use Rattle.replay_standing.specs.Standing.{Standing, LacksEnough}
use Rattle.trace_replay.specs.Moments.{Leads, Cuts, CutLineTo}
use Rattle.hpb_outside.specs.Writes.{AppendsFront, HasWrittenUpTo}
use Rattle.replay_standing.proofs.Standing.{Stepping, after_step, all_weaker, run_standing, step_leads, step_standing, with_runs}
use Rattle.run_output.proofs.Gathered.{events_gathered}
use Rattle.replay_standing.proofs.Making.{LacksBeside, lacks_beside, after_rest, rests_at, rest_leads, rest_standing, lacks_down}

-- so many steps of a line were made
pub record Made (start now : DeviceState) (before written : Option (List ℕ)) (gathered : List ℕ) (p : Progress) (count : ℕ) : Type 0 where
  pub moment : Progress
  pub steps : StepsTo (sizes_of start) count (with_run (sizes_of start) p) moment
  pub lacked : AllByRecursion (LacksBeside count now) moment.runs
  pub standing : Standing start now moment
  pub printed : HasWrittenUpTo before written (print moment.events) gathered

pub made_begins : (start now : DeviceState) (before w : Option (List ℕ)) (gathered : List ℕ) (p : Progress) → Standing start now p → HasWrittenUpTo before w (print p.events) gathered
    → Made start now before w gathered p 0
made_begins start now before w gathered p at printed = record {
  moment = with_run (sizes_of start) p;
  steps = refl;
  lacked = all_weaker (LacksEnough now) (LacksBeside 0 now) (with_run (sizes_of start) p).runs (λ run lacks going. let few = lacks.enough going in omega (arith, few))
      (run_standing start now p at).lacking;
  standing = run_standing start now p at;
  printed = printed;
}

-- what was gathered is written, or stays
pub made_written : (start now : DeviceState) (before w written : Option (List ℕ)) (gathered gathered_now : List ℕ) (p : Progress) (count : ℕ) → (so_far : Made start now before w gathered p count)
    → HasWrittenUpTo before written (print so_far.moment.events) gathered_now
    → Made start now before written gathered_now p count
made_written start now before w written gathered gathered_now p count so_far printed =
    record { moment = so_far.moment; steps = so_far.steps; lacked = so_far.lacked; standing = so_far.standing; printed = printed }

one_more : (start now : DeviceState) (before w : Option (List ℕ)) (gathered : List ℕ) (p next_moment : Progress) (count next : ℕ) → next ≡ suc count
    → (so_far : Made start now before w gathered p count) → StepTo (sizes_of start) so_far.moment next_moment
    → StepsTo (sizes_of start) next (with_run (sizes_of start) p) next_moment
one_more start now before w gathered p next_moment count next is so_far leads =
    subst (λ (n : ℕ). StepsTo (sizes_of start) n (with_run (sizes_of start) p) next_moment) (sym is) (so_far.moment, so_far.steps, leads)

-- one more step, whose lines are gathered
pub made_goes_on : (start old new : DeviceState) (before w : Option (List ℕ)) (gathered gathered_now : List ℕ) (p : Progress) (r : Stepped) (out : List ℕ) (count next : ℕ) → next ≡ suc count
    → Stepping old new r out → gathered_now ≡ gathered ++ flat_map line_of (events_of (group_of r out)) → Made start old before w gathered p count → Made start new before w gathered_now p next
made_goes_on start old new before w gathered gathered_now p r out count next counted step is so_far = record {
  moment = after_step start so_far.moment r out;
  steps = one_more start old before w gathered p (after_step start so_far.moment r out) count next counted so_far (step_leads start old new so_far.moment r out so_far.standing step);
  lacked = all_weaker (LacksBeside count old) (LacksBeside next new) so_far.moment.runs
      (λ run enough. lacks_beside old new r out run count next counted step enough) so_far.lacked;
  standing = step_standing start old new so_far.moment r out so_far.standing step;
  printed = rw is (events_gathered before w so_far.moment.events (events_of (group_of r out)) gathered so_far.printed);
}

made_rests : (start now : DeviceState) (before w : Option (List ℕ)) (gathered : List ℕ) (p : Progress) (count : ℕ)
    → AtRest now → unscanned now ≡ 0 → Made start now before w gathered p count → Made start now before w gathered p (suc count)
made_rests start now before w gathered p count rests looked so_far = record {
  moment = after_rest start so_far.moment;
  steps = (so_far.moment, so_far.steps, rest_leads start now so_far.moment so_far.standing rests);
  lacked = all_weaker (LacksBeside count now) (LacksBeside (suc count) now) so_far.moment.runs
      (λ run enough going. absurd (going rests)) so_far.lacked;
  standing = rest_standing start now so_far.moment rests looked so_far.standing;
  printed = so_far.printed;
}

-- behind a step where nothing is to be done, no other does anything
pub made_on : (start now : DeviceState) (before w : Option (List ℕ)) (gathered : List ℕ) (p : Progress) (count more : ℕ)
    → AtRest now → unscanned now ≡ 0 → Made start now before w gathered p count → Made start now before w gathered p (more + count)
made_on start now before w gathered p count zero rests looked so_far =
    let none : count ≡ 0 + count = omega arith in
    subst (Made start now before w gathered p) none so_far
made_on start now before w gathered p count (suc more) rests looked so_far =
    let next : suc (more + count) ≡ suc more + count = omega arith in
    subst (Made start now before w gathered p) next (made_rests start now before w gathered p (more + count) rests looked (made_on start now before w gathered p count more rests looked so_far))

-- the sink failed between two steps
pub made_is_cut : (start now : DeviceState) (before w written : Option (List ℕ)) (gathered : List ℕ) (p : Progress) (count limit : ℕ) → count ≤ limit
    → (so_far : Made start now before w gathered p count) → AppendsFront before written (print so_far.moment.events)
    → Cuts (CutLineTo (sizes_of start) (Steps limit) p) start now before written
made_is_cut start now before w written gathered p count limit below so_far cut =
    record { moment = so_far.moment; reached = (count, below, so_far.steps); standing = so_far.standing; printed = cut }

pub made_ends : (start now : DeviceState) (before w : Option (List ℕ)) (gathered : List ℕ) (p : Progress) (count : ℕ) → Made start now before w gathered p count
    → Leads (LineTo (sizes_of start) (Steps count) p) start now before w gathered
made_ends start now before w gathered p count so_far = record {
  moment = lacks_less count so_far.moment;
  reached = record {
    end = so_far.moment;
    steps = so_far.steps;
    leads = refl;
    rests = all_weaker (LacksEnough now) (λ (run : OpenRun). run.lacks ≡ 0 → IsTrue (at_rest (tasks_at (sizes_of start) so_far.moment))) (lacks_less count so_far.moment).runs (λ run lacks none.
        let rests : AtRest now = at_rest_of now (λ going. let few = lacks.enough going in let some = rest_left now going in absurd (omega (arith, few, some, none))) in
        rests_at start now so_far.moment so_far.standing rests) lacking;
  };
  standing = with_runs start now so_far.moment (lacks_less count so_far.moment).runs so_far.standing lacking;
  printed = so_far.printed;
}
  where
    lacking : AllByRecursion (LacksEnough now) (lacks_less count so_far.moment).runs
    lacking = lacks_down now count so_far.moment.runs so_far.lacked so_far.standing.lacking

-- the steps of a line that was taken whole
pub made_all : (start now : DeviceState) (before w : Option (List ℕ)) (gathered : List ℕ) (p : Progress) (count all : ℕ) → count ≤ all → AtRest now → unscanned now ≡ 0
    → Made start now before w gathered p count → Leads (LineTo (sizes_of start) (Steps all) p) start now before w gathered
made_all start now before w gathered p count all few rests looked so_far =
    let whole : (all - count) + count ≡ all = omega (arith, few) in
    subst (λ (n : ℕ). Leads (LineTo (sizes_of start) (Steps n) p) start now before w gathered) whole
    (made_ends start now before w gathered p ((all - count) + count) (made_on start now before w gathered p count (all - count) rests looked so_far))
