-- A drain steps until nothing can go on without the host.
use Rattle.std.proofs.Common.{◌≡◌, ℕ, suc, ◌+◌, ◌≤◌, List, [], ◌++◌, Option, refl, ◌∙◌, ap, arith}
use Rattle.std.specs.Prelude.{flat_map}
use Rattle.flat_unit.specs.Print.{print, line_of}
use Rattle.flat_unit.specs.Queue.{at_rest}
use Rattle.flat_unit.specs.Replays.{Progress, StepsTo, LineTo, enough, events_of, tasks_at, without_runs}
use Rattle.flat_unit.specs.Trace.{Drain}
use Rattle.hpb_device.specs.declared.device.Stepped.{Stepped}
use Rattle.hpb_device.specs.Left.{steps_left}
use Rattle.hpb_device.specs.Standing.{group_of, sizes_of}
use Rattle.hpb_device.specs.State.{DeviceState, AtRest}
use Rattle.hpb_device.proofs.Going.{resting_tasks}
use Rattle.replay_standing.specs.Standing.{Standing}
use Rattle.trace_replay.specs.Moments.{Leads, Cuts, CutLineTo}
use Rattle.hpb_outside.specs.Writes.{AppendsFront, HasWrittenUpTo}
use Rattle.replay_standing.proofs.Standing.{Stepping, after_step, few_steps, step_leads, step_standing, tracked, with_runs}
use Rattle.run_output.proofs.Gathered.{events_gathered}
use Rattle.replay_standing.proofs.Making.{drains_fewer}

-- so many steps of a drain were made
pub record Draining (start now : DeviceState) (before written : Option (List ℕ)) (gathered : List ℕ) (p : Progress) : Type 0 where
  pub count : ℕ
  pub moment : Progress
  pub steps : StepsTo (sizes_of start) count (without_runs p) moment
  pub few : count + steps_left now ≤ enough (sizes_of start) (tasks_at (sizes_of start) p)
  pub standing : Standing start now moment
  pub printed : HasWrittenUpTo before written (print moment.events) gathered

pub draining_begins : (start now : DeviceState) (before w : Option (List ℕ)) (gathered : List ℕ) (p : Progress) → Standing start now p → HasWrittenUpTo before w (print p.events) gathered
    → Draining start now before w gathered p
draining_begins start now before w gathered p at printed = record {
  count = 0;
  moment = without_runs p;
  steps = refl;
  few = omega (arith, few_steps start now p at);
  standing = with_runs start now p [] at tt;
  printed = printed;
}

-- what was gathered is written, or stays
pub draining_written : (start now : DeviceState) (before w written : Option (List ℕ)) (gathered gathered_now : List ℕ) (p : Progress) → (so_far : Draining start now before w gathered p)
    → HasWrittenUpTo before written (print so_far.moment.events) gathered_now
    → Draining start now before written gathered_now p
draining_written start now before w written gathered gathered_now p so_far printed = record {
  count = so_far.count;
  moment = so_far.moment;
  steps = so_far.steps;
  few = so_far.few;
  standing = so_far.standing;
  printed = printed;
}

-- one more step, whose lines are gathered
pub draining_goes_on : (start old new : DeviceState) (before w : Option (List ℕ)) (gathered gathered_now : List ℕ) (p : Progress) (r : Stepped) (out : List ℕ)
    → (AtRest old → ⊥) → Stepping old new r out → gathered_now ≡ gathered ++ flat_map line_of (events_of (group_of r out)) → Draining start old before w gathered p
    → Draining start new before w gathered_now p
draining_goes_on start old new before w gathered gathered_now p r out going step is so_far = record {
  count = suc so_far.count;
  moment = after_step start so_far.moment r out;
  steps = (so_far.moment, so_far.steps, step_leads start old new so_far.moment r out so_far.standing step);
  few = drains_fewer so_far.count (enough (sizes_of start) (tasks_at (sizes_of start) p)) old new r going step.fewer so_far.few;
  standing = step_standing start old new so_far.moment r out so_far.standing step;
  printed = rw is (events_gathered before w so_far.moment.events (events_of (group_of r out)) gathered so_far.printed);
}

-- the sink failed between two steps
pub draining_is_cut : (start now : DeviceState) (before w written : Option (List ℕ)) (gathered : List ℕ) (p : Progress) → (so_far : Draining start now before w gathered p)
    → AppendsFront before written (print so_far.moment.events)
    → Cuts (CutLineTo (sizes_of start) Drain p) start now before written
draining_is_cut start now before w written gathered p so_far cut = record {
  moment = so_far.moment;
  reached = (so_far.count, omega (arith, so_far.few), so_far.steps);
  standing = so_far.standing;
  printed = cut;
}

pub draining_ends : (start now : DeviceState) (before w : Option (List ℕ)) (gathered : List ℕ) (p : Progress) → AtRest now → Draining start now before w gathered p
    → Leads (LineTo (sizes_of start) Drain p) start now before w gathered
draining_ends start now before w gathered p rests so_far = record {
  moment = so_far.moment;
  reached = record {
    count = so_far.count;
    few = omega (arith, so_far.few);
    steps = so_far.steps;
    rests = let t = tracked start now so_far.moment so_far.standing in ap at_rest t.kept ∙ resting_tasks now t.tasks t.keeps rests;
  };
  standing = so_far.standing;
  printed = so_far.printed;
}
