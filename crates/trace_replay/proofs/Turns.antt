-- What a line of the text comes to.
use Rattle.std.proofs.Common.{◌≡◌, ℕ, length, take, List, ◌++◌, Option, Some, subst, inr, refl}
use Rattle.std.proofs.Math.Seq.{take-append_seam}
use Rattle.flat_unit.specs.Replays.{Progress, LineTo, with_run}
use Rattle.flat_unit.specs.Trace.{Line, Blank}
use Rattle.hpb_device.specs.Standing.{sizes_of}
use Rattle.hpb_device.specs.State.{DeviceState}
use Rattle.trace_text.specs.Grammar.{trace_line}
use Rattle.trace_text.specs.Lines.{IsLine, TakesLine, WhereTold}
use Rattle.trace_replay.specs.Moments.{Leads, Cuts, CutLineTo}
use Rattle.trace_replay.specs.Run.{TurnAt}
use Rattle.run_output.specs.declared.turn.Turn.TheVariants.{Served, Unwritten}
use Rattle.flat_unit.specs.Print.{print}
use Rattle.replay_standing.specs.Standing.{Standing}
use Rattle.hpb_outside.specs.Writes.{HasWrittenUpTo}
use Rattle.replay_standing.proofs.Standing.{run_standing}

-- a line that was taken and parsed is served or cut
pub turn_served : (start : DeviceState) (before : Option (List ℕ)) (p : Progress) (old new : DeviceState) (left left_now written : Option (List ℕ)) (gathered : List ℕ) (text : List ℕ) (line : Line)
    → IsLine text → WhereTold (TakesLine text) left left_now → trace_line text ≡ Some line → Leads (LineTo (sizes_of start) line p) start new before written gathered
    → TurnAt start before p old new left left_now written gathered Served
turn_served start before p old new left left_now written gathered text line one taken parsed leads = (text, line, one, taken, parsed, leads)

pub turn_cut : (start : DeviceState) (before : Option (List ℕ)) (p : Progress) (old new : DeviceState) (left left_now written : Option (List ℕ)) (gathered : List ℕ) (text : List ℕ) (line : Line)
    → WhereTold (TakesLine text) left left_now → trace_line text ≡ Some line → Cuts (CutLineTo (sizes_of start) line p) start new before written
    → TurnAt start before p old new left left_now written gathered Unwritten
turn_cut start before p old new left left_now written gathered text line taken parsed cuts =
    record { moment = cuts.moment; reached = inr (text, left_now, line, taken, parsed, cuts.reached); standing = cuts.standing; printed = cuts.printed }

-- a room that was written whole
pub whole_room : (room rest : List ℕ) (count : ℕ) → length room ≡ count → take count (room ++ rest) ≡ room
whole_room room rest count is = subst (λ (n : ℕ). take n (room ++ rest) ≡ room) is (take-append_seam room rest)

-- a blank line begins a run
pub blank_leads : (start now : DeviceState) (before w : Option (List ℕ)) (gathered : List ℕ) (p : Progress) → Standing start now p → HasWrittenUpTo before w (print p.events) gathered
    → Leads (LineTo (sizes_of start) Blank p) start now before w gathered
blank_leads start now before w gathered p at printed = record {
  moment = with_run (sizes_of start) p;
  reached = refl;
  standing = run_standing start now p at;
  printed = printed;
}
