-- So many calls of the collector are made for a line. Behind the first one with nothing to do, no other does anything.
use Rattle.std.proofs.Common.{◌≡◌, ℕ, suc, ◌≤◌, List, [], ◌++◌, length, length-append, Option, Some, None, refl, sym, ◌∙◌, ap, subst, arith}
use Rattle.std.specs.Prelude.{All, flat_map}
use Rattle.std.proofs.lemmas.List.{append_assoc, append-nil}
use Rattle.std.proofs.lemmas.List.Elements.{All-nil, All-append}
use Rattle.std.proofs.lemmas.Grind.{flat_map-append}
use Rattle.flash_pages.specs.declared.chip.ChipOp.{ChipOp}
use Rattle.flash_pages.specs.Place.{Place}
use Rattle.flat_unit.specs.declared.event.Event.{Event}
use Rattle.flat_unit.specs.History.{History, followed_by}
use Rattle.flat_unit.specs.Print.{print, line_of}
use Rattle.flat_unit.specs.Replays.{Progress, IsCollection, LineTo, events_of, failed_events, moved_events, with_run, without_writes, collected_to}
use Rattle.flat_unit.specs.Trace.{Collect}
use Rattle.hpb_device.specs.declared.device.Stepped.{Stepped}
use Rattle.hpb_device.specs.Standing.{group_of, sizes_of}
use Rattle.hpb_device.specs.State.{DeviceState}
use Rattle.replay_standing.specs.Standing.{Standing}
use Rattle.trace_replay.specs.Moments.{Leads, Cuts, CutLineTo}
use Rattle.hpb_outside.specs.Writes.{AppendsFront, HasWrittenUpTo}
use Rattle.replay_standing.proofs.Counts.{followed_by-more}
use Rattle.run_output.proofs.Gathered.{events_gathered}
use Rattle.replay_standing.proofs.Standing.{run_standing}
use Rattle.replay_standing.proofs.Collecting.{Calling, Rests, writeless, events_by, idle_standing, events_are, one_event, calls_begin, calls_go_on}
use Rattle.flat_unit.specs.Sizes.{Sizes}

-- the moment after so many calls that made these events
abbrev pub moment_of : Sizes → Progress → ℕ → List Event → Progress
moment_of s p count group = without_writes (collected_to count group (with_run s p))

-- so many calls of a line were made
pub record Called (start now : DeviceState) (before written : Option (List ℕ)) (gathered : List ℕ) (p : Progress) (count : ℕ) : Type 0 where
  pub group : List Event
  pub few : length group ≤ count
  pub collection : All IsCollection group
  pub standing : Standing start now (moment_of (sizes_of start) p count group)
  pub printed : HasWrittenUpTo before written (print (followed_by p.events group)) gathered

pub called_begins : (start now : DeviceState) (before w : Option (List ℕ)) (gathered : List ℕ) (p : Progress) → Standing start now p → HasWrittenUpTo before w (print p.events) gathered
    → Called start now before w gathered p 0
called_begins start now before w gathered p at printed = record {
  group = [];
  few = omega arith;
  collection = All-nil IsCollection;
  standing = calls_begin start now (with_run (sizes_of start) p) (run_standing start now p at);
  printed = printed;
}

-- what was gathered is written, or stays
pub called_written : (start now : DeviceState) (before w written : Option (List ℕ)) (gathered gathered_now : List ℕ) (p : Progress) (count : ℕ) → (so_far : Called start now before w gathered p count)
    → HasWrittenUpTo before written (print (followed_by p.events so_far.group)) gathered_now → Called start now before written gathered_now p count
called_written start now before w written gathered gathered_now p count so_far printed =
    record { group = so_far.group; few = so_far.few; collection = so_far.collection; standing = so_far.standing; printed = printed }

-- one more call, whose lines are gathered
pub called_goes_on : (start old new : DeviceState) (before w : Option (List ℕ)) (gathered gathered_now : List ℕ) (p : Progress) (r : Stepped) (count next : ℕ) → next ≡ suc count → Calling old new r
    → gathered_now ≡ gathered ++ flat_map line_of (events_of (group_of r [])) → Called start old before w gathered p count → Called start new before w gathered_now p next
called_goes_on start old new before w gathered gathered_now p r count next counted call is so_far =
    let xs = events_by r in
    let one = one_event old new r call in
    let more = followed_by-more p.events so_far.group xs in
    let after : Called start new before w gathered_now p (suc count) = record {
      group = so_far.group ++ xs;
      few = omega (arith, length-append so_far.group xs, so_far.few, one.0);
      collection = All-append IsCollection so_far.group xs so_far.collection one.1;
      standing = calls_go_on start old new (without_writes (with_run (sizes_of start) p)) r count so_far.group
          (writeless (with_run (sizes_of start) p).runs) call so_far.standing;
      printed = rw is (subst (λ (e : History). HasWrittenUpTo before w (print e) (gathered ++ flat_map line_of xs)) (sym more)
          (events_gathered before w (followed_by p.events so_far.group) xs gathered so_far.printed));
    } in
    subst (Called start new before w gathered_now p) (sym counted) after

-- the sink failed between two calls
pub called_is_cut : (start now : DeviceState) (before w written : Option (List ℕ)) (gathered : List ℕ) (p : Progress) (count limit : ℕ) → count ≤ limit
    → (so_far : Called start now before w gathered p count) → AppendsFront before written (print (followed_by p.events so_far.group))
    → Cuts (CutLineTo (sizes_of start) (Collect limit) p) start now before written
called_is_cut start now before w written gathered p count limit below so_far cut = record {
  moment = moment_of (sizes_of start) p count so_far.group;
  reached = (count, below, record { group = so_far.group; few = so_far.few; collection = so_far.collection; leads = refl });
  standing = so_far.standing;
  printed = cut;
}

pub called_ends : (start now : DeviceState) (before w : Option (List ℕ)) (gathered : List ℕ) (p : Progress) (count : ℕ) → Called start now before w gathered p count
    → Leads (LineTo (sizes_of start) (Collect count) p) start now before w gathered
called_ends start now before w gathered p count so_far = record {
  moment = moment_of (sizes_of start) p count so_far.group;
  reached = record { group = so_far.group; few = so_far.few; collection = so_far.collection; leads = refl };
  standing = so_far.standing;
  printed = so_far.printed;
}

-- behind a call with nothing to do, no other does anything
pub called_all : (start now : DeviceState) (before w : Option (List ℕ)) (gathered : List ℕ) (p : Progress) (count all : ℕ) → count ≤ all → Rests now → Called start now before w gathered p count
    → Leads (LineTo (sizes_of start) (Collect all) p) start now before w gathered
called_all start now before w gathered p count all few rests so_far = called_ends start now before w gathered p all (record {
  group = so_far.group;
  few = omega (arith, so_far.few, few);
  collection = so_far.collection;
  standing = idle_standing start now (moment_of (sizes_of start) p count so_far.group) ((moment_of (sizes_of start) p all so_far.group).collected) rests so_far.standing;
  printed = so_far.printed;
})

-- the lines of a call: what failed, and what was moved
pub call_lines : (old new : DeviceState) (r : Stepped) (gathered one two : List ℕ) → Calling old new r → one ≡ gathered ++ flat_map line_of (failed_events r.failed)
    → two ≡ one ++ flat_map line_of (moved_events (group_of r []).moved) → two ≡ gathered ++ flat_map line_of (events_of (group_of r []))
call_lines old new r gathered one two call first second =
    second ∙ (ap (λ (l : List ℕ). l ++ flat_map line_of (moved_events (group_of r []).moved)) first ∙ (lines r.failed (group_of r []).moved
    ∙ sym (ap (λ (xs : List Event). gathered ++ flat_map line_of xs) (events_are old new r call))))
  where
    lines : (failed : Option ChipOp) (moved : Option Place) → (gathered ++ flat_map line_of (failed_events failed)) ++ flat_map line_of (moved_events moved)
        ≡ gathered ++ flat_map line_of (events_of (record { failed = failed; moved = moved; sent = None }))
    lines None None = append-nil (gathered ++ [])
    lines None (Some p) = ap (λ (l : List ℕ). l ++ flat_map line_of (moved_events (Some p))) (append-nil gathered)
    lines (Some op) None = append-nil (gathered ++ flat_map line_of (failed_events (Some op)))
    lines (Some op) (Some p) = append_assoc gathered (flat_map line_of (failed_events (Some op))) (flat_map line_of (moved_events (Some p)))
        ∙ ap (λ (l : List ℕ). gathered ++ l) (sym (flat_map-append line_of (failed_events (Some op)) (moved_events (Some p))))
