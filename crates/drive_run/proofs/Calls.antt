-- Calls of the collector, one after another.
use Rattle.std.proofs.Common.{◌≡◌, ℕ, suc, ◌≤◌, Bool, true, false, List, ◌++◌, Option, Some, None, Result, refl, sym, ◌∙◌, ap, subst, arith}
use Rattle.std.specs.Prelude.{All, IsErr, flat_map}
use Rattle.std.proofs.lemmas.List.{append_assoc, append-nil}
use Rattle.std.proofs.lemmas.Grind.{flat_map-append}
use Rattle.flash_pages.specs.declared.chip.ChipOp.{ChipOp}
use Rattle.flash_pages.specs.Place.{Place}
use Rattle.flat_unit.specs.declared.event.Event.{Event}
use Rattle.flat_unit.specs.declared.event.Event.TheVariants.{Device}
use Rattle.flat_unit.specs.Print.{line_of}
use Rattle.flat_unit.specs.Replays.{Group, IsCollection, events_of, failed_events, moved_events}
use Rattle.hpb_device.specs.Standing.{sizes_of}
use Rattle.hpb_device.specs.State.{DeviceState}
use Rattle.drive_rules.specs.Lines.{CollectsTo, Drive, collected_by}
use Rattle.drive_rules.specs.Said.{Said}
use Rattle.drive_rules.specs.Text.{said_text}
use Rattle.hpb_link.specs.Stands.{AtDrive, HasCollected}
use Rattle.hpb_link.specs.State.{LinkState}
use Rattle.run_output.specs.Writes.{KeepsText}
use Rattle.drive_run.specs.Moments.{Cuts, Leads, Prints, events_text}
use Rattle.drive_run.specs.Play.{CutCollects}
use Rattle.drive_run.proofs.Playing.{front_kept, front_then, prints_gathered, prints_kept, prints_same, prints_then}
use Rattle.drive_run.proofs.Saying.{events_said}

-- so many calls were made
pub record Called (start : DeviceState) (only : Bool) (now : LinkState) (a b : Option (List ℕ)) (one two : List ℕ) (d : Drive) (count : ℕ) : Type 0 where
  pub moment : Drive
  pub calls : CollectsTo (sizes_of start) count d moment
  pub stands : AtDrive start now moment
  pub prints : Prints only a b one two d.said moment.said

pub called_begins : (start : DeviceState) (only : Bool) (now : LinkState) (a : Option (List ℕ)) (one : List ℕ) (d : Drive) → AtDrive start now d → Called start only now a a one one d 0
called_begins start only now a one d at = record { moment = d; calls = refl; stands = at; prints = prints_same only a one d.said }

-- one call more, whose lines are gathered
pub called_goes_on : {T E : Type 0} (start : DeviceState) (only : Bool) (old new : LinkState) (a b c : Option (List ℕ)) (one two three four : List ℕ) (d : Drive) (count next : ℕ) (g : Group)
    (r : Result T E)
    → next ≡ suc count → Called start only old a b one two d count → KeepsText b c two three r → ¬ IsErr r
    → ((start : DeviceState) (d : Drive) → AtDrive start old d → HasCollected start new d (events_of g))
    → (All IsCollection (events_of g) → four ≡ three ++ events_text only (events_of g)) → Called start only new a c one four d next
called_goes_on start only old new a b c one two three four d count next g r is so_far keeps worked collects text =
    let s = sizes_of start in
    let m = so_far.moment in
    let call = collects start m so_far.stands in
    let then : Drive = collected_by s (events_of g) m in
    let said = ap (λ (said : List Said). said_text only said) call.said ∙ events_said only (events_of g) m.said in
    let printed = prints_gathered only b c two three four (events_text only (events_of g)) m.said m.said then.said (prints_kept only b c two three m.said r keeps worked) (text call.collection) said in
    let more : Called start only new a c one four d (suc count) = record {
      moment = then;
      calls = (m, so_far.calls, record { group = events_of g; few = call.few; collection = call.collection; leads = refl });
      stands = call.stands;
      prints = prints_then only a b c one two four d.said m.said then.said so_far.prints printed;
    } in
    subst (Called start only new a c one four d) (sym is) more

-- the sink failed between two calls
pub called_is_cut : {T E : Type 0} (start : DeviceState) (only : Bool) (now : LinkState) (a b c : Option (List ℕ)) (one two three : List ℕ) (d : Drive) (count all : ℕ) (r : Result T E) → count ≤ all
    → Called start only now a b one two d count → KeepsText b c two three r → IsErr r → Cuts (CutCollects all (sizes_of start) d) start only now a c one d.said
called_is_cut start only now a b c one two three d count all r few so_far keeps failed =
    let m = so_far.moment in
    record {
      moment = m;
      reached = (count, few, so_far.calls);
      stands = so_far.stands;
      prints = front_then only a b c one two d.said m.said m.said so_far.prints (front_kept only b c two three m.said r keeps failed);
    }

pub called_ends : (start : DeviceState) (only : Bool) (now : LinkState) (a b : Option (List ℕ)) (one two : List ℕ) (d : Drive) (count : ℕ) → Called start only now a b one two d count
    → Leads (CollectsTo (sizes_of start) count d) start only now a b one two d.said
called_ends start only now a b one two d count so_far = record { moment = so_far.moment; reached = so_far.calls; stands = so_far.stands; prints = so_far.prints }

-- a call of the collector sends nothing
sends_none : (failed : Option ChipOp) (moved : Option Place) (sent : Option (List ℕ)) → All IsCollection (events_of (record { failed = failed; moved = moved; sent = sent })) → sent ≡ None
sends_none failed moved None all = refl
sends_none None None (Some bytes) all = absurd (all 0 (Device bytes) (omega arith))
sends_none None (Some p) (Some bytes) all = absurd (all 1 (Device bytes) (omega arith))
sends_none (Some op) None (Some bytes) all = absurd (all 1 (Device bytes) (omega arith))
sends_none (Some op) (Some p) (Some bytes) all = absurd (all 2 (Device bytes) (omega arith))

-- the lines of a call: what failed, and what was moved
pub call_lines : (only : Bool) (failed : Option ChipOp) (moved : Option Place) (sent : Option (List ℕ)) (one two three : List ℕ) → only ≡ false → two ≡ one ++ flat_map line_of (failed_events failed)
    → three ≡ two ++ flat_map line_of (moved_events moved) → All IsCollection (events_of (record { failed = failed; moved = moved; sent = sent }))
    → three ≡ one ++ events_text only (events_of (record { failed = failed; moved = moved; sent = sent }))
call_lines only failed moved sent one two three is first second all =
    let none : events_of (record { failed = failed; moved = moved; sent = sent }) ≡ failed_events failed ++ moved_events moved =
    ap (λ (s : Option (List ℕ)). events_of (record { failed = failed; moved = moved; sent = s })) (sends_none failed moved sent all) ∙ append-nil (failed_events failed ++ moved_events moved) in
    second
    ∙ ap (λ (l : List ℕ). l ++ flat_map line_of (moved_events moved)) first
    ∙ append_assoc one (flat_map line_of (failed_events failed)) (flat_map line_of (moved_events moved))
    ∙ ap (λ (l : List ℕ). one ++ l) (sym (flat_map-append line_of (failed_events failed) (moved_events moved)))
    ∙ ap (λ (xs : List Event). one ++ flat_map line_of xs) (sym none)
    ∙ ap (λ (b : Bool). one ++ events_text b (events_of (record { failed = failed; moved = moved; sent = sent }))) (sym is)

-- or none, where answers alone are printed
pub no_lines : (only : Bool) (xs : List Event) (one : List ℕ) → only ≡ true → one ≡ one ++ events_text only xs
no_lines only xs one is = sym (ap (λ (b : Bool). one ++ events_text b xs) is ∙ append-nil one)
