-- An exchange, one UPIU of the driver after another.
use Rattle.std.proofs.Common.{◌≡◌, ℕ, suc, ◌≤◌, Bool, true, false, List, ◌++◌, Option, Some, None, Result, refl, sym, ◌∙◌, ap, subst, arith}
use Rattle.std.proofs.lemmas.Bool.{false≢true}
use Rattle.std.specs.Prelude.{IsErr}
use Rattle.upiu_wire.specs.Upiu.{Upiu}
use Rattle.flat_unit.specs.declared.event.Event.TheVariants.{Host}
use Rattle.hpb_device.specs.Left.{steps_left}
use Rattle.hpb_device.specs.Standing.{sizes_of}
use Rattle.hpb_device.specs.State.{DeviceState}
use Rattle.driver_caches.specs.Machine.{Machine, next_upiu}
use Rattle.driver_commands.specs.Calls.{IsSent}
use Rattle.driver_commands.specs.Open.{sizes_of as driver_sizes}
use Rattle.drive_rules.specs.Cuts.{CutExchange}
use Rattle.drive_rules.specs.Held.{AllOut, IsHeldWithin, weight}
use Rattle.drive_rules.specs.Lines.{Drive, Exchanges, sent, sent_times}
use Rattle.drive_rules.specs.Said.{Happened, Said}
use Rattle.drive_rules.specs.Text.{said_line, said_text}
use Rattle.drive_rules.proofs.Passing.{held_times}
use Rattle.hpb_link.specs.Stands.{AtDrive, said_sent}
use Rattle.hpb_link.specs.State.{LinkState}
use Rattle.hpb_link.proofs.Sent.{same_upiu}
use Rattle.run_output.specs.Writes.{KeepsText}
use Rattle.drive_run.specs.Moments.{Cuts, Leads, Prints}
use Rattle.drive_run.proofs.Playing.{front_kept, front_longer, front_then, prints_gathered, prints_kept, prints_same, prints_then}
use Rattle.drive_run.proofs.Saying.{said_more}

-- so many UPIUs were sent
pub record Exchanging (start : DeviceState) (only : Bool) (now : LinkState) (a b : Option (List ℕ)) (one two : List ℕ) (d : Drive) : Type 0 where
  pub count : ℕ
  pub moment : Drive
  pub is : moment ≡ sent_times (sizes_of start) count d
  pub stands : AtDrive start now moment
  pub prints : Prints only a b one two d.said moment.said

pub exchanging_begins : (start : DeviceState) (only : Bool) (now : LinkState) (a : Option (List ℕ)) (one : List ℕ) (d : Drive) → AtDrive start now d → Exchanging start only now a a one one d
exchanging_begins start only now a one d at = record { count = 0; moment = d; is = refl; stands = at; prints = prints_same only a one d.said }

-- what is said of a UPIU that was sent
sent_text : (only sends : Bool) (out : List ℕ) (said now : List Said) → sends ≡ true → now ≡ said_sent sends out said → said_text only now ≡ said_text only said ++ said_line only (Happened (Host out))
sent_text only true out said now some is = ap (said_text only) is ∙ said_more only (Happened (Host out)) said
sent_text only false out said now some is = absurd (false≢true some)

-- the sink failed behind one more
pub exchanging_is_cut : {T E : Type 0} (start : DeviceState) (only sends : Bool) (old new : LinkState) (a b c : Option (List ℕ)) (one two three : List ℕ) (d : Drive) (out : List ℕ) (r : Result T E)
    → (so_far : Exchanging start only old a b one two d) → sends ≡ true → AtDrive start new (sent (sizes_of start) so_far.moment)
    → (sent (sizes_of start) so_far.moment).said ≡ said_sent sends out so_far.moment.said → KeepsText b c two three r → IsErr r
    → Cuts (CutExchange (sizes_of start) d) start only new a c one d.said
exchanging_is_cut start only sends old new a b c one two three d out r so_far some at said keeps failed =
    let s = sizes_of start in
    let m = so_far.moment in
    record {
      moment = sent s m;
      reached = (suc so_far.count, ap (sent s) so_far.is);
      stands = at;
      prints = front_longer only a c one (said_line only (Happened (Host out))) d.said m.said (sent s m).said
          (front_then only a b c one two d.said m.said m.said so_far.prints (front_kept only b c two three m.said r keeps failed)) (sent_text only sends out m.said (sent s m).said some said);
    }

-- one more was sent, and its line is gathered
pub exchanging_goes_on : {T E : Type 0} (start : DeviceState) (only sends : Bool) (old new : LinkState) (a b c : Option (List ℕ)) (one two three four : List ℕ) (d : Drive) (out : List ℕ)
    (r : Result T E)
    → (so_far : Exchanging start only old a b one two d) → sends ≡ true → AtDrive start new (sent (sizes_of start) so_far.moment)
    → (sent (sizes_of start) so_far.moment).said ≡ said_sent sends out so_far.moment.said → KeepsText b c two three r → ¬ IsErr r → four ≡ three ++ said_line only (Happened (Host out))
    → Exchanging start only new a c one four d
exchanging_goes_on start only sends old new a b c one two three four d out r so_far some at said keeps worked is =
    let s = sizes_of start in
    let m = so_far.moment in
    record {
      count = suc so_far.count;
      moment = sent s m;
      is = ap (sent s) so_far.is;
      stands = at;
      prints = prints_gathered only a c one three four (said_line only (Happened (Host out))) d.said m.said (sent s m).said
          (prints_then only a b c one two three d.said m.said m.said so_far.prints (prints_kept only b c two three m.said r keeps worked)) is (sent_text only sends out m.said
          (sent s m).said some said);
    }

-- a driver that sends nothing has nothing to send
silent_by : (next : Option Upiu) (sends : Bool) (before out : List ℕ) → IsSent next sends before out → sends ≡ false → next ≡ None
silent_by (Some v) sends before out (some, is) none = absurd (false≢true (sym none ∙ some))
silent_by None sends before out told none = refl

sent_nothing : (sends : Bool) (out : List ℕ) (said now : List Said) → sends ≡ false → now ≡ said_sent sends out said → now ≡ said
sent_nothing true out said now none is = absurd (false≢true (sym none))
sent_nothing false out said now none is = is

-- it was asked for the last time
pub exchanging_ends : (start : DeviceState) (only sends : Bool) (old new : LinkState) (a b : Option (List ℕ)) (one two : List ℕ) (d : Drive) (before out : List ℕ)
    → (so_far : Exchanging start only old a b one two d) → sends ≡ false → AtDrive start new (sent (sizes_of start) so_far.moment)
    → (sent (sizes_of start) so_far.moment).said ≡ said_sent sends out so_far.moment.said
    → IsSent (next_upiu (driver_sizes old.driver.shape) old.driver) sends before out → Leads (Exchanges (sizes_of start) d) start only new a b one two d.said
exchanging_ends start only sends old new a b one two d before out so_far none at said sending =
    let s = sizes_of start in
    let m = so_far.moment in
    let machine = so_far.stands.machine in
    let shape = ap (λ (x : Machine). x.shape) machine ∙ so_far.stands.shape in
    record {
      moment = sent s m;
      reached = record {
        count = so_far.count;
        last = m;
        sends = so_far.is;
        silent = sym (ap (next_upiu s) machine) ∙ sym (same_upiu start old.driver shape) ∙ silent_by (next_upiu (driver_sizes old.driver.shape) old.driver) sends before out sending none;
        leads = refl;
      };
      stands = at;
      prints = subst (Prints only a b one two d.said) (sym (sent_nothing sends out m.said (sent s m).said none said)) so_far.prints;
    }

-- a driver that is held stays so, and so do the commands that have gone out
pub held_so_far : (start : DeviceState) (only : Bool) (first now : LinkState) (a b : Option (List ℕ)) (one two : List ℕ) (d : Drive) → AtDrive start first d → first.driver.held ≡ true
    → AllOut first.driver.opens
    → Exchanging start only now a b one two d → (now.driver.held ≡ true) × AllOut now.driver.opens
held_so_far start only first now a b one two d at held all so_far =
    let s = sizes_of start in
    let is : IsHeldWithin s (weight s d.machine.opens) d.machine = record {
      held = sym (ap (λ (m : Machine). m.held) at.machine) ∙ held;
      out = subst (λ (m : Machine). AllOut m.opens) at.machine all;
      within = omega arith;
    } in
    let there : IsHeldWithin s (weight s d.machine.opens) so_far.moment.machine = subst (λ (x : Drive). IsHeldWithin s (weight s d.machine.opens) x.machine) (sym so_far.is) (held_times s
    (weight s d.machine.opens) so_far.count d is) in
    (ap (λ (m : Machine). m.held) so_far.stands.machine ∙ there.held, subst (λ (m : Machine). AllOut m.opens) (sym so_far.stands.machine) there.out)

pub left_more : (first old new : DeviceState) → steps_left old ≤ steps_left first → steps_left new ≤ steps_left old → steps_left new ≤ steps_left first
left_more first old new few more = omega (arith, few, more)
