-- A reset, and the lines of the requests that it cuts.
use Rattle.std.proofs.Common.{◌≡◌, ℕ, ◌+◌, ◌<◌, ◌≤◌, Bool, List, [], ◌∷◌, ◌++◌, map, length, take, drop, get_or, Option, Result, Ok, Err, inl, inr, refl, sym, ◌∙◌, ap, subst, take-append-drop}
use Rattle.std.specs.Prelude.{IsErr, MatchResult}
use Rattle.std.proofs.lemmas.List.{append_assoc, append-nil, take_all, take_more}
use Rattle.std.proofs.lemmas.Grind.{flat_map-append}
use Rattle.hpb_device.specs.Standing.{sizes_of}
use Rattle.hpb_device.specs.State.{DeviceState}
use Rattle.flat_unit.specs.declared.event.Event.TheVariants.{Reset}
use Rattle.drive_rules.specs.Lines.{Drive, reset_both}
use Rattle.drive_rules.specs.Said.{Happened}
use Rattle.drive_rules.specs.Text.{said_line, said_text}
use Rattle.hpb_link.specs.declared.ticket.Ticket.{Ticket}
use Rattle.hpb_link.specs.Stands.{AtDrive}
use Rattle.hpb_link.specs.State.{LinkState, ticket_of}
use Rattle.trace_text.specs.declared.ending.Ending.TheVariants.{Cut}
use Rattle.trace_text.specs.Written.{ending_line}
use Rattle.hpb_outside.specs.Writes.{AppendsFront, HasWrittenUpTo}
use Rattle.run_output.specs.Writes.{KeepsText}
use Rattle.run_output.proofs.Written.{whole_of}
use Rattle.drive_run.specs.Moments.{Adds, Cuts, Leads, Prints, cut_text}
use Rattle.drive_run.specs.Play.{CutReset, Resets}
use Rattle.drive_run.proofs.Answering.{Added}
use Rattle.drive_run.proofs.Playing.{cut_first, front_kept, prints_gathered, prints_kept}
use Rattle.drive_run.proofs.Saying.{cut_said, said_more}

-- a text, and what a call adds to it
pub then_added : {T E : Type 0} (more line : List ℕ) (a b c : Option (List ℕ)) (one two three : List ℕ) (r : Result T E) → Added more a b one two → Adds line b c two three r → ¬ IsErr r
    → Added (more ++ line) a c one three
then_added more line a b c one two three r added adds worked before text so_far =
    subst (λ (t : List ℕ). HasWrittenUpTo before c t three) (append_assoc text more line) (whole_of r _ _ worked (adds before (text ++ more) (added before text so_far)))

-- one ticket more
next_text : (tickets : List Ticket) (place : ℕ) (d : Ticket) → place < length tickets → cut_text (take (place + 1) tickets) ≡ cut_text (take place tickets) ++ ending_line
    (get_or tickets place d).number Cut
next_text tickets place d inside =
    ap cut_text (take_more tickets place d inside)
    ∙ flat_map-append (λ (t : Ticket). ending_line t.number Cut) (take place tickets) (get_or tickets place d ∷ [])
    ∙ ap (λ (l : List ℕ). cut_text (take place tickets) ++ l) (append-nil (ending_line (get_or tickets place d).number Cut))

pub ticket_added : {T E : Type 0} (tickets : List Ticket) (place : ℕ) (d : Ticket) (number : ℕ) → place < length tickets → (get_or tickets place d).number ≡ number
    → (a b c : Option (List ℕ)) (one two three : List ℕ) (r : Result T E)
    → Added (cut_text (take place tickets)) a b one two → Adds (ending_line number Cut) b c two three r → ¬ IsErr r → Added (cut_text (take (place + 1) tickets)) a c one three
ticket_added tickets place d number inside is a b c one two three r added adds worked =
    subst (λ (text : List ℕ). Added text a c one three) (sym (next_text tickets place d inside ∙ ap (λ (n : ℕ). cut_text (take place tickets) ++ ending_line n Cut) is))
    (then_added (cut_text (take place tickets)) (ending_line number Cut) a b c one two three r added adds worked)

-- the text of the others was cut
pub tickets_cut : {T E : Type 0} (tickets : List Ticket) (place : ℕ) (d : Ticket) (number : ℕ) → place < length tickets → (get_or tickets place d).number ≡ number
    → (a b c : Option (List ℕ)) (one two three : List ℕ) (r : Result T E)
    → Added (cut_text (take place tickets)) a b one two → Adds (ending_line number Cut) b c two three r → IsErr r
    → (before : Option (List ℕ)) (text : List ℕ) → HasWrittenUpTo before a text one → AppendsFront before c (text ++ cut_text tickets)
tickets_cut tickets place d number inside is a b c one two three r added adds failed before text so_far =
    let line = ending_line number Cut in
    let rest = cut_text (drop (place + 1) tickets) in
    let whole : cut_text (take place tickets) ++ (line ++ rest) ≡ cut_text tickets =
    sym (append_assoc (cut_text (take place tickets)) line rest)
    ∙ ap (λ (l : List ℕ). l ++ rest) (sym (next_text tickets place d inside ∙ ap (λ (n : ℕ). cut_text (take place tickets) ++ ending_line n Cut) is))
    ∙ sym (flat_map-append (λ (x : Ticket). ending_line x.number Cut) (take (place + 1) tickets) (drop (place + 1) tickets))
    ∙ ap cut_text (take-append-drop (place + 1) tickets) in
    let cut = cut_first line rest b c two three r adds failed before (text ++ cut_text (take place tickets)) (added before text so_far) in
    subst (AppendsFront before c) (append_assoc text (cut_text (take place tickets)) (line ++ rest) ∙ ap (λ (l : List ℕ). text ++ l) whole) cut

-- all of it was added
pub tickets_added : (tickets : List Ticket) (place : ℕ) (a b : Option (List ℕ)) (one two : List ℕ) → length tickets ≤ place → Added (cut_text (take place tickets)) a b one two
    → Added (cut_text tickets) a b one two
tickets_added tickets place a b one two all added = subst (λ (ts : List Ticket). Added (cut_text ts) a b one two) (take_all place tickets all) added

-- the text of a reset
reset_text : (only : Bool) (d : Drive) (tickets : List Ticket) → tickets ≡ map ticket_of d.callers
    → said_text only (reset_both d).said ≡ said_text only (Happened Reset ∷ d.said) ++ cut_text tickets
reset_text only d tickets is = cut_said only d.callers (Happened Reset ∷ d.said) ∙ ap (λ (ts : List Ticket). said_text only (Happened Reset ∷ d.said) ++ cut_text ts) (sym is)

pub reset_unmade : {T E : Type 0} (start : DeviceState) (only : Bool) (old : LinkState) (a b : Option (List ℕ)) (one two : List ℕ) (d : Drive) (r : Result T E) → AtDrive start old d
    → KeepsText a b one two r → IsErr r
    → Cuts (CutReset (sizes_of start) d) start only old a b one d.said
reset_unmade start only old a b one two d r at keeps failed =
    record { moment = d; reached = inl refl; stands = at; prints = front_kept only a b one two d.said r keeps failed }

-- it was made, and its line is gathered
pub reset_gathered : {T E : Type 0} (only : Bool) (a b : Option (List ℕ)) (one two three : List ℕ) (d : Drive) (r : Result T E) → KeepsText a b one two r → ¬ IsErr r
    → three ≡ two ++ said_line only (Happened Reset)
    → Prints only a b one three d.said (Happened Reset ∷ d.said)
reset_gathered only a b one two three d r keeps worked is =
    prints_gathered only a b one two three (said_line only (Happened Reset)) d.said d.said (Happened Reset ∷ d.said) (prints_kept only a b one two d.said r keeps worked) is (said_more only
    (Happened Reset) d.said)

pub reset_played : {T E : Type 0} (start : DeviceState) (only : Bool) (old new : LinkState) (a b c : Option (List ℕ)) (one two three : List ℕ) (d : Drive) (tickets : List Ticket) (r : Result T E)
    → AtDrive start old d → AtDrive start new (reset_both d) → tickets ≡ old.tickets → Prints only a b one two d.said (Happened Reset ∷ d.said) → Adds (cut_text tickets) b c two three r
    → MatchResult r (λ _. Leads (Resets (sizes_of start) d) start only new a c one three d.said) (λ _. Cuts (CutReset (sizes_of start) d) start only new a c one d.said)
reset_played start only old new a b c one two three d tickets (Ok x) at there is prints adds = record {
  moment = reset_both d;
  reached = refl;
  stands = there;
  prints = λ before so_far.
      subst (λ (t : List ℕ). HasWrittenUpTo before c t three) (sym (reset_text only d tickets (is ∙ at.tickets))) (adds before (said_text only (Happened Reset ∷ d.said)) (prints before so_far));
}
reset_played start only old new a b c one two three d tickets (Err x) at there is prints adds = record {
  moment = reset_both d;
  reached = inr refl;
  stands = there;
  prints = λ before so_far.
      subst (AppendsFront before c) (sym (reset_text only d tickets (is ∙ at.tickets))) (adds before (said_text only (Happened Reset ∷ d.said)) (prints before so_far));
}
