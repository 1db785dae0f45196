-- What is said is printed, one thing after another.
use Rattle.std.proofs.Common.{◌≡◌, ℕ, Bool, true, false, List, [], ◌∷◌, ◌++◌, map, Option, Some, None, refl, sym, ◌∙◌, ap}
use Rattle.std.proofs.lemmas.List.{append_assoc, append-nil}
use Rattle.flat_unit.specs.declared.event.Event.{Event}
use Rattle.driver_laws.specs.Flat.{Asked, Came, Cut}
use Rattle.drive_rules.specs.Said.{Ended as EndedSaid, Happened, Said, with_cut}
use Rattle.drive_rules.specs.Text.{answer_text, said_line, said_text}
use Rattle.hpb_link.specs.declared.ticket.Ended.{Ended}
use Rattle.hpb_link.specs.declared.ticket.Ticket.{Ticket}
use Rattle.hpb_link.specs.Stands.{IsSaid, said_events}
use Rattle.hpb_link.specs.State.{ticket_of}
use Rattle.trace_text.specs.declared.ending.Ending.TheVariants.{Cut as CutEnding}
use Rattle.trace_text.specs.Written.{ending_line}
use Rattle.drive_run.specs.Moments.{cut_text, ended_text, events_text}

pub said_none : (only : Bool) → said_text only [] ≡ []
unfolding said_text
said_none only = refl

-- one thing more
pub said_more : (only : Bool) (x : Said) (said : List Said) → said_text only (x ∷ said) ≡ said_text only said ++ said_line only x
unfolding said_text
said_more only x said = refl

line_then : (only : Bool) (x : Event) (xs : List Event) → said_line only (Happened x) ++ events_text only xs ≡ events_text only (x ∷ xs)
line_then true x xs = refl
line_then false x xs = refl

no_events : (only : Bool) → events_text only [] ≡ []
no_events true = refl
no_events false = refl

-- events, one after another
pub events_said : (only : Bool) (xs : List Event) (said : List Said) → said_text only (said_events said xs) ≡ said_text only said ++ events_text only xs
events_said only [] said = sym (ap (λ (l : List ℕ). said_text only said ++ l) (no_events only) ∙ append-nil (said_text only said))
events_said only (x ∷ xs) said =
    events_said only xs (Happened x ∷ said)
    ∙ ap (λ (l : List ℕ). l ++ events_text only xs) (said_more only (Happened x) said)
    ∙ append_assoc (said_text only said) (said_line only (Happened x)) (events_text only xs)
    ∙ ap (λ (l : List ℕ). said_text only said ++ l) (line_then only x xs)

-- how a request ended, where one did
pub ended_said : (only : Bool) (ended : Option Ended) (before now : List Said) → IsSaid ended before now → said_text only now ≡ said_text only before ++ ended_text ended
ended_said only None before now is = ap (said_text only) is ∙ sym (append-nil (said_text only before))
ended_said only (Some ended) before now (a, is, same) =
    ap (said_text only) is
    ∙ said_more only (EndedSaid a (Came ended.answer)) before
    ∙ ap (λ (t : Ticket). said_text only before ++ answer_text t.number t.lba (Came ended.answer)) (sym same)

-- requests that were cut, one after another
pub cut_said : (only : Bool) (callers : List Asked) (said : List Said) → said_text only (with_cut callers said) ≡ said_text only said ++ cut_text (map ticket_of callers)
cut_said only [] said = sym (append-nil (said_text only said))
cut_said only (a ∷ rest) said =
    cut_said only rest (EndedSaid a Cut ∷ said)
    ∙ ap (λ (l : List ℕ). l ++ cut_text (map ticket_of rest)) (said_more only (EndedSaid a Cut) said)
    ∙ append_assoc (said_text only said) (said_line only (EndedSaid a Cut)) (cut_text (map ticket_of rest))
    ∙ ap (λ (l : List ℕ). said_text only said ++ (l ++ cut_text (map ticket_of rest))) (append-nil (ending_line a.number CutEnding))
