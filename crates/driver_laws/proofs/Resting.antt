-- Where a driver has nothing to send, its device doesn't wait for it: it can go on, or nothing is open.
use Rattle.std.proofs.Common.{◌≡◌, ℕ, Bool, true, false, cond, not, List, [], ◌∷◌, length, map, filter, take, Option, Some, None, refl, sym, ◌∙◌, ap, arith, nat_lt}
use Rattle.std.specs.List.{find}
use Rattle.std.proofs.lemmas.Bool.{false≢true}
use Rattle.std.proofs.lemmas.List.{length-take-le}
use Rattle.flat_unit.specs.History.{History}
use Rattle.flat_unit.specs.Queue.{at_rest, tasks_after}
use Rattle.flat_unit.specs.Sizes.{Sizes}
use Rattle.driver_laws.specs.Commands.{Begin, Nothing, OpenCommand, Piece, is_out, is_waiting, next_of, next_owing, next_waiting, owes_data}
use Rattle.driver_laws.specs.Fits.{Fits, IsProper, kept_as}

-- nothing is to be sent only where no command owes data and none waits to go out
abbrev Silent : List OpenCommand → Type 0
Silent opens = (find owes_data opens ≡ None) × (find is_waiting opens ≡ None)

piece_something : (o : OpenCommand) → Piece o ≡ Nothing → ⊥
piece_something o is = cc

begin_something : (o : OpenCommand) → Begin o ≡ Nothing → ⊥
begin_something o is = cc

silent : (opens : List OpenCommand) → next_of opens ≡ Nothing → Silent opens
silent opens is = by_owing (find owes_data opens) refl is
  where
    by_waiting : find owes_data opens ≡ None → (x : Option OpenCommand) → find is_waiting opens ≡ x → next_waiting x ≡ Nothing → Silent opens
    by_waiting none (Some o) found is = absurd (begin_something o is)
    by_waiting none None found is = (none, found)

    by_owing : (x : Option OpenCommand) → find owes_data opens ≡ x → next_owing opens x ≡ Nothing → Silent opens
    by_owing (Some o) found is = absurd (piece_something o is)
    by_owing None found is = by_waiting found (find is_waiting opens) refl is

some_found : (o : OpenCommand) → Some o ≡ None → ⊥
some_found o is = cc

-- the first command has gone out, and owes nothing
record Sated (o : OpenCommand) : Type 0 where
  out : o.out ≡ true
  owes : owes_data o ≡ false

sated : (o : OpenCommand) (os : List OpenCommand) → Silent (o ∷ os) → Sated o
sated o os quiet = by_owes (owes_data o) refl (o.out) refl quiet
  where
    by_owes : (b : Bool) → owes_data o ≡ b → (a : Bool) → o.out ≡ a → (cond b (Some o) (find owes_data os) ≡ None) × (cond (not a) (Some o) (find is_waiting os) ≡ None) → Sated o
    by_owes true owes a out quiet = absurd (some_found o quiet.0)
    by_owes false owes false out quiet = absurd (some_found o quiet.1)
    by_owes false owes true out quiet = record { out = out; owes = owes }

pub rests : (s : Sizes) (opens : List OpenCommand) (e : History) → Fits s opens e → next_of opens ≡ Nothing → at_rest (tasks_after s e) ≡ true → opens ≡ []
rests s [] e fits nothing rest = refl
rests s (o ∷ os) e fits nothing rest =
    let is : Sated o = sated o os (silent (o ∷ os) nothing) in
    let tasks : tasks_after s e ≡ kept_as s o ∷ map (kept_as s) (filter is_out os) =
    fits.keeps ∙ ap (λ (b : Bool). map (kept_as s) (cond b (o ∷ filter is_out os) (filter is_out os))) is.out in
    let waits : nat_lt (length (take o.given o.bytes)) o.asked ≡ true = sym (ap at_rest tasks) ∙ rest in
    let p : IsProper s o = fits.proper.0 in
    let g = p.given in let a = p.asked in let b = p.bytes in
    let l = length-take-le o.given o.bytes (omega arith) in
    let come : nat_lt o.given o.asked ≡ true = ap (λ (n : ℕ). nat_lt n o.asked) (sym l) ∙ waits in
    absurd (false≢true (sym is.owes ∙ come))
