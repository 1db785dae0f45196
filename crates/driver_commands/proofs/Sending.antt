-- What is sent next, by the places of the first command that owes data and of the first that waits.
use Rattle.std.proofs.Common.{◌≡◌, ℕ, true, false, List, refl, sym, ◌∙◌, ap, subst}
use Rattle.std.specs.Prelude.{slice_index_or, slice_set}
use Rattle.std.specs.List.{list_any}
use Rattle.upiu_wire.specs.Upiu.{upiu_out}
use Rattle.flat_unit.specs.Sizes.{Sizes}
use Rattle.driver_laws.specs.Commands.{Next, OpenCommand, Piece, Begin, Nothing, after_next, begin_upiu, is_waiting, next_of, next_owing, next_waiting, owes_data, piece_upiu, upiu_of_next}
use Rattle.driver_laws.specs.Commands.{with_begin, with_piece}
use Rattle.driver_commands.specs.Calls.{IsSent}
use Rattle.driver_commands.specs.Places.{IsFirstAt}
use Rattle.driver_commands.proofs.Places.{Found, first_at, none_found}

-- the first command that owes data sends a piece
owing_next : (opens : List OpenCommand) (place : ℕ) (x : OpenCommand) → IsFirstAt owes_data opens place → x ≡ slice_index_or opens place x → next_of opens ≡ Piece x
owing_next opens place x is at =
    let f : Found owes_data opens place = first_at owes_data opens place is in
    ap (next_owing opens) f.found ∙ ap Piece (sym (at ∙ f.is_there x))

pub owing_items : (s : Sizes) (opens : List OpenCommand) (place : ℕ) (x now : OpenCommand) → IsFirstAt owes_data opens place → x ≡ slice_index_or opens place x → now ≡ with_piece s x
    → slice_set opens place now ≡ after_next s opens (next_of opens)
owing_items s opens place x now is at new =
    let f : Found owes_data opens place = first_at owes_data opens place is in
    ap (slice_set opens place) (new ∙ ap (with_piece s) (at ∙ f.is_there x)) ∙ sym (f.changes (with_piece s)) ∙ ap (after_next s opens) (sym (owing_next opens place x is at))

pub owing_sent : (s : Sizes) (opens : List OpenCommand) (place : ℕ) (x : OpenCommand) (before now : List ℕ) → IsFirstAt owes_data opens place → x ≡ slice_index_or opens place x
    → now ≡ upiu_out (piece_upiu s x)
    → IsSent (upiu_of_next s (next_of opens)) true before now
owing_sent s opens place x before now is at sent =
    subst (λ (n : Next). IsSent (upiu_of_next s n) true before now) (sym (owing_next opens place x is at)) (refl, sent)

-- else the first command that waits goes out
waiting_next : (opens : List OpenCommand) (place : ℕ) (x : OpenCommand) → list_any owes_data opens ≡ false → IsFirstAt is_waiting opens place → x ≡ slice_index_or opens place x
    → next_of opens ≡ Begin x
waiting_next opens place x none is at =
    let f : Found is_waiting opens place = first_at is_waiting opens place is in
    ap (next_owing opens) (none_found owes_data opens none) ∙ ap next_waiting f.found ∙ ap Begin (sym (at ∙ f.is_there x))

pub waiting_items : (s : Sizes) (opens : List OpenCommand) (place : ℕ) (x now : OpenCommand) → list_any owes_data opens ≡ false → IsFirstAt is_waiting opens place → x ≡ slice_index_or opens place x
    → now ≡ with_begin x → slice_set opens place now ≡ after_next s opens (next_of opens)
waiting_items s opens place x now none is at new =
    let f : Found is_waiting opens place = first_at is_waiting opens place is in
    ap (slice_set opens place) (new ∙ ap with_begin (at ∙ f.is_there x)) ∙ sym (f.changes with_begin) ∙ ap (after_next s opens) (sym (waiting_next opens place x none is at))

pub waiting_sent : (s : Sizes) (opens : List OpenCommand) (place : ℕ) (x : OpenCommand) (before now : List ℕ) → list_any owes_data opens ≡ false → IsFirstAt is_waiting opens place
    → x ≡ slice_index_or opens place x → now ≡ upiu_out (begin_upiu s x) → IsSent (upiu_of_next s (next_of opens)) true before now
waiting_sent s opens place x before now none is at sent =
    subst (λ (n : Next). IsSent (upiu_of_next s n) true before now) (sym (waiting_next opens place x none is at)) (refl, sent)

-- else nothing
nothing_next : (opens : List OpenCommand) → list_any owes_data opens ≡ false → list_any is_waiting opens ≡ false → next_of opens ≡ Nothing
nothing_next opens none no_more = ap (next_owing opens) (none_found owes_data opens none) ∙ ap next_waiting (none_found is_waiting opens no_more)

pub nothing_items : (s : Sizes) (opens : List OpenCommand) → list_any owes_data opens ≡ false → list_any is_waiting opens ≡ false → opens ≡ after_next s opens (next_of opens)
nothing_items s opens none no_more = ap (after_next s opens) (sym (nothing_next opens none no_more))

pub nothing_sent : (s : Sizes) (opens : List OpenCommand) (before : List ℕ) → list_any owes_data opens ≡ false → list_any is_waiting opens ≡ false
    → IsSent (upiu_of_next s (next_of opens)) false before before
nothing_sent s opens before none no_more = subst (λ (n : Next). IsSent (upiu_of_next s n) false before before) (sym (nothing_next opens none no_more)) (refl, refl)
