-- Nothing is to be sent where no data are owed and no command waits.
use Rattle.std.proofs.Common.{◌≡◌, ℕ, Bool, true, false, not, List, Option, Some, None, refl, sym, ◌∙◌, ap}
use Rattle.std.specs.Prelude.{is_some}
use Rattle.driver_laws.specs.Commands.{OpenCommand, is_waiting, next_of, next_owing, next_waiting, owes_data}
use Rattle.driver_caches.specs.Machine.{is_nothing}
use Rattle.driver_commands.specs.Places.{IsFirst}
use Rattle.driver_commands.proofs.Places.{first_at, none_found}

pub owing_is_next : (opens : List OpenCommand) (owing : Option ℕ) → IsFirst owes_data opens owing → is_some owing ≡ true → is_nothing (next_of opens) ≡ false
owing_is_next opens (Some place) first is = ap (λ (o : Option OpenCommand). is_nothing (next_owing opens o)) (first_at owes_data opens place first).found
owing_is_next opens None first is = cc

waiting_is_next : (opens : List OpenCommand) (owing waiting : Option ℕ) → IsFirst owes_data opens owing → is_some owing ≡ false → IsFirst is_waiting opens waiting
    → is_nothing (next_of opens) ≡ not (is_some waiting)
waiting_is_next opens (Some place) waiting first is next = cc
waiting_is_next opens None (Some place) first is next =
    ap (λ (o : Option OpenCommand). is_nothing (next_owing opens o)) (none_found owes_data opens first)
    ∙ ap (λ (o : Option OpenCommand). is_nothing (next_waiting o)) (first_at is_waiting opens place next).found
waiting_is_next opens None None first is next =
    ap (λ (o : Option OpenCommand). is_nothing (next_owing opens o)) (none_found owes_data opens first)
    ∙ ap (λ (o : Option OpenCommand). is_nothing (next_waiting o)) (none_found is_waiting opens next)

twice : (b : Bool) → not (not b) ≡ b
twice true = refl
twice false = refl

pub none_is_nothing : (opens : List OpenCommand) (owing waiting : Option ℕ) (result : Bool) → IsFirst owes_data opens owing → is_some owing ≡ false → IsFirst is_waiting opens waiting
    → is_some waiting ≡ not result → result ≡ is_nothing (next_of opens)
none_is_nothing opens owing waiting result first is next told = sym (waiting_is_next opens owing waiting first is next ∙ ap not told ∙ twice result)
