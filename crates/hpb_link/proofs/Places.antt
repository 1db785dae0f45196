-- What the place of the first ticket of a tag tells of the list.
use Rattle.std.proofs.Common.{◌≡◌, ℕ, zero, suc, Bool, true, false, cond, ◌||◌, List, [], ◌∷◌, take, Some, None, refl, sym, ◌∙◌, ap, arith}
use Rattle.std.specs.Prelude.{if◌then◌else◌, option_map, slice_index_or}
use Rattle.std.specs.List.{find, list_any, remove}
use Rattle.std.proofs.lemmas.Bool.{false≢true}
use Rattle.hpb_link.specs.declared.ticket.Ticket.{Ticket}
use Rattle.driver_laws.specs.declared.answer.Done.{Done}
use Rattle.hpb_link.specs.State.{IsPlaceAt, ended_done, is_for, without_ticket}

pub record Found (tag : ℕ) (tickets : List Ticket) (place : ℕ) : Type 0 where
  pub t : Ticket
  pub found : find (is_for tag) tickets ≡ Some t
  pub is_there : (d : Ticket) → slice_index_or tickets place d ≡ t
  pub goes : without_ticket tag tickets ≡ remove tickets place

either_fails : (a b : Bool) → (a || b) ≡ false → (a ≡ false) × (b ≡ false)
either_fails true b is = absurd (false≢true (sym is))
either_fails false b is = (refl, is)

pub first_at : (tag : ℕ) (tickets : List Ticket) (place : ℕ) → IsPlaceAt tag tickets place → Found tag tickets place
first_at tag [] place is = absurd (let i = is.inside in omega arith)
first_at tag (x ∷ xs) zero is =
    let here : is_for tag x ≡ true = is.passes x in
    record {
      t = x;
      found = ap (λ (b : Bool). cond b (Some x) (find (is_for tag) xs)) here;
      is_there = λ d. refl;
      goes = ap (λ (b : Bool). if b then xs else x ∷ without_ticket tag xs) here;
    }
first_at tag (x ∷ xs) (suc place) is =
    let fails = either_fails (is_for tag x) (list_any (is_for tag) (take place xs)) is.before in
    let rest : Found tag xs place = first_at tag xs place (record { inside = let i = is.inside in omega arith; before = fails.1; passes = is.passes }) in
    record {
      t = rest.t;
      found = ap (λ (b : Bool). cond b (Some x) (find (is_for tag) xs)) fails.0 ∙ rest.found;
      is_there = rest.is_there;
      goes = ap (λ (b : Bool). if b then xs else x ∷ without_ticket tag xs) fails.0 ∙ ap (λ (ts : List Ticket). x ∷ ts) rest.goes;
    }

pub none_found : (tag : ℕ) (tickets : List Ticket) → list_any (is_for tag) tickets ≡ false → (find (is_for tag) tickets ≡ None) × (without_ticket tag tickets ≡ tickets)
none_found tag [] none = (refl, refl)
none_found tag (x ∷ xs) none =
    let fails = either_fails (is_for tag x) (list_any (is_for tag) xs) none in
    let rest = none_found tag xs fails.1 in (
      ap (λ (b : Bool). cond b (Some x) (find (is_for tag) xs)) fails.0 ∙ rest.0,
      ap (λ (b : Bool). if b then xs else x ∷ without_ticket tag xs) fails.0 ∙ ap (λ (ts : List Ticket). x ∷ ts) rest.1,
    )

-- how a request ended whose ticket stands at the place
pub ended_at : (done : Done) (tickets : List Ticket) (place : ℕ) (t : Ticket) → IsPlaceAt done.tag tickets place → t ≡ slice_index_or tickets place t
    → Some (record { ticket = t; answer = done.answer }) ≡ ended_done (Some done) tickets
ended_at done tickets place t is at =
    let f : Found done.tag tickets place = first_at done.tag tickets place is in
    ap (λ (x : Ticket). Some (record { ticket = x; answer = done.answer })) (at ∙ f.is_there t)
    ∙ ap (option_map (λ (x : Ticket). record { ticket = x; answer = done.answer })) (sym f.found)
