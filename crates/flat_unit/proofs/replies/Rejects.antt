-- Exactly the bytes that are no UPIU are answered by REJECT with one of the first six reasons.
use Rattle.std.proofs.Common.{◌≡◌, ℕ, ◌*◌, ◌≤◌, ◌^◌, Bool, true, false, not, ◌&&◌, List, [], ◌∷◌, length, Option, Some, None, Result, Ok, Err, refl, sym, ◌∙◌, ap, subst, arith, nat_le, nat_lt, ◌==◌}
use Rattle.std.specs.Prelude.{if◌then◌else◌}
use Rattle.std.specs.List.{list_any}
use Rattle.hpb_cdb.specs.declared.cdb.Cdb.{Cdb}
use Rattle.hpb_cdb.specs.declared.fault.CdbFault.{CdbFault}
use Rattle.hpb_cdb.proofs.Branches.{either}
use Rattle.upiu_wire.specs.declared.fault.WireFault.{WireFault}
use Rattle.upiu_wire.specs.declared.kind.Kind.{Kind}
use Rattle.upiu_wire.specs.declared.kind.Kind.TheVariants.{NopOut, Command, DataOut, ManageRequest, QueryRequest, Reject}
use Rattle.upiu_wire.specs.Upiu.{Upiu, upiu_at}
use Rattle.upiu_wire.specs.WireFault.{number_of, wire_fault_of}
use Rattle.upiu_wire.specs.Written.{reject_upiu}
use Rattle.flat_unit.specs.Command.{command_of, is_hpb, needed}
use Rattle.flat_unit.specs.Laws.{IsRejectedFor}
use Rattle.flat_unit.specs.Manage.{manage_reply}
use Rattle.flat_unit.specs.Query.{query_reply}
use Rattle.flat_unit.specs.Reply.{command_refusal, data_refusal, fault_rejection, has_tag, is_next_piece, not_served, refusal_of_cdb, reply_by_fault, reply_by_kind, reply_of, waits_for_data}
use Rattle.flat_unit.specs.Sizes.{Sizes}
use Rattle.flat_unit.specs.Task.{Task}

-- a REJECT with a reason of 7 or more
abbrev IsLate : Upiu → Kind → Type 0
IsLate v Reject = 7 * 2 ^ 24 ≤ v.first
IsLate v _ = Unit {0}

record Late (o : Option Upiu) : Type 0 where
  late : (r : Upiu) → o ≡ Some r → IsLate r r.kind

only_late : (v : Upiu) → IsLate v v.kind → Late (Some v)
only_late v is = record { late = λ r same. let e : v ≡ r = cc in subst (λ (u : Upiu). IsLate u u.kind) e is }

none_late : Late None
none_late = record { late = λ r is. absurd (no_reply r is) }
  where
    no_reply : (r : Upiu) → None ≡ Some r → ⊥
    no_reply r is = cc

command_late : (s : Sizes) (on : Bool) (tasks : List Task) (v : Upiu) → Late (command_refusal s on tasks v)
command_late s on tasks v =
    either Late (list_any (has_tag v.tag) tasks) (λ _. only_late _ (omega arith)) (λ _.
    either Late (nat_le s.luns v.lun) (λ _. only_late _ tt) (λ _.
    either Late (nat_le s.room (length tasks)) (λ _. only_late _ tt) (λ _. by_cdb (command_of s v.cdb))))
  where
    by_cdb : (r : Result Cdb CdbFault) → Late (refusal_of_cdb s on v r)
    by_cdb (Err fault) = only_late _ tt
    by_cdb (Ok command) =
        either Late (is_hpb command && not on) (λ _. only_late _ tt) (λ _.
        either Late (nat_lt v.first (needed s command)) (λ _. only_late _ tt) (λ _. none_late))

data_late : (tasks : List Task) (v : Upiu) → Late (data_refusal tasks v)
data_late [] v = only_late _ (omega arith)
data_late (task ∷ _) v =
    either Late (not (waits_for_data task && ((task.lun == v.lun) && (task.tag == v.tag)))) (λ _. only_late _ (omega arith)) (λ _.
    either Late (is_next_piece task v) (λ _. none_late) (λ _. only_late _ tt))

kind_late : (kind : Kind) (s : Sizes) (on : Bool) (tasks : List Task) (v : Upiu) → Late (reply_by_kind kind s on tasks v)
kind_late NopOut s on tasks v = only_late _ tt
kind_late Command s on tasks v = command_late s on tasks v
kind_late DataOut s on tasks v = data_late tasks v
kind_late QueryRequest s on tasks v = elim s.queries as (λ b. Late (Some (if b then query_reply on v else not_served v))) [
  | true ↦ only_late _ tt
  | false ↦ only_late _ (omega arith)
]
kind_late ManageRequest s on tasks v = elim s.manages as (λ b. Late (Some (if b then manage_reply s tasks v else not_served v))) [
  | true ↦ only_late _ tt
  | false ↦ only_late _ (omega arith)
]
kind_late _ s on tasks v = only_late _ (omega arith)

-- the reason of a REJECT
reason_of : (bytes : List ℕ) (reason : ℕ) → (fault_rejection bytes reason).first ≡ reason * 2 ^ 24
reason_of (a ∷ b ∷ lun ∷ tag ∷ rest) reason = refl
reason_of (a ∷ b ∷ lun ∷ []) reason = refl
reason_of (a ∷ b ∷ []) reason = refl
reason_of (a ∷ []) reason = refl
reason_of [] reason = refl

pub rejected : (s : Sizes) (on : Bool) (tasks : List Task) (bytes : List ℕ) (lun tag reason : ℕ) → reason ≤ 6 → reply_of s on tasks bytes ≡ Some (reject_upiu lun tag reason)
    → IsRejectedFor bytes reason
unfolding reply_of
rejected s on tasks bytes lun tag reason early = by_fault (wire_fault_of bytes) refl
  where
    by_fault : (fault : Option WireFault) → wire_fault_of bytes ≡ fault → reply_by_fault s on tasks bytes fault ≡ Some (reject_upiu lun tag reason) → IsRejectedFor bytes reason
    by_fault (Some fault) found is =
        let same : fault_rejection bytes (number_of fault) ≡ reject_upiu lun tag reason = cc in
        let first : number_of fault * 2 ^ 24 ≡ reason * 2 ^ 24 = sym (reason_of bytes (number_of fault)) ∙ ap (λ (v : Upiu). v.first) same in
        record { fault = fault; found = found; number = omega arith }
    by_fault None found is =
        let late : 7 * 2 ^ 24 ≤ reason * 2 ^ 24 = (kind_late (upiu_at bytes).kind s on tasks (upiu_at bytes)).late (reject_upiu lun tag reason) is in
        absurd (omega arith)

pub rejection : (s : Sizes) (on : Bool) (tasks : List Task) (bytes : List ℕ) (fault : WireFault) → wire_fault_of bytes ≡ Some fault
    → reply_of s on tasks bytes ≡ Some (fault_rejection bytes (number_of fault))
unfolding reply_of
rejection s on tasks bytes fault is = ap (reply_by_fault s on tasks bytes) is
