-- What comes of a UPIU for the command at a place.
use Rattle.std.proofs.Common.{◌≡◌, ℕ, ◌+◌, ◌≤◌, Bool, true, false, not, ◌&&◌, List, length, Option, Some, None, Result, Ok, Err, refl, sym, ◌∙◌, ap, subst, arith, ◌==◌, nat_le}
use Rattle.std.specs.Prelude.{if◌then◌else◌, slice_index_or, slice_set}
use Rattle.std.specs.List.{find, list_any, remove}
use Rattle.std.proofs.lemmas.Bool.{false≢true, eqb-true}
use Rattle.std.proofs.lemmas.Bool.Decides.{nat_tests}
use Rattle.hpb_cdb.specs.declared.cdb.Cdb.{Cdb}
use Rattle.hpb_cdb.specs.declared.cdb.Cdb.TheVariants.{Read, Write, Capacity, HpbRead, ReadBuffer, Prefetch}
use Rattle.hpb_cdb.specs.declared.limits.Limits.{Limits}
use Rattle.upiu_wire.specs.declared.fault.WireFault.{WireFault}
use Rattle.upiu_wire.specs.declared.kind.Kind.{Kind}
use Rattle.upiu_wire.specs.declared.kind.Kind.TheVariants.{NopOut, Command, DataOut, ManageRequest, QueryRequest, NopIn, Response, DataIn, ManageResponse, ReadyToTransfer, QueryResponse, Reject}
use Rattle.upiu_wire.specs.Upiu.{Upiu, upiu_at}
use Rattle.upiu_wire.specs.WireFault.{wire_fault_of}
use Rattle.flat_unit.specs.Command.{bytes_given, bytes_taken}
use Rattle.flat_unit.specs.Sizes.{Sizes}
use Rattle.driver_laws.specs.declared.answer.Done.{Done}
use Rattle.driver_laws.specs.declared.fault.DriverFault.{DriverFault}
use Rattle.driver_laws.specs.declared.fault.DriverFault.TheVariants.{Wire, UnknownTag, Phase}
use Rattle.driver_laws.specs.Commands.{OpenCommand, has}
use Rattle.driver_laws.specs.Deliver.{Delivered, delivered, delivered_by, delivered_by_fault, delivered_to, done_of, is_in_phase, is_next_data, is_next_range, may_come_by, taken, with_asked, with_got}
use Rattle.driver_commands.specs.Calls.{IsAt, IsDelivered}
use Rattle.driver_commands.specs.Open.{gets, gives, sizes_in}
use Rattle.driver_commands.specs.Places.{IsFirstAt}
use Rattle.driver_commands.proofs.Places.{Found, first_at, none_found}

and_both : (a b : Bool) → (a && b) ≡ true → (a ≡ true) × (b ≡ true)
and_both true b is = (refl, is)
and_both false b is = absurd (false≢true is)

-- the bytes that a command gets and gives are within what it has room for
gets_most : (lim : Limits) (command : Cdb) → bytes_given (sizes_in lim) command ≤ gets command
gets_most lim (Read lba n) = omega arith
gets_most lim (HpbRead lba entry n id) = omega arith
gets_most lim Capacity = omega arith
gets_most lim (ReadBuffer region sub len) = omega arith
gets_most lim _ = omega arith

gives_all : (lim : Limits) (command : Cdb) → bytes_taken (sizes_in lim) command ≡ gives command
gives_all lim (Write lba n) = refl
gives_all lim (Prefetch lba id len) = refl
gives_all lim _ = refl

-- what may come by DATA IN has room
pub data_fits : (lim : Limits) (o : OpenCommand) (v : Upiu) → is_in_phase (sizes_in lim) o v ≡ true → v.kind ≡ DataIn → length o.got + length v.segment ≤ gets o.command
data_fits lim o v phase kind =
    let s : Sizes = sizes_in lim in
    let may : is_next_data s o v ≡ true = sym (ap (λ (k : Kind). may_come_by k s o v) kind) ∙ (and_both (o.lun == v.lun) (may_come_by v.kind s o v) phase).1 in
    let a = and_both (v.first == length o.got) _ may in
    let b = and_both (v.count == length v.segment) _ a.1 in
    let c = and_both (not (v.count == 0)) (nat_le (length o.got + v.count) (bytes_given s o.command)) b.1 in
    let count : v.count ≡ length v.segment = eqb-true v.count (length v.segment) b.0 in
    let most = gets_most lim o.command in
    let within : length o.got + v.count ≤ bytes_given s o.command = grind (arith, nat_tests) in
    omega (arith, count, most, within)

-- what a READY TO TRANSFER asks for is there, and begins where the last one ended
pub record AsksNext (o : OpenCommand) (v : Upiu) : Type 0 where
  pub within : o.asked + v.count ≤ gives o.command
  pub first : v.first ≡ o.asked

pub asks_next : (lim : Limits) (o : OpenCommand) (v : Upiu) → is_in_phase (sizes_in lim) o v ≡ true → v.kind ≡ ReadyToTransfer → AsksNext o v
asks_next lim o v phase kind =
    let s : Sizes = sizes_in lim in
    let may : is_next_range s o v ≡ true = sym (ap (λ (k : Kind). may_come_by k s o v) kind) ∙ (and_both (o.lun == v.lun) (may_come_by v.kind s o v) phase).1 in
    let a = and_both (v.first == o.asked) _ may in
    let b = and_both (not (v.count == 0)) (nat_le (o.asked + v.count) (bytes_taken s o.command)) a.1 in
    let all = gives_all lim o.command in
    let within : o.asked + v.count ≤ bytes_taken s o.command = grind (arith, nat_tests) in
    record { within = omega (arith, all, within); first = eqb-true v.first o.asked a.0 }

-- the command at the place of the first that passes
same_there : (test : OpenCommand → Bool) (opens : List OpenCommand) (place : ℕ) (o : OpenCommand) (f : Found test opens place) → IsAt o opens place → f.o ≡ o
same_there test opens place o f at = sym (f.is_there o) ∙ at

pub taken_data : (opens now : List OpenCommand) (place : ℕ) (o : OpenCommand) (v : Upiu) → IsFirstAt (has v.tag) opens place → IsAt o opens place → v.kind ≡ DataIn
    → now ≡ slice_set opens place (with_got v.segment o)
    → taken v.kind opens o v ≡ record { opens = now; done = None }
taken_data opens now place o v is at kind new =
    let f : Found (has v.tag) opens place = first_at (has v.tag) opens place is in
    ap (λ (k : Kind). taken k opens o v) kind
    ∙ ap (λ (os : List OpenCommand). record { opens = os; done = None })
    (f.changes (with_got v.segment) ∙ ap (λ (x : OpenCommand). slice_set opens place (with_got v.segment x)) (same_there (has v.tag) opens place o f at) ∙ sym new)

pub taken_range : (lim : Limits) (opens now : List OpenCommand) (place : ℕ) (o : OpenCommand) (v : Upiu) → IsFirstAt (has v.tag) opens place → IsAt o opens place
    → is_in_phase (sizes_in lim) o v ≡ true
    → v.kind ≡ ReadyToTransfer → now ≡ slice_set opens place (with_asked (o.asked + v.count) o) → taken v.kind opens o v ≡ record { opens = now; done = None }
taken_range lim opens now place o v is at phase kind new =
    let f : Found (has v.tag) opens place = first_at (has v.tag) opens place is in
    let next : AsksNext o v = asks_next lim o v phase kind in
    ap (λ (k : Kind). taken k opens o v) kind
    ∙ ap (λ (os : List OpenCommand). record { opens = os; done = None })
    (f.changes (with_asked (v.first + v.count)) ∙ ap (λ (x : OpenCommand). slice_set opens place (with_asked (v.first + v.count) x)) (same_there (has v.tag) opens place o f at)
    ∙ ap (λ (n : ℕ). slice_set opens place (with_asked (n + v.count) o)) next.first ∙ sym new)

pub taken_end : (opens now : List OpenCommand) (place : ℕ) (o x : OpenCommand) (v : Upiu) (ended : Option Done) → IsFirstAt (has v.tag) opens place → IsAt o opens place → v.kind ≡ Response
    → now ≡ remove opens place → x ≡ slice_index_or opens place x → ended ≡ done_of x v → taken v.kind opens o v ≡ record { opens = now; done = ended }
taken_end opens now place o x v ended is at kind new there is_end =
    let f : Found (has v.tag) opens place = first_at (has v.tag) opens place is in
    let same : o ≡ x = sym (same_there (has v.tag) opens place o f at) ∙ sym (f.is_there x) ∙ sym there in
    ap (λ (k : Kind). taken k opens o v) kind
    ∙ ap (λ (os : List OpenCommand). record { opens = os; done = done_of o v }) (f.goes ∙ sym new)
    ∙ ap (λ (y : OpenCommand). record { opens = now; done = done_of y v }) same
    ∙ ap (λ (d : Option Done). record { opens = now; done = d }) (sym is_end)

-- what comes of bytes
pub of_fault : (s : Sizes) (opens : List OpenCommand) (bytes : List ℕ) (fault : WireFault) → wire_fault_of bytes ≡ Some fault → delivered s opens bytes ≡ Err (Wire fault)
unfolding delivered
of_fault s opens bytes fault is = ap (delivered_by_fault s opens bytes) is

pub of_upiu : (s : Sizes) (opens : List OpenCommand) (bytes : List ℕ) → wire_fault_of bytes ≡ None → delivered s opens bytes ≡ delivered_by (upiu_at bytes).kind s opens (upiu_at bytes)
unfolding delivered
of_upiu s opens bytes is = ap (delivered_by_fault s opens bytes) is

pub other_kind : (k : Kind) (s : Sizes) (opens : List OpenCommand) (v : Upiu) → (k ≡ NopIn → ⊥) → delivered_by k s opens v ≡ delivered_to s opens v (find (has v.tag) opens)
other_kind NopOut s opens v other = refl
other_kind Command s opens v other = refl
other_kind DataOut s opens v other = refl
other_kind ManageRequest s opens v other = refl
other_kind QueryRequest s opens v other = refl
other_kind NopIn s opens v other = absurd (other refl)
other_kind Response s opens v other = refl
other_kind DataIn s opens v other = refl
other_kind ManageResponse s opens v other = refl
other_kind ReadyToTransfer s opens v other = refl
other_kind QueryResponse s opens v other = refl
other_kind Reject s opens v other = refl

pub is_fault : (s : Sizes) (opens : List OpenCommand) (bytes : List ℕ) (fault : WireFault) → wire_fault_of bytes ≡ Some fault
    → IsDelivered (delivered s opens bytes) opens opens (Err (Wire fault))
is_fault s opens bytes fault is = subst (λ (d : Result Delivered DriverFault). IsDelivered d opens opens (Err (Wire fault))) (sym (of_fault s opens bytes fault is)) (refl, refl)

pub is_nop : (s : Sizes) (opens : List OpenCommand) (bytes : List ℕ) → wire_fault_of bytes ≡ None → (upiu_at bytes).kind ≡ NopIn → IsDelivered (delivered s opens bytes) opens opens (Ok None)
is_nop s opens bytes is kind =
    subst (λ (d : Result Delivered DriverFault). IsDelivered d opens opens (Ok None))
    (sym (of_upiu s opens bytes is ∙ ap (λ (k : Kind). delivered_by k s opens (upiu_at bytes)) kind)) (refl, refl)

pub is_for_tag : (s : Sizes) (opens now : List OpenCommand) (bytes : List ℕ) (outcome : Result (Option Done) DriverFault) → wire_fault_of bytes ≡ None → ((upiu_at bytes).kind ≡ NopIn → ⊥)
    → IsDelivered (delivered_to s opens (upiu_at bytes) (find (has (upiu_at bytes).tag) opens)) opens now outcome → IsDelivered (delivered s opens bytes) opens now outcome
is_for_tag s opens now bytes outcome is other took =
    subst (λ (d : Result Delivered DriverFault). IsDelivered d opens now outcome) (sym (of_upiu s opens bytes is ∙ other_kind (upiu_at bytes).kind s opens (upiu_at bytes) other)) took

-- for the command with a tag
pub is_unknown : (s : Sizes) (opens : List OpenCommand) (v : Upiu) → list_any (has v.tag) opens ≡ false → IsDelivered (delivered_to s opens v (find (has v.tag) opens)) opens opens (Err UnknownTag)
is_unknown s opens v none =
    subst (λ (x : Option OpenCommand). IsDelivered (delivered_to s opens v x) opens opens (Err UnknownTag)) (sym (none_found (has v.tag) opens none)) (refl, refl)

pub to_place : (s : Sizes) (opens : List OpenCommand) (v : Upiu) (place : ℕ) (o : OpenCommand) → IsFirstAt (has v.tag) opens place → IsAt o opens place → find (has v.tag) opens ≡ Some o
to_place s opens v place o first at =
    let f : Found (has v.tag) opens place = first_at (has v.tag) opens place first in f.found ∙ ap Some (same_there (has v.tag) opens place o f at)

pub is_out_of_phase : (s : Sizes) (opens : List OpenCommand) (v : Upiu) (place : ℕ) (o : OpenCommand) → IsFirstAt (has v.tag) opens place → IsAt o opens place → is_in_phase s o v ≡ false
    → IsDelivered (delivered_to s opens v (find (has v.tag) opens)) opens opens (Err Phase)
is_out_of_phase s opens v place o first at phase =
    subst (λ (d : Result Delivered DriverFault). IsDelivered d opens opens (Err Phase))
    (sym (ap (delivered_to s opens v) (to_place s opens v place o first at) ∙ ap (λ (b : Bool). if b then Ok (taken v.kind opens o v) else Err Phase) phase)) (refl, refl)

pub is_taken : (s : Sizes) (opens now : List OpenCommand) (v : Upiu) (place : ℕ) (o : OpenCommand) (ended : Option Done) → IsFirstAt (has v.tag) opens place → IsAt o opens place
    → is_in_phase s o v ≡ true
    → taken v.kind opens o v ≡ record { opens = now; done = ended } → IsDelivered (delivered_to s opens v (find (has v.tag) opens)) opens now (Ok ended)
is_taken s opens now v place o ended first at phase took =
    subst (λ (d : Result Delivered DriverFault). IsDelivered d opens now (Ok ended))
    (sym (ap (delivered_to s opens v) (to_place s opens v place o first at)
    ∙ ap (λ (b : Bool). if b then Ok (taken v.kind opens o v) else Err Phase) phase ∙ ap Ok took)) (refl, refl)
