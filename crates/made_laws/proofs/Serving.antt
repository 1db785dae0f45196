-- The requests that are open are those that the open commands serve, whatever the device does.
use Rattle.std.proofs.Common.{◌≡◌, subst, ℕ, suc, ◌+◌, Bool, true, false, cond, List, [], ◌∷◌, ◌++◌, map}
use Rattle.std.proofs.Common.{filter, Option, Some, None, Result, Ok, Err, refl, sym, ◌∙◌, ap, ap₂, append-nil, ◌==◌}
use Rattle.std.specs.Prelude.{if◌then◌else◌, IsPermutation}
use Rattle.std.specs.List.{find}
use Rattle.std.proofs.lemmas.List.{append_assoc, map-append}
use Rattle.std.proofs.lemmas.List.Sorted.{IsPermutation-append_left, IsPermutation-append_right, IsPermutation-cons, IsPermutation-middle, IsPermutation-refl, IsPermutation-sym, IsPermutation-trans}
use Rattle.std.proofs.lemmas.Bool.{false≢true, eqb-true}
use Rattle.host_map_cache.specs.Cache.{CacheState}
use Rattle.upiu_wire.specs.declared.fault.WireFault.{WireFault}
use Rattle.upiu_wire.specs.declared.kind.Kind.{Kind}
use Rattle.upiu_wire.specs.declared.kind.Kind.TheVariants.{NopIn, DataIn, ReadyToTransfer, Response}
use Rattle.upiu_wire.specs.Upiu.{Upiu, upiu_at}
use Rattle.upiu_wire.specs.WireFault.{wire_fault_of}
use Rattle.flat_unit.specs.Sizes.{Sizes}
use Rattle.driver_laws.specs.declared.answer.Done.{Done}
use Rattle.driver_laws.specs.declared.fault.DriverFault.{DriverFault}
use Rattle.driver_laws.specs.declared.fault.DriverFault.TheVariants.{Phase}
use Rattle.driver_laws.specs.Commands.{OpenCommand, Wanted, after_next, change_first, free_tag, has, is_caller, is_waiting, next_of, next_owing, next_waiting}
use Rattle.driver_laws.specs.Commands.{open_as, opened, opened_with, owes_data, remove_first, with_begin, with_piece}
use Rattle.driver_laws.specs.Deliver.{Delivered, answer_of, delivered, delivered_by, delivered_by_fault, delivered_to, is_in_phase, taken, with_asked, with_got}
use Rattle.driver_laws.specs.Drive.{Moment, cut, answered_for, has_asked, with_done, without_asked, with_delivered as moment_delivered}
use Rattle.driver_laws.specs.Flat.{Answered, Asked}
use Rattle.driver_laws.specs.Fits.{Serving, numbers_answered, numbers_asked, serving, serving_asked}
use Rattle.driver_laws.proofs.Booking.{serving_more}
use Rattle.driver_laws.proofs.Flatness.{serves_same}
use Rattle.driver_caches.specs.Machine.{Machine, Own, Picked, also, evicted_from, first_picked, first_told, loads}
use Rattle.driver_caches.specs.Machine.{may_send_own, stale_dropped, wanted_from, with_evicted, with_next, with_own, with_picked, with_wanted}

-- the open commands of callers serve these requests, in order
abbrev pub IsServed : List Asked → List OpenCommand → Type 0
IsServed callers opens = map serving_asked callers ≡ map serving (filter is_caller opens)

none_some : {A : Type 0} {x : A} → None ≡ Some x → ⊥
none_some e = cc

some_same : {A : Type 0} {x y : A} → Some x ≡ Some y → x ≡ y
some_same e = cc

nil_cons : {A : Type 0} {x : A} {xs : List A} → [] ≡ x ∷ xs → ⊥
nil_cons e = cc

cons_nil : {A : Type 0} {x : A} {xs : List A} → x ∷ xs ≡ [] → ⊥
cons_nil e = cc

first_same : {A : Type 0} {x y : A} {xs ys : List A} → x ∷ xs ≡ y ∷ ys → x ≡ y
first_same e = cc

rest_same : {A : Type 0} {x y : A} {xs ys : List A} → x ∷ xs ≡ y ∷ ys → xs ≡ ys
rest_same e = cc

-- where no command is open, no caller waits
pub none_waits : (callers : List Asked) → map serving_asked callers ≡ [] → callers ≡ []
none_waits [] is = refl
none_waits (a ∷ rest) is = absurd (cons_nil is)

-- a change that leaves what a command serves
changed_serves : (test : OpenCommand → Bool) (f : OpenCommand → OpenCommand) → ((o : OpenCommand) → (f o).caller ≡ o.caller) → ((o : OpenCommand) → serving (f o) ≡ serving o)
    → (opens : List OpenCommand) → map serving (filter is_caller (change_first test f opens)) ≡ map serving (filter is_caller opens)
changed_serves test f caller same [] = refl
changed_serves test f caller same (o ∷ os) = by_test (changed_serves test f caller same os) (test o)
  where
    by_caller : map serving (filter is_caller (change_first test f os)) ≡ map serving (filter is_caller os) → (b : Bool)
        → map serving (cond b (o ∷ filter is_caller (change_first test f os)) (filter is_caller (change_first test f os))) ≡ map serving (cond b (o ∷ filter is_caller os) (filter is_caller os))
    by_caller rest true = ap (λ (xs : List Serving). serving o ∷ xs) rest
    by_caller rest false = rest

    by_test : map serving (filter is_caller (change_first test f os)) ≡ map serving (filter is_caller os) → (b : Bool)
        → map serving (filter is_caller (if b then f o ∷ os else o ∷ change_first test f os)) ≡ map serving (filter is_caller (o ∷ os))
    by_test rest true = serves_same o (f o) os (caller o) (same o)
    by_test rest false = by_caller rest o.caller

-- the command that is found has the tag
found_tag : (t : ℕ) (opens : List OpenCommand) (o : OpenCommand) → find (has t) opens ≡ Some o → has t o ≡ true
found_tag t [] o found = absurd (none_some found)
found_tag t (x ∷ xs) o found = by_test (λ rest. found_tag t xs o rest) (has t x) refl found
  where
    by_test : (find (has t) xs ≡ Some o → has t o ≡ true) → (b : Bool) → has t x ≡ b → cond b (Some x) (find (has t) xs) ≡ Some o → has t o ≡ true
    by_test rest true is found = ap (has t) (sym (some_same found)) ∙ is
    by_test rest false is found = rest found

-- a command of the driver's own ends
own_removed : (t : ℕ) (opens : List OpenCommand) (o : OpenCommand) → find (has t) opens ≡ Some o → o.caller ≡ false → filter is_caller (remove_first (has t) opens) ≡ filter is_caller opens
own_removed t [] o found own = absurd (none_some found)
own_removed t (x ∷ xs) o found own = by_test (λ rest. own_removed t xs o rest own) (has t x) found
  where
    by_test : (find (has t) xs ≡ Some o → filter is_caller (remove_first (has t) xs) ≡ filter is_caller xs) → (b : Bool) → cond b (Some x) (find (has t) xs) ≡ Some o
        → filter is_caller (if b then xs else x ∷ remove_first (has t) xs) ≡ filter is_caller (x ∷ xs)
    by_test rest true found = sym (ap (λ (b : Bool). cond b (x ∷ filter is_caller xs) (filter is_caller xs)) (ap is_caller (some_same found) ∙ own))
    by_test rest false found = ap (λ (ys : List OpenCommand). cond x.caller (x ∷ ys) ys) (rest found)

-- a caller's command ends, and so does its request
caller_step : (t : ℕ) (x : OpenCommand) (xs : List OpenCommand) (o : OpenCommand)
    → ((cs : List Asked) → find (has t) xs ≡ Some o → IsServed cs xs → IsServed (without_asked t cs) (remove_first (has t) xs))
    → (b : Bool) → x.caller ≡ b → (h : Bool) → has t x ≡ h → cond h (Some x) (find (has t) xs) ≡ Some o → o.caller ≡ true
    → (cs : List Asked) → map serving_asked cs ≡ map serving (cond b (x ∷ filter is_caller xs) (filter is_caller xs))
    → map serving_asked (without_asked t cs) ≡ map serving (filter is_caller (if h then xs else x ∷ remove_first (has t) xs))
caller_step t x xs o behind true own h test found caller [] served = absurd (nil_cons served)
caller_step t x xs o behind true own true test found caller (a ∷ rest) served =
    let tag : a.tag ≡ x.tag = ap (λ (y : Serving). y.tag) (first_same served) in
    ap (λ (b : Bool). map serving_asked (if b then rest else a ∷ without_asked t rest)) (ap (λ (n : ℕ). n == t) tag ∙ test) ∙ rest_same served
caller_step t x xs o behind true own false test found caller (a ∷ rest) served =
    let tag : a.tag ≡ x.tag = ap (λ (y : Serving). y.tag) (first_same served) in
    let left : List OpenCommand = filter is_caller (remove_first (has t) xs) in
    ap (λ (b : Bool). map serving_asked (if b then rest else a ∷ without_asked t rest)) (ap (λ (n : ℕ). n == t) tag ∙ test)
    ∙ ap₂ (λ (y : Serving) (ys : List Serving). y ∷ ys) (first_same served) (behind rest found (rest_same served))
    ∙ ap (λ (b : Bool). map serving (cond b (x ∷ left) left)) (sym own)
caller_step t x xs o behind false own true test found caller cs served =
    absurd (false≢true (sym own ∙ ap is_caller (some_same found) ∙ caller))
caller_step t x xs o behind false own false test found caller cs served =
    let left : List OpenCommand = filter is_caller (remove_first (has t) xs) in
    behind cs found served ∙ ap (λ (b : Bool). map serving (cond b (x ∷ left) left)) (sym own)

caller_removed : (t : ℕ) (opens : List OpenCommand) (o : OpenCommand) → o.caller ≡ true → (cs : List Asked) → find (has t) opens ≡ Some o → IsServed cs opens
    → IsServed (without_asked t cs) (remove_first (has t) opens)
caller_removed t [] o caller cs found served = absurd (none_some found)
caller_removed t (x ∷ xs) o caller cs found served =
    caller_step t x xs o (λ ds is rest. caller_removed t xs o caller ds is rest) x.caller refl (has t x) refl found caller cs served

-- the callers that wait behind a request that ended, if one did
abbrev pub callers_after : Option Done → List Asked → List Asked
callers_after None callers = callers
callers_after (Some done) callers = without_asked done.tag callers

abbrev Leaves : List Asked → Result Delivered DriverFault → Type 0
Leaves callers (Ok d) = IsServed (callers_after d.done callers) d.opens
Leaves callers (Err fault) = Unit {0}

response_serves : (opens : List OpenCommand) (o : OpenCommand) (v : Upiu) (callers : List Asked) → find (has v.tag) opens ≡ Some o → IsServed callers opens → (b : Bool) → o.caller ≡ b
    → IsServed (callers_after (if b then Some (record { tag = o.tag; answer = answer_of o v }) else None) callers) (remove_first (has v.tag) opens)
response_serves opens o v callers found served true caller =
    ap (λ (t : ℕ). map serving_asked (without_asked t callers)) (eqb-true o.tag v.tag (found_tag v.tag opens o found)) ∙ caller_removed v.tag opens o caller callers found served
response_serves opens o v callers found served false own = served ∙ ap (map serving) (sym (own_removed v.tag opens o found own))

taken_serves : (kind : Kind) (opens : List OpenCommand) (o : OpenCommand) (v : Upiu) (callers : List Asked) → find (has v.tag) opens ≡ Some o → IsServed callers opens
    → Leaves callers (Ok (taken kind opens o v))
taken_serves DataIn opens o v callers found served = served ∙ sym (changed_serves (has v.tag) (with_got v.segment) (λ x. refl) (λ x. refl) opens)
taken_serves ReadyToTransfer opens o v callers found served = served ∙ sym (changed_serves (has v.tag) (with_asked (v.first + v.count)) (λ x. refl) (λ x. refl) opens)
taken_serves Response opens o v callers found served = response_serves opens o v callers found served o.caller refl
taken_serves _ opens o v callers found served = served

to_serves : (s : Sizes) (opens : List OpenCommand) (v : Upiu) (callers : List Asked) → IsServed callers opens
    → (x : Option OpenCommand) → find (has v.tag) opens ≡ x → Leaves callers (delivered_to s opens v x)
to_serves s opens v callers served None found = tt
to_serves s opens v callers served (Some o) found = by_phase (is_in_phase s o v)
  where
    by_phase : (b : Bool) → Leaves callers (if b then Ok (taken v.kind opens o v) else Err Phase)
    by_phase true = taken_serves v.kind opens o v callers found served
    by_phase false = tt

kind_serves : (s : Sizes) (opens : List OpenCommand) (v : Upiu) (callers : List Asked) → IsServed callers opens → (k : Kind) → Leaves callers (delivered_by k s opens v)
kind_serves s opens v callers served NopIn = served
kind_serves s opens v callers served _ = to_serves s opens v callers served (find (has v.tag) opens) refl

delivered_serves : (s : Sizes) (opens : List OpenCommand) (bytes : List ℕ) (callers : List Asked) → IsServed callers opens → Leaves callers (delivered s opens bytes)
unfolding delivered
delivered_serves s opens bytes callers served = by_fault (wire_fault_of bytes)
  where
    by_fault : (x : Option WireFault) → Leaves callers (delivered_by_fault s opens bytes x)
    by_fault (Some fault) = tt
    by_fault None = kind_serves s opens (upiu_at bytes) callers served (upiu_at bytes).kind

done_callers : (x : Option Done) (m : Moment) → (with_done x m).callers ≡ callers_after x m.callers
done_callers None m = refl
done_callers (Some done) m = refl

-- bytes of the device leave the requests served
pub got_serves : (s : Sizes) (bytes : List ℕ) (m : Moment) (opens_now : Result Delivered DriverFault → List OpenCommand)
    → ((d : Delivered) → opens_now (Ok d) ≡ d.opens) → ((fault : DriverFault) → opens_now (Err fault) ≡ m.opens) → IsServed m.callers m.opens
    → IsServed (moment_delivered (delivered s m.opens bytes) m).callers (opens_now (delivered s m.opens bytes))
got_serves s bytes m opens_now ok err served = by_result (delivered s m.opens bytes) (delivered_serves s m.opens bytes m.callers served)
  where
    by_result : (r : Result Delivered DriverFault) → Leaves m.callers r → IsServed (moment_delivered r m).callers (opens_now r)
    by_result (Ok d) leaves = ap (map serving_asked) (done_callers d.done (record m { opens = d.opens })) ∙ leaves ∙ ap (λ (os : List OpenCommand). map serving (filter is_caller os)) (sym (ok d))
    by_result (Err fault) leaves = served ∙ ap (λ (os : List OpenCommand). map serving (filter is_caller os)) (sym (err fault))

-- each request that was taken came to its end once, or waits
abbrev pub IsCounted : Moment → Type 0
IsCounted m = IsPermutation (numbers_asked m.asked) (numbers_answered m.answers ++ numbers_asked m.callers)

answered_once : (done : Done) (cs : List Asked)
    → IsPermutation (numbers_asked cs) (numbers_answered (answered_for done (find (has_asked done.tag) cs)) ++ numbers_asked (without_asked done.tag cs))
answered_once done [] = IsPermutation-refl []
answered_once done (a ∷ rest) = by_test (answered_once done rest) (has_asked done.tag a)
  where
    by_test : IsPermutation (numbers_asked rest) (numbers_answered (answered_for done (find (has_asked done.tag) rest)) ++ numbers_asked (without_asked done.tag rest)) → (b : Bool)
        → IsPermutation (numbers_asked (a ∷ rest))
        (numbers_answered (answered_for done (cond b (Some a) (find (has_asked done.tag) rest))) ++ numbers_asked (if b then rest else a ∷ without_asked done.tag rest))
    by_test behind true = IsPermutation-refl (a.number ∷ numbers_asked rest)
    by_test behind false =
        let found : List ℕ = numbers_answered (answered_for done (find (has_asked done.tag) rest)) in
        let left : List ℕ = numbers_asked (without_asked done.tag rest) in
        IsPermutation-trans (a.number ∷ numbers_asked rest) (a.number ∷ (found ++ left)) (found ++ a.number ∷ left) (IsPermutation-cons a.number (numbers_asked rest) (found ++ left) behind)
        (IsPermutation-sym (found ++ a.number ∷ left) (a.number ∷ (found ++ left)) (IsPermutation-middle found a.number left))

done_counted : (x : Option Done) (m : Moment) → IsCounted m → IsCounted (with_done x m)
done_counted None m counted = counted
done_counted (Some done) m counted =
    let before : List ℕ = numbers_answered m.answers in
    let ended : List Answered = answered_for done (find (has_asked done.tag) m.callers) in
    let left : List ℕ = numbers_asked (without_asked done.tag m.callers) in
    let all : IsPermutation (numbers_asked m.asked) (before ++ (numbers_answered ended ++ left)) =
    IsPermutation-trans (numbers_asked m.asked) (before ++ numbers_asked m.callers) (before ++ (numbers_answered ended ++ left)) counted
    (IsPermutation-append_right before (numbers_asked m.callers) (numbers_answered ended ++ left) (answered_once done m.callers)) in
    subst (IsPermutation (numbers_asked m.asked))
    (sym (append_assoc before (numbers_answered ended) left) ∙ ap (λ (xs : List ℕ). xs ++ left) (sym (map-append (λ (x : Answered). x.number) m.answers ended))) all

pub delivered_counted : (r : Result Delivered DriverFault) (m : Moment) → IsCounted m → IsCounted (moment_delivered r m)
delivered_counted (Ok d) m counted = done_counted d.done (record m { opens = d.opens }) counted
delivered_counted (Err fault) m counted = counted

-- a request that is taken waits
pub asked_counted : (m : Moment) (one : Asked) → IsCounted m → IsCounted (record m { asked = m.asked ++ one ∷ []; callers = m.callers ++ one ∷ [] })
asked_counted m one counted =
    let before : List ℕ = numbers_answered m.answers in
    let more : IsPermutation (numbers_asked m.asked ++ one.number ∷ []) ((before ++ numbers_asked m.callers) ++ one.number ∷ []) =
    IsPermutation-append_left (one.number ∷ []) (numbers_asked m.asked) (before ++ numbers_asked m.callers) counted in
    subst (λ (xs : List ℕ). IsPermutation xs (before ++ numbers_asked (m.callers ++ one ∷ []))) (sym (map-append (λ (x : Asked). x.number) m.asked (one ∷ [])))
    (subst (IsPermutation (numbers_asked m.asked ++ one.number ∷ []))
    (append_assoc before (numbers_asked m.callers) (one.number ∷ []) ∙ ap (λ (xs : List ℕ). before ++ xs) (sym (map-append (λ (x : Asked). x.number) m.callers (one ∷ [])))) more)

cut_numbers : (callers : List Asked) → numbers_answered (map cut callers) ≡ numbers_asked callers
cut_numbers [] = refl
cut_numbers (a ∷ rest) = ap (λ (xs : List ℕ). a.number ∷ xs) (cut_numbers rest)

-- a reset ends all that wait
pub cut_counted : (m : Moment) → IsCounted m → IsCounted (record m { callers = []; answers = m.answers ++ map cut m.callers })
cut_counted m counted =
    subst (IsPermutation (numbers_asked m.asked))
    (ap (λ (xs : List ℕ). numbers_answered m.answers ++ xs) (sym (cut_numbers m.callers))
    ∙ sym (map-append (λ (x : Answered). x.number) m.answers (map cut m.callers))
    ∙ sym (append-nil (numbers_answered (m.answers ++ map cut m.callers)))) counted

-- what the driver opens of its own serves no caller
opened_serves : (opens : List OpenCommand) (w : Wanted) → w.caller ≡ false → map serving (filter is_caller (opened opens w)) ≡ map serving (filter is_caller opens)
opened_serves opens w own = by_tag (free_tag opens)
  where
    by_tag : (x : Option ℕ) → map serving (filter is_caller (opened_with opens w x)) ≡ map serving (filter is_caller opens)
    by_tag None = refl
    by_tag (Some tag) =
        serving_more opens (open_as w tag)
        ∙ ap (λ (b : Bool). map serving (filter is_caller opens) ++ map serving (cond b (open_as w tag ∷ []) [])) own
        ∙ append-nil (map serving (filter is_caller opens))

abbrev IsOwnFirst : Option Own → Type 0
IsOwnFirst (Some own) = own.wanted.caller ≡ false
IsOwnFirst None = Unit {0}

abbrev IsOwnWanted : Option Wanted → Type 0
IsOwnWanted (Some w) = w.caller ≡ false
IsOwnWanted None = Unit {0}

also_own : (cache : CacheState) (x : Option Own) → IsOwnFirst x → IsOwnFirst (also cache x)
also_own cache (Some own) is = is
also_own cache None is = tt

told_own : (lun : ℕ) (cache : CacheState) (cs : List CacheState) (regions : List ℕ) (behind : Option Own) → IsOwnFirst behind → IsOwnFirst (first_told lun cache cs regions behind)
told_own lun cache cs [] behind is = also_own cache behind is
told_own lun cache cs (region ∷ rest) behind is = refl

evicted_own : (lun : ℕ) (caches : List CacheState) → IsOwnFirst (evicted_from lun caches)
evicted_own lun [] = tt
evicted_own lun (c ∷ cs) = told_own lun c cs c.evicted (evicted_from (suc lun) cs) (evicted_own (suc lun) cs)

picked_own : (lun : ℕ) (cache : CacheState) (cs : List CacheState) (wants : List (ℕ × ℕ)) (behind : Picked) → IsOwnWanted behind.wanted → IsOwnWanted (first_picked lun cache cs wants behind).wanted
picked_own lun cache cs [] behind is = is
picked_own lun cache cs (want ∷ rest) behind is = refl

wanted_own : (lun : ℕ) (caches : List CacheState) → IsOwnWanted (wanted_from lun caches).wanted
wanted_own lun [] = tt
wanted_own lun (c ∷ cs) = picked_own lun c cs (stale_dropped c c.wants) (wanted_from (suc lun) cs) (wanted_own (suc lun) cs)

own_serves : (m : Machine) → map serving (filter is_caller (with_own m).opens) ≡ map serving (filter is_caller m.opens)
own_serves m = by_may (may_send_own m)
  where
    by_wanted : (x : Option Wanted) → IsOwnWanted x → map serving (filter is_caller (with_wanted x m.opens)) ≡ map serving (filter is_caller m.opens)
    by_wanted (Some w) own = opened_serves m.opens w own
    by_wanted None own = refl

    by_loads : (b : Bool) → map serving (filter is_caller (if b then m else with_picked m (wanted_from 0 m.caches)).opens) ≡ map serving (filter is_caller m.opens)
    by_loads true = refl
    by_loads false = by_wanted (wanted_from 0 m.caches).wanted (wanted_own 0 m.caches)

    by_own : (x : Option Own) → IsOwnFirst x → map serving (filter is_caller (with_evicted m x).opens) ≡ map serving (filter is_caller m.opens)
    by_own (Some own) is = opened_serves m.opens own.wanted is
    by_own None is = by_loads (loads m.opens)

    by_may : (b : Bool) → map serving (filter is_caller (if b then with_evicted m (evicted_from 0 m.caches) else m).opens) ≡ map serving (filter is_caller m.opens)
    by_may true = by_own (evicted_from 0 m.caches) (evicted_own 0 m.caches)
    by_may false = refl

next_serves : (s : Sizes) (opens : List OpenCommand) → map serving (filter is_caller (after_next s opens (next_of opens))) ≡ map serving (filter is_caller opens)
next_serves s opens = by_owing (find owes_data opens)
  where
    by_waiting : (x : Option OpenCommand) → map serving (filter is_caller (after_next s opens (next_waiting x))) ≡ map serving (filter is_caller opens)
    by_waiting (Some o) = changed_serves is_waiting with_begin (λ o. refl) (λ o. refl) opens
    by_waiting None = refl

    by_owing : (x : Option OpenCommand) → map serving (filter is_caller (after_next s opens (next_owing opens x))) ≡ map serving (filter is_caller opens)
    by_owing (Some o) = changed_serves owes_data (with_piece s) (λ o. refl) (λ o. refl) opens
    by_owing None = by_waiting (find is_waiting opens)

-- nor does what it sends end a request
pub sent_serves : (s : Sizes) (m : Machine) → map serving (filter is_caller (with_next s m).opens) ≡ map serving (filter is_caller m.opens)
sent_serves s m = next_serves s (with_own m).opens ∙ own_serves m
