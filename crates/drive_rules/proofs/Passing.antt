-- In a pass of a drain the driver sends data alone, and its commands never take more steps than at the start.
use Rattle.std.proofs.Common.{◌≡◌, ◌⊎◌, inl, inr, ℕ, zero, suc, ◌+◌, ◌≤◌, Bool, true, false, cond, not, ◌&&◌, List}
use Rattle.std.proofs.Common.{[], ◌∷◌, map, filter, Option, Some, None, Result, Ok, Err, refl, sym, ◌∙◌, ap, subst, arith}
use Rattle.std.specs.Prelude.{if◌then◌else◌, fold, sum_by}
use Rattle.std.specs.List.{find}
use Rattle.std.proofs.lemmas.List.Sums.{sum_by-cons}
use Rattle.std.proofs.lemmas.Bool.{false≢true}
use Rattle.upiu_wire.specs.declared.fault.WireFault.{WireFault}
use Rattle.upiu_wire.specs.declared.kind.Kind.{Kind}
use Rattle.upiu_wire.specs.declared.kind.Kind.TheVariants.{NopIn, DataIn, ReadyToTransfer, Response}
use Rattle.upiu_wire.specs.Upiu.{Upiu, upiu_at, upiu_out}
use Rattle.upiu_wire.specs.WireFault.{wire_fault_of}
use Rattle.flat_unit.specs.declared.event.Event.{Event}
use Rattle.flat_unit.specs.declared.event.Event.TheVariants.{Device, Host}
use Rattle.flat_unit.specs.History.{History}
use Rattle.flat_unit.specs.Queue.{on_after, tasks_after}
use Rattle.flat_unit.specs.Replays.{Group, bound, enough, events_of, tasks_at}
use Rattle.flat_unit.specs.Sizes.{Sizes}
use Rattle.flat_unit.specs.Sound.{answers_to}
use Rattle.flat_unit.specs.Task.{Task}
use Rattle.driver_laws.specs.declared.fault.DriverFault.{DriverFault}
use Rattle.driver_laws.specs.declared.fault.DriverFault.TheVariants.{Phase, UnknownTag, Wire}
use Rattle.driver_laws.specs.Commands.{begin_upiu, piece_upiu, upiu_of_next}
use Rattle.driver_laws.specs.Commands.{Nothing, OpenCommand, Piece, after_next, change_first, has, is_out, is_waiting}
use Rattle.driver_laws.specs.Commands.{next_of, next_owing, next_waiting, owes_data, remove_first, with_begin, with_piece}
use Rattle.driver_laws.specs.Deliver.{Delivered, delivered, delivered_by, delivered_by_fault, delivered_to, is_in_phase, taken, with_asked, with_got}
use Rattle.driver_laws.specs.Fits.{Fits, kept_as}
use Rattle.drive_rules.specs.Held.{AllOut, IsHeldWithin, weight}
use Rattle.drive_rules.specs.Lines.{Drive, DriveStep, DriveSteps, Exchanges, handed, happened, sent, sent_times, stepped_by}
use Rattle.driver_caches.specs.Machine.{Machine, deliver, evicted_from, hold, is_nothing, next_upiu, with_delivered, with_evicted, with_next, with_own}

-- what the device keeps then are all open commands
pub all_out : (opens : List OpenCommand) → AllOut opens → filter is_out opens ≡ opens
all_out [] all = refl
all_out (o ∷ os) all = ap (λ (b : Bool). cond b (o ∷ filter is_out os) (filter is_out os)) all.0 ∙ ap (λ (xs : List OpenCommand). o ∷ xs) (all_out os all.1)

kept_weight : (s : Sizes) (opens : List OpenCommand) → sum_by (λ (task : Task). bound s task.command) (map (kept_as s) opens) ≡ weight s opens
kept_weight s [] = refl
kept_weight s (o ∷ os) =
    sum_by-cons (λ (task : Task). bound s task.command) (kept_as s o) (map (kept_as s) os) ∙ ap (λ (n : ℕ). bound s o.command + n) (kept_weight s os)

-- so many steps are enough for them
pub enough_is : (s : Sizes) (opens : List OpenCommand) (e : History) → Fits s opens e → AllOut opens → enough s (tasks_after s e) ≡ s.pages + weight s opens
enough_is s opens e fits all =
    ap (enough s) (fits.keeps ∙ ap (map (kept_as s)) (all_out opens all)) ∙ ap (λ (n : ℕ). s.pages + n) (kept_weight s opens)

-- a held driver opens nothing of its own
off : (a b c : Bool) → (a && (b && (false && c))) ≡ false
off true true c = refl
off true false c = refl
off false b c = refl

held_off : (a b held c : Bool) → held ≡ true → (a && (b && (not held && c))) ≡ false
held_off a b held c is = ap (λ (h : Bool). a && (b && (not h && c))) is ∙ off a b c

-- it opens no command of its own
pub held_own : (m : Machine) → m.held ≡ true → with_own m ≡ m
held_own m held = ap (λ (b : Bool). if b then with_evicted m (evicted_from 0 m.caches) else m) (held_off (is_nothing (next_of m.opens)) _ m.held m.on held)

none_waits : (opens : List OpenCommand) → AllOut opens → find is_waiting opens ≡ None
none_waits [] all = refl
none_waits (o ∷ os) all = ap (λ (b : Bool). cond (not b) (Some o) (find is_waiting os)) all.0 ∙ none_waits os all.1

-- it sends data, or nothing
pub held_next : (m : Machine) → m.held ≡ true → AllOut m.opens → (next_of (with_own m).opens ≡ Nothing) ⊎ ((o : OpenCommand) × (next_of (with_own m).opens ≡ Piece o))
held_next m held all = by_owing (find owes_data m.opens) refl
  where
    same : next_of (with_own m).opens ≡ next_of m.opens
    same = ap (λ (x : Machine). next_of x.opens) (held_own m held)

    by_owing : (x : Option OpenCommand) → find owes_data m.opens ≡ x → (next_of (with_own m).opens ≡ Nothing) ⊎ ((o : OpenCommand) × (next_of (with_own m).opens ≡ Piece o))
    by_owing (Some o) is = inr (o, same ∙ ap (next_owing m.opens) is)
    by_owing None is = inl (same ∙ ap (next_owing m.opens) is ∙ ap next_waiting (none_waits m.opens all))

-- a change that keeps what has gone out, and the commands
record Keeps (s : Sizes) (opens now : List OpenCommand) : Type 0 where
  out : AllOut now
  within : weight s now ≤ weight s opens

change_keeps : (s : Sizes) (test : OpenCommand → Bool) (f : OpenCommand → OpenCommand) → ((o : OpenCommand) → o.out ≡ true → (f o).out ≡ true) → ((o : OpenCommand) → (f o).command ≡ o.command)
    → (opens : List OpenCommand) → AllOut opens
    → Keeps s opens (change_first test f opens)
change_keeps s test f out same [] all = record { out = tt; within = omega arith }
change_keeps s test f out same (o ∷ os) all = by_test (change_keeps s test f out same os all.1) (test o)
  where
    by_test : Keeps s os (change_first test f os) → (b : Bool) → Keeps s (o ∷ os) (if b then f o ∷ os else o ∷ change_first test f os)
    by_test rest true = let e = ap (bound s) (same o) in record { out = (out o all.0, all.1); within = omega (arith, e) }
    by_test rest false = let w = rest.within in record { out = (all.0, rest.out); within = omega (arith, w) }

remove_keeps : (s : Sizes) (test : OpenCommand → Bool) (opens : List OpenCommand) → AllOut opens → Keeps s opens (remove_first test opens)
remove_keeps s test [] all = record { out = tt; within = omega arith }
remove_keeps s test (o ∷ os) all = by_test (remove_keeps s test os all.1) (test o)
  where
    by_test : Keeps s os (remove_first test os) → (b : Bool) → Keeps s (o ∷ os) (if b then os else o ∷ remove_first test os)
    by_test rest true = record { out = all.1; within = omega arith }
    by_test rest false = let w = rest.within in record { out = (all.0, rest.out); within = omega (arith, w) }

as_it_is : (s : Sizes) (opens : List OpenCommand) → AllOut opens → Keeps s opens opens
as_it_is s opens all = record { out = all; within = omega arith }

taken_keeps : (s : Sizes) (kind : Kind) (opens : List OpenCommand) (o : OpenCommand) (v : Upiu) → AllOut opens → Keeps s opens (taken kind opens o v).opens
taken_keeps s DataIn opens o v all = change_keeps s (has v.tag) (with_got v.segment) (λ x is. is) (λ x. refl) opens all
taken_keeps s ReadyToTransfer opens o v all = change_keeps s (has v.tag) (with_asked (v.first + v.count)) (λ x is. is) (λ x. refl) opens all
taken_keeps s Response opens o v all = remove_keeps s (has v.tag) opens all
taken_keeps s _ opens o v all = as_it_is s opens all

err_ok : {X : Type 0} (fault : DriverFault) (x : X) → Err fault ≡ Ok x → ⊥
err_ok fault x is = cc

to_keeps : (s : Sizes) (opens : List OpenCommand) (v : Upiu) (d : Delivered) → AllOut opens → (x : Option OpenCommand) → delivered_to s opens v x ≡ Ok d → Keeps s opens d.opens
to_keeps s opens v d all None is = absurd (err_ok UnknownTag d is)
to_keeps s opens v d all (Some o) is = by_phase (is_in_phase s o v) is
  where
    by_phase : (b : Bool) → (if b then Ok (taken v.kind opens o v) else Err Phase) ≡ Ok d → Keeps s opens d.opens
    by_phase true is = let same : taken v.kind opens o v ≡ d = cc in subst (λ (x : Delivered). Keeps s opens x.opens) same (taken_keeps s v.kind opens o v all)
    by_phase false is = absurd (err_ok Phase d is)

kind_keeps : (s : Sizes) (opens : List OpenCommand) (v : Upiu) (d : Delivered) → AllOut opens → (k : Kind) → delivered_by k s opens v ≡ Ok d → Keeps s opens d.opens
kind_keeps s opens v d all NopIn is = let same : record { opens = opens; done = None } ≡ d = cc in subst (λ (x : Delivered). Keeps s opens x.opens) same (as_it_is s opens all)
kind_keeps s opens v d all _ is = to_keeps s opens v d all (find (has v.tag) opens) is

delivered_keeps : (s : Sizes) (opens : List OpenCommand) (bytes : List ℕ) (d : Delivered) → AllOut opens → delivered s opens bytes ≡ Ok d → Keeps s opens d.opens
unfolding delivered
delivered_keeps s opens bytes d all is = by_fault (wire_fault_of bytes) is
  where
    by_fault : (x : Option WireFault) → delivered_by_fault s opens bytes x ≡ Ok d → Keeps s opens d.opens
    by_fault (Some fault) is = absurd (err_ok (Wire fault) d is)
    by_fault None is = kind_keeps s opens (upiu_at bytes) d all (upiu_at bytes).kind is

-- where nothing is to be sent, all commands have gone out
some_sent : (v : Upiu) → Some v ≡ None → ⊥
some_sent v is = cc

some_found : (o : OpenCommand) → Some o ≡ None → ⊥
some_found o is = cc

is_sent_out : (b : Bool) → not b ≡ false → b ≡ true
is_sent_out true is = refl
is_sent_out false is = absurd (false≢true (sym is))

none_is_waiting : (opens : List OpenCommand) → find is_waiting opens ≡ None → AllOut opens
none_is_waiting [] none = tt
none_is_waiting (o ∷ os) none = by_test (λ rest. none_is_waiting os rest) (not o.out) refl none
  where
    by_test : (find is_waiting os ≡ None → AllOut os) → (b : Bool) → not o.out ≡ b → cond b (Some o) (find is_waiting os) ≡ None → AllOut (o ∷ os)
    by_test rest true waits none = absurd (some_found o none)
    by_test rest false out none = (is_sent_out o.out out, rest none)

pub record Silent (opens : List OpenCommand) : Type 0 where
  pub next : next_of opens ≡ Nothing
  pub out : AllOut opens

pub silent_of : (s : Sizes) (opens : List OpenCommand) → upiu_of_next s (next_of opens) ≡ None → Silent opens
silent_of s opens silent = by_owing (find owes_data opens) refl silent
  where
    by_waiting : next_of opens ≡ next_waiting (find is_waiting opens) → (x : Option OpenCommand) → find is_waiting opens ≡ x → upiu_of_next s (next_waiting x) ≡ None → Silent opens
    by_waiting next (Some o) is silent = absurd (some_sent (begin_upiu s o) silent)
    by_waiting next None is silent = record { next = next ∙ ap next_waiting is; out = none_is_waiting opens is }

    by_owing : (x : Option OpenCommand) → find owes_data opens ≡ x → upiu_of_next s (next_owing opens x) ≡ None → Silent opens
    by_owing (Some o) is silent = absurd (some_sent (piece_upiu s o) silent)
    by_owing None is silent = by_waiting (ap (next_owing opens) is) (find is_waiting opens) refl silent

-- the last question of an exchange sends nothing
pub nothing_sent : (s : Sizes) (d now : Drive) (x : Exchanges s d now) → now ≡ record x.last { machine = with_next s x.last.machine }
nothing_sent s d now x = x.leads ∙ ap (λ (v : Option Upiu). handed s v (record x.last { machine = with_next s x.last.machine })) x.silent

-- after an exchange all commands have gone out
pub out_after : (s : Sizes) (d now : Drive) → Exchanges s d now → AllOut now.machine.opens
out_after s d now x =
    let opens : List OpenCommand = (with_own x.last.machine).opens in
    let quiet : Silent opens = silent_of s opens x.silent in
    let same : now.machine.opens ≡ opens = ap (λ (e : Drive). e.machine.opens) (nothing_sent s d now x) ∙ ap (after_next s opens) quiet.next in
    subst AllOut (sym same) quiet.out

-- so a driver that is held then sends data alone, within the steps that its commands take at most
pub held_first : (s : Sizes) (d first : Drive) → Exchanges s d first → IsHeldWithin s (weight s first.machine.opens) (hold true first.machine)
held_first s d first x = record { held = refl; out = out_after s d first x; within = omega arith }

-- each call leaves the driver held, within the same steps
held_after : (s : Sizes) (steps : ℕ) (m now : Machine) → IsHeldWithin s steps m → now.held ≡ m.held → Keeps s m.opens now.opens → IsHeldWithin s steps now
held_after s steps m now is held keeps = record { held = held ∙ is.held; out = keeps.out; within = let a = is.within in let b = keeps.within in omega (arith, a, b) }

held_sent : (s : Sizes) (steps : ℕ) (m : Machine) → IsHeldWithin s steps m → IsHeldWithin s steps (with_next s m)
held_sent s steps m is =
    subst (λ (x : Machine). IsHeldWithin s steps (record x { opens = after_next s x.opens (next_of x.opens) })) (sym (held_own m is.held))
    (held_after s steps m (record m { opens = after_next s m.opens (next_of m.opens) }) is refl (by_owing (find owes_data m.opens)))
  where
    by_waiting : (x : Option OpenCommand) → find is_waiting m.opens ≡ x → Keeps s m.opens (after_next s m.opens (next_waiting x))
    by_waiting (Some o) found = change_keeps s is_waiting with_begin (λ x is. refl) (λ x. refl) m.opens is.out
    by_waiting None found = as_it_is s m.opens is.out

    by_owing : (x : Option OpenCommand) → Keeps s m.opens (after_next s m.opens (next_owing m.opens x))
    by_owing (Some o) = change_keeps s owes_data (with_piece s) (λ x is. is) (λ x. refl) m.opens is.out
    by_owing None = by_waiting (find is_waiting m.opens) refl

held_got : (s : Sizes) (steps : ℕ) (bytes : List ℕ) (m : Machine) → IsHeldWithin s steps m → IsHeldWithin s steps (deliver s bytes m)
held_got s steps bytes m is = by_result (delivered s m.opens bytes) refl
  where
    by_result : (r : Result Delivered DriverFault) → delivered s m.opens bytes ≡ r → IsHeldWithin s steps (with_delivered m bytes r)
    by_result (Ok d) took = held_after s steps m (with_delivered m bytes (Ok d)) is refl (delivered_keeps s m.opens bytes d is.out took)
    by_result (Err fault) took = is

-- and each step of a pass
abbrev pub Held : Sizes → ℕ → Drive → Type 0
Held s steps d = IsHeldWithin s steps d.machine

held_happened : (s : Sizes) (steps : ℕ) (d : Drive) (x : Event) → Held s steps d → Held s steps (happened s d x)
held_happened s steps d (Device bytes) is = held_got s steps bytes d.machine is
held_happened s steps d _ is = is

held_events : (s : Sizes) (steps : ℕ) (xs : List Event) (d : Drive) → Held s steps d → Held s steps (fold (happened s) d xs)
held_events s steps [] d is = is
held_events s steps (x ∷ xs) d is = held_events s steps xs (happened s d x) (held_happened s steps d x is)

held_handed : (s : Sizes) (steps : ℕ) (v : Option Upiu) (d : Drive) → Held s steps d → Held s steps (handed s v d)
held_handed s steps None d is = is
held_handed s steps (Some v) d is = held_events s steps (answers_to s (on_after d.progress.events) (tasks_at s d.progress) (upiu_out v)) (happened s d (Host (upiu_out v))) is

-- the driver sends
pub held_send : (s : Sizes) (steps : ℕ) (d : Drive) → Held s steps d → Held s steps (sent s d)
held_send s steps d is = held_handed s steps (next_upiu s d.machine) (record d { machine = with_next s d.machine }) (held_sent s steps d.machine is)

pub held_times : (s : Sizes) (steps n : ℕ) (d : Drive) → Held s steps d → Held s steps (sent_times s n d)
held_times s steps zero d is = is
held_times s steps (suc n) d is = held_send s steps (sent_times s n d) (held_times s steps n d is)

-- an exchange
pub held_exchange : (s : Sizes) (steps : ℕ) (d now : Drive) → Exchanges s d now → Held s steps d → Held s steps now
held_exchange s steps d now x is = subst (Held s steps) (sym x.leads) (held_send s steps x.last (subst (Held s steps) (sym x.sends) (held_times s steps x.count d is)))

-- the device makes a step
pub held_stepped : (s : Sizes) (steps : ℕ) (g : Group) (d : Drive) → Held s steps d → Held s steps (stepped_by s g d)
held_stepped s steps g d is = held_events s steps (events_of g) d is

-- a step, and then an exchange
pub held_step : (s : Sizes) (steps : ℕ) (d now : Drive) → DriveStep s d now → Held s steps d → Held s steps now
held_step s steps d now step is = held_exchange s steps (stepped_by s step.group d) now step.exchange (held_stepped s steps step.group d is)

-- so many of them
pub held_steps : (s : Sizes) (steps n : ℕ) (d now : Drive) → DriveSteps s n d now → Held s steps d → Held s steps now
held_steps s steps zero d now same is = subst (Held s steps) (sym same) is
held_steps s steps (suc n) d now (mid, before, step) is = held_step s steps mid now step (held_steps s steps n d mid before is)
