-- Whatever a driver sends the device keeps, without a reply.
use Rattle.std.proofs.Common.{◌≡◌, ℕ, ◌+◌, ◌-◌, ◌≤◌, ◌<◌, Bool, true, false, cond, not, ◌&&◌, List, [], ◌∷◌, ◌++◌, length, map, filter}
use Rattle.std.proofs.Common.{take, drop, Option, Some, None, refl, sym, ◌∙◌, ap, subst, arith, nat_le, nat_lt, slice_range}
use Rattle.std.specs.Prelude.{if◌then◌else◌}
use Rattle.std.specs.List.{AllByRecursion, list_any, find}
use Rattle.std.proofs.Math.Seq.{take-add}
use Rattle.std.proofs.lemmas.Bool.{false≢true, eq-eqb}
use Rattle.std.proofs.lemmas.Bool.Decides.{nat_tests}
use Rattle.std.proofs.lemmas.List.{length-take-le, length-drop, length-map, map-append}
use Rattle.byteorder.specs.Numbers.{big_number-reads_back}
use Rattle.upiu_wire.specs.declared.kind.Kind.TheVariants.{Command, DataOut}
use Rattle.upiu_wire.specs.Upiu.{Upiu, IsConsistent, upiu_at, upiu_out}
use Rattle.flat_unit.specs.declared.event.Event.TheVariants.{Host}
use Rattle.flat_unit.specs.Command.{command_of, is_hpb, needed}
use Rattle.flat_unit.specs.History.{History, ◌▹◌}
use Rattle.flat_unit.specs.Queue.{after_kept, on_after, task_of, tasks_after, with_command}
use Rattle.flat_unit.specs.Reply.{command_refusal, data_refusal, has_tag, is_next_piece, refusal_of_cdb, reply_by_kind, reply_of}
use Rattle.flat_unit.specs.Sizes.{Sizes}
use Rattle.flat_unit.specs.Task.{Task}
use Rattle.flat_unit.specs.Tasks.{IsQueue}
use Rattle.flat_unit.proofs.History.{kept_of_kind, owes_nothing, reply_to_kind, upiu_at-out, wire_fault_of-out}
use Rattle.flat_unit.proofs.queue.Tasks.{same_tag, queue_after}
use Rattle.driver_laws.specs.Commands.{OpenCommand, after_next, begin_upiu, change_first, is_out, is_waiting, next_of, next_owing}
use Rattle.driver_laws.specs.Commands.{next_waiting, owes_data, piece_end, piece_upiu, upiu_of_next, with_begin, with_piece}
use Rattle.driver_laws.specs.Drive.{sent_events}
use Rattle.driver_laws.specs.Fits.{Fits, IsProper, OutFirst, Serves, kept_as}
use Rattle.driver_laws.proofs.Cdbs.{cdb_length, command_again}
use Rattle.driver_laws.proofs.Opens.{and_true, nonzero, within}
use Rattle.driver_laws.proofs.Queueing.{IsNext, begin_apart, begin_in_order, begin_length, begin_proper, next, quiet, quiet_waiting}

-- a COMMAND can be written
begin_consistent : (s : Sizes) (o : OpenCommand) → IsProper s o → IsConsistent (begin_upiu s o)
begin_consistent s o is = record { first = is.expected; cdb = cdb_length o.command; count = refl; value = refl; segment = omega arith }

if_false : {X : Type 0} (b : Bool) (x y : X) → b ≡ false → (if b then x else y) ≡ y
if_false b x y is = ap (λ (c : Bool). if c then x else y) is

if_true : {X : Type 0} (b : Bool) (x y : X) → b ≡ true → (if b then x else y) ≡ x
if_true b x y is = ap (λ (c : Bool). if c then x else y) is

and_off : (b on : Bool) → on ≡ true → (b && not on) ≡ false
and_off true on is = ap not is
and_off false on is = refl

-- nothing stands against the COMMAND
command_stands : (s : Sizes) (opens : List OpenCommand) (o : OpenCommand) (on : Bool) (tasks : List Task) → Serves s → IsProper s o → on ≡ true
    → list_any (has_tag o.tag) tasks ≡ false → length tasks < s.room → command_refusal s on tasks (begin_upiu s o) ≡ None
command_stands s opens o on tasks serves is switch alone room =
    if_false _ _ _ alone
    ∙ if_false (nat_le s.luns o.lun) _ _ (let l = is.lun in grind (arith, nat_tests))
    ∙ if_false (nat_le s.room (length tasks)) _ _ (grind (arith, nat_tests))
    ∙ ap (refusal_of_cdb s on (begin_upiu s o)) (command_again s o.command serves.opcodes is.fits is.fields is.range)
    ∙ if_false (is_hpb o.command && not on) _ _ (and_off (is_hpb o.command) on switch)
    ∙ if_false (nat_lt (needed s o.command) (needed s o.command)) _ _ (grind (arith, nat_tests))

-- the device keeps it as the task that the driver has in mind
begun_task : (s : Sizes) (o : OpenCommand) → IsProper s o → o.out ≡ false → task_of (begin_upiu s o) o.command ≡ kept_as s (with_begin o)
begun_task s o is waits =
    let f = is.fresh waits in
    ap (λ (n : ℕ). record (task_of (begin_upiu s o) o.command) { asked = n }) (sym f.asked)
    ∙ ap (λ (n : ℕ). record (task_of (begin_upiu s o) o.command) { asked = o.asked; come = take n o.bytes }) (sym f.given)
    ∙ ap (λ (bytes : List ℕ). record (kept_as s (with_begin o)) { sent = length bytes }) (sym f.got)

-- what is said of a send
pub record Sent (s : Sizes) (opens : List OpenCommand) (e : History) : Type 0 where
  pub fits : Fits s (after_next s opens (next_of opens)) (sent_events e (upiu_of_next s (next_of opens)))

-- the next COMMAND goes out
begin_fits : (s : Sizes) (opens : List OpenCommand) (o : OpenCommand) (e : History) → Serves s → Fits s opens e → find is_waiting opens ≡ Some o
    → Fits s (change_first is_waiting with_begin opens) (e ▹ Host (upiu_out (begin_upiu s o)))
begin_fits s opens o e serves fits is =
    let n : IsNext s opens o = next s opens o fits.in_order fits.apart fits.proper is in
    let v : Upiu = begin_upiu s o in
    let h : IsConsistent v = begin_consistent s o n.proper in
    let again : upiu_at (upiu_out v) ≡ v = upiu_at-out v h in
    let kind = ap (λ (u : Upiu). u.kind) again in
    let room : length (tasks_after s e) < s.room =
    let e1 = ap length fits.keeps in let e2 = length-map (filter is_out opens) (kept_as s) in let r = n.room in let r2 = fits.room in let r3 = serves.room in omega (arith, e1, e2, r, r2, r3) in
    let alone : list_any (has_tag o.tag) (tasks_after s e) ≡ false = ap (list_any (has_tag o.tag)) fits.keeps ∙ n.alone in
    let silent : reply_of s (on_after e) (tasks_after s e) (upiu_out v) ≡ None =
    reply_to_kind s (on_after e) (tasks_after s e) (upiu_out v) Command (wire_fault_of-out v h) kind
    ∙ ap (reply_by_kind Command s (on_after e) (tasks_after s e)) again
    ∙ command_stands s opens o (on_after e) (tasks_after s e) serves n.proper fits.switch alone room in
    let kept = kept_of_kind s (on_after e) (tasks_after s e) (upiu_out v) Command kind silent in
    record {
      keeps = kept
          ∙ ap (λ (u : Upiu). with_command (tasks_after s e) u (command_of s u.cdb)) again
          ∙ ap (with_command (tasks_after s e) v) (command_again s o.command serves.opcodes n.proper.fits n.proper.fields n.proper.range)
          ∙ ap (λ (t : Task). tasks_after s e ++ t ∷ []) (begun_task s o n.proper n.waits)
          ∙ ap (λ (ts : List Task). ts ++ kept_as s (with_begin o) ∷ []) fits.keeps
          ∙ sym (map-append (kept_as s) (filter is_out opens) (with_begin o ∷ []))
          ∙ ap (map (kept_as s)) (sym n.leads);
      in_order = begin_in_order opens fits.in_order;
      apart = begin_apart opens fits.apart;
      proper = begin_proper s opens fits.proper;
      room = let l = begin_length opens in let r = fits.room in omega (arith, l, r);
      switch = fits.switch;
      nothing_owed = owes_nothing s e (upiu_out v) silent;
    }

-- a piece of the data that the device has asked for
piece_length : (xs : List ℕ) (a b : ℕ) → a ≤ b → b ≤ length xs → length (slice_range xs a b) ≡ b - a
piece_length xs a b p q = let e = length-drop a xs in length-take-le (b - a) (drop a xs) (omega (arith, e))

pieces_join : (xs : List ℕ) (a b : ℕ) → a ≤ b → take a xs ++ slice_range xs a b ≡ take b xs
pieces_join xs a b p = sym (take-add a (b - a) xs) ∙ ap (λ (n : ℕ). take n xs) (omega arith)

-- the first command has been asked for more than was sent
record Owes (s : Sizes) (h : OpenCommand) : Type 0 where
  out : h.out ≡ true
  owes : owes_data h ≡ true
  more : h.given < h.asked
  after : h.given < piece_end s h
  at_most : piece_end s h ≤ h.given + s.block
  within_asked : piece_end s h ≤ h.asked
  in_bytes : piece_end s h ≤ length h.bytes
  long : length (slice_range h.bytes h.given (piece_end s h)) ≡ piece_end s h - h.given
  come : length (take h.given h.bytes) ≡ h.given

owes_of : (s : Sizes) (h : OpenCommand) → Serves s → IsProper s h → h.out ≡ true → owes_data h ≡ true → Owes s h
owes_of s h serves is out owes =
    let more : h.given < h.asked = grind (arith, nat_tests) in
    let some = serves.block in
    let a = is.asked in
    let b = is.bytes in
    let after : h.given < piece_end s h = omega arith in
    let in_bytes : piece_end s h ≤ length h.bytes = omega arith in
    record {
      out = out;
      owes = owes;
      more = more;
      after = after;
      at_most = omega arith;
      within_asked = omega arith;
      in_bytes = in_bytes;
      long = piece_length h.bytes h.given (piece_end s h) (omega arith) in_bytes;
      come = length-take-le h.given h.bytes (omega arith);
    }

piece_consistent : (s : Sizes) (h : OpenCommand) → Serves s → IsProper s h → Owes s h → IsConsistent (piece_upiu s h)
piece_consistent s h serves is o =
    let l = o.long in let m = o.at_most in let f = serves.block_fits in
    record {
      first = let a = is.asked in let g = is.given in let e = is.expected in omega arith;
      cdb = refl;
      count = sym (big_number-reads_back 4 (length (slice_range h.bytes h.given (piece_end s h))) [] (omega arith));
      value = refl;
      segment = omega arith;
    }

data_stands : (s : Sizes) (h : OpenCommand) (ts : List Task) → Owes s h → data_refusal (kept_as s h ∷ ts) (piece_upiu s h) ≡ None
data_stands s h ts o =
    let l = o.long in let c = o.come in let m = o.more in let w = o.within_asked in let a = o.after in
    let waits : nat_lt (length (take h.given h.bytes)) h.asked ≡ true = grind (arith, nat_tests) in
    let n : ℕ = length (slice_range h.bytes h.given (piece_end s h)) in
    let some : 0 < n = omega arith in
    let fits : length (take h.given h.bytes) + n ≤ h.asked = omega arith in
    if_false _ _ _ (ap not (and_true _ _ waits (and_true _ _ (same_tag h.lun) (same_tag h.tag))))
    ∙ if_true (is_next_piece (kept_as s h) (piece_upiu s h)) _ _
    (and_true _ _ (eq-eqb _ _ (sym c)) (and_true _ _ (same_tag n) (and_true _ _ (nonzero n some) (within _ _ fits))))

piece_proper : (s : Sizes) (h : OpenCommand) → IsProper s h → Owes s h → IsProper s (with_piece s h)
piece_proper s h is o = record {
  lun = is.lun;
  fields = is.fields;
  range = is.range;
  fits = is.fits;
  expected = is.expected;
  bytes = is.bytes;
  asked = is.asked;
  given = o.within_asked;
  whole = is.whole;
  fresh = λ waits. absurd (false≢true (sym waits ∙ o.out));
  serving = is.serving;
  own = is.own;
}

head_keeps : (s : Sizes) (h : OpenCommand) (os : List OpenCommand) → h.out ≡ true → map (kept_as s) (filter is_out (h ∷ os)) ≡ kept_as s h ∷ map (kept_as s) (filter is_out os)
head_keeps s h os out = ap (λ (b : Bool). map (kept_as s) (cond b (h ∷ filter is_out os) (filter is_out os))) out

piece_fits : (s : Sizes) (h : OpenCommand) (os : List OpenCommand) (e : History) → Serves s → Fits s (h ∷ os) e → Owes s h
    → Fits s (with_piece s h ∷ os) (e ▹ Host (upiu_out (piece_upiu s h)))
piece_fits s h os e serves fits o =
    let v : Upiu = piece_upiu s h in
    let c : IsConsistent v = piece_consistent s h serves fits.proper.0 o in
    let again : upiu_at (upiu_out v) ≡ v = upiu_at-out v c in
    let kind = ap (λ (u : Upiu). u.kind) again in
    let ts : List Task = map (kept_as s) (filter is_out os) in
    let tasks : tasks_after s e ≡ kept_as s h ∷ ts = fits.keeps ∙ head_keeps s h os o.out in
    let silent : reply_of s (on_after e) (tasks_after s e) (upiu_out v) ≡ None =
    reply_to_kind s (on_after e) (tasks_after s e) (upiu_out v) DataOut (wire_fault_of-out v c) kind
    ∙ ap (data_refusal (tasks_after s e)) again ∙ ap (λ (t : List Task). data_refusal t v) tasks ∙ data_stands s h ts o in
    let kept = kept_of_kind s (on_after e) (tasks_after s e) (upiu_out v) DataOut kind silent in
    record {
      keeps = kept
          ∙ ap (λ (u : Upiu). after_kept s (tasks_after s e) u DataOut) again
          ∙ ap (λ (t : List Task). after_kept s t v DataOut) tasks
          ∙ ap (λ (bytes : List ℕ). record (kept_as s h) { come = bytes } ∷ ts) (pieces_join h.bytes h.given (piece_end s h) (let a = o.after in omega arith))
          ∙ sym (head_keeps s (with_piece s h) os o.out);
      in_order = fits.in_order;
      apart = fits.apart;
      proper = (piece_proper s h fits.proper.0 o, fits.proper.1);
      room = fits.room;
      switch = fits.switch;
      nothing_owed = owes_nothing s e (upiu_out v) silent;
    }

-- only the first command owes data
record FirstOwes (s : Sizes) (opens : List OpenCommand) (o : OpenCommand) : Type 0 where
  rest : List OpenCommand
  is : opens ≡ o ∷ rest
  out : o.out ≡ true
  owes : owes_data o ≡ true

no_open : (o : OpenCommand) → None ≡ Some o → ⊥
no_open o is = cc

first_owes : (s : Sizes) (opens : List OpenCommand) (o : OpenCommand) → AllByRecursion (IsProper s) opens → OutFirst opens → IsQueue s (map (kept_as s) (filter is_out opens))
    → find owes_data opens ≡ Some o → FirstOwes s opens o
first_owes s [] o proper in_order queue is = absurd (no_open o is)
first_owes s (h ∷ os) o proper in_order queue is = by_out h.out refl queue
  where
    by_owes : h.out ≡ true → find owes_data os ≡ None → (b : Bool) → owes_data h ≡ b → cond b (Some h) (find owes_data os) ≡ Some o → FirstOwes s (h ∷ os) o
    by_owes out none true owes is = let same : h ≡ o = cc in subst (FirstOwes s (h ∷ os)) same (record { rest = os; is = refl; out = out; owes = owes })
    by_owes out none false owes is = absurd (no_open o (sym none ∙ is))

    by_out : (b : Bool) → h.out ≡ b → IsQueue s (map (kept_as s) (cond b (h ∷ filter is_out os) (filter is_out os))) → FirstOwes s (h ∷ os) o
    by_out true out queue = by_owes out (quiet s os proper.1 queue.others_wait) (owes_data h) refl is
    by_out false out queue = absurd (no_open o (sym (quiet_waiting s (h ∷ os) proper (out, in_order.0 out)) ∙ is))

-- a send leaves the driver's commands the device's tasks
pub sends_fit : (s : Sizes) (opens : List OpenCommand) (e : History) → Serves s → Fits s opens e
    → Fits s (after_next s opens (next_of opens)) (sent_events e (upiu_of_next s (next_of opens)))
sends_fit s opens e serves fits = by_owing (find owes_data opens) refl
  where
    by_waiting : (x : Option OpenCommand) → find is_waiting opens ≡ x → Fits s (after_next s opens (next_waiting x)) (sent_events e (upiu_of_next s (next_waiting x)))
    by_waiting (Some o) is = begin_fits s opens o e serves fits is
    by_waiting None is = fits

    by_first : (o : OpenCommand) → FirstOwes s opens o → Fits s (change_first owes_data (with_piece s) opens) (e ▹ Host (upiu_out (piece_upiu s o)))
    by_first o f =
        let head : Fits s (o ∷ f.rest) e = subst (λ (os : List OpenCommand). Fits s os e) f.is fits in
        let changed : change_first owes_data (with_piece s) (o ∷ f.rest) ≡ with_piece s o ∷ f.rest = if_true _ _ _ f.owes in
        subst (λ (os : List OpenCommand). Fits s (change_first owes_data (with_piece s) os) (e ▹ Host (upiu_out (piece_upiu s o)))) (sym f.is)
        (subst (λ (os : List OpenCommand). Fits s os (e ▹ Host (upiu_out (piece_upiu s o)))) (sym changed)
        (piece_fits s o f.rest e serves head (owes_of s o serves head.proper.0 f.out f.owes)))

    by_owing : (x : Option OpenCommand) → find owes_data opens ≡ x → Fits s (after_next s opens (next_owing opens x)) (sent_events e (upiu_of_next s (next_owing opens x)))
    by_owing (Some o) is = by_first o (first_owes s opens o fits.proper fits.in_order (subst (IsQueue s) fits.keeps (queue_after s e)) is)
    by_owing None is = by_waiting (find is_waiting opens) refl
