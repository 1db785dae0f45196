-- What the definitions say of a history with one more event, or with the events of one call.
use Rattle.std.proofs.Common.{Option, IsTrue, ◌≡◌, ℕ, ◌+◌, ◌^◌, ◌<◌, ◌≤◌, List, [], ◌∷◌, ◌++◌, length, Bool, not, ◌&&◌}
use Rattle.std.proofs.Common.{nat_le, Some, None, true, false, inl, inr, arith, refl, sym, ◌∙◌, ap, subst, drop}
use Rattle.std.proofs.lemmas.List.{append_assoc, append-nil}
use Rattle.std.proofs.lemmas.Bool.Decides.{nat_tests}
use Rattle.std.specs.Prelude.{flat_map, is_some, if◌then◌else◌}
use Rattle.std.specs.List.{AllByRecursion}
use Rattle.byteorder.specs.Numbers.{big_number-reads_back}
use Rattle.upiu_wire.specs.declared.kind.Kind.{Kind}
use Rattle.upiu_wire.specs.declared.kind.Kind.TheVariants.{NopOut, Command, DataOut, ManageRequest, QueryRequest, DataIn, ReadyToTransfer}
use Rattle.upiu_wire.specs.Upiu.{Upiu, IsConsistent, upiu_at, upiu_out}
use Rattle.upiu_wire.specs.WireFault.{wire_fault_of, number_of}
use Rattle.upiu_wire.specs.declared.fault.WireFault.{WireFault}
use Rattle.upiu_wire.specs.Written.{transfer_upiu, data_upiu, response_upiu, reject_upiu}
use Rattle.upiu_wire.proofs.Reading.{upiu_at-upiu, wire_fault_of-upiu}
use Rattle.upiu_wire.proofs.Writing.{reads-upiu_out}
use Rattle.flat_unit.specs.Causes.{FailuresAre, failures, sense_code}
use Rattle.flat_unit.specs.declared.event.Event.{Event}
use Rattle.flat_unit.specs.declared.event.Event.TheVariants.{Host, Device, Failed}
use Rattle.flat_unit.specs.History.{History, ◌▹◌, followed_by}
use Rattle.flat_unit.specs.Laws.{AreShort, HasRoom, HaveRoom, IsShort}
use Rattle.flat_unit.specs.Manage.{manage_events}
use Rattle.flat_unit.specs.Query.{query_events}
use Rattle.flat_unit.specs.Sizes.{Sizes}
use Rattle.flat_unit.specs.Task.{Task}
use Rattle.flat_unit.specs.Trace.{Line}
use Rattle.flat_unit.specs.Reply.{fault_rejection, not_served, reply_by_kind, reply_by_fault, reply_of, effects_by_kind, effects_by_fault, effects_of}
use Rattle.flat_unit.specs.Queue.{after_kept, after_reply, on_after, tasks_changed, tasks_after, at_rest}
use Rattle.flat_unit.specs.Contents.{Block}
use Rattle.flat_unit.specs.Sound.{owed, reply_events, Comes, MayCome, SoundSoFar, Sound}
use Rattle.flat_unit.specs.Print.{print, line_of}
use Rattle.flat_unit.specs.Replays.{Progress, Group, LineTo, Replays, StepTo, stepped, is_due, may_be_silent, tasks_at}

-- a UPIU that is written is read again
pub upiu_at-out : (v : Upiu) → IsConsistent v → upiu_at (upiu_out v) ≡ v
upiu_at-out v h = upiu_at-upiu (upiu_out v) v (reads-upiu_out v h)

pub wire_fault_of-out : (v : Upiu) → IsConsistent v → wire_fault_of (upiu_out v) ≡ None
wire_fault_of-out v h = wire_fault_of-upiu (upiu_out v) v (reads-upiu_out v h)

-- what devices write is consistent
pub response-consistent : (lun tag status residual : ℕ) (segment : List ℕ) → residual < 2 ^ 32 → length segment < 2 ^ 16 → IsConsistent (response_upiu lun tag status residual segment)
response-consistent lun tag status residual segment residual_fits segment_fits =
    record { first = residual_fits; cdb = refl; count = refl; value = refl; segment = segment_fits }

pub reject-consistent : (lun tag reason : ℕ) → reason < 256 → IsConsistent (reject_upiu lun tag reason)
reject-consistent lun tag reason fits =
    record { first = omega arith; cdb = refl; count = refl; value = refl; segment = omega arith }

pub data-consistent : (lun tag offset : ℕ) (bytes : List ℕ) → offset < 2 ^ 32 → length bytes < 2 ^ 16 → IsConsistent (data_upiu DataIn lun tag offset bytes)
data-consistent lun tag offset bytes offset_fits bytes_fit = record {
  first = offset_fits;
  cdb = refl;
  count = sym (big_number-reads_back 4 (length bytes) [] (omega arith));
  value = refl;
  segment = bytes_fit;
}

pub ready-consistent : (lun tag offset count : ℕ) → offset < 2 ^ 32 → count < 2 ^ 32 → IsConsistent (transfer_upiu ReadyToTransfer lun tag offset count)
ready-consistent lun tag offset count offset_fits count_fits = record {
  first = offset_fits;
  cdb = refl;
  count = sym (big_number-reads_back 4 count [] count_fits);
  value = refl;
  segment = omega arith;
}

pub print-▹ : (e : History) (x : Event) → print (e ▹ x) ≡ print e ++ line_of x
unfolding print
print-▹ e x = refl

-- what the newest bytes of the host owe
pub owes_reply : (s : Sizes) (e : History) (bytes : List ℕ) (v : Upiu) → reply_of s (on_after e) (tasks_after s e) bytes ≡ Some v → owed s (e ▹ Host bytes) ≡ Device (upiu_out v)
    ∷ effects_of s (on_after e) (tasks_after s e) bytes
owes_reply s e bytes v is = ap (reply_events (effects_of s (on_after e) (tasks_after s e) bytes)) is

pub owes_nothing : (s : Sizes) (e : History) (bytes : List ℕ) → reply_of s (on_after e) (tasks_after s e) bytes ≡ None → owed s (e ▹ Host bytes) ≡ []
owes_nothing s e bytes is = ap (reply_events (effects_of s (on_after e) (tasks_after s e) bytes)) is

-- an event that nothing owes goes on a sound history
pub comes : (s : Sizes) (u : List Block) (e : History) (x : Event) → Sound s u e → MayCome s u e x → SoundSoFar s u (e ▹ x)
comes s u e x sound may = (sound.so_far, subst (λ (due : List Event). Comes s u e due x) (sym sound.nothing_owed) may)

pub received_kept : (s : Sizes) (u : List Block) (e : History) (bytes : List ℕ) → Sound s u e → reply_of s (on_after e) (tasks_after s e) bytes ≡ None → Sound s u (e ▹ Host bytes)
received_kept s u e bytes sound is = record { so_far = comes s u e (Host bytes) sound tt; nothing_owed = owes_nothing s e bytes is }

-- an event that is owed goes on a history that is sound so far
pub owed_comes : (s : Sizes) (u : List Block) (e : History) (x : Event) (rest : List Event) → SoundSoFar s u e → owed s e ≡ x ∷ rest → SoundSoFar s u (e ▹ x)
owed_comes s u e x rest so_far is = (so_far, subst (λ (due : List Event). Comes s u e due x) (sym is) refl)

pub received_answered : (s : Sizes) (u : List Block) (e : History) (bytes : List ℕ) (v : Upiu) → Sound s u e → reply_of s (on_after e) (tasks_after s e) bytes ≡ Some v
    → effects_of s (on_after e) (tasks_after s e) bytes ≡ [] → Sound s u (e ▹ Host bytes ▹ Device (upiu_out v))
received_answered s u e bytes v sound is none = record {
  so_far = owed_comes s u (e ▹ Host bytes) (Device (upiu_out v)) _ (comes s u e (Host bytes) sound tt) (owes_reply s e bytes v is);
  nothing_owed = ap (λ (due : List Event). drop 1 due) (owes_reply s e bytes v is) ∙ none;
}

-- what a step sends goes on a sound history
pub sent_sound : (s : Sizes) (u : List Block) (e : History) (bytes : List ℕ) → Sound s u e → MayCome s u e (Device bytes) → Sound s u (e ▹ Device bytes)
sent_sound s u e bytes sound may = record { so_far = comes s u e (Device bytes) sound may; nothing_owed = ap (λ (due : List Event). drop 1 due) sound.nothing_owed }

-- one more line
pub replays_more : (s : Sizes) (lines : List Line) (line : Line) (p mid now : Progress) → Replays s lines p mid → LineTo s line mid now → Replays s (lines ++ line ∷ []) p now
replays_more s [] line p mid now is step = (now, subst (λ (q : Progress). LineTo s line q now) is step, refl)
replays_more s (l ∷ lines) line p mid now r step = (r.0, r.1, replays_more s lines line r.0 mid now r.2 step)

-- what answers bytes that are no UPIU
pub reply_to_fault : (s : Sizes) (on : Bool) (tasks : List Task) (bytes : List ℕ) (fault : WireFault) → wire_fault_of bytes ≡ Some fault
    → reply_of s on tasks bytes ≡ Some (fault_rejection bytes (number_of fault))
unfolding reply_of
reply_to_fault s on tasks bytes fault is = ap (reply_by_fault s on tasks bytes) is

pub no_effects_of_fault : (s : Sizes) (on : Bool) (tasks : List Task) (bytes : List ℕ) (fault : WireFault) → wire_fault_of bytes ≡ Some fault → effects_of s on tasks bytes ≡ []
unfolding effects_of
no_effects_of_fault s on tasks bytes fault is = ap (effects_by_fault s on tasks bytes) is

-- what answers a UPIU of a kind
pub reply_to_kind : (s : Sizes) (on : Bool) (tasks : List Task) (bytes : List ℕ) (kind : Kind) → wire_fault_of bytes ≡ None → (upiu_at bytes).kind ≡ kind
    → reply_of s on tasks bytes ≡ reply_by_kind kind s on tasks (upiu_at bytes)
unfolding reply_of
reply_to_kind s on tasks bytes kind is same = ap (reply_by_fault s on tasks bytes) is ∙ ap (λ (k : Kind). reply_by_kind k s on tasks (upiu_at bytes)) same

pub effects_of_kind : (s : Sizes) (on : Bool) (tasks : List Task) (bytes : List ℕ) (kind : Kind) → wire_fault_of bytes ≡ None → (upiu_at bytes).kind ≡ kind
    → effects_of s on tasks bytes ≡ effects_by_kind kind s on tasks (upiu_at bytes)
unfolding effects_of
effects_of_kind s on tasks bytes kind is same = ap (effects_by_fault s on tasks bytes) is ∙ ap (λ (k : Kind). effects_by_kind k s on tasks (upiu_at bytes)) same

-- what is kept of a UPIU of a kind that nothing answers
pub kept_of_kind : (s : Sizes) (on : Bool) (tasks : List Task) (bytes : List ℕ) (kind : Kind) → (upiu_at bytes).kind ≡ kind → reply_of s on tasks bytes ≡ None
    → tasks_changed s on tasks (Host bytes) ≡ after_kept s tasks (upiu_at bytes) kind
kept_of_kind s on tasks bytes kind same silent = ap (after_reply s tasks (upiu_at bytes)) silent ∙ ap (λ (k : Kind). after_kept s tasks (upiu_at bytes) k) same

-- a UPIU of a kind that is not served
pub other_kind : (kind : Kind) (s : Sizes) (on : Bool) (tasks : List Task) (v : Upiu) → (kind ≡ NopOut → ⊥) → (kind ≡ Command → ⊥) → (kind ≡ DataOut → ⊥) → s.queries ≡ false → s.manages ≡ false
    → reply_by_kind kind s on tasks v ≡ Some (not_served v)
other_kind NopOut s on tasks v no_nop no_command no_data no_queries no_manages = absurd (no_nop refl)
other_kind Command s on tasks v no_nop no_command no_data no_queries no_manages = absurd (no_command refl)
other_kind DataOut s on tasks v no_nop no_command no_data no_queries no_manages = absurd (no_data refl)
other_kind QueryRequest s on tasks v no_nop no_command no_data no_queries no_manages = rw no_queries refl
other_kind ManageRequest s on tasks v no_nop no_command no_data no_queries no_manages = rw no_manages refl
other_kind _ s on tasks v no_nop no_command no_data no_queries no_manages = refl

-- several events are printed one after another
pub print-followed_by : (e : History) (xs : List Event) → print (followed_by e xs) ≡ print e ++ flat_map line_of xs
print-followed_by e [] = sym (append-nil (print e))
print-followed_by e (x ∷ xs) = print-followed_by (e ▹ x) xs ∙ (ap (λ (l : List ℕ). l ++ flat_map line_of xs) (print-▹ e x) ∙ append_assoc (print e) (line_of x) (flat_map line_of xs))

-- the failures of several events are added up
pub failures-followed_by : (e : History) (xs : List Event) → failures (followed_by e xs) ≡ failures e + failures (followed_by [] xs)
failures-followed_by e [] = omega arith
failures-followed_by e (Failed op ∷ xs) = omega (arith, failures-followed_by (e ▹ Failed op) xs, failures-followed_by ([] ▹ Failed op) xs)
failures-followed_by e (x ∷ xs) = failures-followed_by (e ▹ x) xs ∙ omega (arith, failures-followed_by ([] ▹ x) xs)

-- a count of faults that rises by the failures of a history, and then by those of several events
pub failures_are-followed_by : (a b c : ℕ) (e : History) (xs : List Event) → FailuresAre a b e → FailuresAre b c (followed_by [] xs) → FailuresAre a c (followed_by e xs)
failures_are-followed_by a b c e xs before after =
    let e = failures-followed_by e xs in
    record { least = omega (arith, before.least, before.most, after.least, after.most); most = omega (arith, before.most, after.most) }

-- what holds of each event holds of each of more events
all-followed_by : (P : Event → Type 0) (e : History) (xs : List Event) → AllByRecursion P e → AllByRecursion P xs → AllByRecursion P (followed_by e xs)
all-followed_by P e [] before after = before
all-followed_by P e (x ∷ xs) before after = all-followed_by P (e ▹ x) xs (after.0, before) after.1

pub have_room-followed_by : (e : History) (xs : List Event) → HaveRoom e → HaveRoom xs → HaveRoom (followed_by e xs)
have_room-followed_by e xs before after = all-followed_by HasRoom e xs before after

pub are_short-followed_by : (e : History) (xs : List Event) → AreShort e → AreShort xs → AreShort (followed_by e xs)
are_short-followed_by e xs before after = all-followed_by IsShort e xs before after

-- a step that is due and sends
pub due_step : (s : Sizes) (p : Progress) (g : Group) (bytes : List ℕ) → is_due s p ≡ true → g.moved ≡ None → g.sent ≡ Some bytes → StepTo s p (stepped s p g)
due_step s p g bytes due unmoved sent = record {
  group = g;
  is_group = inr unmoved;
  timely = rw due (λ silent. absurd (no_bytes (sym silent ∙ sent)));
  leads = refl;
}
  where
    no_bytes : {bytes : List ℕ} → None ≡ Some bytes → ⊥
    no_bytes is = cc

-- a device that looks at no page is due wherever its tasks can go on
pub due_at_once : (s : Sizes) (p : Progress) → s.pages ≡ 0 → at_rest (tasks_at s p) ≡ false → is_due s p ≡ true
due_at_once s p none going =
    let looked : nat_le s.pages p.quiet ≡ true = grind (arith, nat_tests) in
    ap (λ (b : Bool). not b && nat_le s.pages p.quiet) going ∙ looked

-- a step that isn't due may look at the chip, and sends nothing but that such a look failed
pub early_step : (s : Sizes) (p : Progress) (g : Group) → is_due s p ≡ false → g.moved ≡ None
    → ((bytes : List ℕ) → g.sent ≡ Some bytes → IsTrue (is_some g.failed) × (sense_code bytes ≡ Some 0x44)) → StepTo s p (stepped s p g)
early_step s p g early unmoved sends = record { group = g; is_group = inr unmoved; timely = rw early sends; leads = refl }

-- a device that has looked at fewer pages than it has to isn't due
pub due_later : (s : Sizes) (p : Progress) → p.quiet < s.pages → is_due s p ≡ false
due_later s p fewer =
    let more : nat_le s.pages p.quiet ≡ false = grind (arith, nat_tests) in
    ap (λ (b : Bool). not (at_rest (tasks_at s p)) && b) more ∙ and_false (not (at_rest (tasks_at s p)))
  where
    and_false : (b : Bool) → (b && false) ≡ false
    and_false true = refl
    and_false false = refl

-- and it is due once it has, where its tasks can go on
pub due_now : (s : Sizes) (p : Progress) → s.pages ≤ p.quiet → at_rest (tasks_at s p) ≡ false → is_due s p ≡ true
due_now s p whole going =
    let looked : nat_le s.pages p.quiet ≡ true = grind (arith, nat_tests) in
    ap (λ (b : Bool). not b && nat_le s.pages p.quiet) going ∙ looked

-- a step that is due and sends nothing programs or collects, or tries an entry for the first time
pub silent_step : (s : Sizes) (p : Progress) (g : Group) → is_due s p ≡ true → g.moved ≡ None → IsTrue (may_be_silent s p) → StepTo s p (stepped s p g)
silent_step s p g due unmoved may = record { group = g; is_group = inr unmoved; timely = rw due (λ _. may); leads = refl }

-- a step that is due may move a page and do nothing else, where it may be silent
pub moving_step : (s : Sizes) (p : Progress) (g : Group) → is_due s p ≡ true → g.failed ≡ None → g.sent ≡ None → IsTrue (may_be_silent s p) → StepTo s p (stepped s p g)
moving_step s p g due whole silent may = record { group = g; is_group = inl (whole, silent); timely = rw due (λ _. may); leads = refl }

-- a step where nothing can go on
pub idle_step : (s : Sizes) (p : Progress) (g : Group) → at_rest (tasks_at s p) ≡ true → g.moved ≡ None → g.sent ≡ None → StepTo s p (stepped s p g)
idle_step s p g rests unmoved silent = record {
  group = g;
  is_group = inr unmoved;
  timely = rw (ap (λ (b : Bool). not b && nat_le s.pages p.quiet) rests) (λ bytes sends. absurd (no_bytes (sym silent ∙ sends)));
  leads = refl;
}
  where
    no_bytes : {bytes : List ℕ} → None ≡ Some bytes → ⊥
    no_bytes is = cc

-- where neither query nor task management requests are served, only replies follow the host's bytes
pub no_effects : (s : Sizes) (on : Bool) (tasks : List Task) (bytes : List ℕ) → s.queries ≡ false → s.manages ≡ false → effects_of s on tasks bytes ≡ []
unfolding effects_of
no_effects s on tasks bytes no_queries no_manages = by_fault (wire_fault_of bytes)
  where
    by_kind : (kind : Kind) → effects_by_kind kind s on tasks (upiu_at bytes) ≡ []
    by_kind QueryRequest = ap (λ (b : Bool). if b then query_events on (upiu_at bytes) else []) no_queries
    by_kind ManageRequest = ap (λ (b : Bool). if b then manage_events s tasks (upiu_at bytes) else []) no_manages
    by_kind _ = refl

    by_fault : (fault : Option WireFault) → effects_by_fault s on tasks bytes fault ≡ []
    by_fault (Some fault) = refl
    by_fault None = by_kind (upiu_at bytes).kind
