-- The numbers of an event have room: each byte that a device writes is a byte, where those of the host and of the chip are.
use Rattle.std.proofs.Common.{◌≡◌, ℕ, zero, suc, ◌+◌, ◌-◌, ◌<◌, ◌≤◌, Bool, true, false, not, ◌&&◌, List, [], ◌∷◌, ◌++◌}
use Rattle.std.proofs.Common.{length, replicate, Option, Some, None, Result, Ok, Err, refl, subst, arith, nat_lt}
use Rattle.std.proofs.Common.{nat_le, ◌==◌}
use Rattle.std.specs.Prelude.{filter, map, if◌then◌else◌}
use Rattle.std.proofs.lemmas.List.{length-append, length-replicate}
use Rattle.std.specs.Int.{byte_at, next_multiple_of}
use Rattle.std.specs.List.{AllByRecursion, list_any}
use Rattle.byteorder.specs.Endian.{big_bytes}
use Rattle.hex.specs.Hex.{IsBytes}
use Rattle.hpb_cdb.specs.declared.cdb.Cdb.{Cdb}
use Rattle.hpb_cdb.specs.declared.fault.CdbFault.{CdbFault}
use Rattle.hpb_cdb.proofs.Branches.{either}
use Rattle.hpb_cdb.specs.declared.fault.CdbFault.TheVariants.{Opcode, Field, Range}
use Rattle.hpb_sense.specs.declared.sense.FixedSense.{FixedSense}
use Rattle.hpb_sense.specs.Sense.{fixed_out}
use Rattle.upiu_wire.specs.declared.kind.Kind.{Kind}
use Rattle.upiu_wire.specs.declared.kind.Kind.TheVariants.{NopOut, Command, DataOut, ManageRequest, QueryRequest, NopIn, Response, DataIn, ManageResponse, ReadyToTransfer, QueryResponse, Reject}
use Rattle.upiu_wire.specs.Kind.{code_of}
use Rattle.upiu_wire.specs.declared.fault.WireFault.{WireFault}
use Rattle.upiu_wire.specs.Upiu.{Upiu, header_out, upiu_at, upiu_out}
use Rattle.upiu_wire.specs.WireFault.{number_of, wire_fault_of}
use Rattle.upiu_wire.specs.Written.{blank_upiu, data_upiu, reject_upiu, response_upiu, transfer_upiu}
use Rattle.flat_unit.specs.declared.event.Event.{Event}
use Rattle.flat_unit.specs.declared.event.Event.TheVariants.{Host, Device, Reset, Cleared, Switched, Gone}
use Rattle.flat_unit.specs.Command.{command_of, is_hpb, needed}
use Rattle.flat_unit.specs.History.{History}
use Rattle.flat_unit.specs.Laws.{AreShort, HasRoom, HaveRoom, IsShort}
use Rattle.flat_unit.specs.Manage.{goes, manage_events, manage_reply}
use Rattle.flat_unit.specs.Query.{first_code, idn_of, is_change, on_after_query, query_code, query_effect, query_events, query_reply, query_value, refusals, reset_flag}
use Rattle.flat_unit.specs.Queue.{after_kept, after_reply, after_sent, change_head, on_after, task_of, tasks_after, tasks_changed, with_asked, with_command, with_data, with_sent}
use Rattle.flat_unit.specs.Reply.{check, command_refusal, data_refusal, effects_by_fault, effects_by_kind, effects_of}
use Rattle.flat_unit.specs.Reply.{fault_rejection, has_tag, is_next_piece, not_served, refusal_of_cdb, reply_by_fault}
use Rattle.flat_unit.specs.Reply.{reply_by_kind, reply_of, waits_for_data}
use Rattle.flat_unit.specs.Sends.{Answer, Data, Ask, Good, Check, upiu_of}
use Rattle.flat_unit.specs.Senses.{sense, sense_of_fault}
use Rattle.flat_unit.specs.Sizes.{Sizes}
use Rattle.flat_unit.specs.Sound.{answers_to, reply_events}
use Rattle.flat_unit.specs.Task.{Task}
use Rattle.flat_unit.proofs.queue.Tasks.{all_fewer, all_more}
use Rattle.flat_unit.proofs.queue.Ends.{AreRequested, effects_requested}

-- lists of bytes
pub bytes-cons : (b : ℕ) (xs : List ℕ) → b < 256 → IsBytes xs → IsBytes (b ∷ xs)
bytes-cons b xs fits all zero = fits
bytes-cons b xs fits all (suc i) = all i

pub bytes-nil : IsBytes []
bytes-nil i = omega arith

each_byte : (xs : List ℕ) → AllByRecursion (λ (b : ℕ). b < 256) xs → IsBytes xs
each_byte [] all = bytes-nil
each_byte (x ∷ xs) all = bytes-cons x xs all.0 (each_byte xs all.1)

pub bytes-append : (xs ys : List ℕ) → IsBytes xs → IsBytes ys → IsBytes (xs ++ ys)
bytes-append [] ys left right = right
bytes-append (x ∷ xs) ys left right = bytes-cons x (xs ++ ys) (left zero) (bytes-append xs ys (λ i. left (suc i)) right)

pub bytes-zeros : (n : ℕ) → IsBytes (replicate n 0)
bytes-zeros zero = bytes-nil
bytes-zeros (suc n) = bytes-cons 0 (replicate n 0) (omega arith) (bytes-zeros n)

byte_fits : (i n : ℕ) → byte_at i n < 256
byte_fits zero n = omega arith
byte_fits (suc i) n = omega arith

pub bytes-big_bytes : (n x : ℕ) → IsBytes (big_bytes n x)
bytes-big_bytes zero x = bytes-nil
bytes-big_bytes (suc n) x = bytes-cons (byte_at n x) (big_bytes n x) (byte_fits n x) (bytes-big_bytes n x)

-- each field of one byte has room, and the CDB and the segment are bytes, which are few
pub record HasBytes (v : Upiu) : Type 0 where
  pub flags : v.flags < 256
  pub lun : v.lun < 256
  pub tag : v.tag < 256
  pub function : v.function < 256
  pub response : v.response < 256
  pub status : v.status < 256
  pub cdb : IsBytes v.cdb
  pub segment : IsBytes v.segment
  pub cdb_len : length v.cdb ≡ 16
  pub segment_len : length v.segment ≤ 4096

code_fits : (kind : Kind) → code_of kind < 256
code_fits NopOut = omega arith
code_fits Command = omega arith
code_fits DataOut = omega arith
code_fits ManageRequest = omega arith
code_fits QueryRequest = omega arith
code_fits NopIn = omega arith
code_fits Response = omega arith
code_fits DataIn = omega arith
code_fits ManageResponse = omega arith
code_fits ReadyToTransfer = omega arith
code_fits QueryResponse = omega arith
code_fits Reject = omega arith

-- what is written of it is bytes
abbrev first_ten : Upiu → List ℕ
first_ten v = code_of v.kind ∷ v.flags ∷ v.lun ∷ v.tag ∷ 0 ∷ v.function ∷ v.response ∷ v.status ∷ 0 ∷ 0 ∷ []

ten_bytes : (v : Upiu) → HasBytes v → IsBytes (first_ten v)
ten_bytes v has =
    each_byte (first_ten v)
    (code_fits v.kind, (has.flags, (has.lun, (has.tag, (omega arith, (has.function, (has.response, (has.status, (omega arith, (omega arith, tt))))))))))

header_bytes : (v : Upiu) → HasBytes v → IsBytes (header_out v)
header_bytes v has =
    bytes-append (first_ten v ++ big_bytes 2 (length v.segment)) (big_bytes 4 v.first)
    (bytes-append (first_ten v) (big_bytes 2 (length v.segment)) (ten_bytes v has) (bytes-big_bytes 2 (length v.segment)))
    (bytes-big_bytes 4 v.first)

pub bytes-upiu_out : (v : Upiu) → HasBytes v → IsBytes (upiu_out v)
unfolding upiu_out
bytes-upiu_out v has =
    bytes-append (header_out v ++ v.cdb ++ v.segment) (replicate (next_multiple_of (length v.segment) 4 - length v.segment) 0)
    (bytes-append (header_out v ++ v.cdb) v.segment (bytes-append (header_out v) v.cdb (header_bytes v has) has.cdb) has.segment)
    (bytes-zeros (next_multiple_of (length v.segment) 4 - length v.segment))

-- and these are at most as many as a UPIU of a device has
pub short-upiu_out : (v : Upiu) → HasBytes v → IsShort (Device (upiu_out v))
unfolding upiu_out
short-upiu_out v has =
    let whole = length-append (header_out v ++ v.cdb ++ v.segment) (replicate (next_multiple_of (length v.segment) 4 - length v.segment) 0) in
    let parts = length-append (header_out v ++ v.cdb) v.segment in
    let front = length-append (header_out v) v.cdb in
    let zeros = length-replicate {A = ℕ} (next_multiple_of (length v.segment) 4 - length v.segment) 0 in
    omega (arith, whole, parts, front, zeros, has.cdb_len, has.segment_len)

-- the unit and the tag of a task are bytes
pub record IsNamed (task : Task) : Type 0 where
  pub lun : task.lun < 256
  pub tag : task.tag < 256

-- the codes of fixed sense are bytes
pub record IsSenseOfBytes (sense : FixedSense) : Type 0 where
  pub key : sense.key < 256
  pub asc : sense.asc < 256
  pub ascq : sense.ascq < 256

-- what an answer carries is bytes, and few
abbrev pub CarriesBytes : Answer → Type 0
CarriesBytes (Data bytes) = IsBytes bytes × (length bytes ≤ 4096)
CarriesBytes (Ask count) = Unit {0}
CarriesBytes (Good segment) = IsBytes segment × (length segment ≤ 4096)
CarriesBytes (Check sense) = IsSenseOfBytes sense

-- the UPIUs that a device writes
if_fits : (b : Bool) (x y : ℕ) → x < 256 → y < 256 → (if b then x else y) < 256
if_fits true x y p q = p
if_fits false x y p q = q

pub blank_bytes : (kind : Kind) (lun tag : ℕ) → lun < 256 → tag < 256 → HasBytes (blank_upiu kind lun tag)
blank_bytes kind lun tag lun_fits tag_fits = record {
  flags = omega arith;
  lun = lun_fits;
  tag = tag_fits;
  function = omega arith;
  response = omega arith;
  status = omega arith;
  cdb = bytes-zeros 16;
  segment = bytes-nil;
  cdb_len = refl;
  segment_len = omega arith;
}

pub transfer_bytes : (kind : Kind) (lun tag offset count : ℕ) → lun < 256 → tag < 256 → HasBytes (transfer_upiu kind lun tag offset count)
transfer_bytes kind lun tag offset count lun_fits tag_fits =
    let b = blank_bytes kind lun tag lun_fits tag_fits in
    record {
      flags = b.flags;
      lun = b.lun;
      tag = b.tag;
      function = b.function;
      response = b.response;
      status = b.status;
      cdb = bytes-append (big_bytes 4 count) (replicate 12 0) (bytes-big_bytes 4 count) (bytes-zeros 12);
      segment = b.segment;
      cdb_len = refl;
      segment_len = b.segment_len;
    }

pub data_bytes : (kind : Kind) (lun tag offset : ℕ) (bytes : List ℕ) → lun < 256 → tag < 256 → IsBytes bytes × (length bytes ≤ 4096) → HasBytes (data_upiu kind lun tag offset bytes)
data_bytes kind lun tag offset bytes lun_fits tag_fits fit =
    let b = transfer_bytes kind lun tag offset (length bytes) lun_fits tag_fits in
    record { flags = b.flags; lun = b.lun; tag = b.tag; function = b.function; response = b.response; status = b.status; cdb = b.cdb; segment = fit.0; cdb_len = b.cdb_len; segment_len = fit.1 }

pub response_bytes : (lun tag status residual : ℕ) (segment : List ℕ)
    → lun < 256 → tag < 256 → status < 256 → IsBytes segment × (length segment ≤ 4096) → HasBytes (response_upiu lun tag status residual segment)
response_bytes lun tag status residual segment lun_fits tag_fits status_fits fit = record {
  flags = if_fits (residual == 0) 0 0x20 (omega arith) (omega arith);
  lun = lun_fits;
  tag = tag_fits;
  function = omega arith;
  response = if_fits (status == 0) 0x00 0x01 (omega arith) (omega arith);
  status = status_fits;
  cdb = bytes-zeros 16;
  segment = fit.0;
  cdb_len = refl;
  segment_len = fit.1;
}

pub reject_bytes : (lun tag reason : ℕ) → lun < 256 → tag < 256 → HasBytes (reject_upiu lun tag reason)
reject_bytes lun tag reason lun_fits tag_fits =
    let b = blank_bytes Reject lun tag lun_fits tag_fits in
    record {
      flags = b.flags;
      lun = b.lun;
      tag = b.tag;
      function = b.function;
      response = omega arith;
      status = b.status;
      cdb = b.cdb;
      segment = b.segment;
      cdb_len = b.cdb_len;
      segment_len = b.segment_len;
    }

-- fixed sense is bytes
abbrev first_sixteen : FixedSense → List ℕ
first_sixteen sense = 0 ∷ 18 ∷ 0x70 ∷ 0 ∷ sense.key ∷ 0 ∷ 0 ∷ 0 ∷ 0 ∷ 0x0A ∷ 0 ∷ 0 ∷ 0 ∷ 0 ∷ sense.asc ∷ sense.ascq ∷ []

sixteen_bytes : (sense : FixedSense) → IsSenseOfBytes sense → IsBytes (first_sixteen sense)
sixteen_bytes sense is =
    each_byte (first_sixteen sense) (
      omega arith,
      (
        omega arith,
        (
          omega arith,
          (
            omega arith,
            (
              is.key,
              (omega arith, (omega arith, (omega arith, (omega arith, (omega arith, (omega arith, (omega arith, (omega arith, (omega arith, (is.asc, (is.ascq, tt))))))))))),
            ),
          ),
        ),
      ),
    )

pub fixed_bytes : (sense : FixedSense) → IsSenseOfBytes sense → IsBytes (fixed_out sense)
fixed_bytes sense is = bytes-append (first_sixteen sense) (replicate 4 0) (sixteen_bytes sense is) (bytes-zeros 4)

-- what a step sends
pub has_bytes-upiu_of : (s : Sizes) (task : Task) (a : Answer) → IsNamed task → CarriesBytes a → HasBytes (upiu_of s task a)
has_bytes-upiu_of s task (Data bytes) named carries = data_bytes DataIn task.lun task.tag task.sent bytes named.lun named.tag carries
has_bytes-upiu_of s task (Ask count) named carries = transfer_bytes ReadyToTransfer task.lun task.tag task.asked count named.lun named.tag
has_bytes-upiu_of s task (Good segment) named carries = response_bytes task.lun task.tag 0 _ segment named.lun named.tag (omega arith) carries
has_bytes-upiu_of s task (Check sense) named carries = response_bytes task.lun task.tag 2 _ (fixed_out sense) named.lun named.tag (omega arith) (fixed_bytes sense carries, omega arith)

-- what answers the host's bytes at once
record Written (o : Option Upiu) : Type 0 where
  written : (r : Upiu) → o ≡ Some r → HasBytes r

only_written : (v : Upiu) → HasBytes v → Written (Some v)
only_written v has = record { written = λ r is. let same : v ≡ r = cc in subst HasBytes same has }

none_written : Written None
none_written = record { written = λ r is. absurd (no_reply r is) }
  where
    no_reply : (r : Upiu) → None ≡ Some r → ⊥
    no_reply r is = cc

-- the fields of a UPIU that a reply takes over
record Told (v : Upiu) : Type 0 where
  lun : v.lun < 256
  tag : v.tag < 256
  function : v.function < 256

told_by : (bytes : List ℕ) → IsBytes bytes → Told (upiu_at bytes)
unfolding upiu_at
told_by bytes all = record { lun = all 2; tag = all 3; function = all 5 }

sense_fits : (v : Upiu) (residual : ℕ) (sense : FixedSense) → Told v → IsSenseOfBytes sense → Written (Some (check v.lun v.tag residual sense))
sense_fits v residual sense told is = only_written _ (response_bytes v.lun v.tag 2 residual (fixed_out sense) told.lun told.tag (omega arith) (fixed_bytes sense is, omega arith))

rejects : (v : Upiu) (reason : ℕ) → Told v → Written (Some (reject_upiu v.lun v.tag reason))
rejects v reason told = only_written _ (reject_bytes v.lun v.tag reason told.lun told.tag)

small_sense : (k c : ℕ) → k < 256 → c < 256 → IsSenseOfBytes (sense k c)
small_sense k c p q = record { key = p; asc = q; ascq = omega arith }

of_fault : (fault : CdbFault) → IsSenseOfBytes (sense_of_fault fault)
of_fault Opcode = small_sense 0x5 0x20 (omega arith) (omega arith)
of_fault Field = small_sense 0x5 0x24 (omega arith) (omega arith)
of_fault Range = small_sense 0x5 0x21 (omega arith) (omega arith)

command_written : (s : Sizes) (on : Bool) (tasks : List Task) (v : Upiu) → Told v → Written (command_refusal s on tasks v)
command_written s on tasks v told =
    either Written (list_any (has_tag v.tag) tasks) (λ _. rejects v 8 told) (λ _.
    either Written (nat_le s.luns v.lun) (λ _. sense_fits v v.first (sense 0x5 0x25) told (small_sense 0x5 0x25 (omega arith) (omega arith))) (λ _.
    either Written (nat_le s.room (length tasks))
    (λ _. only_written _ (response_bytes v.lun v.tag 0x28 v.first [] told.lun told.tag (omega arith) (bytes-nil, omega arith))) (λ _.
    by_cdb (command_of s v.cdb))))
  where
    by_cdb : (r : Result Cdb CdbFault) → Written (refusal_of_cdb s on v r)
    by_cdb (Err fault) = sense_fits v v.first (sense_of_fault fault) told (of_fault fault)
    by_cdb (Ok command) =
        either Written (is_hpb command && not on) (λ _. sense_fits v v.first (sense 0x5 0x20) told (small_sense 0x5 0x20 (omega arith) (omega arith))) (λ _.
        either Written (nat_lt v.first (needed s command))
        (λ _. sense_fits v v.first (sense 0x5 0x24) told (small_sense 0x5 0x24 (omega arith) (omega arith))) (λ _. none_written))

data_written : (tasks : List Task) (v : Upiu) → Told v → Written (data_refusal tasks v)
data_written [] v told = rejects v 9 told
data_written (task ∷ others) v told =
    either Written (not (waits_for_data task && ((task.lun == v.lun) && (task.tag == v.tag)))) (λ _. rejects v 9 told) (λ _.
    either Written (is_next_piece task v) (λ _. none_written)
    (λ _. sense_fits v (task.expected - length task.come) (sense 0xB 0x4B) told (small_sense 0xB 0x4B (omega arith) (omega arith))))

first_code_fits : (tests : List (Bool × ℕ)) → AllByRecursion (λ (t : Bool × ℕ). t.1 < 256) tests → first_code tests < 256
first_code_fits [] all = omega arith
first_code_fits (t ∷ tests) all = if_fits t.0 t.1 (first_code tests) all.0 (first_code_fits tests all.1)

query_written : (on : Bool) (v : Upiu) → Told v → HasBytes (query_reply on v)
query_written on v told = record {
  flags = omega arith;
  lun = omega arith;
  tag = told.tag;
  function = told.function;
  response = first_code_fits (refusals v) (omega arith, (omega arith, (omega arith, (omega arith, (omega arith, (omega arith, tt))))));
  status = omega arith;
  cdb = bytes-append (replicate 4 0 ++ big_bytes 4 (query_value on v)) (replicate 8 0)
      (bytes-append (replicate 4 0) (big_bytes 4 (query_value on v)) (bytes-zeros 4) (bytes-big_bytes 4 (query_value on v))) (bytes-zeros 8);
  segment = bytes-nil;
  cdb_len = refl;
  segment_len = omega arith;
}

managed : (s : Sizes) (tasks : List Task) (v : Upiu) → Told v → HasBytes (manage_reply s tasks v)
managed s tasks v told =
    let b = blank_bytes ManageResponse v.lun v.tag told.lun told.tag in
    record {
      flags = b.flags;
      lun = b.lun;
      tag = b.tag;
      function = b.function;
      response = b.response;
      status = b.status;
      cdb = b.cdb;
      segment = b.segment;
      cdb_len = b.cdb_len;
      segment_len = b.segment_len;
    }

kind_written : (kind : Kind) (s : Sizes) (on : Bool) (tasks : List Task) (v : Upiu) → Told v → Written (reply_by_kind kind s on tasks v)
kind_written NopOut s on tasks v told = only_written _ (blank_bytes NopIn 0 v.tag (omega arith) told.tag)
kind_written Command s on tasks v told = command_written s on tasks v told
kind_written DataOut s on tasks v told = data_written tasks v told
kind_written QueryRequest s on tasks v told = elim s.queries as (λ b. Written (Some (if b then query_reply on v else not_served v))) [
  | true ↦ only_written _ (query_written on v told)
  | false ↦ rejects v 7 told
]
kind_written ManageRequest s on tasks v told = elim s.manages as (λ b. Written (Some (if b then manage_reply s tasks v else not_served v))) [
  | true ↦ only_written _ (managed s tasks v told)
  | false ↦ rejects v 7 told
]
kind_written _ s on tasks v told = rejects v 7 told

fault_written : (bytes : List ℕ) (reason : ℕ) → IsBytes bytes → Written (Some (fault_rejection bytes reason))
fault_written (a ∷ b ∷ lun ∷ tag ∷ rest) reason all = only_written _ (reject_bytes lun tag reason (all 2) (all 3))
fault_written (a ∷ b ∷ lun ∷ []) reason all = only_written _ (reject_bytes 0 0 reason (omega arith) (omega arith))
fault_written (a ∷ b ∷ []) reason all = only_written _ (reject_bytes 0 0 reason (omega arith) (omega arith))
fault_written (a ∷ []) reason all = only_written _ (reject_bytes 0 0 reason (omega arith) (omega arith))
fault_written [] reason all = only_written _ (reject_bytes 0 0 reason (omega arith) (omega arith))

pub has_bytes-reply_of : (s : Sizes) (on : Bool) (tasks : List Task) (bytes : List ℕ) (v : Upiu) → IsBytes bytes → reply_of s on tasks bytes ≡ Some v → HasBytes v
unfolding reply_of
has_bytes-reply_of s on tasks bytes v all is = (by_fault (wire_fault_of bytes)).written v is
  where
    by_fault : (fault : Option WireFault) → Written (reply_by_fault s on tasks bytes fault)
    by_fault (Some fault) = fault_written bytes (number_of fault) all
    by_fault None = kind_written (upiu_at bytes).kind s on tasks (upiu_at bytes) (told_by bytes all)

-- the tasks that are kept have a unit and a tag of one byte each
abbrev pub AreNamed : List Task → Type 0
AreNamed tasks = AllByRecursion IsNamed tasks

host_named : (s : Sizes) (on : Bool) (tasks : List Task) (bytes : List ℕ) → IsBytes bytes → AreNamed tasks → AreNamed (tasks_changed s on tasks (Host bytes))
host_named s on tasks bytes room all = by_reply (reply_of s on tasks bytes)
  where
    told : Told (upiu_at bytes)
    told = told_by bytes room

    by_cdb : (r : Result Cdb CdbFault) → AreNamed (with_command tasks (upiu_at bytes) r)
    by_cdb (Ok command) = all_more IsNamed tasks (task_of (upiu_at bytes) command) all (record { lun = told.lun; tag = told.tag })
    by_cdb (Err fault) = all

    by_head : (ts : List Task) → AreNamed ts → AreNamed (change_head (with_data (upiu_at bytes).segment) ts)
    by_head [] all = tt
    by_head (task ∷ others) all = (record { lun = all.0.lun; tag = all.0.tag }, all.1)

    by_kind : (k : Kind) → AreNamed (after_kept s tasks (upiu_at bytes) k)
    by_kind Command = by_cdb (command_of s (upiu_at bytes).cdb)
    by_kind DataOut = by_head tasks all
    by_kind _ = all

    by_reply : (r : Option Upiu) → AreNamed (after_reply s tasks (upiu_at bytes) r)
    by_reply (Some v) = all
    by_reply None = by_kind (upiu_at bytes).kind

if_sent : (b : Bool) (n : ℕ) (task : Task) → IsNamed task → IsNamed (if b then with_sent n task else task)
if_sent true n task is = record { lun = is.lun; tag = is.tag }
if_sent false n task is = is

if_asked : (b : Bool) (n : ℕ) (task : Task) → IsNamed task → IsNamed (if b then with_asked n task else task)
if_asked true n task is = record { lun = is.lun; tag = is.tag }
if_asked false n task is = is

device_named : (v : Upiu) (kind : Kind) (tasks : List Task) → AreNamed tasks → AreNamed (after_sent v kind tasks)
device_named v DataIn [] all = tt
device_named v DataIn (task ∷ others) all = (if_sent (has_tag v.tag task) v.count task all.0, all.1)
device_named v ReadyToTransfer [] all = tt
device_named v ReadyToTransfer (task ∷ others) all = (if_asked (has_tag v.tag task) (v.first + v.count) task all.0, all.1)
device_named v Response tasks all = all_fewer IsNamed (λ (t : Task). not (has_tag v.tag t)) tasks all
device_named v _ tasks all = all

pub tasks_named : (s : Sizes) (e : History) → HaveRoom e → AreNamed (tasks_after s e)
tasks_named s [] room = tt
tasks_named s (Host bytes ∷ e) room = host_named s (on_after e) (tasks_after s e) bytes room.0 (tasks_named s e room.1)
tasks_named s (Device bytes ∷ e) room = device_named (upiu_at bytes) (upiu_at bytes).kind (tasks_after s e) (tasks_named s e room.1)
tasks_named s (Gone tag ∷ e) room = all_fewer IsNamed (λ (t : Task). not (has_tag tag t)) (tasks_after s e) (tasks_named s e room.1)
tasks_named s (Reset ∷ e) room = tt
tasks_named s (_ ∷ e) room = tasks_named s e room.1

-- the events that answer bytes of the host have room, and their bytes are few
gone_room : (tasks : List Task) → AreNamed tasks → AllByRecursion HasRoom (map (λ (task : Task). Gone task.tag) tasks)
gone_room [] all = tt
gone_room (task ∷ tasks) all = (all.0.tag, gone_room tasks all.1)

if_all : (P : Event → Type 0) (b : Bool) (xs ys : List Event) → AllByRecursion P xs → AllByRecursion P ys → AllByRecursion P (if b then xs else ys)
if_all P true xs ys p q = p
if_all P false xs ys p q = q

effects_room : (kind : Kind) (s : Sizes) (on : Bool) (tasks : List Task) (v : Upiu) → AreNamed tasks → AllByRecursion HasRoom (effects_by_kind kind s on tasks v)
effects_room QueryRequest s on tasks v all =
    if_all HasRoom s.queries (query_events on v) [] (if_all HasRoom (query_code v == 0) (query_effect on v) []
    (if_all HasRoom (is_change v) (if idn_of v == reset_flag then Cleared ∷ [] else Switched (on_after_query on v) ∷ []) []
    (if_all HasRoom (idn_of v == reset_flag) (Cleared ∷ []) (Switched (on_after_query on v) ∷ []) (tt, tt) (tt, tt)) tt) tt) tt
effects_room ManageRequest s on tasks v all =
    if_all HasRoom s.manages (manage_events s tasks v) [] (gone_room (filter (goes s v) tasks) (all_fewer IsNamed (goes s v) tasks all)) tt
effects_room _ s on tasks v all = tt

pub room-effects_of : (s : Sizes) (on : Bool) (tasks : List Task) (bytes : List ℕ) → AreNamed tasks → AllByRecursion HasRoom (effects_of s on tasks bytes)
unfolding effects_of
room-effects_of s on tasks bytes all = by_fault (wire_fault_of bytes)
  where
    by_fault : (fault : Option WireFault) → AllByRecursion HasRoom (effects_by_fault s on tasks bytes fault)
    by_fault (Some fault) = tt
    by_fault None = effects_room (upiu_at bytes).kind s on tasks (upiu_at bytes) all

pub have_room-answers_to : (s : Sizes) (on : Bool) (tasks : List Task) (bytes : List ℕ) → IsBytes bytes → AreNamed tasks → HaveRoom (answers_to s on tasks bytes)
have_room-answers_to s on tasks bytes room all = by_reply (reply_of s on tasks bytes) refl
  where
    by_reply : (r : Option Upiu) → reply_of s on tasks bytes ≡ r → HaveRoom (reply_events (effects_of s on tasks bytes) r)
    by_reply (Some v) is = (bytes-upiu_out v (has_bytes-reply_of s on tasks bytes v room is), room-effects_of s on tasks bytes all)
    by_reply None is = tt

requested_short : (xs : List Event) → AreRequested xs → AreShort xs
requested_short [] all = tt
requested_short (Host bytes ∷ xs) all = absurd all.0
requested_short (Device bytes ∷ xs) all = absurd all.0
requested_short (_ ∷ xs) all = (tt, requested_short xs all.1)

pub are_short-answers_to : (s : Sizes) (on : Bool) (tasks : List Task) (bytes : List ℕ) → IsBytes bytes → AreShort (answers_to s on tasks bytes)
are_short-answers_to s on tasks bytes room = by_reply (reply_of s on tasks bytes) refl
  where
    by_reply : (r : Option Upiu) → reply_of s on tasks bytes ≡ r → AreShort (reply_events (effects_of s on tasks bytes) r)
    by_reply (Some v) is = (short-upiu_out v (has_bytes-reply_of s on tasks bytes v room is), requested_short (effects_of s on tasks bytes) (effects_requested s on tasks bytes))
    by_reply None is = tt
