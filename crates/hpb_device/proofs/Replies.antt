-- What answers the host, by the tasks of a history that the device keeps.
use Rattle.std.proofs.Common.{◌≡◌, ℕ, ◌+◌, ◌-◌, ◌*◌, ◌^◌, ◌<◌, ◌≤◌, ◌==◌, Bool, true, false, not, ◌&&◌, ◌||◌, nat_lt}
use Rattle.std.proofs.Common.{nat_le, List, [], ◌∷◌, map, length, suc, Some, None, Result, Ok, Err, refl, sym, ◌∙◌, ap}
use Rattle.std.proofs.Common.{subst, arith, add-zero, zero-add}
use Rattle.std.proofs.lemmas.Bool.Decides.{nat_tests}
use Rattle.std.specs.List.{list_any}
use Rattle.flash_pages.specs.declared.chip.Geometry.{Geometry}
use Rattle.hpb_cdb.specs.declared.cdb.Cdb.{Cdb}
use Rattle.hpb_cdb.specs.declared.cdb.Cdb.TheVariants.{TestReady, Read, Write, Capacity, Sync, HpbRead, ReadBuffer, Prefetch, InactOne, InactAll}
use Rattle.hpb_cdb.specs.declared.limits.Limits.{Limits}
use Rattle.hpb_cdb.specs.Cdb.{needed_by}
use Rattle.hpb_sense.specs.declared.sense.FixedSense.{FixedSense}
use Rattle.upiu_wire.specs.Upiu.{Upiu}
use Rattle.flat_unit.specs.Command.{command_of, needed, is_hpb}
use Rattle.upiu_wire.specs.declared.kind.Kind.TheVariants.{Command, DataOut}
use Rattle.upiu_wire.specs.Upiu.{upiu_at}
use Rattle.upiu_wire.specs.WireFault.{wire_fault_of}
use Rattle.upiu_wire.specs.Written.{response_upiu}
use Rattle.flat_unit.specs.Reply.{has_tag, tag_in_use, command_refusal, data_refusal, refusal_of_cdb, check_command, check}
use Rattle.flat_unit.proofs.History.{reply_to_kind}
use Rattle.hpb_device.proofs.Harmless.{command_harmless, rejection_harmless}
use Rattle.flat_unit.specs.Senses.{bad_field, no_unit, wrong_data}
use Rattle.flat_unit.specs.Task.{Task as Waiting}
use Rattle.hpb_device.specs.declared.task.Task.{Task}
use Rattle.hpb_device.specs.declared.reply.Cause.{Cause}
use Rattle.hpb_device.specs.declared.reply.Reply.{Reply}
use Rattle.hpb_device.specs.declared.reply.Reply.TheVariants.{Check}
use Rattle.hpb_device.specs.declared.accept.Verdict.{Verdict}
use Rattle.hpb_device.specs.declared.accept.Verdict.TheVariants.{Keep, Data, Answer, End}
use Rattle.hpb_device.specs.Accept.{IsCommandOf, IsJudged, IsUnopposed, IsDataVerdict, Follows, goes_on}
use Rattle.hpb_device.specs.Keeps.{KeepsTasks, IsTaskOf, waiting_of}
use Rattle.hpb_device.specs.Reply.{reply_upiu}
use Rattle.hpb_device.specs.Sizes.{sizes}

-- a device has as many tasks as its history, with the same tags
waiting_tags : (tag : ℕ) (others : List Task) → list_any (has_tag tag) (map waiting_of others) ≡ list_any (λ (task : Task). task.tag == tag) others
waiting_tags tag [] = refl
waiting_tags tag (task ∷ others) = ap (λ (b : Bool). (task.tag == tag) || b) (waiting_tags tag others)

pub same_tags : (tag : ℕ) (kept : List Task) (held : List ℕ) (tasks : List Waiting) → KeepsTasks kept held tasks → list_any (has_tag tag) tasks ≡ list_any (λ (task : Task). task.tag == tag) kept
same_tags tag [] held tasks keeps = rw keeps refl
same_tags tag (task ∷ others) held tasks keeps = rw (keeps.2, keeps.1.tag, waiting_tags tag others) refl

waiting_count : (others : List Task) → length (map waiting_of others) ≡ length others
waiting_count [] = refl
waiting_count (task ∷ others) = ap suc (waiting_count others)

pub same_count : (kept : List Task) (held : List ℕ) (tasks : List Waiting) → KeepsTasks kept held tasks → length tasks ≡ length kept
same_count [] held tasks keeps = ap length keeps
same_count (task ∷ others) held tasks keeps = ap length keeps.2 ∙ ap suc (waiting_count others)

-- the tag of a command is free, its unit is there, and there is room for a task
pub record IsFree (luns : ℕ) (tasks : List Waiting) (v : Upiu) : Type 0 where
  pub alone : list_any (has_tag v.tag) tasks ≡ false
  pub inside : v.lun < luns
  pub room : length tasks < 32

pub free_of : (luns : ℕ) (v : Upiu) (kept : List Task) (held : List ℕ) (tasks : List Waiting) → KeepsTasks kept held tasks
    → list_any (λ (task : Task). task.tag == v.tag) kept ≡ false → v.lun < luns → length kept < 32 → IsFree luns tasks v
free_of luns v kept held tasks keeps alone inside room =
    let count = same_count kept held tasks keeps in
    record { alone = same_tags v.tag kept held tasks keeps ∙ alone; inside = inside; room = omega (arith, count, room) }

-- what stands against a command before its CDB is read
pub refuses_tag : (luns : ℕ) (geometry : Geometry) (lim : Limits) (v : Upiu) (kept : List Task) (held : List ℕ) (tasks : List Waiting) → KeepsTasks kept held tasks
    → list_any (λ (task : Task). task.tag == v.tag) kept ≡ true → command_refusal (sizes luns lim geometry) true tasks v ≡ Some (tag_in_use v)
refuses_tag luns geometry lim v kept held tasks keeps used = rw (same_tags v.tag kept held tasks keeps, used) refl

pub refuses_unit : (luns : ℕ) (geometry : Geometry) (lim : Limits) (v : Upiu) (kept : List Task) (held : List ℕ) (tasks : List Waiting) → KeepsTasks kept held tasks
    → list_any (λ (task : Task). task.tag == v.tag) kept ≡ false → luns ≤ v.lun → command_refusal (sizes luns lim geometry) true tasks v ≡ Some (check_command v no_unit)
refuses_unit luns geometry lim v kept held tasks keeps alone outside =
    let test : nat_le luns v.lun ≡ true = grind (arith, nat_tests) in
    rw (same_tags v.tag kept held tasks keeps, alone, test) refl

pub refuses_full : (luns : ℕ) (geometry : Geometry) (lim : Limits) (v : Upiu) (kept : List Task) (held : List ℕ) (tasks : List Waiting) → KeepsTasks kept held tasks
    → list_any (λ (task : Task). task.tag == v.tag) kept ≡ false → v.lun < luns → 32 ≤ length kept
    → command_refusal (sizes luns lim geometry) true tasks v ≡ Some (response_upiu v.lun v.tag 0x28 v.first [])
refuses_full luns geometry lim v kept held tasks keeps alone inside full =
    let test : nat_le luns v.lun ≡ false = grind (arith, nat_tests) in
    let room : nat_le 32 (length kept) ≡ true = grind (arith, nat_tests) in
    rw (same_tags v.tag kept held tasks keeps, alone, test, same_count kept held tasks keeps, room) refl

-- the bytes that a command moves
pub needed_is : (luns : ℕ) (geometry : Geometry) (lim : Limits) (command : Cdb) → needed (sizes luns lim geometry) command ≡ needed_by lim command
needed_is luns geometry lim TestReady = refl
needed_is luns geometry lim (Read lba n) = add-zero (4096 * n)
needed_is luns geometry lim (Write lba n) = zero-add (4096 * n)
needed_is luns geometry lim Capacity = refl
needed_is luns geometry lim (Sync lba n) = refl
needed_is luns geometry lim (HpbRead lba entry n id) = add-zero (4096 * n)
needed_is luns geometry lim (ReadBuffer region sub len) = add-zero _
needed_is luns geometry lim (Prefetch lba id len) = zero-add len
needed_is luns geometry lim (InactOne region) = refl
needed_is luns geometry lim InactAll = refl

-- where nothing else stands against a command, its CDB decides
pub uncontested : (luns : ℕ) (geometry : Geometry) (lim : Limits) (v : Upiu) (tasks : List Waiting) → IsFree luns tasks v
    → command_refusal (sizes luns lim geometry) true tasks v ≡ refusal_of_cdb (sizes luns lim geometry) true v (command_of (sizes luns lim geometry) v.cdb)
uncontested luns geometry lim v tasks free =
    let test : nat_le luns v.lun ≡ false = grind (arith, nat_tests, free.inside) in
    let room : nat_le 32 (length tasks) ≡ false = grind (arith, nat_tests, free.room) in
    rw (free.alone, test, room) refl

hpb_on : (b : Bool) → (b && not true) ≡ false
hpb_on true = refl
hpb_on false = refl

-- the length that is expected decides
pub by_length : (luns : ℕ) (geometry : Geometry) (lim : Limits) (v : Upiu) (tasks : List Waiting) (command : Cdb) (short : Bool) → command_of (sizes luns lim geometry) v.cdb ≡ Ok command
    → IsFree luns tasks v → nat_lt v.first (needed_by lim command) ≡ short
    → command_refusal (sizes luns lim geometry) true tasks v ≡ (elim short [ true ↦ Some (check_command v bad_field) | false ↦ None ])
by_length luns geometry lim v tasks command short is free test =
    let s = sizes luns lim geometry in
    let tested : nat_lt v.first (needed s command) ≡ short = ap (λ (n : ℕ). nat_lt v.first n) (needed_is luns geometry lim command) ∙ test in
    uncontested luns geometry lim v tasks free
    ∙ (ap (refusal_of_cdb s true v) is ∙ rw (hpb_on (is_hpb command), tested) (choice short))
  where
    choice : (b : Bool) → Rattle.std.proofs.Common.cond b (Some (check_command v bad_field)) None ≡ (elim b [ true ↦ Some (check_command v bad_field) | false ↦ None ])
    choice true = refl
    choice false = refl

-- a CDB that is refused
pub by_fault : (luns : ℕ) (geometry : Geometry) (lim : Limits) (v : Upiu) (tasks : List Waiting) (cause : Cause) → IsCommandOf (sizes luns lim geometry) v.cdb (Err cause) → IsFree luns tasks v
    → command_refusal (sizes luns lim geometry) true tasks v ≡ Some (reply_upiu (Check v.lun v.tag v.first cause))
by_fault luns geometry lim v tasks cause refused free =
    let s = sizes luns lim geometry in
    uncontested luns geometry lim v tasks free
    ∙ (ap (refusal_of_cdb s true v) refused.1 ∙ ap (λ (sense : FixedSense). Some (check v.lun v.tag v.first sense)) (sym refused.2))

-- data for the task that waits for them: they are taken, or they end it
pub by_data : (held : List ℕ) (kept : Task) (task : Waiting) (others : List Waiting) (v : Upiu) (good : Bool) → IsTaskOf held kept task → kept.come < kept.asked → kept.lun ≡ v.lun
    → kept.tag ≡ v.tag → goes_on kept v ≡ good
    → data_refusal (task ∷ others) v ≡ (elim good [ true ↦ None | false ↦ Some (check v.lun v.tag (kept.expected - kept.come) wrong_data) ])
by_data held kept task others v good at waits lun tag test =
    let waiting : nat_lt kept.come kept.asked ≡ true = grind (arith, nat_tests) in
    let same_lun : (kept.lun == v.lun) ≡ true = grind (arith, nat_tests) in
    let same_tag : (kept.tag == v.tag) ≡ true = grind (arith, nat_tests) in
    rw (at.come, at.asked, at.lun, at.tag, at.expected, waiting, same_lun, same_tag, test) (choice good)
  where
    choice : (b : Bool) → Rattle.std.proofs.Common.cond b None (Some (check v.lun v.tag (kept.expected - kept.come) wrong_data))
        ≡ (elim b [ true ↦ None | false ↦ Some (check v.lun v.tag (kept.expected - kept.come) wrong_data) ])
    choice true = refl
    choice false = refl

-- what comes of a COMMAND is what comes of its bytes
pub follows_command : (luns : ℕ) (geometry : Geometry) (lim : Limits) (tasks : List Waiting) (bytes : List ℕ) (task : Task) → wire_fault_of bytes ≡ None → (upiu_at bytes).kind ≡ Command
    → IsUnopposed (sizes luns lim geometry) tasks (upiu_at bytes) task → Follows (sizes luns lim geometry) tasks bytes (Keep task)
follows_command luns geometry lim tasks bytes task whole kind free = record {
  silent = reply_to_kind (sizes luns lim geometry) true tasks bytes Command whole kind ∙ free.unopposed;
  kind = kind;
  command = free.command;
}

pub follows_refusal : (luns : ℕ) (geometry : Geometry) (lim : Limits) (tasks : List Waiting) (bytes : List ℕ) (reply : Reply) → wire_fault_of bytes ≡ None → (upiu_at bytes).kind ≡ Command
    → (upiu_at bytes).first < 2 ^ 32 → IsJudged (sizes luns lim geometry) tasks (upiu_at bytes) (Err reply) → Follows (sizes luns lim geometry) tasks bytes (Answer reply)
follows_refusal luns geometry lim tasks bytes reply whole kind fits refused = record {
  answers = reply_to_kind (sizes luns lim geometry) true tasks bytes Command whole kind ∙ refused;
  harmless = command_harmless (sizes luns lim geometry) true tasks (upiu_at bytes) fits (reply_upiu reply) refused;
}

-- what comes of a DATA OUT is what comes of its bytes
pub follows_data : (luns : ℕ) (geometry : Geometry) (lim : Limits) (tasks : List Waiting) (bytes : List ℕ) (verdict : Verdict) → wire_fault_of bytes ≡ None → (upiu_at bytes).kind ≡ DataOut
    → IsDataVerdict tasks (upiu_at bytes) verdict → Follows (sizes luns lim geometry) tasks bytes verdict
follows_data luns geometry lim tasks bytes (Keep task) whole kind verdict = absurd verdict
follows_data luns geometry lim tasks bytes (Data segment) whole kind verdict = record {
  silent = reply_to_kind (sizes luns lim geometry) true tasks bytes DataOut whole kind ∙ verdict.0;
  kind = kind;
  segment_is = verdict.1;
}
follows_data luns geometry lim tasks bytes (Answer reply) whole kind verdict = record {
  answers = reply_to_kind (sizes luns lim geometry) true tasks bytes DataOut whole kind ∙ verdict.0;
  harmless = rejection_harmless (sizes luns lim geometry) tasks reply verdict.1;
}
follows_data luns geometry lim tasks bytes (End reply) whole kind verdict = reply_to_kind (sizes luns lim geometry) true tasks bytes DataOut whole kind ∙ verdict
