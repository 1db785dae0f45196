-- A command that is read from bytes is about blocks inside its unit, and its opcode is one that is served.
use Rattle.std.proofs.Common.{◌≡◌, ℕ, ◌+◌, ◌*◌, ◌/◌, ◌%◌, ◌==◌, Bool, true, false, ◌&&◌, ◌||◌, nat_lt, nat_le, List, [], ◌∷◌, Err, refl, sym, ◌∙◌, arith}
use Rattle.std.specs.Prelude.{slice_index, if◌then◌else◌}
use Rattle.std.specs.List.{list_any}
use Rattle.std.proofs.lemmas.Bool.{false≢true}
use Rattle.std.proofs.lemmas.Bool.Decides.{nat_tests}
use Rattle.hpb_cdb.specs.declared.cdb.Cdb.{Cdb}
use Rattle.hpb_cdb.specs.declared.cdb.Cdb.TheVariants.{TestReady, Read, Write, Capacity, Sync, HpbRead, ReadBuffer, Prefetch, InactOne, InactAll}
use Rattle.hpb_cdb.specs.declared.fault.CdbFault.TheVariants.{Opcode}
use Rattle.hpb_cdb.specs.declared.limits.Limits.{Limits}
use Rattle.hpb_cdb.specs.Cdb.{IsCdb, Spells, has_opcode, opcodes}
use Rattle.hpb_cdb.specs.Read.{cdb_of}
use Rattle.hpb_device.specs.Sizes.{OPCODES}
use Rattle.hpb_device.specs.Task.{IsServed}

both : (a b : Bool) → (a && b) ≡ true → (a ≡ true) × (b ≡ true)
both true b is = (refl, is)
both false b is = absurd (false≢true is)

pub is_served : (lim : Limits) (cdb : List ℕ) (command : Cdb) → IsCdb cdb lim command → IsServed lim command
is_served lim cdb TestReady is = tt
is_served lim cdb Capacity is = tt
is_served lim cdb InactAll is = tt
is_served lim cdb (Read lba n) is = let range : nat_le (lba + n) lim.units ≡ true = is.range in grind (arith, nat_tests, range)
is_served lim cdb (Write lba n) is = let range : nat_le (lba + n) lim.units ≡ true = is.range in grind (arith, nat_tests, range)
is_served lim cdb (Sync lba n) is = let range : nat_le (lba + n) lim.units ≡ true = is.range in grind (arith, nat_tests, range)
is_served lim cdb (HpbRead lba entry n id) is =
    let range : nat_le (lba + n) lim.units ≡ true = is.range in
    let field : nat_le id 127 ≡ true = is.fields in
    (grind (arith, nat_tests, range), grind (arith, nat_tests, field))
is_served lim cdb (ReadBuffer region sub len) is =
    let fields = both (nat_lt (region * lim.per_region) lim.units) (nat_lt sub (lim.per_region / lim.per_sub) && nat_lt (region * lim.per_region + sub * lim.per_sub) lim.units) is.fields in
    let there = both (nat_lt sub (lim.per_region / lim.per_sub)) (nat_lt (region * lim.per_region + sub * lim.per_sub) lim.units) fields.1 in
    (grind (arith, nat_tests, there.0), grind (arith, nat_tests, there.1))
is_served lim cdb (InactOne region) is =
    let range : nat_lt (region * lim.per_region) lim.units ≡ true = is.fields in grind (arith, nat_tests, range)
is_served lim cdb (Prefetch lba id len) is =
    let range : nat_le (lba + len / 8) lim.units ≡ true = is.range in
    let last = both (nat_le 1 id && nat_le id 127 && (len % 8 == 0)) (nat_le len 2040) is.fields in
    let third = both (nat_le 1 id && nat_le id 127) (len % 8 == 0) last.0 in
    let ids = both (nat_le 1 id) (nat_le id 127) third.0 in
    (grind (arith, nat_tests, range), grind (arith, nat_tests, ids.0), grind (arith, nat_tests, ids.1), grind (arith, nat_tests, third.1), grind (arith, nat_tests, last.1))

-- the opcodes that are served are those of the commands
same_test : (x y : ℕ) → (x == y) ≡ (y == x)
same_test x y = by_test (x == y) (y == x) refl refl
  where
    by_test : (a b : Bool) → (x == y) ≡ a → (y == x) ≡ b → a ≡ b
    by_test true true is other = refl
    by_test false false is other = refl
    by_test true false is other = let same : (y == x) ≡ true = grind (arith, nat_tests, is) in sym same ∙ other
    by_test false true is other = let same : (x == y) ≡ true = grind (arith, nat_tests, other) in sym is ∙ same

same_opcode : (x : ℕ) (xs : List ℕ) → list_any (λ (opcode : ℕ). x == opcode) xs ≡ list_any (λ (served : ℕ). served == x) xs
same_opcode x [] = refl
same_opcode x (y ∷ ys) = λ i. same_test x y i || same_opcode x ys i

pub known_opcode : (cdb : List ℕ) → has_opcode cdb ≡ true → list_any (λ (served : ℕ). served == slice_index cdb 0) OPCODES ≡ true
known_opcode cdb known = sym (same_opcode (slice_index cdb 0) opcodes) ∙ known

spelled_opcode : (cdb : List ℕ) (command : Cdb) → Spells cdb command → has_opcode cdb ≡ true
spelled_opcode cdb TestReady is = rw is refl
spelled_opcode cdb Capacity is = rw is refl
spelled_opcode cdb (Read lba n) is = rw (is.0) refl
spelled_opcode cdb (Write lba n) is = rw (is.0) refl
spelled_opcode cdb (Sync lba n) is = rw (is.0) refl
spelled_opcode cdb (HpbRead lba entry n id) is = rw (is.0) refl
spelled_opcode cdb (ReadBuffer region sub len) is = rw (is.0) refl
spelled_opcode cdb (InactOne region) is = rw (is.0) refl
spelled_opcode cdb (Prefetch lba id len) is = rw (is.0) refl
spelled_opcode cdb InactAll is = rw (is.0) refl

pub spelled : (cdb : List ℕ) (command : Cdb) → Spells cdb command → list_any (λ (served : ℕ). served == slice_index cdb 0) OPCODES ≡ true
spelled cdb command is = known_opcode cdb (spelled_opcode cdb command is)

-- an opcode that isn't known is refused in either way
pub refused_opcode : (served : Bool) (lim : Limits) (cdb : List ℕ) → cdb_of lim cdb ≡ Err Opcode → (if served then cdb_of lim cdb else Err Opcode) ≡ Err Opcode
refused_opcode true lim cdb is = is
refused_opcode false lim cdb is = refl
