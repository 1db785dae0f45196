-- The answer that computes is the relation.
use Rattle.std.proofs.Common.{◌≡◌, ℕ, Bool, true, false, ◌==◌, eqb-true, List, Result, Ok, Err, refl, sym, ap, ◌∙◌}
use Rattle.std.proofs.Common.{subst}
use Rattle.std.proofs.lemmas.Bool.{false≢true}
use Rattle.std.specs.Prelude.{MatchResult, IsTrue, if◌then◌else◌}
use Rattle.hpb_cdb.specs.declared.cdb.Cdb.{Cdb}
use Rattle.hpb_cdb.specs.declared.cdb.Cdb.TheVariants.{TestReady, Read, Write, Capacity, Sync, HpbRead, ReadBuffer, Prefetch, InactOne, InactAll}
use Rattle.hpb_cdb.specs.declared.fault.CdbFault.{CdbFault}
use Rattle.hpb_cdb.specs.declared.fault.CdbFault.TheVariants.{Opcode, Field, Range}
use Rattle.hpb_cdb.specs.declared.limits.Limits.{Limits}
use Rattle.hpb_cdb.specs.Cdb.{Spells, SpellsNothing, IsCdb, IsFault, has_good_fields, is_in_unit, has_opcode}
use Rattle.hpb_cdb.specs.Read.{opcode_of, mode_of, spelled_by, judged, cdb_of}
use Rattle.hpb_cdb.proofs.Branches.{either}

-- the two kinds of answer
abbrev answer : Cdb → Result Cdb CdbFault
answer command = Ok command

abbrev refusal : CdbFault → Result Cdb CdbFault
refusal fault = Err fault

-- a command that the bytes spell is the one that is read
pub spelled : (cdb : List ℕ) (command : Cdb) → Spells cdb command → spelled_by cdb ≡ Ok command
spelled cdb TestReady h = rw h refl
spelled cdb Capacity h = rw h refl
spelled cdb (Read lba n) h = rw (h.0, h.1, h.2) refl
spelled cdb (Write lba n) h = rw (h.0, h.1, h.2) refl
spelled cdb (Sync lba n) h = rw (h.0, h.1, h.2) refl
spelled cdb (HpbRead lba entry n id) h = rw (h.0, h.1, h.2, h.3, h.4) refl
spelled cdb (ReadBuffer region sub len) h = rw (h.0, h.1, h.2, h.3, h.4) refl
spelled cdb (InactOne region) h = rw (h.0, h.1, h.2) refl
spelled cdb (Prefetch lba id len) h = rw (h.0, h.1, h.2, h.3, h.4) refl
spelled cdb InactAll h = rw (h.0, h.1) refl

-- bytes that spell a command have an opcode
has_opcode-spells : (cdb : List ℕ) (command : Cdb) → Spells cdb command → has_opcode cdb ≡ true
has_opcode-spells cdb TestReady h = rw h refl
has_opcode-spells cdb Capacity h = rw h refl
has_opcode-spells cdb (Read lba n) h = rw h.0 refl
has_opcode-spells cdb (Write lba n) h = rw h.0 refl
has_opcode-spells cdb (Sync lba n) h = rw h.0 refl
has_opcode-spells cdb (HpbRead lba entry n id) h = rw h.0 refl
has_opcode-spells cdb (ReadBuffer region sub len) h = rw h.0 refl
has_opcode-spells cdb (InactOne region) h = rw h.0 refl
has_opcode-spells cdb (Prefetch lba id len) h = rw h.0 refl
has_opcode-spells cdb InactAll h = rw h.0 refl

-- what is read is what the bytes spell, and where nothing is read they spell nothing
abbrev Reads : List ℕ → Result Cdb CdbFault → Type 0
Reads cdb r = spelled_by cdb ≡ r → MatchResult r (Spells cdb) (SpellsNothing cdb)

no_command : {fault : CdbFault} (cdb : List ℕ) → spelled_by cdb ≡ Err fault → (command : Cdb) → Spells cdb command → ⊥
no_command cdb is command spells = let e = sym (spelled cdb command spells) ∙ is in cc

pub reads_back : (cdb : List ℕ) → Reads cdb (spelled_by cdb)
reads_back cdb =
    either (Reads cdb) (opcode_of cdb == 0x00) (λ h _. eqb-true (opcode_of cdb) 0x00 h) (λ n0.
    either (Reads cdb) (opcode_of cdb == 0x25) (λ h _. eqb-true (opcode_of cdb) 0x25 h) (λ n1.
    either (Reads cdb) (opcode_of cdb == 0x28) (λ h _. (eqb-true (opcode_of cdb) 0x28 h, refl, refl)) (λ n2.
    either (Reads cdb) (opcode_of cdb == 0x2A) (λ h _. (eqb-true (opcode_of cdb) 0x2A h, refl, refl)) (λ n3.
    either (Reads cdb) (opcode_of cdb == 0x35) (λ h _. (eqb-true (opcode_of cdb) 0x35 h, refl, refl)) (λ n4.
    either (Reads cdb) (opcode_of cdb == 0xF8) (λ h _. (eqb-true (opcode_of cdb) 0xF8 h, refl, refl, refl, refl)) (λ n5.
    either (Reads cdb) (opcode_of cdb == 0xF9) (λ h.
    either (Reads cdb) (mode_of cdb == 0x01) (λ m _. (eqb-true (opcode_of cdb) 0xF9 h, eqb-true (mode_of cdb) 0x01 m, refl, refl, refl))
    (λ m is. (rw (eqb-true (opcode_of cdb) 0xF9 h) refl, no_command cdb is))) (λ n6.
    either (Reads cdb) (opcode_of cdb == 0xFA) (λ h.
    either (Reads cdb) (mode_of cdb == 0x01) (λ m _. (eqb-true (opcode_of cdb) 0xFA h, eqb-true (mode_of cdb) 0x01 m, refl)) (λ _.
    either (Reads cdb) (mode_of cdb == 0x02) (λ m _. (eqb-true (opcode_of cdb) 0xFA h, eqb-true (mode_of cdb) 0x02 m, refl, refl, refl)) (λ _.
    either (Reads cdb) (mode_of cdb == 0x03) (λ m _. (eqb-true (opcode_of cdb) 0xFA h, eqb-true (mode_of cdb) 0x03 m))
    (λ m is. (rw (eqb-true (opcode_of cdb) 0xFA h) refl, no_command cdb is)))))
    (λ n7 is. rw (n0, n1, n2, n3, n4, n5, n6, n7) refl))))))))

is_true : (b : Bool) → IsTrue b → b ≡ true
is_true b h = h

pub cdb_of-is_cdb : (lim : Limits) (cdb : List ℕ) (command : Cdb) → IsCdb cdb lim command → cdb_of lim cdb ≡ Ok command
unfolding cdb_of
cdb_of-is_cdb lim cdb command h =
    ap (judged lim) (spelled cdb command h.spells)
    ∙ good (has_good_fields lim command) (is_in_unit lim command) (is_true _ h.fields) (is_true _ h.range)
  where
    good : (a b : Bool) → a ≡ true → b ≡ true → (if a then (if b then Ok command else Err Range) else Err Field) ≡ Ok command
    good a b p q = rw (p, q) refl

-- a command that passes its tests
passes : (lim : Limits) (cdb : List ℕ) (command read : Cdb) (a b : Bool)
    → has_good_fields lim read ≡ a → is_in_unit lim read ≡ b → Spells cdb read
    → (if a then (if b then Ok read else Err Range) else Err Field) ≡ answer command → IsCdb cdb lim command
passes lim cdb command read true true fields range spells is =
    let same : read ≡ command = cc in
    subst (λ (c : Cdb). IsCdb cdb lim c) same (record { spells = spells; fields = fields; range = range })
passes lim cdb command read true false fields range spells is = absurd (let e : refusal Range ≡ Ok command = is in cc)
passes lim cdb command read false b fields range spells is = absurd (let e : refusal Field ≡ Ok command = is in cc)

pub is_cdb-cdb_of : (lim : Limits) (cdb : List ℕ) (command : Cdb) → cdb_of lim cdb ≡ Ok command → IsCdb cdb lim command
unfolding cdb_of
is_cdb-cdb_of lim cdb command is = by_result (spelled_by cdb) (reads_back cdb refl) is
  where
    by_result : (r : Result Cdb CdbFault) → MatchResult r (Spells cdb) (SpellsNothing cdb) → judged lim r ≡ Ok command → IsCdb cdb lim command
    by_result (Ok read) spells is = passes lim cdb command read _ _ refl refl spells is
    by_result (Err fault) spells is = cc

-- what the bytes spell, where they spell something or have an opcode
fault_by : (lim : Limits) (cdb : List ℕ) (fault : CdbFault) → IsFault cdb lim fault → (r : Result Cdb CdbFault) → MatchResult r (Spells cdb) (SpellsNothing cdb) → judged lim r ≡ Err fault
fault_by lim cdb Opcode h (Err Opcode) spells = refl
fault_by lim cdb Opcode h (Err Field) spells = absurd (false≢true (sym h ∙ spells.0))
fault_by lim cdb Opcode h (Ok read) spells = absurd (false≢true (sym h ∙ has_opcode-spells cdb read spells))
fault_by lim cdb Field h (Err Opcode) spells = absurd (false≢true (sym spells ∙ h.0))
fault_by lim cdb Field h (Err Field) spells = refl
fault_by lim cdb Field h (Ok read) spells = rw (h.1 read spells) refl
fault_by lim cdb Range h (Ok read) spells =
    let same : answer h.0 ≡ Ok read = sym (spelled cdb h.0 h.1) ∙ spelled cdb read spells in
    let e : h.0 ≡ read = cc in
    refused (has_good_fields lim read) (is_in_unit lim read) (ap (has_good_fields lim) (sym e) ∙ h.2) (ap (is_in_unit lim) (sym e) ∙ h.3)
  where
    refused : (a b : Bool) → a ≡ true → b ≡ false → (if a then (if b then Ok read else Err Range) else Err Field) ≡ Err Range
    refused a b p q = rw (p, q) refl
fault_by lim cdb Range h (Err Opcode) spells = absurd (false≢true (sym spells ∙ has_opcode-spells cdb h.0 h.1))
fault_by lim cdb Range h (Err Field) spells = absurd (spells.1 h.0 h.1)
fault_by lim cdb fault h (Err Range) spells = absurd spells

pub cdb_of-is_fault : (lim : Limits) (cdb : List ℕ) (fault : CdbFault) → IsFault cdb lim fault → cdb_of lim cdb ≡ Err fault
unfolding cdb_of
cdb_of-is_fault lim cdb fault h = fault_by lim cdb fault h (spelled_by cdb) (reads_back cdb refl)

-- why a command that the bytes spell is refused
refused_why : (lim : Limits) (cdb : List ℕ) (fault : CdbFault) (read : Cdb) (a b : Bool)
    → has_good_fields lim read ≡ a → is_in_unit lim read ≡ b → Spells cdb read
    → (if a then (if b then Ok read else Err Range) else Err Field) ≡ refusal fault → IsFault cdb lim fault
refused_why lim cdb fault read true true fields range spells is = absurd (let e : answer read ≡ Err fault = is in cc)
refused_why lim cdb fault read true false fields range spells is =
    let same : Range ≡ fault = cc in
    subst (IsFault cdb lim) same (read, spells, fields, range)
refused_why lim cdb fault read false b fields range spells is =
    let same : Field ≡ fault = cc in
    subst (IsFault cdb lim) same (
      has_opcode-spells cdb read spells,
      λ other other_spells.
          let e : answer read ≡ Ok other = sym (spelled cdb read spells) ∙ spelled cdb other other_spells in
          let one : read ≡ other = cc in
          ap (has_good_fields lim) (sym one) ∙ fields,
    )

pub is_fault-cdb_of : (lim : Limits) (cdb : List ℕ) (fault : CdbFault) → cdb_of lim cdb ≡ Err fault → IsFault cdb lim fault
unfolding cdb_of
is_fault-cdb_of lim cdb fault is = by_result (spelled_by cdb) (reads_back cdb refl) is
  where
    by_result : (r : Result Cdb CdbFault) → MatchResult r (Spells cdb) (SpellsNothing cdb) → judged lim r ≡ Err fault → IsFault cdb lim fault
    by_result (Ok read) spells is = refused_why lim cdb fault read _ _ refl refl spells is
    by_result (Err Opcode) spells is = let same : Opcode ≡ fault = cc in subst (IsFault cdb lim) same spells
    by_result (Err Field) spells is =
        let same : Field ≡ fault = cc in
        subst (IsFault cdb lim) same (spells.0, λ other other_spells. absurd (spells.1 other other_spells))
    by_result (Err Range) spells is = absurd spells
