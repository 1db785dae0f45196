-- UPIUs of the worked rows, as bytes.
use Rattle.std.proofs.Common.{◌≡◌, ◌<◌, zero, suc, false, eqb, eq-eqb, sym, ◌∙◌, ap, slice_index, arith, ℕ, ◌/◌, ◌%◌, true, List, [], ◌∷◌, ◌++◌, replicate, length}
use Rattle.std.specs.Prelude.{Contains, slice_index_or}
use Rattle.std.proofs.lemmas.Bool.{false≢true}
use Rattle.flash_pages.specs.Place.{Place}
use Rattle.flat_unit.specs.Contents.{Block}
use Rattle.flat_unit.specs.Sizes.{Sizes}

-- a device of 20 blocks, on a chip of 32 pages
abbrev pub sizes : Sizes
sizes = record {
  luns = 1;
  units = 20;
  block = 4096;
  room = 32;
  pages = 32;
  erase_block = 4;
  per_region = 128;
  per_sub = 32;
  opcodes = 0x00 ∷ 0x25 ∷ 0x28 ∷ 0x2A ∷ 0x35 ∷ 0xF8 ∷ 0xF9 ∷ 0xFA ∷ [];
  queries = true;
  manages = true;
}

abbrev pub place : ℕ → Place
place lba = record { lun = 0; lba = lba }

-- a block of one byte, and a unit that was never written
abbrev pub block_of : ℕ → Block
block_of x = replicate 4096 x

abbrev pub blank_unit : List Block
blank_unit = replicate 20 (block_of 0)

-- four bytes, and a number in four bytes
abbrev pub four : ℕ → ℕ → ℕ → ℕ → List ℕ
four a b c d = a ∷ b ∷ c ∷ d ∷ []

abbrev pub z : List ℕ
z = four 0 0 0 0

abbrev pub number : ℕ → List ℕ
number n = four (n / 0x1000000 % 0x100) (n / 0x10000 % 0x100) (n / 0x100 % 0x100) (n % 0x100)

-- COMMAND: READ(10) or WRITE(10) of n blocks, and TEST UNIT READY
abbrev pub read : ℕ → ℕ → ℕ → ℕ → List ℕ
read tag expected lba n = four 0x01 0x40 0 tag ++ z ++ z ++ number expected ++ four 0x28 0 0 0 ++ four 0 lba 0 0 ++ four n 0 0 0 ++ z

abbrev pub write : ℕ → ℕ → ℕ → ℕ → List ℕ
write tag expected lba n = four 0x01 0x20 0 tag ++ z ++ z ++ number expected ++ four 0x2A 0 0 0 ++ four 0 lba 0 0 ++ four n 0 0 0 ++ z

abbrev pub test_ready : ℕ → List ℕ
test_ready tag = four 0x01 0 0 tag ++ z ++ z ++ z ++ z ++ z ++ z ++ z

-- DATA OUT and DATA IN, whose segments need no padding here, and READY TO TRANSFER
abbrev pub data_with : ℕ → ℕ → ℕ → List ℕ → List ℕ
data_with code tag offset bytes =
    four code 0 0 tag ++ z ++ four 0 0 (length bytes / 0x100) (length bytes % 0x100) ++ number offset ++ number (length bytes) ++ z ++ z ++ z ++ bytes

abbrev pub data_out : ℕ → ℕ → List ℕ → List ℕ
data_out tag offset bytes = data_with 0x02 tag offset bytes

abbrev pub data_in : ℕ → ℕ → List ℕ → List ℕ
data_in tag offset bytes = data_with 0x22 tag offset bytes

abbrev pub ready : ℕ → ℕ → ℕ → List ℕ
ready tag offset count = four 0x31 0 0 tag ++ z ++ z ++ number offset ++ number count ++ z ++ z ++ z

-- RESPONSE: GOOD, and CHECK CONDITION with a key and a code
abbrev pub good : ℕ → List ℕ
good tag = four 0x21 0 0 tag ++ z ++ z ++ z ++ z ++ z ++ z ++ z

abbrev pub good_short : ℕ → ℕ → List ℕ
good_short tag residual = four 0x21 0x20 0 tag ++ z ++ z ++ number residual ++ z ++ z ++ z ++ z

abbrev pub check_with : ℕ → ℕ → ℕ → ℕ → ℕ → List ℕ
check_with flags tag residual key code =
    four 0x21 flags 0 tag ++ four 0 0 0x01 0x02 ++ four 0 0 0 0x14 ++ number residual ++ z ++ z ++ z ++ z
    ++ four 0 0x12 0x70 0 ++ four key 0 0 0 ++ four 0 0x0A 0 0 ++ four 0 0 code 0 ++ z

-- REJECT
abbrev pub reject : ℕ → ℕ → ℕ → List ℕ
reject lun tag reason = four 0x3F 0 lun tag ++ four 0 0 0x01 0 ++ z ++ four reason 0 0 0 ++ z ++ z ++ z ++ z

-- lists that differ at a place are different
pub differ_at : (place : ℕ) (xs ys : List ℕ) → eqb (slice_index xs place) (slice_index ys place) ≡ false → xs ≡ ys → ⊥
differ_at place xs ys differ same = false≢true (sym differ ∙ eq-eqb (slice_index xs place) (slice_index ys place) (ap (λ (l : List ℕ). slice_index l place) same))

-- the only candidate
pub only_candidate : (b x : Block) → Contains (b ∷ []) x → b ≡ x
only_candidate b x (k, below, is) = by_place k below is
  where
    by_place : (k : ℕ) → k < 1 → slice_index_or (b ∷ []) k x ≡ x → b ≡ x
    by_place zero below is = is
    by_place (suc k) below is = absurd (omega arith)
