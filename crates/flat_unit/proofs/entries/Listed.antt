-- Lists of entries that are made block by block, and what a piece of such a list says.
use Rattle.std.proofs.Common.{◌≡◌, ℕ, zero, suc, ◌+◌, ◌-◌, ◌*◌, ◌/◌, ◌%◌, ◌<◌, ◌≤◌, ◌^◌, Bool, true, false, ◌&&◌, ◌==◌}
use Rattle.std.proofs.Common.{List, [], ◌++◌, length, take, drop, slice_range, Some, None, refl, sym, ◌∙◌, ap, subst}
use Rattle.std.proofs.Common.{arith, append_assoc, length-append, nat_le}
use Rattle.std.specs.Prelude.{if◌then◌else◌}
use Rattle.std.proofs.Math.Seq.{drop-append-add, take-append_seam}
use Rattle.std.proofs.lemmas.Bool.{eqb-true}
use Rattle.std.proofs.lemmas.Bool.Decides.{nat_tests}
use Rattle.std.proofs.lemmas.List.{append-nil, take-append-drop}
use Rattle.byteorder.specs.Endian.{big_bytes, big_number}
use Rattle.byteorder.specs.Numbers.{big_number-reads_back, length-bytes_high_first}
use Rattle.flash_pages.specs.Place.{Place}
use Rattle.hpb_cdb.specs.declared.cdb.Cdb.{Cdb}
use Rattle.hpb_cdb.specs.declared.cdb.Cdb.TheVariants.{ReadBuffer}
use Rattle.flat_unit.specs.Entries.{entries_from, first_block, is_entry, listed_by, number_in}
use Rattle.flat_unit.specs.Sizes.{Sizes}
use Rattle.flat_unit.specs.Task.{Task}
use Rattle.flat_unit.proofs.Numbers.{range-append}

pub length-entries_from : (entry_of : ℕ → ℕ) (first count : ℕ) → length (entries_from entry_of first count) ≡ 8 * count
length-entries_from entry_of first zero = refl
length-entries_from entry_of first (suc n) =
    let here = length-append (big_bytes 8 (entry_of first)) (entries_from entry_of (first + 1) n) in
    let entry = length-bytes_high_first 8 (entry_of first) in
    let rest = length-entries_from entry_of (first + 1) n in
    omega (arith, here, entry, rest)

-- one block more
one_more : (entry_of : ℕ → ℕ) (first n last : ℕ) → first + n ≡ last → entries_from entry_of first (suc n) ≡ entries_from entry_of first n ++ big_bytes 8 (entry_of last)
one_more entry_of first zero last is =
    append-nil (big_bytes 8 (entry_of first)) ∙ ap (λ (lba : ℕ). big_bytes 8 (entry_of lba)) (let e : first ≡ last = omega arith in e)
one_more entry_of first (suc n) last is =
    ap (λ (rest : List ℕ). big_bytes 8 (entry_of first) ++ rest) (one_more entry_of (first + 1) n last (omega arith))
    ∙ sym (append_assoc (big_bytes 8 (entry_of first)) (entries_from entry_of (first + 1) n) (big_bytes 8 (entry_of last)))

pub entries_more : (entry_of : ℕ → ℕ) (first count : ℕ) → entries_from entry_of first (count + 1) ≡ entries_from entry_of first count ++ big_bytes 8 (entry_of (first + count))
entries_more entry_of first count =
    let next : count + 1 ≡ suc count = omega arith in
    ap (λ (n : ℕ). entries_from entry_of first n) next ∙ one_more entry_of first count (first + count) refl

-- a range of what follows some bytes
range_past : (xs ys : List ℕ) (k a b : ℕ) → length xs ≡ k → slice_range (xs ++ ys) (k + a) (k + b) ≡ slice_range ys a b
range_past xs ys k a b long =
    let size : (k + b) - (k + a) ≡ b - a = omega arith in
    ap (λ (n : ℕ). take ((k + b) - (k + a)) (drop (n + a) (xs ++ ys))) (sym long)
    ∙ ap (λ (l : List ℕ). take ((k + b) - (k + a)) l) (drop-append-add xs ys a)
    ∙ ap (λ (n : ℕ). take n (drop a ys)) size

-- the first 8 bytes are the first entry
first_entry : (xs ys : List ℕ) → length xs ≡ 8 → slice_range (xs ++ ys) 0 8 ≡ xs
first_entry xs ys long = ap (λ (n : ℕ). take n (xs ++ ys)) (sym long) ∙ take-append_seam xs ys

-- entry k is the one of the block that is k blocks behind the first
entry_at : (entry_of : ℕ → ℕ) (first count k lba : ℕ) → k < count → first + k ≡ lba
    → slice_range (entries_from entry_of first count) (8 * k) (8 * k + 8) ≡ big_bytes 8 (entry_of lba)
entry_at entry_of first zero k lba within is = absurd (omega arith)
entry_at entry_of first (suc n) zero lba within is =
    first_entry (big_bytes 8 (entry_of first)) (entries_from entry_of (first + 1) n) (length-bytes_high_first 8 (entry_of first))
    ∙ ap (λ (b : ℕ). big_bytes 8 (entry_of b)) (let e : first ≡ lba = omega arith in e)
entry_at entry_of first (suc n) (suc k) lba within is =
    let from : 8 * suc k ≡ 8 + 8 * k = omega arith in
    let to : 8 * suc k + 8 ≡ 8 + (8 * k + 8) = omega arith in
    ap (λ (a : ℕ). slice_range (entries_from entry_of first (suc n)) a (8 * suc k + 8)) from
    ∙ ap (λ (b : ℕ). slice_range (entries_from entry_of first (suc n)) (8 + 8 * k) b) to
    ∙ range_past (big_bytes 8 (entry_of first)) (entries_from entry_of (first + 1) n) 8 (8 * k) (8 * k + 8) (length-bytes_high_first 8 (entry_of first))
    ∙ entry_at entry_of (first + 1) n k lba (omega arith) (omega arith)

-- a range of the first bytes
range_of_first : (xs : List ℕ) (n a b : ℕ) → a ≤ b → b ≤ length (take n xs) → slice_range (take n xs) a b ≡ slice_range xs a b
range_of_first xs n a b order within =
    sym (range-append (take n xs) (drop n xs) a b order within) ∙ ap (λ (l : List ℕ). slice_range l a b) (take-append-drop n xs)

shorter : (xs : List ℕ) (n : ℕ) → length (take n xs) ≤ length xs
shorter xs n =
    let whole = ap (λ (l : List ℕ). length l) (take-append-drop n xs) in
    let parts = length-append (take n xs) (drop n xs) in
    omega (arith, whole, parts)

-- the number at a place of a piece that begins with the entry of a block
number_at : (entry_of : ℕ → ℕ) (first count bytes k lba : ℕ) → 8 * k + 8 ≤ length (take bytes (entries_from entry_of first count)) → first + k ≡ lba → entry_of lba < 2 ^ 64
    → big_number 8 (slice_range (take bytes (entries_from entry_of first count)) (8 * k) (8 * k + 8)) ≡ entry_of lba
number_at entry_of first count bytes k lba within is fits =
    let size = length-entries_from entry_of first count in
    let short = shorter (entries_from entry_of first count) bytes in
    ap (λ (l : List ℕ). big_number 8 l) (range_of_first (entries_from entry_of first count) bytes (8 * k) (8 * k + 8) (omega arith) within
    ∙ entry_at entry_of first count k lba (omega (arith, size, short, within)) is)
    ∙ ap (λ (l : List ℕ). big_number 8 l) (sym (append-nil (big_bytes 8 (entry_of lba))))
    ∙ big_number-reads_back 8 (entry_of lba) [] fits

-- what the piece gives as the number at the place of a block is that block's entry
number_told : (entry_of : ℕ → ℕ) (start sent count bytes lba x : ℕ) → sent % 8 ≡ 0 → start ≤ lba → entry_of lba < 2 ^ 64
    → is_entry x (number_in (take bytes (entries_from entry_of (start + sent / 8) count)) sent (8 * (lba - start))) ≡ true → x ≡ entry_of lba
number_told entry_of start sent count bytes lba x whole from fits =
    by_bounds (nat_le sent (8 * (lba - start))) (nat_le (8 * (lba - start) + 8) (sent + length piece)) refl refl
  where
    piece : List ℕ
    piece = take bytes (entries_from entry_of (start + sent / 8) count)

    by_bounds : (a b : Bool) → nat_le sent (8 * (lba - start)) ≡ a → nat_le (8 * (lba - start) + 8) (sent + length piece) ≡ b
        → is_entry x (if a && b then Some (big_number 8 (slice_range piece (8 * (lba - start) - sent) (8 * (lba - start) - sent + 8))) else None) ≡ true → x ≡ entry_of lba
    by_bounds false b low high is = cc
    by_bounds true false low high is = cc
    by_bounds true true low high is =
        let behind : sent ≤ 8 * (lba - start) = grind (arith, nat_tests) in
        let before : 8 * (lba - start) + 8 ≤ sent + length piece = grind (arith, nat_tests) in
        let place : 8 * (lba - start) - sent ≡ 8 * (lba - start - sent / 8) = omega (arith, whole, behind) in
        let here : start + sent / 8 + (lba - start - sent / 8) ≡ lba = omega (arith, whole, behind, from) in
        let within : 8 * (lba - start - sent / 8) + 8 ≤ length piece = omega (arith, whole, behind, before) in
        eqb-true x _ is
        ∙ ap (λ (k : ℕ). big_number 8 (slice_range piece k (k + 8))) place
        ∙ number_at entry_of (start + sent / 8) count bytes (lba - start - sent / 8) lba within here fits

-- a piece of a subregion's list says of a block nothing but its entry, and it says it of the task's unit
pub listed_entry : (s : Sizes) (task : Task) (region sub len count bytes : ℕ) (entry_of : ℕ → ℕ) (p : Place) (x : ℕ)
    → task.command ≡ ReadBuffer region sub len → task.sent % 8 ≡ 0 → ((lba : ℕ) → entry_of lba < 2 ^ 64)
    → is_entry x (listed_by s task task.command (take bytes (entries_from entry_of (first_block s region sub + task.sent / 8) count)) p) ≡ true
    → (x ≡ entry_of p.lba) × (p.lun ≡ task.lun)
listed_entry s task region sub len count bytes entry_of p x reads whole fits is =
    by_place (task.lun == p.lun) (nat_le start p.lba) refl refl
    (subst (λ (command : Cdb). is_entry x (listed_by s task command (take bytes (entries_from entry_of (start + task.sent / 8) count)) p) ≡ true) reads is)
  where
    start : ℕ
    start = first_block s region sub

    by_place : (a b : Bool) → (task.lun == p.lun) ≡ a → nat_le start p.lba ≡ b
        → is_entry x (if a && b then number_in (take bytes (entries_from entry_of (start + task.sent / 8) count)) task.sent (8 * (p.lba - start)) else None) ≡ true
        → (x ≡ entry_of p.lba) × (p.lun ≡ task.lun)
    by_place false b unit from is = cc
    by_place true false unit from is = cc
    by_place true true unit from is =
        (number_told entry_of start task.sent count bytes p.lba x whole (grind (arith, nat_tests)) (fits p.lba) is, sym (eqb-true task.lun p.lun unit))

-- a piece of a subregion's list has all bytes of each entry that it lists
pub listed_within : (s : Sizes) (task : Task) (region sub len : ℕ) (piece : List ℕ) (p : Place) (x : ℕ)
    → task.command ≡ ReadBuffer region sub len → listed_by s task task.command piece p ≡ Some x
    → (first_block s region sub ≤ p.lba) × (8 * (p.lba - first_block s region sub) + 8 ≤ task.sent + length piece)
listed_within s task region sub len piece p x reads is =
    by_place (task.lun == p.lun) (nat_le start p.lba) refl (subst (λ (command : Cdb). listed_by s task command piece p ≡ Some x) reads is)
  where
    start : ℕ
    start = first_block s region sub

    place : ℕ
    place = 8 * (p.lba - start)

    by_bounds : (a b : Bool) → nat_le task.sent place ≡ a → nat_le (place + 8) (task.sent + length piece) ≡ b
        → (if a && b then Some (big_number 8 (slice_range piece (place - task.sent) (place - task.sent + 8))) else None) ≡ Some x → place + 8 ≤ task.sent + length piece
    by_bounds false b low high is = cc
    by_bounds true false low high is = cc
    by_bounds true true low high is = grind (arith, nat_tests)

    by_place : (a b : Bool) → nat_le start p.lba ≡ b → (if a && b then number_in piece task.sent place else None) ≡ Some x
        → (start ≤ p.lba) × (place + 8 ≤ task.sent + length piece)
    by_place false b from is = cc
    by_place true false from is = cc
    by_place true true from is =
        (grind (arith, nat_tests), by_bounds (nat_le task.sent place) (nat_le (place + 8) (task.sent + length piece)) refl refl is)
