-- How long the lines are at most, for a caller that has room for them.
use Rattle.std.proofs.Common.{◌≡◌, ℕ, ◌+◌, ◌*◌, ◌^◌, ◌<◌, ◌≤◌, List, ◌++◌, length, decimal, arith, length-append, inl, inr, refl, codes}
use Rattle.std.specs.Prelude.{slice_index}
use Rattle.std.proofs.lemmas.Bool.{cases_eq}
use Rattle.std.proofs.lemmas.Fmt.{length-decimal-le}
use Rattle.flat_unit.specs.Print.{line_of, place_text}
use Rattle.flat_unit.specs.declared.event.Event.TheVariants.{Host, Device, Moved, Gone}
use Rattle.trace_text.specs.Written.{counts_line}
use Rattle.trace_text.proofs.Overwriting.{length-line, place_text-first, place_text-other}

pub length-Host : (bytes : List ℕ) → length (line_of (Host bytes)) ≡ 2 * length bytes + 3
length-Host bytes = length-line (codes "> ") bytes refl

pub length-Device : (bytes : List ℕ) → length (line_of (Device bytes)) ≡ 2 * length bytes + 3
length-Device bytes = length-line (codes "< ") bytes refl

length-place_text-le : (lun lba : ℕ) → lun < 2 ^ 8 → lba < 2 ^ 32 → length (place_text lun lba) ≤ 14
length-place_text-le lun lba unit block =
    let last = length-decimal-le 10 lba (omega arith) (omega arith) (omega arith) in
    let first = length-decimal-le 3 lun (omega arith) (omega arith) (omega arith) in
    elim (cases_eq lun 0) [
      | inl is ↦ rw (place_text-first lun lba is) (omega arith)
      | inr other ↦ rw (place_text-other lun lba other) (simp length-append (omega arith))
    ]

length-ended : (front text : List ℕ) → length ((front ++ text) ++ codes "\n") ≡ length front + length text + 1
length-ended front text = simp length-append (omega arith)

pub length-Moved-le : (lun lba : ℕ) → lun < 2 ^ 8 → lba < 2 ^ 32 → length (line_of (Moved lun lba)) ≤ 17
length-Moved-le lun lba unit block =
    let text = length-place_text-le lun lba unit block in
    let line = length-ended (codes "M ") (place_text lun lba) in
    omega arith

pub length-Gone-le : (tag : ℕ) → tag < 2 ^ 8 → length (line_of (Gone tag)) ≤ 6
length-Gone-le tag small =
    let number = length-decimal-le 3 tag (omega arith) (omega arith) (omega arith) in
    let line = length-ended (codes "X ") (decimal tag) in
    omega arith

pub length-counts_line-le : (counts : List ℕ) → ((k : ℕ) → slice_index counts k < 2 ^ 64) → length (counts_line counts) ≤ 142
length-counts_line-le counts small =
    let digits : (k : ℕ) → length (decimal (slice_index counts k)) ≤ 20 = λ k. let fits = small k in length-decimal-le 20 (slice_index counts k) (omega arith) (omega arith) fits in
    simp length-append (omega (arith, digits 0, digits 1, digits 2, digits 3, digits 4))
