-- Each read and each write of the lines that are made is in range.
use Rattle.std.proofs.Common.{◌≡◌, ℕ, zero, suc, ◌+◌, ◌≤◌, ◌<◌, Bool, true, false, ◌==◌, ◌&&◌, nat_le, nat_lt, List, ◌∷◌, min, refl, ◌∙◌, ap, arith}
use Rattle.std.specs.Prelude.{if◌then◌else◌}
use Rattle.std.specs.List.{range_with_len}
use Rattle.std.proofs.lemmas.Bool.Decides.{nat_tests}
use Rattle.flat_unit.specs.Sizes.{Sizes}
use Rattle.driver_laws.specs.declared.request.Request.TheVariants.{Read as ReadOf, Write as WriteOf}
use Rattle.trace_text.specs.declared.drive.DriveLine.{DriveLine}
use Rattle.trace_text.specs.declared.drive.DriveLine.TheVariants.{Read, Write, Steps, Collect, Drain, Reset, Lun, Blank}
use Rattle.drive_rules.specs.FlatLines.{one_request, requests_of}
use Rattle.drive_rules.specs.Lines.{are_there, pattern_bytes}
use Rattle.made_laws.specs.Numbers.{numbers_of}
use Rattle.made_drive.specs.Counts.{reads_in, writes_in}
use Rattle.made_drive.specs.Generator.{block_count, drawn, first_block, line_after, made_collect, made_end, made_lines, made_read, made_steps, made_write, next_number}

-- the line chooses no unit, and a request of it is in range in the first one
abbrev IsInRange : Sizes → DriveLine → Type 0
IsInRange s (Read lba n) = are_there s 0 lba n ≡ true
IsInRange s (Write lba n seed) = are_there s 0 lba n ≡ true
IsInRange s (Lun k) = ⊥
IsInRange s _ = Unit {0}

drawn_below : (choices x : ℕ) → 0 < choices → drawn choices x < choices
unfolding drawn
drawn_below choices x some = omega arith

three_tests : (a b c : Bool) → a ≡ true → b ≡ true → c ≡ true → (a && (b && c)) ≡ true
three_tests a b c one two three = rw (one, two, three) refl

made_there : (s : Sizes) (x : ℕ) → 1 ≤ s.luns → 1 ≤ s.units → are_there s 0 (first_block s.units x) (block_count s.units x) ≡ true
made_there s x some_unit some_block =
    let first = drawn_below (min s.units 32768) x (omega arith) in
    let few = drawn_below 8 (next_number x) (omega arith) in
    let count : block_count s.units x ≤ 255 = omega (arith, few) in
    let end : first_block s.units x + block_count s.units x ≤ s.units = omega (arith, first) in
    let a : nat_lt 0 s.luns ≡ true = grind (arith, nat_tests) in
    let b : nat_le (block_count s.units x) 255 ≡ true = grind (arith, nat_tests) in
    let c : nat_le (first_block s.units x + block_count s.units x) s.units ≡ true = grind (arith, nat_tests) in
    three_tests _ _ _ a b c

end_in_range : (s : Sizes) (t : Bool) → IsInRange s (if t then Reset else Drain)
end_in_range s true = tt
end_in_range s false = tt

other_in_range : (s : Sizes) (thirteen fourteen : Bool) (x : ℕ) → IsInRange s (if thirteen then made_collect x else (if fourteen then made_steps x else made_end x)).line
other_in_range s true fourteen x = tt
other_in_range s false true x = tt
other_in_range s false false x = end_in_range s (drawn 64 x == 0)

made_in_range : (s : Sizes) (read write thirteen fourteen : Bool) (x : ℕ) → 1 ≤ s.luns → 1 ≤ s.units
    → IsInRange s (if read then made_read s.units x else (if write then made_write s.units x else (if thirteen then made_collect x else (if fourteen then made_steps x else made_end x)))).line
made_in_range s true write thirteen fourteen x some_unit some_block = made_there s x some_unit some_block
made_in_range s false true thirteen fourteen x some_unit some_block = made_there s x some_unit some_block
made_in_range s false false thirteen fourteen x some_unit some_block = other_in_range s thirteen fourteen x

line_in_range : (s : Sizes) (x : ℕ) → 1 ≤ s.luns → 1 ≤ s.units → IsInRange s (line_after s.units x).line
unfolding line_after
line_in_range s x some_unit some_block =
    let kind = drawn 16 x in
    made_in_range s (nat_lt kind 8) (nat_lt kind 13) (kind == 13) (kind == 14) (next_number x) some_unit some_block

-- a request more
one_more : (number r w count : ℕ) (xs : List ℕ) → xs ≡ range_with_len (number + 1 + 1) (r + w) → count ≡ suc (r + w) → (number + 1) ∷ xs ≡ range_with_len (number + 1) count
one_more number r w count xs is many = rw (is, many) refl

as_many_more : (number r w count : ℕ) (xs : List ℕ) → xs ≡ range_with_len (number + 1) (r + w) → count ≡ r + w → xs ≡ range_with_len (number + 1) count
as_many_more number r w count xs is many = rw (is, many) refl

line_requests : (s : Sizes) (line : DriveLine) (lines : List DriveLine) (number : ℕ) → IsInRange s line
    → ((n : ℕ) → numbers_of (requests_of s 0 n lines) ≡ range_with_len (n + 1) (reads_in lines + writes_in lines))
    → numbers_of (requests_of s 0 number (line ∷ lines)) ≡ range_with_len (number + 1) (reads_in (line ∷ lines) + writes_in (line ∷ lines))
line_requests s (Read lba n) lines number there rest =
    ap (λ (b : Bool). numbers_of (one_request b (number + 1) (ReadOf 0 lba n) (requests_of s 0 (number + 1) lines))) there
    ∙ one_more number (reads_in lines) (writes_in lines) _ (numbers_of (requests_of s 0 (number + 1) lines)) (rest (number + 1)) (omega arith)
line_requests s (Write lba n seed) lines number there rest =
    ap (λ (b : Bool). numbers_of (one_request b (number + 1) (WriteOf 0 lba n (pattern_bytes s seed lba n)) (requests_of s 0 (number + 1) lines))) there
    ∙ one_more number (reads_in lines) (writes_in lines) _ (numbers_of (requests_of s 0 (number + 1) lines)) (rest (number + 1)) (omega arith)
line_requests s (Lun k) lines number there rest = absurd there
line_requests s (Steps n) lines number there rest = as_many_more number (reads_in lines) (writes_in lines) _ (numbers_of (requests_of s 0 number lines)) (rest number) (omega arith)
line_requests s (Collect n) lines number there rest = as_many_more number (reads_in lines) (writes_in lines) _ (numbers_of (requests_of s 0 number lines)) (rest number) (omega arith)
line_requests s Drain lines number there rest = as_many_more number (reads_in lines) (writes_in lines) _ (numbers_of (requests_of s 0 number lines)) (rest number) (omega arith)
line_requests s Reset lines number there rest = as_many_more number (reads_in lines) (writes_in lines) _ (numbers_of (requests_of s 0 number lines)) (rest number) (omega arith)
line_requests s Blank lines number there rest = as_many_more number (reads_in lines) (writes_in lines) _ (numbers_of (requests_of s 0 number lines)) (rest number) (omega arith)

-- the requests of lines that are made have the numbers from 1 on
pub made_requests : (s : Sizes) (x count number : ℕ) → 1 ≤ s.luns → 1 ≤ s.units
    → numbers_of (requests_of s 0 number (made_lines s.units x count)) ≡ range_with_len (number + 1) (reads_in (made_lines s.units x count) + writes_in (made_lines s.units x count))
unfolding made_lines
made_requests s x zero number some_unit some_block = refl
made_requests s x (suc count) number some_unit some_block =
    line_requests s (line_after s.units x).line (made_lines s.units (line_after s.units x).number count) number (line_in_range s x some_unit some_block)
    (λ n. made_requests s (line_after s.units x).number count n some_unit some_block)
