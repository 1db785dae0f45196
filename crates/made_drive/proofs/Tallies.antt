-- The lines of a drive's text, as they are tallied.
use Rattle.std.proofs.Common.{◌≡◌, ℕ, zero, suc, ◌+◌, ◌-◌, ◌*◌, ◌/◌, ◌%◌, ◌^◌, true, false, ◌==◌, List, [], ◌∷◌, ◌++◌, codes, decimal, length, min, refl, sym, ap, ◌∙◌, arith, append_assoc}
use Rattle.std.specs.Prelude.{fold, slice_index, slice_range}
use Rattle.std.proofs.lemmas.List.Sums.{fold-append}
use Rattle.hex.specs.Hex.{encode_lower, lower_digits}
use Rattle.hpb_sense.specs.declared.sense.FixedSense.{FixedSense}
use Rattle.trace_text.specs.declared.ending.Ending.{Ending}
use Rattle.trace_text.specs.declared.ending.Ending.TheVariants.{Good, Check, Status, Cut, Range}
use Rattle.trace_text.specs.Shown.{byte_text, digit_text}
use Rattle.trace_text.specs.Written.{block_line, counted, counts_line, ending_line, ending_text}
use Rattle.driver_laws.specs.declared.answer.Answer.TheVariants.{Good as GoodAnswer, Check as CheckAnswer, Status as StatusAnswer}
use Rattle.driver_laws.specs.Flat.{Came, Cut as CutOutcome, Outcome}
use Rattle.drive_rules.specs.Said.{Said, Happened, Ended, Outside}
use Rattle.drive_rules.specs.Text.{answer_text, blocks_text, bytes_of, ending_of, lba_of, said_line, said_text}
use Rattle.made_drive.specs.declared.scan.Scan.{Scan}
use Rattle.made_drive.specs.declared.scan.Place.TheVariants.{Answer}
use Rattle.made_drive.specs.Answers.{cut_count, cut_in, good_count, good_in}
use Rattle.made_drive.specs.Scan.{byte_taken, line_ended, scan_begun, scanned}
use Rattle.made_drive.proofs.WithinLines.{NoEnd, Plain, at_begin, byte_digits, decimal_no_end, digit_plain, hex_no_end, inside, line_within, no_end_both, other_within}

-- the last two bytes of a line, beside its end
line_shape : (front text : List ℕ) (x y : ℕ) → (front ++ (text ++ x ∷ y ∷ [])) ++ 10 ∷ [] ≡ (front ++ text) ++ x ∷ y ∷ 10 ∷ []
line_shape front text x y =
    append_assoc front (text ++ x ∷ y ∷ []) (10 ∷ [])
    ∙ (ap (λ (l : List ℕ). front ++ l) (append_assoc text (x ∷ y ∷ []) (10 ∷ [])) ∙ sym (append_assoc front text (x ∷ y ∷ 10 ∷ [])))

number_no_end : (number : ℕ) → NoEnd (decimal number ++ 32 ∷ [])
number_no_end number = no_end_both (decimal number) (32 ∷ []) (decimal_no_end number) (refl, tt)

-- the line of an answer, by how it ends
answer_scan : (number good cut : ℕ) (ending : Ending) (text : List ℕ) (x y : ℕ) → ending_text ending ≡ text ++ x ∷ y ∷ []
    → NoEnd text → (x == 10) ≡ false → (y == 10) ≡ false
    → fold byte_taken (at_begin good cut) (ending_line number ending) ≡ line_ended (inside good cut Answer x y)
answer_scan number good cut ending text x y is none no_x no_y =
    let front : List ℕ = decimal number ++ 32 ∷ [] in
    ap (λ (l : List ℕ). fold byte_taken (inside good cut Answer 65 32) ((front ++ l) ++ 10 ∷ [])) is
    ∙ (ap (λ (l : List ℕ). fold byte_taken (inside good cut Answer 65 32) l) (line_shape front text x y)
    ∙ line_within (front ++ text) x y good cut 65 32 Answer (λ byte. refl) (no_end_both front text (number_no_end number) none) no_x no_y)

good_scan : (number good cut : ℕ) → fold byte_taken (at_begin good cut) (ending_line number Good) ≡ at_begin (min (good + 1) (2 ^ 32 - 1)) cut
good_scan number good cut = answer_scan number good cut Good (codes "go") 111 100 refl (refl, (refl, tt)) refl refl

cut_scan : (number good cut : ℕ) → fold byte_taken (at_begin good cut) (ending_line number Cut) ≡ at_begin good (min (cut + 1) (2 ^ 32 - 1))
cut_scan number good cut = answer_scan number good cut Cut (codes "c") 117 116 refl (refl, tt) refl refl

range_scan : (number good cut : ℕ) → fold byte_taken (at_begin good cut) (ending_line number Range) ≡ at_begin good cut
range_scan number good cut = answer_scan number good cut Range (codes "ran") 103 101 refl (refl, (refl, (refl, tt))) refl refl

-- a line that ends in hex digits
plain_ended : (x y good cut : ℕ) → Plain x → line_ended (inside good cut Answer x y) ≡ at_begin good cut
plain_ended x y good cut plain = let o = plain.no_o in let u = plain.no_u in rw (o, u) refl

hex_scan : (number good cut byte : ℕ) (ending : Ending) (text : List ℕ) → ending_text ending ≡ text ++ byte_text byte → NoEnd text
    → fold byte_taken (at_begin good cut) (ending_line number ending) ≡ at_begin good cut
hex_scan number good cut byte ending text is none =
    let high : ℕ = slice_index lower_digits (byte / 16) in
    let low : ℕ = slice_index lower_digits (byte % 16) in
    answer_scan number good cut ending text high low (is ∙ ap (λ (l : List ℕ). text ++ l) (byte_digits byte)) none
    (digit_plain (byte / 16)).no_end (digit_plain (byte % 16)).no_end
    ∙ plain_ended high low good cut (digit_plain (byte / 16))

status_scan : (number good cut status : ℕ) → fold byte_taken (at_begin good cut) (ending_line number (Status status)) ≡ at_begin good cut
status_scan number good cut status =
    hex_scan number good cut status (Status status) (codes "status ") refl (refl, (refl, (refl, (refl, (refl, (refl, (refl, tt)))))))

digit_no_end : (number : ℕ) → NoEnd (digit_text number)
digit_no_end number = rw (byte_digits number) ((digit_plain (number % 16)).no_end, tt)

check_no_end : (sense : FixedSense) → NoEnd (codes "check " ++ digit_text sense.key ++ codes " " ++ byte_text sense.asc ++ codes " ")
check_no_end sense =
    let word = no_end_both (codes "check ") (digit_text sense.key) (refl, (refl, (refl, (refl, (refl, (refl, tt)))))) (digit_no_end sense.key) in
    let key = no_end_both (codes "check " ++ digit_text sense.key) (codes " ") word (refl, tt) in
    let asc = no_end_both (codes "check " ++ digit_text sense.key ++ codes " ") (byte_text sense.asc) key (hex_no_end (sense.asc ∷ [])) in
    no_end_both (codes "check " ++ digit_text sense.key ++ codes " " ++ byte_text sense.asc) (codes " ") asc (refl, tt)

check_scan : (number good cut : ℕ) (sense : FixedSense) → fold byte_taken (at_begin good cut) (ending_line number (Check sense)) ≡ at_begin good cut
check_scan number good cut sense =
    hex_scan number good cut sense.ascq (Check sense) (codes "check " ++ digit_text sense.key ++ codes " " ++ byte_text sense.asc ++ codes " ") refl (check_no_end sense)

-- the lines of blocks
block_scan : (lba good cut : ℕ) (bytes : List ℕ) → fold byte_taken (at_begin good cut) (block_line lba bytes) ≡ at_begin good cut
block_scan lba good cut bytes =
    other_within ((decimal lba ++ 32 ∷ []) ++ encode_lower bytes) good cut 66 32 (no_end_both (decimal lba ++ 32 ∷ []) (encode_lower bytes) (number_no_end lba) (hex_no_end bytes))

blocks_scan : (lba good cut : ℕ) (bytes : List ℕ) (k : ℕ) → fold byte_taken (at_begin good cut) (blocks_text lba bytes k) ≡ at_begin good cut
blocks_scan lba good cut bytes zero = refl
blocks_scan lba good cut bytes (suc k) =
    let block : List ℕ = slice_range bytes (4096 * k) (4096 * k + 4096) in
    fold-append byte_taken (at_begin good cut) (blocks_text lba bytes k) (block_line (lba + k) block)
    ∙ (ap (λ (s : Scan). fold byte_taken s (block_line (lba + k) block)) (blocks_scan lba good cut bytes k) ∙ block_scan (lba + k) good cut block)

-- an answer and its blocks
text_scan : (number lba good cut more_good more_cut : ℕ) (outcome : Outcome)
    → fold byte_taken (at_begin good cut) (ending_line number (ending_of outcome)) ≡ at_begin more_good more_cut
    → fold byte_taken (at_begin good cut) (answer_text number lba outcome) ≡ at_begin more_good more_cut
text_scan number lba good cut more_good more_cut outcome is =
    let blocks : List ℕ = blocks_text lba (bytes_of outcome) (length (bytes_of outcome) / 4096) in
    fold-append byte_taken (at_begin good cut) (ending_line number (ending_of outcome)) blocks
    ∙ (ap (λ (s : Scan). fold byte_taken s blocks) is ∙ blocks_scan lba more_good more_cut (bytes_of outcome) (length (bytes_of outcome) / 4096))

-- counts, up to the highest
abbrev at_counts : ℕ → ℕ → Scan
at_counts good cut = at_begin (min good (2 ^ 32 - 1)) (min cut (2 ^ 32 - 1))

at_same : (good cut more_good more_cut : ℕ) → good ≡ more_good → cut ≡ more_cut → at_begin good cut ≡ at_begin more_good more_cut
at_same good cut more_good more_cut same_good same_cut = rw (same_good, same_cut) refl

said_line_scan : (x : Said) (good cut : ℕ)
    → fold byte_taken (at_counts good cut) (said_line true x) ≡ at_counts (good_count x + good) (cut_count x + cut)
said_line_scan (Happened x) good cut = at_same _ _ _ _ (omega arith) (omega arith)
said_line_scan (Ended a (Came (GoodAnswer bytes))) good cut =
    let g = min good (2 ^ 32 - 1) in let k = min cut (2 ^ 32 - 1) in
    text_scan a.number (lba_of a.request) g k (min (g + 1) (2 ^ 32 - 1)) k (Came (GoodAnswer bytes)) (good_scan a.number g k)
    ∙ at_same _ _ _ _ (omega arith) (omega arith)
said_line_scan (Ended a (Came (CheckAnswer sense))) good cut =
    let g = min good (2 ^ 32 - 1) in let k = min cut (2 ^ 32 - 1) in
    text_scan a.number (lba_of a.request) g k g k (Came (CheckAnswer sense)) (check_scan a.number g k sense)
    ∙ at_same _ _ _ _ (omega arith) (omega arith)
said_line_scan (Ended a (Came (StatusAnswer status))) good cut =
    let g = min good (2 ^ 32 - 1) in let k = min cut (2 ^ 32 - 1) in
    text_scan a.number (lba_of a.request) g k g k (Came (StatusAnswer status)) (status_scan a.number g k status)
    ∙ at_same _ _ _ _ (omega arith) (omega arith)
said_line_scan (Ended a CutOutcome) good cut =
    let g = min good (2 ^ 32 - 1) in let k = min cut (2 ^ 32 - 1) in
    text_scan a.number (lba_of a.request) g k g (min (k + 1) (2 ^ 32 - 1)) CutOutcome (cut_scan a.number g k)
    ∙ at_same _ _ _ _ (omega arith) (omega arith)
said_line_scan (Outside number) good cut =
    range_scan number (min good (2 ^ 32 - 1)) (min cut (2 ^ 32 - 1)) ∙ at_same _ _ _ _ (omega arith) (omega arith)

-- the text of all that was said
said_scan : (said : List Said) → fold byte_taken scan_begun (said_text true said) ≡ at_counts (good_in said) (cut_in said)
unfolding said_text
said_scan [] = refl
said_scan (x ∷ said) =
    fold-append byte_taken scan_begun (said_text true said) (said_line true x)
    ∙ (ap (λ (s : Scan). fold byte_taken s (said_line true x)) (said_scan said) ∙ said_line_scan x (good_in said) (cut_in said))

pub said_tally : (said : List Said) → scanned (said_text true said) ≡ at_counts (good_in said) (cut_in said)
unfolding scanned
said_tally said = said_scan said

-- the line of the device's counts
counts_front : List ℕ → List ℕ
counts_front counts =
    counted (codes " steps=") (slice_index counts 0) ++ counted (codes " lookups=") (slice_index counts 1)
    ++ counted (codes " entries=") (slice_index counts 2) ++ counted (codes " moved=") (slice_index counts 3)
    ++ counted (codes " erased=") (slice_index counts 4)

counted_no_end : (name : List ℕ) (count : ℕ) → NoEnd name → NoEnd (counted name count)
counted_no_end name count none = no_end_both name (decimal count) none (decimal_no_end count)

counts_no_end : (counts : List ℕ) → NoEnd (counts_front counts)
unfolding counts_front
counts_no_end counts =
    let steps : List ℕ = counted (codes " steps=") (slice_index counts 0) in
    let lookups : List ℕ = counted (codes " lookups=") (slice_index counts 1) in
    let entries : List ℕ = counted (codes " entries=") (slice_index counts 2) in
    let moved : List ℕ = counted (codes " moved=") (slice_index counts 3) in
    let erased : List ℕ = counted (codes " erased=") (slice_index counts 4) in
    let to_steps : NoEnd steps = counted_no_end (codes " steps=") (slice_index counts 0) (refl, (refl, (refl, (refl, (refl, (refl, (refl, tt))))))) in
    let to_lookups : NoEnd (steps ++ lookups) = no_end_both (steps) lookups to_steps (counted_no_end (codes " lookups=") (slice_index counts 1) (refl, (refl, (refl, (refl, (refl, (refl, (refl, (refl, (refl, tt)))))))))) in
    let to_entries : NoEnd (steps ++ lookups ++ entries) = no_end_both (steps ++ lookups) entries to_lookups (counted_no_end (codes " entries=") (slice_index counts 2) (refl, (refl, (refl, (refl, (refl, (refl, (refl, (refl, (refl, tt)))))))))) in
    let to_moved : NoEnd (steps ++ lookups ++ entries ++ moved) = no_end_both (steps ++ lookups ++ entries) moved to_entries (counted_no_end (codes " moved=") (slice_index counts 3) (refl, (refl, (refl, (refl, (refl, (refl, (refl, tt)))))))) in
    no_end_both (steps ++ lookups ++ entries ++ moved) erased to_moved (counted_no_end (codes " erased=") (slice_index counts 4) (refl, (refl, (refl, (refl, (refl, (refl, (refl, (refl, tt)))))))))

counts_scan : (good cut : ℕ) (counts : List ℕ) → fold byte_taken (at_begin good cut) (counts_line counts) ≡ at_begin good cut
unfolding counts_front
counts_scan good cut counts = other_within (counts_front counts) good cut 0 84 (counts_no_end counts)

pub said_tally-counts : (said : List Said) (counts : List ℕ) → scanned (said_text true said ++ counts_line counts) ≡ at_counts (good_in said) (cut_in said)
unfolding scanned
said_tally-counts said counts =
    fold-append byte_taken scan_begun (said_text true said) (counts_line counts)
    ∙ (ap (λ (s : Scan). fold byte_taken s (counts_line counts)) (said_scan said)
    ∙ counts_scan (min (good_in said) (2 ^ 32 - 1)) (min (cut_in said) (2 ^ 32 - 1)) counts)
