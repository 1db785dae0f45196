-- The lines of answers in a text, byte by byte.
use Rattle.std.specs.Prelude.{ℕ, ◌+◌, ◌-◌, ◌^◌, Bool, true, false, ◌&&◌, List, fold, min, ◌==◌, if◌then◌else◌}
use Rattle.made_drive.specs.declared.scan.Place.{Place}
use Rattle.made_drive.specs.declared.scan.Place.TheVariants.{Begin, Answer, Other}
use Rattle.made_drive.specs.declared.scan.Scan.{Scan}

-- before the first byte
abbrev pub scan_begun : Scan
scan_begun = record { good = 0; cut = 0; place = Begin; before = 0; last = 0 }

-- one more where the test holds, up to 2^32 - 1
abbrev pub raised_if : Bool → ℕ → ℕ
raised_if test count = if test then min (count + 1) (2 ^ 32 - 1) else count

-- whether a place is in an answer
abbrev pub is_answer : Place → Bool
is_answer Answer = true
is_answer _ = false

-- whether the text ends in an answer and in these two bytes
abbrev pub ends_in : ℕ → ℕ → Scan → Bool
ends_in before last scan = is_answer scan.place && scan.before == before && scan.last == last

-- a line has ended: the last two bytes are "od" of an answer that is good, and "ut" of one that was cut
abbrev pub line_ended : Scan → Scan
line_ended scan = record {
  good = raised_if (ends_in 111 100 scan) scan.good;
  cut = raised_if (ends_in 117 116 scan) scan.cut;
  place = Begin;
  before = 0;
  last = 0;
}

-- where a text ends with one more byte that ends no line
abbrev pub place_behind : Place → ℕ → Place
place_behind Begin byte = if byte == 65 then Answer else Other
place_behind Answer byte = Answer
place_behind Other byte = Other

-- one more byte
abbrev pub byte_taken : Scan → ℕ → Scan
byte_taken scan byte =
    if byte == 10 then line_ended scan else
    record scan { place = place_behind scan.place byte; before = scan.last; last = byte }

-- all of a text
unfoldable pub scanned : List ℕ → Scan
scanned text = fold byte_taken scan_begun text
