-- What `parse` reads of a number.
use Rattle.std.proofs.Common.{◌≡◌, ℕ, ◌^◌, ◌<◌, ◌≤◌, Bool, true, false, List, length, Result, refl, ◌∙◌, ap, arith, rules}
use Rattle.std.specs.Prelude.{◌&&◌, nat_le}
use Rattle.std.specs.Char.{is_ascii_digit}
use Rattle.std.specs.List.{list_all}
use Rattle.std.specs.Result.{result_ok}
use Rattle.std.specs.Str.Parse.{ParsesUnsigned, digits_value}
use Rattle.std.proofs.lemmas.Bool.{false≢true}
use Rattle.std.proofs.lemmas.Bool.Decides.{nat_tests}
use Rattle.std.proofs.lemmas.Str.Parse.{IsNumeralModel, digits_value_short, numerals_by_value, parse_gives}
use Rattle.command_words.specs.Words.{is_number}
use Rattle.command_words.specs.Options.{number_said}

own : IsNumeralModel (λ (ds : List ℕ). list_all is_ascii_digit ds ≡ true) (digits_value 10)
own = numerals_by_value _ (search rules)

both_true : (a b : Bool) → a && b ≡ true → (a ≡ true) × (b ≡ true)
both_true true b e = (refl, e)
both_true false b e = absurd (false≢true e)

pub number_read : {E : Type 0} (word : List ℕ) (r : Result ℕ E) → is_number word ≡ true → ParsesUnsigned 32 10 word r → result_ok r ≡ number_said word
unfolding number_said
number_read word r is parses =
    let (some, rest) = both_true (nat_le 1 (length word)) _ is in
    let (few, digits) = both_true (nat_le (length word) 9) _ rest in
    let least : 1 ≤ length word = grind (arith, nat_tests) in
    let most : length word ≤ 9 = grind (arith, nat_tests) in
    let small : digits_value 10 word < 2 ^ 32 = omega (arith, digits_value_short own word 9 digits most) in
    ap result_ok (parse_gives own 32 word r parses digits least small) ∙ rw is refl
