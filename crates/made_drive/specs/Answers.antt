-- How many answers of a drive are good, and how many were cut.
use Rattle.std.specs.Prelude.{ℕ, ◌+◌, List, [], ◌∷◌}
use Rattle.driver_laws.specs.declared.answer.Answer.TheVariants.{Good}
use Rattle.driver_laws.specs.Flat.{Came, Cut}
use Rattle.drive_rules.specs.Said.{Said, Ended}

-- 1 for an answer that is good
abbrev pub good_count : Said → ℕ
good_count (Ended a (Came (Good bytes))) = 1
good_count _ = 0

-- 1 for one that was cut
abbrev pub cut_count : Said → ℕ
cut_count (Ended a Cut) = 1
cut_count _ = 0

-- how many are good among what was said
abbrev pub good_in : List Said → ℕ
good_in [] = 0
good_in (x ∷ said) = good_count x + good_in said

-- how many were cut
abbrev pub cut_in : List Said → ℕ
cut_in [] = 0
cut_in (x ∷ said) = cut_count x + cut_in said
