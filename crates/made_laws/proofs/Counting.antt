-- Answers that are GOOD or cut, counted.
use Rattle.std.proofs.Common.{◌≡◌, ◌+◌, List, [], ◌∷◌, ◌++◌, length, length-append, refl, arith}
use Rattle.driver_laws.specs.declared.answer.Answer.TheVariants.{Good, Check, Status}
use Rattle.driver_laws.specs.Flat.{Answered, Asked, Came, Cut, Outcome}
use Rattle.drive_rules.specs.Said.{Said, Happened, Ended, Outside, answers_in}
use Rattle.made_drive.specs.Answers.{cut_count, cut_in, good_count, good_in}
use Rattle.made_laws.specs.Outcomes.{AllGoodOrCutAlone, IsGoodOrCutAlone}

first_ones : (xs ys : List Answered) → AllGoodOrCutAlone (xs ++ ys) → AllGoodOrCutAlone xs
first_ones [] ys all = tt
first_ones (x ∷ xs) ys all = (all.0, first_ones xs ys all.1)

last_ones : (xs ys : List Answered) → AllGoodOrCutAlone (xs ++ ys) → AllGoodOrCutAlone ys
last_ones [] ys all = all
last_ones (x ∷ xs) ys all = last_ones xs ys all.1

one_counted : (a : Asked) (outcome : Outcome) → IsGoodOrCutAlone outcome → good_count (Ended a outcome) + cut_count (Ended a outcome) ≡ 1
one_counted a (Came (Good bytes)) is = refl
one_counted a (Came (Check sense)) is = absurd is
one_counted a (Came (Status status)) is = absurd is
one_counted a Cut is = refl

-- each answer is counted once
pub all_counted : (said : List Said) → AllGoodOrCutAlone (answers_in said) → good_in said + cut_in said ≡ length (answers_in said)
all_counted [] all = refl
all_counted (Happened x ∷ said) all = let before = all_counted said all in omega (arith, before)
all_counted (Outside number ∷ said) all = let before = all_counted said all in omega (arith, before)
all_counted (Ended a outcome ∷ said) all =
    let answer : Answered = record { number = a.number; outcome = outcome } in
    let before = all_counted said (first_ones (answers_in said) (answer ∷ []) all) in
    let one = one_counted a outcome (last_ones (answers_in said) (answer ∷ []) all).0 in
    let more = length-append (answers_in said) (answer ∷ []) in
    omega (arith, before, one, more)
