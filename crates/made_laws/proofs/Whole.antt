-- The answers of drives that are made.
use Rattle.std.proofs.Common.{◌≡◌, ℕ, ◌+◌, ◌≤◌, Bool, List, length, refl, sym, ◌∙◌, ap, subst}
use Rattle.std.specs.Prelude.{IsPermutation}
use Rattle.std.specs.List.{range_with_len}
use Rattle.std.proofs.lemmas.List.{length-map}
use Rattle.std.proofs.lemmas.List.FromFn.{length-range_with_len}
use Rattle.std.proofs.lemmas.List.Sorted.{length_permutation}
use Rattle.region_state.specs.declared.shape.Shape.{Shape}
use Rattle.flat_unit.specs.Sizes.{Sizes}
use Rattle.driver_laws.specs.Flat.{Answered}
use Rattle.driver_laws.specs.Fits.{numbers_answered}
use Rattle.driver_caches.specs.Machine.{Machine, machine_begun}
use Rattle.trace_text.specs.declared.drive.DriveLine.{DriveLine}
use Rattle.drive_rules.specs.Lines.{Drive, Drives}
use Rattle.drive_rules.specs.Told.{IsTold}
use Rattle.drive_rules.proofs.Telling.{told_drive}
use Rattle.made_drive.specs.Answers.{cut_in, good_in}
use Rattle.made_drive.specs.Counts.{reads_in, writes_in}
use Rattle.made_drive.specs.Generator.{made_lines}
use Rattle.made_laws.specs.Outcomes.{AllGoodOrCutAlone}
use Rattle.made_laws.proofs.Counting.{all_counted}
use Rattle.made_laws.proofs.Keeping.{all_answered}
use Rattle.made_laws.proofs.Making.{made_requests}

pub made_answered : (s : Sizes) (shape : Shape) (plain : Bool) (seed count : ℕ) (last : Drive) → 1 ≤ s.luns → 1 ≤ s.units
    → Drives s (machine_begun plain shape s.luns) (made_lines s.units seed count) last
    → IsPermutation (range_with_len 1 (reads_in (made_lines s.units seed count) + writes_in (made_lines s.units seed count))) (numbers_answered last.answers)
made_answered s shape plain seed count last some_unit some_block drives =
    subst (λ (xs : List ℕ). IsPermutation xs (numbers_answered last.answers)) (made_requests s seed count 0 some_unit some_block)
    (all_answered s (machine_begun plain shape s.luns) (made_lines s.units seed count) last refl drives)

pub made_count : (s : Sizes) (shape : Shape) (plain : Bool) (seed count : ℕ) (last : Drive) → 1 ≤ s.luns → 1 ≤ s.units
    → Drives s (machine_begun plain shape s.luns) (made_lines s.units seed count) last
    → length last.answers ≡ reads_in (made_lines s.units seed count) + writes_in (made_lines s.units seed count)
made_count s shape plain seed count last some_unit some_block drives =
    let many : ℕ = reads_in (made_lines s.units seed count) + writes_in (made_lines s.units seed count) in
    sym (length-map last.answers (λ (a : Answered). a.number))
    ∙ length_permutation (range_with_len 1 many) (numbers_answered last.answers) (made_answered s shape plain seed count last some_unit some_block drives)
    ∙ length-range_with_len 1 many

pub good_or_cut : (s : Sizes) (machine : Machine) (lines : List DriveLine) (last : Drive) → Drives s machine lines last → AllGoodOrCutAlone last.answers
    → good_in last.said + cut_in last.said ≡ length last.answers
good_or_cut s machine lines last drives all =
    let told : IsTold last = told_drive s machine lines last drives in
    all_counted last.said (subst AllGoodOrCutAlone told.answers all) ∙ ap (λ (xs : List Answered). length xs) (sym told.answers)

pub made_good_or_cut : (s : Sizes) (shape : Shape) (plain : Bool) (seed count : ℕ) (last : Drive) → 1 ≤ s.luns → 1 ≤ s.units
    → Drives s (machine_begun plain shape s.luns) (made_lines s.units seed count) last → AllGoodOrCutAlone last.answers
    → good_in last.said + cut_in last.said ≡ reads_in (made_lines s.units seed count) + writes_in (made_lines s.units seed count)
made_good_or_cut s shape plain seed count last some_unit some_block drives all =
    good_or_cut s (machine_begun plain shape s.luns) (made_lines s.units seed count) last drives all ∙ made_count s shape plain seed count last some_unit some_block drives
