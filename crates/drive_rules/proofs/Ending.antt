-- The answers of a whole drive.
use Rattle.std.proofs.Common.{◌≡◌, ℕ, List, [], ◌∷◌, ◌++◌, map, filter, refl, sym, ◌∙◌, ap, subst, append-nil}
use Rattle.flat_unit.specs.Causes.{Caused, failures}
use Rattle.flat_unit.specs.Contents.{Block}
use Rattle.flat_unit.specs.Sizes.{Sizes}
use Rattle.flat_unit.specs.Sound.{SoundSoFar}
use Rattle.driver_laws.specs.Commands.{OpenCommand, is_caller}
use Rattle.driver_laws.specs.Drive.{Moment, moment_after}
use Rattle.driver_laws.specs.Flat.{Answered, Asked, Came, Flat, flat_answer, flat_answers, flat_of, written_by}
use Rattle.driver_laws.specs.Fits.{AllGood, IsFlat, Serves, serving, serving_asked}
use Rattle.driver_laws.specs.Laws.{AllGoodOrCut, numbered}
use Rattle.driver_laws.proofs.Causing.{good_or_cut}
use Rattle.driver_laws.proofs.Turning.{Together, together}
use Rattle.driver_caches.specs.Machine.{Machine}
use Rattle.trace_text.specs.declared.drive.DriveLine.{DriveLine}
use Rattle.drive_rules.specs.Lines.{Drive, Drives, moment_of}
use Rattle.drive_rules.specs.FlatLines.{flat_given, outside_of, requests_of}
use Rattle.drive_rules.specs.Tame.{IsGoodDrive, IsLed, StaysTame}
use Rattle.drive_rules.proofs.Asking.{AllAsked, asked_drive}
use Rattle.drive_rules.proofs.Turns.{drained, led_drive}

given_of : (s : Sizes) (flat : Flat) (xs : List Asked) → flat_answers s flat xs ≡ flat_given s flat (numbered xs)
given_of s flat [] = refl
given_of s flat (x ∷ xs) = ap (λ (rest : List Answered). record { number = x.number; outcome = Came (flat_answer flat x.request) } ∷ rest) (given_of s (written_by s x.request flat) xs)

none_open : (callers : List Asked) → map serving_asked callers ≡ [] → callers ≡ []
none_open [] is = refl
none_open (a ∷ rest) is = absurd (some is)
  where
    some : serving_asked a ∷ map serving_asked rest ≡ [] → ⊥
    some is = cc

-- the requests that a drive took are those of its lines
pub asked_of : (s : Sizes) (machine : Machine) (lines : List DriveLine) (now : Drive) → Drives s machine lines now → numbered now.asked ≡ requests_of s 0 0 lines
asked_of s machine lines now drives = ap (λ (x : AllAsked). x.requests) (asked_drive s machine lines now drives)

-- and those out of range are those of its lines
pub outside_is : (s : Sizes) (machine : Machine) (lines : List DriveLine) (now : Drive) → Drives s machine lines now → now.outside ≡ outside_of s 0 0 lines
outside_is s machine lines now drives = ap (λ (x : AllAsked). x.outside) (asked_drive s machine lines now drives)

-- where each answer is GOOD, they are those of the flat unit to the requests of the lines
pub flat_drive : (s : Sizes) (u : List Block) (P : Machine → Type 0) (machine : Machine) (lines : List DriveLine) (now : Drive) → Serves s → StaysTame s P → P machine → machine.opens ≡ []
    → Drives s machine lines now → SoundSoFar s u now.progress.events → AllGood now.answers → now.answers ≡ flat_given s (flat_of s u) (requests_of s 0 0 lines)
flat_drive s u P machine lines now serves stays tame none drives sound good =
    let led : IsLed s P now = led_drive s u P machine lines now serves stays tame none drives sound in
    let all : Together s u (moment_after s led.turns) = together s u led.turns serves led.may (subst (λ (m : Moment). SoundSoFar s u m.events) led.is sound) in
    let flat : IsFlat s u (moment_after s led.turns) = all.flat (subst (λ (m : Moment). AllGood m.answers) led.is good) in
    let here : IsFlat s u (moment_of now) = subst (IsFlat s u) (sym led.is) flat in
    let no_opens : now.machine.opens ≡ [] = drained s drives.mid now drives.end in
    let callers : now.callers ≡ [] = none_open now.callers (here.serves ∙ ap (λ (os : List OpenCommand). map serving (filter is_caller os)) no_opens) in
    here.answers
    ∙ ap (flat_answers s (flat_of s u)) (sym (append-nil here.done) ∙ ap (λ (cs : List Asked). here.done ++ cs) (sym callers) ∙ sym here.order)
    ∙ given_of s (flat_of s u) now.asked
    ∙ ap (flat_given s (flat_of s u)) (asked_of s machine lines now drives)

-- where no call of the chip failed, each answer is GOOD or cut, or the sequence numbers were used up
pub good_drive : (s : Sizes) (u : List Block) (next : ℕ) (P : Machine → Type 0) (machine : Machine) (lines : List DriveLine) (now : Drive) → Serves s → StaysTame s P → P machine → machine.opens ≡ []
    → Drives s machine lines now → SoundSoFar s u now.progress.events → Caused s ⊥ next now.progress.events → failures now.progress.events ≡ 0 → AllGoodOrCut now.answers
good_drive s u next P machine lines now serves stays tame none drives sound caused faultless =
    let led : IsLed s P now = led_drive s u P machine lines now serves stays tame none drives sound in
    subst (λ (m : Moment). AllGoodOrCut m.answers) (sym led.is)
    (good_or_cut s u next led.turns serves led.may (subst (λ (m : Moment). SoundSoFar s u m.events) led.is sound)
    (subst (λ (m : Moment). Caused s ⊥ next m.events) led.is caused) (subst (λ (m : Moment). failures m.events ≡ 0) led.is faultless))

-- the answers and the requests out of range of a good drive
pub good_is_flat : (s : Sizes) (u : List Block) (P : Machine → Type 0) (machine : Machine) (lines : List DriveLine) (now : Drive) → Serves s → StaysTame s P → P machine
    → IsGoodDrive s u machine lines now → (now.answers ≡ flat_given s (flat_of s u) (requests_of s 0 0 lines)) × (now.outside ≡ outside_of s 0 0 lines)
good_is_flat s u P machine lines now serves stays tame is =
    (flat_drive s u P machine lines now serves stays tame is.begins is.drives is.sound is.good, outside_is s machine lines now is.drives)
