-- Whole drives, of a driver as it is made.
use Rattle.std.proofs.Common.{◌≡◌, ℕ, zero, suc, Bool, true, false, List, length, refl, sym, ◌∙◌, arith}
use Rattle.std.specs.List.{AllByRecursion}
use Rattle.region_state.specs.declared.shape.Shape.{Shape}
use Rattle.flat_unit.specs.Causes.{Caused, failures}
use Rattle.flat_unit.specs.Contents.{Block}
use Rattle.flat_unit.specs.Sizes.{Sizes}
use Rattle.flat_unit.specs.Sound.{SoundSoFar}
use Rattle.driver_laws.specs.Fits.{Serves}
use Rattle.driver_laws.specs.Flat.{flat_of}
use Rattle.driver_laws.specs.Laws.{AllGoodOrCut}
use Rattle.drive_rules.specs.Cached.{HasCaches, HasShape, IsCached}
use Rattle.drive_rules.specs.FlatLines.{flat_given, outside_of, requests_of}
use Rattle.trace_text.specs.declared.drive.DriveLine.{DriveLine}
use Rattle.drive_rules.specs.Lines.{Drive, Drives}
use Rattle.driver_caches.specs.Machine.{caches_for, machine_begun}
use Rattle.drive_rules.specs.Tame.{IsGoodDrive, IsPlain}
use Rattle.drive_rules.proofs.Ending.{good_drive, good_is_flat}
use Rattle.drive_rules.proofs.Plain.{plain_stays}
use Rattle.drive_rules.proofs.Staying.{cached_stays}

all_empty : (shape : Shape) (n : ℕ) → AllByRecursion (IsCached shape) (caches_for n shape)
all_empty shape zero = tt
all_empty shape (suc n) = (record { shape_is = refl; wants = tt; evicted = tt; held = tt }, all_empty shape n)

count_empty : (shape : Shape) (n : ℕ) → length (caches_for n shape) ≡ n
count_empty shape zero = refl
count_empty shape (suc n) = let e = count_empty shape n in omega (arith, e)

begins_cached : (s : Sizes) (shape : Shape) → HasCaches s shape (machine_begun false shape s.luns)
begins_cached s shape = record { caches = all_empty shape s.luns; some_id = omega arith; last_id = omega arith; few = let e = count_empty shape s.luns in omega (arith, e); got = tt }

pub drive_is_flat : (s : Sizes) (shape : Shape) (plain : Bool) (u : List Block) (lines : List DriveLine) (d : Drive) → Serves s → HasShape s shape
    → IsGoodDrive s u (machine_begun plain shape s.luns) lines d → (d.answers ≡ flat_given s (flat_of s u) (requests_of s 0 0 lines)) × (d.outside ≡ outside_of s 0 0 lines)
drive_is_flat s shape true u lines d serves has is = good_is_flat s u IsPlain (machine_begun true shape s.luns) lines d serves (plain_stays s) refl is
drive_is_flat s shape false u lines d serves has is = good_is_flat s u (HasCaches s shape) (machine_begun false shape s.luns) lines d serves (cached_stays s shape has) (begins_cached s shape) is

pub with_or_without : (s : Sizes) (shape : Shape) (u : List Block) (lines : List DriveLine) (a b : Drive) → Serves s → HasShape s shape
    → IsGoodDrive s u (machine_begun true shape s.luns) lines a → IsGoodDrive s u (machine_begun false shape s.luns) lines b → (a.answers ≡ b.answers) × (a.outside ≡ b.outside)
with_or_without s shape u lines a b serves has is_a is_b =
    let one = drive_is_flat s shape true u lines a serves has is_a in
    let two = drive_is_flat s shape false u lines b serves has is_b in
    (one.0 ∙ sym two.0, one.1 ∙ sym two.1)

pub good_whole : (s : Sizes) (shape : Shape) (plain : Bool) (u : List Block) (next : ℕ) (lines : List DriveLine) (d : Drive) → Serves s → HasShape s shape
    → Drives s (machine_begun plain shape s.luns) lines d → SoundSoFar s u d.progress.events → Caused s ⊥ next d.progress.events → failures d.progress.events ≡ 0 → AllGoodOrCut d.answers
good_whole s shape true u next lines d serves has drives sound caused none =
    good_drive s u next IsPlain (machine_begun true shape s.luns) lines d serves (plain_stays s) refl refl drives sound caused none
good_whole s shape false u next lines d serves has drives sound caused none =
    good_drive s u next (HasCaches s shape) (machine_begun false shape s.luns) lines d serves (cached_stays s shape has) (begins_cached s shape) refl drives sound caused none
