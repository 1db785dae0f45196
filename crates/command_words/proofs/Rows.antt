-- Words, and what they name.
use Rattle.std.proofs.Common.{◌≡◌, ℕ, false, true, List, [], ◌∷◌, refl, codes}
use Rattle.region_state.specs.declared.shape.Mode.TheVariants as decides
use Rattle.clap.specs.Faults.{fault_of}
use Rattle.clap.proofs.OnLiterals.{clap_on_literals}
use Rattle.command_words.specs.Words.{drive_app, gen_app, has_image, is_plain, named_chip, named_seed, named_unit, only_answers, replay_app, rows_in, show_app, snap_app}

not_empty : {A : Type 0} {x : A} {xs : List A} → x ∷ xs ≡ [] → ⊥
not_empty is = cc

-- replay
pub chip-alone : named_chip (codes "replay" ∷ []) ≡ record { blocks = 64; pages = 64 }
unfolding named_chip rows_in replay_app clap_on_literals
chip-alone = refl

pub unit-alone : named_unit (codes "replay" ∷ []) ≡ record { units = 3904; region_exp = 10; sub_exp = 8; held = 4; mode = decides.Device }
unfolding named_unit rows_in replay_app clap_on_literals
unit-alone = refl

-- replay --pages 4 --mode=host --blocks 08 --
abbrev some_named : List (List ℕ)
some_named =
    codes "replay" ∷ codes "--pages" ∷ codes "4" ∷ codes "--mode=host" ∷ codes "--blocks" ∷ codes "08" ∷ codes "--" ∷ []

pub taken-some : fault_of replay_app some_named ≡ []
unfolding replay_app clap_on_literals
taken-some = refl

pub chip-some : named_chip some_named ≡ record { blocks = 8; pages = 4 }
unfolding named_chip rows_in replay_app clap_on_literals
chip-some = refl

pub unit-some : named_unit some_named ≡ record { units = 20; region_exp = 10; sub_exp = 8; held = 4; mode = decides.Host }
unfolding named_unit rows_in replay_app clap_on_literals
unit-some = refl

-- replay --held 4 --held 4
pub twice-not_taken : fault_of replay_app (codes "replay" ∷ codes "--held" ∷ codes "4" ∷ codes "--held" ∷ codes "4" ∷ []) ≡ [] → ⊥
unfolding replay_app clap_on_literals
twice-not_taken is = not_empty is

-- replay --held
pub without_value-not_taken : fault_of replay_app (codes "replay" ∷ codes "--held" ∷ []) ≡ [] → ⊥
unfolding replay_app clap_on_literals
without_value-not_taken is = not_empty is

-- replay --plain
pub flag-not_taken : fault_of replay_app (codes "replay" ∷ codes "--plain" ∷ []) ≡ [] → ⊥
unfolding replay_app clap_on_literals
flag-not_taken is = not_empty is

-- show --help
pub help-not_taken : fault_of show_app (codes "show" ∷ codes "--help" ∷ []) ≡ [] → ⊥
unfolding show_app clap_on_literals
help-not_taken is = not_empty is

-- drive --plain --blocks 8
abbrev plain_drive : List (List ℕ)
plain_drive = codes "drive" ∷ codes "--plain" ∷ codes "--blocks" ∷ codes "8" ∷ []

pub drive-plain : (named_chip plain_drive ≡ record { blocks = 8; pages = 64 }) × (is_plain plain_drive ≡ true) × (only_answers plain_drive ≡ false)
unfolding named_chip is_plain only_answers rows_in drive_app clap_on_literals
drive-plain = (refl, refl, refl)

-- replay --image, and replay
pub taken-image : fault_of replay_app (codes "replay" ∷ codes "--image" ∷ []) ≡ []
unfolding replay_app clap_on_literals
taken-image = refl

pub replay-image : (has_image (codes "replay" ∷ codes "--image" ∷ []) ≡ true) × (has_image (codes "replay" ∷ []) ≡ false)
unfolding has_image rows_in replay_app clap_on_literals
replay-image = (refl, refl)

-- snap --pages 4 --image
abbrev small_snap : List (List ℕ)
small_snap = codes "snap" ∷ codes "--pages" ∷ codes "4" ∷ codes "--image" ∷ []

pub snap-small : (named_chip small_snap ≡ record { blocks = 64; pages = 4 }) × (has_image small_snap ≡ true)
unfolding named_chip has_image rows_in snap_app clap_on_literals
snap-small = (refl, refl)

-- show --image
pub image-not_shown : fault_of show_app (codes "show" ∷ codes "--image" ∷ []) ≡ [] → ⊥
unfolding show_app clap_on_literals
image-not_shown is = not_empty is

-- gen --seed 7, and gen
pub taken-gen : fault_of gen_app (codes "gen" ∷ codes "--seed" ∷ codes "7" ∷ []) ≡ []
unfolding gen_app clap_on_literals
taken-gen = refl

pub gen-seed : named_seed (codes "gen" ∷ codes "--seed" ∷ codes "7" ∷ []) ≡ 7
unfolding named_seed rows_in gen_app clap_on_literals
gen-seed = refl

pub without_seed-not_taken : fault_of gen_app (codes "gen" ∷ []) ≡ [] → ⊥
unfolding gen_app clap_on_literals
without_seed-not_taken is = not_empty is
