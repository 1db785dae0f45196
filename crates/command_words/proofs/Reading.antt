-- The commands as `clap` has them.
use Rattle.std.proofs.Common.{◌≡◌, inl, inr, Bool, true, false, refl, sym, subst, ◌∙◌, ap, ℕ, List, Option, Result}
use Rattle.std.specs.Prelude.{◌&&◌, IfOk, codes, unwrap_or}
use Rattle.clap.specs.Faults.{is_simple_and_free}
use Rattle.clap.specs.Simple.{App, matches_of}
use Rattle.clap.specs.Walk.{Row, Text}
use Rattle.command_words.specs.Words.{IsFirst, IsRead, RunsDevice, drive_app, gen_app, replay_app, rows_in, show_app, snap_app}
use Rattle.command_words.specs.Words.{has_image, is_plain, named_chip, named_seed, named_unit, only_answers}
use Rattle.command_words.specs.declared.words.WordsFault.{WordsFault}
use Rattle.command_words.specs.Options.{IsCommand, IsGiven, chip_given, cut_shape, unit_given}
use Rattle.command_words.specs.declared.words.Command.TheVariants.{Replay, Snap, Drive, Gen}
use Rattle.command_words.specs.declared.words.Driven.{Driven}
use Rattle.command_words.specs.declared.words.Generated.{Generated}
use Rattle.command_words.specs.declared.words.Replayed.{Replayed}
use Rattle.std.proofs.lemmas.Result.{IfOk-weaker}
use Rattle.command_words.specs.declared.words.Given.{Given}

-- each is one whose reading is stated
pub replay_is_simple : is_simple_and_free replay_app ≡ true
unfolding replay_app
replay_is_simple = refl

pub snap_is_simple : is_simple_and_free snap_app ≡ true
unfolding snap_app
snap_is_simple = refl

pub drive_is_simple : is_simple_and_free drive_app ≡ true
unfolding drive_app
drive_is_simple = refl

pub gen_is_simple : is_simple_and_free gen_app ≡ true
unfolding gen_app
gen_is_simple = refl

pub show_is_simple : is_simple_and_free show_app ≡ true
unfolding show_app
show_is_simple = refl

pub left_true : (a b : Bool) → (a && b) ≡ true → a ≡ true
left_true true b is = refl
left_true false b is = is

-- what is read as one command is read as the same
pub read_as : (app now : App) (words : List Text) (r : Result Given WordsFault) → now ≡ app
    → IfOk r (λ (given : Given). IsRead now words × IsGiven (matches_of now words) given)
    → IfOk r (λ (given : Given). IsRead app words × IsGiven (matches_of app words) given)
read_as app now words r is = subst (λ (a : App). IfOk r (λ (given : Given). IsRead a words × IsGiven (matches_of a words) given)) is

pub not_read_as : (app now : App) (words : List Text) {P : Type 0} → now ≡ app → (P → ¬ IsRead now words) → P → ¬ IsRead app words
not_read_as app now words is none p = subst (λ (a : App). ¬ IsRead a words) is (none p)

-- the words of a command that runs a device set what is set for that command
pub rows_of_replay : (words : List Text) → IsFirst (codes "replay") words → rows_in words ≡ matches_of replay_app words
unfolding rows_in
rows_of_replay words is = rw is refl

pub rows_of_snap : (words : List Text) → IsFirst (codes "snap") words → rows_in words ≡ matches_of snap_app words
unfolding rows_in
rows_of_snap words is = rw is refl

pub rows_of_drive : (words : List Text) → IsFirst (codes "drive") words → rows_in words ≡ matches_of drive_app words
unfolding rows_in
rows_of_drive words is = rw is refl

pub rows_of_gen : (words : List Text) → IsFirst (codes "gen") words → rows_in words ≡ matches_of gen_app words
unfolding rows_in
rows_of_gen words is = rw is refl

given_rows : (app : App) (words : List Text) (given : Given) → rows_in words ≡ matches_of app words
    → IsGiven (matches_of app words) given → IsGiven (rows_in words) given
given_rows app words given rows = subst (λ (rows : List Row). IsGiven rows given) (sym rows)

-- what the words of `replay` and `snap` name
abbrev pub replayed_of : Given → Replayed
replayed_of given = record {
  named = record { chip = chip_given given; unit = cut_shape (unit_given given) };
  image = given.image;
}

names_replayed : (words : List Text) (given : Given) (replayed : Replayed) → IsGiven (rows_in words) given
    → replayed ≡ replayed_of given
    → (replayed.named.chip ≡ named_chip words) × (replayed.named.unit ≡ cut_shape (named_unit words))
    × (replayed.image ≡ has_image words)
unfolding named_chip named_unit has_image
names_replayed words given replayed read is = (
  ap (λ (r : Replayed). r.named.chip) is ∙ read.chip,
  ap (λ (r : Replayed). r.named.unit) is ∙ ap cut_shape read.unit,
  ap (λ (r : Replayed). r.image) is ∙ read.image,
)

pub replay_named : (words : List Text) (given : Given) (replayed : Replayed) → IsFirst (codes "replay") words
    → IsRead replay_app words × IsGiven (matches_of replay_app words) given → replayed ≡ replayed_of given
    → IsCommand words (Replay replayed)
replay_named words given replayed first read is =
    let rows = given_rows replay_app words given (rows_of_replay words first) read.1 in
    let (chip, unit, image) = names_replayed words given replayed rows is in ((first, read.0), chip, unit, image)

pub snap_named : (words : List Text) (given : Given) (replayed : Replayed) → IsFirst (codes "snap") words
    → IsRead snap_app words × IsGiven (matches_of snap_app words) given → replayed ≡ replayed_of given
    → IsCommand words (Snap replayed)
snap_named words given replayed first read is =
    let rows = given_rows snap_app words given (rows_of_snap words first) read.1 in
    let (chip, unit, image) = names_replayed words given replayed rows is in ((first, read.0), chip, unit, image)

-- and those of `drive`
pub drive_named : (words : List Text) (given : Given) (driven : Driven) → IsFirst (codes "drive") words
    → IsRead drive_app words × IsGiven (matches_of drive_app words) given
    → driven ≡ record {
      named = record { chip = chip_given given; unit = cut_shape (unit_given given) };
      image = given.image;
      plain = given.plain;
      answers = given.answers;
    } → IsCommand words (Drive driven)
unfolding named_chip named_unit has_image is_plain only_answers
drive_named words given driven first read is =
    let rows = given_rows drive_app words given (rows_of_drive words first) read.1 in (
      (first, read.0),
      ap (λ (d : Driven). d.named.chip) is ∙ rows.chip,
      ap (λ (d : Driven). d.named.unit) is ∙ ap cut_shape rows.unit,
      ap (λ (d : Driven). d.plain) is ∙ rows.plain,
      ap (λ (d : Driven). d.answers) is ∙ rows.answers,
      ap (λ (d : Driven). d.image) is ∙ rows.image,
    )

-- and those of `gen`
pub gen_named : (words : List Text) (given : Given) (generated : Generated) → IsFirst (codes "gen") words
    → IsRead gen_app words × IsGiven (matches_of gen_app words) given
    → generated ≡ record {
      named = record { chip = chip_given given; unit = cut_shape (unit_given given) };
      seed = unwrap_or given.seed 0;
      plain = given.plain;
    } → IsCommand words (Gen generated)
unfolding named_chip named_unit named_seed is_plain
gen_named words given generated first read is =
    let rows = given_rows gen_app words given (rows_of_gen words first) read.1 in (
      (first, read.0),
      ap (λ (d : Generated). d.named.chip) is ∙ rows.chip,
      ap (λ (d : Generated). d.named.unit) is ∙ ap cut_shape rows.unit,
      ap (λ (d : Generated). d.seed) is ∙ ap (λ (n : Option ℕ). unwrap_or n 0) rows.seed,
      ap (λ (d : Generated). d.plain) is ∙ rows.plain,
    )

-- words that are read run a device
runs : (app : App) (words : List Text) (r : Result Given WordsFault) → rows_in words ≡ matches_of app words
    → (IsRead app words → RunsDevice words)
    → IfOk r (λ (given : Given). IsRead app words × IsGiven (matches_of app words) given)
    → IfOk r (λ (given : Given). RunsDevice words × IsGiven (rows_in words) given)
runs app words r rows device = IfOk-weaker r _ _
    (λ given read. (device read.0, given_rows app words given rows read.1))

pub replay_runs : (words : List Text) (r : Result Given WordsFault) → IsFirst (codes "replay") words
    → IfOk r (λ (given : Given). IsRead replay_app words × IsGiven (matches_of replay_app words) given)
    → IfOk r (λ (given : Given). RunsDevice words × IsGiven (rows_in words) given)
replay_runs words r first = runs replay_app words r (rows_of_replay words first) (λ read. inl (first, read))

pub snap_runs : (words : List Text) (r : Result Given WordsFault) → IsFirst (codes "snap") words
    → IfOk r (λ (given : Given). IsRead snap_app words × IsGiven (matches_of snap_app words) given)
    → IfOk r (λ (given : Given). RunsDevice words × IsGiven (rows_in words) given)
snap_runs words r first = runs snap_app words r (rows_of_snap words first) (λ read. inr (inl (first, read)))

pub drive_runs : (words : List Text) (r : Result Given WordsFault) → IsFirst (codes "drive") words
    → IfOk r (λ (given : Given). IsRead drive_app words × IsGiven (matches_of drive_app words) given)
    → IfOk r (λ (given : Given). RunsDevice words × IsGiven (rows_in words) given)
drive_runs words r first = runs drive_app words r (rows_of_drive words first) (λ read. inr (inr (inl (first, read))))

pub gen_runs : (words : List Text) (r : Result Given WordsFault) → IsFirst (codes "gen") words
    → IfOk r (λ (given : Given). IsRead gen_app words × IsGiven (matches_of gen_app words) given)
    → IfOk r (λ (given : Given). RunsDevice words × IsGiven (rows_in words) given)
gen_runs words r first = runs gen_app words r (rows_of_gen words first) (λ read. inr (inr (inr (first, read))))

-- what is given is what the words name
pub chip_named : (words : List Text) (r : Result Given WordsFault)
    → IfOk r (λ (given : Given). RunsDevice words × IsGiven (rows_in words) given)
    → IfOk r (λ (given : Given). chip_given given ≡ named_chip words)
unfolding named_chip
chip_named words r = IfOk-weaker r _ _ (λ given read. read.1.chip)

pub unit_named : (words : List Text) (r : Result Given WordsFault)
    → IfOk r (λ (given : Given). RunsDevice words × IsGiven (rows_in words) given)
    → IfOk r (λ (given : Given). unit_given given ≡ named_unit words)
unfolding named_unit
unit_named words r = IfOk-weaker r _ _ (λ given read. read.1.unit)
