-- What is read of the words, as far as the code keeps it.
use Rattle.std.specs.Prelude.{◌≡◌, ℕ, ◌-◌, ◌*◌, ◌^◌, min, List, Option, Some, None, codes, if◌then◌else◌, unwrap_or}
use Rattle.std.specs.Str.Parse.{digits_value}
use Rattle.clap.specs.Walk.{Row, Text}
use Rattle.flash_pages.specs.declared.chip.Geometry.{Geometry}
use Rattle.region_state.specs.declared.shape.Mode.TheVariants as decides
use Rattle.region_state.specs.declared.shape.Shape.{Shape}
use Rattle.command_words.specs.declared.words.Command.{Command}
use Rattle.command_words.specs.declared.words.Command.TheVariants.{Replay, Snap, Drive, Gen, Show}
use Rattle.command_words.specs.declared.words.Given.{Given}
use Rattle.command_words.specs.Words.{IsDrive, IsGen, IsReplay, IsShow, IsSnap, chip_set, has_flag, has_image}
use Rattle.command_words.specs.Words.{is_number, is_plain, named_chip, named_seed}
use Rattle.command_words.specs.Words.{named_unit, number_set, only_answers, unit_set}

unfoldable pub number_said : List ℕ → Option ℕ
number_said word = if is_number word then Some (digits_value 10 word) else None

-- the chip and the unit, with the defaults
abbrev pub chip_given : Given → Geometry
chip_given given = record { blocks = unwrap_or given.blocks 64; pages = unwrap_or given.pages 64 }

abbrev pub unit_given : Given → Shape
unit_given given = record {
  units = unwrap_or given.units (((chip_given given).blocks - 3) * (chip_given given).pages);
  region_exp = unwrap_or given.region 10;
  sub_exp = unwrap_or given.sub 8;
  held = unwrap_or given.held 4;
  mode = unwrap_or given.mode decides.Device;
}

-- a shape as far as its fields count
abbrev pub cut_shape : Shape → Shape
cut_shape shape = record {
  units = min shape.units (2 ^ 32 - 1);
  region_exp = min shape.region_exp 255;
  sub_exp = min shape.sub_exp 255;
  held = min shape.held 255;
  mode = shape.mode;
}

-- what was given is what is set
pub record IsGiven (rows : List Row) (given : Given) : Type 0 where
  pub chip : chip_given given ≡ chip_set rows
  pub unit : unit_given given ≡ unit_set rows
  pub seed : given.seed ≡ number_set rows (codes "seed")
  pub image : given.image ≡ has_flag rows (codes "image")
  pub plain : given.plain ≡ has_flag rows (codes "plain")
  pub answers : given.answers ≡ has_flag rows (codes "answers")

-- the words are this command, and name the chip, the unit as far as its fields count, and the flags
abbrev pub IsCommand : List Text → Command → Type 0
IsCommand words (Replay r) = IsReplay words × (r.named.chip ≡ named_chip words)
    × (r.named.unit ≡ cut_shape (named_unit words)) × (r.image ≡ has_image words)
IsCommand words (Snap r) = IsSnap words × (r.named.chip ≡ named_chip words)
    × (r.named.unit ≡ cut_shape (named_unit words)) × (r.image ≡ has_image words)
IsCommand words (Drive d) = IsDrive words × (d.named.chip ≡ named_chip words)
    × (d.named.unit ≡ cut_shape (named_unit words)) × (d.plain ≡ is_plain words)
    × (d.answers ≡ only_answers words) × (d.image ≡ has_image words)
IsCommand words (Gen generated) = IsGen words × (generated.named.chip ≡ named_chip words)
    × (generated.named.unit ≡ cut_shape (named_unit words)) × (generated.seed ≡ named_seed words)
    × (generated.plain ≡ is_plain words)
IsCommand words Show = IsShow words
