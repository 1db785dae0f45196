-- The words of the command line as `clap` reads them, and the chip, the logical unit and the flags that they name.
use Rattle.std.specs.Prelude.{◌≡◌, ◌⊎◌, ℕ, ◌-◌, ◌*◌, Bool, true, false, ◌&&◌, ◌||◌, nat_le, IfSome, IsTrue}
use Rattle.std.specs.Prelude.{List, [], ◌∷◌, fold, length, map, slice_get, Option, Some, codes, if◌then◌else◌}
use Rattle.std.specs.Prelude.{unwrap_or, option_map}
use Rattle.std.specs.List.{list_all}
use Rattle.std.specs.Option.{option_map_or}
use Rattle.std.specs.Char.{is_ascii_digit}
use Rattle.std.specs.Str.{bytes_eq}
use Rattle.std.specs.Str.Parse.{digits_value}
use Rattle.clap.specs.Faults.{fault_of}
use Rattle.clap.specs.Simple.{App, matches_of, new_app, new_rule, on_top, with_rule}
use Rattle.clap.specs.Walk.{Row, Rule, Text, first_of}
use Rattle.clap.specs.declared.builder.action.ArgAction.TheVariants.{Set, SetTrue}
use Rattle.flash_pages.specs.declared.chip.Geometry.{Geometry}
use Rattle.region_state.specs.declared.shape.Mode as declared
use Rattle.region_state.specs.declared.shape.Mode.TheVariants as decides
use Rattle.region_state.specs.declared.shape.Shape.{Shape}

-- an option, `--name` with a value, and a flag, `--name` alone, as they are declared to `clap`
abbrev pub option_rule : Text → Rule
option_rule name = record (new_rule name) { long = Some name; action = Some Set; value_names = 1 }

-- an option that has to be there
abbrev pub required_rule : Text → Rule
required_rule name = record (option_rule name) { required = true }

abbrev pub flag_rule : Text → Rule
flag_rule name = record (new_rule name) { long = Some name; action = Some SetTrue }

-- a command of no option and no flag, not even one for help
abbrev pub bare_app : Text → App
bare_app name = on_top (λ s. record s { disable_help_flag = true }) (new_app name)

-- the options whose values are numbers
abbrev pub number_options : List Text
number_options =
    codes "blocks" ∷ codes "pages" ∷ codes "units" ∷ codes "region" ∷ codes "sub" ∷ codes "held" ∷ []

-- a command with these options, and with `--mode`
abbrev pub with_shape : App → App
with_shape app = with_rule (fold with_rule app (map option_rule number_options)) (option_rule (codes "mode"))

-- the five commands
unfoldable pub replay_app : App
replay_app = with_rule (with_shape (bare_app (codes "replay"))) (flag_rule (codes "image"))

unfoldable pub snap_app : App
snap_app = with_rule (with_shape (bare_app (codes "snap"))) (flag_rule (codes "image"))

unfoldable pub drive_app : App
drive_app = fold with_rule (with_shape (bare_app (codes "drive")))
    (map flag_rule (codes "image" ∷ codes "plain" ∷ codes "answers" ∷ []))

unfoldable pub gen_app : App
gen_app = with_rule (with_rule (with_shape (bare_app (codes "gen"))) (required_rule (codes "seed")))
    (flag_rule (codes "plain"))

unfoldable pub show_app : App
show_app = bare_app (codes "show")

-- the first word
abbrev pub IsFirst : Text → List Text → Type 0
IsFirst word words = slice_get words 0 ≡ Some word

-- one to nine decimal digits
abbrev pub is_number : Text → Bool
is_number word = nat_le 1 (length word) && (nat_le (length word) 9 && list_all is_ascii_digit word)

-- where an option is set, its value is a number
abbrev pub HasNumber : List Row → Text → Type 0
HasNumber rows option = IfSome (first_of option rows) (λ value. IsTrue (is_number value))

-- where the mode is set, it is `device` or `host`
abbrev pub HasMode : List Row → Type 0
HasMode rows =
    IfSome (first_of (codes "mode") rows)
    (λ value. IsTrue (bytes_eq value (codes "device") || bytes_eq value (codes "host")))

-- each value is of the form that its option wants
pub record HasValues (rows : List Row) : Type 0 where
  pub blocks : HasNumber rows (codes "blocks")
  pub pages : HasNumber rows (codes "pages")
  pub units : HasNumber rows (codes "units")
  pub region : HasNumber rows (codes "region")
  pub sub : HasNumber rows (codes "sub")
  pub held : HasNumber rows (codes "held")
  pub seed : HasNumber rows (codes "seed")
  pub mode : HasMode rows

-- `clap` takes the words, and each value is of its form
pub record IsRead (app : App) (words : List Text) : Type 0 where
  pub taken : fault_of app words ≡ []
  pub values : HasValues (matches_of app words)

-- the words are a command with what it takes
abbrev pub IsReplay : List Text → Type 0
IsReplay words = IsFirst (codes "replay") words × IsRead replay_app words

abbrev pub IsSnap : List Text → Type 0
IsSnap words = IsFirst (codes "snap") words × IsRead snap_app words

abbrev pub IsDrive : List Text → Type 0
IsDrive words = IsFirst (codes "drive") words × IsRead drive_app words

abbrev pub IsGen : List Text → Type 0
IsGen words = IsFirst (codes "gen") words × IsRead gen_app words

abbrev pub IsShow : List Text → Type 0
IsShow words = IsFirst (codes "show") words × (fault_of show_app words ≡ [])

-- the words are of a command that runs a device
abbrev pub RunsDevice : List Text → Type 0
RunsDevice words = IsReplay words ⊎ (IsSnap words ⊎ (IsDrive words ⊎ IsGen words))

-- the number and the mode that are set
abbrev pub number_set : List Row → Text → Option ℕ
number_set rows option = option_map (digits_value 10) (first_of option rows)

abbrev pub mode_set : List Row → Option declared.Mode
mode_set rows =
    option_map (λ (value : Text). if bytes_eq value (codes "host") then decides.Host else decides.Device)
    (first_of (codes "mode") rows)

-- the chip that is named: 64 erase blocks of 64 pages where no other number is set
abbrev pub chip_set : List Row → Geometry
chip_set rows = record {
  blocks = unwrap_or (number_set rows (codes "blocks")) 64;
  pages = unwrap_or (number_set rows (codes "pages")) 64;
}

-- the unit that is named: as many blocks as the chip has pages but for three erase blocks, regions of 512 KiB and
-- subregions of 128 KiB, 4 regions held, and the device decides, where nothing else is set
abbrev pub unit_set : List Row → Shape
unit_set rows = record {
  units = unwrap_or (number_set rows (codes "units")) (((chip_set rows).blocks - 3) * (chip_set rows).pages);
  region_exp = unwrap_or (number_set rows (codes "region")) 10;
  sub_exp = unwrap_or (number_set rows (codes "sub")) 8;
  held = unwrap_or (number_set rows (codes "held")) 4;
  mode = unwrap_or (mode_set rows) decides.Device;
}

-- a flag is set
abbrev pub has_flag : List Row → Text → Bool
has_flag rows name = option_map_or (λ (value : Text). bytes_eq value (codes "true")) (first_of name rows) false

-- this is the first word
abbrev pub begins_with : Text → List Text → Bool
begins_with name words = option_map_or (λ (word : Text). bytes_eq word name) (slice_get words 0) false

-- what the words set, as words of `drive`, of `snap`, of `gen` or of `replay`
unfoldable pub rows_in : List Text → List Row
rows_in words = if begins_with (codes "drive") words then matches_of drive_app words
    else (if begins_with (codes "snap") words then matches_of snap_app words
    else (if begins_with (codes "gen") words then matches_of gen_app words else matches_of replay_app words))

-- what the words name
unfoldable pub named_chip : List Text → Geometry
named_chip words = chip_set (rows_in words)

unfoldable pub named_unit : List Text → Shape
named_unit words = unit_set (rows_in words)

-- `--image`, `--plain` and `--answers` are among the words
unfoldable pub has_image : List Text → Bool
has_image words = has_flag (rows_in words) (codes "image")

unfoldable pub is_plain : List Text → Bool
is_plain words = has_flag (rows_in words) (codes "plain")

unfoldable pub only_answers : List Text → Bool
only_answers words = has_flag (rows_in words) (codes "answers")

-- the seed
unfoldable pub named_seed : List Text → ℕ
named_seed words = unwrap_or (number_set (rows_in words) (codes "seed")) 0
