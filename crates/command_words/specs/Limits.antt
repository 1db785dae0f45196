-- The limits of the numbers that the words name, which of them are broken, and what is served.
use Rattle.std.specs.Prelude.{◌≡◌, ℕ, ◌-◌, ◌*◌, ◌≤◌, ⊤, List}
use Rattle.flash_pages.specs.declared.chip.Geometry.{Geometry}
use Rattle.flash_store.specs.Index.{CanServe}
use Rattle.region_state.specs.Shape.{IsWithinLimits}
use Rattle.region_state.specs.declared.shape.Shape.{Shape}
use Rattle.command_words.specs.declared.limits.Limit.{Limit}
use Rattle.command_words.specs.declared.limits.Limit.TheVariants.{Blocks, Pages, AllPages, Units, Region, Sub}
use Rattle.command_words.specs.declared.limits.Limit.TheVariants.{SubInRegion, Held}
use Rattle.command_words.specs.declared.limits.NamedNumbers.{NamedNumbers}
use Rattle.command_words.specs.Words.{RunsDevice, named_chip, named_unit}

-- the numbers of a chip and a unit
abbrev pub numbers_of : Geometry → Shape → NamedNumbers
numbers_of chip unit = record {
  blocks = chip.blocks;
  pages = chip.pages;
  units = unit.units;
  region = unit.region_exp;
  sub = unit.sub_exp;
  held = unit.held;
}

-- the numbers that the words name
abbrev pub named_numbers : List (List ℕ) → NamedNumbers
named_numbers words = numbers_of (named_chip words) (named_unit words)

-- the number is from the least to the most
abbrev pub IsBetween : (least most number : ℕ) → Type 0
IsBetween least most number = (least ≤ number) × (number ≤ most)

-- the numbers keep this limit
abbrev pub IsKept : Limit → NamedNumbers → Type 0
IsKept Blocks n = IsBetween 4 4096 n.blocks
IsKept Pages n = IsBetween 2 256 n.pages
IsKept AllPages n = n.blocks * n.pages ≤ 65536
IsKept Units n = IsBetween 1 ((n.blocks - 3) * n.pages) n.units
IsKept Region n = IsBetween 3 19 n.region
IsKept Sub n = IsBetween 3 19 n.sub
IsKept SubInRegion n = n.sub ≤ n.region
IsKept Held n = IsBetween 1 32 n.held

-- a limit on numbers together applies where each of them is within its own
abbrev pub AppliesTo : Limit → NamedNumbers → Type 0
AppliesTo AllPages n = IsKept Blocks n × IsKept Pages n
AppliesTo Units n = IsKept Blocks n × IsKept Pages n × IsKept AllPages n
AppliesTo SubInRegion n = IsKept Region n × IsKept Sub n
AppliesTo _ n = ⊤

-- the words run a device, and the limit applies to the numbers that they name, which don't keep it
abbrev pub IsBroken : List (List ℕ) → Limit → Type 0
IsBroken words limit = RunsDevice words × AppliesTo limit (named_numbers words) × ¬ IsKept limit (named_numbers words)

-- the chip is the one that the words name, and can hold the unit that they name
abbrev pub IsNamed : List (List ℕ) → Geometry → Type 0
IsNamed words geometry = (geometry ≡ named_chip words) × IsWithinLimits (named_unit words)
    × CanServe geometry 1 (named_unit words).units
