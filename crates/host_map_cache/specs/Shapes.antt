-- The regions and subregions of a unit.
use Rattle.std.specs.Prelude.{ℕ, ◌+◌, ◌-◌, ◌*◌, ◌/◌, ◌%◌, ◌^◌, ◌&&◌, Bool, nat_lt}
use Rattle.region_state.specs.declared.shape.Shape.{Shape}

-- a region has 2^r bytes, and a subregion 2^s, of 512 each: in blocks of 4096 bytes
abbrev pub region_blocks : Shape → ℕ
region_blocks shape = 2 ^ (shape.region_exp - 3)

abbrev pub sub_blocks : Shape → ℕ
sub_blocks shape = 2 ^ (shape.sub_exp - 3)

-- where a block lies
abbrev pub region_at : Shape → ℕ → ℕ
region_at shape lba = lba / region_blocks shape

abbrev pub sub_at : Shape → ℕ → ℕ
sub_at shape lba = lba % region_blocks shape / sub_blocks shape

-- the first block of a subregion
abbrev pub sub_start : Shape → ℕ → ℕ → ℕ
sub_start shape region sub = region * region_blocks shape + sub * sub_blocks shape

-- a subregion of the unit
abbrev pub is_present : Shape → ℕ → ℕ → Bool
is_present shape region sub =
    nat_lt (sub * sub_blocks shape) (region_blocks shape) && nat_lt (sub_start shape region sub) shape.units
