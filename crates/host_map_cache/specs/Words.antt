-- Bits in words of 64.
use Rattle.std.specs.Prelude.{ℕ, ◌/◌, ◌%◌, ◌==◌, Bool, List, map, slice_index}
use Rattle.std.specs.List.{range_with_len}
use Rattle.std.specs.Int.{bit_at}

-- whether the bit of a word is set
abbrev pub is_set : ℕ → ℕ → Bool
is_set word place = bit_at word place == 1

-- whether the bit of a place is set, in a list of words
abbrev pub bit_in : List ℕ → ℕ → Bool
bit_in words place = is_set (slice_index words (place / 64)) (place % 64)

-- the first bits, so many
abbrev pub bits_in : ℕ → List ℕ → List Bool
bits_in count words = map (bit_in words) (range_with_len 0 count)
