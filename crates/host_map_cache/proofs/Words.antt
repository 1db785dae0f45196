-- Masks of a word, and words with some bits set or cleared.
use Rattle.std.proofs.Common.{◌≡◌, ℕ, ◌-◌, ◌*◌, ◌/◌, ◌%◌, ◌^◌, ◌<◌, ◌≤◌, ◌==◌, min, max, true, false, bit_and, bit_or, ap, ◌∙◌, arith}
use Rattle.std.specs.Int.{bit_at}
use Rattle.std.proofs.Math.Nat.{pow-le-pow_right}
use Rattle.std.proofs.lemmas.Nat.{one_shl, pow_pos}
use Rattle.std.proofs.lemmas.Nat.Bits.{ones_shr, bit_at-lt, bit_at_or, bit_at_and, bit_at_not}
use Rattle.std.proofs.Common.{w64}
use Rattle.host_map_cache.specs.Words.{is_set}

-- the numbers of a mask, as the code makes them
module _ (low high : ℕ) (in_word : low < 64) (order : low ≤ high) (within : high ≤ 64) where
  ones : 18446744073709551615 / 2 ^ (64 - high) ≡ 2 ^ high - 1
  ones = ones_shr 64 (64 - high) (omega arith) ∙ ap (λ k. 2 ^ k - 1) back
    where
      back : 64 - (64 - high) ≡ high
      back = omega (arith, within)

  bit : (1 * 2 ^ low) % 18446744073709551616 ≡ 2 ^ low
  bit = one_shl low 64 in_word

  powers : 2 ^ low ≤ 2 ^ high
  powers = pow-le-pow_right {n = 2} (omega arith) order

  pub mask_fits : (1 * 2 ^ low) % 18446744073709551616 - 1 ≤ 18446744073709551615 / 2 ^ (64 - high)
  mask_fits = rw (ones, bit) (omega (arith, powers))

  pub mask_is : 18446744073709551615 / 2 ^ (64 - high) - ((1 * 2 ^ low) % 18446744073709551616 - 1) ≡ 2 ^ high - 2 ^ low
  mask_is = rw (ones, bit) (omega (arith, powers, pow_pos low))

  pub mask_below : 2 ^ high - 2 ^ low < 2 ^ 64
  mask_below = let top : 2 ^ high ≤ 2 ^ 64 = pow-le-pow_right {n = 2} (omega arith) within in omega (arith, top, pow_pos low)

larger : (a b : ℕ) → a < 2 → b ≡ 1 → max a b ≡ 1
larger a b small one = omega (arith, small, one)

larger_none : (a b : ℕ) → b ≡ 0 → max a b ≡ a
larger_none a b none = omega (arith, none)

smaller : (a b : ℕ) → b ≡ 1 → min a (1 - b) ≡ 0
smaller a b one = omega (arith, one)

smaller_none : (a b : ℕ) → a < 2 → b ≡ 0 → min a (1 - b) ≡ a
smaller_none a b small none = omega (arith, small, none)

-- bits are set
module _ (word mask place : ℕ) where
  pub set_inside : bit_at mask place ≡ 1 → is_set (bit_or word mask) place ≡ true
  set_inside one = ap (λ b. b == 1) (bit_at_or word mask place ∙ larger (bit_at word place) (bit_at mask place) (bit_at-lt word place) one)

  pub set_outside : bit_at mask place ≡ 0 → is_set (bit_or word mask) place ≡ is_set word place
  set_outside none = ap (λ b. b == 1) (bit_at_or word mask place ∙ larger_none (bit_at word place) (bit_at mask place) none)

  -- and cleared
  module _ (fits : mask < 2 ^ 64) (within : place < 64) where
    cleared : bit_at (bit_and word (18446744073709551615 - mask)) place ≡ min (bit_at word place) (1 - bit_at mask place)
    cleared = bit_at_and word (18446744073709551615 - mask) place ∙ ap (min (bit_at word place)) (bit_at_not w64 mask place fits within)

    pub clear_inside : bit_at mask place ≡ 1 → is_set (bit_and word (18446744073709551615 - mask)) place ≡ false
    clear_inside one = ap (λ b. b == 1) (cleared ∙ smaller (bit_at word place) (bit_at mask place) one)

    pub clear_outside : bit_at mask place ≡ 0 → is_set (bit_and word (18446744073709551615 - mask)) place ≡ is_set word place
    clear_outside none = ap (λ b. b == 1) (cleared ∙ smaller_none (bit_at word place) (bit_at mask place) (bit_at-lt word place) none)
