-- Lists of bits in words: what a write to one word changes, and what the list is after all writes.
use Rattle.std.proofs.Common.{◌≡◌, ◌≢◌, ℕ, ◌+◌, ◌-◌, ◌*◌, ◌/◌, ◌%◌, ◌==◌, ◌<◌, ◌≤◌, ⊎_elim, min, Bool, false, List, ◌++◌, length, take, drop, replicate, slice_index, slice_set, get_or, refl}
use Rattle.std.proofs.Common.{ap, sym, ◌∙◌, arith, length-append, length-take, length-set}
use Rattle.std.proofs.lemmas.Bool.{cases_eq, cases_lt}
use Rattle.std.proofs.lemmas.List.{length-replicate, get_or-replicate, get_or_append_left, get_or-append_right, get_or-take, get_or-drop, get_or-set_same, get_or-set_other, get_or_past}
use Rattle.std.proofs.lemmas.List.{ext_get_or}
use Rattle.std.proofs.lemmas.Nat.Bits.{bit_at-zero}
use Rattle.std.proofs.lemmas.List.FromFn.{length-map-range_with_len, get_or-map-range_with_len}
use Rattle.host_map_cache.specs.Words.{is_set, bit_in, bits_in}
use Rattle.host_map_cache.specs.Regions.{overwritten}
use Rattle.host_map_cache.proofs.Sizes.{length-overwritten}

-- the values of a list that is overwritten from a place on
module _ {A : Type 0} (from : ℕ) (values xs : List A) (inside : from ≤ length xs) (i : ℕ) (d : A) where
  front : length (take from xs) ≡ from
  front = omega (arith, length-take from xs, inside)

  both : length (take from xs ++ values) ≡ from + length values
  both = omega (arith, length-append (take from xs) values, front)

  pub overwritten-before : i < from → get_or (overwritten from values xs) i d ≡ get_or xs i d
  overwritten-before h = get_or_append_left (take from xs ++ values) (drop (from + length values) xs) d i (omega (arith, both, h))
      ∙ get_or_append_left (take from xs) values d i (omega (arith, front, h))
      ∙ get_or-take from xs i d h

  pub overwritten-inside : from ≤ i → i < from + length values → get_or (overwritten from values xs) i d ≡ get_or values (i - from) d
  overwritten-inside low high = get_or_append_left (take from xs ++ values) (drop (from + length values) xs) d i (omega (arith, both, high))
      ∙ get_or-append_right (take from xs) values from i d front low

  pub overwritten-after : from + length values ≤ i → get_or (overwritten from values xs) i d ≡ get_or xs i d
  overwritten-after low = get_or-append_right (take from xs ++ values) (drop (from + length values) xs) (from + length values) i d both low
      ∙ get_or-drop (from + length values) xs (i - (from + length values)) d
      ∙ ap (λ k. get_or xs k d) back
    where
      back : from + length values + (i - (from + length values)) ≡ i
      back = omega (arith, low)

module _ (words : List ℕ) (index word place : ℕ) where
  pub bit_in-set_same : index < length words → place / 64 ≡ index → bit_in (slice_set words index word) place ≡ is_set word (place % 64)
  bit_in-set_same inside same = ap (λ w. is_set w (place % 64)) (ap (slice_index (slice_set words index word)) same ∙ get_or-set_same words index word 0 inside)

  pub bit_in-set_other : place / 64 ≢ index → bit_in (slice_set words index word) place ≡ bit_in words place
  bit_in-set_other other = ap (λ w. is_set w (place % 64)) (get_or-set_other words index (place / 64) word 0 other)

-- the words below `index` are done
pub record AreFilled (from until : ℕ) (value : Bool) (index : ℕ) (old now : List ℕ) : Type 0 where
  pub count : length now ≡ length old
  pub filled : (place : ℕ) → from ≤ place → place < until → place < 64 * index → bit_in now place ≡ value
  pub before : (place : ℕ) → place < from → bit_in now place ≡ bit_in old place
  pub after : (place : ℕ) → until ≤ place → bit_in now place ≡ bit_in old place
  pub rest : (place : ℕ) → 64 * index ≤ place → bit_in now place ≡ bit_in old place

-- one word after a write to the part of a range that lies in it
pub record IsFilled (low high : ℕ) (value : Bool) (old now : ℕ) : Type 0 where
  pub filled : (place : ℕ) → low ≤ place → place < high → is_set now place ≡ value
  pub before : (place : ℕ) → place < low → is_set now place ≡ is_set old place
  pub after : (place : ℕ) → high ≤ place → place < 64 → is_set now place ≡ is_set old place

pub none_filled : (from until : ℕ) (value : Bool) (words : List ℕ) → AreFilled from until value (from / 64) words words
none_filled from until value words = record {
  count = refl;
  filled = λ place low high below. absurd (omega (arith, low, below));
  before = λ place h. refl;
  after = λ place h. refl;
  rest = λ place h. refl;
}

module _ (from until : ℕ) (value : Bool) (index : ℕ) (old now : List ℕ) (so_far : AreFilled from until value index old now)
    (read word low high : ℕ) (inside : index < length now) (was : read ≡ slice_index now index)
    (low_is : low ≡ from - 64 * index) (high_is : high ≡ min (until - 64 * index) 64) (is : IsFilled low high value read word) where
  -- the bit of the word's place, before
  same_bit : (place : ℕ) → place / 64 ≡ index → is_set read (place % 64) ≡ bit_in now place
  same_bit place same = ap (λ w. is_set w (place % 64)) (was ∙ ap (slice_index now) (sym same))

  here : (place : ℕ) → place / 64 ≡ index → bit_in (slice_set now index word) place ≡ is_set word (place % 64)
  here place same = bit_in-set_same now index word place inside same

  elsewhere : (place : ℕ) → place / 64 ≢ index → bit_in (slice_set now index word) place ≡ bit_in now place
  elsewhere place other = bit_in-set_other now index word place other

  filled_more : (place : ℕ) → from ≤ place → place < until → place < 64 * (index + 1) → bit_in (slice_set now index word) place ≡ value
  filled_more place above before below = ⊎_elim
      (λ same. here place same ∙ is.filled (place % 64) (omega (arith, above, same, low_is)) (omega (arith, before, same, high_is)))
      (λ other. elsewhere place other ∙ so_far.filled place above before (omega (arith, other, below)))
      (cases_eq (place / 64) index)

  before_more : (place : ℕ) → place < from → bit_in (slice_set now index word) place ≡ bit_in old place
  before_more place below = ⊎_elim
      (λ same. here place same ∙ is.before (place % 64) (omega (arith, below, same, low_is)) ∙ same_bit place same ∙ so_far.before place below)
      (λ other. elsewhere place other ∙ so_far.before place below)
      (cases_eq (place / 64) index)

  after_more : (place : ℕ) → until ≤ place → bit_in (slice_set now index word) place ≡ bit_in old place
  after_more place above = ⊎_elim
      (λ same. here place same ∙ is.after (place % 64) (omega (arith, above, same, high_is)) (omega arith) ∙ same_bit place same ∙ so_far.after place above)
      (λ other. elsewhere place other ∙ so_far.after place above)
      (cases_eq (place / 64) index)

  rest_more : (place : ℕ) → 64 * (index + 1) ≤ place → bit_in (slice_set now index word) place ≡ bit_in old place
  rest_more place above = let other : place / 64 ≢ index = λ same. omega (arith, above, same) in elsewhere place other ∙ so_far.rest place (omega (arith, above))

  pub more_filled : AreFilled from until value (index + 1) old (slice_set now index word)
  more_filled = record { count = length-set now index word ∙ so_far.count; filled = filled_more; before = before_more; after = after_more; rest = rest_more }

module _ (count from until : ℕ) (value : Bool) (old now : List ℕ) (order : from ≤ until) (inside : until ≤ count)
    (filled : (place : ℕ) → from ≤ place → place < until → bit_in now place ≡ value)
    (before : (place : ℕ) → place < from → bit_in now place ≡ bit_in old place)
    (after : (place : ℕ) → until ≤ place → bit_in now place ≡ bit_in old place) where
  abbrev values : List Bool
  values = replicate (until - from) value

  counted : (words : List ℕ) → length (bits_in count words) ≡ count
  counted words = length-map-range_with_len (bit_in words) 0 count

  at : (words : List ℕ) (i : ℕ) → i < count → get_or (bits_in count words) i false ≡ bit_in words i
  at words i h = get_or-map-range_with_len (bit_in words) 0 count i i false h (omega arith)

  many : length values ≡ until - from
  many = length-replicate (until - from) value

  room : from ≤ length (bits_in count old)
  room = omega (arith, counted old, order, inside)

  each : (i : ℕ) → i < count → get_or (bits_in count now) i false ≡ get_or (overwritten from values (bits_in count old)) i false
  each i h = ⊎_elim
      (λ below. at now i h ∙ before i below ∙ sym (at old i h) ∙ sym (overwritten-before from values (bits_in count old) room i false below))
      (λ low. ⊎_elim
      (λ high. at now i h ∙ filled i low high ∙ sym (get_or-replicate (until - from) (i - from) value false (omega (arith, low, high)))
      ∙ sym (overwritten-inside from values (bits_in count old) room i false low (omega (arith, low, high, many))))
      (λ above. at now i h ∙ after i above ∙ sym (at old i h) ∙ sym (overwritten-after from values (bits_in count old) room i false (omega (arith, above, many, order))))
      (cases_lt i until))
      (cases_lt i from)

  pub filled_bits : bits_in count now ≡ overwritten from (replicate (until - from) value) (bits_in count old)
  filled_bits = ext_get_or false (bits_in count now) (overwritten from values (bits_in count old))
      (counted now ∙ sym (length-overwritten from values (bits_in count old) (omega (arith, many, counted old, order, inside)) ∙ counted old))
      (λ i h. each i (omega (arith, h, counted now)))

-- words that are 0 have no bit that is set
pub no_bits : (count words : ℕ) → bits_in count (replicate words 0) ≡ replicate count false
no_bits count words = ext_get_or false (bits_in count (replicate words 0)) (replicate count false)
    (counted ∙ sym (length-replicate count false))
    (λ i h. let below : i < count = omega (arith, h, counted) in
    get_or-map-range_with_len (bit_in (replicate words 0)) 0 count i i false below (omega arith) ∙ none i ∙ sym (get_or-replicate count i false false below))
  where
    counted : length (bits_in count (replicate words 0)) ≡ count
    counted = length-map-range_with_len (bit_in (replicate words 0)) 0 count

    zero_word : (n i : ℕ) → slice_index (replicate n 0) i ≡ 0
    zero_word n i = ⊎_elim (λ h. get_or-replicate n i 0 0 h) (λ h. get_or_past (replicate n 0) i 0 (omega (arith, h, length-replicate {A = ℕ} n 0))) (cases_lt i n)

    none : (i : ℕ) → bit_in (replicate words 0) i ≡ false
    none i = ap (λ w. is_set w (i % 64)) (zero_word words (i / 64)) ∙ ap (λ b. b == 1) (bit_at-zero (i % 64))
