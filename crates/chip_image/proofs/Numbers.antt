-- The bytes of the number that bytes are.
use Rattle.std.proofs.Common.{◌/◌, ◌%◌, ◌≡◌, ℕ, zero, suc, ◌+◌, ◌*◌, ◌^◌, ◌<◌, ◌≤◌, List, [], ◌∷◌, ◌++◌, length, slice_index, take, drop, refl, sym, subst, ap, ap₂, ◌∙◌, arith, take-append-drop}
use Rattle.std.proofs.Math.Nat.{div-eq_of_lt, div-one, mod-eq_of_lt, mul-add-div_right, mul-add-mod_self_right, mul_assoc, one-le-pow, pow-succ'}
use Rattle.std.specs.Int.{byte_at, bytes_high_first}
use Rattle.byteorder.specs.Endian.{big_bytes, big_from, big_number}
use Rattle.byteorder.specs.Numbers.{big_from-cons, big_from-lt}

byte_of : (k x : ℕ) → byte_at k x ≡ x / 256 ^ k % 256
byte_of zero x = ap (λ (y : ℕ). y % 256) (sym (div-one x))
byte_of (suc k) x = refl

some : (n : ℕ) → zero < 256 ^ n
some n = let h = one-le-pow n 256 (omega arith) in omega arith

-- what stands above the bytes of a number changes none of them
high_bytes : (k y b : ℕ) → bytes_high_first k (y * 256 ^ k + b) ≡ bytes_high_first k b
high_bytes zero y b = refl
high_bytes (suc k) y b =
    let moved : y * 256 ^ suc k + b ≡ (y * 256) * 256 ^ k + b =
    ap (λ (p : ℕ). y * p + b) (pow-succ' 256 k) ∙ ap (λ (p : ℕ). p + b) (sym (mul_assoc y 256 (256 ^ k))) in
    let first : byte_at k ((y * 256) * 256 ^ k + b) ≡ byte_at k b =
    byte_of k ((y * 256) * 256 ^ k + b)
    ∙ ap (λ (p : ℕ). p % 256) (mul-add-div_right (some k) (y * 256) b)
    ∙ mul-add-mod_self_right y 256 (b / 256 ^ k) ∙ sym (byte_of k b) in
    ap (bytes_high_first (suc k)) moved ∙ ap₂ (λ (h : ℕ) (t : List ℕ). h ∷ t) first (high_bytes k (y * 256) b)

pub number_bytes : (xs : List ℕ) → ((k : ℕ) → slice_index xs k < 256) → bytes_high_first (length xs) (big_from 0 (length xs) xs) ≡ xs
number_bytes [] small = refl
number_bytes (x ∷ xs) small =
    let n : ℕ = length xs in
    let b : ℕ = big_from 0 n xs in
    let below : b < 256 ^ n = big_from-lt 0 n xs (λ k. small (suc k)) in
    let value : big_from 0 (suc n) (x ∷ xs) ≡ x * 256 ^ n + b = ap (λ (r : ℕ). x * 256 ^ n + r) (big_from-cons 0 n x xs) in
    let alone : x + b / 256 ^ n ≡ x = let none = div-eq_of_lt below in omega (arith, none) in
    let first : byte_at n (x * 256 ^ n + b) ≡ x =
    byte_of n (x * 256 ^ n + b) ∙ ap (λ (p : ℕ). p % 256) (mul-add-div_right (some n) x b ∙ alone) ∙ mod-eq_of_lt (small 0) in
    ap (bytes_high_first (suc n)) value
    ∙ ap₂ (λ (h : ℕ) (t : List ℕ). h ∷ t) first (high_bytes n x b ∙ number_bytes xs (λ k. small (suc k)))

small_none : (k : ℕ) → slice_index [] k < 256
small_none k = omega arith

small_take : (n : ℕ) (xs : List ℕ) → ((k : ℕ) → slice_index xs k < 256) → (k : ℕ) → slice_index (take n xs) k < 256
small_take zero xs small k = small_none k
small_take (suc n) [] small k = small_none k
small_take (suc n) (x ∷ xs) small zero = small 0
small_take (suc n) (x ∷ xs) small (suc k) = small_take n xs (λ j. small (suc j)) k

small_drop : (n : ℕ) (xs : List ℕ) → ((k : ℕ) → slice_index xs k < 256) → (k : ℕ) → slice_index (drop n xs) k < 256
small_drop zero xs small k = small k
small_drop (suc n) [] small k = small_none k
small_drop (suc n) (x ∷ xs) small k = small_drop n xs (λ j. small (suc j)) k

by_len : (n : ℕ) (xs : List ℕ) → length xs ≡ n → ((k : ℕ) → slice_index xs k < 256) → big_bytes n (big_number n xs) ≡ xs
by_len n xs is small = subst (λ (m : ℕ). big_bytes m (big_number m xs) ≡ xs) is (number_bytes xs small)

-- two numbers that were read of bytes are spelled by these
pub two_numbers : (bytes a b : List ℕ) (x y : ℕ) → a ≡ take 4 bytes → b ≡ drop 4 bytes → length a ≡ 4 → length b ≡ 8
    → ((k : ℕ) → slice_index bytes k < 256) → x ≡ big_number 4 a → y ≡ big_number 8 b → big_bytes 4 x ++ big_bytes 8 y ≡ bytes
two_numbers bytes a b x y front back four eight small x_is y_is =
    let first : big_bytes 4 x ≡ take 4 bytes =
    ap (big_bytes 4) x_is ∙ by_len 4 a four (subst (λ (l : List ℕ). (k : ℕ) → slice_index l k < 256) (sym front) (small_take 4 bytes small)) ∙ front in
    let last : big_bytes 8 y ≡ drop 4 bytes =
    ap (big_bytes 8) y_is ∙ by_len 8 b eight (subst (λ (l : List ℕ). (k : ℕ) → slice_index l k < 256) (sym back) (small_drop 4 bytes small)) ∙ back in
    ap₂ (λ (l m : List ℕ). l ++ m) first last ∙ take-append-drop 4 bytes
