-- Numbers of places, and of the blocks of some bytes.
use Rattle.std.proofs.Common.{◌≡◌, ℕ, zero, suc, ◌+◌, ◌-◌, ◌*◌, ◌/◌, ◌<◌, ◌≤◌, arith, sym, ◌∙◌, ap, List, length, ◌++◌, take, drop, slice_range}
use Rattle.std.proofs.Math.Nat.{div-zero, div-mul-le_self, mul-div-le, mul-le-mul_left}
use Rattle.std.proofs.lemmas.Nat.{div-mul-add, le-div}
use Rattle.std.proofs.lemmas.List.{take-append-le, drop-append-le, length-drop}

-- a place is told by where it stands
pub same_lun : (a b m x y : ℕ) → x < m → y < m → a * m + x ≡ b * m + y → a ≡ b
same_lun a b m x y p q e = sym (div-mul-add a m x p) ∙ ap (λ (n : ℕ). n / m) e ∙ div-mul-add b m y q

pub same_lba : (a b m x y : ℕ) → a ≡ b → a * m + x ≡ b * m + y → x ≡ y
same_lba a b m x y same e = let f : a * m ≡ b * m = ap (λ (n : ℕ). n * m) same in omega arith

-- a place stands within the list of all blocks
pub within_luns : (a b m x : ℕ) → a < b → x < m → a * m + x < b * m
within_luns a b m x p q =
    let e : m * (a + 1) ≤ m * b = mul-le-mul_left m (omega arith) in
    omega arith

-- more bytes have as many whole blocks or more
pub more_blocks : (x y m : ℕ) → x ≤ y → x / m ≤ y / m
more_blocks x y zero p = let e : x / zero ≡ 0 = div-zero x in omega arith
more_blocks x y (suc m) p = le-div (x / suc m) y (suc m) (omega arith) (let e = div-mul-le_self x (suc m) in omega arith)

-- each whole block lies within the bytes
pub within_bytes : (x k m : ℕ) → k < x / m → m * k + m ≤ x
within_bytes x k m p =
    let e : m * (k + 1) ≤ m * (x / m) = mul-le-mul_left m (omega arith) in
    let f = mul-div-le x m in
    omega arith

-- bytes that follow change no block before them
pub range-append : (xs ys : List ℕ) (a b : ℕ) → a ≤ b → b ≤ length xs → slice_range (xs ++ ys) a b ≡ slice_range xs a b
range-append xs ys a b p q =
    let e = length-drop a xs in
    ap (λ (l : List ℕ). take (b - a) l) (drop-append-le a xs ys (omega arith)) ∙ take-append-le (b - a) (drop a xs) ys (omega arith)
