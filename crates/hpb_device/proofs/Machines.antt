-- The regions of several logical units of one shape.
use Rattle.std.proofs.Common.{◌≡◌, ℕ, ◌-◌, ◌/◌, ◌^◌, ◌+◌, ◌<◌, zero, suc, List, [], ◌∷◌, ◌++◌, drop, take, map, length, replicate, get_or, refl, sym, ◌∙◌, ap, arith}
use Rattle.std.specs.Prelude.{fold, slice_index_or}
use Rattle.std.specs.List.{range_with_len}
use Rattle.std.proofs.Math.ListN.{drop_of_length-le}
use Rattle.std.proofs.Math.Seq.{take-length}
use Rattle.std.proofs.lemmas.List.{append-nil, get_or-map, get_or-replicate, length-map, length-replicate}
use Rattle.std.proofs.Math.Nat.{mul-div_cancel}
use Rattle.std.proofs.lemmas.Nat.{pow_pos}
use Rattle.region_state.proofs.ShapeLemmas.{per_region-blocks}
use Rattle.region_state.specs.Shape.{IsWithinLimits, per_region}
use Rattle.region_state.specs.declared.shape.Shape.{Shape}
use Rattle.region_state.specs.Machine.{Machine, after_all_inactive, after_change, after_reset, start}

abbrev pub shape_of : Machine → Shape
shape_of m = m.shape

-- there are as many as units
pub count_of : (shape : Shape) (luns : ℕ) (machines : List Machine) → map shape_of machines ≡ replicate luns shape → length machines ≡ luns
count_of shape luns machines shapes = sym (length-map machines shape_of) ∙ (ap length shapes ∙ length-replicate luns shape)

-- each has the shape
pub shape_at : (shape : Shape) (luns lun : ℕ) (machines : List Machine) (other : Machine) → map shape_of machines ≡ replicate luns shape → lun < luns
    → (slice_index_or machines lun other).shape ≡ shape
shape_at shape luns lun machines other shapes inside =
    let count = count_of shape luns machines shapes in
    sym (get_or-map shape_of machines lun other shape (omega (arith, inside, count)))
    ∙ (ap (λ (xs : List Shape). get_or xs lun shape) shapes ∙ get_or-replicate luns lun shape shape inside)

-- the first of several blocks is changed first
pub changes_more : (m : Machine) (lba end : ℕ) → lba < end
    → fold after_change m (range_with_len lba (end - lba)) ≡ fold after_change (after_change m lba) (range_with_len (lba + 1) (end - (lba + 1)))
changes_more m lba end below =
    let e : end - lba ≡ suc (end - (lba + 1)) = omega arith in
    rw e refl

-- a reset leaves the shape
reset_shape : (m : Machine) → (after_reset m).shape ≡ m.shape
unfolding after_reset after_all_inactive
reset_shape m = refl

pub reset_shapes : (machines : List Machine) → map shape_of (map after_reset machines) ≡ map shape_of machines
reset_shapes [] = refl
reset_shapes (m ∷ machines) = (λ i. reset_shape m i ∷ reset_shapes machines i)

-- a region has as many subregions as its blocks say
pub per_region_is : (shape : Shape) → IsWithinLimits shape → 2 ^ (shape.region_exp - 3) / 2 ^ (shape.sub_exp - 3) ≡ per_region shape
per_region_is shape limits =
    ap (λ (n : ℕ). n / 2 ^ (shape.sub_exp - 3)) (sym (per_region-blocks shape limits))
    ∙ mul-div_cancel (per_region shape) (pow_pos (shape.sub_exp - 3))

-- those of a host that holds none
pub start_shapes : (luns : ℕ) (shape : Shape) → map shape_of (replicate luns (start shape)) ≡ replicate luns shape
start_shapes zero shape = refl
start_shapes (suc luns) shape = ap (λ (xs : List Shape). shape ∷ xs) (start_shapes luns shape)

-- a list that was written as a whole is what was written
pub written_whole : (n : ℕ) (ys xs : List Machine) → length ys ≡ n → length xs ≡ n → take n (ys ++ drop (length ys) xs) ≡ ys
written_whole n ys xs same count =
    ap (λ (zs : List Machine). take n (ys ++ zs)) (drop_of_length-le xs (omega (arith, same, count)))
    ∙ (ap (take n) (append-nil ys) ∙ (ap (λ (k : ℕ). take k ys) (sym same) ∙ take-length ys))
