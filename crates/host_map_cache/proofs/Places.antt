-- Where a present subregion lies in its slot.
use Rattle.region_state.specs.Shape.{IsWithinLimits, HasSubregion, region_count}
use Rattle.region_state.proofs.ShapeLemmas.{piece-lt}
use Rattle.std.proofs.Common.{◌⊎◌, inl, inr}
use Rattle.std.proofs.lemmas.Bool.{cases_lt}
use Rattle.std.proofs.Common.{◌≡◌, ℕ, ◌+◌, ◌-◌, ◌*◌, ◌/◌, ◌%◌, ◌^◌, ◌≤◌, ◌<◌, IsTrue, List, length, ap, subst, zero, suc, ◌∙◌, arith, tests}
use Rattle.std.proofs.lemmas.Nat.{pow-add, pow_pos, mod_below}
use Rattle.std.proofs.Math.Nat.{le-div_iff_mul-le, lt_of_mul-lt-mul_right, div-mul-le_self, mod-le}
use Rattle.region_state.specs.declared.shape.Shape.{Shape}
use Rattle.host_map_cache.specs.Shapes.{region_blocks, sub_blocks, is_present}
use Rattle.host_map_cache.specs.Cache.{held_blocks, held_subregions, sub_length, unit_subregions}

-- a region is whole subregions
whole : (shape : Shape) → IsWithinLimits shape → region_blocks shape ≡ 2 ^ (shape.region_exp - shape.sub_exp) * sub_blocks shape
whole shape is = ap (λ n. 2 ^ n) exps ∙ pow-add 2 (shape.region_exp - shape.sub_exp) (shape.sub_exp - 3)
  where
    exps : shape.region_exp - 3 ≡ (shape.region_exp - shape.sub_exp) + (shape.sub_exp - 3)
    exps = omega (arith, is.a_block_in_a_subregion, is.a_subregion_in_a_region)

mul-le : (b a k : ℕ) → a ≤ k → a * b ≤ k * b
mul-le zero a k h = grind arith
mul-le (suc b) a k h = grind (arith, mul-le b a k h)

next_multiple : (a b k : ℕ) → a * b < k * b → a * b + b ≤ k * b
next_multiple a b zero h = absurd (omega (arith, h))
next_multiple a b (suc k) h = let below : a < suc k = lt_of_mul-lt-mul_right b {m = a} {n = suc k} h in grind (arith, mul-le b a k (omega (arith, below)))

pub record Present (shape : Shape) (region sub : ℕ) : Type 0 where
  pub in_region : sub * sub_blocks shape < region_blocks shape
  pub in_unit : region * region_blocks shape + sub * sub_blocks shape < shape.units
  pub ends : sub * sub_blocks shape + sub_blocks shape ≤ region_blocks shape

pub present : (shape : Shape) (region sub : ℕ) → IsWithinLimits shape → IsTrue (is_present shape region sub) → Present shape region sub
present shape region sub is h = let inside = in_it in record { in_region = inside; in_unit = grind (arith, tests, h); ends = ends inside }
  where
    in_it : sub * sub_blocks shape < region_blocks shape
    in_it = grind (arith, tests, h)

    ends : sub * sub_blocks shape < region_blocks shape → sub * sub_blocks shape + sub_blocks shape ≤ region_blocks shape
    ends i = rw (whole shape is) (next_multiple sub (sub_blocks shape) (2 ^ (shape.region_exp - shape.sub_exp)) (rw (whole shape is) at i))

pub in_subregions : (shape : Shape) (region sub : ℕ) → IsWithinLimits shape → Present shape region sub → sub < held_subregions shape
in_subregions shape region sub is p =
    let below : sub ≤ (held_blocks shape - 1) / sub_blocks shape = (le-div_iff_mul-le {k = sub_blocks shape} {x = sub} {y = held_blocks shape - 1} (pow_pos (shape.sub_exp - 3))).1
    (omega (arith, p.in_region, p.in_unit)) in
    omega (arith, below)

pub in_blocks : (shape : Shape) (region sub : ℕ) → Present shape region sub → sub * sub_blocks shape + sub_length shape region sub ≤ held_blocks shape
in_blocks shape region sub p = omega (arith, p.ends, p.in_unit)

pub whole_entries : (shape : Shape) (region sub : ℕ) (bytes : List ℕ) → Present shape region sub → length bytes ≡ 8 * sub_length shape region sub
    → sub * sub_blocks shape + length bytes / 8 ≤ held_blocks shape
whole_entries shape region sub bytes p whole = let entries : length bytes / 8 ≡ sub_length shape region sub = omega (arith, whole) in rw entries (in_blocks shape region sub p)

-- a region of the unit is below their count
pub region-lt : (shape : Shape) (region : ℕ) → region * region_blocks shape < shape.units → region < region_count shape
region-lt shape region inside = piece-lt region shape.units (shape.region_exp - 3) inside

pub region_inside : (shape : Shape) (region : ℕ) → IsWithinLimits shape → region < region_count shape → region * region_blocks shape < shape.units
region_inside shape region is below =
    let inside : region ≤ (shape.units - 1) / region_blocks shape = omega (arith, below) in
    let last : region * region_blocks shape ≤ shape.units - 1 = (le-div_iff_mul-le {k = region_blocks shape} {x = region} {y = shape.units - 1} (pow_pos (shape.region_exp - 3))).0 inside in
    omega (arith, last, is.some_block)

pub present_region : (shape : Shape) (region sub : ℕ) → Present shape region sub → region * region_blocks shape < shape.units
present_region shape region sub p = omega (arith, p.in_unit)

pub has_subregion : (shape : Shape) (region sub : ℕ) → IsWithinLimits shape → Present shape region sub → HasSubregion shape region sub
has_subregion shape region sub is p = record {
  inside = lt_of_mul-lt-mul_right (sub_blocks shape) {m = sub} {n = 2 ^ (shape.region_exp - shape.sub_exp)} (subst (λ n. sub * sub_blocks shape < n) (whole shape is) p.in_region);
  present = p.in_unit;
}

-- two subregions of one number are the same
pub same_number : (per a s b t : ℕ) → s < per → t < per → a * per + s ≡ b * per + t → (a ≡ b) × (s ≡ t)
same_number per a s b t low low' same = (a_is, omega (arith, same, ap (λ n. n * per) a_is))
  where
    a_is : a ≡ b
    a_is = by_order (cases_lt a b)
      where
        by_order : (a < b) ⊎ (b ≤ a) → a ≡ b
        by_order (inl less) = let step : suc a * per ≤ b * per = mul-le per (suc a) b less in absurd (grind (arith, step, same, low, low'))
        by_order (inr more) = by_rest (cases_lt b a)
          where
            by_rest : (b < a) ⊎ (a ≤ b) → a ≡ b
            by_rest (inl less) = let step : suc b * per ≤ a * per = mul-le per (suc b) a less in absurd (grind (arith, step, same, low, low'))
            by_rest (inr less) = omega (arith, more, less)

-- a subregion by its number in the unit
pub number_inside : (shape : Shape) (number : ℕ) → IsWithinLimits shape → number < unit_subregions shape → number * sub_blocks shape < shape.units
number_inside shape number is below =
    let inside : number ≤ (shape.units - 1) / sub_blocks shape = omega (arith, below) in
    let last : number * sub_blocks shape ≤ shape.units - 1 = (le-div_iff_mul-le {k = sub_blocks shape} {x = number} {y = shape.units - 1} (pow_pos (shape.sub_exp - 3))).0 inside in
    omega (arith, last, is.some_block)

pub sub-lt : (shape : Shape) (first : ℕ) → first < shape.units → first % region_blocks shape / sub_blocks shape < held_subregions shape
sub-lt shape first inside =
    let part : first % region_blocks shape / sub_blocks shape * sub_blocks shape ≤ first % region_blocks shape = div-mul-le_self (first % region_blocks shape) (sub_blocks shape) in
    let small : first % region_blocks shape < region_blocks shape = mod_below first (region_blocks shape) (pow_pos (shape.region_exp - 3)) in
    let less : first % region_blocks shape ≤ first = mod-le first (region_blocks shape) in
    let low : first % region_blocks shape / sub_blocks shape ≤ (held_blocks shape - 1) / sub_blocks shape =
    (le-div_iff_mul-le {k = sub_blocks shape} {x = first % region_blocks shape / sub_blocks shape} {y = held_blocks shape - 1} (pow_pos (shape.sub_exp - 3))).1
    (omega (arith, part, small, less, inside)) in
    omega (arith, low)

pub last-lt : (shape : Shape) (lba n number : ℕ) → 0 < n → lba + n ≤ shape.units → number < (lba + n - 1) / sub_blocks shape + 1 → number < unit_subregions shape
last-lt shape lba n number some inside below =
    let order : (lba + n - 1) / sub_blocks shape ≤ (shape.units - 1) / sub_blocks shape = order_of (lba + n - 1) (shape.units - 1) (omega (arith, some, inside)) in
    omega (arith, order, below)
  where
    order_of : (a b : ℕ) → a ≤ b → a / sub_blocks shape ≤ b / sub_blocks shape
    order_of a b h = let part : a / sub_blocks shape * sub_blocks shape ≤ a = div-mul-le_self a (sub_blocks shape) in
        (le-div_iff_mul-le {k = sub_blocks shape} {x = a / sub_blocks shape} {y = b} (pow_pos (shape.sub_exp - 3))).1 (omega (arith, part, h))
