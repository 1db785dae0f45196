-- Regions and subregions that a unit has are below their counts.
use Rattle.std.proofs.Common.{◌≡◌, ℕ, ◌+◌, ◌-◌, ◌*◌, ◌/◌, ◌^◌, ◌<◌, ◌≤◌, sym, ap, ◌∙◌, arith}
use Rattle.std.proofs.lemmas.Nat.{pow-add, pow_pos, le-div}
use Rattle.std.proofs.Math.Nat.{div-mul-le_self, mul-le-mul_left}
use Rattle.region_state.specs.declared.shape.Shape.{Shape}
use Rattle.region_state.specs.Shape.{IsWithinLimits, HasRegion, HasSubregion, region_count, subregion_count, per_region, number_of}

-- a number below is in a piece below
pub div-lt : (n units e : ℕ) → n < units → n / 2 ^ e < (units - 1) / 2 ^ e + 1
div-lt n units e below =
    let part : n / 2 ^ e * 2 ^ e ≤ n = div-mul-le_self n (2 ^ e) in
    let inside : n / 2 ^ e ≤ (units - 1) / 2 ^ e = le-div (n / 2 ^ e) (units - 1) (2 ^ e) (pow_pos e) (omega arith) in
    omega arith

-- a piece that begins below is below the count
pub piece-lt : (n units e : ℕ) → n * 2 ^ e < units → n < (units - 1) / 2 ^ e + 1
piece-lt n units e below =
    let inside : n ≤ (units - 1) / 2 ^ e = le-div n (units - 1) (2 ^ e) (pow_pos e) (omega arith) in
    omega arith

module _ (shape : Shape) (limits : IsWithinLimits shape) where
  -- the blocks of a region, by its subregions
  pub per_region-blocks : per_region shape * 2 ^ (shape.sub_exp - 3) ≡ 2 ^ (shape.region_exp - 3)
  per_region-blocks =
      let e : (shape.region_exp - shape.sub_exp) + (shape.sub_exp - 3) ≡ shape.region_exp - 3 = omega arith in
      sym (pow-add 2 (shape.region_exp - shape.sub_exp) (shape.sub_exp - 3)) ∙ ap (λ k. 2 ^ k) e

  number-blocks : (region sub : ℕ) → number_of shape region sub * 2 ^ (shape.sub_exp - 3) ≡ region * 2 ^ (shape.region_exp - 3) + sub * 2 ^ (shape.sub_exp - 3)
  number-blocks region sub = rw (← per_region-blocks) (distributed region (per_region shape) sub (2 ^ (shape.sub_exp - 3)))
    where
      distributed : (a b c d : ℕ) → (a * b + c) * d ≡ a * (b * d) + c * d
      distributed a b c d = grind arith

  pub number_of-lt : (region sub : ℕ) → HasSubregion shape region sub → number_of shape region sub < subregion_count shape
  number_of-lt region sub is =
      piece-lt (number_of shape region sub) shape.units (shape.sub_exp - 3) (rw (number-blocks region sub) is.present)

  pub region-lt : (region : ℕ) → HasRegion shape region → region < region_count shape
  region-lt region is = piece-lt region shape.units (shape.region_exp - 3) is

  pub has_region : (region sub : ℕ) → HasSubregion shape region sub → HasRegion shape region
  has_region region sub is = omega (arith, is.present)

  -- the first subregion of a region that is below the count
  pub first-lt : (region : ℕ) → region < region_count shape → number_of shape region 0 < subregion_count shape
  first-lt region below =
      let part : (shape.units - 1) / 2 ^ (shape.region_exp - 3) * 2 ^ (shape.region_exp - 3) ≤ shape.units - 1 =
      div-mul-le_self (shape.units - 1) (2 ^ (shape.region_exp - 3)) in
      number_of-lt region 0 record { inside = pow_pos (shape.region_exp - shape.sub_exp); present = within part }
    where
      inside : region ≤ (shape.units - 1) / 2 ^ (shape.region_exp - 3)
      inside = omega arith

      within : (shape.units - 1) / 2 ^ (shape.region_exp - 3) * 2 ^ (shape.region_exp - 3) ≤ shape.units - 1
          → region * 2 ^ (shape.region_exp - 3) + 0 * 2 ^ (shape.sub_exp - 3) < shape.units
      within part = omega (arith, mul-le-mul_left (2 ^ (shape.region_exp - 3)) inside)

  -- the subregions of two blocks are in order and below the count, as are the regions
  pub piece_order : (e lba last : ℕ) → lba ≤ last → lba / 2 ^ e ≤ last / 2 ^ e
  piece_order e lba last order =
      let part : lba / 2 ^ e * 2 ^ e ≤ lba = div-mul-le_self lba (2 ^ e) in
      le-div (lba / 2 ^ e) last (2 ^ e) (pow_pos e) (omega arith)
