-- The numbers of a shape within its limits, as the code makes them.
use Rattle.std.proofs.Common.{◌≡◌, ℕ, ◌+◌, ◌-◌, ◌*◌, ◌/◌, ◌%◌, ◌^◌, min, ap, ◌∙◌, arith}
use Rattle.std.proofs.lemmas.Nat.{one_shl}
use Rattle.region_state.specs.declared.shape.Shape.{Shape}
use Rattle.region_state.specs.Shape.{IsWithinLimits}
use Rattle.host_map_cache.specs.Shapes.{region_blocks, sub_blocks}
use Rattle.host_map_cache.specs.Cache.{held_blocks, held_subregions}

module _ (shape : Shape) (limits : IsWithinLimits shape) where
  pub region_size : (1 * 2 ^ (shape.region_exp - 3)) % 2 ^ 32 ≡ region_blocks shape
  region_size = one_shl (shape.region_exp - 3) 32 (omega (arith, limits.region))

  pub sub_size : (1 * 2 ^ (shape.sub_exp - 3)) % 2 ^ 32 ≡ sub_blocks shape
  sub_size = one_shl (shape.sub_exp - 3) 32 (omega (arith, limits.region, limits.a_subregion_in_a_region))

  pub blocks_is : (blocks : ℕ) → blocks ≡ min shape.units ((1 * 2 ^ (shape.region_exp - 3)) % 2 ^ 32) → blocks ≡ held_blocks shape
  blocks_is blocks is = let size = region_size in omega (arith, is, size)

  pub subregions_is : (blocks : ℕ) → blocks ≡ min shape.units ((1 * 2 ^ (shape.region_exp - 3)) % 2 ^ 32) → (blocks - 1) / ((1 * 2 ^ (shape.sub_exp - 3)) % 2 ^ 32) + 1 ≡ held_subregions shape
  subregions_is blocks is = ap (λ n. (n - 1) / ((1 * 2 ^ (shape.sub_exp - 3)) % 2 ^ 32) + 1) (blocks_is blocks is) ∙ ap (λ n. (held_blocks shape - 1) / n + 1) sub_size
