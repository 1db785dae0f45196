-- Words name what is served exactly where no limit is broken.
use Rattle.std.proofs.Common.{◌≡◌, ℕ, ◌+◌, ◌-◌, ◌*◌, ◌≤◌, List, refl, ◌∙◌, ap, arith, inl, inr}
use Rattle.std.proofs.Math.Nat.{add-mul, mul-le-mul, not-le_of_lt}
use Rattle.std.proofs.lemmas.Bool.{cases_lt}
use Rattle.std.specs.Prelude.{All, ◌↔◌}
use Rattle.command_words.specs.declared.limits.Limit.{Limit}
use Rattle.command_words.specs.declared.limits.Limit.TheVariants.{Blocks, Pages, AllPages, Units, Region, Sub, SubInRegion, Held}
use Rattle.command_words.specs.declared.limits.NamedNumbers.{NamedNumbers}
use Rattle.command_words.specs.declared.limits.TheConstants as the
use Rattle.command_words.specs.Limits.{AppliesTo, IsBetween, IsBroken, IsKept, IsNamed, named_numbers}
use Rattle.command_words.specs.Words.{RunsDevice, named_chip}

-- a limit that isn't broken is kept

kept_most : (a b : ℕ) → ¬ (¬ (a ≤ b)) → a ≤ b
kept_most a b twice = elim (cases_lt b a) [ inl above ↦ absurd (twice (not-le_of_lt above)) | inr kept ↦ kept ]

kept_between : (least most n : ℕ) → ¬ (¬ IsBetween least most n) → IsBetween least most n
kept_between least most n twice = (kept_most least n (λ no. twice (λ is. no is.0)), kept_most n most (λ no. twice (λ is. no is.1)))

record AllKept (n : NamedNumbers) : Type 0 where
  blocks : IsKept Blocks n
  pages : IsKept Pages n
  all_pages : IsKept AllPages n
  units : IsKept Units n
  region : IsKept Region n
  sub : IsKept Sub n
  sub_in_region : IsKept SubInRegion n
  held : IsKept Held n

all_kept : (n : NamedNumbers) → ((limit : Limit) → AppliesTo limit n → ¬ (¬ IsKept limit n)) → AllKept n
all_kept n none =
    let blocks : IsKept Blocks n = kept_between 4 4096 n.blocks (none Blocks tt) in
    let pages : IsKept Pages n = kept_between 2 256 n.pages (none Pages tt) in
    let all_pages : IsKept AllPages n = kept_most (n.blocks * n.pages) 65536 (none AllPages (blocks, pages)) in
    let region : IsKept Region n = kept_between 3 19 n.region (none Region tt) in
    let sub : IsKept Sub n = kept_between 3 19 n.sub (none Sub tt) in
    record {
      blocks = blocks;
      pages = pages;
      all_pages = all_pages;
      units = kept_between 1 ((n.blocks - 3) * n.pages) n.units (none Units (blocks, pages, all_pages));
      region = region;
      sub = sub;
      sub_in_region = kept_most n.sub n.region (none SubInRegion (region, sub));
      held = kept_between 1 32 n.held (none Held tt);
    }

without_three : (blocks pages : ℕ) → 3 ≤ blocks → blocks * pages ≡ (blocks - 3) * pages + 3 * pages
without_three blocks pages three =
    let parts : blocks ≡ (blocks - 3) + 3 = omega arith in
    ap (λ (n : ℕ). n * pages) parts ∙ add-mul (blocks - 3) 3 pages

-- a chip within its limits has at most 65,488 pages without three erase blocks
most_units : (blocks pages : ℕ) → 4 ≤ blocks → blocks ≤ 4096 → blocks * pages ≤ 65536 → (blocks - 3) * pages ≤ 65488
most_units blocks pages some few all = elim (cases_lt pages 16) [
  | inl less ↦
      let small : (blocks - 3) * pages ≤ 4093 * 15 = mul-le-mul {n₁ = blocks - 3} {m₁ = pages} {n₂ = 4093} {m₂ = 15} (omega arith) (omega arith) in
      omega (arith, small)
  | inr more ↦
      let parts = without_three blocks pages (omega arith) in
      omega (arith, parts, all, more)
]

-- each limit of the list is one of them
each_limit : (words : List (List ℕ)) → All (λ limit. ¬ IsBroken words limit) the.Limit.ALL → (limit : Limit) → ¬ IsBroken words limit
each_limit words none Blocks = none 0 Blocks (omega arith)
each_limit words none Pages = none 1 Blocks (omega arith)
each_limit words none AllPages = none 2 Blocks (omega arith)
each_limit words none Units = none 3 Blocks (omega arith)
each_limit words none Region = none 4 Blocks (omega arith)
each_limit words none Sub = none 5 Blocks (omega arith)
each_limit words none SubInRegion = none 6 Blocks (omega arith)
each_limit words none Held = none 7 Blocks (omega arith)

pub none_broken : (words : List (List ℕ)) → RunsDevice words → (All (λ limit. ¬ IsBroken words limit) the.Limit.ALL ↔ IsNamed words (named_chip words))
none_broken words runs = (served, unserved)
  where
    served : All (λ limit. ¬ IsBroken words limit) the.Limit.ALL → IsNamed words (named_chip words)
    served none =
        let kept = all_kept (named_numbers words) (λ limit applies broken. each_limit words none limit (runs, applies, broken)) in (
          refl,
          record {
            some_block = kept.units.0;
            units = omega (arith, most_units (named_chip words).blocks (named_chip words).pages kept.blocks.0 kept.blocks.1 kept.all_pages, kept.units.1);
            a_block_in_a_subregion = kept.sub.0;
            a_subregion_in_a_region = kept.sub_in_region;
            region = kept.region.1;
            some_region = kept.held.0;
            held = kept.held.1;
          },
          record {
            limits = record { least_blocks = kept.blocks.0; most_blocks = kept.blocks.1; least_pages = kept.pages.0; most_pages = kept.pages.1; most = kept.all_pages };
            some_lun = omega arith;
            most_luns = omega arith;
            some_block = kept.units.0;
            room = omega (arith, kept.units.1);
          },
        )

    keeps : IsNamed words (named_chip words) → (limit : Limit) → IsKept limit (named_numbers words)
    keeps (same, unit, chip) Blocks = (chip.limits.least_blocks, chip.limits.most_blocks)
    keeps (same, unit, chip) Pages = (chip.limits.least_pages, chip.limits.most_pages)
    keeps (same, unit, chip) AllPages = chip.limits.most
    keeps (same, unit, chip) Units = (chip.some_block, omega (arith, chip.room))
    keeps (same, unit, chip) Region = (omega (arith, unit.a_block_in_a_subregion, unit.a_subregion_in_a_region), unit.region)
    keeps (same, unit, chip) Sub = (unit.a_block_in_a_subregion, omega (arith, unit.region, unit.a_subregion_in_a_region))
    keeps (same, unit, chip) SubInRegion = unit.a_subregion_in_a_region
    keeps (same, unit, chip) Held = (unit.some_region, unit.held)

    unserved : IsNamed words (named_chip words) → All (λ limit. ¬ IsBroken words limit) the.Limit.ALL
    unserved named = λ k d inside broken. broken.2 (keeps named _)
