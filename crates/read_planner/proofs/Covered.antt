-- Blocks of a range that is covered.
use Rattle.std.proofs.Common.{◌≡◌, ℕ, ◌+◌, ◌<◌, ◌&&◌, Bool, IsTrue, nat_lt, zero, suc, subst, is_some, arith, tests}
use Rattle.std.specs.List.{list_all, range_with_len}
use Rattle.host_map_cache.specs.Cache.{CacheState, covers, entry_of}

all-at : (p : ℕ → Bool) (a n k : ℕ) → IsTrue (list_all p (range_with_len a n)) → k < n → IsTrue (p (a + k))
all-at p a zero k h low = absurd (omega (arith, low))
all-at p a (suc n) zero h low = let same : a ≡ a + 0 = omega arith in subst (λ j. IsTrue (p j)) same (first (p a) _ h)
  where
    first : (b c : Bool) → IsTrue (b && c) → IsTrue b
    first b c h = grind (arith, tests, h)
all-at p a (suc n) (suc k) h low = let same : (a + 1) + k ≡ a + suc k = omega arith in subst (λ j. IsTrue (p j)) same (all-at p (a + 1) n k (second (p a) _ h) (omega (arith, low)))
  where
    second : (b c : Bool) → IsTrue (b && c) → IsTrue c
    second b c h = grind (arith, tests, h)

-- each block has an entry
pub covered-at : (cache : CacheState) (lba n k : ℕ) → IsTrue (covers cache lba n) → k < n → IsTrue (is_some (entry_of cache (lba + k)))
covered-at cache lba n k h low = all-at (λ block. is_some (entry_of cache block)) lba n k (second (nat_lt 0 n) _ h) low
  where
    second : (b c : Bool) → IsTrue (b && c) → IsTrue c
    second b c h = grind (arith, tests, h)
