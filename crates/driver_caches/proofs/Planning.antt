-- A plan says the way of a read.
use Rattle.std.proofs.Common.{◌≡◌, ℕ, zero, suc, ◌≤◌, ◌<◌, length, arith, None, not, ◌&&◌, Bool, true, false, List, [], ◌∷◌, map, Option, Some, nat_le, refl, sym, ◌∙◌, ap}
use Rattle.std.specs.Prelude.{if◌then◌else◌, unwrap_or, slice_get, slice_index_or}
use Rattle.std.specs.List.{range_with_len}
use Rattle.host_map_cache.specs.Cache.{CacheState, entry_of}
use Rattle.driver_laws.specs.Requests.{Way, Plainly, WithEntry, WithList}
use Rattle.read_planner.specs.declared.choice.Plan.{Plan}
use Rattle.read_planner.specs.declared.choice.Plan.TheVariants.{Plain, Single, Prefetch}
use Rattle.read_planner.specs.Plans.{IsPlan}
use Rattle.driver_caches.specs.Machine.{entry_at, way_by}
use Rattle.std.proofs.lemmas.Bool.{false≢true}
use Rattle.std.proofs.lemmas.Bool.Decides.{nat_tests}
use Rattle.std.proofs.lemmas.List.{length-map}
use Rattle.std.proofs.lemmas.List.FromFn.{length-map-range_with_len}
use Rattle.driver_caches.specs.Ways.{IsListFor, way_of_plan}

abbrev known : Option ℕ → ℕ
known entry = unwrap_or entry 0

all_known : (entries : List ℕ) → entries ≡ map known (map (λ (e : ℕ). Some e) entries)
all_known [] = refl
all_known (e ∷ entries) = ap (λ (rest : List ℕ). e ∷ rest) (all_known entries)

known_at : (f : ℕ → Option ℕ) (blocks : List ℕ) → map known (map f blocks) ≡ map (λ (block : ℕ). known (f block)) blocks
known_at f [] = refl
known_at f (block ∷ blocks) = ap (λ (rest : List ℕ). known (f block) ∷ rest) (known_at f blocks)

-- by whether the read has entries, and whether it goes out with all of them
abbrev way_in : CacheState → ℕ → ℕ → ℕ → Bool → Bool → Way
way_in cache lba n id has all =
    if not has then Plainly else (if all then WithList id (map (entry_at cache) (range_with_len lba n)) else WithEntry (entry_at cache lba))

pub way_is : (cache : CacheState) (lba n : ℕ) (pair : Bool) (id : ℕ) (plan : Plan) → IsPlan cache lba n pair id plan → way_of_plan plan ≡ way_by cache lba n pair id
way_is cache lba n pair id Plain is = sym (ap (λ (b : Bool). way_in cache lba n id b (nat_le 2 n && pair)) is)
way_is cache lba n pair id (Single entry) is =
    ap (λ (e : Option ℕ). WithEntry (known e)) is.2
    ∙ sym (ap (λ (b : Bool). way_in cache lba n id b (nat_le 2 n && pair)) is.0 ∙ ap (λ (b : Bool). way_in cache lba n id true b) is.1)
way_is cache lba n pair id (Prefetch with_id entries) is =
    let list : entries.items ≡ map (entry_at cache) (range_with_len lba n) =
    all_known entries.items ∙ ap (map known) is.3 ∙ known_at (entry_of cache) (range_with_len lba n) in
    ap (λ (i : ℕ). WithList i entries.items) is.2 ∙ ap (λ (xs : List ℕ). WithList id xs) list
    ∙ sym (ap (λ (b : Bool). way_in cache lba n id b (nat_le 2 n && pair)) is.0 ∙ ap (λ (b : Bool). way_in cache lba n id true b) is.1)

-- the cache of a unit, where there is one
pub cache_at : (cs : List CacheState) (lun unit : ℕ) (c : CacheState) → unit ≡ lun → unit < length cs
    → c ≡ slice_index_or cs unit c → slice_get cs lun ≡ Some c
cache_at cs lun unit c same below is = ap (slice_get cs) (sym same) ∙ there cs unit c below ∙ ap (λ (x : CacheState). Some x) (sym is)
  where
    there : (cs : List CacheState) (unit : ℕ) (c : CacheState) → unit < length cs → slice_get cs unit ≡ Some (slice_index_or cs unit c)
    there [] unit c below = absurd (omega arith)
    there (x ∷ xs) zero c below = refl
    there (x ∷ xs) (suc unit) c below = there xs unit c (omega arith)

pub no_cache : (cs : List CacheState) (lun unit : ℕ) → unit ≡ lun → length cs ≤ unit → slice_get cs lun ≡ None
no_cache cs lun unit same past = ap (slice_get cs) (sym same) ∙ none cs unit past
  where
    none : (cs : List CacheState) (unit : ℕ) → length cs ≤ unit → slice_get cs unit ≡ None
    none [] unit past = refl
    none (x ∷ xs) zero past = absurd (omega arith)
    none (x ∷ xs) (suc unit) past = none xs unit (omega arith)

-- a plan with a list has an entry for each block
pub is_list : (cache : CacheState) (lba n : ℕ) (pair : Bool) (id : ℕ) (plan : Plan) → IsPlan cache lba n pair id plan → IsListFor pair n plan
is_list cache lba n pair id Plain is = tt
is_list cache lba n pair id (Single entry) is = tt
is_list cache lba n pair id (Prefetch with_id entries) is =
    let both = and_both (nat_le 2 n) pair is.1 in
    let same : length entries.items ≡ n =
    sym (length-map entries.items (λ (e : ℕ). Some e)) ∙ ap (λ (xs : List (Option ℕ)). length xs) is.3 ∙ length-map-range_with_len (entry_of cache) lba n in
    (both.1, at_least n both.0, same)
  where
    and_both : (a b : Bool) → (a && b) ≡ true → (a ≡ true) × (b ≡ true)
    and_both true b h = (refl, h)
    and_both false b h = absurd (false≢true h)

    at_least : (n : ℕ) → nat_le 2 n ≡ true → 2 ≤ n
    at_least n h = grind (arith, nat_tests, h)
