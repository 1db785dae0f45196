-- What is so of a shape is so of the caches of two units that have it.
use Rattle.std.proofs.Common.{◌≡◌, ℕ, ◌*◌, Bool, true, false, List, [], ◌∷◌, length, sym, subst}
use Rattle.std.specs.List.{AllByRecursion}
use Rattle.region_state.specs.declared.shape.Shape.{Shape}
use Rattle.hpb_cdb.specs.declared.cdb.Cdb.TheVariants.{ReadBuffer}
use Rattle.host_map_cache.specs.Cache.{CacheState, sub_length}
use Rattle.driver_caches.specs.Effects.{AllHaveEntries, LoadsWhole, shapes_of}

pub two_have : (P : Shape → Type 0) (shape : Shape) (cs : List CacheState) → shapes_of cs ≡ shape ∷ shape ∷ [] → P shape → AllByRecursion (λ (c : CacheState). P c.shape) cs
two_have P shape cs is has = each cs (subst (AllByRecursion P) (sym is) (has, (has, tt)))
  where
    each : (cs : List CacheState) → AllByRecursion P (shapes_of cs) → AllByRecursion (λ (c : CacheState). P c.shape) cs
    each [] all = tt
    each (c ∷ cs) all = (all.0, each cs all.1)

pub two_have_entries : (shape : Shape) (cs : List CacheState) (region : ℕ) (bytes : List ℕ) → shapes_of cs ≡ shape ∷ shape ∷ []
    → length bytes ≡ 8 * sub_length shape region 0 → AllHaveEntries region 0 bytes cs
two_have_entries shape cs region bytes is whole = two_have (λ (s : Shape). length bytes ≡ 8 * sub_length s region 0) shape cs is whole

pub two_loads : (good : Bool) (region : ℕ) (bytes : List ℕ) (cs : List CacheState) → AllHaveEntries region 0 bytes cs → LoadsWhole good (ReadBuffer region 0 16) bytes cs
two_loads true region bytes cs all = all
two_loads false region bytes cs all = tt
