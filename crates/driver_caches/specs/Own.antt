-- What a driver takes out of the caches for a command of its own.
use Rattle.std.specs.Prelude.{◌≡◌, ◌<◌, ℕ, zero, suc, List, [], ◌∷◌, length, Option, Some, None, IsTrue}
use Rattle.std.specs.Prelude.{slice_get, slice_index_or}
use Rattle.host_map_cache.specs.Cache.{CacheState, issued}
use Rattle.host_map_cache.specs.Shapes.{is_present}
use Rattle.driver_laws.specs.Commands.{Wanted}
use Rattle.driver_caches.specs.Machine.{Own, Picked, evicted_from, load, stale_dropped, tell}

-- of the wants from the first one on that is still asked for, that one is taken; where there is none all are dropped
abbrev pub IsNextOf : CacheState → List (ℕ × ℕ) → Option (ℕ × ℕ) → CacheState → Type 0
IsNextOf before [] result now = (result ≡ None) × (now ≡ record before { wants = [] })
IsNextOf before (want ∷ rest) result now =
    (result ≡ Some want) × (now ≡ issued (record before { wants = rest }) want.0 want.1)

-- the next subregion to load of one cache
abbrev pub IsNextWant : CacheState → Option (ℕ × ℕ) → CacheState → Type 0
IsNextWant before result now = IsNextOf before (stale_dropped before before.wants) result now

-- a region is told as `Machine` says, and is taken out of its cache; where there is none nothing changes
abbrev pub IsTold : Option Own → List CacheState → Option (ℕ × ℕ) → List CacheState → Type 0
IsTold (Some own) before result now =
    (pair : ℕ × ℕ) × (result ≡ Some pair) × (own.wanted ≡ tell pair.0 pair.1) × (now ≡ own.caches)
IsTold None before result now = (result ≡ None) × (now ≡ before)

-- so many first caches have given nothing up
abbrev pub NoneBefore : List CacheState → ℕ → Type 0
NoneBefore cs zero = Unit {0}
NoneBefore [] (suc n) = Unit {0}
NoneBefore (c ∷ cs) (suc n) = (c.evicted ≡ []) × NoneBefore cs n

-- the lowest unit that has given a region up, and that region
pub record IsFirstEvicted (cs : List CacheState) (unit region : ℕ) : Type 0 where
  pub before : NoneBefore cs unit
  pub inside : unit < length cs
  pub first : (c : CacheState) → slice_index_or cs unit c ≡ c → slice_get c.evicted 0 ≡ Some region

-- that unit and region, or no unit has given one up
abbrev pub IsFirstOf : List CacheState → Option (ℕ × ℕ) → Type 0
IsFirstOf cs (Some pair) = IsFirstEvicted cs pair.0 pair.1
IsFirstOf cs None = evicted_from 0 cs ≡ None

-- so many first caches want nothing that is still asked for
abbrev pub NoWantBefore : List CacheState → ℕ → Type 0
NoWantBefore cs zero = Unit {0}
NoWantBefore [] (suc n) = Unit {0}
NoWantBefore (c ∷ cs) (suc n) = (stale_dropped c c.wants ≡ []) × NoWantBefore cs n

-- and have dropped what they wanted
abbrev pub after_stale : List CacheState → ℕ → List CacheState
after_stale cs zero = cs
after_stale [] (suc n) = []
after_stale (c ∷ cs) (suc n) = record c { wants = [] } ∷ after_stale cs n

-- a subregion of a unit
pub record Load : Type 0 where
  pub unit : ℕ
  pub region : ℕ
  pub sub : ℕ

-- the command loads this subregion
pub record IsLoad (cs : List CacheState) (wanted : Wanted) (l : Load) : Type 0 where
  pub cache : CacheState
  pub is_there : slice_index_or cs l.unit cache ≡ cache
  pub inside : l.unit < length cs
  pub is : wanted ≡ load l.unit cache (l.region, l.sub)

-- a command is sent for a subregion, or there is neither
abbrev pub IsPickedOf : List CacheState → Option Wanted → Option Load → Type 0
IsPickedOf cs (Some wanted) (Some l) = IsLoad cs wanted l
IsPickedOf cs None None = Unit {0}
IsPickedOf cs _ _ = ⊥

-- the subregion that is loaded next as `Machine` says, and the caches then
pub record IsPicked (before : List CacheState) (picked : Picked) (result : Option Load) (now : List CacheState)
    : Type 0 where
  pub want : IsPickedOf before picked.wanted result
  pub caches : now ≡ picked.caches

-- the numbers that the code answers, as a subregion of a unit
abbrev pub load_of : Option (ℕ × ℕ × ℕ) → Option Load
load_of (Some x) = Some (record { unit = x.0; region = x.1; sub = x.2 })
load_of None = None

-- the subregion is one of its unit
abbrev pub IsPresentLoad : List CacheState → Option Load → Type 0
IsPresentLoad cs (Some l) = (cache : CacheState) → slice_index_or cs l.unit cache ≡ cache
    → IsTrue (is_present cache.shape l.region l.sub)
IsPresentLoad cs None = Unit {0}
