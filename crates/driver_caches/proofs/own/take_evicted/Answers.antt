use Rattle.std.proofs.Common.{List, drop, length, refl, sym, ◌∙◌, ap, arith}
use Rattle.std.specs.Prelude.{slice_set}
use Rattle.host_map_cache.specs.Cache.{CacheState}
use Rattle.driver_caches.specs.Own.{IsFirstEvicted}
use Rattle.driver_caches.proofs.Changing.{same_shapes}
use Rattle.driver_caches.proofs.Evicted.{first_region, told_at}
use Rattle.driver_caches.proofs.own.take_evicted.Goals as goal

pub take_evicted-requires : goal.take_evicted-requires
take_evicted-requires c =
    let x = c.index-caches-unit.result in
    let cs : List CacheState = c.args.caches.now in
    let found : IsFirstEvicted cs c.in_ok-unit.unit c.in_ok-unit.region =
    c.in_ok-unit.ensures in
    let first = found.first x
    (sym c.index-caches-unit.is) in
    let e = ap length (ap (λ (y : CacheState). y.evicted) (sym c.index-caches-unit.is) ∙ first_region x.evicted c.in_ok-unit.region first) in
    omega (arith, e)

pub returns-clause-after : goal.returns-clause-after
returns-clause-after c =
    let x = c.index-caches-unit.result in
    let cs : List CacheState = c.args.caches.now in
    let found : IsFirstEvicted cs c.in_ok-unit.unit c.in_ok-unit.region =
    c.in_ok-unit.ensures in
    told_at cs (slice_set c.args.caches.now c.in_ok-unit.unit c.take_evicted.new.self) c.in_ok-unit.unit x c.take_evicted.new.self c.in_ok-unit.region found
    (sym c.index-caches-unit.is)
    (c.take_evicted.ensures ∙ ap (λ (y : CacheState). record y { evicted = drop 1 y.evicted }) (sym c.index-caches-unit.is))
    refl

pub returns-clause-shapes : goal.returns-clause-shapes
returns-clause-shapes c =
    same_shapes c.args.caches.now c.in_ok-unit.unit c.index-caches-unit.result c.take_evicted.new.self (ap (λ (y : CacheState). y.shape) c.take_evicted.ensures)
