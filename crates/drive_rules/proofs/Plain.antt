-- A driver without caches opens only what its caller asks for, plainly.
use Rattle.std.proofs.Common.{◌≡◌, ℕ, Bool, true, false, List, [], map, Option, Some, None, Result, Ok, Err, refl, sym, ◌∙◌, ap, subst, ◌==◌}
use Rattle.std.specs.Prelude.{if◌then◌else◌, slice_get}
use Rattle.std.specs.List.{find}
use Rattle.host_map_cache.specs.Cache.{CacheState, lapsed}
use Rattle.upiu_wire.specs.declared.kind.Kind.{Kind}
use Rattle.upiu_wire.specs.declared.kind.Kind.TheVariants.{Response}
use Rattle.upiu_wire.specs.Upiu.{Upiu, upiu_at}
use Rattle.flat_unit.specs.Sizes.{Sizes}
use Rattle.driver_laws.specs.declared.fault.DriverFault.{DriverFault}
use Rattle.driver_laws.specs.declared.request.Request.{Request}
use Rattle.driver_laws.specs.declared.request.Request.TheVariants.{Read as ReadOf, Write as WriteOf, Sync as SyncAll, Ready}
use Rattle.driver_laws.specs.Commands.{OpenCommand, Wanted, has}
use Rattle.driver_laws.specs.Deliver.{Delivered, delivered}
use Rattle.driver_laws.specs.Requests.{Way, Plainly}
use Rattle.driver_laws.specs.Fits.{IsWay}
use Rattle.driver_caches.specs.Machine.{Machine, Own, caches_asked, caches_by, deliver, evicted_from, has_pair, is_hint_segment}
use Rattle.driver_caches.specs.Machine.{loads, may_send_own, wanted_from, way_by_cache, way_of, with_delivered, with_hint, with_own}
use Rattle.drive_rules.specs.Tame.{IsPlain, StaysTame}

plain_way : (m : Machine) (request : Request) → IsPlain m → IsWay (way_of m request) request
plain_way m (ReadOf lun lba n) plain = subst (λ (way : Way). IsWay way (ReadOf lun lba n)) (sym (by_on m.on)) tt
  where
    by_on : (b : Bool) → (if b then way_by_cache (slice_get m.caches lun) lba n (has_pair m.opens) m.next_id else Plainly) ≡ Plainly
    by_on true = ap (λ (cs : List CacheState). way_by_cache (slice_get cs lun) lba n (has_pair m.opens) m.next_id) plain
    by_on false = refl
plain_way m (WriteOf lun lba n bytes) plain = tt
plain_way m SyncAll plain = tt
plain_way m Ready plain = tt

no_own : (own : Own) → None ≡ Some own → ⊥
no_own own is = cc

no_wanted : (w : Wanted) → None ≡ Some w → ⊥
no_wanted w is = cc

asked_plain : (way : Way) (request : Request) → caches_asked way request [] ≡ []
asked_plain way (ReadOf lun lba n) = refl
asked_plain way (WriteOf lun lba n bytes) = refl
asked_plain way SyncAll = refl
asked_plain way Ready = refl

own_plain : (m : Machine) → (with_own (record m { caches = [] })).caches ≡ []
own_plain m = by_may (may_send_own (record m { caches = [] })) (loads m.opens)
  where
    by_may : (b c : Bool) → (if b then (if c then record m { caches = [] } else record m { caches = [] }) else record m { caches = [] }).caches ≡ []
    by_may true true = refl
    by_may true false = refl
    by_may false c = refl

abbrev no_caches : List CacheState
no_caches = []

hint_plain : (segment : List ℕ) → with_hint segment [] ≡ []
hint_plain segment = by_hint (is_hint_segment segment)
  where
    by_hint : (b : Bool) → (if b then no_caches else no_caches) ≡ no_caches
    by_hint true = refl
    by_hint false = refl

ended_plain : (kind : Kind) (o : Option OpenCommand) (v : Upiu) → caches_by kind o v [] ≡ []
ended_plain Response (Some o) v = by_good (v.status == 0x00)
  where
    by_good : (b : Bool) → (if b then with_hint v.segment [] else no_caches) ≡ no_caches
    by_good true = hint_plain v.segment
    by_good false = refl
ended_plain Response None v = refl
ended_plain _ o v = refl

got_plain : (s : Sizes) (bytes : List ℕ) (m : Machine) → IsPlain m → IsPlain (deliver s bytes m)
got_plain s bytes m plain = by_result (delivered s m.opens bytes)
  where
    by_result : (r : Result Delivered DriverFault) → (with_delivered m bytes r).caches ≡ []
    by_result (Ok d) =
        ap (λ (cs : List CacheState). caches_by (upiu_at bytes).kind (find (has (upiu_at bytes).tag) m.opens) (upiu_at bytes) cs) plain
        ∙ ended_plain (upiu_at bytes).kind (find (has (upiu_at bytes).tag) m.opens) (upiu_at bytes)
    by_result (Err fault) = plain

pub plain_stays : (s : Sizes) → StaysTame s IsPlain
plain_stays s = record {
  tame = λ m plain. record {
    ways = λ request is. plain_way m request plain;
    evicted = λ own is. absurd (no_own own (sym (ap (evicted_from 0) plain) ∙ is));
    picked = λ w is. absurd (no_wanted w (sym (ap (λ (cs : List CacheState). (wanted_from 0 cs).wanted) plain) ∙ is));
  };
  asked = λ request m is plain. ap (λ (cs : List CacheState). caches_asked (way_of m request) request cs) plain ∙ asked_plain (way_of m request) request;
  sent = λ m plain. ap (λ (cs : List CacheState). (with_own (record m { caches = cs })).caches) plain ∙ own_plain m;
  got = λ bytes m are plain. got_plain s bytes m plain;
  reset_too = λ m plain. ap (map lapsed) plain;
  held = λ on m plain. plain;
}
