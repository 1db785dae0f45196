-- What bytes of the device make of the caches.
use Rattle.std.proofs.Common.{◌≡◌, ℕ, Bool, true, false, List, Option, Some, None, Result, Ok, Err, refl, sym, ◌∙◌, ap, subst}
use Rattle.std.specs.Prelude.{if◌then◌else◌}
use Rattle.std.specs.List.{find, list_any}
use Rattle.upiu_wire.specs.declared.fault.WireFault.{WireFault}
use Rattle.upiu_wire.specs.declared.kind.Kind.{Kind}
use Rattle.upiu_wire.specs.declared.kind.Kind.TheVariants.{NopIn}
use Rattle.upiu_wire.specs.Upiu.{Upiu, upiu_at}
use Rattle.upiu_wire.specs.WireFault.{wire_fault_of}
use Rattle.flat_unit.specs.Sizes.{Sizes}
use Rattle.host_map_cache.specs.Cache.{CacheState}
use Rattle.driver_laws.specs.declared.fault.DriverFault.{DriverFault}
use Rattle.driver_laws.specs.declared.fault.DriverFault.TheVariants.{Phase}
use Rattle.driver_laws.specs.Commands.{OpenCommand, has}
use Rattle.driver_laws.specs.Deliver.{Delivered, delivered, delivered_by, delivered_to, done_of, is_in_phase, taken}
use Rattle.driver_caches.specs.Machine.{caches_by}
use Rattle.driver_commands.specs.Calls.{HasTaken, IsAt}
use Rattle.driver_commands.specs.Places.{IsFirstAt}
use Rattle.driver_commands.proofs.Places.{none_found}
use Rattle.driver_commands.proofs.Taking.{of_fault, of_upiu, other_kind, to_place}

-- a command of the driver's own answers no request
pub none_done : (o : OpenCommand) (v : Upiu) → o.caller ≡ false → None ≡ done_of o v
none_done o v own = search own

pub unknown_caches : (s : Sizes) (opens : List OpenCommand) (v : Upiu) (caches : List CacheState) → list_any (has v.tag) opens ≡ false
    → HasTaken (delivered_to s opens v (find (has v.tag) opens)) v opens caches caches
unknown_caches s opens v caches none =
    subst (λ (x : Option OpenCommand). HasTaken (delivered_to s opens v x) v opens caches caches) (sym (none_found (has v.tag) opens none)) refl

pub early_caches : (s : Sizes) (opens : List OpenCommand) (v : Upiu) (caches : List CacheState) (place : ℕ) (o : OpenCommand) → IsFirstAt (has v.tag) opens place → IsAt o opens place
    → is_in_phase s o v ≡ false → HasTaken (delivered_to s opens v (find (has v.tag) opens)) v opens caches caches
early_caches s opens v caches place o first at phase =
    subst (λ (d : Result Delivered DriverFault). HasTaken d v opens caches caches)
    (sym (ap (delivered_to s opens v) (to_place s opens v place o first at) ∙ ap (λ (b : Bool). if b then Ok (taken v.kind opens o v) else Err Phase) phase)) refl

pub taken_caches : (s : Sizes) (opens : List OpenCommand) (v : Upiu) (caches now : List CacheState) (place : ℕ) (o : OpenCommand) → IsFirstAt (has v.tag) opens place → IsAt o opens place
    → is_in_phase s o v ≡ true → now ≡ caches_by v.kind (Some o) v caches → HasTaken (delivered_to s opens v (find (has v.tag) opens)) v opens caches now
taken_caches s opens v caches now place o first at phase leads =
    subst (λ (d : Result Delivered DriverFault). HasTaken d v opens caches now)
    (sym (ap (delivered_to s opens v) (to_place s opens v place o first at) ∙ ap (λ (b : Bool). if b then Ok (taken v.kind opens o v) else Err Phase) phase))
    (leads ∙ ap (λ (x : Option OpenCommand). caches_by v.kind x v caches) (sym (to_place s opens v place o first at)))

pub fault_caches : (s : Sizes) (opens : List OpenCommand) (bytes : List ℕ) (caches : List CacheState) (fault : WireFault) → wire_fault_of bytes ≡ Some fault
    → HasTaken (delivered s opens bytes) (upiu_at bytes) opens caches caches
fault_caches s opens bytes caches fault is =
    subst (λ (d : Result Delivered DriverFault). HasTaken d (upiu_at bytes) opens caches caches) (sym (of_fault s opens bytes fault is)) refl

pub nop_caches : (s : Sizes) (opens : List OpenCommand) (bytes : List ℕ) (caches : List CacheState) → wire_fault_of bytes ≡ None → (upiu_at bytes).kind ≡ NopIn
    → HasTaken (delivered s opens bytes) (upiu_at bytes) opens caches caches
nop_caches s opens bytes caches is kind =
    let v : Upiu = upiu_at bytes in
    subst (λ (d : Result Delivered DriverFault). HasTaken d v opens caches caches)
    (sym (of_upiu s opens bytes is ∙ ap (λ (k : Kind). delivered_by k s opens v) kind))
    (sym (ap (λ (k : Kind). caches_by k (find (has v.tag) opens) v caches) kind))

pub tag_caches : (s : Sizes) (opens : List OpenCommand) (bytes : List ℕ) (caches now : List CacheState) → wire_fault_of bytes ≡ None → ((upiu_at bytes).kind ≡ NopIn → ⊥)
    → HasTaken (delivered_to s opens (upiu_at bytes) (find (has (upiu_at bytes).tag) opens)) (upiu_at bytes) opens caches now → HasTaken (delivered s opens bytes) (upiu_at bytes) opens caches now
tag_caches s opens bytes caches now is other took =
    subst (λ (d : Result Delivered DriverFault). HasTaken d (upiu_at bytes) opens caches now) (sym (of_upiu s opens bytes is ∙ other_kind (upiu_at bytes).kind s opens (upiu_at bytes) other)) took
