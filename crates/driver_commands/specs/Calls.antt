-- What the calls of a driver make of its open commands.
use Rattle.std.specs.Prelude.{◌≡◌, ℕ, Bool, true, false, List, Option, Result, Ok, Err}
use Rattle.std.specs.Prelude.{MatchOption, MatchResult, slice_index_or}
use Rattle.std.specs.List.{find}
use Rattle.upiu_wire.specs.Upiu.{Upiu, upiu_out}
use Rattle.driver_laws.specs.declared.answer.Done.{Done}
use Rattle.driver_laws.specs.declared.fault.DriverFault.{DriverFault}
use Rattle.driver_laws.specs.Commands.{OpenCommand, has}
use Rattle.host_map_cache.specs.Cache.{CacheState}
use Rattle.driver_caches.specs.Machine.{caches_by}
use Rattle.driver_laws.specs.Deliver.{Delivered}

-- the command stands at the place
abbrev pub IsAt : OpenCommand → List OpenCommand → ℕ → Type 0
IsAt o opens place = slice_index_or opens place o ≡ o

-- what is sent next, if anything is
abbrev pub IsSent : Option Upiu → Bool → List ℕ → List ℕ → Type 0
IsSent next sent before now =
    MatchOption next ((sent ≡ false) × (now ≡ before)) (λ v. (sent ≡ true) × (now ≡ upiu_out v))

-- what comes of bytes of the device: what ended and the commands that are open then, or a fault and no change
abbrev pub IsDelivered : Result Delivered DriverFault → List OpenCommand → List OpenCommand
    → Result (Option Done) DriverFault → Type 0
IsDelivered d before now outcome =
    MatchResult d
    (λ taken. (outcome ≡ Ok taken.done) × (now ≡ taken.opens))
    (λ fault. (outcome ≡ Err fault) × (now ≡ before))

-- the caches after bytes of the device, which have changed only where these were taken
abbrev pub HasTaken : Result Delivered DriverFault → Upiu → List OpenCommand → (before now : List CacheState) → Type 0
HasTaken d upiu opens before now =
    MatchResult d (λ _. now ≡ caches_by upiu.kind (find (has upiu.tag) opens) upiu before) (λ _. now ≡ before)

-- what a caller is told of it
abbrev pub IsAnswered : Result Delivered DriverFault → Result (Option Done) DriverFault → Type 0
IsAnswered d outcome = MatchResult d (λ taken. outcome ≡ Ok taken.done) (λ fault. outcome ≡ Err fault)
