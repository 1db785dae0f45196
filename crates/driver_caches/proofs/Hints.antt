-- What a segment reads as, and the hint that a driver takes of it.
use Rattle.std.proofs.Common.{◌≡◌, ℕ, ◌+◌, Bool, true, List, length, sym, ◌∙◌, ap}
use Rattle.std.specs.Prelude.{if◌then◌else◌}
use Rattle.hpb_sense.specs.Sense.{IsSense, hint_at, sense_len}
use Rattle.hpb_sense.specs.declared.sense.Hint.{Hint}
use Rattle.hpb_sense.specs.declared.sense.Sense.TheVariants.{Hint as Hinted}
use Rattle.host_map_cache.specs.Cache.{CacheState, hinted}
use Rattle.driver_caches.specs.Machine.{change_cache, is_hint_segment, with_hint}
use Rattle.driver_laws.proofs.Opens.{and_true, within}

-- the caches after a segment that is a hint, and after one that isn't
abbrev told : Bool → List ℕ → List CacheState → List CacheState
told b segment caches = if b then change_cache (hint_at segment).lun (λ (c : CacheState). hinted c (hint_at segment)) caches else caches

pub said : (segment : List ℕ) (hint : Hint) (caches : List CacheState) → IsSense segment (Hinted hint) → change_cache hint.lun (λ (c : CacheState). hinted c hint) caches ≡ with_hint segment caches
said segment hint caches is =
    let test : is_hint_segment segment ≡ true = and_true _ _ (within 2 (length segment) is.0.number) (and_true _ _ (within (2 + sense_len segment) (length segment) is.0.sense) is.1) in
    ap (λ (h : Hint). change_cache h.lun (λ (c : CacheState). hinted c h) caches) (sym is.2)
    ∙ sym (ap (λ (b : Bool). told b segment caches) test)
