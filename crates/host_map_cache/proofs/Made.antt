-- The slots that are made so far.
use Rattle.std.proofs.Common.{◌≡◌, ℕ, ◌+◌, ◌-◌, ◌<◌, false, eqb, List, [], ◌∷◌, length, None, refl, ap, sym, subst, arith}
use Rattle.std.specs.List.{AllByRecursion}
use Rattle.std.specs.Map.{lookup_entry}
use Rattle.lru.specs.LruCache.{lru_cache, put_entries}
use Rattle.host_map_cache.specs.Regions.{region_in, blank, IsSlot}
use Rattle.host_map_cache.specs.declared.slots.Slot.{Slot}
use Rattle.host_map_cache.proofs.Claims.{take-all}
use Rattle.host_map_cache.proofs.Sizes.{renewed_slot}

no_key : (room subregions blocks : ℕ) (es : List (ℕ × Slot)) → AllByRecursion (IsSlot room subregions blocks) es → lookup_entry (eqb room) es ≡ None
no_key room subregions blocks [] each = refl
no_key room subregions blocks (e ∷ es) each = let other : eqb room e.0 ≡ false = grind (arith, each.0.key) in rw other (no_key room subregions blocks es each.1)

more_room : (room subregions blocks : ℕ) (es : List (ℕ × Slot)) → AllByRecursion (IsSlot room subregions blocks) es → AllByRecursion (IsSlot (room + 1) subregions blocks) es
more_room room subregions blocks [] each = tt
more_room room subregions blocks (e ∷ es) each =
    (record { key = omega (arith, each.0.key); states = each.0.states; entries = each.0.entries; dirty = each.0.dirty }, more_room room subregions blocks es each.1)

pub record Made (count subregions blocks : ℕ) (es : List (ℕ × Slot)) : Type 0 where
  pub counted : length es ≡ count
  pub each : AllByRecursion (IsSlot count subregions blocks) es

pub made_more : (cap count subregions blocks : ℕ) (es : List (ℕ × Slot)) (slot : Slot) → Made count subregions blocks es → count < cap → region_in slot ≡ blank subregions blocks
    → Made (count + 1) subregions blocks (put_entries eqb (lru_cache es cap) count slot)
made_more cap count subregions blocks es slot made room new = subst (Made (count + 1) subregions blocks) (sym put) (record {
  counted = omega (arith, made.counted);
  each = (renewed_slot (count + 1) subregions blocks count slot (omega arith) new, more_room count subregions blocks es made.each);
})
  where
    put : put_entries eqb (lru_cache es cap) count slot ≡ (count, slot) ∷ es
    put = rw (no_key count subregions blocks es made.each) (ap (λ l. (count, slot) ∷ l) (take-all (cap - 1) es (omega (arith, made.counted, room))))
