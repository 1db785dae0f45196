-- A walk over all entries by their keys, in rising order: those below i are done.
use Rattle.std.proofs.Common.{◌≡◌, ℕ, ◌+◌, ◌<◌, true, false, cond, eqb, ltb, zero, suc, List, [], ◌∷◌, map, length, None, Some, refl, ap, sym, subst, ◌∙◌, arith}
use Rattle.std.specs.List.{AllByRecursion, IsDistinct}
use Rattle.std.specs.Map.{keys_of, lookup, set_value}
use Rattle.host_map_cache.specs.Regions.{Region, by_region, regions_in, IsSlot, AreSlots}
use Rattle.host_map_cache.specs.declared.slots.Slot.{Slot}
use Rattle.host_map_cache.proofs.Entries.{Passes}
use Rattle.host_map_cache.proofs.Moves.{SameSizes}

module _ {V : Type 0} (step : V → V) where
  abbrev pub done : ℕ → ℕ × V → ℕ × V
  done i e = (e.0, cond (ltb e.0 i) (step e.1) e.1)

  abbrev pub up_to : ℕ → List (ℕ × V) → List (ℕ × V)
  up_to i es = map (done i) es

  same_test : (i k : ℕ) → eqb i k ≡ false → ltb k (i + 1) ≡ ltb k i
  same_test i k h = grind arith

  other : (i : ℕ) (e : ℕ × V) → eqb i e.0 ≡ false → done (i + 1) e ≡ done i e
  other i e h = rw (same_test i e.0 h) refl

  -- no entry has the key
  pub walk_skip : (i : ℕ) (es : List (ℕ × V)) → Passes (eqb i) es → up_to (i + 1) es ≡ up_to i es
  walk_skip i [] a = refl
  walk_skip i (e ∷ es) a = ap (λ x. x ∷ up_to (i + 1) es) (other i e a.0) ∙ ap (λ l. done i e ∷ l) (walk_skip i es a.1)

  pub walk_none : (n : ℕ) (es : List (ℕ × V)) → AllByRecursion (λ e. e.0 < n) es → up_to n es ≡ map (λ e. (e.0, step e.1)) es
  walk_none n [] a = refl
  walk_none n (e ∷ es) a = let test : ltb e.0 n ≡ true = grind (arith, a.0) in rw test (ap (λ l. (e.0, step e.1) ∷ l) (walk_none n es a.1))

  pub walk_start : (es : List (ℕ × V)) → up_to 0 es ≡ es
  walk_start [] = refl
  walk_start (e ∷ es) = let test : ltb e.0 0 ≡ false = grind arith in rw test (ap (λ l. e ∷ l) (walk_start es))

  is_it : (i : ℕ) (e : ℕ × V) (v : V) → eqb i e.0 ≡ true → Some (cond (ltb e.0 i) (step e.1) e.1) ≡ Some v → ◌≡◌ {A = ℕ × V} (e.0, step v) (done (i + 1) e)
  is_it i e v t h = let below : ltb e.0 i ≡ false = grind (arith, t) in
      let same : Some e.1 ≡ Some v = rw below at h in
      let next : ltb e.0 (i + 1) ≡ true = grind (arith, t) in
      rw next (first same)
    where
      first : Some e.1 ≡ Some v → ◌≡◌ {A = ℕ × V} (e.0, step v) (e.0, step e.1)
      first h = cc

  others : (i : ℕ) (e : ℕ × V) (es : List (ℕ × V)) → eqb i e.0 ≡ true → AllByRecursion (λ y. eqb e.0 y ≡ false) (keys_of es) → Passes (eqb i) es
  others i e [] t a = tt
  others i e (x ∷ es) t a = let other : eqb i x.0 ≡ false = grind (arith, t, a.0) in (other, others i e es t a.1)

  -- the entry of the key is done, where there is one
  pub walk_more : (i : ℕ) (es : List (ℕ × V)) (v : V) → IsDistinct eqb (keys_of es) → lookup (eqb i) (up_to i es) ≡ Some v → set_value (eqb i) (up_to i es) (step v) ≡ up_to (i + 1) es
  unfolding IsDistinct
  walk_more i [] v d h = cc
  walk_more i (e ∷ es) v d h = (elim (eqb i e.0) as (λ b. eqb i e.0 ≡ b → set_value (eqb i) (up_to i (e ∷ es)) (step v) ≡ up_to (i + 1) (e ∷ es)) [
    | true ↦ λ t. rw t (ap (λ x. x ∷ up_to i es) (is_it i e v t (rw t at h)) ∙ ap (λ l. done (i + 1) e ∷ l) (sym (walk_skip i es (others i e es t d.0))))
    | false ↦ λ t. rw t (ap (λ x. x ∷ set_value (eqb i) (up_to i es) (step v)) (sym (other i e t)) ∙ ap (λ l. done (i + 1) e ∷ l) (walk_more i es v d.1 (rw t at h)))
  ]) refl

  pub walk_missing : (i : ℕ) (es : List (ℕ × V)) → lookup (eqb i) (up_to i es) ≡ None → up_to (i + 1) es ≡ up_to i es
  walk_missing i [] h = refl
  walk_missing i (e ∷ es) h = (elim (eqb i e.0) as (λ b. eqb i e.0 ≡ b → up_to (i + 1) (e ∷ es) ≡ up_to i (e ∷ es)) [
    | true ↦ λ t. let g = rw t at h in cc
    | false ↦ λ t. ap (λ x. x ∷ up_to (i + 1) es) (other i e t) ∙ ap (λ l. done i e ∷ l) (walk_missing i es (rw t at h))
  ]) refl

first_of : {A : Type 0} {x y : A} {xs ys : List A} → x ∷ xs ≡ y ∷ ys → x ≡ y
first_of h = cc

rest_of : {A : Type 0} {x y : A} {xs ys : List A} → x ∷ xs ≡ y ∷ ys → xs ≡ ys
rest_of h = cc

pub pair_is : {n m : ℕ} {x y : Region} → n ≡ m → x ≡ y → ◌≡◌ {A = ℕ × Region} (n, x) (m, y)
pair_is p q = rw (p, q) refl

-- an entry by its key, with the number and the content of its region
abbrev pub keyed : ℕ × Slot → ℕ × (ℕ × Region)
keyed e = (e.0, by_region e)

keys-keyed : (es : List (ℕ × Slot)) → keys_of (map keyed es) ≡ keys_of es
keys-keyed [] = refl
keys-keyed (e ∷ es) = ap (λ l. e.0 ∷ l) (keys-keyed es)

lookup-keyed : (i : ℕ) (es : List (ℕ × Slot)) (slot : Slot) → lookup (eqb i) es ≡ Some slot → lookup (eqb i) (map keyed es) ≡ Some (by_region (i, slot))
lookup-keyed i [] slot h = cc
lookup-keyed i (e ∷ es) slot h = (elim (eqb i e.0) as (λ b. eqb i e.0 ≡ b → lookup (eqb i) (map keyed (e ∷ es)) ≡ Some (by_region (i, slot))) [
  | true ↦ λ t. rw t (first (rw t at h))
  | false ↦ λ t. rw t (lookup-keyed i es slot (rw t at h))
]) refl
  where
    first : Some e.1 ≡ Some slot → Some (by_region e) ≡ Some (by_region (i, slot))
    first h = cc

lookup-keyed-none : (i : ℕ) (es : List (ℕ × Slot)) → lookup (eqb i) es ≡ None → lookup (eqb i) (map keyed es) ≡ None
lookup-keyed-none i [] h = refl
lookup-keyed-none i (e ∷ es) h = (elim (eqb i e.0) as (λ b. eqb i e.0 ≡ b → lookup (eqb i) (map keyed (e ∷ es)) ≡ None) [
  | true ↦ λ t. let g = rw t at h in cc
  | false ↦ λ t. rw t (lookup-keyed-none i es (rw t at h))
]) refl

set_value-keyed : (i : ℕ) (es : List (ℕ × Slot)) (w : Slot) → map keyed (set_value (eqb i) es w) ≡ set_value (eqb i) (map keyed es) (by_region (i, w))
set_value-keyed i [] w = refl
set_value-keyed i (e ∷ es) w = (elim (eqb i e.0) as (λ b. eqb i e.0 ≡ b → map keyed (set_value (eqb i) (e ∷ es) w) ≡ set_value (eqb i) (map keyed (e ∷ es)) (by_region (i, w))) [
  | true ↦ λ t. rw t refl
  | false ↦ λ t. rw t (ap (λ l. keyed e ∷ l) (set_value-keyed i es w))
]) refl

module _ (step : ℕ × Region → ℕ × Region) where
  -- the slots, where those with a key below i are done
  abbrev pub IsWalked : ℕ → List (ℕ × Slot) → List (ℕ × Slot) → Type 0
  IsWalked i es now = map keyed now ≡ up_to step i (map keyed es)

  pub walked_none : (es : List (ℕ × Slot)) → IsWalked 0 es es
  walked_none es = sym (walk_start step (map keyed es))

  pub walked_more : (i : ℕ) (es now : List (ℕ × Slot)) (slot w : Slot) → IsDistinct eqb (keys_of es) → IsWalked i es now → Some slot ≡ lookup (eqb i) now
      → by_region (i, w) ≡ step (by_region (i, slot)) → IsWalked (i + 1) es (set_value (eqb i) now w)
  walked_more i es now slot w distinct so_far is done =
      set_value-keyed i now w
      ∙ ap (set_value (eqb i) (map keyed now)) done
      ∙ ap (λ l. set_value (eqb i) l (step (by_region (i, slot)))) so_far
      ∙ walk_more step i (map keyed es) (by_region (i, slot)) (subst (IsDistinct eqb) (sym (keys-keyed es)) distinct) (ap (lookup (eqb i)) (sym so_far) ∙ lookup-keyed i now slot (sym is))

  pub walked_missing : (i : ℕ) (es now : List (ℕ × Slot)) → IsWalked i es now → None ≡ lookup (eqb i) now → IsWalked (i + 1) es now
  walked_missing i es now so_far is =
      so_far ∙ sym (walk_missing step i (map keyed es) (ap (lookup (eqb i)) (sym so_far) ∙ lookup-keyed-none i now (sym is)))

  keys_below : (room subregions blocks : ℕ) (es : List (ℕ × Slot)) → AllByRecursion (IsSlot room subregions blocks) es → AllByRecursion (λ e. e.0 < room) (map keyed es)
  keys_below room subregions blocks [] a = tt
  keys_below room subregions blocks (e ∷ es) a = (a.0.key, keys_below room subregions blocks es a.1)

  -- each slot is done
  abbrev pub AreDone : List (ℕ × Slot) → List (ℕ × Slot) → Type 0
  AreDone es now = map keyed now ≡ map (λ e. (e.0, step e.1)) (map keyed es)

  pub walked_all : (used room subregions blocks : ℕ) (es now : List (ℕ × Slot)) → AreSlots used room subregions blocks es → IsWalked room es now → AreDone es now
  walked_all used room subregions blocks es now are so_far = so_far ∙ walk_none step room (map keyed es) (keys_below room subregions blocks es are.each)

  pub regions-done : (used : ℕ) (es now : List (ℕ × Slot)) → AreDone es now → regions_in used now ≡ map step (regions_in used es)
  regions-done zero es now h = refl
  regions-done (suc n) [] [] h = refl
  regions-done (suc n) [] (x ∷ now) h = cc
  regions-done (suc n) (e ∷ es) [] h = cc
  regions-done (suc n) (e ∷ es) (x ∷ now) h = ap (λ y. y.1 ∷ regions_in n now) (first_of h) ∙ ap (λ l. step (by_region e) ∷ l) (regions-done n es now (rest_of h))

  module _ (sizes : (held : ℕ × Region) → SameSizes (step held).1 held.1) (room subregions blocks : ℕ) where
    slot-done : (e x : ℕ × Slot) → IsSlot room subregions blocks e → keyed x ≡ (e.0, step (by_region e)) → IsSlot room subregions blocks x
    slot-done e x was h = let same = sizes (by_region e) in record {
      key = subst (λ k. k < room) (sym (ap (λ y. y.0) h)) was.key;
      states = ap (λ y. length y.1.1.states) h ∙ same.states ∙ was.states;
      entries = ap (λ y. length y.1.1.entries) h ∙ same.entries ∙ was.entries;
      dirty = ap (λ y. length y.1.1.dirty) h ∙ same.dirty ∙ was.dirty;
    }

    each-done : (es now : List (ℕ × Slot)) → AllByRecursion (IsSlot room subregions blocks) es → AreDone es now → AllByRecursion (IsSlot room subregions blocks) now
    each-done [] [] a h = tt
    each-done [] (x ∷ now) a h = cc
    each-done (e ∷ es) [] a h = tt
    each-done (e ∷ es) (x ∷ now) a h = (slot-done e x a.0 (first_of h), each-done es now a.1 (rest_of h))

    length-done : (es now : List (ℕ × Slot)) → AreDone es now → length now ≡ length es
    length-done [] [] h = refl
    length-done [] (x ∷ now) h = cc
    length-done (e ∷ es) [] h = cc
    length-done (e ∷ es) (x ∷ now) h = ap suc (length-done es now (rest_of h))

    pub AreSlots-done : (used : ℕ) (es now : List (ℕ × Slot)) → AreSlots used room subregions blocks es → AreDone es now → AreSlots used room subregions blocks now
    AreSlots-done used es now are h = record {
      full = length-done es now h ∙ are.full;
      in_room = are.in_room;
      some_room = are.some_room;
      each = each-done es now are.each h;
    }
