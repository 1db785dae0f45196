-- What the regions are, after a slot was moved or changed.
use Rattle.std.proofs.Common.{◌≡◌, ℕ, ◌+◌, ◌-◌, ◌<◌, Bool, true, false, eqb, suc, List, [], ◌∷◌, ◌++◌, length, take, map, None, Some, Option, refl, ap, sym, subst, ◌∙◌, arith, append_assoc}
use Rattle.std.proofs.Common.{length-append}
use Rattle.std.specs.List.{AllByRecursion, IsDistinct, find}
use Rattle.std.specs.Map.{keys_of, lookup, lookup_entry, remove_entry, set_value}
use Rattle.std.specs.Option.{option_map_or}
use Rattle.lru.specs.LruCache.{promoted, demoted}
use Rattle.host_map_cache.specs.Regions.{Region, by_region, region_in, regions_in, changed, IsSlot, AreSlots}
use Rattle.host_map_cache.specs.declared.slots.Slot.{Slot}
use Rattle.host_map_cache.proofs.Entries.{Passes, lookup-at, remove_entry-at, set_value-at, promoted-at, demoted-at, key-at, take-whole}
use Rattle.host_map_cache.proofs.Found.{Found, found, none_found}

map-append : {A B : Type 0} (f : A → B) (xs ys : List A) → map f (xs ++ ys) ≡ map f xs ++ map f ys
map-append f [] ys = refl
map-append f (x ∷ xs) ys = ap (λ l. f x ∷ l) (map-append f xs ys)

all-append : {A : Type 0} (P : A → Type 0) (xs ys : List A) → AllByRecursion P xs → AllByRecursion P ys → AllByRecursion P (xs ++ ys)
all-append P [] ys a b = b
all-append P (x ∷ xs) ys a b = (a.0, all-append P xs ys a.1 b)

all-front : {A : Type 0} (P : A → Type 0) (xs ys : List A) → AllByRecursion P (xs ++ ys) → AllByRecursion P xs
all-front P [] ys a = tt
all-front P (x ∷ xs) ys a = (a.0, all-front P xs ys a.1)

all-back : {A : Type 0} (P : A → Type 0) (xs ys : List A) → AllByRecursion P (xs ++ ys) → AllByRecursion P ys
all-back P [] ys a = a
all-back P (x ∷ xs) ys a = all-back P xs ys a.1

abbrev pub holds : ℕ → ℕ × Slot → Bool
holds region e = eqb region e.1.region

passes-map : (region : ℕ) (es : List (ℕ × Slot)) → AllByRecursion (λ e. holds region e ≡ false) es → Passes (eqb region) (map by_region es)
passes-map region [] a = tt
passes-map region (x ∷ es) a = (a.0, passes-map region es a.1)

lookup-passes : {V : Type 0} (test : ℕ → Bool) (es : List (ℕ × V)) → Passes test es → lookup test es ≡ None
lookup-passes test [] a = refl
lookup-passes test (e ∷ es) a = rw a.0 (lookup-passes test es a.1)

lookup_entry-passes : {V : Type 0} (test : ℕ → Bool) (es : List (ℕ × V)) → Passes test es → lookup_entry test es ≡ None
lookup_entry-passes test [] a = refl
lookup_entry-passes test (e ∷ es) a = rw a.0 (lookup_entry-passes test es a.1)

remove_entry-passes : {V : Type 0} (test : ℕ → Bool) (es : List (ℕ × V)) → Passes test es → remove_entry test es ≡ es
remove_entry-passes test [] a = refl
remove_entry-passes test (e ∷ es) a = rw a.0 (ap (λ l. e ∷ l) (remove_entry-passes test es a.1))

-- a region that isn't found isn't held
pub lookup-none : (region used : ℕ) (es : List (ℕ × Slot)) → find (holds region) (take used es) ≡ None → lookup (eqb region) (regions_in used es) ≡ None
lookup-none region used es h = lookup-passes (eqb region) (regions_in used es) (passes-map region (take used es) (none_found (holds region) (take used es) h))

pub promoted-none : (region used : ℕ) (es : List (ℕ × Slot)) → find (holds region) (take used es) ≡ None → promoted (eqb region) (regions_in used es) ≡ regions_in used es
promoted-none region used es h = rw (lookup_entry-passes (eqb region) (regions_in used es) (passes-map region (take used es) (none_found (holds region) (take used es) h))) refl

pub removed-none : (region used : ℕ) (es : List (ℕ × Slot)) → find (holds region) (take used es) ≡ None → remove_entry (eqb region) (regions_in used es) ≡ regions_in used es
removed-none region used es h = remove_entry-passes (eqb region) (regions_in used es) (passes-map region (take used es) (none_found (holds region) (take used es) h))

pub changed-none : (region used : ℕ) (es : List (ℕ × Slot)) (change : Region → Region) → find (holds region) (take used es) ≡ None
    → changed region change (regions_in used es) ≡ regions_in used es
changed-none region used es change h = rw (lookup-none region used es h) refl

module _ (region used : ℕ) (es : List (ℕ × Slot)) (e : ℕ × Slot) (f : Found (holds region) used es e) where
  -- the list of slots, and that of the regions
  slots : es ≡ f.front ++ e ∷ (f.back ++ f.rest)
  slots = f.is ∙ append_assoc f.front (e ∷ f.back) f.rest

  regions : regions_in used es ≡ map by_region f.front ++ by_region e ∷ map by_region f.back
  regions = ap (λ l. map by_region (take used l)) f.is ∙ ap (map by_region) (take-whole used (f.front ++ e ∷ f.back) f.rest f.count) ∙ map-append by_region f.front (e ∷ f.back)

  before : Passes (eqb region) (map by_region f.front)
  before = passes-map region f.front f.before

  pub lookup-found : lookup (eqb region) (regions_in used es) ≡ Some (region_in e.1)
  lookup-found = rw regions (lookup-at (eqb region) (map by_region f.front) (by_region e) (map by_region f.back) before f.at)

  module _ (distinct : IsDistinct eqb (keys_of es)) where
    keys : Passes (eqb e.0) f.front
    keys = key-at f.front e (f.back ++ f.rest) (subst (λ l. IsDistinct eqb (keys_of l)) slots distinct)

    self : eqb e.0 e.0 ≡ true
    self = grind arith

    pub lookup-key : lookup (eqb e.0) es ≡ Some e.1
    lookup-key = rw slots (lookup-at (eqb e.0) f.front e (f.back ++ f.rest) keys self)

    promoted_slots : promoted (eqb e.0) es ≡ (e ∷ (f.front ++ f.back)) ++ f.rest
    promoted_slots = ap (promoted (eqb e.0)) slots ∙ promoted-at (eqb e.0) f.front e (f.back ++ f.rest) keys self ∙ ap (λ l. e ∷ l) (sym (append_assoc f.front f.back f.rest))

    pub promoted-found : regions_in used (promoted (eqb e.0) es) ≡ promoted (eqb region) (regions_in used es)
    promoted-found = ap (λ l. map by_region (take used l)) promoted_slots
        ∙ ap (map by_region) (take-whole used (e ∷ (f.front ++ f.back)) f.rest (omega (arith, f.count, length-append f.front (e ∷ f.back), length-append f.front f.back)))
        ∙ ap (λ l. by_region e ∷ l) (map-append by_region f.front f.back)
        ∙ sym (promoted-at (eqb region) (map by_region f.front) (by_region e) (map by_region f.back) before f.at)
        ∙ ap (promoted (eqb region)) (sym regions)

    demoted_slots : demoted (eqb e.0) es ≡ (f.front ++ f.back) ++ (f.rest ++ e ∷ [])
    demoted_slots = ap (demoted (eqb e.0)) slots ∙ demoted-at (eqb e.0) f.front e (f.back ++ f.rest) keys self ∙ ap (λ l. l ++ e ∷ []) (sym (append_assoc f.front f.back f.rest))
        ∙ append_assoc (f.front ++ f.back) f.rest (e ∷ [])

    pub demoted-found : regions_in (used - 1) (demoted (eqb e.0) es) ≡ remove_entry (eqb region) (regions_in used es)
    demoted-found = ap (λ l. map by_region (take (used - 1) l)) demoted_slots
        ∙ ap (map by_region) (take-whole (used - 1) (f.front ++ f.back) (f.rest ++ e ∷ []) (omega (arith, f.count, length-append f.front (e ∷ f.back), length-append f.front f.back)))
        ∙ map-append by_region f.front f.back
        ∙ sym (remove_entry-at (eqb region) (map by_region f.front) (by_region e) (map by_region f.back) before f.at)
        ∙ ap (remove_entry (eqb region)) (sym regions)

    pub some_used : 0 < used
    some_used = omega (arith, f.count, length-append f.front (e ∷ f.back))

    set_slots : (w : Slot) → set_value (eqb e.0) es w ≡ (f.front ++ (e.0, w) ∷ f.back) ++ f.rest
    set_slots w = ap (λ l. set_value (eqb e.0) l w) slots ∙ set_value-at (eqb e.0) f.front e (f.back ++ f.rest) w keys self ∙ sym (append_assoc f.front ((e.0, w) ∷ f.back) f.rest)

    pub set-found : (w : Slot) (change : Region → Region) → w.region ≡ e.1.region → region_in w ≡ change (region_in e.1)
        → regions_in used (set_value (eqb e.0) es w) ≡ changed region change (regions_in used es)
    set-found w change same is = ap (λ l. map by_region (take used l)) (set_slots w)
        ∙ ap (map by_region) (take-whole used (f.front ++ (e.0, w) ∷ f.back) f.rest (omega (arith, f.count, length-append f.front (e ∷ f.back), length-append f.front ((e.0, w) ∷ f.back))))
        ∙ map-append by_region f.front ((e.0, w) ∷ f.back)
        ∙ ap (λ p. map by_region f.front ++ p ∷ map by_region f.back) (pair same is)
        ∙ sym (set_value-at (eqb region) (map by_region f.front) (by_region e) (map by_region f.back) (change (region_in e.1)) before f.at)
        ∙ ap (λ l. set_value (eqb region) l (change (region_in e.1))) (sym regions)
        ∙ sym (found_change (lookup (eqb region) (regions_in used es)) lookup-found)
      where
        pair : w.region ≡ e.1.region → region_in w ≡ change (region_in e.1) → by_region (e.0, w) ≡ (e.1.region, change (region_in e.1))
        pair p q = rw (p, q) refl

        found_change : (o : Option Region) → o ≡ Some (region_in e.1)
            → option_map_or (λ r. set_value (eqb region) (regions_in used es) (change r)) o (regions_in used es) ≡ set_value (eqb region) (regions_in used es) (change (region_in e.1))
        found_change o h = rw h refl

    module _ (room subregions blocks : ℕ) (are : AreSlots used room subregions blocks es) where
      each : AllByRecursion (IsSlot room subregions blocks) ((f.front ++ e ∷ f.back) ++ f.rest)
      each = subst (AllByRecursion (IsSlot room subregions blocks)) f.is are.each

      in_front : AllByRecursion (IsSlot room subregions blocks) f.front
      in_front = all-front _ f.front (e ∷ f.back) (all-front _ (f.front ++ e ∷ f.back) f.rest each)

      in_middle : AllByRecursion (IsSlot room subregions blocks) (e ∷ f.back)
      in_middle = all-back _ f.front (e ∷ f.back) (all-front _ (f.front ++ e ∷ f.back) f.rest each)

      in_rest : AllByRecursion (IsSlot room subregions blocks) f.rest
      in_rest = all-back _ (f.front ++ e ∷ f.back) f.rest each

      pub IsSlot-found : IsSlot room subregions blocks e
      IsSlot-found = in_middle.0

      whole : length f.front + suc (length f.back) + length f.rest ≡ room
      whole = omega (arith, are.full, ap length f.is, length-append (f.front ++ e ∷ f.back) f.rest, length-append f.front (e ∷ f.back))

      pub AreSlots-promoted : AreSlots used room subregions blocks (promoted (eqb e.0) es)
      AreSlots-promoted = record {
        full = ap length promoted_slots ∙ omega (arith, whole, length-append (e ∷ (f.front ++ f.back)) f.rest, length-append f.front f.back);
        in_room = are.in_room;
        some_room = are.some_room;
        each = subst (AllByRecursion (IsSlot room subregions blocks)) (sym promoted_slots)
            (in_middle.0, all-append _ (f.front ++ f.back) f.rest (all-append _ f.front f.back in_front in_middle.1) in_rest);
      }

      pub AreSlots-demoted : AreSlots (used - 1) room subregions blocks (demoted (eqb e.0) es)
      AreSlots-demoted = record {
        full = ap length demoted_slots ∙ omega (arith, whole, length-append (f.front ++ f.back) (f.rest ++ e ∷ []), length-append f.front f.back, length-append f.rest (e ∷ []));
        in_room = omega (arith, are.in_room);
        some_room = are.some_room;
        each = subst (AllByRecursion (IsSlot room subregions blocks)) (sym demoted_slots)
            (all-append _ (f.front ++ f.back) (f.rest ++ e ∷ []) (all-append _ f.front f.back in_front in_middle.1) (all-append _ f.rest (e ∷ []) in_rest (in_middle.0, tt)));
      }

      pub AreSlots-set : (w : Slot) → IsSlot room subregions blocks (e.0, w) → AreSlots used room subregions blocks (set_value (eqb e.0) es w)
      AreSlots-set w sized = record {
        full = ap length (set_slots w) ∙ omega (arith, whole, length-append (f.front ++ (e.0, w) ∷ f.back) f.rest, length-append f.front ((e.0, w) ∷ f.back));
        in_room = are.in_room;
        some_room = are.some_room;
        each = subst (AllByRecursion (IsSlot room subregions blocks)) (sym (set_slots w))
            (all-append _ (f.front ++ (e.0, w) ∷ f.back) f.rest (all-append _ f.front ((e.0, w) ∷ f.back) in_front (sized, in_middle.1)) in_rest);
      }

-- the slot that the search by a region found
pub at_found : (region used room subregions blocks : ℕ) (es : List (ℕ × Slot)) (e : ℕ × Slot) → AreSlots used room subregions blocks es → Some e ≡ find (holds region) (take used es)
    → Found (holds region) used es e
at_found region used room subregions blocks es e are is = found (holds region) used es e (omega (arith, are.full, are.in_room)) (sym is)

module _ (region used : ℕ) (es : List (ℕ × Slot)) (e : ℕ × Slot) (f : Found (holds region) used es e) (distinct : IsDistinct eqb (keys_of es)) where
  pub looked_up_none : None ≡ lookup (eqb e.0) es → ⊥
  looked_up_none none = let both : None ≡ Some e.1 = none ∙ lookup-key region used es e f distinct in cc

  -- what a look-up by its key finds
  pub same_slot : (slot : Slot) → Some slot ≡ lookup (eqb e.0) es → slot ≡ e.1
  same_slot slot is = some_is (is ∙ lookup-key region used es e f distinct)
    where
      some_is : {A : Type 0} {x y : A} → Some x ≡ Some y → x ≡ y
      some_is h = cc

-- a change that keeps the sizes
pub record SameSizes (x y : Region) : Type 0 where
  pub states : length x.states ≡ length y.states
  pub entries : length x.entries ≡ length y.entries
  pub dirty : length x.dirty ≡ length y.dirty

pub IsSlot-changed : (room subregions blocks key : ℕ) (slot w : Slot) → IsSlot room subregions blocks (key, slot) → SameSizes (region_in w) (region_in slot)
    → IsSlot room subregions blocks (key, w)
IsSlot-changed room subregions blocks key slot w was same = record {
  key = was.key;
  states = same.states ∙ was.states;
  entries = same.entries ∙ was.entries;
  dirty = same.dirty ∙ was.dirty;
}

module _ (region used : ℕ) (es : List (ℕ × Slot)) (e : ℕ × Slot) (f : Found (holds region) used es e) (distinct : IsDistinct eqb (keys_of es)) (slot w : Slot)
    (is : Some slot ≡ lookup (eqb e.0) es) where
  same : slot ≡ e.1
  same = same_slot region used es e f distinct slot is

  pub changed-found : (change : Region → Region) → w.region ≡ slot.region → region_in w ≡ change (region_in slot)
      → regions_in used (set_value (eqb e.0) es w) ≡ changed region change (regions_in used es)
  changed-found change region_is content = set-found region used es e f distinct w change (region_is ∙ ap (λ s. s.region) same) (content ∙ ap (λ s. change (region_in s)) same)

  pub IsSlot-looked_up : (room subregions blocks : ℕ) → AreSlots used room subregions blocks es → IsSlot room subregions blocks (e.0, slot)
  IsSlot-looked_up room subregions blocks are = subst (λ s. IsSlot room subregions blocks (e.0, s)) (sym same) (IsSlot-found region used es e f distinct room subregions blocks are)

  pub AreSlots-changed : (room subregions blocks : ℕ) → AreSlots used room subregions blocks es → SameSizes (region_in w) (region_in slot)
      → AreSlots used room subregions blocks (set_value (eqb e.0) es w)
  AreSlots-changed room subregions blocks are sizes = AreSlots-set region used es e f distinct room subregions blocks are w
      (IsSlot-changed room subregions blocks e.0 slot w (IsSlot-looked_up room subregions blocks are) sizes)
