-- What the regions are, after the last slot was taken for a region.
use Rattle.std.proofs.Common.{◌≡◌, ℕ, ◌+◌, ◌-◌, ◌≤◌, ◌<◌, true, eqb, suc, zero, List, [], ◌∷◌, ◌++◌, length, take, map, None, Some, refl, ap, sym, subst, ◌∙◌, arith, append-nil, length-take}
use Rattle.std.specs.List.{AllByRecursion, IsDistinct, slice_get}
use Rattle.std.specs.Map.{keys_of, lookup, set_value}
use Rattle.std.specs.Option.{option_map}
use Rattle.lru.specs.LruCache.{promoted, last_entry}
use Rattle.host_map_cache.specs.Regions.{Region, by_region, region_in, regions_in, IsSlot, AreSlots}
use Rattle.host_map_cache.specs.declared.slots.Slot.{Slot}
use Rattle.host_map_cache.proofs.Entries.{Passes, set_value-at, promoted-at, lookup-at, key-at}

-- the slots before the last one, and that one
pub record HasLast (es : List (ℕ × Slot)) (e : ℕ × Slot) : Type 0 where
  pub front : List (ℕ × Slot)
  pub is : es ≡ front ++ e ∷ []
  pub count : length es ≡ length front + 1

pub has_last : (es : List (ℕ × Slot)) (n : ℕ) (e : ℕ × Slot) → length es ≡ n + 1 → slice_get es n ≡ Some e → HasLast es e
has_last [] n e count h = absurd (omega (arith, count))
has_last (x ∷ []) zero e count h = let same : x ≡ e = cc in record { front = []; is = ap (λ y. y ∷ []) same; count = refl }
has_last (x ∷ y ∷ es) zero e count h = absurd (omega (arith, count))
has_last (x ∷ es) (suc n) e count h = let l = has_last es n e (omega (arith, count)) h in record { front = x ∷ l.front; is = ap (λ l. x ∷ l) l.is; count = omega (arith, l.count) }

pub take-all : {A : Type 0} (n : ℕ) (xs : List A) → length xs ≤ n → take n xs ≡ xs
take-all zero [] h = refl
take-all zero (x ∷ xs) h = absurd (omega (arith, h))
take-all (suc n) [] h = refl
take-all (suc n) (x ∷ xs) h = ap (λ l. x ∷ l) (take-all n xs (omega (arith, h)))

take-map : {A B : Type 0} (f : A → B) (n : ℕ) (xs : List A) → take n (map f xs) ≡ map f (take n xs)
take-map f zero xs = refl
take-map f (suc n) [] = refl
take-map f (suc n) (x ∷ xs) = ap (λ l. f x ∷ l) (take-map f n xs)

take-twice : {A : Type 0} (m n : ℕ) (xs : List A) → n ≤ m → take m (take n xs) ≡ take n xs
take-twice {A = A} m zero xs h = take-nil m
  where
    take-nil : (m : ℕ) → take {A = A} m [] ≡ []
    take-nil zero = refl
    take-nil (suc m) = refl
take-twice zero (suc n) xs h = absurd (omega (arith, h))
take-twice (suc m) (suc n) [] h = refl
take-twice (suc m) (suc n) (x ∷ xs) h = ap (λ l. x ∷ l) (take-twice m n xs (omega (arith, h)))

take-front : {A : Type 0} (n : ℕ) (xs ys : List A) → n ≤ length xs → take n (xs ++ ys) ≡ take n xs
take-front zero xs ys h = refl
take-front (suc n) [] ys h = absurd (omega (arith, h))
take-front (suc n) (x ∷ xs) ys h = ap (λ l. x ∷ l) (take-front n xs ys (omega (arith, h)))

slice_get-past : {A : Type 0} (n : ℕ) (xs : List A) → length xs ≤ n → slice_get xs n ≡ None
slice_get-past n [] h = refl
slice_get-past zero (x ∷ xs) h = absurd (omega (arith, h))
slice_get-past (suc n) (x ∷ xs) h = slice_get-past n xs (omega (arith, h))

slice_get-map : {A B : Type 0} (f : A → B) (n : ℕ) (xs : List A) → slice_get (map f xs) n ≡ option_map f (slice_get xs n)
slice_get-map f n [] = refl
slice_get-map f zero (x ∷ xs) = refl
slice_get-map f (suc n) (x ∷ xs) = slice_get-map f n xs

slice_get-at : {A : Type 0} (xs : List A) (x : A) (ys : List A) (n : ℕ) → n ≡ length xs → slice_get (xs ++ x ∷ ys) n ≡ Some x
slice_get-at [] x ys zero h = refl
slice_get-at [] x ys (suc n) h = cc
slice_get-at (y ∷ xs) x ys zero h = cc
slice_get-at (y ∷ xs) x ys (suc n) h = slice_get-at xs x ys n (omega (arith, h))

length-map-own : {A B : Type 0} (f : A → B) (xs : List A) → length (map f xs) ≡ length xs
length-map-own f [] = refl
length-map-own f (x ∷ xs) = ap suc (length-map-own f xs)

all-parts : {A : Type 0} (P : A → Type 0) (xs : List A) (x : A) → AllByRecursion P (xs ++ x ∷ []) → AllByRecursion P xs × P x
all-parts P [] x a = (tt, a.0)
all-parts P (y ∷ xs) x a = let r = all-parts P xs x a.1 in ((a.0, r.0), r.1)

module _ (used room subregions blocks : ℕ) (es : List (ℕ × Slot)) (e : ℕ × Slot) (are : AreSlots used room subregions blocks es) (last : Some e ≡ last_entry es)
    (distinct : IsDistinct eqb (keys_of es)) where
  l : HasLast es e
  l = has_last es (length es - 1) e (omega (arith, are.full, are.some_room)) (sym last)

  front : length l.front + 1 ≡ room
  front = omega (arith, l.count, are.full)

  keys : Passes (eqb e.0) l.front
  keys = key-at l.front e [] (subst (λ l. IsDistinct eqb (keys_of l)) l.is distinct)

  self : eqb e.0 e.0 ≡ true
  self = grind arith

  parts : AllByRecursion (IsSlot room subregions blocks) l.front × IsSlot room subregions blocks e
  parts = all-parts (IsSlot room subregions blocks) l.front e (subst (AllByRecursion (IsSlot room subregions blocks)) l.is are.each)

  lookup-last : lookup (eqb e.0) es ≡ Some e.1
  lookup-last = ap (lookup (eqb e.0)) l.is ∙ lookup-at (eqb e.0) l.front e [] keys self

  pub last_found : None ≡ lookup (eqb e.0) es → ⊥
  last_found none = let both : None ≡ Some e.1 = none ∙ lookup-last in cc

  pub same_last : (slot : Slot) → Some slot ≡ lookup (eqb e.0) es → slot ≡ e.1
  same_last slot is = let both : Some slot ≡ Some e.1 = is ∙ lookup-last in some_is both
    where
      some_is : {A : Type 0} {x y : A} → Some x ≡ Some y → x ≡ y
      some_is h = cc

  module _ (w : Slot) where
    slots : promoted (eqb e.0) (set_value (eqb e.0) es w) ≡ (e.0, w) ∷ l.front
    slots = ap (λ l. promoted (eqb e.0) (set_value (eqb e.0) l w)) l.is
        ∙ ap (promoted (eqb e.0)) (set_value-at (eqb e.0) l.front e [] w keys self)
        ∙ promoted-at (eqb e.0) l.front (e.0, w) [] keys self
        ∙ ap (λ l. (e.0, w) ∷ l) (append-nil l.front)

    -- the regions after it
    claimed : (m now region : ℕ) (content : Region) → take (room - 1) (take used es) ≡ take m l.front → now ≡ m + 1 → w.region ≡ region → region_in w ≡ content
        → regions_in now (promoted (eqb e.0) (set_value (eqb e.0) es w)) ≡ (region, content) ∷ take (room - 1) (regions_in used es)
    claimed m now region content cut count is contains =
        ap (regions_in now) slots
        ∙ ap (λ n. regions_in n ((e.0, w) ∷ l.front)) (succ now m count)
        ∙ ap (λ r. (r, region_in w) ∷ map by_region (take m l.front)) is
        ∙ ap (λ c. (region, c) ∷ map by_region (take m l.front)) contains
        ∙ ap (λ l. (region, content) ∷ map by_region l) (sym cut)
        ∙ ap (λ l. (region, content) ∷ l) (sym (take-map by_region (room - 1) (take used es)))
      where
        succ : (now m : ℕ) → now ≡ m + 1 → now ≡ suc m
        succ now m h = omega (arith, h)

    pub claimed-more : (region : ℕ) (content : Region) → used < room → w.region ≡ region → region_in w ≡ content
        → regions_in (used + 1) (promoted (eqb e.0) (set_value (eqb e.0) es w)) ≡ (region, content) ∷ take (room - 1) (regions_in used es)
    claimed-more region content more = claimed used (used + 1) region content
        (take-twice (room - 1) used es (omega (arith, more)) ∙ ap (take used) l.is ∙ take-front used l.front (e ∷ []) (omega (arith, more, front))) refl

    pub claimed-full : (region : ℕ) (content : Region) → used ≡ room → w.region ≡ region → region_in w ≡ content
        → regions_in used (promoted (eqb e.0) (set_value (eqb e.0) es w)) ≡ (region, content) ∷ take (room - 1) (regions_in used es)
    claimed-full region content full = claimed (room - 1) used region content
        (ap (take (room - 1)) (take-all used es (omega (arith, full, are.full)) ∙ l.is) ∙ take-front (room - 1) l.front (e ∷ []) (omega (arith, front))) (omega (arith, full, are.some_room))

    pub AreSlots-claimed : (now : ℕ) → now ≤ room → IsSlot room subregions blocks (e.0, w) → AreSlots now room subregions blocks (promoted (eqb e.0) (set_value (eqb e.0) es w))
    AreSlots-claimed now inside is = record {
      full = ap length slots ∙ omega (arith, front);
      in_room = inside;
      some_room = are.some_room;
      each = subst (AllByRecursion (IsSlot room subregions blocks)) (sym slots) (is, parts.0);
    }

  pub last_key : IsSlot room subregions blocks e
  last_key = parts.1

  pub given_up : used ≡ room → Some e.1.region ≡ option_map (λ e. e.0) (slice_get (regions_in used es) (room - 1))
  given_up h = sym (ap (option_map (λ e. e.0)) (slice_get-map by_region (room - 1) (take used es) ∙ ap (option_map by_region) whole))
    where
      whole : slice_get (take used es) (room - 1) ≡ Some e
      whole = ap (λ l. slice_get l (room - 1)) (take-all used es (omega (arith, h, are.full)) ∙ l.is) ∙ slice_get-at l.front e [] (room - 1) (omega (arith, front))

  pub none_given_up : used < room → None ≡ option_map (λ e. e.0) (slice_get (regions_in used es) (room - 1))
  none_given_up h = sym (ap (option_map (λ e. e.0)) (slice_get-past (room - 1) (regions_in used es) (omega (arith, h, length-map-own by_region (take used es), length-take used es))))

  pub last_slot : (slot : Slot) → Some slot ≡ lookup (eqb e.0) es → IsSlot room subregions blocks (e.0, slot)
  last_slot slot is = subst (λ s. IsSlot room subregions blocks (e.0, s)) (sym (same_last slot is)) last_key
