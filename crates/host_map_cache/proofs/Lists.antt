-- The held regions, the evicted ones and the wants: none is there twice, so that there is room.
use Rattle.std.proofs.Common.{◌≡◌, ℕ, zero, suc, ◌+◌, ◌-◌, ◌<◌, Bool, true, false, not, cond, ◌||◌, List, [], ◌∷◌, ◌++◌, length, take, map, filter, Option}
use Rattle.std.proofs.Common.{None, Some, refl, sym, ap, ◌∙◌, subst, arith, eqb, nat_eq, ◌⊎◌, ⊎_elim}
use Rattle.std.proofs.lemmas.Bool.{false≢true, and_parts, and_from, or_cases, or_parts, or_left, or_right, eqb-true, eq-eqb}
use Rattle.std.proofs.lemmas.Map.{keys-set_value}
use Rattle.std.specs.Prelude.{slice_get, is_some}
use Rattle.std.specs.List.{AllByRecursion, fold}
use Rattle.std.specs.Map.{keys_of, lookup, lookup_entry, remove_entry, set_value}
use Rattle.std.specs.Option.{option_map, option_map_or}
use Rattle.std.proofs.lemmas.List.Folds.{list_any-append}
use Rattle.lru.specs.LruCache.{promoted}
use Rattle.region_state.specs.Lists.{has, is_distinct, to_front}
use Rattle.region_state.specs.Lists as lists
use Rattle.region_state.specs.Kept.{IsApart}
use Rattle.region_state.proofs.Apart.{IsApart-dropped, IsApart-to_front, IsApart-with_first, IsApart-without, has-without, is_distinct-without, absent-without_same}
use Rattle.region_state.proofs.Apart.{without-absent, length-gone_lt}
use Rattle.host_map_cache.specs.Regions.{Region, changed}

-- the keys after a change
pub keys-changed : (region : ℕ) (f : Region → Region) (es : List (ℕ × Region)) → keys_of (changed region f es) ≡ keys_of es
keys-changed region f es = by_found (lookup (nat_eq region) es)
  where
    by_found : (x : Option Region) → keys_of (option_map_or (λ r. set_value (nat_eq region) es (f r)) x es) ≡ keys_of es
    by_found (Some r) = keys-set_value (nat_eq region) es (f r)
    by_found None = refl

pub keys-mapped : (f : ℕ × Region → ℕ × Region) → ((e : ℕ × Region) → (f e).0 ≡ e.0) → (es : List (ℕ × Region)) → keys_of (map f es) ≡ keys_of es
keys-mapped f same [] = refl
keys-mapped f same (e ∷ es) = ap (λ k. k ∷ keys_of (map f es)) (same e) ∙ ap (λ l. e.0 ∷ l) (keys-mapped f same es)

flip : (a b : ℕ) (t : Bool) → eqb a b ≡ t → eqb b a ≡ t
flip a b true h = eq-eqb b a (sym (eqb-true a b h))
flip a b false h = grind arith

none_in : (b : Bool) → not b ≡ true → b ≡ false
none_in true h = sym h
none_in false _ = refl

not_in : (b : Bool) → b ≡ false → not b ≡ true
not_in true h = sym h
not_in false _ = refl

-- without one
pub keys-removed : (region : ℕ) (es : List (ℕ × Region)) → is_distinct (keys_of es) ≡ true → keys_of (remove_entry (nat_eq region) es) ≡ lists.without region (keys_of es)
keys-removed region [] once = refl
keys-removed region (e ∷ es) once =
    let parts : (not (has e.0 (keys_of es)) ≡ true) × (is_distinct (keys_of es) ≡ true) = and_parts (not (has e.0 (keys_of es))) (is_distinct (keys_of es)) once in
    elim (eqb region e.0) as (λ t. eqb region e.0 ≡ t
    → keys_of (cond t es (e ∷ remove_entry (nat_eq region) es)) ≡ cond (not (eqb e.0 region)) (e.0 ∷ lists.without region (keys_of es)) (lists.without region (keys_of es))) [
      | true ↦ λ here.
          let P : ℕ → Type 0 = λ k. has k (keys_of es) ≡ false in
          rw (flip region e.0 true here) (sym (without-absent region (keys_of es) (subst P (sym (eqb-true region e.0 here)) (none_in (has e.0 (keys_of es)) parts.0))))
      | false ↦ λ other. rw (flip region e.0 false other) (ap (λ l. e.0 ∷ l) (keys-removed region es parts.1))
    ]
    refl

-- a look-up by the key
pub absent-looked_up : (region : ℕ) (es : List (ℕ × Region)) → lookup (nat_eq region) es ≡ None → has region (keys_of es) ≡ false
absent-looked_up region [] none = refl
absent-looked_up region (e ∷ es) none =
    elim (eqb region e.0) as (λ t. eqb region e.0 ≡ t → cond t (Some e.1) (lookup (nat_eq region) es) ≡ None → (eqb e.0 region || has region (keys_of es)) ≡ false) [
      | true ↦ λ here some. absurd (some_none e.1 some)
      | false ↦ λ other rest. rw (flip region e.0 false other) (absent-looked_up region es rest)
    ]
    refl none
  where
    some_none : {X : Type 0} (x : X) → Some x ≡ None → ⊥
    some_none x h = cc

absent-entry : (region : ℕ) (es : List (ℕ × Region)) → lookup_entry (nat_eq region) es ≡ None → has region (keys_of es) ≡ false
absent-entry region [] none = refl
absent-entry region (e ∷ es) none =
    elim (eqb region e.0) as (λ t. eqb region e.0 ≡ t → cond t (Some e) (lookup_entry (nat_eq region) es) ≡ None → (eqb e.0 region || has region (keys_of es)) ≡ false) [
      | true ↦ λ here some. absurd (some_none e some)
      | false ↦ λ other rest. rw (flip region e.0 false other) (absent-entry region es rest)
    ]
    refl none
  where
    some_none : {X : Type 0} (x : X) → Some x ≡ None → ⊥
    some_none x h = cc

there-entry : (region : ℕ) (es : List (ℕ × Region)) (found : ℕ × Region) → lookup_entry (nat_eq region) es ≡ Some found → (has region (keys_of es) ≡ true) × (found.0 ≡ region)
there-entry region [] found is = cc
there-entry region (e ∷ es) found is =
    elim (eqb region e.0) as (λ t. eqb region e.0 ≡ t → cond t (Some e) (lookup_entry (nat_eq region) es) ≡ Some found → ((eqb e.0 region || has region (keys_of es)) ≡ true) × (found.0 ≡ region)) [
      | true ↦ λ here same. (or_left (eqb e.0 region) (has region (keys_of es)) (flip region e.0 true here), ap (λ p. p.0) (the_one e found same) ∙ sym (eqb-true region e.0 here))
      | false ↦ λ other rest. let r = there-entry region es found rest in (or_right (eqb e.0 region) (has region (keys_of es)) r.0, r.1)
    ]
    refl is
  where
    the_one : (x y : ℕ × Region) → Some x ≡ Some y → y ≡ x
    the_one x y h = cc

-- one goes to the front
pub keys-promoted : (region : ℕ) (es : List (ℕ × Region)) → is_distinct (keys_of es) ≡ true → keys_of (promoted (nat_eq region) es) ≡ to_front (keys_of es) region
keys-promoted region es once = by_found (lookup_entry (nat_eq region) es) refl
  where
    by_found : (x : Option (ℕ × Region)) → lookup_entry (nat_eq region) es ≡ x
        → keys_of (option_map_or (λ e. e ∷ remove_entry (nat_eq region) es) x es) ≡ to_front (keys_of es) region
    by_found (Some e) is =
        let at = there-entry region es e is in
        rw at.0 (ap (λ k. k ∷ keys_of (remove_entry (nat_eq region) es)) at.1 ∙ ap (λ l. region ∷ l) (keys-removed region es once))
    by_found None is = rw (absent-entry region es is) refl

module _ (gone : List ℕ) (regions : ℕ) where
  -- fewer are held, in another order
  pub IsApart-fewer : (held now : List ℕ) → IsApart held gone regions → is_distinct now ≡ true → ((x : ℕ) → has x now ≡ true → has x held ≡ true) → IsApart now gone regions
  IsApart-fewer held now is once from = record {
    held_once = once;
    gone_once = is.gone_once;
    apart = λ x found. is.apart x (from x found);
    held_below = λ x found. is.held_below x (from x found);
    gone_below = is.gone_below;
  }

  pub IsApart-changed : (region : ℕ) (f : Region → Region) (es : List (ℕ × Region)) → IsApart (keys_of es) gone regions → IsApart (keys_of (changed region f es)) gone regions
  IsApart-changed region f es is = rw (keys-changed region f es) is

  pub IsApart-mapped : (f : ℕ × Region → ℕ × Region) → ((e : ℕ × Region) → (f e).0 ≡ e.0) → (es : List (ℕ × Region)) → IsApart (keys_of es) gone regions → IsApart (keys_of (map f es)) gone regions
  IsApart-mapped f same es is = rw (keys-mapped f same es) is

  pub IsApart-removed : (region : ℕ) (es : List (ℕ × Region)) → IsApart (keys_of es) gone regions → IsApart (keys_of (remove_entry (nat_eq region) es)) gone regions
  IsApart-removed region es is = rw (keys-removed region es is.held_once)
      (IsApart-fewer (keys_of es) (lists.without region (keys_of es)) is (is_distinct-without region (keys_of es) is.held_once) (λ x found. (has-without region x (keys_of es) found).0))

  pub IsApart-promoted : (region : ℕ) (es : List (ℕ × Region)) → IsApart (keys_of es) gone regions → IsApart (keys_of (promoted (nat_eq region) es)) gone regions
  IsApart-promoted region es is = rw (keys-promoted region es is.held_once) (IsApart-to_front (keys_of es) gone regions is region)

  pub IsApart-all_promoted : (xs : List ℕ) (es : List (ℕ × Region)) → IsApart (keys_of es) gone regions
      → IsApart (keys_of (fold (λ (held : List (ℕ × Region)) (region : ℕ). promoted (nat_eq region) held) es xs)) gone regions
  IsApart-all_promoted [] es is = is
  IsApart-all_promoted (x ∷ xs) es is = IsApart-all_promoted xs (promoted (nat_eq x) es) (IsApart-promoted x es is)

  pub IsApart-no_more : (held : List ℕ) → IsApart held gone regions → IsApart [] gone regions
  IsApart-no_more held is = IsApart-fewer held [] is refl (λ x found. absurd (false≢true found))

  -- the front of a list
  has-take : (n x : ℕ) (xs : List ℕ) → has x (take n xs) ≡ true → has x xs ≡ true
  has-take zero x xs found = absurd (false≢true found)
  has-take (suc n) x [] found = found
  has-take (suc n) x (y ∷ ys) found =
      ⊎_elim (λ here. or_left (eqb y x) (has x ys) here) (λ rest. or_right (eqb y x) (has x ys) (has-take n x ys rest)) (or_cases (eqb y x) (has x (take n ys)) found)

  absent-take : (n x : ℕ) (xs : List ℕ) → has x xs ≡ false → has x (take n xs) ≡ false
  absent-take zero x xs none = refl
  absent-take (suc n) x [] none = none
  absent-take (suc n) x (y ∷ ys) none = let both : (eqb y x ≡ false) × (has x ys ≡ false) = or_parts (eqb y x) (has x ys) none in rw both.0 (absent-take n x ys both.1)

  is_distinct-take : (n : ℕ) (xs : List ℕ) → is_distinct xs ≡ true → is_distinct (take n xs) ≡ true
  is_distinct-take zero xs once = refl
  is_distinct-take (suc n) [] once = once
  is_distinct-take (suc n) (x ∷ xs) once =
      let parts : (not (has x xs) ≡ true) × (is_distinct xs ≡ true) = and_parts (not (has x xs)) (is_distinct xs) once in
      and_from (not (has x (take n xs))) (is_distinct (take n xs)) (not_in (has x (take n xs)) (absent-take n x xs (none_in (has x xs) parts.0))) (is_distinct-take n xs parts.1)

  pub IsApart-take : (n : ℕ) (held : List ℕ) → IsApart held gone regions → IsApart (take n held) gone regions
  IsApart-take n held is = IsApart-fewer held (take n held) is (is_distinct-take n held is.held_once) (λ x found. has-take n x held found)

  -- a new one is held first
  pub IsApart-first : (x : ℕ) (held : List ℕ) → IsApart held gone regions → x < regions → has x held ≡ false → has x gone ≡ false → IsApart (x ∷ held) gone regions
  IsApart-first x held is below new untold =
      let P : List ℕ → Type 0 = λ l. IsApart (x ∷ l) (lists.without x gone) regions in
      let Q : List ℕ → Type 0 = λ l. IsApart (x ∷ held) l regions in
      subst Q (without-absent x gone untold) (subst P (without-absent x held new) (IsApart-with_first held gone regions is x below))

-- a new number goes last
absent-push : (x y : ℕ) (xs : List ℕ) → has x xs ≡ false → eqb y x ≡ false → has x (xs ++ y ∷ []) ≡ false
absent-push x y xs none other = list_any-append (λ z. eqb z x) xs (y ∷ []) ∙ rw (none, other) refl

pub is_distinct-push : (y : ℕ) (xs : List ℕ) → is_distinct xs ≡ true → has y xs ≡ false → is_distinct (xs ++ y ∷ []) ≡ true
is_distinct-push y [] once new = refl
is_distinct-push y (x ∷ xs) once new =
    let parts : (not (has x xs) ≡ true) × (is_distinct xs ≡ true) = and_parts (not (has x xs)) (is_distinct xs) once in
    let apart : (eqb x y ≡ false) × (has y xs ≡ false) = or_parts (eqb x y) (has y xs) new in
    and_from (not (has x (xs ++ y ∷ []))) (is_distinct (xs ++ y ∷ []))
    (not_in (has x (xs ++ y ∷ [])) (absent-push x y xs (none_in (has x xs) parts.0) (flip x y false apart.0)))
    (is_distinct-push y xs parts.1 apart.1)

pub all-push : {X : Type 0} (P : X → Type 0) (xs : List X) (y : X) → AllByRecursion P xs → P y → AllByRecursion P (xs ++ y ∷ [])
all-push P [] y all is = (is, tt)
all-push P (x ∷ xs) y all is = (all.0, all-push P xs y all.1 is)

-- the same filter, the other way round
pub filter-without : (x : ℕ) (xs : List ℕ) → filter (λ other. not (nat_eq x other)) xs ≡ lists.without x xs
filter-without x [] = refl
filter-without x (y ∷ ys) =
    elim (eqb x y) as (λ t. eqb x y ≡ t → cond (not t) (y ∷ filter (λ other. not (nat_eq x other)) ys) (filter (λ other. not (nat_eq x other)) ys)
    ≡ cond (not (eqb y x)) (y ∷ lists.without x ys) (lists.without x ys)) [
      | true ↦ λ same. rw (flip x y true same) (filter-without x ys)
      | false ↦ λ other. rw (flip x y false other) (ap (λ l. y ∷ l) (filter-without x ys))
    ]
    refl

keys-take : (n : ℕ) (es : List (ℕ × Region)) → keys_of (take n es) ≡ take n (keys_of es)
keys-take zero es = refl
keys-take (suc n) [] = refl
keys-take (suc n) (e ∷ es) = ap (λ l. e.0 ∷ l) (keys-take n es)

take-last : (n : ℕ) (es : List (ℕ × Region)) (last : ℕ) → option_map (λ (e : ℕ × Region). e.0) (slice_get es n) ≡ Some last → take (suc n) (keys_of es) ≡ take n (keys_of es) ++ last ∷ []
take-last n [] last is = cc
take-last zero (e ∷ es) last is = let same : e.0 ≡ last = cc in ap (λ k. k ∷ []) same
take-last (suc n) (e ∷ es) last is = ap (λ l. e.0 ∷ l) (take-last n es last is)

-- a region is held that wasn't, and the last one may be given up for it
module _ (regions region : ℕ) (es : List (ℕ × Region)) (gone : List ℕ) (is : IsApart (keys_of es) gone regions)
    (below : region < regions) (new : lookup (nat_eq region) es ≡ None)
  where
    abbrev others : List ℕ
    others = filter (λ other. not (nat_eq region other)) gone

    new_key : has region (keys_of es) ≡ false
    new_key = absent-looked_up region es new

    others_apart : IsApart (keys_of es) others regions
    others_apart =
        let P : List ℕ → Type 0 = λ l. IsApart (keys_of es) l regions in
        let Q : List ℕ → Type 0 = λ l. IsApart l (lists.without region gone) regions in
        subst P (sym (filter-without region gone)) (subst Q (without-absent region (keys_of es) new_key) (IsApart-without (keys_of es) gone regions is region))

    untold : has region others ≡ false
    untold = ap (has region) (filter-without region gone) ∙ absent-without_same region gone

    pub IsApart-claimed : (n : ℕ) (content : Region) → IsApart (keys_of ((region, content) ∷ take n es)) others regions
    IsApart-claimed n content =
        let P : List ℕ → Type 0 = λ l. IsApart (region ∷ l) others regions in
        subst P (sym (keys-take n es)) (IsApart-first others regions region (take n (keys_of es)) (IsApart-take others regions n (keys_of es) others_apart) below
        (absent-take others regions n region (keys_of es) new_key) untold)

    module _ (n last : ℕ) (is_last : option_map (λ (e : ℕ × Region). e.0) (slice_get es n) ≡ Some last) where
      whole : IsApart (take n (keys_of es) ++ last ∷ []) others regions
      whole =
          let P : List ℕ → Type 0 = λ l. IsApart l others regions in
          subst P (take-last n es last is_last) (IsApart-take others regions (suc n) (keys_of es) others_apart)

      new_last : eqb last region ≡ false
      new_last =
          let none : has region (take n (keys_of es) ++ last ∷ []) ≡ false =
          ap (has region) (sym (take-last n es last is_last)) ∙ absent-take others regions (suc n) region (keys_of es) new_key in
          let parts : (has region (take n (keys_of es)) ≡ false) × ((eqb last region || false) ≡ false) =
          or_parts (has region (take n (keys_of es))) (eqb last region || false) (sym (list_any-append (λ z. eqb z region) (take n (keys_of es)) (last ∷ [])) ∙ none) in
          (or_parts (eqb last region) false parts.1).0

      pub IsApart-told_last : (content : Region) → IsApart (keys_of ((region, content) ∷ take n es)) (others ++ last ∷ []) regions
      IsApart-told_last content =
          let P : List ℕ → Type 0 = λ l. IsApart (region ∷ l) (others ++ last ∷ []) regions in
          subst P (sym (keys-take n es)) (IsApart-first (others ++ last ∷ []) regions region (take n (keys_of es))
          (IsApart-dropped (take n (keys_of es)) others last regions whole) below
          (absent-take others regions n region (keys_of es) new_key) (absent-push region last others untold new_last))

      pub told_room : length others < regions
      told_room = length-gone_lt (take n (keys_of es)) others last regions whole

-- the first evicted region is one of the unit
pub first-lt : (held gone : List ℕ) (regions x : ℕ) → IsApart held gone regions → slice_get gone 0 ≡ Some x → x < regions
first-lt held [] regions x is some = cc
first-lt held (y ∷ ys) regions x is some = let same : y ≡ x = cc in is.gone_below x (or_left (eqb y x) (has x ys) (eq-eqb y x same))

-- what isn't found
pub none-mapped : {A B : Type 0} (f : A → B) (o : Option A) → is_some o ≡ false → option_map f o ≡ None
none-mapped f None none = refl
none-mapped f (Some x) none = cc

-- nothing is left to tell
pub IsApart-all_told : (held gone : List ℕ) (regions : ℕ) → IsApart held gone regions → IsApart held [] regions
IsApart-all_told held gone regions is = record {
  held_once = is.held_once;
  gone_once = refl;
  apart = λ x found. refl;
  held_below = is.held_below;
  gone_below = λ x found. absurd (false≢true found);
}
