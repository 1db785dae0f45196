-- Each call of a cache keeps what holds of it.
use Rattle.std.proofs.Common.{◌≡◌, ℕ, zero, suc, ◌+◌, ◌-◌, ◌*◌, ◌%◌, ◌^◌, ◌<◌, Bool, true, false, cond, not, ◌&&◌, List, [], ◌∷◌}
use Rattle.std.proofs.Common.{◌++◌, length, map, filter, take, drop, Option, Some, None, refl, sym, ◌∙◌, ap, subst, arith, nat_lt, ◌==◌, nat_eq}
use Rattle.std.specs.Prelude.{if◌then◌else◌, fold, slice_get, slice_index, slice_index_or, slice_set, unwrap_or}
use Rattle.std.specs.List.{AllByRecursion, list_any, range_with_len}
use Rattle.std.specs.Map.{lookup, remove_entry}
use Rattle.std.specs.Option.{option_map_or, option_and_then}
use Rattle.std.proofs.lemmas.Bool.{false≢true}
use Rattle.std.proofs.lemmas.Bool.Decides.{nat_tests}
use Rattle.lru.specs.LruCache.{promoted}
use Rattle.byteorder.specs.Endian.{big_number}
use Rattle.hpb_sense.specs.declared.sense.Hint.{Hint}
use Rattle.region_state.specs.declared.shape.Shape.{Shape}
use Rattle.host_map_cache.specs.Cache.{CacheState, activated, asked, claimed, dropped, entry_of, evicted_after, heated, held_blocks, held_subregions, hinted, is_held, is_host}
use Rattle.host_map_cache.specs.Cache.{issued, lapsed, loaded, plainly_read, state_of, sub_length, touched, touched_by, unloaded, with_held, without, written}
use Rattle.host_map_cache.specs.Regions.{Region, blank, changed, entries_of, entry_in, is_issued, is_valid, state_in, lapsed_region, marked_region, with_dirty, with_entries, with_state}
use Rattle.host_map_cache.specs.declared.slots.SubregionState.{SubregionState}
use Rattle.host_map_cache.specs.declared.slots.SubregionState.TheVariants.{Invalid, Issued, Valid}
use Rattle.host_map_cache.specs.Shapes.{is_present, region_at, region_blocks, sub_at, sub_blocks, sub_start}
use Rattle.drive_rules.specs.Cached.{HasRegionAt, IsCached, IsEntry, IsHeld, IsThere}
use Rattle.drive_rules.specs.Lines.{AreBytes}
use Rattle.drive_rules.proofs.Lists.{all_append, all_changed, all_drop, all_filter, all_get, all_map, all_promoted, all_remove, all_replicate, all_take, eight_bytes}

-- both are true
pub and_both : (a b : Bool) → (a && b) ≡ true → (a ≡ true) × (b ≡ true)
and_both true b is = (refl, is)
and_both false b is = absurd (false≢true is)

-- another list of held regions, each of which is one
pub with_regions : (shape : Shape) (c : CacheState) (held : List (ℕ × Region)) → IsCached shape c → AllByRecursion (IsHeld shape) held → IsCached shape (with_held c held)
with_regions shape c held is all = record { shape_is = is.shape_is; wants = is.wants; evicted = is.evicted; held = all }

same_entries : (shape : Shape) (e : ℕ × Region) (r : Region) → r.entries ≡ e.1.entries → IsHeld shape e → IsHeld shape (e.0, r)
same_entries shape e r same is = record { region = is.region; entries = subst (AllByRecursion IsEntry) (sym same) is.entries }

changed_state : (shape : Shape) (region sub : ℕ) (state : SubregionState) (held : List (ℕ × Region)) → AllByRecursion (IsHeld shape) held
    → AllByRecursion (IsHeld shape) (changed region (with_state sub state) held)
changed_state shape region sub state held all = all_changed (IsHeld shape) (nat_eq region) (with_state sub state) (λ e is. same_entries shape e (with_state sub state e.1) refl is) held all

changed_dirty : (shape : Shape) (region from until : ℕ) (dirty : Bool) (held : List (ℕ × Region)) → AllByRecursion (IsHeld shape) held
    → AllByRecursion (IsHeld shape) (changed region (with_dirty from until dirty) held)
changed_dirty shape region from until dirty held all =
    all_changed (IsHeld shape) (nat_eq region) (with_dirty from until dirty) (λ e is. same_entries shape e (with_dirty from until dirty e.1) refl is) held all

-- the entries that bytes spell fit
spelled : (bytes : List ℕ) (ns : List ℕ) → AreBytes bytes → AllByRecursion IsEntry (map (λ n. big_number 8 (drop (8 * n) bytes)) ns)
spelled bytes [] are = tt
spelled bytes (n ∷ ns) are = (eight_bytes (drop (8 * n) bytes) (all_drop (λ (b : ℕ). b < 256) (8 * n) bytes are), spelled bytes ns are)

entries_fit : (bytes : List ℕ) → AreBytes bytes → AllByRecursion IsEntry (entries_of bytes)
entries_fit bytes are = spelled bytes (range_with_len 0 _) are

changed_entries : (shape : Shape) (region from : ℕ) (bytes : List ℕ) (held : List (ℕ × Region)) → AreBytes bytes → AllByRecursion (IsHeld shape) held
    → AllByRecursion (IsHeld shape) (changed region (with_entries from bytes) held)
changed_entries shape region from bytes held are all = all_changed (IsHeld shape) (nat_eq region) (with_entries from bytes) keeps held all
  where
    keeps : (e : ℕ × Region) → IsHeld shape e → IsHeld shape (e.0, with_entries from bytes e.1)
    keeps e is = record {
      region = is.region;
      entries = all_append IsEntry (take from e.1.entries ++ entries_of bytes) (drop (from + length (entries_of bytes)) e.1.entries)
          (all_append IsEntry (take from e.1.entries) (entries_of bytes) (all_take IsEntry from e.1.entries is.entries) (entries_fit bytes are))
          (all_drop IsEntry (from + length (entries_of bytes)) e.1.entries is.entries);
    }

-- what is there has a region
there_region : (shape : Shape) (pair : ℕ × ℕ) → IsThere shape pair → HasRegionAt shape pair.0
there_region shape pair is =
    let b = (and_both (nat_lt (pair.1 * sub_blocks shape) (region_blocks shape)) (nat_lt (sub_start shape pair.0 pair.1) shape.units) is).1 in
    let below : sub_start shape pair.0 pair.1 < shape.units = grind (arith, nat_tests) in
    omega (arith, below)

-- a subregion is asked for
asked_cached : (shape : Shape) (c : CacheState) (pair : ℕ × ℕ) → IsThere shape pair → IsCached shape c → IsCached shape (asked c pair.0 pair.1)
asked_cached shape c pair there is = record {
  shape_is = is.shape_is;
  wants = by_any (list_any (λ (want : ℕ × ℕ). nat_eq want.0 pair.0 && nat_eq want.1 pair.1) c.wants);
  evicted = is.evicted;
  held = changed_state shape pair.0 pair.1 Issued c.held is.held;
}
  where
    by_any : (b : Bool) → AllByRecursion (IsThere shape) (if b then c.wants else c.wants ++ (pair.0, pair.1) ∷ [])
    by_any true = is.wants
    by_any false = all_append (IsThere shape) c.wants ((pair.0, pair.1) ∷ []) is.wants (there, tt)

-- a region is held
evicted_cached : (shape : Shape) (c : CacheState) (region : ℕ) → IsCached shape c → AllByRecursion (HasRegionAt shape) (evicted_after c region)
evicted_cached shape c region is = by_mode (is_host c.shape.mode)
  where
    others : List ℕ
    others = filter (λ (other : ℕ). not (nat_eq region other)) c.evicted

    kept : AllByRecursion (HasRegionAt shape) others
    kept = all_filter (HasRegionAt shape) (λ (other : ℕ). not (nat_eq region other)) c.evicted is.evicted

    by_last : (x : Option (ℕ × Region)) → slice_get c.held (c.shape.held - 1) ≡ x → AllByRecursion (HasRegionAt shape) (option_map_or (λ last. others ++ last.0 ∷ []) x others)
    by_last (Some last) found =
        all_append (HasRegionAt shape) others (last.0 ∷ []) kept ((all_get (IsHeld shape) c.held (c.shape.held - 1) last is.held found).region, tt)
    by_last None found = kept

    by_mode : (b : Bool)
        → AllByRecursion (HasRegionAt shape) (if b then option_map_or (λ last. others ++ last.0 ∷ []) (slice_get c.held (c.shape.held - 1)) others else others)
    by_mode true = by_last (slice_get c.held (c.shape.held - 1)) refl
    by_mode false = kept

claimed_cached : (shape : Shape) (c : CacheState) (region : ℕ) → HasRegionAt shape region → IsCached shape c → IsCached shape (claimed c region)
claimed_cached shape c region has is = by_held (is_held c region)
  where
    by_held : (b : Bool) → IsCached shape (if b then c else record c {
      held = (region, blank (held_subregions c.shape) (held_blocks c.shape)) ∷ take (c.shape.held - 1) c.held;
      evicted = evicted_after c region;
    })
    by_held true = is
    by_held false = record {
      shape_is = is.shape_is;
      wants = is.wants;
      evicted = evicted_cached shape c region is;
      held = (
        record { region = has; entries = all_replicate IsEntry (held_blocks c.shape) 0 (omega arith) },
        all_take (IsHeld shape) (c.shape.held - 1) c.held is.held,
      );
    }

activated_cached : (shape : Shape) (c : CacheState) (pair : ℕ × ℕ) → IsCached shape c → IsCached shape (activated c pair)
unfolding activated
activated_cached shape c pair is = by_present (is_present c.shape pair.0 pair.1) (not (is_issued (state_of c pair.0 pair.1))) refl
  where
    by_present : (b d : Bool) → is_present c.shape pair.0 pair.1 ≡ b → IsCached shape (if b && d then asked (claimed c pair.0) pair.0 pair.1 else c)
    by_present true true there =
        let here : IsThere shape pair = ap (λ (s : Shape). is_present s pair.0 pair.1) (sym is.shape_is) ∙ there in
        asked_cached shape (claimed c pair.0) pair here (claimed_cached shape c pair.0 (there_region shape pair here) is)
    by_present true false there = is
    by_present false d there = is

-- the calls
pub activate_all : (shape : Shape) (pairs : List (ℕ × ℕ)) (c : CacheState) → IsCached shape c → IsCached shape (fold activated c pairs)
activate_all shape [] c is = is
activate_all shape (pair ∷ pairs) c is = activate_all shape pairs (activated c pair) (activated_cached shape c pair is)

remove_all : (shape : Shape) (regions : List ℕ) (c : CacheState) → IsCached shape c → IsCached shape (without c regions)
remove_all shape [] c is = is
remove_all shape (r ∷ rs) c is = remove_all shape rs (with_held c (remove_entry (nat_eq r) c.held)) (with_regions shape c _ is (all_remove (IsHeld shape) (nat_eq r) c.held is.held))

pub hinted_cached : (shape : Shape) (c : CacheState) (hint : Hint) → IsCached shape c → IsCached shape (hinted c hint)
unfolding hinted
hinted_cached shape c hint is = by_op (hint.op == 2) (hint.op == 1)
  where
    by_op : (a b : Bool) → IsCached shape (if a then dropped c else if b then fold activated (without c hint.inactive.items) hint.active.items else c)
    by_op true b = record { shape_is = is.shape_is; wants = tt; evicted = tt; held = tt }
    by_op false true = activate_all shape hint.active.items (without c hint.inactive.items) (remove_all shape hint.inactive.items c is)
    by_op false false = is

heated_cached : (shape : Shape) (c : CacheState) (number : ℕ) → IsCached shape c → IsCached shape (heated c number)
heated_cached shape c number is = by_tests (is_issued (state_of c pair.0 pair.1)) (nat_lt (slice_index c.heat number + 1) 4)
  where
    pair : ℕ × ℕ
    pair = (region_at c.shape (number * sub_blocks c.shape), sub_at c.shape (number * sub_blocks c.shape))

    with_heat : (heat : List ℕ) → IsCached shape (record c { heat = heat })
    with_heat heat = record { shape_is = is.shape_is; wants = is.wants; evicted = is.evicted; held = is.held }

    by_tests : (a b : Bool) → IsCached shape (if a then c else if b then record c { heat = slice_set c.heat number (slice_index c.heat number + 1) }
        else activated (record c { heat = slice_set c.heat number 0 }) (region_at c.shape (number * sub_blocks c.shape), sub_at c.shape (number * sub_blocks c.shape)))
    by_tests true b = is
    by_tests false true = with_heat (slice_set c.heat number (slice_index c.heat number + 1))
    by_tests false false = activated_cached shape (record c { heat = slice_set c.heat number 0 }) _ (with_heat (slice_set c.heat number 0))

heat_all : (shape : Shape) (numbers : List ℕ) (c : CacheState) → IsCached shape c → IsCached shape (fold heated c numbers)
heat_all shape [] c is = is
heat_all shape (n ∷ ns) c is = heat_all shape ns (heated c n) (heated_cached shape c n is)

pub plainly_cached : (shape : Shape) (c : CacheState) (lba n : ℕ) → IsCached shape c → IsCached shape (plainly_read c lba n)
unfolding plainly_read
plainly_cached shape c lba n is = by_mode (is_host c.shape.mode)
  where
    by_mode : (b : Bool) → IsCached shape (if b then fold heated c (touched_by (sub_blocks c.shape) lba n) else c)
    by_mode true = heat_all shape (touched_by (sub_blocks c.shape) lba n) c is
    by_mode false = is

touch_all : (shape : Shape) (regions : List ℕ) (held : List (ℕ × Region)) → AllByRecursion (IsHeld shape) held
    → AllByRecursion (IsHeld shape) (fold (λ (held : List (ℕ × Region)) (region : ℕ). promoted (nat_eq region) held) held regions)
touch_all shape [] held all = all
touch_all shape (r ∷ rs) held all = touch_all shape rs (promoted (nat_eq r) held) (all_promoted (IsHeld shape) (nat_eq r) held all)

pub touched_cached : (shape : Shape) (c : CacheState) (lba n : ℕ) → IsCached shape c → IsCached shape (touched c lba n)
touched_cached shape c lba n is = with_regions shape c _ is (touch_all shape (touched_by (region_blocks c.shape) lba n) c.held is.held)

pub written_cached : (shape : Shape) (c : CacheState) (lba n : ℕ) → IsCached shape c → IsCached shape (written c lba n)
written_cached shape c lba n is = with_regions shape c _ is
    (all_map (IsHeld shape) (IsHeld shape) (marked_region (region_blocks c.shape) lba n) (λ e held. same_entries shape e (marked_region (region_blocks c.shape) lba n e).1 refl held) c.held is.held)

pub issued_cached : (shape : Shape) (c : CacheState) (region sub : ℕ) → IsCached shape c → IsCached shape (issued c region sub)
issued_cached shape c region sub is = by_issued (is_issued (state_of c region sub))
  where
    by_issued : (b : Bool) → IsCached shape (if b
        then with_held c (changed region (with_dirty (sub * sub_blocks c.shape) (sub * sub_blocks c.shape + sub_length c.shape region sub) false) c.held) else c)
    by_issued true = with_regions shape c (changed region (with_dirty (sub * sub_blocks c.shape) (sub * sub_blocks c.shape + sub_length c.shape region sub) false) c.held) is
        (changed_dirty shape region (sub * sub_blocks c.shape) (sub * sub_blocks c.shape + sub_length c.shape region sub) false c.held is.held)
    by_issued false = is

pub loaded_cached : (shape : Shape) (c : CacheState) (region sub : ℕ) (bytes : List ℕ) → AreBytes bytes → IsCached shape c → IsCached shape (loaded c region sub bytes)
loaded_cached shape c region sub bytes are is = by_issued (is_issued (state_of c region sub))
  where
    by_issued : (b : Bool) → IsCached shape (if b
        then with_held c (changed region (with_state sub Valid) (changed region (with_entries (sub * sub_blocks c.shape) bytes) c.held)) else c)
    by_issued true = with_regions shape c (changed region (with_state sub Valid) (changed region (with_entries (sub * sub_blocks c.shape) bytes) c.held)) is
        (changed_state shape region sub Valid (changed region (with_entries (sub * sub_blocks c.shape) bytes) c.held)
        (changed_entries shape region (sub * sub_blocks c.shape) bytes c.held are is.held))
    by_issued false = is

pub unloaded_cached : (shape : Shape) (c : CacheState) (region sub : ℕ) → IsCached shape c → IsCached shape (unloaded c region sub)
unloaded_cached shape c region sub is = by_issued (is_issued (state_of c region sub))
  where
    by_issued : (b : Bool) → IsCached shape (if b then with_held c (changed region (with_state sub Invalid) c.held) else c)
    by_issued true = with_regions shape c (changed region (with_state sub Invalid) c.held) is (changed_state shape region sub Invalid c.held is.held)
    by_issued false = is

pub lapsed_cached : (shape : Shape) (c : CacheState) → IsCached shape c → IsCached shape (lapsed c)
lapsed_cached shape c is = record {
  shape_is = is.shape_is;
  wants = tt;
  evicted = tt;
  held = all_map (IsHeld shape) (IsHeld shape) (λ (held : ℕ × Region). (held.0, lapsed_region held.1)) (λ e held. same_entries shape e (lapsed_region e.1) refl held) c.held is.held;
}

-- an entry fits
item_fits : (xs : List ℕ) (i : ℕ) → AllByRecursion IsEntry xs → slice_index xs i < 2 ^ 64
item_fits [] i all = omega arith
item_fits (x ∷ xs) zero all = all.0
item_fits (x ∷ xs) (suc i) all = item_fits xs i all.1

entry_in_fits : (sub place : ℕ) (region : Region) → AllByRecursion IsEntry region.entries → unwrap_or (entry_in sub place region) 0 < 2 ^ 64
entry_in_fits sub place region all = by_there (is_valid (state_in sub region) && not (slice_index_or region.dirty place true))
  where
    by_there : (b : Bool) → unwrap_or (if b then Some (slice_index region.entries place) else None) 0 < 2 ^ 64
    by_there true = item_fits region.entries place all
    by_there false = omega arith

found_fits : (shape : Shape) (sub place key : ℕ) (held : List (ℕ × Region)) → AllByRecursion (IsHeld shape) held
    → unwrap_or (option_and_then (entry_in sub place) (lookup (nat_eq key) held)) 0 < 2 ^ 64
found_fits shape sub place key [] all = omega arith
found_fits shape sub place key (e ∷ es) all = by_key (found_fits shape sub place key es all.1) (nat_eq key e.0)
  where
    by_key : unwrap_or (option_and_then (entry_in sub place) (lookup (nat_eq key) es)) 0 < 2 ^ 64 → (b : Bool)
        → unwrap_or (option_and_then (entry_in sub place) (cond b (Some e.1) (lookup (nat_eq key) es))) 0 < 2 ^ 64
    by_key rest true = entry_in_fits sub place e.1 all.0.entries
    by_key rest false = rest

pub entry_fits : (shape : Shape) (c : CacheState) (lba : ℕ) → IsCached shape c → unwrap_or (entry_of c lba) 0 < 2 ^ 64
entry_fits shape c lba is = found_fits shape (sub_at c.shape lba) (lba % region_blocks c.shape) (region_at c.shape lba) c.held is.held
