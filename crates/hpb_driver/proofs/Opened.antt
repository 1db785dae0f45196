-- A command was opened, and the driver is as it has to be.
use Rattle.std.proofs.Common.{◌≡◌, ℕ, suc, ◌+◌, ◌*◌, ◌≤◌, ◌<◌, Bool, true, false, ◌||◌, List, [], ◌∷◌, ◌++◌, length, refl, sym, ◌∙◌, ap, subst, arith, mod-lt}
use Rattle.std.specs.Prelude.{Option, Some, None, take, drop, ◌%◌}
use Rattle.driver_laws.specs.Requests.{list_bytes}
use Rattle.std.proofs.lemmas.Bool.{false≢true}
use Rattle.std.proofs.lemmas.List.{append-nil}
use Rattle.std.proofs.Math.ListN.{drop_of_length-le}
use Rattle.std.proofs.Math.Seq.{take-length}
use Rattle.hpb_cdb.specs.declared.cdb.Cdb.{Cdb}
use Rattle.hpb_cdb.specs.declared.cdb.Cdb.TheVariants.{ReadBuffer}
use Rattle.region_state.specs.declared.shape.Shape.{Shape}
use Rattle.host_map_cache.specs.Cache.{CacheState}
use Rattle.driver_laws.specs.Commands.{OpenCommand, Wanted, free_tag, open_as, opened, opened_with}
use Rattle.driver_laws.proofs.Tags.{tag_is_free}
use Rattle.driver_caches.specs.Effects.{shapes_of}
use Rattle.driver_caches.specs.Machine.{Machine, is_load, loads}
use Rattle.driver_commands.specs.State.{AllLoadsWhole, IsReady, IsWholeLoad}
use Rattle.driver_commands.proofs.Ready.{caches_ready}
use Rattle.hpb_driver.specs.State.{IsDriver}

-- each command of a longer list is whole
whole_behind : (shape : Shape) (opens : List OpenCommand) (o : OpenCommand) → AllLoadsWhole shape opens → IsWholeLoad shape o.command → AllLoadsWhole shape (opens ++ o ∷ [])
whole_behind shape [] o all is = (is, tt)
whole_behind shape (x ∷ xs) o all is = (all.0, whole_behind shape xs o all.1 is)

whole_opened : (shape : Shape) (opens : List OpenCommand) (w : Wanted) → AllLoadsWhole shape opens → IsWholeLoad shape w.command → AllLoadsWhole shape (opened opens w)
whole_opened shape opens w all is = by_tag (free_tag opens)
  where
    by_tag : (tag : Option ℕ) → AllLoadsWhole shape (opened_with opens w tag)
    by_tag (Some tag) = whole_behind shape opens (open_as w tag) all is
    by_tag None = all

-- a list loads something where its front does
loads_behind : (opens : List OpenCommand) (o : OpenCommand) → loads (opens ++ o ∷ []) ≡ false → loads opens ≡ false
loads_behind [] o none = refl
loads_behind (x ∷ xs) o none = by_first (is_load x.command) none (loads_behind xs o)
  where
    by_first : (b : Bool) → (b || loads (xs ++ o ∷ [])) ≡ false → (loads (xs ++ o ∷ []) ≡ false → loads xs ≡ false) → (b || loads xs) ≡ false
    by_first true is rest = absurd (false≢true (sym is))
    by_first false is rest = rest is

loads_opened : (opens : List OpenCommand) (w : Wanted) → loads (opened opens w) ≡ false → loads opens ≡ false
loads_opened opens w = by_tag (free_tag opens)
  where
    by_tag : (tag : Option ℕ) → loads (opened_with opens w tag) ≡ false → loads opens ≡ false
    by_tag (Some tag) none = loads_behind opens (open_as w tag) none
    by_tag None none = none

-- a list whose last command loads something does
last_loads : (opens : List OpenCommand) (o : OpenCommand) → is_load o.command ≡ true → loads (opens ++ o ∷ []) ≡ true
last_loads [] o is = ap (λ (b : Bool). b || false) is
last_loads (x ∷ xs) o is = by_first (is_load x.command) (last_loads xs o is)
  where
    by_first : (b : Bool) → loads (xs ++ o ∷ []) ≡ true → (b || loads (xs ++ o ∷ [])) ≡ true
    by_first true rest = refl
    by_first false rest = rest

opened_loads : (opens : List OpenCommand) (w : Wanted) → length opens < 32 → is_load w.command ≡ true → loads (opened opens w) ≡ true
opened_loads opens w few is =
    let free = tag_is_free opens few in
    ap (λ (tag : Option ℕ). loads (opened_with opens w tag)) free.1 ∙ last_loads opens (open_as w free.0) is

-- a command that is no READ BUFFER was opened
pub ready_opened : (shape : Shape) (opens now : List OpenCommand) (caches after : List CacheState) (w : Wanted) (capacity : ℕ) → IsReady shape opens caches capacity
    → shapes_of after ≡ shapes_of caches → IsWholeLoad shape w.command → now ≡ opened opens w → IsReady shape now after capacity
ready_opened shape opens now caches after w capacity ready same is leads =
    let cached = caches_ready shape opens caches after capacity same ready in
    subst (λ (os : List OpenCommand). IsReady shape os after capacity) (sym leads) (record {
      limits = cached.limits;
      shapes = cached.shapes;
      whole = whole_opened shape opens w cached.whole is;
      list = λ none. cached.list (loads_opened opens w none);
    })

-- a READ BUFFER was opened, which takes the memory of the list along
pub ready_load : (shape : Shape) (opens now : List OpenCommand) (caches : List CacheState) (w : Wanted) (capacity room : ℕ) → IsReady shape opens caches capacity
    → length opens < 32 → is_load w.command ≡ true → IsWholeLoad shape w.command → now ≡ opened opens w → IsReady shape now caches room
ready_load shape opens now caches w capacity room ready few loads_it is leads =
    subst (λ (os : List OpenCommand). IsReady shape os caches room) (sym leads) (record {
      limits = ready.limits;
      shapes = ready.shapes;
      whole = whole_opened shape opens w ready.whole is;
      list = λ none. absurd (false≢true (sym none ∙ opened_loads opens w few loads_it));
    })

-- a command that loads nothing is whole
pub no_load_whole : (shape : Shape) (command : Cdb) → is_load command ≡ false → IsWholeLoad shape command
no_load_whole shape (ReadBuffer region sub len) is = absurd (false≢true (sym is))
no_load_whole shape _ is = tt

-- as many caches have as many shapes
pub same_count : (caches after : List CacheState) → shapes_of after ≡ shapes_of caches → length after ≡ length caches
same_count [] [] same = refl
same_count [] (y ∷ ys) same = absurd (some_none y.shape (shapes_of ys) same)
  where
    some_none : (s : Shape) (ss : List Shape) → s ∷ ss ≡ [] → ⊥
    some_none s ss is = cc
same_count (x ∷ xs) [] same = absurd (none_some x.shape (shapes_of xs) same)
  where
    none_some : (s : Shape) (ss : List Shape) → [] ≡ s ∷ ss → ⊥
    none_some s ss is = cc
same_count (x ∷ xs) (y ∷ ys) same = ap (λ (n : ℕ). suc n) (same_count xs ys (tail_same y.shape x.shape (shapes_of ys) (shapes_of xs) same))
  where
    tail_same : (a b : Shape) (xs ys : List Shape) → a ∷ xs ≡ b ∷ ys → xs ≡ ys
    tail_same a b xs ys is = cc

-- the driver with a command that is no READ BUFFER, and with other caches of the same shapes
pub driver_opened : (m : Machine) (now : List OpenCommand) (after : List CacheState) (w : Wanted) (next room room_now list : ℕ) → IsDriver m room list → length m.opens < 32
    → shapes_of after ≡ shapes_of m.caches → is_load w.command ≡ false → now ≡ opened m.opens w → length now ≡ length m.opens + 1 → room_now ≡ room → (1 ≤ next) × (next ≤ 127)
    → IsDriver (record m { opens = now; caches = after; next_id = next }) room_now list
driver_opened m now after w next room room_now list is few same no_load leads count stays id = record {
  can = is.can;
  few = omega (arith, few, count);
  room_is = omega (arith, is.room_is, stays);
  few_caches = omega (arith, same_count m.caches after same, is.few_caches);
  some_id = id.0;
  last_id = id.1;
  ready = ready_opened m.shape m.opens now m.caches after w list is.ready same (no_load_whole m.shape w.command no_load) leads;
}

-- the driver with other caches of the same shapes
pub driver_cached : (m : Machine) (after : List CacheState) (room list : ℕ) → IsDriver m room list → shapes_of after ≡ shapes_of m.caches → IsDriver (record m { caches = after }) room list
driver_cached m after room list is same = record {
  can = is.can;
  few = is.few;
  room_is = is.room_is;
  few_caches = omega (arith, same_count m.caches after same, is.few_caches);
  some_id = is.some_id;
  last_id = is.last_id;
  ready = caches_ready m.shape m.opens m.caches after list same is.ready;
}

-- caches that were lent and have changed come back whole
pub lent_back : (len : ℕ) (new items : List CacheState) → length new ≡ length items → len ≡ length items → take len (new ++ drop (length new) items) ≡ new
lent_back len new items same count =
    ap (λ (rest : List CacheState). take len (new ++ rest)) (drop_of_length-le items (omega (arith, same)))
    ∙ ap (take len) (append-nil new)
    ∙ ap (λ (n : ℕ). take n new) (count ∙ sym same)
    ∙ take-length new

pub lent_shapes : (len : ℕ) (new lent items : List CacheState) → shapes_of new ≡ shapes_of lent → lent ≡ items → len ≡ length items
    → shapes_of (take len (new ++ drop (length new) items)) ≡ shapes_of items
lent_shapes len new lent items same is count =
    let shapes = same ∙ ap shapes_of is in
    ap shapes_of (lent_back len new items (same_count items new shapes) count) ∙ shapes

is_some_127 : 0 < 127
is_some_127 = omega arith

-- the driver with other caches of the same shapes, and the read id of the next list
pub driver_listed : (m : Machine) (after : List CacheState) (room list : ℕ) → IsDriver m room list → shapes_of after ≡ shapes_of m.caches
    → IsDriver (record m { caches = after; next_id = m.next_id % 127 + 1 }) room list
driver_listed m after room list is same =
    let cached = driver_cached m after room list is same in
    let below = mod-lt m.next_id is_some_127 in record {
      can = cached.can;
      few = cached.few;
      room_is = cached.room_is;
      few_caches = cached.few_caches;
      some_id = omega arith;
      last_id = omega (arith, below);
      ready = cached.ready;
    }

-- the driver has sent something
pub driver_sent : (m : Machine) (now : List OpenCommand) (room room_now list : ℕ) → IsDriver m room list → length now ≡ length m.opens → room_now ≡ room
    → IsReady m.shape now m.caches list → IsDriver (record m { opens = now }) room_now list
driver_sent m now room room_now list is count stays ready = record {
  can = is.can;
  few = omega (arith, is.few, count);
  room_is = omega (arith, is.room_is, stays);
  few_caches = is.few_caches;
  some_id = is.some_id;
  last_id = is.last_id;
  ready = ready;
}

-- the driver has dropped all commands
pub driver_dropped : (m : Machine) (now : List OpenCommand) (after : List CacheState) (room room_now list list_now : ℕ) → IsDriver m room list
    → shapes_of after ≡ shapes_of m.caches → now ≡ [] → room_now ≡ room → 523904 ≤ list_now → IsDriver (record m { opens = now; caches = after }) room_now list_now
driver_dropped m now after room room_now list list_now is same none stays has =
    let cached = driver_cached m after room list is same in record {
      can = cached.can;
      few = omega (arith, ap length none);
      room_is = omega (arith, cached.room_is, stays);
      few_caches = cached.few_caches;
      some_id = cached.some_id;
      last_id = cached.last_id;
      ready = record {
        limits = cached.ready.limits;
        shapes = cached.ready.shapes;
        whole = subst (AllLoadsWhole m.shape) (sym none) tt;
        list = λ nothing. has;
      };
    }

-- a list has 8 bytes for each entry
pub list_length : (entries : List ℕ) → length (list_bytes entries) ≡ 8 * length entries
list_length [] = refl
list_length (x ∷ xs) = omega (arith, list_length xs)
