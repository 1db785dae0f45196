-- The state of a whole driver, and what each call makes of it. What it sends of its own, and when, is this project's
-- own. A plain driver has no caches.
use Rattle.std.specs.Prelude.{ℕ, zero, suc, ◌+◌, ◌*◌, ◌%◌, ◌==◌, Bool, true, false, not, ◌&&◌, List, [], ◌∷◌}
use Rattle.std.specs.Prelude.{length, map, Option, Some, None, Result, Ok, Err, if◌then◌else◌, nat_le, nat_lt}
use Rattle.std.specs.Prelude.{unwrap_or, slice_get}
use Rattle.std.specs.List.{find, list_any, range_with_len}
use Rattle.hpb_cdb.specs.declared.cdb.Cdb.{Cdb}
use Rattle.hpb_cdb.specs.declared.cdb.Cdb.TheVariants.{ReadBuffer, InactOne}
use Rattle.hpb_sense.specs.Sense.{hint_at, is_hint, sense_len}
use Rattle.host_map_cache.specs.Cache.{CacheState, covers, empty_cache, entry_of, hinted, issued, lapsed, loaded}
use Rattle.host_map_cache.specs.Cache.{plainly_read, state_of, sub_length, touched, unloaded, written}
use Rattle.host_map_cache.specs.Regions.{is_issued}
use Rattle.region_state.specs.declared.shape.Shape.{Shape}
use Rattle.upiu_wire.specs.declared.kind.Kind.{Kind}
use Rattle.upiu_wire.specs.declared.kind.Kind.TheVariants.{Response}
use Rattle.upiu_wire.specs.Upiu.{Upiu, upiu_at}
use Rattle.flat_unit.specs.Sizes.{Sizes}
use Rattle.driver_laws.specs.declared.fault.DriverFault.{DriverFault}
use Rattle.driver_laws.specs.declared.request.Request.{Request}
use Rattle.driver_laws.specs.declared.request.Request.TheVariants.{Read as ReadOf, Write as WriteOf}
use Rattle.driver_laws.specs.Commands.{Next, Nothing, OpenCommand, Wanted, after_next, has, next_of, opened, tags}
use Rattle.driver_laws.specs.Commands.{upiu_of_next}
use Rattle.driver_laws.specs.Deliver.{Delivered, delivered}
use Rattle.driver_laws.specs.Requests.{Way, Plainly, WithEntry, WithList, submitted as with_request}

-- the shape of each unit, and how many there are; the open commands in order of submission; a cache for each unit; the
-- read id of the next list; whether what it would send of its own is held back; whether HPB is on
pub record Machine : Type 0 where
  pub shape : Shape
  pub luns : ℕ
  pub opens : List OpenCommand
  pub caches : List CacheState
  pub next_id : ℕ
  pub held : Bool
  pub on : Bool

-- an empty cache for each of so many units
abbrev pub caches_for : ℕ → Shape → List CacheState
caches_for zero shape = []
caches_for (suc n) shape = empty_cache shape ∷ caches_for n shape

-- a driver that has sent nothing, with caches or without
abbrev pub machine_begun : Bool → Shape → ℕ → Machine
machine_begun plain shape luns = record {
  shape = shape;
  luns = luns;
  opens = [];
  caches = if plain then [] else caches_for luns shape;
  next_id = 1;
  held = false;
  on = true;
}

-- the cache of a unit is changed, where there is one
abbrev pub change_cache : ℕ → (CacheState → CacheState) → List CacheState → List CacheState
change_cache lun f [] = []
change_cache zero f (c ∷ cs) = f c ∷ cs
change_cache (suc lun) f (c ∷ cs) = c ∷ change_cache lun f cs

-- the entry of a block that is covered
abbrev pub entry_at : CacheState → ℕ → ℕ
entry_at cache lba = unwrap_or (entry_of cache lba) 0

-- how a read goes out by a cache: plainly where it isn't covered, with all its entries where it has two blocks or more
-- and two tags are free, and else with the entry of its first block
abbrev pub way_by : CacheState → ℕ → ℕ → Bool → ℕ → Way
way_by cache lba n pair id =
    if not (nat_le n 255 && covers cache lba n) then Plainly else
    (if nat_le 2 n && pair then WithList id (map (entry_at cache) (range_with_len lba n))
    else WithEntry (entry_at cache lba))

-- plainly too where the unit has no cache
abbrev pub way_by_cache : Option CacheState → ℕ → ℕ → Bool → ℕ → Way
way_by_cache (Some cache) lba n pair id = way_by cache lba n pair id
way_by_cache None lba n pair id = Plainly

-- two tags are free
abbrev pub has_pair : List OpenCommand → Bool
has_pair opens = nat_le (length opens + 2) tags

-- the way of a request, which matters for a read alone
abbrev pub way_of : Machine → Request → Way
way_of m (ReadOf lun lba n) =
    if m.on then way_by_cache (slice_get m.caches lun) lba n (has_pair m.opens) m.next_id else Plainly
way_of m _ = Plainly

-- what a read does to the cache of its unit, by its way
abbrev pub read_cache : Way → ℕ → ℕ → CacheState → CacheState
read_cache Plainly lba n cache = touched (plainly_read cache lba n) lba n
read_cache _ lba n cache = touched cache lba n

-- what a request does to the caches
abbrev pub caches_asked : Way → Request → List CacheState → List CacheState
caches_asked way (ReadOf lun lba n) caches = change_cache lun (read_cache way lba n) caches
caches_asked way (WriteOf lun lba n bytes) caches =
    change_cache lun (λ (cache : CacheState). written cache lba n) caches
caches_asked way _ caches = caches

-- read ids go from 1 to 127, and then from 1 again
abbrev pub id_after : Way → ℕ → ℕ
id_after (WithList id entries) next = next % 127 + 1
id_after _ next = next

-- a request is taken
abbrev pub submit : Request → Machine → Machine
submit request m =
    let way : Way = way_of m request in
    record m {
      opens = with_request way request m.opens;
      caches = caches_asked way request m.caches;
      next_id = id_after way m.next_id;
    }

-- a command of the driver's own that tells of a region that was given up, and the caches without that region
pub record Own : Type 0 where
  pub wanted : Wanted
  pub caches : List CacheState

-- the same with one more cache before the others
abbrev pub also : CacheState → Option Own → Option Own
also cache (Some own) = Some (record own { caches = cache ∷ own.caches })
also cache None = None

-- the command that tells of a region
abbrev pub tell : ℕ → ℕ → Wanted
tell lun region = record { lun = lun; command = InactOne region; bytes = []; caller = false }

-- by what a cache has given up: its first region, or else what comes of the caches behind it
abbrev pub first_told : ℕ → CacheState → List CacheState → List ℕ → Option Own → Option Own
first_told lun cache cs [] behind = also cache behind
first_told lun cache cs (region ∷ rest) behind =
    Some (record { wanted = tell lun region; caches = record cache { evicted = rest } ∷ cs })

-- the first region that was given up, that of the lowest unit first, where the first cache is that of unit `lun`
abbrev pub evicted_from : ℕ → List CacheState → Option Own
evicted_from lun [] = None
evicted_from lun (c ∷ cs) = first_told lun c cs c.evicted (evicted_from (suc lun) cs)

-- wants without those before the first one that is still asked for, which are stale
abbrev pub stale_dropped : CacheState → List (ℕ × ℕ) → List (ℕ × ℕ)
stale_dropped cache [] = []
stale_dropped cache (want ∷ rest) =
    if is_issued (state_of cache want.0 want.1) then want ∷ rest else stale_dropped cache rest

-- the command that loads the entries of a subregion
abbrev pub load : ℕ → CacheState → ℕ × ℕ → Wanted
load lun cache want = record {
  lun = lun;
  command = ReadBuffer want.0 want.1 (8 * sub_length cache.shape want.0 want.1);
  bytes = [];
  caller = false;
}

-- a command of the driver's own that loads a subregion, if there is one, and the caches without the wants up to it
pub record Picked : Type 0 where
  pub wanted : Option Wanted
  pub caches : List CacheState

-- by what is left of a cache's wants: the first one, or else what comes of the caches behind it
abbrev pub first_picked : ℕ → CacheState → List CacheState → List (ℕ × ℕ) → Picked → Picked
first_picked lun cache cs [] behind =
    record { wanted = behind.wanted; caches = record cache { wants = [] } ∷ behind.caches }
first_picked lun cache cs (want ∷ rest) behind =
    record {
      wanted = Some (load lun cache want);
      caches = issued (record cache { wants = rest }) want.0 want.1 ∷ cs;
    }

-- the next subregion to load, that of the lowest unit first, where the first cache is that of unit `lun`
abbrev pub wanted_from : ℕ → List CacheState → Picked
wanted_from lun [] = record { wanted = None; caches = [] }
wanted_from lun (c ∷ cs) = first_picked lun c cs (stale_dropped c c.wants) (wanted_from (suc lun) cs)

-- the command loads a subregion
abbrev pub is_load : Cdb → Bool
is_load (ReadBuffer region sub len) = true
is_load _ = false

-- an open command does
abbrev pub loads : List OpenCommand → Bool
loads opens = list_any (λ (o : OpenCommand). is_load o.command) opens

-- a command of the driver's own is opened, if there is one
abbrev pub with_wanted : Option Wanted → List OpenCommand → List OpenCommand
with_wanted (Some w) opens = opened opens w
with_wanted None opens = opens

-- a subregion is loaded, if there is one
abbrev pub with_picked : Machine → Picked → Machine
with_picked m p = record m { opens = with_wanted p.wanted m.opens; caches = p.caches }

-- what was given up is told first; else a subregion is loaded, one at a time
abbrev pub with_evicted : Machine → Option Own → Machine
with_evicted m (Some own) = record m { opens = opened m.opens own.wanted; caches = own.caches }
with_evicted m None = if loads m.opens then m else with_picked m (wanted_from 0 m.caches)

-- nothing is to be sent
abbrev pub is_nothing : Next → Bool
is_nothing Nothing = true
is_nothing _ = false

-- a command of its own goes out only where nothing else is to be sent, a tag is free, it isn't held back, and HPB is on
abbrev pub may_send_own : Machine → Bool
may_send_own m = is_nothing (next_of m.opens) && (nat_lt (length m.opens) tags && (not m.held && m.on))

-- the driver with a command of its own, where it may send one
abbrev pub with_own : Machine → Machine
with_own m = if may_send_own m then with_evicted m (evicted_from 0 m.caches) else m

-- what is sent next
abbrev pub next_upiu : Sizes → Machine → Option Upiu
next_upiu s m = upiu_of_next s (next_of (with_own m).opens)

-- the driver after it was sent
abbrev pub with_next : Sizes → Machine → Machine
with_next s m = record (with_own m) { opens = after_next s (with_own m).opens (next_of (with_own m).opens) }

-- the end of a command, GOOD or not: where it is READ BUFFER, its entries came or they don't come
abbrev pub load_ends : Bool → List ℕ → Cdb → CacheState → CacheState
load_ends true got (ReadBuffer region sub len) cache = loaded cache region sub got
load_ends false got (ReadBuffer region sub len) cache = unloaded cache region sub
load_ends good got _ cache = cache

-- a segment is a hint
abbrev pub is_hint_segment : List ℕ → Bool
is_hint_segment segment =
    nat_le 2 (length segment) && (nat_le (2 + sense_len segment) (length segment) && is_hint segment)

-- a hint goes to the cache of the unit that it names
abbrev pub with_hint : List ℕ → List CacheState → List CacheState
with_hint segment caches =
    if is_hint_segment segment
    then change_cache (hint_at segment).lun (λ (c : CacheState). hinted c (hint_at segment)) caches
    else caches

-- what a RESPONSE does to the caches: first the effect of its command, then where it is GOOD its hint
abbrev pub caches_ended : Bool → OpenCommand → Upiu → List CacheState → List CacheState
caches_ended good o v caches =
    let ended : List CacheState = change_cache o.lun (load_ends good o.got o.command) caches in
    if good then with_hint v.segment ended else ended

-- what a UPIU does to the caches, with the command of its tag
abbrev pub caches_by : Kind → Option OpenCommand → Upiu → List CacheState → List CacheState
caches_by Response (Some o) v caches = caches_ended (v.status == 0x00) o v caches
caches_by _ _ v caches = caches

-- bytes of the device were taken, or there was a fault, which changes nothing
abbrev pub with_delivered : Machine → List ℕ → Result Delivered DriverFault → Machine
with_delivered m bytes (Ok d) = record m {
  opens = d.opens;
  caches = caches_by (upiu_at bytes).kind (find (has (upiu_at bytes).tag) m.opens) (upiu_at bytes) m.caches;
}
with_delivered m bytes (Err fault) = m

-- bytes of the device come
abbrev pub deliver : Sizes → List ℕ → Machine → Machine
deliver s bytes m = with_delivered m bytes (delivered s m.opens bytes)

-- both ends are reset
abbrev pub reset : Machine → Machine
reset m = record m { opens = []; caches = map lapsed m.caches }

-- what it would send of its own is held back, or is no more
abbrev pub hold : Bool → Machine → Machine
hold on m = record m { held = on }
