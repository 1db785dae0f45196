-- The caches of a driver stay as they must be over each call.
use Rattle.std.proofs.Common.{◌≡◌, ℕ, zero, suc, ◌+◌, ◌≤◌, ◌<◌, Bool, true, false, cond, List, [], ◌∷◌, length, drop, Option, Some, None, Result, Ok, Err, refl, subst, arith, ◌==◌}
use Rattle.std.specs.Prelude.{if◌then◌else◌, fold}
use Rattle.std.specs.List.{AllByRecursion, find}
use Rattle.std.proofs.Math.Nat.{mod-lt}
use Rattle.std.proofs.lemmas.List.{length-map}
use Rattle.hpb_cdb.specs.declared.cdb.Cdb.{Cdb}
use Rattle.hpb_cdb.specs.declared.cdb.Cdb.TheVariants.{ReadBuffer}
use Rattle.hpb_sense.specs.Sense.{hint_at}
use Rattle.region_state.specs.declared.shape.Shape.{Shape}
use Rattle.upiu_wire.specs.declared.fault.WireFault.{WireFault}
use Rattle.upiu_wire.specs.declared.kind.Kind.{Kind}
use Rattle.upiu_wire.specs.declared.kind.Kind.TheVariants.{NopIn, DataIn, ReadyToTransfer, Response}
use Rattle.upiu_wire.specs.Kind.{kind_of}
use Rattle.upiu_wire.specs.Upiu.{Upiu, upiu_at}
use Rattle.upiu_wire.specs.WireFault.{wire_fault_of}
use Rattle.host_map_cache.specs.Cache.{CacheState, hinted, lapsed, plainly_read, written}
use Rattle.flat_unit.specs.Sizes.{Sizes}
use Rattle.driver_laws.specs.declared.fault.DriverFault.{DriverFault}
use Rattle.driver_laws.specs.declared.fault.DriverFault.TheVariants.{Phase, UnknownTag, Wire}
use Rattle.driver_laws.specs.declared.request.Request.{Request}
use Rattle.driver_laws.specs.declared.request.Request.TheVariants.{Read as ReadOf, Write as WriteOf, Sync as SyncAll, Ready}
use Rattle.driver_laws.specs.Commands.{Next, Piece, Begin, Nothing, OpenCommand, Wanted, after_next, change_first, free_tag, has}
use Rattle.driver_laws.specs.Commands.{is_waiting, next_of, open_as, opened, opened_with, owes_data, remove_first, with_begin, with_piece}
use Rattle.driver_laws.specs.Deliver.{Delivered, delivered, delivered_by, delivered_by_fault, delivered_to, is_in_phase, taken, with_asked, with_got}
use Rattle.driver_laws.specs.Requests.{Way, Plainly, WithEntry, WithList, commands_of}
use Rattle.drive_rules.specs.Cached.{HasCaches, HasGotBytes, HasShape, IsCached}
use Rattle.drive_rules.specs.Lines.{AreBytes}
use Rattle.driver_caches.specs.Machine.{Machine, Own, caches_asked, caches_by, caches_ended, change_cache, deliver, evicted_from, id_after, is_hint_segment, load_ends, loads, may_send_own}
use Rattle.driver_caches.specs.Machine.{read_cache, reset, submit, wanted_from, way_of, with_delivered, with_evicted, with_hint, with_next, with_own, with_picked, with_wanted}
use Rattle.drive_rules.specs.Tame.{StaysTame}
use Rattle.drive_rules.proofs.Caching.{hinted_cached, lapsed_cached, loaded_cached, plainly_cached, touched_cached, unloaded_cached, written_cached}
use Rattle.drive_rules.proofs.Lists.{all_append, all_drop, all_map, all_take}
use Rattle.drive_rules.proofs.Wanting.{OwnFine, PickedFine, evicted_fine, wanted_fine, ways_fit}

-- one cache is changed
all_change : (shape : Shape) (lun : ℕ) (f : CacheState → CacheState) → ((c : CacheState) → IsCached shape c → IsCached shape (f c)) → (cs : List CacheState) → AllByRecursion (IsCached shape) cs
    → AllByRecursion (IsCached shape) (change_cache lun f cs)
all_change shape lun f keeps [] all = tt
all_change shape zero f keeps (c ∷ cs) all = (keeps c all.0, all.1)
all_change shape (suc lun) f keeps (c ∷ cs) all = (all.0, all_change shape lun f keeps cs all.1)

change_length : (lun : ℕ) (f : CacheState → CacheState) (cs : List CacheState) → length (change_cache lun f cs) ≡ length cs
change_length lun f [] = refl
change_length zero f (c ∷ cs) = refl
change_length (suc lun) f (c ∷ cs) = let e = change_length lun f cs in omega (arith, e)

-- what holds of the caches alone
record AreFine (s : Sizes) (shape : Shape) (cs : List CacheState) : Type 0 where
  all : AllByRecursion (IsCached shape) cs
  few : length cs ≤ s.luns

fine_change : (s : Sizes) (shape : Shape) (lun : ℕ) (f : CacheState → CacheState) (cs : List CacheState) → ((c : CacheState) → IsCached shape c → IsCached shape (f c)) → AreFine s shape cs
    → AreFine s shape (change_cache lun f cs)
fine_change s shape lun f cs keeps fine = record { all = all_change shape lun f keeps cs fine.all; few = let e = change_length lun f cs in let w = fine.few in omega (arith, e, w) }

read_cached : (shape : Shape) (way : Way) (lba n : ℕ) (c : CacheState) → IsCached shape c → IsCached shape (read_cache way lba n c)
read_cached shape Plainly lba n c is = touched_cached shape (plainly_read c lba n) lba n (plainly_cached shape c lba n is)
read_cached shape (WithEntry entry) lba n c is = touched_cached shape c lba n is
read_cached shape (WithList id entries) lba n c is = touched_cached shape c lba n is

asked_fine : (s : Sizes) (shape : Shape) (way : Way) (request : Request) (cs : List CacheState) → AreFine s shape cs → AreFine s shape (caches_asked way request cs)
asked_fine s shape way (ReadOf lun lba n) cs fine = fine_change s shape lun (read_cache way lba n) cs (λ c is. read_cached shape way lba n c is) fine
asked_fine s shape way (WriteOf lun lba n bytes) cs fine = fine_change s shape lun (λ (c : CacheState). written c lba n) cs (λ c is. written_cached shape c lba n is) fine
asked_fine s shape way SyncAll cs fine = fine
asked_fine s shape way Ready cs fine = fine

some_id_after : (way : Way) (next : ℕ) → 1 ≤ next → 1 ≤ id_after way next
some_id_after Plainly next some = some
some_id_after (WithEntry entry) next some = some
some_id_after (WithList id entries) next some = omega arith

last_id_after : (way : Way) (next : ℕ) → next ≤ 127 → id_after way next ≤ 127
last_id_after Plainly next last = last
last_id_after (WithEntry entry) next last = last
last_id_after (WithList id entries) next last = let e = mod-lt next {m = 127} (omega arith) in omega (arith, e)

-- what came are bytes
opened_got : (opens : List OpenCommand) (w : Wanted) → AllByRecursion HasGotBytes opens → AllByRecursion HasGotBytes (opened opens w)
opened_got opens w all = by_tag (free_tag opens)
  where
    by_tag : (x : Option ℕ) → AllByRecursion HasGotBytes (opened_with opens w x)
    by_tag None = all
    by_tag (Some tag) = all_append HasGotBytes opens (open_as w tag ∷ []) all (tt, tt)

all_opened : (ws : List Wanted) (opens : List OpenCommand) → AllByRecursion HasGotBytes opens → AllByRecursion HasGotBytes (fold opened opens ws)
all_opened [] opens all = all
all_opened (w ∷ ws) opens all = all_opened ws (opened opens w) (opened_got opens w all)

change_got : (test : OpenCommand → Bool) (f : OpenCommand → OpenCommand) → ((o : OpenCommand) → HasGotBytes o → HasGotBytes (f o)) → (opens : List OpenCommand) → AllByRecursion HasGotBytes opens
    → AllByRecursion HasGotBytes (change_first test f opens)
change_got test f keeps [] all = tt
change_got test f keeps (o ∷ os) all = by_test (change_got test f keeps os all.1) (test o)
  where
    by_test : AllByRecursion HasGotBytes (change_first test f os) → (b : Bool) → AllByRecursion HasGotBytes (if b then f o ∷ os else o ∷ change_first test f os)
    by_test rest true = (keeps o all.0, all.1)
    by_test rest false = (all.0, rest)

remove_got : (test : OpenCommand → Bool) (opens : List OpenCommand) → AllByRecursion HasGotBytes opens → AllByRecursion HasGotBytes (remove_first test opens)
remove_got test [] all = tt
remove_got test (o ∷ os) all = by_test (remove_got test os all.1) (test o)
  where
    by_test : AllByRecursion HasGotBytes (remove_first test os) → (b : Bool) → AllByRecursion HasGotBytes (if b then os else o ∷ remove_first test os)
    by_test rest true = all.1
    by_test rest false = (all.0, rest)

next_got : (s : Sizes) (opens : List OpenCommand) (next : Next) → AllByRecursion HasGotBytes opens → AllByRecursion HasGotBytes (after_next s opens next)
next_got s opens (Piece o) all = change_got owes_data (with_piece s) (λ o are. are) opens all
next_got s opens (Begin o) all = change_got is_waiting with_begin (λ o are. are) opens all
next_got s opens Nothing all = all

none_open : (o : OpenCommand) → None ≡ Some o → ⊥
none_open o is = cc

found_got : (test : OpenCommand → Bool) (opens : List OpenCommand) (o : OpenCommand) → AllByRecursion HasGotBytes opens → find test opens ≡ Some o → HasGotBytes o
found_got test [] o all is = absurd (none_open o is)
found_got test (x ∷ xs) o all is = by_test (λ rest. found_got test xs o all.1 rest) (test x) is
  where
    by_test : (find test xs ≡ Some o → HasGotBytes o) → (b : Bool) → cond b (Some x) (find test xs) ≡ Some o → HasGotBytes o
    by_test behind true is = let same : x ≡ o = cc in subst HasGotBytes same all.0
    by_test behind false is = behind is

segment_bytes : (bytes : List ℕ) → AreBytes bytes → AreBytes (upiu_at bytes).segment
unfolding upiu_at kind_of
segment_bytes bytes are = all_take (λ (b : ℕ). b < 256) _ (drop 32 bytes) (all_drop (λ (b : ℕ). b < 256) 32 bytes are)

taken_got : (kind : Kind) (opens : List OpenCommand) (o : OpenCommand) (v : Upiu) → AreBytes v.segment → AllByRecursion HasGotBytes opens → AllByRecursion HasGotBytes (taken kind opens o v).opens
taken_got DataIn opens o v are all = change_got (has v.tag) (with_got v.segment) (λ x got. all_append (λ (b : ℕ). b < 256) x.got v.segment got are) opens all
taken_got ReadyToTransfer opens o v are all = change_got (has v.tag) (with_asked (v.first + v.count)) (λ x got. got) opens all
taken_got Response opens o v are all = remove_got (has v.tag) opens all
taken_got _ opens o v are all = all

err_ok : {X : Type 0} (fault : DriverFault) (x : X) → Err fault ≡ Ok x → ⊥
err_ok fault x is = cc

to_got : (s : Sizes) (opens : List OpenCommand) (v : Upiu) (d : Delivered) → AreBytes v.segment → AllByRecursion HasGotBytes opens → (x : Option OpenCommand) → delivered_to s opens v x ≡ Ok d
    → AllByRecursion HasGotBytes d.opens
to_got s opens v d are all None is = absurd (err_ok UnknownTag d is)
to_got s opens v d are all (Some o) is = by_phase (is_in_phase s o v) is
  where
    by_phase : (b : Bool) → (if b then Ok (taken v.kind opens o v) else Err Phase) ≡ Ok d → AllByRecursion HasGotBytes d.opens
    by_phase true is = let same : taken v.kind opens o v ≡ d = cc in subst (λ (x : Delivered). AllByRecursion HasGotBytes x.opens) same (taken_got v.kind opens o v are all)
    by_phase false is = absurd (err_ok Phase d is)

got_by_kind : (s : Sizes) (opens : List OpenCommand) (v : Upiu) (d : Delivered) → AreBytes v.segment → AllByRecursion HasGotBytes opens → (k : Kind) → delivered_by k s opens v ≡ Ok d
    → AllByRecursion HasGotBytes d.opens
got_by_kind s opens v d are all NopIn is = let same : record { opens = opens; done = None } ≡ d = cc in subst (λ (x : Delivered). AllByRecursion HasGotBytes x.opens) same all
got_by_kind s opens v d are all _ is = to_got s opens v d are all (find (has v.tag) opens) is

delivered_got : (s : Sizes) (opens : List OpenCommand) (bytes : List ℕ) (d : Delivered) → AreBytes bytes → AllByRecursion HasGotBytes opens → delivered s opens bytes ≡ Ok d
    → AllByRecursion HasGotBytes d.opens
unfolding delivered
delivered_got s opens bytes d are all is = by_fault (wire_fault_of bytes) is
  where
    by_fault : (x : Option WireFault) → delivered_by_fault s opens bytes x ≡ Ok d → AllByRecursion HasGotBytes d.opens
    by_fault (Some fault) is = absurd (err_ok (Wire fault) d is)
    by_fault None is = got_by_kind s opens (upiu_at bytes) d (segment_bytes bytes are) all (upiu_at bytes).kind is

-- what a RESPONSE does to the caches
load_ends_cached : (shape : Shape) (good : Bool) (o : OpenCommand) (command : Cdb) → HasGotBytes o → (c : CacheState) → IsCached shape c → IsCached shape (load_ends good o.got command c)
load_ends_cached shape true o (ReadBuffer region sub len) got c is = loaded_cached shape c region sub o.got got is
load_ends_cached shape false o (ReadBuffer region sub len) got c is = unloaded_cached shape c region sub is
load_ends_cached shape true o _ got c is = is
load_ends_cached shape false o _ got c is = is

hint_fine : (s : Sizes) (shape : Shape) (segment : List ℕ) (cs : List CacheState) → AreFine s shape cs → AreFine s shape (with_hint segment cs)
hint_fine s shape segment cs fine = by_hint (is_hint_segment segment)
  where
    by_hint : (b : Bool) → AreFine s shape (if b then change_cache (hint_at segment).lun (λ (c : CacheState). hinted c (hint_at segment)) cs else cs)
    by_hint true = fine_change s shape (hint_at segment).lun (λ (c : CacheState). hinted c (hint_at segment)) cs (λ c is. hinted_cached shape c (hint_at segment) is) fine
    by_hint false = fine

ended_fine : (s : Sizes) (shape : Shape) (good : Bool) (o : OpenCommand) (v : Upiu) (cs : List CacheState) → HasGotBytes o → AreFine s shape cs → AreFine s shape (caches_ended good o v cs)
ended_fine s shape true o v cs got fine =
    hint_fine s shape v.segment (change_cache o.lun (load_ends true o.got o.command) cs)
    (fine_change s shape o.lun (load_ends true o.got o.command) cs (load_ends_cached shape true o o.command got) fine)
ended_fine s shape false o v cs got fine = fine_change s shape o.lun (load_ends false o.got o.command) cs (load_ends_cached shape false o o.command got) fine

by_kind_fine : (s : Sizes) (shape : Shape) (kind : Kind) (x : Option OpenCommand) (v : Upiu) (cs : List CacheState) → ((o : OpenCommand) → x ≡ Some o → HasGotBytes o) → AreFine s shape cs
    → AreFine s shape (caches_by kind x v cs)
by_kind_fine s shape Response (Some o) v cs got fine = ended_fine s shape (v.status == 0x00) o v cs (got o refl) fine
by_kind_fine s shape Response None v cs got fine = fine
by_kind_fine s shape _ x v cs got fine = fine

fine_of : (s : Sizes) (shape : Shape) (m : Machine) → HasCaches s shape m → AreFine s shape m.caches
fine_of s shape m h = record { all = h.caches; few = h.few }

-- with a command of its own
own_has : (s : Sizes) (shape : Shape) (m : Machine) → HasShape s shape → HasCaches s shape m → HasCaches s shape (with_own m)
own_has s shape m is h = by_may (may_send_own m)
  where
    picked : HasCaches s shape (with_picked m (wanted_from 0 m.caches))
    picked =
        let p : PickedFine s shape (wanted_from 0 m.caches) (length m.caches) = wanted_fine s shape 0 m.caches is (let w = h.few in omega arith) h.caches in
        record { caches = p.caches; some_id = h.some_id; last_id = h.last_id; few = let n = p.count in let w = h.few in omega (arith, n, w); got = by_wanted (wanted_from 0 m.caches).wanted }
      where
        by_wanted : (x : Option Wanted) → AllByRecursion HasGotBytes (with_wanted x m.opens)
        by_wanted (Some w) = opened_got m.opens w h.got
        by_wanted None = h.got

    by_loads : (b : Bool) → HasCaches s shape (if b then m else with_picked m (wanted_from 0 m.caches))
    by_loads true = h
    by_loads false = picked

    by_own : (x : Option Own) → evicted_from 0 m.caches ≡ x → HasCaches s shape (with_evicted m x)
    by_own (Some own) found =
        let fine : OwnFine s shape own (length m.caches) = evicted_fine s shape 0 m.caches own is (let w = h.few in omega arith) h.caches found in
        record { caches = fine.caches; some_id = h.some_id; last_id = h.last_id; few = let n = fine.count in let w = h.few in omega (arith, n, w); got = opened_got m.opens own.wanted h.got }
    by_own None found = by_loads (loads m.opens)

    by_may : (b : Bool) → HasCaches s shape (if b then with_evicted m (evicted_from 0 m.caches) else m)
    by_may true = by_own (evicted_from 0 m.caches) refl
    by_may false = h

-- the premise on caches holds
pub cached_stays : (s : Sizes) (shape : Shape) → HasShape s shape → StaysTame s (HasCaches s shape)
cached_stays s shape is = record {
  tame = λ m h. record {
    ways = λ request _. ways_fit s shape m request h;
    evicted = λ own found. let fine = evicted_fine s shape 0 m.caches own is (let w = h.few in omega arith) h.caches found in (fine.wanted, fine.mine);
    picked = λ w found. (wanted_fine s shape 0 m.caches is (let f = h.few in omega arith) h.caches).wanted w found;
  };
  asked = λ request m there h. asked_has request m h;
  sent = λ m h. sent_has m (own_has s shape m is h);
  got = λ bytes m are h. got_has bytes m are h;
  reset_too = λ m h. reset_has m h;
  held = λ on m h. record { caches = h.caches; some_id = h.some_id; last_id = h.last_id; few = h.few; got = h.got };
}
  where
    asked_has : (request : Request) (m : Machine) → HasCaches s shape m → HasCaches s shape (submit request m)
    asked_has request m h =
        let fine : AreFine s shape (caches_asked (way_of m request) request m.caches) = asked_fine s shape (way_of m request) request m.caches (fine_of s shape m h) in
        record {
          caches = fine.all;
          some_id = some_id_after (way_of m request) m.next_id h.some_id;
          last_id = last_id_after (way_of m request) m.next_id h.last_id;
          few = fine.few;
          got = all_opened (commands_of (way_of m request) request) m.opens h.got;
        }

    sent_has : (m : Machine) → HasCaches s shape (with_own m) → HasCaches s shape (with_next s m)
    sent_has m h = record { caches = h.caches; some_id = h.some_id; last_id = h.last_id; few = h.few; got = next_got s (with_own m).opens (next_of (with_own m).opens) h.got }

    got_has : (bytes : List ℕ) (m : Machine) → AreBytes bytes → HasCaches s shape m → HasCaches s shape (deliver s bytes m)
    got_has bytes m are h = by_result (delivered s m.opens bytes) refl
      where
        by_result : (r : Result Delivered DriverFault) → delivered s m.opens bytes ≡ r → HasCaches s shape (with_delivered m bytes r)
        by_result (Ok d) took =
            let fine = by_kind_fine s shape (upiu_at bytes).kind (find (has (upiu_at bytes).tag) m.opens) (upiu_at bytes) m.caches
            (λ o found. found_got (has (upiu_at bytes).tag) m.opens o h.got found) (fine_of s shape m h) in
            record { caches = fine.all; some_id = h.some_id; last_id = h.last_id; few = fine.few; got = delivered_got s m.opens bytes d are h.got took }
        by_result (Err fault) took = h

    reset_has : (m : Machine) → HasCaches s shape m → HasCaches s shape (reset m)
    reset_has m h = record {
      caches = all_map (IsCached shape) (IsCached shape) lapsed (λ c cached. lapsed_cached shape c cached) m.caches h.caches;
      some_id = h.some_id;
      last_id = h.last_id;
      few = let l = length-map m.caches lapsed in let w = h.few in omega (arith, l, w);
      got = tt;
    }
