-- What the flat unit is after an event of the device, and which answer it gives.
use Rattle.std.proofs.Common.{◌≡◌, ℕ, zero, suc, ◌+◌, ◌-◌, ◌*◌, ◌/◌, ◌≤◌, ◌<◌, Bool, true, false, cond, ◌&&◌, List, [], ◌∷◌, ◌++◌, length}
use Rattle.std.proofs.Common.{length-append, map, filter, take, Some, None, refl, sym, ◌∙◌, ap, subst, arith, ◌==◌, nat_le, slice_range}
use Rattle.std.specs.Prelude.{if◌then◌else◌, fold, Contains}
use Rattle.std.specs.List.{AllByRecursion, list_any}
use Rattle.std.proofs.Math.Nat.{mul-suc, mul-div_cancel_left, mul-le-mul_left, le_of_mul-le-mul_left}
use Rattle.std.proofs.Math.Seq.{take-length}
use Rattle.std.proofs.lemmas.Bool.{false≢true, eqb-true}
use Rattle.std.proofs.lemmas.Bool.Decides.{nat_tests}
use Rattle.std.proofs.lemmas.List.{length-take-le}
use Rattle.flash_pages.specs.Place.{Place}
use Rattle.hpb_cdb.specs.declared.cdb.Cdb.{Cdb}
use Rattle.hpb_cdb.specs.declared.cdb.Cdb.TheVariants.{TestReady, Read, Write, Capacity, Sync, HpbRead, ReadBuffer, Prefetch, InactOne, InactAll}
use Rattle.upiu_wire.specs.Upiu.{Upiu, IsConsistent, upiu_out}
use Rattle.flat_unit.specs.declared.event.Event.TheVariants.{Device}
use Rattle.flat_unit.specs.Command.{bytes_given, bytes_taken}
use Rattle.flat_unit.specs.Contents.{Block, Leaving, answered, block_written, candidates, is_among, is_same, leaving, leaving_all}
use Rattle.flat_unit.specs.Contents.{left_by, next_place, offset_in, seen_at, shown, shown_at, shown_by_kind, with_block}
use Rattle.flat_unit.specs.History.{History, ◌▹◌}
use Rattle.flat_unit.specs.Queue.{tasks_after}
use Rattle.flat_unit.specs.Reply.{has_tag}
use Rattle.flat_unit.specs.Sends.{IsPiece}
use Rattle.flat_unit.specs.Sizes.{Sizes}
use Rattle.flat_unit.specs.Sound.{IsCandidate}
use Rattle.flat_unit.specs.Task.{Task}
use Rattle.flat_unit.specs.Tasks.{IsUntouched}
use Rattle.flat_unit.proofs.standing.Changes.{device_leaves, device_shows}
use Rattle.flat_unit.proofs.queue.Tasks.{none_has, same_tag}
use Rattle.driver_laws.specs.declared.answer.Answer.TheVariants.{Good}
use Rattle.driver_laws.specs.Commands.{OpenCommand, is_out}
use Rattle.driver_laws.specs.Flat.{Answered, Asked, Came, Flat, bytes_at, flat_after, flat_answer, flat_answers, written_by}
use Rattle.driver_laws.specs.Fits.{FirstGot, GotFrom, IsProper, IsServing, kept_as, served_by}

contains_one : (x y : Block) → Contains (x ∷ []) y → y ≡ x
contains_one x y (zero, below, is) = sym is
contains_one x y (suc k, below, is) = absurd (omega arith)

and_both : (a b : Bool) → (a && b) ≡ true → (a ≡ true) × (b ≡ true)
and_both true b is = (refl, is)
and_both false b is = absurd (false≢true is)

same_place : (p q : Place) → is_same p q ≡ true → p ≡ q
same_place p q is =
    let both = and_both (p.lun == q.lun) (p.lba == q.lba) is in
    let lun : p.lun ≡ q.lun = eqb-true p.lun q.lun both.0 in
    let lba : p.lba ≡ q.lba = eqb-true p.lba q.lba both.1 in
    λ i. record { lun = lun i; lba = lba i }

-- the candidates after a UPIU of the device
pub candidates_after : (s : Sizes) (u : List Block) (e : History) (bytes : List ℕ) (v : Upiu) (tasks : List Task) (p : Place) → IsConsistent v → bytes ≡ upiu_out v → tasks_after s e ≡ tasks
    → candidates s u (e ▹ Device bytes) p ≡ seen_at p (fold (left_by s p) (candidates s u e p) (answered v v.kind tasks)) (shown_by_kind s v v.kind tasks)
candidates_after s u e bytes v tasks p h is same =
    let leaves : leaving (tasks_after s e) (Device bytes) ≡ answered v v.kind tasks =
    ap (λ (b : List ℕ). leaving (tasks_after s e) (Device b)) is ∙ device_leaves (tasks_after s e) v h ∙ ap (answered v v.kind) same in
    let shows : shown s (tasks_after s e) (Device bytes) ≡ shown_by_kind s v v.kind tasks =
    ap (λ (b : List ℕ). shown s (tasks_after s e) (Device b)) is ∙ device_shows s (tasks_after s e) v h ∙ ap (shown_by_kind s v v.kind) same in
    ap (λ (ls : List Leaving). seen_at p (fold (left_by s p) (candidates s u e p) ls) (shown s (tasks_after s e) (Device bytes))) leaves
    ∙ ap (seen_at p (fold (left_by s p) (candidates s u e p) (answered v v.kind tasks))) shows

-- a piece of data is the block of the flat unit, and adds it to what the first command got
pub record Grows (s : Sizes) (flat : Flat) (command : Cdb) (o : OpenCommand) (task : Task) (v : Upiu) (blocks : Place → List Block) (piece : List ℕ) : Type 0 where
  pub alone : (p : Place) → seen_at p (blocks p) (shown_at v (next_place s task command)) ≡ flat p ∷ []
  pub got : GotFrom s flat command o.lun (o.got ++ piece)

read_grows : (s : Sizes) (flat : Flat) (o : OpenCommand) (task : Task) (v : Upiu) (blocks : Place → List Block) (lba : ℕ)
    → 0 < s.block → length v.segment ≡ s.block → task.lun ≡ o.lun → task.sent ≡ length o.got
    → ((p : Place) → blocks p ≡ flat p ∷ []) → Contains (blocks (record { lun = task.lun; lba = lba + task.sent / s.block })) v.segment
    → (k : ℕ) → length o.got ≡ s.block * k → o.got ≡ bytes_at flat o.lun lba k
    → ((p : Place) → seen_at p (blocks p) (Some (record { place = record { lun = task.lun; lba = lba + task.sent / s.block }; block = v.segment })) ≡ flat p ∷ [])
    × ((j : ℕ) × (length (o.got ++ v.segment) ≡ s.block * j) × (o.got ++ v.segment ≡ bytes_at flat o.lun lba j))
read_grows s flat o task v blocks lba some whole lun sent alone candidate k long got = (all, (suc k, longer, more))
  where
    place : Place
    place = record { lun = task.lun; lba = lba + task.sent / s.block }

    at : task.sent / s.block ≡ k
    at = ap (λ (n : ℕ). n / s.block) (sent ∙ long) ∙ mul-div_cancel_left k some

    block_is : v.segment ≡ flat place
    block_is = contains_one (flat place) v.segment (subst (λ (bs : List Block). Contains bs v.segment) (alone place) candidate)

    all : (p : Place) → seen_at p (blocks p) (Some (record { place = place; block = v.segment })) ≡ flat p ∷ []
    all p = by_same (is_same place p) refl
      where
        by_same : (b : Bool) → is_same place p ≡ b → (if b then v.segment ∷ [] else blocks p) ≡ flat p ∷ []
        by_same true is = ap (λ (b : Block). b ∷ []) (block_is ∙ ap flat (same_place place p is))
        by_same false is = alone p

    longer : length (o.got ++ v.segment) ≡ s.block * suc k
    longer = let e = mul-suc s.block k in let l = length-append o.got v.segment in omega (arith, e, l, long, whole)

    more : o.got ++ v.segment ≡ bytes_at flat o.lun lba k ++ flat (record { lun = o.lun; lba = lba + k })
    more =
        ap (λ (xs : List ℕ). xs ++ v.segment) got
        ∙ ap (λ (b : Block). bytes_at flat o.lun lba k ++ b) block_is
        ∙ ap (λ (a : ℕ). bytes_at flat o.lun lba k ++ flat (record { lun = a; lba = lba + task.sent / s.block })) lun
        ∙ ap (λ (a : ℕ). bytes_at flat o.lun lba k ++ flat (record { lun = o.lun; lba = lba + a })) at

pub grows : (s : Sizes) (flat : Flat) (command : Cdb) (o : OpenCommand) (task : Task) (v : Upiu) (blocks : Place → List Block)
    → 0 < s.block → task.lun ≡ o.lun → task.sent ≡ length o.got → ((p : Place) → blocks p ≡ flat p ∷ [])
    → IsPiece s task command v.segment → IsCandidate blocks (shown_at v (next_place s task command)) → GotFrom s flat command o.lun o.got
    → Grows s flat command o task v blocks v.segment
grows s flat (Read lba n) o task v blocks some lun sent alone piece candidate got =
    let r = read_grows s flat o task v blocks lba some piece lun sent alone candidate got.0 got.1 got.2 in record { alone = r.0; got = r.1 }
grows s flat (HpbRead lba entry n id) o task v blocks some lun sent alone piece candidate got =
    let r = read_grows s flat o task v blocks lba some piece lun sent alone candidate got.0 got.1 got.2 in record { alone = r.0; got = r.1 }
grows s flat _ o task v blocks some lun sent alone piece candidate got = record { alone = alone; got = tt }

-- the first task alone leaves with its tag
pub one_leaves : (good : Bool) (task : Task) (others : List Task) → list_any (has_tag task.tag) others ≡ false
    → leaving_all good (filter (has_tag task.tag) (task ∷ others)) ≡ record { task = task; good = good } ∷ []
one_leaves good task others alone =
    ap (leaving_all good) (ap (λ (b : Bool). cond b (task ∷ filter (has_tag task.tag) others) (filter (has_tag task.tag) others)) (same_tag task.tag)
    ∙ ap (λ (ts : List Task). task ∷ ts) (none_has task.tag others alone))

-- a command that was answered GOOD has sent all its bytes
pub all_sent : (s : Sizes) (o : OpenCommand) → IsProper s o → length (take o.given o.bytes) ≡ bytes_taken s o.command → take o.given o.bytes ≡ o.bytes
all_sent s o is come =
    let a = is.asked in let g = is.given in let b = is.bytes in
    let e = length-take-le o.given o.bytes (omega arith) in
    ap (λ (n : ℕ). take n o.bytes) (omega arith) ∙ take-length o.bytes

among_below : (lun lba n : ℕ) (p : Place) → is_among lun lba n p ≡ true → p.lba - lba + 1 ≤ n
among_below lun lba n p is = grind (arith, nat_tests)

-- after a write each of its places has its block, and each other place what it had
pub written_alone : (s : Sizes) (flat : Flat) (command : Cdb) (task : Task) (bytes : List ℕ) (p : Place) → IsServing command → task.come ≡ bytes → length bytes ≡ bytes_taken s command
    → with_block true (flat p ∷ []) (block_written s task command p) ≡ written_by s (served_by command task.lun bytes) flat p ∷ []
written_alone s flat (Write lba n) task bytes p serving come long =
    ap (λ (c : List ℕ). with_block true (flat p ∷ []) (block_written s (record task { come = c }) (Write lba n) p)) come ∙ by_among (is_among task.lun lba n p) refl
  where
    by_among : (b : Bool) → is_among task.lun lba n p ≡ b
        → with_block true (flat p ∷ []) (if b && nat_le (offset_in s lba p + s.block) (length bytes) then Some (slice_range bytes (offset_in s lba p) (offset_in s lba p + s.block)) else None)
        ≡ (if b then slice_range bytes (offset_in s lba p) (offset_in s lba p + s.block) else flat p) ∷ []
    by_among false is = refl
    by_among true is =
        let below : p.lba - lba + 1 ≤ n = among_below task.lun lba n p is in
        let e : s.block * (p.lba - lba + 1) ≤ s.block * n = mul-le-mul_left s.block below in
        let inside : nat_le (offset_in s lba p + s.block) (length bytes) ≡ true = grind (arith, nat_tests) in
        ap (λ (b : Bool). with_block true (flat p ∷ []) (if b then Some (slice_range bytes (offset_in s lba p) (offset_in s lba p + s.block)) else None)) inside
written_alone s flat TestReady task bytes p serving come long = refl
written_alone s flat (Read lba n) task bytes p serving come long = refl
written_alone s flat (Sync lba n) task bytes p serving come long = refl
written_alone s flat (HpbRead lba entry n id) task bytes p serving come long = refl
written_alone s flat Capacity task bytes p serving come long = absurd serving
written_alone s flat (ReadBuffer region sub len) task bytes p serving come long = absurd serving
written_alone s flat (Prefetch lba id len) task bytes p serving come long = absurd serving
written_alone s flat (InactOne region) task bytes p serving come long = absurd serving
written_alone s flat InactAll task bytes p serving come long = absurd serving

no_bytes : (xs : List ℕ) → length xs ≡ 0 → xs ≡ []
no_bytes [] is = refl
no_bytes (x ∷ xs) is = absurd (omega arith)

same_count : (block k n : ℕ) → 0 < block → block * k ≡ block * n → k ≡ n
same_count block k n some is =
    let a : k ≤ n = le_of_mul-le-mul_left {k = block} (omega (arith, is)) some in
    let b : n ≤ k = le_of_mul-le-mul_left {k = block} (omega (arith, is)) some in
    omega arith

-- what a command got, once it was answered GOOD, is what the flat unit answers
pub answer_flat : (s : Sizes) (flat : Flat) (command : Cdb) (lun : ℕ) (bytes got : List ℕ) → 0 < s.block → IsServing command → length got ≡ bytes_given s command → GotFrom s flat command lun got
    → Good got ≡ flat_answer flat (served_by command lun bytes)
answer_flat s flat (Read lba n) lun bytes got some serving long from =
    ap Good (from.2 ∙ ap (bytes_at flat lun lba) (same_count s.block from.0 n some (sym from.1 ∙ long)))
answer_flat s flat (HpbRead lba entry n id) lun bytes got some serving long from =
    ap Good (from.2 ∙ ap (bytes_at flat lun lba) (same_count s.block from.0 n some (sym from.1 ∙ long)))
answer_flat s flat (Write lba n) lun bytes got some serving long from = ap Good (no_bytes got long)
answer_flat s flat (Sync lba n) lun bytes got some serving long from = ap Good (no_bytes got long)
answer_flat s flat TestReady lun bytes got some serving long from = ap Good (no_bytes got long)
answer_flat s flat Capacity lun bytes got some serving long from = absurd serving
answer_flat s flat (ReadBuffer region sub len) lun bytes got some serving long from = absurd serving
answer_flat s flat (Prefetch lba id len) lun bytes got some serving long from = absurd serving
answer_flat s flat (InactOne region) lun bytes got some serving long from = absurd serving
answer_flat s flat InactAll lun bytes got some serving long from = absurd serving

-- a command that has got nothing
pub got_none : (s : Sizes) (flat : Flat) (command : Cdb) (lun : ℕ) → GotFrom s flat command lun []
got_none s flat (Read lba n) lun = (0, omega arith, refl)
got_none s flat (HpbRead lba entry n id) lun = (0, omega arith, refl)
got_none s flat _ lun = tt

pub first_none : (s : Sizes) (flat : Flat) (os : List OpenCommand) → AllByRecursion (IsProper s) os → AllByRecursion IsUntouched (map (kept_as s) (filter is_out os)) → FirstGot s flat os
first_none s flat [] proper untouched = tt
first_none s flat (o ∷ os) proper untouched = subst (GotFrom s flat o.command o.lun) (sym (by_out o.out refl untouched)) (got_none s flat o.command o.lun)
  where
    by_out : (b : Bool) → o.out ≡ b → AllByRecursion IsUntouched (map (kept_as s) (cond b (o ∷ filter is_out os) (filter is_out os))) → o.got ≡ []
    by_out true out all = no_bytes o.got all.0.sent
    by_out false out all = (proper.0.fresh out).got

-- one more request
pub after_one_more : (s : Sizes) (flat : Flat) (done : List Asked) (a : Asked) → flat_after s flat (done ++ a ∷ []) ≡ written_by s a.request (flat_after s flat done)
after_one_more s flat [] a = refl
after_one_more s flat (x ∷ xs) a = after_one_more s (written_by s x.request flat) xs a

pub answers_one_more : (s : Sizes) (flat : Flat) (done : List Asked) (a : Asked)
    → flat_answers s flat (done ++ a ∷ []) ≡ flat_answers s flat done ++ record { number = a.number; outcome = Came (flat_answer (flat_after s flat done) a.request) } ∷ []
answers_one_more s flat [] a = refl
answers_one_more s flat (x ∷ xs) a =
    ap (λ (rest : List Answered). record { number = x.number; outcome = Came (flat_answer flat x.request) } ∷ rest) (answers_one_more s (written_by s x.request flat) xs a)
