-- How often a driver can send before it hears of the device again.
use Rattle.std.proofs.Common.{◌≡◌, ℕ, ◌+◌, ◌-◌, ◌≤◌, ◌<◌, Bool, true, false, cond, not, ◌&&◌, List, [], ◌∷◌, ◌++◌, length, Option, Some, None, refl, sym, ◌∙◌, ap, subst, arith}
use Rattle.std.specs.Prelude.{if◌then◌else◌, nat_lt}
use Rattle.std.specs.List.{find}
use Rattle.std.proofs.lemmas.Bool.{false≢true}
use Rattle.std.proofs.lemmas.Bool.Decides.{nat_tests}
use Rattle.upiu_wire.specs.Upiu.{Upiu}
use Rattle.flat_unit.specs.Sizes.{Sizes}
use Rattle.driver_laws.specs.Commands.{Begin, Next, Nothing, OpenCommand, Piece, Wanted, after_next, change_first, is_waiting, next_of, next_owing, next_waiting, open_as, opened, opened_with}
use Rattle.driver_laws.specs.Commands.{owes_data, tags, upiu_of_next, with_begin, with_piece}
use Rattle.driver_laws.proofs.Tags.{tag_is_free}
use Rattle.driver_caches.specs.Machine.{Machine, Own, evicted_from, is_nothing, loads, may_send_own, wanted_from, with_evicted, with_own, with_picked, with_wanted}
use Rattle.driver_commands.specs.Calls.{IsSent}
use Rattle.hpb_driver.specs.State.{all_wait, to_send, waits}

-- the first command that passes a test waits for less, and so do all
change_less : (test : OpenCommand → Bool) (f : OpenCommand → OpenCommand) (opens : List OpenCommand) (o : OpenCommand) → ((x : OpenCommand) → test x ≡ true → waits (f x) < waits x)
    → find test opens ≡ Some o → all_wait (change_first test f opens) < all_wait opens
change_less test f [] o less is = absurd (none_some o is)
  where
    none_some : (x : OpenCommand) → None ≡ Some x → ⊥
    none_some x e = cc
change_less test f (x ∷ xs) o less is = by_test (test x) refl is (change_less test f xs o less)
  where
    by_test : (b : Bool) → test x ≡ b → cond b (Some x) (find test xs) ≡ Some o → (find test xs ≡ Some o → all_wait (change_first test f xs) < all_wait xs)
        → all_wait (if b then f x ∷ xs else x ∷ change_first test f xs) < all_wait (x ∷ xs)
    by_test true passes found rest = let fewer = less x passes in omega (arith, fewer)
    by_test false fails found rest = let fewer = rest found in omega (arith, fewer)

change_count : (test : OpenCommand → Bool) (f : OpenCommand → OpenCommand) (opens : List OpenCommand) → length (change_first test f opens) ≡ length opens
change_count test f [] = refl
change_count test f (x ∷ xs) = by_test (test x) (change_count test f xs)
  where
    by_test : (b : Bool) → length (change_first test f xs) ≡ length xs → length (if b then f x ∷ xs else x ∷ change_first test f xs) ≡ length (x ∷ xs)
    by_test true rest = refl
    by_test false rest = omega (arith, rest)

-- a command that waits has no COMMAND to send any more
begin_less : (x : OpenCommand) → is_waiting x ≡ true → waits (with_begin x) < waits x
begin_less x is = by_out x.out refl is
  where
    by_out : (b : Bool) → x.out ≡ b → not b ≡ true → waits (with_begin x) < waits x
    by_out true out passes = absurd (false≢true passes)
    by_out false out passes =
        let before = ap (λ (b : Bool). (if b then 0 else 1) + (x.asked - x.given)) out in
        omega (arith, before)

-- a command that owes data owes less
piece_less : (s : Sizes) (x : OpenCommand) → 0 < s.block → owes_data x ≡ true → waits (with_piece s x) < waits x
piece_less s x some owes =
    let less : x.given < x.asked = grind (arith, nat_tests, owes) in
    omega (arith, some, less)

-- what is sent of the commands that are open leaves less to send
after_less : (s : Sizes) (opens : List OpenCommand) → 0 < s.block → is_nothing (next_of opens) ≡ false → all_wait (after_next s opens (next_of opens)) < all_wait opens
after_less s opens some sends = by_owing (find owes_data opens) refl sends
  where
    by_waiting : (o : Option OpenCommand) → find is_waiting opens ≡ o → is_nothing (next_waiting o) ≡ false → all_wait (after_next s opens (next_waiting o)) < all_wait opens
    by_waiting (Some o) is going = change_less is_waiting with_begin opens o begin_less is
    by_waiting None is going = absurd (false≢true (sym going))

    by_owing : (o : Option OpenCommand) → find owes_data opens ≡ o → is_nothing (next_owing opens o) ≡ false → all_wait (after_next s opens (next_owing opens o)) < all_wait opens
    by_owing (Some o) is going = change_less owes_data (with_piece s) opens o (λ x owes. piece_less s x some owes) is
    by_owing None is going = by_waiting (find is_waiting opens) refl going

pub after_count : (s : Sizes) (opens : List OpenCommand) (next : Next) → length (after_next s opens next) ≡ length opens
after_count s opens (Piece o) = change_count owes_data (with_piece s) opens
after_count s opens (Begin o) = change_count is_waiting with_begin opens
after_count s opens Nothing = refl

-- something is sent
sends_by : (s : Sizes) (next : Next) (v : Upiu) → upiu_of_next s next ≡ Some v → is_nothing next ≡ false
sends_by s (Piece o) v is = refl
sends_by s (Begin o) v is = refl
sends_by s Nothing v is = cc

-- one more command
wait_behind : (opens : List OpenCommand) (x : OpenCommand) → all_wait (opens ++ x ∷ []) ≡ all_wait opens + waits x
wait_behind [] x = omega arith
wait_behind (y ∷ ys) x = let rest = wait_behind ys x in omega (arith, rest)

count_behind : (opens : List OpenCommand) (x : OpenCommand) → length (opens ++ x ∷ []) ≡ length opens + 1
count_behind [] x = refl
count_behind (y ∷ ys) x = let rest = count_behind ys x in omega (arith, rest)

-- a command that is opened takes a tag, and waits
abbrev to_send_of : List OpenCommand → ℕ
to_send_of opens = (32 - length opens) + all_wait opens

opened_sends : (opens : List OpenCommand) (w : Wanted) → length opens < 32 → to_send_of (opened opens w) ≤ to_send_of opens
opened_sends opens w few =
    let free = tag_is_free opens few in
    let x = open_as w free.0 in
    let count = count_behind opens x in
    let waiting = wait_behind opens x in
    subst (λ (tag : Option ℕ). to_send_of (opened_with opens w tag) ≤ to_send_of opens) (sym free.1) (omega (arith, count, waiting, few))

wanted_sends : (opens : List OpenCommand) (w : Option Wanted) → length opens < 32 → to_send_of (with_wanted w opens) ≤ to_send_of opens
wanted_sends opens (Some w) few = opened_sends opens w few
wanted_sends opens None few = omega arith

evicted_sends : (m : Machine) (own : Option Own) → length m.opens < 32 → to_send_of (with_evicted m own).opens ≤ to_send_of m.opens
evicted_sends m (Some own) few = opened_sends m.opens own.wanted few
evicted_sends m None few = by_loads (loads m.opens)
  where
    by_loads : (b : Bool) → to_send_of (if b then m else with_picked m (wanted_from 0 m.caches)).opens ≤ to_send_of m.opens
    by_loads true = omega arith
    by_loads false = wanted_sends m.opens (wanted_from 0 m.caches).wanted few

and_first : (a b c : Bool) → (a && (b && c)) ≡ true → b ≡ true
and_first true true c is = refl
and_first true false c is = is
and_first false b c is = absurd (false≢true is)

own_sends : (m : Machine) → to_send_of (with_own m).opens ≤ to_send_of m.opens
own_sends m = by_may (may_send_own m) refl
  where
    by_may : (b : Bool) → may_send_own m ≡ b → to_send_of (if b then with_evicted m (evicted_from 0 m.caches) else m).opens ≤ to_send_of m.opens
    by_may true is =
        let free = and_first (is_nothing (next_of m.opens)) (nat_lt (length m.opens) tags) (not m.held && m.on) is in
        evicted_sends m (evicted_from 0 m.caches) (grind (arith, nat_tests, free))
    by_may false is = omega arith

-- a driver that has sent something sends less often from then on
pub sent_fewer : (s : Sizes) (m own : Machine) (now : List OpenCommand) (sent : Bool) (before out : List ℕ) → 0 < s.block → own ≡ with_own m → now ≡ after_next s own.opens (next_of own.opens)
    → IsSent (upiu_of_next s (next_of own.opens)) sent before out → sent ≡ true → (32 - length now) + all_wait now < to_send m
sent_fewer s m own now sent before out some owns leads is sends =
    let going : is_nothing (next_of own.opens) ≡ false = by_next (upiu_of_next s (next_of own.opens)) refl is in
    let less = after_less s own.opens some going in
    let count = after_count s own.opens (next_of own.opens) in
    let opened = own_sends m in
    let same = ap (λ (x : Machine). to_send_of x.opens) owns in
    subst (λ (os : List OpenCommand). (32 - length os) + all_wait os < to_send m) (sym leads) (omega (arith, less, count, opened, same))
  where
    by_next : (next : Option Upiu) → upiu_of_next s (next_of own.opens) ≡ next → IsSent next sent before out → is_nothing (next_of own.opens) ≡ false
    by_next (Some v) was told = sends_by s (next_of own.opens) v was
    by_next None was told = absurd (false≢true (sym told.0 ∙ sends))
