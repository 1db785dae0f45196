-- The queue of open commands: which one goes out next, and that only the first one sends data.
use Rattle.std.proofs.Common.{◌≡◌, ℕ, ◌<◌, Bool, true, false, cond, not, ◌||◌, List, [], ◌∷◌, ◌++◌, length, map, filter, Some, None, refl, sym, ◌∙◌, ap, subst, arith, ◌==◌}
use Rattle.std.specs.Prelude.{if◌then◌else◌}
use Rattle.std.specs.List.{AllByRecursion, list_any, find}
use Rattle.std.proofs.lemmas.Bool.{false≢true}
use Rattle.std.proofs.lemmas.Bool.Decides.{nat_tests}
use Rattle.flat_unit.specs.Reply.{has_tag}
use Rattle.flat_unit.specs.Sizes.{Sizes}
use Rattle.flat_unit.specs.Tasks.{IsUntouched}
use Rattle.driver_laws.specs.Commands.{OpenCommand, has, is_out, is_waiting, owes_data, change_first, with_begin}
use Rattle.driver_laws.specs.Fits.{AreApart, IsProper, NoneOut, OutFirst, kept_as}
use Rattle.driver_laws.proofs.Opens.{none_out}

owes_none : (o : OpenCommand) → o.asked ≡ 0 → owes_data o ≡ false
owes_none o none = grind (arith, nat_tests)

-- where no task has asked for data, no command owes any
pub quiet : (s : Sizes) (opens : List OpenCommand) → AllByRecursion (IsProper s) opens → AllByRecursion IsUntouched (map (kept_as s) (filter is_out opens)) → find owes_data opens ≡ None
quiet s [] proper untouched = refl
quiet s (o ∷ os) proper untouched = by_out (λ all. quiet s os proper.1 all) o.out refl untouched
  where
    none : o.asked ≡ 0 → find owes_data os ≡ None → find owes_data (o ∷ os) ≡ None
    none asked rest = ap (λ (b : Bool). cond b (Some o) (find owes_data os)) (owes_none o asked) ∙ rest

    by_out : (AllByRecursion IsUntouched (map (kept_as s) (filter is_out os)) → find owes_data os ≡ None) → (b : Bool) → o.out ≡ b
        → AllByRecursion IsUntouched (map (kept_as s) (cond b (o ∷ filter is_out os) (filter is_out os))) → find owes_data (o ∷ os) ≡ None
    by_out rest true out all = none all.0.asked (rest all.1)
    by_out rest false out all = none (proper.0.fresh out).asked (rest all)

-- none has gone out, so none owes any
pub quiet_waiting : (s : Sizes) (opens : List OpenCommand) → AllByRecursion (IsProper s) opens → NoneOut opens → find owes_data opens ≡ None
quiet_waiting s opens proper none = quiet s opens proper (subst (λ (os : List OpenCommand). AllByRecursion IsUntouched (map (kept_as s) os)) (sym (none_out opens none)) tt)

-- what is said of the command that goes out next
pub record IsNext (s : Sizes) (opens : List OpenCommand) (o : OpenCommand) : Type 0 where
  pub waits : o.out ≡ false
  pub proper : IsProper s o
  pub alone : list_any (has_tag o.tag) (map (kept_as s) (filter is_out opens)) ≡ false
  pub room : length (filter is_out opens) < length opens
  pub leads : filter is_out (change_first is_waiting with_begin opens) ≡ filter is_out opens ++ with_begin o ∷ []

found_other : (test : OpenCommand → Bool) (opens : List OpenCommand) (p : OpenCommand → Bool) (o : OpenCommand) → list_any test opens ≡ false → find p opens ≡ Some o → test o ≡ false
found_other test [] p o none is = absurd (no_open is)
  where
    no_open : None ≡ Some o → ⊥
    no_open is = cc
found_other test (x ∷ xs) p o none is = by_test (λ rest is. found_other test xs p o rest is) (test x) refl none
  where
    by_found : (list_any test xs ≡ false → find p xs ≡ Some o → test o ≡ false) → (b : Bool) → cond b (Some x) (find p xs) ≡ Some o → test x ≡ false → list_any test xs ≡ false → test o ≡ false
    by_found behind true is first rest = let same : x ≡ o = cc in subst (λ (y : OpenCommand). test y ≡ false) same first
    by_found behind false is first rest = behind rest is

    by_test : (list_any test xs ≡ false → find p xs ≡ Some o → test o ≡ false) → (b : Bool) → test x ≡ b → (b || list_any test xs) ≡ false → test o ≡ false
    by_test behind true first none = absurd (false≢true (sym none))
    by_test behind false first none = by_found behind (p x) is first none

pub other_tag : (a b : ℕ) → (a == b) ≡ false → (b == a) ≡ false
other_tag a b is = grind (arith, nat_tests)

none_waits : (o : OpenCommand) → None ≡ Some o → ⊥
none_waits o is = cc

pub next : (s : Sizes) (opens : List OpenCommand) (o : OpenCommand) → OutFirst opens → AreApart opens → AllByRecursion (IsProper s) opens → find is_waiting opens ≡ Some o → IsNext s opens o
next s [] o in_order apart proper is = absurd (none_waits o is)
next s (x ∷ xs) o in_order apart proper is = by_out (λ found. next s xs o in_order.1 apart.1 proper.1 found) x.out refl is
  where
    by_out : (find is_waiting xs ≡ Some o → IsNext s xs o) → (b : Bool) → x.out ≡ b → cond (not b) (Some x) (find is_waiting xs) ≡ Some o → IsNext s (x ∷ xs) o
    by_out behind true out is =
        let rest : IsNext s xs o = behind is in
        let other : (x.tag == o.tag) ≡ false = other_tag o.tag x.tag (found_other (has x.tag) xs is_waiting o apart.0 is) in
        record {
          waits = rest.waits;
          proper = rest.proper;
          alone = ap (λ (b : Bool). list_any (has_tag o.tag) (map (kept_as s) (cond b (x ∷ filter is_out xs) (filter is_out xs)))) out
              ∙ ap (λ (b : Bool). b || list_any (has_tag o.tag) (map (kept_as s) (filter is_out xs))) other ∙ rest.alone;
          room = let r = rest.room in subst (λ (b : Bool). length (cond b (x ∷ filter is_out xs) (filter is_out xs)) < length (x ∷ xs)) (sym out) (omega (arith, r));
          leads = ap (λ (b : Bool). filter is_out (if not b then with_begin x ∷ xs else x ∷ change_first is_waiting with_begin xs)) out
              ∙ ap (λ (b : Bool). cond b (x ∷ filter is_out (change_first is_waiting with_begin xs)) (filter is_out (change_first is_waiting with_begin xs))) out
              ∙ ap (λ (os : List OpenCommand). x ∷ os) rest.leads
              ∙ sym (ap (λ (b : Bool). cond b (x ∷ filter is_out xs) (filter is_out xs) ++ with_begin o ∷ []) out);
        }
    by_out behind false out is =
        let same : x ≡ o = cc in
        let none : filter is_out (x ∷ xs) ≡ [] = none_out (x ∷ xs) (out, in_order.0 out) in
        let behind : filter is_out xs ≡ [] = none_out xs (in_order.0 out) in
        subst (IsNext s (x ∷ xs)) same (record {
          waits = out;
          proper = proper.0;
          alone = ap (λ (os : List OpenCommand). list_any (has_tag x.tag) (map (kept_as s) os)) none;
          room = subst (λ (os : List OpenCommand). length os < length (x ∷ xs)) (sym none) (omega arith);
          leads = ap (λ (b : Bool). filter is_out (if not b then with_begin x ∷ xs else x ∷ change_first is_waiting with_begin xs)) out
              ∙ ap (λ (os : List OpenCommand). with_begin x ∷ os) behind ∙ sym (ap (λ (os : List OpenCommand). os ++ with_begin x ∷ []) none);
        })

-- what stays when the next command goes out
pub begin_uses : (tag : ℕ) (opens : List OpenCommand) → list_any (has tag) (change_first is_waiting with_begin opens) ≡ list_any (has tag) opens
begin_uses tag [] = refl
begin_uses tag (x ∷ xs) = by_out (begin_uses tag xs) x.out
  where
    by_out : list_any (has tag) (change_first is_waiting with_begin xs) ≡ list_any (has tag) xs → (b : Bool)
        → list_any (has tag) (if not b then with_begin x ∷ xs else x ∷ change_first is_waiting with_begin xs) ≡ list_any (has tag) (x ∷ xs)
    by_out same true = ap (λ (b : Bool). has tag x || b) same
    by_out same false = refl

pub begin_apart : (opens : List OpenCommand) → AreApart opens → AreApart (change_first is_waiting with_begin opens)
begin_apart [] apart = tt
begin_apart (x ∷ xs) apart = by_out (begin_apart xs apart.1) x.out
  where
    by_out : AreApart (change_first is_waiting with_begin xs) → (b : Bool) → AreApart (if not b then with_begin x ∷ xs else x ∷ change_first is_waiting with_begin xs)
    by_out rest true = (begin_uses x.tag xs ∙ apart.0, rest)
    by_out rest false = apart

pub begin_in_order : (opens : List OpenCommand) → OutFirst opens → OutFirst (change_first is_waiting with_begin opens)
begin_in_order [] in_order = tt
begin_in_order (x ∷ xs) in_order = by_out (begin_in_order xs in_order.1) x.out refl
  where
    by_out : OutFirst (change_first is_waiting with_begin xs) → (b : Bool) → x.out ≡ b → OutFirst (if not b then with_begin x ∷ xs else x ∷ change_first is_waiting with_begin xs)
    by_out rest true out = (λ waits. absurd (false≢true (sym waits ∙ out)), rest)
    by_out rest false out = (λ waits. absurd (false≢true (sym waits)), in_order.1)

pub begun_proper : (s : Sizes) (o : OpenCommand) → IsProper s o → IsProper s (with_begin o)
begun_proper s o is = record {
  lun = is.lun;
  fields = is.fields;
  range = is.range;
  fits = is.fits;
  expected = is.expected;
  bytes = is.bytes;
  asked = is.asked;
  given = is.given;
  whole = is.whole;
  fresh = λ waits. absurd (false≢true (sym waits));
  serving = is.serving;
  own = is.own;
}

pub begin_proper : (s : Sizes) (opens : List OpenCommand) → AllByRecursion (IsProper s) opens → AllByRecursion (IsProper s) (change_first is_waiting with_begin opens)
begin_proper s [] proper = tt
begin_proper s (x ∷ xs) proper = by_out (begin_proper s xs proper.1) x.out
  where
    by_out : AllByRecursion (IsProper s) (change_first is_waiting with_begin xs) → (b : Bool)
        → AllByRecursion (IsProper s) (if not b then with_begin x ∷ xs else x ∷ change_first is_waiting with_begin xs)
    by_out rest true = (proper.0, rest)
    by_out rest false = (begun_proper s x proper.0, proper.1)

pub begin_length : (opens : List OpenCommand) → length (change_first is_waiting with_begin opens) ≡ length opens
begin_length [] = refl
begin_length (x ∷ xs) = by_out (begin_length xs) x.out
  where
    by_out : length (change_first is_waiting with_begin xs) ≡ length xs → (b : Bool) → length (if not b then with_begin x ∷ xs else x ∷ change_first is_waiting with_begin xs) ≡ length (x ∷ xs)
    by_out same true = omega (arith, same)
    by_out same false = refl
