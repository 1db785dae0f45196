-- One more open command leaves the driver's commands the device's tasks, and a request opens commands that the device serves.
use Rattle.std.proofs.Common.{◌≡◌, inl, ℕ, ◌+◌, ◌*◌, ◌/◌, ◌≤◌, ◌<◌, ◌^◌, Bool, true, false, cond, not, ◌||◌, List, [], ◌∷◌, ◌++◌, length}
use Rattle.std.proofs.Common.{length-append, map, filter, Option, Some, None, refl, sym, ◌∙◌, ap, subst, arith, ◌==◌, append-nil}
use Rattle.std.specs.Prelude.{fold}
use Rattle.std.specs.List.{AllByRecursion, list_any, find, range_with_len}
use Rattle.std.proofs.Math.Nat.{mul-div_cancel_left, mul-mod_right, mul-le-mul_left}
use Rattle.std.proofs.lemmas.Bool.{false≢true, eq-eqb}
use Rattle.std.proofs.lemmas.List.Elements.{filter-append}
use Rattle.std.proofs.lemmas.List.Folds.{list_any-append}
use Rattle.byteorder.specs.Endian.{big_bytes}
use Rattle.hpb_cdb.specs.declared.cdb.Cdb.{Cdb}
use Rattle.hpb_cdb.specs.declared.cdb.Cdb.TheVariants.{Read, HpbRead, Prefetch}
use Rattle.flat_unit.specs.History.{History}
use Rattle.flat_unit.specs.Sizes.{Sizes}
use Rattle.driver_laws.specs.declared.request.Request.{Request}
use Rattle.driver_laws.specs.declared.request.Request.TheVariants.{Read as ReadOf, Write as WriteOf, Sync as SyncAll, Ready}
use Rattle.driver_laws.specs.Commands.{OpenCommand, Wanted, free_tag, has, is_out, open_as, opened, opened_with, tags, uses}
use Rattle.driver_laws.specs.Requests.{Way, Plainly, WithEntry, WithList, commands_of, list_bytes, submitted}
use Rattle.driver_laws.specs.Fits.{AreApart, Fits, GotWhole, IsProper, IsRequest, IsWanted, IsWay, NoneOut, OutFirst, Serves, kept_as}
use Rattle.driver_laws.proofs.Opens.{and_true, within}
use Rattle.driver_laws.proofs.Queueing.{other_tag}

nothing_got : (s : Sizes) (command : Cdb) → GotWhole s command [] 0
nothing_got s (Read lba n) = (0, omega arith)
nothing_got s (HpbRead lba entry n id) = (0, omega arith)
nothing_got s (Prefetch lba id len) = inl refl
nothing_got s _ = tt

pub opened_proper : (s : Sizes) (w : Wanted) (tag : ℕ) → IsWanted s w → IsProper s (open_as w tag)
opened_proper s w tag is = record {
  lun = is.lun;
  fields = is.fields;
  range = is.range;
  fits = is.fits;
  expected = is.expected;
  bytes = is.bytes;
  asked = omega arith;
  given = omega arith;
  whole = nothing_got s w.command;
  fresh = λ _. record { asked = refl; given = refl; got = refl };
  serving = is.serving;
  own = is.own;
}

none_out_more : (opens : List OpenCommand) (o : OpenCommand) → NoneOut opens → o.out ≡ false → NoneOut (opens ++ o ∷ [])
none_out_more [] o none waits = (waits, tt)
none_out_more (x ∷ xs) o none waits = (none.0, none_out_more xs o none.1 waits)

in_order_more : (opens : List OpenCommand) (o : OpenCommand) → OutFirst opens → o.out ≡ false → OutFirst (opens ++ o ∷ [])
in_order_more [] o in_order waits = (λ _. tt, tt)
in_order_more (x ∷ xs) o in_order waits = (λ out. none_out_more xs o (in_order.0 out) waits, in_order_more xs o in_order.1 waits)

any_either : (a b : Bool) → (a || b) ≡ false → (a ≡ false) × (b ≡ false)
any_either true b is = absurd (false≢true (sym is))
any_either false b is = (refl, is)

apart_more : (opens : List OpenCommand) (o : OpenCommand) → AreApart opens → uses opens o.tag ≡ false → AreApart (opens ++ o ∷ [])
apart_more [] o apart free = (refl, tt)
apart_more (x ∷ xs) o apart free =
    let f = any_either (x.tag == o.tag) (list_any (has o.tag) xs) free in
    let other : (o.tag == x.tag) ≡ false = other_tag x.tag o.tag f.0 in (
      list_any-append (has x.tag) xs (o ∷ []) ∙ ap (λ (b : Bool). b || ((o.tag == x.tag) || false)) apart.0 ∙ ap (λ (b : Bool). b || false) other,
      apart_more xs o apart.1 f.1,
    )

all_more : (s : Sizes) (opens : List OpenCommand) (o : OpenCommand) → AllByRecursion (IsProper s) opens → IsProper s o → AllByRecursion (IsProper s) (opens ++ o ∷ [])
all_more s [] o all is = (is, tt)
all_more s (x ∷ xs) o all is = (all.0, all_more s xs o all.1 is)

found_passes : (p : ℕ → Bool) (xs : List ℕ) (x : ℕ) → find p xs ≡ Some x → p x ≡ true
found_passes p [] x is = absurd (no_number is)
  where
    no_number : None ≡ Some x → ⊥
    no_number is = cc
found_passes p (y ∷ ys) x is = by_test (λ rest. found_passes p ys x rest) (p y) refl is
  where
    by_test : (find p ys ≡ Some x → p x ≡ true) → (b : Bool) → p y ≡ b → cond b (Some y) (find p ys) ≡ Some x → p x ≡ true
    by_test behind true passes is = let same : y ≡ x = cc in subst (λ (n : ℕ). p n ≡ true) same passes
    by_test behind false passes is = behind is

is_free : (opens : List OpenCommand) (tag : ℕ) → free_tag opens ≡ Some tag → uses opens tag ≡ false
unfolding free_tag
is_free opens tag is = by_test (uses opens tag) (found_passes (λ (t : ℕ). not (uses opens t)) (range_with_len 0 tags) tag is)
  where
    by_test : (b : Bool) → not b ≡ true → b ≡ false
    by_test true is = absurd (false≢true is)
    by_test false is = refl

-- a command more, which waits
pub opened_fits : (s : Sizes) (opens : List OpenCommand) (w : Wanted) (e : History) → IsWanted s w → length opens < tags → Fits s opens e → Fits s (opened opens w) e
opened_fits s opens w e is room fits = by_tag (free_tag opens) refl
  where
    by_tag : (x : Option ℕ) → free_tag opens ≡ x → Fits s (opened_with opens w x) e
    by_tag None found = fits
    by_tag (Some tag) found = record {
      keeps = fits.keeps ∙ ap (map (kept_as s)) (sym (append-nil (filter is_out opens)) ∙ sym (filter-append is_out opens (open_as w tag ∷ [])));
      in_order = in_order_more opens (open_as w tag) fits.in_order refl;
      apart = apart_more opens (open_as w tag) fits.apart (is_free opens tag found);
      proper = all_more s opens (open_as w tag) fits.proper (opened_proper s w tag is);
      room = let l = length-append opens (open_as w tag ∷ []) in omega (arith, l);
      switch = fits.switch;
      nothing_owed = fits.nothing_owed;
    }

-- the length of a list of entries
list_length : (entries : List ℕ) → length (list_bytes entries) ≡ 8 * length entries
list_length [] = refl
list_length (x ∷ xs) = let e = list_length xs in let l = length-append (big_bytes 8 x) (list_bytes xs) in omega (arith, e, l)

small : (block n : ℕ) → block < 2 ^ 16 → n ≤ 255 → block * n < 2 ^ 32
small block n fits few = let e : block * n ≤ block * 255 = mul-le-mul_left block few in omega arith

-- the commands of a request are ones that the device serves
pub wanted : (s : Sizes) (way : Way) (request : Request) → Serves s → IsRequest s request → IsWay way request → AllByRecursion (IsWanted s) (commands_of way request)
wanted s Plainly (ReadOf lun lba n) serves is way =
    let u = serves.units_fit in let b = small s.block n serves.block_fits is.1 in (
      record {
        lun = is.0;
        fields = refl;
        range = within _ _ is.2;
        fits = (let r = is.2 in omega arith, let r = is.1 in omega arith);
        expected = omega (arith, b);
        bytes = refl;
        serving = λ _. tt;
        own = λ b. absurd (false≢true (sym b));
      },
      tt,
    )
wanted s (WithEntry entry) (ReadOf lun lba n) serves is way =
    let u = serves.units_fit in let b = small s.block n serves.block_fits is.1 in (
      record {
        lun = is.0;
        fields = refl;
        range = within _ _ is.2;
        fits = (let r = is.2 in omega arith, way);
        expected = omega (arith, b);
        bytes = refl;
        serving = λ _. tt;
        own = λ b. absurd (false≢true (sym b));
      },
      tt,
    )
wanted s (WithList id entries) (ReadOf lun lba n) serves is way =
    let u = serves.units_fit in let b = small s.block n serves.block_fits is.1 in
    let few : length entries ≤ 255 = let r = is.1 in let l = way.2 in omega arith in
    let eighth : 8 * length entries / 8 ≡ length entries = mul-div_cancel_left (length entries) (omega arith) in (
      record {
        lun = is.0;
        fields = and_true _ _ (and_true _ _ (and_true _ _ (within 1 id way.0) (within id 127 way.1)) (eq-eqb _ 0 (mul-mod_right 8 (length entries))))
            (within (8 * length entries) 2040 (omega (arith, few)));
        range = within _ _ (let r = is.2 in let l = way.2 in omega (arith, eighth, r, l));
        fits = (let r = is.2 in omega arith, omega (arith, few));
        expected = omega (arith, few);
        bytes = list_length entries;
        serving = λ b. absurd (false≢true b);
        own = λ _. refl;
      },
      (
        record {
          lun = is.0;
          fields = within _ _ way.1;
          range = within _ _ is.2;
          fits = (let r = is.2 in omega arith, way.3);
          expected = omega (arith, b);
          bytes = refl;
          serving = λ _. tt;
          own = λ b. absurd (false≢true (sym b));
        },
        tt,
      ),
    )
wanted s _ (WriteOf lun lba n bytes) serves is way =
    let u = serves.units_fit in let b = small s.block n serves.block_fits is.1 in (
      record {
        lun = is.0;
        fields = refl;
        range = within _ _ is.2;
        fits = (let r = is.2 in omega arith, let r = is.1 in omega arith);
        expected = omega (arith, b);
        bytes = is.3;
        serving = λ _. tt;
        own = λ b. absurd (false≢true (sym b));
      },
      tt,
    )
wanted s _ SyncAll serves is way = (
  record {
    lun = serves.has_units;
    fields = refl;
    range = within _ _ (omega arith);
    fits = (omega arith, omega arith);
    expected = omega arith;
    bytes = refl;
    serving = λ _. tt;
    own = λ b. absurd (false≢true (sym b));
  },
  tt,
)
wanted s _ Ready serves is way = (
  record {
    lun = serves.has_units;
    fields = refl;
    range = refl;
    fits = tt;
    expected = omega arith;
    bytes = refl;
    serving = λ _. tt;
    own = λ b. absurd (false≢true (sym b));
  },
  tt,
)

-- several commands more
opened_length : (opens : List OpenCommand) (w : Wanted) → length (opened opens w) ≤ length opens + 1
opened_length opens w = by_tag (free_tag opens)
  where
    by_tag : (x : Option ℕ) → length (opened_with opens w x) ≤ length opens + 1
    by_tag None = omega arith
    by_tag (Some tag) = let l = length-append opens (open_as w tag ∷ []) in omega (arith, l)

pub all_open : (s : Sizes) (ws : List Wanted) (opens : List OpenCommand) (e : History) → AllByRecursion (IsWanted s) ws → length opens + length ws ≤ tags
    → Fits s opens e → Fits s (fold opened opens ws) e
all_open s [] opens e all room fits = fits
all_open s (w ∷ ws) opens e all room fits =
    let l = opened_length opens w in
    all_open s ws (opened opens w) e all.1 (omega (arith, l)) (opened_fits s opens w e all.0 (omega arith) fits)

pub submitted_fits : (s : Sizes) (way : Way) (request : Request) (opens : List OpenCommand) (e : History) → Serves s → IsRequest s request → IsWay way request
    → length opens + length (commands_of way request) ≤ tags → Fits s opens e → Fits s (submitted way request opens) e
submitted_fits s way request opens e serves is may room fits = all_open s (commands_of way request) opens e (wanted s way request serves is may) room fits
