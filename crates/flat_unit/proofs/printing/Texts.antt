-- Two different histories have different texts.
use Rattle.std.proofs.Common.{◌≡◌, ◌⊎◌, inl, inr, ℕ, zero, suc, ◌+◌, ◌/◌, ◌%◌, ◌<◌, ◌^◌, Bool, true, false, ◌||◌, eqb}
use Rattle.std.proofs.Common.{List, [], ◌∷◌, ◌++◌, length, codes, decimal, refl, sym, ◌∙◌, ap, arith, append_assoc}
use Rattle.std.proofs.Common.{slice_index, ◌==◌, ⊎_elim}
use Rattle.std.specs.Prelude.{if◌then◌else◌}
use Rattle.std.specs.List.{list_any}
use Rattle.std.proofs.lemmas.Bool.{false≢true, eqb-true, eq-eqb}
use Rattle.std.proofs.lemmas.Bool.Decides.{nat_tests}
use Rattle.std.proofs.lemmas.List.{append-nil}
use Rattle.std.proofs.lemmas.List.Folds.{list_any-append}
use Rattle.std.proofs.lemmas.Fmt.{decimal_by_steps, decimal_injective, decimal_nonempty}
use Rattle.hex.specs.Hex.{IsBytes, decode_of, encode_lower, encode_with, lower_digits}
use Rattle.hex.proofs.HexLemmas.{decode_of-encode_lower}
use Rattle.flash_pages.specs.declared.chip.ChipOp.{ChipOp}
use Rattle.flash_pages.specs.declared.chip.ChipOp.TheVariants.{Read, Program, Erase}
use Rattle.flat_unit.specs.declared.event.Event.{Event}
use Rattle.flat_unit.specs.declared.event.Event.TheVariants.{Host, Device, Reset, Moved, Failed, Cleared, Switched, Gone}
use Rattle.flat_unit.specs.History.{History}
use Rattle.flat_unit.specs.Laws.{HasRoom, HaveRoom}
use Rattle.flat_unit.specs.Print.{op_text, place_text, print, text_of}

-- whether a text has the character
abbrev has : ℕ → List ℕ → Bool
has c text = list_any (λ (x : ℕ). x == c) text

-- the parts of a text between the characters c, each of which ends its part
abbrev with_front : ℕ → List (List ℕ) → List (List ℕ)
with_front x [] = (x ∷ []) ∷ []
with_front x (part ∷ parts) = (x ∷ part) ∷ parts

abbrev parts_of : ℕ → List ℕ → List (List ℕ)
parts_of c [] = []
parts_of c (x ∷ xs) = if x == c then [] ∷ parts_of c xs else with_front x (parts_of c xs)

-- the first part ends at the first character c
first_part : (c : ℕ) (text rest : List ℕ) → has c text ≡ false → parts_of c (text ++ c ∷ rest) ≡ text ∷ parts_of c rest
first_part c [] rest none = ap (λ (b : Bool). if b then [] ∷ parts_of c rest else with_front c (parts_of c rest)) (eq-eqb c c refl)
first_part c (x ∷ text) rest none =
    elim (x == c) as (λ b. (b || has c text) ≡ false → (if b then [] ∷ parts_of c (text ++ c ∷ rest) else with_front x (parts_of c (text ++ c ∷ rest))) ≡ (x ∷ text) ∷ parts_of c rest) [
      | true ↦ λ is. absurd (false≢true (sym is))
      | false ↦ λ is. ap (with_front x) (first_part c text rest is)
    ] none

-- a text without c has at most one part
only_part : (c x : ℕ) (text : List ℕ) → has c (x ∷ text) ≡ false → parts_of c (x ∷ text) ≡ (x ∷ text) ∷ []
only_part c x [] none =
    elim (x == c) as (λ b. (b || false) ≡ false → (if b then [] ∷ [] else (x ∷ []) ∷ []) ≡ (x ∷ []) ∷ []) [
      | true ↦ λ is. absurd (false≢true (sym is))
      | false ↦ λ is. refl
    ] none
only_part c x (y ∷ text) none =
    elim (x == c) as (λ b. (b || has c (y ∷ text)) ≡ false → (if b then [] ∷ parts_of c (y ∷ text) else with_front x (parts_of c (y ∷ text))) ≡ (x ∷ y ∷ text) ∷ []) [
      | true ↦ λ is. absurd (false≢true (sym is))
      | false ↦ λ is. ap (with_front x) (only_part c y text is)
    ] none

-- the lines of a history, the oldest first, before other lines
abbrev texts_onto : History → List (List ℕ) → List (List ℕ)
texts_onto [] ls = ls
texts_onto (x ∷ e) ls = texts_onto e (text_of x ∷ ls)

-- no digit is a line's end or a colon
table_has_no : (c : ℕ) (table : List ℕ) (d : ℕ) → has c table ≡ false → eqb 0 c ≡ false → eqb (slice_index table d) c ≡ false
table_has_no c [] d none other = other
table_has_no c (x ∷ table) zero none other =
    elim (x == c) as (λ b. (b || has c table) ≡ false → b ≡ false) [
      | true ↦ λ is. is
      | false ↦ λ is. refl
    ] none
table_has_no c (x ∷ table) (suc d) none other =
    table_has_no c table d (elim (x == c) as (λ b. (b || has c table) ≡ false → has c table ≡ false) [
      | true ↦ λ is. absurd (false≢true (sym is))
      | false ↦ λ is. is
    ] none) other

both_false : (a b : Bool) → a ≡ false → b ≡ false → (a || b) ≡ false
both_false a b p q = ap (λ (x : Bool). x || b) p ∙ q

hex_has_no_end : (bytes : List ℕ) → has 10 (encode_lower bytes) ≡ false
unfolding encode_with
hex_has_no_end [] = refl
hex_has_no_end (b ∷ bytes) =
    both_false _ _ (table_has_no 10 lower_digits (b / 16) refl refl) (both_false _ _ (table_has_no 10 lower_digits (b % 16) refl refl) (hex_has_no_end bytes))

decimal_has_no : (c n : ℕ) → n < 2 ^ 64 → (c ≡ 10) ⊎ (c ≡ 58) → has c (decimal n) ≡ false
decimal_has_no c n fits is = decimal_by_steps (λ n ds. has c ds ≡ false)
    (λ n below. both_false _ _ (no_digit n below) refl)
    (λ n ds above none. list_any-append (λ (x : ℕ). x == c) ds ((48 + n % 10) ∷ []) ∙ both_false _ _ none (both_false _ _ (no_digit (n % 10) (omega arith)) refl))
    n fits
  where
    no_digit : (d : ℕ) → d < 10 → eqb (48 + d) c ≡ false
    no_digit d below = ⊎_elim (λ (e : c ≡ 10). grind (arith, nat_tests)) (λ (e : c ≡ 58). grind (arith, nat_tests)) is

op_has_no_end : (op : ChipOp) → has 10 (op_text op) ≡ false
op_has_no_end Read = refl
op_has_no_end Program = refl
op_has_no_end Erase = refl

place_has_no_end : (lun lba : ℕ) → lun < 2 ^ 8 → lba < 2 ^ 32 → has 10 (place_text lun lba) ≡ false
place_has_no_end lun lba lun_fits lba_fits =
    elim (lun == 0) as (λ b. has 10 (if b then decimal lba else decimal lun ++ codes ":" ++ decimal lba) ≡ false) [
      | true ↦ decimal_has_no 10 lba (omega arith) (inl refl)
      | false ↦ list_any-append (λ (x : ℕ). x == 10) (decimal lun ++ 58 ∷ []) (decimal lba)
          ∙ both_false _ _ (list_any-append (λ (x : ℕ). x == 10) (decimal lun) (58 ∷ []) ∙ both_false _ _ (decimal_has_no 10 lun (omega arith) (inl refl)) refl)
          (decimal_has_no 10 lba (omega arith) (inl refl))
    ]

text_has_no_end : (x : Event) → HasRoom x → has 10 (text_of x) ≡ false
text_has_no_end (Host bytes) room = hex_has_no_end bytes
text_has_no_end (Device bytes) room = hex_has_no_end bytes
text_has_no_end Reset room = refl
text_has_no_end (Moved lun lba) room = place_has_no_end lun lba room.0 room.1
text_has_no_end (Failed op) room = op_has_no_end op
text_has_no_end Cleared room = refl
text_has_no_end (Switched true) room = refl
text_has_no_end (Switched false) room = refl
text_has_no_end (Gone tag) room = decimal_has_no 10 tag (omega arith) (inl refl)

-- the lines of a text are those of its events
lines_of : (e : History) (rest : List ℕ) → HaveRoom e → parts_of 10 (print e ++ rest) ≡ texts_onto e (parts_of 10 rest)
unfolding print
lines_of [] rest room = refl
lines_of (x ∷ e) rest room =
    ap (parts_of 10) (append_assoc (print e) (text_of x ++ codes "\n") rest ∙ ap (λ (l : List ℕ). print e ++ l) (append_assoc (text_of x) (codes "\n") rest))
    ∙ lines_of e (text_of x ++ 10 ∷ rest) room.1
    ∙ ap (texts_onto e) (first_part 10 (text_of x) rest (text_has_no_end x room.0))

-- the newest line stands last
newest_last : (e : History) (ls more : List (List ℕ)) → texts_onto e (ls ++ more) ≡ texts_onto e ls ++ more
newest_last [] ls more = refl
newest_last (x ∷ e) ls more = newest_last e (text_of x ∷ ls) more

no_item : {X : Type 0} (x : X) (xs : List X) → xs ++ x ∷ [] ≡ [] → ⊥
no_item x [] is = cc
no_item x (y ∷ xs) is = cc

same_ends : {X : Type 0} (xs ys : List X) (x y : X) → xs ++ x ∷ [] ≡ ys ++ y ∷ [] → (xs ≡ ys) × (x ≡ y)
same_ends [] [] x y is = (refl, cc)
same_ends [] (b ∷ ys) x y is = absurd (no_item y ys (let e : [] ≡ ys ++ y ∷ [] = cc in sym e))
same_ends (a ∷ xs) [] x y is = absurd (no_item x xs (let e : xs ++ x ∷ [] ≡ [] = cc in e))
same_ends (a ∷ xs) (b ∷ ys) x y is =
    let head : a ≡ b = cc in
    let tail : xs ++ x ∷ [] ≡ ys ++ y ∷ [] = cc in
    let both = same_ends xs ys x y tail in
    ((λ i. head i ∷ both.0 i), both.1)

-- a text tells its event
same_hex : (a b : List ℕ) → IsBytes a → IsBytes b → encode_lower a ≡ encode_lower b → a ≡ b
same_hex a b a_bytes b_bytes is =
    let e = sym (decode_of-encode_lower a a_bytes) ∙ ap decode_of is ∙ decode_of-encode_lower b b_bytes in cc

colon_parts : (lun lba : ℕ) → lun < 2 ^ 8 → lba < 2 ^ 32 → parts_of 58 (decimal lun ++ codes ":" ++ decimal lba) ≡ decimal lun ∷ parts_of 58 (decimal lba)
colon_parts lun lba lun_fits lba_fits =
    ap (parts_of 58) (append_assoc (decimal lun) (58 ∷ []) (decimal lba)) ∙ first_part 58 (decimal lun) (decimal lba) (decimal_has_no 58 lun (omega arith) (inr refl))

one_part : (c : ℕ) (text : List ℕ) → 0 < length text → has c text ≡ false → parts_of c text ≡ text ∷ []
one_part c [] some none = absurd (omega arith)
one_part c (x ∷ text) some none = only_part c x text none

lba_part : (lba : ℕ) → lba < 2 ^ 32 → parts_of 58 (decimal lba) ≡ decimal lba ∷ []
lba_part lba fits = one_part 58 (decimal lba) (decimal_nonempty lba (omega arith)) (decimal_has_no 58 lba (omega arith) (inr refl))

same_place : (a b : Bool) (lun lba lun' lba' : ℕ) → (lun == 0) ≡ a → (lun' == 0) ≡ b → lun < 2 ^ 8 → lba < 2 ^ 32 → lun' < 2 ^ 8 → lba' < 2 ^ 32
    → (if a then decimal lba else decimal lun ++ codes ":" ++ decimal lba) ≡ (if b then decimal lba' else decimal lun' ++ codes ":" ++ decimal lba')
    → (lun ≡ lun') × (lba ≡ lba')
same_place true true lun lba lun' lba' is_zero is_zero' p q p' q' is =
    (eqb-true lun 0 is_zero ∙ sym (eqb-true lun' 0 is_zero'), decimal_injective lba lba' (omega arith) (omega arith) is)
same_place true false lun lba lun' lba' is_zero is_zero' p q p' q' is =
    let e : decimal lba ∷ [] ≡ decimal lun' ∷ decimal lba' ∷ [] = sym (lba_part lba q) ∙ ap (parts_of 58) is ∙ colon_parts lun' lba' p' q'
    ∙ ap (λ (l : List (List ℕ)). decimal lun' ∷ l) (lba_part lba' q') in
    absurd (cc)
same_place false true lun lba lun' lba' is_zero is_zero' p q p' q' is =
    let e : decimal lba' ∷ [] ≡ decimal lun ∷ decimal lba ∷ [] = sym (lba_part lba' q') ∙ ap (parts_of 58) (sym is) ∙ colon_parts lun lba p q
    ∙ ap (λ (l : List (List ℕ)). decimal lun ∷ l) (lba_part lba q) in
    absurd (cc)
same_place false false lun lba lun' lba' is_zero is_zero' p q p' q' is =
    let e : decimal lun ∷ decimal lba ∷ [] ≡ decimal lun' ∷ decimal lba' ∷ [] =
    sym (colon_parts lun lba p q ∙ ap (λ (l : List (List ℕ)). decimal lun ∷ l) (lba_part lba q)) ∙ ap (parts_of 58) is ∙ colon_parts lun' lba' p' q'
    ∙ ap (λ (l : List (List ℕ)). decimal lun' ∷ l) (lba_part lba' q') in
    let one : decimal lun ≡ decimal lun' = cc in
    let two : decimal lba ≡ decimal lba' = cc in
    (decimal_injective lun lun' (omega arith) (omega arith) one, decimal_injective lba lba' (omega arith) (omega arith) two)

differ : (place : ℕ) (xs ys : List ℕ) → eqb (slice_index xs place) (slice_index ys place) ≡ false → xs ≡ ys → ⊥
differ place xs ys apart same = false≢true (sym apart ∙ eq-eqb (slice_index xs place) (slice_index ys place) (ap (λ (l : List ℕ). slice_index l place) same))

same_event : (x y : Event) → HasRoom x → HasRoom y → text_of x ≡ text_of y → x ≡ y
same_event (Host a) (Host b) p q is = let e : encode_lower a ≡ encode_lower b = cc in ap Host (same_hex a b p q e)
same_event (Device a) (Device b) p q is = let e : encode_lower a ≡ encode_lower b = cc in ap Device (same_hex a b p q e)
same_event Reset Reset p q is = refl
same_event (Moved lun lba) (Moved lun' lba') p q is =
    let e : place_text lun lba ≡ place_text lun' lba' = cc in
    let both = same_place (lun == 0) (lun' == 0) lun lba lun' lba' refl refl p.0 p.1 q.0 q.1 e in
    (λ i. Moved (both.0 i) (both.1 i))
same_event (Failed Read) (Failed Read) p q is = refl
same_event (Failed Program) (Failed Program) p q is = refl
same_event (Failed Erase) (Failed Erase) p q is = refl
same_event Cleared Cleared p q is = refl
same_event (Switched true) (Switched true) p q is = refl
same_event (Switched false) (Switched false) p q is = refl
same_event (Gone tag) (Gone tag') p q is = let e : decimal tag ≡ decimal tag' = cc in ap Gone (decimal_injective tag tag' (omega arith) (omega arith) e)
same_event (Host a) (Failed Read) p q is = absurd (differ 0 _ _ refl is)
same_event (Host a) (Failed Program) p q is = absurd (differ 0 _ _ refl is)
same_event (Host a) (Failed Erase) p q is = absurd (differ 0 _ _ refl is)
same_event (Host a) (Switched true) p q is = absurd (differ 0 _ _ refl is)
same_event (Host a) (Switched false) p q is = absurd (differ 0 _ _ refl is)
same_event (Host a) _ p q is = absurd (differ 0 _ _ refl is)
same_event (Device a) (Failed Read) p q is = absurd (differ 0 _ _ refl is)
same_event (Device a) (Failed Program) p q is = absurd (differ 0 _ _ refl is)
same_event (Device a) (Failed Erase) p q is = absurd (differ 0 _ _ refl is)
same_event (Device a) (Switched true) p q is = absurd (differ 0 _ _ refl is)
same_event (Device a) (Switched false) p q is = absurd (differ 0 _ _ refl is)
same_event (Device a) _ p q is = absurd (differ 0 _ _ refl is)
same_event Reset (Failed Read) p q is = absurd (differ 0 _ _ refl is)
same_event Reset (Failed Program) p q is = absurd (differ 0 _ _ refl is)
same_event Reset (Failed Erase) p q is = absurd (differ 0 _ _ refl is)
same_event Reset (Switched true) p q is = absurd (differ 0 _ _ refl is)
same_event Reset (Switched false) p q is = absurd (differ 0 _ _ refl is)
same_event Reset _ p q is = absurd (differ 0 _ _ refl is)
same_event (Moved lun lba) (Failed Read) p q is = absurd (differ 0 _ _ refl is)
same_event (Moved lun lba) (Failed Program) p q is = absurd (differ 0 _ _ refl is)
same_event (Moved lun lba) (Failed Erase) p q is = absurd (differ 0 _ _ refl is)
same_event (Moved lun lba) (Switched true) p q is = absurd (differ 0 _ _ refl is)
same_event (Moved lun lba) (Switched false) p q is = absurd (differ 0 _ _ refl is)
same_event (Moved lun lba) _ p q is = absurd (differ 0 _ _ refl is)
same_event (Failed Read) (Failed Program) p q is = absurd (differ 2 _ _ refl is)
same_event (Failed Read) (Failed Erase) p q is = absurd (differ 2 _ _ refl is)
same_event (Failed Read) (Switched true) p q is = absurd (differ 0 _ _ refl is)
same_event (Failed Read) (Switched false) p q is = absurd (differ 0 _ _ refl is)
same_event (Failed Read) _ p q is = absurd (differ 0 _ _ refl is)
same_event (Failed Program) (Failed Read) p q is = absurd (differ 2 _ _ refl is)
same_event (Failed Program) (Failed Erase) p q is = absurd (differ 2 _ _ refl is)
same_event (Failed Program) (Switched true) p q is = absurd (differ 0 _ _ refl is)
same_event (Failed Program) (Switched false) p q is = absurd (differ 0 _ _ refl is)
same_event (Failed Program) _ p q is = absurd (differ 0 _ _ refl is)
same_event (Failed Erase) (Failed Read) p q is = absurd (differ 2 _ _ refl is)
same_event (Failed Erase) (Failed Program) p q is = absurd (differ 2 _ _ refl is)
same_event (Failed Erase) (Switched true) p q is = absurd (differ 0 _ _ refl is)
same_event (Failed Erase) (Switched false) p q is = absurd (differ 0 _ _ refl is)
same_event (Failed Erase) _ p q is = absurd (differ 0 _ _ refl is)
same_event Cleared (Failed Read) p q is = absurd (differ 0 _ _ refl is)
same_event Cleared (Failed Program) p q is = absurd (differ 0 _ _ refl is)
same_event Cleared (Failed Erase) p q is = absurd (differ 0 _ _ refl is)
same_event Cleared (Switched true) p q is = absurd (differ 2 _ _ refl is)
same_event Cleared (Switched false) p q is = absurd (differ 2 _ _ refl is)
same_event Cleared _ p q is = absurd (differ 0 _ _ refl is)
same_event (Switched true) (Failed Read) p q is = absurd (differ 0 _ _ refl is)
same_event (Switched true) (Failed Program) p q is = absurd (differ 0 _ _ refl is)
same_event (Switched true) (Failed Erase) p q is = absurd (differ 0 _ _ refl is)
same_event (Switched true) (Switched false) p q is = absurd (differ 3 _ _ refl is)
same_event (Switched true) Cleared p q is = absurd (differ 2 _ _ refl is)
same_event (Switched true) _ p q is = absurd (differ 0 _ _ refl is)
same_event (Switched false) (Failed Read) p q is = absurd (differ 0 _ _ refl is)
same_event (Switched false) (Failed Program) p q is = absurd (differ 0 _ _ refl is)
same_event (Switched false) (Failed Erase) p q is = absurd (differ 0 _ _ refl is)
same_event (Switched false) (Switched true) p q is = absurd (differ 3 _ _ refl is)
same_event (Switched false) Cleared p q is = absurd (differ 2 _ _ refl is)
same_event (Switched false) _ p q is = absurd (differ 0 _ _ refl is)
same_event (Gone tag) (Failed Read) p q is = absurd (differ 0 _ _ refl is)
same_event (Gone tag) (Failed Program) p q is = absurd (differ 0 _ _ refl is)
same_event (Gone tag) (Failed Erase) p q is = absurd (differ 0 _ _ refl is)
same_event (Gone tag) (Switched true) p q is = absurd (differ 0 _ _ refl is)
same_event (Gone tag) (Switched false) p q is = absurd (differ 0 _ _ refl is)
same_event (Gone tag) _ p q is = absurd (differ 0 _ _ refl is)

same_history : (e f : History) → HaveRoom e → HaveRoom f → texts_onto e [] ≡ texts_onto f [] → e ≡ f
same_history [] [] p q is = refl
same_history [] (y ∷ f) p q is = absurd (no_item (text_of y) (texts_onto f []) (sym (newest_last f [] (text_of y ∷ [])) ∙ sym is))
same_history (x ∷ e) [] p q is = absurd (no_item (text_of x) (texts_onto e []) (sym (newest_last e [] (text_of x ∷ [])) ∙ is))
same_history (x ∷ e) (y ∷ f) p q is =
    let both = same_ends (texts_onto e []) (texts_onto f []) (text_of x) (text_of y) (sym (newest_last e [] (text_of x ∷ [])) ∙ is ∙ newest_last f [] (text_of y ∷ [])) in
    let first = same_event x y p.0 q.0 both.1 in
    let rest = same_history e f p.1 q.1 both.0 in
    (λ i. first i ∷ rest i)

-- a text is that of one history
pub print_injective : (e f : History) → HaveRoom e → HaveRoom f → print e ≡ print f → e ≡ f
print_injective e f p q is =
    same_history e f p q
    (sym (lines_of e [] p) ∙ ap (parts_of 10) (append-nil (print e) ∙ is ∙ sym (append-nil (print f))) ∙ lines_of f [] q)
