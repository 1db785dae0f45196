-- The sense that a read of a segment tells.
use Rattle.std.proofs.Common.{◌≡◌, ℕ, ◌+◌, ◌<◌, ◌≤◌, List, [], ◌∷◌, length, Option, Some, None, true, false, Bool, refl, ap, arith, inl, inr, nat_lt}
use Rattle.std.specs.Prelude.{IsSomeAnd, IsNone, if◌then◌else◌}
use Rattle.std.proofs.lemmas.Bool.Decides.{nat_tests}
use Rattle.hpb_sense.specs.declared.sense.Sense.{Sense}
use Rattle.hpb_sense.specs.declared.sense.Sense.TheVariants.{Empty, Fixed, Hint as Hinted, Other}
use Rattle.hpb_sense.specs.Sense.{IsSense, IsWhole, IsCut, sense_len, is_hint, is_fixed, hint_at, fixed_at}
use Rattle.trace_text.specs.Shown.{sense_of, long_sense}

-- what is read is each sense that the segment is
abbrev pub Tells : List ℕ → Option Sense → Type 0
Tells segment read = ((sense : Sense) → IsSense segment sense → IsSomeAnd read (λ told. told ≡ sense)) × (IsCut segment → IsNone read)

told : (read : Option Sense) (sense : Sense) → IsSomeAnd read (λ told. told ≡ sense) → read ≡ Some sense
told (Some read) sense is = ap Some is
told None sense is = absurd is

cut : (read : Option Sense) → IsNone read → read ≡ None
cut None is = refl
cut (Some sense) is = grind arith

-- by whether the segment is a hint, and whether it is fixed sense
whole-read : (segment : List ℕ) (read : Option Sense) (hint fixed : Bool) → Tells segment read → IsWhole segment
    → is_hint segment ≡ hint → is_fixed segment ≡ fixed
    → read ≡ (if hint then Some (Hinted (hint_at segment)) else (if fixed then Some (Fixed (fixed_at segment)) else Some Other))
whole-read segment read true fixed tells whole is also = told read (Hinted (hint_at segment)) (tells.0 (Hinted (hint_at segment)) (whole, is, refl))
whole-read segment read false true tells whole is also = told read (Fixed (fixed_at segment)) (tells.0 (Fixed (fixed_at segment)) (whole, also, refl))
whole-read segment read false false tells whole is also = told read Other (tells.0 Other (whole, is, also))

-- by whether the segment ends inside the sense
long-read : (segment : List ℕ) (read : Option Sense) (short : Bool) → Tells segment read → 2 ≤ length segment
    → nat_lt (length segment) (2 + sense_len segment) ≡ short → read ≡ long_sense segment
long-read segment read true tells two is =
    let less : length segment < 2 + sense_len segment = grind (arith, nat_tests) in
    rw is (cut read (tells.1 (inr (two, less))))
long-read segment read false tells two is =
    let enough : 2 + sense_len segment ≤ length segment = grind (arith, nat_tests) in
    rw is (whole-read segment read (is_hint segment) (is_fixed segment) tells (record { number = two; sense = enough }) refl refl)

pub sense_of-read : (segment : List ℕ) (read : Option Sense) → Tells segment read → read ≡ sense_of segment
sense_of-read [] read tells = told read Empty (tells.0 Empty refl)
sense_of-read (_ ∷ []) read tells = cut read (tells.1 (inl refl))
sense_of-read (first ∷ second ∷ rest) read tells =
    let segment : List ℕ = first ∷ second ∷ rest in
    long-read segment read (nat_lt (length segment) (2 + sense_len segment)) tells (omega arith) refl
