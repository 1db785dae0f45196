-- What was written of bytes: all of them, or a front where the sink failed.
use Rattle.std.specs.Prelude.{◌≡◌, ℕ, List, ◌++◌, Option, Result, MatchResult}
use Rattle.std.specs.Io.KnownBytes.{Appends}

-- known bytes grew by a front of these
pub record AppendsFront (old new : Option (List ℕ)) (bytes : List ℕ) : Type 0 where
  pub front : List ℕ
  pub rest : List ℕ
  pub parts : front ++ rest ≡ bytes
  pub appended : Appends old new front

-- known bytes grew by these, or by a front of them where the call failed
abbrev pub Writes : {T E : Type 0} → (old new : Option (List ℕ)) → Result T E → List ℕ → Type 0
Writes old new result bytes =
    MatchResult result (λ _. Appends old new bytes) (λ _. AppendsFront old new bytes)

-- known bytes have grown by a front of the bytes, and this is the rest of it
pub record HasWrittenUpTo (old new : Option (List ℕ)) (bytes rest : List ℕ) : Type 0 where
  pub front : List ℕ
  pub parts : front ++ rest ≡ bytes
  pub appended : Appends old new front
