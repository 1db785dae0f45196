-- What was written of a text: all of it, or a front where the sink failed.
use Rattle.std.specs.Prelude.{ℕ, List, ◌++◌, Option, Result, MatchResult}
use Rattle.std.specs.Io.KnownBytes.{Appends}
use Rattle.hpb_outside.specs.Writes.{AppendsFront, HasWrittenUpTo}

-- a text of which all is written but what was gathered: it is so now too, or a front of it was written where the call
-- failed
abbrev pub KeepsText : {T E : Type 0} → (old new : Option (List ℕ)) (gathered gathered_now : List ℕ) → Result T E
    → Type 0
KeepsText old new gathered gathered_now r = (before : Option (List ℕ)) (text : List ℕ)
    → HasWrittenUpTo before old text gathered
    → MatchResult r (λ _. HasWrittenUpTo before new text gathered_now) (λ _. AppendsFront before new text)

-- known bytes have grown, if at all
abbrev pub Grows : (old new : Option (List ℕ)) → Type 0
Grows old new = (more : List ℕ) × Appends old new more

-- known bytes have grown by all of the text, and perhaps by more behind it
abbrev pub WritesAll : (old new : Option (List ℕ)) → (text : List ℕ) → Type 0
WritesAll old new text = (more : List ℕ) × Appends old new (text ++ more)
