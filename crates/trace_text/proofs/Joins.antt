-- Texts that are added one behind the other.
use Rattle.std.proofs.Common.{◌≡◌, ℕ, List, ◌++◌, ap, ◌∙◌, append_assoc}

joined-two : (old mid new front back : List ℕ) → mid ≡ old ++ front → new ≡ mid ++ back → new ≡ old ++ (front ++ back)
joined-two old mid new front back once twice = twice ∙ ap (λ (t : List ℕ). t ++ back) once ∙ append_assoc old front back

pub joined-three : (old a b new x y z : List ℕ) → a ≡ old ++ x → b ≡ a ++ y → new ≡ b ++ z → new ≡ old ++ (x ++ y ++ z)
joined-three old a b new x y z first second third = joined-two old b new (x ++ y) z (joined-two old a b x y first second) third

pub joined-five : (old a b c d new v w x y z : List ℕ) → a ≡ old ++ v → b ≡ a ++ w → c ≡ b ++ x → d ≡ c ++ y → new ≡ d ++ z
    → new ≡ old ++ (v ++ w ++ x ++ y ++ z)
joined-five old a b c d new v w x y z first second third fourth fifth =
    joined-three old c d new (v ++ w ++ x) y z (joined-three old a b c v w x first second third) fourth fifth
