-- Outcomes of requests that are GOOD or cut, and no other.
use Rattle.std.specs.Prelude.{List}
use Rattle.std.specs.List.{AllByRecursion}
use Rattle.driver_laws.specs.declared.answer.Answer.TheVariants.{Good}
use Rattle.driver_laws.specs.Flat.{Answered, Came, Cut, Outcome}

-- the request was answered GOOD, or a reset cut it
abbrev pub IsGoodOrCutAlone : Outcome → Type 0
IsGoodOrCutAlone (Came (Good bytes)) = Unit {0}
IsGoodOrCutAlone Cut = Unit {0}
IsGoodOrCutAlone _ = ⊥

-- each request so far
abbrev pub AllGoodOrCutAlone : List Answered → Type 0
AllGoodOrCutAlone answers = AllByRecursion (λ (a : Answered). IsGoodOrCutAlone a.outcome) answers
