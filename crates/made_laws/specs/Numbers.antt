-- The numbers of requests.
use Rattle.std.specs.Prelude.{ℕ, List, map}
use Rattle.driver_laws.specs.Laws.{Numbered}

-- in order
abbrev pub numbers_of : List Numbered → List ℕ
numbers_of requests = map (λ (r : Numbered). r.number) requests
