-- What the lines of a trace ask for.
use Rattle.std.specs.Prelude.{ℕ, List}

-- bytes of the host, so many steps, so many calls of the collector, steps until nothing can go on without the host,
-- a reset, or nothing
pub data Line : Type 0 where
  Upiu : List ℕ → Line
  Steps : ℕ → Line
  Collect : ℕ → Line
  Drain : Line
  ResetLine : Line
  Blank : Line
