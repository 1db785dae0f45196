-- A plan of a read as a way.
use Rattle.std.specs.Prelude.{◌≡◌, ◌≤◌, ℕ, Bool, true, length}
use Rattle.driver_laws.specs.Requests.{Way, Plainly, WithEntry, WithList}
use Rattle.read_planner.specs.declared.choice.Plan.{Plan}
use Rattle.read_planner.specs.declared.choice.Plan.TheVariants.{Plain, Single, Prefetch}

-- the way that a plan names
abbrev pub way_of_plan : Plan → Way
way_of_plan Plain = Plainly
way_of_plan (Single entry) = WithEntry entry
way_of_plan (Prefetch id entries) = WithList id entries.items

-- a list has an entry for each of two blocks or more, where two tags are free
abbrev pub IsListFor : (pair : Bool) → (n : ℕ) → Plan → Type 0
IsListFor pair n (Prefetch id entries) = (pair ≡ true) × (2 ≤ n) × (length entries.items ≡ n)
IsListFor pair n _ = Unit {0}
