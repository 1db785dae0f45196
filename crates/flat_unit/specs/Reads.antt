-- What is said of all reads: what they show, how they end, and when (this project's own).
use Rattle.std.specs.Prelude.{◌≡◌, ◌⊎◌, true, false, List, [], ◌∷◌}
use Rattle.std.specs.List.{AllByRecursion}
use Rattle.flat_unit.specs.declared.event.Event.TheVariants.{Device}
use Rattle.flat_unit.specs.Causes.{JustFailedToRead}
use Rattle.flat_unit.specs.Command.{is_read}
use Rattle.flat_unit.specs.Contents.{Block, Leaving, candidates, leaving, shown}
use Rattle.flat_unit.specs.History.{History}
use Rattle.flat_unit.specs.Queue.{tasks_after}
use Rattle.flat_unit.specs.Replays.{LineTo, Progress, tasks_at}
use Rattle.flat_unit.specs.Reply.{waits_for_data}
use Rattle.flat_unit.specs.Sizes.{Sizes}
use Rattle.flat_unit.specs.Sound.{IsCandidate}
use Rattle.flat_unit.specs.Task.{Task}
use Rattle.flat_unit.specs.Trace.{Line, Drain}

-- each block that a read shows is one that the flat unit allows just before it
abbrev pub ReadsAllowed : Sizes → List Block → History → Type 0
ReadsAllowed s unit [] = Unit {0}
ReadsAllowed s unit (x ∷ e) = ReadsAllowed s unit e × IsCandidate (candidates s unit e) (shown s (tasks_after s e) x)

-- a read ends GOOD, or directly after a read of the chip that failed
abbrev pub EndsRead : History → Leaving → Type 0
EndsRead e l = is_read l.task.command ≡ true → (l.good ≡ true) ⊎ JustFailedToRead e

-- each RESPONSE that ends a read ends it so
abbrev pub ReadsEndGood : Sizes → History → Type 0
ReadsEndGood s [] = Unit {0}
ReadsEndGood s (Device bytes ∷ e) =
    ReadsEndGood s e × AllByRecursion (EndsRead e) (leaving (tasks_after s e) (Device bytes))
ReadsEndGood s (_ ∷ e) = ReadsEndGood s e

-- no read is kept, but behind a first task that waits for data
abbrev pub ReadsWait : List Task → Type 0
ReadsWait [] = Unit {0}
ReadsWait (task ∷ _) = (waits_for_data task ≡ true) × (is_read task.command ≡ false)

-- after a drain no read goes on
abbrev pub AfterLine : Sizes → Line → Progress → Type 0
AfterLine s Drain p = ReadsWait (tasks_at s p)
AfterLine s _ p = Unit {0}

-- a trace leads from one moment to another, and after each drain no read goes on
abbrev pub DrainsReads : Sizes → List Line → Progress → Progress → Type 0
DrainsReads s [] p now = now ≡ p
DrainsReads s (line ∷ lines) p now =
    (mid : Progress) × LineTo s line p mid × AfterLine s line mid × DrainsReads s lines mid now
