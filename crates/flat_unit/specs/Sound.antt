-- A sound history: each reply is the one that is due, and each other UPIU is one that the tasks and the flat unit allow
-- (this project's own).
use Rattle.std.specs.Prelude.{◌≡◌, ℕ, Bool, List, [], ◌∷◌, drop, Contains, Option, Some, None}
use Rattle.flash_pages.specs.Place.{Place}
use Rattle.upiu_wire.specs.Upiu.{Upiu, upiu_out}
use Rattle.flat_unit.specs.declared.event.Event.{Event}
use Rattle.flat_unit.specs.declared.event.Event.TheVariants.{Host, Device, Cleared, Switched, Gone}
use Rattle.flat_unit.specs.Contents.{Block, Shown, shown, candidates}
use Rattle.flat_unit.specs.History.{History}
use Rattle.flat_unit.specs.Queue.{on_after, tasks_after}
use Rattle.flat_unit.specs.Reply.{reply_of, effects_of}
use Rattle.flat_unit.specs.Sends.{MaySend}
use Rattle.flat_unit.specs.Sizes.{Sizes}
use Rattle.flat_unit.specs.Task.{Task}

-- a reply, and then the events that follow it
abbrev pub reply_events : List Event → Option Upiu → List Event
reply_events effects (Some v) = Device (upiu_out v) ∷ effects
reply_events effects None = []

-- the events that answer these bytes at once: the reply, and what the request does
abbrev pub answers_to : Sizes → Bool → List Task → List ℕ → List Event
answers_to s on tasks bytes = reply_events (effects_of s on tasks bytes) (reply_of s on tasks bytes)

-- the events that the newest bytes of the host still owe
abbrev pub owed : Sizes → History → List Event
owed s [] = []
owed s (Host bytes ∷ e) = answers_to s (on_after e) (tasks_after s e) bytes
owed s (_ ∷ e) = drop 1 (owed s e)

-- a block that is shown is a candidate
abbrev pub IsCandidate : (Place → List Block) → Option Shown → Type 0
IsCandidate blocks (Some w) = Contains (blocks w.place) w.block
IsCandidate blocks None = Unit {0}

-- an event that nothing owes
abbrev pub MayCome : Sizes → List Block → History → Event → Type 0
MayCome s unit e (Device bytes) =
    MaySend s (tasks_after s e) bytes × IsCandidate (candidates s unit e) (shown s (tasks_after s e) (Device bytes))
MayCome s unit e Cleared = ⊥
MayCome s unit e (Switched on) = ⊥
MayCome s unit e (Gone tag) = ⊥
MayCome s unit e _ = Unit {0}

-- what is owed comes first
abbrev pub Comes : Sizes → List Block → History → List Event → Event → Type 0
Comes s unit e [] x = MayCome s unit e x
Comes s unit e (due ∷ _) x = x ≡ due

-- sound, but that the newest bytes of the host may still lack their answer
abbrev pub SoundSoFar : Sizes → List Block → History → Type 0
SoundSoFar s unit [] = Unit {0}
SoundSoFar s unit (x ∷ e) = SoundSoFar s unit e × Comes s unit e (owed s e) x

pub record Sound (s : Sizes) (unit : List Block) (e : History) : Type 0 where
  pub so_far : SoundSoFar s unit e
  pub nothing_owed : owed s e ≡ []
