-- What one more event does to the regions of each unit, and what it must tell.
use Rattle.std.proofs.Common.{◌≡◌, ℕ, ◌-◌, Bool, true, false, cond, List, [], ◌∷◌, filter, refl, sym, ◌∙◌, ap, subst, ◌==◌}
use Rattle.std.specs.Prelude.{fold, if◌then◌else◌}
use Rattle.region_state.specs.declared.shape.Shape.{Shape}
use Rattle.upiu_wire.specs.Upiu.{Upiu, IsConsistent, upiu_out}
use Rattle.flat_unit.specs.declared.event.Event.TheVariants.{Device}
use Rattle.flat_unit.specs.Command.{needed}
use Rattle.flat_unit.specs.Contents.{Leaving, answered}
use Rattle.flat_unit.specs.Hints.{HintsDue, Hinted, after_good, good_of_unit, machine_after, segment_due, told_at}
use Rattle.flat_unit.specs.History.{History, ◌▹◌}
use Rattle.flat_unit.specs.Queue.{on_after, tasks_after}
use Rattle.flat_unit.specs.Sends.{Good, upiu_of}
use Rattle.flat_unit.specs.Sizes.{Sizes}
use Rattle.flat_unit.specs.Task.{Task}
use Rattle.flat_unit.specs.Tasks.{IsAlone}
use Rattle.flat_unit.proofs.standing.Sending.{response_leaves}
use Rattle.flat_unit.proofs.History.{upiu_at-out}

-- a UPIU tells what it must, where it tells what the tasks that it ends must be told
pub hinted_sent : (shape : Shape) (s : Sizes) (e : History) (v : Upiu) → IsConsistent v
    → HintsDue shape s e v.segment (filter (λ (l : Leaving). l.good) (answered v v.kind (tasks_after s e)))
    → Hinted shape s e → Hinted shape s (e ▹ Device (upiu_out v))
hinted_sent shape s e v consistent due hinted =
    (hinted, subst (λ (u : Upiu). HintsDue shape s e u.segment (filter (λ (l : Leaving). l.good) (answered u u.kind (tasks_after s e)))) (sym (upiu_at-out v consistent)) due)

-- the first task is answered GOOD, with the segment that is due
pub hinted_good : (shape : Shape) (s : Sizes) (e : History) (task : Task) (others : List Task) (segment : List ℕ)
    → IsConsistent (upiu_of s task (Good segment)) → tasks_after s e ≡ task ∷ others → IsAlone task others
    → segment ≡ segment_due (on_after e) (after_good (machine_after shape s task.lun e) task.command) task.lun
    → Hinted shape s e → Hinted shape s (e ▹ Device (upiu_out (upiu_of s task (Good segment))))
hinted_good shape s e task others segment consistent keeps alone is hinted =
    hinted_sent shape s e (upiu_of s task (Good segment)) consistent
    (subst (λ (ls : List Leaving). HintsDue shape s e segment (filter (λ (l : Leaving). l.good) ls))
    (sym (ap (λ (ts : List Task). answered (upiu_of s task (Good segment)) (upiu_of s task (Good segment)).kind ts) keeps
    ∙ response_leaves task others 0 (task.expected - needed s task.command) segment alone))
    (is, tt))
    hinted

-- the regions of a unit after a UPIU
pub machine_sent : (shape : Shape) (s : Sizes) (lun : ℕ) (e : History) (v : Upiu) → IsConsistent v
    → machine_after shape s lun (e ▹ Device (upiu_out v)) ≡ fold (told_at (on_after e)) (machine_after shape s lun e) (filter (good_of_unit lun) (answered v v.kind (tasks_after s e)))
machine_sent shape s lun e v consistent =
    ap (λ (u : Upiu). fold (told_at (on_after e)) (machine_after shape s lun e) (filter (good_of_unit lun) (answered u u.kind (tasks_after s e)))) (upiu_at-out v consistent)

-- after the first task was answered GOOD: its unit takes it in, and no other unit does
pub machine_good : (shape : Shape) (s : Sizes) (lun : ℕ) (e : History) (task : Task) (others : List Task) (segment : List ℕ)
    → IsConsistent (upiu_of s task (Good segment)) → tasks_after s e ≡ task ∷ others → IsAlone task others
    → machine_after shape s lun (e ▹ Device (upiu_out (upiu_of s task (Good segment))))
    ≡ (if task.lun == lun then told_at (on_after e) (machine_after shape s lun e) (record { task = task; good = true }) else machine_after shape s lun e)
machine_good shape s lun e task others segment consistent keeps alone =
    machine_sent shape s lun e (upiu_of s task (Good segment)) consistent
    ∙ ap (λ (ls : List Leaving). fold (told_at (on_after e)) (machine_after shape s lun e) (filter (good_of_unit lun) ls))
    (ap (λ (ts : List Task). answered (upiu_of s task (Good segment)) (upiu_of s task (Good segment)).kind ts) keeps
    ∙ response_leaves task others 0 (task.expected - needed s task.command) segment alone)
    ∙ by_unit (task.lun == lun)
  where
    by_unit : (b : Bool)
        → fold (told_at (on_after e)) (machine_after shape s lun e) (cond b (record { task = task; good = true }
        ∷ []) []) ≡ (if b then told_at (on_after e) (machine_after shape s lun e) (record { task = task; good = true }) else machine_after shape s lun e)
    by_unit true = refl
    by_unit false = refl
