-- What each kind of event asks of a device that stands at a history, so that it stands at it with that event.
use Rattle.std.proofs.Common.{◌≡◌, ℕ, ◌+◌, ◌≤◌, List, Bool, Option, sym, ◌∙◌, ap, subst, arith}
use Rattle.std.specs.Prelude.{sum_by, fold}
use Rattle.flash_pages.specs.Place.{Place, IsPlace}
use Rattle.upiu_wire.specs.Upiu.{Upiu, IsConsistent, upiu_out}
use Rattle.flat_unit.specs.declared.event.Event.{Event}
use Rattle.flat_unit.specs.declared.event.Event.TheVariants.{Device}
use Rattle.flat_unit.specs.Causes.{EventHasCause, SendHasCause, code_in, sense_code}
use Rattle.flat_unit.specs.Contents.{Block, Shown, Leaving, answered, leaving, left_by, shown, shown_by_kind, seen_at, candidates}
use Rattle.flat_unit.specs.History.{History, ◌▹◌}
use Rattle.flat_unit.specs.Queue.{after_sent, on_after, tasks_changed, tasks_after}
use Rattle.flat_unit.specs.Sends.{MaySend}
use Rattle.flat_unit.specs.Sizes.{Sizes}
use Rattle.flat_unit.specs.Sound.{IsCandidate}
use Rattle.flat_unit.specs.Stands.{Kept, First, HoldsAt, HasProgress, Stands}
use Rattle.flat_unit.specs.Task.{Task}
use Rattle.flat_unit.specs.Writes.{blocks_ended, blocks_of_head}
use Rattle.flat_unit.proofs.History.{upiu_at-out, sent_sound}

-- what a UPIU of the device does to these tasks
pub device_changes : (s : Sizes) (on : Bool) (tasks : List Task) (v : Upiu) → IsConsistent v → tasks_changed s on tasks (Device (upiu_out v)) ≡ after_sent v v.kind tasks
device_changes s on tasks v h = ap (λ (u : Upiu). after_sent u u.kind tasks) (upiu_at-out v h)

pub device_leaves : (tasks : List Task) (v : Upiu) → IsConsistent v → leaving tasks (Device (upiu_out v)) ≡ answered v v.kind tasks
device_leaves tasks v h = ap (λ (u : Upiu). answered u u.kind tasks) (upiu_at-out v h)

pub device_shows : (s : Sizes) (tasks : List Task) (v : Upiu) → IsConsistent v → shown s tasks (Device (upiu_out v)) ≡ shown_by_kind s v v.kind tasks
device_shows s tasks v h = ap (λ (u : Upiu). shown_by_kind s u u.kind tasks) (upiu_at-out v h)

pub device_code : (v : Upiu) → IsConsistent v → sense_code (upiu_out v) ≡ code_in v v.kind
device_code v h = ap (λ (u : Upiu). code_in u u.kind) (upiu_at-out v h)

-- the candidates of a place after some tasks left
abbrev pub fold_left : Sizes → List Block → List Leaving → Place → List Block
fold_left s blocks ls p = fold (left_by s p) blocks ls

-- what the device keeps goes from one moment to the next by a UPIU
pub record Goes (s : Sizes) (first : First) (kept now : Kept) (e : History) (v : Upiu) : Type 0 where
  pub consistent : IsConsistent v
  pub tasks : after_sent v v.kind kept.tasks ≡ now.tasks
  pub switch : kept.on ≡ now.on
  pub progress : HasProgress s now.programmed now.tasks
  pub holds : (p : Place) → IsPlace s.luns s.units p → HoldsAt s kept (candidates s first.unit e p) p
      → HoldsAt s now (seen_at p (fold_left s (candidates s first.unit e p) (answered v v.kind kept.tasks) p) (shown_by_kind s v v.kind kept.tasks)) p
  pub at_least : sum_by blocks_ended (answered v v.kind kept.tasks) + now.programmed + kept.next ≤ kept.programmed + now.next
  pub at_most : now.next + blocks_of_head s now.tasks + kept.programmed ≤ kept.next + blocks_of_head s kept.tasks + now.programmed
  pub next : now.next ≡ kept.next
  pub free : now.free ≡ kept.free
  pub erases : now.erases ≡ kept.erases

-- the device holds what it must, after a UPIU
pub holds_on : (s : Sizes) (first : First) (kept now : Kept) (e : History) (v : Upiu) (p : Place) → Goes s first kept now e v → IsPlace s.luns s.units p
    → (ts : List Task) → ts ≡ kept.tasks → HoldsAt s kept (candidates s first.unit e p) p
    → HoldsAt s now (seen_at p (fold_left s (candidates s first.unit e p) (leaving ts (Device (upiu_out v))) p) (shown s ts (Device (upiu_out v)))) p
holds_on s first kept now e v p goes place ts is held =
    let cs : List Block = candidates s first.unit e p in
    let leaves : leaving ts (Device (upiu_out v)) ≡ answered v v.kind kept.tasks = device_leaves ts v goes.consistent ∙ ap (λ (t : List Task). answered v v.kind t) is in
    let shows : shown s ts (Device (upiu_out v)) ≡ shown_by_kind s v v.kind kept.tasks = device_shows s ts v goes.consistent ∙ ap (λ (t : List Task). shown_by_kind s v v.kind t) is in
    subst (λ (ls : List Leaving). HoldsAt s now (seen_at p (fold_left s cs ls p) (shown s ts (Device (upiu_out v)))) p) (sym leaves)
    (subst (λ (w : Option Shown). HoldsAt s now (seen_at p (fold_left s cs (answered v v.kind kept.tasks) p) w) p) (sym shows)
    (goes.holds p place held))

pub ends_on : (s : Sizes) (first : First) (kept now : Kept) (e : History) (v : Upiu) → Goes s first kept now e v → (ts : List Task) → ts ≡ kept.tasks
    → sum_by blocks_ended (leaving ts (Device (upiu_out v))) ≡ sum_by blocks_ended (answered v v.kind kept.tasks)
ends_on s first kept now e v goes ts is =
    ap (sum_by blocks_ended) (device_leaves ts v goes.consistent) ∙ ap (λ (t : List Task). sum_by blocks_ended (answered v v.kind t)) is

-- a step sends a UPIU
pub stands_sent : (s : Sizes) (first : First) (kept now : Kept) (e : History) (v : Upiu) → Goes s first kept now e v → MaySend s kept.tasks (upiu_out v)
    → IsCandidate (candidates s first.unit e) (shown_by_kind s v v.kind kept.tasks) → SendHasCause s ⊥ first.next e (code_in v v.kind)
    → Stands s first kept e → Stands s first now (e ▹ Device (upiu_out v))
stands_sent s first kept now e v goes may candidate cause at =
    let shows : shown s (tasks_after s e) (Device (upiu_out v)) ≡ shown_by_kind s v v.kind kept.tasks = device_shows s (tasks_after s e) v goes.consistent
    ∙ ap (λ (t : List Task). shown_by_kind s v v.kind t) at.keeps in
    let ended = ends_on s first kept now e v goes (tasks_after s e) at.keeps in
    record {
      keeps = device_changes s (on_after e) (tasks_after s e) v goes.consistent ∙ ap (λ (t : List Task). after_sent v v.kind t) at.keeps ∙ goes.tasks;
      switch = at.switch ∙ goes.switch;
      progress = goes.progress;
      holds = λ p place. holds_on s first kept now e v p goes place (tasks_after s e) at.keeps (at.holds p place);
      at_least = omega (arith, ended, at.at_least, goes.at_least);
      at_most = omega (arith, at.at_most, goes.at_most);
      free = rw (goes.free, goes.next, goes.erases) at.free;
      sound = sent_sound s first.unit e (upiu_out v) at.sound (
        subst (λ (t : List Task). MaySend s t (upiu_out v)) (sym at.keeps) may,
        subst (λ (w : Option Shown). IsCandidate (candidates s first.unit e) w) (sym shows) candidate,
      );
      caused = (
        at.caused,
        subst (λ (due : List Event). EventHasCause s ⊥ first.next e (Device (upiu_out v)) due) (sym at.sound.nothing_owed)
            (subst (λ (code : Option ℕ). SendHasCause s ⊥ first.next e code) (sym (device_code v goes.consistent)) cause),
      );
    }
