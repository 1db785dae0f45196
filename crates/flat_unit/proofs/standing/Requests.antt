-- What a request beside commands does to a device that stands at a history.
use Rattle.std.proofs.Common.{◌≡◌, ℕ, ◌+◌, ◌≤◌, Bool, true, false, cond, not, List, [], ◌∷◌, Some, refl, sym, ◌∙◌, ap, subst, arith, filter, drop}
use Rattle.std.specs.Prelude.{Contains, MatchBool, fold, if◌then◌else◌}
use Rattle.std.specs.List.{list_any}
use Rattle.std.proofs.lemmas.Bool.{eqb-true}
use Rattle.flash_pages.specs.Place.{Place}
use Rattle.upiu_wire.specs.Upiu.{Upiu, upiu_at, upiu_out}
use Rattle.flat_unit.specs.declared.event.Event.{Event}
use Rattle.flat_unit.specs.declared.event.Event.TheVariants.{Host, Device, Cleared, Switched, Gone}
use Rattle.flat_unit.specs.Causes.{EventHasCause}
use Rattle.flat_unit.specs.Contents.{Block, Leaving, block_at, block_written, candidates, leaving_all}
use Rattle.flat_unit.specs.Harmless.{IsHarmless}
use Rattle.flat_unit.specs.History.{History, ◌▹◌, followed_by}
use Rattle.flat_unit.specs.Queue.{after_reply, after_sent, on_after, tasks_after, without_tag}
use Rattle.flat_unit.specs.Reply.{effects_of, has_tag, reply_of}
use Rattle.flat_unit.specs.Sizes.{Sizes}
use Rattle.flat_unit.specs.Sound.{Sound, SoundSoFar, owed}
use Rattle.flat_unit.specs.Stands.{First, HasProgress, HoldsAt, Kept, Stands, StandsButSound, gone_from, head_block, is_programmed}
use Rattle.flat_unit.specs.Task.{Task}
use Rattle.flat_unit.specs.Tasks.{IsQueue}
use Rattle.flat_unit.specs.Writes.{blocks_ended, blocks_of_head}
use Rattle.flat_unit.proofs.standing.Sending.{goes_harmless, leaves_cut, no_blocks, no_progress, none_programmed, stays_block, with_tasks}
use Rattle.flat_unit.proofs.History.{comes, owed_comes, owes_reply}
use Rattle.flat_unit.proofs.standing.Changes.{Goes, device_changes, ends_on, fold_left, holds_on}
use Rattle.flat_unit.proofs.queue.Tasks.{others_stay, queue_after}
use Rattle.flat_unit.proofs.standing.OneCall.{progress_within}
use Rattle.flat_unit.proofs.queue.Ends.{AreRequested}

pub but_sound : (s : Sizes) (first : First) (kept : Kept) (e : History) → Stands s first kept e → StandsButSound s first kept e
but_sound s first kept e at = record {
  keeps = at.keeps;
  switch = at.switch;
  progress = at.progress;
  holds = at.holds;
  at_least = at.at_least;
  at_most = at.at_most;
  free = at.free;
  caused = at.caused;
}

pub with_sound : (s : Sizes) (first : First) (kept : Kept) (e : History) → StandsButSound s first kept e → Sound s first.unit e → Stands s first kept e
with_sound s first kept e at sound = record {
  keeps = at.keeps;
  switch = at.switch;
  progress = at.progress;
  holds = at.holds;
  at_least = at.at_least;
  at_most = at.at_most;
  free = at.free;
  sound = sound;
  caused = at.caused;
}

-- a request and its reply leave all as it is
pub requested : (s : Sizes) (first : First) (kept : Kept) (e : History) (bytes : List ℕ) (v : Upiu)
    → reply_of s kept.on kept.tasks bytes ≡ Some v → IsHarmless s kept.tasks v
    → StandsButSound s first kept e → StandsButSound s first kept (e ▹ Host bytes ▹ Device (upiu_out v))
requested s first kept e bytes v is harmless at =
    let reply : reply_of s (on_after e) (tasks_after s e) bytes ≡ Some v =
    ap (λ (on : Bool). reply_of s on (tasks_after s e) bytes) at.switch ∙ ap (λ (ts : List Task). reply_of s kept.on ts bytes) at.keeps ∙ is in
    let mid : tasks_after s (e ▹ Host bytes) ≡ kept.tasks = ap (after_reply s (tasks_after s e) (upiu_at bytes)) reply ∙ at.keeps in
    let goes : Goes s first kept kept (e ▹ Host bytes) v = goes_harmless s first kept (e ▹ Host bytes) v harmless at.progress in
    let ended = ends_on s first kept kept (e ▹ Host bytes) v goes (tasks_after s (e ▹ Host bytes)) mid in
    record {
      keeps = device_changes s (on_after e) (tasks_after s (e ▹ Host bytes)) v harmless.consistent ∙ ap (λ (t : List Task). after_sent v v.kind t) mid ∙ harmless.tasks_stay;
      switch = at.switch;
      progress = at.progress;
      holds = λ p place. holds_on s first kept kept (e ▹ Host bytes) v p goes place (tasks_after s (e ▹ Host bytes)) mid (at.holds p place);
      at_least = omega (arith, ended, at.at_least, goes.at_least);
      at_most = omega (arith, at.at_most);
      free = at.free;
      caused = ((at.caused, tt), subst (λ (due : List Event). EventHasCause s ⊥ first.next (e ▹ Host bytes) (Device (upiu_out v)) due) (sym (owes_reply s e bytes v reply)) tt);
    }

-- HPB is reset, or switched
pub cleared : (s : Sizes) (first : First) (kept : Kept) (e : History) → StandsButSound s first kept e → StandsButSound s first kept (e ▹ Cleared)
cleared s first kept e at = record {
  keeps = at.keeps;
  switch = at.switch;
  progress = at.progress;
  holds = at.holds;
  at_least = omega (arith, at.at_least);
  at_most = omega (arith, at.at_most);
  free = at.free;
  caused = (at.caused, tt);
}

pub switched : (s : Sizes) (first : First) (kept : Kept) (e : History) (on : Bool) → StandsButSound s first kept e → StandsButSound s first (record kept { on = on }) (e ▹ Switched on)
switched s first kept e on at = record {
  keeps = at.keeps;
  switch = refl;
  progress = at.progress;
  holds = at.holds;
  at_least = omega (arith, at.at_least);
  at_most = omega (arith, at.at_most);
  free = at.free;
  caused = (at.caused, tt);
}

-- tasks that leave without GOOD only add candidates
fold_stays : (s : Sizes) (p : Place) (block : Block) (tasks : List Task) (blocks : List Block) → Contains blocks block → Contains (fold_left s blocks (leaving_all false tasks) p) block
fold_stays s p block [] blocks held = held
fold_stays s p block (task ∷ tasks) blocks held = fold_stays s p block tasks _ (stays_block blocks block (block_written s task task.command p) held)

match_stays : (b : Bool) (P : Type 0) {Q R : Type 0} → (Q → R) → MatchBool b P Q → MatchBool b P R
match_stays true P f held = held
match_stays false P f held = f held

pub none_good : (tasks : List Task) (a : ℕ) → fold (λ (n : ℕ) (l : Leaving). n + blocks_ended l) a (leaving_all false tasks) ≡ a
none_good [] a = refl
none_good (task ∷ tasks) a = none_good tasks (a + 0) ∙ omega arith

-- what is left where a task goes
pub record GoesFrom (s : Sizes) (first : First) (kept now : Kept) (e : History) (left : List Task) : Type 0 where
  pub progress : HasProgress s now.programmed now.tasks
  pub holds : (p : Place) → HoldsAt s kept (candidates s first.unit e p) p → HoldsAt s now (fold_left s (candidates s first.unit e p) (leaving_all false left) p) p
  pub at_least : now.programmed ≤ kept.programmed
  pub at_most : blocks_of_head s now.tasks + kept.programmed ≤ blocks_of_head s kept.tasks + now.programmed

pub goes_from : (s : Sizes) (first : First) (kept : Kept) (e : History) (tag : ℕ) (tasks : List Task) → IsQueue s tasks → HasProgress s kept.programmed tasks
    → GoesFrom s first (with_tasks tasks kept) (gone_from tag (with_tasks tasks kept)) e (filter (has_tag tag) tasks)
goes_from s first kept e tag [] queue progress = record { progress = progress; holds = λ p held. held; at_least = omega arith; at_most = omega arith }
goes_from s first kept e tag (task ∷ others) queue progress = by_head (has_tag tag task) refl
  where
    by_head : (b : Bool) → has_tag tag task ≡ b
        → GoesFrom s first (with_tasks (task
        ∷ others) kept) (record kept { tasks = cond (not b) (task ∷ without_tag tag others) (without_tag tag others); programmed = if b then 0 else kept.programmed }) e (cond b (task
        ∷ filter (has_tag tag) others) (filter (has_tag tag) others))
    by_head false is = record {
      progress = progress;
      holds = λ p held. match_stays (is_programmed kept.programmed (task
          ∷ others) p) _ (λ had. fold_stays s p (block_at s kept.unit p) (filter (has_tag tag) others) (candidates s first.unit e p) had) held;
      at_least = omega arith;
      at_most = omega arith;
    }
    by_head true is =
        let same : tag ≡ task.tag = sym (eqb-true task.tag tag is) in
        let alone : list_any (has_tag tag) others ≡ false = ap (λ (t : ℕ). list_any (has_tag t) others) same ∙ queue.apart.0 in
        let stay : without_tag tag others ≡ others = others_stay tag others alone in
        let none = no_blocks s others queue.others_wait in
        let within = progress_within s kept.programmed (task ∷ others) progress in
        let blocks : blocks_of_head s (without_tag tag others) ≡ blocks_of_head s others = ap (blocks_of_head s) stay in
        record {
          progress = no_progress s (without_tag tag others);
          holds = λ p held.
              subst (λ (b : Bool). MatchBool b (head_block s (without_tag tag others) p ≡ Some (block_at s kept.unit p)) (Contains (fold_left s (candidates s first.unit e p) (leaving_all false (task
              ∷ filter (has_tag tag) others)) p) (block_at s kept.unit p)))
              (sym (none_programmed (without_tag tag others) p))
              (fold_stays s p (block_at s kept.unit p) (filter (has_tag tag) others) _ ((leaves_cut s first kept e task others progress).held p held));
          at_least = omega arith;
          at_most = omega (arith, blocks, none, within);
        }

-- a task goes
pub gone : (s : Sizes) (first : First) (kept : Kept) (e : History) (tag : ℕ) → StandsButSound s first kept e → StandsButSound s first (gone_from tag kept) (e ▹ Gone tag)
gone s first kept e tag at =
    let queue : IsQueue s kept.tasks = subst (IsQueue s) at.keeps (queue_after s e) in
    let goes = goes_from s first kept e tag kept.tasks queue at.progress in
    let none = none_good (filter (has_tag tag) (tasks_after s e)) 0 in
    record {
      keeps = ap (without_tag tag) at.keeps;
      switch = at.switch;
      progress = goes.progress;
      holds = λ p place.
          subst (λ (ts : List Task). HoldsAt s (gone_from tag kept) (fold_left s (candidates s first.unit e p) (leaving_all false (filter (has_tag tag) ts)) p) p) (sym at.keeps)
          (goes.holds p (at.holds p place));
      at_least = omega (arith, none, at.at_least, goes.at_least);
      at_most = omega (arith, at.at_most, goes.at_most);
      free = at.free;
      caused = (at.caused, tt);
    }

-- the reply that is owed, and what follows it
pub replied_so_far : (s : Sizes) (u : List Block) (e : History) (bytes : List ℕ) (v : Upiu) → Sound s u e → reply_of s (on_after e) (tasks_after s e) bytes ≡ Some v
    → SoundSoFar s u (e ▹ Host bytes ▹ Device (upiu_out v))
replied_so_far s u e bytes v sound is = owed_comes s u (e ▹ Host bytes) (Device (upiu_out v)) _ (comes s u e (Host bytes) sound tt) (owes_reply s e bytes v is)

pub replied_owes : (s : Sizes) (e : History) (bytes : List ℕ) (v : Upiu) → reply_of s (on_after e) (tasks_after s e) bytes ≡ Some v
    → owed s (e ▹ Host bytes ▹ Device (upiu_out v)) ≡ effects_of s (on_after e) (tasks_after s e) bytes
replied_owes s e bytes v is = ap (λ (due : List Event). drop 1 due) (owes_reply s e bytes v is)

-- once all that is owed has come the history is sound
pub owed_sound : (s : Sizes) (u : List Block) (e : History) (xs : List Event) → SoundSoFar s u e → owed s e ≡ xs → AreRequested xs → Sound s u (followed_by e xs)
owed_sound s u e [] so_far is all = record { so_far = so_far; nothing_owed = is }
owed_sound s u e (Host bytes ∷ xs) so_far is all = absurd all.0
owed_sound s u e (Device bytes ∷ xs) so_far is all = absurd all.0
owed_sound s u e (x ∷ xs) so_far is all = owed_sound s u (e ▹ x) xs (owed_comes s u e x xs so_far is) (ap (λ (due : List Event). drop 1 due) is) all.1
