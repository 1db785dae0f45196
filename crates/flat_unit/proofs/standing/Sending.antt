-- How what a device keeps goes from one moment to the next, for each UPIU that it sends.
use Rattle.std.proofs.Common.{◌≡◌, ℕ, ◌+◌, ◌≤◌, Bool, true, false, cond, not, ◌&&◌, List, [], ◌∷◌, length, Option, Some}
use Rattle.std.proofs.Common.{None, refl, sym, ◌∙◌, ap, subst, arith, filter, nat_le, nat_lt, ◌==◌, slice_range}
use Rattle.std.specs.Prelude.{Contains, MatchBool, sum_by, if◌then◌else◌}
use Rattle.std.specs.List.{AllByRecursion}
use Rattle.std.proofs.Math.Nat.{zero-div}
use Rattle.std.proofs.lemmas.Bool.{MatchBool-at_false}
use Rattle.std.proofs.lemmas.Bool.Decides.{nat_tests}
use Rattle.std.proofs.lemmas.List.Elements.{Contains-append_left, Contains-append_right}
use Rattle.flash_pages.specs.Place.{Place}
use Rattle.hpb_cdb.specs.declared.cdb.Cdb.{Cdb}
use Rattle.hpb_cdb.specs.declared.cdb.Cdb.TheVariants.{Write}
use Rattle.upiu_wire.specs.declared.kind.Kind.TheVariants.{Response, DataIn, ReadyToTransfer}
use Rattle.upiu_wire.specs.Upiu.{Upiu, IsConsistent}
use Rattle.upiu_wire.specs.Written.{data_upiu, transfer_upiu, response_upiu}
use Rattle.flat_unit.specs.Command.{is_write}
use Rattle.flat_unit.specs.Contents.{Block, Shown, Leaving, answered, block_at, block_written, is_among, is_same}
use Rattle.flat_unit.specs.Contents.{leaving_all, next_place, offset_in, seen_at, shown_at, shown_by_kind, with_block}
use Rattle.flat_unit.specs.Contents.{candidates}
use Rattle.flat_unit.specs.Harmless.{IsHarmless}
use Rattle.flat_unit.specs.History.{History}
use Rattle.flat_unit.specs.Queue.{after_sent, with_asked, with_sent, without_tag}
use Rattle.flat_unit.specs.Reply.{has_tag}
use Rattle.flat_unit.specs.Sizes.{Sizes}
use Rattle.flat_unit.specs.Stands.{Kept, First, HoldsAt, HasProgress, IsProgress, head_block, is_programmed, is_programmed_for}
use Rattle.flat_unit.specs.Task.{Task}
use Rattle.flat_unit.specs.Tasks.{IsAlone, IsUntouched}
use Rattle.flat_unit.specs.Writes.{blocks_ended, blocks_of_head, blocks_of_write, whole_blocks}
use Rattle.flat_unit.proofs.standing.Changes.{Goes, fold_left}
use Rattle.flat_unit.proofs.queue.Tasks.{same_tag, others_stay, none_has}

-- the device keeps these tasks
abbrev pub with_tasks : List Task → Kept → Kept
with_tasks tasks kept = record kept { tasks = tasks }

-- its first task has ended, and these are left
abbrev pub left_with : List Task → Kept → Kept
left_with tasks kept = record kept { tasks = tasks; programmed = 0 }

-- nothing is programmed for a task before it comes first
none_among : (lun lba : ℕ) (p : Place) → is_among lun lba 0 p ≡ false
none_among lun lba p = by_tests (lun == p.lun) (nat_le lba p.lba) (nat_lt p.lba (lba + 0)) (λ above below. grind (arith, nat_tests))
  where
    by_tests : (a b c : Bool) → (b ≡ true → c ≡ true → ⊥) → (a && (b && c)) ≡ false
    by_tests false b c other = refl
    by_tests true false c other = refl
    by_tests true true false other = refl
    by_tests true true true other = absurd (other refl refl)

none_programmed_for : (command : Cdb) (task : Task) (p : Place) → is_programmed_for 0 task command p ≡ false
none_programmed_for (Write lba n) task p = none_among task.lun lba p
none_programmed_for _ task p = refl

pub none_programmed : (tasks : List Task) (p : Place) → is_programmed 0 tasks p ≡ false
none_programmed [] p = refl
none_programmed (task ∷ _) p = none_programmed_for task.command task p

no_progress_for : (s : Sizes) (command : Cdb) (task : Task) → IsProgress s 0 task command
no_progress_for s (Write lba n) task = (omega arith, omega arith)
no_progress_for s _ task = refl

pub no_progress : (s : Sizes) (tasks : List Task) → HasProgress s 0 tasks
no_progress s [] = refl
no_progress s (task ∷ _) = no_progress_for s task.command task

-- a task that hasn't come first has no blocks
none_whole : (s : Sizes) (command : Cdb) → whole_blocks s command [] ≡ 0
none_whole s (Write lba n) = zero-div s.block
none_whole s _ = refl

pub no_blocks : (s : Sizes) (others : List Task) → AllByRecursion IsUntouched others → blocks_of_head s others ≡ 0
no_blocks s [] all = refl
no_blocks s (task ∷ _) all = ap (whole_blocks s task.command) all.0.come ∙ none_whole s task.command

-- only a write has blocks, and programs them
no_write_blocks : (s : Sizes) (command : Cdb) (come : List ℕ) → is_write command ≡ false → whole_blocks s command come ≡ 0
no_write_blocks s (Write lba n) come other = cc
no_write_blocks s _ come other = refl

no_write_progress : (s : Sizes) (programmed : ℕ) (command : Cdb) (task : Task) → is_write command ≡ false → IsProgress s programmed task command → programmed ≡ 0
no_write_progress s programmed (Write lba n) task other is = cc
no_write_progress s programmed _ task other is = is

no_write_ends : (command : Cdb) → is_write command ≡ false → blocks_of_write command ≡ 0
no_write_ends (Write lba n) other = cc
no_write_ends _ other = refl

pub no_write_holds : (s : Sizes) (command : Cdb) (task : Task) (p : Place) → is_write command ≡ false → block_written s task command p ≡ None
no_write_holds s (Write lba n) task p other = cc
no_write_holds s _ task p other = refl

no_write_programs : (programmed : ℕ) (command : Cdb) (task : Task) (p : Place) → is_write command ≡ false → is_programmed_for programmed task command p ≡ false
no_write_programs programmed (Write lba n) task p other = cc
no_write_programs programmed _ task p other = refl

progress_at_most : (s : Sizes) (programmed : ℕ) (command : Cdb) (task : Task) → command ≡ task.command → IsProgress s programmed task command → programmed ≤ blocks_of_head s (task ∷ [])
progress_at_most s programmed (Write lba n) task same is = is.1
progress_at_most s programmed _ task same is = omega arith

at_false : {b : Bool} (P : Type 0) {Q : Type 0} → b ≡ false → Q → MatchBool b P Q
at_false P {Q} is q = subst (λ (b : Bool). MatchBool b P Q) (sym is) q

pub goes_harmless : (s : Sizes) (first : First) (kept : Kept) (e : History) (v : Upiu) → IsHarmless s kept.tasks v → HasProgress s kept.programmed kept.tasks → Goes s first kept kept e v
goes_harmless s first kept e v harmless progress = record {
  consistent = harmless.consistent;
  tasks = harmless.tasks_stay;
  switch = refl;
  progress = progress;
  holds = λ p place held.
      subst (λ (ls : List Leaving). HoldsAt s kept (seen_at p (fold_left s (candidates s first.unit e p) ls p) (shown_by_kind s v v.kind kept.tasks)) p) (sym harmless.none_leaves)
      (subst (λ (w : Option Shown). HoldsAt s kept (seen_at p (candidates s first.unit e p) w) p) (sym harmless.none_shown) held);
  at_least = let none : sum_by blocks_ended (answered v v.kind kept.tasks) ≡ 0 = ap (sum_by blocks_ended) harmless.none_leaves in omega arith;
  at_most = omega arith;
  next = refl;
  free = refl;
  erases = refl;
}

-- a block that is shown at one place changes no other
seen_holds : (s : Sizes) (unit : List Block) (p q : Place) (block : Block) (blocks : List Block) (b : Bool) (P : Type 0) → block ≡ block_at s unit p
    → MatchBool b P (Contains blocks (block_at s unit q)) → MatchBool b P (Contains (seen_at q blocks (Some (record { place = p; block = block }))) (block_at s unit q))
seen_holds s unit p q block blocks true P is had = had
seen_holds s unit p q block blocks false P is had =
    elim (is_same p q) as (λ b. (b ≡ true → block ≡ block_at s unit q) → Contains (cond b (block ∷ []) blocks) (block_at s unit q)) [
      | true ↦ λ same. (0, omega arith, same refl)
      | false ↦ λ same. had
    ] (λ true_test.
    let lun : p.lun ≡ q.lun = grind (arith, nat_tests) in
    let lba : p.lba ≡ q.lba = grind (arith, nat_tests) in
    is ∙ (λ i. block_at s unit (record { lun = lun i; lba = lba i })))

-- DATA IN of the first task
data_changes : (s : Sizes) (task : Task) (others : List Task) (bytes : List ℕ) → after_sent (data_upiu DataIn task.lun task.tag task.sent bytes) DataIn (task ∷ others) ≡ with_sent (length bytes) task
    ∷ others
data_changes s task others bytes = ap (λ (b : Bool). (if b then with_sent (length bytes) task else task) ∷ others) (same_tag task.tag)

pub data_shows : (s : Sizes) (task : Task) (others : List Task) (bytes : List ℕ)
    → shown_by_kind s (data_upiu DataIn task.lun task.tag task.sent bytes) DataIn (task ∷ others) ≡ shown_at (data_upiu DataIn task.lun task.tag task.sent bytes) (next_place s task task.command)
data_shows s task others bytes = ap (λ (b : Bool). if b then shown_at (data_upiu DataIn task.lun task.tag task.sent bytes) (next_place s task task.command) else None) (same_tag task.tag)

pub goes_shown : (s : Sizes) (first : First) (kept : Kept) (e : History) (task : Task) (others : List Task) (p : Place) (block : Block)
    → IsConsistent (data_upiu DataIn task.lun task.tag task.sent block) → next_place s task task.command ≡ Some p → block ≡ block_at s kept.unit p
    → HasProgress s kept.programmed (task ∷ others)
    → Goes s first (with_tasks (task ∷ others) kept) (with_tasks (with_sent (length block) task ∷ others) kept) e (data_upiu DataIn task.lun task.tag task.sent block)
goes_shown s first kept e task others p block consistent next is progress = record {
  consistent = consistent;
  tasks = data_changes s task others block;
  switch = refl;
  progress = progress;
  holds = λ q place held.
      subst (λ (w : Option Shown). HoldsAt s (with_tasks (with_sent (length block) task ∷ others) kept) (seen_at q (candidates s first.unit e q) w) q)
      (sym (data_shows s task others block ∙ ap (shown_at (data_upiu DataIn task.lun task.tag task.sent block)) next))
      (seen_holds s kept.unit p q block (candidates s first.unit e q) (is_programmed kept.programmed (task ∷ others) q) (head_block s (task ∷ others) q ≡ Some (block_at s kept.unit q)) is held);
  at_least = omega arith;
  at_most = omega arith;
  next = refl;
  free = refl;
  erases = refl;
}

-- DATA IN of a command that shows no block
pub goes_data : (s : Sizes) (first : First) (kept : Kept) (e : History) (task : Task) (others : List Task) (bytes : List ℕ)
    → IsConsistent (data_upiu DataIn task.lun task.tag task.sent bytes) → next_place s task task.command ≡ None
    → HasProgress s kept.programmed (task ∷ others)
    → Goes s first (with_tasks (task ∷ others) kept) (with_tasks (with_sent (length bytes) task ∷ others) kept) e (data_upiu DataIn task.lun task.tag task.sent bytes)
goes_data s first kept e task others bytes consistent next progress = record {
  consistent = consistent;
  tasks = data_changes s task others bytes;
  switch = refl;
  progress = progress;
  holds = λ q place held.
      subst (λ (w : Option Shown). HoldsAt s (with_tasks (with_sent (length bytes) task ∷ others) kept) (seen_at q (candidates s first.unit e q) w) q)
      (sym (data_shows s task others bytes ∙ ap (shown_at (data_upiu DataIn task.lun task.tag task.sent bytes)) next))
      held;
  at_least = omega arith;
  at_most = omega arith;
  next = refl;
  free = refl;
  erases = refl;
}

-- READY TO TRANSFER of the first task
pub goes_asked : (s : Sizes) (first : First) (kept : Kept) (e : History) (task : Task) (others : List Task) (count : ℕ)
    → IsConsistent (transfer_upiu ReadyToTransfer task.lun task.tag task.asked count)
    → HasProgress s kept.programmed (task ∷ others)
    → Goes s first (with_tasks (task ∷ others) kept) (with_tasks (with_asked (task.asked + count) task ∷ others) kept) e (transfer_upiu ReadyToTransfer task.lun task.tag task.asked count)
goes_asked s first kept e task others count consistent progress = record {
  consistent = consistent;
  tasks = ap (λ (b : Bool). (if b then with_asked (task.asked + count) task else task) ∷ others) (same_tag task.tag);
  switch = refl;
  progress = progress;
  holds = λ q place held. held;
  at_least = omega arith;
  at_most = omega arith;
  next = refl;
  free = refl;
  erases = refl;
}

-- RESPONSE to the first task: it alone leaves
pub response_leaves : (task : Task) (others : List Task) (status residual : ℕ) (segment : List ℕ) → IsAlone task others
    → answered (response_upiu task.lun task.tag status residual segment) Response (task ∷ others) ≡ record { task = task; good = status == 0 } ∷ []
response_leaves task others status residual segment alone =
    ap (λ (b : Bool). leaving_all (status == 0) (cond b (task ∷ filter (has_tag task.tag) others) (filter (has_tag task.tag) others))) (same_tag task.tag)
    ∙ ap (λ (ts : List Task). leaving_all (status == 0) (task ∷ ts)) (none_has task.tag others alone)

pub response_changes : (task : Task) (others : List Task) (status residual : ℕ) (segment : List ℕ) → IsAlone task others
    → after_sent (response_upiu task.lun task.tag status residual segment) Response (task ∷ others) ≡ others
response_changes task others status residual segment alone =
    ap (λ (b : Bool). cond (not b) (task ∷ without_tag task.tag others) (without_tag task.tag others)) (same_tag task.tag)
    ∙ others_stay task.tag others alone

-- what the device holds once its first task has left
pub record Leaves (s : Sizes) (first : First) (kept : Kept) (e : History) (task : Task) (others : List Task) (good : Bool) : Type 0 where
  pub held : (p : Place) → HoldsAt s (with_tasks (task ∷ others) kept) (candidates s first.unit e p) p
      → Contains (with_block good (candidates s first.unit e p) (block_written s task task.command p)) (block_at s kept.unit p)
  pub at_least : (if good then blocks_of_write task.command else 0) ≤ kept.programmed
  pub at_most : kept.programmed ≤ blocks_of_head s (task ∷ [])

pub goes_ended : (s : Sizes) (first : First) (kept : Kept) (e : History) (task : Task) (others : List Task) (status residual : ℕ) (segment : List ℕ)
    → IsConsistent (response_upiu task.lun task.tag status residual segment) → IsAlone task others → AllByRecursion IsUntouched others
    → Leaves s first kept e task others (status == 0)
    → Goes s first (with_tasks (task ∷ others) kept) (left_with others kept) e (response_upiu task.lun task.tag status residual segment)
goes_ended s first kept e task others status residual segment consistent alone wait leaves =
    let v : Upiu = response_upiu task.lun task.tag status residual segment in
    let none = no_blocks s others wait in
    let goes = response_leaves task others status residual segment alone in
    let ends : sum_by blocks_ended (answered v Response (task ∷ others)) ≡ 0 + (if status == 0 then blocks_of_write task.command else 0) = ap (sum_by blocks_ended) goes in
    record {
      consistent = consistent;
      tasks = response_changes task others status residual segment alone;
      switch = refl;
      progress = no_progress s others;
      holds = λ p place held.
          subst (λ (ls : List Leaving). HoldsAt s (left_with others kept) (fold_left s (candidates s first.unit e p) ls p) p) (sym goes)
          (at_false _ (none_programmed others p) (leaves.held p held));
      at_least = omega (arith, leaves.at_least, ends);
      at_most = omega (arith, leaves.at_most);
      next = refl;
      free = refl;
      erases = refl;
    }

-- a command that is no write
pub leaves_no_write : (s : Sizes) (first : First) (kept : Kept) (e : History) (task : Task) (others : List Task) (good : Bool) → is_write task.command ≡ false
    → HasProgress s kept.programmed (task ∷ others) → Leaves s first kept e task others good
leaves_no_write s first kept e task others good other progress =
    let none : kept.programmed ≡ 0 = no_write_progress s kept.programmed task.command task other progress in
    record {
      held = λ p held.
          subst (λ (o : Option Block). Contains (with_block good (candidates s first.unit e p) o) (block_at s kept.unit p)) (sym (no_write_holds s task.command task p other))
          (MatchBool-at_false _ _ (no_write_programs kept.programmed task.command task p other) held);
      at_least = at_least_by good;
      at_most = omega arith;
    }
  where
    at_least_by : (b : Bool) → (if b then blocks_of_write task.command else 0) ≤ kept.programmed
    at_least_by true = let e = no_write_ends task.command other in omega arith
    at_least_by false = omega arith

-- a block that is in the data of a write
holds_block : (blocks : List Block) (b block : Block) (o : Option Block) (good : Bool) → o ≡ Some b → Some b ≡ Some block → Contains (with_block good blocks o) block
holds_block blocks b block o good is same =
    let equal : b ≡ block = cc in
    subst (λ (x : Option Block). Contains (with_block good blocks x) block) (sym is) (by_good good equal)
  where
    by_good : (g : Bool) → b ≡ block → Contains (with_block g blocks (Some b)) block
    by_good true equal = (0, omega arith, equal)
    by_good false equal = Contains-append_right blocks (b ∷ []) block (0, omega arith, equal)

-- a candidate that no GOOD replaces
pub stays_block : (blocks : List Block) (block : Block) (o : Option Block) → Contains blocks block → Contains (with_block false blocks o) block
stays_block blocks block None held = held
stays_block blocks block (Some b) held = Contains-append_left blocks (b ∷ []) block held

-- a place that a write doesn't cover
not_among : (s : Sizes) (task : Task) (lba n : ℕ) (p : Place) → is_among task.lun lba n p ≡ false → block_written s task (Write lba n) p ≡ None
not_among s task lba n p is =
    ap (λ (b : Bool). if b && nat_le (offset_in s lba p + s.block) (length task.come) then Some (slice_range task.come (offset_in s lba p) (offset_in s lba p + s.block)) else None) is

-- a place has the block that came for it where it is programmed, and else one that is allowed
abbrev pub IsHeld : Sizes → Task → Cdb → (unit allowed : List Block) → Place → Bool → Type 0
IsHeld s task command unit allowed p programmed =
    MatchBool programmed (block_written s task command p ≡ Some (block_at s unit p)) (Contains allowed (block_at s unit p))

-- a write that is answered GOOD has programmed all its blocks
pub leaves_good : (s : Sizes) (first : First) (kept : Kept) (e : History) (task : Task) (others : List Task) (lba n : ℕ) → task.command ≡ Write lba n
    → kept.programmed ≡ n → HasProgress s kept.programmed (task ∷ others) → Leaves s first kept e task others true
leaves_good s first kept e task others lba n is all progress = record {
  held = λ p held.
      let mine : IsHeld s task (Write lba n) kept.unit (candidates s first.unit e p) p (is_among task.lun lba n p) =
      subst (λ (m : ℕ). IsHeld s task (Write lba n) kept.unit (candidates s first.unit e p) p (is_among task.lun lba m p)) all
      (subst (λ (c : Cdb). IsHeld s task c kept.unit (candidates s first.unit e p) p (is_programmed_for kept.programmed task c p)) is held) in
      subst (λ (c : Cdb). Contains (with_block true (candidates s first.unit e p) (block_written s task c p)) (block_at s kept.unit p)) (sym is) (by_place p (is_among task.lun lba n p) refl mine);
  at_least = subst (λ (c : Cdb). blocks_of_write c ≤ kept.programmed) (sym is) (omega arith);
  at_most = progress_at_most s kept.programmed task.command task refl progress;
}
  where
    by_place : (p : Place) (b : Bool) → is_among task.lun lba n p ≡ b
        → MatchBool b (block_written s task (Write lba n) p ≡ Some (block_at s kept.unit p)) (Contains (candidates s first.unit e p) (block_at s kept.unit p))
        → Contains (with_block true (candidates s first.unit e p) (block_written s task (Write lba n) p)) (block_at s kept.unit p)
    by_place p true among held = holds_block (candidates s first.unit e p) _ _ _ true held refl
    by_place p false among held =
        subst (λ (o : Option Block). Contains (with_block true (candidates s first.unit e p) o) (block_at s kept.unit p)) (sym (not_among s task lba n p among)) held

-- any task may leave without GOOD
pub leaves_cut : (s : Sizes) (first : First) (kept : Kept) (e : History) (task : Task) (others : List Task)
    → HasProgress s kept.programmed (task ∷ others) → Leaves s first kept e task others false
leaves_cut s first kept e task others progress = record {
  held = λ p held. by_place p (is_programmed kept.programmed (task ∷ others) p) held;
  at_least = omega arith;
  at_most = progress_at_most s kept.programmed task.command task refl progress;
}
  where
    by_place : (p : Place) (b : Bool)
        → MatchBool b (block_written s task task.command p ≡ Some (block_at s kept.unit p)) (Contains (candidates s first.unit e p) (block_at s kept.unit p))
        → Contains (with_block false (candidates s first.unit e p) (block_written s task task.command p)) (block_at s kept.unit p)
    by_place p true held = holds_block (candidates s first.unit e p) _ _ _ false held refl
    by_place p false held = stays_block (candidates s first.unit e p) (block_at s kept.unit p) _ held
