-- Which blocks are allowed at a place after every history.
use Rattle.std.proofs.Common.{◌≡◌, ⊎_elim, ◌-◌, ℕ, ◌+◌, ◌*◌, ◌≤◌, ◌<◌, Bool, true, false, cond, ◌&&◌, List, [], ◌∷◌, length, Option, Some, None, refl, ◌∙◌, ap, arith, nat_le, ◌==◌, slice_range}
use Rattle.std.specs.Prelude.{fold, if◌then◌else◌}
use Rattle.std.specs.List.{AllByRecursion}
use Rattle.std.proofs.Math.Nat.{mul-le-mul_left}
use Rattle.std.proofs.lemmas.Bool.Decides.{nat_tests}
use Rattle.std.proofs.lemmas.List.{length-append}
use Rattle.flash_pages.specs.Place.{Place}
use Rattle.hpb_cdb.specs.declared.cdb.Cdb.{Cdb}
use Rattle.hpb_cdb.specs.declared.cdb.Cdb.TheVariants.{Read, Write, Capacity, HpbRead, ReadBuffer, Prefetch}
use Rattle.hpb_cdb.specs.Cdb.{needed_by}
use Rattle.upiu_wire.specs.declared.kind.Kind.{Kind}
use Rattle.upiu_wire.specs.declared.kind.Kind.TheVariants.{DataIn}
use Rattle.upiu_wire.specs.Upiu.{upiu_at}
use Rattle.flat_unit.specs.declared.event.Event.{Event}
use Rattle.flat_unit.specs.declared.event.Event.TheVariants.{Host, Device, Reset, Moved, Failed, Cleared, Switched, Gone}
use Rattle.flat_unit.specs.Command.{is_write, bytes_taken, needed}
use Rattle.flat_unit.specs.Contents.{Block, Shown, Leaving, answered, block_written, candidates, is_among, is_same, leaving, left_by, offset_in, seen_at, shown, shown_by_kind, with_block}
use Rattle.flat_unit.specs.History.{History, ◌▹◌}
use Rattle.flat_unit.specs.Laws.{IsUncut, NoneCut, ChangesNothing}
use Rattle.flat_unit.specs.Queue.{tasks_after}
use Rattle.flat_unit.specs.Sizes.{Sizes, limits_of}
use Rattle.flat_unit.specs.Sound.{SoundSoFar}
use Rattle.flat_unit.specs.Task.{Task}
use Rattle.flat_unit.proofs.standing.Sending.{no_write_holds}
use Rattle.flat_unit.proofs.queue.Tasks.{same_tag}
use Rattle.flat_unit.proofs.queue.Ends.{good_moved}

-- a list that only grows
grown : (good : Bool) (blocks : List Block) (o : Option Block) → 0 < length blocks → 0 < length (with_block good blocks o)
grown good blocks None some = some
grown true blocks (Some b) some = omega arith
grown false blocks (Some b) some = let e = length-append blocks (b ∷ []) in omega arith

folded : (s : Sizes) (p : Place) (ls : List Leaving) (blocks : List Block) → 0 < length blocks → 0 < length (fold (left_by s p) blocks ls)
folded s p [] blocks some = some
folded s p (l ∷ ls) blocks some = folded s p ls _ (grown l.good blocks (block_written s l.task l.task.command p) some)

seen : (p : Place) (blocks : List Block) (w : Option Shown) → 0 < length blocks → 0 < length (seen_at p blocks w)
seen p blocks None some = some
seen p blocks (Some w) some = elim (is_same w.place p) as (λ b. 0 < length (cond b (w.block ∷ []) blocks)) [
  | true ↦ omega arith
  | false ↦ some
]

-- some block is always allowed
pub some_candidate : (s : Sizes) (unit : List Block) (e : History) (p : Place) → 0 < length (candidates s unit e p)
some_candidate s unit [] p = omega arith
some_candidate s unit (x ∷ e) p = seen p _ (shown s (tasks_after s e) x) (folded s p (leaving (tasks_after s e) x) (candidates s unit e p) (some_candidate s unit e p))

-- a UPIU that ends a task shows no block
ends_shows_none : (s : Sizes) (tasks : List Task) (bytes : List ℕ) (l : Leaving) (ls : List Leaving) → leaving tasks (Device bytes) ≡ l ∷ ls → shown s tasks (Device bytes) ≡ None
ends_shows_none s tasks bytes l ls is = by_kind (upiu_at bytes).kind is
  where
    by_kind : (k : Kind) → answered (upiu_at bytes) k tasks ≡ l ∷ ls → shown_by_kind s (upiu_at bytes) k tasks ≡ None
    by_kind DataIn is = cc
    by_kind _ is = refl

-- after a write was answered GOOD, each of its places has its block alone
pub good_write : (s : Sizes) (u : List Block) (e : History) (bytes : List ℕ) (task : Task) (lba n : ℕ) (p : Place) → SoundSoFar s u (e ▹ Device bytes)
    → leaving (tasks_after s e) (Device bytes) ≡ record { task = task; good = true } ∷ [] → task.command ≡ Write lba n → is_among task.lun lba n p ≡ true
    → candidates s u (e ▹ Device bytes) p ≡ slice_range task.come (offset_in s lba p) (offset_in s lba p + s.block) ∷ []
good_write s u e bytes task lba n p sound leaves is among =
    let moved = good_moved s u e bytes task sound leaves in
    let come : length task.come ≡ s.block * n = moved.come ∙ ap (bytes_taken s) is in
    let shows = ends_shows_none s (tasks_after s e) bytes _ _ leaves in
    ap (λ (ls : List Leaving). seen_at p (fold (left_by s p) (candidates s u e p) ls) (shown s (tasks_after s e) (Device bytes))) leaves
    ∙ ap (λ (w : Option Shown). seen_at p (with_block true (candidates s u e p) (block_written s task task.command p)) w) shows
    ∙ ap (λ (c : Cdb). with_block true (candidates s u e p) (block_written s task c p)) is
    ∙ ap (with_block true (candidates s u e p)) (has_all come)
  where
    among_below : is_among task.lun lba n p ≡ true → p.lba - lba + 1 ≤ n
    among_below is = grind (arith, nat_tests)

    inside : length task.come ≡ s.block * n → nat_le (offset_in s lba p + s.block) (length task.come) ≡ true
    inside come =
        let below : p.lba - lba + 1 ≤ n = among_below among in
        let e : s.block * (p.lba - lba + 1) ≤ s.block * n = mul-le-mul_left s.block below in
        grind (arith, nat_tests)

    has_all : length task.come ≡ s.block * n → block_written s task (Write lba n) p ≡ Some (slice_range task.come (offset_in s lba p) (offset_in s lba p + s.block))
    has_all come =
        ap (λ (b : Bool). if b && nat_le (offset_in s lba p + s.block) (length task.come) then Some (slice_range task.come (offset_in s lba p) (offset_in s lba p + s.block)) else None) among
        ∙ ap (λ (b : Bool). if b then Some (slice_range task.come (offset_in s lba p) (offset_in s lba p + s.block)) else None) (inside come)

-- the bytes that a command moves are those that it gives and those that it takes
pub moves_needed : (s : Sizes) (command : Cdb) → s.block ≡ 4096 → needed s command ≡ needed_by (limits_of s) command
moves_needed s (Read lba n) is = ap (λ (b : ℕ). b * n + 0) is ∙ omega arith
moves_needed s (Write lba n) is = ap (λ (b : ℕ). 0 + b * n) is ∙ omega arith
moves_needed s (HpbRead lba entry n id) is = ap (λ (b : ℕ). b * n + 0) is ∙ omega arith
moves_needed s Capacity is = omega arith
moves_needed s (ReadBuffer region sub len) is = omega arith
moves_needed s (Prefetch lba id len) is = omega arith
moves_needed s _ is = omega arith

-- a block that was shown stands alone
pub shown_alone : (s : Sizes) (u : List Block) (e : History) (x : Event) (w : Shown) → shown s (tasks_after s e) x ≡ Some w → candidates s u (e ▹ x) w.place ≡ w.block ∷ []
shown_alone s u e x w is =
    ap (seen_at w.place (fold (left_by s w.place) (candidates s u e w.place) (leaving (tasks_after s e) x))) is
    ∙ ap (λ (b : Bool). if b then w.block ∷ [] else fold (left_by s w.place) (candidates s u e w.place) (leaving (tasks_after s e) x))
    (ap (λ (b : Bool). b && (w.place.lba == w.place.lba)) (same_tag w.place.lun) ∙ same_tag w.place.lba)

pub nothing_changes : (s : Sizes) (u : List Block) (e : History) (x : Event) (p : Place) → ChangesNothing x → candidates s u (e ▹ x) p ≡ candidates s u e p
nothing_changes s u e (Host bytes) p is = refl
nothing_changes s u e (Moved lun lba) p is = refl
nothing_changes s u e (Failed op) p is = refl
nothing_changes s u e Cleared p is = refl
nothing_changes s u e (Switched on) p is = refl
nothing_changes s u e (Device bytes) p is = absurd is
nothing_changes s u e Reset p is = absurd is
nothing_changes s u e (Gone tag) p is = absurd is

-- where no write was cut each place has one block
one_left : (s : Sizes) (p : Place) (blocks : List Block) (l : Leaving) → IsUncut l → length blocks ≡ 1 → length (left_by s p blocks l) ≡ 1
one_left s p blocks l uncut one = ⊎_elim
    (λ (other : is_write l.task.command ≡ false). ap (λ (o : Option Block). length (with_block l.good blocks o)) (no_write_holds s l.task.command l.task p other) ∙ one)
    (λ (good : l.good ≡ true). ap (λ (g : Bool). length (with_block g blocks (block_written s l.task l.task.command p))) good ∙ by_block (block_written s l.task l.task.command p))
    uncut
  where
    by_block : (o : Option Block) → length (with_block true blocks o) ≡ 1
    by_block None = one
    by_block (Some b) = refl

pub one_block : (s : Sizes) (u : List Block) (e : History) (p : Place) → NoneCut s e → length (candidates s u e p) ≡ 1
one_block s u [] p none = refl
one_block s u (x ∷ e) p none = by_shown (shown s (tasks_after s e) x) _ (by_leaving (leaving (tasks_after s e) x) (candidates s u e p) none.1 (one_block s u e p none.0))
  where
    by_leaving : (ls : List Leaving) (blocks : List Block) → AllByRecursion IsUncut ls → length blocks ≡ 1 → length (fold (left_by s p) blocks ls) ≡ 1
    by_leaving [] blocks all one = one
    by_leaving (l ∷ ls) blocks all one = by_leaving ls (left_by s p blocks l) all.1 (one_left s p blocks l all.0 one)

    by_shown : (w : Option Shown) (blocks : List Block) → length blocks ≡ 1 → length (seen_at p blocks w) ≡ 1
    by_shown None blocks one = one
    by_shown (Some w) blocks one = elim (is_same w.place p) as (λ b. length (cond b (w.block ∷ []) blocks) ≡ 1) [
      | true ↦ refl
      | false ↦ one
    ]
