-- What stays of the open commands, the caches and the memory for a list.
use Rattle.std.proofs.Common.{◌≡◌, ℕ, zero, suc, ◌*◌, ◌≤◌, ◌<◌, Bool, true, false, not, ◌||◌, ◌&&◌, List, [], ◌∷◌, length, refl, sym, ◌∙◌, ap, subst, arith, ◌==◌}
use Rattle.std.specs.Prelude.{slice_set, if◌then◌else◌}
use Rattle.std.specs.List.{remove}
use Rattle.std.proofs.lemmas.Bool.{false≢true, eqb-true}
use Rattle.hpb_cdb.specs.declared.cdb.Cdb.{Cdb}
use Rattle.hpb_cdb.specs.declared.cdb.Cdb.TheVariants.{ReadBuffer}
use Rattle.upiu_wire.specs.declared.kind.Kind.{Kind}
use Rattle.upiu_wire.specs.declared.kind.Kind.TheVariants.{Response}
use Rattle.upiu_wire.specs.Upiu.{Upiu}
use Rattle.region_state.specs.declared.shape.Shape.{Shape}
use Rattle.host_map_cache.specs.Cache.{CacheState, sub_length}
use Rattle.host_map_cache.specs.Shapes.{is_present}
use Rattle.flat_unit.specs.Command.{bytes_given}
use Rattle.flat_unit.specs.Sizes.{Sizes}
use Rattle.driver_laws.specs.Commands.{Begin, Next, Nothing, OpenCommand, Piece, after_next, change_first, is_waiting}
use Rattle.driver_laws.specs.Commands.{next_of, owes_data, with_begin, with_piece}
use Rattle.driver_laws.specs.Deliver.{has_moved_all, is_in_phase, may_come_by}
use Rattle.driver_caches.specs.Effects.{AllHaveEntries, AllHaveSub, LoadsThere, LoadsWhole, shapes_of}
use Rattle.driver_caches.specs.Machine.{is_load, loads}
use Rattle.driver_commands.specs.Calls.{IsAt}
use Rattle.driver_commands.specs.Open.{sizes_of}
use Rattle.driver_commands.specs.State.{AllHaveShape, AllLoadsWhole, IsReady, IsWholeLoad}

either_fails : (a b : Bool) → (a || b) ≡ false → (a ≡ false) × (b ≡ false)
either_fails true b is = absurd (false≢true (sym is))
either_fails false b is = (refl, is)

-- a command is changed in its place, and stays the same command
all_set : (shape : Shape) (opens : List OpenCommand) (place : ℕ) (o new : OpenCommand) → AllLoadsWhole shape opens → IsAt o opens place → new.command ≡ o.command
    → AllLoadsWhole shape (slice_set opens place new)
all_set shape [] place o new all at same = tt
all_set shape (x ∷ xs) zero o new all at same =
    (subst (IsWholeLoad shape) (ap (λ (y : OpenCommand). y.command) at ∙ sym same) all.0, all.1)
all_set shape (x ∷ xs) (suc place) o new all at same = (all.0, all_set shape xs place o new all.1 at same)

loads_set : (opens : List OpenCommand) (place : ℕ) (o new : OpenCommand) → IsAt o opens place → new.command ≡ o.command → loads (slice_set opens place new) ≡ loads opens
loads_set [] place o new at same = refl
loads_set (x ∷ xs) zero o new at same =
    ap (λ (c : Cdb). is_load c || loads xs) (same ∙ sym (ap (λ (y : OpenCommand). y.command) at))
loads_set (x ∷ xs) (suc place) o new at same = ap (λ (b : Bool). is_load x.command || b) (loads_set xs place o new at same)

pub set_ready : (shape : Shape) (opens now : List OpenCommand) (caches : List CacheState) (capacity place : ℕ) (o new : OpenCommand) → IsReady shape opens caches capacity → IsAt o opens place
    → new.command ≡ o.command → now ≡ slice_set opens place new → IsReady shape now caches capacity
set_ready shape opens now caches capacity place o new ready at same leads =
    subst (λ (os : List OpenCommand). IsReady shape os caches capacity) (sym leads) (record {
      limits = ready.limits;
      shapes = ready.shapes;
      whole = all_set shape opens place o new ready.whole at same;
      list = λ none. ready.list (sym (loads_set opens place o new at same) ∙ none);
    })

-- the first command that passes a test is changed, and stays the same command
all_change : (shape : Shape) (test : OpenCommand → Bool) (f : OpenCommand → OpenCommand) (opens : List OpenCommand) → ((o : OpenCommand) → (f o).command ≡ o.command) → AllLoadsWhole shape opens
    → AllLoadsWhole shape (change_first test f opens)
all_change shape test f [] same all = tt
all_change shape test f (x ∷ xs) same all = by_test (all_change shape test f xs same all.1) (test x)
  where
    by_test : AllLoadsWhole shape (change_first test f xs) → (b : Bool) → AllLoadsWhole shape (if b then f x ∷ xs else x ∷ change_first test f xs)
    by_test rest true = (subst (IsWholeLoad shape) (sym (same x)) all.0, all.1)
    by_test rest false = (all.0, rest)

loads_change : (test : OpenCommand → Bool) (f : OpenCommand → OpenCommand) (opens : List OpenCommand) → ((o : OpenCommand) → (f o).command ≡ o.command)
    → loads (change_first test f opens) ≡ loads opens
loads_change test f [] same = refl
loads_change test f (x ∷ xs) same = by_test (loads_change test f xs same) (test x)
  where
    by_test : loads (change_first test f xs) ≡ loads xs → (b : Bool) → loads (if b then f x ∷ xs else x ∷ change_first test f xs) ≡ loads (x ∷ xs)
    by_test rest true = ap (λ (c : Cdb). is_load c || loads xs) (same x)
    by_test rest false = ap (λ (b : Bool). is_load x.command || b) rest

pub change_ready : (shape : Shape) (test : OpenCommand → Bool) (f : OpenCommand → OpenCommand) (opens : List OpenCommand) (caches : List CacheState) (capacity : ℕ)
    → ((o : OpenCommand) → (f o).command ≡ o.command) → IsReady shape opens caches capacity → IsReady shape (change_first test f opens) caches capacity
change_ready shape test f opens caches capacity same ready = record {
  limits = ready.limits;
  shapes = ready.shapes;
  whole = all_change shape test f opens same ready.whole;
  list = λ none. ready.list (sym (loads_change test f opens same) ∙ none);
}

-- a command goes
all_gone : (shape : Shape) (opens : List OpenCommand) (place : ℕ) → AllLoadsWhole shape opens → AllLoadsWhole shape (remove opens place)
all_gone shape [] zero all = tt
all_gone shape [] (suc place) all = tt
all_gone shape (x ∷ xs) zero all = all.1
all_gone shape (x ∷ xs) (suc place) all = (all.0, all_gone shape xs place all.1)

loads_gone : (opens : List OpenCommand) (place : ℕ) (o : OpenCommand) → IsAt o opens place → place < length opens → is_load o.command ≡ false → loads (remove opens place) ≡ false → loads opens ≡ false
loads_gone [] place o at inside other none = absurd (omega (arith, inside))
loads_gone (x ∷ xs) zero o at inside other none =
    ap (λ (c : Cdb). is_load c || loads xs) (ap (λ (y : OpenCommand). y.command) at) ∙ ap (λ (b : Bool). b || loads xs) other ∙ none
loads_gone (x ∷ xs) (suc place) o at inside other none =
    let parts = either_fails (is_load x.command) (loads (remove xs place)) none in
    ap (λ (b : Bool). b || loads xs) parts.0 ∙ loads_gone xs place o at (omega (arith, inside)) other parts.1

whole_at : (shape : Shape) (opens : List OpenCommand) (place : ℕ) (o : OpenCommand) → AllLoadsWhole shape opens → IsAt o opens place → place < length opens → IsWholeLoad shape o.command
whole_at shape [] place o all at inside = absurd (omega (arith, inside))
whole_at shape (x ∷ xs) zero o all at inside = subst (IsWholeLoad shape) (ap (λ (y : OpenCommand). y.command) at) all.0
whole_at shape (x ∷ xs) (suc place) o all at inside = whole_at shape xs place o all.1 at (omega (arith, inside))

all_shape : (shape : Shape) (cs now : List CacheState) → shapes_of now ≡ shapes_of cs → AllHaveShape shape cs → AllHaveShape shape now
all_shape shape [] [] same all = tt
all_shape shape [] (y ∷ ys) same all = absurd (some_none y.shape (shapes_of ys) same)
  where
    some_none : (s : Shape) (ss : List Shape) → s ∷ ss ≡ [] → ⊥
    some_none s ss is = cc
all_shape shape (x ∷ xs) [] same all = tt
all_shape shape (x ∷ xs) (y ∷ ys) same all =
    (head_same y.shape x.shape (shapes_of ys) (shapes_of xs) same ∙ all.0, all_shape shape xs ys (tail_same y.shape x.shape (shapes_of ys) (shapes_of xs) same) all.1)
  where
    head_same : (a b : Shape) (xs ys : List Shape) → a ∷ xs ≡ b ∷ ys → a ≡ b
    head_same a b xs ys is = cc

    tail_same : (a b : Shape) (xs ys : List Shape) → a ∷ xs ≡ b ∷ ys → xs ≡ ys
    tail_same a b xs ys is = cc

pub caches_ready : (shape : Shape) (opens : List OpenCommand) (cs now : List CacheState) (capacity : ℕ) → shapes_of now ≡ shapes_of cs → IsReady shape opens cs capacity
    → IsReady shape opens now capacity
caches_ready shape opens cs now capacity same ready = record { limits = ready.limits; shapes = all_shape shape cs now same ready.shapes; whole = ready.whole; list = ready.list }

-- a command that isn't a list of entries goes
pub gone_ready : (shape : Shape) (opens now : List OpenCommand) (caches : List CacheState) (capacity place : ℕ) (o : OpenCommand) → IsReady shape opens caches capacity → IsAt o opens place
    → place < length opens
    → is_load o.command ≡ false → now ≡ remove opens place → IsReady shape now caches capacity
gone_ready shape opens now caches capacity place o ready at inside other leads =
    subst (λ (os : List OpenCommand). IsReady shape os caches capacity) (sym leads) (record {
      limits = ready.limits;
      shapes = ready.shapes;
      whole = all_gone shape opens place ready.whole;
      list = λ none. ready.list (loads_gone opens place o at inside other none);
    })

-- a list of entries goes, and its memory is there again
pub list_ready : (shape : Shape) (opens now : List OpenCommand) (caches : List CacheState) (capacity room place : ℕ) → IsReady shape opens caches capacity → 523904 ≤ room → now ≡ remove opens place
    → IsReady shape now caches room
list_ready shape opens now caches capacity room place ready has leads =
    subst (λ (os : List OpenCommand). IsReady shape os caches room) (sym leads) (record {
      limits = ready.limits;
      shapes = ready.shapes;
      whole = all_gone shape opens place ready.whole;
      list = λ none. has;
    })

-- what a RESPONSE needs of the caches
sub_there : (shape : Shape) (region sub : ℕ) (cs : List CacheState) → AllHaveShape shape cs → is_present shape region sub ≡ true → AllHaveSub region sub cs
sub_there shape region sub [] all there = tt
sub_there shape region sub (c ∷ cs) all there = (ap (λ (s : Shape). is_present s region sub) all.0 ∙ there, sub_there shape region sub cs all.1 there)

entries_there : (shape : Shape) (region sub : ℕ) (got : List ℕ) (cs : List CacheState) → AllHaveShape shape cs → length got ≡ 8 * sub_length shape region sub → AllHaveEntries region sub got cs
entries_there shape region sub got [] all is = tt
entries_there shape region sub got (c ∷ cs) all is =
    (is ∙ sym (ap (λ (s : Shape). 8 * sub_length s region sub) all.0), entries_there shape region sub got cs all.1 is)

there_by : (shape : Shape) (command : Cdb) (cs : List CacheState) → AllHaveShape shape cs → IsWholeLoad shape command → LoadsThere command cs
there_by shape (ReadBuffer region sub len) cs all whole = sub_there shape region sub cs all whole.0
there_by shape _ cs all whole = tt

pub is_there : (shape : Shape) (opens : List OpenCommand) (caches : List CacheState) (capacity place : ℕ) (o : OpenCommand) → IsReady shape opens caches capacity → IsAt o opens place
    → place < length opens
    → LoadsThere o.command caches
is_there shape opens caches capacity place o ready at inside = there_by shape o.command caches ready.shapes (whole_at shape opens place o ready.whole at inside)

and_both : (a b : Bool) → (a && b) ≡ true → (a ≡ true) × (b ≡ true)
and_both true b is = (refl, is)
and_both false b is = absurd (false≢true is)

or_else : (a b : Bool) → (not a || b) ≡ true → a ≡ true → b ≡ true
or_else true b is holds = is
or_else false b is holds = absurd (false≢true holds)

-- a GOOD RESPONSE comes only after all entries
whole_by : (shape : Shape) (command : Cdb) (o : OpenCommand) (good : Bool) (cs : List CacheState) → o.command ≡ command → AllHaveShape shape cs → IsWholeLoad shape command
    → (good ≡ true → has_moved_all (sizes_of shape) o ≡ true) → LoadsWhole good command o.got cs
whole_by shape (ReadBuffer region sub len) o true cs is all whole moved =
    let parts = and_both _ _ (moved refl) in
    let got = eqb-true _ _ parts.0 in
    entries_there shape region sub o.got cs all (got ∙ ap (λ (c : Cdb). bytes_given (sizes_of shape) c) is ∙ given)
  where
    given : bytes_given (sizes_of shape) (ReadBuffer region sub len) ≡ 8 * sub_length shape region sub
    given = omega (arith, whole.1)
whole_by shape (ReadBuffer region sub len) o false cs is all whole moved = tt
whole_by shape _ o true cs is all whole moved = tt
whole_by shape _ o false cs is all whole moved = tt

pub is_whole : (shape : Shape) (opens : List OpenCommand) (caches : List CacheState) (capacity place : ℕ) (o : OpenCommand) (v : Upiu) (good : Bool) → IsReady shape opens caches capacity
    → IsAt o opens place
    → place < length opens → is_in_phase (sizes_of shape) o v ≡ true → v.kind ≡ Response → good ≡ (v.status == 0) → LoadsWhole good o.command o.got caches
is_whole shape opens caches capacity place o v good ready at inside phase kind is =
    whole_by shape o.command o good caches refl ready.shapes (whole_at shape opens place o ready.whole at inside) (λ good_is.
    let may = (and_both _ _ phase).1 in
    or_else (v.status == 0) (has_moved_all (sizes_of shape) o) (sym (ap (λ (k : Kind). may_come_by k (sizes_of shape) o v) kind) ∙ may) (sym is ∙ good_is))

-- what comes next is sent
pub next_ready : (shape : Shape) (s : Sizes) (opens now : List OpenCommand) (caches : List CacheState) (capacity : ℕ) → IsReady shape opens caches capacity
    → now ≡ after_next s opens (next_of opens) → IsReady shape now caches capacity
next_ready shape s opens now caches capacity ready leads =
    subst (λ (os : List OpenCommand). IsReady shape os caches capacity) (sym leads) (by_next (next_of opens))
  where
    by_next : (next : Next) → IsReady shape (after_next s opens next) caches capacity
    by_next (Piece o) = change_ready shape owes_data (with_piece s) opens caches capacity (λ x. refl) ready
    by_next (Begin o) = change_ready shape is_waiting with_begin opens caches capacity (λ x. refl) ready
    by_next Nothing = ready
