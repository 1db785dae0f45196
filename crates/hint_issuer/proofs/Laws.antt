-- What two calls of each kind take.
use Rattle.std.proofs.Common.{◌≡◌, ℕ, Bool, true, false, cond, List, [], ◌∷◌, take, drop, map, Option, Some, None, refl, sym, ap, subst, ◌∙◌}
use Rattle.std.specs.List.{slice_get}
use Rattle.std.specs.Option.{option_map}
use Rattle.arrayvec.specs.ArrayVec.{ArrayVec}
use Rattle.hpb_sense.specs.declared.sense.Hint.{Hint}
use Rattle.region_state.specs.declared.shape.Shape.{Shape}
use Rattle.region_state.specs.Shape.{place_of}
use Rattle.region_state.proofs.Telling.{due-after_told}
use Rattle.region_state.specs.Machine.{Machine, due, after_told}
use Rattle.flat_unit.specs.Hints.{reset_hint, update_hint, has_nothing, hint_of, after_take}

module _ (f : ℕ → ℕ × ℕ) where
  pub due-none : (numbers : List ℕ) → None ≡ option_map f (slice_get numbers 0) → numbers ≡ []
  due-none [] _ = refl
  due-none (x ∷ xs) e = cc

  pub places-one : (numbers : List ℕ) (a : ℕ × ℕ) → Some a ≡ option_map f (slice_get numbers 0) → None ≡ option_map f (slice_get (drop 1 numbers) 0)
      → a ∷ [] ≡ map f (take 2 numbers)
  places-one [] a e _ = cc
  places-one (x ∷ []) a e _ = cc
  places-one (x ∷ y ∷ xs) a _ e = cc

  pub places-two : (numbers : List ℕ) (a b : ℕ × ℕ) → Some a ≡ option_map f (slice_get numbers 0) → Some b ≡ option_map f (slice_get (drop 1 numbers) 0)
      → a ∷ b ∷ [] ≡ map f (take 2 numbers)
  places-two [] a b e _ = cc
  places-two (x ∷ []) a b _ e = cc
  places-two (x ∷ y ∷ xs) a b e g = cc

-- where none is due, as many as one likes are told
pub after_told-none : (m : Machine) → due m ≡ [] → after_told 1 m ≡ after_told 2 m
unfolding after_told
after_told-none m none = rw none refl

pub gone-after_told : (n : ℕ) (m : Machine) → (after_told n m).gone ≡ m.gone
unfolding after_told
gone-after_told n m = refl

-- no news is no change
pub quiet : (m : Machine) → m.news ≡ false → (let n : Machine = record m { news = false } in n ≡ m)
quiet m silent = let P : Bool → Type 0 = λ b. (let n : Machine = record m { news = b } in n ≡ m) in subst P silent refl

pub after_take-update : (m : Machine) → m.news ≡ false → (let n : Machine = record (after_told 2 m) { gone = drop 2 m.gone } in after_take m ≡ n)
unfolding after_take
after_take-update m silent = rw silent refl

pub hint_of-none : (m : Machine) (lun : ℕ) → m.news ≡ false → has_nothing (update_hint m lun) ≡ true → hint_of m lun ≡ None
unfolding hint_of
hint_of-none m lun silent nothing =
    ap (λ t. cond {A = Option Hint} t (Some (reset_hint lun)) (cond {A = Option Hint} (has_nothing (update_hint m lun)) None (Some (update_hint m lun)))) silent
    ∙ ap (λ t. cond {A = Option Hint} t None (Some (update_hint m lun))) nothing

pub hint_of-some : (m : Machine) (lun : ℕ) → m.news ≡ false → has_nothing (update_hint m lun) ≡ false → hint_of m lun ≡ Some (update_hint m lun)
unfolding hint_of
hint_of-some m lun silent something =
    ap (λ t. cond {A = Option Hint} t (Some (reset_hint lun)) (cond {A = Option Hint} (has_nothing (update_hint m lun)) None (Some (update_hint m lun)))) silent
    ∙ ap (λ t. cond {A = Option Hint} t None (Some (update_hint m lun))) something

pub shape-after_told : (n : ℕ) (m : Machine) → (after_told n m).shape ≡ m.shape
unfolding after_told
shape-after_told n m = refl

-- what is first after one was told is second
pub later : (m next : Machine) (place : Option (ℕ × ℕ)) → next ≡ after_told 1 m → place ≡ option_map (place_of next.shape) (slice_get (due next) 0)
    → place ≡ option_map (place_of m.shape) (slice_get (drop 1 (due m)) 0)
later m next place told first =
    let P : Machine → Type 0 = λ n. place ≡ option_map (place_of n.shape) (slice_get (due n) 0) in
    let Q : Shape → Type 0 = λ shape. place ≡ option_map (place_of shape) (slice_get (due (after_told 1 m)) 0) in
    let R : List ℕ → Type 0 = λ numbers. place ≡ option_map (place_of m.shape) (slice_get numbers 0) in
    subst R (due-after_told m) (subst Q (shape-after_told 1 m) (subst P told first))

-- the hint of two lists of this state
pub is_update : (m : Machine) (lun : ℕ) (active : ArrayVec (ℕ × ℕ)) (inactive : ArrayVec ℕ)
    → active.items ≡ map (place_of m.shape) (take 2 (due m)) → inactive.items ≡ take 2 m.gone
    → (let hint : Hint = record { op = 1; lun = lun; active = active; inactive = inactive } in hint ≡ update_hint m lun)
is_update m lun active inactive places regions =
    let P : List (ℕ × ℕ) → Type 0 = λ xs.
    (let hint : Hint = record { op = 1; lun = lun; active = active; inactive = inactive } in
    let other : Hint = record { op = 1; lun = lun; active = record { items = xs }; inactive = record { items = take 2 m.gone } } in hint ≡ other) in
    let Q : List ℕ → Type 0 = λ xs.
    (let hint : Hint = record { op = 1; lun = lun; active = active; inactive = inactive } in
    let other : Hint = record { op = 1; lun = lun; active = active; inactive = record { items = xs } } in hint ≡ other) in
    subst P places (subst Q regions refl)

-- what the three calls took of m, where there was no news
pub record TakesUpdate (m last : Machine) (lun : ℕ) (active : ArrayVec (ℕ × ℕ)) (inactive : ArrayVec ℕ) : Type 0 where
  pub silent : m.news ≡ false
  pub hint : (let taken : Hint = record { op = 1; lun = lun; active = active; inactive = inactive } in taken ≡ update_hint m lun)
  pub told : last ≡ after_take m

pub takes_update : (m first second last : Machine) (lun : ℕ) (active : ArrayVec (ℕ × ℕ)) (inactive : ArrayVec ℕ)
    → m.news ≡ false → (let n : Machine = record m { news = false } in first ≡ n)
    → active.items ≡ map (place_of first.shape) (take 2 (due first)) → second ≡ after_told 2 first
    → inactive.items ≡ take 2 second.gone → (let n : Machine = record second { gone = drop 2 second.gone } in last ≡ n)
    → TakesUpdate m last lun active inactive
takes_update m first second last lun active inactive silent unchanged places told regions told_gone =
    let same : first ≡ m = unchanged ∙ quiet m silent in
    let P : Machine → Type 0 = λ n. active.items ≡ map (place_of n.shape) (take 2 (due n)) in
    let active_is : active.items ≡ map (place_of m.shape) (take 2 (due m)) = subst P same places in
    let second_is : second ≡ after_told 2 m = told ∙ ap (after_told 2) same in
    let gone_is : second.gone ≡ m.gone = ap (λ (n : Machine). n.gone) second_is ∙ gone-after_told 2 m in
    record {
      silent = silent;
      hint = is_update m lun active inactive active_is (regions ∙ ap (take 2) gone_is);
      told = told_gone ∙ with_rest second (after_told 2 m) m.gone second_is gone_is ∙ sym (after_take-update m silent);
    }
  where
    with_rest : (a b : Machine) (gone : List ℕ) → a ≡ b → a.gone ≡ gone
        → (let n : Machine = record a { gone = drop 2 a.gone } in let k : Machine = record b { gone = drop 2 gone } in n ≡ k)
    with_rest a b gone e f =
        let P : Machine → List ℕ → Type 0 = λ x xs. (let n : Machine = record a { gone = drop 2 a.gone } in let k : Machine = record x { gone = drop 2 xs } in n ≡ k) in
        let Q : List ℕ → Type 0 = λ xs. P a xs in
        let R : Machine → Type 0 = λ x. P x gone in
        subst R e (subst Q f refl)
