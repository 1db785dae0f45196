-- Which pages the chip of a device has of each place, and what its entries say of them (this project's own).
use Rattle.std.specs.Prelude.{◌≡◌, ◌<◌, ℕ, Bool, true, false, ◌||◌, List, [], ◌∷◌, length, Option, Some, None, is_some}
use Rattle.std.specs.Prelude.{unwrap_or}
use Rattle.flash_pages.specs.Place.{Place, IsPlace}
use Rattle.flat_unit.specs.Entries.{is_fresh, no_page}
use Rattle.flat_unit.specs.History.{History}
use Rattle.flat_unit.specs.Sizes.{Sizes}
use Rattle.flat_unit.specs.Stands.{Kept, is_programmed}
use Rattle.flat_unit.specs.Task.{Task}
use Rattle.flat_unit.specs.Writes.{covers, is_settled, is_touched}

-- the chip has a page of each place where the first chip had one, of each that a write answered GOOD covers, and of
-- each that is programmed for the first task; it has none where the first chip had none and no write took DATA OUT
pub record HasPages (s : Sizes) (had : Place → Bool) (kept : Kept) (page_of : Place
    → Option ℕ) (e : History) : Type 0 where
  pub there : (p : Place) → IsPlace s.luns s.units p
      → (had p || (is_settled s e p || is_programmed kept.programmed kept.tasks p)) ≡ true → is_some (page_of p) ≡ true
  pub absent : (p : Place) → IsPlace s.luns s.units p → (had p || is_touched s e p) ≡ false → page_of p ≡ None

-- each page is one of the chip's
abbrev pub ArePages : ℕ → (Place → Option ℕ) → Type 0
ArePages pages page_of = (p : Place) (x : ℕ) → page_of p ≡ Some x → x < pages

-- the entry of a place
abbrev pub entry_at : (Place → Option ℕ) → Place → ℕ
entry_at page_of p = unwrap_or (page_of p) no_page

-- a fresh entry is the page of its place
abbrev pub KeepsFresh : Sizes → (Place → Option ℕ) → History → Type 0
KeepsFresh s page_of e = (p : Place) (x : ℕ) → IsPlace s.luns s.units p → is_fresh s e p x ≡ true → page_of p ≡ Some x

-- a write for which data have come took DATA OUT
abbrev pub HeadTouched : Place → Bool → List Task → Type 0
HeadTouched p touched [] = Unit {0}
HeadTouched p touched (task ∷ _) = 0 < length task.come → covers p task ≡ true → touched ≡ true

-- no entry of the place is listed since data came for a write that covers it
abbrev pub HeadUnlisted : Place → Bool → List Task → Type 0
HeadUnlisted p was [] = Unit {0}
HeadUnlisted p was (task ∷ _) = 0 < length task.come → covers p task ≡ true → was ≡ false
