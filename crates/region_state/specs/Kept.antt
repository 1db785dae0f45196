-- What holds of the regions at every moment.
use Rattle.std.specs.Prelude.{◌≡◌, ℕ, ◌≤◌, ◌<◌, Bool, true, false, List, length}
use Rattle.region_state.specs.declared.shape.Shape.{Shape}
use Rattle.region_state.specs.declared.subregion.Subregion.{Subregion}
use Rattle.std.specs.List.{list_any}
use Rattle.region_state.specs.Lists.{has, is_distinct}
use Rattle.region_state.specs.Shape.{IsWithinLimits, region_count, subregion_count}
use Rattle.region_state.specs.Subregion.{is_due}

-- each region of the unit is in one list at most, and there once
pub record IsApart (held gone : List ℕ) (regions : ℕ) : Type 0 where
  pub held_once : is_distinct held ≡ true
  pub gone_once : is_distinct gone ≡ true
  pub apart : (x : ℕ) → has x held ≡ true → has x gone ≡ false
  pub held_below : (x : ℕ) → has x held ≡ true → x < regions
  pub gone_below : (x : ℕ) → has x gone ≡ true → x < regions

-- the lists fit their memory, and where no subregion may be due, none is
pub record IsKept (shape : Shape) (held : List ℕ) (subregions : List Subregion) (gone : List ℕ) (may_be_due : Bool)
    (held_capacity gone_capacity : ℕ)
    : Type 0 where
  pub limits : IsWithinLimits shape
  pub all_subregions : length subregions ≡ subregion_count shape
  pub held_limit : length held ≤ shape.held
  pub held_room : shape.held ≤ held_capacity
  pub gone_room : region_count shape ≤ gone_capacity
  pub lists : IsApart held gone (region_count shape)
  pub none_due : may_be_due ≡ false → list_any is_due subregions ≡ false
