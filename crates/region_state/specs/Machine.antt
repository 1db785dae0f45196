-- What a device keeps of the regions of a unit, and what each call makes of it. These rules are this project's own.
use Rattle.std.specs.Prelude.{ℕ, ◌+◌, ◌-◌, ◌*◌, ◌==◌, Bool, true, false, ◌||◌, List, [], ◌∷◌, ◌++◌, length, take, map}
use Rattle.std.specs.Prelude.{fold, replicate, slice_index, slice_index_or, slice_set, nat_lt, if◌then◌else◌}
use Rattle.std.specs.List.{range_with_len}
use Rattle.region_state.specs.declared.shape.Mode.{Mode}
use Rattle.region_state.specs.declared.shape.Mode.TheVariants.{Device, Host}
use Rattle.region_state.specs.declared.shape.Shape.{Shape}
use Rattle.region_state.specs.Lists.{has, without, with_first, to_front, each_within}
use Rattle.region_state.specs.Shape.{region_of, subregion_of, subregion_count, per_region, number_of}
use Rattle.region_state.specs.declared.subregion.Subregion.{Subregion}
use Rattle.region_state.specs.Subregion.{unloaded, just_loaded, read_counted, write_counted, recounted, is_due}

-- the regions that the host holds, most recent first; the subregions by their numbers in the unit;
-- the regions that the host is to give up; whether the host is to forget all
pub record Machine : Type 0 where
  pub shape : Shape
  pub held : List ℕ
  pub subregions : List Subregion
  pub gone : List ℕ
  pub news : Bool

-- at the start the host holds nothing
abbrev pub start : Shape → Machine
start shape =
    record {
      shape = shape;
      held = [];
      subregions = replicate (subregion_count shape) unloaded;
      gone = [];
      news = false;
    }

-- after a read of n blocks: the regions that it touches come to the front in turn, from the lowest number on,
-- and a read without an entry counts at each subregion that it touches
unfoldable pub after_read : Machine → ℕ → ℕ → Bool → Machine
after_read m lba n plain =
    let last = lba + n - 1 in
    if n == 0 then m else record m {
      held = fold to_front m.held (range_with_len (region_of m.shape lba)
          (region_of m.shape last + 1 - region_of m.shape lba));
      subregions = if plain then each_within read_counted (subregion_of m.shape lba) (subregion_of m.shape last + 1)
          m.subregions else m.subregions;
    }

-- after a block was changed, which counts at its subregion
unfoldable pub after_change : Machine → ℕ → Machine
after_change m lba =
    let number = subregion_of m.shape lba in
    record m {
      subregions = slice_set m.subregions number (write_counted (slice_index_or m.subregions number unloaded));
    }

-- the subregions, those of a region forgotten
abbrev pub forgotten : Machine → ℕ → List Subregion
forgotten m region =
    each_within (λ _. unloaded) (region * per_region m.shape) (region * per_region m.shape + per_region m.shape)
    m.subregions

-- the last region is dropped, and is to be told
abbrev pub with_last_dropped : Machine → Machine
with_last_dropped m =
    let last = slice_index m.held (length m.held - 1) in
    record m { held = take (length m.held - 1) m.held; subregions = forgotten m last; gone = m.gone ++ last ∷ [] }

-- there is room for a region: it is held, or fewer are held than may be
unfoldable pub with_room : Machine → ℕ → Machine
with_room m region = if has region m.held || nat_lt (length m.held) m.shape.held then m else with_last_dropped m

-- after the host loaded a subregion
unfoldable pub after_load : Machine → ℕ → ℕ → Machine
after_load m region sub =
    let roomy = with_room m region in
    record roomy {
      held = with_first region roomy.held;
      subregions = slice_set roomy.subregions (number_of m.shape region sub) just_loaded;
      gone = without region roomy.gone;
    }

-- after the host gave a region up
unfoldable pub after_inactivation : Machine → ℕ → Machine
after_inactivation m region =
    record m { held = without region m.held; subregions = forgotten m region; gone = without region m.gone }

-- after the host gave all regions up
unfoldable pub after_all_inactive : Machine → Machine
after_all_inactive m = record m { held = []; subregions = map (λ _. unloaded) m.subregions; gone = [] }

-- after a reset, which is to be told
unfoldable pub after_reset : Machine → Machine
after_reset m = record (after_all_inactive m) { news = true }

-- the places from k on at which a subregion's count is at its limit
abbrev pub due_from : ℕ → List Subregion → List ℕ
due_from k [] = []
due_from k (x ∷ xs) = if is_due x then k ∷ due_from (k + 1) xs else due_from (k + 1) xs

abbrev pub due_in : Mode → List Subregion → List ℕ
due_in Device subregions = due_from 0 subregions
due_in Host subregions = []

-- the subregions that the host is to load, in order of their numbers; none where the host decides
unfoldable pub due : Machine → List ℕ
due m = due_in m.shape.mode m.subregions

-- the subregions, the counts of some back at the start
abbrev pub counts_cleared : List Subregion → List ℕ → List Subregion
counts_cleared subregions numbers =
    fold (λ xs number. slice_set xs number (recounted (slice_index_or xs number unloaded))) subregions numbers

-- after the first n of the subregions that are due were told
unfoldable pub after_told : ℕ → Machine → Machine
after_told n m = record m { subregions = counts_cleared m.subregions (take n (due m)) }
