-- The entries that READ BUFFER lists, and what they say (this project's own). An entry is the number of the page that
-- holds a block, and 2 ^ 64 - 1 where none does.
use Rattle.std.specs.Prelude.{◌≡◌, ◌<◌, ◌⊎◌, ◌^◌, ℕ, ◌+◌, ◌-◌, ◌*◌, Bool, false, not, ◌&&◌, ◌||◌, List, [], ◌∷◌, length}
use Rattle.std.specs.Prelude.{slice_range, Option, Some, None, if◌then◌else◌, ◌==◌, nat_le, MatchBool}
use Rattle.std.specs.List.{flat_map, range_with_len}
use Rattle.byteorder.specs.Endian.{big_bytes, big_number}
use Rattle.flash_pages.specs.Place.{Place}
use Rattle.hpb_cdb.specs.declared.cdb.Cdb.{Cdb}
use Rattle.hpb_cdb.specs.declared.cdb.Cdb.TheVariants.{ReadBuffer}
use Rattle.upiu_wire.specs.declared.kind.Kind.{Kind}
use Rattle.upiu_wire.specs.declared.kind.Kind.TheVariants.{DataIn}
use Rattle.upiu_wire.specs.Upiu.{Upiu, upiu_at}
use Rattle.flat_unit.specs.declared.event.Event.{Event}
use Rattle.flat_unit.specs.declared.event.Event.TheVariants.{Device, Moved}
use Rattle.flat_unit.specs.History.{History}
use Rattle.flat_unit.specs.Queue.{on_after, tasks_after}
use Rattle.flat_unit.specs.Reply.{has_tag}
use Rattle.flat_unit.specs.Sizes.{Sizes}
use Rattle.flat_unit.specs.Task.{Task}
use Rattle.flat_unit.specs.Writes.{takes_data, is_touched, is_settled}

abbrev pub no_page : ℕ
no_page = 2 ^ 64 - 1

-- the entries of blocks from an LBA on, one after another, 8 bytes each
abbrev pub entries_from : (ℕ → ℕ) → ℕ → ℕ → List ℕ
entries_from entry_of first count = flat_map (λ (lba : ℕ). big_bytes 8 (entry_of lba)) (range_with_len first count)

-- the number that stands at a place of a list of entries, where this piece of the list has all its 8 bytes
abbrev pub number_in : List ℕ → ℕ → ℕ → Option ℕ
number_in piece offset place =
    if nat_le offset place && nat_le (place + 8) (offset + length piece)
    then Some (big_number 8 (slice_range piece (place - offset) (place - offset + 8))) else None

-- the first block of a subregion
abbrev pub first_block : Sizes → ℕ → ℕ → ℕ
first_block s region sub = region * s.per_region + sub * s.per_sub

-- the entry that a piece of a subregion's list gives a block
abbrev pub listed_by : Sizes → Task → Cdb → List ℕ → Place → Option ℕ
listed_by s task (ReadBuffer region sub len) piece p =
    if (task.lun == p.lun) && nat_le (first_block s region sub) p.lba
    then number_in piece task.sent (8 * (p.lba - first_block s region sub)) else None
listed_by s task _ piece p = None

abbrev pub listed_in : Sizes → List Task → Upiu → Kind → Place → Option ℕ
listed_in s (task ∷ _) v DataIn p = if has_tag v.tag task then listed_by s task task.command v.segment p else None
listed_in s _ v _ p = None

-- the entry that an event lists for a place
abbrev pub listed : Sizes → List Task → Event → Place → Option ℕ
listed s tasks (Device bytes) p = listed_in s tasks (upiu_at bytes) (upiu_at bytes).kind p
listed s tasks _ p = None

abbrev pub is_entry : ℕ → Option ℕ → Bool
is_entry x (Some y) = x == y
is_entry x None = false

-- the page of the place may be another one from here on
abbrev pub spoils : Sizes → Bool → List Task → Place → Event → Bool
spoils s on tasks p (Moved lun lba) = (lun == p.lun) && (lba == p.lba)
spoils s on tasks p x = takes_data s on tasks p x

-- READ BUFFER listed the entry for the place, and nothing has spoilt it since
abbrev pub was_listed : Sizes → History → Place → ℕ → Bool
was_listed s [] p x = false
was_listed s (ev ∷ e) p x =
    is_entry x (listed s (tasks_after s e) ev p)
    || (not (spoils s (on_after e) (tasks_after s e) p ev) && was_listed s e p x)

-- the entry is still the one of the place's page
abbrev pub is_fresh : Sizes → History → Place → ℕ → Bool
is_fresh s e p x = not (x == no_page) && was_listed s e p x

-- an entry tells whether the place has a page: had says whether the first chip had one, and pages is their number
abbrev pub TellsPage : ℕ → (had settled touched : Bool) → ℕ → Type 0
TellsPage pages had settled touched x =
    MatchBool (had || settled) (x < pages) (MatchBool touched ((x < pages) ⊎ (x ≡ no_page)) (x ≡ no_page))

abbrev pub TellsEntry : Sizes → ℕ → (Place → Bool) → History → Place → Option ℕ → Type 0
TellsEntry s pages had e p (Some x) = TellsPage pages (had p) (is_settled s e p) (is_touched s e p) x
TellsEntry s pages had e p None = Unit {0}

-- each entry that READ BUFFER lists is one of a page, or none
abbrev pub Told : Sizes → ℕ → (Place → Bool) → History → Type 0
Told s pages had [] = Unit {0}
Told s pages had (x ∷ e) = Told s pages had e
    × ((p : Place) → TellsEntry s pages had e p (listed s (tasks_after s e) x p))
