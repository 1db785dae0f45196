-- Words for what holds of all histories (this project's own).
use Rattle.std.specs.Prelude.{false, true, ◌⊎◌, ◌≡◌, ◌<◌, ◌≤◌, ◌^◌, ℕ, zero, suc, ◌+◌, Bool, List, [], ◌∷◌, length, map}
use Rattle.std.specs.Prelude.{◌*◌, Option, Some, None, if◌then◌else◌}
use Rattle.std.specs.List.{AllByRecursion}
use Rattle.flash_pages.specs.Place.{Place}
use Rattle.hex.specs.Hex.{IsBytes}
use Rattle.upiu_wire.specs.declared.fault.WireFault.{WireFault}
use Rattle.upiu_wire.specs.WireFault.{number_of, wire_fault_of}
use Rattle.flat_unit.specs.declared.event.Event.{Event}
use Rattle.flat_unit.specs.declared.event.Event.TheVariants.{Host, Device, Moved, Failed, Cleared, Switched, Gone}
use Rattle.flat_unit.specs.Command.{bytes_given, bytes_taken, is_write}
use Rattle.flat_unit.specs.Contents.{Leaving, Shown, leaving, shown}
use Rattle.flat_unit.specs.History.{History}
use Rattle.flat_unit.specs.Queue.{tasks_after}
use Rattle.flat_unit.specs.Replays.{keeps_head}
use Rattle.flat_unit.specs.Sizes.{Sizes}
use Rattle.flat_unit.specs.Task.{Task}

-- the task comes first among these
abbrev pub IsFirst : Task → List Task → Type 0
IsFirst task tasks = (others : List Task) × (tasks ≡ task ∷ others)

-- at most one task leaves, and that is the first one
abbrev pub FirstAlone : List Task → List Leaving → Type 0
FirstAlone tasks [] = Unit {0}
FirstAlone tasks (l ∷ []) = IsFirst l.task tasks
FirstAlone tasks (l ∷ _ ∷ _) = ⊥

-- the numbers of an event have room where they are printed
abbrev pub HasRoom : Event → Type 0
HasRoom (Host bytes) = IsBytes bytes
HasRoom (Device bytes) = IsBytes bytes
HasRoom (Moved lun lba) = (lun < 2 ^ 8) × (lba < 2 ^ 32)
HasRoom (Gone tag) = tag < 2 ^ 8
HasRoom _ = Unit {0}

-- those of each event
abbrev pub HaveRoom : History → Type 0
HaveRoom e = AllByRecursion HasRoom e

-- the bytes of an event are at most as many as a UPIU of its side has
abbrev pub IsShort : Event → Type 0
IsShort (Host bytes) = length bytes ≤ 65568
IsShort (Device bytes) = length bytes ≤ 4128
IsShort _ = Unit {0}

-- those of each event
abbrev pub AreShort : History → Type 0
AreShort e = AllByRecursion IsShort e

-- what the first task has shown, the newest first
abbrev pub shown_next : Option Shown → Bool → List Shown → List Shown
shown_next (Some w) stays before = w ∷ before
shown_next None stays before = if stays then before else []

abbrev pub shown_by_first : Sizes → History → List Shown
shown_by_first s [] = []
shown_by_first s (x ∷ e) =
    shown_next (shown s (tasks_after s e) x) (keeps_head (tasks_after s e) (tasks_after s (x ∷ e))) (shown_by_first s e)

-- the first blocks of a read, the last one first
abbrev pub places_from : ℕ → ℕ → ℕ → List Place
places_from lun lba zero = []
places_from lun lba (suc k) = record { lun = lun; lba = lba + k } ∷ places_from lun lba k

-- bytes of the host, collection and failed calls change no block
abbrev pub ChangesNothing : Event → Type 0
ChangesNothing (Host bytes) = Unit {0}
ChangesNothing (Moved lun lba) = Unit {0}
ChangesNothing (Failed op) = Unit {0}
ChangesNothing Cleared = Unit {0}
ChangesNothing (Switched on) = Unit {0}
ChangesNothing _ = ⊥

-- the task has moved all its bytes
pub record MovedAll (s : Sizes) (task : Task) : Type 0 where
  pub sent : task.sent ≡ bytes_given s task.command
  pub come : length task.come ≡ bytes_taken s task.command

-- what a read of this unit from this LBA on has sent: these blocks, in order, each of them whole
pub record HasSent (s : Sizes) (lun lba sent : ℕ) (ws : List Shown) : Type 0 where
  pub count : ℕ
  pub sent_whole : sent ≡ s.block * count
  pub places : map (λ (w : Shown). w.place) ws ≡ places_from lun lba count
  pub blocks : AllByRecursion (λ (w : Shown). length w.block ≡ s.block) ws

-- the bytes are no UPIU, and this is the number of the first condition that they break
pub record IsRejectedFor (bytes : List ℕ) (reason : ℕ) : Type 0 where
  pub fault : WireFault
  pub found : wire_fault_of bytes ≡ Some fault
  pub number : number_of fault ≡ reason

-- a task that leaves is no write, or it is answered GOOD
abbrev pub IsUncut : Leaving → Type 0
IsUncut l = (is_write l.task.command ≡ false) ⊎ (l.good ≡ true)

-- no write was cut
abbrev pub NoneCut : Sizes → History → Type 0
NoneCut s [] = Unit {0}
NoneCut s (x ∷ e) = NoneCut s e × AllByRecursion IsUncut (leaving (tasks_after s e) x)
