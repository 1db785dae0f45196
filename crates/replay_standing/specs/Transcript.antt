-- What a run promises of the events that it prints, and of the chip that it hands back.
use Rattle.std.specs.Prelude.{⊤, ◌≡◌, ◌⊎◌, ℕ, ◌*◌, ◌^◌, ◌-◌, ◌≤◌, Bool, true, is_some, min, List, [], ◌∷◌, Contains}
use Rattle.std.specs.Prelude.{Some}
use Rattle.flash_pages.specs.declared.chip.Geometry.{Geometry}
use Rattle.flash_pages.specs.Chip.{Page, erased_count}
use Rattle.flash_pages.specs.Place.{Place, IsPlace}
use Rattle.flash_pages.specs.Sound.{ChipOk}
use Rattle.flash_pages.specs.Unit.{current, unit_of, next_seq}
use Rattle.collector_laws.specs.Changes.{AreCollected}
use Rattle.region_state.specs.declared.shape.Shape.{Shape}
use Rattle.flat_unit.specs.declared.event.Event.{Event}
use Rattle.flat_unit.specs.declared.event.Event.TheVariants.{Device, Reset}
use Rattle.flat_unit.specs.Causes.{Caused, FailuresAre, sense_code}
use Rattle.flat_unit.specs.Counts.{Counts as Exact, Counted, sends}
use Rattle.flat_unit.specs.Contents.{Block, block_at, candidates}
use Rattle.flat_unit.specs.History.{History, ◌▹◌}
use Rattle.flat_unit.specs.Entries.{Told}
use Rattle.flat_unit.specs.Hints.{Hinted}
use Rattle.flat_unit.specs.Laws.{AreShort, HaveRoom}
use Rattle.flat_unit.specs.Pages.{KeepsFresh}
use Rattle.flat_unit.specs.Replays.{Progress}
use Rattle.flat_unit.specs.Sizes.{Sizes}
use Rattle.flat_unit.specs.Sound.{Sound, owed}
use Rattle.hpb_device.specs.declared.counts.Counts.{Counts}
use Rattle.hpb_device.specs.Counted.{AreCut}
use Rattle.hpb_device.specs.Limits.{limits_of}
use Rattle.hpb_device.specs.Sizes.{sizes}

-- a device with one logical unit of this shape
abbrev pub sizes_on : Shape → Geometry → Sizes
sizes_on shape geometry = sizes 1 (limits_of shape) geometry

-- its unit over this chip
abbrev pub unit_on : Shape → List Page → List Block
unit_on shape chip = unit_of 1 shape.units chip

-- the chip is one that a device of this shape leaves behind
abbrev pub IsChipOf : Shape → Geometry → List Page → Type 0
IsChipOf shape geometry chip = ChipOk geometry 1 shape.units chip

-- the bytes of each event are bytes, and no more than a UPIU of its side has, and its numbers have room where they are
-- printed
pub record IsPlain (e : History) : Type 0 where
  pub bytes : HaveRoom e
  pub short : AreShort e

-- whether a place has a page on the chip
abbrev pub has_page : List Page → Place → Bool
has_page chip p = is_some (current chip p)

-- nothing is left to collect: each full erase block holds current pages alone, or no sequence number is left
abbrev pub HasNoMore : Geometry → List Page → Type 0
HasNoMore geometry chip = (next_seq chip ≡ 2 ^ 62) ⊎ AreCollected geometry chip

-- a UPIU that nothing owes tells that the chip is none of the device's, or could not be read
abbrev pub IsUnready : List ℕ → List Event → Type 0
IsUnready bytes [] = sense_code bytes ≡ Some 0x44
IsUnready bytes (due ∷ _) = ⊤

-- each step sends nothing else
abbrev pub SendsUnready : Sizes → History → Type 0
SendsUnready s [] = ⊤
SendsUnready s (Device bytes ∷ e) = SendsUnready s e × IsUnready bytes (owed s e)
SendsUnready s (_ ∷ e) = SendsUnready s e

-- Over a sound chip: the events are sound over its unit, and each ending has its cause. The chip that is handed back is
-- sound, and each of its blocks is one that the flat unit allows once all tasks are dropped. Each entry that READ
-- BUFFER listed told whether its block had a page, and each that is fresh is the number of its block's page. Where a
-- step has served a task since the last reset, and the collector was called often enough since, nothing is left to
-- collect.
pub record IsServed (shape : Shape) (geometry : Geometry) (chip back : List Page) (p : Progress) : Type 0 where
  pub sound : Sound (sizes_on shape geometry) (unit_on shape chip) p.events
  pub caused : Caused (sizes_on shape geometry) ⊥ (next_seq chip) p.events
  pub leaves_sound : IsChipOf shape geometry back
  pub allowed : (place : Place) → IsPlace 1 shape.units place
      → Contains (candidates (sizes_on shape geometry) (unit_on shape chip) (p.events ▹ Reset) place)
      (block_at (sizes_on shape geometry) (unit_on shape back) place)
  pub told : Told (sizes_on shape geometry) (geometry.blocks * geometry.pages) (has_page chip) p.events
  pub entries : KeepsFresh (sizes_on shape geometry) (current back) p.events
  pub collected : p.served ≡ true
      → 2 * geometry.pages * (geometry.blocks * geometry.pages) ≤ p.collected → HasNoMore geometry back

-- Over any other chip: the events are sound over each unit, and each step that sends tells that the chip is none of the
-- device's, or could not be read. The chip is handed back as it came.
pub record IsRefused (shape : Shape) (geometry : Geometry) (chip back : List Page) (p : Progress) : Type 0 where
  pub sound : (unit : List Block) → Sound (sizes_on shape geometry) unit p.events
  pub caused : Caused (sizes_on shape geometry) ⊤ (next_seq chip) p.events
  pub unready : SendsUnready (sizes_on shape geometry) p.events
  pub stays : back ≡ chip

-- The events are plain, each GOOD RESPONSE tells what is to be told of the regions, the calls of the chip that failed
-- are those that its count tells, and the rest is by the chip.
pub record IsTranscript (shape : Shape) (geometry : Geometry) (faults faults_back : ℕ) (chip back : List Page)
    (p : Progress)
    : Type 0 where
  pub plain : IsPlain p.events
  pub hinted : Hinted shape (sizes_on shape geometry) p.events
  pub failures : FailuresAre faults faults_back p.events
  pub own : IsChipOf shape geometry chip → IsServed shape geometry chip back p
  pub foreign : ¬ IsChipOf shape geometry chip → IsRefused shape geometry chip back p

-- counts that stop at 2^64 - 1 are those of whole numbers that fit the transcript
abbrev pub FitTranscript : Sizes → (pages per_block free : ℕ) → History → Counts → Type 0
FitTranscript s pages per_block free e counts =
    (exact : Exact) × Counted s pages per_block free e exact × AreCut counts exact

-- nothing but steps is counted, at least one for each UPIU that a step sent
pub record CountStepsAlone (s : Sizes) (e : History) (counts : Counts) : Type 0 where
  pub steps : min (sends s e) (2 ^ 64 - 1) ≤ counts.steps
  pub lookups : counts.lookups ≡ 0
  pub entries : counts.entries ≡ 0
  pub moved : counts.moved ≡ 0
  pub erased : counts.erased ≡ 0

-- The counts at the end of a trace: no more steps were made than its lines let the device make. Over a sound chip they
-- fit the transcript, and over any other only steps are counted.
pub record AreCounts (s : Sizes) (pages per_block free : ℕ) (sound : Type 0) (p : Progress) (counts : Counts)
    : Type 0 where
  pub steps : counts.steps ≤ p.steps
  pub fit : sound → FitTranscript s pages per_block free p.events counts
  pub alone : ¬ sound → CountStepsAlone s p.events counts

abbrev pub AreCountsOn : Shape → Geometry → List Page → Progress → Counts → Type 0
AreCountsOn shape geometry chip =
    AreCounts (sizes_on shape geometry) (geometry.blocks * geometry.pages) geometry.pages (erased_count chip)
    (IsChipOf shape geometry chip)
