-- Where a device stands at a moment of a replay.
use Rattle.std.specs.Prelude.{◌≡◌, ◌⊎◌, ℕ, ◌+◌, ◌-◌, ◌*◌, ◌<◌, ◌≤◌, true, false}
use Rattle.std.specs.List.{AllByRecursion}
use Rattle.flash_pages.specs.Chip.{erased_count}
use Rattle.flash_store.specs.declared.answers.Phase.TheVariants.{Ready}
use Rattle.hpb_device.specs.declared.counts.Counts.{Counts}
use Rattle.flat_unit.specs.Causes.{FailuresAre}
use Rattle.flat_unit.specs.Replays.{OpenRun, Progress}
use Rattle.flat_unit.specs.Stands.{First}
use Rattle.hpb_device.specs.Advance.{IsSameStore}
use Rattle.hpb_device.specs.Calls.{uncollected_in}
use Rattle.hpb_device.specs.Counted.{CountsStand}
use Rattle.hpb_device.specs.Entries.{EntriesStand}
use Rattle.hpb_device.specs.Listed.{ListingStands}
use Rattle.hpb_device.specs.Lists.{ListsStand}
use Rattle.hpb_device.specs.Regions.{HintsStand}
use Rattle.hpb_device.specs.Standing.{DeviceStands, DeviceStandsForeign, first_of, sizes_of}
use Rattle.hpb_device.specs.Left.{KeepsNoWrite, steps_left, unscanned}
use Rattle.hpb_device.specs.State.{DeviceState, AtRest, IsSound}
use Rattle.hpb_device.specs.Task.{WasSilent}
use Rattle.replay_standing.specs.Transcript.{AreCounts, CountStepsAlone, IsPlain, HasNoMore, SendsUnready, has_page}

-- a device that can go on has no more steps left than a run lacks, and no write is kept in a run that began without one
pub record LacksEnough (now : DeviceState) (run : OpenRun) : Type 0 where
  pub enough : ¬ AtRest now → steps_left now ≤ run.lacks
  pub writes : run.has_write ≡ false → KeepsNoWrite now.tasks

-- the pages of a device's chip
abbrev pub pages_in : DeviceState → ℕ
pages_in device = device.store.geometry.blocks * device.store.geometry.pages

-- after so many calls of the collector on a ready chip so many fewer are left at most; where none is, there is nothing
-- to collect
pub record HasCollected (now : DeviceState) (count : ℕ) : Type 0 where
  pub fewer : (count + uncollected_in now ≤ 2 * now.store.geometry.pages * pages_in now) ⊎ (uncollected_in now ≡ 0)
  pub over : uncollected_in now ≡ 0 → HasNoMore now.store.geometry now.store.pages

-- a device over a sound chip, where it and its chip stand in the history
pub record OwnStanding (start now : DeviceState) (p : Progress) : Type 0 where
  pub was : IsSound start
  pub stands : DeviceStands now (first_of start) p.events
  pub entries : EntriesStand now p.events
  pub listings : ListingStands (has_page start.store.pages) (pages_in start) now p.events
  pub counted : CountsStand now p.events
  pub tried : p.tried ≡ true → WasSilent now.tasks

-- a device over any other chip: it stands so over each unit, and ends each task unserved
pub record ForeignStanding (start now : DeviceState) (p : Progress) : Type 0 where
  pub stands : (first : First) → DeviceStandsForeign now start.store.pages first p.events
  pub unready : SendsUnready (sizes_of start) p.events
  pub counted : CountStepsAlone (sizes_of start) p.events now.counts
  pub untried : p.tried ≡ false

-- a device that began without events now stands at those of this moment
pub record Standing (start now : DeviceState) (p : Progress) : Type 0 where
  pub some_page : 1 ≤ start.store.geometry.pages
  pub sizes : sizes_of now ≡ sizes_of start
  pub shape : now.shape ≡ start.shape
  pub same : IsSameStore start.store now.store
  pub faults : FailuresAre start.store.faults now.store.faults p.events
  pub plain : IsPlain p.events
  pub hints : HintsStand now p.events
  pub fetched : ListsStand now p.events
  pub lacking : AllByRecursion (LacksEnough now) p.runs
  pub quiet : unscanned now ≡ pages_in start - p.quiet
  pub steps : now.counts.steps ≤ p.steps
  pub ready : p.served ≡ true → now.store.phase ≡ Ready
  pub collected : now.store.phase ≡ Ready → 0 < p.collected → HasCollected now p.collected
  pub chip : OwnStanding start now p ⊎ ForeignStanding start now p

-- the counts of a device that began so, at the end of a trace
abbrev pub AreCountsOf : DeviceState → Progress → Counts → Type 0
AreCountsOf start =
    AreCounts (sizes_of start) (pages_in start) start.store.geometry.pages (erased_count start.store.pages)
    (IsSound start)
