-- A device that stands at a history stands at it after a step of the collector, and its entries and pages with it.
use Rattle.std.proofs.Common.{◌≡◌, ◌≢◌, ◌⊎◌, length, inl, inr, ℕ, ◌+◌, ◌-◌, ◌*◌, ◌^◌, Bool, true, false, List, [], map, min, Option, Some, None, refl, sym, ◌∙◌, ap, subst, arith}
use Rattle.std.specs.Prelude.{if◌then◌else◌, is_some}
use Rattle.hpb_outside.specs.Faults.{raised}
use Rattle.flash_pages.specs.Chip.{Page, erased_count}
use Rattle.flash_pages.specs.Place.{Place}
use Rattle.flash_pages.specs.Unit.{current, next_seq, unit_of}
use Rattle.flash_pages.proofs.Programming.{erased_count-programmed, next_seq-programmed}
use Rattle.collector_laws.specs.Changes.{AreCollected, Changes, CopiesBlock, is_idle, left_with, uncollected}
use Rattle.collector_laws.specs.CollectStep.{CollectState, IsCollectable, Step, collect_step}
use Rattle.collector_laws.proofs.Changes.{uncollected-none}
use Rattle.collector_laws.proofs.Keeps.{collect_keeps}
use Rattle.flash_store.specs.declared.answers.Moved.{Moved}
use Rattle.flash_store.specs.declared.answers.Moved.TheVariants.{Idle, Read as ReadPage, Page as MovedPage, Erased as ErasedBlock}
use Rattle.flash_store.specs.declared.answers.Phase.TheVariants.{Ready}
use Rattle.flash_store.specs.Collecting.{as_collected}
use Rattle.flash_store.specs.Store.{IsCollected, IsSame, IsStanding, collecting}
use Rattle.flash_pages.specs.declared.chip.Geometry.{Geometry}
use Rattle.flat_unit.specs.Causes.{FailuresAre}
use Rattle.flat_unit.specs.Contents.{is_same}
use Rattle.flat_unit.specs.declared.event.Event.{Event}
use Rattle.flash_pages.specs.declared.chip.ChipOp.{ChipOp}
use Rattle.flat_unit.specs.declared.event.Event.TheVariants.{Moved as MovedEvent, Failed as CallFailed, Reset}
use Rattle.flat_unit.specs.History.{History, ◌▹◌, followed_by}
use Rattle.flat_unit.specs.Pages.{HasPages}
use Rattle.flat_unit.specs.Replays.{events_of}
use Rattle.flat_unit.specs.Sizes.{Sizes}
use Rattle.flat_unit.specs.Stands.{First, Kept}
use Rattle.flat_unit.proofs.entries.Fresh.{fresh_along, fresh_collected}
use Rattle.flat_unit.proofs.entries.Pages.{pages_along, pages_moved, pages_reset}
use Rattle.flat_unit.proofs.standing.OneCall.{same_place, stands_erased, stands_failed, stands_moved, stands_reset}
use Rattle.flat_unit.proofs.entries.Told.{told_moved, told_reset}
use Rattle.hpb_device.specs.declared.counts.Counts.{Counts}
use Rattle.hpb_device.specs.declared.device.Stepped.{Stepped}
use Rattle.hpb_device.specs.declared.task.Task.{Task}
use Rattle.hpb_device.specs.Advance.{IsSameStore}
use Rattle.hpb_device.specs.Calls.{Collects, CollectsOn, moved_by, stepped, uncollected_in}
use Rattle.hpb_device.specs.Left.{KeepsNoWrite, steps_left, tasks_left, wait_of}
use Rattle.hpb_device.specs.Limits.{limits_of}
use Rattle.hpb_device.specs.Counts.{counted_moved, counted_step}
use Rattle.hpb_device.specs.Entries.{EntriesStand, TriedStale}
use Rattle.hpb_device.specs.Keeps.{KeepsTasks, waiting_of}
use Rattle.hpb_device.specs.Listed.{ListingStands, kept_now}
use Rattle.hpb_device.specs.Regions.{regions_moved}
use Rattle.hpb_device.specs.Standing.{DeviceStands, DeviceStandsForeign, group_of, kept_of, programmed_of, sizes_of}
use Rattle.hpb_device.specs.State.{DeviceState, IsSound}
use Rattle.hpb_device.proofs.Entries.{entries_now, tried_stays}
use Rattle.hpb_device.proofs.Failures.{moved_fails_none, none_failed, one_failed}
use Rattle.hpb_device.proofs.Listings.{current_more, listings_now}
use Rattle.hpb_device.proofs.Chips.{whole_collected}
use Rattle.hpb_device.proofs.Leaving.{on_false}
use Rattle.hpb_device.proofs.Left.{quiet_left}
use Rattle.hpb_device.proofs.Unready.{sound_along}
use Rattle.hpb_device.proofs.StepStands.{kept_same, sizes_same, stands_now}

-- the collector made a step, and the tasks are as before
pub record IsMoved (old new : DeviceState) (moved : Moved) : Type 0 where
  pub changes : Changes old.store.geometry old.store.luns old.store.units old.store.pages (as_collected moved) new.store.pages
  pub unit : unit_of old.store.luns old.store.units new.store.pages ≡ unit_of old.store.luns old.store.units old.store.pages
  pub same : IsSameStore old.store new.store
  pub shape : new.shape ≡ old.shape
  pub lists : new.lists ≡ old.lists
  pub tasks : new.tasks ≡ old.tasks
  pub held : new.held ≡ old.held
  pub erased : new.counts.erased ≡ (counted_moved old.counts moved).erased
  pub sound : IsSound new

pub erased_by_step : (counts : Counts) (moved : Moved) → (counted_moved (counted_step counts) moved).erased ≡ (counted_moved counts moved).erased
erased_by_step counts Idle = refl
erased_by_step counts ReadPage = refl
erased_by_step counts (MovedPage lun lba) = refl
erased_by_step counts (ErasedBlock block) = refl

-- the events of a step of the collector
abbrev pub moves_on : Moved → List ℕ → History → History
moves_on moved out e = followed_by e (events_of (group_of (stepped None (moved_by moved) false) out))

module _ (old new : DeviceState) where
  keeps_along : (moved : Moved) (is : IsMoved old new moved) (first : First) (e : History) (at : DeviceStands old first e) → KeepsTasks new.tasks new.held at.tasks
  keeps_along moved is first e at =
      subst (λ (ts : List Task). KeepsTasks ts new.held at.tasks) (sym is.tasks)
      (subst (λ (h : List ℕ). KeepsTasks old.tasks h at.tasks) (sym is.held) at.keeps)

  unit_along : (moved : Moved) → IsMoved old new moved → unit_of old.store.luns old.store.units old.store.pages ≡ unit_of new.store.luns new.store.units new.store.pages
  unit_along moved is = sym is.unit ∙ (λ i. unit_of (sym is.same.luns i) (sym is.same.units i) new.store.pages)

  -- the same pages
  quiet_stands : (moved : Moved) (first : First) (e : History) → IsMoved old new moved → new.store.pages ≡ old.store.pages → new.counts.erased ≡ old.counts.erased
      → DeviceStands old first e → DeviceStands new first e
  quiet_stands moved first e is pages erased at =
      stands_now (sizes_of old) (kept_of at.erases old at.tasks) new at.erases at.tasks first e (sizes_same old new is.same is.shape)
      (kept_same old new at.erases at.tasks (programmed_of old.tasks) is.same pages (sym (ap programmed_of is.tasks)))
      (keeps_along moved is first e at) (erased ∙ at.counted) is.sound at.stands

  -- a page was moved
  page_stands : (lun lba : ℕ) (first : First) (e : History) → IsMoved old new (MovedPage lun lba) → DeviceStands old first e → DeviceStands new first (e ▹ MovedEvent lun lba)
  page_stands lun lba first e is at =
      let chip = old.store.pages in
      let program = is.changes.program in
      let free : erased_count new.store.pages + 1 ≡ erased_count chip =
      ap (λ (c : List Page). erased_count c + 1) program.programmed ∙ sym (erased_count-programmed chip program.page _ _ program.inside program.erased) in
      let next : next_seq chip + 1 ≡ next_seq new.store.pages = sym (ap next_seq program.programmed ∙ next_seq-programmed chip program.page _ _ program.inside refl) in
      let unit = unit_along (MovedPage lun lba) is in
      stands_now (sizes_of old) (record (kept_of at.erases old at.tasks) { next = next_seq chip + 1; free = erased_count new.store.pages }) new at.erases at.tasks first (e ▹ MovedEvent lun lba)
      (sizes_same old new is.same is.shape)
      (λ i. record {
        tasks = at.tasks;
        on = true;
        unit = unit i;
        programmed = sym (ap programmed_of is.tasks) i;
        next = next i;
        free = erased_count new.store.pages;
        erases = at.erases;
      })
      (keeps_along (MovedPage lun lba) is first e at) (is.erased ∙ at.counted) is.sound
      (stands_moved (sizes_of old) first (kept_of at.erases old at.tasks) e lun lba (erased_count new.store.pages) free at.stands)

  -- an erase block was erased
  block_stands : (block : ℕ) (first : First) (e : History) → IsMoved old new (ErasedBlock block) → DeviceStands old first e → DeviceStands new first e
  block_stands block first e is at =
      let chip = old.store.pages in
      let unit = unit_along (ErasedBlock block) is in
      let free : erased_count chip + old.store.geometry.pages ≡ erased_count new.store.pages = sym is.changes.room in
      let counted : new.counts.erased ≡ min (at.erases + 1) (2 ^ 64 - 1) = is.erased ∙ (ap raised at.counted ∙ omega arith) in
      stands_now (sizes_of old) (record (kept_of at.erases old at.tasks) { free = erased_count chip + old.store.geometry.pages; erases = at.erases + 1 }) new (at.erases + 1) at.tasks first e
      (sizes_same old new is.same is.shape)
      (λ i. record {
        tasks = at.tasks;
        on = true;
        unit = unit i;
        programmed = sym (ap programmed_of is.tasks) i;
        next = sym is.changes.next i;
        free = free i;
        erases = at.erases + 1;
      })
      (keeps_along (ErasedBlock block) is first e at) counted is.sound
      (stands_erased (sizes_of old) first (kept_of at.erases old at.tasks) e at.stands)

  pub moved_stands : (moved : Moved) (out : List ℕ) (first : First) (e : History) → IsMoved old new moved → DeviceStands old first e → DeviceStands new first (moves_on moved out e)
  moved_stands Idle out first e is at = quiet_stands Idle first e is is.changes is.erased at
  moved_stands ReadPage out first e is at = quiet_stands ReadPage first e is is.changes is.erased at
  moved_stands (MovedPage lun lba) out first e is at = page_stands lun lba first e is at
  moved_stands (ErasedBlock block) out first e is at = block_stands block first e is at

  -- the pages of the places
  page_of_others : (luns units : ℕ) (here : Place) → CopiesBlock luns units old.store.pages here new.store.pages → (p : Place) → is_same here p ≡ false
      → current new.store.pages p ≡ current old.store.pages p
  page_of_others luns units here copies p other =
      current_more old.store.pages new.store.pages here _ copies.program p ∙ ap (λ (b : Bool). if b then Some copies.program.page else current old.store.pages p) other

  still_some : (luns units : ℕ) (here : Place) → CopiesBlock luns units old.store.pages here new.store.pages → (p : Place)
      → is_some (current new.store.pages p) ≡ is_some (current old.store.pages p)
  still_some luns units here copies p = by_place (is_same here p) refl
    where
      by_place : (b : Bool) → is_same here p ≡ b → is_some (current new.store.pages p) ≡ is_some (current old.store.pages p)
      by_place false other = ap is_some (page_of_others luns units here copies p other)
      by_place true same =
          let now : current new.store.pages p ≡ Some copies.program.page =
          current_more old.store.pages new.store.pages here _ copies.program p ∙ ap (λ (b : Bool). if b then Some copies.program.page else current old.store.pages p) same in
          let was : current old.store.pages p ≡ Some copies.was = ap (current old.store.pages) (sym (same_place here p same)) ∙ copies.current in
          ap is_some now ∙ sym (ap is_some was)

  -- the entries that were listed
  entries_after : (moved : Moved) (e : History) (ev : Event) → IsMoved old new moved → TriedStale (sizes_of old) e old.lists old.tasks → (s : Sizes) → s ≡ sizes_of old
      → TriedStale s e new.lists new.tasks
  entries_after moved e ev is tried s same = rw (same, is.lists, is.tasks) tried

  pub moved_entries : (moved : Moved) (out : List ℕ) (e : History) → IsMoved old new moved → EntriesStand old e → EntriesStand new (moves_on moved out e)
  moved_entries Idle out e is stand = entries_now old new e is.same is.shape (rw (is.changes) stand.fresh) (rw (is.lists, is.tasks) stand.tried)
  moved_entries ReadPage out e is stand = entries_now old new e is.same is.shape (rw (is.changes) stand.fresh) (rw (is.lists, is.tasks) stand.tried)
  moved_entries (MovedPage lun lba) out e is stand =
      entries_now old new (e ▹ MovedEvent lun lba) is.same is.shape
      (fresh_collected (sizes_of old) (current old.store.pages) (current new.store.pages) e lun lba
      (λ p place other. page_of_others old.store.luns old.store.units (record { lun = lun; lba = lba }) is.changes p other) stand.fresh)
      (rw (is.lists, is.tasks) (tried_stays (sizes_of old) e (MovedEvent lun lba) old.lists old.tasks (λ p. refl) stand.tried))
  moved_entries (ErasedBlock block) out e is stand =
      entries_now old new e is.same is.shape
      (fresh_along (sizes_of old) (current old.store.pages) (current new.store.pages) e (λ p place. is.changes.kept p) stand.fresh)
      (rw (is.lists, is.tasks) stand.tried)

  -- what was listed tells of the pages
  kept_tasks : (moved : Moved) → IsMoved old new moved → (page_of : Place → Option ℕ) (had : Place → Bool) (e : History) → HasPages (sizes_of old) had (kept_now old) page_of e
      → HasPages (sizes_of old) had (kept_now new) page_of e
  kept_tasks moved is page_of had e has = record { there = λ p place one. has.there p place (rw (sym is.tasks) one); absent = has.absent }

  pub moved_listings : (moved : Moved) (out : List ℕ) (had : Place → Bool) (pages : ℕ) (e : History) → IsMoved old new moved → ListingStands had pages old e
      → ListingStands had pages new (moves_on moved out e)
  moved_listings Idle out had pages e is stand =
      listings_now had pages old new e is.same is.shape stand.whole (kept_tasks Idle is (current new.store.pages) had e (rw (is.changes) stand.pages_there)) stand.told
  moved_listings ReadPage out had pages e is stand =
      listings_now had pages old new e is.same is.shape stand.whole (kept_tasks ReadPage is (current new.store.pages) had e (rw (is.changes) stand.pages_there)) stand.told
  moved_listings (MovedPage lun lba) out had pages e is stand =
      listings_now had pages old new (e ▹ MovedEvent lun lba) is.same is.shape stand.whole
      (kept_tasks (MovedPage lun lba) is (current new.store.pages) had (e ▹ MovedEvent lun lba)
      (pages_moved (sizes_of old) had (kept_now old) (current old.store.pages) (current new.store.pages) e lun lba
      (λ p place. still_some old.store.luns old.store.units (record { lun = lun; lba = lba }) is.changes p) stand.pages_there))
      (told_moved (sizes_of old) pages had e lun lba stand.told)
  moved_listings (ErasedBlock block) out had pages e is stand =
      listings_now had pages old new e is.same is.shape stand.whole
      (kept_tasks (ErasedBlock block) is (current new.store.pages) had e
      (pages_along (sizes_of old) had (kept_now old) (current old.store.pages) (current new.store.pages) e (λ p place. is.changes.kept p) stand.pages_there))
      stand.told

-- a call of the collector's failed
pub unmoved_stands : (old new : DeviceState) (op : ChipOp) (first : First) (e : History) → IsSameStore old.store new.store → new.store.pages ≡ old.store.pages → new.shape ≡ old.shape
    → new.tasks ≡ old.tasks → new.held ≡ old.held → new.counts ≡ old.counts → IsSound new → DeviceStands old first e → DeviceStands new first (e ▹ CallFailed op)
unmoved_stands old new op first e same pages shape tasks held counts sound at =
    stands_now (sizes_of old) (kept_of at.erases old at.tasks) new at.erases at.tasks first (e ▹ CallFailed op) (sizes_same old new same shape)
    (kept_same old new at.erases at.tasks (programmed_of old.tasks) same pages (sym (ap programmed_of tasks)))
    (subst (λ (ts : List Task). KeepsTasks ts new.held at.tasks) (sym tasks) (subst (λ (h : List ℕ). KeepsTasks old.tasks h at.tasks) (sym held) at.keeps))
    (ap (λ (c : Counts). c.erased) counts ∙ at.counted) sound (stands_failed (sizes_of old) first (kept_of at.erases old at.tasks) e op at.stands)

-- all tasks were dropped, and the chip is as it was
pub reset_stands : (old new : DeviceState) (first : First) (e : History) → IsSameStore old.store new.store → new.store.pages ≡ old.store.pages → new.shape ≡ old.shape
    → new.tasks ≡ [] → new.held ≡ [] → new.counts ≡ old.counts → IsSound new → DeviceStands old first e → DeviceStands new first (e ▹ Reset)
reset_stands old new first e same pages shape tasks held counts sound at =
    let reset_kept : Kept = record (kept_of at.erases old []) { programmed = 0 } in
    stands_now (sizes_of old) reset_kept new at.erases [] first (e ▹ Reset) (sizes_same old new same shape)
    (kept_same old new at.erases [] 0 same pages (sym (ap programmed_of tasks)))
    (subst (λ (ts : List Task). KeepsTasks ts new.held []) (sym tasks) refl)
    (ap (λ (c : Counts). c.erased) counts ∙ at.counted) sound (stands_reset (sizes_of old) first (kept_of at.erases old at.tasks) e at.stands)

pub reset_listings : (had : Place → Bool) (pages : ℕ) (old new : DeviceState) (e : History) → IsSameStore old.store new.store → new.store.pages ≡ old.store.pages → new.shape ≡ old.shape
    → new.tasks ≡ [] → ListingStands had pages old e → ListingStands had pages new (e ▹ Reset)
reset_listings had pages old new e same chip shape tasks stand =
    listings_now had pages old new (e ▹ Reset) same shape stand.whole
    (subst (λ (c : List Page). HasPages (sizes_of old) had (kept_now new) (current c) (e ▹ Reset)) (sym chip)
    (pages_reset (sizes_of old) had (kept_now old) (kept_now new) (current old.store.pages) e (ap (map waiting_of) tasks) stand.pages_there))
    (told_reset (sizes_of old) pages had e stand.told)

-- what is known of a call of `collect` on a ready chip
pub record IsCollecting (old new : DeviceState) : Type 0 where
  pub ready : old.store.phase ≡ Ready
  pub standing : IsStanding old.store
  pub same : IsSame old.store new.store
  pub shape : new.shape ≡ old.shape
  pub lists : new.lists ≡ old.lists
  pub tasks : new.tasks ≡ old.tasks
  pub held : new.held ≡ old.held

serves_of : (old new : DeviceState) → IsCollecting old new → IsSameStore old.store new.store
serves_of old new is = record { geometry = is.same.geometry; luns = is.same.luns; units = is.same.units }

module _ (old new : DeviceState) (is : IsCollecting old new) where
  pub whole_moved : (moved : Moved) → IsCollected old.store moved new.store → length new.store.pages ≡ length old.store.pages
  whole_moved moved step = (whole_collected old.store new.store moved (is.standing.ready is.ready) step).count

  pub moved_of_collect : (moved : Moved) → IsCollected old.store moved new.store
      → Changes old.store.geometry old.store.luns old.store.units old.store.pages (as_collected moved) new.store.pages
      → unit_of old.store.luns old.store.units new.store.pages ≡ unit_of old.store.luns old.store.units old.store.pages → new.counts ≡ counted_moved old.counts moved → IsMoved old new moved
  moved_of_collect moved step changes unit counts = record {
    changes = changes;
    unit = unit;
    same = serves_of old new is;
    shape = is.shape;
    lists = is.lists;
    tasks = is.tasks;
    held = is.held;
    erased = ap (λ (c : Counts). c.erased) counts;
    sound = let mid : DeviceState = record old { store = record old.store { pages = new.store.pages } } in
        sound_along mid new (record { geometry = is.same.geometry; luns = is.same.luns; units = is.same.units }) refl
        (whole_collected old.store new.store moved (is.standing.ready is.ready) step).sound;
  }

  -- what a call on a chip that isn't foreign leaves of a device over a foreign one
  pub no_foreign : (chip : List Page) (first : First) (e : History) (Q : Type 0) → DeviceStandsForeign old chip first e → Q
  no_foreign chip first e Q at = absurd (at.unsound (is.standing.ready is.ready).sound)

  -- the steps that are left, where no task writes
  pub collect_left : KeepsNoWrite old.tasks → steps_left new ≡ steps_left old
  collect_left none =
      let lim = limits_of old.shape in
      let quiet = quiet_left lim old.store.geometry.pages (wait_of old.store) (wait_of new.store) old.tasks none in
      let now : tasks_left (limits_of new.shape) new.store.geometry.pages (wait_of new.store) new.tasks ≡ tasks_left lim old.store.geometry.pages (wait_of new.store) old.tasks =
      λ i. tasks_left (limits_of (is.shape i)) (is.same.geometry i).pages (wait_of new.store) (is.tasks i) in
      let blocks : new.store.geometry.blocks * new.store.geometry.pages ≡ old.store.geometry.blocks * old.store.geometry.pages = ap (λ (g : Geometry). g.blocks * g.pages) is.same.geometry in
      omega (arith, quiet, now, blocks, is.same.scanned)

  -- what a step of the collector makes, as the contract says it
  pub moves_on_by : (moved : Moved) (result : Stepped) → moved ≢ Idle → IsCollected old.store moved new.store
      → Changes old.store.geometry old.store.luns old.store.units old.store.pages (as_collected moved) new.store.pages
      → new.store.calls ≡ raised old.store.calls → new.store.hits ≡ old.store.hits
      → new.store.faults ≡ old.store.faults → new.regions ≡ regions_moved old.shape old.regions moved → new.counts ≡ counted_moved old.counts moved
      → result ≡ stepped None (moved_by moved) false → Collects old new result
  moves_on_by moved result busy step changes calls hits faults regions counts result_is = on_false result.idle (record {
    phase = is.ready;
    same = is.same;
    lists = is.lists;
    tasks = is.tasks;
    held = is.held;
    calls = calls;
    hits = hits;
    outcome = inl (moved, record { busy = busy; step = step; changes = changes; faults = faults; regions = regions; counts = counts; result_is = result_is });
  })

  -- where none is left after it, there is nothing to collect, or no sequence number
  pub collected_over : (moved : Moved) → IsCollected old.store moved new.store → uncollected_in new ≡ 0
      → (next_seq new.store.pages ≡ 2 ^ 62) ⊎ AreCollected new.store.geometry new.store.pages
  collected_over moved step none =
      let s = old.store in
      let kept = (collect_keeps s.geometry s.luns s.units (collecting s) (is.standing.ready is.ready)).0 in
      let state : (collect_step s.geometry (collecting s)).state ≡ collecting new.store = ap (λ (t : Step). t.state) step in
      let now : IsCollectable s.geometry s.luns s.units (collecting new.store) = subst (λ (c : CollectState). IsCollectable s.geometry s.luns s.units c) state kept in
      let left : uncollected s.geometry (collecting new.store) ≡ 0 = ap (λ (g : Geometry). uncollected g (collecting new.store)) (sym is.same.geometry) ∙ none in
      subst (λ (g : Geometry). (next_seq new.store.pages ≡ 2 ^ 62) ⊎ AreCollected g new.store.pages) (sym is.same.geometry)
      (uncollected-none s.geometry s.luns s.units (collecting new.store) now left)

-- an idle step leaves none
pub idle_leaves_none : (old new : DeviceState) → IsCollected old.store Idle new.store → uncollected_in old ≡ 0
idle_leaves_none old new step =
    let s = collecting old.store in
    let g = old.store.geometry in
    ap (λ (t : Step). if is_idle t.did then 0 else left_with g s.chip s.buffer s.victim) step

same_steps : (counts : Counts) (moved : Moved) → (counted_moved counts moved).steps ≡ counts.steps
same_steps counts Idle = refl
same_steps counts ReadPage = refl
same_steps counts (MovedPage lun lba) = refl
same_steps counts (ErasedBlock block) = refl

-- what a call of `collect` counts: no step
pub collect_steps_counted : (old new : DeviceState) (result : Stepped) → CollectsOn old new result → new.counts.steps ≡ old.counts.steps
collect_steps_counted old new result collects = elim collects.outcome [
  | inl step ↦ ap (λ (c : Counts). c.steps) step.1.counts ∙ same_steps old.counts step.0
  | inr fault ↦ ap (λ (c : Counts). c.steps) fault.1.counts
]

-- the failures that it tells are those that the count of faults has
pub collect_fails : (old new : DeviceState) (result : Stepped) → CollectsOn old new result
    → FailuresAre old.store.faults new.store.faults (followed_by [] (events_of (group_of result [])))
collect_fails old new result collects = elim collects.outcome [
  | inl step ↦ rw (step.1.result_is) (none_failed old.store.faults new.store.faults _ (moved_fails_none step.0 []) step.1.faults)
  | inr fault ↦ rw (fault.1.result_is) (one_failed old.store.faults new.store.faults _ refl fault.1.faults.0 fault.1.faults.1)
]

-- it sends nothing
pub collect_sends_none : (old new : DeviceState) (result : Stepped) → CollectsOn old new result → result.sent ≡ false
collect_sends_none old new result collects = elim collects.outcome [
  | inl step ↦ ap (λ (r : Stepped). r.sent) step.1.result_is
  | inr fault ↦ ap (λ (r : Stepped). r.sent) fault.1.result_is
]
