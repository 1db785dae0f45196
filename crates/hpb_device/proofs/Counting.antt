-- What a device counts fits its history with one more event, or with none.
use Rattle.std.proofs.Common.{◌≡◌, ℕ, ◌+◌, ◌*◌, ◌^◌, ◌-◌, ◌≤◌, Bool, true, false, not, ◌&&◌, ◌||◌, min, List, [], ◌∷◌, Option, Some, None, sym, ◌∙◌, ap, subst, arith}
use Rattle.std.specs.Prelude.{if◌then◌else◌, is_some, length, sum_by}
use Rattle.flash_pages.specs.declared.chip.ChipOp.{ChipOp}
use Rattle.flash_pages.specs.declared.chip.Geometry.{Geometry}
use Rattle.flash_store.specs.declared.answers.Moved.{Moved}
use Rattle.flash_store.specs.declared.answers.Moved.TheVariants.{Idle, Read as ReadPage, Page as MovedPage, Erased as ErasedBlock}
use Rattle.flat_unit.specs.declared.event.Event.{Event}
use Rattle.flat_unit.specs.declared.event.Event.TheVariants.{Host, Device, Reset, Moved as MovedEvent, Failed as CallFailed}
use Rattle.flat_unit.specs.Contents.{Shown, leaving, shown}
use Rattle.flat_unit.specs.Counts.{ends_with, has_entry_at, is_at_work, is_fresh_at, is_sent, next_entry, one_if, stretches, works}
use Rattle.flat_unit.specs.History.{History, ◌▹◌}
use Rattle.flat_unit.specs.Queue.{tasks_after}
use Rattle.flat_unit.specs.Sizes.{Sizes}
use Rattle.flat_unit.specs.Sound.{owed}
use Rattle.flat_unit.specs.Writes.{blocks_ended, moves}
use Rattle.flat_unit.proofs.Counting.{dropped_ends_none, one_at_most}
use Rattle.hpb_device.specs.declared.advance.Progress.TheVariants.{Sends}
use Rattle.hpb_device.specs.declared.advance.Transfer.TheVariants.{LookedUp, ByEntry}
use Rattle.hpb_device.specs.declared.counts.Counts.{Counts}
use Rattle.hpb_device.specs.declared.task.Task.{Task}
use Rattle.hpb_device.specs.Advance.{IsSameStore}
use Rattle.hpb_device.specs.Counted.{AreCounted, CountsStand, steps_scanned}
use Rattle.hpb_device.specs.Counts.{counted, counted_moved, counted_step}
use Rattle.hpb_device.specs.Standing.{programmed_of, sizes_of}
use Rattle.hpb_device.specs.State.{DeviceState}
use Rattle.hpb_device.proofs.Collecting.{moves_on}
use Rattle.hpb_device.proofs.StepStands.{sizes_same}

-- how many more of each are counted
pub record Rises (counts now : Counts) (steps lookups entries moved : ℕ) : Type 0 where
  pub steps_rise : (n : ℕ) → counts.steps ≡ min n (2 ^ 64 - 1) → now.steps ≡ min (n + steps) (2 ^ 64 - 1)
  pub lookups_rise : (n : ℕ) → counts.lookups ≡ min n (2 ^ 64 - 1) → now.lookups ≡ min (n + lookups) (2 ^ 64 - 1)
  pub entries_rise : (n : ℕ) → counts.entries ≡ min n (2 ^ 64 - 1) → now.entries ≡ min (n + entries) (2 ^ 64 - 1)
  pub moved_rise : (n : ℕ) → counts.moved ≡ min n (2 ^ 64 - 1) → now.moved ≡ min (n + moved) (2 ^ 64 - 1)

stays : (x n : ℕ) → x ≡ min n (2 ^ 64 - 1) → x ≡ min (n + 0) (2 ^ 64 - 1)
stays x n at = omega (arith, at)

rises : (x n : ℕ) → x ≡ min n (2 ^ 64 - 1) → min (x + 1) (2 ^ 64 - 1) ≡ min (n + 1) (2 ^ 64 - 1)
rises x n at = omega (arith, at)

pub rise_none : (c : Counts) → Rises c c 0 0 0 0
rise_none c = record { steps_rise = stays c.steps; lookups_rise = stays c.lookups; entries_rise = stays c.entries; moved_rise = stays c.moved }

pub rise_step : (c : Counts) → Rises c (counted_step c) 1 0 0 0
rise_step c = record { steps_rise = rises c.steps; lookups_rise = stays c.lookups; entries_rise = stays c.entries; moved_rise = stays c.moved }

-- what a step of the collector counts
abbrev pub pages_moved : Moved → ℕ
pages_moved (MovedPage lun lba) = 1
pages_moved _ = 0

pub rise_moved : (c : Counts) (moved : Moved) → Rises c (counted_moved c moved) 0 0 0 (pages_moved moved)
rise_moved c (MovedPage lun lba) = record { steps_rise = stays c.steps; lookups_rise = stays c.lookups; entries_rise = stays c.entries; moved_rise = rises c.moved }
rise_moved c (ErasedBlock block) = record { steps_rise = stays c.steps; lookups_rise = stays c.lookups; entries_rise = stays c.entries; moved_rise = stays c.moved }
rise_moved c Idle = rise_none c
rise_moved c ReadPage = rise_none c

pub rise_moving : (c : Counts) (moved : Moved) → Rises c (counted_moved (counted_step c) moved) 1 0 0 (pages_moved moved)
rise_moving c (MovedPage lun lba) = record { steps_rise = rises c.steps; lookups_rise = stays c.lookups; entries_rise = stays c.entries; moved_rise = rises c.moved }
rise_moving c (ErasedBlock block) = record { steps_rise = rises c.steps; lookups_rise = stays c.lookups; entries_rise = stays c.entries; moved_rise = stays c.moved }
rise_moving c Idle = rise_step c
rise_moving c ReadPage = rise_step c

pub rise_lookup : (c : Counts) (rest : Task) → Rises c (counted c (Sends LookedUp rest)) 1 1 0 0
rise_lookup c rest = record { steps_rise = rises c.steps; lookups_rise = rises c.lookups; entries_rise = stays c.entries; moved_rise = stays c.moved }

pub rise_entry : (c : Counts) (rest : Task) → Rises c (counted c (Sends ByEntry rest)) 1 0 1 0
rise_entry c rest = record { steps_rise = rises c.steps; lookups_rise = stays c.lookups; entries_rise = rises c.entries; moved_rise = stays c.moved }

-- what an event adds is counted
pub record Adds (s : Sizes) (e : History) (x : Event) (scanned scanned_now programmed programmed_now steps lookups entries moved : ℕ) : Type 0 where
  pub work : one_if (is_sent x (owed s e)) + sum_by blocks_ended (leaving (tasks_after s e) x) + programmed_now + steps_scanned s scanned_now (e ▹ x)
      ≤ steps + programmed + steps_scanned s scanned e
  pub fresh : one_if (is_fresh_at s e (shown s (tasks_after s e) x) (next_entry s e (tasks_after s e))) ≤ entries
  pub had : entries ≤ one_if (has_entry_at s e (shown s (tasks_after s e) x))
  pub found : one_if (is_some (shown s (tasks_after s e) x)) ≤ lookups + entries
  pub none_else : lookups + entries ≤ one_if (is_some (shown s (tasks_after s e) x)) + one_if (ends_with 0x11 x (owed s e))
  pub moves_more : moves (e ▹ x) ≡ moves e + moved

module _ (s : Sizes) (scanned scanned_now programmed programmed_now : ℕ) (counts now : Counts) (e : History) where
  -- one more event
  pub counted_event : (x : Event) (steps lookups entries moved : ℕ) → Rises counts now steps lookups entries moved
      → Adds s e x scanned scanned_now programmed programmed_now steps lookups entries moved → AreCounted s scanned programmed counts e → AreCounted s scanned_now programmed_now now (e ▹ x)
  counted_event x steps lookups entries moved rise adds at = record {
    exact = record {
      steps = at.exact.steps + steps;
      lookups = at.exact.lookups + lookups;
      entries = at.exact.entries + entries;
      moved = at.exact.moved + moved;
      erased = at.exact.erased;
    };
    steps_told = rise.steps_rise at.exact.steps at.steps_told;
    lookups_told = rise.lookups_rise at.exact.lookups at.lookups_told;
    entries_told = rise.entries_rise at.exact.entries at.entries_told;
    moved_told = rise.moved_rise at.exact.moved at.moved_told;
    fresh_served = omega (arith, at.fresh_served, adds.fresh);
    entries_had = omega (arith, at.entries_had, adds.had);
    all_found = omega (arith, at.all_found, adds.found);
    none_else = omega (arith, at.none_else, adds.none_else);
    moved = omega (arith, at.moved, adds.moves_more);
    steps = omega (arith, at.steps, adds.work);
  }

  -- no more events
  pub counted_quiet : (steps : ℕ) → Rises counts now steps 0 0 0 → programmed_now + steps_scanned s scanned_now e ≤ steps + programmed + steps_scanned s scanned e
      → AreCounted s scanned programmed counts e → AreCounted s scanned_now programmed_now now e
  counted_quiet steps rise work at = record {
    exact = record { steps = at.exact.steps + steps; lookups = at.exact.lookups; entries = at.exact.entries; moved = at.exact.moved; erased = at.exact.erased };
    steps_told = rise.steps_rise at.exact.steps at.steps_told;
    lookups_told = let told = rise.lookups_rise at.exact.lookups at.lookups_told in omega (arith, told);
    entries_told = let told = rise.entries_rise at.exact.entries at.entries_told in omega (arith, told);
    moved_told = let told = rise.moved_rise at.exact.moved at.moved_told in omega (arith, told);
    fresh_served = at.fresh_served;
    entries_had = at.entries_had;
    all_found = at.all_found;
    none_else = at.none_else;
    moved = at.moved;
    steps = omega (arith, at.steps, work);
  }

module _ (s : Sizes) (scanned programmed : ℕ) (e : History) where
  -- bytes of the host, a failed call and a page that was moved
  pub adds_host : (bytes : List ℕ) (programmed_now : ℕ) → programmed_now ≤ programmed → Adds s e (Host bytes) scanned scanned programmed programmed_now 0 0 0 0
  adds_host bytes programmed_now fewer = record {
    work = omega (arith, fewer);
    fresh = omega arith;
    had = omega arith;
    found = omega arith;
    none_else = omega arith;
    moves_more = omega arith;
  }

  pub adds_failed : (op : ChipOp) (steps : ℕ) → Adds s e (CallFailed op) scanned scanned programmed programmed steps 0 0 0
  adds_failed op steps = record { work = omega arith; fresh = omega arith; had = omega arith; found = omega arith; none_else = omega arith; moves_more = omega arith }

  pub adds_moved : (lun lba steps : ℕ) → Adds s e (MovedEvent lun lba) scanned scanned programmed programmed steps 0 0 1
  adds_moved lun lba steps = record { work = omega arith; fresh = omega arith; had = omega arith; found = omega arith; none_else = omega arith; moves_more = omega arith }

  -- a reset drops all tasks
  pub adds_reset : Adds s e Reset scanned 0 programmed 0 0 0 0 0
  adds_reset =
      let none = dropped_ends_none (tasks_after s e) in
      record {
        work = omega (arith, none);
        fresh = omega arith;
        had = omega arith;
        found = omega arith;
        none_else = omega arith;
        moves_more = omega arith;
      }

  -- the steps of the scan count where the device begins to serve
  stretch_begins : (a w : Bool) (n : ℕ) → s.pages ≤ scanned → s.pages * (n + one_if (a && not w)) + (if a || w then 0 else scanned) ≤ s.pages * n + (if w then 0 else scanned)
  stretch_begins true true n whole = omega arith
  stretch_begins true false n whole = omega (arith, whole)
  stretch_begins false true n whole = omega arith
  stretch_begins false false n whole = omega arith

  pub scanned_sent : (out : List ℕ) → s.pages ≤ scanned → steps_scanned s scanned (e ▹ Device out) ≤ steps_scanned s scanned e
  scanned_sent out whole = stretch_begins (is_at_work (Device out) (owed s e)) (works s e) (stretches s e) whole

  pub scanned_more : steps_scanned s (scanned + 1) e ≤ 1 + steps_scanned s scanned e
  scanned_more = by_test (works s e)
    where
      by_test : (w : Bool) → s.pages * stretches s e + (if w then 0 else scanned + 1) ≤ 1 + (s.pages * stretches s e + (if w then 0 else scanned))
      by_test true = omega arith
      by_test false = omega arith

  -- and none where what comes is no service
  same_stretch : (a w : Bool) (n : ℕ) → a ≡ false → s.pages * (n + one_if (a && not w)) + (if a || w then 0 else scanned) ≤ s.pages * n + (if w then 0 else scanned)
  same_stretch true w n none = cc
  same_stretch false true n none = omega arith
  same_stretch false false n none = omega arith

  pub scanned_idle : (out : List ℕ) → is_at_work (Device out) (owed s e) ≡ false → steps_scanned s scanned (e ▹ Device out) ≤ steps_scanned s scanned e
  scanned_idle out none = same_stretch (is_at_work (Device out) (owed s e)) (works s e) (stretches s e) none

  -- a reply of the device
  pub adds_reply : (out : List ℕ) (due : List Event) → owed s e ≡ Device out ∷ due → shown s (tasks_after s e) (Device out) ≡ None
      → sum_by blocks_ended (leaving (tasks_after s e) (Device out)) ≡ 0
      → Adds s e (Device out) scanned scanned programmed programmed 0 0 0 0
  adds_reply out due owes none ended =
      let unsent : one_if (is_sent (Device out) (owed s e)) ≡ 0 = ap (λ (xs : List Event). one_if (is_sent (Device out) xs)) owes in
      let idle : is_at_work (Device out) (owed s e) ≡ false = ap (is_at_work (Device out)) owes in
      let scan = scanned_idle out idle in
      record {
        work = omega (arith, unsent, ended, scan);
        fresh = rw none (omega arith);
        had = omega arith;
        found = rw none (omega arith);
        none_else = omega arith;
        moves_more = omega arith;
      }

  -- what a step sends that shows no block
  pub adds_sent : (out : List ℕ) (programmed_now lookups : ℕ) → steps_scanned s scanned (e ▹ Device out) ≤ steps_scanned s scanned e → shown s (tasks_after s e) (Device out) ≡ None
      → sum_by blocks_ended (leaving (tasks_after s e) (Device out)) + programmed_now ≤ programmed
      → lookups ≤ one_if (ends_with 0x11 (Device out) (owed s e))
      → Adds s e (Device out) scanned scanned programmed programmed_now 1 lookups 0 0
  adds_sent out programmed_now lookups scan none ended failed =
      let one = one_at_most (is_sent (Device out) (owed s e)) in
      let shows : one_if (is_some (shown s (tasks_after s e) (Device out))) ≡ 0 = ap (λ (o : Option Shown). one_if (is_some o)) none in
      record {
        work = omega (arith, one, ended, scan);
        fresh = rw none (omega arith);
        had = omega arith;
        found = omega (arith, shows);
        none_else = omega (arith, shows, failed);
        moves_more = omega arith;
      }

  -- a block that a step shows
  pub adds_shown : (out : List ℕ) (w : Shown) (o : Option ℕ) (lookups entries : ℕ) → s.pages ≤ scanned → shown s (tasks_after s e) (Device out) ≡ Some w → next_entry s e (tasks_after s e) ≡ o
      → leaving (tasks_after s e) (Device out) ≡ []
      → one_if (is_fresh_at s e (Some w) o) ≤ entries → entries ≤ one_if (is_some o) → lookups + entries ≡ 1
      → Adds s e (Device out) scanned scanned programmed programmed 1 lookups entries 0
  adds_shown out w o lookups entries whole shows next leaves fresh had all =
      let one = one_at_most (is_sent (Device out) (owed s e)) in
      let scan = scanned_sent out whole in
      let ended : sum_by blocks_ended (leaving (tasks_after s e) (Device out)) ≡ 0 = ap (sum_by blocks_ended) leaves in
      let read : one_if (is_some (shown s (tasks_after s e) (Device out))) ≡ 1 = ap (λ (o : Option Shown). one_if (is_some o)) shows in
      let entry : one_if (has_entry_at s e (shown s (tasks_after s e) (Device out))) ≡ one_if (is_some o) =
      ap (λ (o : Option Shown). one_if (has_entry_at s e o)) shows ∙ ap (λ (o : Option ℕ). one_if (is_some o)) next in
      let freshly : one_if (is_fresh_at s e (shown s (tasks_after s e) (Device out)) (next_entry s e (tasks_after s e))) ≡ one_if (is_fresh_at s e (Some w) o) =
      ap (λ (v : Option Shown). one_if (is_fresh_at s e v (next_entry s e (tasks_after s e)))) shows ∙ ap (λ (v : Option ℕ). one_if (is_fresh_at s e (Some w) v)) next in
      record {
        work = omega (arith, one, ended, scan);
        fresh = omega (arith, freshly, fresh);
        had = omega (arith, entry, had);
        found = omega (arith, read, all);
        none_else = omega (arith, read, all);
        moves_more = omega arith;
      }

-- a step of the collector
pub counted_moves : (s : Sizes) (scanned programmed : ℕ) (counts now : Counts) (e : History) (moved : Moved) (out : List ℕ) (steps : ℕ) → Rises counts now steps 0 0 (pages_moved moved)
    → AreCounted s scanned programmed counts e → AreCounted s scanned programmed now (moves_on moved out e)
counted_moves s scanned programmed counts now e Idle out steps rise at = counted_quiet s scanned scanned programmed programmed counts now e steps rise (omega arith) at
counted_moves s scanned programmed counts now e ReadPage out steps rise at = counted_quiet s scanned scanned programmed programmed counts now e steps rise (omega arith) at
counted_moves s scanned programmed counts now e (MovedPage lun lba) out steps rise at =
    counted_event s scanned scanned programmed programmed counts now e (MovedEvent lun lba) steps 0 0 1 rise (adds_moved s scanned programmed e lun lba steps) at
counted_moves s scanned programmed counts now e (ErasedBlock block) out steps rise at = counted_quiet s scanned scanned programmed programmed counts now e steps rise (omega arith) at

-- the numbers of a device that its counts depend on
record Counting : Type 0 where
  sizes : Sizes
  scanned : ℕ
  programmed : ℕ
  counts : Counts

-- a device that has counted so much
pub counts_now : (d now : DeviceState) (scanned programmed : ℕ) (counts : Counts) (e : History) → IsSameStore d.store now.store → now.shape ≡ d.shape
    → length now.store.pages ≡ d.store.geometry.blocks * d.store.geometry.pages
    → now.store.scanned ≡ scanned → programmed_of now.tasks ≡ programmed → now.counts ≡ counts → AreCounted (sizes_of d) scanned programmed counts e → CountsStand now e
counts_now d now scanned programmed counts e same shape whole scan done counted at =
    let was : Counting = record { sizes = sizes_of d; scanned = scanned; programmed = programmed; counts = counts } in
    let is : Counting = record { sizes = sizes_of now; scanned = now.store.scanned; programmed = programmed_of now.tasks; counts = now.counts } in
    let equal : was ≡ is = λ i. record { sizes = sizes_same d now same shape i; scanned = sym scan i; programmed = sym done i; counts = sym counted i } in
    record {
      whole = whole ∙ ap (λ (g : Geometry). g.blocks * g.pages) (sym same.geometry);
      fits = subst (λ (c : Counting). AreCounted c.sizes c.scanned c.programmed c.counts e) equal at;
    }
