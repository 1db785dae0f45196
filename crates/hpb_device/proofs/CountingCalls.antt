-- What a device counts fits its history after each call but a step, and says what the history counts.
use Rattle.std.proofs.Common.{◌≡◌, ◌⊎◌, ℕ, ◌*◌, ◌≤◌, Bool, true, List, [], ◌∷◌, ◌++◌, length, Some, refl, sym, ◌∙◌, ap, subst, arith, inl, inr}
use Rattle.std.proofs.lemmas.List.Sums.{count_by-le-length}
use Rattle.flash_pages.specs.declared.chip.ChipOp.{ChipOp}
use Rattle.flash_pages.specs.Chip.{is_erased}
use Rattle.flash_store.specs.declared.answers.Moved.{Moved}
use Rattle.flash_store.specs.Store.{IsCollected, StoreState}
use Rattle.hpb_cdb.specs.declared.limits.Limits.{Limits}
use Rattle.upiu_wire.specs.Upiu.{Upiu, upiu_at, upiu_out}
use Rattle.flat_unit.specs.declared.event.Event.TheVariants.{Device, Host, Reset, Failed as CallFailed}
use Rattle.flat_unit.specs.Counts.{Counted, Counts as Exact}
use Rattle.flat_unit.specs.History.{History, ◌▹◌}
use Rattle.flat_unit.specs.Queue.{on_after, tasks_after}
use Rattle.flat_unit.specs.Reply.{reply_of}
use Rattle.flat_unit.specs.Stands.{First}
use Rattle.flat_unit.specs.Task.{Task as Waiting}
use Rattle.flat_unit.proofs.Counting.{reply_is_owed}
use Rattle.flat_unit.proofs.standing.OneCall.{progress_within}
use Rattle.hpb_device.specs.declared.counts.Counts.{Counts}
use Rattle.hpb_device.specs.declared.task.Task.{Task}
use Rattle.hpb_device.specs.Advance.{IsSameStore}
use Rattle.hpb_device.specs.Calls.{EndsHead, Keeps, TakesData}
use Rattle.hpb_device.specs.Counted.{AreCounted, AreCut, CountsStand}
use Rattle.hpb_device.specs.Counts.{counted_moved, no_counts}
use Rattle.hpb_device.specs.Keeps.{KeepsTasks}
use Rattle.hpb_device.specs.Standing.{DeviceStands, programmed_of, sizes_of}
use Rattle.hpb_device.specs.State.{DeviceState}
use Rattle.hpb_device.specs.Task.{IsQueue}
use Rattle.hpb_device.proofs.Collecting.{IsCollecting, moves_on, whole_moved}
use Rattle.hpb_device.proofs.Counting.{adds_failed, adds_host, adds_reply, adds_reset, counted_event, counted_moves, counts_now, rise_moved, rise_none}
use Rattle.hpb_device.proofs.StepStands.{none_programmed}
use Rattle.hpb_device.proofs.Stepping.{serves_same}

same_store : (d now : DeviceState) → now.store ≡ d.store → IsSameStore d.store now.store
same_store d now is = record { geometry = ap (λ (z : StoreState). z.geometry) is; luns = ap (λ (z : StoreState). z.luns) is; units = ap (λ (z : StoreState). z.units) is }

-- what isn't answered at once, and what is
module _ (d now : DeviceState) (bytes : List ℕ) (e : History) (store : now.store ≡ d.store) (shape : now.shape ≡ d.shape) (counts : now.counts ≡ d.counts)
    (fewer : programmed_of now.tasks ≤ programmed_of d.tasks) (stand : CountsStand d e) where
  received : AreCounted (sizes_of d) d.store.scanned (programmed_of now.tasks) d.counts (e ▹ Host bytes)
  received = counted_event (sizes_of d) d.store.scanned d.store.scanned (programmed_of d.tasks) (programmed_of now.tasks) d.counts d.counts e (Host bytes) 0 0 0 0 (rise_none d.counts)
      (adds_host (sizes_of d) d.store.scanned (programmed_of d.tasks) e bytes (programmed_of now.tasks) fewer) stand.fits

  received_now : (history : History) → AreCounted (sizes_of d) d.store.scanned (programmed_of now.tasks) d.counts history → CountsStand now history
  received_now history at =
      counts_now d now d.store.scanned (programmed_of now.tasks) d.counts history (same_store d now store) shape (ap (λ (z : StoreState). length z.pages) store ∙ stand.whole)
      (ap (λ (z : StoreState). z.scanned) store) refl counts at

  pub host_counts : CountsStand now (e ▹ Host bytes)
  host_counts = received_now (e ▹ Host bytes) received

  pub reply_counts : (v : Upiu) (out : List ℕ) (first : First) → DeviceStands d first e
      → ((tasks : List Waiting) → KeepsTasks d.tasks d.held tasks → reply_of (sizes_of d) true tasks bytes ≡ Some v) → out ≡ upiu_out v → CountsStand now (e ▹ Host bytes ▹ Device out)
  reply_counts v out first at answers sent =
      let s = sizes_of d in
      let is : reply_of s (on_after e) (tasks_after s e) bytes ≡ Some v =
      ap (λ (on : Bool). reply_of s on (tasks_after s e) bytes) at.stands.switch ∙ (ap (λ (ts : List Waiting). reply_of s true ts bytes) at.stands.keeps ∙ answers at.tasks at.keeps) in
      let owed = reply_is_owed s e bytes v is in
      let programmed = programmed_of now.tasks in
      let answered = counted_event s d.store.scanned d.store.scanned programmed programmed d.counts d.counts (e ▹ Host bytes) (Device (upiu_out v)) 0 0 0 0 (rise_none d.counts)
      (adds_reply s d.store.scanned programmed (e ▹ Host bytes) (upiu_out v) owed.due owed.owes owed.shows owed.ended) received in
      subst (λ (b : List ℕ). CountsStand now (e ▹ Host bytes ▹ Device b)) (sym sent) (received_now (e ▹ Host bytes ▹ Device (upiu_out v)) answered)

-- a command that is kept has programmed nothing
kept_programmed : (tasks : List Task) (task : Task) → task.programmed ≡ 0 → programmed_of (tasks ++ task ∷ []) ≤ programmed_of tasks
kept_programmed [] task none = omega (arith, none)
kept_programmed (head ∷ others) task none = omega arith

pub kept_counts : (d now : DeviceState) (bytes : List ℕ) (e : History) → Keeps d now bytes ⊎ TakesData d now (upiu_at bytes).segment → now.store ≡ d.store → now.shape ≡ d.shape
    → now.counts ≡ d.counts
    → CountsStand d e → CountsStand now (e ▹ Host bytes)
kept_counts d now bytes e receives store shape counts stand =
    let fewer : programmed_of now.tasks ≤ programmed_of d.tasks = elim receives [
      | inl keeps ↦
          let more = kept_programmed d.tasks keeps.task (ap (λ (t : Task). t.programmed) keeps.begun.task_is) in
          let is = ap programmed_of keeps.kept in
          omega (arith, more, is)
      | inr takes ↦
          let was = ap programmed_of takes.was in
          let is = ap programmed_of takes.kept in
          omega (arith, was, is)
    ] in
    host_counts d now bytes e store shape counts fewer stand

-- the first task ends
pub ending_fewer : (d now : DeviceState) (luns : ℕ) (lim : Limits) (out : List ℕ) → IsQueue luns lim d.held d.tasks → EndsHead d now out → programmed_of now.tasks ≤ programmed_of d.tasks
ending_fewer d now luns lim out queue ends =
    let q = subst (IsQueue luns lim d.held) ends.was queue in
    let none = ap programmed_of ends.ended ∙ none_programmed luns lim ends.others q.2 in
    omega (arith, none)

-- a step of the collector, and its call that failed
pub collect_counts : (d n : DeviceState) (is : IsCollecting d n) (moved : Moved) (e : History) → IsCollected d.store moved n.store → n.counts ≡ counted_moved d.counts moved → CountsStand d e
    → CountsStand n (moves_on moved [] e)
collect_counts d n is moved e step counts stand =
    counts_now d n d.store.scanned (programmed_of d.tasks) (counted_moved d.counts moved) (moves_on moved [] e) (serves_same d.store n.store is.same) is.shape
    (whole_moved d n is moved step ∙ stand.whole) is.same.scanned (ap programmed_of is.tasks) counts
    (counted_moves (sizes_of d) d.store.scanned (programmed_of d.tasks) d.counts (counted_moved d.counts moved) e moved [] 0 (rise_moved d.counts moved) stand.fits)

pub unmoved_counts : (d n : DeviceState) (is : IsCollecting d n) (op : ChipOp) (e : History) → n.store.pages ≡ d.store.pages → n.counts ≡ d.counts → CountsStand d e
    → CountsStand n (e ▹ CallFailed op)
unmoved_counts d n is op e pages counts stand =
    counts_now d n d.store.scanned (programmed_of d.tasks) d.counts (e ▹ CallFailed op) (serves_same d.store n.store is.same) is.shape
    (ap length pages ∙ stand.whole) is.same.scanned (ap programmed_of is.tasks) counts
    (counted_event (sizes_of d) d.store.scanned d.store.scanned (programmed_of d.tasks) (programmed_of d.tasks) d.counts d.counts e (CallFailed op) 0 0 0 0 (rise_none d.counts)
    (adds_failed (sizes_of d) d.store.scanned (programmed_of d.tasks) e op 0) stand.fits)

-- a reset drops all tasks, and the scan begins anew
pub reset_counts : (old new : DeviceState) (e : History) → IsSameStore old.store new.store → new.store.pages ≡ old.store.pages → new.shape ≡ old.shape → new.tasks ≡ []
    → new.store.scanned ≡ 0 → new.counts ≡ old.counts → CountsStand old e → CountsStand new (e ▹ Reset)
reset_counts old new e same pages shape tasks scanned counts stand =
    counts_now old new 0 0 old.counts (e ▹ Reset) same shape (ap length pages ∙ stand.whole) scanned (ap programmed_of tasks) counts
    (counted_event (sizes_of old) old.store.scanned 0 (programmed_of old.tasks) 0 old.counts old.counts e Reset 0 0 0 0 (rise_none old.counts)
    (adds_reset (sizes_of old) old.store.scanned (programmed_of old.tasks) e) stand.fits)

-- a device that was just made has counted nothing
pub begins_counts : (device : DeviceState) → length device.store.pages ≡ device.store.geometry.blocks * device.store.geometry.pages → device.tasks ≡ [] → device.counts ≡ no_counts
    → device.store.scanned ≡ 0 → CountsStand device []
begins_counts device whole tasks counts scanned =
    let none = ap programmed_of tasks in
    record {
      whole = whole;
      fits = record {
        exact = record { steps = 0; lookups = 0; entries = 0; moved = 0; erased = 0 };
        steps_told = ap (λ (c : Counts). c.steps) counts;
        lookups_told = ap (λ (c : Counts). c.lookups) counts;
        entries_told = ap (λ (c : Counts). c.entries) counts;
        moved_told = ap (λ (c : Counts). c.moved) counts;
        fresh_served = omega arith;
        entries_had = omega arith;
        all_found = omega arith;
        none_else = omega arith;
        moved = refl;
        steps = omega (arith, none, scanned);
      };
    }

-- What a device has counted is what the definitions say of its history, over a sound chip. The counts are whole numbers, of which the device's are those up to 2^64 - 1.
pub counted_of : (device : DeviceState) (first : First) (e : History) → DeviceStands device first e → CountsStand device e
    → (t : Exact) × Counted (sizes_of device) (device.store.geometry.blocks * device.store.geometry.pages) device.store.geometry.pages first.free e t × AreCut device.counts t
counted_of device first e at stand =
    let fits = stand.fits in
    let stands = at.stands in
    let within = progress_within (sizes_of device) (programmed_of device.tasks) at.tasks stands.progress in
    let some = count_by-le-length is_erased device.store.pages in
    let t : Exact = record { steps = fits.exact.steps; lookups = fits.exact.lookups; entries = fits.exact.entries; moved = fits.exact.moved; erased = at.erases } in (
      t,
      record {
        fresh_served = fits.fresh_served;
        entries_had = fits.entries_had;
        all_found = fits.all_found;
        none_else = fits.none_else;
        moved = fits.moved;
        room = omega (arith, fits.moved, stands.free, stands.at_least);
        erased = omega (arith, fits.moved, stands.free, stands.at_most, within, some, stand.whole);
        steps = omega (arith, fits.steps);
      },
      record { steps = fits.steps_told; lookups = fits.lookups_told; entries = fits.entries_told; moved = fits.moved_told; erased = at.counted },
    )
