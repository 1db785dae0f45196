-- What a step of a device leaves, by what is known of its chip.
use Rattle.std.proofs.Common.{◌*◌, ◌≡◌, ◌≢◌, ℕ, ◌≤◌, ◌<◌, ◌^◌, Bool, true, false, List, [], ◌∷◌, length, refl, sym, ◌∙◌, ap, subst, arith}
use Rattle.std.specs.Prelude.{IsTrue}
use Rattle.std.specs.Bool.{OnFalse}
use Rattle.std.specs.List.{AllByRecursion}
use Rattle.std.proofs.lemmas.List.{length-map, length-replicate}
use Rattle.flash_pages.specs.Place.{Place}
use Rattle.flash_pages.specs.Chip.{Page}
use Rattle.flash_store.specs.declared.answers.Moved.{Moved}
use Rattle.flash_store.specs.declared.answers.Phase.{Phase}
use Rattle.flash_store.specs.declared.answers.Phase.TheVariants.{Scanning, Ready, Foreign}
use Rattle.flash_store.specs.Store.{IsSame, IsStanding, StoreState}
use Rattle.region_state.specs.Machine.{Machine}
use Rattle.flat_unit.specs.History.{History, followed_by}
use Rattle.flat_unit.specs.Replays.{events_of}
use Rattle.flat_unit.specs.Stands.{First}
use Rattle.hpb_device.specs.declared.advance.Internal.TheVariants.{Missed, Programmed, Collected}
use Rattle.hpb_device.specs.declared.advance.Progress.{Progress}
use Rattle.hpb_device.specs.declared.advance.Progress.TheVariants.{Sends, Silent, Ended, Failed}
use Rattle.hpb_device.specs.declared.counts.Counts.{Counts}
use Rattle.hpb_device.specs.declared.device.Stepped.{Stepped}
use Rattle.hpb_device.specs.declared.task.Task.{Task}
use Rattle.hpb_device.specs.Advance.{Advances, IsSameStore, ServesEntry}
use Rattle.hpb_device.specs.Calls.{GoesOn, Leaves, StepsIn, at_rest}
use Rattle.hpb_device.specs.Counts.{counted}
use Rattle.hpb_device.specs.Entries.{EntriesStand}
use Rattle.hpb_device.specs.Limits.{limits_of}
use Rattle.hpb_device.specs.Lists.{lists_stepped}
use Rattle.hpb_device.specs.Listed.{ListingStands}
use Rattle.hpb_device.specs.Standing.{DeviceStands, DeviceStandsForeign, group_of}
use Rattle.hpb_device.specs.Regions.{segment_told}
use Rattle.hpb_device.specs.State.{DeviceState, IsDevice, IsSound}
use Rattle.hpb_device.specs.Task.{IsQueue, IsWaiting, next_entry}
use Rattle.hpb_device.proofs.Chips.{whole_after}
use Rattle.hpb_device.proofs.Collecting.{IsMoved, erased_by_step, moved_entries, moved_listings, moved_stands}
use Rattle.hpb_device.proofs.Entries.{stepped_entries}
use Rattle.hpb_device.proofs.Hinting.{segment_short}
use Rattle.hpb_device.proofs.Leaving.{IsOfTask, none_erased}
use Rattle.hpb_device.proofs.Listings.{stepped_listings}
use Rattle.hpb_device.proofs.StepStands.{Turn, ready_of, steps}
use Rattle.hpb_device.proofs.Unready.{IsUnready, refuses_foreign, refuses_still, scans_entries, scans_foreign, scans_listings, scans_stands, scans_still, sound_along}

pub serves_same : (old new : StoreState) → IsSame old new → IsSameStore old new
serves_same old new same = record { geometry = same.geometry; luns = same.luns; units = same.units }

-- what is known of a device
pub record IsWell (d : DeviceState) : Type 0 where
  pub units : d.store.units ≡ d.shape.units
  pub regions : length d.regions ≡ d.store.luns
  pub lists : length d.lists ≡ 127 * d.store.luns
  pub queue : IsQueue d.store.luns (limits_of d.shape) d.held d.tasks
  pub unbegun : d.store.phase ≢ Ready → (d.held ≡ []) × AllByRecursion (IsWaiting d.store.luns (limits_of d.shape)) d.tasks
  pub standing : IsStanding d.store

pub well_of : (d : DeviceState) (luns room : ℕ) → IsDevice d.store d.shape luns d.regions d.lists d.tasks d.held room → IsStanding d.store → IsWell d
well_of d luns room is stands = record {
  units = is.units_served;
  regions = sym (length-map d.regions (λ (m : Machine). m.shape)) ∙ (ap length is.shapes ∙ (length-replicate luns d.shape ∙ sym is.luns_served));
  lists = is.all_lists ∙ ap (λ (n : ℕ). 127 * n) (sym is.luns_served);
  queue = subst (λ (n : ℕ). IsQueue n (limits_of d.shape) d.held d.tasks) (sym is.luns_served) is.queue;
  unbegun = λ other. let none = is.unbegun other in (none.0, subst (λ (n : ℕ). AllByRecursion (IsWaiting n (limits_of d.shape)) d.tasks) (sym is.luns_served) none.1);
  standing = stands;
}

few_pages : (d : DeviceState) → IsWell d → length d.store.pages ≤ 65536
few_pages d well =
    let most = well.standing.served.limits.most in
    let whole = well.standing.count in
    omega (arith, most, whole)

pub unready_of : (d : DeviceState) → IsWell d → d.store.phase ≢ Ready → IsUnready d
unready_of d well other =
    let none = well.unbegun other in
    record { units = well.units; waiting = none.1; few = few_pages d well; whole = well.standing.count; held = none.0 }

pub not_scanning : (phase : Phase) → phase ≡ Scanning → phase ≢ Ready
not_scanning phase is ready = apart (sym is ∙ ready)
  where
    apart : Scanning ≡ Ready → ⊥
    apart same = cc

pub not_foreign : (phase : Phase) → phase ≡ Foreign → phase ≢ Ready
not_foreign phase is ready = apart (sym is ∙ ready)
  where
    apart : Foreign ≡ Ready → ⊥
    apart same = cc

-- the segment of a GOOD RESPONSE
abbrev told_in : {old new : DeviceState} {result : Stepped} {out : List ℕ} → GoesOn old new result out → List ℕ
told_in {old} goes = segment_told old.shape old.regions goes.task goes.progress

told_short : (old new : DeviceState) (result : Stepped) (out : List ℕ) (goes : GoesOn old new result out) → length (told_in goes) < 2 ^ 16
told_short old new result out goes = segment_short old.shape old.regions goes.task goes.progress

-- the events of a step
abbrev told : Stepped → List ℕ → History → History
told result out e = followed_by e (events_of (group_of result out))

module _ (old new : DeviceState) (well : IsWell old) (shape : new.shape ≡ old.shape) (result : Stepped) (out : List ℕ) where
  sound_of : old.store.phase ≡ Ready → GoesOn old new result out → IsSound new
  sound_of ready goes =
      let whole = whole_after (limits_of old.shape) old.store new.store old.held new.held goes.task goes.progress out goes.ok (sym well.units) (well.standing.ready ready) goes.advances in
      let mid : DeviceState = record old { store = record old.store { pages = new.store.pages } } in
      let same = goes.same in
      sound_along mid new (record { geometry = same.geometry; luns = same.luns; units = same.units }) refl whole.sound

  abbrev turn_of : old.store.phase ≡ Ready → (goes : GoesOn old new result out) (first : First) (e : History) → IsOfTask goes.progress → DeviceStands old first e → Turn
  turn_of ready goes first e own at = record {
    old = old;
    new = new;
    task = goes.task;
    others = goes.others;
    first = first;
    history = e;
    was = goes.was;
    at = at;
    ready = ready_of old goes.task goes.others first e at goes.was well.queue well.units goes.goes;
    few = few_pages old well;
    whole = well.standing.count;
    same = serves_same old.store new.store goes.same;
    shape = shape;
    erased = ap (λ (n : Counts). n.erased) goes.counts ∙ none_erased old.counts goes.progress own;
    sound = sound_of ready goes;
  }

  -- a step of the collector in the place of a program
  moved_of : old.store.phase ≡ Ready → (goes : GoesOn old new result out) (moved : Moved) (rest : Task)
      → Advances (limits_of old.shape) old.store new.store old.held new.held goes.task (Silent (Collected moved) rest) out
      → Leaves (Silent (Collected moved) rest) (told_in goes) goes.others new.tasks new.held result out → new.counts ≡ counted old.counts (Silent (Collected moved) rest) → new.lists ≡ old.lists
      → IsMoved old new moved
  moved_of ready goes moved rest advances leaves counts lists = record {
    lists = lists;
    changes = advances.0.collects.changes;
    unit = advances.0.collects.unit;
    same = serves_same old.store new.store goes.same;
    shape = shape;
    tasks = leaves.0 ∙ (ap (λ (t : Task). t ∷ goes.others) advances.0.task_is ∙ sym goes.was);
    held = advances.1;
    erased = ap (λ (n : Counts). n.erased) counts ∙ erased_by_step old.counts moved;
    sound = sound_of ready goes;
  }

  -- by what the step came to
  module _ (ready : old.store.phase ≡ Ready) (goes : GoesOn old new result out) where
    moved_is : (moved : Moved) (rest : Task) → goes.progress ≡ Silent (Collected moved) rest
        → Advances (limits_of old.shape) old.store new.store old.held new.held goes.task (Silent (Collected moved) rest) out
        → Leaves (Silent (Collected moved) rest) (told_in goes) goes.others new.tasks new.held result out → IsMoved old new moved
    moved_is moved rest is advances leaves = moved_of ready goes moved rest advances leaves (goes.counts ∙ ap (counted old.counts) is)
        (goes.lists ∙ ap (lists_stepped old.lists goes.task old.held) is)

    abbrev own_turn : (progress : Progress) (first : First) (e : History) → goes.progress ≡ progress → IsOfTask progress → DeviceStands old first e → Turn
    own_turn progress first e is own at = turn_of ready goes first e (subst IsOfTask (sym is) own) at

    goes_stands : (progress : Progress) (first : First) (e : History) → goes.progress ≡ progress
        → Advances (limits_of old.shape) old.store new.store old.held new.held goes.task progress out
        → Leaves progress (told_in goes) goes.others new.tasks new.held result out → DeviceStands old first e → DeviceStands new first (told result out e)
    goes_stands (Silent (Collected moved) rest) first e is advances leaves at = rw (leaves.1) (moved_stands old new moved out first e (moved_is moved rest is advances leaves) at)
    goes_stands (Silent Missed rest) first e is advances leaves at = steps (told_in goes) (told_short old new result out goes) (own_turn (Silent Missed rest) first e is tt at) (Silent Missed rest)
        result out tt advances leaves
    goes_stands (Silent Programmed rest) first e is advances leaves at = steps (told_in goes) (told_short old new result out goes) (own_turn (Silent Programmed rest) first e is tt at)
        (Silent Programmed rest) result out tt advances leaves
    goes_stands (Sends what rest) first e is advances leaves at = steps (told_in goes) (told_short old new result out goes) (own_turn (Sends what rest) first e is tt at) (Sends what rest) result out
        tt advances leaves
    goes_stands (Ended reply) first e is advances leaves at = steps (told_in goes) (told_short old new result out goes) (own_turn (Ended reply) first e is tt at) (Ended reply) result out tt advances
        leaves
    goes_stands (Failed what reply) first e is advances leaves at = steps (told_in goes) (told_short old new result out goes) (own_turn (Failed what reply) first e is tt at) (Failed what reply) result
        out tt advances leaves

    goes_entries : (progress : Progress) (first : First) (e : History) → goes.progress ≡ progress
        → Advances (limits_of old.shape) old.store new.store old.held new.held goes.task progress out
        → ServesEntry (next_entry old.lists goes.task) old.store goes.task progress → new.lists ≡ lists_stepped old.lists goes.task old.held progress
        → Leaves progress (told_in goes) goes.others new.tasks new.held result out → DeviceStands old first e → EntriesStand old e → EntriesStand new (told result out e)
    goes_entries (Silent (Collected moved) rest) first e is advances serves lists leaves at stand =
        rw (leaves.1) (moved_entries old new moved out e (moved_is moved rest is advances leaves) stand)
    goes_entries (Silent Missed rest) first e is advances serves lists leaves at stand =
        stepped_entries (told_in goes) (own_turn (Silent Missed rest) first e is tt at) (Silent Missed rest) result out tt advances serves lists leaves stand
    goes_entries (Silent Programmed rest) first e is advances serves lists leaves at stand =
        stepped_entries (told_in goes) (own_turn (Silent Programmed rest) first e is tt at) (Silent Programmed rest) result out tt advances serves lists leaves stand
    goes_entries (Sends what rest) first e is advances serves lists leaves at stand =
        stepped_entries (told_in goes) (own_turn (Sends what rest) first e is tt at) (Sends what rest) result out tt advances serves lists leaves stand
    goes_entries (Ended reply) first e is advances serves lists leaves at stand =
        stepped_entries (told_in goes) (own_turn (Ended reply) first e is tt at) (Ended reply) result out tt advances serves lists leaves stand
    goes_entries (Failed what reply) first e is advances serves lists leaves at stand =
        stepped_entries (told_in goes) (own_turn (Failed what reply) first e is tt at) (Failed what reply) result out tt advances serves lists leaves stand

    goes_listings : (had : Place → Bool) (pages : ℕ) (progress : Progress) (first : First) (e : History) → goes.progress ≡ progress
        → Advances (limits_of old.shape) old.store new.store old.held new.held goes.task progress out
        → Leaves progress (told_in goes) goes.others new.tasks new.held result out → DeviceStands old first e → ListingStands had pages old e
        → ListingStands had pages new (told result out e)
    goes_listings had pages (Silent (Collected moved) rest) first e is advances leaves at stand =
        rw (leaves.1) (moved_listings old new moved out had pages e (moved_is moved rest is advances leaves) stand)
    goes_listings had pages (Silent Missed rest) first e is advances leaves at stand =
        stepped_listings (told_in goes) had pages (own_turn (Silent Missed rest) first e is tt at) (Silent Missed rest) result out tt advances leaves stand
    goes_listings had pages (Silent Programmed rest) first e is advances leaves at stand =
        stepped_listings (told_in goes) had pages (own_turn (Silent Programmed rest) first e is tt at) (Silent Programmed rest) result out tt advances leaves stand
    goes_listings had pages (Sends what rest) first e is advances leaves at stand =
        stepped_listings (told_in goes) had pages (own_turn (Sends what rest) first e is tt at) (Sends what rest) result out tt advances leaves stand
    goes_listings had pages (Ended reply) first e is advances leaves at stand =
        stepped_listings (told_in goes) had pages (own_turn (Ended reply) first e is tt at) (Ended reply) result out tt advances leaves stand
    goes_listings had pages (Failed what reply) first e is advances leaves at stand =
        stepped_listings (told_in goes) had pages (own_turn (Failed what reply) first e is tt at) (Failed what reply) result out tt advances leaves stand

  -- by what is known of the chip
  pub steps_stands : (phase : Phase) (first : First) (e : History) → old.store.phase ≡ phase → StepsIn phase old new result out → DeviceStands old first e
      → DeviceStands new first (told result out e)
  steps_stands Scanning first e is makes at =
      scans_stands old new (unready_of old well (not_scanning old.store.phase is)) (scans_still old new result out shape makes) result out first e makes at
  steps_stands Ready first e is goes at = goes_stands is goes goes.progress first e refl goes.advances goes.leaves at
  steps_stands Foreign first e is refuses at = absurd (well.standing.foreign is at.sound)

  pub steps_entries : (phase : Phase) (first : First) (e : History) → old.store.phase ≡ phase → StepsIn phase old new result out → DeviceStands old first e → EntriesStand old e
      → EntriesStand new (told result out e)
  steps_entries Scanning first e is makes at stand =
      scans_entries old new (unready_of old well (not_scanning old.store.phase is)) (scans_still old new result out shape makes) result out first e makes at stand
  steps_entries Ready first e is goes at stand = goes_entries is goes goes.progress first e refl goes.advances goes.entries goes.lists goes.leaves at stand
  steps_entries Foreign first e is refuses at stand = absurd (well.standing.foreign is at.sound)

  pub steps_listings : (had : Place → Bool) (pages : ℕ) (phase : Phase) (first : First) (e : History) → old.store.phase ≡ phase → StepsIn phase old new result out → DeviceStands old first e
      → ListingStands had pages old e → ListingStands had pages new (told result out e)
  steps_listings had pages Scanning first e is makes at stand =
      scans_listings old new (unready_of old well (not_scanning old.store.phase is)) (scans_still old new result out shape makes) had pages result out first e makes at stand
  steps_listings had pages Ready first e is goes at stand = goes_listings is goes had pages goes.progress first e refl goes.advances goes.leaves at stand
  steps_listings had pages Foreign first e is refuses at stand = absurd (well.standing.foreign is at.sound)

  pub steps_foreign : (chip : List Page) (phase : Phase) (first : First) (e : History) → old.store.phase ≡ phase → StepsIn phase old new result out → DeviceStandsForeign old chip first e
      → DeviceStandsForeign new chip first (told result out e)
  steps_foreign chip Scanning first e is makes at =
      scans_foreign old new (unready_of old well (not_scanning old.store.phase is)) (scans_still old new result out shape makes) chip result out first e makes at
  steps_foreign chip Ready first e is goes at = absurd (at.unsound (well.standing.ready is).sound)
  steps_foreign chip Foreign first e is refuses at =
      refuses_foreign old new (unready_of old well (not_foreign old.store.phase is)) (refuses_still old new result out shape refuses) chip result out first e refuses at

-- a step that is idle changes nothing and tells nothing, and another one leaves what it leaves
pub idle_or : (Q : DeviceState → History → Type 0) (P : Type 0) (old new : DeviceState) (result : Stepped) (out : List ℕ) (e : History) → (IsTrue result.idle → result ≡ at_rest)
    → (IsTrue result.idle → new ≡ old) → (P → Q old e → Q new (told result out e)) → OnFalse result.idle P → Q old e → Q new (told result out e)
idle_or Q P old new result out e nothing unchanged leads on at = by_idle result.idle refl on
  where
    by_idle : (b : Bool) → result.idle ≡ b → OnFalse b P → Q new (told result out e)
    by_idle false is p = leads p at
    by_idle true is p =
        let idle : IsTrue result.idle = rw is refl in
        rw (nothing idle) (subst (λ (d : DeviceState). Q d e) (sym (unchanged idle)) at)
