-- A step of a device whose chip isn't ready: a page of the scan is read, or the first task ends.
use Rattle.std.proofs.Common.{◌≡◌, ℕ, ◌-◌, ◌*◌, ◌≤◌, Bool, true, List, [], ◌∷◌, length, map, Some, None, refl, sym, ◌∙◌, ap, subst, arith, inl, inr}
use Rattle.std.specs.List.{AllByRecursion}
use Rattle.flash_pages.specs.declared.chip.ChipOp.TheVariants.{Read as ReadCall}
use Rattle.flash_pages.specs.declared.chip.Geometry.{Geometry}
use Rattle.flash_pages.specs.Chip.{Page}
use Rattle.flash_pages.specs.Place.{Place}
use Rattle.flash_pages.specs.Sound.{ChipOk}
use Rattle.collector_laws.specs.CollectStep.{CollectState}
use Rattle.flash_store.specs.Store.{StoreState}
use Rattle.flat_unit.specs.declared.event.Event.TheVariants.{Device, Failed as CallFailed}
use Rattle.flat_unit.specs.History.{History, ◌▹◌, followed_by}
use Rattle.flat_unit.specs.Replays.{events_of}
use Rattle.flat_unit.specs.Sends.{Check as CheckAnswer, upiu_of}
use Rattle.flat_unit.specs.Senses.{chip_failed}
use Rattle.flat_unit.specs.Sizes.{Sizes}
use Rattle.flat_unit.specs.Stands.{First, Kept, StandsForeign}
use Rattle.flat_unit.specs.Task.{Task as Waiting}
use Rattle.flat_unit.proofs.standing.Foreign.{foreign_as, foreign_ended, foreign_failed, may_end_failed}
use Rattle.flat_unit.proofs.standing.Sending.{with_tasks}
use Rattle.flat_unit.proofs.standing.OneCall.{cause_chip, stands_failed}
use Rattle.hpb_sense.specs.Sense.{fixed_out}
use Rattle.upiu_wire.specs.Upiu.{upiu_out}
use Rattle.upiu_wire.specs.Written.{response_upiu}
use Rattle.hpb_device.specs.declared.counts.Counts.{Counts}
use Rattle.hpb_device.specs.declared.device.Stepped.{Stepped}
use Rattle.hpb_device.specs.declared.reply.Cause.TheVariants.{ChipFailed}
use Rattle.hpb_device.specs.declared.task.Task.{Task}
use Rattle.hpb_device.specs.Advance.{IsSameStore, check}
use Rattle.hpb_device.specs.Calls.{EndsUnread, Refuses, Scans}
use Rattle.hpb_device.specs.Entries.{EntriesStand}
use Rattle.hpb_device.specs.Keeps.{KeepsTasks, waiting_of}
use Rattle.hpb_device.specs.Limits.{limits_of}
use Rattle.hpb_device.specs.Lists.{lists_unread}
use Rattle.hpb_device.specs.Listed.{ListingStands}
use Rattle.hpb_device.specs.Reply.{reply_upiu}
use Rattle.hpb_device.specs.Standing.{DeviceStands, DeviceStandsForeign, group_of, kept_of, programmed_of, sizes_of}
use Rattle.hpb_device.specs.State.{DeviceState, IsSound}
use Rattle.hpb_device.specs.Task.{IsWaiting}
use Rattle.hpb_device.proofs.Entries.{ended_entries, entries_now, honoured_stays, reply_lists_none, same_lists_none, tried_stays}
use Rattle.hpb_device.proofs.Listings.{call_failed_listings, cut_listings, listings_now}
use Rattle.hpb_device.proofs.StepStands.{Turn, at_head, first_is, flat, head_in, keeps_waiting, kept_same, others_in, sizes_same, stands_now, steps_cut}

-- what is known of a device whose chip isn't ready: nothing is done yet for any task
pub record IsUnready (d : DeviceState) : Type 0 where
  pub units : d.store.units ≡ d.shape.units
  pub waiting : AllByRecursion (IsWaiting d.store.luns (limits_of d.shape)) d.tasks
  pub few : length d.store.pages ≤ 65536
  pub whole : length d.store.pages ≡ d.store.geometry.blocks * d.store.geometry.pages
  pub held : d.held ≡ []

-- the chip is as it was, and no data are held
pub record IsStill (old new : DeviceState) : Type 0 where
  pub same : IsSameStore old.store new.store
  pub pages : new.store.pages ≡ old.store.pages
  pub shape : new.shape ≡ old.shape
  pub held : new.held ≡ []
  pub erased : new.counts.erased ≡ old.counts.erased

record Chip : Type 0 where
  geometry : Geometry
  luns : ℕ
  units : ℕ
  pages : List Page

pub sound_along : (old new : DeviceState) → IsSameStore old.store new.store → new.store.pages ≡ old.store.pages → IsSound old → IsSound new
sound_along old new same pages sound =
    let was : Chip = record { geometry = old.store.geometry; luns = old.store.luns; units = old.store.units; pages = old.store.pages } in
    let now : Chip = record { geometry = new.store.geometry; luns = new.store.luns; units = new.store.units; pages = new.store.pages } in
    let is : was ≡ now = λ i. record { geometry = sym same.geometry i; luns = sym same.luns i; units = sym same.units i; pages = sym pages i } in
    subst (λ (c : Chip). ChipOk c.geometry c.luns c.units c.pages) is sound

back : (old new : DeviceState) → IsSameStore old.store new.store → IsSameStore new.store old.store
back old new same = record { geometry = sym same.geometry; luns = sym same.luns; units = sym same.units }

pub unsound_along : (old new : DeviceState) → IsSameStore old.store new.store → new.store.pages ≡ old.store.pages → ¬ IsSound old → ¬ IsSound new
unsound_along old new same pages unsound sound = unsound (sound_along new old (back old new same) (sym pages) sound)

-- the events of a step
abbrev told : Stepped → List ℕ → History → History
told result out e = followed_by e (events_of (group_of result out))

module _ (old new : DeviceState) (was : IsUnready old) (is : IsStill old new) where
  keeps_same : (tasks : List Waiting) → new.tasks ≡ old.tasks → KeepsTasks old.tasks old.held tasks → KeepsTasks new.tasks new.held tasks
  keeps_same tasks same keeps =
      subst (λ (ts : List Task). KeepsTasks ts new.held tasks) (sym same)
      (subst (λ (h : List ℕ). KeepsTasks old.tasks h tasks) (was.held ∙ sym is.held) keeps)

  -- the tasks are as they were
  still_stands : (first : First) (e : History) → new.tasks ≡ old.tasks → DeviceStands old first e → DeviceStands new first e
  still_stands first e same at =
      stands_now (sizes_of old) (kept_of at.erases old at.tasks) new at.erases at.tasks first e (sizes_same old new is.same is.shape)
      (kept_same old new at.erases at.tasks (programmed_of old.tasks) is.same is.pages (sym (ap programmed_of same)))
      (keeps_same at.tasks same at.keeps) (is.erased ∙ at.counted) (sound_along old new is.same is.pages at.sound) at.stands

  still_entries : (e : History) → new.tasks ≡ old.tasks → new.lists ≡ old.lists → EntriesStand old e → EntriesStand new e
  still_entries e same lists stand = entries_now old new e is.same is.shape (rw (is.pages) (stand.fresh)) (rw (lists, same) (stand.tried))

  still_listings : (had : Place → Bool) (pages : ℕ) (e : History) → new.tasks ≡ old.tasks → ListingStands had pages old e → ListingStands had pages new e
  still_listings had pages e same stand =
      listings_now had pages old new e is.same is.shape stand.whole
      (record {
        there = λ p place one. rw (is.pages) (stand.pages_there.there p place (rw (sym same) one));
        absent = λ p place none. rw (is.pages) (stand.pages_there.absent p place none);
      })
      stand.told

  -- what a device over a foreign chip keeps
  foreign_now : (chip : List Page) (tasks : List Waiting) (kept : Kept) (first : First) (e : History) → kept.tasks ≡ tasks → kept.on ≡ true → KeepsTasks new.tasks new.held tasks
      → old.store.pages ≡ chip
      → ¬ IsSound old → StandsForeign (sizes_of old) first kept e → DeviceStandsForeign new chip first e
  foreign_now chip tasks kept first e same on keeps stays unsound at = record {
    tasks = tasks;
    keeps = keeps;
    stays = is.pages ∙ stays;
    unsound = unsound_along old new is.same is.pages unsound;
    stands = subst (λ (sizes : Sizes). StandsForeign sizes first (kept_of 0 new tasks) e) (sizes_same old new is.same is.shape)
        (foreign_as (sizes_of old) first kept (kept_of 0 new tasks) e (sym same) (sym on) at);
  }

  still_foreign : (chip : List Page) (first : First) (e : History) → new.tasks ≡ old.tasks → DeviceStandsForeign old chip first e → DeviceStandsForeign new chip first e
  still_foreign chip first e same at = foreign_now chip at.tasks (kept_of 0 old at.tasks) first e refl refl (keeps_same at.tasks same at.keeps) at.stays at.unsound at.stands

  -- the first task ends
  abbrev turn_of : (task : Task) (others : List Task) (first : First) (e : History) → old.tasks ≡ task ∷ others → DeviceStands old first e → Turn
  turn_of task others first e head at =
      let waits = subst (AllByRecursion (IsWaiting old.store.luns (limits_of old.shape))) head was.waiting in
      record {
        old = old;
        new = new;
        task = task;
        others = others;
        first = first;
        history = e;
        was = head;
        at = at;
        ready = record {
          ok = waits.0.ok;
          units = was.units;
          goes = waits.0.none_come ∙ sym waits.0.none_asked;
          part = subst (λ (h : List ℕ). length h ≤ task.come) (sym was.held) (omega arith);
          only = first_is old.tasks old.held at.tasks task others head at.keeps;
          waiting = waits.1;
        };
        few = was.few;
        whole = was.whole;
        same = is.same;
        shape = is.shape;
        erased = is.erased;
        sound = sound_along old new is.same is.pages at.sound;
      }

  end_stands : (task : Task) (others : List Task) (out : List ℕ) (first : First) (e : History) → old.tasks ≡ task ∷ others → new.tasks ≡ others
      → out ≡ upiu_out (reply_upiu (check task ChipFailed)) → DeviceStands old first e → DeviceStands new first (e ▹ CallFailed ReadCall ▹ Device out)
  end_stands task others out first e head left sent at =
      let turn = turn_of task others first e head at in
      let s = sizes_of old in
      let standing = stands_failed s first (kept_of at.erases old (head_in turn ∷ others_in turn)) e ReadCall (at_head turn) in
      steps_cut turn (e ▹ CallFailed ReadCall) ChipFailed chip_failed out refl (may_end_failed task.command) (cause_chip s ⊥ first.next e) sent (left, is.held) is.pages standing

  end_entries : (task : Task) (others : List Task) (out : List ℕ) (first : First) (e : History) → old.tasks ≡ task ∷ others → new.tasks ≡ others
      → out ≡ upiu_out (reply_upiu (check task ChipFailed)) → DeviceStands old first e → EntriesStand old e → EntriesStand new (e ▹ CallFailed ReadCall ▹ Device out)
  end_entries task others out first e head left sent at stand =
      ended_entries (turn_of task others first e head at) out (e ▹ CallFailed ReadCall)
      (same_lists_none (sizes_of old) (e ▹ CallFailed ReadCall) out _ sent (reply_lists_none (sizes_of old) (e ▹ CallFailed ReadCall) (check task ChipFailed))) is.pages left
      (honoured_stays (sizes_of old) old.store.pages e (CallFailed ReadCall) (λ p. refl) stand.fresh)

  end_listings : (had : Place → Bool) (pages : ℕ) (task : Task) (others : List Task) (out : List ℕ) (first : First) (e : History) → old.tasks ≡ task ∷ others → new.tasks ≡ others
      → out ≡ upiu_out (reply_upiu (check task ChipFailed)) → DeviceStands old first e → ListingStands had pages old e
      → ListingStands had pages new (e ▹ CallFailed ReadCall ▹ Device out)
  end_listings had pages task others out first e head left sent at stand =
      cut_listings had pages (turn_of task others first e head at) task.lun task.tag _ ChipFailed out (e ▹ CallFailed ReadCall) sent left is.pages
      (call_failed_listings had pages old e ReadCall stand)

  end_foreign : (chip : List Page) (task : Task) (others : List Task) (out : List ℕ) (first : First) (e : History) (tasks : List Waiting) → old.tasks ≡ task ∷ others → new.tasks ≡ others
      → out ≡ upiu_out (reply_upiu (check task ChipFailed)) → KeepsTasks old.tasks old.held tasks → old.store.pages ≡ chip → ¬ IsSound old
      → StandsForeign (sizes_of old) first (kept_of 0 old tasks) e → DeviceStandsForeign new chip first (e ▹ Device out)
  end_foreign chip task others out first e tasks head left sent keeps stays unsound at =
      let s = sizes_of old in
      let only = first_is old.tasks old.held tasks task others head keeps in
      let waits = subst (AllByRecursion (IsWaiting old.store.luns (limits_of old.shape))) head was.waiting in
      let t = flat task only.come in
      let ws = map waiting_of others in
      let kept = kept_of 0 old (t ∷ ws) in
      let standing = subst (λ (ts : List Waiting). StandsForeign s first (kept_of 0 old ts) e) only.first at in
      let ended = foreign_ended s first kept e t ws waits.0.ok.accepted.expected_fits standing in
      let is_out : out ≡ upiu_out (upiu_of s t (CheckAnswer chip_failed)) =
      sent ∙ ap (λ (n : ℕ). upiu_out (response_upiu task.lun task.tag 0x02 (task.expected - task.sent - n) (fixed_out chip_failed))) (sym only.counted) in
      let left_keeps : KeepsTasks new.tasks new.held ws =
      subst (λ (ts : List Task). KeepsTasks ts new.held ws) (sym left)
      (subst (λ (h : List ℕ). KeepsTasks others h ws) (sym is.held) (keeps_waiting old.store.luns (limits_of old.shape) others waits.1)) in
      foreign_now chip ws (with_tasks ws kept) first (e ▹ Device out) refl refl left_keeps stays unsound
      (subst (λ (b : List ℕ). StandsForeign s first (with_tasks ws kept) (e ▹ Device b)) (sym is_out) ended)

  -- the chip failed to read a page of the scan
  failed_stands : (tasks : List Task) (result : Stepped) (out : List ℕ) (first : First) (e : History) → old.tasks ≡ tasks → EndsUnread (Some ReadCall) tasks new.tasks result out
      → DeviceStands old first e → DeviceStands new first (told result out e)
  failed_stands [] result out first e head ends at =
      let failed : DeviceStands old first (e ▹ CallFailed ReadCall) = record {
        tasks = at.tasks;
        erases = at.erases;
        keeps = at.keeps;
        counted = at.counted;
        sound = at.sound;
        stands = stands_failed (sizes_of old) first (kept_of at.erases old at.tasks) e ReadCall at.stands;
      } in
      rw (ends.1) (still_stands first (e ▹ CallFailed ReadCall) (ends.0 ∙ sym head) failed)
  failed_stands (task ∷ others) result out first e head ends at = rw (ends.1) (end_stands task others out first e head ends.0 ends.2 at)

  failed_entries : (tasks : List Task) (result : Stepped) (out : List ℕ) (first : First) (e : History) → old.tasks ≡ tasks → EndsUnread (Some ReadCall) tasks new.tasks result out
      → new.lists ≡ lists_unread old.lists tasks → DeviceStands old first e → EntriesStand old e → EntriesStand new (told result out e)
  failed_entries [] result out first e head ends lists at stand =
      rw (ends.1) (still_entries (e ▹ CallFailed ReadCall) (ends.0 ∙ sym head) lists (record {
        fresh = honoured_stays (sizes_of old) old.store.pages e (CallFailed ReadCall) (λ p. refl) stand.fresh;
        tried = tried_stays (sizes_of old) e (CallFailed ReadCall) old.lists old.tasks (λ p. refl) stand.tried;
      }))
  failed_entries (task ∷ others) result out first e head ends lists at stand = rw (ends.1) (end_entries task others out first e head ends.0 ends.2 at stand)

  failed_listings : (had : Place → Bool) (pages : ℕ) (tasks : List Task) (result : Stepped) (out : List ℕ) (first : First) (e : History) → old.tasks ≡ tasks
      → EndsUnread (Some ReadCall) tasks new.tasks result out
      → DeviceStands old first e → ListingStands had pages old e → ListingStands had pages new (told result out e)
  failed_listings had pages [] result out first e head ends at stand =
      rw (ends.1) (still_listings had pages (e ▹ CallFailed ReadCall) (ends.0 ∙ sym head) (call_failed_listings had pages old e ReadCall stand))
  failed_listings had pages (task ∷ others) result out first e head ends at stand = rw (ends.1) (end_listings had pages task others out first e head ends.0 ends.2 at stand)

  failed_foreign : (chip : List Page) (tasks : List Task) (result : Stepped) (out : List ℕ) (first : First) (e : History) → old.tasks ≡ tasks
      → EndsUnread (Some ReadCall) tasks new.tasks result out
      → DeviceStandsForeign old chip first e → DeviceStandsForeign new chip first (told result out e)
  failed_foreign chip [] result out first e head ends at =
      let failed : DeviceStandsForeign old chip first (e ▹ CallFailed ReadCall) = record {
        tasks = at.tasks;
        keeps = at.keeps;
        stays = at.stays;
        unsound = at.unsound;
        stands = foreign_failed (sizes_of old) first (kept_of 0 old at.tasks) e ReadCall at.stands;
      } in
      rw (ends.1) (still_foreign chip first (e ▹ CallFailed ReadCall) (ends.0 ∙ sym head) failed)
  failed_foreign chip (task ∷ others) result out first e head ends at =
      rw (ends.1) (end_foreign chip task others out first (e ▹ CallFailed ReadCall) at.tasks head ends.0 ends.2 at.keeps at.stays at.unsound
      (foreign_failed (sizes_of old) first (kept_of 0 old at.tasks) e ReadCall at.stands))

  -- the first task ends on a foreign chip
  refused_foreign : (chip : List Page) (tasks : List Task) (result : Stepped) (out : List ℕ) (first : First) (e : History) → old.tasks ≡ tasks → EndsUnread None tasks new.tasks result out
      → DeviceStandsForeign old chip first e → DeviceStandsForeign new chip first (told result out e)
  refused_foreign chip [] result out first e head ends at = rw (ends.1) (still_foreign chip first e (ends.0 ∙ sym head) at)
  refused_foreign chip (task ∷ others) result out first e head ends at =
      rw (ends.1) (end_foreign chip task others out first e at.tasks head ends.0 ends.2 at.keeps at.stays at.unsound at.stands)

  -- a step of the scan
  pub scans_stands : (result : Stepped) (out : List ℕ) (first : First) (e : History) → Scans old new result out → DeviceStands old first e → DeviceStands new first (told result out e)
  scans_stands result out first e scans at = elim scans.outcome [
    | inl reads ↦ rw (reads.result_is) (still_stands first e reads.tasks at)
    | inr misses ↦ failed_stands old.tasks result out first e refl misses.ends at
  ]

  pub scans_entries : (result : Stepped) (out : List ℕ) (first : First) (e : History) → Scans old new result out → DeviceStands old first e → EntriesStand old e
      → EntriesStand new (told result out e)
  scans_entries result out first e scans at stand = elim scans.outcome [
    | inl reads ↦ rw (reads.result_is) (still_entries e reads.tasks reads.lists stand)
    | inr misses ↦ failed_entries old.tasks result out first e refl misses.ends misses.lists at stand
  ]

  pub scans_listings : (had : Place → Bool) (pages : ℕ) (result : Stepped) (out : List ℕ) (first : First) (e : History) → Scans old new result out → DeviceStands old first e
      → ListingStands had pages old e → ListingStands had pages new (told result out e)
  scans_listings had pages result out first e scans at stand = elim scans.outcome [
    | inl reads ↦ rw (reads.result_is) (still_listings had pages e reads.tasks stand)
    | inr misses ↦ failed_listings had pages old.tasks result out first e refl misses.ends at stand
  ]

  pub scans_foreign : (chip : List Page) (result : Stepped) (out : List ℕ) (first : First) (e : History) → Scans old new result out → DeviceStandsForeign old chip first e
      → DeviceStandsForeign new chip first (told result out e)
  scans_foreign chip result out first e scans at = elim scans.outcome [
    | inl reads ↦ rw (reads.result_is) (still_foreign chip first e reads.tasks at)
    | inr misses ↦ failed_foreign chip old.tasks result out first e refl misses.ends at
  ]

  pub refuses_foreign : (chip : List Page) (result : Stepped) (out : List ℕ) (first : First) (e : History) → Refuses old new result out → DeviceStandsForeign old chip first e
      → DeviceStandsForeign new chip first (told result out e)
  refuses_foreign chip result out first e refuses at = refused_foreign chip old.tasks result out first e refl refuses.ends at

-- a step that scans, or that ends a task on a foreign chip, leaves the chip as it was
pub scans_still : (old new : DeviceState) (result : Stepped) (out : List ℕ) → new.shape ≡ old.shape → Scans old new result out → IsStill old new
scans_still old new result out shape scans = record {
  same = scans.same;
  pages = ap (λ (s : CollectState). s.chip) scans.kept;
  shape = shape;
  held = scans.held;
  erased = ap (λ (c : Counts). c.erased) scans.counts;
}

pub refuses_still : (old new : DeviceState) (result : Stepped) (out : List ℕ) → new.shape ≡ old.shape → Refuses old new result out → IsStill old new
refuses_still old new result out shape refuses = record {
  same = record {
    geometry = ap (λ (z : StoreState). z.geometry) refuses.store;
    luns = ap (λ (z : StoreState). z.luns) refuses.store;
    units = ap (λ (z : StoreState). z.units) refuses.store;
  };
  pages = ap (λ (z : StoreState). z.pages) refuses.store;
  shape = shape;
  held = refuses.held;
  erased = ap (λ (c : Counts). c.erased) refuses.counts;
}
