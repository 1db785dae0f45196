-- What UPIUs of the host and resets lead to.
use Rattle.std.proofs.Common.{◌≡◌, ℕ, ◌*◌, ◌≤◌, Bool, true, false, ◌&&◌, List, length, refl, sym, ◌∙◌, ap, subst, arith, inl, inr}
use Rattle.std.proofs.lemmas.Bool.{false≢true}
use Rattle.flash_pages.specs.Chip.{Page}
use Rattle.flash_pages.specs.Place.{Place}
use Rattle.flat_unit.specs.declared.event.Event.TheVariants.{Host, Reset}
use Rattle.flat_unit.specs.Causes.{failures}
use Rattle.flat_unit.specs.History.{History, ◌▹◌, followed_by}
use Rattle.flat_unit.specs.Queue.{on_after, tasks_after}
use Rattle.flat_unit.specs.Replays.{Progress, keeps_head, received, reset, tasks_at, told}
use Rattle.flat_unit.specs.Sizes.{Sizes}
use Rattle.flat_unit.specs.Sound.{answers_to, owed}
use Rattle.flat_unit.specs.Stands.{First}
use Rattle.flat_unit.specs.Task.{Task}
use Rattle.hex.specs.Hex.{IsBytes}
use Rattle.hpb_device.specs.declared.device.Sent.{Sent}
use Rattle.hpb_device.specs.declared.device.Sent.TheVariants.{Nothing, Upiu as UpiuSent}
use Rattle.hpb_device.specs.Calls.{Receives, reset_of}
use Rattle.hpb_device.specs.Counted.{CountsStand}
use Rattle.hpb_device.specs.Entries.{EntriesStand}
use Rattle.hpb_device.specs.Lists.{ListsStand}
use Rattle.hpb_device.specs.Regions.{HintsStand, KeepsHistory}
use Rattle.replay_standing.proofs.Counts.{reset_alone, received_alone, answered_alone}
use Rattle.hpb_device.specs.Keeps.{KeepsTasks}
use Rattle.hpb_device.specs.Listed.{ListingStands}
use Rattle.hpb_device.specs.Standing.{DeviceStands, DeviceStandsForeign, answer_events, first_of, sizes_of}
use Rattle.hpb_device.specs.State.{DeviceState}
use Rattle.hpb_device.specs.Task.{WasSilent}
use Rattle.hpb_device.proofs.Silence.{received_was_silent}
use Rattle.replay_standing.specs.Standing.{OwnStanding, Standing, pages_in}
use Rattle.replay_standing.specs.Transcript.{IsUnready, SendsUnready, has_page}
use Rattle.replay_standing.proofs.Plain.{IsPlainUpiu, plain_reset, plain_host, plain_answer}
use Rattle.replay_standing.proofs.Standing.{tracked, keeps_history}
use Rattle.flat_unit.specs.declared.event.Event.{Event}
use Rattle.hpb_device.specs.Limits.{limits_of}
use Rattle.hpb_device.specs.Sizes.{sizes}
use Rattle.flash_store.specs.Store.{StoreState}
use Rattle.flat_unit.specs.Counts.{sends}

-- what `receive` says of a device
pub record Received (old new : DeviceState) (bytes out : List ℕ) (sent : Sent) : Type 0 where
  pub stands : (first : First) (e : History) → DeviceStands old first e → DeviceStands new first (followed_by (e ▹ Host bytes) (answer_events sent out))
  pub foreign : (chip : List Page) (first : First) (e : History) → DeviceStandsForeign old chip first e
      → DeviceStandsForeign new chip first (followed_by (e ▹ Host bytes) (answer_events sent out))
  pub answers : (tasks : List Task) → KeepsTasks old.tasks old.held tasks → answers_to (sizes_of old) true tasks bytes ≡ answer_events sent out
  pub store : new.store ≡ old.store
  pub shape : new.shape ≡ old.shape
  pub counts : new.counts ≡ old.counts
  pub receives : Receives old new bytes sent out
  pub entries : (e : History) → EntriesStand old e → EntriesStand new (followed_by (e ▹ Host bytes) (answer_events sent out))
  pub listings : (had : Place → Bool) (pages : ℕ) (first : First) (e : History) → DeviceStands old first e → ListingStands had pages old e
      → ListingStands had pages new (followed_by (e ▹ Host bytes) (answer_events sent out))
  pub counted : (first : First) (e : History) → DeviceStands old first e → CountsStand old e → CountsStand new (followed_by (e ▹ Host bytes) (answer_events sent out))
  pub hints : (e : History) → KeepsHistory old e → HintsStand old e → HintsStand new (followed_by (e ▹ Host bytes) (answer_events sent out))
  pub fetched : (e : History) → KeepsHistory old e → ListsStand old e → ListsStand new (followed_by (e ▹ Host bytes) (answer_events sent out))
  pub bytes_are : IsBytes bytes
  pub few : length bytes ≤ 65568
  pub room : sent ≡ UpiuSent → IsBytes out × (length out ≤ 4128)

same_sizes : (old new : DeviceState) → new.store ≡ old.store → new.shape ≡ old.shape → sizes_of new ≡ sizes_of old
same_sizes old new store shape = λ i. Rattle.hpb_device.specs.Sizes.sizes (store i).luns (Rattle.hpb_device.specs.Limits.limits_of (shape i)) (store i).geometry

-- what the history says answers the bytes is what the device sends
pub answers_of : (start old new : DeviceState) (bytes out : List ℕ) (sent : Sent) (p : Progress) → Standing start old p → Received old new bytes out sent
    → answers_to (sizes_of start) (on_after p.events) (tasks_at (sizes_of start) p) bytes ≡ answer_events sent out
answers_of start old new bytes out sent p at received =
    let t = tracked start old p at in
    ap (λ (on : Bool). answers_to (sizes_of start) on (tasks_at (sizes_of start) p) bytes) t.on
    ∙ (ap (λ (ts : List Task). answers_to (sizes_of start) true ts bytes) t.kept
    ∙ subst (λ (s : Sizes). answers_to s true t.tasks bytes ≡ answer_events sent out) at.sizes (received.answers t.tasks t.keeps))

-- what the device sends at once is plain
answer_upiu : (start old new : DeviceState) (bytes out : List ℕ) (sent : Sent) (p : Progress) → Standing start old p → Received old new bytes out sent → sent ≡ UpiuSent → IsPlainUpiu out
answer_upiu start old new bytes out sent p at received sends =
    record { bytes_are = (received.room sends).0; short = (received.room sends).1 }

answers_fail_nothing : (e : History) (sent : Sent) (out : List ℕ) → failures (followed_by e (answer_events sent out)) ≡ failures e
answers_fail_nothing e Nothing out = refl
answers_fail_nothing e UpiuSent out = refl

-- an answer is owed
owed_answer : (s : Sizes) (e : History) (sent : Sent) (out : List ℕ) → owed s e ≡ answer_events sent out → SendsUnready s e → SendsUnready s (followed_by e (answer_events sent out))
owed_answer s e Nothing out owes so_far = so_far
owed_answer s e UpiuSent out owes so_far = (so_far, subst (IsUnready out) (sym owes) tt)

-- where the first task is the one that it was before the bytes came, it has been silent as before
told_tried : (start old new : DeviceState) (bytes out : List ℕ) (sent : Sent) (p : Progress) → (at : Standing start old p) → (own : OwnStanding start old p) → (got : Received old new bytes out sent)
    → told (sizes_of start) p bytes ≡ followed_by (p.events ▹ Host bytes) (answer_events sent out)
    → (received (sizes_of start) p bytes).tried ≡ true → WasSilent new.tasks
told_tried start old new bytes out sent p at own got events is =
    let now = got.stands (first_of start) p.events own.stands in
    let sized = same_sizes old new got.store got.shape ∙ at.sizes in
    let tasks_now : tasks_after (sizes_of start) (told (sizes_of start) p bytes) ≡ now.tasks =
    ap (tasks_after (sizes_of start)) events ∙ subst (λ (s : Sizes). tasks_after s (followed_by (p.events ▹ Host bytes) (answer_events sent out)) ≡ now.tasks) sized now.stands.keeps in
    let before : tasks_at (sizes_of start) p ≡ own.stands.tasks = subst (λ (s : Sizes). tasks_after s p.events ≡ own.stands.tasks) at.sizes own.stands.stands.keeps in
    let both = both_hold p.tried (keeps_head (tasks_at (sizes_of start) p) (tasks_after (sizes_of start) (told (sizes_of start) p bytes))) is in
    let same : keeps_head own.stands.tasks now.tasks ≡ true = sym (λ i. keeps_head (before i) (tasks_now i)) ∙ both.1 in
    received_was_silent old new bytes sent out (first_of start) p.events now.tasks own.stands now.keeps got.receives same (own.tried both.0)
  where
    both_hold : (a b : Bool) → (a && b) ≡ true → (a ≡ true) × (b ≡ true)
    both_hold true b is = (refl, is)
    both_hold false b is = absurd (false≢true is)

still_untried : (a b : Bool) → a ≡ false → (a && b) ≡ false
still_untried false b is = refl
still_untried true b is = absurd (false≢true (sym is))

-- the history after the bytes
pub told_events : (start old new : DeviceState) (bytes out : List ℕ) (sent : Sent) (p : Progress) → Standing start old p → Received old new bytes out sent
    → told (sizes_of start) p bytes ≡ followed_by (p.events ▹ Host bytes) (answer_events sent out)
told_events start old new bytes out sent p at got =
    ap (λ (xs : List Event). followed_by (p.events ▹ Host bytes) xs) (answers_of start old new bytes out sent p at got)

-- so the device stands at the moment after the bytes
pub told_standing : (start old new : DeviceState) (bytes out : List ℕ) (sent : Sent) (p : Progress) → Standing start old p
    → Received old new bytes out sent → Standing start new (received (sizes_of start) p bytes)
told_standing start old new bytes out sent p at got =
    let s = sizes_of start in
    let answers = answers_of start old new bytes out sent p at got in
    let events = told_events start old new bytes out sent p at got in
    record {
      some_page = at.some_page;
      sizes = same_sizes old new got.store got.shape ∙ at.sizes;
      shape = got.shape ∙ at.shape;
      hints = rw events (got.hints p.events (keeps_history start old p at) at.hints);
      fetched = rw events (got.fetched p.events (keeps_history start old p at) at.fetched);
      same = rw got.store at.same;
      faults = rw (events, got.store) (record {
        least = rw (answers_fail_nothing (p.events ▹ Host bytes) sent out) at.faults.least;
        most = rw (answers_fail_nothing (p.events ▹ Host bytes) sent out) at.faults.most;
      });
      plain = rw events (plain_answer (p.events ▹ Host bytes) sent out (plain_host p.events bytes got.bytes_are got.few at.plain) (answer_upiu start old new bytes out sent p at got));
      lacking = tt;
      quiet = rw (got.store) at.quiet;
      steps = rw (got.counts) at.steps;
      ready = λ served. ap (λ (z : StoreState). z.phase) got.store ∙ at.ready served;
      collected = λ ready some. absurd (omega (arith, some));
      chip = elim at.chip [
        | inl own ↦ inl (record {
          was = own.was;
          stands = rw events (got.stands (first_of start) p.events own.stands);
          entries = rw events (got.entries p.events own.entries);
          listings = rw events (got.listings (has_page start.store.pages) (pages_in start) (first_of start) p.events own.stands own.listings);
          counted = rw events (got.counted (first_of start) p.events own.stands own.counted);
          tried = told_tried start old new bytes out sent p at own got events;
        })
        | inr foreign ↦ inr (record {
          stands = λ first. rw events (got.foreign start.store.pages first p.events (foreign.stands first));
          unready = rw events (owed_answer s (p.events ▹ Host bytes) sent out answers foreign.unready);
          counted = rw (events, got.counts) (answered_alone s (p.events ▹ Host bytes) sent out old.counts answers (received_alone s p.events bytes old.counts foreign.counted));
          untried = still_untried p.tried (keeps_head (tasks_at s p) (tasks_after s (told s p bytes))) foreign.untried;
        })
      ];
    }

-- what `reset` says of a device
pub record WasReset (old new : DeviceState) : Type 0 where
  pub reset : new ≡ reset_of old
  pub stands : (first : First) (e : History) → DeviceStands old first e → DeviceStands new first (e ▹ Reset)
  pub foreign : (chip : List Page) (first : First) (e : History) → DeviceStandsForeign old chip first e → DeviceStandsForeign new chip first (e ▹ Reset)
  pub entries : (e : History) → EntriesStand old e → EntriesStand new (e ▹ Reset)
  pub listings : (had : Place → Bool) (pages : ℕ) (e : History) → ListingStands had pages old e → ListingStands had pages new (e ▹ Reset)
  pub counted : (e : History) → CountsStand old e → CountsStand new (e ▹ Reset)
  pub hints : (e : History) → HintsStand old e → HintsStand new (e ▹ Reset)
  pub fetched : (e : History) → ListsStand old e → ListsStand new (e ▹ Reset)

-- so it stands at the moment after it
pub reset_standing : (start old new : DeviceState) (p : Progress) → WasReset old new → Standing start old p → Standing start new (reset p)
reset_standing start old new p is at =
    let blocks : pages_in old ≡ pages_in start = λ i. (at.same.geometry i).blocks * (at.same.geometry i).pages in
    record {
      some_page = at.some_page;
      sizes = ap sizes_of is.reset ∙ at.sizes;
      shape = ap (λ (x : DeviceState). x.shape) is.reset ∙ at.shape;
      hints = is.hints p.events at.hints;
      fetched = is.fetched p.events at.fetched;
      same = rw (is.reset) (record { geometry = at.same.geometry; luns = at.same.luns; units = at.same.units });
      faults = rw (is.reset) (record { least = at.faults.least; most = at.faults.most });
      plain = plain_reset p.events at.plain;
      lacking = tt;
      quiet = rw (is.reset) (omega (arith, blocks));
      steps = rw (is.reset) at.steps;
      ready = λ served. absurd (false≢true served);
      collected = λ ready some. absurd (omega (arith, some));
      chip = elim at.chip [
        | inl own ↦ inl (record {
          was = own.was;
          stands = is.stands (first_of start) p.events own.stands;
          entries = is.entries p.events own.entries;
          listings = is.listings (has_page start.store.pages) (pages_in start) p.events own.listings;
          counted = is.counted p.events own.counted;
          tried = λ tried. absurd (false≢true tried);
        })
        | inr foreign ↦ inr (record {
          stands = λ first. is.foreign start.store.pages first p.events (foreign.stands first);
          unready = foreign.unready;
          counted = rw (is.reset) (reset_alone (sizes_of start) p.events old.counts foreign.counted);
          untried = refl;
        })
      ];
    }
