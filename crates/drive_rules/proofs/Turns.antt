-- A drive is a list of turns.
use Rattle.std.proofs.Common.{◌≡◌, ◌⊎◌, ⊎_elim, inl, inr, ℕ, zero, suc, ◌+◌, ◌*◌, ◌≤◌, ◌<◌, Bool, true, false, not, ◌&&◌, List}
use Rattle.std.proofs.Common.{[], ◌∷◌, ◌++◌, length, Option, Some, None, Result, Ok, Err, refl, sym, ◌∙◌, ap, subst, arith, nat_le, nat_lt}
use Rattle.std.specs.Prelude.{if◌then◌else◌, fold, map, slice_get, All, MatchBool}
use Rattle.std.specs.List.{range_with_len}
use Rattle.std.proofs.Math.Nat.{mul-suc}
use Rattle.std.proofs.lemmas.List.{length-append}
use Rattle.std.proofs.lemmas.List.FromFn.{length-map-range_with_len}
use Rattle.std.proofs.lemmas.Bool.Decides.{nat_tests}
use Rattle.host_map_cache.specs.Cache.{CacheState, covers}
use Rattle.upiu_wire.specs.Upiu.{Upiu, upiu_out}
use Rattle.flash_pages.specs.declared.chip.ChipOp.{ChipOp}
use Rattle.flash_pages.specs.Place.{Place}
use Rattle.flat_unit.specs.declared.event.Event.{Event}
use Rattle.flat_unit.specs.declared.event.Event.TheVariants.{Device, Failed, Host, Moved}
use Rattle.flat_unit.specs.Contents.{Block}
use Rattle.flat_unit.specs.History.{History, ◌▹◌, followed_by}
use Rattle.flat_unit.specs.Replays.{Group, IsCollection, Progress, collected_to, events_of, failed_events, moved_events, sent_events as sent_group, stepped}
use Rattle.flat_unit.specs.Sizes.{Sizes}
use Rattle.flat_unit.specs.Sound.{SoundSoFar, owed}
use Rattle.driver_laws.specs.declared.fault.DriverFault.{DriverFault}
use Rattle.driver_laws.specs.declared.request.Request.{Request}
use Rattle.driver_laws.specs.declared.request.Request.TheVariants.{Read as ReadOf, Write as WriteOf, Sync as SyncAll, Ready}
use Rattle.driver_laws.specs.Commands.{OpenCommand, Wanted, next_of, opened, tags}
use Rattle.driver_laws.specs.Deliver.{Delivered, delivered}
use Rattle.driver_laws.specs.Drive.{Asks, Fails, Gets, Moment, Moves, Resets, Sends, Turn, Wants}
use Rattle.driver_laws.specs.Drive.{asks, gets, moment_after, passes, resets, sends, sent_events, wants, with_delivered as moment_delivered}
use Rattle.driver_laws.specs.Requests.{Way, Plainly, WithEntry, WithList, commands_of}
use Rattle.driver_laws.specs.Fits.{Fits, IsRequest, IsWanted, MayLead, Serves}
use Rattle.driver_laws.proofs.Sending.{sends_fit}
use Rattle.driver_laws.specs.Laws.{IsTaken}
use Rattle.driver_laws.proofs.Turning.{done_opens, fit, no_fault}
use Rattle.driver_caches.specs.Machine.{entry_at, is_nothing, Machine, Own, deliver, evicted_from, has_pair, loads, may_send_own, next_upiu}
use Rattle.driver_caches.specs.Machine.{wanted_from, way_by_cache, way_of, with_delivered, with_evicted, with_next, with_own, with_picked, with_wanted}
use Rattle.trace_text.specs.declared.drive.DriveLine.{DriveLine}
use Rattle.trace_text.specs.declared.drive.DriveLine.TheVariants.{Read, Write, Steps, Collect, Drain, Reset, Lun, Blank}
use Rattle.drive_rules.specs.Said.{with_sent}
use Rattle.drive_rules.specs.Lines.{AreBytes, CollectsTo, collected_by, DrainsTo, Drive, DriveLineTo, DriveStep, DriveSteps, Drives, DrivesLines, Exchanges, FreesTags, Passes, Requests, SendsBytes}
use Rattle.drive_rules.specs.Lines.{are_there, drive_begun, handed, happened, held_back, moment_of, pattern, pattern_block, pattern_bytes, requested, reset_both, sent, sent_times, stepped_by}
use Rattle.drive_rules.specs.Tame.{IsLed, IsTame, StaysTame}
use Rattle.drive_rules.proofs.Caching.{and_both}
use Rattle.drive_rules.proofs.Earlier.{IsSoundAt, events_folded, sound_first, sound_free, sound_last, sound_lines, sound_pass, sound_sent}
use Rattle.drive_rules.proofs.Earlier.{sound_drain, sound_step}

-- the commands of a request have tags
way_room : (way : Way) (request : Request) (opens : List OpenCommand) → length opens < tags → ((id : ℕ) (entries : List ℕ) → way ≡ WithList id entries → length opens + 2 ≤ tags)
    → length opens + length (commands_of way request) ≤ tags
way_room Plainly (ReadOf lun lba n) opens few pair = omega arith
way_room (WithEntry entry) (ReadOf lun lba n) opens few pair = omega arith
way_room (WithList id entries) (ReadOf lun lba n) opens few pair = pair id entries refl
way_room way (WriteOf lun lba n bytes) opens few pair = omega arith
way_room way SyncAll opens few pair = omega arith
way_room way Ready opens few pair = omega arith

no_list : (id : ℕ) (entries : List ℕ) → Plainly ≡ WithList id entries → ⊥
no_list id entries is = cc

no_list_either : (entry id : ℕ) (entries : List ℕ) → WithEntry entry ≡ WithList id entries → ⊥
no_list_either entry id entries is = cc

-- only where a pair of tags is free a list goes out
list_has_pair : (cache : Option CacheState) (lba n : ℕ) (opens : List OpenCommand) (next id : ℕ) (entries : List ℕ) → way_by_cache cache lba n (has_pair opens) next ≡ WithList id entries
    → length opens + 2 ≤ tags
list_has_pair None lba n opens next id entries is = absurd (no_list id entries is)
list_has_pair (Some cache) lba n opens next id entries is = by_covered (map (entry_at cache) (range_with_len lba n)) (entry_at cache lba) (not (nat_le n 255 && covers cache lba n)) is
  where
    by_pair : (list : List ℕ) (entry : ℕ) (b : Bool) → (nat_le 2 n && has_pair opens) ≡ b → (if b then WithList next list else WithEntry entry) ≡ WithList id entries → length opens + 2 ≤ tags
    by_pair list entry true both is = let pair = (and_both (nat_le 2 n) (has_pair opens) both).1 in grind (arith, nat_tests)
    by_pair list entry false both is = absurd (no_list_either entry id entries is)

    by_covered : (list : List ℕ) (entry : ℕ) (b : Bool) → (if b then Plainly else (if nat_le 2 n && has_pair opens then WithList next list else WithEntry entry)) ≡ WithList id entries
        → length opens + 2 ≤ tags
    by_covered list entry true is = absurd (no_list id entries is)
    by_covered list entry false is = by_pair list entry (nat_le 2 n && has_pair opens) refl is

-- the open commands of a drive are the tasks that its device keeps
pub led_fits : (s : Sizes) (u : List Block) (P : Machine → Type 0) (d : Drive) → Serves s → IsSoundAt s u d → IsLed s P d → Fits s d.machine.opens d.progress.events
led_fits s u P d serves sound led =
    subst (λ (m : Moment). Fits s m.opens m.events) (sym led.is) (fit s u led.turns serves led.may (subst (λ (m : Moment). SoundSoFar s u m.events) led.is sound))

-- the driver takes what the device may send next
pub led_takes : (s : Sizes) (u : List Block) (P : Machine → Type 0) (bytes : List ℕ) (d : Drive) → Serves s → SoundSoFar s u (d.progress.events ▹ Device bytes) → IsLed s P d
    → IsTaken (delivered s d.machine.opens bytes)
led_takes s u P bytes d serves sound led =
    subst (λ (m : Moment). IsTaken (delivered s m.opens bytes)) (sym led.is)
    (no_fault s u led.turns bytes serves led.may (subst (λ (m : Moment). SoundSoFar s u (m.events ▹ Device bytes)) led.is sound))

-- a request that is taken
pub led_requested : (s : Sizes) (P : Machine → Type 0) (request : Request) (d : Drive) → StaysTame s P → IsRequest s request → length d.machine.opens < tags → IsLed s P d
    → IsLed s P (requested true request d)
led_requested s P request d stays is few led =
    let way : Way = way_of d.machine request in
    let pair : (id : ℕ) (entries : List ℕ) → way ≡ WithList id entries → length d.machine.opens + 2 ≤ tags = λ id entries same. has_room request id entries same in
    let room : length d.machine.opens + length (commands_of way request) ≤ tags = way_room way request d.machine.opens few pair in
    record {
      turns = Asks (d.count + 1) way request ∷ led.turns;
      may = (led.may, (is, (stays.tame d.machine led.stays).ways request is, subst (λ (m : Moment). length m.opens + length (commands_of way request) ≤ tags) led.is room));
      is = ap (asks (d.count + 1) way request) led.is;
      stays = stays.asked request d.machine is led.stays;
    }
  where
    has_room : (request : Request) (id : ℕ) (entries : List ℕ) → way_of d.machine request ≡ WithList id entries → length d.machine.opens + 2 ≤ tags
    has_room (ReadOf lun lba n) id entries is = by_on d.machine.on is
      where
        by_on : (b : Bool) → (if b then way_by_cache (slice_get d.machine.caches lun) lba n (has_pair d.machine.opens) d.machine.next_id else Plainly) ≡ WithList id entries
            → length d.machine.opens + 2 ≤ tags
        by_on true is = list_has_pair (slice_get d.machine.caches lun) lba n d.machine.opens d.machine.next_id id entries is
        by_on false is = absurd (no_list id entries is)
    has_room (WriteOf lun lba n bytes) id entries is = absurd (no_list id entries is)
    has_room SyncAll id entries is = absurd (no_list id entries is)
    has_room Ready id entries is = absurd (no_list id entries is)

-- a request that is out of range
pub led_outside : (s : Sizes) (P : Machine → Type 0) (request : Request) (d : Drive) → IsLed s P d → IsLed s P (requested false request d)
led_outside s P request d led = record { turns = led.turns; may = led.may; is = led.is; stays = led.stays }

-- what the driver opens of its own
record OpensOwn (s : Sizes) (m now : Machine) : Type 0 where
  way : (now.opens ≡ m.opens) ⊎ ((w : Wanted) × IsWanted s w × (w.caller ≡ false) × (now.opens ≡ opened m.opens w))

own_picked : (s : Sizes) (m : Machine) → IsTame s m → OpensOwn s m (with_picked m (wanted_from 0 m.caches))
own_picked s m tame = by_wanted (wanted_from 0 m.caches).wanted refl
  where
    by_wanted : (x : Option Wanted) → (wanted_from 0 m.caches).wanted ≡ x → OpensOwn s m (with_picked m (wanted_from 0 m.caches))
    by_wanted None is = record { way = inl (ap (λ (x : Option Wanted). with_wanted x m.opens) is) }
    by_wanted (Some w) is = let t = tame.picked w is in record { way = inr (w, t.0, t.1, ap (λ (x : Option Wanted). with_wanted x m.opens) is) }

own_evicted : (s : Sizes) (m : Machine) → IsTame s m → OpensOwn s m (with_evicted m (evicted_from 0 m.caches))
own_evicted s m tame = by_own (evicted_from 0 m.caches) refl
  where
    by_loads : (b : Bool) → OpensOwn s m (if b then m else with_picked m (wanted_from 0 m.caches))
    by_loads true = record { way = inl refl }
    by_loads false = own_picked s m tame

    by_own : (x : Option Own) → evicted_from 0 m.caches ≡ x → OpensOwn s m (with_evicted m x)
    by_own (Some own) is = let t = tame.evicted own is in record { way = inr (own.wanted, t.0, t.1, refl) }
    by_own None is = by_loads (loads m.opens)

own_opened : (s : Sizes) (m : Machine) → IsTame s m
    → ((with_own m).opens ≡ m.opens) ⊎ ((w : Wanted) × IsWanted s w × (w.caller ≡ false) × (length m.opens < tags) × ((with_own m).opens ≡ opened m.opens w))
own_opened s m tame = by_may (may_send_own m) refl
  where
    few : may_send_own m ≡ true → length m.opens < tags
    few may =
        let both = (and_both (is_nothing (next_of m.opens)) (nat_lt (length m.opens) tags && (not m.held && m.on)) may).1 in
        let b : nat_lt (length m.opens) tags ≡ true = (and_both (nat_lt (length m.opens) tags) (not m.held && m.on) both).0 in
        grind (arith, nat_tests)

    by_may : (b : Bool) → may_send_own m ≡ b → ((if b then with_evicted m (evicted_from 0 m.caches) else m).opens ≡ m.opens)
        ⊎ ((w : Wanted) × IsWanted s w × (w.caller ≡ false) × (length m.opens < tags) × ((if b then with_evicted m (evicted_from 0 m.caches) else m).opens ≡ opened m.opens w))
    by_may false may = inl refl
    by_may true may = ⊎_elim
        (λ same. inl same)
        (λ one. inr (one.0, one.1, one.2, few may, one.3))
        (own_evicted s m tame).way

-- where the device owes nothing for what is sent, it is told of it, and that is all
record HandsQuietly (s : Sizes) (v : Option Upiu) (d : Drive) : Type 0 where
  machine : (handed s v d).machine ≡ d.machine
  moment : moment_of (handed s v d) ≡ record (moment_of d) { events = sent_events d.progress.events v }
  said : (handed s v d).said ≡ with_sent v d.said

hands_quietly : (s : Sizes) (v : Option Upiu) (d : Drive) → owed s (sent_events d.progress.events v) ≡ [] → HandsQuietly s v d
hands_quietly s None d none = record { machine = refl; moment = refl; said = refl }
hands_quietly s (Some v) d none = record {
  machine = ap (λ (xs : List Event). (after xs).machine) none;
  moment = ap moment none;
  said = ap (λ (xs : List Event). (after xs).said) none;
}
  where
    after : List Event → Drive
    after xs = fold (happened s) (happened s d (Host (upiu_out v))) xs

    moment : List Event → Moment
    moment xs = record (moment_of (after xs)) { events = followed_by (d.progress.events ▹ Host (upiu_out v)) xs }

-- a drive that is about to send, with the command that the driver opens of its own
abbrev pub about_to_send : Drive → Moment
about_to_send d = record (moment_of d) { opens = (with_own d.machine).opens }

-- what the driver sends gets no reply
pub record SendsQuietly (s : Sizes) (d : Drive) : Type 0 where
  pub machine : (sent s d).machine ≡ with_next s d.machine
  pub moment : moment_of (sent s d) ≡ sends s (about_to_send d)
  pub said : (sent s d).said ≡ with_sent (next_upiu s d.machine) d.said

sends_after : (s : Sizes) (u : List Block) (turns : List Turn) (d : Drive) → Serves s → MayLead s turns → IsSoundAt s u d → about_to_send d ≡ moment_after s turns → SendsQuietly s d
sends_after s u turns d serves may sound is =
    let fits : Fits s (moment_after s turns).opens (moment_after s turns).events = fit s u turns serves may (subst (λ (m : Moment). SoundSoFar s u m.events) is sound) in
    let here : Fits s (with_own d.machine).opens d.progress.events = subst (λ (m : Moment). Fits s m.opens m.events) (sym is) fits in
    let q : HandsQuietly s (next_upiu s d.machine) (record d { machine = with_next s d.machine }) =
    hands_quietly s (next_upiu s d.machine) (record d { machine = with_next s d.machine }) (sends_fit s (with_own d.machine).opens d.progress.events serves here).nothing_owed in
    record { machine = q.machine; moment = q.moment; said = q.said }

-- the turns after which it sends
record AboutToSend (s : Sizes) (d : Drive) : Type 0 where
  turns : List Turn
  may : MayLead s turns
  is : about_to_send d ≡ moment_after s turns

about : (s : Sizes) (P : Machine → Type 0) (d : Drive) → StaysTame s P → IsLed s P d → AboutToSend s d
about s P d stays led = ⊎_elim same one (own_opened s d.machine (stays.tame d.machine led.stays))
  where
    with_opens : List OpenCommand → Moment
    with_opens opens = record (moment_of d) { opens = opens }

    same : (with_own d.machine).opens ≡ d.machine.opens → AboutToSend s d
    same is = record { turns = led.turns; may = led.may; is = ap with_opens is ∙ led.is }

    one : ((w : Wanted) × IsWanted s w × (w.caller ≡ false) × (length d.machine.opens < tags) × ((with_own d.machine).opens ≡ opened d.machine.opens w)) → AboutToSend s d
    one (w, wanted, own, few, is) = record {
      turns = Wants w ∷ led.turns;
      may = (led.may, (wanted, own, subst (λ (m : Moment). length m.opens + 1 ≤ tags) led.is (omega arith)));
      is = ap with_opens is ∙ ap (wants w) led.is;
    }

-- so it is where the events are sound
pub sends_quietly : (s : Sizes) (u : List Block) (P : Machine → Type 0) (d : Drive) → Serves s → StaysTame s P → IsSoundAt s u d → IsLed s P d → SendsQuietly s d
sends_quietly s u P d serves stays sound led = let a = about s P d stays led in sends_after s u a.turns d serves a.may sound a.is

-- the driver sends
pub led_sent : (s : Sizes) (u : List Block) (P : Machine → Type 0) (d : Drive) → Serves s → StaysTame s P → IsSoundAt s u d → IsLed s P d → IsLed s P (sent s d)
led_sent s u P d serves stays sound led =
    let a = about s P d stays led in
    let q : SendsQuietly s d = sends_after s u a.turns d serves a.may sound a.is in
    record {
      turns = Sends ∷ a.turns;
      may = (a.may, tt);
      is = q.moment ∙ ap (sends s) a.is;
      stays = subst P (sym q.machine) (stays.sent d.machine led.stays);
    }

-- what happens at the device
delivered_opens : (s : Sizes) (bytes : List ℕ) (d : Drive) → (deliver s bytes d.machine).opens ≡ (gets s bytes (moment_of d)).opens
delivered_opens s bytes d = by_result (delivered s d.machine.opens bytes)
  where
    by_result : (r : Result Delivered DriverFault) → (with_delivered d.machine bytes r).opens ≡ (moment_delivered r (record (moment_of d) { events = d.progress.events ▹ Device bytes })).opens
    by_result (Ok taken) = sym (done_opens taken.done (record (moment_of d) { opens = taken.opens; events = d.progress.events ▹ Device bytes }))
    by_result (Err fault) = refl

led_got : (s : Sizes) (P : Machine → Type 0) (bytes : List ℕ) (d : Drive) → StaysTame s P → AreBytes bytes → IsLed s P d → IsLed s P (happened s d (Device bytes))
led_got s P bytes d stays are led = record {
  turns = Gets bytes ∷ led.turns;
  may = (led.may, tt);
  is = ap (λ (opens : List OpenCommand). record (gets s bytes (moment_of d)) { opens = opens }) (delivered_opens s bytes d) ∙ ap (gets s bytes) led.is;
  stays = stays.got bytes d.machine are led.stays;
}

led_failed : (s : Sizes) (P : Machine → Type 0) (op : ChipOp) (d : Drive) → IsLed s P d → IsLed s P (happened s d (Failed op))
led_failed s P op d led = record { turns = Fails op ∷ led.turns; may = (led.may, tt); is = ap (passes (Failed op)) led.is; stays = led.stays }

led_moved : (s : Sizes) (P : Machine → Type 0) (p : Place) (d : Drive) → IsLed s P d → IsLed s P (happened s d (Moved p.lun p.lba))
led_moved s P p d led = record { turns = Moves p.lun p.lba ∷ led.turns; may = (led.may, tt); is = ap (passes (Moved p.lun p.lba)) led.is; stays = led.stays }

-- both ends are reset
pub led_reset : (s : Sizes) (P : Machine → Type 0) (d : Drive) → StaysTame s P → IsLed s P d → IsLed s P (reset_both d)
led_reset s P d stays led = record { turns = Resets ∷ led.turns; may = (led.may, tt); is = ap resets led.is; stays = stays.reset_too d.machine led.stays }

led_events : (s : Sizes) (P : Machine → Type 0) (g : Group) (d : Drive) → StaysTame s P → SendsBytes g.sent → IsLed s P d → IsLed s P (fold (happened s) d (events_of g))
led_events s P g d stays are led = by_failed g.failed
  where
    by_sent : (x : Option (List ℕ)) (before : Drive) → SendsBytes x → IsLed s P before → IsLed s P (fold (happened s) before (sent_group x))
    by_sent (Some bytes) before are led = led_got s P bytes before stays are led
    by_sent None before are led = led

    by_moved : (x : Option Place) (before : Drive) → IsLed s P before → IsLed s P (fold (happened s) before (moved_events x ++ sent_group g.sent))
    by_moved (Some p) before led = by_sent g.sent (happened s before (Moved p.lun p.lba)) are (led_moved s P p before led)
    by_moved None before led = by_sent g.sent before are led

    by_failed : (x : Option ChipOp) → IsLed s P (fold (happened s) d (failed_events x ++ moved_events g.moved ++ sent_group g.sent))
    by_failed (Some op) = by_moved g.moved (happened s d (Failed op)) (led_failed s P op d led)
    by_failed None = by_moved g.moved d led

-- the progress of a drive counts more than its events
led_again : (s : Sizes) (P : Machine → Type 0) (d : Drive) (p : Progress) → p.events ≡ d.progress.events → IsLed s P d → IsLed s P (record d { progress = p })
led_again s P d p same led = record { turns = led.turns; may = led.may; is = ap (λ (e : History). record (moment_of d) { events = e }) same ∙ led.is; stays = led.stays }

-- the device makes a step
pub led_stepped : (s : Sizes) (P : Machine → Type 0) (g : Group) (d : Drive) → StaysTame s P → SendsBytes g.sent → IsLed s P d → IsLed s P (stepped_by s g d)
led_stepped s P g d stays are led =
    led_again s P (fold (happened s) d (events_of g)) (stepped s d.progress g) (sym (events_folded s (events_of g) d)) (led_events s P g d stays are led)

led_times : (s : Sizes) (u : List Block) (P : Machine → Type 0) (n : ℕ) (d : Drive) → Serves s → StaysTame s P → IsSoundAt s u (sent_times s n d) → IsLed s P d → IsLed s P (sent_times s n d)
led_times s u P zero d serves stays sound led = led
led_times s u P (suc n) d serves stays sound led =
    let before : IsSoundAt s u (sent_times s n d) = sound_sent s u (sent_times s n d) sound in
    led_sent s u P (sent_times s n d) serves stays before (led_times s u P n d serves stays before led)

-- an exchange
pub led_exchange : (s : Sizes) (u : List Block) (P : Machine → Type 0) (d now : Drive) → Serves s → StaysTame s P → Exchanges s d now → IsSoundAt s u now → IsLed s P d → IsLed s P now
led_exchange s u P d now serves stays x sound led =
    let last : IsSoundAt s u x.last = sound_last s u d now x sound in
    let led_last : IsLed s P x.last = subst (IsLed s P) (sym x.sends) (led_times s u P x.count d serves stays (subst (IsSoundAt s u) x.sends last) led) in
    subst (IsLed s P) (sym x.leads) (led_sent s u P x.last serves stays last led_last)

-- a step, and then an exchange
pub led_step : (s : Sizes) (u : List Block) (P : Machine → Type 0) (d now : Drive) → Serves s → StaysTame s P → DriveStep s d now → IsSoundAt s u now → IsLed s P d → IsLed s P now
led_step s u P d now serves stays step sound led =
    led_exchange s u P (stepped_by s step.group d) now serves stays step.exchange sound (led_stepped s P step.group d stays step.bytes led)

-- so many of them
pub led_steps : (s : Sizes) (u : List Block) (P : Machine → Type 0) (n : ℕ) (d now : Drive) → Serves s → StaysTame s P → DriveSteps s n d now → IsSoundAt s u now → IsLed s P d → IsLed s P now
led_steps s u P zero d now serves stays is sound led = subst (IsLed s P) (sym is) led
led_steps s u P (suc n) d now serves stays (mid, before, step) sound led =
    led_step s u P mid now serves stays step sound (led_steps s u P n d mid serves stays before (sound_step s u mid now step sound) led)

-- the driver is held back, or is no more
pub led_held : (s : Sizes) (P : Machine → Type 0) (on : Bool) (d : Drive) → StaysTame s P → IsLed s P d → IsLed s P (held_back on d)
led_held s P on d stays led = record { turns = led.turns; may = led.may; is = led.is; stays = stays.held on d.machine led.stays }

-- a pass of a drain
pub led_pass : (s : Sizes) (u : List Block) (P : Machine → Type 0) (d now : Drive) → Serves s → StaysTame s P → Passes s d now → IsSoundAt s u now → IsLed s P d → IsLed s P now
led_pass s u P d now serves stays pass sound led =
    let first : IsLed s P pass.first = led_exchange s u P d pass.first serves stays pass.exchange (sound_first s u d now pass sound) led in
    let last : IsLed s P pass.last =
    led_steps s u P pass.count (held_back true pass.first) pass.last serves stays pass.steps (subst (IsSoundAt s u) pass.leads sound) (led_held s P true pass.first stays first) in
    subst (IsLed s P) (sym pass.leads) (led_held s P false pass.last stays last)

-- a drain
pub led_drain : (s : Sizes) (u : List Block) (P : Machine → Type 0) (d now : Drive) → Serves s → StaysTame s P → DrainsTo s d now → IsSoundAt s u now → IsLed s P d → IsLed s P now
led_drain s u P d now serves stays (mid, one, two) sound led =
    led_pass s u P mid now serves stays two sound (led_pass s u P d mid serves stays one (sound_pass s u mid now two sound) led)

-- after a drain no command is open
pub drained : (s : Sizes) (d now : Drive) → DrainsTo s d now → now.machine.opens ≡ []
drained s d now (mid, one, two) = ap (λ (x : Drive). x.machine.opens) two.leads ∙ two.none_open

record Freed (s : Sizes) (P : Machine → Type 0) (d : Drive) : Type 0 where
  led : IsLed s P d
  few : length d.machine.opens < tags

led_freed : (s : Sizes) (u : List Block) (P : Machine → Type 0) (d free : Drive) → Serves s → StaysTame s P → FreesTags s d free → IsSoundAt s u free → IsLed s P d → Freed s P free
led_freed s u P d free serves stays frees sound led = by_full (nat_le tags (length d.machine.opens)) refl frees
  where
    by_full : (b : Bool) → nat_le tags (length d.machine.opens) ≡ b → MatchBool b (DrainsTo s d free) (free ≡ d) → Freed s P free
    by_full true full drain =
        let none : length free.machine.opens ≡ 0 = ap length (drained s d free drain) in record { led = led_drain s u P d free serves stays drain sound led; few = omega arith }
    by_full false full same =
        let few : length d.machine.opens < tags = grind (arith, nat_tests) in
        record { led = subst (IsLed s P) (sym same) led; few = subst (λ (x : Drive). length x.machine.opens < tags) (sym same) few }

-- a request of a line
pub led_request : (s : Sizes) (u : List Block) (P : Machine → Type 0) (there : Bool) (request : Request) (d now : Drive) → Serves s → StaysTame s P → (there ≡ true → IsRequest s request)
    → Requests s there request d now → IsSoundAt s u now → IsLed s P d → IsLed s P now
led_request s u P there request d now serves stays is r sound led =
    let freed = led_freed s u P d r.free serves stays r.frees (sound_free s u there request d now r sound) led in
    led_exchange s u P (requested there request r.free) now serves stays r.exchange sound (by_there there is freed)
  where
    by_there : (b : Bool) → (b ≡ true → IsRequest s request) → Freed s P r.free → IsLed s P (requested b request r.free)
    by_there true is freed = led_requested s P request r.free stays (is refl) freed.few freed.led
    by_there false is freed = led_outside s P request r.free freed.led

-- the blocks are there, and the pattern has their bytes
block_length : (s : Sizes) (seed lba : ℕ) → length (pattern_block s seed lba) ≡ s.block
block_length s seed lba = length-map-range_with_len (pattern seed lba) 0 s.block

bytes_length : (s : Sizes) (seed lba n : ℕ) → length (pattern_bytes s seed lba n) ≡ s.block * n
bytes_length s seed lba zero = omega arith
bytes_length s seed lba (suc n) =
    let e = length-append (pattern_block s seed lba) (pattern_bytes s seed (lba + 1) n) in
    let f = block_length s seed lba in
    let g = bytes_length s seed (lba + 1) n in
    let h = mul-suc s.block n in
    omega (arith, e, f, g, h)

there_lun : (s : Sizes) (lun lba n : ℕ) → are_there s lun lba n ≡ true → (lun < s.luns) × (n ≤ 255) × (lba + n ≤ s.units)
there_lun s lun lba n is =
    let a = and_both (nat_lt lun s.luns) (nat_le n 255 && nat_le (lba + n) s.units) is in
    let b = and_both (nat_le n 255) (nat_le (lba + n) s.units) a.1 in
    let l : nat_lt lun s.luns ≡ true = a.0 in
    let f : nat_le n 255 ≡ true = b.0 in
    let w : nat_le (lba + n) s.units ≡ true = b.1 in
    (grind (arith, nat_tests), grind (arith, nat_tests), grind (arith, nat_tests))

collection_rest : (x : Event) (xs : List Event) → All IsCollection (x ∷ xs) → All IsCollection xs
collection_rest x xs all k d below = all (suc k) d (omega arith)

led_collected : (s : Sizes) (P : Machine → Type 0) (group : List Event) (d : Drive) → All IsCollection group → IsLed s P d → IsLed s P (fold (happened s) d group)
led_collected s P [] d all led = led
led_collected s P (Moved lun lba ∷ xs) d all led =
    led_collected s P xs (happened s d (Moved lun lba)) (collection_rest (Moved lun lba) xs all) (led_moved s P (record { lun = lun; lba = lba }) d led)
led_collected s P (Failed op ∷ xs) d all led = led_collected s P xs (happened s d (Failed op)) (collection_rest (Failed op) xs all) (led_failed s P op d led)
led_collected s P (x ∷ xs) d all led = absurd (all 0 x (omega arith))

-- calls of the collector
pub led_call : (s : Sizes) (P : Machine → Type 0) (group : List Event) (d : Drive) → All IsCollection group → IsLed s P d → IsLed s P (collected_by s group d)
led_call s P group d all led = led_again s P (fold (happened s) d group) (collected_to 1 group d.progress) (sym (events_folded s group d)) (led_collected s P group d all led)

pub led_collect : (s : Sizes) (P : Machine → Type 0) (n : ℕ) (d now : Drive) → CollectsTo s n d now → IsLed s P d → IsLed s P now
led_collect s P zero d now is led = subst (IsLed s P) (sym is) led
led_collect s P (suc n) d now (mid, calls, one) led =
    subst (IsLed s P) (sym one.leads) (led_call s P one.group mid one.collection (led_collect s P n d mid calls led))

-- each line
pub led_line : (s : Sizes) (u : List Block) (P : Machine → Type 0) (line : DriveLine) (d now : Drive) → Serves s → StaysTame s P → DriveLineTo s line d now → IsSoundAt s u now → IsLed s P d
    → IsLed s P now
led_line s u P (Read lba n) d now serves stays r sound led =
    led_request s u P (are_there s d.lun lba n) (ReadOf d.lun lba n) d now serves stays (λ is. there_lun s d.lun lba n is) r sound led
led_line s u P (Write lba n seed) d now serves stays r sound led =
    led_request s u P (are_there s d.lun lba n) (WriteOf d.lun lba n (pattern_bytes s seed lba n)) d now serves stays
    (λ is. let t = there_lun s d.lun lba n is in (t.0, t.1, t.2, bytes_length s seed lba n)) r sound led
led_line s u P (Steps n) d now serves stays steps sound led = led_steps s u P n d now serves stays steps sound led
led_line s u P (Collect n) d now serves stays c sound led = led_collect s P n d now c led
led_line s u P Drain d now serves stays drain sound led = led_drain s u P d now serves stays drain sound led
led_line s u P Reset d now serves stays is sound led = subst (IsLed s P) (sym is) (led_reset s P d stays led)
led_line s u P (Lun k) d now serves stays is sound led = subst (IsLed s P) (sym is) (record { turns = led.turns; may = led.may; is = led.is; stays = led.stays })
led_line s u P Blank d now serves stays is sound led = subst (IsLed s P) (sym is) led

-- the lines
pub led_lines : (s : Sizes) (u : List Block) (P : Machine → Type 0) (lines : List DriveLine) (d now : Drive) → Serves s → StaysTame s P → DrivesLines s lines d now → IsSoundAt s u now → IsLed s P d
    → IsLed s P now
led_lines s u P [] d now serves stays is sound led = subst (IsLed s P) (sym is) led
led_lines s u P (line ∷ lines) d now serves stays (mid, one, rest) sound led =
    led_lines s u P lines mid now serves stays rest sound (led_line s u P line d mid serves stays one (sound_lines s u lines mid now rest sound) led)

-- before the first line
pub led_begun : (s : Sizes) (P : Machine → Type 0) (machine : Machine) → P machine → machine.opens ≡ [] → IsLed s P (drive_begun machine)
led_begun s P machine tame none = record {
  turns = [];
  may = tt;
  is = ap (λ (opens : List OpenCommand). record { opens = opens; events = []; asked = []; callers = []; answers = [] }) none;
  stays = tame;
}

-- a whole drive
pub led_drive : (s : Sizes) (u : List Block) (P : Machine → Type 0) (machine : Machine) (lines : List DriveLine) (now : Drive) → Serves s → StaysTame s P → P machine → machine.opens ≡ []
    → Drives s machine lines now → IsSoundAt s u now → IsLed s P now
led_drive s u P machine lines now serves stays tame none drives sound =
    led_drain s u P drives.mid now serves stays drives.end sound
    (led_lines s u P lines (drive_begun machine) drives.mid serves stays drives.each (sound_drain s u drives.mid now drives.end sound) (led_begun s P machine tame none))
