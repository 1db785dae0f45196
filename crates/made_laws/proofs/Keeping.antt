-- Each moment of a drive keeps its requests counted and served, whatever the device does.
use Rattle.std.proofs.Common.{◌≡◌, ◌++◌, ℕ, zero, suc, ◌+◌, ◌≤◌, ◌<◌, Bool, true, false, not, ◌&&◌, List, [], ◌∷◌, length, map, filter}
use Rattle.std.proofs.Common.{Option, Some, None, Result, refl, sym, ◌∙◌, ap, subst, arith, nat_le}
use Rattle.std.specs.Prelude.{if◌then◌else◌, fold, slice_get, IsPermutation, MatchBool}
use Rattle.std.specs.List.{range_with_len}
use Rattle.std.proofs.lemmas.List.{append-nil, length-map}
use Rattle.std.proofs.lemmas.List.Sorted.{IsPermutation-refl, length_permutation}
use Rattle.std.proofs.lemmas.Bool.Decides.{nat_tests}
use Rattle.host_map_cache.specs.Cache.{CacheState, covers}
use Rattle.upiu_wire.specs.Upiu.{Upiu, upiu_out}
use Rattle.flat_unit.specs.declared.event.Event.{Event}
use Rattle.flat_unit.specs.declared.event.Event.TheVariants.{Device, Host}
use Rattle.flat_unit.specs.History.{◌▹◌}
use Rattle.flat_unit.specs.Queue.{on_after}
use Rattle.flat_unit.specs.Replays.{Group, Progress, collected_to, events_of, received, stepped, tasks_at}
use Rattle.flat_unit.specs.Sizes.{Sizes}
use Rattle.flat_unit.specs.Sound.{answers_to}
use Rattle.driver_laws.specs.declared.fault.DriverFault.{DriverFault}
use Rattle.driver_laws.specs.declared.request.Request.{Request}
use Rattle.driver_laws.specs.declared.request.Request.TheVariants.{Read as ReadOf, Write as WriteOf, Sync as SyncAll, Ready}
use Rattle.driver_laws.specs.Commands.{OpenCommand, is_caller, tags}
use Rattle.driver_laws.specs.Deliver.{Delivered, delivered}
use Rattle.driver_laws.specs.Drive.{Moment, asks, last_tag}
use Rattle.driver_laws.specs.Flat.{Answered, Asked}
use Rattle.driver_laws.specs.Fits.{IsBook, numbers_answered, numbers_asked, serving}
use Rattle.driver_laws.specs.Laws.{Numbered, numbered}
use Rattle.driver_laws.specs.Requests.{Way, Plainly, WithEntry, WithList, commands_of, submitted}
use Rattle.driver_laws.proofs.Booking.{asks_book}
use Rattle.driver_caches.specs.Machine.{Machine, entry_at, has_pair, next_upiu, way_by_cache, way_of, with_delivered, with_next}
use Rattle.trace_text.specs.declared.drive.DriveLine.{DriveLine}
use Rattle.trace_text.specs.declared.drive.DriveLine.TheVariants.{Read, Write, Steps, Collect, Drain, Reset, Lun, Blank}
use Rattle.drive_rules.specs.FlatLines.{requests_of}
use Rattle.drive_rules.specs.Lines.{CollectCall, CollectsTo, DrainsTo, Drive, DriveLineTo, DriveSteps, Drives, DrivesLines, Exchanges, FreesTags, Passes, Requests}
use Rattle.drive_rules.specs.Lines.{drive_begun, handed, happened, held_back, moment_of, requested, reset_both, sent, sent_times, stepped_by}
use Rattle.drive_rules.proofs.Caching.{and_both}
use Rattle.drive_rules.proofs.Ending.{asked_of}
use Rattle.drive_rules.proofs.Turns.{drained}
use Rattle.made_laws.specs.Numbers.{numbers_of}
use Rattle.made_laws.proofs.Serving.{IsCounted, asked_counted, cut_counted, IsServed, delivered_counted, got_serves, none_waits, sent_serves}

-- what holds at each moment: the open commands serve the callers that wait, and each request came to its end once, or waits
pub record IsKept (d : Drive) : Type 0 where
  pub served : IsServed d.callers d.machine.opens
  pub counted : IsCounted (moment_of d)

-- ---- what happens

kept_got : (s : Sizes) (bytes : List ℕ) (d : Drive) → IsKept d → IsKept (happened s d (Device bytes))
kept_got s bytes d kept =
    let m : Moment = record (moment_of d) { events = d.progress.events ▹ Device bytes } in
    record {
      served = got_serves s bytes m (λ (r : Result Delivered DriverFault). (with_delivered d.machine bytes r).opens) (λ t. refl) (λ fault. refl) kept.served;
      counted = delivered_counted (delivered s d.machine.opens bytes) m kept.counted;
    }

kept_happened : (s : Sizes) (d : Drive) (x : Event) → IsKept d → IsKept (happened s d x)
kept_happened s d (Device bytes) kept = kept_got s bytes d kept
kept_happened s d _ kept = record { served = kept.served; counted = kept.counted }

kept_events : (s : Sizes) (xs : List Event) (d : Drive) → IsKept d → IsKept (fold (happened s) d xs)
kept_events s [] d kept = kept
kept_events s (x ∷ xs) d kept = kept_events s xs (happened s d x) (kept_happened s d x kept)

kept_again : (d : Drive) (p : Progress) → IsKept d → IsKept (record d { progress = p })
kept_again d p kept = record { served = kept.served; counted = kept.counted }

kept_handed : (s : Sizes) (v : Option Upiu) (d : Drive) → IsKept d → IsKept (handed s v d)
kept_handed s None d kept = kept
kept_handed s (Some v) d kept =
    let answers : List Event = answers_to s (on_after d.progress.events) (tasks_at s d.progress) (upiu_out v) in
    let before : Drive = happened s d (Host (upiu_out v)) in
    kept_again (fold (happened s) before answers) (received s d.progress (upiu_out v)) (kept_events s answers before (kept_happened s d (Host (upiu_out v)) kept))

-- ---- the driver sends

kept_sent : (s : Sizes) (d : Drive) → IsKept d → IsKept (sent s d)
kept_sent s d kept =
    kept_handed s (next_upiu s d.machine) (record d { machine = with_next s d.machine }) (record { served = kept.served ∙ sym (sent_serves s d.machine); counted = kept.counted })

kept_times : (s : Sizes) (n : ℕ) (d : Drive) → IsKept d → IsKept (sent_times s n d)
kept_times s zero d kept = kept
kept_times s (suc n) d kept = kept_sent s (sent_times s n d) (kept_times s n d kept)

kept_exchange : (s : Sizes) (d now : Drive) → Exchanges s d now → IsKept d → IsKept now
kept_exchange s d now x kept = subst IsKept (sym x.leads) (kept_sent s x.last (subst IsKept (sym x.sends) (kept_times s x.count d kept)))

-- ---- the device makes a step

kept_stepped : (s : Sizes) (g : Group) (d : Drive) → IsKept d → IsKept (stepped_by s g d)
kept_stepped s g d kept = kept_again (fold (happened s) d (events_of g)) (stepped s d.progress g) (kept_events s (events_of g) d kept)

kept_steps : (s : Sizes) (n : ℕ) (d now : Drive) → DriveSteps s n d now → IsKept d → IsKept now
kept_steps s zero d now is kept = subst IsKept (sym is) kept
kept_steps s (suc n) d now (mid, before, step) kept =
    kept_exchange s (stepped_by s step.group mid) now step.exchange (kept_stepped s step.group mid (kept_steps s n d mid before kept))

kept_held : (on : Bool) (d : Drive) → IsKept d → IsKept (held_back on d)
kept_held on d kept = record { served = kept.served; counted = kept.counted }

kept_pass : (s : Sizes) (d now : Drive) → Passes s d now → IsKept d → IsKept now
kept_pass s d now pass kept =
    subst IsKept (sym pass.leads)
    (kept_held false pass.last
    (kept_steps s pass.count (held_back true pass.first) pass.last pass.steps (kept_held true pass.first (kept_exchange s d pass.first pass.exchange kept))))

kept_drain : (s : Sizes) (d now : Drive) → DrainsTo s d now → IsKept d → IsKept now
kept_drain s d now (mid, one, two) kept = kept_pass s mid now two (kept_pass s d mid one kept)

-- ---- a request

-- the commands of a request have tags
way_room : (way : Way) (request : Request) (opens : List OpenCommand) → length opens < tags → ((id : ℕ) (entries : List ℕ) → way ≡ WithList id entries → length opens + 2 ≤ tags)
    → length opens + length (commands_of way request) ≤ tags
way_room Plainly (ReadOf lun lba n) opens few pair = omega arith
way_room (WithEntry entry) (ReadOf lun lba n) opens few pair = omega arith
way_room (WithList id entries) (ReadOf lun lba n) opens few pair = pair id entries refl
way_room way (WriteOf lun lba n bytes) opens few pair = omega arith
way_room way SyncAll opens few pair = omega arith
way_room way Ready opens few pair = omega arith

no_list : (id : ℕ) (entries : List ℕ) → Plainly ≡ WithList id entries → ⊥
no_list id entries is = cc

no_list_either : (entry id : ℕ) (entries : List ℕ) → WithEntry entry ≡ WithList id entries → ⊥
no_list_either entry id entries is = cc

-- only where a pair of tags is free a list goes out
list_has_pair : (cache : Option CacheState) (lba n : ℕ) (opens : List OpenCommand) (next id : ℕ) (entries : List ℕ) → way_by_cache cache lba n (has_pair opens) next ≡ WithList id entries
    → length opens + 2 ≤ tags
list_has_pair None lba n opens next id entries is = absurd (no_list id entries is)
list_has_pair (Some cache) lba n opens next id entries is = by_covered (map (entry_at cache) (range_with_len lba n)) (entry_at cache lba) (not (nat_le n 255 && covers cache lba n)) is
  where
    by_pair : (list : List ℕ) (entry : ℕ) (b : Bool) → (nat_le 2 n && has_pair opens) ≡ b → (if b then WithList next list else WithEntry entry) ≡ WithList id entries → length opens + 2 ≤ tags
    by_pair list entry true both is = let pair = (and_both (nat_le 2 n) (has_pair opens) both).1 in grind (arith, nat_tests)
    by_pair list entry false both is = absurd (no_list_either entry id entries is)

    by_covered : (list : List ℕ) (entry : ℕ) (b : Bool) → (if b then Plainly else (if nat_le 2 n && has_pair opens then WithList next list else WithEntry entry)) ≡ WithList id entries
        → length opens + 2 ≤ tags
    by_covered list entry true is = absurd (no_list id entries is)
    by_covered list entry false is = by_pair list entry (nat_le 2 n && has_pair opens) refl is

has_room : (m : Machine) (request : Request) (id : ℕ) (entries : List ℕ) → way_of m request ≡ WithList id entries → length m.opens + 2 ≤ tags
has_room m (ReadOf lun lba n) id entries is = by_on m.on is
  where
    by_on : (b : Bool) → (if b then way_by_cache (slice_get m.caches lun) lba n (has_pair m.opens) m.next_id else Plainly) ≡ WithList id entries → length m.opens + 2 ≤ tags
    by_on true is = list_has_pair (slice_get m.caches lun) lba n m.opens m.next_id id entries is
    by_on false is = absurd (no_list id entries is)
has_room m (WriteOf lun lba n bytes) id entries is = absurd (no_list id entries is)
has_room m SyncAll id entries is = absurd (no_list id entries is)
has_room m Ready id entries is = absurd (no_list id entries is)

-- where tags are free, a request is taken with a command that serves it
kept_requested : (s : Sizes) (there : Bool) (request : Request) (d : Drive) → length d.machine.opens < tags → IsKept d → IsKept (requested there request d)
kept_requested s true request d few kept =
    let way : Way = way_of d.machine request in
    let room : length d.machine.opens + length (commands_of way request) ≤ tags = way_room way request d.machine.opens few (λ id entries is. has_room d.machine request id entries is) in
    let before : Moment = record { opens = d.machine.opens; events = []; asked = d.callers; callers = d.callers; answers = [] } in
    let book : IsBook (asks (d.count + 1) way request before) = asks_book s (d.count + 1) way request before room (record { serves = kept.served; order = refl }) in
    let opens : List OpenCommand = submitted way request d.machine.opens in
    let one : Asked = record { number = d.count + 1; tag = last_tag opens; request = request } in
    record { served = book.serves; counted = asked_counted (moment_of d) one kept.counted }
kept_requested s false request d few kept = record { served = kept.served; counted = kept.counted }

record IsFreed (d : Drive) : Type 0 where
  kept : IsKept d
  few : length d.machine.opens < tags

kept_freed : (s : Sizes) (d free : Drive) → FreesTags s d free → IsKept d → IsFreed free
kept_freed s d free frees kept = by_full (nat_le tags (length d.machine.opens)) refl frees
  where
    by_full : (b : Bool) → nat_le tags (length d.machine.opens) ≡ b → MatchBool b (DrainsTo s d free) (free ≡ d) → IsFreed free
    by_full true full drain =
        let none : length free.machine.opens ≡ 0 = ap length (drained s d free drain) in record { kept = kept_drain s d free drain kept; few = omega arith }
    by_full false full same =
        let few : length d.machine.opens < tags = grind (arith, nat_tests) in
        record { kept = subst IsKept (sym same) kept; few = subst (λ (x : Drive). length x.machine.opens < tags) (sym same) few }

kept_request : (s : Sizes) (there : Bool) (request : Request) (d now : Drive) → Requests s there request d now → IsKept d → IsKept now
kept_request s there request d now r kept =
    let freed = kept_freed s d r.free r.frees kept in
    kept_exchange s (requested there request r.free) now r.exchange (kept_requested s there request r.free freed.few freed.kept)

-- ---- calls of the collector, and resets

kept_call : (s : Sizes) (d now : Drive) → CollectCall s d now → IsKept d → IsKept now
kept_call s d now c kept = subst IsKept (sym c.leads) (kept_again (fold (happened s) d c.group) (collected_to 1 c.group d.progress) (kept_events s c.group d kept))

kept_collected : (s : Sizes) (n : ℕ) (d now : Drive) → CollectsTo s n d now → IsKept d → IsKept now
kept_collected s zero d now is kept = subst IsKept (sym is) kept
kept_collected s (suc n) d now (mid, calls, one) kept = kept_call s mid now one (kept_collected s n d mid calls kept)

kept_reset : (d : Drive) → IsKept d → IsKept (reset_both d)
kept_reset d kept = record { served = refl; counted = cut_counted (moment_of d) kept.counted }

-- ---- lines

kept_line : (s : Sizes) (line : DriveLine) (d now : Drive) → DriveLineTo s line d now → IsKept d → IsKept now
kept_line s (Read lba n) d now r kept = kept_request s _ _ d now r kept
kept_line s (Write lba n seed) d now r kept = kept_request s _ _ d now r kept
kept_line s (Steps n) d now steps kept = kept_steps s n d now steps kept
kept_line s (Collect n) d now c kept = kept_collected s n d now c kept
kept_line s Drain d now drain kept = kept_drain s d now drain kept
kept_line s Reset d now is kept = subst IsKept (sym is) (kept_reset d kept)
kept_line s (Lun k) d now is kept = subst IsKept (sym is) (record { served = kept.served; counted = kept.counted })
kept_line s Blank d now is kept = subst IsKept (sym is) kept

kept_lines : (s : Sizes) (lines : List DriveLine) (d now : Drive) → DrivesLines s lines d now → IsKept d → IsKept now
kept_lines s [] d now is kept = subst IsKept (sym is) kept
kept_lines s (line ∷ lines) d now (mid, one, rest) kept = kept_lines s lines mid now rest (kept_line s line d mid one kept)

kept_drive : (s : Sizes) (machine : Machine) (lines : List DriveLine) (now : Drive) → machine.opens ≡ [] → Drives s machine lines now → IsKept now
kept_drive s machine lines now none drives =
    kept_drain s drives.mid now drives.end
    (kept_lines s lines (drive_begun machine) drives.mid drives.each
    (record { served = ap (λ (os : List OpenCommand). map serving (filter is_caller os)) (sym none); counted = IsPermutation-refl [] }))

-- ---- whole drives

-- at the end no caller waits
pub none_left : (s : Sizes) (machine : Machine) (lines : List DriveLine) (now : Drive) → machine.opens ≡ [] → Drives s machine lines now → now.callers ≡ []
none_left s machine lines now none drives =
    none_waits now.callers
    ((kept_drive s machine lines now none drives).served ∙ ap (λ (os : List OpenCommand). map serving (filter is_caller os)) (drained s drives.mid now drives.end))

numbers_same : (asked : List Asked) → numbers_of (numbered asked) ≡ numbers_asked asked
numbers_same [] = refl
numbers_same (a ∷ rest) = ap (λ (xs : List ℕ). a.number ∷ xs) (numbers_same rest)

-- and each request in range was answered once
pub all_answered : (s : Sizes) (machine : Machine) (lines : List DriveLine) (now : Drive) → machine.opens ≡ [] → Drives s machine lines now
    → IsPermutation (numbers_of (requests_of s 0 0 lines)) (numbers_answered now.answers)
all_answered s machine lines now none drives =
    let asked : numbers_asked now.asked ≡ numbers_of (requests_of s 0 0 lines) = sym (numbers_same now.asked) ∙ ap numbers_of (asked_of s machine lines now drives) in
    let answered : numbers_answered now.answers ++ numbers_asked now.callers ≡ numbers_answered now.answers =
    ap (λ (cs : List Asked). numbers_answered now.answers ++ numbers_asked cs) (none_left s machine lines now none drives) ∙ append-nil (numbers_answered now.answers) in
    subst (λ (xs : List ℕ). IsPermutation xs (numbers_answered now.answers)) asked
    (subst (IsPermutation (numbers_asked now.asked)) answered (kept_drive s machine lines now none drives).counted)

pub as_many : (s : Sizes) (machine : Machine) (lines : List DriveLine) (now : Drive) → machine.opens ≡ [] → Drives s machine lines now
    → length now.answers ≡ length (requests_of s 0 0 lines)
as_many s machine lines now none drives =
    let same = length_permutation (numbers_of (requests_of s 0 0 lines)) (numbers_answered now.answers) (all_answered s machine lines now none drives) in
    let answers = length-map now.answers (λ (a : Answered). a.number) in
    let requests = length-map (requests_of s 0 0 lines) (λ (r : Numbered). r.number) in
    omega (arith, same, answers, requests)
