-- What a run promises of its events and of the chip, from where its device was left.
use Rattle.std.proofs.Common.{◌≡◌, ℕ, ◌*◌, ◌-◌, ◌^◌, ◌<◌, ◌≤◌, min, List, [], ◌∷◌, ◌++◌, Option, Some, None, Result, sym, ◌∙◌, ap, subst, arith, inl, inr}
use Rattle.std.specs.Prelude.{Contains, Bool, true, false, not, ◌&&◌, ◌==◌}
use Rattle.std.proofs.Math.Nat.{mul-le-mul}
use Rattle.std.proofs.lemmas.Bool.Decides.{nat_tests}
use Rattle.std.specs.Io.KnownBytes.{prepend_known}
use Rattle.std.proofs.KnownBytes.{prepend_known-nil}
use Rattle.trace_text.specs.Lines.{EndsAt, WhereTold}
use Rattle.flash_pages.specs.declared.chip.Geometry.{Geometry}
use Rattle.flash_pages.specs.Chip.{Page, erased_count}
use Rattle.flash_pages.specs.Sound.{ChipOk}
use Rattle.flash_pages.specs.Unit.{current, unit_of, next_seq}
use Rattle.flat_unit.specs.declared.event.Event.TheVariants.{Reset}
use Rattle.flat_unit.specs.Causes.{FailuresAre}
use Rattle.flat_unit.specs.Contents.{block_at, candidates}
use Rattle.flat_unit.specs.History.{◌▹◌}
use Rattle.flat_unit.specs.Entries.{Told}
use Rattle.flat_unit.specs.Pages.{KeepsFresh}
use Rattle.flat_unit.specs.Replays.{Progress}
use Rattle.flat_unit.specs.Sizes.{Sizes}
use Rattle.flat_unit.specs.Stands.{First, Stands, StandsForeign}
use Rattle.flat_unit.proofs.standing.OneCall.{handed_back}
use Rattle.hpb_device.specs.Limits.{limits_of}
use Rattle.hpb_device.specs.Sizes.{sizes}
use Rattle.hpb_device.specs.Standing.{first_of, kept_of, sizes_of}
use Rattle.hpb_device.specs.declared.counts.Counts.{Counts}
use Rattle.hpb_device.specs.Advance.{IsSameStore}
use Rattle.hpb_device.specs.State.{DeviceState, IsSound}
use Rattle.replay_standing.specs.Standing.{AreCountsOf, ForeignStanding, HasCollected, OwnStanding, Standing, pages_in}
use Rattle.flash_store.specs.Index.{CanServe}
use Rattle.region_state.specs.Shape.{IsWithinLimits}
use Rattle.command_words.specs.Options.{cut_shape}
use Rattle.command_words.specs.Limits.{IsNamed}
use Rattle.trace_replay.specs.Beginning.{IsFresh, IsServedBy}
use Rattle.chip_image.specs.Load.{Loads}
use Rattle.chip_image.specs.declared.fault.ImageFault.{ImageFault}
use Rattle.trace_replay.specs.Programs.{ReplayIs}
use Rattle.trace_replay.specs.Serving.{Finds}
use Rattle.trace_replay.specs.Run.{RunIs}
use Rattle.trace_replay.specs.Showing.{ShowIs, ShowProgramIs}
use Rattle.flat_unit.specs.Counts.{Counted}
use Rattle.flat_unit.specs.Hints.{Hinted}
use Rattle.hpb_device.proofs.CountingCalls.{counted_of}
use Rattle.replay_standing.specs.Transcript.{AreCounts, AreCountsOn, FitTranscript, HasNoMore, IsChipOf, IsRefused, IsServed, IsTranscript, SendsUnready, has_page, sizes_on, unit_on}
use Rattle.command_words.specs.Words.{named_chip, named_unit}
use Rattle.region_state.specs.declared.shape.Shape.{Shape}
use Rattle.run_output.specs.declared.status.Status.{Status}
use Rattle.run_output.specs.declared.status.Status.TheVariants.{Done, BadLine, ReadFault, WriteFault, LongTrace, Usage, Memory, Geometry as BadGeometry, ChipFault, BadImage, BadCapture}
use Rattle.trace_replay.proofs.Runs.{ran_with}

-- what is said of a device's chip
pub record OnChip : Type 0 where
  pub geometry : Geometry
  pub luns : ℕ
  pub units : ℕ
  pub pages : List Page

abbrev pub chip_of : DeviceState → OnChip
chip_of device = record { geometry = device.store.geometry; luns = device.store.luns; units = device.store.units; pages = device.store.pages }

abbrev pub named_on : Shape → Geometry → List Page → OnChip
named_on shape geometry pages = record { geometry = geometry; luns = 1; units = shape.units; pages = pages }

module _ (start device : DeviceState) (shape : Shape) (geometry : Geometry) (pages : List Page) (faults : ℕ) (fresh : IsFresh start shape geometry pages faults) where
  pub fresh_sizes : sizes_of start ≡ sizes_on shape geometry
  fresh_sizes = λ i. sizes (fresh.luns i) (limits_of (fresh.shape_is i)) (fresh.geometry_is i)

  pub start_chip : chip_of start ≡ named_on shape geometry pages
  start_chip = λ i. record { geometry = fresh.geometry_is i; luns = fresh.luns i; units = fresh.units i; pages = fresh.pages_are i }

  -- the first moment, by the chip that was handed in
  abbrev first_on : First
  first_on = record { unit = unit_on shape pages; next = next_seq pages; free = erased_count pages }

  fresh_first : first_of start ≡ first_on
  fresh_first = λ i. record { unit = unit_of (fresh.luns i) (fresh.units i) (fresh.pages_are i); next = next_seq (fresh.pages_are i); free = erased_count (fresh.pages_are i) }

  -- a chip in the device's place
  device_chip : IsSameStore start.store device.store → chip_of device ≡ named_on shape geometry device.store.pages
  device_chip same = λ i. record { geometry = (same.geometry ∙ fresh.geometry_is) i; luns = (same.luns ∙ fresh.luns) i; units = (same.units ∙ fresh.units) i; pages = device.store.pages }

  -- where a device over a sound chip is left
  served : (p : Progress) → Standing start device p → OwnStanding start device p → IsServed shape geometry pages device.store.pages p
  served p at own =
      let sized : sizes_of device ≡ sizes_on shape geometry = at.sizes ∙ fresh_sizes in
      let kept = kept_of own.stands.erases device own.stands.tasks in
      let here : Stands (sizes_on shape geometry) first_on kept p.events =
      subst (λ (first : First). Stands (sizes_on shape geometry) first kept p.events) fresh_first
      (subst (λ (s : Sizes). Stands s (first_of start) kept p.events) sized own.stands.stands) in
      let chip = device_chip at.same in
      record {
        sound = here.sound;
        caused = here.caused;
        leaves_sound = subst (λ (c : OnChip). ChipOk c.geometry c.luns c.units c.pages) chip own.stands.sound;
        allowed = λ place inside.
            subst (λ (c : OnChip). Contains (candidates (sizes_on shape geometry) (unit_on shape pages) (p.events ▹ Reset) place)
            (block_at (sizes_on shape geometry) (unit_of c.luns c.units c.pages) place)) chip
            (handed_back (sizes_on shape geometry) first_on kept p.events here place inside);
        told = subst (λ (had : List Page). Told (sizes_on shape geometry) (geometry.blocks * geometry.pages) (has_page had) p.events) fresh.pages_are
            (subst (λ (n : ℕ). Told (sizes_on shape geometry) n (has_page start.store.pages) p.events) (ap (λ (g : Geometry). g.blocks * g.pages) fresh.geometry_is)
            (subst (λ (s : Sizes). Told s (pages_in start) (has_page start.store.pages) p.events) sized own.listings.told));
        entries = subst (λ (s : Sizes). KeepsFresh s (current device.store.pages) p.events) sized own.entries.fresh;
        collected = λ served enough.
            let collected = at.collected (at.ready served) in
            let same = ap (λ (c : OnChip). 2 * c.geometry.pages * (c.geometry.blocks * c.geometry.pages)) chip in
            subst (λ (c : OnChip). HasNoMore c.geometry c.pages) chip (no_more at.some_page p.collected (collected (some_left enough)) same enough);
      }
    where
      some_left : 2 * geometry.pages * (geometry.blocks * geometry.pages) ≤ p.collected → 0 < p.collected
      some_left enough =
          let all : 1 * 1 ≤ geometry.blocks * geometry.pages = mul-le-mul {n₁ = 1} {m₁ = 1} {n₂ = geometry.blocks} {m₂ = geometry.pages} fresh.some_block fresh.some_page in
          let twice : 2 * 1 ≤ 2 * geometry.pages = mul-le-mul {n₁ = 2} {m₁ = 1} {n₂ = 2} {m₂ = geometry.pages} (omega arith) fresh.some_page in
          let some : 2 * (1 * 1) ≤ 2 * geometry.pages * (geometry.blocks * geometry.pages) =
          mul-le-mul {n₁ = 2} {m₁ = 1 * 1} {n₂ = 2 * geometry.pages} {m₂ = geometry.blocks * geometry.pages} (omega (arith, twice)) all in
          omega (arith, some, enough)

      no_more : 1 ≤ start.store.geometry.pages → (count : ℕ) → HasCollected device count
          → 2 * device.store.geometry.pages * pages_in device ≡ 2 * geometry.pages * (geometry.blocks * geometry.pages) → 2 * geometry.pages * (geometry.blocks * geometry.pages) ≤ count
          → HasNoMore device.store.geometry device.store.pages
      no_more some count so_far same enough = so_far.over (elim so_far.fewer [ inl few ↦ omega (arith, few, same, enough) | inr none ↦ none ])

  -- where a device over any other chip is left
  refused : (p : Progress) → Standing start device p → ForeignStanding start device p → IsRefused shape geometry pages device.store.pages p
  refused p at foreign =
      let sized : sizes_of device ≡ sizes_on shape geometry = at.sizes ∙ fresh_sizes in
      let here : (first : First) → StandsForeign (sizes_on shape geometry) first (kept_of 0 device (foreign.stands first).tasks) p.events =
      λ first. subst (λ (s : Sizes). StandsForeign s first (kept_of 0 device (foreign.stands first).tasks) p.events) sized (foreign.stands first).stands in
      record {
        sound = λ unit. (here (record { unit = unit; next = 0; free = 0 })).sound;
        caused = (here (record { unit = []; next = next_seq pages; free = 0 })).caused;
        unready = subst (λ (s : Sizes). SendsUnready s p.events) fresh_sizes foreign.unready;
        stays = (foreign.stands (first_of start)).stays ∙ fresh.pages_are;
      }

  -- where a device is left is a transcript
  standing_transcript : (p : Progress) → Standing start device p → IsTranscript shape geometry faults device.store.faults pages device.store.pages p
  standing_transcript p at = record {
    plain = at.plain;
    hinted = subst (λ (s : Sizes). Hinted shape s p.events) (at.sizes ∙ fresh_sizes)
        (subst (λ (sh : Shape). Hinted sh (sizes_of device) p.events) (at.shape ∙ fresh.shape_is) at.hints.hinted);
    failures = subst (λ (n : ℕ). FailuresAre n device.store.faults p.events) fresh.faults_are at.faults;
    own = λ sound. elim at.chip [
      | inl own ↦ served p at own
      | inr foreign ↦ absurd (was_unsound foreign sound)
    ];
    foreign = λ unsound. elim at.chip [
      | inl own ↦ absurd (unsound (subst (λ (c : OnChip). ChipOk c.geometry c.luns c.units c.pages) start_chip own.was))
      | inr foreign ↦ refused p at foreign
    ];
  }
    where
      was_unsound : ForeignStanding start device p → IsChipOf shape geometry pages → ⊥
      was_unsound foreign sound =
          let here = foreign.stands (first_of start) in
          let back : named_on shape geometry pages ≡ chip_of device =
          sym (device_chip at.same ∙ ap (λ (c : List Page). named_on shape geometry c) (here.stays ∙ fresh.pages_are)) in
          here.unsound (subst (λ (c : OnChip). ChipOk c.geometry c.luns c.units c.pages) back sound)

pub left_transcript : (start now : DeviceState) (shape : Shape) (geometry : Geometry) (pages back : List Page) (faults faults_back : ℕ) (p : Progress) → IsFresh start shape geometry pages faults
    → back ≡ now.store.pages → faults_back ≡ now.store.faults → Standing start now p
    → IsTranscript shape geometry faults faults_back pages back p
left_transcript start now shape geometry pages back faults faults_back p fresh is_back is_faults at =
    rw (is_back, is_faults) (standing_transcript start now shape geometry pages faults fresh p at)

-- the counts of a device, by its chip at first
pub counts_of : (start now : DeviceState) (p : Progress) → Standing start now p → AreCountsOf start p now.counts
counts_of start now p at = record {
  steps = at.steps;
  fit = λ sound. elim at.chip [
    | inl own ↦ fit_of own
    | inr foreign ↦ absurd (was_unsound foreign sound)
  ];
  alone = λ unsound. elim at.chip [
    | inl own ↦ absurd (unsound own.was)
    | inr foreign ↦ foreign.counted
  ];
}
  where
    fit_of : OwnStanding start now p → FitTranscript (sizes_of start) (pages_in start) start.store.geometry.pages (erased_count start.store.pages) p.events now.counts
    fit_of own =
        let told = counted_of now (first_of start) p.events own.stands own.counted in (
          told.0,
          subst (λ (g : Geometry). Counted (sizes_of start) (g.blocks * g.pages) g.pages (erased_count start.store.pages) p.events told.0) at.same.geometry
              (subst (λ (s : Sizes). Counted s (pages_in now) now.store.geometry.pages (erased_count start.store.pages) p.events told.0) at.sizes told.1),
          told.2,
        )

    was_unsound : ForeignStanding start now p → IsSound start → ⊥
    was_unsound foreign sound =
        let here = foreign.stands (first_of start) in
        let back : chip_of start ≡ chip_of now = λ i. record { geometry = sym at.same.geometry i; luns = sym at.same.luns i; units = sym at.same.units i; pages = sym here.stays i } in
        here.unsound (subst (λ (c : OnChip). ChipOk c.geometry c.luns c.units c.pages) back sound)

-- what is said of the events may be weakened
pub run_shows : (s : Sizes) (good better : Progress → Type 0) (counted : Progress → Counts → Type 0) (left left_now w w_now : Option (List ℕ)) (limit : ℕ) (status : Status)
    → ((p : Progress) → good p → better p)
    → RunIs s good counted left left_now w w_now limit status → RunIs s better counted left left_now w w_now limit status
run_shows s good better counted left left_now w w_now limit Done leads (mid, n, ran, few, ends) = (mid, n, ran_with s left mid n _ _ ran (leads _ ran.shows.0, ran.shows.1), few, ends)
run_shows s good better counted left left_now w w_now limit (BadLine number) leads
    (mid, behind, n, ran, few, is, bad, ahead) = (mid, behind, n, ran_with s left mid n _ _ ran (leads _ ran.shows.0, ran.shows.1), few, is, bad, ahead)
run_shows s good better counted left left_now w w_now limit ReadFault leads (mid, n, ran, few, stops) = (mid, n, ran_with s left mid n _ _ ran (leads _ ran.shows.0, ran.shows.1), few, stops)
run_shows s good better counted left left_now w w_now limit LongTrace leads (mid, ran, more, ahead) = (mid, ran_with s left mid limit _ _ ran (leads _ ran.shows.0, ran.shows.1), more, ahead)
run_shows s good better counted left left_now w w_now limit WriteFault leads (mid, n, last, words, ran, well, cut) = (mid, n, last, words, ran, leads last well, cut)
run_shows s good better counted left left_now w w_now limit Usage leads none = absurd none
run_shows s good better counted left left_now w w_now limit Memory leads none = absurd none
run_shows s good better counted left left_now w w_now limit BadGeometry leads none = absurd none
run_shows s good better counted left left_now w w_now limit ChipFault leads none = absurd none
run_shows s good better counted left left_now w w_now limit (BadImage fault) leads none = absurd none
run_shows s good better counted left left_now w w_now limit (BadCapture offset fault) leads none = absurd none

-- a text that is at its end has nothing left in its source
pub ends_in_source : (mid : Option (List ℕ)) (held : List ℕ) (left : Option (List ℕ)) → WhereTold EndsAt mid (prepend_known held left) → WhereTold EndsAt mid left
ends_in_source None held left ends = tt
ends_in_source (Some text) held None ends = absurd ends
ends_in_source (Some text) [] (Some rest) ends = ends
ends_in_source (Some text) (x ∷ held) (Some rest) ends = absurd (is_none ends.1)
  where
    is_none : x ∷ (held ++ rest) ≡ [] → ⊥
    is_none is = cc

-- the promise of a replay, in terms of the chip
pub replay_of_chip : (unit : Shape) (geometry : Geometry) (start now : DeviceState) (pages back : List Page) (faults faults_back : ℕ) (left left_now w w_now : Option (List ℕ)) (held : List ℕ) (status : Status)
    → IsFresh start unit geometry pages faults → held ≡ [] → back ≡ now.store.pages → faults_back ≡ now.store.faults
    → RunIs (sizes_of start) (Standing start now) (AreCountsOf start) (prepend_known held left) left_now w w_now 1000000 status
    → ReplayIs unit geometry pages back faults faults_back left left_now w w_now status
replay_of_chip unit geometry start now pages back faults faults_back left left_now w w_now held status fresh none is_back is_faults run =
    let good : Progress → Type 0 = IsTranscript unit geometry faults faults_back pages back in
    let from : prepend_known held left ≡ left = ap (λ (l : List ℕ). prepend_known l left) none ∙ prepend_known-nil left in
    let counts = AreCountsOn unit geometry pages in
    let there : OnChip = named_on unit geometry pages in
    let sized : Sizes → (OnChip → Progress → Counts → Type 0) = λ s c. AreCounts s (c.geometry.blocks * c.geometry.pages) c.geometry.pages (erased_count c.pages)
    (ChipOk c.geometry c.luns c.units c.pages) in
    let run0 : RunIs (sizes_of start) (Standing start now) (sized (sizes_of start) there) left left_now w w_now 1000000 status =
    subst (λ (c : OnChip). RunIs (sizes_of start) (Standing start now) (sized (sizes_of start) c) left left_now w w_now 1000000 status) (start_chip start now unit geometry pages faults fresh)
    (subst (λ (l : Option (List ℕ)). RunIs (sizes_of start) (Standing start now) (AreCountsOf start) l left_now w w_now 1000000 status) from run) in
    let run1 : RunIs (sizes_on unit geometry) (Standing start now) counts left left_now w w_now 1000000 status =
    subst (λ (s : Sizes). RunIs s (Standing start now) (sized s there) left left_now w w_now 1000000 status) (fresh_sizes start now unit geometry pages faults fresh) run0 in
    run_shows (sizes_on unit geometry) (Standing start now) good counts left left_now w w_now 1000000 status
    (λ p at. left_transcript start now unit geometry pages back faults faults_back p fresh is_back is_faults at) run1

-- what was shown of a text that comes from a source alone
pub show_from_source : (left left_now w w_now : Option (List ℕ)) (held : List ℕ) (limit : ℕ) (status : Status) → held ≡ []
    → ShowIs (prepend_known held left) left_now w w_now limit status → ShowProgramIs left left_now w w_now limit status
show_from_source left left_now w w_now held limit status none is =
    show_by_status left left_now w w_now limit status
    (subst (λ (l : Option (List ℕ)). ShowIs l left_now w w_now limit status) (ap (λ (l : List ℕ). prepend_known l left) none ∙ prepend_known-nil left) is)
  where
    show_by_status : (left left_now w w_now : Option (List ℕ)) (limit : ℕ) (status : Status) → ShowIs left left_now w w_now limit status → ShowProgramIs left left_now w w_now limit status
    show_by_status left left_now w w_now limit Memory is = absurd is
    show_by_status left left_now w w_now limit _ is = is

uncut : (shape : Shape) → shape.units ≤ 2 ^ 32 - 1 → shape.region_exp ≤ 255 → shape.sub_exp ≤ 255 → shape.held ≤ 255 → cut_shape shape ≡ shape
uncut shape units region sub held =
    let units_same : min shape.units (2 ^ 32 - 1) ≡ shape.units = omega (arith, units) in
    let region_same : min shape.region_exp 255 ≡ shape.region_exp = omega (arith, region) in
    let sub_same : min shape.sub_exp 255 ≡ shape.sub_exp = omega (arith, sub) in
    let held_same : min shape.held 255 ≡ shape.held = omega (arith, held) in
    λ i. record { units = units_same i; region_exp = region_same i; sub_exp = sub_same i; held = held_same i; mode = shape.mode }

-- a shape whose numbers are within their limits isn't cut

pub cut_within : (shape : Shape) → IsWithinLimits shape → cut_shape shape ≡ shape
cut_within shape limits = uncut shape (omega (arith, limits.units)) (omega (arith, limits.region)) (omega (arith, limits.region, limits.a_subregion_in_a_region)) (omega (arith, limits.held))

pub within_cut : (shape : Shape) → IsWithinLimits (cut_shape shape) → cut_shape shape ≡ shape
within_cut shape limits = uncut shape (omega (arith, limits.units)) (omega (arith, limits.region)) (omega (arith, limits.region, limits.a_subregion_in_a_region)) (omega (arith, limits.held))

-- what the device says of the shape that was cut, of the shape that the words name

pub serves_unit : (chip geometry : Geometry) (unit cut : Shape) → cut ≡ cut_shape unit → geometry ≡ chip → IsWithinLimits cut × CanServe geometry 1 cut.units
    → IsServedBy chip unit geometry × (cut ≡ unit)
serves_unit chip geometry unit cut cut_is same (limits, serves) =
    let is : cut ≡ unit = cut_is ∙ within_cut unit (subst IsWithinLimits cut_is limits) in
    ((same, subst IsWithinLimits is limits, subst (λ (s : Shape). CanServe geometry 1 s.units) is serves), is)

pub serves_no_unit : (chip geometry : Geometry) (unit cut : Shape) → cut ≡ cut_shape unit → ¬ (IsWithinLimits cut × CanServe geometry 1 cut.units) → ¬ IsServedBy chip unit geometry
serves_no_unit chip geometry unit cut cut_is none (same, limits, serves) =
    let is : unit ≡ cut = sym (cut_is ∙ cut_within unit limits) in
    none (subst IsWithinLimits is limits, subst (λ (s : Shape). CanServe geometry 1 s.units) is serves)

-- a chip that serves what the words name is the named one
pub names_served : (words : List (List ℕ)) (chip geometry : Geometry) → chip ≡ named_chip words → IsServedBy chip (named_unit words) geometry → IsNamed words geometry
names_served words chip geometry is served = subst (λ (c : Geometry). IsServedBy c (named_unit words) geometry) is served

pub serves_named : (words : List (List ℕ)) (chip geometry : Geometry) → chip ≡ named_chip words → IsNamed words geometry → IsServedBy chip (named_unit words) geometry
serves_named words chip geometry is named = subst (λ (c : Geometry). IsServedBy c (named_unit words) geometry) (sym is) named

-- a test of two geometries

pub same_chip : (a b : Geometry) (differs : Bool) → differs ≡ not (a.blocks == b.blocks && a.pages == b.pages) → differs ≡ false → a ≡ b
same_chip a b differs test none =
    let blocks : a.blocks ≡ b.blocks = grind (arith, nat_tests) in
    let pages : a.pages ≡ b.pages = grind (arith, nat_tests) in
    λ i. record { blocks = blocks i; pages = pages i }

pub other_chip : (a b : Geometry) (differs : Bool) → differs ≡ not (a.blocks == b.blocks && a.pages == b.pages) → differs ≡ true → a ≡ b → ⊥
other_chip a b differs test some same =
    let blocks : a.blocks ≡ b.blocks = ap (λ (g : Geometry). g.blocks) same in
    let pages : a.pages ≡ b.pages = ap (λ (g : Geometry). g.pages) same in
    absurd (grind (arith, nat_tests))

-- what was loaded, in terms of the chip that was handed in
pub loads_over : (geometry over : Geometry) (old pages new back : List Page) (left left_now : Option (List ℕ)) (r : Result (Unit {0}) ImageFault) → over ≡ geometry → old ≡ pages → back ≡ new
    → Loads over old new left left_now r → Loads geometry pages back left left_now r
loads_over geometry over old pages new back left left_now r geometry_is pages_are back_is loads =
    subst (λ (b : List Page). Loads geometry pages b left left_now r) (sym back_is)
    (subst (λ (p : List Page). Loads geometry p new left left_now r) pages_are (subst (λ (x : Geometry). Loads x old new left left_now r) geometry_is loads))

pub finds_over : (imaged : Bool) (geometry over : Geometry) (old pages new : List Page) (left left_now : Option (List ℕ)) → over ≡ geometry → old ≡ pages
    → Finds imaged over old new left left_now → Finds imaged geometry pages new left left_now
finds_over imaged geometry over old pages new left left_now geometry_is pages_are finds =
    subst (λ (p : List Page). Finds imaged geometry p new left left_now) pages_are (subst (λ (x : Geometry). Finds imaged x old new left left_now) geometry_is finds)
