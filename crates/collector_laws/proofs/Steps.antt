-- Each step that is not idle lowers what is left to do.
use Rattle.std.proofs.Common.{◌≡◌, ◌≢◌, ◌+◌, ◌-◌, ◌*◌, ◌^◌, ◌<◌, ◌≤◌, ◌⊎◌, ℕ, List, [], ◌∷◌, ◌++◌, zero, suc, true}
use Rattle.std.proofs.Common.{false, cond, nat_eq, length, get_or, set, take, drop, replicate, count_by, Option, None}
use Rattle.std.proofs.Common.{Some, MatchOption, refl, sym, ap, ◌∙◌, subst, inl, inr, arith}
use Rattle.std.specs.Option.{option_map_or, option_or}
use Rattle.std.proofs.lemmas.List.{length-set, length-append, length-take-le, length-drop, length-replicate}
use Rattle.std.proofs.lemmas.List.Sums.{sum_by-append, sum_by-le-sum_by, count_by-le-length}
use Rattle.std.proofs.lemmas.Bool.{cases_lt, eqb-true, eq-eqb, both_ways}
use Rattle.flash_pages.specs.declared.chip.Geometry.{Geometry}
use Rattle.flash_pages.specs.declared.chip.Spare.{Spare}
use Rattle.flash_pages.specs.Chip.{Page, Erased, Written, page_at, is_erased, erased_count, erased_between, erase_block, IsWithinLimits}
use Rattle.flash_pages.specs.Place.{Place}
use Rattle.flash_pages.specs.Unit.{current, next_seq}
use Rattle.flash_pages.specs.Sound.{is_current, current_count, IsFull, HasRoom, IsNewest}
use Rattle.flash_pages.proofs.Programming.{current-inside, erased_count-programmed}
use Rattle.page_validity.specs.ValidPages.{block_part}
use Rattle.page_validity.proofs.BlockParts.{block_part-set_other, get_or-block_part}
use Rattle.page_validity.proofs.FirstBetween.{IsFirst, first_between-some, first_between-none}
use Rattle.collector_laws.specs.Changes.{is_kept, kept_count, stale_count, waiting, left_with, room_with}
use Rattle.collector_laws.specs.CollectStep.{Buffered, CollectState, Idle, chip_victim, is_current_at, first_current}
use Rattle.collector_laws.specs.CollectStep.{place_named, buffered, if_current, fresh, programmed, programmed_at}
use Rattle.collector_laws.specs.CollectStep.{read_or_erase, copy_or_read, step_with, collect_step, collected, IsInBlock}
use Rattle.collector_laws.specs.CollectStep.{IsHeld, IsBuffer, IsCollectable}
use Rattle.collector_laws.proofs.Flags.{newest-current, flag-newest, newest-flag, current-newest, one_newest-after}
use Rattle.collector_laws.proofs.Counts.{kept_count-programmed, current_count-programmed, kept_count-erased}
use Rattle.collector_laws.proofs.Counts.{erased_count-erased, one_newest-erased, count_by-part, count_by-none}
use Rattle.collector_laws.proofs.Counts.{count_by-some, count_by-cons}
use Rattle.collector_laws.proofs.Room.{whole, length-part, HasFrontier, frontier_found, chosen}

abbrev pub left : Geometry → CollectState → ℕ
left geometry s = left_with geometry s.chip s.buffer s.victim

-- a buffer that is still current is the victim's
pub record IsFresh (geometry : Geometry) (chip : List Page) (victim : Option ℕ) (held : Buffered) : Type 0 where
  pub is_current : current chip held.place ≡ Some held.page
  pub of_victim : MatchOption victim ⊥ (λ block. IsInBlock geometry block held.page)

-- what the steps need, and keep
pub record IsRunning (geometry : Geometry) (chip : List Page) (victim : Option ℕ) (buffer : Option Buffered) : Type 0 where
  pub within : IsWithinLimits geometry
  pub count : length chip ≡ geometry.blocks * geometry.pages
  pub one_newest : (site : Place) (m n : ℕ) → IsNewest chip site m → IsNewest chip site n → m ≡ n
  pub room : HasRoom geometry chip
  pub victim_held : MatchOption victim (Unit {0}) (IsHeld geometry chip)
  pub buffer_fresh : MatchOption (fresh chip buffer) (Unit {0}) (IsFresh geometry chip victim)

abbrev pub Runs : Geometry → CollectState → Type 0
Runs geometry s = IsRunning geometry s.chip s.victim s.buffer

-- in a list with no erased page the current pages are the kept ones
kept-full : (chip xs : List Page) → count_by is_erased xs ≡ 0 → count_by (is_kept chip) xs ≡ count_by (is_current chip) xs
kept-full chip [] none = refl
kept-full chip (Erased ∷ xs) none = absurd (omega (arith, none, sum_by-append (λ p. cond (is_erased p) 1 0) (Erased ∷ []) xs))
kept-full chip (Written bytes spare ∷ xs) none =
    let page = Written bytes spare in
    let rest : count_by is_erased xs ≡ 0 = omega (arith, none, sum_by-append (λ p. cond (is_erased p) 1 0) (page ∷ []) xs) in
    count_by-cons (is_kept chip) page xs
    ∙ ap (λ n. cond (is_current chip page) 1 0 + n) (kept-full chip xs rest)
    ∙ sym (count_by-cons (is_current chip) page xs)

-- a full block, with its current pages, has at most the stale ones
full_block : (geometry : Geometry) (chip : List Page) → IsWithinLimits geometry → length chip ≡ geometry.blocks * geometry.pages → (block : ℕ) → block < geometry.blocks → IsFull geometry chip block
    → geometry.pages ≤ stale_count chip + current_count geometry chip block
full_block geometry chip within count block below full =
    omega (
      arith,
      count_by-part (is_kept chip) chip (block * geometry.pages) geometry.pages,
      length-part geometry chip within count block below,
      kept-full chip
          (block_part geometry.pages chip block) full,
    )

-- a kept page is counted
erased-le-kept : (chip : List Page) → erased_count chip ≤ kept_count chip
erased-le-kept chip = sum_by-le-sum_by (λ p. cond (is_erased p) 1 0) (λ p. cond (is_kept chip p) 1 0) chip each
  where
    each : (p : Page) → cond (is_erased p) 1 0 ≤ cond (is_kept chip p) 1 0
    each Erased = omega arith
    each (Written bytes spare) = omega arith

pub record IsLower (geometry : Geometry) (most before : ℕ) (s : CollectState) : Type 0 where
  pub runs : Runs geometry s
  pub lower : left geometry s < most
  -- and so is what is left until there is room, or there is room now
  pub sooner : ((geometry.pages < erased_count s.chip) × (0 < before)) ⊎ (room_with geometry s.chip s.buffer s.victim < before)

module _ (geometry : Geometry) (chip : List Page) (victim : ℕ) (buffer : Option Buffered) (running : IsRunning geometry chip (Some victim) buffer) where
  abbrev pages : ℕ
  pages = geometry.pages

  abbrev held_at : IsHeld geometry chip victim
  held_at = running.victim_held

  abbrev most : ℕ
  most = left_with geometry chip buffer (Some victim)

  abbrev before : ℕ
  before = room_with geometry chip buffer (Some victim)

  fills : geometry.pages ≤ stale_count chip + current_count geometry chip victim
  fills = full_block geometry chip running.within running.count victim held_at.in_range held_at.full

  -- the buffer's page is copied
  pub copied : (held : Buffered) → fresh chip buffer ≡ Some held → IsFresh geometry chip (Some victim) held → IsLower geometry most before (copy_or_read geometry chip victim (Some held)).state
  copied held is_fresh at =
      let front : HasFrontier geometry chip running.within running.count = frontier_found geometry chip running.within running.count (omega (arith, held_at.room)) in
      let page = front.page in
      let spare : Spare = record { lun = held.place.lun; lba = held.place.lba; seq = next_seq chip } in
      let after : List Page = set chip page (Written held.bytes spare) in
      let is_after : programmed geometry chip held.place held.bytes ≡ after = ap (programmed_at chip held.place held.bytes) front.is in
      let old_inside : held.page < length chip = current-inside chip held.place held.page at.is_current in
      let outside : (page < victim * pages) ⊎ (victim * pages + pages ≤ page) = elim (cases_lt page (victim * pages)) [
        | inl before ↦ inl before
        | inr above ↦ elim (cases_lt page (victim * pages + pages)) [
          | inr past ↦ inr past
          | inl within ↦ absurd (not_erased page above within front.erased)
        ]
      ] in
      let kept : kept_count after + 1 ≡ kept_count chip = kept_count-programmed chip page held.bytes spare front.inside front.erased refl held.page running.one_newest at.is_current old_inside in
      let current_less : current_count geometry after victim + 1 ≡ current_count geometry chip victim =
      current_count-programmed chip page held.bytes spare front.inside front.erased refl held.page running.one_newest at.is_current old_inside pages victim at.of_victim.0 at.of_victim.1
      (whole geometry chip running.within running.count victim held_at.in_range) outside in
      let erased_less : erased_count chip ≡ erased_count after + 1 = erased_count-programmed chip page held.bytes spare front.inside front.erased in
      let size : length after ≡ length chip = length-set chip page (Written held.bytes spare) in
      let full : IsFull geometry after victim = ap (count_by is_erased) (block_part-set_other pages chip victim page (Written held.bytes spare) outside) ∙ held_at.full in
      let few : kept_count chip ≤ length chip = count_by-le-length (is_kept chip) chip in
      let same : stale_count after + current_count geometry after victim - pages ≡ stale_count chip + current_count geometry chip victim - pages = omega (arith, kept, current_less, size, few) in
      let product : 2 * pages * (stale_count after + current_count geometry after victim - pages) ≡ 2 * pages * (stale_count chip + current_count geometry chip victim - pages) =
      ap (λ n. 2 * pages * n) same in
      let wait : waiting (fresh chip buffer) ≡ 0 = ap waiting is_fresh in
      subst (λ c. IsLower geometry most before (record { chip = c; victim = Some victim; buffer = None })) (sym is_after)
      (record {
        runs = record {
          within = running.within;
          count = size ∙ running.count;
          one_newest = one_newest-after chip page held.bytes spare front.inside front.erased refl running.one_newest;
          room = inr (victim, held_at.in_range, full, omega (arith, current_less, erased_less, held_at.room));
          victim_held = record { in_range = held_at.in_range; full = full; gains = omega (arith, current_less, held_at.gains); room = omega (arith, current_less, erased_less, held_at.room) };
          buffer_fresh = tt;
        };
        lower = omega (arith, product, current_less, wait);
        sooner = inr (omega (arith, current_less, wait));
      })
    where
      not_erased : (page : ℕ) → victim * pages ≤ page → page < victim * pages + pages → page_at chip page ≡ Erased → ⊥
      not_erased page above below erased =
          let i = page - victim * pages in
          let place : victim * pages + i ≡ page = omega arith in
          let at_part : get_or (block_part pages chip victim) i Erased ≡ Erased = get_or-block_part pages chip victim i Erased (omega arith) ∙ ap (page_at chip) place ∙ erased in
          omega (
            arith,
            held_at.full,
            count_by-some is_erased Erased (block_part pages chip victim) i (omega (arith, length-part geometry chip running.within running.count victim held_at.in_range))
                (ap is_erased at_part),
          )

  -- the victim's next current page is read
  pub read : fresh chip buffer ≡ None → (page : ℕ) → first_current geometry chip victim ≡ Some page → IsLower geometry most before (read_or_erase geometry chip victim (Some page)).state
  read none page is =
      let first : IsFirst (victim * pages) (victim * pages + pages) (is_current_at chip) page = first_between-some (victim * pages) (victim * pages + pages) (is_current_at chip) page is in
      let own : current chip (place_named (page_at chip page)) ≡ Some page = newest-current chip running.one_newest (place_named (page_at chip page)) page (flag-newest chip page first.passed) in
      let now_fresh : fresh chip (Some (buffered chip page)) ≡ Some (buffered chip page) =
      ap (λ o. if_current (option_map_or (nat_eq page) o false) (buffered chip page)) own
      ∙ ap (λ t. if_current t (buffered chip page)) (eq-eqb page page refl) in
      let wait : waiting (fresh chip (Some (buffered chip page))) ≡ 0 = ap waiting now_fresh in
      let wait_before : waiting (fresh chip buffer) ≡ 1 = ap waiting none in
      record {
        runs = record {
          within = running.within;
          count = running.count;
          one_newest = running.one_newest;
          room = running.room;
          victim_held = held_at;
          buffer_fresh = subst (λ o. MatchOption o (Unit {0}) (IsFresh geometry chip (Some victim))) (sym now_fresh) (record { is_current = own; of_victim = (first.from, first.below) });
        };
        lower = omega (arith, wait, wait_before);
        sooner = inr (omega (arith, wait, wait_before));
      }

  -- the victim is erased
  pub freed : fresh chip buffer ≡ None → first_current geometry chip victim ≡ None → IsLower geometry most before (read_or_erase geometry chip victim None).state
  freed none_fresh none =
      let first = victim * pages in
      let inside : first + pages ≤ length chip = whole geometry chip running.within running.count victim held_at.in_range in
      let no_flag : (page : ℕ) → first ≤ page → page < first + pages → is_current_at chip page ≡ false = first_between-none first (first + pages) (is_current_at chip) none in
      let no_current : current_count geometry chip victim ≡ 0 = count_by-none (is_current chip) Erased (block_part pages chip victim) (λ i below.
      let short : i < pages = omega (arith, below, length-part geometry chip running.within running.count victim held_at.in_range) in
      ap (is_current chip) (get_or-block_part pages chip victim i Erased short) ∙ no_flag (first + i) (omega arith) (omega arith)) in
      let none_current : (site : Place) (page : ℕ) → first ≤ page → page < first + pages → current chip site ≢ Some page = λ site page above below is.
      both_ways (is_current_at chip page) (no_flag page above below) (newest-flag chip site page (current-newest chip site page is)).0 in
      let no_kept : count_by (is_kept chip) (block_part pages chip victim) ≡ 0 = kept-full chip (block_part pages chip victim) held_at.full ∙ no_current in
      let gone : List Page = erase_block chip pages victim in
      let kept : kept_count gone ≡ kept_count chip + pages = kept_count-erased chip first pages inside none_current no_kept in
      let erased : erased_count gone ≡ erased_count chip + pages = erased_count-erased chip first pages inside held_at.full in
      let size : length gone ≡ length chip = length-erased chip first pages inside in
      let same : stale_count gone ≡ stale_count chip + current_count geometry chip victim - pages = omega (arith, kept, size, no_current) in
      let product : 2 * pages * stale_count gone ≡ 2 * pages * (stale_count chip + current_count geometry chip victim - pages) = ap (λ n. 2 * pages * n) same in
      let wait : waiting (fresh chip buffer) ≡ 1 = ap waiting none_fresh in
      record {
        runs = record {
          within = running.within;
          count = size ∙ running.count;
          one_newest = one_newest-erased chip first pages inside none_current running.one_newest;
          room = inl (omega (arith, erased));
          victim_held = tt;
          buffer_fresh = tt;
        };
        lower = omega (arith, product, wait);
        sooner = inl (omega (arith, erased, held_at.room), omega (arith, wait));
      }
    where
      length-erased : (chip : List Page) (first len : ℕ) → first + len ≤ length chip → length (erased_between chip first (first + len)) ≡ length chip
      length-erased chip first len inside =
          length-append (take first chip ++ replicate (first + len - first) Erased) (drop (first + len) chip)
          ∙ omega (
            arith,
            length-append (take first chip) (replicate (first + len - first) Erased),
            length-take-le first chip (omega arith),
            length-replicate (first + len - first) Erased,
            length-drop
                (first + len) chip,
          )

  -- a step with the victim held
  pub with_victim : IsLower geometry most before (copy_or_read geometry chip victim (fresh chip buffer)).state
  with_victim =
      elim (fresh chip buffer)
      as (λ o. (fresh chip buffer ≡ o) → IsLower geometry most before (copy_or_read geometry chip victim o).state) [
        | Some held ↦ λ is. copied held is (subst (λ o. MatchOption o (Unit {0}) (IsFresh geometry chip (Some victim))) is running.buffer_fresh)
        | None ↦ λ none.
            elim (first_current geometry chip victim)
            as (λ o. (first_current geometry chip victim ≡ o) → IsLower geometry most before (read_or_erase geometry chip victim o).state) [
              | Some page ↦ read none page
              | None ↦ freed none
            ] refl
      ] refl

multiples : (a b n : ℕ) → a ≤ b → n * a ≤ n * b
multiples a b n order = grind arith

-- the victim is chosen: what is left falls already
pub choose : (geometry : Geometry) (chip : List Page) (buffer : Option Buffered) → IsRunning geometry chip None buffer → (victim : ℕ) → chip_victim geometry chip ≡ Some victim
    → IsRunning geometry chip (Some victim) buffer × (left_with geometry chip buffer (Some victim) ≤ left_with geometry chip buffer None)
    × (room_with geometry chip buffer (Some victim) ≤ room_with geometry chip buffer None)
choose geometry chip buffer running victim is =
    let held : IsHeld geometry chip victim × (current_count geometry chip victim < geometry.pages) = chosen geometry chip running.within running.count running.room victim is in
    let no_buffer : fresh chip buffer ≡ None =
    elim (fresh chip buffer)
    as (λ o. MatchOption o (Unit {0}) (IsFresh geometry chip None) → o ≡ None) [
      | None ↦ λ _. refl
      | Some other ↦ λ at. absurd at.of_victim
    ] running.buffer_fresh in
    let fills : geometry.pages ≤ stale_count chip + current_count geometry chip victim = full_block geometry chip running.within running.count victim held.0.in_range held.0.full in
    let wait : waiting (fresh chip buffer) ≡ 1 = ap waiting no_buffer in (
      record {
        within = running.within;
        count = running.count;
        one_newest = running.one_newest;
        room = running.room;
        victim_held = held.0;
        buffer_fresh = subst (λ o. MatchOption o (Unit {0}) (IsFresh geometry chip (Some victim))) (sym no_buffer) tt;
      },
      falls geometry.pages (stale_count chip) (current_count geometry chip victim) (waiting (fresh chip buffer)) held.1 fills wait,
      omega (arith, held.1, wait),
    )
  where
    falls : (pages stale copies wait : ℕ) → copies < pages → pages ≤ stale + copies → wait ≡ 1 → 2 * pages * (stale + copies - pages) + 2 * copies + wait ≤ 2 * pages * stale
    falls pages stale copies wait few fills is_one =
        let less : stale + copies - pages + 1 ≤ stale = omega arith in
        let products : 2 * pages * (stale + copies - pages + 1) ≤ 2 * pages * stale = multiples (stale + copies - pages + 1) stale (2 * pages) less in
        omega (arith, products)

-- a step is idle and changes nothing, or it lowers what is left
pub step_lowers : (geometry : Geometry) (s : CollectState) → Runs geometry s
    → (collect_step geometry s ≡ record { did = Idle; state = s }) ⊎ IsLower geometry (left geometry s) (room_with geometry s.chip s.buffer s.victim) (collect_step geometry s).state
step_lowers geometry s runs =
    elim (nat_eq (next_seq s.chip) (2 ^ 62))
    as (λ t. (cond t (record { did = Idle; state = s }) (step_with geometry s (option_or s.victim (chip_victim geometry s.chip))) ≡ record { did = Idle; state = s })
    ⊎ IsLower geometry (left geometry s) (room_with geometry s.chip s.buffer s.victim)
    (cond t (record { did = Idle; state = s }) (step_with geometry s (option_or s.victim (chip_victim geometry s.chip)))).state) [
      | true ↦ inl refl
      | false ↦
          elim s.victim
          as (λ v. (s.victim ≡ v) → (step_with geometry s (option_or v (chip_victim geometry s.chip)) ≡ record { did = Idle; state = s })
          ⊎ IsLower geometry (left_with geometry s.chip s.buffer v) (room_with geometry s.chip s.buffer v) (step_with geometry s (option_or v (chip_victim geometry s.chip))).state) [
            | Some victim ↦ λ is. inr (with_victim geometry s.chip victim s.buffer (subst (λ v. IsRunning geometry s.chip v s.buffer) is runs))
            | None ↦ λ is.
                elim (chip_victim geometry s.chip)
                as (λ o. (chip_victim geometry s.chip ≡ o) → (step_with geometry s o ≡ record { did = Idle; state = s })
                ⊎ IsLower geometry (left_with geometry s.chip s.buffer None) (room_with geometry s.chip s.buffer None) (step_with geometry s o).state) [
                  | None ↦ λ _. inl refl
                  | Some victim ↦ λ chosen_is.
                      let ready = choose geometry s.chip s.buffer (subst (λ v. IsRunning geometry s.chip v s.buffer) is runs) victim chosen_is in
                      let next : IsLower geometry (left_with geometry s.chip s.buffer (Some victim)) (room_with geometry s.chip s.buffer (Some victim)) (step_with geometry s (Some victim)).state =
                      with_victim geometry s.chip victim s.buffer ready.0 in
                      inr (record {
                        runs = next.runs;
                        lower = omega (arith, next.lower, ready.1);
                        sooner = elim next.sooner [
                          | inl room ↦ inl (room.0, omega (arith, room.1, ready.2))
                          | inr less ↦ inr (omega (arith, less, ready.2))
                        ];
                      })
                ] refl
          ] refl
    ]

-- an idle step is followed by idle steps
collected-idle : (geometry : Geometry) (n : ℕ) (s : CollectState) → collect_step geometry s ≡ record { did = Idle; state = s } → collected geometry n s ≡ s
collected-idle geometry zero s idle = refl
collected-idle geometry (suc n) s idle = ap (λ step. collected geometry n step.state) idle ∙ collected-idle geometry n s idle

pub ends_idle : (geometry : Geometry) (n : ℕ) (s : CollectState) → Runs geometry s → left geometry s ≤ n → (collect_step geometry (collected geometry n s)).did ≡ Idle
ends_idle geometry zero s runs few =
    elim (step_lowers geometry s runs) [
      | inl idle ↦ ap (λ step. step.did) idle
      | inr lower ↦ absurd (omega (arith, lower.lower))
    ]
ends_idle geometry (suc n) s runs few =
    elim (step_lowers geometry s runs) [
      | inl idle ↦ ap (λ t. (collect_step geometry t).did) (collected-idle geometry (suc n) s idle) ∙ ap (λ step. step.did) idle
      | inr lower ↦ ends_idle geometry n (collect_step geometry s).state lower.runs (omega (arith, lower.lower))
    ]

squares : (pages : ℕ) → 1 ≤ pages → 1 * pages ≤ pages * pages
squares pages some = grind arith

idle_at : (pages stale all : ℕ) → 1 ≤ pages → 2 * pages * (stale + 1) ≤ all → 2 * pages * stale + 1 ≤ all
idle_at pages stale all some products = omega arith

busy_at : (pages rest copies wait all : ℕ) → 1 ≤ pages → copies ≤ pages → wait ≤ 1 → 2 * pages * (rest + 1 + pages) ≤ all → 2 * pages * rest + 2 * copies + wait + 1 ≤ all
busy_at pages rest copies wait all some few once products =
    let square : 1 * pages ≤ pages * pages = squares pages some in
    omega (arith, square)

-- what is left at the beginning
pub left-most : (geometry : Geometry) (s : CollectState) → Runs geometry s → left geometry s + 1 ≤ 2 * geometry.pages * (geometry.blocks * geometry.pages)
left-most geometry s runs = most s.victim runs.victim_held
  where
    room : 0 < erased_count s.chip
    room = elim runs.room [ inl many ↦ omega (arith, many, runs.within.least_pages) | inr other ↦ omega (arith, other.3) ]

    waits : (o : Option Buffered) → waiting o ≤ 1
    waits None = omega arith
    waits (Some held) = omega arith

    most : (victim : Option ℕ) → MatchOption victim (Unit {0}) (IsHeld geometry s.chip) → left_with geometry s.chip s.buffer victim + 1 ≤ 2 * geometry.pages * (geometry.blocks * geometry.pages)
    most None _ =
        let few : kept_count s.chip ≤ length s.chip = count_by-le-length (is_kept s.chip) s.chip in
        let less : stale_count s.chip + 1 ≤ geometry.blocks * geometry.pages = omega (arith, room, erased-le-kept s.chip, few, runs.count) in
        let products : 2 * geometry.pages * (stale_count s.chip + 1) ≤ 2 * geometry.pages * (geometry.blocks * geometry.pages) =
        multiples (stale_count s.chip + 1) (geometry.blocks * geometry.pages) (2 * geometry.pages) less in
        idle_at geometry.pages (stale_count s.chip) (2 * geometry.pages * (geometry.blocks * geometry.pages)) (omega (arith, runs.within.least_pages)) products
    most (Some victim) held =
        let few : kept_count s.chip ≤ length s.chip = count_by-le-length (is_kept s.chip) s.chip in
        let copies = current_count geometry s.chip victim in
        let fills : geometry.pages ≤ stale_count s.chip + copies = full_block geometry s.chip runs.within runs.count victim held.in_range held.full in
        let copies_few : copies ≤ geometry.pages = omega (
          arith,
          count_by-le-length (is_current s.chip)
              (block_part geometry.pages s.chip victim),
          length-part geometry s.chip runs.within runs.count victim held.in_range,
        ) in
        let less : stale_count s.chip + copies - geometry.pages + 1 + geometry.pages ≤ geometry.blocks * geometry.pages = omega (arith, held.room, erased-le-kept s.chip, few, runs.count, fills) in
        let products : 2 * geometry.pages * (stale_count s.chip + copies - geometry.pages + 1 + geometry.pages) ≤ 2 * geometry.pages * (geometry.blocks * geometry.pages) =
        multiples (stale_count s.chip + copies - geometry.pages + 1 + geometry.pages) (geometry.blocks * geometry.pages) (2 * geometry.pages) less in
        busy_at geometry.pages (stale_count s.chip + copies - geometry.pages) copies (waiting (fresh s.chip s.buffer)) (2 * geometry.pages * (geometry.blocks * geometry.pages))
        (omega (arith, runs.within.least_pages)) copies_few (waits (fresh s.chip s.buffer)) products

-- the fresh buffer of a collectable state
pub fresh-buffer : (geometry : Geometry) (chip : List Page) (victim : Option ℕ) (buffer : Option Buffered) → MatchOption buffer (Unit {0}) (IsBuffer geometry chip victim)
    → MatchOption (fresh chip buffer) (Unit {0}) (IsFresh geometry chip victim)
fresh-buffer geometry chip victim None at = tt
fresh-buffer geometry chip victim (Some held) at =
    elim (current chip held.place)
    as (λ o. (current chip held.place ≡ o) → MatchOption (if_current (option_map_or (nat_eq held.page) o false) held) (Unit {0}) (IsFresh geometry chip victim)) [
      | None ↦ λ _. tt
      | Some page ↦ λ is.
          elim (nat_eq held.page page)
          as (λ t. (nat_eq held.page page ≡ t) → MatchOption (if_current t held) (Unit {0}) (IsFresh geometry chip victim)) [
            | false ↦ λ _. tt
            | true ↦ λ same.
                let own : current chip held.place ≡ Some held.page = is ∙ ap Some (sym (eqb-true held.page page same)) in
                record { is_current = own; of_victim = at.of_victim }
          ] refl
    ] refl

-- a collectable state runs
pub runs_from : (geometry : Geometry) (luns units : ℕ) (s : CollectState) → IsCollectable geometry luns units s → Runs geometry s
runs_from geometry luns units s at = record {
  within = at.within;
  count = at.count;
  one_newest = at.sound.one_newest;
  room = at.sound.room;
  victim_held = at.victim;
  buffer_fresh = fresh-buffer geometry s.chip s.victim s.buffer at.buffer;
}

-- the law
pub collection_ends : (geometry : Geometry) (luns units : ℕ) (s : CollectState) → IsCollectable geometry luns units s → (n : ℕ) → n + 1 ≡ 2 * geometry.pages * (geometry.blocks * geometry.pages)
    → (collect_step geometry (collected geometry n s)).did ≡ Idle
collection_ends geometry luns units s at n steps =
    let runs : Runs geometry s = runs_from geometry luns units s at in
    ends_idle geometry n s runs (omega (arith, steps, left-most geometry s runs))
