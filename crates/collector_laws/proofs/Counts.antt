-- How many pages are kept (erased or current), erased, and current in a block, after a program and after an erase.
use Rattle.std.proofs.Common.{◌≡◌, ◌≢◌, ◌+◌, ◌-◌, ◌*◌, ◌<◌, ◌≤◌, ◌⊎◌, ℕ, List, [], ◌∷◌, ◌++◌, zero, suc, Bool, true}
use Rattle.std.proofs.Common.{false, cond, ◌||◌, nat_eq, length, get_or, set, map, take, drop, replicate, count_by}
use Rattle.std.proofs.Common.{None, Some, refl, sym, ap, ◌∙◌, subst, inl, inr, zero-add, arith}
use Rattle.std.proofs.lemmas.List.{length-map, length-set, get_or-set_same, get_or-set_other, get_or-map, ext_get_or}
use Rattle.std.proofs.lemmas.List.{take-map, drop-map, take-append-drop, drop-drop, length-append, length-take-le}
use Rattle.std.proofs.lemmas.List.{length-replicate, get_or-take, get_or-drop, get_or_append_left, get_or-append_right}
use Rattle.std.proofs.lemmas.List.{get_or-replicate}
use Rattle.std.proofs.lemmas.List.Folds.{fold-map, sum_by-replicate}
use Rattle.std.proofs.lemmas.List.Sums.{sum_by-append, sum_by-set, sum_by-le-sum_by, count_by-le-length}
use Rattle.std.proofs.lemmas.Bool.{cases_eq, cases_lt}
use Rattle.flash_pages.specs.declared.chip.Spare.{Spare}
use Rattle.flash_pages.specs.Chip.{Page, Erased, Written, page_at, is_erased, erased_between}
use Rattle.flash_pages.specs.Place.{Place}
use Rattle.flash_pages.specs.Unit.{place_of, rank_for, newest_rank, current, next_seq}
use Rattle.flash_pages.specs.Sound.{is_current, IsNewest}
use Rattle.flash_pages.proofs.Greatest.{get_or-le-greatest, greatest-le}
use Rattle.flash_pages.proofs.Programming.{rank-at}
use Rattle.page_validity.specs.ValidPages.{block_part}
use Rattle.page_validity.proofs.BlockParts.{block_part-set_other, count_by-block_part-set}
use Rattle.block_collector.proofs.Totals.{total, take-add}
use Rattle.collector_laws.specs.Changes.{is_kept, kept_count}
use Rattle.collector_laws.specs.CollectStep.{is_current_at}
use Rattle.collector_laws.proofs.Flags.{current-newest, current-none, flag-new, flag-old, flag-was, flag-others, old-apart, page-same, page-new}

-- counting a list of flags
pub count_by-flags : {A : Type 0} → (p : A → Bool) (xs : List A) → count_by (λ flag. flag) (map p xs) ≡ count_by p xs
count_by-flags p xs = fold-map (λ n flag. n + cond flag 1 0) p 0 xs

pub count_by-same : {A : Type 0} → (p q : A → Bool) (xs : List A) → ((x : A) → p x ≡ q x) → count_by p xs ≡ count_by q xs
count_by-same p q xs same =
    omega (
      arith,
      sum_by-le-sum_by (λ x. cond (p x) 1 0) (λ x. cond (q x) 1 0) xs (λ x. rw (same x) (omega arith)),
      sum_by-le-sum_by (λ x. cond (q x) 1 0) (λ x. cond (p x) 1 0) xs (λ x. rw (same x) (omega arith)),
    )

pub part-flags : {A : Type 0} → (p : A → Bool) (pages : ℕ) (xs : List A) (block : ℕ) → count_by (λ flag. flag) (block_part pages (map p xs) block) ≡ count_by p (block_part pages xs block)
part-flags p pages xs block =
    ap (λ l. count_by (λ flag. flag) (take pages l)) (drop-map p (block * pages) xs)
    ∙ ap (count_by (λ flag. flag)) (take-map p pages (drop (block * pages) xs))
    ∙ count_by-flags p (block_part pages xs block)

-- a list, split before and behind some elements
pub count_by-split : {A : Type 0} → (p : A → Bool) (xs : List A) (first len : ℕ)
    → count_by p xs ≡ count_by p (take first xs) + count_by p (take len (drop first xs)) + count_by p (drop (first + len) xs)
count_by-split {A = A} p xs first len =
    let one : A → ℕ = λ x. cond (p x) 1 0 in
    let rest : drop len (drop first xs) ≡ drop (first + len) xs = drop-drop len first xs in
    let back : count_by p (drop first xs) ≡ count_by p (take len (drop first xs)) + count_by p (drop (first + len) xs) =
    ap (count_by p) (sym (take-append-drop len (drop first xs))) ∙ sum_by-append one (take len (drop first xs)) (drop len (drop first xs))
    ∙ ap (λ l. count_by p (take len (drop first xs)) + count_by p l) rest in
    ap (count_by p) (sym (take-append-drop first xs)) ∙ sum_by-append one (take first xs) (drop first xs) ∙ omega (arith, back)

length-split : {A : Type 0} → (xs : List A) (first len : ℕ) → length xs ≡ length (take first xs) + length (take len (drop first xs)) + length (drop (first + len) xs)
length-split xs first len =
    let rest : drop len (drop first xs) ≡ drop (first + len) xs = drop-drop len first xs in
    let back : length (drop first xs) ≡ length (take len (drop first xs)) + length (drop (first + len) xs) =
    ap length (sym (take-append-drop len (drop first xs))) ∙ length-append (take len (drop first xs)) (drop len (drop first xs)) ∙ ap (λ l. length (take len (drop first xs)) + length l) rest in
    ap length (sym (take-append-drop first xs)) ∙ length-append (take first xs) (drop first xs) ∙ omega (arith, back)

-- what isn't counted in a part isn't counted in the whole
pub count_by-part : {A : Type 0} → (p : A → Bool) (xs : List A) (first len : ℕ) → count_by p xs + length (take len (drop first xs)) ≤ length xs + count_by p (take len (drop first xs))
count_by-part p xs first len =
    omega (arith, count_by-split p xs first len, length-split xs first len, count_by-le-length p (take first xs), count_by-le-length p (drop (first + len) xs))

-- a count of the blocks
pub count_by-total : {A : Type 0} → (p : A → Bool) (pages : ℕ) (xs : List A) (n : ℕ) → total (λ block. count_by p (block_part pages xs block)) n ≡ count_by p (take (n * pages) xs)
count_by-total p pages xs zero = let none : 0 ≡ 0 * pages = omega arith in ap (λ k. count_by p (take k xs)) none
count_by-total p pages xs (suc n) =
    let place : suc n * pages ≡ n * pages + pages = omega arith in
    sym (ap (λ k. count_by p (take k xs)) place
    ∙ ap (count_by p) (take-add (n * pages) pages xs)
    ∙ sum_by-append (λ x. cond (p x) 1 0) (take (n * pages) xs) (take pages (drop (n * pages) xs))
    ∙ ap (λ k. k + count_by p (block_part pages xs n)) (sym (count_by-total p pages xs n)))

abbrev pub flag_count : Bool → ℕ
flag_count flag = cond flag 1 0

pub count_by-cons : {A : Type 0} → (p : A → Bool) (x : A) (xs : List A) → count_by p (x ∷ xs) ≡ cond (p x) 1 0 + count_by p xs
count_by-cons p x xs = sum_by-append (λ y. cond (p y) 1 0) (x ∷ []) xs ∙ ap (λ n. n + count_by p xs) (zero-add (cond (p x) 1 0))

-- no element passes
pub count_by-none : {A : Type 0} → (p : A → Bool) (d : A) (xs : List A) → ((i : ℕ) → i < length xs → p (get_or xs i d) ≡ false) → count_by p xs ≡ 0
count_by-none p d [] each = refl
count_by-none p d (x ∷ xs) each =
    let first : cond (p x) 1 0 ≤ 0 = rw (each 0 (omega arith)) (omega arith) in
    sum_by-append (λ y. cond (p y) 1 0) (x ∷ []) xs ∙ omega (arith, first, count_by-none p d xs (λ i below. each (suc i) (omega arith)))

-- each element passes
pub count_by-all : {A : Type 0} → (p : A → Bool) (d : A) (xs : List A) → ((i : ℕ) → i < length xs → p (get_or xs i d) ≡ true) → count_by p xs ≡ length xs
count_by-all p d [] each = refl
count_by-all p d (x ∷ xs) each =
    let first : flag_count (p x) ≡ 1 = ap flag_count (each 0 (omega arith)) in
    count_by-cons p x xs ∙ omega (arith, first, count_by-all p d xs (λ i below. each (suc i) (omega arith)))

-- what passes one test passes the other
pub count_by-weaker : {A : Type 0} → (p q : A → Bool) (d : A) (xs : List A) → ((i : ℕ) → i < length xs → p (get_or xs i d) ≡ true → q (get_or xs i d) ≡ true) → count_by p xs ≤ count_by q xs
count_by-weaker p q d [] each = omega arith
count_by-weaker p q d (x ∷ xs) each =
    omega (arith, count_by-cons p x xs, count_by-cons q x xs, first (p x) (q x) (each 0 (omega arith)), count_by-weaker p q d xs (λ i below. each (suc i) (omega arith)))
  where
    first : (a b : Bool) → (a ≡ true → b ≡ true) → flag_count a ≤ flag_count b
    first true b follows = rw (follows refl) (omega arith)
    first false b follows = omega arith

-- one that passes is counted
pub count_by-some : {A : Type 0} → (p : A → Bool) (d : A) (xs : List A) (i : ℕ) → i < length xs → p (get_or xs i d) ≡ true → 0 < count_by p xs
count_by-some p d [] i inside passes = absurd (omega arith)
count_by-some p d (x ∷ xs) zero inside passes =
    let first : 1 ≤ cond (p x) 1 0 = rw passes (omega arith) in
    omega (arith, sum_by-append (λ y. cond (p y) 1 0) (x ∷ []) xs, first)
count_by-some p d (x ∷ xs) (suc i) inside passes =
    omega (arith, sum_by-append (λ y. cond (p y) 1 0) (x ∷ []) xs, count_by-some p d xs i (omega arith) passes)

-- a program of an erased page, of an LBA that has a current page
module _ (chip : List Page) (page : ℕ) (bytes : List ℕ) (spare : Spare) (inside : page < length chip) (erased : page_at chip page ≡ Erased) (next : spare.seq ≡ next_seq chip) (old : ℕ)
    (one : (site : Place) (m n : ℕ) → IsNewest chip site m → IsNewest chip site n → m ≡ n) (is_old : current chip (place_of spare) ≡ Some old) (old_inside : old < length chip) where
  abbrev after : List Page
  after = set chip page (Written bytes spare)

  apart : old ≢ page
  apart = old-apart chip page bytes spare inside erased next old one is_old

  flag_at : (q : Page → Bool) (pages : List Page) (i : ℕ) → i < length pages → get_or (map q pages) i false ≡ q (page_at pages i)
  flag_at q pages i below = get_or-map q pages i Erased false below

  size : length after ≡ length chip
  size = length-set chip page (Written bytes spare)

  current-flags : map (is_current after) after ≡ set (set (map (is_current chip) chip) old false) page true
  current-flags =
      ext_get_or false (map (is_current after) after) (set (set (map (is_current chip) chip) old false) page true)
      (length-map after (is_current after) ∙ size
      ∙ sym (length-set (set (map (is_current chip) chip) old false) page true ∙ length-set (map (is_current chip) chip) old false ∙ length-map chip (is_current chip)))
      (λ i below.
      let here : i < length after = subst (λ n. i < n) (length-map after (is_current after)) below in
      let there : i < length chip = omega (arith, here, size) in
      let flags : List Bool = map (is_current chip) chip in
      let long : length flags ≡ length chip = length-map chip (is_current chip) in
      flag_at (is_current after) after i here
      ∙ elim (cases_eq i page) [
        | inl same ↦
            ap (is_current_at after) same ∙ flag-new chip page bytes spare inside erased next
            ∙ sym (ap (λ k. get_or (set (set flags old false) page true) k false) same
            ∙ get_or-set_same (set flags old false) page true false (omega (arith, length-set flags old false, long)))
        | inr not_page ↦ elim (cases_eq i old) [
          | inl same ↦
              ap (is_current_at after) same ∙ flag-old chip page bytes spare inside erased next old one is_old
              ∙ sym (get_or-set_other (set flags old false) page i true false not_page
              ∙ ap (λ k. get_or (set flags old false) k false) same
              ∙ get_or-set_same flags old false false (omega (arith, long)))
          | inr not_old ↦
              flag-others chip page bytes spare inside erased next old one is_old i not_page not_old
              ∙ sym (get_or-set_other (set flags old false) page i true false not_page
              ∙ get_or-set_other flags old i false false not_old
              ∙ flag_at (is_current chip) chip i there)
        ]
      ])

  kept-flags : map (is_kept after) after ≡ set (map (is_kept chip) chip) old false
  kept-flags =
      ext_get_or false (map (is_kept after) after) (set (map (is_kept chip) chip) old false)
      (length-map after (is_kept after) ∙ size ∙ sym (length-set (map (is_kept chip) chip) old false ∙ length-map chip (is_kept chip)))
      (λ i below.
      let here : i < length after = subst (λ n. i < n) (length-map after (is_kept after)) below in
      let there : i < length chip = omega (arith, here, size) in
      let flags : List Bool = map (is_kept chip) chip in
      let long : length flags ≡ length chip = length-map chip (is_kept chip) in
      flag_at (is_kept after) after i here
      ∙ elim (cases_eq i page) [
        | inl same ↦
            ap (λ k. is_kept after (page_at after k)) same
            ∙ ap (λ p. is_erased p || is_current after p) (page-new chip page bytes spare inside erased next)
            ∙ ap (λ t. false || t) (sym (ap (is_current after) (page-new chip page bytes spare inside erased next)) ∙ flag-new chip page bytes spare inside erased next)
            ∙ sym (ap (λ k. get_or (set flags old false) k false) same
            ∙ get_or-set_other flags old page false false (λ e. apart (sym e))
            ∙ flag_at (is_kept chip) chip page inside
            ∙ ap (is_kept chip) erased)
        | inr not_page ↦ elim (cases_eq i old) [
          | inl same ↦
              ap (λ k. is_kept after (page_at after k)) same
              ∙ ap (λ t. is_erased (page_at after old) || t) (flag-old chip page bytes spare inside erased next old one is_old)
              ∙ ap (λ p. is_erased p || false) (page-same chip page bytes spare inside erased next old apart)
              ∙ ap (λ t. t || false) (not_erased (page_at chip old) (flag-was chip page bytes spare inside erased next old one is_old))
              ∙ sym (ap (λ k. get_or (set flags old false) k false) same ∙ get_or-set_same flags old false false (omega (arith, long)))
          | inr not_old ↦
              ap (λ t. is_erased (page_at after i) || t) (flag-others chip page bytes spare inside erased next old one is_old i not_page not_old)
              ∙ ap (λ p. is_erased p || is_current_at chip i) (page-same chip page bytes spare inside erased next i not_page)
              ∙ sym (get_or-set_other flags old i false false not_old ∙ flag_at (is_kept chip) chip i there)
        ]
      ])
    where
      not_erased : (p : Page) → is_current chip p ≡ true → is_erased p ≡ false
      not_erased Erased flag = cc
      not_erased (Written b s) flag = refl

  -- one page less is kept
  pub kept_count-programmed : kept_count after + 1 ≡ kept_count chip
  kept_count-programmed =
      let flags : List Bool = map (is_kept chip) chip in
      let was : get_or flags old false ≡ true = flag_at (is_kept chip) chip old old_inside
      ∙ or_true (is_erased (page_at chip old)) (is_current_at chip old) (flag-was chip page bytes spare inside erased next old one is_old) in
      let one_flag : flag_count (get_or flags old false) ≡ 1 = ap flag_count was in
      let changed : count_by (λ flag. flag) (set flags old false) + flag_count (get_or flags old false) ≡ count_by (λ flag. flag) flags + 0 =
      sum_by-set flag_count flags old false false (rw length-map old_inside) in
      omega (arith, changed, one_flag, count_by-flags (is_kept chip) chip, count_by-flags (is_kept after) after, ap (count_by (λ flag. flag)) kept-flags)
    where
      or_true : (a b : Bool) → b ≡ true → (a || b) ≡ true
      or_true true b e = refl
      or_true false b e = e

  -- one page less of its block is current
  pub current_count-programmed : (pages block : ℕ) → block * pages ≤ old → old < block * pages + pages → block * pages + pages ≤ length chip → (page < block * pages) ⊎ (block * pages + pages ≤ page)
      → count_by (is_current after) (block_part pages after block) + 1 ≡ count_by (is_current chip) (block_part pages chip block)
  current_count-programmed pages block above below whole outside =
      let flags : List Bool = map (is_current chip) chip in
      let was : get_or flags old false ≡ true = flag_at (is_current chip) chip old old_inside ∙ flag-was chip page bytes spare inside erased next old one is_old in
      let one_flag : flag_count (get_or flags old false) ≡ 1 = ap flag_count was in
      let changed : count_by (λ flag. flag) (block_part pages (set flags old false) block) + flag_count (get_or flags old false) ≡ count_by (λ flag. flag) (block_part pages flags block) + 0 =
      count_by-block_part-set (λ flag. flag) pages flags block old false false above below (rw length-map whole) in
      let same : count_by (λ flag. flag) (block_part pages (map (is_current after) after) block) ≡ count_by (λ flag. flag) (block_part pages (set flags old false) block) =
      ap (λ l. count_by (λ flag. flag) (block_part pages l block)) current-flags ∙ ap (count_by (λ flag. flag)) (block_part-set_other pages (set flags old false) block page true outside) in
      omega (arith, changed, one_flag, same, part-flags (is_current chip) pages chip block, part-flags (is_current after) pages after block)

-- an erase of pages of which none is current
module _ (chip : List Page) (first len : ℕ) (inside : first + len ≤ length chip) where
  abbrev gone : List Page
  gone = erased_between chip first (first + len)

  front_size : length (take first chip) ≡ first
  front_size = length-take-le first chip (omega arith)

  middle_size : length (take first chip ++ replicate (first + len - first) Erased) ≡ first + len
  middle_size = length-append (take first chip) (replicate (first + len - first) Erased) ∙ omega (arith, front_size, length-replicate (first + len - first) Erased)

  -- a page is erased or it stays, and outside it stays
  pub record IsAfter (page : ℕ) : Type 0 where
    pub either : (page_at gone page ≡ Erased) ⊎ (page_at gone page ≡ page_at chip page)
    pub stays : (page < first) ⊎ (first + len ≤ page) → page_at gone page ≡ page_at chip page
    pub within : first ≤ page → page < first + len → page_at gone page ≡ Erased

  pub after_erase : (page : ℕ) → IsAfter page
  after_erase page =
      elim (cases_lt page first) [
        | inl below ↦
            let same : page_at gone page ≡ page_at chip page =
            get_or_append_left (take first chip ++ replicate (first + len - first) Erased) (drop (first + len) chip) Erased page (omega (arith, middle_size))
            ∙ get_or_append_left (take first chip) (replicate (first + len - first) Erased) Erased page (omega (arith, front_size))
            ∙ get_or-take first chip page Erased below in
            record { either = inr same; stays = λ _. same; within = λ from_first to_end. absurd (omega arith) }
        | inr above ↦ elim (cases_lt page (first + len)) [
          | inl within ↦
              let none : page_at gone page ≡ Erased =
              get_or_append_left (take first chip ++ replicate (first + len - first) Erased) (drop (first + len) chip) Erased page (omega (arith, middle_size))
              ∙ get_or-append_right (take first chip) (replicate (first + len - first) Erased) first page Erased front_size above
              ∙ get_or-replicate (first + len - first) (page - first) Erased Erased (omega arith) in
              record { either = inl none; stays = λ outside. elim outside [ inl before ↦ absurd (omega arith) | inr behind ↦ absurd (omega arith) ]; within = λ _ _. none }
          | inr past ↦
              let same : page_at gone page ≡ page_at chip page =
              get_or-append_right (take first chip ++ replicate (first + len - first) Erased) (drop (first + len) chip) (first + len) page Erased middle_size past
              ∙ get_or-drop (first + len) chip (page - (first + len)) Erased
              ∙ ap (page_at chip) (omega arith) in
              record { either = inr same; stays = λ _. same; within = λ from_first to_end. absurd (omega arith) }
        ]
      ]

  -- a count that counts erased pages rises by all that are erased
  count_by-erased : (p : Page → Bool) → p Erased ≡ true → count_by p (take len (drop first chip)) ≡ 0 → count_by p gone ≡ count_by p chip + len
  count_by-erased p counts none =
      let one : Page → ℕ = λ page. cond (p page) 1 0 in
      let is_one : one Erased ≡ 1 = ap (λ t. cond t 1 0) counts in
      let a : count_by p gone ≡ count_by p (take first chip ++ replicate (first + len - first) Erased) + count_by p (drop (first + len) chip) =
      sum_by-append one (take first chip ++ replicate (first + len - first) Erased) (drop (first + len) chip) in
      let b : count_by p (take first chip ++ replicate (first + len - first) Erased) ≡ count_by p (take first chip) + count_by p (replicate (first + len - first) Erased) =
      sum_by-append one (take first chip) (replicate (first + len - first) Erased) in
      let c : count_by p (replicate (first + len - first) Erased) ≡ (first + len - first) * one Erased = sum_by-replicate one (first + len - first) Erased in
      let d : (first + len - first) * one Erased ≡ len = ap (λ k. (first + len - first) * k) is_one ∙ omega arith in
      omega (arith, a, b, c, d, count_by-split p chip first len, none)

  module _ (none_current : (site : Place) (page : ℕ) → first ≤ page → page < first + len → current chip site ≢ Some page) where
    rank-le : (site : Place) (page : ℕ) → rank_for site (page_at gone page) ≤ rank_for site (page_at chip page)
    rank-le site page =
        elim (after_erase page).either [
          | inl none ↦ let zero_rank : rank_for site (page_at gone page) ≡ 0 = ap (rank_for site) none in omega (arith, zero_rank)
          | inr same ↦ let e : rank_for site (page_at gone page) ≡ rank_for site (page_at chip page) = ap (rank_for site) same in omega (arith, e)
        ]

    pub newest_rank-erased : (site : Place) → newest_rank gone site ≡ newest_rank chip site
    newest_rank-erased site =
        let most : newest_rank gone site ≤ newest_rank chip site = greatest-le (map (rank_for site) gone) (newest_rank chip site)
        (λ i. omega (arith, rank-at site gone i, rank-le site i, rank-at site chip i, get_or-le-greatest (map (rank_for site) chip) i)) in
        elim (current chip site)
        as (λ o. (current chip site ≡ o) → newest_rank gone site ≡ newest_rank chip site) [
          | None ↦ λ none. omega (arith, most, current-none chip site none)
          | Some page ↦ λ is.
              let outside : (page < first) ⊎ (first + len ≤ page) = elim (cases_lt page first) [
                | inl before ↦ inl before
                | inr above ↦ elim (cases_lt page (first + len)) [
                  | inl within ↦ absurd (none_current site page above within is)
                  | inr past ↦ inr past
                ]
              ] in
              let e : rank_for site (page_at gone page) ≡ rank_for site (page_at chip page) = ap (rank_for site) ((after_erase page).stays outside) in
              omega (arith, most, e, (current-newest chip site page is).1, rank-at site gone page, get_or-le-greatest (map (rank_for site) gone) page)
        ] refl

    pub one_newest-erased : ((site : Place) (m n : ℕ) → IsNewest chip site m → IsNewest chip site n → m ≡ n) → (site : Place) (m n : ℕ) → IsNewest gone site m → IsNewest gone site n → m ≡ n
    one_newest-erased one site m n at_m at_n = one site m n (was m at_m) (was n at_n)
      where
        was : (m : ℕ) → IsNewest gone site m → IsNewest chip site m
        was m at_m =
            elim (after_erase m).either [
              | inl none ↦ let zero_rank : rank_for site (page_at gone m) ≡ 0 = ap (rank_for site) none in absurd (omega (arith, zero_rank, at_m.0, at_m.1))
              | inr same ↦
                  let e : rank_for site (page_at gone m) ≡ rank_for site (page_at chip m) = ap (rank_for site) same in
                  (rw (← newest_rank-erased site) at_m.0, sym e ∙ at_m.1 ∙ newest_rank-erased site)
            ]

    is_current-erased : (p : Page) → is_current gone p ≡ is_current chip p
    is_current-erased Erased = refl
    is_current-erased (Written b s) = ap (nat_eq (s.seq + 1)) (newest_rank-erased (place_of s))

    pub kept_count-erased : count_by (is_kept chip) (take len (drop first chip)) ≡ 0 → kept_count gone ≡ kept_count chip + len
    kept_count-erased none =
        count_by-same (is_kept gone) (is_kept chip) gone (λ p. ap (λ t. is_erased p || t) (is_current-erased p))
        ∙ count_by-erased (is_kept chip) refl none

  pub erased_count-erased : count_by is_erased (take len (drop first chip)) ≡ 0 → count_by is_erased gone ≡ count_by is_erased chip + len
  erased_count-erased none = count_by-erased is_erased refl none
